-- PARTS OF A LINE, for the functions that write them. Nothing of what the call promises rests on them.
use Rattle.std.specs.Prelude.{◌≡◌, Bool, true, false, if◌then◌else◌, List, [], ◌∷◌, ◌++◌, ℕ, ◌+◌, ◌==◌}
use Rattle.grammar.specs.Bytes.{bytes}
use Rattle.asbestos.specs.Messages.{Process}
use Rattle.asbestos.specs.Desk.{each}
use Rattle.asbestos_writer.specs.declared.Kind.{Kind}

-- a kind as it is read of its cells
pub record Is (k : Kind) (p : Process) : Type 0 where
  pub send : k.send ≡ p.send
  pub receive : k.receive ≡ p.receive
  pub mark : k.mark ≡ p.mark

-- the bytes, and the digit of a level behind them
abbrev pub levelled : List ℕ → ℕ → List ℕ
levelled s n = s ++ (48 + n) ∷ []

-- the labels R0 and on, n of them
abbrev pub receiving : ℕ → List ℕ
receiving n = each n (λ (k : ℕ). levelled (bytes " R") k)

-- the end of a kind's line
abbrev pub marked : Bool → List ℕ
marked true = bytes " M))\n"
marked false = bytes "))\n"

-- the second list of a `next` line, up to its end
abbrev pub taken : ℕ → ℕ → List ℕ
taken a c = if c == a then bytes ") (" else levelled (bytes ") (S") a

-- the senders and receivers of a `next` line: the receiver's send level a and the sender's b
abbrev pub passed : ℕ → ℕ → List ℕ
passed a b = levelled (bytes ") (S") a ++ levelled (bytes " x) (R") b ++ levelled (bytes " x) (S") b

-- a `next` line where the receiver's send level becomes c, with its first and last bytes
abbrev pub changed : List ℕ → ℕ → ℕ → ℕ → List ℕ → List ℕ
changed first a b c last = levelled first c ++ taken a c ++ passed a b ++ last

-- the end of the question, with the receive level q
abbrev pub exactly : ℕ → List ℕ
exactly q = if q == 4 then bytes " x)))\n" else levelled (bytes " x) (not (R") (q + 1) ++ bytes " x))))\n"
