-- PROCESSES AS STATES: what the labels of a process say, and what a line does with them, by computed tests over all levels.
use mathlib.Core.Path.{◌≡◌, refl, sym}
use mathlib.Core.Bool.{Bool, true, false, cond, not, ◌&&◌, and-eq-true_iff}
use mathlib.Core.List.{[], ◌∷◌}
use Prim.Native.Nat.{ℕ, ◌<◌}
use native.Mathlib.Omega.{arith}
use borrow.Author.Tests.{eqb-true, ltb-true}
use lib.Dec.{eqb, leb, ltb}
use Rattle.semantics.specs.Labels.{has, union, difference, relabel, set_of}
use Rattle.semantics.proofs.Tools.{below, below-use}
use Rattle.asbestos.specs.Messages.{levels, Process, Proper, raised, resulting_level, received}
use Rattle.asbestos.specs.Desk.{send_relation, receive_relation, mark_relation, code, left}

-- THE TABLE'S RULE, one test for the 25 entries
abbrev entry-right : ℕ → ℕ → Bool
entry-right a b = eqb (resulting_level a b) (raised a b) && ltb (resulting_level a b) levels

table-right : below levels (λ (a : ℕ). below levels (λ (b : ℕ). entry-right a b)) ≡ true
unfolding resulting_level
table-right = refl

-- TESTS of a send level s, a receive level r, a further level b and a mark m
abbrev pub tried : (ℕ → ℕ → ℕ → Bool → Bool) → Bool
tried f = below levels (λ (s : ℕ). below levels (λ (r : ℕ). below levels (λ (b : ℕ). f s r b true && f s r b false)))

pub tried-use : (f : ℕ → ℕ → ℕ → Bool → Bool) → tried f ≡ true → (s r b : ℕ) → s < levels → r < levels → b < levels → (m : Bool) → f s r b m ≡ true
tried-use f e s r b hs hr hb true =
    ((and-eq-true_iff (f s r b true) (f s r b false)).0 (below-use levels (λ (b : ℕ). f s r b true && f s r b false)
    (below-use levels (λ (r : ℕ). below levels (λ (b : ℕ). f s r b true && f s r b false)) (below-use levels (λ (s : ℕ). below levels (λ (r : ℕ). below levels (λ (b : ℕ). f s r b true && f s r b false))) e s hs) r hr) b hb)).0
tried-use f e s r b hs hr hb false =
    ((and-eq-true_iff (f s r b true) (f s r b false)).0 (below-use levels (λ (b : ℕ). f s r b true && f s r b false)
    (below-use levels (λ (r : ℕ). below levels (λ (b : ℕ). f s r b true && f s r b false)) (below-use levels (λ (s : ℕ). below levels (λ (r : ℕ). below levels (λ (b : ℕ). f s r b true && f s r b false))) e s hs) r hr) b hb)).1

abbrev alike : Bool → Bool → Bool
alike true b = b
alike false b = not b

alike-use : (a b : Bool) → alike a b ≡ true → a ≡ b
alike-use true true e = refl
alike-use true false e = sym e
alike-use false true e = e
alike-use false false e = refl

abbrev pub proc : ℕ → ℕ → Bool → Process
proc s r m = record { send = s; receive = r; mark = m }

abbrev send-right : ℕ → ℕ → ℕ → Bool → Bool
send-right s r b m = alike (has (code (proc s r m)) (send_relation b)) (eqb b s)

abbrev receive-right : ℕ → ℕ → ℕ → Bool → Bool
receive-right s r b m = alike (has (code (proc s r m)) (receive_relation b)) (leb b r)

abbrev mark-right : ℕ → ℕ → ℕ → Bool → Bool
mark-right s r b m = alike (has (code (proc s r m)) mark_relation) m

abbrev marking-right : ℕ → ℕ → ℕ → Bool → Bool
marking-right s r b m = eqb (relabel (code (proc s r m)) (set_of (mark_relation ∷ send_relation (resulting_level s b) ∷ [])) (set_of (left s (resulting_level s b)))) (code (received (proc b 0 true) (proc s r m)))

abbrev raising-right : ℕ → ℕ → ℕ → Bool → Bool
raising-right s r b m = cond (eqb (resulting_level s b) s) true (eqb (relabel (code (proc s r m)) (set_of (send_relation (resulting_level s b) ∷ [])) (set_of (send_relation s ∷ []))) (code (received (proc b 0 false) (proc s r m))))

send-tried : tried send-right ≡ true
unfolding has code set_of union
send-tried = refl

receive-tried : tried receive-right ≡ true
unfolding has code set_of union
receive-tried = refl

mark-tried : tried mark-right ≡ true
unfolding has code set_of union
mark-tried = refl

marking-tried : tried marking-right ≡ true
unfolding code set_of union difference relabel resulting_level
marking-tried = refl

raising-tried : tried raising-right ≡ true
unfolding code set_of union difference relabel resulting_level
raising-tried = refl

-- THE TABLE
pub resulting_level-right : (a b : ℕ) → a < levels → b < levels → (resulting_level a b ≡ raised a b) × (resulting_level a b < levels)
resulting_level-right a b ha hb = let e = (and-eq-true_iff (eqb (resulting_level a b) (raised a b)) (ltb (resulting_level a b) levels)).0 (below-use levels (λ (b : ℕ). entry-right a b) (below-use levels (λ (a : ℕ). below levels (λ (b : ℕ). entry-right a b)) table-right a ha) b hb) in
    (eqb-true (resulting_level a b) (raised a b) e.0, ltb-true (resulting_level a b) levels e.1)

-- LABELS
module _ (p : Process) (h : Proper p) where
  pub has-send : (a : ℕ) → a < levels → has (code p) (send_relation a) ≡ eqb a p.send
  has-send a l = alike-use (has (code p) (send_relation a)) (eqb a p.send) (tried-use send-right send-tried p.send p.receive a h.0 h.1 l p.mark)

  pub has-receive : (b : ℕ) → b < levels → has (code p) (receive_relation b) ≡ leb b p.receive
  has-receive b l = alike-use (has (code p) (receive_relation b)) (leb b p.receive) (tried-use receive-right receive-tried p.send p.receive b h.0 h.1 l p.mark)

  pub has-mark : has (code p) mark_relation ≡ p.mark
  has-mark = alike-use (has (code p) mark_relation) p.mark (tried-use mark-right mark-tried p.send p.receive 0 h.0 h.1 (omega arith) p.mark)

-- WHAT A LINE DOES is what a message does
module _ (p q : Process) (hp : Proper p) (hq : Proper q) where
  pub received-proper : Proper (received p q)
  received-proper = ((resulting_level-right q.send p.send hq.0 hp.0).1, hq.1)

  pub marking-receives : (a b : ℕ) → q.send ≡ a → p.send ≡ b → p.mark ≡ true → relabel (code q) (set_of (mark_relation ∷ send_relation (resulting_level a b) ∷ [])) (set_of (left a (resulting_level a b))) ≡ code (received p q)
  marking-receives a b ea eb m = rw (← ea, ← eb, m) (eqb-true _ _ (tried-use marking-right marking-tried q.send q.receive p.send hq.0 hq.1 hp.0 q.mark))

  pub raising-receives : (a b : ℕ) → q.send ≡ a → p.send ≡ b → p.mark ≡ false → eqb (resulting_level a b) a ≡ false → relabel (code q) (set_of (send_relation (resulting_level a b) ∷ [])) (set_of (send_relation a ∷ [])) ≡ code (received p q)
  raising-receives a b ea eb m = rw (← ea, ← eb, m) (λ d. eqb-true _ _ (rw d at (tried-use raising-right raising-tried q.send q.receive p.send hq.0 hq.1 hp.0 q.mark)))

  -- an unmarked message that raises nothing changes nothing
  pub nothing-received : p.mark ≡ false → eqb (resulting_level q.send p.send) q.send ≡ true → received p q ≡ q
  nothing-received m d = rw (m, eqb-true (resulting_level q.send p.send) q.send d)
