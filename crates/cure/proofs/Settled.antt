-- THE CONTRACT LEAVES NO FREEDOM: two calls over the same text, list and work area answer the same, and leave the same.
use mathlib.Core.Path.{◌≡◌, sym, ap, ◌∙◌}
use mathlib.Core.Logic.{inl, inr}
use mathlib.Core.List.{List}
use Prim.Native.Nat.{ℕ}
use Rattle.std.specs.Prelude as std
use Rattle.std.specs.Prelude.{Result, Ok, Err}
use Rattle.rows.specs.declared.Refusal.{Refusal}
use Rattle.rows.proofs.Laws.{refuses_one}
use Rattle.calls.specs.Crowding.{too_many}
use Rattle.strike_list.specs.declared.Lines.{Lines}
use Rattle.semantics.specs.Models.{Program, Question}
use Rattle.grammar.specs.Texts.{Outcome, accepted, refused}
use Rattle.striking.proofs.Choices.{cure-one}
use Rattle.strike_calls.specs.Calls.{asked}
use Rattle.cure.specs.Curing.{told, Answers, Leaves, Cures}

answers_one : (P : Program) (Q : Question) (L : List ℕ) (r r' : Result (std.Option Lines) Refusal) → Answers P Q L r → Answers P Q L r' → r ≡ r'
answers_one P Q L r r' (inl a) (inl b) = refuses_one too_many 0 r r' a.1 b.1
answers_one P Q L r r' (inl a) (inr b) = absurd (b.0 a.0)
answers_one P Q L r r' (inr a) (inl b) = absurd (a.0 b.0)
answers_one P Q L (Ok x) (Ok y) (inr a) (inr b) =
    let g = a.1 in
    let h = b.1 in
    ap Ok (g.2 ∙ ap told (cure-one P Q L g.0 h.0 g.1 h.1) ∙ sym h.2)
answers_one P Q L (Ok x) (Err y) (inr a) (inr b) = absurd b.1
answers_one P Q L (Err x) r' (inr a) (inr b) = absurd a.1

left-settled : (o : Outcome) (L work : List ℕ) (r r' : Result (std.Option Lines) Refusal) (w w' : List ℕ) → Leaves o L work r w → Leaves o L work r' w' → (r ≡ r') × (w ≡ w')
left-settled (refused n l) L work r r' w w' g h = (refuses_one n l r r' g.0 h.0, g.1 ∙ sym h.1)
left-settled (accepted D P Q) L work r r' w w' g h = (answers_one P Q L r r' g.0 h.0, g.1 ∙ sym h.1)

pub settled : (text list work : List ℕ) (r r' : Result (std.Option Lines) Refusal) (w w' : List ℕ) → Cures text list work r w → Cures text list work r' w' → (r ≡ r') × (w ≡ w')
settled text list work = left-settled (asked text list work) list work
