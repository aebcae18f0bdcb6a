-- THE CONTRACT LEAVES NO FREEDOM: two games told of one text and the same lines over the same work area are the same.
use mathlib.Core.Path.{◌≡◌, sym, ◌∙◌}
use mathlib.Core.Bool.{false}
use mathlib.Core.List.{List}
use Prim.Native.Nat.{ℕ}
use lib.Dec.{ltb}
use lib.ListN.{length}
use Rattle.std.specs.Prelude.{Result}
use Rattle.rows.specs.declared.Refusal.{Refusal}
use Rattle.rows.proofs.Laws.{refuses_one}
use Rattle.limits.specs.Limits as limit
use Rattle.grammar.specs.Texts.{Outcome, accepted, refused}
use Rattle.calls.specs.Calls.{called}
use Rattle.game_answer.specs.declared.Game.{Game}
use Rattle.game_answer.proofs.Settled as answer
use Rattle.game_answer.proofs.Settled.{Long}
use Rattle.game.specs.Playing.{Leaves, Plays}

module _ (A B work : List ℕ) (g h : Result Game Refusal) (w w' : List ℕ) (p : Long g) (q : Long h) where
  left-settled : (o : Outcome) → Leaves o A B work g w → Leaves o A B work h w' → (g ≡ h) × (w ≡ w')
  left-settled (refused n l) x y = (refuses_one n l g h x.0 y.0, x.1 ∙ sym y.1)
  left-settled (accepted D P Q) x y = answer.settled P Q A B work g h w w' p q x y

  pub settled : (text : List ℕ) → Plays text A B work g w → Plays text A B work h w' → (g ≡ h) × (w ≡ w')
  settled text = left-settled (called text (ltb (length work) limit.work) false)
