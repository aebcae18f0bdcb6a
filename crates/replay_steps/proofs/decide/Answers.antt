use mathlib.Core.Path.{sym, subst}
use mathlib.Core.List.{List}
use Prim.Native.Nat.{ℕ}
use lib.ListN.{length, take}
use Rattle.model.specs.Literals.{body_of}
use Rattle.facts_find.specs.Bodies.{Placed, Decides, Good}
use Rattle.replay_session.proofs.Effects.{size}
use Rattle.replay_view.specs.Views.{row_of}
use Rattle.replay_view.proofs.Meaning.{placed}
use Rattle.replay_steps.proofs.Bodies.{decided}
use Rattle.replay_steps.proofs.decide.Goals as goal

pub returns : goal.returns
returns c =
    let a = c.args in
    let body = body_of a.body.now (length a.body.now) in
    λ m v t ready rests same.
    let db = take t.objects t.states in
    let d = c.find.ensures (row_of v) db ready.sees.known.states
    (subst (λ (l : List ℕ). Placed (row_of v) l db) same (placed db v t.objects (size m ready.accepted t ready.long ready.fits) ready.fits.objects ready.sees.views)) in
    decided m t v a.work.now ready body rests a.variables a.fixed c.find.result
    (subst (λ (l : List ℕ). Decides a.variables (Good a.work.now l db body a.variables a.fixed) c.find.result) (sym same) d)
