use lib.ListN.{length}
use mathlib.Core.Path.{◌≡◌}
use mathlib.Core.Logic.{◌↔◌}
use mathlib.Core.Bool.{true}
use mathlib.Core.List.{List}
use Prim.Native.Nat.{ℕ, suc, ◌+◌, ◌*◌, ◌<◌}
use Rattle.limits.specs.Limits as limit
use Rattle.semantics.specs.Facts.{Database}
use Rattle.search_levels.specs.declared.Meeting.{Meeting}
use Rattle.search_levels.specs.Levels.{pair_at}
use Rattle.search_levels.specs.Passing.{Led, Met, Over, Written}
use Rattle.search_levels.proofs.pass.Given as goal

-- the stage holds with a pair to which level k leads
abbrev pub Paired : Database → List ℕ → List ℕ → List ℕ → Meeting → List ℕ → ℕ → ℕ → ℕ → Type 0
Paired S work body ways t rows k e f = Led ways t (pair_at rows k) e f × Met S work body t e f

abbrev pub invariant-loop-f : goal.invariant-loop-f
invariant-loop-f l = Written (limit.listed * suc l.k) (limit.listed * suc l.k + l.f) l.initial.rows l.rows × Over l.work (length l.slots) (λ S. (e g : ℕ) → e < limit.listed → g < l.f → (pair_at l.rows (suc l.k) e g ≡ true) ↔ Paired S l.work l.body l.ways l.t l.initial.rows l.k e g)
