use mathlib.Core.Path.{◌≡◌}
use Prim.Native.Nat.{ℕ, ◌<◌}
use Rattle.witness_meetings.specs.Meetings.{first_variable, Opens}
use Rattle.witness_meetings.proofs.opening.Given as goal

abbrev pub invariant-loop-u : goal.invariant-loop-u
invariant-loop-u l = (v : ℕ) → v < l.u → (σ : ℕ → ℕ) × Opens l.m l.work l.s l.rows l.j l.first l.second σ × (σ (first_variable l.m) ≡ v) → ⊥
