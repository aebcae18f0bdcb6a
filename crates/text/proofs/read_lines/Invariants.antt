use mathlib.Core.Path.{◌≡◌}
use mathlib.Core.List.{[]}
use Prim.Native.Nat.{◌-◌, ◌≤◌}
use lib.ListN.{length}
use Rattle.limits.specs.Limits as limit
use Rattle.grammar.specs.Bytes.{lines}
use Rattle.grammar.specs.Texts.{read_lines}
use Rattle.text.specs.Reached.{Reached, onwards}
use Rattle.text.proofs.read_lines.Given as goal

abbrev pub invariant-loop-at : goal.invariant-loop-at
invariant-loop-at l = (length l.text ≤ limit.text) × Reached l.text l.at l.line l.d l.m × (read_lines 1 [] [] (lines l.text) ≡ onwards l.text l.at l.line l.d l.m)

abbrev pub decreases-loop-at : goal.decreases-loop-at
decreases-loop-at l = length l.text - l.at
