use mathlib.Core.List.{List}
use Prim.Native.Nat.{◌+◌, ◌≤◌}
use Rattle.grammar.specs.Bytes.{Word}
use Rattle.text_scope.specs.Scopes as scopes
use Rattle.text_carried.specs.Asking.{Holds}
use Rattle.text_carried.proofs.Entering.{NumberedSo}
use Rattle.text_carried.proofs.number.Given as goal

abbrev pub invariant-loop-j : goal.invariant-loop-j
invariant-loop-j l = scopes.Valid l.text l.fn.s × (l.initial.t.count + l.fn.s.count ≤ 12) × ((ws : List Word) × Holds l.text l.initial.t ws) × NumberedSo l.text l.initial.t l.fn.s l.t l.numbers l.j
