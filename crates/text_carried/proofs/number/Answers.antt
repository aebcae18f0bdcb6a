use mathlib.Core.Path.{◌≡◌}
use mathlib.Core.List.{List}
use Prim.Native.Nat.{ℕ, ◌<◌}
use native.Mathlib.Omega.{arith}
use lib.ListN.{length, get_or, take}
use lib.Seq.{get_or-take, length-take-le}
use Rattle.text_scope.specs.Scopes as scopes
use Rattle.text_scope.specs.Scopes.{blank, variable_at}
use Rattle.text_scope.specs.declared.Scope.{Scope}
use Rattle.text_carried.proofs.Entering.{numbered_more, numbered-all}
use Rattle.text_carried.proofs.number.Goals as goal

-- the variables that count are as many as the scope says, and each is the scope's own
many : {text : List ℕ} {s : Scope 3} → scopes.Valid text s → length (take s.count s.variables) ≡ s.count
many {s = s} v = length-take-le s.count s.variables (omega (arith, v.count, v.variables))

own : (s : Scope 3) (j : ℕ) → j < s.count → get_or (take s.count s.variables) j blank ≡ variable_at s j
own s j h = get_or-take s.count s.variables j blank h

pub loop-j-preserved : goal.loop-j-preserved
loop-j-preserved c = let v = c.loop-j.invariant in let h : c.loop-j.j < c.args.s.count = omega (arith, many v.0) in (v.0, v.1, v.2, numbered_more v.3 v.0 h (rw (own c.args.s c.loop-j.j h) at c.meet.ensures))

pub returns : goal.returns
returns c = let v = c.loop-j.invariant in numbered-all v.3 (omega (arith, many v.0))
