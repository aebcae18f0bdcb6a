use mathlib.Core.Path.{◌≡◌, refl}
use mathlib.Core.List.{List}
use Prim.Native.Nat.{ℕ}
use native.Mathlib.Omega.{arith}
use lib.Dec.{eqb}
use Rattle.std.specs.List.{position}
use Rattle.std.specs.Prelude.{Option, None, Some}
use Rattle.std.proofs.Common.{rules}
use Rattle.semantics.proofs.Tools.{seat-ok}
use Rattle.search_states.specs.States.{Sought}
use Rattle.search_states.proofs.Seats.{position-seat}
use Rattle.search_ways.proofs.Stepping.{led-one, led-none}
use Rattle.search_ways.proofs.lead_at.Goals as goal

-- where the relabeled state stands
place : (x : ℕ) (xs : List ℕ) (r : Option ℕ) → Sought xs x r → position (eqb x) xs ≡ r
place x xs None s = rw (position-seat x xs, s) refl
place x xs (Some t) s = rw (position-seat x xs, s.0, s.1) refl

pub overflow_add-e : goal.overflow_add-e
overflow_add-e c =
    let s = c.in-Some.ensures in
    omega (arith, c.requires.1, c.requires.2, s.1, (seat-ok c.relabel-led.result c.args.states.now s.0).0)

pub put-requires : goal.put-requires
put-requires c =
    let s = c.in-Some.ensures in
    omega (arith, c.requires.1, c.requires.2, s.1, (seat-ok c.relabel-led.result c.args.states.now s.0).0)

pub returns-in-Some : goal.returns-in-Some
returns-in-Some c =
    let a = c.args in
    let q = place c.relabel-led.result a.states.now (Some c.in-Some.t) c.in-Some.ensures in
    rw c.put.ensures (led-one a.states.now c.requires.0 c.requires.1 a.plus a.minus a.e c.requires.2 a.ways.now (search rules) c.in-Some.t (rw c.relabel-led.ensures at q))

pub returns-in_default : goal.returns-in_default
returns-in_default c =
    let a = c.args in
    let q = place c.relabel-led.result a.states.now None c.in_default.ensures in
    led-none a.states.now c.requires.0 c.requires.1 a.plus a.minus a.e c.requires.2 a.ways.now (search rules) (rw c.relabel-led.ensures at q)
