use native.Mathlib.Omega.{arith}
use Rattle.listing_bytes.proofs.Writing.{after, kept}
use mathlib.Core.List.{List}
use Rattle.grammar.specs.Forms.{Form}
use Rattle.asbestos.specs.Desk.{each}
use Prim.Native.Nat.{ℕ}
use mathlib.Core.Path.{◌≡◌}
use Rattle.asbestos_forms.specs.Forms.{entry_forms}
use Rattle.asbestos_forms.proofs.Printed.{printed-append}
use Rattle.asbestos_writer.proofs.Bytes.{row-short, written-each}
use Rattle.asbestos_writer.proofs.put_row.Goals as goal

pub put_entry-next-requires : goal.put_entry-next-requires
put_entry-next-requires c =
    let l = c.loop-b in
    (c.requires.1, omega (arith, c.requires), omega (arith, c.requires, l.invariant.next, kept l.invariant, row-short c.args.a c.requires.1 l.b (omega (arith, c.requires))))

pub loop-b-preserved : goal.loop-b-preserved
loop-b-preserved c =
    let l = c.loop-b in
    written-each l.b (λ (b : ℕ). entry_forms c.args.a b) l.invariant c.put_entry-next.ensures

pub returns-2 : goal.returns-2
returns-2 c =
    let l = c.loop-b in
    let e : l.b ≡ c.args.port = omega arith in
    let f : ℕ → List Form = entry_forms c.args.a in
    rw (← e, printed-append (each l.b f) (f l.b)) (after l.invariant c.put_entry-next.ensures)
