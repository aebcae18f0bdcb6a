use mathlib.Core.Path.{◌≡◌, refl, sym, ap, ◌∙◌}
use Rattle.std.specs.Prelude.{Some, None, Ok}
use Rattle.handin.specs.Handins.{reading}
use Rattle.marker.proofs.Said.{told-yes, told-no, told-unreadable}
use Rattle.marker.proofs.mark_model.Goals as goal

pub mark_yes-requires : goal.mark_yes-requires
mark_yes-requires c =
    let s = c.in-Ok-Some in
    let e : c.read-said.result ≡ Ok (Some s.yes) = s.is ∙ ap Ok (rw s.is at s.field-0-is) in
    (c.requires.0, c.requires.1, c.requires.2, c.requires.3, told-yes (reading c.args.handin.now) s.yes (sym c.read-said.ensures ∙ e))

pub returns-in-Ok-None : goal.returns-in-Ok-None
returns-in-Ok-None c =
    let s = c.in-Ok-None in
    let n = c.mark_no in
    let e : c.read-said.result ≡ Ok None = s.is ∙ ap Ok (rw s.is at s.field-0-is) in
    rw (told-no (reading c.args.handin.now) (sym c.read-said.ensures ∙ e)) (n.ensures.0, (n.ensures.1, refl, refl))

pub returns-in-Err : goal.returns-in-Err
returns-in-Err c = rw (told-unreadable (reading c.args.handin.now) c.in-Err.field-0 (sym c.read-said.ensures ∙ c.in-Err.is)) (refl, (refl, refl, refl))
