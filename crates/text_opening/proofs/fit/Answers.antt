use mathlib.Core.Path.{refl}
use borrow.Author.Rules.{rules}
use Rattle.text_names.specs.declared.Name.{Name}
use Rattle.text_opening.specs.Openings.{place_of}
use Rattle.text_opening.proofs.Laws.{made-row}
use Rattle.text_opening.proofs.fit.Goals as goal

pub returns : goal.returns
returns c =
    let codes = made-row c.args.d (λ (x : Name). x.code) _ _ (λ i r q m. search rules) c.from_fn.result c.from_fn.ensures.items (search rules) in
    let names = made-row c.args.d place_of _ _ (λ i r q m. search rules) c.from_fn-m.result c.from_fn-m.ensures.items (search rules) in
    rw (codes, names) refl
