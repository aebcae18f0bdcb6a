use mathlib.Core.Path.{◌≡◌, refl, sym, ap, ◌∙◌}
use Prim.Native.Nat.{ℕ, ◌^◌, ◌≤◌}
use native.Mathlib.Omega.{arith}
use lib.ListN.{length, take, length-replicate}
use lib.Seq.{length-take-le}
use Rattle.std.specs.Prelude.{Bool, Option, None}
use borrow.Author.Rules.{rules}
use Rattle.model.specs.Records.{program_of, question_of}
use Rattle.facts_heads.specs.Heads.{room}
use Rattle.striking.specs.Striking.{most}
use Rattle.strike_list.specs.Lists.{listed}
use Rattle.strike_table.proofs.Laws.{total-most, blank, begun, listed-count, filled}
use Rattle.strike_table.proofs.fill.Goals as goal
use Rattle.strike_table.proofs.fill.Goals.{After-choices_of-total}

-- the part of the table that is written
long : (count total : ℕ) → count ≤ most → total ≡ 2 ^ count → length (take total blank) ≡ total
long count total l e = length-take-le total blank (omega (arith, total-most count total l e, length-replicate {A = Option Bool} 1024 None))

-- as many choices as the record's lines give
all : (c : After-choices_of-total) → c.choices_of-total.result ≡ 2 ^ length (listed c.args.l)
all c = let e : length c.args.l.lines ≡ most = search rules in c.choices_of-total.ensures ∙ ap (λ (n : ℕ). 2 ^ n) (sym (listed-count c.args.l e c.requires.1))

pub slice_bounds-said-end : goal.slice_bounds-said-end
slice_bounds-said-end c = total-most c.args.l.count _ c.requires.1 c.choices_of-total.ensures

pub slice_bounds-choices-end : goal.slice_bounds-choices-end
slice_bounds-choices-end c = sym (long c.args.l.count _ c.requires.1 c.choices_of-total.ensures)

pub mark-requires : goal.mark-requires
mark-requires c = omega (arith, long c.args.l.count _ c.requires.1 c.choices_of-total.ensures, total-most c.args.l.count _ c.requires.1 c.choices_of-total.ensures)

pub complete-requires : goal.complete-requires
complete-requires c =
    let f = c.in_ok-whole.ensures in
    begun c.args.m c.args.l _ _ c.in_ok-whole.whole.reached c.requires.0 f.0.explored.few c.requires.1
    (rw c.choices_of-total.ensures at c.mark.ensures) f.0.verdict (omega (arith, f.1, length-replicate {A = ℕ} room 0))

pub returns : goal.returns
returns c =
    let w = all (goal.at.returns c).After-choices_of-total in
    filled (program_of c.args.m) (question_of c.args.m) (listed c.args.l) _ _ _ c.in_ok-whole.ensures.0.explored.few w refl (c.complete.auto.said ∙ c.mark.ensures.long ∙ long c.args.l.count _ c.requires.1 c.choices_of-total.ensures ∙ w) c.complete.ensures
