use lib.ListN.{drop}
use Rattle.grammar.specs.Shapes.{state_rest, rel_rest}
use Rattle.text_names.specs.Names.{declared_of}
use Rattle.rows.proofs.Options.{passed}
use Rattle.text_lines.proofs.Laws.{state-none, rel-none, line-state, line-rel, line-undeclared, line-declared, line-refused, line-stored, line-storable}
use Rattle.text_lines.proofs.read_line.Goals as goal

pub returns-in_err-d : goal.returns-in_err-d
returns-in_err-d c =
    let s = drop c.in-Some.end c.args.text.now in
    let p = passed c.in_err-d.was c.from_residual.ensures.1 in
    rw p.1 (line-undeclared (state_rest s) (state-none (declared_of c.args.text.now c.args.d.now) c.args.number s) (line-state (drop c.args.at c.args.text.now) c.in-Some.ensures.read) p.0 (rw p.2 at c.read_state.ensures))

pub returns-in-Some : goal.returns-in-Some
returns-in-Some c =
    let s = drop c.in-Some.end c.args.text.now in
    line-declared (state_rest s) (state-none (declared_of c.args.text.now c.args.d.now) c.args.number s) (line-state (drop c.args.at c.args.text.now) c.in-Some.ensures.read) c.in_ok-d.ensures

pub returns-in_err-d-2 : goal.returns-in_err-d-2
returns-in_err-d-2 c =
    let s = drop c.in-Some-past_bytes.end c.args.text.now in
    let p = passed c.in_err-d-2.was c.from_residual-in_err-d-2.ensures.1 in
    rw p.1 (line-undeclared (rel_rest s) (rel-none (declared_of c.args.text.now c.args.d.now) c.args.number s) (line-rel (drop c.args.at c.args.text.now) c.in_default.ensures c.in-Some-past_bytes.ensures.read) p.0 (rw p.2 at c.read_rel.ensures))

pub returns-in-Some-past_bytes : goal.returns-in-Some-past_bytes
returns-in-Some-past_bytes c =
    let s = drop c.in-Some-past_bytes.end c.args.text.now in
    line-declared (rel_rest s) (rel-none (declared_of c.args.text.now c.args.d.now) c.args.number s) (line-rel (drop c.args.at c.args.text.now) c.in_default.ensures c.in-Some-past_bytes.ensures.read) c.in_ok-d-2.ensures

pub returns-in_err-r : goal.returns-in_err-r
returns-in_err-r c = let p = passed c.in_err-r.was c.from_residual-in_err-r.ensures.1 in rw p.1 (line-refused c.args.at c.args.number c.requires.2 c.requires.3 p.0 (rw p.2 at c.read_clause.ensures))

pub add_clause-requires : goal.add_clause-requires
add_clause-requires c = line-storable c.args.at c.args.number c.requires.2 c.requires.3 c.requires.4.1 c.in_ok-r.ensures

pub returns : goal.returns
returns c = rw c.add_clause.ensures (line-stored c.args.at c.args.number c.requires.2 c.requires.3 c.in_ok-r.ensures)
