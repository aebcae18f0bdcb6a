-- The model record of a text before its first line and at its `ask` line.
use Rattle.std.specs.Prelude.{ℕ, map, replicate}
use Rattle.limits.specs.Limits as limit
use Rattle.model.specs.declared.Action.TheVariants.{New}
use Rattle.model.specs.declared.Name.{Name}
use Rattle.model.specs.declared.Model.{Model}
use Rattle.text_names.specs.declared.Name as names
use Rattle.text_names.specs.declared.Declared.{Declared}

-- THE BLANK RECORD, of no clauses and stages
abbrev pub blank : Model
blank = record {
  relations = record { codes = replicate limit.declared 0; count = 0 };
  names = replicate limit.declared (record { start = 0; len = 0 });
  clauses = replicate limit.clauses (record { action = New 0; line = 0; first = 0; count = 0; variables = 0 });
  clausecount = 0;
  literals = replicate limit.literals 0;
  literalcount = 0;
  stages = replicate limit.stages (record { first = 0; count = 0; variables = 0; numbers = replicate limit.variables 0 });
  stagecount = 0;
  carried = replicate limit.carried limit.none;
  lines = 0;
}

-- where a declared name stands in the text
abbrev pub place_of : names.Name → Name
place_of x = record { start = x.start; len = x.len }

-- the record with the declared names, for a text of n lines
abbrev pub fitted : Model → Declared → ℕ → Model
fitted m d n = record {
  relations = record { codes = map (λ x. x.code) d.names; count = d.count };
  names = map place_of d.names;
  clauses = m.clauses;
  clausecount = m.clausecount;
  literals = m.literals;
  literalcount = m.literalcount;
  stages = m.stages;
  stagecount = m.stagecount;
  carried = m.carried;
  lines = n;
}
