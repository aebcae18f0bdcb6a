use mathlib.Core.Path.{ap, ◌∙◌}
use Rattle.model.specs.Records.{program_of}
use Rattle.striking.proofs.Striking.{not-faulty}
use Rattle.strike_list.specs.Lists.{shown}
use Rattle.strike_list.proofs.Named.{named-is}
use Rattle.strike_list.proofs.Gathering.{model-rising}
use Rattle.strike_list.proofs.rising.Goals as goal

pub gather-requires : goal.gather-requires
gather-requires c = (c.requires.0, ((not-faulty (program_of c.args.m) c.args.list.now).0 c.requires.1).1)

pub returns : goal.returns
returns c = c.gather.ensures ∙ ap shown (named-is (program_of c.args.m) c.args.list.now (model-rising c.args.m c.requires.0) c.requires.1)
