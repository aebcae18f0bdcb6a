-- THE CODE'S CASES are those of the paper.
use Rattle.semantics.specs.FourCases as paper
use Rattle.labels.specs.declared.Case.{Case}
use Rattle.labels.specs.declared.Case.TheVariants.{Set, Cleared, Both, Neither}

abbrev pub said : Case → paper.Case
said Set = paper.set
said Cleared = paper.cleared
said Both = paper.both
said Neither = paper.neither
