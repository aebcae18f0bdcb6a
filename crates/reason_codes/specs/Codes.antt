-- THE NUMBERS OF WHAT IS SAID OF A RUN: kind × 2^32 + value.
use Rattle.std.specs.Prelude.{ℕ, ◌+◌, ◌*◌, ◌%◌, Result, Ok, Err}
use Rattle.words.specs.Words.{code, refusal}
use Rattle.words.specs.declared.Numbered.{Numbered}
use Rattle.reasons.specs.declared.Reason.{Reason}
use Rattle.reasons.specs.declared.Reason.TheVariants.{Ends, Done, NoLine, NotNext, NoObject, OtherStage, Variables, Carried, Literal}
use Rattle.explain.specs.declared.Explanation.{Explanation}
use Rattle.explain.specs.declared.Explanation.TheVariants.{Kept, Broken}

-- A REASON: its number × 256, and the place of the literal to blame, of which a body has at most 8
abbrev pub reasoned : Reason → ℕ
reasoned Ends = 0
reasoned Done = 256
reasoned NoLine = 512
reasoned NotNext = 768
reasoned NoObject = 1024
reasoned OtherStage = 1280
reasoned Variables = 1536
reasoned Carried = 1792
reasoned (Literal k) = 2048 + k % 256

-- kind 2 is a refusal, with number × 65,536 + line; kind 3 kept; kind 4 broken, with place × 65,536 + the reason, a run having fewer than 65,536 places
abbrev pub explained : Result Explanation Numbered → ℕ
explained (Err x) = refusal x.number x.line
explained (Ok Kept) = code 3 0
explained (Ok (Broken place r)) = code 4 (place % 65536 * 65536 + reasoned r)
