-- THE WORK AREA after every answer for which it is used: all but the refusals that the lines and lists alone decide.
use Rattle.std.specs.Prelude.{List, ◌++◌, ℕ, drop, replicate}
use Rattle.limits.specs.Limits as limit

-- document 02, R-6: "the first 65,536 work bytes" are zero, and "the rest untouched"
unfoldable pub wiped : List ℕ → List ℕ
wiped w = replicate limit.work 0 ++ drop limit.work w
