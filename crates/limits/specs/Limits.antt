-- THE LIMITS of the documents: each figure stands here, under its name, and everywhere else the name.
use Rattle.std.specs.Prelude.{ℕ, ◌+◌, ◌-◌, ◌*◌, ◌/◌, ◌^◌}

-- THE BRACKET TEXT. Row 1: "no bytes, or over 16,384"
abbrev pub text : ℕ
text = 16384

-- "a name or variable is 1 to 16 letters or digits"
abbrev pub name : ℕ
name = 16

-- document 02, R-6: "Up to 24 `state` lines are allowed"
abbrev pub states : ℕ
states = 24

-- "`(rel R n)` ..: at most 16, of them at most 6 with n = 2"
abbrev pub rels : ℕ
rels = 16

abbrev pub pairs : ℕ
pairs = 6

-- rules, `new` and `next` lines, "together at most 64"
abbrev pub clauses : ℕ
clauses = 64

-- document 02, R-6: "and lists of up to 24 names"
abbrev pub list : ℕ
list = 24

-- "a body 0 to 8 literals"
abbrev pub body : ℕ
body = 8

-- "with 1 to 4 stages"
abbrev pub stages : ℕ
stages = 4

-- "a line's body with its head, or one stage, has at most 3 variables"
abbrev pub variables : ℕ
variables = 3

-- document 02, R-5: "Two variables may now be carried"
abbrev pub carried : ℕ
carried = 2

-- WHAT IS LENT. Row 12; document 02, R-6: "32,768 becomes 65,536 wherever document 01 has it"; R-5: the run table and "the longest replayed run .. become 9,344, as do the figures in rows 12 and 14"
abbrev pub work : ℕ
work = 65536

abbrev pub run : ℕ
run = 9344

-- A HAND-IN: 9,344 places of at most 24 bytes, 128 lines of 24 names before them, and more
abbrev pub handin : ℕ
handin = 524288

-- PLACES AND STATES. "Objects are numbered from 0 in order of creation, 254 the highest"
abbrev pub objects : ℕ
objects = 255

-- "255 where there is none"
abbrev pub none : ℕ
none = 255

-- document 02, R-6: "At most 127 non-empty atomic states may be reachable"
abbrev pub atomic : ℕ
atomic = 127

-- document 02, R-5: "A run may need 8,128 + 2 × 505 steps": 1 + 2 + .. + 127 = 8,128 for one object of each state, and for each carried object 127 and 3 × 126 between stages; with 4 meetings, 9,142 places
abbrev pub built : ℕ
built = atomic * (atomic + 1) / 2

abbrev pub walked : ℕ
walked = atomic + (stages - 1) * (atomic - 1)

abbrev pub shown : ℕ
shown = built + carried * walked + stages

-- document 02, R-7: refused "18 if over 126 objects exist": with one object of each state and the carried ones behind them there are 255
abbrev pub earlier : ℕ
earlier = objects - atomic - carried

-- document 02, R-7: a run "from that database .. of at most 8,128 + 126 + 2 × 505 steps"; with 4 meetings, 9,268 places
abbrev pub steps_from : ℕ
steps_from = built + (atomic - 1) + carried * walked

abbrev pub shown_from : ℕ
shown_from = steps_from + stages

-- document 02: the empty state "counts" too
abbrev pub listed : ℕ
listed = atomic + 1

-- WHAT FOLLOWS: the declared relations, the numbers of atomic states, the literals of all lines, the variables of an `ask` line
abbrev pub declared : ℕ
declared = states + rels

abbrev pub sets : ℕ
sets = 2 ^ states

abbrev pub literals : ℕ
literals = (clauses + stages) * body

abbrev pub asked : ℕ
asked = stages * variables
