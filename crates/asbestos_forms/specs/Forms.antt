-- THE TEXT THAT THE DESK WRITES for kinds, a port level and an asked receive level: its forms, line by line, and its bytes.
use Rattle.std.specs.Prelude.{if◌then◌else◌, List, [], ◌∷◌, ◌++◌, map, ℕ, suc, ◌==◌, slice_index_or}
use Prim.Native.String.{String}
use Rattle.grammar.specs.Bytes.{bytes, Word}
use Rattle.grammar.specs.Forms.{Atom, Literal, plain, negated, Form, state_form, new_form, next_form, ask_form, print}
use Rattle.grammar.specs.Declarations.{Declared}
use Rattle.asbestos.specs.Messages.{levels, Process, resulting_level}
use Rattle.asbestos.specs.Desk.{send_relation, receive_relation, mark_relation, labels, left, each}

-- LABELS, by the numbers of their relations
unfoldable pub names : List Word
names =
    bytes "S0" ∷ bytes "S1" ∷ bytes "S2" ∷ bytes "S3" ∷ bytes "S4"
    ∷ bytes "R0" ∷ bytes "R1" ∷ bytes "R2" ∷ bytes "R3" ∷ bytes "R4"
    ∷ bytes "M"
    ∷ []

unfoldable pub label : ℕ → Word
label c = slice_index_or names c []

-- the declared names with their relation codes
abbrev pub counted : ℕ → List Word → Declared
counted n [] = []
counted n (w ∷ ws) = (w, n) ∷ counted (suc n) ws

unfoldable pub declared : Declared
declared = counted 0 names

-- `(A x)`, the relation being a number
abbrev pub on : ℕ → String → Atom
on c x = record { name = label c; variables = bytes x ∷ [] }

-- A KIND, as `(new (S1 R0 R1 R2 M))`
unfoldable pub born_form : Process → Form
born_form k = new_form (map label (labels k)) []

-- `(Sa x) (Rb x) (Sb y)`
abbrev pub passing_form : ℕ → ℕ → List Literal → List Literal
passing_form a b more = plain (on (send_relation a) "x") ∷ plain (on (receive_relation b) "x") ∷ plain (on (send_relation b) "y") ∷ more

-- A TABLE ENTRY, the receiver's send level a and the sender's b: `(next x (M Sc) (Sa) (Sa x) (Rb x) (Sb y) (M y))`, the second list empty where c is a;
unfoldable pub marking_form : ℕ → ℕ → Form
marking_form a b = next_form (bytes "x") (map label (mark_relation ∷ send_relation (resulting_level a b) ∷ [])) (map label (left a (resulting_level a b))) (passing_form a b (plain (on mark_relation "y") ∷ []))

-- and, where c is not a, `(next x (Sc) (Sa) (Sa x) (Rb x) (Sb y) (not (M y)))`
unfoldable pub raising_form : ℕ → ℕ → Form
raising_form a b = next_form (bytes "x") (map label (send_relation (resulting_level a b) ∷ [])) (map label (send_relation a ∷ [])) (passing_form a b (negated (on mark_relation "y") ∷ []))

abbrev pub entry_forms : ℕ → ℕ → List Form
entry_forms a b = marking_form a b ∷ (if resulting_level a b == a then [] else raising_form a b ∷ [])

-- row by row, the columns up to the port level
abbrev pub row_forms : ℕ → ℕ → List Form
row_forms port a = each (suc port) (λ (b : ℕ). entry_forms a b)

abbrev pub table_forms : ℕ → List Form
table_forms port = each levels (λ (a : ℕ). row_forms port a)

-- THE QUESTION: `(ask ((M x) (Rq x) (not (Rr x))))` with r = q + 1; without the last where q is 4
unfoldable pub asked_form : ℕ → Form
asked_form q = ask_form ((plain (on mark_relation "x") ∷ plain (on (receive_relation q) "x") ∷ (if q == 4 then [] else negated (on (receive_relation (suc q)) "x") ∷ [])) ∷ [])

-- ALL LINES
abbrev pub clause_forms : List Process → ℕ → List Form
clause_forms kinds port = map born_form kinds ++ table_forms port

abbrev pub forms : List Process → ℕ → ℕ → List Form
forms kinds port level = map state_form names ++ (clause_forms kinds port ++ (asked_form level ∷ []))

-- "one form a line, ended by byte 10"
abbrev pub printed : List Form → List ℕ
printed [] = []
printed (f ∷ fs) = print f ++ (bytes "\n" ++ printed fs)

-- THE TEXT
abbrev pub text : List Process → ℕ → ℕ → List ℕ
text kinds port level = printed (forms kinds port level)
