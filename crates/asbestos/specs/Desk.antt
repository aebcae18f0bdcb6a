-- THE MODEL THAT THE DESK WRITES for kinds, a port level and an asked receive level: what its text says.
use Rattle.std.specs.Prelude.{if◌then◌else◌, List, [], ◌∷◌, ◌++◌, map, ℕ, zero, suc, ◌+◌, ◌==◌}
use Rattle.semantics.specs.Labels.{set_of}
use Rattle.semantics.specs.Models.{is, isnt, Body, Line, new, next, Program, Question}
use Rattle.asbestos.specs.Messages.{Process, levels, resulting_level}

-- the lists for 0 to n - 1, one after the other
abbrev pub each : {A : Type 0} → ℕ → (ℕ → List A) → List A
each zero f = []
each (suc n) f = each n f ++ f n

-- LABELS, on lines 1 to 11: S0 to S4 are the relations 0 to 4, R0 to R4 the relations 5 to 9, and M is the relation 10.
-- A process of send level a and receive level r has Sa, all of R0 to Rr, and M if it has the mark.
abbrev pub send_relation : ℕ → ℕ
send_relation a = a

abbrev pub receive_relation : ℕ → ℕ
receive_relation k = 5 + k

abbrev pub mark_relation : ℕ
mark_relation = 10

abbrev pub up_to : ℕ → List ℕ
up_to r = each (suc r) (λ (k : ℕ). receive_relation k ∷ [])

abbrev pub labels : Process → List ℕ
labels p = send_relation p.send ∷ (up_to p.receive ++ (if p.mark then mark_relation ∷ [] else []))

-- the state of a process
unfoldable pub code : Process → ℕ
code p = set_of (labels p)

-- A KIND, as `(new (S1 R0 R1 R2 M))`
abbrev pub born : Process → Line
born k = new (code k) []

-- `(Sa x) (Rb x) (Sb y)`: x is 0 and y is 1
abbrev pub passing : ℕ → ℕ → Body → Body
passing a b more = is (send_relation a) 0 ∷ is (receive_relation b) 0 ∷ is (send_relation b) 1 ∷ more

-- the labels that are taken away where the send level a becomes c
abbrev pub left : ℕ → ℕ → List ℕ
left a c = if c == a then [] else send_relation a ∷ []

-- A TABLE ENTRY, the receiver's send level a and the sender's b: `(next x (M Sc) (Sa) (Sa x) (Rb x) (Sb y) (M y))`, the second list empty where c is a;
abbrev pub marking : ℕ → ℕ → Line
marking a b = next 0 (set_of (mark_relation ∷ send_relation (resulting_level a b) ∷ [])) (set_of (left a (resulting_level a b))) (passing a b (is mark_relation 1 ∷ []))

-- and, where c is not a, `(next x (Sc) (Sa) (Sa x) (Rb x) (Sb y) (not (M y)))`
abbrev pub raising : ℕ → ℕ → Line
raising a b = next 0 (set_of (send_relation (resulting_level a b) ∷ [])) (set_of (send_relation a ∷ [])) (passing a b (isnt mark_relation 1 ∷ []))

abbrev pub entry : ℕ → ℕ → List Line
entry a b = marking a b ∷ (if resulting_level a b == a then [] else raising a b ∷ [])

-- row by row, the columns up to the port level
abbrev pub entries : ℕ → List Line
entries port = each levels (λ (a : ℕ). each (suc port) (λ (b : ℕ). entry a b))

abbrev pub clauses : List Process → ℕ → List Line
clauses kinds port = map born kinds ++ entries port

-- the lines with their numbers, n being the first
abbrev pub numbered : ℕ → List Line → Program
numbered n [] = []
numbered n (l ∷ ls) = (n, l) ∷ numbered (suc n) ls

-- THE PROGRAM: behind the 11 `state` lines
abbrev pub program : List Process → ℕ → Program
program kinds port = numbered 12 (clauses kinds port)

-- THE QUESTION: `(ask ((M x) (Rq x) (not (Rr x))))` with r = q + 1; without the last where q is 4
abbrev pub question : ℕ → Question
question q = (is mark_relation 0 ∷ is (receive_relation q) 0 ∷ (if q == 4 then [] else isnt (receive_relation (suc q)) 0 ∷ [])) ∷ []
