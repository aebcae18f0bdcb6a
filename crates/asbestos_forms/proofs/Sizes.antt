-- THE TEXT'S LENGTH: at most 2,132 bytes, for 18 kinds and the highest port level.
use mathlib.Core.Path.{◌≡◌, refl, ap, ◌∙◌}
use mathlib.Core.Bool.{Bool, true}
use mathlib.Core.List.{List, [], ◌∷◌, ◌++◌, map}
use Prim.Native.Nat.{ℕ, ◌+◌, ◌*◌, ◌≤◌, ◌<◌}
use native.Mathlib.Omega.{arith}
use lib.Dec.{leb}
use lib.ListN.{length, length-append}
use borrow.Author.Tests.{leb-true}
use Rattle.semantics.proofs.Tools.{below, below-use}
use Rattle.grammar.specs.Forms.{Form, state_form}
use Rattle.asbestos.specs.Messages.{levels, Process, most, Proper, AllProper, resulting_level}
use Rattle.asbestos.proofs.Codes.{proc, tried, tried-use}
use Rattle.asbestos_forms.specs.Forms.{names, label, born_form, marking_form, raising_form, entry_forms, table_forms, asked_form, clause_forms, printed, text}
use Rattle.asbestos_forms.proofs.Printed.{printed-append}

pub length-printed : (fs gs : List Form) → length (printed (fs ++ gs)) ≡ length (printed fs) + length (printed gs)
length-printed fs gs = ap length (printed-append fs gs) ∙ length-append (printed fs) (printed gs)

-- THE `state` LINES
states-long : length (printed (map state_form names)) ≡ 120
unfolding names
states-long = refl

-- A KIND
abbrev kind_fits : ℕ → ℕ → ℕ → Bool → Bool
kind_fits s r b m = leb (length (printed (born_form (proc s r m) ∷ []))) 28

kinds-tried : tried kind_fits ≡ true
unfolding born_form label names
kinds-tried = refl

pub kind-short : (k : Process) → Proper k → length (printed (born_form k ∷ [])) ≤ 28
kind-short k h = leb-true (length (printed (born_form k ∷ []))) 28 (tried-use kind_fits kinds-tried k.send k.receive 0 h.0 h.1 (omega arith) k.mark)

pub kinds-short : (kinds : List Process) → AllProper kinds → length (printed (map born_form kinds)) ≤ 28 * length kinds
kinds-short [] h = omega arith
kinds-short (k ∷ ks) h = omega (arith, kind-short k h.0, kinds-short ks h.1, length-printed (born_form k ∷ []) (map born_form ks))

-- A TABLE ENTRY
abbrev entry-fits : ℕ → ℕ → Bool
entry-fits a b = leb (length (printed (entry_forms a b))) 100

entries-tried : below levels (λ (a : ℕ). below levels (λ (b : ℕ). entry-fits a b)) ≡ true
unfolding marking_form raising_form resulting_level label names
entries-tried = refl

pub entry-short : (a b : ℕ) → a < levels → b < levels → length (printed (entry_forms a b)) ≤ 100
entry-short a b la lb = leb-true (length (printed (entry_forms a b))) 100 (below-use levels (λ (b : ℕ). entry-fits a b) (below-use levels (λ (a : ℕ). below levels (λ (b : ℕ). entry-fits a b)) entries-tried a la) b lb)

abbrev table_fits : ℕ → Bool
table_fits port = leb (length (printed (table_forms port))) 1474

tables-tried : below levels table_fits ≡ true
unfolding marking_form raising_form resulting_level label names
tables-tried = refl

-- THE QUESTION
abbrev asked-fits : ℕ → Bool
asked-fits q = leb (length (printed (asked_form q ∷ []))) 34

asked-tried : below levels asked-fits ≡ true
unfolding asked_form label names
asked-tried = refl

pub asked-short : (q : ℕ) → q < levels → length (printed (asked_form q ∷ [])) ≤ 34
asked-short q lq = leb-true (length (printed (asked_form q ∷ []))) 34 (below-use levels asked-fits asked-tried q lq)

-- ALL LINES
pub text-long : (kinds : List Process) (port level : ℕ) → length (text kinds port level) ≡ 120 + length (printed (map born_form kinds)) + length (printed (table_forms port)) + length (printed (asked_form level ∷ []))
text-long kinds port level = omega (
  arith,
  states-long,
  length-printed (map state_form names) (clause_forms kinds port ++ (asked_form level ∷ [])),
  length-printed (clause_forms kinds port) (asked_form level ∷ []),
  length-printed (map born_form kinds) (table_forms port),
)

pub text-short : (kinds : List Process) (port level : ℕ) → AllProper kinds → length kinds ≤ most → port < levels → level < levels → length (text kinds port level) ≤ 2132
text-short kinds port level proper few low asked = omega (
  arith,
  text-long kinds port level,
  kinds-short kinds proper,
  leb-true (length (printed (table_forms port))) 1474 (below-use levels table_fits tables-tried port low),
  asked-short level asked,
)
