-- THE TEXT is written part by part, and what the call then leaves.
use mathlib.Core.Path.{◌≡◌, refl, sym, ap, ◌∙◌}
use mathlib.Core.Bool.{Bool, true, false, true≢false, false≢true}
use mathlib.Core.List.{List, [], ◌∷◌, ◌++◌, map, append_assoc}
use Prim.Native.Nat.{ℕ}
use native.Mathlib.Nat.{zero-add}
use lib.ListN.{length, drop}
use Rattle.grammar.specs.Bytes.{bytes}
use Rattle.grammar.specs.Forms.{state_form}
use Rattle.listing_bytes.specs.Writing.{Writes}
use Rattle.asbestos.specs.Messages.{Process}
use Rattle.asbestos_forms.specs.Forms.{names, born_form, table_forms, asked_form, clause_forms, printed, text}
use Rattle.asbestos_forms.proofs.Printed.{printed-append}
use Rattle.asbestos_forms.proofs.Examples.{states}
use Rattle.std.specs.Prelude.{Ok, Err}
use Rattle.rows.specs.Rows.{number_of}
use Rattle.rows.specs.declared.Refusal.{Refusal}
use Rattle.rows.specs.declared.Row.TheVariants.{Processes}
use Rattle.asbestos_writer.specs.Writing.{Leaves}

abbrev pub state-lines : List ℕ
state-lines = bytes "(state S0)\n(state S1)\n(state S2)\n(state S3)\n(state S4)\n(state R0)\n(state R1)\n(state R2)\n(state R3)\n(state R4)\n(state M)\n"

pub text-parts : (kinds : List Process) (port level : ℕ) → text kinds port level ≡ state-lines ++ printed (map born_form kinds) ++ printed (table_forms port) ++ printed (asked_form level ∷ [])
text-parts kinds port level =
    printed-append (map state_form names) (clause_forms kinds port ++ (asked_form level ∷ []))
    ∙ rw (states, printed-append (clause_forms kinds port) (asked_form level ∷ []), printed-append (map born_form kinds) (table_forms port))
    (sym (four state-lines (printed (map born_form kinds)) (printed (table_forms port)) (printed (asked_form level ∷ []))))
  where
    four : (a b c d : List ℕ) → a ++ b ++ c ++ d ≡ a ++ (b ++ c ++ d)
    four a b c d = rw (append_assoc (a ++ b) c d, append_assoc a b (c ++ d), append_assoc b c d)

-- WHAT THE CALL LEAVES
pub leaves-refused : (t : Bool) → t ≡ true → (s out : List ℕ) {r : Refusal} → (r.row ≡ Processes) × (r.line ≡ 0) → Leaves t s out (Err r) out
leaves-refused true e s out h = ((ap number_of h.0, h.1), refl)
leaves-refused false e s out h = absurd (false≢true e)

pub leaves-written : (t : Bool) → t ≡ false → {s out : List ℕ} {n : ℕ} {out' : List ℕ} → Writes out 0 s n out' → Leaves t s out (Ok n) out'
leaves-written true e w = absurd (true≢false e)
leaves-written false e {s} {out} {n} w = (ap (λ (k : ℕ). Ok k) (w.next ∙ zero-add (length s)), w.bytes ∙ ap (λ (k : ℕ). s ++ drop k out) (zero-add (length s)))
