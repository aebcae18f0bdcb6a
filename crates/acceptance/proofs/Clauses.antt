-- A CLAUSE of a line without fault is good.
use mathlib.Core.Path.{◌≡◌, refl, sym, subst}
use mathlib.Core.Bool.{true}
use mathlib.Core.List.{List, [], ◌∷◌, ◌++◌, map}
use Prim.Native.Nat.{ℕ, suc, ◌≤◌, ◌<◌}
use native.Mathlib.Omega.{arith}
use lib.Dec.{leb}
use lib.ListN.{length, length-map}
use borrow.Author.Tests.{leb-true, leb-false}
use Rattle.semantics.specs.Labels.{set_of}
use Rattle.semantics.specs.Models.{Line, rule, new, next, Distinct}
use Rattle.semantics.proofs.Tools.{elem-here}
use Rattle.grammar.specs.Bytes.{Word}
use Rattle.grammar.specs.Forms.{Atom, Literal, rule_form, new_form, next_form, all, proper_literal, proper_body}
use Rattle.grammar.specs.Declarations.{Declared, lookup, extend, place, variables}
use Rattle.grammar.specs.Rows.{row, many_clauses, list_fault, head_fault, body_fault, scope_fault, repeats, fault}
use Rattle.grammar.specs.Models.{code_of, codes, body_of}
use Rattle.grammar.proofs.Lower.{lower-none}
use Rattle.grammar.proofs.Tests.{and_right}
use Rattle.acceptance.specs.Sound.{GoodDeclarations, GoodBody, GoodClause}
use Rattle.acceptance.proofs.Words.{first-place, head-numbers, up_from-distinct}
use Rattle.acceptance.proofs.Declarations.{row-none}
use Rattle.acceptance.proofs.Bodies.{good-head, list_set, good-literals}
use Rattle.acceptance.proofs.Scopes.{safe-head, safe-body, numbered}

-- there is room for one clause more
pub room : (clauses : ℕ) → row 4 (many_clauses clauses) ≡ 0 → clauses < 64
room clauses e = leb-false 64 clauses (row-none 4 (many_clauses clauses) (omega arith) e)

-- THE LINES that the forms say
abbrev rule_line : Declared → Atom → List Literal → Line
rule_line D h b = let vs = extend [] (h.variables ++ variables b) in rule (code_of D h.name) (map (place vs) h.variables) (body_of D vs b)

abbrev new_line : Declared → List Word → List Literal → Line
new_line D l b = new (set_of (codes D l)) (body_of D (extend [] (variables b)) b)

abbrev next_line : Declared → Word → List Word → List Word → List Literal → Line
next_line D x p m b = let vs = extend [] (x ∷ variables b) in next (place vs x) (set_of (codes D p)) (set_of (codes D m)) (body_of D vs b)

module _ (D : Declared) (good : GoodDeclarations D) where
  pub good-body : (vs : List Word) (b : List Literal) → proper_body b ≡ true → body_fault D b ≡ 0 → GoodBody D (body_of D vs b)
  good-body vs b p e = record {
    short = rw (length-map b _) (leb-true (length b) 8 (and_right (all proper_literal b) (leb (length b) 8) p));
    literals = good-literals D vs good b e;
  }

  module _ (n clauses : ℕ) (some : 1 ≤ n) where
    pub good-rule : (h : Atom) (b : List Literal) → proper_body b ≡ true → fault D clauses (rule_form h b) ≡ 0 → (clauses < 64) × GoodClause (suc n) D (n, rule_line D h b)
    unfolding fault
    good-rule h b p e =
        let hs = h.variables in
        let vs = extend [] (hs ++ variables b) in
        let f4 = lower-none (row 4 (many_clauses clauses)) _ e in
        let f6 = lower-none (head_fault (lookup h.name D) (length hs)) _ f4.1 in
        let f8 = lower-none (body_fault D b) _ f6.1 in
        let f9 = lower-none (row 9 (repeats hs)) (scope_fault hs b) f8.1 in
        let len = length-map hs (place vs) in
        let up = head-numbers [] hs (variables b) (λ x q. refl) (row-none 9 (repeats hs) (omega arith) f9.0) in (
          room clauses f4.0,
          record {
            first = some;
            last = omega arith;
            head = rw len (good-head D good h.name (length hs) f6.0, up);
            body = good-body vs b p f8.0;
            variables = numbered D hs b f8.0 f9.1;
            safe = (subst Distinct (sym up) (up_from-distinct 0 (length hs)), safe-head D hs b f8.0 f9.1 vs, safe-body D hs b f8.0 f9.1 vs);
          },
        )

    pub good_new : (l : List Word) (b : List Literal) → proper_body b ≡ true → fault D clauses (new_form l b) ≡ 0 → (clauses < 64) × GoodClause (suc n) D (n, new_line D l b)
    unfolding fault
    good_new l b p e =
        let vs = extend [] (variables b) in
        let f4 = lower-none (row 4 (many_clauses clauses)) _ e in
        let f6 = lower-none (list_fault D l) _ f4.1 in
        let f8 = lower-none (body_fault D b) (scope_fault [] b) f6.1 in (
          room clauses f4.0,
          record {
            first = some;
            last = omega arith;
            head = list_set D good l f6.0;
            body = good-body vs b p f8.0;
            variables = numbered D [] b f8.0 f8.1;
            safe = safe-body D [] b f8.0 f8.1 vs;
          },
        )

    pub good-next : (x : Word) (l m : List Word) (b : List Literal) → proper_body b ≡ true → fault D clauses (next_form x l m b) ≡ 0 → (clauses < 64) × GoodClause (suc n) D (n, next_line D x l m b)
    unfolding fault
    good-next x l m b p e =
        let vs = extend [] (x ∷ variables b) in
        let f4 = lower-none (row 4 (many_clauses clauses)) _ e in
        let f6 = lower-none (list_fault D l) _ f4.1 in
        let f7 = lower-none (list_fault D m) _ f6.1 in
        let f8 = lower-none (body_fault D b) (scope_fault (x ∷ []) b) f7.1 in (
          room clauses f4.0,
          record {
            first = some;
            last = omega arith;
            head = (first-place x (variables b), list_set D good l f6.0, list_set D good m f7.0);
            body = good-body vs b p f8.0;
            variables = numbered D (x ∷ []) b f8.0 f8.1;
            safe = (safe-head D (x ∷ []) b f8.0 f8.1 vs (place vs x) (elem-here (place vs x) []), safe-body D (x ∷ []) b f8.0 f8.1 vs);
          },
        )
