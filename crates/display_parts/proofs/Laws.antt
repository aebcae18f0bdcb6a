-- Laws of the parts of a line.
use mathlib.Core.Path.{◌≡◌, refl, sym, ap, ◌∙◌, subst}
use mathlib.Core.Logic.{⊎_elim}
use mathlib.Core.Bool.{Bool, true, false, false≢true}
use mathlib.Core.List.{List, [], ◌∷◌, ◌++◌, append_assoc}
use mathlib.Core.Option.{Option, none, some}
use Prim.Native.Nat.{ℕ, ◌-◌, ◌≤◌, ◌<◌}
use native.Mathlib.Omega.{arith}
use lib.Dec.{eqb}
use lib.ListN.{length, drop, drop_of_length-le}
use lib.Seq.{slice, drop-length}
use borrow.Author.Tests.{eqb-true, eqb-false, ne_eqb}
use Rattle.std.proofs.lemmas.Bool.{cases_Bool}
use Rattle.grammar.specs.Bytes.{bytes, Word}
use Rattle.grammar.specs.Forms.{Literal, Form, state_form, rel_form, rule_form, new_form, next_form, ask_form}
use Rattle.grammar.specs.Shapes.{Read, ◌>>=◌, after, whether, name, rest, atom, literal, list, body, stage, arity, state_rest, rel_rest, rule_rest, new_rest, next_rest, ask_rest, line, whole, form_of}
use Rattle.grammar.specs.Declarations.{variables}
use Rattle.text_scan.specs.Found.{NameEnd}
use Rattle.text_scan.proofs.Laws.{next}
use Rattle.std.specs.Prelude as std
use Rattle.std.specs.Prelude.{Some, None, MatchOption}
use Rattle.display_shapes.specs.Ends.{after_space, EndsAt, Ends}
use Rattle.display_shapes.proofs.Rows.{same_read, some-none}
use Rattle.display_shapes.specs.Rows.{pick, Row, Stands}
use Rattle.display_shapes.specs.declared.Span.{Span}
use Rattle.display_parts.specs.Parts as parts
use Rattle.display_parts.specs.Parts.{part_in, part_of}
use Rattle.display_parts.specs.Closes.{Closes, Ended}
use Rattle.display_parts.specs.Placed.{Placed, Gives}
use Rattle.display_parts.specs.declared.Part.{Part}
use Rattle.display_parts.proofs.Inverse.{found, after-inverse}
use Rattle.display_parts.proofs.Words.{words, words-between, atom-words, body-words, stage-words, rest-row, bracket-row}

-- WHAT IS GIVEN
pub gives_none : (s : List ℕ) (o : Option parts.Part) → o ≡ none → Gives s o None
gives_none s o e = rw e tt

gives-some : (s : List ℕ) (o : Option parts.Part) (p : Part) {hs : List Word} {b : List Literal} → o ≡ some (hs, b) → Placed s p hs b → Gives s o (Some p)
gives-some s o p e h = subst (λ (q : Option parts.Part). Gives s q (Some p)) (sym e) h

clause-placed : (s : List ℕ) (a b e n : ℕ) {t : List ℕ} (hs : List Word) (q : List Literal) → a ≤ e → b ≤ length s → e ≤ length s → rest literal n (drop b s) ≡ some (q, t)
    → words (drop a s) ≡ (hs ++ variables q) ++ words (drop e s) → Placed s (record { head = None; from = a; body = b; end = e }) hs q
clause-placed s a b e n hs q h k l r w = record {
  head = tt;
  from = h;
  body = k;
  end = l;
  row = rest-row literal n (drop b s) r;
  words = words-between s a e (hs ++ variables q) h w;
}

next-placed : (s : List ℕ) (x b e n : ℕ) (q : List Literal) → 6 < x → x ≤ length s → b < e → e ≤ length s → rest literal n (drop b s) ≡ some (q, drop e s)
    → Placed s (record { head = Some (record { from = 6; to = x }); from = b; body = b; end = e }) (slice 6 x s ∷ []) q
next-placed s x b e n q h k l m r = record {
  head = (h, k);
  from = omega arith;
  body = omega arith;
  end = m;
  row = rest-row literal n (drop b s) r;
  words = ap (λ (ws : List Word). slice 6 x s ∷ ws) (words-between s b e (variables q) (omega arith) (body-words n (drop b s) r));
}

-- LINES BY THEIR FIRST WORD
module _ (s : List ℕ) {t : List ℕ} where
  rule-form : after (bytes "(rule ") s ≡ some t → form_of s ≡ whole (rule_rest t)
  unfolding form_of line
  rule-form h =
      let z = sym (after-inverse (bytes "(rule ") s h) in
      let a : after (bytes "(state ") s ≡ none = subst (λ (x : List ℕ). after (bytes "(state ") x ≡ none) z refl in
      let b : after (bytes "(rel ") s ≡ none = subst (λ (x : List ℕ). after (bytes "(rel ") x ≡ none) z refl in
      rw (a, b, h)

  new-form : after (bytes "(new ") s ≡ some t → form_of s ≡ whole (new_rest t)
  unfolding form_of line
  new-form h =
      let z = sym (after-inverse (bytes "(new ") s h) in
      let a : after (bytes "(state ") s ≡ none = subst (λ (x : List ℕ). after (bytes "(state ") x ≡ none) z refl in
      let b : after (bytes "(rel ") s ≡ none = subst (λ (x : List ℕ). after (bytes "(rel ") x ≡ none) z refl in
      let c : after (bytes "(rule ") s ≡ none = subst (λ (x : List ℕ). after (bytes "(rule ") x ≡ none) z refl in
      rw (a, b, c, h)

  next-form : after (bytes "(next ") s ≡ some t → form_of s ≡ whole (next_rest t)
  unfolding form_of line
  next-form h =
      let z = sym (after-inverse (bytes "(next ") s h) in
      let a : after (bytes "(state ") s ≡ none = subst (λ (x : List ℕ). after (bytes "(state ") x ≡ none) z refl in
      let b : after (bytes "(rel ") s ≡ none = subst (λ (x : List ℕ). after (bytes "(rel ") x ≡ none) z refl in
      let c : after (bytes "(rule ") s ≡ none = subst (λ (x : List ℕ). after (bytes "(rule ") x ≡ none) z refl in
      let d : after (bytes "(new ") s ≡ none = subst (λ (x : List ℕ). after (bytes "(new ") x ≡ none) z refl in
      rw (a, b, c, d, h)

  ask-form : after (bytes "(ask ") s ≡ some t → form_of s ≡ whole (ask_rest t)
  unfolding form_of line
  ask-form h =
      let z = sym (after-inverse (bytes "(ask ") s h) in
      let a : after (bytes "(state ") s ≡ none = subst (λ (x : List ℕ). after (bytes "(state ") x ≡ none) z refl in
      let b : after (bytes "(rel ") s ≡ none = subst (λ (x : List ℕ). after (bytes "(rel ") x ≡ none) z refl in
      let c : after (bytes "(rule ") s ≡ none = subst (λ (x : List ℕ). after (bytes "(rule ") x ≡ none) z refl in
      let d : after (bytes "(new ") s ≡ none = subst (λ (x : List ℕ). after (bytes "(new ") x ≡ none) z refl in
      let e : after (bytes "(next ") s ≡ none = subst (λ (x : List ℕ). after (bytes "(next ") x ≡ none) z refl in
      rw (a, b, c, d, e, h)

-- FORMS WITHOUT THE PART
abbrev Lacks : ℕ → Read Form → Type 0
Lacks n o = (whole o >>= λ f. part_in f n) ≡ none

lacks-bind : {A : Type 0} (n : ℕ) (o : Option A) (k : A → Read Form) → ((x : A) → Lacks n (k x)) → Lacks n (o >>= k)
lacks-bind n none k h = refl
lacks-bind n (some x) k h = h x

lacks-form : (n : ℕ) (f : Form) (u : List ℕ) → part_in f n ≡ none → Lacks n (some (f, u))
lacks-form n f [] h = h
lacks-form n f (b ∷ u) h = refl

lacks-whether : (n : ℕ) (w s : List ℕ) (k : List ℕ → Read Form) (o : Read Form) → ((t : List ℕ) → Lacks n (k t)) → Lacks n o → Lacks n (whether (after w s) k o)
lacks-whether n w s k o h l = ⊎_elim (λ q. rw q l) (λ (t, q). rw q (h t)) (found (after w s))

module _ (n : ℕ) where
  state-lacks : (s : List ℕ) → Lacks n (state_rest s)
  unfolding state_rest
  state-lacks s = lacks-bind n (name s) _ (λ p. lacks-bind n (after (bytes ")") p.1) _ (λ u. lacks-form n (state_form p.0) u refl))

  rel-lacks : (s : List ℕ) → Lacks n (rel_rest s)
  unfolding rel_rest
  rel-lacks s = lacks-bind n (name s) _ (λ p. lacks-bind n (after (bytes " ") p.1) _ (λ u. lacks-bind n (arity u) _ (λ q. lacks-bind n (after (bytes ")") q.1) _ (λ z. lacks-form n (rel_form p.0 q.0) z refl))))

  module _ (h : n ≡ 0 → ⊥) where
    rule-lacks : (s : List ℕ) → Lacks n (rule_rest s)
    unfolding rule_rest
    rule-lacks s = lacks-bind n (atom s) _ (λ p. lacks-bind n (body p.1) _ (λ q. lacks-form n (rule_form p.0 q.0) q.1 (rw (ne_eqb n 0 h))))

    new-lacks : (s : List ℕ) → Lacks n (new_rest s)
    unfolding new_rest
    new-lacks s = lacks-bind n (list s) _ (λ p. lacks-bind n (body p.1) _ (λ q. lacks-form n (new_form p.0 q.0) q.1 (rw (ne_eqb n 0 h))))

    next-lacks : (s : List ℕ) → Lacks n (next_rest s)
    unfolding next_rest
    next-lacks s = lacks-bind n (name s) _ (λ x. lacks-bind n (after (bytes " ") x.1) _ (λ u. lacks-bind n (list u) _ (λ p. lacks-bind n (after (bytes " ") p.1) _ (λ z. lacks-bind n (list z) _ (λ m.
        lacks-bind n (body m.1) _ (λ q. lacks-form n (next_form x.0 p.0 m.0 q.0) q.1 (rw (ne_eqb n 0 h))))))))

    -- no stage in a line that is no `ask` line
    pub no-stage : (s : List ℕ) → after (bytes "(ask ") s ≡ none → part_of s n ≡ none
    unfolding part_of form_of line
    no-stage s k =
        lacks-whether n (bytes "(state ") s state_rest _ state-lacks
        (lacks-whether n (bytes "(rel ") s rel_rest _ rel-lacks
        (lacks-whether n (bytes "(rule ") s rule_rest _ rule-lacks
        (lacks-whether n (bytes "(new ") s new_rest _ new-lacks
        (lacks-whether n (bytes "(next ") s next_rest _ next-lacks (rw k)))))

ask-lacks : (s : List ℕ) → Lacks 0 (ask_rest s)
unfolding ask_rest
ask-lacks s = lacks-bind 0 (stage s) _ (λ p. lacks-bind 0 (rest stage 3 p.1) _ (λ q. lacks-form 0 (ask_form (p.0 ∷ q.0)) q.1 refl))

-- no clause in a line that is no `rule`, `new` or `next` line
pub no-clause : (s : List ℕ) → after (bytes "(rule ") s ≡ none → after (bytes "(new ") s ≡ none → after (bytes "(next ") s ≡ none → part_of s 0 ≡ none
unfolding part_of form_of line
no-clause s h k l =
    lacks-whether 0 (bytes "(state ") s state_rest _ (state-lacks 0)
    (lacks-whether 0 (bytes "(rel ") s rel_rest _ (rel-lacks 0)
    (rw (h, k, l) (lacks-bind 0 (after (bytes "(ask ") s) ask_rest ask-lacks)))

-- TO THE LINE'S END
module _ {A : Type 0} (read : List ℕ → Read A) (s : List ℕ) (b : ℕ) where
  closes-end : {e : ℕ} → EndsAt read s b e → e ≡ length s → Closes read s b true
  closes-end {e} v z = (v.value, omega (arith, v.begins), v.found ∙ rw (let g : length s ≤ e = omega arith in drop_of_length-le s g))

  closes-before : {e : ℕ} → EndsAt read s b e → (e ≡ length s → ⊥) → Closes read s b false
  closes-before {e} v z x q =
      let w = sym v.found ∙ q in
      let t : drop e s ≡ [] = (same_read w).1 in
      let d = sym t ∙ next s e (omega (arith, v.ends)) in
      absurd (false≢true cc)

  -- it ends with the line, if there is something
  pub closes-said : {P : ℕ → Type 0} (e : std.Option ℕ) (r : Bool) → Ends read s b e → MatchOption e (r ≡ false) P → ((x : ℕ) → P x → r ≡ eqb x (length s)) → Closes read s b r
  closes-said None r v h k = rw h (λ x q. some-none q v)
  closes-said (Some e) r v h k = rw (k e h) (⊎_elim
      (λ (q : eqb e (length s) ≡ true). rw q (closes-end v (eqb-true e (length s) q)))
      (λ (q : eqb e (length s) ≡ false). rw q (closes-before v (eqb-false e (length s) q)))
      (cases_Bool (eqb e (length s))))

  -- nothing is read, or something is left
  not-to-end : Closes read s b false → (f : A → Form) → whole (read (drop b s) >>= λ r. some (f r.0, r.1)) ≡ none
  not-to-end c f = go (read (drop b s)) refl
    where
      go : (o : Read A) → read (drop b s) ≡ o → whole (o >>= λ r. some (f r.0, r.1)) ≡ none
      go none q = refl
      go (some (x, [])) q = absurd (c x q)
      go (some (x, c ∷ t)) q = refl

-- RULES
module _ (s : List ℕ) (l : 6 ≤ length s) (h : after (bytes "(rule ") s ≡ some (drop 6 s)) where
  pub rule-headless : atom (drop 6 s) ≡ none → part_of s 0 ≡ none
  unfolding part_of rule_rest
  rule-headless k = rw (rule-form s h, k)

  module _ {b : ℕ} (v : EndsAt atom s 6 b) where
    rule-unended : Closes (rest literal 8) s b false → part_of s 0 ≡ none
    unfolding part_of rule_rest body
    rule-unended k = rw (rule-form s h, v.found, not-to-end (rest literal 8) s b k (rule_form v.value))

    rule_found : Closes (rest literal 8) s b true → Gives s (part_of s 0) (Some (record { head = None; from = 6; body = b; end = length s }))
    unfolding part_of rule_rest body
    rule_found (q, c, r) =
        let a = v.value in
        gives-some s (part_of s 0) _ {hs = a.variables} {b = q} (rw (rule-form s h, v.found, r))
        (clause-placed s 6 b (length s) 8 a.variables q l v.ends (omega arith) r
        (atom-words (drop 6 s) v.found ∙ (ap (λ (ws : List Word). a.variables ++ ws) (body-words 8 (drop b s) r) ∙ sym (append_assoc a.variables (variables q) (words [])) ∙ rw (drop-length s))))

    pub rule-ended : (o : std.Option Part) → Ended s None 6 b o → Gives s (part_of s 0) o
    rule-ended None k = gives_none s (part_of s 0) (rule-unended k)
    rule-ended (Some p) (k, e) = rw e (rule_found k)

-- `new` LINES
module _ (s : List ℕ) (l : 5 ≤ length s) (h : after (bytes "(new ") s ≡ some (drop 5 s)) where
  pub new-listless : list (drop 5 s) ≡ none → part_of s 0 ≡ none
  unfolding part_of new_rest
  new-listless k = rw (new-form s h, k)

  module _ {b : ℕ} (v : EndsAt list s 5 b) where
    new-unended : Closes (rest literal 8) s b false → part_of s 0 ≡ none
    unfolding part_of new_rest body
    new-unended k = rw (new-form s h, v.found, not-to-end (rest literal 8) s b k (new_form v.value))

    new-found : Closes (rest literal 8) s b true → Gives s (part_of s 0) (Some (record { head = None; from = b; body = b; end = length s }))
    unfolding part_of new_rest body
    new-found (q, c, r) =
        gives-some s (part_of s 0) _ {hs = []} {b = q} (rw (new-form s h, v.found, r))
        (clause-placed s b b (length s) 8 [] q v.ends v.ends (omega arith) r (rw (drop-length s) (body-words 8 (drop b s) r)))

    pub new-ended : (o : std.Option Part) → Ended s None b b o → Gives s (part_of s 0) o
    new-ended None k = gives_none s (part_of s 0) (new-unended k)
    new-ended (Some p) (k, e) = rw e (new-found k)

-- `next` LINES
spaced-list : (t : List ℕ) {A : Type 0} (f : List Word × List ℕ → Read A) → (after (bytes " ") t >>= λ u. list u >>= f) ≡ (after_space list t >>= f)
spaced-list t f = ⊎_elim (λ q. rw q) (λ (u, q). rw q) (found (after (bytes " ") t))

abbrev next_tail : Word → List ℕ → Read Form
next_tail x t = after_space list t >>= λ p. after_space list p.1 >>= λ m. body m.1 >>= λ q. some (next_form x p.0 m.0 q.0, q.1)

next-tail : (x : Word) (t : List ℕ)
    → (after (bytes " ") t >>= λ u. list u >>= λ p. after (bytes " ") p.1 >>= λ z. list z >>= λ m. body m.1 >>= λ q. some (next_form x p.0 m.0 q.0, q.1)) ≡ next_tail x t
next-tail x t = ⊎_elim
    (λ q. rw q)
    (λ (u, q). rw q (⊎_elim (λ k. rw k) (λ (p, k). rw k (spaced-list p.1 (λ m. body m.1 >>= λ r. some (next_form x p.0 m.0 r.0, r.1)))) (found (list u))))
    (found (after (bytes " ") t))

module _ (s : List ℕ) (l : 6 ≤ length s) (h : after (bytes "(next ") s ≡ some (drop 6 s)) where
  pub next-nameless : name (drop 6 s) ≡ none → part_of s 0 ≡ none
  unfolding part_of next_rest
  next-nameless k = rw (next-form s h, k)

  module _ {x : ℕ} (v : NameEnd s 6 x) where
    next-rest : next_rest (drop 6 s) ≡ next_tail (slice 6 x s) (drop x s)
    unfolding next_rest
    next-rest = rw v.read (next-tail (slice 6 x s) (drop x s))

    pub next-listless : after_space list (drop x s) ≡ none → part_of s 0 ≡ none
    unfolding part_of
    next-listless k = rw (next-form s h, next-rest, k)

    module _ {i : ℕ} (pl : EndsAt (after_space list) s x i) where
      pub next-half : after_space list (drop i s) ≡ none → part_of s 0 ≡ none
      unfolding part_of
      next-half k = rw (next-form s h, next-rest, pl.found, k)

      module _ {b : ℕ} (mi : EndsAt (after_space list) s i b) where
        next-unended : Closes (rest literal 8) s b false → part_of s 0 ≡ none
        unfolding part_of body
        next-unended k = rw (next-form s h, next-rest, pl.found, mi.found, not-to-end (rest literal 8) s b k (next_form (slice 6 x s) pl.value mi.value))

        next-found : Closes (rest literal 8) s b true → Gives s (part_of s 0) (Some (record { head = Some (record { from = 6; to = x }); from = b; body = b; end = length s }))
        unfolding part_of body
        next-found (q, j, u) =
            gives-some s (part_of s 0) _ {hs = slice 6 x s ∷ []} {b = q} (rw (next-form s h, next-rest, pl.found, mi.found, u))
            (next-placed s x b (length s) 8 q v.begins v.ends j (omega arith) (rw (drop-length s) u))

        pub next-ended : (o : std.Option Part) → Ended s (Some (record { from = 6; to = x })) b b o → Gives s (part_of s 0) o
        next-ended None k = gives_none s (part_of s 0) (next-unended k)
        next-ended (Some p) (k, e) = rw e (next-found k)

-- STAGES
abbrev stage_at : Span → Part
stage_at r = record { head = None; from = r.from; body = r.from; end = r.to }

stage-gives : (s : List ℕ) (o : Option (List Literal)) (r : Span) → Stands stage s o (Some r) → Gives s (o >>= λ q. some ([], q)) (Some (stage_at r))
unfolding stage
stage-gives s none r h = h
stage-gives s (some q) r (a, b, c) = record {
  head = tt;
  from = omega arith;
  body = omega arith;
  end = b;
  row = bracket-row literal 7 (drop r.from s) c;
  words = words-between s r.from r.to (variables q) (omega arith) (stage-words 7 (drop r.from s) c);
}

stage-none : (s : List ℕ) (o : Option (List Literal)) → Stands stage s o None → ◌>>=◌ {B = parts.Part} o (λ q. some ([], q)) ≡ none
stage-none s none h = refl
stage-none s (some q) h = absurd h

module _ (s : List ℕ) {n : ℕ} (y : n ≡ 0 → ⊥) (l : 5 ≤ length s) (h : after (bytes "(ask ") s ≡ some (drop 5 s)) where
  pub ask-stageless : stage (drop 5 s) ≡ none → part_of s n ≡ none
  unfolding part_of ask_rest
  ask-stageless k = rw (ask-form s h, k)

  module _ {i : ℕ} (v : EndsAt stage s 5 i) where
    pub ask-unended : Closes (rest stage 3) s i false → part_of s n ≡ none
    unfolding part_of ask_rest
    ask-unended k = rw (ask-form s h, v.found, not-to-end (rest stage 3) s i k (λ qs. ask_form (v.value ∷ qs)))

    module _ (w : Closes (rest stage 3) s i true) where
      stages : List (List Literal)
      stages = v.value ∷ w.0

      row : Row stage (drop 4 s) stages
      unfolding stages
      row =
          let front : drop 4 s ≡ 32 ∷ drop 5 s = ap (drop 4) (after-inverse (bytes "(ask ") s h) in
          (32, drop 5 s, drop i s, front, subst (λ (t : List ℕ). after (bytes ")") t ≡ none) (sym front) refl, v.found, rest-row stage 3 (drop i s) w.2)

      part : part_of s n ≡ (pick stages (n - 1) >>= λ q. some ([], q))
      unfolding part_of ask_rest stages
      part = rw (ask-form s h, v.found, w.2, ne_eqb n 0 y)

      pub ask-few : ((qs : List (List Literal)) → Row stage (drop 4 s) qs → Stands stage s (pick qs (n - 1)) None) → part_of s n ≡ none
      ask-few g = part ∙ stage-none s (pick stages (n - 1)) (g stages row)

      pub ask-found : {r : Span} → ((qs : List (List Literal)) → Row stage (drop 4 s) qs → Stands stage s (pick qs (n - 1)) (Some r)) → Gives s (part_of s n) (Some (stage_at r))
      ask-found {r} g = subst (λ (t : Option parts.Part). Gives s t (Some (stage_at r))) (sym part) (stage-gives s (pick stages (n - 1)) r (g stages row))
