-- WHAT RECORDS HOLD: the clauses and the stages of a model record, from the words of their lines.
use mathlib.Core.Path.{◌≡◌, refl, sym, ◌∙◌}
use mathlib.Core.Bool.{false}
use mathlib.Core.List.{List, [], ◌∷◌, ◌++◌, map}
use Prim.Native.Nat.{ℕ, ◌+◌, ◌≤◌}
use lib.ListN.{length, take}
use Rattle.semantics.specs.Labels.{set_of}
use Rattle.model.specs.declared.Action.TheVariants.{Rule, New, Next}
use Rattle.model.specs.declared.Stage.{Stage}
use Rattle.model.specs.declared.Model.{Model}
use Rattle.model.specs.Records.{line_of, stage_body, stage_of}
use Rattle.grammar.specs.Bytes.{Word}
use Rattle.grammar.specs.Forms.{Atom, Literal, rule_form, new_form, next_form}
use Rattle.grammar.specs.Declarations.{Declared, extend, place, variables}
use Rattle.grammar.specs.Rows.{body_fault, repeats}
use Rattle.grammar.specs.Models.{code_of, codes, body_of, clause}
use Rattle.grammar.proofs.Words.{extend-new}
use Rattle.acceptance.specs.Represents.{HoldsStage}
use Rattle.acceptance.proofs.Words.{first-place, head-numbers}
use Rattle.acceptance.proofs.Scopes.{numbered-by-line}
use Rattle.acceptance.proofs.Questions.{Within}
use Rattle.acceptance.proofs.Stages.{names-numbers, body-renamed}

-- the variables of a line with the variables hs in its head
abbrev pub line_words : List Word → List Literal → List Word
line_words hs b = extend [] (hs ++ variables b)

-- THE CLAUSE that a line says, as the line of an action
module _ (D : Declared) (n : ℕ) where
  pub rule-said : (h : Atom) (b : List Literal) → repeats h.variables ≡ false
      → clause D n (rule_form h b) ≡ (n, line_of (Rule (code_of D h.name) (length h.variables)) (body_of D (line_words h.variables b) b)) ∷ []
  unfolding clause
  rule-said h b e = rw (head-numbers [] h.variables (variables b) (λ x q. refl) e)

  pub new-said : (l : List Word) (b : List Literal) → clause D n (new_form l b) ≡ (n, line_of (New (set_of (codes D l))) (body_of D (line_words [] b) b)) ∷ []
  unfolding clause
  new-said l b = refl

  pub next-said : (x : Word) (p m : List Word) (b : List Literal)
      → clause D n (next_form x p m b) ≡ (n, line_of (Next (set_of (codes D p)) (set_of (codes D m))) (body_of D (line_words (x ∷ []) b) b)) ∷ []
  unfolding clause
  next-said x p m b = rw (first-place x (variables b))

module _ (D : Declared) (m : Model) where
  -- A STAGE whose part of the literal row says q with the variables numbered within it, and whose numbers are theirs in the `ask` line
  module _ (vs : List Word) (t : Stage) (q : List Literal) (faultless : body_fault D q ≡ 0) (inside : Within vs (variables q))
      (says : stage_body m.literals t ≡ body_of D (line_words [] q) q) (counts : t.variables ≡ length (line_words [] q))
      (numbers : take t.variables t.numbers ≡ map (place vs) (line_words [] q)) where
    pub stage-said : stage_of m.literals t ≡ body_of D vs q
    stage-said = rw says (body-renamed D vs (line_words [] q) t.numbers (rw counts at numbers) q faultless (λ w e. extend-new w [] (variables q) e))

    pub holds-stage : t.first + t.count ≤ m.literalcount → t.variables ≤ 3 → length t.numbers ≡ 3 → HoldsStage m t
    holds-stage w f l = record {
      within = w;
      few = f;
      numbered = rw (says, counts) (numbered-by-line D [] q faultless);
      numbers = numbers ∙ sym (names-numbers vs D q faultless inside) ∙ rw stage-said;
      room = l;
    }
