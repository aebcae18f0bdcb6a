-- Laws of the reader of the `ask` line.
use mathlib.Core.Path.{◌≡◌, subst, ◌∙◌}
use mathlib.Core.List.{List, [], ◌∷◌, ◌++◌, append_assoc}
use mathlib.Core.Option.{none}
use Prim.Native.Nat.{ℕ, ◌+◌, ◌-◌}
use native.Mathlib.Omega.{arith}
use lib.ListN.{drop, length-append}
use Rattle.model.specs.declared.Model.{Model}
use Rattle.grammar.specs.Bytes.{bytes}
use Rattle.grammar.specs.Forms as forms
use Rattle.grammar.specs.Shapes.{after, stage}
use Rattle.grammar.specs.Declarations.{Declared}
use Rattle.grammar.proofs.Reading.{Reading, reading-more, reading-closed}
use Rattle.text_scan.specs.Found.{BytesEnd}
use Rattle.text_rows.specs.declared.Taken.{Taken}
use Rattle.text_literals.specs.Frames.{Framed}
use Rattle.text_stages.specs.Questions as questions
use Rattle.text_stages.specs.Questions.{Asked, Added}
use Rattle.text_bodies.specs.Bodies.{StageEnd}
use Rattle.text_ask.specs.Asks.{Extends, StagesEnd, carrying}

-- WHAT STAYS of a record, stage after stage
pub aside-more : {m u v : Model} → questions.Aside m u → questions.Aside u v → questions.Aside m v
aside-more a b = record {
  relations = b.relations ∙ a.relations;
  names = b.names ∙ a.names;
  clauses = b.clauses ∙ a.clauses;
  clausecount = b.clausecount ∙ a.clausecount;
  lines = b.lines ∙ a.lines;
}

pub aside-carrying : {m v : Model} {cells : List ℕ} → questions.Aside m v → questions.Aside m (carrying v cells)
aside-carrying a = record { relations = a.relations; names = a.names; clauses = a.clauses; clausecount = a.clausecount; lines = a.lines }

-- READING STAGES
pub record StagesSo (text : List ℕ) (D : Declared) (at n : ℕ) (s : Asked) (m : Model) (g : Asked) (h : Model) (i k : ℕ) : Type 0 where
  pub more : List (List forms.Literal)
  pub reading : Reading stage text at n more i k
  pub holds : Extends text D s m more g h

module _ {text : List ℕ} {D : Declared} {at n : ℕ} {s g : Asked} {m u : Model} {i k : ℕ} (so : StagesSo text D at n s m g u i k) where
  pub stages-more : {b : Taken Framed} {r : Asked} {v : Model} {o j : ℕ} → j + 1 ≡ k → after (bytes ")") (drop i text) ≡ none → BytesEnd text i (bytes " ") o
      → StageEnd text D o b → Added text g u b r v → StagesSo text D at n s m r v b.end j
  stages-more {b} {o = o} {j} h p q e ad = record {
    more = so.more ++ (e.q ∷ []);
    reading = let z : k - 1 ≡ j = omega arith in subst (Reading stage text at n (so.more ++ (e.q ∷ [])) b.end) z (reading-more so.reading (omega arith) p (rw q.begins at q.read) (omega (arith, q.begins, e.begins)) e.ends (rw q.begins at e.read));
    holds = λ m₀ qs l so₀. let c = length-append so.more (e.q ∷ []) in rw (← append_assoc) (ad.added D m₀ (qs ++ so.more) e.q (omega (arith, length-append qs so.more)) (so.holds m₀ qs (omega arith) so₀) e.holds);
  }

  pub stages-closed : {e : ℕ} → BytesEnd text i (bytes ")") e → StagesEnd text D at n s m (record { kept = g; end = e }) u
  stages-closed p = record {
    more = so.more;
    ends = p.ends;
    few = omega (arith, so.reading.count);
    read = rw p.begins (reading-closed so.reading (rw p.begins at p.read));
    holds = so.holds;
  }
