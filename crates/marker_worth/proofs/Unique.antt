-- A HAND-IN HAS ONE MARK.
use mathlib.Core.Path.{◌≡◌, refl, sym, ap, ap₂, ◌∙◌}
use mathlib.Core.List.{List, [], ◌∷◌}
use Prim.Native.Nat.{ℕ, zero, suc}
use native.Mathlib.Omega.{arith}
use mathlib.Core.Bool.{Bool}
use Rattle.std.specs.Prelude.{Result, Ok, Err}
use Rattle.rows.specs.declared.Refusal.{Refusal}
use Rattle.rows.proofs.Laws.{same-refusal}
use Rattle.semantics.specs.Models.{Program, Question}
use Rattle.semantics.specs.Runs.{Place, Session, start, after, Plays}
use Rattle.semantics.proofs.Paper.{same-as-paper}
use Rattle.handin.specs.Handins.{Handin, says-no, says-yes, unreadable}
use Rattle.marker_worth.specs.declared.Mark.{Mark}
use Rattle.marker_worth.specs.declared.Mark.TheVariants.{Unreadable, Right, Other, Breaks}
use Rattle.marker_worth.specs.Worth.{BreaksAt, Worth}

module _ (P : Program) (Q : Question) where
  -- a run that is played to its end breaks nowhere
  unbroken : (s : Session) (ps : List Place) (k : ℕ) → Plays P Q s ps → BreaksAt P Q s ps k → ⊥
  unbroken s [] zero h (l, (t, e, stuck)) = stuck (ap (λ (x : Session). x.met) (sym e) ∙ h)
  unbroken s [] (suc k) h (l, b) = absurd (omega arith)
  unbroken s (p ∷ ps) zero h (l, (t, e, stuck)) = stuck (rw (← e) h.0)
  unbroken s (p ∷ ps) (suc k) h (l, (t, e, stuck)) = unbroken (after P Q s p) ps k h.1 (omega arith, (t, e.1, stuck))

  -- a run breaks at one place
  one-break : (s : Session) (ps : List Place) (j k : ℕ) → BreaksAt P Q s ps j → BreaksAt P Q s ps k → j ≡ k
  one-break s ps zero zero g h = refl
  one-break s [] (suc j) k (l, g) h = absurd (omega arith)
  one-break s [] zero (suc k) g (l, h) = absurd (omega arith)
  one-break s (p ∷ ps) zero (suc k) (l, (t, e, stuck)) h = absurd (stuck (rw (← e) h.1.1.0))
  one-break s (p ∷ ps) (suc j) zero g (l, (t, e, stuck)) = absurd (stuck (rw (← e) g.1.1.0))
  one-break s (p ∷ ps) (suc j) (suc k) (l, (t, e, stuck)) (l', (t', e', stuck')) =
      ap suc (one-break (after P Q s p) ps j k (omega arith, (t, e.1, stuck)) (omega arith, (t', e'.1, stuck')))

  pub one-worth : (h : Handin) (a b : Result Mark Refusal) → Worth P Q h a → Worth P Q h b → a ≡ b
  one-worth (unreadable at) a b g h = g ∙ sym h
  one-worth says-no (Ok Right) (Ok Right) g h = refl
  one-worth says-no (Ok Right) (Ok (Other r)) g h = absurd (g.0 h.1)
  one-worth says-no (Ok (Other r)) (Ok Right) g h = absurd (h.0 g.1)
  one-worth says-no (Ok (Other r)) (Ok (Other q)) g h = ap (λ (v : Bool). Ok (Other v)) (g.0 ∙ sym h.0)
  one-worth says-no (Ok Right) (Ok (Breaks k l)) g h = absurd h
  one-worth says-no (Ok Right) (Ok (Unreadable l)) g h = absurd h
  one-worth says-no (Ok Right) (Err y) g h = absurd (g.1 h.0)
  one-worth says-no (Ok (Other r)) (Ok (Breaks k l)) g h = absurd h
  one-worth says-no (Ok (Other r)) (Ok (Unreadable l)) g h = absurd h
  one-worth says-no (Ok (Other r)) (Err y) g h = absurd (g.2 h.0)
  one-worth says-no (Ok (Breaks k l)) b g h = absurd g
  one-worth says-no (Ok (Unreadable l)) b g h = absurd g
  one-worth says-no (Err x) (Ok Right) g h = absurd (h.1 g.0)
  one-worth says-no (Err x) (Ok (Other r)) g h = absurd (h.2 g.0)
  one-worth says-no (Err x) (Err y) g h = ap Err (same-refusal x y (g.1 ∙ sym h.1) (g.2 ∙ sym h.2))
  one-worth says-no (Err x) (Ok (Breaks k i)) g h = absurd h
  one-worth says-no (Err x) (Ok (Unreadable i)) g h = absurd h
  one-worth (says-yes first run) (Ok Right) (Ok Right) g h = refl
  one-worth (says-yes first run) (Ok Right) (Ok (Other r)) g h = absurd (h.1 ((same-as-paper P Q).1 (run, g)))
  one-worth (says-yes first run) (Ok Right) (Ok (Breaks k l)) g h = absurd (unbroken (start []) run k g h.1)
  one-worth (says-yes first run) (Ok (Other r)) (Ok Right) g h = absurd (g.1 ((same-as-paper P Q).1 (run, h)))
  one-worth (says-yes first run) (Ok (Other r)) (Ok (Other q)) g h = ap (λ (v : Bool). Ok (Other v)) (g.0 ∙ sym h.0)
  one-worth (says-yes first run) (Ok (Other r)) (Ok (Breaks k l)) g h = absurd (g.1 h.0)
  one-worth (says-yes first run) (Ok (Breaks k l)) (Ok Right) g h = absurd (unbroken (start []) run k h g.1)
  one-worth (says-yes first run) (Ok (Breaks k l)) (Ok (Other r)) g h = absurd (h.1 g.0)
  one-worth (says-yes first run) (Ok (Breaks k l)) (Ok (Breaks j i)) g h =
      let e = one-break (start []) run k j g.1 h.1 in
      ap Ok (ap₂ {C = Mark} Breaks e (omega (arith, e, g.2, h.2)))
  one-worth (says-yes first run) (Ok Right) (Ok (Unreadable l)) g h = absurd h
  one-worth (says-yes first run) (Ok Right) (Err y) g h = absurd (unbroken (start []) run h.0.0 g h.0.1)
  one-worth (says-yes first run) (Ok (Other r)) (Ok (Unreadable l)) g h = absurd h
  one-worth (says-yes first run) (Ok (Other r)) (Err y) g h = absurd (g.2 h.1)
  one-worth (says-yes first run) (Ok (Breaks k i)) (Ok (Unreadable l)) g h = absurd h
  one-worth (says-yes first run) (Ok (Breaks k i)) (Err y) g h = absurd (g.3 h.1)
  one-worth (says-yes first run) (Ok (Unreadable l)) b g h = absurd g
  one-worth (says-yes first run) (Err x) (Ok Right) g h = absurd (unbroken (start []) run g.0.0 h g.0.1)
  one-worth (says-yes first run) (Err x) (Ok (Other r)) g h = absurd (h.2 g.1)
  one-worth (says-yes first run) (Err x) (Ok (Breaks k i)) g h = absurd (h.3 g.1)
  one-worth (says-yes first run) (Err x) (Err y) g h = ap Err (same-refusal x y (g.2 ∙ sym h.2) (g.3 ∙ sym h.3))
  one-worth (says-yes first run) (Err x) (Ok (Unreadable i)) g h = absurd h
