-- Lists, atoms, stages and literals that do not read, since what opens them or their first part does not.
use mathlib.Core.Path.{◌≡◌}
use mathlib.Core.List.{List}
use mathlib.Core.Option.{none}
use Prim.Native.Nat.{ℕ}
use lib.ListN.{drop}
use Rattle.grammar.specs.Bytes.{bytes}
use Rattle.grammar.specs.Shapes.{after, name, bracket, atom, literal, list, stage}
use Rattle.text_scan.specs.Found.{BytesEnd}

module _ (text : List ℕ) (at : ℕ) where
  module _ (no : after (bytes "()") (drop at text) ≡ none) where
    pub list-unopened : after (bytes "(") (drop at text) ≡ none → list (drop at text) ≡ none
    unfolding list bracket
    list-unopened h = rw (no, h)

    pub list-nameless : {i : ℕ} → BytesEnd text at (bytes "(") i → name (drop i text) ≡ none → list (drop at text) ≡ none
    unfolding list bracket
    list-nameless h k = rw (no, h.read, k)

  pub atom-unopened : after (bytes "(") (drop at text) ≡ none → atom (drop at text) ≡ none
  unfolding atom
  atom-unopened h = rw h

  pub atom-nameless : {i : ℕ} → BytesEnd text at (bytes "(") i → name (drop i text) ≡ none → atom (drop at text) ≡ none
  unfolding atom
  atom-nameless h k = rw (h.read, k)

  pub stage-unopened : after (bytes "(") (drop at text) ≡ none → stage (drop at text) ≡ none
  unfolding stage bracket
  stage-unopened h = rw h

  pub stage-empty : {i : ℕ} → BytesEnd text at (bytes "(") i → literal (drop i text) ≡ none → stage (drop at text) ≡ none
  unfolding stage bracket
  stage-empty h k = rw (h.read, k)

  pub not-missing : {i : ℕ} → BytesEnd text at (bytes "(not ") i → atom (drop i text) ≡ none → literal (drop at text) ≡ none
  unfolding literal
  not-missing h z = rw (h.read, z)
