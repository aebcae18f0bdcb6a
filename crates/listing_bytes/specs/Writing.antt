-- WRITING bytes into a lent slice.
use Rattle.std.specs.Prelude.{◌≡◌, List, ◌++◌, ℕ, ◌+◌, ◌≤◌, length, take, drop}

-- d with the bytes s from place p on
abbrev pub written : List ℕ → ℕ → List ℕ → List ℕ
written d p s = take p d ++ s ++ drop (p + length s) d

-- a part of a line is written: d, which has room for it, becomes e, and q is the place after it
pub record Writes (d : List ℕ) (p : ℕ) (s : List ℕ) (q : ℕ) (e : List ℕ) : Type 0 where
  pub room : p + length s ≤ length d
  pub next : q ≡ p + length s
  pub bytes : e ≡ written d p s

-- a line is written to the front: d has room for it, its length is n, the first n bytes of e are the line, and the rest is that of d
pub record WritesLine (d line : List ℕ) (n : ℕ) (e : List ℕ) : Type 0 where
  pub room : n ≤ length d
  pub count : n ≡ length line
  pub front : take n e ≡ line
  pub rest : drop n e ≡ drop n d
