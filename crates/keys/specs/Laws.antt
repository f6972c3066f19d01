-- What each kind of key proves.
-- Assumes nothing.
use Rattle.std.specs.Prelude.{◌≡◌, ℕ, ◌≤◌, Bool, List, ◌++◌, length, Decides}

-- S is the type of stored keys, and Q that of what keys stand for
pub record Laws {S Q : Type 0} (stands : List ℕ → S → Q) (alike : Q → Q → Bool) (extent : S → ℕ) : Type 0 where
  -- alike says whether two are the same
  pub tells : (a b : Q) → Decides (alike a b) (a ≡ b)
  -- a text that grows at its end leaves each stored key that lies within it
  pub grows : (text more : List ℕ) (s : S) → extent s ≤ length text → stands (text ++ more) s ≡ stands text s
