-- A text without a line has no byte.
-- Assumes nothing.
use Rattle.std.proofs.Common.{◌≡◌, ℕ, List, [], ◌∷◌, length, refl, arith}
use Rattle.script.specs.Words.{lines, onto_first}

onto_some : (b : ℕ) (ls : List (List ℕ)) → onto_first b ls ≡ [] → ⊥
onto_some b [] e = cc
onto_some b (l ∷ ls) e = cc

pub no_bytes : (s : List ℕ) → lines s ≡ [] → length s ≡ 0
no_bytes [] e = refl
no_bytes (b ∷ bs) e = grind (arith, onto_some b (lines bs))
