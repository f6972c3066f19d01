-- A text that begins with a prefix, or does not.
-- Assumes nothing.
use Rattle.std.proofs.Common.{◌≡◌, ℕ, cond, eqb, List, [], ◌∷◌, length, take, drop, Some, None, sym, refl, ⊎_elim}
use Rattle.std.specs.Cmp.Lexicographic.{pointwise}
use Rattle.std.proofs.lemmas.Bool.{eq-eqb, ne_eqb, cases_eq}
use Rattle.script.specs.Words.{behind_prefix}

pub behind_prefix_is : (p s : List ℕ) → behind_prefix p s ≡ cond (pointwise eqb (take (length p) s) p) (Some (drop (length p) s)) None
behind_prefix_is [] s = refl
behind_prefix_is (b ∷ p) [] = refl
behind_prefix_is (b ∷ p) (c ∷ s) =
    ⊎_elim (λ (e : b ≡ c). rw (eq-eqb b c e, eq-eqb c b (sym e)) (behind_prefix_is p s)) (λ differ. rw (ne_eqb b c differ, ne_eqb c b (λ e. differ (sym e)))) (cases_eq b c)
