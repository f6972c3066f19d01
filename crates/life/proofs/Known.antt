-- What is known, and what is found of it.
-- Assumes nothing.
use Rattle.std.proofs.Common.{◌≡◌, ℕ, true, false, ◌⊎◌, is_some, Some, Decides, sym, refl, ap, ◌∙◌, subst, inl, inr, ⊎_elim}
use Rattle.std.proofs.lemmas.Bool.{cases_Bool, cond-false, cond-true, or_cases, or_from, or_left, or_parts, or_right}
use Rattle.catalog.specs.Catalog.{Catalog}
use Rattle.unfolding.specs.Unfolding.{Tree, built, built_in, Unfolds}
use Rattle.life.specs.Rounds.{Descriptors, Known, Unknown, found}
use Rattle.life.specs.Walk.{answered}
use Rattle.life.proofs.Lists.{not_both, not_some_none, same_some, split_option, is_none_if, is_some_if, none_not_some}

pub cases_known : (b : Descriptors) (o : ℕ) → Known b o ⊎ Unknown b o
cases_known b o = ⊎_elim (λ y. inl (inl y)) (λ n. ⊎_elim (λ z. inr (n, z)) (λ d. inl (inr d)) (split_option (b o))) (cases_Bool (built_in o))

pub known_not : (b : Descriptors) (o : ℕ) → Known b o → Unknown b o → ⊥
known_not b o (inl y) u = not_both y u.0
known_not b o (inr d) u = not_some_none d.0 d.1 u.1

pub answered_tells : (b : Descriptors) (o : ℕ) → Decides (answered b o) (Known b o)
answered_tells b o = (
  λ t. ⊎_elim (λ y. inl y) (λ y. inr (is_some_if (b o) y)) (or_cases (built_in o) (is_some (b o)) t),
  ⊎_elim (or_left (built_in o) (is_some (b o))) (λ y. or_right (built_in o) (is_some (b o)) (ap is_some y.1)),
)

pub unanswered : (b : Descriptors) (o : ℕ) → answered b o ≡ false → Unknown b o
unanswered b o e = let h = or_parts (built_in o) (is_some (b o)) e in (h.0, is_none_if (b o) h.1)

pub unknown_unanswered : (b : Descriptors) (o : ℕ) → Unknown b o → answered b o ≡ false
unknown_unanswered b o u = or_from (built_in o) (is_some (b o)) u.0 (none_not_some (b o) u.1)

pub found_built : (b : Descriptors) (o : ℕ) → built_in o ≡ true → found b o ≡ Some (built o)
found_built b o e = cond-true (built_in o) (Some (built o)) (b o) e

pub found_held : (b : Descriptors) (o : ℕ) → built_in o ≡ false → found b o ≡ b o
found_held b o e = cond-false (built_in o) (Some (built o)) (b o) e

pub found_tells : (b : Descriptors) (o : ℕ) → Decides (is_some (found b o)) (Known b o)
found_tells b o =
    ⊎_elim
    (λ y. (λ _. inl y, λ _. ap is_some (found_built b o y)))
    (λ n. (
      λ e. let x = is_some_if (found b o) e in inr (x.0, sym (found_held b o n) ∙ x.1),
      ⊎_elim (λ y. absurd (not_both y n)) (λ h. ap is_some (found_held b o n ∙ h.1)),
    ))
    (cases_Bool (built_in o))

-- each descriptor is an unfolding
abbrev pub Right : Catalog → Descriptors → Type 0
Right c b = (o : ℕ) (t : Tree) → b o ≡ Some t → Unfolds c o t

pub found_right : (c : Catalog) (b : Descriptors) → Right c b → (o : ℕ) (t : Tree) → found b o ≡ Some t → Unfolds c o t
found_right c b right o t e =
    ⊎_elim
    (λ y. subst (Unfolds c o) (same_some (found_built b o y) e) (refl, y))
    (λ n. right o t (sym (found_held b o n) ∙ e))
    (cases_Bool (built_in o))
