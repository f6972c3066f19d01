-- Ordinal answers the last field of a name.
-- Assumes nothing.
use Rattle.std.proofs.Common.{◌≡◌, ℕ, suc, ◌+◌, Bool, true, false, List, [], ◌∷◌, ◌++◌, length, Some, None, Decides, Option, sym, refl, ap, ◌∙◌, ⊎_elim, arith}
use Rattle.std.proofs.lemmas.Bool.{cases_Bool, leb-true, le-leb}
use Rattle.std.proofs.lemmas.Bool.Decides.{Decides-and}
use Rattle.std.proofs.lemmas.Slice.Eq.{bytes_eq-Decides}
use Rattle.std.specs.Bool.{then_some}
use Rattle.std.specs.Option.{option_or}
use Rattle.catalog.specs.Catalog.{Each}
use Rattle.keys.specs.declared.span.Span.{Span}
use Rattle.keys.specs.Spans.{span_bytes, span_end}
use Rattle.life.specs.HostCalls.{inside}
use Rattle.life.specs.Ordinal.{last_place, same_name, Inside, SameName, OrdinalLaw}
use Rattle.life.proofs.Lists.{not_both, not_some_none, same_some, split_option}

module _ {A : Type 0} (test : A → Bool) (P : A → Type 0) (tells : (x : A) → Decides (test x) (P x)) where
  abbrev Lacks : List A → Type 0
  Lacks xs = Each (λ x. P x → ⊥) xs

  -- counted from i
  abbrev Last : ℕ → ℕ → List A → Type 0
  Last i j xs = (before : List A) × (x : A) × (behind : List A) × (xs ≡ before ++ x ∷ behind) × (j ≡ i + length before) × P x × Lacks behind

  or_none : (x y : Option ℕ) → option_or x y ≡ None → (x ≡ None) × (y ≡ None)
  or_none None y e = (refl, e)
  or_none (Some a) y e = absurd (not_some_none a refl e)

  here_none : (t : Bool) (i : ℕ) → then_some t i ≡ None → t ≡ false
  here_none true i e = absurd (not_some_none i refl e)
  here_none false i e = refl

  here_some : (t : Bool) (i j : ℕ) → then_some t i ≡ Some j → (t ≡ true) × (i ≡ j)
  here_some true i j e = (refl, same_some refl e)
  here_some false i j e = absurd (not_some_none j e refl)

  none_lacks : (i : ℕ) (xs : List A) → last_place test i xs ≡ None → Lacks xs
  none_lacks i [] e = tt
  none_lacks i (x ∷ xs) e =
      let z = or_none (last_place test (suc i) xs) (then_some (test x) i) e in
      (λ p. not_both ((tells x).1 p) (here_none (test x) i z.1), none_lacks (suc i) xs z.0)

  lacks_none : (i : ℕ) (xs : List A) → Lacks xs → last_place test i xs ≡ None
  lacks_none i [] n = refl
  lacks_none i (x ∷ xs) n =
      ⊎_elim (λ y. absurd (n.0 ((tells x).0 y))) (λ z. λ k. option_or (lacks_none (suc i) xs n.1 k) (then_some (z k) i)) (cases_Bool (test x))

  some_last : (i j : ℕ) (xs : List A) → last_place test i xs ≡ Some j → Last i j xs
  some_last i j [] e = absurd (not_some_none j e refl)
  some_last i j (x ∷ xs) e =
      ⊎_elim
      (λ z.
      let h = here_some (test x) i j (sym (ap (λ v. option_or v (then_some (test x) i)) z) ∙ e) in
      ([], x, xs, refl, omega (arith, h.1), (tells x).0 h.0, none_lacks (suc i) xs z))
      (λ z.
      let same : z.0 ≡ j = same_some refl (sym (ap (λ v. option_or v (then_some (test x) i)) z.1) ∙ e) in
      let l = some_last (suc i) z.0 xs z.1 in
      (x ∷ l.0, l.1, l.2, ap (λ v. x ∷ v) l.3, omega (arith, same, l.4), l.5, l.6))
      (split_option (last_place test (suc i) xs))

  found_at : (i : ℕ) (before : List A) (x : A) (behind : List A) → P x → Lacks behind →
      last_place test i (before ++ x ∷ behind) ≡ Some (i + length before)
  found_at i [] x behind p n = (λ k. option_or (lacks_none (suc i) behind n k) (then_some ((tells x).1 p k) i)) ∙ ap (λ v. Some v) from_here
    where
      from_here : i ≡ i + 0
      from_here = omega arith
  found_at i (y ∷ before) x behind p n = ap (λ v. option_or v (then_some (test y) i)) (found_at (suc i) before x behind p n) ∙ ap (λ v. Some v) further
    where
      further : suc i + length before ≡ i + suc (length before)
      further = omega arith

  last_some : (i j : ℕ) (xs : List A) → Last i j xs → last_place test i xs ≡ Some j
  last_some i j xs l = ap (last_place test i) l.3 ∙ found_at i l.0 l.1 l.2 l.5 l.6 ∙ ap (λ v. Some v) (sym l.4)

same_tells : (host : List ℕ) (s t : Span) → Decides (same_name host s t) (SameName host s t)
same_tells host s t =
    let at : (u : Span) → Decides (inside host u) (Inside host u) = λ u. (leb-true (span_end u) (length host), le-leb (span_end u) (length host)) in
    let d = Decides-and _ _ (at s) (Decides-and _ _ (at t) (bytes_eq-Decides (span_bytes host s) (span_bytes host t))) in
    (λ e. let x = d.0 e in (x.0, x.1.0, x.1.1), λ x. d.1 (x.0, (x.1, x.2)))

pub ordinal_law : OrdinalLaw
ordinal_law host names asked = (
  λ i. (
    λ e.
        let l = some_last test P tells 0 i names e in
        record { before = l.0; it = l.1; behind = l.2; here = l.3; place = omega (arith, l.4); has = l.5; last = l.6 },
    λ l. last_some test P tells 0 i names (l.before, l.it, l.behind, l.here, omega (arith, l.place), l.has, l.last),
  ),
  (none_lacks test P tells 0 names, lacks_none test P tells 0 names),
)
  where
    test : Span → Bool
    test n = same_name host asked n

    P : Span → Type 0
    P n = SameName host asked n

    tells : (n : Span) → Decides (test n) (P n)
    tells n = same_tells host asked n
