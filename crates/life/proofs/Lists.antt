-- Tests that agree with statements: membership, absence, and the first place.
-- Assumes nothing.
use Rattle.std.proofs.Common.{◌≡◌, ℕ, suc, Bool, true, false, ◌⊎◌, ◌↔◌, List, [], ◌∷◌, ◌++◌, is_some, nat_eq, Some, None, Decides, Option, flat_map, bytes_eq, sym, refl, ap, ◌∙◌, subst, inl, inr, ⊎_elim}
use Rattle.std.proofs.lemmas.Bool.{cases_Bool, or_cases, or_left, or_right}
use Rattle.std.proofs.lemmas.Bool.Decides.{Decides-eqb, Decides-or}
use Rattle.std.proofs.lemmas.Slice.Eq.{bytes_eq-Decides}
use Rattle.std.specs.List.{list_any}
use Rattle.unfolding.specs.Lists.{Mem, Distinct}
use Rattle.life.specs.Lists.{AnyOf, is_in, first_place, FirstAt}

pub not_both : {b : Bool} → b ≡ true → b ≡ false → ⊥
not_both {b} p q = absurd cc

pub not_some_none : {A : Type 0} {x : Option A} (a : A) → x ≡ Some a → x ≡ None → ⊥
not_some_none {A} {x} a p q = absurd cc

pub same_some : {A : Type 0} {x : Option A} {a b : A} → x ≡ Some a → x ≡ Some b → a ≡ b
same_some {A} {x} {a} {b} p q = cc

pub split_option : {A : Type 0} (x : Option A) → (x ≡ None) ⊎ ((a : A) × (x ≡ Some a))
split_option None = inl refl
split_option (Some a) = inr (a, refl)

pub is_none_if : {A : Type 0} (x : Option A) → is_some x ≡ false → x ≡ None
is_none_if None e = refl
is_none_if (Some a) e = absurd cc

pub is_some_if : {A : Type 0} (x : Option A) → is_some x ≡ true → (a : A) × (x ≡ Some a)
is_some_if None e = absurd cc
is_some_if (Some a) e = (a, refl)

pub none_not_some : {A : Type 0} (x : Option A) → x ≡ None → is_some x ≡ false
none_not_some x e = ap is_some e

-- a choice made
pub chosen_true : {A : Type 0} (t : Bool) (x y : A) → t ≡ true → (elim t as (λ _. A) [ true ↦ x | false ↦ y ]) ≡ x
chosen_true t x y e = ap (λ (v : Bool). elim v as (λ _. _) [ true ↦ x | false ↦ y ]) e

pub chosen_false : {A : Type 0} (t : Bool) (x y : A) → t ≡ false → (elim t as (λ _. A) [ true ↦ x | false ↦ y ]) ≡ y
chosen_false t x y e = ap (λ (v : Bool). elim v as (λ _. _) [ true ↦ x | false ↦ y ]) e

pub never : Decides false ⊥
never = (λ e. absurd cc, λ x. absurd x)

-- two tests that pass together are one
pub same_truth : (x y : Bool) → (x ≡ true → y ≡ true) → (y ≡ true → x ≡ true) → x ≡ y
same_truth true y f g = sym (f refl)
same_truth false true f g = g refl
same_truth false false f g = refl

pub bytes_same : (xs ys : List ℕ) → bytes_eq xs ys ≡ true → xs ≡ ys
bytes_same xs ys = (bytes_eq-Decides xs ys).0

pub same_bytes : (xs ys : List ℕ) → xs ≡ ys → bytes_eq xs ys ≡ true
same_bytes xs ys = (bytes_eq-Decides xs ys).1

-- a test that decides sameness decides membership
pub mem_tells : {A : Type 0} (same : A → A → Bool) → ((x y : A) → Decides (same x y) (x ≡ y)) → (x : A) (xs : List A) → Decides (list_any (same x) xs) (Mem x xs)
mem_tells same tells x [] = never
mem_tells same tells x (y ∷ ys) = Decides-or (same x y) (list_any (same x) ys) (tells x y) (mem_tells same tells x ys)

pub in_mem : (o : ℕ) (os : List ℕ) → is_in o os ≡ true → Mem o os
in_mem o os = (mem_tells nat_eq Decides-eqb o os).0

pub mem_in : (o : ℕ) (os : List ℕ) → Mem o os → is_in o os ≡ true
mem_in o os = (mem_tells nat_eq Decides-eqb o os).1

pub cases_mem : (o : ℕ) (os : List ℕ) → Mem o os ⊎ (Mem o os → ⊥)
cases_mem o os = ⊎_elim (λ e. inl (in_mem o os e)) (λ e. inr (λ m. not_both (mem_in o os m) e)) (cases_Bool (is_in o os))

pub mem_left : {A : Type 0} (x : A) (xs ys : List A) → Mem x xs → Mem x (xs ++ ys)
mem_left x [] ys m = absurd m
mem_left x (y ∷ xs) ys (inl e) = inl e
mem_left x (y ∷ xs) ys (inr m) = inr (mem_left x xs ys m)

pub mem_right : {A : Type 0} (x : A) (xs ys : List A) → Mem x ys → Mem x (xs ++ ys)
mem_right x [] ys m = m
mem_right x (y ∷ xs) ys m = inr (mem_right x xs ys m)

pub mem_split : {A : Type 0} (x : A) (xs ys : List A) → Mem x (xs ++ ys) → Mem x xs ⊎ Mem x ys
mem_split x [] ys m = inr m
mem_split x (y ∷ xs) ys (inl e) = inl (inl e)
mem_split x (y ∷ xs) ys (inr m) = ⊎_elim (λ l. inl (inr l)) (λ r. inr r) (mem_split x xs ys m)

-- what some list of a list of lists holds
pub flat_mem : {A B : Type 0} (f : A → List B) (xs : List A) (y : B) → Mem y (flat_map f xs) ↔ AnyOf (λ x. Mem y (f x)) xs
flat_mem f [] y = (λ m. absurd m, λ x. absurd x.1)
flat_mem f (x ∷ xs) y =
    let later = flat_mem f xs y in (
      λ m. ⊎_elim (λ k. (x, inl refl, k)) (λ k. let z = later.0 k in (z.0, inr z.1, z.2)) (mem_split y (f x) (flat_map f xs) m),
      λ z.
          ⊎_elim
          (λ e. mem_left y (f x) (flat_map f xs) (subst (λ v. Mem y (f v)) e z.2))
          (λ m. mem_right y (f x) (flat_map f xs) (later.1 (z.0, m, z.2)))
          z.1,
    )

-- a test that decides P decides whether some element has it
pub any_tells : {A : Type 0} (test : A → Bool) (P : A → Type 0) → ((x : A) → Decides (test x) (P x)) → (xs : List A) → Decides (list_any test xs) (AnyOf P xs)
any_tells test P tells [] = (λ e. absurd cc, λ x. absurd x.1)
any_tells test P tells (x ∷ xs) =
    let later = any_tells test P tells xs in (
      λ e. ⊎_elim (λ y. (x, inl refl, (tells x).0 y)) (λ y. let z = later.0 y in (z.0, inr z.1, z.2)) (or_cases (test x) (list_any test xs) e),
      λ z.
          ⊎_elim
          (λ e. or_left (test x) (list_any test xs) ((tells x).1 (subst P e z.2)))
          (λ m. or_right (test x) (list_any test xs) (later.1 (z.0, m, z.2)))
          z.1,
    )

pub distinct_append : (xs ys : List ℕ) → Distinct xs → Distinct ys → ((o : ℕ) → Mem o xs → Mem o ys → ⊥) → Distinct (xs ++ ys)
distinct_append [] ys p q apart = q
distinct_append (x ∷ xs) ys p q apart =
    (λ m. ⊎_elim p.0 (apart x (inl refl)) (mem_split x xs ys m), distinct_append xs ys p.1 q (λ o m. apart o (inr m)))

-- the first place of a test that agrees with P on the list
module _ {A : Type 0} (test : A → Bool) (P : A → Type 0) where
  abbrev pub Agree : List A → Type 0
  Agree xs = (x : A) → Mem x xs → (test x ≡ true) ↔ P x

  pub place_yes : (i : ℕ) (x : A) (xs : List A) → test x ≡ true → first_place test i (x ∷ xs) ≡ Some i
  place_yes i x xs = chosen_true (test x) _ _

  pub place_no : (i : ℕ) (x : A) (xs : List A) → test x ≡ false → first_place test i (x ∷ xs) ≡ first_place test (suc i) xs
  place_no i x xs = chosen_false (test x) _ _

  pub place_first : (xs : List A) → Agree xs → (i j : ℕ) → (first_place test i xs ≡ Some j) ↔ FirstAt P i xs j
  place_first [] g i j = (λ e. not_some_none j e refl, λ x. absurd x)
  place_first (x ∷ xs) g i j =
      let later = place_first xs (λ y m. g y (inr m)) (suc i) j in
      let here = g x (inl refl) in
      ⊎_elim
      (λ y. (
        λ e. inl (same_some (place_yes i x xs y) e, here.0 y),
        ⊎_elim (λ z. place_yes i x xs y ∙ ap (λ k. Some k) z.0) (λ z. absurd (z.0 (here.0 y))),
      ))
      (λ n. (
        λ e. inr (λ p. not_both (here.1 p) n, later.0 (sym (place_no i x xs n) ∙ e)),
        ⊎_elim (λ z. absurd (not_both (here.1 z.1) n)) (λ z. place_no i x xs n ∙ later.1 z.1),
      ))
      (cases_Bool (test x))

  pub place_some : (xs : List A) → Agree xs → (i : ℕ) → ((j : ℕ) × (first_place test i xs ≡ Some j)) ↔ AnyOf P xs
  place_some [] g i = (λ e. absurd (not_some_none e.0 e.1 refl), λ x. absurd x.1)
  place_some (x ∷ xs) g i =
      let later = place_some xs (λ y m. g y (inr m)) (suc i) in
      let here = g x (inl refl) in
      ⊎_elim
      (λ y. (λ e. (x, inl refl, here.0 y), λ z. (i, place_yes i x xs y)))
      (λ n. (
        λ e. let z = later.0 (e.0, sym (place_no i x xs n) ∙ e.1) in (z.0, inr z.1, z.2),
        λ z.
            let z' = later.1 (z.0, ⊎_elim (λ q. absurd (not_both (here.1 (subst P q z.2)) n)) (λ m. m) z.1, z.2) in
            (z'.0, place_no i x xs n ∙ z'.1),
      ))
      (cases_Bool (test x))
