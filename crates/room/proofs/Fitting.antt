-- The first table without room, and sums of sizes.
-- Assumes nothing.
use Rattle.std.proofs.Common.{◌≡◌, ℕ, zero, suc, ◌+◌, ◌<◌, ◌≤◌, Bool, true, false, ◌↔◌, length, ltb, Some, None, Decides, ◌⊎◌, sym, refl, ap, ◌∙◌, inl, inr, ⊎_elim, arith, length-append}
use Rattle.std.proofs.lemmas.Bool.{cases_Bool, cases_lt, cond-false, cond-true}
use Rattle.std.proofs.lemmas.Bool.Decides.{Decides-ltb}
use Rattle.std.proofs.lemmas.List.Sums.{sum_by-append}
use Rattle.catalog.specs.Catalog.{CatalogColumn}
use Rattle.catalog.specs.Shape.{Name}
use Rattle.keys.specs.Senses.{Pair}
use Rattle.unfolding.specs.Unfolding.{Tree}
use Rattle.life.proofs.Lists.{not_both, not_some_none, same_some}
use Rattle.room.specs.Sizes.{Sizes, at, parts_of, tree_bytes, first_from, first_full, HasRoom, LacksRoom, FirstFull, AllFits, FirstFullLaw, SumLaw, CapacityLaw}

from_there : (i k : ℕ) → i ≤ k → (i ≡ k) ⊎ (i < k)
from_there i k p = ⊎_elim (λ l. inr l) (λ g. inl (omega arith)) (cases_lt i k)

module _ (test : ℕ → Bool) where
  -- the first of n numbers from i on
  abbrev First : ℕ → ℕ → ℕ → Type 0
  First i n j = (i ≤ j) × (j < i + n) × (test j ≡ true) × ((k : ℕ) → i ≤ k → k < j → test k ≡ false)

  first_here : (i n : ℕ) → test i ≡ true → first_from test i (suc n) ≡ Some i
  first_here i n e = cond-true (test i) (Some i) (first_from test (suc i) n) e

  first_on : (i n : ℕ) → test i ≡ false → first_from test i (suc n) ≡ first_from test (suc i) n
  first_on i n e = cond-false (test i) (Some i) (first_from test (suc i) n) e

  same_test : (i j : ℕ) (v : Bool) → i ≡ j → test i ≡ v → test j ≡ v
  same_test i j v e t = sym (ap test e) ∙ t

  first_some : (n i j : ℕ) → first_from test i n ≡ Some j → First i n j
  first_some zero i j e = absurd (not_some_none j e refl)
  first_some (suc n) i j e =
      ⊎_elim
      (λ t.
      let z : i ≡ j = same_some (first_here i n t) e in
      (omega arith, omega arith, same_test i j true z t, λ k l m. absurd (omega arith)))
      (λ f.
      let r = first_some n (suc i) j (sym (first_on i n f) ∙ e) in
      let l : suc i ≤ j = r.0 in
      let m : j < suc i + n = r.1 in
      (omega arith, omega arith, r.2, λ k p q. below f (r.3) k p q))
      (cases_Bool (test i))
    where
      below : test i ≡ false → ((k : ℕ) → suc i ≤ k → k < j → test k ≡ false) → (k : ℕ) → i ≤ k → k < j → test k ≡ false
      below f g k p q = ⊎_elim (λ e. same_test i k false e f) (λ l. g k (omega arith) q) (from_there i k p)

  some_first : (n i j : ℕ) → First i n j → first_from test i n ≡ Some j
  some_first zero i j x = absurd (omega (arith, x.0, x.1))
  some_first (suc n) i j x =
      ⊎_elim
      (λ t.
      let z = from_there i j x.0 in
      ⊎_elim (λ e. first_here i n t ∙ ap (λ k. Some k) e) (λ l. absurd (not_both t (x.3 i (omega arith) l))) z)
      (λ f.
      let z = from_there i j x.0 in
      ⊎_elim
      (λ e. absurd (not_both x.2 (same_test i j false e f)))
      (λ l. first_on i n f ∙ some_first n (suc i) j (omega arith, omega (arith, x.1), x.2, λ k p q. x.3 k (omega arith) q))
      z)
      (cases_Bool (test i))

  first_none : (n i : ℕ) → first_from test i n ≡ None → (k : ℕ) → i ≤ k → k < i + n → test k ≡ false
  first_none n i e k p q =
      ⊎_elim
      (λ t. let r = least n i k p q t in absurd (not_some_none r.0 r.1 e))
      (λ f. f)
      (cases_Bool (test k))
    where
      -- one that passes makes some first
      least : (n i k : ℕ) → i ≤ k → k < i + n → test k ≡ true → (j : ℕ) × (first_from test i n ≡ Some j)
      least zero i k p q t = absurd (omega arith)
      least (suc n) i k p q t =
          ⊎_elim
          (λ y. (i, first_here i n y))
          (λ f.
          let z = from_there i k p in
          ⊎_elim
          (λ e. absurd (not_both t (same_test i k false e f)))
          (λ l. let r = least n (suc i) k (omega arith) (omega arith) t in (r.0, first_on i n f ∙ r.1))
          z)
          (cases_Bool (test i))

  none_first : (n i : ℕ) → ((k : ℕ) → i ≤ k → k < i + n → test k ≡ false) → first_from test i n ≡ None
  none_first zero i g = refl
  none_first (suc n) i g = first_on i n (g i (omega arith) (omega arith)) ∙ none_first n (suc i) (λ k p q. g k (omega arith) (omega arith))

module _ (capacity taken added : Sizes) where
  abbrev full_at : ℕ → Bool
  full_at i = ltb (at capacity i) (at taken i + at added i)

  lacks : (i : ℕ) → Decides (full_at i) (LacksRoom capacity taken added i)
  lacks i = Decides-ltb (at capacity i) (at taken i + at added i)

  has : (i : ℕ) → full_at i ≡ false → HasRoom capacity taken added i
  has i f = ⊎_elim (λ l. absurd (not_both ((lacks i).1 l) f)) (λ g. g) (cases_lt (at capacity i) (at taken i + at added i))

  has_not : (i : ℕ) → HasRoom capacity taken added i → full_at i ≡ false
  has_not i g = ⊎_elim (λ t. let l : LacksRoom capacity taken added i = (lacks i).0 t in absurd (omega arith)) (λ f. f) (cases_Bool (full_at i))

  pub full_first : (i : ℕ) → (first_full capacity taken added ≡ Some i) ↔ FirstFull capacity taken added i
  full_first i = (
    λ e.
        let x = first_some full_at 7 0 i e in
        (omega (arith, x.1), (lacks i).0 x.2, λ j l. has j (x.3 j (omega arith) l)),
    λ x. some_first full_at 7 0 i (omega arith, omega (arith, x.0), (lacks i).1 x.1, λ k _ l. has_not k (x.2 k l)),
  )

  pub none_full : (first_full capacity taken added ≡ None) ↔ AllFits capacity taken added
  none_full = (
    λ e i l. has i (first_none full_at 7 0 e i (omega arith) (omega arith)),
    λ g. none_first full_at 7 0 (λ k _ l. has_not k (g k (omega arith))),
  )

pub first_full_law : FirstFullLaw
first_full_law capacity taken added = (full_first capacity taken added, none_full capacity taken added)

pub sum_law : SumLaw
sum_law t more zero l = length-append t.descriptors more.descriptors
sum_law t more (suc zero) l = sum_by-append (λ (x : ℕ × Tree). length (parts_of x.1)) t.descriptors more.descriptors
sum_law t more (suc (suc zero)) l = length-append t.names more.names
sum_law t more (suc (suc (suc zero))) l = length-append t.arrays more.arrays
sum_law t more (suc (suc (suc (suc zero)))) l =
    omega (
      arith,
      sum_by-append (λ (x : ℕ × Tree). tree_bytes x.1) t.descriptors more.descriptors,
      sum_by-append (λ (x : Name × ℕ). length x.0) t.names more.names,
      sum_by-append (λ (x : Pair × CatalogColumn). length x.1.column) t.columns more.columns,
      sum_by-append (λ (x : ℕ × Name). length x.1) t.relations more.relations,
    )
sum_law t more (suc (suc (suc (suc (suc zero))))) l = length-append t.columns more.columns
sum_law t more (suc (suc (suc (suc (suc (suc zero)))))) l = length-append t.relations more.relations
sum_law t more (suc (suc (suc (suc (suc (suc (suc i))))))) l = absurd (omega arith)

pub capacity_law : CapacityLaw
capacity_law slots zero l = refl
capacity_law slots (suc zero) l = refl
capacity_law slots (suc (suc zero)) l = refl
capacity_law slots (suc (suc (suc zero))) l = refl
capacity_law slots (suc (suc (suc (suc zero)))) l = refl
capacity_law slots (suc (suc (suc (suc (suc zero))))) l = refl
capacity_law slots (suc (suc (suc (suc (suc (suc zero)))))) l = refl
capacity_law slots (suc (suc (suc (suc (suc (suc (suc i))))))) l = absurd (omega arith)
