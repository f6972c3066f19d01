-- Lists that hold the same, each once, in whatever order, and tables of such lists.
-- Assumes nothing.
use Rattle.std.proofs.Common.{◌≡◌, ℕ, ◌↔◌, Bool, ◌⊎◌, List, [], ◌∷◌, ◌++◌, length, nat_eq, bytes_eq, None, Decides, Option, sym, refl, ap, ◌∙◌, subst, inl, inr, ⊎_elim, arith}
use Rattle.std.proofs.lemmas.Bool.Decides.{Decides-eqb}
use Rattle.std.proofs.lemmas.List.Sorted.{IsPermutation-cons, IsPermutation-middle, IsPermutation-refl, IsPermutation-sym, IsPermutation-trans, length_permutation, sum_by-IsPermutation}
use Rattle.std.proofs.lemmas.Slice.Eq.{bytes_eq-Decides}
use Rattle.std.specs.List.Sorted.{IsPermutation}
use Rattle.catalog.specs.Catalog.{CatalogColumn}
use Rattle.catalog.specs.Shape.{Name}
use Rattle.keys.specs.Kinds.{same-pair}
use Rattle.keys.specs.Senses.{Pair, same_pair}
use Rattle.unfolding.specs.Lists.{Distinct, Mem}
use Rattle.unfolding.specs.Unfolding.{Tree}
use Rattle.life.specs.Steps.{Book}
use Rattle.life.proofs.Lists.{mem_left, mem_right, mem_split}
use Rattle.room.specs.Added.{Held, Once}
use Rattle.room.specs.Order.{Alike}
use Rattle.room.specs.Sizes.{parts_of, sizes_of, text_bytes, tree_bytes}
use Rattle.room.specs.Tables.{Tables, contents, look_up}
use Rattle.room.proofs.LookUp.{key_held, keys, look_mem, mem_key, mem_look}
use Rattle.room.proofs.Order.{same_related}

module _ {X : Type 0} where
  -- what stands before an element, and behind it
  around : (x : X) (xs : List X) → Mem x xs → (before : List X) × (after : List X) × (xs ≡ before ++ x ∷ after)
  around x [] m = absurd m
  around x (y ∷ xs) (inl e) = ([], xs, ap (λ z. z ∷ xs) (sym e))
  around x (y ∷ xs) (inr m) = let r = around x xs m in (y ∷ r.0, r.1, ap (λ l. y ∷ l) r.2)

  module _ (before : List X) (x : X) (after : List X) where
    put_back : (y : X) → Mem y (before ++ after) → Mem y (before ++ x ∷ after)
    put_back y m = ⊎_elim (mem_left y before (x ∷ after)) (λ n. mem_right y before (x ∷ after) (inr n)) (mem_split y before after m)

    taken_out : (y : X) → Mem y (before ++ x ∷ after) → (y ≡ x) ⊎ Mem y (before ++ after)
    taken_out y m =
        ⊎_elim
        (λ n. inr (mem_left y before after n))
        (⊎_elim (λ e. inl e) (λ n. inr (mem_right y before after n)))
        (mem_split y before (x ∷ after) m)

  distinct_without : (before : List X) (x : X) (after : List X) → Distinct (before ++ x ∷ after) → Distinct (before ++ after) × (Mem x (before ++ after) → ⊥)
  distinct_without [] x after d = (d.1, d.0)
  distinct_without (y ∷ before) x after d =
      let r = distinct_without before x after d.1 in (
        (λ m. d.0 (put_back before x after y m), r.0),
        ⊎_elim (λ e. d.0 (mem_right y before (x ∷ after) (inl (sym e)))) r.1,
      )

  -- they are permutations of one another
  pub same_members : (xs ys : List X) → Distinct xs → Distinct ys → ((x : X) → Mem x xs ↔ Mem x ys) → IsPermutation xs ys
  same_members [] [] d f same = IsPermutation-refl []
  same_members [] (y ∷ ys) d f same = absurd ((same y).1 (inl refl))
  same_members (x ∷ xs) ys d f same =
      let a = around x ys ((same x).0 (inl refl)) in
      let rest : List X = a.0 ++ a.1 in
      let w = distinct_without a.0 x a.1 (subst Distinct a.2 f) in
      let others = same_members xs rest d.1 w.0 (λ y. (
        λ m. ⊎_elim (λ e. absurd (d.0 (subst (λ v. Mem v xs) e m))) (λ n. n) (taken_out a.0 x a.1 y (subst (Mem y) a.2 ((same y).0 (inr m)))),
        λ n. ⊎_elim (λ e. absurd (w.1 (subst (λ v. Mem v rest) e n))) (λ m. m) ((same y).1 (subst (Mem y) (sym a.2) (put_back a.0 x a.1 y n))),
      )) in
      subst (IsPermutation (x ∷ xs)) (sym a.2)
      (IsPermutation-trans (x ∷ xs) (x ∷ rest) (a.0 ++ x ∷ a.1) (IsPermutation-cons x xs rest others)
      (IsPermutation-sym (a.0 ++ x ∷ a.1) (x ∷ rest) (IsPermutation-middle a.0 x a.1)))

module _ {K V : Type 0} (same : K → K → Bool) (tells : (x y : K) → Decides (same x y) (x ≡ y)) where
  pub once_distinct : (xs : List (K × V)) → Once xs → Distinct xs
  once_distinct [] o = tt
  once_distinct (x ∷ xs) o = (λ m. o.0 (mem_key same tells xs x m), once_distinct xs o.1)

  -- entries that hold each key once, and lead to the same
  pub same_look_up : (xs ys : List (K × V)) → Once xs → Once ys → look_up same xs ≡ look_up same ys → IsPermutation xs ys
  same_look_up xs ys o p e =
      same_members xs ys (once_distinct xs o) (once_distinct ys p) (λ x. (
        λ m. look_mem same tells ys x.0 x.1 (sym (ap (λ (f : K → Option V). f x.0) e) ∙ mem_look same tells xs o x.0 x.1 m),
        λ m. look_mem same tells xs x.0 x.1 (ap (λ (f : K → Option V). f x.0) e ∙ mem_look same tells ys p x.0 x.1 m),
      ))

  -- a key that leads nowhere makes one entry more
  pub once_more : (xs : List (K × V)) → Once xs → (k : K) (v : V) → look_up same xs k ≡ None → Once (xs ++ (k, v) ∷ [])
  once_more xs o k v new = go xs o (λ m. key_held same tells xs k m new)
    where
      earlier : (j : K) (ys : List (K × V)) → Mem j (keys (ys ++ (k, v) ∷ [])) → Mem j (keys ys) ⊎ (j ≡ k)
      earlier j [] m = ⊎_elim (λ e. inr e) (λ n. absurd n) m
      earlier j (y ∷ ys) m = ⊎_elim (λ e. inl (inl e)) (λ n. ⊎_elim (λ l. inl (inr l)) (λ e. inr e) (earlier j ys n)) m

      go : (ys : List (K × V)) → Once ys → (Mem k (keys ys) → ⊥) → Once (ys ++ (k, v) ∷ [])
      go [] p apart = (λ m. m, tt)
      go (y ∷ ys) p apart = (λ m. ⊎_elim p.0 (λ e. apart (inl (sym e))) (earlier y.0 ys m), go ys p.1 (λ m. apart (inr m)))

pub record Permuted (t u : Tables) : Type 0 where
  pub descriptors : IsPermutation t.descriptors u.descriptors
  pub names : IsPermutation t.names u.names
  pub arrays : IsPermutation t.arrays u.arrays
  pub columns : IsPermutation t.columns u.columns
  pub relations : IsPermutation t.relations u.relations

pub permuted_sizes : (t u : Tables) → Permuted t u → sizes_of t ≡ sizes_of u
permuted_sizes t u p =
    let text : text_bytes t ≡ text_bytes u =
    omega (
      arith,
      sum_by-IsPermutation (λ (x : ℕ × Tree). tree_bytes x.1) t.descriptors u.descriptors p.descriptors,
      sum_by-IsPermutation (λ (x : Name × ℕ). length x.0) t.names u.names p.names,
      sum_by-IsPermutation (λ (x : Pair × CatalogColumn). length x.1.column) t.columns u.columns p.columns,
      sum_by-IsPermutation (λ (x : ℕ × Name). length x.1) t.relations u.relations p.relations,
    ) in
    λ i. record {
      descriptors = sym (length_permutation t.descriptors u.descriptors p.descriptors) i;
      parts = sym (sum_by-IsPermutation (λ (x : ℕ × Tree). length (parts_of x.1)) t.descriptors u.descriptors p.descriptors) i;
      names = sym (length_permutation t.names u.names p.names) i;
      arrays = sym (length_permutation t.arrays u.arrays p.arrays) i;
      text = text i;
      columns = sym (length_permutation t.columns u.columns p.columns) i;
      relations = sym (length_permutation t.relations u.relations p.relations) i;
    }

-- tables that hold each key once and are the same book
module _ (t u : Tables) (ht : Held t) (hu : Held u) (e : contents t ≡ contents u) where
  pub held_permuted : Permuted t u
  held_permuted = record {
    descriptors = same_look_up nat_eq Decides-eqb t.descriptors u.descriptors ht.descriptors hu.descriptors (ap (λ (b : Book). b.descriptors) e);
    names = same_look_up bytes_eq bytes_eq-Decides t.names u.names ht.names hu.names (ap (λ (b : Book). b.names) e);
    arrays = same_look_up nat_eq Decides-eqb t.arrays u.arrays ht.arrays hu.arrays (ap (λ (b : Book). b.arrays) e);
    columns = same_look_up same_pair same-pair t.columns u.columns ht.columns hu.columns (λ i p. ap (λ (b : Book). b.columns p.0 p.1) e i);
    relations = same_look_up nat_eq Decides-eqb t.relations u.relations ht.relations hu.relations (same_related t u ht hu e);
  }

  pub held_alike : Alike t u
  held_alike = record { book = e; sizes = permuted_sizes t u held_permuted }
