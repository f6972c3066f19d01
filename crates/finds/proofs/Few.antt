-- Places with a row, each once, are no more than the rows.
-- Assumes nothing.
use Rattle.std.proofs.Common.{◌≡◌, ℕ, zero, suc, ◌<◌, ◌≤◌, Bool, true, List, [], ◌∷◌, length, Option, sym, subst, inl, inr, ⊎_elim, arith}
use Rattle.std.specs.List.{list_all}
use Rattle.std.proofs.lemmas.Bool.{and_parts, cases_lt}
use Rattle.catalog.specs.declared.row.Row.{Row}
use Rattle.unfolding.specs.Lists.{Distinct, Mem}
use Rattle.unfolding.proofs.Lists.{pigeon}
use Rattle.finds.specs.Tables.{has_row}
use Rattle.finds.proofs.Grown.{row_within}

abbrev below : ℕ → List ℕ
below zero = []
below (suc n) = n ∷ below n

length-below : (n : ℕ) → length (below n) ≡ n
length-below zero = omega arith
length-below (suc n) = omega (arith, length-below n)

mem_below : (n i : ℕ) → i < n → Mem i (below n)
mem_below zero i l = absurd (omega arith)
mem_below (suc n) i l = ⊎_elim (λ m. inr (mem_below n i m)) (λ m. inl (omega arith)) (cases_lt i n)

pub all_mem : {A : Type 0} (p : A → Bool) (xs : List A) (x : A) → list_all p xs ≡ true → Mem x xs → p x ≡ true
all_mem p [] x e m = absurd m
all_mem p (y ∷ xs) x e m =
    let parts = and_parts (p y) (list_all p xs) e in
    ⊎_elim (λ q. subst (λ z. p z ≡ true) (sym q) parts.0) (λ n. all_mem p xs x parts.1 n) m

pub few_places : (rows : List (Option Row)) (places : List ℕ) → list_all (has_row rows) places ≡ true → Distinct places → length places ≤ length rows
few_places rows places placed once =
    let few = pigeon places (below (length rows)) once (λ i m. mem_below (length rows) i (row_within rows i (all_mem (has_row rows) places i placed m))) in
    omega (arith, few, length-below (length rows))
