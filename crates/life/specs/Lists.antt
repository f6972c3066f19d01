-- Lists: what some element has, a test of membership, each element once, how many numbers have a property, and the place of the
-- first element that has one.
-- Assumes nothing.
use Rattle.std.specs.Prelude.{◌≡◌, ℕ, suc, ◌≤◌, Bool, true, false, ◌||◌, ◌⊎◌, List, [], ◌∷◌, ◌++◌, length, nat_eq, Some, None, Option}
use Rattle.std.specs.List.{list_any}
use Rattle.unfolding.specs.Lists.{Mem, Distinct}

-- some element has P
abbrev pub AnyOf : {A : Type 0} → (A → Type 0) → List A → Type 0
AnyOf {A} P xs = (x : A) × Mem x xs × P x

-- o is in the list
abbrev pub is_in : ℕ → List ℕ → Bool
is_in o os = list_any (nat_eq o) os

-- those of a list that are neither skipped nor seen, each once, in order
abbrev pub fresh_by : {A : Type 0} → (A → A → Bool) → (A → Bool) → List A → List A → List A
fresh_by same skip seen [] = []
fresh_by same skip seen (x ∷ xs) =
    elim (skip x || list_any (same x) seen) [ true ↦ fresh_by same skip seen xs | false ↦ x ∷ fresh_by same skip (x ∷ seen) xs ]

abbrev pub fresh : (ℕ → Bool) → List ℕ → List ℕ → List ℕ
fresh skip seen os = fresh_by nat_eq skip seen os

-- the same, one after the other: a queue to which each is pushed that is neither skipped nor in it
abbrev pub push_new : {A : Type 0} → (A → A → Bool) → (A → Bool) → List A → A → List A
push_new same skip queue x = elim (skip x || list_any (same x) queue) [ true ↦ queue | false ↦ queue ++ x ∷ [] ]

abbrev pub push_all : {A : Type 0} → (A → A → Bool) → (A → Bool) → List A → List A → List A
push_all same skip queue [] = queue
push_all same skip queue (x ∷ xs) = push_all same skip (push_new same skip queue x) xs

-- no more than m numbers are P
abbrev pub AtMost : ℕ → (ℕ → Type 0) → Type 0
AtMost m P = (os : List ℕ) → Distinct os → ((o : ℕ) → Mem o os → P o) → length os ≤ m

-- the place of the first element that passes the test, counted from i
abbrev pub first_place : {A : Type 0} → (A → Bool) → ℕ → List A → Option ℕ
first_place test i [] = None
first_place test i (x ∷ xs) = elim (test x) [ true ↦ Some i | false ↦ first_place test (suc i) xs ]

-- the place, counted from i, of the first element of which P holds is j
abbrev pub FirstAt : {A : Type 0} → (A → Type 0) → ℕ → List A → ℕ → Type 0
FirstAt P i [] j = ⊥
FirstAt P i (x ∷ xs) j = ((i ≡ j) × P x) ⊎ ((P x → ⊥) × FirstAt P (suc i) xs j)
