-- What stands at a place of a list.
-- Assumes nothing.
use Rattle.std.proofs.Common.{◌≡◌, ℕ, zero, suc, Bool, true, List, [], ◌∷◌, take, drop, length, slice_get, Some, None, Option, ⊎_elim, sym, refl, subst, arith}
use Rattle.std.specs.List.{list_all, zip}
use Rattle.std.proofs.lemmas.Bool.{and_from, and_parts, cases_lt}
use Rattle.std.proofs.lemmas.Option.{none-some, slice_get_past}
use Rattle.life.proofs.Lists.{not_some_none}
use Rattle.book.proofs.Trees.{slice_get_some}

-- past the end of a list is past the end of any that is as long
pub none_past : {A B : Type 0} (xs : List A) (ys : List B) (i : ℕ) → length xs ≡ length ys → slice_get xs i ≡ None → slice_get ys i ≡ None
none_past xs ys i long e =
    ⊎_elim
    (λ l. let x = slice_get_some xs i l in absurd (not_some_none x.0 x.1 e))
    (λ l. slice_get_past ys i (omega arith))
    (cases_lt i (length xs))

-- what a test of all says of each, and of a part of the list
pub all_at : {A : Type 0} (p : A → Bool) (xs : List A) (i : ℕ) (x : A) → list_all p xs ≡ true → slice_get xs i ≡ Some x → p x ≡ true
all_at p [] i x a e = absurd (none-some x e)
all_at p (y ∷ xs) zero x a e = let same : y ≡ x = cc in subst (λ z. p z ≡ true) same (and_parts (p y) (list_all p xs) a).0
all_at p (y ∷ xs) (suc i) x a e = all_at p xs i x (and_parts (p y) (list_all p xs) a).1 e

pub all_take : {A : Type 0} (p : A → Bool) (n : ℕ) (xs : List A) → list_all p xs ≡ true → list_all p (take n xs) ≡ true
all_take p zero xs a = refl
all_take p (suc n) [] a = refl
all_take p (suc n) (x ∷ xs) a =
    let parts = and_parts (p x) (list_all p xs) a in
    and_from (p x) (list_all p (take n xs)) parts.0 (all_take p n xs parts.1)

pub all_drop : {A : Type 0} (p : A → Bool) (n : ℕ) (xs : List A) → list_all p xs ≡ true → list_all p (drop n xs) ≡ true
all_drop p zero xs a = a
all_drop p (suc n) [] a = refl
all_drop p (suc n) (x ∷ xs) a = all_drop p n xs (and_parts (p x) (list_all p xs) a).1

-- two lists beside each other
abbrev pub paired : {A B : Type 0} → Option A → Option B → Option (A × B)
paired None y = None
paired (Some x) None = None
paired (Some x) (Some y) = Some (x, y)

pub paired_none : {A B : Type 0} (x : Option A) → paired {B = B} x None ≡ None
paired_none None = refl
paired_none (Some x) = refl

pub zipped : {A B : Type 0} (xs : List A) (ys : List B) (i : ℕ) → slice_get (zip xs ys) i ≡ paired (slice_get xs i) (slice_get ys i)
zipped [] ys i = refl
zipped (x ∷ xs) [] i = sym (paired_none (slice_get (x ∷ xs) i))
zipped (x ∷ xs) (y ∷ ys) zero = refl
zipped (x ∷ xs) (y ∷ ys) (suc i) = zipped xs ys i
