-- Some that are read one by one, by a function that is known by what it may answer. Assumes nothing.
use Rattle.std.specs.Prelude.{◌≡◌, ◌<◌, ◌≤◌, ◌⊎◌, List, [], ◌∷◌, length, Some, None, Option}

-- what each is read as, in turn; nothing where one is read as nothing
abbrev pub EachRead : {A B : Type 0} → (A → Option B → Type 0) → List A → Option (List B) → Type 0
EachRead reads [] r = r ≡ Some []
EachRead reads (x ∷ xs) None = reads x None ⊎ ((y : _) × reads x (Some y) × EachRead reads xs None)
EachRead reads (x ∷ xs) (Some []) = ⊥
EachRead reads (x ∷ xs) (Some (y ∷ ys)) = reads x (Some y) × EachRead reads xs (Some ys)

-- at most 64 of them
pub record FewRead {A B : Type 0} (reads : A → Option B → Type 0) (xs : List A) (r : Option (List B)) : Type 0 where
  pub many : 64 < length xs → r ≡ None
  pub few : length xs ≤ 64 → EachRead reads xs r
