-- What is read one by one is what the definitions say of all. Assumes nothing.
use Rattle.std.proofs.Common.{◌≡◌, ℕ, zero, suc, ◌+◌, ◌<◌, ◌≤◌, Bool, true, false, leb, List, [], ◌∷◌, ◌++◌, map, length, get_or, take, take_all, Some, None, Option, sym, refl, ap, ap₂, ◌∙◌, subst, inl, inr, ⊎_elim, arith}
use Rattle.std.specs.Option.{option_map}
use Rattle.std.proofs.lemmas.Bool.{cases_lt}
use Rattle.std.proofs.lemmas.List.{take_more}
use Rattle.offers.specs.Offered.{consed, every, few}
use Rattle.offers.specs.Read.{EachRead, FewRead}

module _ {A B : Type 0} (reads : A → Option B → Type 0) where
  pub as_many : (xs : List A) (ys : List B) → EachRead reads xs (Some ys) → length ys ≡ length xs
  as_many [] ys h = let e : ys ≡ [] = cc in ap length e
  as_many (x ∷ xs) [] h = absurd h
  as_many (x ∷ xs) (y ∷ ys) h = ap suc (as_many xs ys h.1)

  pushed : (xs : List A) (ys : List B) (x : A) (y : B) → EachRead reads xs (Some ys) → reads x (Some y) → EachRead reads (xs ++ x ∷ []) (Some (ys ++ y ∷ []))
  pushed [] [] x y e h = (h, refl)
  pushed [] (z ∷ ys) x y e h = cc
  pushed (w ∷ xs) [] x y e h = absurd e
  pushed (w ∷ xs) (z ∷ ys) x y e h = (e.0, pushed xs ys x y e.1 h)

  -- the one at i is read too
  pub one_more : (xs : List A) (i : ℕ) (x : A) (ys zs : List B) (y : B) → i < length xs → x ≡ get_or xs i x → EachRead reads (take i xs) (Some ys) → reads x (Some y) → zs ≡ ys ++ y ∷ [] → EachRead reads (take (i + 1) xs) (Some zs)
  one_more xs i x ys zs y l is e h z =
      subst (λ o. EachRead reads (take (i + 1) xs) (Some o)) (sym z)
      (subst (λ o. EachRead reads o (Some (ys ++ y ∷ []))) (ap (λ a. take i xs ++ a ∷ []) is ∙ sym (take_more xs i x l)) (pushed (take i xs) ys x y e h))

  -- the one at i is read as nothing
  pub one_stops : (xs : List A) (i : ℕ) (x : A) (ys : List B) → i < length xs → x ≡ get_or xs i x → EachRead reads (take i xs) (Some ys) → reads x None → EachRead reads xs None
  one_stops [] i x ys l is e h = absurd (omega arith)
  one_stops (w ∷ xs) zero x ys l is e h = inl (subst (λ a. reads a None) is h)
  one_stops (w ∷ xs) (suc i) x [] l is e h = absurd e
  one_stops (w ∷ xs) (suc i) x (y ∷ ys) l is e h = inr (y, e.0, one_stops xs i x ys (omega arith) is e.1 h)

  pub nothing_read : {R : Type 0} (xs : List A) (f : R → List B) (r : Option R) → r ≡ None → EachRead reads xs None → FewRead reads xs (option_map f r)
  nothing_read xs f None e h = record { many = λ l. refl; few = λ l. h }
  nothing_read xs f (Some k) e h = absurd cc

  pub too_many : {R : Type 0} (xs : List A) (f : R → List B) (r : Option R) → r ≡ None → 64 < length xs → FewRead reads xs (option_map f r)
  too_many xs f None e h = record { many = λ l. refl; few = λ l. absurd (omega arith) }
  too_many xs f (Some k) e h = absurd cc

  pub all_read : (xs : List A) (i : ℕ) (ys : List B) → length xs ≤ i → EachRead reads (take i xs) (Some ys) → length ys ≤ 64 → FewRead reads xs (Some ys)
  all_read xs i ys l h m =
      let read = subst (λ o. EachRead reads o (Some ys)) (take_all i xs l) h in
      let same = as_many xs ys read in
      record { many = λ n. absurd (omega arith); few = λ n. read }

  -- what is read is no more than 64
  pub some_read : (xs : List A) (ys : List B) → FewRead reads xs (Some ys) → EachRead reads xs (Some ys)
  some_read xs ys h = ⊎_elim (λ l. let none = h.many l in absurd cc) h.few (cases_lt 64 (length xs))

no_rest : {C : Type 0} (o : Option C) → consed o None ≡ None
no_rest None = refl
no_rest (Some c) = refl

-- where each is read as `said` says
module _ {A B C : Type 0} (reads : A → Option B → Type 0) (mean : B → C) (said : A → Option C) (told : (x : A) (r : Option B) → reads x r → option_map mean r ≡ said x) where
  every_read : (xs : List A) (r : Option (List B)) → EachRead reads xs r → option_map (map mean) r ≡ every said xs
  every_read [] r h = ap (option_map (map mean)) h
  every_read (x ∷ xs) None (inl h) = ap (λ o. consed o (every said xs)) (told x None h)
  every_read (x ∷ xs) None (inr h) = sym (no_rest (said x)) ∙ ap (consed (said x)) (every_read xs None h.2)
  every_read (x ∷ xs) (Some []) h = absurd h
  every_read (x ∷ xs) (Some (y ∷ ys)) h = ap₂ consed (told x (Some y) h.0) (every_read xs (Some ys) h.1)

  pub few_read : (xs : List A) (r : Option (List B)) → FewRead reads xs r → option_map (map mean) r ≡ few said xs
  few_read xs r h = by_cases (leb (length xs) 64) refl where
    by_cases : (b : Bool) → leb (length xs) 64 ≡ b → option_map (map mean) r ≡ elim b as (λ _. Option (List C)) [ true ↦ every said xs | false ↦ None ]
    by_cases true e = every_read xs r (h.few (grind (arith, e)))
    by_cases false e = ap (option_map (map mean)) (h.many (grind (arith, e)))
