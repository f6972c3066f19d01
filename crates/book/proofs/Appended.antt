-- One description more behind the others.
-- Assumes nothing.
use Rattle.std.proofs.Common.{◌≡◌, ℕ, suc, ◌+◌, Bool, true, false, List, [], ◌∷◌, ◌++◌, length, nat_eq, Some, None, sym, refl, ap, ◌∙◌, ⊎_elim, arith}
use Rattle.std.proofs.lemmas.Bool.{cases_Bool, cond-false, cond-true}
use Rattle.std.proofs.lemmas.Bool.Decides.{Decides-eqb}
use Rattle.std.specs.Map.{update}
use Rattle.life.specs.Lists.{first_place}
use Rattle.life.proofs.Lists.{chosen_false, chosen_true, not_both, not_some_none, split_option}
use Rattle.book.specs.Descriptions.{Description, slot_of}

module _ {A : Type 0} (test : A → Bool) where
  place_here : (i : ℕ) (x : A) (xs : List A) → test x ≡ true → first_place test i (x ∷ xs) ≡ Some i
  place_here i x xs e = chosen_true (test x) (Some i) (first_place test (suc i) xs) e

  place_later : (i : ℕ) (x : A) (xs : List A) → test x ≡ false → first_place test i (x ∷ xs) ≡ first_place test (suc i) xs
  place_later i x xs e = chosen_false (test x) (Some i) (first_place test (suc i) xs) e

  -- a place that was there stays, and where there was none the last may be it
  place_stays : (i j : ℕ) (xs : List A) (x : A) → first_place test i xs ≡ Some j → first_place test i (xs ++ x ∷ []) ≡ Some j
  place_stays i j [] x e = absurd (not_some_none j e refl)
  place_stays i j (y ∷ xs) x e =
      ⊎_elim
      (λ t. place_here i y (xs ++ x ∷ []) t ∙ sym (place_here i y xs t) ∙ e)
      (λ f. place_later i y (xs ++ x ∷ []) f ∙ place_stays (suc i) j xs x (sym (place_later i y xs f) ∙ e))
      (cases_Bool (test y))

  place_last : (i : ℕ) (xs : List A) (x : A) → first_place test i xs ≡ None → first_place test i (xs ++ x ∷ []) ≡ first_place test (i + length xs) (x ∷ [])
  place_last i [] x e = ap (λ n. first_place test n (x ∷ [])) (omega arith)
  place_last i (y ∷ xs) x e =
      ⊎_elim
      (λ t. absurd (not_some_none i (place_here i y xs t) e))
      (λ f.
      place_later i y (xs ++ x ∷ []) f
      ∙ place_last (suc i) xs x (sym (place_later i y xs f) ∙ e)
      ∙ ap (λ n. first_place test n (x ∷ [])) (omega arith))
      (cases_Bool (test y))

pub slot_of_more : (ds : List Description) (d : Description) (o : ℕ) → slot_of ds d.oid ≡ None →
    slot_of (ds ++ d ∷ []) o ≡ update nat_eq (slot_of ds) d.oid (Some (length ds)) o
slot_of_more ds d o new =
    ⊎_elim
    (λ t.
    let same : o ≡ d.oid = sym ((Decides-eqb d.oid o).0 t) in
    place_last (λ (x : Description). nat_eq o x.oid) 0 ds d (ap (slot_of ds) same ∙ new)
    ∙ place_here (λ (x : Description). nat_eq o x.oid) (0 + length ds) d [] ((Decides-eqb o d.oid).1 same)
    ∙ ap (λ n. Some n) (omega arith)
    ∙ sym (cond-true (nat_eq d.oid o) (Some (length ds)) (slot_of ds o) t))
    (λ f. other f ∙ sym (cond-false (nat_eq d.oid o) (Some (length ds)) (slot_of ds o) f))
    (cases_Bool (nat_eq d.oid o))
  where
    unlike : nat_eq d.oid o ≡ false → nat_eq o d.oid ≡ false
    unlike f =
        ⊎_elim
        (λ t. absurd (not_both ((Decides-eqb d.oid o).1 (sym ((Decides-eqb o d.oid).0 t))) f))
        (λ g. g)
        (cases_Bool (nat_eq o d.oid))

    other : nat_eq d.oid o ≡ false → slot_of (ds ++ d ∷ []) o ≡ slot_of ds o
    other f =
        let test : Description → Bool = λ x. nat_eq o x.oid in
        ⊎_elim
        (λ n. place_last test 0 ds d n ∙ place_later test (0 + length ds) d [] (unlike f) ∙ sym n)
        (λ s. place_stays test 0 s.0 ds d s.1 ∙ sym s.1)
        (split_option (slot_of ds o))
