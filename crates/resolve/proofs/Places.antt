-- The first place in two lists, one behind the other.
-- Assumes nothing.
use Rattle.std.proofs.Common.{◌≡◌, ℕ, suc, ◌+◌, ◌<◌, Bool, true, false, List, [], ◌∷◌, ◌++◌, length, option_map, Some, None, sym, refl, ap, ◌∙◌, ⊎_elim, arith}
use Rattle.std.proofs.lemmas.Bool.{cases_Bool}
use Rattle.std.proofs.lemmas.List.{length-map}
use Rattle.life.specs.Lists.{first_place}
use Rattle.life.proofs.Lists.{chosen_false, chosen_true}
use Rattle.requests.specs.Asked.{fields_of, field_asked}
use Rattle.life.specs.HostCalls.{meant_field}
use Rattle.requests.specs.declared.asked.FieldAsked.{FieldAsked}
use Rattle.resolve.specs.Lists.{types_of}
use Rattle.resolve.proofs.Left.{place_in}

module _ (test : ℕ → Bool) where
  here : (i o : ℕ) (os : List ℕ) → test o ≡ true → first_place test i (o ∷ os) ≡ Some i
  here i o os = chosen_true (test o) (Some i) (first_place test (suc i) os)

  not_here : (i o : ℕ) (os : List ℕ) → test o ≡ false → first_place test i (o ∷ os) ≡ first_place test (suc i) os
  not_here i o os = chosen_false (test o) (Some i) (first_place test (suc i) os)

  -- in the first of them
  pub place_stays : (os ps : List ℕ) (i j : ℕ) → first_place test i os ≡ Some j → first_place test i (os ++ ps) ≡ Some j
  place_stays [] ps i j e = absurd cc
  place_stays (o ∷ os) ps i j e =
      ⊎_elim
      (λ y. here i o (os ++ ps) y ∙ sym (here i o os y) ∙ e)
      (λ n. not_here i o (os ++ ps) n ∙ place_stays os ps (suc i) j (sym (not_here i o os n) ∙ e))
      (cases_Bool (test o))

  -- or in the second, counted on
  later : (os ps : List ℕ) (i : ℕ) → first_place test i os ≡ None → first_place test i (os ++ ps) ≡ first_place test (i + length os) ps
  later [] ps i e = let same : i ≡ i + 0 = omega arith in ap (λ k. first_place test k ps) same
  later (o ∷ os) ps i e =
      ⊎_elim
      (λ y. let none : Some i ≡ None = sym (here i o os y) ∙ e in absurd cc)
      (λ n.
      let same : suc i + length os ≡ i + length (o ∷ os) = omega arith in
      not_here i o (os ++ ps) n ∙ later os ps (suc i) (sym (not_here i o os n) ∙ e) ∙ ap (λ k. first_place test k ps) same)
      (cases_Bool (test o))

  counted_on : (ps : List ℕ) (k i : ℕ) → first_place test (k + i) ps ≡ option_map (λ j. k + j) (first_place test i ps)
  counted_on [] k i = refl
  counted_on (p ∷ ps) k i =
      ⊎_elim
      (λ y. here (k + i) p ps y ∙ sym (ap (option_map (λ j. k + j)) (here i p ps y)))
      (λ n.
      let same : suc (k + i) ≡ k + suc i = omega arith in
      not_here (k + i) p ps n ∙ ap (λ m. first_place test m ps) same ∙ counted_on ps k (suc i) ∙ sym (ap (option_map (λ j. k + j)) (not_here i p ps n)))
      (cases_Bool (test p))

  pub place_behind : (os ps : List ℕ) → first_place test 0 os ≡ None → first_place test 0 (os ++ ps) ≡ option_map (λ j. length os + j) (first_place test 0 ps)
  place_behind os ps e =
      let same : 0 + length os ≡ length os + 0 = omega arith in
      later os ps 0 e ∙ ap (λ k. first_place test k ps) same ∙ counted_on ps (length os) 0

  pub field_within : (fields : List FieldAsked) (j : ℕ) → first_place test 0 (types_of fields) ≡ Some j → j < length fields
  field_within fields j e =
      omega (arith, place_in test (types_of fields) j e, length-map (fields_of fields) (λ f. f.oid), length-map fields (λ f. meant_field (field_asked f)))
