-- Sizes and steps over lists that grow by one at their end.
-- Assumes nothing.
use Rattle.std.proofs.Common.{◌≡◌, ℕ, suc, ◌+◌, ◌<◌, ◌≤◌, List, [], ◌∷◌, ◌++◌, length, map, take, get_or, sym, refl, ap, ◌∙◌, subst, arith}
use Rattle.std.proofs.Math.Seq.{take-suc}
use Rattle.std.proofs.lemmas.List.{map-append}
use Rattle.room.specs.Sizes.{Sizes}
use Rattle.book.specs.Held.{FewOf, Held, no_sizes, sum_of}
use Rattle.finds.specs.Keeping.{each, places, size_of_all}

pub sum_assoc : (a b c : Sizes) → sum_of a (sum_of b c) ≡ sum_of (sum_of a b) c
sum_assoc a b c =
    let turned : (l m n : ℕ) → l + (m + n) ≡ (l + m) + n = λ l m n. omega arith in
    λ i. record {
      descriptors = turned a.descriptors b.descriptors c.descriptors i;
      parts = turned a.parts b.parts c.parts i;
      names = turned a.names b.names c.names i;
      arrays = turned a.arrays b.arrays c.arrays i;
      text = turned a.text b.text c.text i;
      columns = turned a.columns b.columns c.columns i;
      relations = turned a.relations b.relations c.relations i;
    }

pub sum_none : (a : Sizes) → sum_of a no_sizes ≡ a
sum_none a =
    let still : (n : ℕ) → n + 0 ≡ n = λ n. omega arith in
    λ i. record {
      descriptors = still a.descriptors i;
      parts = still a.parts i;
      names = still a.names i;
      arrays = still a.arrays i;
      text = still a.text i;
      columns = still a.columns i;
      relations = still a.relations i;
    }

pub none_sum : (a : Sizes) → sum_of no_sizes a ≡ a
none_sum a =
    let still : (n : ℕ) → 0 + n ≡ n = λ n. omega arith in
    λ i. record {
      descriptors = still a.descriptors i;
      parts = still a.parts i;
      names = still a.names i;
      arrays = still a.arrays i;
      text = still a.text i;
      columns = still a.columns i;
      relations = still a.relations i;
    }

module _ {X : Type 0} where
  pub sizes_more : (size : X → Sizes) (xs : List X) (x : X) → size_of_all size (xs ++ x ∷ []) ≡ sum_of (size_of_all size xs) (size x)
  sizes_more size [] x = sum_none (size x) ∙ sym (none_sum (size x))
  sizes_more size (y ∷ xs) x = ap (sum_of (size y)) (sizes_more size xs x) ∙ sum_assoc (size y) (size_of_all size xs) (size x)

  pub steps_more : (step : Held → X → Held) (h : Held) (xs : List X) (x : X) → each step h (xs ++ x ∷ []) ≡ step (each step h xs) x
  steps_more step h [] x = refl
  steps_more step h (y ∷ xs) x = steps_more step (step h y) xs x

-- one more of a list, and one place more
pub take_next : {A : Type 0} (xs : List A) (i : ℕ) (d : A) → i < length xs → take (i + 1) xs ≡ take i xs ++ get_or xs i d ∷ []
take_next xs i d inside =
    let next : i + 1 ≡ suc i = omega arith in
    ap (λ n. take n xs) next ∙ take-suc xs i d inside

pub places_next : (i : ℕ) → places (i + 1) ≡ places i ++ i ∷ []
places_next i =
    let next : i + 1 ≡ suc i = omega arith in
    ap places next

-- what comes of the next of a list
module _ {X Y : Type 0} (f : X → Y) where
  module _ (size : Y → Sizes) (before : List X) (x : X) (now : List X) (next : now ≡ before ++ x ∷ []) where
    pub next_size : (s more t : Sizes) → s ≡ size_of_all size (map f before) → more ≡ size (f x) → t ≡ sum_of s more → t ≡ size_of_all size (map f now)
    next_size s more t so_far last total =
        total
        ∙ (λ j. sum_of (so_far j) (last j))
        ∙ sym (sizes_more size (map f before) (f x))
        ∙ ap (size_of_all size) (sym (ap (map f) next ∙ map-append f before (x ∷ [])))

  module _ (step : Held → Y → Held) (before : List X) (x : X) (now : List X) (next : now ≡ before ++ x ∷ []) where
    pub next_step : (h g k : Held) → g ≡ each step h (map f before) → k ≡ step g (f x) → k ≡ each step h (map f now)
    next_step h g k so_far last =
        last
        ∙ ap (λ (y : Held). step y (f x)) so_far
        ∙ sym (steps_more step h (map f before) (f x))
        ∙ ap (each step h) (sym (ap (map f) next ∙ map-append f before (x ∷ [])))

-- each is few where both are
pub few_sum : (m n : ℕ) (s more t : Sizes) → FewOf m s → FewOf n more → t ≡ sum_of s more → FewOf (m + n) t
few_sum m n s more t p q total = subst (FewOf (m + n)) (sym total) (record {
  descriptors = omega (arith, p.descriptors, q.descriptors);
  parts = omega (arith, p.parts, q.parts);
  names = omega (arith, p.names, q.names);
  arrays = omega (arith, p.arrays, q.arrays);
  text = omega (arith, p.text, q.text);
  columns = omega (arith, p.columns, q.columns);
  relations = omega (arith, p.relations, q.relations);
})

pub few_none : (n : ℕ) → FewOf n no_sizes
few_none n = record { descriptors = omega arith; parts = omega arith; names = omega arith; arrays = omega arith; text = omega arith; columns = omega arith; relations = omega arith }

pub fewer : (m n : ℕ) (s : Sizes) → m ≤ n → FewOf m s → FewOf n s
fewer m n s le p = record {
  descriptors = omega (arith, le, p.descriptors);
  parts = omega (arith, le, p.parts);
  names = omega (arith, le, p.names);
  arrays = omega (arith, le, p.arrays);
  text = omega (arith, le, p.text);
  columns = omega (arith, le, p.columns);
  relations = omega (arith, le, p.relations);
}
