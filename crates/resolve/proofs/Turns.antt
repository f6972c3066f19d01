-- One turn of the computed walk, over a queue that is cut, and over a catalog of which some rounds are spent.
-- Assumes nothing.
use Rattle.std.proofs.Common.{◌≡◌, ℕ, zero, suc, ◌<◌, ◌≤◌, Bool, List, [], ◌∷◌, ◌++◌, length, take, sym, refl, ap, ◌∙◌, ⊎_elim, arith}
use Rattle.std.proofs.lemmas.Bool.{cases_Bool, cases_lt}
use Rattle.std.proofs.lemmas.List.{take_all}
use Rattle.catalog.specs.Catalog.{Catalog, spent}
use Rattle.catalog.specs.Shape.{formed}
use Rattle.life.specs.Lists.{fresh}
use Rattle.life.specs.Walk.{Asked, all_read, stop, ask, links_of, malformed, Walked, ended, stopped, and_then, walk}
use Rattle.life.proofs.Lists.{chosen_true, chosen_false}

-- only the rows count
pub links_spent : (c : Catalog) (k : ℕ) (os : List ℕ) → links_of (spent c k) os ≡ links_of c os
unfolding formed
links_spent c k os = refl

then_same : (a : Asked) (rounds : ℕ) (f g : ℕ → Walked) → ((left : ℕ) → f left ≡ g left) → and_then a rounds f ≡ and_then a rounds g
then_same (all_read left) rounds f g e = e left
then_same (stop n p) rounds f g e = refl

module _ (c : Catalog) (skip : ℕ → Bool) where
  pub walk_spent : (k fuel opened left allowance : ℕ) (os seen : List ℕ) → walk (spent c k) skip fuel opened left allowance os seen ≡ walk c skip fuel opened left allowance os seen
  walk_spent k zero opened left allowance [] seen = refl
  walk_spent k zero opened left allowance (o ∷ os) seen = refl
  walk_spent k (suc fuel) opened left allowance [] seen = refl
  walk_spent k (suc fuel) opened left zero (o ∷ os) seen = refl
  walk_spent k (suc fuel) opened left (suc allowance) (o ∷ os) seen =
      then_same (ask c left (o ∷ os)) (suc opened) _ _
      (λ rest.
      ap (λ ls. walk (spent c k) skip fuel (suc opened) rest allowance (fresh skip (seen ++ (o ∷ os)) ls) (seen ++ (o ∷ os))) (links_spent c k (o ∷ os))
      ∙ walk_spent k fuel (suc opened) rest allowance (fresh skip (seen ++ (o ∷ os)) (links_of c (o ∷ os))) (seen ++ (o ∷ os)))

  -- where more wait than may be asked for, the round stops, and does so among the first
  over : (k left : ℕ) (os : List ℕ) → left < k → left < length os → (n p : ℕ) × (ask c left os ≡ stop n p) × (ask c left (take k os) ≡ stop n p)
  over k left [] few more = absurd (omega arith)
  over zero left (o ∷ os) few more = absurd (omega arith)
  over (suc k) zero (o ∷ os) few more = (7, o, refl, refl)
  over (suc k) (suc left) (o ∷ os) few more =
      ⊎_elim
      (λ y. (6, o, chosen_true (malformed c o) _ _ y, chosen_true (malformed c o) _ _ y))
      (λ n.
      let later = over k left os (omega arith) (omega arith) in
      (later.0, later.1, chosen_false (malformed c o) _ _ n ∙ later.2, chosen_false (malformed c o) _ _ n ∙ later.3))
      (cases_Bool (malformed c o))

  -- no more than one past those that may be asked for count
  pub walk_cut : (k fuel opened left allowance : ℕ) (os seen : List ℕ) → left < k → walk c skip fuel opened left allowance (take k os) seen ≡ walk c skip fuel opened left allowance os seen
  walk_cut zero fuel opened left allowance os seen few = absurd (omega arith)
  walk_cut (suc k) fuel opened left allowance [] seen few = refl
  walk_cut (suc k) zero opened left allowance (o ∷ os) seen few = refl
  walk_cut (suc k) (suc fuel) opened left zero (o ∷ os) seen few = refl
  walk_cut (suc k) (suc fuel) opened left (suc allowance) (o ∷ os) seen few =
      let next : List ℕ → ℕ → Walked = λ now rest. walk c skip fuel (suc opened) rest allowance (fresh skip (seen ++ now) (links_of c now)) (seen ++ now) in
      ⊎_elim
      (λ (more : left < length (o ∷ os)).
      let stops = over (suc k) left (o ∷ os) few more in
      ap (λ a. and_then a (suc opened) (next (take (suc k) (o ∷ os)))) stops.3 ∙ sym (ap (λ a. and_then a (suc opened) (next (o ∷ os))) stops.2))
      (λ (all : length (o ∷ os) ≤ left). ap (λ now. walk c skip (suc fuel) opened left (suc allowance) now seen) (take_all (suc k) (o ∷ os) (omega arith)))
      (cases_lt left (length (o ∷ os)))

  -- where something waits: a round, or refusal 4 or 5
  module _ (opened left : ℕ) (os seen : List ℕ) (waits : 0 < length os) where
    pub turn : (fuel allowance : ℕ) → walk c skip (suc fuel) opened left (suc allowance) os seen
        ≡ and_then (ask c left os) (suc opened) (λ rest. walk c skip fuel (suc opened) rest allowance (fresh skip (seen ++ os) (links_of c os)) (seen ++ os))
    turn fuel allowance = turned os waits
      where
        turned : (now : List ℕ) → 0 < length now → walk c skip (suc fuel) opened left (suc allowance) now seen
            ≡ and_then (ask c left now) (suc opened) (λ rest. walk c skip fuel (suc opened) rest allowance (fresh skip (seen ++ now) (links_of c now)) (seen ++ now))
        turned [] some = absurd (omega arith)
        turned (o ∷ now) some = refl

    pub turn_4 : (allowance : ℕ) → walk c skip 0 opened left allowance os seen ≡ stopped 4 (suc opened) opened
    turn_4 allowance = turned os waits
      where
        turned : (now : List ℕ) → 0 < length now → walk c skip 0 opened left allowance now seen ≡ stopped 4 (suc opened) opened
        turned [] some = absurd (omega arith)
        turned (o ∷ now) some = refl

    pub turn_5 : (fuel : ℕ) → walk c skip (suc fuel) opened left 0 os seen ≡ stopped 5 (suc opened) opened
    turn_5 fuel = turned os waits
      where
        turned : (now : List ℕ) → 0 < length now → walk c skip (suc fuel) opened left 0 now seen ≡ stopped 5 (suc opened) opened
        turned [] some = absurd (omega arith)
        turned (o ∷ now) some = refl

  pub turn_none : (fuel opened left allowance : ℕ) (seen : List ℕ) → walk c skip fuel opened left allowance [] seen ≡ ended opened seen
  turn_none zero opened left allowance seen = refl
  turn_none (suc fuel) opened left allowance seen = refl
