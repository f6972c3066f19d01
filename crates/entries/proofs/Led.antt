-- The first of the entries that passes a test, from a place on.
-- Assumes nothing.
use Rattle.std.proofs.Common.{◌≡◌, ◌∙◌, ℕ, suc, ◌<◌, ◌≤◌, Bool, true, false, List, [], ◌∷◌, ◌+◌, length, drop, slice_index_or, Some, None, Option, ap, arith}
use Rattle.std.proofs.Math.Seq.{drop-cons}
use Rattle.std.proofs.lemmas.List.{drop_all as drop_over, drop_more}
use Rattle.life.specs.Calls.{Declared}
use Rattle.life.specs.HostCalls.{meant_type}
use Rattle.life.specs.Lists.{first_place}
use Rattle.life.proofs.Lists.{chosen_false, chosen_true}
use Rattle.requests.specs.Asked.{declared_by, type_asked}
use Rattle.requests.specs.declared.asked.TypeAsked.{TypeAsked}
use Rattle.entries.specs.Answers.{lead_at, led_from}

module _ (test : Declared × Option ℕ → Bool) (host : List ℕ) (es : List TypeAsked) (leads : List (Option ℕ)) (d : TypeAsked) (place : ℕ) (lt : place < length es) where
  abbrev here : Declared × Option ℕ
  here = (meant_type host (type_asked (slice_index_or es place d)), lead_at leads place)

  abbrev from : ℕ → List TypeAsked → Option ℕ
  from i xs = first_place test i (led_from i (declared_by host xs) leads)

  at_place : from place (drop place es) ≡ (elim (test here) as (λ _. Option ℕ) [ true ↦ Some place | false ↦ from (suc place) (drop (suc place) es) ])
  at_place = ap (from place) (drop-cons es place d lt)

  pub first_here : test here ≡ true → from place (drop place es) ≡ Some place
  first_here t = at_place ∙ chosen_true (test here) (Some place) (from (suc place) (drop (suc place) es)) t

  pub first_behind : test here ≡ false → (j : ℕ) → suc place ≡ j → from place (drop place es) ≡ from j (drop j es)
  first_behind t j e = at_place ∙ chosen_false (test here) (Some place) (from (suc place) (drop (suc place) es)) t ∙ ap (λ k. from k (drop k es)) e

-- and none behind the last
pub first_none : (test : Declared × Option ℕ → Bool) (host : List ℕ) (es : List TypeAsked) (leads : List (Option ℕ)) (place : ℕ) → length es ≤ place →
    first_place test place (led_from place (declared_by host (drop place es)) leads) ≡ None
first_none test host es leads place over = ap (λ xs. first_place test place (led_from place (declared_by host xs) leads)) (drop_over place es over)

-- what is left of the entries from a place on
pub led_more : (host : List ℕ) (es : List TypeAsked) (leads : List (Option ℕ)) (d : TypeAsked) (place : ℕ) → place < length es →
    led_from place (declared_by host (drop place es)) leads
    ≡ (meant_type host (type_asked (slice_index_or es place d)), lead_at leads place) ∷ led_from (place + 1) (declared_by host (drop (place + 1) es)) leads
led_more host es leads d place lt =
    let x : Declared × Option ℕ = (meant_type host (type_asked (slice_index_or es place d)), lead_at leads place) in
    let next : suc place ≡ place + 1 = omega arith in
    ap (λ xs. led_from place (declared_by host xs) leads) (drop_more es place d lt) ∙ ap (λ j. x ∷ led_from j (declared_by host (drop (place + 1) es)) leads) next

pub led_over : (host : List ℕ) (es : List TypeAsked) (leads : List (Option ℕ)) (place : ℕ) → length es ≤ place → led_from place (declared_by host (drop place es)) leads ≡ []
led_over host es leads place over = ap (λ xs. led_from place (declared_by host xs) leads) (drop_over place es over)
