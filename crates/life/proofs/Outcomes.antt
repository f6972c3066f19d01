-- What computed calls share: refusals that keep nothing are steps, and refusals 9 and 10 have the first place.
-- Assumes nothing.
use Rattle.std.proofs.Common.{◌≡◌, ℕ, ◌≤◌, Bool, true, false, not, ◌&&◌, ◌⊎◌, ◌↔◌, List, is_some, Some, None, Option, refl, ap, ◌∙◌, subst, inl, inr, ⊎_elim, arith}
use Rattle.std.proofs.lemmas.Bool.{and_parts, not-true}
use Rattle.catalog.specs.Catalog.{Catalog, Laws}
use Rattle.unfolding.specs.Lists.{Mem}
use Rattle.life.specs.Calls.{Call}
use Rattle.life.specs.Keep.{call_event}
use Rattle.life.specs.Lists.{first_place}
use Rattle.life.specs.Outcomes.{Outcome, refusal, if_fits, closing, unresolved, Unresolved, Fits, RefusedAtFirst}
use Rattle.life.specs.Rounds.{Descriptors, found, StandsOnce, LastRound}
use Rattle.life.specs.Settle.{settled}
use Rattle.life.specs.Steps.{Book, Ending, refused, rounds_told, accepts, keeps_finds, TellsTypeRounds, Step}
use Rattle.life.specs.Stops.{Offence}
use Rattle.life.proofs.Keep.{request_found, leaving_step}
use Rattle.life.proofs.Life.{Sound}
use Rattle.life.proofs.Lists.{not_both, split_option, is_some_if, Agree, place_first, place_some}

-- the numbers of a refusal that keeps nothing
abbrev pub Bare : ℕ → Type 0
Bare n = (n ≡ 4) ⊎ ((n ≡ 5) ⊎ ((n ≡ 6) ⊎ ((n ≡ 7) ⊎ (n ≡ 8))))

bare_leaves : (n p r : ℕ) → Bare n → keeps_finds (refused n p false r) ≡ false
bare_leaves n p r = ⊎_elim at (⊎_elim at (⊎_elim at (⊎_elim at at)))
  where
    at : {m : ℕ} → n ≡ m → keeps_finds (refused n p false r) ≡ keeps_finds (refused m p false r)
    at e = ap (λ k. keeps_finds (refused k p false r)) e

pub offence_bare : (c : Catalog) (b : Descriptors) (rs : List ℕ) (extra n p r : ℕ) → Offence c b rs extra n p r → Bare n
offence_bare c b rs extra n p r =
    ⊎_elim (λ x. inl x.0) (⊎_elim (λ x. inr (inl x.0)) (λ x. ⊎_elim (λ y. inr (inr (inr (inl y.0)))) (λ y. inr (inr (inl y.0))) x.6.why))

module _ (c : Catalog) (b : Book) (call : Call) (laws : Laws c) where
  -- the outcome is a step of the book
  abbrev pub Next : Outcome → Type 0
  Next o = Step (call_event c call o.ending) b o.left

  pub refusal_next : (n p r : ℕ) → Bare n → r ≤ c.allowance → Next (refusal b n p r)
  refusal_next n p r x le = leaving_step c b call (refused n p false r) laws (bare_leaves n p r x) le

  pub fitted_next : (f : Option ℕ) (fine : Outcome) (n : ℕ) → n ≤ c.allowance → Next fine → Next (if_fits f fine b n)
  fitted_next None fine n le x = x
  fitted_next (Some t) fine n le x = refusal_next 8 t n (inr (inr (inr (inr refl)))) le

pub last_quiet : (c : Catalog) (b : Descriptors) (rs : List ℕ) (others : Type 0) → (others → ⊥) → (n : ℕ) → LastRound c b rs ⊥ n → LastRound c b rs others n
last_quiet c b rs others quiet n l = (
  λ k x. l.0 k (⊎_elim (λ y. inl (y.0, quiet y.1)) (λ y. inr y) x),
  ⊎_elim (λ z. inl z) (λ z. inr (⊎_elim (λ y. inl (y.0, absurd y.1)) (λ y. inr y) z)) l.1,
)

-- what is not refused by 8 is what follows where it fits
pub fits_so : (o fine : Outcome) (f : Option ℕ) (b : Book) (n : ℕ) → o ≡ if_fits f fine b n → Fits o.ending n → o ≡ fine
fits_so o fine f b n e fits = e ∙ so f (subst (λ (x : Outcome). Fits x.ending n) e fits)
  where
    so : (f : Option ℕ) → Fits (if_fits f fine b n).ending n → if_fits f fine b n ≡ fine
    so None x = refl
    so (Some t) x = absurd (x t refl)

-- how it ends
pub closing_keeps : (n : ℕ) (x y : Option ℕ) → keeps_finds (closing n x y) ≡ true
closing_keeps n None None = refl
closing_keeps n None (Some i) = refl
closing_keeps n (Some i) y = refl

pub closing_tells : (n : ℕ) (x y : Option ℕ) (k : ℕ) → TellsTypeRounds (closing n x y) k → n ≡ k
closing_tells n None None k t = t
closing_tells n None (Some i) k t = t.1
closing_tells n (Some i) y k t = t.1

pub closing_told : (n : ℕ) (x y : Option ℕ) → rounds_told (closing n x y) ≡ n
closing_told n None None = omega arith
closing_told n None (Some i) = refl
closing_told n (Some i) y = refl

pub closing_accepts : (n : ℕ) (x y : Option ℕ) → accepts (closing n x y) ≡ true → y ≡ None
closing_accepts n None None e = refl
closing_accepts n None (Some i) e = absurd cc
closing_accepts n (Some i) y e = absurd cc

pub closing_nine : (n : ℕ) (x y : Option ℕ) (place : ℕ) → (closing n x y ≡ refused 9 place false n) ↔ (x ≡ Some place)
closing_nine n x y place = (from x y, λ e. ap (λ v. closing n v y) e)
  where
    from : (x y : Option ℕ) → closing n x y ≡ refused 9 place false n → x ≡ Some place
    from None None e = absurd cc
    from None (Some i) e = let z : ◌≡◌ {A = ℕ} 10 9 = cc in absurd (omega arith)
    from (Some i) y e = let z : i ≡ place = cc in ap (λ k. Some k) z

pub closing_ten : (n : ℕ) (y : Option ℕ) (place : ℕ) → (closing n None y ≡ refused 10 place false n) ↔ (y ≡ Some place)
closing_ten n y place = (from y, λ e. ap (closing n None) e)
  where
    from : (y : Option ℕ) → closing n None y ≡ refused 10 place false n → y ≡ Some place
    from None e = absurd cc
    from (Some i) e = let z : i ≡ place = cc in ap (λ k. Some k) z

-- what is refused at the place that a test gives is refused at the first place of what the test tells
pub refused_first : {A : Type 0} (e : Ending) (number n : ℕ) (test : A → Bool) (P : A → Type 0) (xs : List A) → Agree test P xs →
    ((place : ℕ) → (e ≡ refused number place false n) ↔ (first_place test 0 xs ≡ Some place)) → RefusedAtFirst e number n P xs
refused_first e number n test P xs agree told = record {
  if_any = (
    λ y. (place_some test P xs agree 0).0 (y.0, (told y.0).0 y.1),
    λ y. let x = (place_some test P xs agree 0).1 y in (x.0, (told x.0).1 x.1),
  );
  first = λ place. (
    λ y. (place_first test P xs agree 0 place).0 ((told place).0 y),
    λ y. (told place).1 ((place_first test P xs agree 0 place).1 y),
  );
}

-- after the passes, the test for refusal 9 tells a requested OID that has a row and no unfolding
module _ (c : Catalog) (b : Descriptors) (rs : List ℕ) (sound : Sound c b) (reads : List ℕ) (are : (o : ℕ) → Mem o reads ↔ StandsOnce c b rs o) where
  abbrev d : Descriptors
  d = settled c b reads

  pub unresolved_tells : (o : ℕ) → Mem o rs → (unresolved c d o ≡ true) ↔ Unresolved c o
  unresolved_tells o m = (
    λ e.
        let v = and_parts (is_some (c.rows o)) (not (is_some (found d o))) e in
        (is_some_if (c.rows o) v.0, λ u. not_both (ap is_some ((request_found c b rs sound reads are o u.0 m).1 u.1)) (not-true (is_some (found d o)) v.1)),
    λ y.
        let unfound : found d o ≡ None = ⊎_elim (λ z. z) (λ z. absurd (y.1 (z.0, (request_found c b rs sound reads are o z.0 m).0 z.1))) (split_option (found d o)) in
        λ i. is_some (y.0.1 i) && not (is_some (unfound i)),
  )
