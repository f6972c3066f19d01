-- The rounds as lists.
-- Assumes nothing.
use Rattle.std.proofs.Common.{ℕ, zero, suc, ◌⊎◌, List, [], ◌++◌, nat_eq, refl, inl, inr, ⊎_elim}
use Rattle.std.proofs.lemmas.Bool.Decides.{Decides-eqb}
use Rattle.catalog.specs.Catalog.{Catalog}
use Rattle.unfolding.specs.Lists.{Mem, Distinct}
use Rattle.unfolding.specs.Unfolding.{Link, itself, onward}
use Rattle.life.specs.Rounds.{Descriptors, Unknown, Layer, Before, Stands, StandsOnce}
use Rattle.life.specs.Steps.{LedTo}
use Rattle.life.specs.Stops.{standing, earlier, StandingLaw, QueueLaw}
use Rattle.life.specs.Walk.{answered, links_of}
use Rattle.life.proofs.Fresh.{fresh_has, has_fresh, fresh_distinct, pushed, links_mem}
use Rattle.life.proofs.Known.{unanswered, unknown_unanswered}
use Rattle.life.proofs.Lists.{cases_mem, mem_left, mem_right, mem_split, distinct_append}

module _ (c : Catalog) (b : Descriptors) (rs : List ℕ) where
  abbrev layer : ℕ → List ℕ
  layer = standing c b rs

  abbrev before : ℕ → List ℕ
  before = earlier c b rs

  mutual
    pub layer_stands : (k o : ℕ) → Mem o (layer k) → Layer c b rs k o
    layer_stands zero o m =
        let h = fresh_has nat_eq Decides-eqb (answered b) rs [] o m in
        (h.0, unanswered b o h.1)
    layer_stands (suc k) o m =
        let h = fresh_has nat_eq Decides-eqb (answered b) (links_of c (layer k)) (before k ++ layer k) o m in
        let l = (links_mem c (layer k) o).0 h.0 in (
          (l.0, layer_stands k l.0 l.1, l.2),
          unanswered b o h.1,
          λ x. h.2 (mem_left o (before k) (layer k) (before_in k o x)),
          λ x. h.2 (mem_right o (before k) (layer k) (stands_layer k o x)),
        )

    pub stands_layer : (k o : ℕ) → Layer c b rs k o → Mem o (layer k)
    stands_layer zero o h = has_fresh nat_eq Decides-eqb (answered b) rs [] o h.0 (unknown_unanswered b o h.1) (λ x. x)
    stands_layer (suc k) o h =
        has_fresh nat_eq Decides-eqb (answered b) (links_of c (layer k)) (before k ++ layer k) o
        ((links_mem c (layer k) o).1 (h.0.0, stands_layer k h.0.0 h.0.1, h.0.2))
        (unknown_unanswered b o h.1)
        (λ m. ⊎_elim (λ x. h.2 (in_before k o x)) (λ x. h.3 (layer_stands k o x)) (mem_split o (before k) (layer k) m))

    pub in_before : (k o : ℕ) → Mem o (before k) → Before c b rs k o
    in_before zero o m = m
    in_before (suc k) o m = ⊎_elim (λ x. inl (in_before k o x)) (λ x. inr (layer_stands k o x)) (mem_split o (before k) (layer k) m)

    pub before_in : (k o : ℕ) → Before c b rs k o → Mem o (before k)
    before_in zero o m = m
    before_in (suc k) o m = ⊎_elim (λ x. mem_left o (before k) (layer k) (before_in k o x)) (λ x. mem_right o (before k) (layer k) (stands_layer k o x)) m

  cases_layer : (k o : ℕ) → Layer c b rs k o ⊎ (Layer c b rs k o → ⊥)
  cases_layer k o = ⊎_elim (λ m. inl (layer_stands k o m)) (λ n. inr (λ h. n (stands_layer k o h))) (cases_mem o (layer k))

  cases_before : (k o : ℕ) → Before c b rs k o ⊎ (Before c b rs k o → ⊥)
  cases_before k o = ⊎_elim (λ m. inl (in_before k o m)) (λ n. inr (λ h. n (before_in k o h))) (cases_mem o (before k))

  stood : (k o : ℕ) → Before c b rs k o → StandsOnce c b rs o
  stood zero o h = absurd h
  stood (suc k) o (inl h) = stood k o h
  stood (suc k) o (inr h) = (suc k, h)

  pub earlier_stands : (k o : ℕ) → Mem o (before k) → StandsOnce c b rs o
  earlier_stands k o m = stood k o (in_before k o m)

  -- a link of what stands, itself unknown, stands in some round
  pub link_stands : (p o : ℕ) → StandsOnce c b rs p → Link c p o → Unknown b o → StandsOnce c b rs o
  link_stands p o s l u = go s.0 s.1
    where
      go : (k : ℕ) → Stands c b rs k p → StandsOnce c b rs o
      go zero h = absurd h
      go (suc k) h =
          ⊎_elim
          (stood k o)
          (λ nb. ⊎_elim (λ x. (suc k, x)) (λ nl. (suc (suc k), ((p, h, l), u, nb, nl))) (cases_layer k o))
          (cases_before k o)

  -- what stands is unknown, and was led to
  pub stands_unknown : (o : ℕ) → StandsOnce c b rs o → Unknown b o
  stands_unknown o s = go s.0 s.1
    where
      go : (k : ℕ) → Stands c b rs k o → Unknown b o
      go zero h = absurd h
      go (suc zero) h = h.1
      go (suc (suc k)) h = h.1

  pub stands_led : (o : ℕ) → StandsOnce c b rs o → LedTo c rs o
  stands_led o s = go s.0 o s.1
    where
      go : (k o : ℕ) → Stands c b rs k o → LedTo c rs o
      go zero o h = absurd h
      go (suc zero) o h = (o, h.0, itself refl)
      go (suc (suc k)) o h =
          let up = go (suc k) h.0.0 h.0.1 in
          (up.0, up.1, onward h.0.0 up.2 (stands_unknown h.0.0 (suc k, h.0.1)).0 h.0.2)

  layer_distinct : (k : ℕ) → Distinct (layer k)
  layer_distinct zero = fresh_distinct nat_eq Decides-eqb (answered b) rs []
  layer_distinct (suc k) = fresh_distinct nat_eq Decides-eqb (answered b) (links_of c (layer k)) (before k ++ layer k)

  layer_apart : (k o : ℕ) → Mem o (layer k) → Mem o (before k) → ⊥
  layer_apart zero o m n = n
  layer_apart (suc k) o m n = (fresh_has nat_eq Decides-eqb (answered b) (links_of c (layer k)) (before k ++ layer k) o m).2 n

  -- each OID stands once
  pub earlier_distinct : (k : ℕ) → Distinct (before k)
  earlier_distinct zero = tt
  earlier_distinct (suc k) = distinct_append (before k) (layer k) (earlier_distinct k) (layer_distinct k) (λ o m n. layer_apart k o n m)

pub standing_law : StandingLaw
standing_law c b rs k o = (layer_stands c b rs k o, stands_layer c b rs k o)

pub queue_law : QueueLaw
queue_law c b rs = (
  pushed nat_eq Decides-eqb (answered b) rs [],
  λ k. pushed nat_eq Decides-eqb (answered b) (links_of c (standing c b rs k)) (earlier c b rs (suc k)),
)
