-- The walk tells the last round in which anything stands and reads what stands, or stops at its first offence.
-- Assumes nothing.
use Rattle.std.proofs.Common.{◌≡◌, ℕ, zero, suc, ◌+◌, ◌-◌, ◌<◌, ◌≤◌, Bool, false, ◌⊎◌, ◌↔◌, List, [], ◌∷◌, ◌++◌, length, sym, refl, ap, ◌∙◌, subst, inl, inr, ⊎_elim, arith, length-append}
use Rattle.std.proofs.lemmas.Bool.{cases_lt}
use Rattle.catalog.specs.Catalog.{Catalog}
use Rattle.unfolding.specs.Lists.{Mem}
use Rattle.life.specs.Lists.{fresh}
use Rattle.life.specs.Rounds.{Descriptors, Layer, Stands, StandsOnce, Anything, LastRound}
use Rattle.life.specs.Stops.{standing, earlier, Sane, StopsAt, Through, Needed, Offence}
use Rattle.life.specs.Walk.{answered, links_of, malformed, ask, Walked, ended, stopped, and_then, walk, walk_from}
use Rattle.life.proofs.Asking.{split_asked, each_mem, ask_stops, ask_reads}
use Rattle.life.proofs.Lists.{mem_left, mem_right, mem_split}
use Rattle.life.proofs.Standing.{layer_stands, stands_layer, earlier_stands}

-- `others`: whether anything but OIDs, as a name, stands in round 1; `extra`: how many rows were read in round 1 for their typarray
-- alone
module _ (c : Catalog) (b : Descriptors) (rs : List ℕ) (others : Type 0) (extra : ℕ) where
  abbrev skip : ℕ → Bool
  skip = answered b

  -- after an empty round nothing stands
  empty_on : (k j : ℕ) → standing c b rs k ≡ [] → standing c b rs (j + k) ≡ []
  empty_on k zero e = let z : 0 + k ≡ k = omega arith in ap (standing c b rs) z ∙ e
  empty_on k (suc j) e =
      let z : suc j + k ≡ suc (j + k) = omega arith in
      ap (standing c b rs) z ∙ ap (λ l. fresh skip (earlier c b rs (j + k) ++ l) (links_of c l)) (empty_on k j e)

  -- the walk has ended in front of round n + 1: that is empty, and round n is not
  pub record Ended (n : ℕ) (reads : List ℕ) : Type 0 where
    pub over : standing c b rs n ≡ []
    pub last : (n ≡ 0) ⊎ Anything c b rs others n
    pub first : others → 1 ≤ n
    pub are : reads ≡ earlier c b rs n
    pub sane : Sane c b rs reads
    pub few : extra + length reads ≤ 256

  abbrev pub Result : Walked → Type 0
  Result (ended n reads) = Ended n reads × (n ≤ 64) × (n ≤ c.allowance)
  Result (stopped n p r) = Offence c b rs extra n p r × (r ≤ c.allowance)

  -- what the walk has come to in front of round k + 1
  pub record SoFar (k left : ℕ) (now seen : List ℕ) : Type 0 where
    pub here : now ≡ standing c b rs k
    pub behind : seen ≡ earlier c b rs k
    pub last : (k ≡ 0) ⊎ Anything c b rs others k
    pub first : others → 1 ≤ k
    pub sane : Sane c b rs seen
    pub asked : left + (extra + length seen) ≡ 256

  through : (k left : ℕ) (now seen : List ℕ) → SoFar k left now seen → Through c b rs extra k left
  through k left now seen s =
      record { sane = subst (Sane c b rs) s.behind s.sane; asked = ap (λ l. left + (extra + length l)) (sym s.behind) ∙ s.asked }

  needed : (k left o : ℕ) (now seen : List ℕ) → SoFar k left (o ∷ now) seen → Needed c b rs extra k
  needed k left o now seen s = ((left, through k left (o ∷ now) seen s), (o, subst (Mem o) s.here (inl refl)))

  ends_so : (k left : ℕ) (seen : List ℕ) → SoFar k left [] seen → Ended k seen
  ends_so k left seen s = record { over = sym s.here; last = s.last; first = s.first; are = s.behind; sane = s.sane; few = omega (arith, s.asked) }

  pub walked : (fuel k left allowance : ℕ) (now seen : List ℕ) → fuel + k ≡ 64 → allowance + k ≡ c.allowance → SoFar k left now seen →
      Result (walk c skip fuel k left allowance now seen)
  walked zero k left allowance [] seen f a s = (ends_so k left seen s, omega arith, omega arith)
  walked zero k left allowance (o ∷ os) seen f a s = (inl (refl, omega arith, omega arith, needed k left o os seen s), omega arith)
  walked (suc fuel) k left allowance [] seen f a s = (ends_so k left seen s, omega arith, omega arith)
  walked (suc fuel) k left zero (o ∷ os) seen f a s = (inr (inl (refl, refl, omega arith, omega arith, needed k left o os seen s)), omega arith)
  walked (suc fuel) k left (suc allowance) (o ∷ os) seen f a s =
      let next : ℕ → Walked = λ rest. walk c skip fuel (suc k) rest allowance (fresh skip (seen ++ (o ∷ os)) (links_of c (o ∷ os))) (seen ++ (o ∷ os)) in
      let all : seen ++ (o ∷ os) ≡ earlier c b rs (suc k) = λ i. s.behind i ++ s.here i in
      let long = length-append seen (o ∷ os) in
      ⊎_elim
      (λ r.
      let h = ask_reads (λ q. q) (malformed c) left (o ∷ os) r.0 r.1 in
      subst (λ x. Result (and_then x (suc k) next)) (sym r.1)
      (walked fuel (suc k) r.0 allowance (fresh skip (seen ++ (o ∷ os)) (links_of c (o ∷ os))) (seen ++ (o ∷ os)) (omega arith) (omega arith)
      (record {
        here = λ i. fresh skip (all i) (links_of c (s.here i));
        behind = all;
        last = inr (inr (o, layer_stands c b rs k o (subst (Mem o) s.here (inl refl))));
        first = λ _. omega arith;
        sane = λ p m. ⊎_elim (s.sane p) (each_mem (λ q. malformed c q ≡ false) (o ∷ os) h.1 p) (mem_split p seen (o ∷ os) m);
        asked = omega (arith, s.asked, h.0, long);
      })))
      (λ r.
      let h = ask_stops (λ q. q) (malformed c) left (o ∷ os) r.0 r.1 r.2 in
      subst (λ x. Result (and_then x (suc k) next)) (sym r.2) (
        inr (inr (
          k,
          left,
          refl,
          omega arith,
          omega arith,
          through k left (o ∷ os) seen s,
          subst (λ l. StopsAt (λ q. q) (malformed c) left l r.0 r.1) s.here h,
        )),
        omega arith,
      ))
      (split_asked (ask c left (o ∷ os)))

  pub ended_counts : (n : ℕ) (reads : List ℕ) → Ended n reads → LastRound c b rs others n
  ended_counts n reads e = (
    λ k x. ⊎_elim (λ y. omega (arith, y.0, e.first y.1)) (λ y. under k y.0 y.1) x,
    e.last,
  )
    where
      under : (k o : ℕ) → Stands c b rs k o → k ≤ n
      under zero o h = absurd h
      under (suc k) o h =
          ⊎_elim
          (λ lt. lt)
          (λ ge.
          let j : ℕ = k - n in
          let back : j + n ≡ k = omega arith in
          absurd (subst (Mem o) (sym (ap (standing c b rs) back) ∙ empty_on n j e.over) (stands_layer c b rs k o h)))
          (cases_lt k n)

  earlier_has : (m k o : ℕ) → k < m → Layer c b rs k o → Mem o (earlier c b rs m)
  earlier_has zero k o d h = absurd (omega arith)
  earlier_has (suc m) k o d h =
      ⊎_elim
      (λ lt. mem_left o (earlier c b rs m) (standing c b rs m) (earlier_has m k o lt h))
      (λ ge.
      let same : k ≡ m = omega arith in
      mem_right o (earlier c b rs m) (standing c b rs m) (stands_layer c b rs m o (subst (λ j. Layer c b rs j o) same h)))
      (cases_lt k m)

  pub ended_reads : (n : ℕ) (reads : List ℕ) → Ended n reads → (o : ℕ) → Mem o reads ↔ StandsOnce c b rs o
  ended_reads n reads e o = (
    λ m. earlier_stands c b rs n o (subst (Mem o) e.are m),
    λ x. subst (Mem o) (sym e.are) (back x.0 ((ended_counts n reads e).0 x.0 (inr (o, x.1))) x.1),
  )
    where
      back : (k : ℕ) → k ≤ n → Stands c b rs k o → Mem o (earlier c b rs n)
      back zero d h = absurd h
      back (suc k) d h = earlier_has n k o d h

-- the walk of a step in which nothing but OIDs stands
pub walk_result : (c : Catalog) (b : Descriptors) (rs : List ℕ) → Result c b rs ⊥ 0 (walk_from c b rs)
walk_result c b rs =
    walked c b rs ⊥ 0 64 0 256 c.allowance (fresh (answered b) [] rs) [] refl (omega arith)
    (record { here = refl; behind = refl; last = inl refl; first = λ x. absurd x; sane = λ o m. absurd m; asked = refl })

pub last_once : (c : Catalog) (b : Descriptors) (rs : List ℕ) (others : Type 0) (m n : ℕ) → LastRound c b rs others m → LastRound c b rs others n → m ≡ n
last_once c b rs others m n p q = omega (arith, at_most m n p q, at_most n m q p)
  where
    at_most : (m n : ℕ) → LastRound c b rs others m → LastRound c b rs others n → m ≤ n
    at_most m n p q = ⊎_elim (λ z. omega arith) (λ z. q.0 m z) p.1
