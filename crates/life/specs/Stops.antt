-- Where a walk stops, in the order in which rows are read, and when it does not.
-- Assumes nothing.
use Rattle.std.specs.Prelude.{◌≡◌, ℕ, zero, suc, ◌+◌, ◌<◌, ◌≤◌, Bool, true, false, ◌⊎◌, ◌↔◌, List, [], ◌∷◌, ◌++◌, length, nat_eq}
use Rattle.catalog.specs.Catalog.{Catalog, Each}
use Rattle.unfolding.specs.Lists.{Mem}
use Rattle.life.specs.Lists.{fresh, push_all, AtMost}
use Rattle.life.specs.Rounds.{Descriptors, Layer, Stands, StandsOnce, LastRound}
use Rattle.life.specs.Walk.{answered, links_of, malformed, ended, stopped, walk_from}

module _ (c : Catalog) (b : Descriptors) (rs : List ℕ) where
  abbrev mutual
    -- what stands in round k + 1, in standing order
    pub standing : ℕ → List ℕ
    standing zero = fresh (answered b) [] rs
    standing (suc k) = fresh (answered b) (earlier k ++ standing k) (links_of c (standing k))

    -- what stands in the rounds before it, in the order read
    pub earlier : ℕ → List ℕ
    earlier zero = []
    earlier (suc k) = earlier k ++ standing k

  -- no row is malformed
  abbrev pub Sane : List ℕ → Type 0
  Sane os = (o : ℕ) → Mem o os → malformed c o ≡ false

  -- n is the last round; it is at most 64 and within the allowance, no row that stands is malformed, and at most 256 OIDs stand
  pub record Orderly (n : ℕ) : Type 0 where
    pub last : LastRound c b rs ⊥ n
    pub rounds : n ≤ 64
    pub allowed : n ≤ c.allowance
    pub sane : (k o : ℕ) → Stands c b rs k o → malformed c o ≡ false
    pub few : AtMost 256 (StandsOnce c b rs)

-- the question at which a round stops, where so many rows more may be asked for: none before it is refused, and it is one too
-- many, 7, or refused, 6
pub record StopsAt {Q : Type 0} (oid : Q → ℕ) (bad : Q → Bool) (left : ℕ) (qs : List Q) (n p : ℕ) : Type 0 where
  pub before : List Q
  pub asked : Q
  pub behind : List Q
  pub here : qs ≡ before ++ asked ∷ behind
  pub place : p ≡ oid asked
  pub good : Each (λ q. bad q ≡ false) before
  pub why : ((n ≡ 7) × (length before ≡ left)) ⊎ ((n ≡ 6) × (length before < left) × (bad asked ≡ true))

-- `extra`: how many rows were read in round 1 for their typarray alone, none but in a Resolve
module _ (c : Catalog) (b : Descriptors) (rs : List ℕ) (extra : ℕ) where
  -- k rounds are through without offence, and left more rows may be asked for
  pub record Through (k left : ℕ) : Type 0 where
    pub sane : Sane c b rs (earlier c b rs k)
    pub asked : left + (extra + length (earlier c b rs k)) ≡ 256

  -- and one more round is needed
  abbrev pub Needed : ℕ → Type 0
  Needed k = ((left : ℕ) × Through k left) × ((o : ℕ) × Mem o (standing c b rs k))

  -- 4 where it would be the 65th
  abbrev pub Round65 : (number place rounds : ℕ) → Type 0
  Round65 n p r = (n ≡ 4) × (p ≡ 65) × (r ≡ 64) × Needed r

  -- 5 where fewer than 64 rounds were opened and the allowance is used up
  abbrev pub Poor : (number place rounds : ℕ) → Type 0
  Poor n p r = (n ≡ 5) × (p ≡ suc r) × (r ≡ c.allowance) × (r < 64) × Needed r

  -- 6 or 7 at a row of the round now open
  abbrev pub AtRow : (number place rounds : ℕ) → Type 0
  AtRow n p r =
      (k left : ℕ) × (r ≡ suc k) × (k < 64) × (k < c.allowance) × Through k left ×
      StopsAt (λ o. o) (malformed c) left (standing c b rs k) n p

  abbrev pub Offence : (number place rounds : ℕ) → Type 0
  Offence n p r = Round65 n p r ⊎ (Poor n p r ⊎ AtRow n p r)

-- the lists are what stands
abbrev pub StandingLaw : Type 0
StandingLaw = (c : Catalog) (b : Descriptors) (rs : List ℕ) (k o : ℕ) → Mem o (standing c b rs k) ↔ Layer c b rs k o

-- the same by a queue to which each round pushes the links of the rows that it read
abbrev pub QueueLaw : Type 0
QueueLaw =
    (c : Catalog) (b : Descriptors) (rs : List ℕ) →
    (push_all nat_eq (answered b) [] rs ≡ earlier c b rs 1) ×
    ((k : ℕ) → push_all nat_eq (answered b) (earlier c b rs (suc k)) (links_of c (standing c b rs k)) ≡ earlier c b rs (suc (suc k)))

-- a walk passes refusals 4 to 7 exactly if it is orderly, and tells its last round
abbrev pub EndsLaw : Type 0
EndsLaw =
    (c : Catalog) (b : Descriptors) (rs : List ℕ) (n : ℕ) → ((reads : List ℕ) × (walk_from c b rs ≡ ended n reads)) ↔ Orderly c b rs n

-- one that stops does so at its first offence
abbrev pub StopsLaw : Type 0
StopsLaw = (c : Catalog) (b : Descriptors) (rs : List ℕ) (n p r : ℕ) → walk_from c b rs ≡ stopped n p r → Offence c b rs 0 n p r
