-- The rounds of a Resolve, computed: what round 1 asks for, and the rounds after it.
-- Assumes nothing.
use Rattle.std.specs.Prelude.{◌≡◌, ℕ, zero, suc, ◌≤◌, Bool, true, false, not, ◌||◌, ◌⊎◌, ◌↔◌, List, [], ◌∷◌, ◌++◌, map, length, is_some, Some, None, flat_map, Option, option_to_list}
use Rattle.std.specs.List.{list_any}
use Rattle.std.specs.Option.{option_or}
use Rattle.catalog.specs.Catalog.{CatalogRow, Catalog}
use Rattle.catalog.specs.Shape.{Name, codes_listed}
use Rattle.unfolding.specs.Lists.{Mem, Distinct}
use Rattle.life.specs.Calls.{Declared, of_oid, of_name, array_of, resolve, array_link, requests, DeclaresArray}
use Rattle.life.specs.Life.{Lived}
use Rattle.life.specs.Lists.{is_in, fresh, AtMost}
use Rattle.life.specs.Rounds.{Known, Stands, StandsOnce, Anything}
use Rattle.life.specs.Steps.{Book, Event, NamesStand, LastOfCall}
use Rattle.life.specs.Stops.{StopsAt, Offence}
use Rattle.life.specs.Walk.{answered, links_of, malformed, ask_each, Walked, ended, stopped, and_then, walk}

-- a row that round 1 may ask for: that of a requested OID, in full, or that of an element, for its typarray alone
pub data Question : Type 0 where
  in_full : ℕ → Question
  for_array : ℕ → Question

-- the OID of a question, and of a list those in full and those for arrays alone
abbrev pub asked_oid : Question → ℕ
asked_oid (in_full o) = o
asked_oid (for_array e) = e

abbrev pub asked_in_full : List Question → List ℕ
asked_in_full [] = []
asked_in_full (in_full o ∷ qs) = o ∷ asked_in_full qs
asked_in_full (for_array e ∷ qs) = asked_in_full qs

abbrev pub for_arrays_alone : List Question → List ℕ
for_arrays_alone [] = []
for_arrays_alone (in_full o ∷ qs) = for_arrays_alone qs
for_arrays_alone (for_array e ∷ qs) = e ∷ for_arrays_alone qs

-- the row has a code that is not listed
abbrev pub miscoded : Option CatalogRow → Bool
miscoded None = false
miscoded (Some r) = not (codes_listed r)

-- a row read in full is refused where it is malformed, one read for its typarray alone only for its codes
abbrev pub refusable : Catalog → Question → Bool
refusable c (in_full o) = malformed c o
refusable c (for_array e) = miscoded (c.rows e)

-- there is one
abbrev pub any_question : List Question → Bool
any_question [] = false
any_question (q ∷ qs) = true

module _ (c : Catalog) (b : Book) where
  -- the OID that a name leads to: the book's answer, or else the catalog's
  abbrev pub lead : Name → Option ℕ
  lead n = option_or (b.names n) (c.named n)

  -- the array of an element: the book's, or else the typarray of its row
  abbrev pub link : ℕ → Option ℕ
  link e = option_or (b.arrays e) (array_link (c.rows e))

  -- the rows of an OID that may be there, and of an element and its array
  abbrev pub in_full_if : Option ℕ → List Question
  in_full_if o = map in_full (option_to_list o)

  abbrev pub element_asks : Option ℕ → List Question
  element_asks None = []
  element_asks (Some e) = in_full e ∷ for_array e ∷ in_full_if (link e)

  -- the rows that an entry bears on, the element before the array
  abbrev pub entry_asks : Declared → List Question
  entry_asks (of_oid o) = []
  entry_asks (of_name n) = in_full_if (lead n)
  entry_asks (array_of n) = element_asks (lead n)

  abbrev pub all_asks : List Declared → List Question
  all_asks ds = flat_map entry_asks ds

  -- a name or an element name that the book does not answer
  abbrev pub asks_name : Declared → Bool
  asks_name (of_oid o) = false
  asks_name (of_name n) = not (is_some (b.names n))
  asks_name (array_of n) = not (is_some (b.names n))

  -- an element is not read for its typarray alone if it is read in full, or the book holds its array
  abbrev pub spared : ℕ → Bool
  spared e = not (answered b.descriptors e) || is_some (b.arrays e)

  -- the rows to ask for, each once, in order
  abbrev pub asked_once : (seen apart : List ℕ) → List Question → List Question
  asked_once seen apart [] = []
  asked_once seen apart (in_full o ∷ qs) =
      elim (answered b.descriptors o || is_in o seen) [ true ↦ asked_once seen apart qs | false ↦ in_full o ∷ asked_once (o ∷ seen) apart qs ]
  asked_once seen apart (for_array e ∷ qs) =
      elim (spared e || is_in e apart) [ true ↦ asked_once seen apart qs | false ↦ for_array e ∷ asked_once seen (e ∷ apart) qs ]

  abbrev pub round_one : List Declared → List Question
  round_one ds = asked_once [] [] (all_asks ds)

  -- round 1 at this allowance, and the rounds after it
  abbrev pub first_opened : ℕ → List Question → Walked
  first_opened zero qs = stopped 5 1 0
  first_opened (suc allowance) qs =
      let full : List ℕ = asked_in_full qs in
      and_then (ask_each asked_oid (refusable c) 256 qs) 1
      (λ rest. walk c (answered b.descriptors) 63 1 rest allowance (fresh (answered b.descriptors) full (links_of c full)) full)

  abbrev pub resolve_walk : List Declared → Walked
  resolve_walk ds = elim (list_any asks_name ds || any_question (round_one ds)) [ true ↦ first_opened c.allowance (round_one ds) | false ↦ ended 0 [] ]

module _ (c : Catalog) (b : Book) (ds : List Declared) where
  -- e is an element of a declared array, known, whose array the book does not hold
  abbrev pub ReadApart : ℕ → Type 0
  ReadApart e = DeclaresArray c (resolve ds) e × Known b.descriptors e × (b.arrays e ≡ None)

  -- n is the last round; it is at most 64 and within the allowance, no row that stands is malformed, no row read for its typarray
  -- alone has a code that is not listed, and at most 256 rows are to be read
  pub record OrderlyResolve (n : ℕ) : Type 0 where
    pub last : LastOfCall c b (resolve ds) n
    pub rounds : n ≤ 64
    pub allowed : n ≤ c.allowance
    pub sane : (k o : ℕ) → Stands c b.descriptors (requests c (resolve ds)) k o → malformed c o ≡ false
    pub coded : (e : ℕ) → ReadApart e → miscoded (c.rows e) ≡ false
    pub few : AtMost 256 (λ o. StandsOnce c b.descriptors (requests c (resolve ds)) o ⊎ ReadApart o)

  -- it stops in front of its first round, by 5, or in it, at the first row that is one too many or refused
  abbrev pub FirstRound : (number place rounds : ℕ) → Type 0
  FirstRound n p r =
      ((n ≡ 5) × (p ≡ 1) × (r ≡ 0) × (c.allowance ≡ 0) × Anything c b.descriptors (requests c (resolve ds)) (NamesStand c b (resolve ds)) 1) ⊎
      ((r ≡ 1) × StopsAt asked_oid (refusable c) 256 (round_one c b ds) n p)

-- the rows that round 1 asks for: in full those of the OIDs that stand in it, for their typarray alone those of the known elements
-- whose array the book does not hold, and none twice
abbrev pub RoundOneLaw : Type 0
RoundOneLaw =
    (h : List Event) (c : Catalog) (b : Book) (ds : List Declared) → Lived h c b →
    ((o : ℕ) → Mem o (asked_in_full (round_one c b ds)) ↔ Stands c b.descriptors (requests c (resolve ds)) 1 o) ×
    ((e : ℕ) → Mem e (for_arrays_alone (round_one c b ds)) ↔ ReadApart c b ds e) ×
    Distinct (asked_in_full (round_one c b ds) ++ for_arrays_alone (round_one c b ds))

-- the rounds of a Resolve pass refusals 4 to 7 exactly if they are orderly, and tell their last round
abbrev pub ResolveEndsLaw : Type 0
ResolveEndsLaw =
    (h : List Event) (c : Catalog) (b : Book) (ds : List Declared) (n : ℕ) → Lived h c b →
    ((reads : List ℕ) × (resolve_walk c b ds ≡ ended n reads)) ↔ OrderlyResolve c b ds n

-- those that stop do so at their first offence
abbrev pub ResolveStopsLaw : Type 0
ResolveStopsLaw =
    (h : List Event) (c : Catalog) (b : Book) (ds : List Declared) → Lived h c b →
    (n p r : ℕ) → resolve_walk c b ds ≡ stopped n p r →
    FirstRound c b ds n p r ⊎ Offence c b.descriptors (requests c (resolve ds)) (length (for_arrays_alone (round_one c b ds))) n p r
