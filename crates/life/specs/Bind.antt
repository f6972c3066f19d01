-- A whole Bind, computed: the walk over its types, the passes, refusals 8 and 9, the column round with 5 and 8 of layer columns, and
-- what is written.
-- Assumes nothing.
use Rattle.std.specs.Prelude.{◌≡◌, ℕ, zero, suc, ◌-◌, true, false, ◌&&◌, ◌⊎◌, ◌↔◌, List, [], ◌∷◌, ℤ, is_some, if◌then◌else◌, Some, None, Option}
use Rattle.std.specs.List.{list_any}
use Rattle.std.specs.Option.{option_or}
use Rattle.catalog.specs.Catalog.{Catalog, Laws}
use Rattle.keys.specs.Senses.{Pair, same_pair}
use Rattle.unfolding.specs.Lists.{Mem, Distinct}
use Rattle.life.specs.Calls.{Binding, Call, bind, requests, AsksColumn}
use Rattle.life.specs.Keep.{kept, LivesOn}
use Rattle.life.specs.Life.{Lived}
use Rattle.life.specs.Lists.{fresh_by, first_place}
use Rattle.life.specs.Outcomes.{Outcome, fitted, if_fits, concluded, unresolved, Unresolved, Fits, RefusedAtFirst}
use Rattle.life.specs.Settle.{settled}
use Rattle.life.specs.Steps.{Book, Ending, accepted, refused, accepts, Event, KeepsColumns}
use Rattle.life.specs.Tests.{sources}
use Rattle.life.specs.Walk.{ended, walk_from}

-- the columns to ask for: those that a field comes from and the book does not hold, each once, in order
abbrev pub column_questions : Book → Binding → List Pair
column_questions b q = if q.queries && q.origins then fresh_by same_pair (λ p. is_some (b.columns p.0 p.1)) [] (sources q.fields) else []

module _ (full full_columns : Book → Option ℕ) (c : Catalog) (b : Book) (q : Binding) where
  -- the book once its types are settled, without any new column
  abbrev pub types_book : List ℕ → Book
  types_book reads = kept c (bind q) reads b false

  -- the same with the columns that were asked for and found
  abbrev pub columns_book : List ℕ → List Pair → Book
  columns_book reads asked = record {
    descriptors = (types_book reads).descriptors;
    names = (types_book reads).names;
    arrays = (types_book reads).arrays;
    columns = λ r a. option_or (b.columns r a) (if list_any (same_pair (r, a)) asked then c.columns r a else None);
  }

  -- the column round over what is left of the allowance, if any column is to be asked for
  abbrev pub column_round : (n : ℕ) → List ℕ → (left : ℕ) → List Pair → Outcome
  column_round n reads left [] = record { ending = accepted n 0; left = columns_book reads [] }
  column_round n reads zero (p ∷ ps) = record { ending = refused 5 (suc n) true n; left = types_book reads }
  column_round n reads (suc left) (p ∷ ps) =
      fitted (full_columns (columns_book reads (p ∷ ps)))
      (record { ending = accepted n 1; left = columns_book reads (p ∷ ps) })
      (λ table. record { ending = refused 8 table true (suc n); left = types_book reads })

  abbrev pub types_settled : ℕ → List ℕ → Option ℕ → Outcome
  types_settled n reads (Some place) = record { ending = refused 9 place false n; left = types_book reads }
  types_settled n reads None = column_round n reads (c.allowance - n) (column_questions b q)

  abbrev pub bind_settled : ℕ → List ℕ → Outcome
  bind_settled n reads =
      if_fits (full (types_book reads)) (types_settled n reads (first_place (unresolved c (settled c b.descriptors reads)) 0 (requests c (bind q)))) b n

  abbrev pub bind_outcome : Outcome
  bind_outcome = concluded b bind_settled (walk_from c b.descriptors (requests c (bind q)))

-- a Bind, so computed, is one more step of any life
abbrev pub BindLaw : Type 0
BindLaw =
    (full full_columns : Book → Option ℕ) (h : List Event) (c : Catalog) (b : Book) (q : Binding) → Laws c → Lived h c b →
    LivesOn h c (bind q) (bind_outcome full full_columns c b q).ending (bind_outcome full full_columns c b q).left

-- the columns that it leaves are those that it met, and, where it is accepted, those that it may ask for and the catalog has
abbrev pub ColumnsLaw : Type 0
ColumnsLaw =
    (full full_columns : Book → Option ℕ) (h : List Event) (c : Catalog) (b : Book) (q : Binding) → Laws c → Lived h c b →
    let o : Outcome = bind_outcome full full_columns c b q in KeepsColumns c (bind q) (accepts o.ending) b o.left

-- the column round asks for each pair that a field comes from and the book does not hold, if columns may be asked for, and for none
-- twice
abbrev pub QuestionsLaw : Type 0
QuestionsLaw =
    (b : Book) (q : Binding) →
    ((r : ℕ) (a : ℤ) → Mem (r, a) (column_questions b q) ↔ (AsksColumn (bind q) r a × (b.columns r a ≡ None))) ×
    Distinct (column_questions b q)

-- some column is to be asked for
abbrev pub AnyColumn : Book → Call → Type 0
AnyColumn b call = (r : ℕ) × (a : ℤ) × AsksColumn call r a × (b.columns r a ≡ None)

-- what is told of the column round: an accepted Bind tells 1 or 0, as a column is to be asked for or not; refusal 5 of layer columns
-- one at no allowance left, behind its type rounds; 8 of that layer one too
abbrev pub TellsColumns : Catalog → Book → Call → Ending → Type 0
TellsColumns c b call (accepted n m) = ((m ≡ 1) × AnyColumn b call) ⊎ ((m ≡ 0) × (AnyColumn b call → ⊥))
TellsColumns c b call (refused n place false rounds) = Unit {0}
TellsColumns c b call (refused n place true rounds) =
    AnyColumn b call × (((n ≡ 5) × (place ≡ suc rounds) × (rounds ≡ c.allowance)) ⊎ (n ≡ 8))

abbrev pub ColumnRoundLaw : Type 0
ColumnRoundLaw =
    (full full_columns : Book → Option ℕ) (c : Catalog) (b : Book) (q : Binding) →
    TellsColumns c b (bind q) (bind_outcome full full_columns c b q).ending

-- once its walk has ended and what it keeps of its types fits, it is refused by 9 exactly where a requested OID has a row and no
-- unfolding; its requests are its parameters and then its fields' types, so that places go on through the fields
abbrev pub BindNineLaw : Type 0
BindNineLaw =
    (full full_columns : Book → Option ℕ) (h : List Event) (c : Catalog) (b : Book) (q : Binding) → Lived h c b →
    (n : ℕ) (reads : List ℕ) → walk_from c b.descriptors (requests c (bind q)) ≡ ended n reads →
    Fits (bind_outcome full full_columns c b q).ending n →
    RefusedAtFirst (bind_outcome full full_columns c b q).ending 9 n (Unresolved c) (requests c (bind q))
