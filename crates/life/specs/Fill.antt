-- A whole Fill, computed: the walk, the passes, and refusals 8 and 9.
-- Assumes nothing.
use Rattle.std.specs.Prelude.{◌≡◌, ℕ, List, None, Option}
use Rattle.catalog.specs.Catalog.{Catalog, Laws}
use Rattle.life.specs.Calls.{Call, fill, requests}
use Rattle.life.specs.Keep.{kept, LivesOn}
use Rattle.life.specs.Life.{Lived}
use Rattle.life.specs.Lists.{first_place}
use Rattle.life.specs.Outcomes.{Outcome, if_fits, concluded, closing, unresolved, Unresolved, Fits, RefusedAtFirst}
use Rattle.life.specs.Settle.{settled}
use Rattle.life.specs.Steps.{Book, Ending, accepts, Event, NamesStand}
use Rattle.life.specs.Walk.{ended, walk_from}

-- `full` tells the first table that a book does not fit into, if any
module _ (full : Book → Option ℕ) (c : Catalog) (b : Book) (call : Call) where
  abbrev pub quiet_ending : ℕ → List ℕ → Ending
  quiet_ending n reads = closing n (first_place (unresolved c (settled c b.descriptors reads)) 0 (requests c call)) None

  abbrev pub quiet_settled : ℕ → List ℕ → Outcome
  quiet_settled n reads =
      let left : Book = kept c call reads b (accepts (quiet_ending n reads)) in
      if_fits (full left) (record { ending = quiet_ending n reads; left = left }) b n

  abbrev pub quiet_outcome : Outcome
  quiet_outcome = concluded b quiet_settled (walk_from c b.descriptors (requests c call))

-- a call in which nothing but OIDs stands, as every Fill and Describe, is so computed as one more step of any life
abbrev pub QuietLaw : Type 0
QuietLaw =
    (full : Book → Option ℕ) (h : List Event) (c : Catalog) (b : Book) (call : Call) →
    Laws c → Lived h c b → (NamesStand c b call → ⊥) →
    LivesOn h c call (quiet_outcome full c b call).ending (quiet_outcome full c b call).left

abbrev pub FillLaw : Type 0
FillLaw =
    (full : Book → Option ℕ) (h : List Event) (c : Catalog) (b : Book) (rs : List ℕ) → Laws c → Lived h c b →
    LivesOn h c (fill rs) (quiet_outcome full c b (fill rs)).ending (quiet_outcome full c b (fill rs)).left

-- once its walk has ended and what it keeps fits, it is refused by 9 exactly where a requested OID has a row and no unfolding
abbrev pub NineLaw : Type 0
NineLaw =
    (full : Book → Option ℕ) (h : List Event) (c : Catalog) (b : Book) (call : Call) → Lived h c b →
    (n : ℕ) (reads : List ℕ) → walk_from c b.descriptors (requests c call) ≡ ended n reads → Fits (quiet_outcome full c b call).ending n →
    RefusedAtFirst (quiet_outcome full c b call).ending 9 n (Unresolved c) (requests c call)
