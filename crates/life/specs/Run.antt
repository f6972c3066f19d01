-- Lives whose every step is what the computed call gives, or a refusal before any round.
-- Assumes nothing.
use Rattle.std.specs.Prelude.{◌≡◌, ℕ, ◌+◌, ◌-◌, false, ◌⊎◌, List, [], ◌∷◌, Option}
use Rattle.catalog.specs.Catalog.{Catalog, Laws, spent, Grows}
use Rattle.life.specs.Bind.{bind_outcome}
use Rattle.life.specs.Calls.{Call, fill, resolve, bind, describe}
use Rattle.life.specs.Fill.{quiet_outcome}
use Rattle.life.specs.Life.{Lived, Lawful}
use Rattle.life.specs.Outcomes.{Outcome, TypeRounds}
use Rattle.life.specs.Resolve.{resolve_outcome}
use Rattle.life.specs.Steps.{Book, empty_book, Ending, accepted, refused, rounds_told, Event, LastOfCall}

-- a refusal before any round: 1, 2 or 3
abbrev pub TurnedAway : Ending → Type 0
TurnedAway (accepted types columns) = ⊥
TurnedAway (refused number place columns rounds) = ((number ≡ 1) ⊎ ((number ≡ 2) ⊎ (number ≡ 3))) × (columns ≡ false) × (rounds ≡ 0)

module _ (full full_columns : Book → Option ℕ) where
  abbrev pub perform : Catalog → Book → Call → Outcome
  perform c b (fill rs) = quiet_outcome full c b (fill rs)
  perform c b (resolve ds) = resolve_outcome full c b ds
  perform c b (bind q) = bind_outcome full full_columns c b q
  perform c b (describe o) = record { ending = accepted 0 0; left = b }

  -- the event is the call performed on b, which it left as b', or the call was turned away; the catalog keeps its laws and lost the
  -- rounds told
  pub record Done (e : Event) (b b' : Book) : Type 0 where
    pub laws : Laws e.before
    pub after : e.after ≡ spent e.before (e.before.allowance - rounds_told e.ending)
    pub what :
        ((e.ending ≡ (perform e.before b e.call).ending) × (b' ≡ (perform e.before b e.call).left)) ⊎
        (TurnedAway e.ending × (b' ≡ b))

  -- b is the book that the calls of a history, the last one first, left of the empty book, and c the catalog as it now stands
  abbrev pub Performed : List Event → Catalog → Book → Type 0
  Performed [] c b = b ≡ empty_book
  Performed (e ∷ h) c b = (b₀ : Book) × Performed h e.before b₀ × Done e b₀ b × Grows e.after c

  -- in each step the type rounds told are the last round in which anything stood in it, and the allowance fell by the rounds told
  abbrev pub CountedRun : (h : List Event) (c : Catalog) (b : Book) → Performed h c b → Type 0
  CountedRun [] c b p = Unit {0}
  CountedRun (e ∷ h) c b p =
      ((k : ℕ) → TypeRounds e.ending k → LastOfCall e.before p.0 e.call k) ×
      (e.before.allowance ≡ e.after.allowance + rounds_told e.ending) ×
      CountedRun h e.before p.0 p.1

-- the type rounds that a call performed tells are the last round in which anything stands
abbrev pub RoundsLaw : Type 0
RoundsLaw =
    (full full_columns : Book → Option ℕ) (h : List Event) (c : Catalog) (b : Book) (call : Call) → Lived h c b →
    (k : ℕ) → TypeRounds (perform full full_columns c b call).ending k → LastOfCall c b call k

-- each call performed on the book that a life left is one more step of that life
abbrev pub PerformLaw : Type 0
PerformLaw = (full full_columns : Book → Option ℕ) (h : List Event) (c : Catalog) (b : Book) → Performed full full_columns h c b → Lived h c b

-- the whole law of a book's life, of the computed calls: nothing is assumed but the catalogs' laws and growth
abbrev pub RunLaw : Type 0
RunLaw =
    (full full_columns : Book → Option ℕ) (h : List Event) (c : Catalog) (b : Book) (p : Performed full full_columns h c b) →
    Lawful h c b × CountedRun full full_columns h c b p
