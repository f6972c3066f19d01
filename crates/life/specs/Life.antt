-- Whole lives of a book, and the law that holds of each.
-- Assumes nothing.
use Rattle.std.specs.Prelude.{◌≡◌, ℕ, ◌+◌, true, ◌⊎◌, ◌↔◌, List, [], ◌∷◌, ℤ, Some}
use Rattle.catalog.specs.Catalog.{CatalogColumn, Catalog, Grows}
use Rattle.catalog.specs.Shape.{Name}
use Rattle.unfolding.specs.Unfolding.{Tree, built_in, Unfolds, HasUnfolding}
use Rattle.life.specs.Calls.{array_link}
use Rattle.life.specs.Steps.{Book, empty_book, answer, rounds_told, keeps_finds, TellsTypeRounds, Event, wanted, LastOfCall, LedTo, Step}

-- b is the book that the steps of a history, the last one first, left of the empty book, and c the catalog as it now stands: each
-- step met the book that the steps before it left, on a catalog that had only grown since
abbrev pub Lived : List Event → Catalog → Book → Type 0
Lived [] c b = b ≡ empty_book
Lived (e ∷ h) c b = (b₀ : Book) × Lived h e.before b₀ × Step e b₀ b × Grows e.after c

-- a step that kept its finds had a request that led to o while o had an unfolding
abbrev pub Earlier : List Event → ℕ → Type 0
Earlier [] o = ⊥
Earlier (e ∷ h) o = ((keeps_finds e.ending ≡ true) × LedTo e.before (wanted e) o × HasUnfolding e.before o) ⊎ Earlier h o

-- in each step of a life the type rounds told are the last round in which anything stood, and the allowance fell by the rounds told
abbrev pub Counted : (h : List Event) (c : Catalog) (b : Book) → Lived h c b → Type 0
Counted [] c b l = Unit {0}
Counted (e ∷ h) c b l =
    ((k : ℕ) → TellsTypeRounds e.ending k → LastOfCall e.before l.0 e.call k) ×
    (e.before.allowance ≡ e.after.allowance + rounds_told e.ending) ×
    Counted h e.before l.0 l.1

-- what a book answers, beside descriptors, is what the catalog would answer now
pub record Agrees (c : Catalog) (b : Book) : Type 0 where
  pub names : (n : Name) (o : ℕ) → b.names n ≡ Some o → c.named n ≡ Some o
  pub arrays : (e a : ℕ) → b.arrays e ≡ Some a → array_link (c.rows e) ≡ Some a
  pub columns : (r : ℕ) (a : ℤ) (k : CatalogColumn) → b.columns r a ≡ Some k → c.columns r a ≡ Some k

-- of a book that has lived so: what Describe answers, that each answer is the unfolding in the catalog as it now stands, and the rest
pub record Lawful (h : List Event) (c : Catalog) (b : Book) : Type 0 where
  pub answers : (o : ℕ) → ((t : Tree) × (answer b o ≡ Some t)) ↔ ((built_in o ≡ true) ⊎ Earlier h o)
  pub right : (o : ℕ) (t : Tree) → answer b o ≡ Some t → Unfolds c o t
  pub agrees : Agrees c b

abbrev pub LifetimeLaw : Type 0
LifetimeLaw = (h : List Event) (c : Catalog) (b : Book) (l : Lived h c b) → Lawful h c b × Counted h c b l
