-- Hollow bodies: what does nothing, or says what is not so, is refuted by what is said of a step, a refusal or a life.
-- Assumes nothing.
use Rattle.std.specs.Prelude.{◌≡◌, ℕ, false, List, [], ◌∷◌, Some, None}
use Rattle.catalog.specs.Shape.{Name}
use Rattle.life.specs.Calls.{fill}
use Rattle.life.specs.HostCalls.{host_fill, RefusedEarly}
use Rattle.life.specs.Keep.{call_event}
use Rattle.life.specs.Life.{Lawful}
use Rattle.life.specs.Outcomes.{Unresolved, RefusedAtFirst}
use Rattle.life.specs.Steps.{Book, empty_book, Ending, accepted, refused, Event, Step}
use Rattle.unfolding.specs.Unfolding.{Tree}
use Rattle.worked_examples.specs.Cards.{prices}

-- a Fill of one OID, which ended so
abbrev pub fill_of : ℕ → Ending → Event
fill_of o e = call_event (prices 64) (fill (o ∷ [])) e

-- the same for free: the allowance is as it was
abbrev pub free_fill : ℕ → Ending → Event
free_fill o e = record { before = prices 64; after = prices 64; call = fill (o ∷ []); ending = e }

-- 50004 is an enum, and 50001 a domain over another
pub record HollowLaw : Type 0 where
  -- a book that keeps nothing is no book after an accepted Fill of what has an unfolding
  pub keeps_nothing : Step (fill_of 50004 (accepted 1 0)) empty_book empty_book → ⊥
  -- nor one that answers nothing
  pub answers_nothing : Lawful (fill_of 50004 (accepted 1 0) ∷ []) (prices 63) empty_book → ⊥
  -- nor one that holds no name
  pub nameless : (b : Book) → ((n : Name) → b.names n ≡ None) → Step (fill_of 50004 (accepted 1 0)) empty_book b → ⊥
  -- one descriptor for all
  pub one_for_all : (t : Tree) (b : Book) → ((o : ℕ) → b.descriptors o ≡ Some t) → Step (fill_of 50004 (accepted 1 0)) empty_book b → ⊥
  -- round 1 is read, and a second stands
  pub stops_short : (b : Book) → Step (fill_of 50001 (accepted 1 0)) empty_book b → ⊥
  -- a count that is made up
  pub made_up : (n : ℕ) (b : Book) → (n ≡ 1 → ⊥) → Step (fill_of 50004 (accepted n 0)) empty_book b → ⊥
  -- rounds that cost nothing
  pub free_rounds : (b : Book) → Step (free_fill 50004 (accepted 1 0)) empty_book b → ⊥
  -- refusal 9, of what has an unfolding
  pub always_nine : (place rounds : ℕ) → RefusedAtFirst (refused 9 place false rounds) 9 rounds (Unresolved (prices 64)) (50004 ∷ []) → ⊥
  -- refused before any round, with nothing that offends
  pub always_early : (host : List ℕ) (number place : ℕ) → RefusedEarly host (host_fill (50004 ∷ [])) number place → ⊥
