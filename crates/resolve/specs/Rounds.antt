-- What one row, and what one round, makes of what a step has found: f before, g after.
-- Assumes nothing.
use Rattle.std.specs.Prelude.{◌≡◌, ℕ, ◌+◌, ◌-◌, ◌<◌, ◌≤◌, Bool, false, List, [], ◌∷◌, ◌++◌, length, map, take, nat_eq}
use Rattle.catalog.specs.Catalog.{Catalog, Opened, Spent}
use Rattle.catalog.specs.Shape.{formed}
use Rattle.life.specs.Lists.{push_all}
use Rattle.life.specs.Walk.{all_read, ask, links_in, links_of, malformed}
use Rattle.finds.specs.declared.tables.Finds.{Finds}
use Rattle.finds.specs.Finds.{ReadFrom, queue_of, rows_of}
use Rattle.faults.specs.declared.fill.FillFault.{FillFault}
use Rattle.faults.specs.Faults.{refusal_of}
use Rattle.resolve.specs.Walks.{left_of, next_of, stop_told, stopped_told, waiting_of, walk_at}

-- these OIDs behind the queue, which has 257 places
abbrev pub with_all : (ℕ → Bool) → List ℕ → List ℕ → List ℕ
with_all skip queue os = take 257 (push_all nat_eq skip queue os)

-- the row of the first that waits was read, and its links were pushed
pub record RowRead (c : Catalog) (skip : ℕ → Bool) (most : ℕ) (f g : Finds) : Type 0 where
  pub room : length (rows_of f) < most
  pub good : malformed c (next_of f) ≡ false
  pub queue : queue_of g ≡ with_all skip (queue_of f) (links_in (formed c (next_of f)))
  pub rows : rows_of g ≡ rows_of f ++ c.rows (next_of f) ∷ []

-- the round stops there
pub record RowRefused (c : Catalog) (most round : ℕ) (f : Finds) (fault : FillFault) : Type 0 where
  pub asked : (os : List ℕ) → ask c (left_of most f) (next_of f ∷ os) ≡ stop_told (refusal_of fault)
  pub told : (refusal_of fault).rounds ≡ round

-- the rows of all that waited were read, and their links were pushed
pub record RoundRead (c : Catalog) (skip : ℕ → Bool) (most : ℕ) (f g : Finds) : Type 0 where
  pub asked : ask c (left_of most f) (waiting_of f) ≡ all_read (most - length (queue_of f))
  pub queue : queue_of g ≡ with_all skip (queue_of f) (links_of c (waiting_of f))
  pub rows : rows_of g ≡ rows_of f ++ map c.rows (waiting_of f)

pub record RoundRefused (c : Catalog) (most round : ℕ) (f : Finds) (fault : FillFault) : Type 0 where
  pub asked : ask c (left_of most f) (waiting_of f) ≡ stop_told (refusal_of fault)
  pub told : (refusal_of fault).rounds ≡ round

-- a round was opened, read and closed: the walk goes on behind it
pub record Turned (c d : Catalog) (skip : ℕ → Bool) (most opened : ℕ) (f g : Finds) : Type 0 where
  pub on : walk_at c skip most opened f ≡ walk_at d skip most (opened + 1) g
  pub cost : Opened c d
  pub read : ReadFrom c f → ReadFrom c g

-- the walk ends in this round, or in front of it
pub record Refused (c d : Catalog) (skip : ℕ → Bool) (most opened : ℕ) (f : Finds) (fault : FillFault) : Type 0 where
  pub stops : walk_at c skip most opened f ≡ stopped_told (refusal_of fault)
  pub since : opened ≤ (refusal_of fault).rounds
  pub cost : Spent ((refusal_of fault).rounds - opened) c d
