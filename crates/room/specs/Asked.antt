-- Lives of calls as hosts ask them, on tables that have room for so much and no more.
-- Assumes nothing.
use Rattle.std.specs.Prelude.{◌≡◌, ℕ, List, [], ◌∷◌, Some, None, Option}
use Rattle.catalog.specs.Catalog.{Catalog, Laws, Grows}
use Rattle.life.specs.HostCalls.{HostCall, meant, early_refusal, asked_outcome}
use Rattle.life.specs.Keep.{call_event}
use Rattle.life.specs.Outcomes.{Outcome}
use Rattle.life.specs.Steps.{Event}
use Rattle.room.specs.Room.{types_full, columns_full, tables_left, LivedWithin}
use Rattle.room.specs.Sizes.{Sizes}
use Rattle.room.specs.Tables.{Tables, no_tables, contents}

-- the tables as they were where a call is refused before any round, or else what it leaves
abbrev pub left_unless : Tables → Tables → Option (ℕ × ℕ) → Tables
left_unless t left None = left
left_unless t left (Some r) = t

module _ (capacity : Sizes) where
  -- what an asked call does, and the tables that it leaves
  module _ (host : List ℕ) (c : Catalog) (t : Tables) (call : HostCall) where
    abbrev pub asked_within : Outcome
    asked_within =
        asked_outcome (λ _. types_full capacity c t (meant host call)) (λ _. columns_full capacity c t (meant host call)) host c (contents t) call

    abbrev pub asked_left : Tables
    asked_left = left_unless t (tables_left capacity c t (meant host call)) (early_refusal host call)

  -- the event is this call, asked with this text on these tables, which it left as t'
  pub record AskedWithin (host : List ℕ) (call : HostCall) (e : Event) (t t' : Tables) : Type 0 where
    pub laws : Laws e.before
    pub event : e ≡ call_event e.before (meant host call) (asked_within host e.before t call).ending
    pub left : t' ≡ asked_left host e.before t call

  -- t are the tables that the calls which hosts asked, the last one first, left of empty ones, and c the catalog as it now stands
  abbrev pub AskedLifeWithin : List Event → Catalog → Tables → Type 0
  AskedLifeWithin [] c t = t ≡ no_tables
  AskedLifeWithin (e ∷ h) c t =
      (t₀ : Tables) × (host : List ℕ) × (call : HostCall) × AskedLifeWithin h e.before t₀ × AskedWithin host call e t₀ t × Grows e.after c

-- any calls that hosts ask are a life within the capacities, and so all that is said of one holds of them
abbrev pub AskedRoomLaw : Type 0
AskedRoomLaw = (capacity : Sizes) (h : List Event) (c : Catalog) (t : Tables) → AskedLifeWithin capacity h c t → LivedWithin capacity h c t
