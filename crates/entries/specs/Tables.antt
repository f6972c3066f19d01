-- What the memory of notes holds, and what keeps it.
-- Assumes nothing.
use Rattle.std.specs.Prelude.{◌≡◌, ℕ, List, length, map, nat_eq, Option}
use Rattle.std.specs.Option.{option_map}
use Rattle.catalog.specs.Meaning.{oid_told}
use Rattle.indexes.specs.Known.{by_oid}
use Rattle.room.specs.Tables.{look_up}
use Rattle.slots.specs.Slots.{Entry, filled}
use Rattle.slots.specs.Stack.{LentItems, slots_lent}
use Rattle.type_info.specs.declared.oid.Oid.{Oid}

-- an element, with its array if it has one
abbrev pub noted : Oid × Option Oid → ℕ × Option ℕ
noted x = (x.0.0, oid_told x.1)

abbrev pub all_noted : LentItems (Oid × Option Oid) → List (ℕ × Option ℕ)
all_noted apart = map noted apart.items

pub record NotesLent (leads : LentItems (Option Oid)) (apart : LentItems (Oid × Option Oid)) (index : List (Entry Oid (Option Oid))) : Type 0 where
  pub leads_lent : slots_lent leads ≡ 256
  pub apart_lent : slots_lent apart ≡ 256
  pub index_lent : length index ≡ 512

-- the index leads from exactly these elements to their arrays
pub record Indexed (apart : LentItems (Oid × Option Oid)) (index : List (Entry Oid (Option Oid))) : Type 0 where
  pub leads : (o : ℕ) → option_map oid_told (by_oid index o) ≡ look_up nat_eq (all_noted apart) o
  pub counted : filled index ≡ length apart.items
