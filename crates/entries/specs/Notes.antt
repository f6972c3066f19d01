-- What a resolve has noted, as lists.
-- Assumes nothing.
use Rattle.std.specs.Prelude.{◌≡◌, ℕ, List, length, map, Option}
use Rattle.catalog.specs.Meaning.{oid_told}
use Rattle.entries.specs.declared.notes.Notes.{Notes}
use Rattle.entries.specs.declared.notes.NotesMemory.{NotesMemory}
use Rattle.entries.specs.Tables.{all_noted}

-- the OID that the name of each entry leads to, in order
abbrev pub leads_told : Notes → List (Option ℕ)
leads_told n = map oid_told n.leads.items

-- the elements whose rows were read for their typarray alone, each with it, and these alone
abbrev pub apart_told : Notes → List (ℕ × Option ℕ)
apart_told n = all_noted n.apart

abbrev pub apart_of : Notes → List ℕ
apart_of n = map (λ x. x.0) (apart_told n)

-- the memory of notes has the size of their tables
pub record WholeNotes (m : NotesMemory) : Type 0 where
  pub leads : length m.leads.now ≡ 256
  pub apart : length m.apart.now ≡ 256
  pub index : length m.index.now ≡ 512
