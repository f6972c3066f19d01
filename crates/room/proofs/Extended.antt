-- Tables behind tables behind tables.
-- Assumes nothing.
use Rattle.std.proofs.Common.{◌≡◌, append_assoc, append-nil, refl}
use Rattle.room.specs.Tables.{Tables, extended, no_tables}

pub extended_assoc : (t m n : Tables) → extended (extended t m) n ≡ extended t (extended m n)
extended_assoc t m n = λ i. record {
  descriptors = append_assoc t.descriptors m.descriptors n.descriptors i;
  names = append_assoc t.names m.names n.names i;
  arrays = append_assoc t.arrays m.arrays n.arrays i;
  columns = append_assoc t.columns m.columns n.columns i;
  relations = append_assoc t.relations m.relations n.relations i;
}

pub extended_none : (t : Tables) → extended t no_tables ≡ t
extended_none t = λ i. record {
  descriptors = append-nil t.descriptors i;
  names = append-nil t.names i;
  arrays = append-nil t.arrays i;
  columns = append-nil t.columns i;
  relations = append-nil t.relations i;
}

pub none_extended : (t : Tables) → extended no_tables t ≡ t
none_extended t = refl
