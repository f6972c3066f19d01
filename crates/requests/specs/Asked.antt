-- What the code is asked, as the law of a book's life has it.
-- Assumes nothing.
use Rattle.std.specs.Prelude.{ℕ, List, map, option_map}
use Rattle.life.specs.Calls.{Declared, Field}
use Rattle.life.specs.HostCalls.{HostField, HostType, host_array, host_name, host_oid, meant_field, meant_type}
use Rattle.requests.specs.declared.asked.FieldAsked.{FieldAsked}
use Rattle.requests.specs.declared.asked.TypeAsked.{TypeAsked}
use Rattle.requests.specs.declared.asked.TypeAsked.TheVariants.{Oid, Name, ArrayOf}

abbrev pub type_asked : TypeAsked → HostType
type_asked (Oid o) = host_oid o.0
type_asked (Name span) = host_name span
type_asked (ArrayOf span) = host_array span

abbrev pub field_asked : FieldAsked → HostField
field_asked f = record {
  name = f.name;
  oid = f.oid.0;
  relation = option_map (λ r. r.0) f.relation;
  attribute = option_map (λ a. a.0) f.attribute;
}

-- the entries that are meant, whose names lie in the host's text, and the fields
abbrev pub declared_by : List ℕ → List TypeAsked → List Declared
declared_by host entries = map (λ x. meant_type host (type_asked x)) entries

abbrev pub fields_of : List FieldAsked → List Field
fields_of fs = map (λ f. meant_field (field_asked f)) fs
