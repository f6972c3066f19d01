-- The built-in types: those that every PostgreSQL has under the same OIDs, as far as the kiosk knows them.
-- Assumes nothing.
use Rattle.std.specs.Prelude.{ℕ, Bool, true, false, cond, List, [], ◌∷◌, Some, None, codes, Option, ◌==◌, nat_lt, slice_index_or}
use Prim.Native.String.{String}
use Rattle.std.specs.Str.{bytes_eq}

-- an array has an element type, a range a subtype, each told by its OID
pub data Kind : Type 0 where
  simple : Kind
  pseudo : Kind
  array : ℕ → Kind
  range : ℕ → Kind

pub record Entry : Type 0 where
  pub oid : ℕ
  pub name : List ℕ
  pub kind : Kind

abbrev pub entry : ℕ → List ℕ → Kind → Entry
entry o n k = record { oid = o; name = n; kind = k }

-- a type that is no array, and the OID of the array type over it
pub record Listed : Type 0 where
  pub type : Entry
  pub array_oid : Option ℕ

abbrev listed : ℕ → String → Kind → Option ℕ → Listed
listed o n k a = record { type = entry o (codes n) k; array_oid = a }

unfoldable pub types : List Listed
types =
    -- truth values and numbers
    listed 16 "bool" simple (Some 1000) ∷
    listed 21 "int2" simple (Some 1005) ∷
    listed 23 "int4" simple (Some 1007) ∷
    listed 20 "int8" simple (Some 1016) ∷
    listed 700 "float4" simple (Some 1021) ∷
    listed 701 "float8" simple (Some 1022) ∷
    listed 1700 "numeric" simple (Some 1231) ∷
    listed 790 "money" simple (Some 791) ∷
    listed 26 "oid" simple (Some 1028) ∷
    -- bytes and text
    listed 17 "bytea" simple (Some 1001) ∷
    listed 18 "char" simple (Some 1002) ∷
    listed 19 "name" simple (Some 1003) ∷
    listed 25 "text" simple (Some 1009) ∷
    listed 1042 "bpchar" simple (Some 1014) ∷
    listed 1043 "varchar" simple (Some 1015) ∷
    listed 1560 "bit" simple (Some 1561) ∷
    listed 1562 "varbit" simple (Some 1563) ∷
    listed 2950 "uuid" simple (Some 2951) ∷
    listed 114 "json" simple (Some 199) ∷
    listed 3802 "jsonb" simple (Some 3807) ∷
    listed 4072 "jsonpath" simple (Some 4073) ∷
    -- dates and times
    listed 1082 "date" simple (Some 1182) ∷
    listed 1083 "time" simple (Some 1183) ∷
    listed 1266 "timetz" simple (Some 1270) ∷
    listed 1114 "timestamp" simple (Some 1115) ∷
    listed 1184 "timestamptz" simple (Some 1185) ∷
    listed 1186 "interval" simple (Some 1187) ∷
    -- figures of the plane
    listed 600 "point" simple (Some 1017) ∷
    listed 601 "lseg" simple (Some 1018) ∷
    listed 602 "path" simple (Some 1019) ∷
    listed 603 "box" simple (Some 1020) ∷
    listed 604 "polygon" simple (Some 1027) ∷
    listed 628 "line" simple (Some 629) ∷
    listed 718 "circle" simple (Some 719) ∷
    -- addresses of a network
    listed 650 "cidr" simple (Some 651) ∷
    listed 869 "inet" simple (Some 1041) ∷
    listed 829 "macaddr" simple (Some 1040) ∷
    listed 774 "macaddr8" simple (Some 775) ∷
    -- ranges
    listed 3904 "int4range" (range 23) (Some 3905) ∷
    listed 3926 "int8range" (range 20) (Some 3927) ∷
    listed 3906 "numrange" (range 1700) (Some 3907) ∷
    listed 3912 "daterange" (range 1082) (Some 3913) ∷
    listed 3908 "tsrange" (range 1114) (Some 3909) ∷
    listed 3910 "tstzrange" (range 1184) (Some 3911) ∷
    -- a row of any table, a literal not yet given a type, and what a function without a result returns
    listed 2249 "record" simple (Some 2287) ∷
    listed 705 "unknown" simple None ∷
    listed 2278 "void" pseudo None ∷
    []

-- the array of a type is named by an underscore (95) and that type's name
abbrev array_over : Entry → ℕ → Entry
array_over e a = entry a (95 ∷ e.name) (array e.oid)

-- a list in the order of OIDs, and one entry more in its place
abbrev insert : Entry → List Entry → List Entry
insert e [] = e ∷ []
insert e (f ∷ fs) = elim (nat_lt e.oid f.oid) [ true ↦ e ∷ (f ∷ fs) | false ↦ f ∷ insert e fs ]

abbrev insert_array : Entry → Option ℕ → List Entry → List Entry
insert_array e None es = es
insert_array e (Some a) es = insert (array_over e a) es

abbrev in_order : List Listed → List Entry
in_order [] = []
in_order (t ∷ ts) = insert t.type (insert_array t.type t.array_oid (in_order ts))

-- the table: every listed type and every array over one, by rising OID
unfoldable pub entries : List Entry
unfolding types
entries = in_order types

-- what a place past the end holds
abbrev pub none : Entry
none = entry 0 [] simple

abbrev pub at : ℕ → Entry
at i = slice_index_or entries i none

-- the first entry that passes a test
abbrev pub first : (Entry → Bool) → List Entry → Option Entry
first p [] = None
first p (e ∷ es) = cond (p e) (Some e) (first p es)

abbrev pub has_oid : ℕ → Entry → Bool
has_oid o e = e.oid == o

abbrev pub has_name : List ℕ → Entry → Bool
has_name n e = bytes_eq e.name n

abbrev pub array_kind : ℕ → Kind → Bool
array_kind o simple = false
array_kind o pseudo = false
array_kind o (array e) = e == o
array_kind o (range e) = false

abbrev pub is_array_of : ℕ → Entry → Bool
is_array_of o e = array_kind o e.kind

-- the entry of an OID, of a name, and the array of an element
abbrev pub by_oid : ℕ → Option Entry
by_oid o = first (has_oid o) entries

abbrev pub by_name : List ℕ → Option Entry
by_name n = first (has_name n) entries

abbrev pub array_of : ℕ → Option Entry
array_of o = first (is_array_of o) entries

-- what an array or a range is built of
abbrev pub component : Kind → Option ℕ
component simple = None
component pseudo = None
component (array e) = Some e
component (range e) = Some e

-- the element type: only an array has one
abbrev pub element_of_kind : Kind → Option Entry
element_of_kind simple = None
element_of_kind pseudo = None
element_of_kind (array e) = by_oid e
element_of_kind (range e) = None
