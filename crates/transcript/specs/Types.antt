-- What is printed of settled types, and of the types and columns of a bound statement, byte by byte.
-- Assumes nothing.
use Rattle.std.specs.Prelude.{ℕ, List, ◌++◌, slice_get, Some, None, codes, decimal, ℤ, pos, Option, option_and_then, unwrap_or}
use Rattle.std.specs.Fmt.{signed_decimal}
use Rattle.std.specs.Option.{option_map}
use Rattle.book.specs.declared.settled.TypeKind.{TypeKind}
use Rattle.book.specs.declared.settled.TypeKind.TheVariants.{Simple, Pseudo, Domain, Array, Range, Enum, Composite}
use Rattle.book.specs.Settled.{TypeTold, tree_told}
use Rattle.catalog.specs.Meaning.{oid_told}
use Rattle.catalog.specs.Shape.{Name}
use Rattle.life.specs.Written.{Origin, expression, unknown, table}
use Rattle.script.specs.Names.{shown}
use Rattle.transcript.specs.declared.types.BoundText.{BoundText}
use Rattle.transcript.specs.declared.types.HeadText.{HeadText}
use Rattle.transcript.specs.declared.types.OriginText.{OriginText}
use Rattle.transcript.specs.declared.types.OriginText.TheVariants as o
use Rattle.transcript.specs.declared.types.TypeText.{TypeText}

-- the OID of the first component
abbrev pub made_of : TypeTold → Option ℕ
made_of t = option_map (λ c. c.oid) (option_and_then tree_told (slice_get t.components 0))

-- OID, name and kind, with the OID of the first component
pub record TypeHead : Type 0 where
  pub oid : ℕ
  pub name : Name
  pub kind : TypeKind
  pub of : Option ℕ

abbrev pub head_of_type : TypeTold → TypeHead
head_of_type t = record { oid = t.oid; name = t.name; kind = t.kind; of = made_of t }

abbrev pub head_told : HeadText → TypeHead
head_told h = record { oid = h.oid.0; name = h.name.now; kind = h.kind; of = oid_told h.of }

abbrev pub made_text : Option ℕ → List ℕ
made_text None = codes ""
made_text (Some o) = codes " of " ++ decimal o

-- only a domain, an array and a range tell what they are made of
abbrev pub settled_kind_text : TypeKind → Option ℕ → List ℕ
settled_kind_text Simple of = codes "simple"
settled_kind_text Pseudo of = codes "pseudo"
settled_kind_text Domain of = codes "domain" ++ made_text of
settled_kind_text Array of = codes "array" ++ made_text of
settled_kind_text Range of = codes "range" ++ made_text of
settled_kind_text Enum of = codes "enum"
settled_kind_text Composite of = codes "composite"

abbrev pub settled_head_text : TypeHead → List ℕ
settled_head_text h = decimal h.oid ++ (codes " " ++ (shown h.name ++ (codes " " ++ settled_kind_text h.kind h.of)))

abbrev pub type_head_text : TypeTold → List ℕ
type_head_text t = settled_head_text (head_of_type t)

-- nothing of a type that the book does not have
abbrev pub head_known_text : Option TypeTold → List ℕ
head_known_text None = codes ""
head_known_text (Some t) = type_head_text t

abbrev pub element_of_text : Option TypeTold → List ℕ
element_of_text None = codes "element-of: nothing\n"
element_of_text (Some t) = codes "element-of: " ++ (type_head_text t ++ codes "\n")

-- a type of a bound statement: with its name where it is settled
abbrev pub named_text : ℕ → Option Name → List ℕ
named_text o None = codes "declared " ++ decimal o
named_text o (Some n) = codes "settled " ++ (decimal o ++ (codes " " ++ shown n))

abbrev pub typed_text : TypeText → List ℕ
typed_text t = named_text t.oid.0 (option_map (λ n. n.now) t.name)

abbrev pub parameter_text : ℕ → TypeText → List ℕ
parameter_text place t = codes "  parameter " ++ (decimal place ++ (codes " " ++ (typed_text t ++ codes "\n")))

abbrev pub origin_told : OriginText → Origin
origin_told o.Expression = expression
origin_told o.Unknown = unknown
origin_told (o.Table column) = table column.table.now column.name.now

abbrev pub origin_text : Origin → List ℕ
origin_text expression = codes "expression"
origin_text unknown = codes "unknown"
origin_text (table t n) = codes "table " ++ (shown t ++ (codes " " ++ shown n))

-- 0 for a relation or an attribute that is absent
abbrev pub source_text : Option ℕ → Option ℤ → List ℕ
source_text relation attribute =
    codes " relation " ++ (decimal (unwrap_or relation 0) ++ (codes " attribute " ++ signed_decimal (unwrap_or attribute (pos 0))))

abbrev pub bound_column_text : BoundText → List ℕ
bound_column_text c =
    shown c.name.now ++ (codes " " ++ (typed_text c.typed ++ (codes " " ++ (origin_text (origin_told c.origin) ++ source_text (oid_told c.relation) (option_map (λ a. a.0) c.attribute)))))

abbrev pub column_text : ℕ → BoundText → List ℕ
column_text place c = codes "  column " ++ (decimal place ++ (codes " " ++ (bound_column_text c ++ codes "\n")))
