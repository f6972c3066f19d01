-- Worked examples of steps.
-- Assumes nothing.
use Rattle.std.specs.Prelude.{◌≡◌, ℕ, Bool, true, false, if◌then◌else◌, List, [], ◌∷◌, ℤ, pos, is_some, Some, None, Option, codes}
use Rattle.catalog.specs.Catalog.{Catalog}
use Rattle.catalog.specs.Shape.{domain, enumeration, composite}
use Rattle.unfolding.specs.Unfolding.{Tree, built, node, none, more}
use Rattle.life.specs.Calls.{Declared, of_oid, of_name, array_of, Field, Binding, fill}
use Rattle.life.specs.Steps.{Book, empty_book, accepted, refused}
use Rattle.life.specs.Keep.{call_event}
use Rattle.life.specs.Outcomes.{Outcome}
use Rattle.life.specs.Fill.{quiet_outcome}
use Rattle.life.specs.Resolve.{resolve_outcome, resolve_writes}
use Rattle.life.specs.Bind.{bind_outcome}
use Rattle.life.specs.Written.{WrittenType, settled_as, declared_as, expression, unknown, table, BindAnswers, bind_writes}
use Rattle.worked_examples.specs.Cards.{prices, broken, vectors, cells_without, cells_with, parts, chain, columned}

-- by a book of which no table is ever full
abbrev pub room : Book → Option ℕ
room b = None

abbrev pub filled : Catalog → Book → List ℕ → Outcome
filled c b rs = quiet_outcome room c b (fill rs)

abbrev pub resolved : Catalog → Book → List Declared → Outcome
resolved c b ds = resolve_outcome room c b ds

abbrev pub edge : Tree
edge = node 50003 (codes "edge") (enumeration (codes "near" ∷ codes "far" ∷ [])) none

abbrev pub hue : Tree
hue = node 50004 (codes "hue") (enumeration (codes "red" ∷ [])) none

abbrev pub two_rounds : Outcome
two_rounds = filled (prices 64) empty_book (50001 ∷ 50002 ∷ [])

pub record FillExamples : Type 0 where
  -- two rounds, and none once all is described
  pub two : two_rounds.ending ≡ accepted 2 0
  pub price : two_rounds.left.descriptors 50001 ≡ Some (node 50001 (codes "price") domain (more edge none))
  pub crop : two_rounds.left.descriptors 50002 ≡ Some (node 50002 (codes "crop") (composite (codes "left" ∷ codes "right" ∷ [])) (more edge (more hue none)))
  pub edge_known : two_rounds.left.descriptors 50003 ≡ Some edge
  pub hue_known : two_rounds.left.descriptors 50004 ≡ Some hue
  pub no_more : (filled (prices 64) two_rounds.left (50004 ∷ 50003 ∷ 50002 ∷ 50001 ∷ [])).ending ≡ accepted 0 0
  -- the same at allowance 1: the book is empty, and nothing is left of the allowance
  pub poor : filled (prices 1) empty_book (50001 ∷ 50002 ∷ []) ≡ record { ending = refused 5 2 false 1; left = empty_book }
  pub poor_spent : (call_event (prices 1) (fill (50001 ∷ 50002 ∷ [])) (refused 5 2 false 1)).after.allowance ≡ 0
  -- a missing row
  pub missing : (filled (broken 64) empty_book (50005 ∷ [])).ending ≡ refused 9 0 false 2
  pub nothing : (filled (broken 64) empty_book (50005 ∷ [])).left.descriptors 50005 ≡ None
  pub alone : (filled (broken 64) empty_book (50006 ∷ [])).ending ≡ accepted 1 0
  pub alone_unknown : (filled (broken 64) empty_book (50006 ∷ [])).left.descriptors 50006 ≡ None
  pub alone_again : (filled (broken 64) (filled (broken 64) empty_book (50006 ∷ [])).left (50006 ∷ [])).ending ≡ accepted 1 0
  -- a ring
  pub ring : (filled (broken 64) empty_book (50007 ∷ [])).ending ≡ refused 9 0 false 2
  pub ring_from_egg : (filled (broken 64) empty_book (50008 ∷ [])).ending ≡ refused 9 0 false 2
  pub ring_unknown : (filled (broken 64) empty_book (50007 ∷ [])).left.descriptors 50007 ≡ None
  -- 64 rounds and no more
  pub chain_64 : (filled (chain 64) empty_book (60001 ∷ [])).ending ≡ accepted 64 0
  pub chain_65 : filled (chain 65) empty_book (60001 ∷ []) ≡ record { ending = refused 4 65 false 64; left = empty_book }

abbrev pub vector : List Declared
vector = of_name (codes "int2vector") ∷ []

abbrev pub int2_array : List Declared
int2_array = array_of (codes "int2") ∷ []

abbrev pub cell_array : List Declared
cell_array = array_of (codes "cell") ∷ []

abbrev pub cell_lacking : Outcome
cell_lacking = resolved cells_without empty_book cell_array

abbrev pub cell_found : Outcome
cell_found = resolved cells_with cell_lacking.left cell_array

-- a book whose table 1 is full as soon as 50001 is described
abbrev pub no_parts : Book → Option ℕ
no_parts b = if is_some (b.descriptors 50001) then Some 1 else None

abbrev pub nowhere_and_two : List Declared
nowhere_and_two = of_name (codes "nowhere") ∷ of_name (codes "two") ∷ []

pub record ResolveExamples : Type 0 where
  -- an array is what typarray says
  pub vector_ends : (resolved vectors empty_book vector).ending ≡ accepted 1 0
  pub vector_writes : resolve_writes room vectors empty_book vector ≡ 22 ∷ []
  pub array_ends : (resolved vectors (resolved vectors empty_book vector).left int2_array).ending ≡ accepted 1 0
  pub array_writes : resolve_writes room vectors (resolved vectors empty_book vector).left int2_array ≡ 1005 ∷ []
  -- an array link without a name
  pub lacking_ends : cell_lacking.ending ≡ refused 9 0 false 2
  pub lacking_link : cell_lacking.left.arrays 50003 ≡ Some 50004
  pub lacking_name : cell_lacking.left.names (codes "cell") ≡ None
  pub found_ends : cell_found.ending ≡ accepted 2 0
  pub found_writes : resolve_writes room cells_with cell_lacking.left cell_array ≡ 50004 ∷ []
  pub again : (resolved cells_with cell_found.left cell_array).ending ≡ accepted 0 0
  -- room before resolution
  pub no_room : resolve_outcome no_parts parts empty_book nowhere_and_two ≡ record { ending = refused 8 1 false 2; left = empty_book }
  pub with_room : (resolved parts empty_book nowhere_and_two).ending ≡ refused 9 1 false 2
  pub described : (resolved parts empty_book nowhere_and_two).left.descriptors 50001 ≡ Some (node 50001 (codes "one") (enumeration (codes "label" ∷ [])) none)
  -- a name that leads nowhere, behind an OID that is taken as it is
  pub nameless : (resolved (prices 64) empty_book (of_oid 77 ∷ of_name (codes "nowhere") ∷ [])).ending ≡ refused 10 1 false 1

abbrev pub field : ℕ → Option ℕ → ℤ → Field
field oid relation attribute = record { oid = oid; relation = relation; attribute = Some attribute }

-- of the first and the last the catalog has the column, of the third it does not; the second has no relation
abbrev pub asked : Bool → Bool → Binding
asked queries origins = record {
  parameters = 23 ∷ [];
  fields = field 23 (Some 7) (pos 1) ∷ field 50003 None (pos 1) ∷ field 50009 (Some 7) (pos 2) ∷ field 23 (Some 7) (pos 1) ∷ [];
  queries = queries;
  origins = origins;
}

abbrev pub bound : ℕ → Bool → Bool → Outcome
bound allowance queries origins = bind_outcome room room (columned allowance) empty_book (asked queries origins)

abbrev pub int4 : WrittenType
int4 = settled_as 23 (built 23)

abbrev pub answers : BindAnswers
answers = record {
  parameters = int4 ∷ [];
  columns =
      record { ordinal = 0; type = int4; relation = Some 7; attribute = Some (pos 1); origin = table (codes "yield") (codes "amount") }
      ∷ record { ordinal = 1; type = settled_as 50003 edge; relation = None; attribute = Some (pos 1); origin = expression }
      ∷ record { ordinal = 2; type = declared_as 50009; relation = Some 7; attribute = Some (pos 2); origin = unknown }
      ∷ record { ordinal = 3; type = int4; relation = Some 7; attribute = Some (pos 1); origin = table (codes "yield") (codes "amount") }
      ∷ [];
}

pub record BindExamples : Type 0 where
  pub ends : (bound 5 true true).ending ≡ accepted 1 1
  pub writes : bind_writes (bound 5 true true) (asked true true) ≡ answers
  -- one round too few: the types are kept, no column is, and nothing is written
  pub poor : (bound 1 true true).ending ≡ refused 5 2 true 1
  pub poor_keeps : (bound 1 true true).left.descriptors 50003 ≡ Some edge
  pub poor_leaves : (bound 1 true true).left.columns 7 (pos 1) ≡ None
  pub poor_writes : bind_writes (bound 1 true true) (asked true true) ≡ record { parameters = []; columns = [] }
  -- no column round where no origins are wanted, and no round at all where no queries are allowed
  pub without : (bound 1 true false).ending ≡ accepted 1 0
  pub quiet : (bound 0 false true).ending ≡ accepted 0 0
