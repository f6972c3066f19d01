-- What lies in a host's answer buffers after a call.
-- Assumes nothing.
use Rattle.std.specs.Prelude.{◌≡◌, ℕ, true, List, [], ◌++◌, map, length, drop, if◌then◌else◌, Option}
use Rattle.catalog.specs.Catalog.{Catalog}
use Rattle.life.specs.HostCalls.{ResolveAsked, BindAsked, host_resolve, host_bind, meant_type, meant_field, asked_outcome}
use Rattle.life.specs.Life.{Lived}
use Rattle.life.specs.Outcomes.{Outcome}
use Rattle.life.specs.Resolve.{Resolves, oids}
use Rattle.life.specs.Steps.{Book, Event, accepts}
use Rattle.life.specs.Written.{WrittenType, BoundColumn, written, bound_columns}

-- answers from the start of a buffer on; what lies behind them stays
abbrev pub written_over : {A : Type 0} → List A → List A → List A
written_over answers buffer = answers ++ drop (length answers) buffer

module _ (full full_columns : Book → Option ℕ) (host : List ℕ) (c : Catalog) (b : Book) where
  -- what a call answers into a buffer: nothing where it is refused
  abbrev pub resolve_answers : ResolveAsked → List ℕ
  resolve_answers q =
      let o : Outcome = asked_outcome full full_columns host c b (host_resolve q) in
      if accepts o.ending then oids c b o.left.descriptors (map (meant_type host) q.entries) else []

  abbrev pub parameter_answers : BindAsked → List WrittenType
  parameter_answers q =
      let o : Outcome = asked_outcome full full_columns host c b (host_bind q) in
      if accepts o.ending then map (written o.left) q.parameters else []

  abbrev pub column_answers : BindAsked → List BoundColumn
  column_answers q =
      let o : Outcome = asked_outcome full full_columns host c b (host_bind q) in
      if accepts o.ending then bound_columns o.left 0 (map meant_field q.fields) else []

-- a buffer keeps its length, and is as it was where the call is refused; n answers are written where it is accepted, and what lies
-- behind them stays
pub record Answered {A : Type 0} (done : Type 0) (n : ℕ) (answers buffer : List A) : Type 0 where
  pub as_long : length (written_over answers buffer) ≡ length buffer
  pub as_many : done → length answers ≡ n
  pub untouched : (done → ⊥) → written_over answers buffer ≡ buffer

-- an asked Resolve writes one OID for each entry, and it is the entry's
abbrev pub ResolveBufferLaw : Type 0
ResolveBufferLaw =
    (full full_columns : Book → Option ℕ) (host : List ℕ) (h : List Event) (c : Catalog) (b : Book) (q : ResolveAsked) (buffer : List ℕ) →
    Lived h c b → length buffer ≡ q.slots →
    let o : Outcome = asked_outcome full full_columns host c b (host_resolve q) in
    Answered (accepts o.ending ≡ true) (length q.entries) (resolve_answers full full_columns host c b q) buffer ×
    (accepts o.ending ≡ true → Resolves c o.left.descriptors (map (meant_type host) q.entries) (resolve_answers full full_columns host c b q))

-- an asked Bind writes a type for each parameter and a column for each field
abbrev pub BindBufferLaw : Type 0
BindBufferLaw =
    (full full_columns : Book → Option ℕ) (host : List ℕ) (c : Catalog) (b : Book) (q : BindAsked) (types : List WrittenType) (columns : List BoundColumn) →
    length types ≡ q.parameter_slots → length columns ≡ q.column_slots →
    let o : Outcome = asked_outcome full full_columns host c b (host_bind q) in
    Answered (accepts o.ending ≡ true) (length q.parameters) (parameter_answers full full_columns host c b q) types ×
    Answered (accepts o.ending ≡ true) (length q.fields) (column_answers full full_columns host c b q) columns
