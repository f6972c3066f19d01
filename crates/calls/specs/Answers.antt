-- What lies in the buffer of a resolve and in the two of a bind after it, as the law of a book's life has it.
-- Assumes nothing.
use Rattle.std.specs.Prelude.{◌≡◌, ℕ, List, map, Some, Option}
use Rattle.binding.specs.Writing.{column_told, type_told}
use Rattle.binding.specs.declared.writing.BoundColumn as code
use Rattle.binding.specs.declared.writing.BoundType.{BoundType}
use Rattle.book.specs.Held.{Held}
use Rattle.catalog.specs.Catalog.{Catalog}
use Rattle.life.specs.Buffers.{column_answers, parameter_answers, resolve_answers, written_over}
use Rattle.life.specs.Calls.{Call}
use Rattle.life.specs.HostCalls.{BindAsked, ResolveAsked, host_bind, host_resolve, meant}
use Rattle.life.specs.Written.{BoundColumn, WrittenType}
use Rattle.room.specs.Room.{columns_full, types_full}
use Rattle.room.specs.Sizes.{Sizes}
use Rattle.room.specs.Tables.{Tables, contents}

-- what a resolve answers on these tables: nothing where it is refused
abbrev pub oids_by_law : (capacity : Sizes) (host : List ℕ) (c : Catalog) (t : Tables) → ResolveAsked → List ℕ
oids_by_law capacity host c t q =
    let call : Call = meant host (host_resolve q) in
    resolve_answers (λ _. types_full capacity c t call) (λ _. columns_full capacity c t call) host c (contents t) q

module _ (capacity : Sizes) (host : List ℕ) (c : Catalog) (t : Tables) (q : BindAsked) where
  -- what it answers on these tables, each of which is told: nothing where it is refused
  abbrev pub types_by_law : List (Option WrittenType)
  types_by_law =
      let call : Call = meant host (host_bind q) in
      map (λ w. Some w) (parameter_answers (λ _. types_full capacity c t call) (λ _. columns_full capacity c t call) host c (contents t) q)

  abbrev pub columns_by_law : List (Option BoundColumn)
  columns_by_law =
      let call : Call = meant host (host_bind q) in
      map (λ k. Some k) (column_answers (λ _. types_full capacity c t call) (λ _. columns_full capacity c t call) host c (contents t) q)

  -- the buffers, of which the book tells, are written over with that
  pub record AnswersByLaw (b : Held) (types types' : List BoundType) (columns columns' : List code.BoundColumn) : Type 0 where
    pub types_so : map (type_told b) types' ≡ written_over types_by_law (map (type_told b) types)
    pub columns_so : map (column_told b) columns' ≡ written_over columns_by_law (map (column_told b) columns)
