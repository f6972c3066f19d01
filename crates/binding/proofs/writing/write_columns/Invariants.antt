use Rattle.std.proofs.Common.{◌≤◌, Some, drop, length, map}
use Rattle.binding.specs.Writing.{ColumnsSized, column_told, columns_answered}
use Rattle.binding.specs.declared.writing.BoundColumn.{BoundColumn}
use Rattle.book.specs.Book.{held_of}
use Rattle.book.specs.Held.{book_held}
use Rattle.life.specs.Written.{bound_columns}
use Rattle.requests.specs.Asked.{fields_of}
use Rattle.requests.specs.declared.asked.FieldAsked.{FieldAsked}
use Rattle.resolve.proofs.Slots.{Writing}
use Rattle.binding.proofs.writing.write_columns.Given as goal

abbrev pub invariant-loop-place : goal.invariant-loop-place
invariant-loop-place l = record {
  told :
      length l.fields ≤ 256 → ColumnsSized (held_of l.book) →
      Writing (column_told (held_of l.book)) (columns_answered (held_of l.book) l.fields)
      (map (λ k. Some k) (bound_columns (book_held (held_of l.book)) l.place (fields_of (drop l.place l.fields)))) l.fn.out l.out l.place;
  names :
      Writing (λ (k : BoundColumn). k.name) (map (λ (f : FieldAsked). f.name) l.fields) (map (λ (f : FieldAsked). f.name) (drop l.place l.fields)) l.fn.out l.out l.place;
}
