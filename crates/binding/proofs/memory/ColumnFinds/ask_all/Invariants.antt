use Rattle.std.proofs.Common.{◌≤◌, [], drop, length}
use Rattle.book.specs.Book.{held_of}
use Rattle.binding.specs.Asked.{Gathered}
use Rattle.binding.proofs.Asking.{Asking}
use Rattle.binding.proofs.memory.ColumnFinds.ask_all.Given as goal

abbrev pub invariant-loop-field : goal.invariant-loop-field
invariant-loop-field g l =
    length l.fields ≤ 256 → Gathered (g.C.TypeCatalog.meaning l.catalog) [] l.fn.self →
    Asking (g.C.TypeCatalog.meaning l.catalog) (held_of l.book) l.fields (drop l.field-index l.fields) l.field-index l.self
