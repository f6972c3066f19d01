use Rattle.std.proofs.Common.{drop}
use Rattle.binding.specs.Writing.{type_told, types_answered}
use Rattle.book.specs.Book.{held_of}
use Rattle.resolve.proofs.Slots.{Writing}
use Rattle.binding.proofs.writing.write_types.Given as goal

abbrev pub invariant-loop-place : goal.invariant-loop-place
invariant-loop-place l =
    Writing (type_told (held_of l.book)) (types_answered (held_of l.book) l.oids) (types_answered (held_of l.book) (drop l.place l.oids)) l.fn.out l.out l.place
