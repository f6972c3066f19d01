use Rattle.std.proofs.Common.{◌-◌, length}
use Rattle.finds.specs.Finds.{rows_of}
use Rattle.resolve.specs.Walks.{known_to}
use Rattle.resolve.proofs.InRound.{InRound}
use Rattle.resolve.proofs.reading.read_rows.Given as goal

abbrev pub invariant-loop-finds : goal.invariant-loop-finds
invariant-loop-finds g l = InRound (g.C.TypeCatalog.meaning l.catalog) (known_to l.book) l.most l.fn.finds l.finds

abbrev pub decreases-loop-finds : goal.decreases-loop-finds
decreases-loop-finds g l = l.end - length (rows_of l.finds)
