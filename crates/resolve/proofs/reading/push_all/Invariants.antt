use Rattle.std.proofs.Common.{drop}
use Rattle.resolve.specs.Walks.{known_to}
use Rattle.resolve.proofs.Pushing.{Pushing}
use Rattle.resolve.proofs.reading.push_all.Given as goal

abbrev pub invariant-loop-oid : goal.invariant-loop-oid
invariant-loop-oid l = Pushing (known_to l.book) l.oids (drop l.oid-index l.oids) l.fn.finds l.finds
