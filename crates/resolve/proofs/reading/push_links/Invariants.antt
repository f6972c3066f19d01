use Rattle.std.proofs.Common.{drop, map}
use Rattle.keys.specs.Senses.{oid_of}
use Rattle.resolve.specs.Walks.{known_to}
use Rattle.resolve.proofs.Pushing.{Pushing}
use Rattle.resolve.proofs.reading.push_links.Given as goal

abbrev pub invariant-loop-oid : goal.invariant-loop-oid
invariant-loop-oid l = Pushing (known_to l.book) (map oid_of l.links) (map oid_of (drop l.oid-index l.links)) l.fn.finds l.finds
