use Rattle.std.proofs.Common.{drop}
use Rattle.resolve.specs.Lists.{types_of}
use Rattle.resolve.specs.Walks.{known_to}
use Rattle.resolve.proofs.Pushing.{Pushing}
use Rattle.resolve.proofs.lists.push_fields.Given as goal

abbrev pub invariant-loop-field : goal.invariant-loop-field
invariant-loop-field l = Pushing (known_to l.book) (types_of l.fields) (types_of (drop l.field-index l.fields)) l.fn.finds l.finds
