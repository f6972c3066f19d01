use Rattle.std.proofs.Common.{◌≡◌, ℕ, suc, ◌+◌, ◌*◌, drop}
use Rattle.book.specs.Book.{held_of}
use Rattle.book.specs.Settled.{attributes_of_head}
use Rattle.catalog.specs.Shape.{Head, Name}
use Rattle.transcript.specs.Describe.{parts_laid}
use Rattle.transcript.specs.Laying.{Stands, Within, laid, trees_behind}
use Rattle.unfolding.specs.Unfolding.{Trees, node}
use Rattle.transcript.proofs.tree.Answer.+lay.Given as goal

abbrev pub decreases-contents : goal.decreases-contents
decreases-contents l = 3 * l.depth + 2

abbrev pub decreases-lay : goal.decreases-lay
decreases-lay l = 3 * l.depth

abbrev pub decreases-part : goal.decreases-part
decreases-part l = 3 * l.depth + 1

abbrev pub invariant-contents-loop-i : goal.invariant-contents-loop-i
invariant-contents-loop-i l =
    (o : ℕ) (name : Name) (head : Head) (ts : Trees) → Stands (held_of l.book) l.settled (node o name head ts) → Within (suc l.depth) (node o name head ts) →
    parts_laid l.margin (drop l.i (attributes_of_head head)) (trees_behind l.i ts) (laid l.self) ≡
    parts_laid l.margin (attributes_of_head head) ts (laid l.initial.self)
