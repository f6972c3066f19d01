use Rattle.std.proofs.Common.{◌≡◌, ◌<◌, ◌⊎◌, length, vec_len, None}
use Rattle.runs.proofs.run.run_desk.Given as goal

-- what was printed is written out; once a line is carried out the rest is shorter, and before that no book was asked for
abbrev pub invariant-loop-desk : goal.invariant-loop-desk
invariant-loop-desk l = (vec_len l.out ≡ 0) × ((length l.left.rest.now < length l.text) ⊎ ((length l.left.rest.now ≡ length l.text) × (l.left.book ≡ None)))

abbrev pub decreases-loop-desk : goal.decreases-loop-desk
decreases-loop-desk l = length l.left.rest.now
