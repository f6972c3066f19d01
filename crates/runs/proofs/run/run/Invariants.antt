use Rattle.std.proofs.Common.{◌≡◌, length, vec_len}
use Rattle.runs.proofs.run.run.Given as goal

abbrev pub invariant-loop-rest : goal.invariant-loop-rest
invariant-loop-rest l = vec_len l.out ≡ 0

abbrev pub decreases-loop-rest : goal.decreases-loop-rest
decreases-loop-rest l = length l.rest
