use Rattle.std.proofs.Common.{◌≤◌}
use Rattle.slots_cases.proofs.against_a_map.count_agreeing.Given as goal

abbrev pub invariant-loop-turn : goal.invariant-loop-turn
invariant-loop-turn g l = l.agree ≤ l.turn
