use Rattle.std.proofs.Common.{◌≡◌, ◌<◌, ◌⊎◌, ◌++◌, length, true, vec_items, vec_len}
use Rattle.desk.specs.Run.{no_steps}
use Rattle.script.specs.Words.{lines}
use Rattle.session.specs.Run.{all_done, all_printed, run_of}
use Rattle.desk.proofs.steps.Desk.run.Given as goal

-- while no line asks a step what is printed with what is to come stays the same, and so does what will have been done; once a line is
-- read the rest is shorter
abbrev pub invariant-loop-rest : goal.invariant-loop-rest
invariant-loop-rest l =
    (no_steps (lines l.initial.rest) ≡ true →
    (no_steps (lines l.rest) ≡ true)
    × (vec_items l.out ++ all_printed (run_of l.session) (lines l.rest) ≡ vec_items l.initial.out ++ all_printed (run_of l.initial.session) (lines l.initial.rest))
    × (all_done (run_of l.session) (lines l.rest) ≡ all_done (run_of l.initial.session) (lines l.initial.rest)))
    × ((length l.rest < length l.initial.rest) ⊎ ((length l.rest ≡ length l.initial.rest) × (vec_len l.out ≡ vec_len l.initial.out)))

abbrev pub decreases-loop-rest : goal.decreases-loop-rest
decreases-loop-rest l = length l.rest
