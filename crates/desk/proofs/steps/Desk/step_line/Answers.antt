use Rattle.std.proofs.Common.{rules}
use Rattle.session.specs.Run.{AlikeCounted, run_of}
use Rattle.desk.proofs.Ended.{ended_counts}
use Rattle.desk.proofs.steps.Desk.step_line.Goals.{in-Fill, in-Describe, in-Ordinal, in-ElementOf, in-Resolve, in-Bind}
use Rattle.desk.proofs.steps.Desk.step_line.Goals as goal

pub returns : goal.returns
returns c =
    let alike : AlikeCounted (run_of c.args.session.now) (run_of c.match-step.session) =
    elim c.match-step.branch [ in-Fill w ↦ search rules | in-Describe w ↦ search rules | in-Ordinal w ↦ search rules | in-ElementOf w ↦ search rules | in-Resolve w ↦ search rules | in-Bind w ↦ search rules ] in
    ended_counts c.match-step.answered (run_of c.args.session.now) (run_of c.match-step.session) (run_of c.end.new.self) alike c.in_ok-end.ensures.counts
