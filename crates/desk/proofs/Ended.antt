-- How a step is counted that was carried out on a session and ended.
-- Assumes nothing.
use Rattle.std.proofs.Common.{◌≡◌, Bool, true, false, Ok, Err, Result, inl, inr, sym, subst, ap}
use Rattle.lines.specs.declared.trouble.Trouble.{Trouble}
use Rattle.lines.specs.declared.trouble.Trouble.TheVariants.{NotUnderstood, OutOfMemory}
use Rattle.session.specs.Run.{AlikeCounted, Run, ended, one_more}
use Rattle.desk.specs.Run.{StepEnded}

pub ended_counts : (answered : Result Bool Trouble) (before now after : Run) → AlikeCounted before now → after ≡ ended answered now → StepEnded before after
ended_counts (Ok true) before now after alike is =
    subst (StepEnded before) (sym is) (alike.0, alike.1, inr (inl (ap one_more alike.2, alike.3)))
ended_counts (Ok false) before now after alike is = subst (StepEnded before) (sym is) (alike.0, alike.1, inl (alike.2, alike.3))
ended_counts (Err (NotUnderstood why)) before now after alike is =
    subst (StepEnded before) (sym is) (alike.0, alike.1, inr (inr (alike.2, ap one_more alike.3)))
ended_counts (Err (OutOfMemory e)) before now after alike is = subst (StepEnded before) (sym is) (alike.0, alike.1, inl (alike.2, alike.3))
