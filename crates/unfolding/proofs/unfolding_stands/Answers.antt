use Rattle.unfolding.proofs.Existence.{exists}
use Rattle.unfolding.proofs.Unfolding.{unique, unfolds-grows}
use Rattle.unfolding.proofs.unfolding_stands.Goals as goal

pub returns : goal.returns
returns c = record { unique = unique; kept = unfolds-grows; exists = exists }
