use Rattle.worked_examples.proofs.Hollow.{hollow_law}
use Rattle.worked_examples.proofs.hollow_bodies_fail.Goals as goal

pub returns : goal.returns
returns c = hollow_law
