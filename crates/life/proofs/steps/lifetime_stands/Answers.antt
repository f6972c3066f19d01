use Rattle.life.proofs.Life.{lifetime_law}
use Rattle.life.proofs.steps.lifetime_stands.Goals as goal

pub returns : goal.returns
returns c = lifetime_law
