use Rattle.life.proofs.Ordinal.{ordinal_law}
use Rattle.life.proofs.ordinals.ordinals_stand.Goals as goal

pub returns : goal.returns
returns c = ordinal_law
