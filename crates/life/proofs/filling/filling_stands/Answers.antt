use Rattle.life.proofs.Fill.{fill_law, nine_law, quiet_law}
use Rattle.life.proofs.filling.filling_stands.Goals as goal

pub returns : goal.returns
returns c = record { fill = fill_law; quiet = quiet_law; nine = nine_law }
