use Rattle.life.proofs.Keep.{keeping_law, leaving_law}
use Rattle.life.proofs.Settle.{passes_law}
use Rattle.life.proofs.keeping.keeping_stands.Goals as goal

pub returns : goal.returns
returns c = record { keeping = keeping_law; leaving = leaving_law; passes = passes_law }
