use Rattle.life.proofs.Written.{expression_law, origin_law, types_law}
use Rattle.life.proofs.binding.written_stands.Goals as goal

pub returns : goal.returns
returns c = record { origin = origin_law; expression = expression_law; types = types_law }
