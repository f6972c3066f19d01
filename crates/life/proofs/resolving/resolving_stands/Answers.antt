use Rattle.life.proofs.Resolve.{entry_law, resolve_law, resolve_nine_law, ten_law, written_law}
use Rattle.life.proofs.resolving.resolving_stands.Goals as goal

pub returns : goal.returns
returns c = record { step = resolve_law; entry = entry_law; written = written_law; nine = resolve_nine_law; ten = ten_law }
