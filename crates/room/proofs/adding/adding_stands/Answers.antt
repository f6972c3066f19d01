use Rattle.room.proofs.Additions.{added_law}
use Rattle.room.proofs.Holding.{entry_law, held_law}
use Rattle.room.proofs.adding.adding_stands.Goals as goal

pub returns : goal.returns
returns c = record { added = added_law; held = held_law; entries = entry_law }
