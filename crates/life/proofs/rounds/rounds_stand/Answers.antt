use Rattle.life.proofs.Ends.{ends_law, stops_law}
use Rattle.life.proofs.Standing.{queue_law, standing_law}
use Rattle.life.proofs.rounds.rounds_stand.Goals as goal

pub returns : goal.returns
returns c = record { standing = standing_law; queue = queue_law; ends = ends_law; stops = stops_law }
