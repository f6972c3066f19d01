use Rattle.life.proofs.First.{resolve_ends_law, resolve_stops_law, round_one_law}
use Rattle.life.proofs.Reading.{reading_law}
use Rattle.life.proofs.resolving.resolve_rounds_stand.Goals as goal

pub returns : goal.returns
returns c = record { round_one = round_one_law; reading = reading_law; ends = resolve_ends_law; stops = resolve_stops_law }
