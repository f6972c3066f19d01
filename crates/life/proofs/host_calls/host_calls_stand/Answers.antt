use Rattle.life.proofs.HostCalls.{asked_law, asked_life_law, early_law}
use Rattle.life.proofs.host_calls.host_calls_stand.Goals as goal

pub returns : goal.returns
returns c = record { early = early_law; asked = asked_law; life = asked_life_law }
