use Rattle.script.proofs.Shown.{read_back}
use Rattle.script.proofs.names.names_read_back.Goals as goal

pub returns : goal.returns
returns c = read_back
