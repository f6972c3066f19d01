use Rattle.life.proofs.Faults.{fault_law}
use Rattle.life.proofs.Told.{told_law}
use Rattle.life.proofs.telling.telling_stands.Goals as goal

pub returns-clause-told : goal.returns-clause-told
returns-clause-told c = told_law

pub returns-clause-fault : goal.returns-clause-fault
returns-clause-fault c = fault_law
