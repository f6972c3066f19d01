use Rattle.life.proofs.Buffers.{bind_buffer_law, resolve_buffer_law}
use Rattle.life.proofs.writing.buffers_stand.Goals as goal

pub returns-clause-resolve : goal.returns-clause-resolve
returns-clause-resolve c = resolve_buffer_law

pub returns-clause-bind : goal.returns-clause-bind
returns-clause-bind c = bind_buffer_law
