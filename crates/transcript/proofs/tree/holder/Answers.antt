use Rattle.book.specs.Book.{held_of}
use Rattle.std.proofs.Common.{◌∙◌}
use Rattle.transcript.proofs.Holding.{described_holder}
use Rattle.transcript.proofs.tree.holder.Goals as goal

pub returns-in-Described : goal.returns-in-Described
returns-in-Described c = λ t st. c.holder_described.ensures ∙ described_holder (held_of c.args.book.now) c.args.settled c.in-Described.field-0 c.in-Described.is t st
