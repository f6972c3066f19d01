use Rattle.std.proofs.Common.{◌∙◌, ap, is_some}
use Rattle.book.specs.Book.{held_of}
use Rattle.book.proofs.Described.{known_answered}
use Rattle.book.proofs.tables.Book.knows.Goals as goal

pub returns : goal.returns
returns c = c.is_some.ensures ∙ ap is_some c.component_for.ensures ∙ known_answered (held_of c.args.self.now).descriptions c.args.oid.0
