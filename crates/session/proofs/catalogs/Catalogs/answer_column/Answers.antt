use Rattle.std.proofs.Common.{rules}
use Rattle.session.proofs.Troubles.{unread}
use Rattle.session.proofs.catalogs.Catalogs.answer_column.Goals as goal

pub returns-in_err-line : goal.returns-in_err-line
returns-in_err-line c = unread _ _ _ _ _ c.in_err-line.field-0.0 c.read.result c.from_residual.result c.read.ensures c.in_err-line.was (search rules)
