use Rattle.std.proofs.Common.{rules}
use Rattle.lines.proofs.Lists.{column_other}
use Rattle.lines.proofs.additions.ColumnLine.read.Goals as goal

pub returns-in_err-name : goal.returns-in_err-name
returns-in_err-name c = search (rules, column_other)
