use Rattle.std.proofs.Common.{◌∙◌, sym}
use Rattle.requests.proofs.Names.{outside_names}
use Rattle.requests.proofs.ordinals.ColumnNames.ordinal.Goals as goal

pub returns-else-inside : goal.returns-else-inside
returns-else-inside c = rw (← c.self.view_is) (outside_names c.self.inside.host.now c.self.inside.names.now c.args.name (sym c.inside.ensures ∙ c.if-inside.false))
