use Rattle.std.proofs.Common.{refl}
use Rattle.type_info.specs.Table.{types, entries}
use Rattle.type_info.proofs.builtin.constant.Goals as goal

pub returns : goal.returns
unfolding types entries
returns c = refl
