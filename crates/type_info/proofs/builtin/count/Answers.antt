use Rattle.std.proofs.Common.{sym}
use Rattle.type_info.proofs.Facts.{len, laws}
use Rattle.type_info.proofs.builtin.count.Goals as goal

pub returns : goal.returns
returns c = record { len = sym len; laws = laws }
