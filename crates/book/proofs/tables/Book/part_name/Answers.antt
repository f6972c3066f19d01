use Rattle.std.proofs.Common.{◌∙◌}
use Rattle.book.proofs.Told.{part_name_inside}
use Rattle.book.proofs.tables.Book.part_name.Goals as goal

pub returns : goal.returns
returns c = c.text_at.ensures ∙ part_name_inside c.args.self.now c.args.run c.args.i c.in_ok-part.field-0 c.in_ok-part.ensures
