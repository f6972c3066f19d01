use Rattle.std.proofs.Common.{◌≡◌, codes, rules}
use Rattle.std.proofs.lemmas.Slice.Eq.{text_from_reads}
use Rattle.lines.proofs.row.read_labels.Goals as goal

pub returns-in-Some-labels-default : goal.returns-in-Some-labels-default
returns-in-Some-labels-default c =
    let word : c.in-Some-labels-default.field-0-0.now ≡ codes "labels" = text_from_reads _ _ (search rules) (search rules) in search rules
