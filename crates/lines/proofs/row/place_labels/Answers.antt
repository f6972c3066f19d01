use Rattle.std.proofs.Common.{rules, vec_items}
use Rattle.lines.proofs.Lists.{label_more}
use Rattle.script.specs.Words.{words}
use Rattle.lines.proofs.row.place_labels.Goals as goal

pub loop-word-preserved : goal.loop-word-preserved
loop-word-preserved c =
    label_more _ (vec_items c.loop-word.host) c.in-Some.word.now (vec_items c.place_name.new.host) (words c.loop-word.rest.now) (words c.in-Some.further.now)
    (vec_items c.loop-word.labels) (vec_items c.push.new.self) c.in_ok-place_name.field-0
    c.loop-word.invariant (search rules) (search rules) (search rules) (search rules)
