use Rattle.std.proofs.Common.{rules, vec_items}
use Rattle.lines.proofs.Lists.{attribute_more}
use Rattle.script.specs.Words.{words}
use Rattle.lines.proofs.row.place_attributes.Goals as goal

pub loop-name-preserved : goal.loop-name-preserved
loop-name-preserved c =
    attribute_more _ (vec_items c.loop-name.host) c.in-Some.name.now c.in_ok-oid.oid.now (vec_items c.place_name.new.host) (words c.loop-name.rest.now) (words c.in_ok-oid.further.now)
    (vec_items c.loop-name.attributes) (vec_items c.push.new.self) (record { name = c.in_ok-name.name; oid = c.in_ok-oid-2.oid })
    c.loop-name.invariant (search rules) (search rules) (search rules) (search rules)
