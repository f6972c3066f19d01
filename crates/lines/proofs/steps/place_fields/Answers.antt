use Rattle.std.proofs.Common.{rules, vec_items}
use Rattle.lines.proofs.Lists.{field_more}
use Rattle.script.specs.Words.{words}
use Rattle.lines.proofs.steps.place_fields.Goals as goal

pub loop-name-preserved : goal.loop-name-preserved
loop-name-preserved c =
    field_more _ (vec_items c.loop-name.host) c.in-Some.name.now c.in_ok-oid.oid.now c.in_ok-relation.relation.now c.in_ok-attribute.attribute.now
    (vec_items c.place_field.new.host) (words c.loop-name.rest.now) (words c.in_ok-attribute.further.now) (vec_items c.loop-name.fields)
    (vec_items c.push.new.self) c.in_ok-place_field.field-0
    c.loop-name.invariant (search rules) (search rules) (search rules)
