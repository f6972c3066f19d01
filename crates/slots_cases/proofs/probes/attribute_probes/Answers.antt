use Rattle.std.proofs.Common.{[]}
use Rattle.slots_cases.proofs.probes.attribute_probes.Goals as goal

pub loop-attribute-init : goal.loop-attribute-init
loop-attribute-init c = c.empty-map.ensures.kept []
