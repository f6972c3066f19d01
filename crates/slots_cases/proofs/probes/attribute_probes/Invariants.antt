use Rattle.std.proofs.Common.{[]}
use Rattle.keys.specs.Senses.{pair_digest, pair_of}
use Rattle.slots.specs.Slots.{Kept}
use Rattle.slots_cases.proofs.probes.attribute_probes.Given as goal

abbrev pub invariant-loop-attribute : goal.invariant-loop-attribute
invariant-loop-attribute l = Kept (λ _. pair_of) pair_digest (λ _. 0) [] l.map.slots.now
