use Rattle.std.proofs.Common.{length}
use Rattle.slots.specs.Slots.{Passed}
use Rattle.slots.proofs.map.Lookup.seek.Given as goal

abbrev pub invariant-loop-step : goal.invariant-loop-step
invariant-loop-step g l = Passed (g.K.Key.stands l.self.text.now) g.K.Key.digest l.self.slots.now (g.K.Key.means l.key) (length l.yielded)
