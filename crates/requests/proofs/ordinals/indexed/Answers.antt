use Rattle.std.proofs.Common.{◌-◌, arith}
use Rattle.requests.proofs.Names.{indexed_none, indexed_more}
use Rattle.requests.proofs.ordinals.indexed.Goals as goal

pub loop-place-init : goal.loop-place-init
loop-place-init c = record {
  indexed = indexed_none c.args.host.now c.args.names.now c.empty-map.result.slots.now (c.empty-map.ensures.kept c.args.host.now) (c.empty-map.ensures.holds c.args.host.now);
  room = omega arith;
}

pub loop-place-preserved : goal.loop-place-preserved
loop-place-preserved c = record {
  indexed = indexed_more c.args.host.now c.args.names.now (c.loop-place.place - 1) c.loop-place.place _ _ _ (omega arith) (omega arith) c.loop-place.invariant.indexed c.enter.ensures;
  room = omega arith;
}
