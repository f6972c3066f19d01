use Rattle.indexes.proofs.Steps.{kept_behind, known_behind}
use Rattle.indexes.proofs.names.NameIndex.append.Goals as goal

pub invariant_of-self : goal.invariant_of-self
invariant_of-self g c =
    let was = c.lookup.ensures in (
      c.self.invariant.0,
      kept_behind (record { text = c.self.inside.text; slots = c.self.inside.map.slots.now }) c.self.invariant.1 (rw (was.text, was.slots, ← c.self.view_is) at c.growth.ensures) c.args.bytes.now c.append.new.self c.append.result c.append.ensures.after,
    )

pub returns-clause-knows : goal.returns-clause-knows
returns-clause-knows g c =
    let was = c.lookup.ensures in
    rw (← c.self.view_is) (known_behind (record { text = c.self.inside.text; slots = c.self.inside.map.slots.now }) c.self.invariant.1 (rw (was.text, was.slots, ← c.self.view_is) at c.growth.ensures) c.args.bytes.now c.append.new.self c.append.result c.append.ensures.after)
