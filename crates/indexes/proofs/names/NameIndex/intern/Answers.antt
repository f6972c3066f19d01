use Rattle.std.proofs.Common.{ap}
use Rattle.indexes.specs.Known.{Names}
use Rattle.indexes.proofs.Steps.{Grown, still_kept, still_free, interned}
use Rattle.indexes.proofs.names.NameIndex.intern.Given as given
use Rattle.indexes.proofs.names.NameIndex.intern.Goals as goal
use Rattle.indexes.proofs.names.NameIndex.intern.Goals.{After-get}

grown : (g : given.Over) (c : After-get g) → Grown c.args.self.now c.args.name.now c.in-Gap.slot c.in_ok-span-in-Gap.span c.append.new.self
grown g c =
    let was = c.lookup-lookup.ensures in
    record {
      kept = rw (was.text, was.slots) at c.lookup-lookup.result.kept;
      looked = c.seek.result.looked;
      told = rw (was.text, was.slots, c.in-Gap.is) at c.seek.ensures.told;
      laid = rw (← c.self.view_is) c.in_ok-span-in-Gap.ensures.after;
      steady = rw (was.text, was.slots) at (c.growth.ensures c.args.name.now);
    }

pub put-requires-clause-kept : goal.put-requires-clause-kept
put-requires-clause-kept g c =
    let slots = ap (λ (t : Names g.row.V.Denot). t.slots) c.self.view_is in
    rw (c.get.ensures, slots) (still_kept _ _ _ _ _ (grown g (goal.at.put-requires-clause-kept g c).After-get))

pub put-requires-clause-free : goal.put-requires-clause-free
put-requires-clause-free g c =
    let slots = ap (λ (t : Names g.row.V.Denot). t.slots) c.self.view_is in
    rw (c.get.ensures, slots) (still_free _ _ _ _ _ (grown g (goal.at.put-requires-clause-free g c).After-get))

pub returns-in_ok-span-in-Gap : goal.returns-in_ok-span-in-Gap
returns-in_ok-span-in-Gap g c =
    let slots = ap (λ (t : Names g.row.V.Denot). t.slots) c.self.view_is in
    interned _ _ _ _ _ (grown g (goal.at.returns-in_ok-span-in-Gap g c).After-get) c.put.new.self.slots.now c.args.value (rw (c.get.ensures, slots) at c.put.ensures.added)
