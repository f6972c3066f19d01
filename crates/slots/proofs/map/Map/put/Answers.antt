use Rattle.slots.proofs.Kept.{added, within-set}
use Rattle.slots.proofs.map.Map.put.Goals as goal

pub returns : goal.returns
returns g c =
    let k = g.K.Key in
    let pre = c.requires in
    let new = added _ _ _ _ _ _ k.alike g.K.Key.laws.tells _ pre.stored.stands_for pre.kept.sound pre.free in
    record {
      added = new;
      kept = record {
        sound = new.sound;
        within = within-set (k.stands c.args.text.now) k.digest _ _ _ _ k.extent _ pre.free.0.1.inside pre.stored.within pre.kept.within;
      };
    }
