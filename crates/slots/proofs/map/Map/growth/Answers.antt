use Rattle.slots.proofs.Kept.{steady}
use Rattle.slots.proofs.map.Map.growth.Goals as goal

pub returns : goal.returns
returns g c = λ more. steady g.K.Key.alike g.K.Key.laws.tells _ _ _ _ _ _ (g.K.Key.laws.grows c.args.text.now more) c.requires
