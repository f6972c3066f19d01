use Rattle.std.proofs.Common.{rules}
use Rattle.slots.proofs.Held.{Blank, Blank-replicate, blank-held}
use Rattle.slots.proofs.Kept.{blank-kept}
use Rattle.slots.proofs.map.Map.clear.Goals as goal

pub returns-clause-kept : goal.returns-clause-kept
returns-clause-kept g c =
    let blank : Blank c.fill.new.self = Blank-replicate _ _ (c.fill.ensures.after (λ y e. search rules)) in
    λ text. blank-kept g.K.Key.stands g.K.Key.digest g.K.Key.extent text _ blank

pub returns-clause-holds : goal.returns-clause-holds
returns-clause-holds g c =
    let blank : Blank c.fill.new.self = Blank-replicate _ _ (c.fill.ensures.after (λ y e. search rules)) in
    λ text q. blank-held g.K.Key.alike g.K.Key.laws.tells (g.K.Key.stands text) _ q blank
