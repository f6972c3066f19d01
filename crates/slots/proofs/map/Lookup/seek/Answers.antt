use Rattle.std.proofs.Common.{◌≡◌, ◌+◌, ◌%◌, ◌<◌, length, refl, sym, ◌∙◌, subst, mod-lt, arith, rules}
use Rattle.std.proofs.lemmas.List.{length_push}
use Rattle.std.proofs.lemmas.Bool.Decides.{not_from_Decides}
use Rattle.std.proofs.lemmas.Iterator.{YieldsList-from_range}
use Rattle.std.proofs.lemmas.Iterator.Consumers.{YieldsList-from_enumerate, YieldsList-from_chain, YieldsList-turn, YieldsList-end}
use Rattle.slots.specs.Slots.{Passed}
use Rattle.slots.proofs.Around.{around-below, length-counted_ring, get_or-counted_ring}
use Rattle.slots.proofs.Search.{Reached, comes_to, sought-gap, sought-hit, passes-on, sought-crowded}
use Rattle.slots.proofs.map.Lookup.seek.Given as given
use Rattle.slots.proofs.map.Lookup.seek.Goals as goal
use Rattle.slots.proofs.map.Lookup.seek.Goals.{In-Some}

-- a turn comes to the slot at which the chain of the two ranges is
reached :
    (g : given.Over) (c : In-Some g) →
    Reached g.K.Key.alike g.K.Key.laws.tells (g.K.Key.stands c.args.self.now.text.now) g.K.Key.digest c.args.self.now.slots.now (g.K.Key.means c.args.key.now) c.in-Some.step c.in-Some.i
    × (c.in-Some.step ≡ length c.loop-step.yielded)
reached g c =
    let k = g.K.Key in
    let q = k.means c.args.key.now in
    let es = c.args.self.now.slots.now in
    let n = length es in
    let h = c.hash.result % n in
    let home : h < n = mod-lt c.hash.result (omega arith) in
    let turn = YieldsList-turn (YieldsList-from_enumerate (YieldsList-from_chain (YieldsList-from_range h n _ (cc) refl) (YieldsList-from_range 0 h h (cc) (omega arith)) (cc) (cc)) (cc))
    c.loop-step.yielded _ c.loop-step.yielded_by _ _ _ c.in-Some.is c.next.ensures.steps in
    let near : length c.loop-step.yielded < n = omega (arith, turn.0, length-counted_ring n h home) in
    let here = get_or-counted_ring n h _ _ home near turn.1 in
    let below : (h + length c.loop-step.yielded) % n < n = around-below n h _ home in (
      record {
        near = omega (arith, here.0);
        place = here.1 ∙ cc (here.0, c.hash.ensures);
        inside = omega (arith, here.1);
        passed = subst (Passed (k.stands c.args.self.now.text.now) k.digest es q) (sym here.0) c.loop-step.invariant;
      },
      here.0,
    )

pub offset_bounds-self-i : goal.offset_bounds-self-i
offset_bounds-self-i g c = let inside = (reached g c).0.inside in search rules

pub bounds-self-i : goal.bounds-self-i
bounds-self-i g c = (reached g c).0.inside

pub returns-in-None-slots : goal.returns-in-None-slots
returns-in-None-slots g c =
    let r = (reached g (goal.at.returns-in-None-slots g c).In-Some).0 in
    let k = g.K.Key in
    let found = sought-gap k.alike k.laws.tells _ k.digest _ _ _ _ r c.args.self.now.kept.sound _ c.in-None-slots.is in
    record { told = found.told; counted = found.counted }

pub matches-requires : goal.matches-requires
matches-requires g c =
    let r = (reached g (goal.at.matches-requires g c).In-Some).0 in
    let k = g.K.Key in
    c.args.self.now.kept.within _ _ _ (comes_to k.alike k.laws.tells _ k.digest _ _ _ _ r _ _ c.in-Some-slots.is)

pub returns-in-Some-slots : goal.returns-in-Some-slots
returns-in-Some-slots g c =
    let r = (reached g (goal.at.returns-in-Some-slots g c).In-Some).0 in
    let k = g.K.Key in
    let found = sought-hit k.alike k.laws.tells _ k.digest _ _ _ _ r _ _ _ c.in-Some-slots.is c.args.self.now.kept.sound (c.matches.ensures.0 c.if-matches.true) in
    record { told = found.told; counted = found.counted }

pub loop-step-preserved : goal.loop-step-preserved
loop-step-preserved g c =
    let t = reached g (goal.at.loop-step-preserved g c).In-Some in
    let k = g.K.Key in
    let met = passes-on k.alike k.laws.tells _ k.digest _ _ _ _ t.0 _ _ _ c.in-Some-slots.is (not_from_Decides _ c.matches.ensures c.if-matches.false) in
    subst (Passed (k.stands c.args.self.now.text.now) k.digest c.args.self.now.slots.now (k.means c.args.key.now)) (omega (arith, t.1, length_push c.loop-step.yielded (c.in-Some.step, c.in-Some.i))) met

pub returns : goal.returns
returns g c =
    let k = g.K.Key in
    let es = c.args.self.now.slots.now in
    let n = length es in
    let h = c.hash.result % n in
    let home : h < n = mod-lt c.hash.result (omega arith) in
    let end = YieldsList-end (YieldsList-from_enumerate (YieldsList-from_chain (YieldsList-from_range h n _ (cc) refl) (YieldsList-from_range 0 h h (cc) (omega arith)) (cc) (cc)) (cc))
    c.loop-step.yielded _ c.loop-step.yielded_by _ _ c.in-None.is c.next.ensures.steps in
    let met = subst (Passed (k.stands c.args.self.now.text.now) k.digest es (k.means c.args.key.now)) (end.1 ∙ length-counted_ring n h home) c.loop-step.invariant in
    let found = sought-crowded k.alike k.laws.tells (k.stands c.args.self.now.text.now) k.digest es (k.means c.args.key.now) met in
    record { told = found.told; counted = found.counted }
