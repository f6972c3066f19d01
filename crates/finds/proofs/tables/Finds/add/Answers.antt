use Rattle.std.proofs.Common.{◌∙◌, List, ap, get_or, sym}
use Rattle.std.proofs.Math.ListN.{get_or-map}
use Rattle.keys.specs.Senses.{oid_of}
use Rattle.type_info.specs.declared.oid.Oid.{Oid}
use Rattle.finds.proofs.Put.{place_put}
use Rattle.finds.proofs.tables.Finds.add.Goals as goal

pub invariant_of-self : goal.invariant_of-self
invariant_of-self c =
    let f = c.args.self.now in
    let none : Oid = record { 0 = 0 } in
    let k =
    place_put f c.args.place c.requires.row c.requires.new c.push.new.self c.push.result c.push.ensures _
    (ap (λ (os : List Oid). oid_of (get_or os c.args.place none)) c.as_slice.ensures ∙ sym (get_or-map oid_of f.queue.items c.args.place none))
    c.intern.new.self c.intern.result c.intern.ensures in
    record { lent = k.lent; queued = k.queued; ordered = k.ordered }
