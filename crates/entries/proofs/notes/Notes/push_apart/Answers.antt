use Rattle.entries.proofs.Noted.{apart_put}
use Rattle.entries.proofs.notes.Notes.push_apart.Goals as goal

pub invariant_of-self : goal.invariant_of-self
invariant_of-self c =
    let k =
    apart_put c.args.self.now c.args.element c.args.array c.requires.new c.requires.room c.push.new.self c.push.result c.push.ensures
    c.intern.new.self c.intern.result c.intern.ensures in
    record { lent = k.0; indexed = k.1 }
