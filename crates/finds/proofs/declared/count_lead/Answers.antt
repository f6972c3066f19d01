use Rattle.std.proofs.Common.{◌≡◌, ◌∙◌, ◌||◌, Bool, false, is_some, sym, true}
use Rattle.std.proofs.lemmas.Bool.{or_parts}
use Rattle.book.specs.Book.{held_of}
use Rattle.book.proofs.Put.{taken}
use Rattle.indexes.specs.Known.{known}
use Rattle.life.proofs.Lists.{is_none_if}
use Rattle.finds.specs.Resolving.{Lead, left_out}
use Rattle.finds.proofs.NewLeads.{counts, over}
use Rattle.finds.proofs.declared.count_lead.Goals as goal

pub returns-then-passes_over-clause-counted : goal.returns-then-passes_over-clause-counted
returns-then-passes_over-clause-counted c =
    let x : Lead = (c.in-Some.name.now, c.in-Some.oid.0) in
    let b : Bool = left_out (held_of c.args.book.now) c.args.finds.now x || is_some (known c.args.seen.now x.0) in
    let told : b ≡ true = sym {b = b} c.passes_over.ensures ∙ c.if-passes_over.true in
    rw c.in-Some.is (over b x c.args.seen.now told)

pub returns-clause-counted : goal.returns-clause-counted
returns-clause-counted c =
    let x : Lead = (c.in-Some.name.now, c.in-Some.oid.0) in
    let seen = c.args.seen.now in
    let b : Bool = left_out (held_of c.args.book.now) c.args.finds.now x || is_some (known seen x.0) in
    let none : b ≡ false = sym {b = b} c.passes_over.ensures ∙ c.if-passes_over.false in
    let gained = taken (known seen x.0) c.in-Some.oid _ _ _ c.intern.result c.intern.ensures (is_none_if (known seen x.0) (or_parts _ _ none).1) (rw c.in-Some.is at c.requires) in
    rw c.in-Some.is (counts b x seen c.intern.new.self none gained)
