use Rattle.std.proofs.Common.{◌≡◌, ◌∙◌, ◌&&◌, ap, bytes_eq, is_some, not, sym}
use Rattle.std.proofs.lemmas.Bool.Decides.{Decides-eqb}
use Rattle.catalog.specs.Meaning.{row_meaning}
use Rattle.finds.specs.Keeping.{Find}
use Rattle.finds.specs.Resolving.{Lead, names_find}
use Rattle.finds.proofs.Named.{found_oid, settled_name, unqueued, unsettled}
use Rattle.finds.proofs.tables.Finds.names_settled.Goals as goal

pub returns-then-is_none : goal.returns-then-is_none
returns-then-is_none c =
    sym (unsettled c.args.self.now (c.args.name.now, c.args.oid.0) (sym (ap is_some c.find.ensures) ∙ c.is_none.ensures ∙ ap not c.if-is_none.true))

pub returns-in_default : goal.returns-in_default
returns-in_default c = sym (unqueued c.args.self.now (c.args.name.now, c.args.oid.0) c.in_default.ensures)

pub returns-in-Some-find_at : goal.returns-in-Some-find_at
returns-in-Some-find_at c =
    let f = c.args.self.now in
    let x : Lead = (c.args.name.now, c.args.oid.0) in
    let y : Find = (c.in-Some-find_at.field-0-0.0, row_meaning c.in-Some-find_at.row.now) in
    let place = c.in-Some.place in
    let same : y.0 ≡ x.1 = found_oid f place x.1 y c.in-Some.ensures (sym c.in-Some-find_at.ensures) in
    c.eq.ensures
    ∙ ap (bytes_eq x.0) c.get.ensures
    ∙ sym (ap (λ v. v && bytes_eq x.0 y.1.pretty) ((Decides-eqb y.0 x.1).1 same))
    ∙ ap (names_find x) c.in-Some-find_at.ensures
    ∙ sym (settled_name f x (sym (ap is_some c.find.ensures) ∙ c.is_none.ensures ∙ ap not c.if-is_none.false) place c.in-Some.ensures)

pub returns-in-None : goal.returns-in-None
returns-in-None c =
    let f = c.args.self.now in
    let x : Lead = (c.args.name.now, c.args.oid.0) in
    ap (names_find x) c.in-None.ensures
    ∙ sym (settled_name f x (sym (ap is_some c.find.ensures) ∙ c.is_none.ensures ∙ ap not c.if-is_none.false) c.in-Some.place c.in-Some.ensures)
