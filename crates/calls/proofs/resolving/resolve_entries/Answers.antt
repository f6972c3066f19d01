use Rattle.std.proofs.Common.{◌∙◌}
use Rattle.std.proofs.lemmas.Result.{err_from_is_err_and}
use Rattle.book.specs.Book.{held_of}
use Rattle.calls.specs.Endings.{ending_of}
use Rattle.entries.specs.Notes.{leads_told}
use Rattle.finds.specs.Finds.{reads_of}
use Rattle.requests.specs.Asked.{declared_by}
use Rattle.calls.proofs.Concluded.{done, written}
use Rattle.binding.proofs.BindDone.{not_of_columns}
use Rattle.calls.proofs.resolving.resolve_entries.Goals as goal

pub returns-in_err-rounds-clause-did : goal.returns-in_err-rounds-clause-did
returns-in_err-rounds-clause-did g c = λ few text names t s agree.
    let p = err_from_is_err_and c.from_residual.result c.from_residual.ensures.1 in
    let r = c.in_err-rounds.ensures.told few text names t s agree in
    rw (p.1, p.2) (record { ends = not_of_columns _ ∙ r.ends; left = r.left })

pub returns-clause-did : goal.returns-clause-did
returns-clause-did g c = λ few text names t s agree.
    let k = g.C.TypeCatalog.meaning c.args.catalog.now in
    let h = held_of c.args.book.now in
    let ds = declared_by c.args.host.now c.args.entries.now in
    let filled = c.in_ok-rounds.ensures in
    done k h t s ds agree c.in_ok-rounds.rounds (reads_of c.fill_entries.new.finds) (held_of c.fill_entries.new.book) (filled.told few text names t s agree)
    (leads_told c.fill_entries.new.notes) (filled.leads few.entries_few) (ending_of c.conclude.result)
    (c.conclude.ensures.ends few.entries_few k filled.read filled.all c.args.host.now)

pub returns-clause-written : goal.returns-clause-written
returns-clause-written g c = λ accepted few text names t s agree room.
    let k = g.C.TypeCatalog.meaning c.args.catalog.now in
    let h = held_of c.args.book.now in
    let ds = declared_by c.args.host.now c.args.entries.now in
    let filled = c.in_ok-rounds.ensures in
    written k h t s ds agree c.in_ok-rounds.rounds (reads_of c.fill_entries.new.finds) (held_of c.fill_entries.new.book) (filled.told few text names t s agree)
    (leads_told c.fill_entries.new.notes) (filled.leads few.entries_few) (ending_of c.conclude.result)
    (c.conclude.ensures.ends few.entries_few k filled.read filled.all c.args.host.now) accepted c.args.out.now c.conclude.new.out
    (c.conclude.ensures.written accepted c.args.host.now room)
