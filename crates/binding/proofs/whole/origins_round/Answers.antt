use Rattle.std.proofs.Common.{[], ap, if◌then◌else◌, subst, sym}
use Rattle.book.specs.Book.{held_of}
use Rattle.book.specs.Stands.{Stands}
use Rattle.binding.specs.Asked.{asked_of}
use Rattle.binding.specs.Whole.{wanted}
use Rattle.binding.proofs.Ending.{no_columns}
use Rattle.binding.proofs.whole.origins_round.Goals as goal

pub returns-else-origins-clause-kept : goal.returns-else-origins-clause-kept
returns-else-origins-clause-kept g c = λ few related t s.
    let k = g.C.TypeCatalog.meaning c.args.catalog.now in
    let h = held_of c.args.book.now in
    let fields = c.args.fields.now in
    subst (Stands h) (sym (no_columns k t (wanted c.args.origins h fields) (ap (λ v. if v then asked_of h fields else []) c.if-origins.false))) s
