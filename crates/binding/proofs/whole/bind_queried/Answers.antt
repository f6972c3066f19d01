use Rattle.std.proofs.Common.{◌∙◌, true, Ok, Err, sym, arith}
use Rattle.std.proofs.lemmas.Result.{err_from_is_err_and}
use Rattle.book.specs.Book.{held_of}
use Rattle.binding.specs.Whole.{binding_asked}
use Rattle.binding.proofs.BindDone.{asks_so, goes_on, left_so, not_of_columns, related_still, spent_more}
use Rattle.binding.proofs.whole.bind_queried.Goals as goal

pub returns-in_err-types-clause-told : goal.returns-in_err-types-clause-told
returns-in_err-types-clause-told g c = λ few many t s.
    let asked = binding_asked c.args.parameters.now c.args.fields.now true c.args.origins in
    let p = err_from_is_err_and c.from_residual.result c.from_residual.ensures.1 in
    rw (p.1, p.2) (not_of_columns _ ∙ (c.in_err-types.ensures.told few many t s asked (asks_so c.args.parameters.now c.args.fields.now c.args.origins)).ends)

pub returns-in_err-types-clause-left : goal.returns-in_err-types-clause-left
returns-in_err-types-clause-left g c = λ few many related t s.
    let asked = binding_asked c.args.parameters.now c.args.fields.now true c.args.origins in
    (c.in_err-types.ensures.told few many t s asked (asks_so c.args.parameters.now c.args.fields.now c.args.origins)).left

pub returns-in_err-columns-clause-told : goal.returns-in_err-columns-clause-told
returns-in_err-columns-clause-told g c = λ few many t s.
    let k = g.C.TypeCatalog.meaning c.args.catalog.now in
    let d = g.C.TypeCatalog.meaning c.fill_types.new.catalog in
    let h = held_of c.args.book.now in
    let now = held_of c.fill_types.new.book in
    let asked = binding_asked c.args.parameters.now c.args.fields.now true c.args.origins in
    let types = c.in_ok-types.ensures in
    let kept = types.told few many t s asked (asks_so c.args.parameters.now c.args.fields.now c.args.origins) in
    let on = goes_on k d h now t c.args.parameters.now c.args.fields.now c.args.origins c.in_ok-types.types s kept types.capacity (types.columns t s) types.cost in
    let p = err_from_is_err_and c.from_residual-in_err-columns.result c.from_residual-in_err-columns.ensures.1 in
    rw (p.1, p.2) (c.in_err-columns.ensures.told many (omega (arith, types.few)) _ kept.kept ∙ sym on)

pub returns-in_err-columns-clause-left : goal.returns-in_err-columns-clause-left
returns-in_err-columns-clause-left g c = λ few many related t s.
    let k = g.C.TypeCatalog.meaning c.args.catalog.now in
    let d = g.C.TypeCatalog.meaning c.fill_types.new.catalog in
    let h = held_of c.args.book.now in
    let now = held_of c.fill_types.new.book in
    let asked = binding_asked c.args.parameters.now c.args.fields.now true c.args.origins in
    let types = c.in_ok-types.ensures in
    let kept = types.told few many t s asked (asks_so c.args.parameters.now c.args.fields.now c.args.origins) in
    let on = goes_on k d h now t c.args.parameters.now c.args.fields.now c.args.origins c.in_ok-types.types s kept types.capacity (types.columns t s) types.cost in
    let ended = c.in_err-columns.ensures in
    left_so k d h now t c.args.parameters.now c.args.fields.now c.args.origins c.in_ok-types.types s kept types.capacity (types.columns t s) types.cost
    (Err c.in_err-columns.field-0.0) (held_of c.origins_round.new.book) (ended.told many (omega (arith, types.few)) _ kept.kept ∙ sym on) (ended.types_kept (omega (arith, types.few))) tt ended.unkept

pub returns-in_err-columns-clause-cost : goal.returns-in_err-columns-clause-cost
returns-in_err-columns-clause-cost g c =
    let types = c.in_ok-types.ensures in
    let ended = c.in_err-columns.ensures in
    let p = err_from_is_err_and c.from_residual-in_err-columns.result c.from_residual-in_err-columns.ensures.1 in
    rw (p.1, p.2)
    (spent_more (g.C.TypeCatalog.meaning c.args.catalog.now) (g.C.TypeCatalog.meaning c.fill_types.new.catalog) (g.C.TypeCatalog.meaning c.origins_round.new.catalog) c.in_ok-types.types _ types.cost
    (ended.since (omega (arith, types.few))) (ended.cost (omega (arith, types.few))))

pub returns-clause-told : goal.returns-clause-told
returns-clause-told g c = λ few many t s.
    let k = g.C.TypeCatalog.meaning c.args.catalog.now in
    let d = g.C.TypeCatalog.meaning c.fill_types.new.catalog in
    let h = held_of c.args.book.now in
    let now = held_of c.fill_types.new.book in
    let asked = binding_asked c.args.parameters.now c.args.fields.now true c.args.origins in
    let types = c.in_ok-types.ensures in
    let kept = types.told few many t s asked (asks_so c.args.parameters.now c.args.fields.now c.args.origins) in
    c.in_ok-columns.ensures.told many (omega (arith, types.few)) _ kept.kept
    ∙ sym (goes_on k d h now t c.args.parameters.now c.args.fields.now c.args.origins c.in_ok-types.types s kept types.capacity (types.columns t s) types.cost)

pub returns-clause-left : goal.returns-clause-left
returns-clause-left g c = λ few many related t s.
    let k = g.C.TypeCatalog.meaning c.args.catalog.now in
    let d = g.C.TypeCatalog.meaning c.fill_types.new.catalog in
    let h = held_of c.args.book.now in
    let now = held_of c.fill_types.new.book in
    let asked = binding_asked c.args.parameters.now c.args.fields.now true c.args.origins in
    let types = c.in_ok-types.ensures in
    let kept = types.told few many t s asked (asks_so c.args.parameters.now c.args.fields.now c.args.origins) in
    let on = goes_on k d h now t c.args.parameters.now c.args.fields.now c.args.origins c.in_ok-types.types s kept types.capacity (types.columns t s) types.cost in
    let ended = c.in_ok-columns.ensures in
    left_so k d h now t c.args.parameters.now c.args.fields.now c.args.origins c.in_ok-types.types s kept types.capacity (types.columns t s) types.cost
    (Ok c.in_ok-columns.columns) (held_of c.origins_round.new.book) (ended.told many (omega (arith, types.few)) _ kept.kept ∙ sym on) (ended.types_kept (omega (arith, types.few)))
    (ended.kept many (related_still k d c.in_ok-types.types h now types.cost (types.relations t s) related) _ kept.kept) tt
