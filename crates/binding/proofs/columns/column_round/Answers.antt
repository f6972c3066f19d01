use Rattle.std.proofs.Common.{◌≡◌, ◌+◌, ◌∙◌, subst, sym, arith}
use Rattle.std.proofs.lemmas.Result.{err_from_is_err_and}
use Rattle.book.specs.Book.{held_of}
use Rattle.book.specs.Stands.{Stands}
use Rattle.binding.specs.Asked.{asked_of, binding_of}
use Rattle.binding.specs.ColumnRound.{FullAt, columns_full}
use Rattle.binding.proofs.Ending.{asked_distinct, full_ends, kept_ends, no_columns, spent_one}
use Rattle.faults.specs.Faults.{columns_refusal_of, refused_so}
use Rattle.room.specs.Added.{with_columns}
use Rattle.room.specs.Tables.{contents}
use Rattle.binding.proofs.columns.column_round.Goals as goal

pub returns-then-not-any_asked-clause-kept : goal.returns-then-not-any_asked-clause-kept
returns-then-not-any_asked-clause-kept g c = λ few related t s.
    let k = g.C.TypeCatalog.meaning c.args.catalog.now in
    let h = held_of c.args.book.now in
    let asked = asked_of h c.args.fields.now in
    let same : t ≡ with_columns k t asked = sym (no_columns k t asked c.if-not-any_asked.ensures) in
    subst (Stands h) same s

pub returns-in_err-keep-clause-told : goal.returns-in_err-keep-clause-told
returns-in_err-keep-clause-told g c = λ few small t s.
    let k = g.C.TypeCatalog.meaning c.args.catalog.now in
    let h = held_of c.args.book.now in
    let asked = asked_of h c.args.fields.now in
    let full = columns_full k h t asked in
    let fault = c.in_err-keep.field-0.0 in
    let next : c.saturating_add.result ≡ c.args.rounds + 1 = omega (arith, c.saturating_add.ensures) in
    let p = err_from_is_err_and c.from_residual-in_err-keep.result c.from_residual-in_err-keep.ensures.1 in
    rw (p.1, p.2)
    (full_ends full k (contents t) (binding_of c.args.fields.now) c.args.rounds k.allowance asked c.if-not-any_asked.ensures c.in_ok-round.ensures.0.some (refused_so (columns_refusal_of fault))
    (subst (λ n. FullAt full n fault) next (c.in_err-keep.ensures.told k asked (c.in_ok-round.ensures.1 few) (asked_distinct h c.args.fields.now) t s)))

pub returns-in_err-keep-clause-cost : goal.returns-in_err-keep-clause-cost
returns-in_err-keep-clause-cost g c = λ small.
    let next : c.saturating_add.result ≡ c.args.rounds + 1 = omega (arith, c.saturating_add.ensures) in
    let p = err_from_is_err_and c.from_residual-in_err-keep.result c.from_residual-in_err-keep.ensures.1 in
    rw (p.1, p.2) (spent_one (g.C.TypeCatalog.meaning c.args.catalog.now) (g.C.TypeCatalog.meaning c.round.new.catalog) c.in_ok-round.ensures.0 c.args.rounds (columns_refusal_of c.in_err-keep.field-0.0).rounds
    (c.in_err-keep.ensures.unkept.1 ∙ next))

pub returns-clause-told : goal.returns-clause-told
returns-clause-told g c = λ few small t s.
    let k = g.C.TypeCatalog.meaning c.args.catalog.now in
    let h = held_of c.args.book.now in
    let asked = asked_of h c.args.fields.now in
    kept_ends (columns_full k h t asked) k (contents t) (binding_of c.args.fields.now) c.args.rounds k.allowance asked c.if-not-any_asked.ensures c.in_ok-round.ensures.0.some
    (c.in_ok-keep.ensures.told k asked (c.in_ok-round.ensures.1 few) (asked_distinct h c.args.fields.now) t s)

pub returns-clause-kept : goal.returns-clause-kept
returns-clause-kept g c = λ few related t s.
    let k = g.C.TypeCatalog.meaning c.args.catalog.now in
    let h = held_of c.args.book.now in
    c.in_ok-keep.ensures.kept k (g.C.TypeCatalog.laws c.args.catalog.now) related (asked_of h c.args.fields.now) (c.in_ok-round.ensures.1 few) (asked_distinct h c.args.fields.now) t s
