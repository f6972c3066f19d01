use Rattle.std.proofs.Common.{◌≡◌, ℕ, IfSome, Some, None, Option, sym}
use Rattle.catalog.specs.declared.row.Row.{Row}
use Rattle.catalog.specs.Catalog.{Catalog, Laws}
use Rattle.catalog.specs.Meaning.{row_told, row_meaning}
use Rattle.catalog.proofs.questions.named_row.Goals as goal

leads-back : (m : Catalog) → Laws m → (o : ℕ) (r : Option Row) → row_told r ≡ m.rows o → IfSome r (λ k. m.named (row_meaning k).pretty ≡ Some o)
leads-back m l o None e = tt
leads-back m l o (Some k) e = l.pretty_leads o (row_meaning k) (sym e)

pub returns-clause-back : goal.returns-clause-back
returns-clause-back g c = leads-back _ (g.C.TypeCatalog.laws c.args.catalog.now) c.args.oid.0 c.row.result c.row.ensures
