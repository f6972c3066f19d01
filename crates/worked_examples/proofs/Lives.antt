-- The catalog of one enum keeps the laws, and the calls on it are a life.
-- Assumes nothing.
use Rattle.std.proofs.Common.{◌≡◌, ℕ, ◌-◌, false, nat_eq, List, [], ◌∷◌, Some, codes, sym, refl, ap, ◌∙◌, subst, inl, inr, arith}
use Rattle.std.proofs.lemmas.Bool.{eqb-true}
use Rattle.std.proofs.lemmas.Option.{cond_some, none-some}
use Rattle.std.proofs.lemmas.Slice.Eq.{bytes_eq-Decides}
use Rattle.std.specs.Str.{bytes_eq}
use Rattle.catalog.specs.Catalog.{CatalogRow, Catalog, RowFits, Laws, Sized, spent}
use Rattle.life.specs.HostCalls.{AskedLife}
use Rattle.life.specs.Keep.{call_event}
use Rattle.life.specs.Run.{Performed}
use Rattle.life.specs.Steps.{Book, empty_book, refused, Event}
use Rattle.life.specs.Calls.{Call, fill}
use Rattle.life.proofs.Keep.{grows_self}
use Rattle.worked_examples.specs.Cards.{enum_of}
use Rattle.worked_examples.specs.Steps.{room}
use Rattle.worked_examples.specs.Lives.{one, first_call, second_call, left_by, event, after, poorer, first_book, as_poor, second_book, too_long, history, asked_first, asked_second, first_event, second_event}

abbrev edge_row : CatalogRow
edge_row = enum_of (codes "edge") (codes "near" ∷ codes "far" ∷ [])

row_is : (o : ℕ) (r : CatalogRow) → one.rows o ≡ Some r → (o ≡ 50003) × (edge_row ≡ r)
row_is o r e = let x = cond_some (nat_eq o 50003) edge_row r e in (eqb-true o 50003 x.0, x.1)

name_is : (n : List ℕ) (o : ℕ) → one.named n ≡ Some o → (n ≡ codes "edge") × (50003 ≡ o)
name_is n o e = let x = cond_some (bytes_eq n (codes "edge")) 50003 o e in ((bytes_eq-Decides n (codes "edge")).0 x.0, x.1)

edge_fits : RowFits edge_row
edge_fits = record {
  pretty_fits = (omega arith, omega arith);
  elem_fits = tt;
  base_fits = tt;
  sub_fits = tt;
  array_fits = tt;
  labels_few = omega arith;
  labels_fit = ((omega arith, omega arith), ((omega arith, omega arith), tt));
  attributes_few = omega arith;
  attributes_fit = tt;
}

pub one_laws : Laws one
one_laws = record {
  nonzero = refl;
  rows_fit = λ o r e. subst RowFits (row_is o r e).1 edge_fits;
  names_fit = λ n o e. subst (Sized 128) (sym (name_is n o e).0) (omega arith, omega arith);
  columns_fit = λ o a k e. absurd (none-some k e);
  pretty_leads = λ o r e. let x = row_is o r e in ap (λ (k : CatalogRow). one.named k.pretty) (sym x.1) ∙ ap (λ k. Some k) (sym x.0);
  named_stands = λ n o e. let x = name_is n o e in (edge_row, ap one.rows (sym x.1));
  one_table = λ o a b k m e f. absurd (none-some k e);
}

spent_laws : (c : Catalog) (n : ℕ) → Laws c → Laws (spent c n)
spent_laws c n l = record {
  nonzero = l.nonzero;
  rows_fit = l.rows_fit;
  names_fit = l.names_fit;
  columns_fit = l.columns_fit;
  pretty_leads = l.pretty_leads;
  named_stands = l.named_stands;
  one_table = l.one_table;
}

goes_on : (h : List Event) (c : Catalog) (b : Book) (call : Call) → Laws c → Performed room room h c b → Performed room room (event c b call ∷ h) (after c b call) (left_by c b call)
goes_on h c b call l p = (b, p, record { laws = l; after = refl; what = inl (refl, refl) }, grows_self (after c b call))

turned_away : (h : List Event) (c : Catalog) (b : Book) → Laws c → Performed room room h c b →
    let e : Event = call_event c (fill []) (refused 1 256 false 0) in Performed room room (e ∷ h) e.after b
turned_away h c b l p = (b, p, record { laws = l; after = refl; what = inr ((inl refl, refl, refl), refl) }, grows_self (spent c (c.allowance - 0)))

pub one_life : Performed room room history too_long.after second_book
one_life =
    turned_away (event poorer first_book second_call ∷ event one empty_book first_call ∷ []) as_poor second_book
    (spent_laws poorer _ (spent_laws one _ one_laws))
    (goes_on (event one empty_book first_call ∷ []) poorer first_book second_call (spent_laws one _ one_laws) (goes_on [] one empty_book first_call one_laws refl))

-- the same life, as hosts ask it
pub asked_life : AskedLife room room (second_event ∷ first_event ∷ []) second_event.after first_book
asked_life = (
  first_book,
  [],
  asked_second,
  (empty_book, codes "edge", asked_first, refl, record { laws = one_laws; event = refl; left = refl }, grows_self poorer),
  record { laws = spent_laws one _ one_laws; event = refl; left = refl },
  grows_self second_event.after,
)
