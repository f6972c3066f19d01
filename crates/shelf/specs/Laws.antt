-- The shelf keeps the laws of a catalog. Assumes nothing.
use Rattle.std.specs.Prelude.{◌≡◌, ℕ, ◌≤◌, Bool, true, ◌&&◌, length, Some, None, Option, nat_le, refl}
use Rattle.std.proofs.Common.{sym, ap, subst, ◌∙◌, arith, leb-true}
use Rattle.std.specs.Option.{option_map}
use Rattle.std.proofs.lemmas.Bool.{and_parts}
use Rattle.catalog.specs.Catalog.{CatalogRow, RowFits, Laws, Sized, Nonzero}
use Rattle.type_info.specs.Table.{Entry, types, entries, by_oid, by_name, array_of, has_oid, is_array_of}
use Rattle.type_info.proofs.Facts.{laws}
use Rattle.type_info.proofs.First.{all, all-at, first_some, Place}
use Rattle.shelf.specs.Rows.{element_oid, subtype_oid, shelf_row, shelf_of}

abbrev from_one : Option ℕ → Bool
from_one None = true
from_one (Some n) = nat_le 1 n

-- what one test over the table shows of each entry
abbrev within : Entry → Bool
within e = nat_le 1 e.oid && (nat_le 1 (length e.name) && (nat_le (length e.name) 128 && (from_one (element_oid e.kind) && from_one (subtype_oid e.kind))))

all-within : all within entries ≡ true
unfolding types entries
all-within = refl

nonzero-from : (o : Option ℕ) → from_one o ≡ true → Nonzero o
nonzero-from None e = tt
nonzero-from (Some n) e = leb-true 1 n e

pub record Bounds (e : Entry) : Type 0 where
  pub oid : 1 ≤ e.oid
  pub name : Sized 128 e.name
  pub element : Nonzero (element_oid e.kind)
  pub subtype : Nonzero (subtype_oid e.kind)

bounds-from : (e : Entry) → within e ≡ true → Bounds e
bounds-from e h =
    let a = and_parts (nat_le 1 e.oid) _ h in
    let b = and_parts (nat_le 1 (length e.name)) _ a.1 in
    let c = and_parts (nat_le (length e.name) 128) _ b.1 in
    let d = and_parts (from_one (element_oid e.kind)) (from_one (subtype_oid e.kind)) c.1 in
    record {
      oid = leb-true 1 e.oid a.0;
      name = (leb-true 1 (length e.name) b.0, leb-true (length e.name) 128 c.0);
      element = nonzero-from (element_oid e.kind) d.0;
      subtype = nonzero-from (subtype_oid e.kind) d.1;
    }

placed : (p : Entry → Bool) (e : Entry) → Place p entries e → Bounds e
placed p e r = bounds-from e (subst (λ (x : Entry). within x ≡ true) r.is (all-at within entries all-within r.at r.within))

pub bounds : (o : ℕ) (e : Entry) → by_oid o ≡ Some e → Bounds e
bounds o e h = placed (has_oid o) e (first_some (has_oid o) entries e h)

pub array-nonzero : (o : ℕ) → Nonzero (option_map (λ (a : Entry). a.oid) (array_of o))
array-nonzero o = by_cases (array_of o) refl where
  by_cases : (r : Option Entry) → array_of o ≡ r → Nonzero (option_map (λ (a : Entry). a.oid) r)
  by_cases None e = tt
  by_cases (Some a) e = (placed (is_array_of o) a (first_some (is_array_of o) entries a e)).oid

mapped-some : {A B : Type 0} (f : A → B) (o : Option A) (b : B) → option_map f o ≡ Some b → (a : A) × (o ≡ Some a) × (f a ≡ b)
mapped-some f None b e = absurd cc
mapped-some f (Some a) b e = (a, refl, cc)

fits : (o : ℕ) (e : Entry) → by_oid o ≡ Some e → RowFits (shelf_row e)
fits o e h =
    let b = bounds o e h in
    record {
      pretty_fits = b.name;
      elem_fits = b.element;
      base_fits = tt;
      sub_fits = b.subtype;
      array_fits = array-nonzero e.oid;
      labels_few = omega arith;
      labels_fit = tt;
      attributes_few = omega arith;
      attributes_fit = tt;
    }

no_zero : by_oid 0 ≡ None
unfolding types entries
no_zero = refl

pub shelf-laws : (n : ℕ) → Laws (shelf_of n)
shelf-laws n = record {
  nonzero = ap (option_map shelf_row) no_zero;
  rows_fit = λ o r h. let w = mapped-some shelf_row (by_oid o) r h in subst RowFits w.2 (fits o w.0 w.1);
  names_fit = λ s o h.
      let w = mapped-some (λ (e : Entry). e.oid) (by_name s) o h in
      let back = laws.oid_finds_again s w.0 w.1 in
      subst (Sized 128) back.0 (bounds w.0.oid w.0 back.1).name;
  columns_fit = λ o a k e. absurd cc;
  pretty_leads = λ o r h.
      let w = mapped-some shelf_row (by_oid o) r h in
      let back = laws.name_finds_again o w.0 w.1 in
      ap (λ (x : CatalogRow). option_map (λ (e : Entry). e.oid) (by_name x.pretty)) (sym w.2) ∙ ap (option_map (λ (e : Entry). e.oid)) back.1 ∙ ap Some back.0;
  named_stands = λ s o h.
      let w = mapped-some (λ (e : Entry). e.oid) (by_name s) o h in
      let back = laws.oid_finds_again s w.0 w.1 in
      (shelf_row w.0, ap (λ (k : ℕ). option_map shelf_row (by_oid k)) (sym w.2) ∙ ap (option_map shelf_row) back.1);
  one_table = λ o a b k m e d. absurd cc;
}
