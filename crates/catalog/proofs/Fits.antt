-- A row of the code is within the limits. Assumes nothing.
use Rattle.std.proofs.Common.{◌≡◌, ℕ, ◌≤◌, Bool, true, false, ◌&&◌, List, [], ◌∷◌, map, length, Some, None, Option, refl, arith, length-take, ltb-true}
use Rattle.std.proofs.lemmas.List.{length-map}
use Rattle.type_info.specs.declared.oid.Oid.{Oid}
use Rattle.catalog.specs.declared.values.Attribute.{Attribute}
use Rattle.catalog.specs.declared.row.Row.{Row}
use Rattle.catalog.specs.declared.text.Text.{Text}
use Rattle.catalog.specs.declared.few.Few.{Few}
use Rattle.catalog.specs.Few.{standing}
use Rattle.catalog.specs.Catalog.{RowFits, Each, Sized, Nonzero}
use Rattle.catalog.specs.Limits.{nonzero, all_typed}
use Rattle.catalog.specs.Meaning.{text_of, oid_told, attribute_meaning, row_meaning}

pub at_most : {T : Type 0} {n : ℕ} (f : Few T n) → length (standing f) ≤ n
at_most f = simp length-take (omega arith)

pub text-sized : (n : ℕ) (t : Text n) → Sized n (text_of t)
text-sized n t = (t.some, at_most t.bytes)

linked : (o : Option Oid) → nonzero o ≡ true → Nonzero (oid_told o)
linked None e = tt
linked (Some o) e = ltb-true 0 o.0 e

labels-sized : (ls : List (Text 63)) → Each (Sized 63) (map text_of ls)
labels-sized [] = tt
labels-sized (l ∷ ls) = (text-sized 63 l, labels-sized ls)

both : (a b : Bool) → (a && b) ≡ true → (a ≡ true) × (b ≡ true)
both true b e = (refl, e)
both false true e = (e, refl)
both false false e = (e, e)

attributes-sized : (xs : List Attribute) → all_typed xs ≡ true → Each (λ a. Sized 63 a.called × (1 ≤ a.typed)) (map attribute_meaning xs)
attributes-sized [] e = tt
attributes-sized (a ∷ xs) e =
    let h = both _ _ e in
    ((text-sized 63 a.name, ltb-true 0 a.oid.0 h.0), attributes-sized xs h.1)

pub row_fits : (r : Row) → RowFits (row_meaning r)
row_fits r = record {
  pretty_fits = text-sized 128 r.pretty;
  elem_fits = linked r.typelem r.element;
  base_fits = linked r.typbasetype r.base;
  sub_fits = linked r.rngsubtype r.subtype;
  array_fits = linked r.typarray r.array;
  labels_few = simp length-map (at_most r.labels);
  labels_fit = labels-sized (standing r.labels);
  attributes_few = simp length-map (at_most r.attributes);
  attributes_fit = attributes-sized (standing r.attributes) r.typed;
}
