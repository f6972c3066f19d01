-- A bind that may not ask the catalog.
-- Assumes nothing.
use Rattle.std.proofs.Common.{◌≡◌, ℕ, Bool, true, false, List, [], Some, None, Option, if◌then◌else◌, not, is_some, sym, refl, ap, ◌∙◌, subst, arith}
use Rattle.catalog.specs.Catalog.{Catalog}
use Rattle.life.specs.Bind.{types_settled}
use Rattle.life.specs.Calls.{Binding, bind}
use Rattle.life.specs.Outcomes.{if_fits}
use Rattle.life.specs.Steps.{Ending, accepted, accepts, keeps_finds}
use Rattle.room.specs.Room.{columns_full, limited, new_columns, tables_left, typed, types_full}
use Rattle.room.specs.Sizes.{Sizes, first_full}
use Rattle.room.specs.Tables.{Tables, contents, extended, no_tables}
use Rattle.room.proofs.Extended.{extended_none}
use Rattle.requests.specs.declared.asked.FieldAsked.{FieldAsked}
use Rattle.book.specs.Held.{Fits, Held, no_sizes, sum_of}
use Rattle.book.specs.Stands.{Stands}
use Rattle.finds.proofs.Gathering.{fits_room}
use Rattle.binding.specs.Whole.{binding_asked}

-- nothing more fits
fits_alone : (taken capacity : Sizes) → Fits taken capacity → Fits (sum_of taken no_sizes) capacity
fits_alone taken capacity f = record {
  descriptors = omega (arith, f.descriptors);
  parts = omega (arith, f.parts);
  names = omega (arith, f.names);
  arrays = omega (arith, f.arrays);
  text = omega (arith, f.text);
  columns = omega (arith, f.columns);
  relations = omega (arith, f.relations);
}

room_so : (x : Option ℕ) → not (is_some x) ≡ true → x ≡ None
room_so None e = refl
room_so (Some i) e = absurd cc

module _ (c : Catalog) (h : Held) (t : Tables) (parameters : List ℕ) (fields : List FieldAsked) (origins : Bool) (s : Stands h t) (fits : Fits h.taken h.capacity) where
  abbrev q : Binding
  q = binding_asked parameters fields false origins

  abbrev full : Option ℕ
  full = types_full h.capacity c t (bind q)

  -- by how it ended
  abbrev left_by : Ending → Tables
  left_by e = if accepts e then extended (typed h.capacity c t (bind q)) (new_columns h.capacity c t (bind q)) else if keeps_finds e then typed h.capacity c t (bind q) else t

  full_so : full ≡ None
  full_so = ap (λ z. first_full h.capacity z no_sizes) s.sizes ∙ room_so _ (fits_room h no_sizes (fits_alone h.taken h.capacity fits))

  pub quiet_ends : accepted 0 0 ≡ (limited h.capacity c t (bind q)).ending
  quiet_ends =
      sym (ap (λ f. (if_fits f (types_settled (λ _. full) (λ _. columns_full h.capacity c t (bind q)) c (contents t) q 0 [] None) (contents t) 0).ending) full_so)

  pub quiet_left : Stands h (tables_left h.capacity c t (bind q))
  quiet_left =
      let left : tables_left h.capacity c t (bind q) ≡ extended (extended t no_tables) no_tables = ap left_by (sym quiet_ends) in
      subst (Stands h) (sym (left ∙ extended_none (extended t no_tables) ∙ extended_none t)) s
