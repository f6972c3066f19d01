-- A book that takes in finds one after the other stands for what is new of them.
-- Assumes nothing.
use Rattle.std.proofs.Common.{◌≡◌, ℕ, zero, suc, Bool, true, false, not, ◌&&◌, if◌then◌else◌, List, [], ◌∷◌, length, nat_eq, bytes_eq, is_some, option_and_then, option_map, Some, None, Option, sym, refl, ap, ◌∙◌, subst, ⊎_elim, arith}
use Rattle.std.specs.List.{cons_option, filter_map}
use Rattle.std.proofs.lemmas.Bool.{cases_Bool}
use Rattle.std.proofs.lemmas.Bool.Decides.{Decides-eqb}
use Rattle.std.proofs.lemmas.Slice.Eq.{bytes_eq-Decides}
use Rattle.catalog.specs.Catalog.{CatalogRow}
use Rattle.catalog.specs.Shape.{Name, Shape, shape}
use Rattle.unfolding.specs.Unfolding.{Tree}
use Rattle.life.specs.Steps.{Book}
use Rattle.life.proofs.Lists.{is_none_if}
use Rattle.room.specs.Added.{new_by}
use Rattle.room.specs.Sizes.{AllFits, Sizes, first_full, sizes_of}
use Rattle.room.specs.Tables.{Tables, extended, look_up, no_tables}
use Rattle.room.proofs.Extended.{extended_assoc, extended_none}
use Rattle.room.proofs.Fitting.{first_full_law}
use Rattle.room.proofs.Order.{sizes_with}
use Rattle.book.specs.Adding.{adds_array, adds_name, with_row, with_shape}
use Rattle.book.specs.Held.{Fits, Held, has_room, size_of_array, size_of_name, sum_of, with_array, with_name}
use Rattle.book.specs.Stands.{Stands, one_array, one_name}
use Rattle.book.proofs.Stands.{stands_array, stands_name}
use Rattle.finds.specs.Keeping.{Find, array_kept, each, link_kept, name_kept, row_kept}
use Rattle.finds.proofs.News.{new_held, new_one}

abbrev pub of_descriptors : List (ℕ × Tree) → Tables
of_descriptors ds = record no_tables { descriptors = ds }

abbrev pub of_names : List (Name × ℕ) → Tables
of_names ns = record no_tables { names = ns }

abbrev pub of_arrays : List (ℕ × ℕ) → Tables
of_arrays es = record no_tables { arrays = es }

-- the capacity stays
module _ where
  pub chosen : (b : Bool) (g h : Held) → g.capacity ≡ h.capacity → (if b then g else h).capacity ≡ h.capacity
  chosen true g h e = e
  chosen false g h e = refl

  shape_capacity : (h : Held) (o : ℕ) (r : CatalogRow) (s : Option Shape) → (with_shape h o r s).capacity ≡ h.capacity
  shape_capacity h o r None = refl
  shape_capacity h o r (Some s) = refl

  pub row_capacity : (h : Held) (x : Option Find) → (row_kept h x).capacity ≡ h.capacity
  row_capacity h None = refl
  row_capacity h (Some x) = chosen _ (with_row h x.0 x.1) h (shape_capacity h x.0 x.1 (shape x.1))

  pub name_capacity : (h : Held) (x : Option Find) → (name_kept h x).capacity ≡ h.capacity
  name_capacity h None = refl
  name_capacity h (Some x) = chosen (adds_name h x.1.pretty) (with_name h x.1.pretty x.0) h refl

  pub link_capacity : (h : Held) (e : ℕ) (a : Option ℕ) → (link_kept h e a).capacity ≡ h.capacity
  link_capacity h e None = refl
  link_capacity h e (Some a) = chosen (adds_array h e) (with_array h e a) h refl

  pub array_capacity : (h : Held) (x : Option Find) → (array_kept h x).capacity ≡ h.capacity
  array_capacity h None = refl
  array_capacity h (Some x) = link_capacity h x.0 x.1.typarray

  pub each_capacity : {X : Type 0} (step : Held → X → Held) → ((h : Held) (x : X) → (step h x).capacity ≡ h.capacity) → (h : Held) (xs : List X) → (each step h xs).capacity ≡ h.capacity
  each_capacity step stays h [] = refl
  each_capacity step stays h (x ∷ xs) = each_capacity step stays (step h x) xs ∙ stays h x

-- there is room for what fits
all_fit : (capacity taken added : Sizes) → Fits (sum_of taken added) capacity → AllFits capacity taken added
all_fit capacity taken added f zero l = f.descriptors
all_fit capacity taken added f (suc zero) l = f.parts
all_fit capacity taken added f (suc (suc zero)) l = f.names
all_fit capacity taken added f (suc (suc (suc zero))) l = f.arrays
all_fit capacity taken added f (suc (suc (suc (suc zero)))) l = f.text
all_fit capacity taken added f (suc (suc (suc (suc (suc zero))))) l = f.columns
all_fit capacity taken added f (suc (suc (suc (suc (suc (suc zero)))))) l = f.relations
all_fit capacity taken added f (suc (suc (suc (suc (suc (suc (suc i))))))) l = absurd (omega arith)

pub fits_none : (capacity taken added : Sizes) → Fits (sum_of taken added) capacity → first_full capacity taken added ≡ None
fits_none capacity taken added f = (first_full_law capacity taken added).1.1 (all_fit capacity taken added f)

pub fits_room : (h : Held) (more : Sizes) → Fits (sum_of h.taken more) h.capacity → has_room h more ≡ true
fits_room h more f = ap (λ (v : Option ℕ). not (is_some v)) (fits_none h.capacity h.taken more f)

-- tables fit where they fit with more
pub fits_first : (t more : Tables) (capacity : Sizes) → Fits (sizes_of (extended t more)) capacity → Fits (sizes_of t) capacity
fits_first t more capacity f =
    let g : Fits (sum_of (sizes_of t) (sizes_of more)) capacity = subst (λ s. Fits s capacity) (sizes_with t more) f in
    record {
      descriptors = omega (arith, g.descriptors);
      parts = omega (arith, g.parts);
      names = omega (arith, g.names);
      arrays = omega (arith, g.arrays);
      text = omega (arith, g.text);
      columns = omega (arith, g.columns);
      relations = omega (arith, g.relations);
    }

-- one more of tables
module _ (h : Held) (t : Tables) (s : Stands h t) (one rest : Tables) (fits : Fits (sizes_of (extended t (extended one rest))) h.capacity) where
  pub fits_on : Fits (sizes_of (extended (extended t one) rest)) h.capacity
  fits_on = subst (λ (u : Tables). Fits (sizes_of u) h.capacity) (sym (extended_assoc t one rest)) fits

  pub one_fits : Fits (sum_of h.taken (sizes_of one)) h.capacity
  one_fits =
      subst (λ (z : Sizes). Fits z h.capacity) (sizes_with t one ∙ ap (λ (z : Sizes). sum_of z (sizes_of one)) s.sizes)
      (fits_first (extended t one) rest h.capacity fits_on)

-- the names and the array links of finds
abbrev pub names_in : List (Option Find) → List (Name × ℕ)
names_in xs = filter_map (λ x. option_map (λ (y : Find). (y.1.pretty, y.0)) x) xs

abbrev pub link_of : Find → Option (ℕ × ℕ)
link_of x = option_map (λ a. (x.0, a)) x.1.typarray

abbrev pub links_in : List (Option Find) → List (ℕ × ℕ)
links_in xs = filter_map (λ x. option_and_then link_of x) xs

pub size_one_name : (n : Name) (o : ℕ) → sizes_of (one_name n o) ≡ size_of_name n
size_one_name n o =
    let text : (sizes_of (one_name n o)).text ≡ length n = omega arith in
    λ i. record (size_of_name n) { text = text i }

-- names are taken in one after the other
module _ where
  abbrev pub named_kept : Held → Name × ℕ → Held
  named_kept h x = if adds_name h x.0 then with_name h x.0 x.1 else h

  name_left : (h : Held) (x : Name × ℕ) → is_some (h.names x.0) ≡ true → named_kept h x ≡ h
  name_left h x e = ap (λ v. if not v && has_room h (size_of_name x.0) then with_name h x.0 x.1 else h) e

  name_added : (h : Held) (x : Name × ℕ) → is_some (h.names x.0) ≡ false → has_room h (size_of_name x.0) ≡ true → named_kept h x ≡ with_name h x.0 x.1
  name_added h x e room = λ i. if not (e i) && room i then with_name h x.0 x.1 else h

  abbrev pub names_new : Tables → List (Name × ℕ) → Tables
  names_new t xs = of_names (new_by bytes_eq t.names xs)

  pub named_all : (xs : List (Name × ℕ)) (h : Held) (t : Tables) → Stands h t → Fits (sizes_of (extended t (names_new t xs))) h.capacity → Stands (each named_kept h xs) (extended t (names_new t xs))
  named_all [] h t s fits = subst (Stands h) (sym (extended_none t)) s
  named_all (x ∷ xs) h t s fits =
      ⊎_elim
      (λ y.
      let same : names_new t (x ∷ xs) ≡ names_new t xs = ap of_names (new_held bytes_eq bytes_eq-Decides t.names x xs (held_so ∙ y)) in
      let left : each named_kept h (x ∷ xs) ≡ each named_kept h xs = ap (λ (g : Held). each named_kept g xs) (name_left h x y) in
      subst (λ (g : Held). Stands g (extended t (names_new t (x ∷ xs)))) (sym left)
      (subst (λ (u : Tables). Stands (each named_kept h xs) (extended t u)) (sym same)
      (named_all xs h t s (subst (λ (u : Tables). Fits (sizes_of (extended t u)) h.capacity) same fits))))
      (λ y.
      let one = one_name x.0 x.1 in
      let next : Tables = extended t one in
      let split : names_new t (x ∷ xs) ≡ extended one (names_new next xs) =
      ap of_names (new_one bytes_eq bytes_eq-Decides t.names x xs (held_so ∙ y)) in
      let fits_so = subst (λ (u : Tables). Fits (sizes_of (extended t u)) h.capacity) split fits in
      let room = fits_room h (size_of_name x.0) (subst (λ (z : Sizes). Fits (sum_of h.taken z) h.capacity) (size_one_name x.0 x.1) (one_fits h t s one (names_new next xs) fits_so)) in
      let g : Held = with_name h x.0 x.1 in
      let put : each named_kept h (x ∷ xs) ≡ each named_kept g xs = ap (λ (k : Held). each named_kept k xs) (name_added h x y room) in
      let rest = named_all xs g next (stands_name h t s x.0 x.1 (is_none_if (h.names x.0) y)) (fits_on h t s one (names_new next xs) fits_so) in
      subst (λ (k : Held). Stands k (extended t (names_new t (x ∷ xs)))) (sym put)
      (subst (Stands (each named_kept g xs)) (extended_assoc t one (names_new next xs) ∙ ap (extended t) (sym split)) rest))
      (cases_Bool (is_some (h.names x.0)))
    where
      held_so : is_some (look_up bytes_eq t.names x.0) ≡ is_some (h.names x.0)
      held_so = ap (λ (b : Book). is_some (b.names x.0)) s.book

  -- those of finds among them
  abbrev pub new_names : Tables → List (Option Find) → Tables
  new_names t xs = names_new t (names_in xs)

  each_name : (xs : List (Option Find)) (h : Held) → each name_kept h xs ≡ each named_kept h (names_in xs)
  each_name [] h = refl
  each_name (None ∷ xs) h = each_name xs h
  each_name (Some x ∷ xs) h = each_name xs (name_kept h (Some x))

  pub names_kept : (xs : List (Option Find)) (h : Held) (t : Tables) → Stands h t → Fits (sizes_of (extended t (new_names t xs))) h.capacity → Stands (each name_kept h xs) (extended t (new_names t xs))
  names_kept xs h t s fits = subst (λ (g : Held). Stands g (extended t (new_names t xs))) (sym (each_name xs h)) (named_all (names_in xs) h t s fits)

-- and so are array links
module _ where
  link_left : (h : Held) (e a : ℕ) → is_some (h.arrays e) ≡ true → link_kept h e (Some a) ≡ h
  link_left h e a y = ap (λ v. if not v && has_room h size_of_array then with_array h e a else h) y

  link_added : (h : Held) (e a : ℕ) → is_some (h.arrays e) ≡ false → has_room h size_of_array ≡ true → link_kept h e (Some a) ≡ with_array h e a
  link_added h e a y room = λ i. if not (y i) && room i then with_array h e a else h

  abbrev pub new_links : Tables → List (ℕ × ℕ) → Tables
  new_links t xs = of_arrays (new_by nat_eq t.arrays xs)

  abbrev pub links_kept_in : Held → List (ℕ × ℕ) → Held
  links_kept_in h xs = each (λ (k : Held) (x : ℕ × ℕ). link_kept k x.0 (Some x.1)) h xs

  by_link : (xs : List (Option Find)) (e : ℕ) → ((h : Held) → each array_kept h xs ≡ links_kept_in h (links_in xs)) → (a : Option ℕ) (h : Held) →
      each array_kept (link_kept h e a) xs ≡ links_kept_in h (cons_option (option_map (λ v. (e, v)) a) (links_in xs))
  by_link xs e rest None h = rest h
  by_link xs e rest (Some a) h = rest (link_kept h e (Some a))

  pub each_link : (xs : List (Option Find)) (h : Held) → each array_kept h xs ≡ links_kept_in h (links_in xs)
  each_link [] h = refl
  each_link (None ∷ xs) h = each_link xs h
  each_link (Some x ∷ xs) h = by_link xs x.0 (each_link xs) x.1.typarray h

  pub links_kept : (xs : List (ℕ × ℕ)) (h : Held) (t : Tables) → Stands h t → Fits (sizes_of (extended t (new_links t xs))) h.capacity → Stands (links_kept_in h xs) (extended t (new_links t xs))
  links_kept [] h t s fits = subst (Stands h) (sym (extended_none t)) s
  links_kept (x ∷ xs) h t s fits =
      ⊎_elim
      (λ y.
      let same : new_links t (x ∷ xs) ≡ new_links t xs = ap of_arrays (new_held nat_eq Decides-eqb t.arrays x xs (held_so ∙ y)) in
      let left : links_kept_in h (x ∷ xs) ≡ links_kept_in h xs = ap (λ (g : Held). links_kept_in g xs) (link_left h x.0 x.1 y) in
      subst (λ (g : Held). Stands g (extended t (new_links t (x ∷ xs)))) (sym left)
      (subst (λ (u : Tables). Stands (links_kept_in h xs) (extended t u)) (sym same)
      (links_kept xs h t s (subst (λ (u : Tables). Fits (sizes_of (extended t u)) h.capacity) same fits))))
      (λ y.
      let one = one_array x.0 x.1 in
      let next : Tables = extended t one in
      let split : new_links t (x ∷ xs) ≡ extended one (new_links next xs) =
      ap of_arrays (new_one nat_eq Decides-eqb t.arrays x xs (held_so ∙ y)) in
      let fits_so = subst (λ (u : Tables). Fits (sizes_of (extended t u)) h.capacity) split fits in
      let room = fits_room h size_of_array (one_fits h t s one (new_links next xs) fits_so) in
      let g : Held = with_array h x.0 x.1 in
      let put : links_kept_in h (x ∷ xs) ≡ links_kept_in g xs = ap (λ (k : Held). links_kept_in k xs) (link_added h x.0 x.1 y room) in
      let rest = links_kept xs g next (stands_array h t s x.0 x.1 (is_none_if (h.arrays x.0) y)) (fits_on h t s one (new_links next xs) fits_so) in
      subst (λ (k : Held). Stands k (extended t (new_links t (x ∷ xs)))) (sym put)
      (subst (Stands (links_kept_in g xs)) (extended_assoc t one (new_links next xs) ∙ ap (extended t) (sym split)) rest))
      (cases_Bool (is_some (h.arrays x.0)))
    where
      held_so : is_some (look_up nat_eq t.arrays x.0) ≡ is_some (h.arrays x.0)
      held_so = ap (λ (b : Book). is_some (b.arrays x.0)) s.book
