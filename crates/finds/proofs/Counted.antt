-- What finds take beyond what a book holds is the size of what is new of them.
-- Assumes nothing.
use Rattle.std.proofs.Common.{◌≡◌, ℕ, ◌+◌, if◌then◌else◌, List, [], ◌∷◌, map, nat_eq, bytes_eq, is_some, option_map, Some, None, Option, sym, refl, ap, ◌∙◌, inl, inr, ⊎_elim, arith}
use Rattle.std.specs.List.{cons_option}
use Rattle.std.proofs.lemmas.Bool.{cases_Bool}
use Rattle.std.proofs.lemmas.Bool.Decides.{Decides-eqb}
use Rattle.std.proofs.lemmas.Slice.Eq.{bytes_eq-Decides}
use Rattle.catalog.specs.Catalog.{Catalog}
use Rattle.catalog.specs.Shape.{Name}
use Rattle.unfolding.specs.Lists.{Mem}
use Rattle.unfolding.specs.Unfolding.{Tree, node}
use Rattle.life.specs.InTurn.{InTurn}
use Rattle.life.specs.Rounds.{Descriptors}
use Rattle.life.specs.Settle.{pass}
use Rattle.room.specs.Added.{Once, new_by, with_values}
use Rattle.room.specs.Sizes.{Sizes, sizes_of}
use Rattle.room.specs.Tables.{Tables, look_up}
use Rattle.room.proofs.Order.{sizes_with}
use Rattle.book.specs.Adding.{size_if}
use Rattle.book.specs.Held.{Held, no_sizes, size_of_array, size_of_name, sum_of}
use Rattle.book.specs.Stands.{one_array, one_descriptor, one_name}
use Rattle.finds.specs.Keeping.{Find, array_size, name_size, new_link_size, row_size, settled_size, size_of_all}
use Rattle.finds.proofs.Gathering.{link_of, links_in, names_in, of_arrays, of_descriptors, of_names, size_one_name}
use Rattle.finds.proofs.InBook.{size_one_descriptor}
use Rattle.finds.proofs.News.{new_apart, new_held}
use Rattle.finds.proofs.Steps.{none_sum}
use Rattle.finds.proofs.Told.{by_row, told}

-- sums of sums
sums_swap : (a b x y : Sizes) → sum_of (sum_of a b) (sum_of x y) ≡ sum_of (sum_of a x) (sum_of b y)
sums_swap a b x y =
    let swap : (k l m n : ℕ) → (k + l) + (m + n) ≡ (k + m) + (l + n) = λ k l m n. omega arith in
    λ i. record {
      descriptors = swap a.descriptors b.descriptors x.descriptors y.descriptors i;
      parts = swap a.parts b.parts x.parts y.parts i;
      names = swap a.names b.names x.names y.names i;
      arrays = swap a.arrays b.arrays x.arrays y.arrays i;
      text = swap a.text b.text x.text y.text i;
      columns = swap a.columns b.columns x.columns y.columns i;
      relations = swap a.relations b.relations x.relations y.relations i;
    }

pub settled_sizes : (h : Held) (xs : List (Option Find)) → size_of_all (settled_size h) xs ≡ sum_of (size_of_all row_size xs) (size_of_all (name_size h) xs)
settled_sizes h [] = refl
settled_sizes h (x ∷ xs) =
    ap (sum_of (settled_size h x)) (settled_sizes h xs)
    ∙ sums_swap (row_size x) (name_size h x) (size_of_all row_size xs) (size_of_all (name_size h) xs)

-- the descriptors
module _ (c : Catalog) (b : Descriptors) (order : List ℕ) (turn : InTurn c b order) where
  pub rows_size : (os : List ℕ) → ((o : ℕ) → Mem o os → Mem o order) →
      size_of_all row_size (map (by_row c) os) ≡ sizes_of (of_descriptors (with_values (pass c b order) os))
  rows_size [] sub = refl
  rows_size (o ∷ os) sub =
      let d = pass c b order in
      let w = told c b order turn o (sub o (inl refl)) in
      let u : Tree = node o w.shp.name w.shp.head w.trees in
      let rest : Tables = of_descriptors (with_values d os) in
      let here : row_size (by_row c o) ≡ sizes_of (one_descriptor o u) =
      ap row_size (ap (option_map (λ r. (o, r))) w.there) ∙ ap size_if w.shaped ∙ sym (size_one_descriptor o w.shp w.trees) in
      (λ i. sum_of (here i) (rows_size os (λ p m. sub p (inr m)) i))
      ∙ sym (sizes_with (one_descriptor o u) rest)
      ∙ sym (λ i. sizes_of (of_descriptors (cons_option (option_map (λ v. (o, v)) (w.tree i)) (with_values d os))))

-- the names
module _ (h : Held) (t : Tables) (same : look_up bytes_eq t.names ≡ h.names) where
  abbrev names_then : List (Option Find) → Tables
  names_then xs = of_names (new_by bytes_eq t.names (names_in xs))

  pub names_size : (xs : List (Option Find)) → Once (names_in xs) → size_of_all (name_size h) xs ≡ sizes_of (names_then xs)
  names_size [] once = refl
  names_size (None ∷ xs) once = none_sum (size_of_all (name_size h) xs) ∙ names_size xs once
  names_size (Some x ∷ xs) once =
      let n = x.1.pretty in
      let rest = names_size xs once.1 in
      let held_so : is_some (look_up bytes_eq t.names n) ≡ is_some (h.names n) = ap (λ (g : Name → Option ℕ). is_some (g n)) same in
      ⊎_elim
      (λ y.
      ap (λ v. sum_of (if v then no_sizes else size_of_name n) (size_of_all (name_size h) xs)) y
      ∙ none_sum (size_of_all (name_size h) xs)
      ∙ rest
      ∙ ap (λ l. sizes_of (of_names l)) (sym (new_held bytes_eq bytes_eq-Decides t.names (n, x.0) (names_in xs) (held_so ∙ y))))
      (λ y.
      ap (λ v. sum_of (if v then no_sizes else size_of_name n) (size_of_all (name_size h) xs)) y
      ∙ (λ i. sum_of (sym (size_one_name n x.0) i) (rest i))
      ∙ sym (sizes_with (one_name n x.0) (names_then xs))
      ∙ ap (λ l. sizes_of (of_names l)) (sym (new_apart bytes_eq bytes_eq-Decides t.names (n, x.0) (names_in xs) (held_so ∙ y) once.0)))
      (cases_Bool (is_some (h.names n)))

-- the array links
module _ (h : Held) (t : Tables) (same : look_up nat_eq t.arrays ≡ h.arrays) where
  abbrev links_then : List (ℕ × ℕ) → Tables
  links_then xs = of_arrays (new_by nat_eq t.arrays xs)

  abbrev LinksSize : List (Option Find) → Type 0
  LinksSize xs = size_of_all (array_size h) xs ≡ sizes_of (links_then (links_in xs))

  link_size : (xs : List (Option Find)) (e : ℕ) → LinksSize xs → (a : Option ℕ) → Once (cons_option (option_map (λ v. (e, v)) a) (links_in xs)) →
      sum_of (new_link_size h e a) (size_of_all (array_size h) xs) ≡ sizes_of (links_then (cons_option (option_map (λ v. (e, v)) a) (links_in xs)))
  link_size xs e rest None once = none_sum (size_of_all (array_size h) xs) ∙ rest
  link_size xs e rest (Some a) once =
      let held_so : is_some (look_up nat_eq t.arrays e) ≡ is_some (h.arrays e) = ap (λ (g : ℕ → Option ℕ). is_some (g e)) same in
      ⊎_elim
      (λ y.
      ap (λ v. sum_of (if v then no_sizes else size_of_array) (size_of_all (array_size h) xs)) y
      ∙ none_sum (size_of_all (array_size h) xs)
      ∙ rest
      ∙ ap (λ l. sizes_of (of_arrays l)) (sym (new_held nat_eq Decides-eqb t.arrays (e, a) (links_in xs) (held_so ∙ y))))
      (λ y.
      ap (λ v. sum_of (if v then no_sizes else size_of_array) (size_of_all (array_size h) xs)) y
      ∙ ap (sum_of size_of_array) rest
      ∙ sym (sizes_with (one_array e a) (links_then (links_in xs)))
      ∙ ap (λ l. sizes_of (of_arrays l)) (sym (new_apart nat_eq Decides-eqb t.arrays (e, a) (links_in xs) (held_so ∙ y) once.0)))
      (cases_Bool (is_some (h.arrays e)))

  later_once : (x : Option (ℕ × ℕ)) (xs : List (ℕ × ℕ)) → Once (cons_option x xs) → Once xs
  later_once None xs once = once
  later_once (Some x) xs once = once.1

  pub links_size : (xs : List (Option Find)) → Once (links_in xs) → LinksSize xs
  links_size [] once = refl
  links_size (None ∷ xs) once = none_sum (size_of_all (array_size h) xs) ∙ links_size xs once
  links_size (Some x ∷ xs) once = link_size xs x.0 (links_size xs (later_once (link_of x) (links_in xs) once)) x.1.typarray once
