-- A book that takes in what a step found stands for what the law adds.
-- Assumes nothing.
use Rattle.std.proofs.Common.{◌≡◌, ℕ, ◌+◌, ◌↔◌, ◌||◌, true, List, [], ◌++◌, map, nat_eq, bytes_eq, is_some, None, Option, sym, refl, ap, ◌∙◌, subst, arith, append-nil, take, length}
use Rattle.std.specs.Option.{option_or}
use Rattle.std.proofs.lemmas.Bool.Decides.{Decides-eqb}
use Rattle.std.proofs.lemmas.List.Sorted.{IsPermutation-refl}
use Rattle.std.proofs.lemmas.Slice.Eq.{bytes_eq-Decides}
use Rattle.std.specs.List.Sorted.{IsPermutation}
use Rattle.catalog.specs.Catalog.{Catalog, Laws}
use Rattle.catalog.specs.Shape.{Name}
use Rattle.unfolding.specs.Lists.{Mem}
use Rattle.unfolding.specs.Unfolding.{Tree}
use Rattle.life.specs.Calls.{Call, array_link, fill}
use Rattle.life.specs.InTurn.{InTurn}
use Rattle.life.specs.Keep.{if_settled}
use Rattle.life.specs.Lists.{is_in}
use Rattle.life.specs.Rounds.{Descriptors}
use Rattle.life.specs.Settle.{pass, settled}
use Rattle.life.specs.Steps.{Book}
use Rattle.life.proofs.InTurn.{in_turn_described, in_turn_none, in_turn_once, in_turn_unknown}
use Rattle.life.proofs.Lists.{in_mem, none_not_some}
use Rattle.room.specs.Added.{Once, declared_names, new_by, types_added, with_types, with_values}
use Rattle.room.specs.Order.{Alike}
use Rattle.room.specs.Sizes.{Sizes, first_full, name_of, sizes_of}
use Rattle.room.specs.Tables.{Tables, contents, extended, look_up}
use Rattle.room.proofs.Additions.{map_mem, mem_map}
use Rattle.room.proofs.LookUp.{look_append, values_mem}
use Rattle.room.proofs.Order.{sizes_with, sums}
use Rattle.room.proofs.Permuted.{Permuted, once_distinct, permuted_sizes, same_members}
use Rattle.book.specs.Held.{Fits, Held, sum_of}
use Rattle.book.specs.Stands.{Stands}
use Rattle.book.proofs.Alike.{alike_stands}
use Rattle.book.proofs.Room.{fits_then}
use Rattle.finds.specs.declared.tables.Finds.{Finds}
use Rattle.finds.specs.Finds.{ReadFrom, order_of, queue_of, reads_of, rows_of}
use Rattle.finds.specs.Keeping.{SettledBy, array_kept, array_size, each, name_kept, row_kept, settled_size, size_of_all, size_of_finds, with_finds}
use Rattle.finds.proofs.Counted.{links_size, names_size, rows_size, settled_sizes}
use Rattle.finds.proofs.Gathering.{each_capacity, each_link, fits_first, links_in, links_kept, name_capacity, names_in, names_kept, new_links, new_names, of_arrays, of_descriptors, of_names, row_capacity}
use Rattle.finds.proofs.InBook.{rows_kept}
use Rattle.finds.proofs.News.{look_alike, new_alone, new_members}
use Rattle.finds.proofs.Told.{by_row, distinct_take, links_so, mem_values, names_once, names_so, read_found, settled_found, values_once}

abbrev all_of : List (ℕ × Tree) → List (Name × ℕ) → List (ℕ × ℕ) → Tables
all_of ds ns es = record { descriptors = ds; names = ns; arrays = es; columns = []; relations = [] }

sizes_all : (ds : List (ℕ × Tree)) (ns : List (Name × ℕ)) (es : List (ℕ × ℕ)) →
    sum_of (sum_of (sizes_of (of_descriptors ds)) (sizes_of (of_names ns))) (sizes_of (of_arrays es)) ≡ sizes_of (all_of ds ns es)
sizes_all ds ns es =
    let one = sizes_of (of_descriptors ds) in
    let two = sizes_of (of_names ns) in
    let three = sizes_of (of_arrays es) in
    let all = sizes_of (all_of ds ns es) in
    let descriptors : (one.descriptors + two.descriptors) + three.descriptors ≡ all.descriptors = omega arith in
    let parts : (one.parts + two.parts) + three.parts ≡ all.parts = omega arith in
    let names : (one.names + two.names) + three.names ≡ all.names = omega arith in
    let arrays : (one.arrays + two.arrays) + three.arrays ≡ all.arrays = omega arith in
    let text : (one.text + two.text) + three.text ≡ all.text = omega arith in
    λ i. record { descriptors = descriptors i; parts = parts i; names = names i; arrays = arrays i; text = text i; columns = 0; relations = 0 }

module _ (c : Catalog) (laws : Laws c) (f : Finds) (from : ReadFrom c f) (t : Tables) (k : SettledBy c (contents t).descriptors f) where
  abbrev b : Descriptors
  b = (contents t).descriptors

  abbrev order : List ℕ
  order = order_of f

  abbrev reads : List ℕ
  reads = reads_of f

  abbrev d : Descriptors
  d = pass c b order

  abbrev name_in : ℕ × Tree → Name
  name_in x = name_of x.1

  abbrev lead : Name → Option ℕ
  lead n = if_settled d (c.named n)

  abbrev link : ℕ → Option ℕ
  link e = array_link (c.rows e)

  -- what the finds add, in their order, and what the law adds
  abbrev ds : List (ℕ × Tree)
  ds = with_values d order

  abbrev law_ds : List (ℕ × Tree)
  law_ds = new_by nat_eq t.descriptors (with_values d reads)

  abbrev pub found : Tables
  found = all_of ds (new_by bytes_eq t.names (names_in (map (by_row c) order))) (new_by nat_eq t.arrays (links_in (map (by_row c) reads)))

  abbrev by_law : Tables
  by_law = all_of law_ds (new_by bytes_eq t.names (with_values lead (map name_in law_ds))) (new_by nat_eq t.arrays (with_values link reads))

  law_so : (call : Call) → declared_names call ≡ [] → types_added c t call reads [] ≡ by_law
  law_so call none =
      let trees : Descriptors → List (ℕ × Tree) = λ e. new_by nat_eq t.descriptors (with_values e reads) in
      (λ i. let e : Descriptors = sym k.settles i in all_of (trees e) (new_by bytes_eq t.names (with_values (λ n. if_settled e (c.named n)) (map name_in (trees e) ++ none i))) (new_by nat_eq t.arrays (with_values link (reads ++ []))))
      ∙ (λ i. all_of law_ds (new_by bytes_eq t.names (with_values lead (append-nil (map name_in law_ds) i))) (new_by nat_eq t.arrays (with_values link (append-nil reads i))))

  ds_once : Once ds
  ds_once = values_once nat_eq Decides-eqb d order (in_turn_once c b order k.turn)

  same_ds : (x : ℕ × Tree) → Mem x ds ↔ Mem x law_ds
  same_ds x = (
    λ m.
        let v = values_mem nat_eq Decides-eqb d order x m in
        (new_members nat_eq Decides-eqb t.descriptors d reads x).1 ((in_turn_unknown c b order k.turn x.0 v.0).1, k.among x.0 v.0, v.1),
    λ m.
        let v = (new_members nat_eq Decides-eqb t.descriptors d reads x).0 m in
        let here : is_in x.0 order ≡ true = ap (λ y. y || is_in x.0 order) (sym (none_not_some (b x.0) v.0)) ∙ sym (in_turn_described c b order k.turn x.0) ∙ ap is_some v.2 in
        mem_values nat_eq Decides-eqb d order x.0 x.1 (in_mem x.0 order here) v.2,
  )

  names_found : names_in (map (by_row c) order) ≡ with_values lead (map name_in ds)
  names_found = names_so c b order k.turn laws order (λ o m. m)

  same_keys : (n : Name) → Mem n (map name_in ds) ↔ Mem n (map name_in law_ds)
  same_keys n = (
    λ m. let x = map_mem name_in ds n m in subst (λ v. Mem v (map name_in law_ds)) (sym x.2) (mem_map name_in law_ds x.0 ((same_ds x.0).0 x.1)),
    λ m. let x = map_mem name_in law_ds n m in subst (λ v. Mem v (map name_in ds)) (sym x.2) (mem_map name_in ds x.0 ((same_ds x.0).1 x.1)),
  )

  same_named : (x : Name × ℕ) → Mem x (new_by bytes_eq t.names (with_values lead (map name_in ds))) ↔ Mem x by_law.names
  same_named x = (
    λ m.
        let v = (new_members bytes_eq bytes_eq-Decides t.names lead (map name_in ds) x).0 m in
        (new_members bytes_eq bytes_eq-Decides t.names lead (map name_in law_ds) x).1 (v.0, (same_keys x.0).0 v.1, v.2),
    λ m.
        let v = (new_members bytes_eq bytes_eq-Decides t.names lead (map name_in law_ds) x).0 m in
        (new_members bytes_eq bytes_eq-Decides t.names lead (map name_in ds) x).1 (v.0, (same_keys x.0).1 v.1, v.2),
  )

  same_names : (x : Name × ℕ) → Mem x found.names ↔ Mem x by_law.names
  same_names x = subst (λ l. Mem x (new_by bytes_eq t.names l) ↔ Mem x by_law.names) (sym names_found) (same_named x)

  -- so they lead to the same
  pub names_looked : (n : Name) → look_up bytes_eq (types_added c t (fill []) reads []).names n ≡ look_up bytes_eq (new_by bytes_eq t.names (names_in (map (by_row c) order))) n
  names_looked n =
      ap (λ (u : Tables). look_up bytes_eq u.names n) (law_so (fill []) refl)
      ∙ sym (look_alike bytes_eq bytes_eq-Decides found.names by_law.names (new_alone bytes_eq bytes_eq-Decides _ t.names) (new_alone bytes_eq bytes_eq-Decides _ t.names) same_names n)

  same_arrays : found.arrays ≡ by_law.arrays
  same_arrays = ap (new_by nat_eq t.arrays) (links_so c reads)

  permuted : Permuted found by_law
  permuted = record {
    descriptors =
        same_members ds law_ds (once_distinct nat_eq Decides-eqb ds ds_once) (once_distinct nat_eq Decides-eqb law_ds (new_alone nat_eq Decides-eqb (with_values d reads) t.descriptors)) same_ds;
    names =
        same_members found.names by_law.names (once_distinct bytes_eq bytes_eq-Decides found.names (new_alone bytes_eq bytes_eq-Decides _ t.names))
        (once_distinct bytes_eq bytes_eq-Decides by_law.names (new_alone bytes_eq bytes_eq-Decides _ t.names)) same_names;
    arrays = subst (IsPermutation found.arrays) same_arrays (IsPermutation-refl found.arrays);
    columns = IsPermutation-refl [];
    relations = IsPermutation-refl [];
  }

  alike : Alike (extended t found) (extended t by_law)
  alike = record {
    book = λ i. record {
      descriptors = λ o.
          (look_append nat_eq Decides-eqb t.descriptors ds o
          ∙ ap (option_or (look_up nat_eq t.descriptors o)) (look_alike nat_eq Decides-eqb ds law_ds ds_once (new_alone nat_eq Decides-eqb (with_values d reads) t.descriptors) same_ds o)
          ∙ sym (look_append nat_eq Decides-eqb t.descriptors law_ds o)) i;
      names = λ n.
          (look_append bytes_eq bytes_eq-Decides t.names found.names n
          ∙ ap (option_or (look_up bytes_eq t.names n))
          (look_alike bytes_eq bytes_eq-Decides found.names by_law.names (new_alone bytes_eq bytes_eq-Decides _ t.names) (new_alone bytes_eq bytes_eq-Decides _ t.names) same_names n)
          ∙ sym (look_append bytes_eq bytes_eq-Decides t.names by_law.names n)) i;
      arrays = look_up nat_eq (t.arrays ++ same_arrays i);
      columns = (contents (extended t found)).columns;
    };
    sizes = sizes_with t found ∙ ap (sums (sizes_of t)) (permuted_sizes found by_law permuted) ∙ sym (sizes_with t by_law);
  }

  -- what is taken
  module _ (h : Held) (s : Stands h t) where
    reads_once : Once (links_in (map (by_row c) reads))
    reads_once = subst (λ l. Once l) (sym (links_so c reads)) (values_once nat_eq Decides-eqb link reads (distinct_take _ (queue_of f) f.queued.once))

    size_found : size_of_finds h f ≡ sizes_of found
    size_found =
        (λ i. sum_of (size_of_all (settled_size h) (settled_found c f from i)) (size_of_all (array_size h) (read_found c f from i)))
        ∙ (λ i. sum_of (settled_sizes h (map (by_row c) order) i) (links_size h t (ap (λ (z : Book). z.arrays) s.book) (map (by_row c) reads) reads_once i))
        ∙ (λ i.
        sum_of
        (sum_of
        (rows_size c b order k.turn order (λ o m. m) i)
        (names_size h t (ap (λ (z : Book). z.names) s.book) (map (by_row c) order) (names_once c laws order (in_turn_once c b order k.turn)) i))
        (sizes_of (of_arrays found.arrays)))
        ∙ sizes_all ds found.names found.arrays

    pub size_added : (call : Call) → declared_names call ≡ [] → size_of_finds h f ≡ sizes_of (types_added c t call reads [])
    size_added call none = size_found ∙ permuted_sizes found by_law permuted ∙ ap sizes_of (sym (law_so call none))

    -- and what the book stands for then
    abbrev first : Held
    first = each row_kept h (map (by_row c) order)

    abbrev second : Held
    second = each name_kept first (map (by_row c) order)

    abbrev t_one : Tables
    t_one = extended t (of_descriptors ds)

    abbrev t_two : Tables
    t_two = extended t_one (new_names t_one (map (by_row c) order))

    abbrev links : List (ℕ × ℕ)
    links = links_in (map (by_row c) reads)

    abbrev t_three : Tables
    t_three = extended t_two (new_links t_two links)

    in_one : t_three ≡ extended t found
    in_one =
        let ns = names_in (map (by_row c) order) in
        let no_names = append-nil t.names in
        let no_arrays : (t.arrays ++ []) ++ [] ≡ t.arrays = append-nil (t.arrays ++ []) ∙ append-nil t.arrays in
        let descriptors : ((t.descriptors ++ ds) ++ []) ++ [] ≡ t.descriptors ++ ds = append-nil ((t.descriptors ++ ds) ++ []) ∙ append-nil (t.descriptors ++ ds) in
        let names : ((t.names ++ []) ++ new_by bytes_eq (t.names ++ []) ns) ++ [] ≡ t.names ++ new_by bytes_eq t.names ns =
        append-nil ((t.names ++ []) ++ new_by bytes_eq (t.names ++ []) ns) ∙ ap (λ l. l ++ new_by bytes_eq l ns) no_names in
        λ i. record {
          descriptors = descriptors i;
          names = names i;
          arrays = no_arrays i ++ new_by nat_eq (no_arrays i) links;
          columns = (append-nil ((t.columns ++ []) ++ []) ∙ append-nil (t.columns ++ [])) i;
          relations = (append-nil ((t.relations ++ []) ++ []) ∙ append-nil (t.relations ++ [])) i;
        }

    module _ (fits : Fits (sizes_of (extended t found)) h.capacity) where
      fits_three : Fits (sizes_of t_three) h.capacity
      fits_three = subst (λ (u : Tables). Fits (sizes_of u) h.capacity) (sym in_one) fits

      fits_two : Fits (sizes_of t_two) h.capacity
      fits_two = fits_first t_two (new_links t_two links) h.capacity fits_three

      fits_one : Fits (sizes_of t_one) h.capacity
      fits_one = fits_first t_one (new_names t_one (map (by_row c) order)) h.capacity fits_two

      first_capacity : first.capacity ≡ h.capacity
      first_capacity = each_capacity row_kept row_capacity h (map (by_row c) order)

      second_capacity : second.capacity ≡ h.capacity
      second_capacity = each_capacity name_kept name_capacity first (map (by_row c) order) ∙ first_capacity

      stands_one : Stands first t_one
      stands_one = rows_kept c b order k.turn order [] refl (in_turn_none c b) k.turn (λ o m. m) h t s (sym (ap (λ (z : Book). z.descriptors) s.book)) fits_one

      stands_two : Stands second t_two
      stands_two = names_kept (map (by_row c) order) first t_one stands_one (subst (Fits (sizes_of t_two)) (sym first_capacity) fits_two)

      stands_three : Stands (each array_kept second (map (by_row c) reads)) t_three
      stands_three =
          subst (λ (g : Held). Stands g t_three) (sym (each_link (map (by_row c) reads) second))
          (links_kept links second t_two stands_two (subst (Fits (sizes_of t_three)) (sym second_capacity) fits_three))

      found_so : with_finds h f ≡ each array_kept second (map (by_row c) reads)
      found_so = λ i. each array_kept (each name_kept (each row_kept h (settled_found c f from i)) (settled_found c f from i)) (read_found c f from i)

      stands_found : Stands (with_finds h f) (extended t found)
      stands_found = subst (λ (g : Held). Stands g (extended t found)) (sym found_so) (subst (Stands (each array_kept second (map (by_row c) reads))) in_one stands_three)

    pub finds_stand : (call : Call) → declared_names call ≡ [] → first_full h.capacity h.taken (sizes_of (types_added c t call reads [])) ≡ None →
        Stands (with_finds h f) (with_types c t call reads [])
    finds_stand call none room =
        let taken : sum_of h.taken (sizes_of (types_added c t call reads [])) ≡ sizes_of (extended t found) =
        (λ i. sum_of (sym s.sizes i) ((sym (size_added call none) ∙ size_found) i)) ∙ sym (sizes_with t found) in
        let fits = subst (λ (z : Sizes). Fits z h.capacity) taken (fits_then h.capacity h.taken (sizes_of (types_added c t call reads [])) room) in
        subst (λ (u : Tables). Stands (with_finds h f) (extended t u)) (sym (law_so call none))
        (alike_stands (with_finds h f) (extended t found) (extended t by_law) (stands_found fits) alike refl)

-- settling leaves finds that are settled so
pub settled_by : (c : Catalog) (b : Descriptors) (f g : Finds) → queue_of g ≡ queue_of f → rows_of g ≡ rows_of f →
    ((o : ℕ) → Mem o (order_of g) → Mem o (reads_of f)) → InTurn c b (order_of g) → pass c b (order_of g) ≡ settled c b (reads_of f) → SettledBy c b g
settled_by c b f g queue rows among turn settles =
    let reads : reads_of f ≡ reads_of g = sym (λ i. take (length (rows i)) (queue i)) in
    record { among = λ o m. subst (Mem o) reads (among o m); turn = turn; settles = settles ∙ ap (settled c b) reads }
