-- What a step found, once it is in the book, is what the law adds, and takes as much.
-- Assumes nothing.
use Rattle.std.proofs.Common.{◌≡◌, ℕ, ◌+◌, true, false, not, ◌&&◌, ◌||◌, if◌then◌else◌, List, [], ◌∷◌, ◌++◌, length, map, is_some, option_map, option_and_then, Some, sym, refl, ap, ◌∙◌, subst, inl, inr, arith, append_assoc}
use Rattle.std.specs.List.{cons_option, list_all}
use Rattle.std.proofs.Math.Bool.{or_assoc}
use Rattle.catalog.specs.Catalog.{Catalog}
use Rattle.catalog.specs.Shape.{Shape, formed}
use Rattle.unfolding.specs.Lists.{Mem}
use Rattle.unfolding.specs.Unfolding.{Tree, Trees, built_in, node}
use Rattle.life.specs.InTurn.{InTurn, InTurnAfter, known_so, ready_shape}
use Rattle.life.specs.Lists.{is_in}
use Rattle.life.specs.Rounds.{Descriptors}
use Rattle.life.specs.Settle.{made, made_of, pass, put}
use Rattle.life.specs.Walk.{answered}
use Rattle.life.proofs.InTurn.{in_turn_described, in_turn_more, in_turn_put, in_turn_trees}
use Rattle.life.proofs.Lists.{same_some}
use Rattle.room.specs.Added.{with_values}
use Rattle.room.specs.Sizes.{Sizes, bytes, part_names, sizes_of, text_bytes}
use Rattle.room.specs.Tables.{Tables, extended}
use Rattle.room.proofs.Extended.{extended_assoc, extended_none}
use Rattle.book.specs.Adding.{is_known, settles_so, size_of_shape, with_row}
use Rattle.book.specs.Held.{Fits, Held, book_held, has_room, sum_of}
use Rattle.book.specs.Stands.{Stands, one_descriptor}
use Rattle.book.proofs.Described.{known_answered}
use Rattle.book.proofs.Rows.{RowStands, row_stands}
use Rattle.finds.specs.Keeping.{each, row_kept}
use Rattle.finds.proofs.Gathering.{fits_on, fits_room, of_descriptors, one_fits, row_capacity}
use Rattle.finds.proofs.Told.{Told, by_row, told}

-- a descriptor takes what its row does
pub size_one_descriptor : (o : ℕ) (s : Shape) (ts : Trees) → sizes_of (one_descriptor o (node o s.name s.head ts)) ≡ size_of_shape s
size_one_descriptor o s ts =
    let u : Tree = node o s.name s.head ts in
    let parts : (sizes_of (one_descriptor o u)).parts ≡ length (part_names s.head) = omega arith in
    let text : text_bytes (one_descriptor o u) ≡ length s.name + bytes (part_names s.head) = omega arith in
    λ i. record (size_of_shape s) { parts = parts i; text = text i }

module _ (c : Catalog) (b : Descriptors) (order : List ℕ) (turn : InTurn c b order) where
  abbrev d : Descriptors
  d = pass c b order

  -- the next that is settled
  module _ (before : List ℕ) (so_far : InTurn c b before) (o : ℕ) (h : Held) (same : (book_held h).descriptors ≡ pass c b before) where
    known_same : (p : ℕ) → is_known h.descriptions p ≡ known_so b before p
    known_same p =
        known_answered h.descriptions p
        ∙ ap (λ (e : Descriptors). answered e p) same
        ∙ ap (λ x. built_in p || x) (in_turn_described c b before so_far p)
        ∙ sym (or_assoc (built_in p) (is_some (b p)) (is_in p before))

    module _ (fresh : known_so b before o ≡ false) (t : Told c b order turn d o) (ready : ready_shape (known_so b before) (formed c o) ≡ true) where
      links : list_all (known_so b before) t.shp.links ≡ true
      links = ap (ready_shape (known_so b before)) (sym t.formed_so) ∙ ready

      pub now : RowStands h o t.shp (with_row h o t.row)
      now =
          row_stands h o t.row t.shp t.shaped (known_same o ∙ fresh)
          (ap (λ k. list_all k t.shp.links) (λ i p. known_same p i) ∙ links)

      module _ (u : Tree) (made : made_of (pass c b before) o t.shp ≡ Some u) where
        pub tree_so : now.tree ≡ u
        tree_so = same_some (sym (ap (λ (e : Descriptors). made_of e o t.shp) same) ∙ now.made) made

      pub kept_now : has_room h (size_of_shape t.shp) ≡ true → row_kept h (by_row c o) ≡ with_row h o t.row
      kept_now room =
          ap (row_kept h) (ap (option_map (λ r. (o, r))) t.there)
          ∙ ap (λ v. if v then with_row h o t.row else h)
          (ap (settles_so h o) t.shaped
          ∙ (λ i. not ((known_same o ∙ fresh) i) && ((ap (λ k. list_all k t.shp.links) (λ j p. known_same p j) ∙ links) i && room i)))

      pub described_now : now.tree ≡ node o t.shp.name t.shp.head t.trees → (book_held (with_row h o t.row)).descriptors ≡ put (pass c b before) o (node o t.shp.name t.shp.head t.trees)
      described_now e = now.described ∙ (λ i. put (same i) o (e i))

  abbrev descriptors_of : List ℕ → Tables
  descriptors_of os = of_descriptors (with_values d os)

  -- row by row
  pub rows_kept : (os before : List ℕ) → order ≡ before ++ os → InTurn c b before → InTurnAfter c b before os → ((o : ℕ) → Mem o os → Mem o order) →
      (h : Held) (t : Tables) → Stands h t → (book_held h).descriptors ≡ pass c b before → Fits (sizes_of (extended t (descriptors_of os))) h.capacity →
      Stands (each row_kept h (map (by_row c) os)) (extended t (descriptors_of os))
  rows_kept [] before e so_far next sub h t s same fits = subst (Stands h) (sym (extended_none t)) s
  rows_kept (o ∷ os) before e so_far next sub h t s same fits =
      let w = told c b order turn o (sub o (inl refl)) in
      let u : Tree = node o w.shp.name w.shp.head w.trees in
      let x = in_turn_trees c b order turn before os o e in
      let y = in_turn_put c b before o so_far next.0 in
      let of_shape : made c (pass c b before) o ≡ made_of (pass c b before) o w.shp = ap (option_and_then (made_of (pass c b before) o)) w.formed_so in
      let n = now before so_far o h same next.0.0 w next.0.1 in
      let made_u : made c (pass c b before) o ≡ Some u = x.1 ∙ sym x.2 ∙ w.tree in
      let is_u : n.tree ≡ u = tree_so before so_far o h same next.0.0 w next.0.1 u (sym of_shape ∙ made_u) in
      let one : Tables = one_descriptor o u in
      let split : descriptors_of (o ∷ os) ≡ extended one (descriptors_of os) = λ i. of_descriptors (cons_option (option_map (λ v. (o, v)) (w.tree i)) (with_values d os)) in
      let fits_so = subst (λ (z : Tables). Fits (sizes_of (extended t z)) h.capacity) split fits in
      let room = fits_room h (size_of_shape w.shp) (subst (λ (z : Sizes). Fits (sum_of h.taken z) h.capacity) (size_one_descriptor o w.shp w.trees) (one_fits h t s one (descriptors_of os) fits_so)) in
      let g : Held = with_row h o w.row in
      let kept : row_kept h (by_row c o) ≡ g = kept_now before so_far o h same next.0.0 w next.0.1 room in
      let stands : Stands g (extended t one) = subst (λ v. Stands g (extended t (one_descriptor o v))) is_u (n.stands t s) in
      let after : (book_held g).descriptors ≡ pass c b (before ++ o ∷ []) =
      described_now before so_far o h same next.0.0 w next.0.1 is_u ∙ ap (put (pass c b before) o) (same_some made_u y.1) ∙ sym y.2 in
      let capacity : g.capacity ≡ h.capacity = ap (λ (k : Held). k.capacity) (sym kept) ∙ row_capacity h (by_row c o) in
      let rest =
      rows_kept os (before ++ o ∷ []) (e ∙ sym (append_assoc before (o ∷ []) os)) (in_turn_more c b before o so_far next.0) next.1 (λ p m. sub p (inr m)) g (extended t one) stands after
      (subst (Fits (sizes_of (extended (extended t one) (descriptors_of os)))) (sym capacity) (fits_on h t s one (descriptors_of os) fits_so)) in
      subst (λ (k : Held). Stands (each row_kept k (map (by_row c) os)) (extended t (descriptors_of (o ∷ os)))) (sym kept)
      (subst (Stands (each row_kept g (map (by_row c) os))) (extended_assoc t one (descriptors_of os) ∙ ap (extended t) (sym split)) rest)
