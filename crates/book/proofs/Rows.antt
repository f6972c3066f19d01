-- With the descriptor of a row more a book stands for this too.
-- Assumes nothing.
use Rattle.std.proofs.Common.{◌≡◌, ℕ, ◌+◌, true, false, not, List, [], ◌∷◌, ◌++◌, length, slice_get, nat_eq, is_some, option_and_then, Some, None, Option, sym, refl, ap, ◌∙◌, subst, arith}
use Rattle.std.specs.List.{list_all}
use Rattle.std.specs.Option.{option_map}
use Rattle.std.proofs.lemmas.Bool.{and_parts, not-true}
use Rattle.std.proofs.lemmas.Bool.Decides.{Decides-eqb}
use Rattle.catalog.specs.Catalog.{CatalogRow}
use Rattle.catalog.specs.Shape.{Shape, shape}
use Rattle.unfolding.specs.Unfolding.{Tree, node}
use Rattle.life.specs.Settle.{made_of, put}
use Rattle.life.specs.Steps.{Book}
use Rattle.room.specs.Sizes.{bytes, sizes_of, text_bytes}
use Rattle.room.specs.Tables.{Tables, extended}
use Rattle.book.specs.Adding.{described, is_known, row_members, settles, settles_so, with_row, with_shape}
use Rattle.book.specs.Descriptions.{Description, Member, described_by, slot_of, tree_of, trees_of}
use Rattle.book.specs.Held.{Held, book_held, size_of_description, size_of_members, sum_of}
use Rattle.book.specs.Stands.{Stands, one_descriptor, one_row, one_tree, row_tree}
use Rattle.book.proofs.Described.{many_so, named_so, unknown}
use Rattle.book.proofs.Entries.{look_one_more}
use Rattle.book.proofs.Gathered.{described_more, gather_known}
use Rattle.book.proofs.Shapes.{parts_of_row}
use Rattle.book.proofs.Stands.{same_arrays, same_columns, same_names, same_relations, sizes_added, sum_turned}

-- g is h with the tree of this shape more
pub record RowStands (h : Held) (o : ℕ) (s : Shape) (g : Held) : Type 0 where
  pub tree : Tree
  pub made : made_of (book_held h).descriptors o s ≡ Some tree
  pub described : described_by g.descriptions ≡ put (book_held h).descriptors o tree
  pub stands : (t : Tables) → Stands h t → Stands g (extended t (one_descriptor o tree))

module _ (h : Held) (o : ℕ) (r : CatalogRow) (s : Shape) (of_row : shape r ≡ Some s) (fresh : is_known h.descriptions o ≡ false) (known : list_all (is_known h.descriptions) s.links ≡ true) where
  abbrev d : Description
  d = described h.descriptions o s

  abbrev u : Tree
  u = tree_of (trees_of h.descriptions) d

  abbrev ms : List Member
  ms = row_members h.descriptions r s.head

  new : slot_of h.descriptions o ≡ None
  new = (unknown h.descriptions o fresh).1

  more : described_by (h.descriptions ++ d ∷ []) ≡ put (described_by h.descriptions) o u
  more = described_more h.descriptions d new

  row_size : sizes_of (one_descriptor o u) ≡ sum_of (size_of_description s.name) (size_of_members ms)
  row_size =
      let of_parts = parts_of_row r s of_row in
      let parts : (sizes_of (one_descriptor o u)).parts ≡ 0 + length ms = omega (arith, many_so h.descriptions r s.head of_parts) in
      let text : text_bytes (one_descriptor o u) ≡ length s.name + (size_of_members ms).text = omega (arith, ap bytes (named_so h.descriptions r s.head of_parts)) in
      λ i. record (sum_of (size_of_description s.name) (size_of_members ms)) { parts = parts i; text = text i }

  shape_stands : RowStands h o s (with_shape h o r (Some s))
  shape_stands = record {
    tree = u;
    made = ap (option_map (node o s.name s.head)) (gather_known h.descriptions s.links known);
    described = more;
    stands = λ t st. record {
      book = λ i. record {
        descriptors = (look_one_more nat_eq Decides-eqb t.descriptors (described_by h.descriptions) (ap (λ (b : Book). b.descriptors) st.book) o u (ap (option_and_then (slice_get (trees_of h.descriptions))) new) ∙ sym more) i;
        names = same_names h t st i;
        arrays = same_arrays h t st i;
        columns = λ p a. same_columns h t st i (p, a);
      };
      relations = same_relations h t st;
      sizes = sizes_added h t st (one_descriptor o u) _ row_size ∙ sum_turned h.taken (size_of_description s.name) (size_of_members ms);
    };
  }

  pub row_stands : RowStands h o s (with_row h o r)
  row_stands = subst (λ x. RowStands h o s (with_shape h o r x)) (sym of_row) shape_stands

-- where a row is settled its tree is made, and the book stands for it
module _ (h : Held) (o : ℕ) (r : CatalogRow) where
  tree_told : (s : Shape) → shape r ≡ Some s → row_tree h o r ≡ made_of (book_held h).descriptors o s
  tree_told s e = ap (option_and_then (made_of (book_held h).descriptors o)) e

  shape_settles : (x : Option Shape) → shape r ≡ x → settles_so h o x ≡ true → (s : Shape) × (shape r ≡ Some s) × (is_known h.descriptions o ≡ false) × (list_all (is_known h.descriptions) s.links ≡ true)
  shape_settles None e done = absurd cc
  shape_settles (Some s) e done =
      let p = and_parts (not (is_known h.descriptions o)) _ done in
      (s, e, not-true (is_known h.descriptions o) p.0, (and_parts (list_all (is_known h.descriptions) s.links) _ p.1).0)

  module _ (done : settles h o r ≡ true) where
    settled_row : (s : Shape) × (shape r ≡ Some s) × RowStands h o s (with_row h o r)
    settled_row = let x = shape_settles (shape r) refl done in (x.0, x.1, row_stands h o r x.0 x.1 x.2 x.3)

    tree_made : row_tree h o r ≡ Some settled_row.2.tree
    tree_made = tree_told settled_row.0 settled_row.1 ∙ settled_row.2.made

    pub settled_tree : is_some (row_tree h o r) ≡ true
    settled_tree = ap is_some tree_made

    pub settled_stands : (g : Held) → g ≡ with_row h o r → (t : Tables) → Stands h t → Stands g (extended t (one_row h o r))
    settled_stands g held t s =
        subst (λ (x : Held). Stands x (extended t (one_row h o r))) (sym held)
        (subst (λ u. Stands (with_row h o r) (extended t (one_tree o u))) (sym tree_made) (settled_row.2.stands t s))
