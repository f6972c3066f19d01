-- A new book stands for no tables; with a name, an array link or a column more a book stands for these too.
-- Assumes nothing.
use Rattle.std.proofs.Common.{◌≡◌, ℕ, ◌+◌, [], ◌∷◌, ◌++◌, length, nat_eq, bytes_eq, Some, None, Option, sym, refl, ap, ◌∙◌, arith}
use Rattle.std.specs.Map.{update}
use Rattle.std.proofs.lemmas.Bool.Decides.{Decides-eqb}
use Rattle.std.proofs.lemmas.List.{append-nil}
use Rattle.std.proofs.lemmas.Slice.Eq.{bytes_eq-Decides}
use Rattle.catalog.specs.Catalog.{CatalogColumn}
use Rattle.catalog.specs.Shape.{Name}
use Rattle.keys.specs.Kinds.{same-pair}
use Rattle.keys.specs.Senses.{Pair, same_pair}
use Rattle.life.specs.Steps.{Book}
use Rattle.room.specs.Sizes.{Sizes, sizes_of, text_bytes}
use Rattle.room.specs.Tables.{Tables, extended, look_up, no_tables}
use Rattle.room.proofs.Order.{sizes_with, sums}
use Rattle.book.specs.Descriptions.{described_by}
use Rattle.book.specs.Held.{Held, column_of_relation, nothing_held, size_of_array, size_of_column, size_of_column_name, size_of_name, size_of_relation, sum_of, with_array, with_column, with_name}
use Rattle.book.specs.Stands.{OneTable, Stands, one_array, one_column, one_name}
use Rattle.book.proofs.Entries.{look_one_more}

-- what is added together is added one after the other
pub sum_turned : (s a b : Sizes) → sum_of s (sum_of a b) ≡ sum_of (sum_of s b) a
sum_turned s a b =
    let turned : (l m n : ℕ) → l + (m + n) ≡ (l + n) + m = λ l m n. omega arith in
    λ i. record {
      descriptors = turned s.descriptors a.descriptors b.descriptors i;
      parts = turned s.parts a.parts b.parts i;
      names = turned s.names a.names b.names i;
      arrays = turned s.arrays a.arrays b.arrays i;
      text = turned s.text a.text b.text i;
      columns = turned s.columns a.columns b.columns i;
      relations = turned s.relations a.relations b.relations i;
    }

pub stands_new : (capacity : Sizes) → Stands (nothing_held capacity) no_tables
stands_new capacity = record { book = refl; relations = refl; sizes = refl }

-- a column goes in with its own table, where the relation has no other
module _ (h : Held) (p : Pair) (k : CatalogColumn) (one : OneTable h p.0 k.table) where
  pub column_of_holds : (x : Option Name) → h.relations p.0 ≡ x → (column_of_relation h x p k).columns ≡ update same_pair h.columns p (Some k)
  column_of_holds (Some held) e = ap (λ table. update same_pair h.columns p (Some (record { table = table; column = k.column }))) (one held e)
  column_of_holds None e = refl

  pub column_holds : (with_column h p k).columns ≡ update same_pair h.columns p (Some k)
  column_holds = column_of_holds (h.relations p.0) refl

module _ (h : Held) (t : Tables) (s : Stands h t) where
  -- what stays of the tables to which nothing is added, and what comes of the sizes
  same_descriptors : look_up nat_eq (t.descriptors ++ []) ≡ described_by h.descriptions
  same_descriptors = ap (look_up nat_eq) (append-nil t.descriptors) ∙ ap (λ (b : Book). b.descriptors) s.book

  pub same_names : look_up bytes_eq (t.names ++ []) ≡ h.names
  same_names = ap (look_up bytes_eq) (append-nil t.names) ∙ ap (λ (b : Book). b.names) s.book

  pub same_arrays : look_up nat_eq (t.arrays ++ []) ≡ h.arrays
  same_arrays = ap (look_up nat_eq) (append-nil t.arrays) ∙ ap (λ (b : Book). b.arrays) s.book

  column_at : look_up same_pair t.columns ≡ h.columns
  column_at = λ i p. ap (λ (b : Book). b.columns p.0 p.1) s.book i

  pub same_columns : look_up same_pair (t.columns ++ []) ≡ h.columns
  same_columns = ap (look_up same_pair) (append-nil t.columns) ∙ column_at

  pub same_relations : look_up nat_eq (t.relations ++ []) ≡ h.relations
  same_relations = ap (look_up nat_eq) (append-nil t.relations) ∙ s.relations

  pub sizes_added : (more : Tables) (size : Sizes) → sizes_of more ≡ size → sizes_of (extended t more) ≡ sum_of h.taken size
  sizes_added more size e = sizes_with t more ∙ (λ i. sums (s.sizes i) (e i))

  pub stands_name : (n : Name) (o : ℕ) → h.names n ≡ None → Stands (with_name h n o) (extended t (one_name n o))
  stands_name n o new =
      let text : text_bytes (one_name n o) ≡ length n = omega arith in
      record {
        book = λ i. record {
          descriptors = same_descriptors i;
          names = look_one_more bytes_eq bytes_eq-Decides t.names h.names (ap (λ (b : Book). b.names) s.book) n o new i;
          arrays = same_arrays i;
          columns = λ r a. same_columns i (r, a);
        };
        relations = same_relations;
        sizes = sizes_added (one_name n o) (size_of_name n) (λ i. record (size_of_name n) { text = text i });
      }

  pub stands_array : (e a : ℕ) → h.arrays e ≡ None → Stands (with_array h e a) (extended t (one_array e a))
  stands_array e a new = record {
    book = λ i. record {
      descriptors = same_descriptors i;
      names = same_names i;
      arrays = look_one_more nat_eq Decides-eqb t.arrays h.arrays (ap (λ (b : Book). b.arrays) s.book) e a new i;
      columns = λ r x. same_columns i (r, x);
    };
    relations = same_relations;
    sizes = sizes_added (one_array e a) size_of_array refl;
  }

  module _ (p : Pair) (k : CatalogColumn) (one : OneTable h p.0 k.table) (new : h.columns p ≡ None) where
    column_more : (x : Option Name) → h.relations p.0 ≡ x → look_up same_pair (t.columns ++ (p, k) ∷ []) ≡ (column_of_relation h x p k).columns
    column_more x e = look_one_more same_pair same-pair t.columns h.columns column_at p k new ∙ sym (column_of_holds h p k one x e)

    stands_column_of : (x : Option Name) → h.relations p.0 ≡ x → Stands (column_of_relation h x p k) (extended t (one_column x p k))
    stands_column_of (Some held) e =
        let text : text_bytes (one_column (Some held) p k) ≡ length k.column = omega arith in
        record {
          book = λ i. record {
            descriptors = same_descriptors i;
            names = same_names i;
            arrays = same_arrays i;
            columns = λ r a. column_more (Some held) e i (r, a);
          };
          relations = same_relations;
          sizes = sizes_added (one_column (Some held) p k) (size_of_column (Some held) k) (λ i. record (size_of_column (Some held) k) { text = text i });
        }
    stands_column_of None e =
        let text : text_bytes (one_column None p k) ≡ length k.column + length k.table = omega arith in
        record {
          book = λ i. record {
            descriptors = same_descriptors i;
            names = same_names i;
            arrays = same_arrays i;
            columns = λ r a. column_more None e i (r, a);
          };
          relations = look_one_more nat_eq Decides-eqb t.relations h.relations s.relations p.0 k.table e;
          sizes = sizes_added (one_column None p k) (size_of_column None k) (λ i. record (size_of_column None k) { text = text i }) ∙ sum_turned h.taken (size_of_column_name k.column) (size_of_relation k.table);
        }

    pub stands_column : Stands (with_column h p k) (extended t (one_column (h.relations p.0) p k))
    stands_column = stands_column_of (h.relations p.0) refl
