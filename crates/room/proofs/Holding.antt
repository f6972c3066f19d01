-- Tables with what a step adds hold each key once again, and a relation exactly where they hold one of its columns.
-- Assumes nothing.
use Rattle.std.proofs.Common.{◌≡◌, ℕ, ◌↔◌, List, [], ◌++◌, map, ℤ, nat_eq, Some, bytes_eq, sym, ap, ◌∙◌, subst, ⊎_elim}
use Rattle.std.proofs.lemmas.Bool.Decides.{Decides-eqb}
use Rattle.std.proofs.lemmas.List.{append-nil}
use Rattle.std.proofs.lemmas.Slice.Eq.{bytes_eq-Decides}
use Rattle.std.specs.Option.{option_or}
use Rattle.catalog.specs.Catalog.{CatalogColumn, Catalog, Laws}
use Rattle.catalog.specs.Shape.{Name}
use Rattle.keys.specs.Kinds.{same-pair}
use Rattle.keys.specs.Senses.{Pair, same_pair}
use Rattle.unfolding.specs.Lists.{Mem}
use Rattle.life.specs.Calls.{Call}
use Rattle.life.proofs.Life.{agrees}
use Rattle.life.proofs.Lists.{split_option, mem_right}
use Rattle.life.proofs.Tells.{or_some, or_first, or_next}
use Rattle.room.specs.Added.{with_values, new_columns, with_types, with_columns, Once, Held, EntryLaw, HeldLaw}
use Rattle.room.specs.Tables.{Tables, look_up}
use Rattle.room.proofs.Additions.{map_mem, mem_map}
use Rattle.room.proofs.LookUp.{look_append, look_mem, mem_key, key_held, mem_look, values_mem, look_extended, new_mem, new_once}

-- a relation is held exactly where one of its columns is
abbrev pub Related : List (ℕ × Name) → List (Pair × CatalogColumn) → Type 0
Related relations columns =
    (r : ℕ) (n : Name) →
    (look_up nat_eq relations r ≡ Some n) ↔ ((a : ℤ) × (k : CatalogColumn) × (look_up same_pair columns (r, a) ≡ Some k) × (k.table ≡ n))

pub without : {A : Type 0} (P : List A → Type 0) (xs : List A) → P xs → P (xs ++ [])
without P xs p = subst P (sym (append-nil xs)) p

pub types_held : (c : Catalog) (t : Tables) (call : Call) (reads apart : List ℕ) → Held t → Held (with_types c t call reads apart)
types_held c t call reads apart h = record {
  descriptors = new_once nat_eq Decides-eqb t.descriptors h.descriptors _;
  names = new_once bytes_eq bytes_eq-Decides t.names h.names _;
  arrays = new_once nat_eq Decides-eqb t.arrays h.arrays _;
  columns = without (λ l. Once l) t.columns h.columns;
  relations = without (λ l. Once l) t.relations h.relations;
  related = without (λ l. Related l (t.columns ++ [])) t.relations (without (λ l. Related t.relations l) t.columns h.related);
}

-- the columns that tables hold are the catalog's
abbrev pub Told : Catalog → Tables → Type 0
Told c t = (p : Pair) (k : CatalogColumn) → look_up same_pair t.columns p ≡ Some k → c.columns p.0 p.1 ≡ Some k

module _ (c : Catalog) (laws : Laws c) (t : Tables) (h : Held t) (told : Told c t) (asked : List Pair) where
  abbrev all : Tables
  all = with_columns c t asked

  abbrev found : List (Pair × CatalogColumn)
  found = with_values (λ (p : Pair). c.columns p.0 p.1) asked

  abbrev new : List (Pair × CatalogColumn)
  new = new_columns c t asked

  abbrev relation : Pair × CatalogColumn → ℕ × Name
  relation x = (x.0.0, x.1.table)

  abbrev relations : List (ℕ × Name)
  relations = map relation new

  columns_once : Once all.columns
  columns_once = new_once same_pair same-pair t.columns h.columns found

  new_told : (x : Pair × CatalogColumn) → Mem x new → c.columns x.0.0 x.0.1 ≡ Some x.1
  new_told x m = (values_mem same_pair same-pair (λ (p : Pair). c.columns p.0 p.1) asked x (new_mem same_pair same-pair t.columns found x m)).1

  -- a new relation's name is its table's
  relation_told : (r : ℕ) (n : Name) → look_up nat_eq relations r ≡ Some n →
      (a : ℤ) × (k : CatalogColumn) × Mem ((r, a), k) new × (k.table ≡ n)
  relation_told r n e =
      let x = map_mem relation new (r, n) (look_mem nat_eq Decides-eqb relations r n e) in
      let z : r ≡ x.0.0.0 = ap (λ (v : ℕ × Name). v.0) x.2 in
      (x.0.0.1, x.0.1, subst (λ q. Mem ((q, x.0.0.1), x.0.1) new) (sym z) x.1, sym (ap (λ (v : ℕ × Name). v.1) x.2))

  -- the columns of a relation tell one table
  one_name : (r : ℕ) (a b : ℤ) (k m : CatalogColumn) (n l : Name) → c.columns r a ≡ Some k → c.columns r b ≡ Some m → k.table ≡ n → m.table ≡ l → l ≡ n
  one_name r a b k m n l x y z w = sym w ∙ laws.one_table r b a m k y x ∙ z

  relations_look : (r : ℕ) → look_up nat_eq all.relations r ≡ option_or (look_up nat_eq t.relations r) (look_up nat_eq relations r)
  relations_look r = look_extended nat_eq Decides-eqb t.relations relations r

  column_held : (r : ℕ) (n : Name) → look_up nat_eq all.relations r ≡ Some n →
      (a : ℤ) × (k : CatalogColumn) × (look_up same_pair all.columns (r, a) ≡ Some k) × (k.table ≡ n)
  column_held r n e =
      ⊎_elim
      (λ o.
      let x = (h.related r n).0 o in (
        x.0,
        x.1,
        look_append same_pair same-pair t.columns new (r, x.0)
            ∙ or_first (look_up same_pair t.columns (r, x.0)) (look_up same_pair new (r, x.0)) x.1 x.2,
        x.3,
      ))
      (λ o.
      let x = relation_told r n o.1 in
      (x.0, x.1, mem_look same_pair same-pair all.columns columns_once (r, x.0) x.1 (mem_right ((r, x.0), x.1) t.columns new x.2), x.3))
      (or_some (look_up nat_eq t.relations r) (look_up nat_eq relations r) n (sym (relations_look r) ∙ e))

  relation_held : (r : ℕ) (n : Name) (a : ℤ) (k : CatalogColumn) → look_up same_pair all.columns (r, a) ≡ Some k → k.table ≡ n →
      look_up nat_eq all.relations r ≡ Some n
  relation_held r n a k e z =
      ⊎_elim
      (λ o. relations_look r ∙ or_first (look_up nat_eq t.relations r) (look_up nat_eq relations r) n ((h.related r n).1 (a, k, o, z)))
      (λ o.
      let m = look_mem same_pair same-pair new (r, a) k o.1 in
      let tells = new_told ((r, a), k) m in
      let one : (b : ℤ) (v : CatalogColumn) (w : Name) → c.columns r b ≡ Some v → v.table ≡ w → w ≡ n = λ b v w x y. one_name r a b k v n w tells x z y in
      relations_look r
      ∙ ⊎_elim
      (λ y.
      or_next (look_up nat_eq t.relations r) (look_up nat_eq relations r) y
      ∙ ⊎_elim
      (λ q. absurd (key_held nat_eq Decides-eqb relations r (mem_key nat_eq Decides-eqb relations (r, k.table) (mem_map relation new ((r, a), k) m)) q))
      (λ q.
      let x = relation_told r q.0 q.1 in
      q.1 ∙ ap (λ v. Some v) (one x.0 x.1 q.0 (new_told ((r, x.0), x.1) x.2) x.3))
      (split_option (look_up nat_eq relations r)))
      (λ y.
      let x = (h.related r y.0).0 y.1 in
      or_first (look_up nat_eq t.relations r) (look_up nat_eq relations r) n
      (y.1 ∙ ap (λ v. Some v) (one x.0 x.1 y.0 (told (r, x.0) x.1 x.2) x.3)))
      (split_option (look_up nat_eq t.relations r)))
      (or_some (look_up same_pair t.columns (r, a)) (look_up same_pair new (r, a)) k (sym (look_append same_pair same-pair t.columns new (r, a)) ∙ e))

  related : Related all.relations all.columns
  related r n = (column_held r n, λ x. relation_held r n x.0 x.1 x.2 x.3)

  pub columns_held : Held all
  columns_held = record {
    descriptors = without (λ l. Once l) t.descriptors h.descriptors;
    names = without (λ l. Once l) t.names h.names;
    arrays = without (λ l. Once l) t.arrays h.arrays;
    columns = columns_once;
    relations = new_once nat_eq Decides-eqb t.relations h.relations relations;
    related = related;
  }

pub held_law : HeldLaw
held_law h c t laws l held = (
  λ call reads apart. types_held c t call reads apart held,
  λ call reads apart asked.
      columns_held c laws (with_types c t call reads apart) (types_held c t call reads apart held)
      (λ p k e. (agrees h c _ l).columns p.0 p.1 k (ap (λ z. look_up same_pair z p) (sym (append-nil t.columns)) ∙ e))
      asked,
)

pub entry_law : EntryLaw
entry_law t h = (
  λ o u. (mem_look nat_eq Decides-eqb t.descriptors h.descriptors o u, look_mem nat_eq Decides-eqb t.descriptors o u),
  λ n o. (mem_look bytes_eq bytes_eq-Decides t.names h.names n o, look_mem bytes_eq bytes_eq-Decides t.names n o),
  λ e a. (mem_look nat_eq Decides-eqb t.arrays h.arrays e a, look_mem nat_eq Decides-eqb t.arrays e a),
  λ r a k. (mem_look same_pair same-pair t.columns h.columns (r, a) k, look_mem same_pair same-pair t.columns (r, a) k),
  λ r n. (
    λ m. (h.related r n).0 (mem_look nat_eq Decides-eqb t.relations h.relations r n m),
    λ x. look_mem nat_eq Decides-eqb t.relations r n ((h.related r n).1 x),
  ),
)
