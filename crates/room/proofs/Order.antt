-- What a call does goes by the book of its tables and by their sizes.
-- Assumes nothing.
use Rattle.std.proofs.Common.{◌≡◌, ℕ, ◌+◌, Bool, true, false, List, [], ◌++◌, map, is_some, nat_eq, if◌then◌else◌, Some, None, bytes_eq, Option, sym, refl, ap, ◌∙◌, arith}
use Rattle.std.specs.Option.{option_or}
use Rattle.std.proofs.lemmas.Bool.Decides.{Decides-eqb}
use Rattle.std.proofs.lemmas.Slice.Eq.{bytes_eq-Decides}
use Rattle.catalog.specs.Catalog.{CatalogColumn, Catalog}
use Rattle.catalog.specs.Shape.{Name}
use Rattle.keys.specs.Kinds.{same-pair}
use Rattle.keys.specs.Senses.{Pair, same_pair}
use Rattle.unfolding.specs.Unfolding.{Tree}
use Rattle.life.specs.Calls.{Call, array_link}
use Rattle.life.specs.Keep.{if_settled}
use Rattle.life.specs.Lists.{fresh_by}
use Rattle.life.specs.Outcomes.{Outcome}
use Rattle.life.specs.Run.{perform}
use Rattle.life.specs.Settle.{settled}
use Rattle.life.specs.Steps.{Book, accepts, keeps_finds}
use Rattle.room.specs.Added.{Held, columns_added, declared_names, types_added, with_values}
use Rattle.room.specs.Order.{Alike, OrderLaw}
use Rattle.room.specs.Room.{columns_asked, columns_full, limited, new_columns, new_types, rows_apart, rows_read, tables_left, typed, types_full, walk_of}
use Rattle.room.specs.Sizes.{Sizes, first_full, name_of, sizes_of}
use Rattle.room.specs.Tables.{Tables, contents, extended, look_up}
use Rattle.room.proofs.Fitting.{sum_law}
use Rattle.room.proofs.Holding.{types_held}
use Rattle.room.proofs.LookUp.{look_append}

-- those whose key is not held, each once
abbrev new_of : {K V : Type 0} → (K → K → Bool) → (K → Bool) → List (K × V) → List (K × V)
new_of same is_held found = fresh_by (λ x y. same x.0 y.0) (λ x. is_held x.0) [] found

-- what a step adds, by the book alone
abbrev types_by : Catalog → Book → Call → (reads apart : List ℕ) → Tables
types_by c b call reads apart =
    let after = settled c b.descriptors reads in
    let trees : List (ℕ × Tree) = new_of nat_eq (λ o. is_some (b.descriptors o)) (with_values after reads) in
    record {
      descriptors = trees;
      names =
          new_of bytes_eq (λ n. is_some (b.names n))
          (with_values (λ n. if_settled after (c.named n)) (map (λ (x : ℕ × Tree). name_of x.1) trees ++ declared_names call));
      arrays = new_of nat_eq (λ e. is_some (b.arrays e)) (with_values (λ e. array_link (c.rows e)) (reads ++ apart));
      columns = [];
      relations = [];
    }

-- and by the relations, which hold the tables' names
abbrev columns_by : Catalog → Book → (ℕ → Option Name) → List Pair → Tables
columns_by c b related asked =
    let found : List (Pair × CatalogColumn) = new_of same_pair (λ p. is_some (b.columns p.0 p.1)) (with_values (λ (p : Pair). c.columns p.0 p.1) asked) in
    record {
      descriptors = [];
      names = [];
      arrays = [];
      columns = found;
      relations = new_of nat_eq (λ r. is_some (related r)) (map (λ (x : Pair × CatalogColumn). (x.0.0, x.1.table)) found);
    }

types_so : (c : Catalog) (t : Tables) (call : Call) (reads apart : List ℕ) → types_added c t call reads apart ≡ types_by c (contents t) call reads apart
types_so c t call reads apart = refl

columns_so : (c : Catalog) (t : Tables) (asked : List Pair) → columns_added c t asked ≡ columns_by c (contents t) (look_up nat_eq t.relations) asked
columns_so c t asked = refl

-- the book of tables with more behind them, and their sizes
abbrev pub book_with : Book → Tables → Book
book_with b more = record {
  descriptors = λ o. option_or (b.descriptors o) (look_up nat_eq more.descriptors o);
  names = λ n. option_or (b.names n) (look_up bytes_eq more.names n);
  arrays = λ e. option_or (b.arrays e) (look_up nat_eq more.arrays e);
  columns = λ r a. option_or (b.columns r a) (look_up same_pair more.columns (r, a));
}

pub contents_with : (t more : Tables) → contents (extended t more) ≡ book_with (contents t) more
contents_with t more = λ i. record {
  descriptors = λ o. look_append nat_eq Decides-eqb t.descriptors more.descriptors o i;
  names = λ n. look_append bytes_eq bytes_eq-Decides t.names more.names n i;
  arrays = λ e. look_append nat_eq Decides-eqb t.arrays more.arrays e i;
  columns = λ r a. look_append same_pair same-pair t.columns more.columns (r, a) i;
}

abbrev pub sums : Sizes → Sizes → Sizes
sums s more = record {
  descriptors = s.descriptors + more.descriptors;
  parts = s.parts + more.parts;
  names = s.names + more.names;
  arrays = s.arrays + more.arrays;
  text = s.text + more.text;
  columns = s.columns + more.columns;
  relations = s.relations + more.relations;
}

pub sizes_with : (t more : Tables) → sizes_of (extended t more) ≡ sums (sizes_of t) (sizes_of more)
sizes_with t more = λ i. record {
  descriptors = sum_law t more 0 (omega arith) i;
  parts = sum_law t more 1 (omega arith) i;
  names = sum_law t more 2 (omega arith) i;
  arrays = sum_law t more 3 (omega arith) i;
  text = sum_law t more 4 (omega arith) i;
  columns = sum_law t more 5 (omega arith) i;
  relations = sum_law t more 6 (omega arith) i;
}

alike_with : (t u more more' : Tables) → Alike t u → more ≡ more' → Alike (extended t more) (extended u more')
alike_with t u more more' a e = record {
  book = contents_with t more ∙ (λ i. book_with (a.book i) (e i)) ∙ sym (contents_with u more');
  sizes = sizes_with t more ∙ (λ i. sums (a.sizes i) (sizes_of (e i))) ∙ sym (sizes_with u more');
}

same_option : {A : Type 0} (x y : Option A) → ((a : A) → x ≡ Some a → y ≡ Some a) → ((a : A) → y ≡ Some a → x ≡ Some a) → x ≡ y
same_option None None f g = refl
same_option None (Some b) f g = g b refl
same_option (Some a) y f g = sym (f a refl)

-- the relations go by the columns
related_to : (t u : Tables) → Held t → Held u → contents t ≡ contents u → (r : ℕ) (n : Name) → look_up nat_eq t.relations r ≡ Some n → look_up nat_eq u.relations r ≡ Some n
related_to t u ht hu e r n there =
    let w = (ht.related r n).0 there in
    (hu.related r n).1 (w.0, w.1, sym (ap (λ (b : Book). b.columns r w.0) e) ∙ w.2, w.3)

pub same_related : (t u : Tables) → Held t → Held u → contents t ≡ contents u → look_up nat_eq t.relations ≡ look_up nat_eq u.relations
same_related t u ht hu e = λ i r. same_option (look_up nat_eq t.relations r) (look_up nat_eq u.relations r) (related_to t u ht hu e r) (related_to u t hu ht (sym e) r) i

abbrev choose : Bool → Bool → Tables → Tables → Tables → Tables
choose a b x y z = if a then x else if b then y else z

alike_chosen : (a b : Bool) (x y z x' y' z' : Tables) → Alike x x' → Alike y y' → Alike z z' → Alike (choose a b x y z) (choose a b x' y' z')
alike_chosen true b x y z x' y' z' p q s = p
alike_chosen false true x y z x' y' z' p q s = q
alike_chosen false false x y z x' y' z' p q s = s

module _ (capacity : Sizes) (c : Catalog) (t u : Tables) (ht : Held t) (hu : Held u) (a : Alike t u) (call : Call) where
  same_types : new_types capacity c t call ≡ new_types capacity c u call
  same_types = λ i. types_by c (a.book i) call (rows_read (walk_of c (a.book i) call)) (rows_apart c (a.book i) call)

  alike_typed : Alike (typed capacity c t call) (typed capacity c u call)
  alike_typed = alike_with t u (new_types capacity c t call) (new_types capacity c u call) a same_types

  typed_t : Held (typed capacity c t call)
  typed_t = types_held c t call (rows_read (walk_of c (contents t) call)) (rows_apart c (contents t) call) ht

  typed_u : Held (typed capacity c u call)
  typed_u = types_held c u call (rows_read (walk_of c (contents u) call)) (rows_apart c (contents u) call) hu

  same_columns : new_columns capacity c t call ≡ new_columns capacity c u call
  same_columns = λ i. columns_by c (alike_typed.book i) (same_related (typed capacity c t call) (typed capacity c u call) typed_t typed_u alike_typed.book i) (columns_asked (a.book i) call)

  same_types_full : types_full capacity c t call ≡ types_full capacity c u call
  same_types_full = λ i. first_full capacity (a.sizes i) (sizes_of (same_types i))

  same_columns_full : columns_full capacity c t call ≡ columns_full capacity c u call
  same_columns_full = λ i. first_full capacity (alike_typed.sizes i) (sizes_of (same_columns i))

  same_outcome : limited capacity c t call ≡ limited capacity c u call
  same_outcome = λ i. perform (λ _. same_types_full i) (λ _. same_columns_full i) c (a.book i) call

  abbrev all_t : Tables
  all_t = extended (typed capacity c t call) (new_columns capacity c t call)

  abbrev all_u : Tables
  all_u = extended (typed capacity c u call) (new_columns capacity c u call)

  same_left : tables_left capacity c t call ≡ choose (accepts (limited capacity c u call).ending) (keeps_finds (limited capacity c u call).ending) all_t (typed capacity c t call) t
  same_left = ap (λ (o : Outcome). choose (accepts o.ending) (keeps_finds o.ending) all_t (typed capacity c t call) t) same_outcome

  alike_left : Alike (tables_left capacity c t call) (tables_left capacity c u call)
  alike_left =
      let o : Outcome = limited capacity c u call in
      let chosen : Alike (choose (accepts o.ending) (keeps_finds o.ending) all_t (typed capacity c t call) t) (tables_left capacity c u call) =
      alike_chosen (accepts o.ending) (keeps_finds o.ending) all_t (typed capacity c t call) t all_u (typed capacity c u call) u
      (alike_with (typed capacity c t call) (typed capacity c u call) (new_columns capacity c t call) (new_columns capacity c u call) alike_typed same_columns) alike_typed a in
      record { book = ap contents same_left ∙ chosen.book; sizes = ap sizes_of same_left ∙ chosen.sizes }

pub order_law : OrderLaw
order_law capacity c t u ht hu a call = (same_outcome capacity c t u ht hu a call, alike_left capacity c t u ht hu a call)
