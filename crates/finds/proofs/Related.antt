-- A book that takes in columns one after the other stands for what is new of them, with their relations.
-- Assumes nothing.
use Rattle.std.proofs.Common.{◌≡◌, ℕ, Bool, true, false, not, ◌&&◌, if◌then◌else◌, List, [], ◌∷◌, ◌++◌, length, map, nat_eq, is_some, Some, None, Option, sym, refl, ap, ◌∙◌, subst, inl, inr, ⊎_elim, append-nil, arith, ◌+◌}
use Rattle.std.proofs.lemmas.Bool.{cases_Bool, cond-false, cond-true}
use Rattle.std.proofs.lemmas.Bool.Decides.{Decides-eqb}
use Rattle.catalog.specs.Catalog.{Catalog, CatalogColumn, Laws}
use Rattle.catalog.specs.Shape.{Name}
use Rattle.keys.specs.Kinds.{same-pair}
use Rattle.keys.specs.Senses.{Pair, same_pair}
use Rattle.unfolding.specs.Lists.{Mem}
use Rattle.life.specs.Steps.{Book}
use Rattle.life.proofs.Lists.{is_none_if, same_some}
use Rattle.room.specs.Added.{columns_added, new_by, with_columns}
use Rattle.room.specs.Added as added
use Rattle.room.proofs.Holding.{Told}
use Rattle.room.specs.Sizes.{Sizes, first_full, sizes_of, text_bytes}
use Rattle.room.specs.Tables.{Tables, extended, look_up, no_tables}
use Rattle.room.proofs.Extended.{extended_assoc, extended_none}
use Rattle.room.proofs.LookUp.{values_mem}
use Rattle.room.proofs.Order.{sizes_with}
use Rattle.book.specs.Adding.{adds_column}
use Rattle.book.specs.Held.{Fits, Held, column_of_relation, has_room, size_of_column, sum_of, with_column}
use Rattle.book.specs.Stands.{OneTable, Stands, one_column}
use Rattle.book.proofs.Room.{fits_then}
use Rattle.book.proofs.Stands.{stands_column}
use Rattle.finds.specs.Columns.{FoundColumn, RelatedBy, column_kept, columns_found}
use Rattle.finds.specs.Keeping.{each}
use Rattle.finds.proofs.Gathering.{fits_on, fits_room, one_fits}
use Rattle.finds.proofs.News.{new_held, new_one}

abbrev pub relation_in : FoundColumn → ℕ × Name
relation_in x = (x.0.0, x.1.table)

abbrev pub of_columns : List FoundColumn → List (ℕ × Name) → Tables
of_columns ks rs = record no_tables { columns = ks; relations = rs }

-- what is new of columns, where these relations are held
abbrev pub new_columns : Tables → List FoundColumn → Tables
new_columns t xs = of_columns (new_by same_pair t.columns xs) (new_by nat_eq t.relations (map relation_in (new_by same_pair t.columns xs)))

-- the capacity stays
column_capacity : (h : Held) (x : Option Name) (p : Pair) (k : CatalogColumn) → (column_of_relation h x p k).capacity ≡ h.capacity
column_capacity h (Some table) p k = refl
column_capacity h None p k = refl

pub kept_capacity : (h : Held) (x : FoundColumn) → (column_kept h x).capacity ≡ h.capacity
kept_capacity h x = chosen (adds_column h x.0 x.1)
  where
    chosen : (v : Bool) → (if v then with_column h x.0 x.1 else h).capacity ≡ h.capacity
    chosen true = column_capacity h (h.relations x.0.0) x.0 x.1
    chosen false = refl

pub size_one_column : (x : Option Name) (p : Pair) (k : CatalogColumn) → sizes_of (one_column x p k) ≡ size_of_column x k
size_one_column (Some table) p k =
    let text : text_bytes (one_column (Some table) p k) ≡ length k.column = omega arith in
    λ i. record (size_of_column (Some table) k) { text = text i }
size_one_column None p k =
    let text : text_bytes (one_column None p k) ≡ length k.column + length k.table = omega arith in
    λ i. record (size_of_column None k) { text = text i }

column_left : (h : Held) (x : FoundColumn) → is_some (h.columns x.0) ≡ true → column_kept h x ≡ h
column_left h x e = ap (λ v. if not v && has_room h (size_of_column (h.relations x.0.0) x.1) then with_column h x.0 x.1 else h) e

column_added : (h : Held) (x : FoundColumn) → is_some (h.columns x.0) ≡ false → has_room h (size_of_column (h.relations x.0.0) x.1) ≡ true → column_kept h x ≡ with_column h x.0 x.1
column_added h x e room = λ i. if not (e i) && room i then with_column h x.0 x.1 else h

-- a new column goes first, and its relation with it
first_column : (t : Tables) (x : FoundColumn) (xs : List FoundColumn) → is_some (look_up same_pair t.columns x.0) ≡ false → (y : Option Name) → look_up nat_eq t.relations x.0.0 ≡ y →
    new_columns t (x ∷ xs) ≡ extended (one_column y x.0 x.1) (new_columns (extended t (one_column y x.0 x.1)) xs)
first_column t x xs new y e = by_relation y e
  where
    later : List FoundColumn
    later = new_by same_pair (t.columns ++ x ∷ []) xs

    one : new_by same_pair t.columns (x ∷ xs) ≡ x ∷ later
    one = new_one same_pair same-pair t.columns x xs new

    all : new_columns t (x ∷ xs) ≡ of_columns (x ∷ later) (new_by nat_eq t.relations (relation_in x ∷ map relation_in later))
    all = λ i. of_columns (one i) (new_by nat_eq t.relations (map relation_in (one i)))

    by_relation : (y : Option Name) → look_up nat_eq t.relations x.0.0 ≡ y → new_columns t (x ∷ xs) ≡ extended (one_column y x.0 x.1) (new_columns (extended t (one_column y x.0 x.1)) xs)
    by_relation (Some table) e =
        all
        ∙ ap (of_columns (x ∷ later))
        (new_held nat_eq Decides-eqb t.relations (relation_in x) (map relation_in later) (ap is_some e)
        ∙ ap (λ l. new_by nat_eq l (map relation_in later)) (sym (append-nil t.relations)))
    by_relation None e = all ∙ ap (of_columns (x ∷ later)) (new_one nat_eq Decides-eqb t.relations (relation_in x) (map relation_in later) (ap is_some e))

-- the tables of relations that come to be held are those that the other columns tell
stays_one : (h : Held) (p : Pair) (k : CatalogColumn) (r : ℕ) (table : Name) → OneTable h r table → (p.0 ≡ r → k.table ≡ table) → (y : Option Name) → OneTable (column_of_relation h y p k) r table
stays_one h p k r table one same (Some held) = one
stays_one h p k r table one same None = λ held e.
    ⊎_elim
    (λ t. same_some (sym (cond-true (nat_eq p.0 r) (Some k.table) (h.relations r) t) ∙ e) (ap (λ v. Some v) (same ((Decides-eqb p.0 r).0 t))) ∙ refl)
    (λ n. one held (sym (cond-false (nat_eq p.0 r) (Some k.table) (h.relations r) n) ∙ e))
    (cases_Bool (nat_eq p.0 r))

-- the tables that columns tell, and those that are held, agree
pub record Agree (h : Held) (xs : List FoundColumn) : Type 0 where
  pub held : (x : FoundColumn) → Mem x xs → OneTable h x.0.0 x.1.table
  pub told : (x y : FoundColumn) → Mem x xs → Mem y xs → x.0.0 ≡ y.0.0 → x.1.table ≡ y.1.table

pub columns_kept : (xs : List FoundColumn) (h : Held) (t : Tables) → Stands h t → Agree h xs → Fits (sizes_of (extended t (new_columns t xs))) h.capacity →
    Stands (each column_kept h xs) (extended t (new_columns t xs))
columns_kept [] h t s agree fits = subst (Stands h) (sym (extended_none t)) s
columns_kept (x ∷ xs) h t s agree fits =
    ⊎_elim
    (λ y.
    let less : new_by same_pair t.columns (x ∷ xs) ≡ new_by same_pair t.columns xs = new_held same_pair same-pair t.columns x xs (held_so ∙ y) in
    let same : new_columns t (x ∷ xs) ≡ new_columns t xs = λ i. of_columns (less i) (new_by nat_eq t.relations (map relation_in (less i))) in
    let left : each column_kept h (x ∷ xs) ≡ each column_kept h xs = ap (λ (g : Held). each column_kept g xs) (column_left h x y) in
    let rest = columns_kept xs h t s (record { held = λ z m. agree.held z (inr m); told = λ z w m n. agree.told z w (inr m) (inr n) }) (subst (λ (u : Tables). Fits (sizes_of (extended t u)) h.capacity) same fits) in
    subst (λ (g : Held). Stands g (extended t (new_columns t (x ∷ xs)))) (sym left)
    (subst (λ (u : Tables). Stands (each column_kept h xs) (extended t u)) (sym same) rest))
    (λ y.
    let table = h.relations x.0.0 in
    let one : Tables = one_column table x.0 x.1 in
    let next : Tables = extended t one in
    let split : new_columns t (x ∷ xs) ≡ extended one (new_columns next xs) = first_column t x xs (held_so ∙ y) table (ap (λ (g : ℕ → Option Name). g x.0.0) s.relations) in
    let fits_so = subst (λ (u : Tables). Fits (sizes_of (extended t u)) h.capacity) split fits in
    let room = fits_room h (size_of_column table x.1) (subst (λ (z : Sizes). Fits (sum_of h.taken z) h.capacity) (size_one_column table x.0 x.1) (one_fits h t s one (new_columns next xs) fits_so)) in
    let g : Held = with_column h x.0 x.1 in
    let put : each column_kept h (x ∷ xs) ≡ each column_kept g xs = ap (λ (k : Held). each column_kept k xs) (column_added h x y room) in
    let stands : Stands g next = stands_column h t s x.0 x.1 (agree.held x (inl refl)) (is_none_if (h.columns x.0) y) in
    let agree_on : Agree g xs = record {
      held = λ z m. stays_one h x.0 x.1 z.0.0 z.1.table (agree.held z (inr m)) (λ e. agree.told x z (inl refl) (inr m) e) table;
      told = λ z w m n. agree.told z w (inr m) (inr n);
    } in
    let capacity : g.capacity ≡ h.capacity = column_capacity h table x.0 x.1 in
    let rest =
    columns_kept xs g next stands agree_on (subst (Fits (sizes_of (extended next (new_columns next xs)))) (sym capacity) (fits_on h t s one (new_columns next xs) fits_so)) in
    subst (λ (k : Held). Stands k (extended t (new_columns t (x ∷ xs)))) (sym put)
    (subst (Stands (each column_kept g xs)) (extended_assoc t one (new_columns next xs) ∙ ap (extended t) (sym split)) rest))
    (cases_Bool (is_some (h.columns x.0)))
  where
    held_so : is_some (look_up same_pair t.columns x.0) ≡ is_some (h.columns x.0)
    held_so = ap (λ (b : Book). is_some (b.columns x.0.0 x.0.1)) s.book

module _ (c : Catalog) (laws : Laws c) (h : Held) (related : RelatedBy c h) (asked : List Pair) where
  found_told : (x : FoundColumn) → Mem x (columns_found c asked) → c.columns x.0.0 x.0.1 ≡ Some x.1
  found_told x m = (values_mem same_pair same-pair (λ (p : Pair). c.columns p.0 p.1) asked x m).1

  found_agree : Agree h (columns_found c asked)
  found_agree = record {
    held = λ x m. related x.0.0 x.0.1 x.1 (found_told x m);
    told = λ x y m n e. laws.one_table y.0.0 x.0.1 y.0.1 x.1 y.1 (ap (λ r. c.columns r x.0.1) (sym e) ∙ found_told x m) (found_told y n);
  }

  pub columns_stand : (xs : List FoundColumn) → xs ≡ columns_found c asked → (t : Tables) → Stands h t → first_full h.capacity h.taken (sizes_of (columns_added c t asked)) ≡ None →
      Stands (each column_kept h xs) (with_columns c t asked)
  columns_stand xs same t s room =
      let taken : sum_of h.taken (sizes_of (columns_added c t asked)) ≡ sizes_of (extended t (columns_added c t asked)) =
      ap (λ (z : Sizes). sum_of z (sizes_of (columns_added c t asked))) (sym s.sizes) ∙ sym (sizes_with t (columns_added c t asked)) in
      let fits = subst (λ (z : Sizes). Fits z h.capacity) taken (fits_then h.capacity h.taken (sizes_of (columns_added c t asked)) room) in
      subst (λ (l : List FoundColumn). Stands (each column_kept h l) (with_columns c t asked)) (sym same) (columns_kept (columns_found c asked) h t s found_agree fits)

-- tables of a life whose columns are the catalog's have their relations' tables from it
pub related_by : (c : Catalog) → Laws c → (h : Held) (t : Tables) → Stands h t → added.Held t → Told c t → RelatedBy c h
related_by c laws h t s held told r a k e table there =
    let x = (held.related r table).0 (ap (λ (g : ℕ → Option Name). g r) s.relations ∙ there) in
    sym x.3 ∙ laws.one_table r x.0 a x.1 k (told (r, x.0) x.1 x.2) e
