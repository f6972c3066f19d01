-- What a catalog means. Assumes nothing.
use Rattle.std.specs.Prelude.{◌≡◌, ℕ, ◌-◌, ◌≤◌, List, [], ◌∷◌, length, ℤ, Some, None, Option}

pub record CatalogAttribute : Type 0 where
  pub called : List ℕ
  pub typed : ℕ

pub record CatalogRow : Type 0 where
  pub pretty : List ℕ
  pub typtype : ℕ
  pub typcategory : ℕ
  pub typelem : Option ℕ
  pub typbasetype : Option ℕ
  pub rngsubtype : Option ℕ
  pub typarray : Option ℕ
  pub labels : List (List ℕ)
  pub attributes : List CatalogAttribute

pub record CatalogColumn : Type 0 where
  pub table : List ℕ
  pub column : List ℕ

pub record Catalog : Type 0 where
  pub rows : ℕ → Option CatalogRow
  pub named : List ℕ → Option ℕ
  pub columns : ℕ → ℤ → Option CatalogColumn
  pub allowance : ℕ

-- every element
abbrev pub Each : {X : Type 0} → (X → Type 0) → List X → Type 0
Each P [] = Unit {0}
Each P (x ∷ xs) = P x × Each P xs

abbrev pub Sized : ℕ → List ℕ → Type 0
Sized most s = (1 ≤ length s) × (length s ≤ most)

abbrev pub Nonzero : Option ℕ → Type 0
Nonzero None = Unit {0}
Nonzero (Some n) = 1 ≤ n

pub record RowFits (r : CatalogRow) : Type 0 where
  pub pretty_fits : Sized 128 r.pretty
  pub elem_fits : Nonzero r.typelem
  pub base_fits : Nonzero r.typbasetype
  pub sub_fits : Nonzero r.rngsubtype
  pub array_fits : Nonzero r.typarray
  pub labels_few : length r.labels ≤ 64
  pub labels_fit : Each (Sized 63) r.labels
  pub attributes_few : length r.attributes ≤ 64
  pub attributes_fit : Each (λ a. Sized 63 a.called × (1 ≤ a.typed)) r.attributes

pub record Laws (c : Catalog) : Type 0 where
  pub nonzero : c.rows 0 ≡ None
  pub rows_fit : (o : ℕ) (r : CatalogRow) → c.rows o ≡ Some r → RowFits r
  pub names_fit : (s : List ℕ) (o : ℕ) → c.named s ≡ Some o → Sized 128 s
  pub columns_fit : (o : ℕ) (a : ℤ) (k : CatalogColumn) → c.columns o a ≡ Some k → Sized 128 k.table × Sized 63 k.column
  pub pretty_leads : (o : ℕ) (r : CatalogRow) → c.rows o ≡ Some r → c.named r.pretty ≡ Some o
  pub named_stands : (s : List ℕ) (o : ℕ) → c.named s ≡ Some o → (r : CatalogRow) × (c.rows o ≡ Some r)
  pub one_table : (o : ℕ) (a b : ℤ) (k m : CatalogColumn) → c.columns o a ≡ Some k → c.columns o b ≡ Some m → k.table ≡ m.table

-- c with the allowance n
abbrev pub spent : Catalog → ℕ → Catalog
spent c n = record { rows = c.rows; named = c.named; columns = c.columns; allowance = n }

-- a round was opened: only the allowance fell, by one
pub record Opened (c d : Catalog) : Type 0 where
  pub some : 1 ≤ c.allowance
  pub after : d ≡ spent c (c.allowance - 1)

-- a round was refused
pub record Shut (c d : Catalog) : Type 0 where
  pub none : c.allowance ≡ 0
  pub same : d ≡ c

-- n rounds were opened, and no more happened
pub record Spent (n : ℕ) (c d : Catalog) : Type 0 where
  pub enough : n ≤ c.allowance
  pub after : d ≡ spent c (c.allowance - n)

-- what c holds stands unaltered in d
pub record Grows (c d : Catalog) : Type 0 where
  pub rows_stay : (o : ℕ) (r : CatalogRow) → c.rows o ≡ Some r → d.rows o ≡ Some r
  pub named_stay : (s : List ℕ) (o : ℕ) → c.named s ≡ Some o → d.named s ≡ Some o
  pub columns_stay : (o : ℕ) (a : ℤ) (k : CatalogColumn) → c.columns o a ≡ Some k → d.columns o a ≡ Some k
