-- What a book holds: its descriptors, names, array links and columns, and how much room is taken and may be.
-- Assumes nothing.
use Rattle.std.specs.Prelude.{ℕ, ◌+◌, ◌≤◌, Bool, not, List, [], ◌∷◌, ◌++◌, length, nat_eq, bytes_eq, is_some, Some, None, Option}
use Rattle.std.specs.Map.{update}
use Rattle.catalog.specs.Catalog.{CatalogColumn}
use Rattle.catalog.specs.Shape.{Name}
use Rattle.keys.specs.Senses.{Pair, same_pair}
use Rattle.life.specs.Steps.{Book}
use Rattle.room.specs.Sizes.{Sizes, bytes, first_full}
use Rattle.book.specs.Descriptions.{Description, Member, described_by, names_of}

pub record Held : Type 0 where
  -- the oldest first
  pub descriptions : List Description
  pub members : List Member
  pub names : Name → Option ℕ
  pub arrays : ℕ → Option ℕ
  pub columns : Pair → Option CatalogColumn
  -- the table of each relation of which a column is held
  pub relations : ℕ → Option Name
  pub taken : Sizes
  pub capacity : Sizes

-- the book that it is
abbrev pub book_held : Held → Book
book_held h = record {
  descriptors = described_by h.descriptions;
  names = h.names;
  arrays = h.arrays;
  columns = λ r a. h.columns (r, a);
}

abbrev pub no_sizes : Sizes
no_sizes = record { descriptors = 0; parts = 0; names = 0; arrays = 0; text = 0; columns = 0; relations = 0 }

abbrev pub sum_of : Sizes → Sizes → Sizes
sum_of s more = record {
  descriptors = s.descriptors + more.descriptors;
  parts = s.parts + more.parts;
  names = s.names + more.names;
  arrays = s.arrays + more.arrays;
  text = s.text + more.text;
  columns = s.columns + more.columns;
  relations = s.relations + more.relations;
}

-- no table holds more than it may
pub record Fits (taken capacity : Sizes) : Type 0 where
  pub descriptors : taken.descriptors ≤ capacity.descriptors
  pub parts : taken.parts ≤ capacity.parts
  pub names : taken.names ≤ capacity.names
  pub arrays : taken.arrays ≤ capacity.arrays
  pub text : taken.text ≤ capacity.text
  pub columns : taken.columns ≤ capacity.columns
  pub relations : taken.relations ≤ capacity.relations

-- each is n at most
pub record FewOf (n : ℕ) (s : Sizes) : Type 0 where
  pub descriptors : s.descriptors ≤ n
  pub parts : s.parts ≤ n
  pub names : s.names ≤ n
  pub arrays : s.arrays ≤ n
  pub text : s.text ≤ n
  pub columns : s.columns ≤ n
  pub relations : s.relations ≤ n

-- nothing is held, at some capacity
abbrev pub nothing_held : Sizes → Held
nothing_held capacity = record {
  descriptions = [];
  members = [];
  names = λ n. None;
  arrays = λ e. None;
  columns = λ p. None;
  relations = λ r. None;
  taken = no_sizes;
  capacity = capacity;
}

-- what parts, a descriptor whose parts are there, a name, an array link and a column take
abbrev pub size_of_members : List Member → Sizes
size_of_members ms = record no_sizes { parts = length ms; text = bytes (names_of ms) }

abbrev pub size_of_name : Name → Sizes
size_of_name n = record no_sizes { names = 1; text = length n }

abbrev pub size_of_description : Name → Sizes
size_of_description n = record no_sizes { descriptors = 1; text = length n }

abbrev pub size_of_array : Sizes
size_of_array = record no_sizes { arrays = 1 }

abbrev pub size_of_relation : (table : Name) → Sizes
size_of_relation table = record no_sizes { text = length table; relations = 1 }

abbrev pub size_of_column_name : Name → Sizes
size_of_column_name n = record no_sizes { text = length n; columns = 1 }

-- and a column of a relation whose table is held, or not yet
abbrev pub size_of_column : Option Name → CatalogColumn → Sizes
size_of_column (Some table) k = size_of_column_name k.column
size_of_column None k = sum_of (size_of_column_name k.column) (size_of_relation k.table)

abbrev pub with_members : Held → List Member → Held
with_members h ms = record h { members = h.members ++ ms; taken = sum_of h.taken (size_of_members ms) }

abbrev pub with_description : Held → Description → Held
with_description h d = record h {
  descriptions = h.descriptions ++ d ∷ [];
  taken = sum_of h.taken (size_of_description d.name);
}

abbrev pub with_name : Held → Name → ℕ → Held
with_name h n o = record h {
  names = update bytes_eq h.names n (Some o);
  taken = sum_of h.taken (size_of_name n);
}

abbrev pub with_array : Held → (element array : ℕ) → Held
with_array h e a = record h {
  arrays = update nat_eq h.arrays e (Some a);
  taken = sum_of h.taken size_of_array;
}

abbrev pub with_relation : Held → ℕ → (table : Name) → Held
with_relation h r table = record h {
  relations = update nat_eq h.relations r (Some table);
  taken = sum_of h.taken (size_of_relation table);
}

abbrev pub with_column_name : Held → Pair → (table column : Name) → Held
with_column_name h p table column = record h {
  columns = update same_pair h.columns p (Some (record { table = table; column = column }));
  taken = sum_of h.taken (size_of_column_name column);
}

-- a relation whose table is held keeps it
abbrev pub column_of_relation : Held → Option Name → Pair → CatalogColumn → Held
column_of_relation h (Some table) p k = with_column_name h p table k.column
column_of_relation h None p k = with_column_name (with_relation h p.0 k.table) p k.table k.column

abbrev pub with_column : Held → Pair → CatalogColumn → Held
with_column h p k = column_of_relation h (h.relations p.0) p k

-- there is room for so much more
abbrev pub has_room : Held → Sizes → Bool
has_room h more = not (is_some (first_full h.capacity h.taken more))
