-- What holds of the whole table of built-in types.
-- Assumes nothing.
use Rattle.std.specs.Prelude.{◌≡◌, ℕ, ◌+◌, ◌<◌, Bool, true, false, cond, List, [], ◌∷◌, length, is_some, Some}
use Rattle.type_info.specs.Table.{Kind, simple, pseudo, array, range, Entry, entries, at, by_oid, by_name, array_of, component}

abbrev pub is_simple : Kind → Bool
is_simple simple = true
is_simple pseudo = false
is_simple (array e) = false
is_simple (range e) = false

abbrev pub is_pseudo : Kind → Bool
is_pseudo simple = false
is_pseudo pseudo = true
is_pseudo (array e) = false
is_pseudo (range e) = false

abbrev pub is_array : Kind → Bool
is_array simple = false
is_array pseudo = false
is_array (array e) = true
is_array (range e) = false

abbrev pub is_range : Kind → Bool
is_range simple = false
is_range pseudo = false
is_range (array e) = false
is_range (range e) = true

-- how many entries have a kind that passes a test
abbrev pub counted : (Kind → Bool) → List Entry → ℕ
counted p [] = 0
counted p (e ∷ es) = cond (p e.kind) 1 0 + counted p es

pub record TableLaws : Type 0 where
  pub count : length entries ≡ 92
  pub simples : counted is_simple entries ≡ 40
  pub pseudos : counted is_pseudo entries ≡ 1
  pub arrays : counted is_array entries ≡ 45
  pub ranges : counted is_range entries ≡ 6
  pub oids_rise : (i j : ℕ) → i < j → j < 92 → (at i).oid < (at j).oid
  pub names_differ : (i j : ℕ) → i < 92 → j < 92 → (at i).name ≡ (at j).name → i ≡ j
  -- what is found by an OID is found by its name, and what is found by a name is found by its OID
  pub name_finds_again : (o : ℕ) (e : Entry) → by_oid o ≡ Some e → (e.oid ≡ o) × (by_name e.name ≡ Some e)
  pub oid_finds_again : (n : List ℕ) (e : Entry) → by_name n ≡ Some e → (e.name ≡ n) × (by_oid e.oid ≡ Some e)
  -- what an array or a range is built of stands in the table
  pub component_stands : (o p : ℕ) (e : Entry) → by_oid o ≡ Some e → component e.kind ≡ Some p → is_some (by_oid p) ≡ true
  -- the array of an element is an array of it, and the only one
  pub array_is : (o : ℕ) (a : Entry) → array_of o ≡ Some a → (a.kind ≡ array o) × (by_oid a.oid ≡ Some a)
  pub array_only : (o : ℕ) (a : Entry) → by_oid a.oid ≡ Some a → a.kind ≡ array o → array_of o ≡ Some a
