-- The table's rules, each by one test that antt computes over the whole table, and what follows from them.
-- Assumes nothing.
use Rattle.std.proofs.Common.{◌≡◌, ℕ, ◌<◌, ◌≤◌, Bool, true, false, not, ltb, List, [], length, is_some, Some, None, Option, Bor, sym, refl, ap, ◌∙◌, subst, ⊎_elim, arith}
use Rattle.std.specs.List.{AllWithin, HoldsAt}
use Rattle.std.specs.Option.{MatchOption, option_copied}
use Rattle.std.specs.Str.{bytes_eq}
use Rattle.std.proofs.lemmas.Slice.Eq.{bytes_eq-Decides}
use Rattle.std.proofs.lemmas.Bool.{eqb-true, ltb-true, eq-eqb, ne_eqb, not-true, cases_order, both_ways}
use Rattle.type_info.specs.Table.{Entry, Kind, simple, pseudo, array, range, types, entries, at, first, has_oid, has_name, is_array_of, array_kind, by_oid, by_name, array_of, component}
use Rattle.type_info.specs.declared.builtin.BuiltIn.{BuiltIn}
use Rattle.type_info.specs.declared.builtin.BuiltInKind.TheVariants.{Simple}
use Rattle.type_info.specs.Meaning.{Lists, entry_of, found}
use Rattle.type_info.specs.Laws.{TableLaws}
use Rattle.type_info.proofs.First.{first-at, first-none, first_some, Place, all, all-at, pairs, pairs-at}

pub len : length entries ≡ 92
unfolding types entries
len = refl

abbrev before : Entry → Entry → Bool
before e f = ltb e.oid f.oid

abbrev apart : Entry → Entry → Bool
apart e f = not (bytes_eq e.name f.name)

abbrev stands : Option ℕ → Bool
stands None = true
stands (Some o) = is_some (by_oid o)

abbrev known : Entry → Bool
known e = stands (component e.kind)

-- whether the second is an array whose element is that of the first
abbrev same_element : Kind → Kind → Bool
same_element k simple = false
same_element k pseudo = false
same_element k (array e) = array_kind e k
same_element k (range e) = false

abbrev other_array : Entry → Entry → Bool
other_array e f = not (same_element e.kind f.kind)

befores : pairs before entries ≡ true
unfolding types entries
befores = refl

aparts : pairs apart entries ≡ true
unfolding types entries
aparts = refl

knowns : all known entries ≡ true
unfolding types entries
knowns = refl

other_arrays : pairs other_array entries ≡ true
unfolding types entries
other_arrays = refl

pub rising : (i j : ℕ) → i < j → j < 92 → (at i).oid < (at j).oid
rising i j l h = ltb-true (at i).oid (at j).oid (pairs-at before entries befores i j l (rw len h))

pub not-falling : (i j : ℕ) → i ≤ j → j < 92 → (at i).oid ≤ (at j).oid
not-falling i j l h =
    ⊎_elim (λ (e : i ≡ j). rw e (omega arith))
    (⊎_elim (λ (lt : i < j). let r = rising i j lt h in omega arith) (λ (lt : j < i). absurd (omega arith))) (cases_order i j)

pub by_oid-none : (o : ℕ) → ((k : ℕ) → k < 92 → (at k).oid ≡ o → ⊥) → by_oid o ≡ None
by_oid-none o f = first-none (has_oid o) entries (λ k l. ne_eqb (at k).oid o (f k (rw len at l)))

pub by_oid-at : (i : ℕ) → i < 92 → by_oid (at i).oid ≡ Some (at i)
by_oid-at i h =
    first-at (has_oid (at i).oid) entries i (rw len h) (eq-eqb (at i).oid (at i).oid refl)
    (λ k l. ne_eqb (at k).oid (at i).oid (let r = rising k i l h in λ e. omega (arith, e)))

apart-at : (i j : ℕ) → i < j → j < 92 → bytes_eq (at i).name (at j).name ≡ false
apart-at i j l h = not-true (bytes_eq (at i).name (at j).name) (pairs-at apart entries aparts i j l (rw len h))

by_name-at : (i : ℕ) → i < 92 → by_name (at i).name ≡ Some (at i)
by_name-at i h =
    first-at (has_name (at i).name) entries i (rw len h) ((bytes_eq-Decides (at i).name (at i).name).1 refl)
    (λ k l. apart-at k i l h)

distinct : (i j : ℕ) → i < 92 → j < 92 → (at i).name ≡ (at j).name → i ≡ j
distinct i j hi hj e =
    let same : bytes_eq (at i).name (at j).name ≡ true = (bytes_eq-Decides (at i).name (at j).name).1 e in
    let same' : bytes_eq (at j).name (at i).name ≡ true = (bytes_eq-Decides (at j).name (at i).name).1 (sym e) in
    ⊎_elim (λ q. q) (⊎_elim
    (λ l. absurd (both_ways (bytes_eq (at i).name (at j).name) (apart-at i j l hj) same))
    (λ l. absurd (both_ways (bytes_eq (at j).name (at i).name) (apart-at j i l hi) same')))
    (cases_order i j)

-- an entry that was found by any test stands at a place, and is found by its OID and by its name
module _ (p : Entry → Bool) (e : Entry) (r : Place p entries e) where
  within : r.at < 92
  within = rw len at r.within

  oid-again : by_oid e.oid ≡ Some e
  oid-again = subst (λ (x : Entry). by_oid x.oid ≡ Some x) r.is (by_oid-at r.at within)

  name-again : by_name e.name ≡ Some e
  name-again = subst (λ (x : Entry). by_name x.name ≡ Some x) r.is (by_name-at r.at within)

  known-again : known e ≡ true
  known-again = subst (λ (x : Entry). known x ≡ true) r.is (all-at known entries knowns r.at r.within)

an-array : (o : ℕ) (k : Kind) → array_kind o k ≡ true → k ≡ array o
an-array o simple t = absurd (both_ways false refl t)
an-array o pseudo t = absurd (both_ways false refl t)
an-array o (array e) t = ap array (eqb-true e o t)
an-array o (range e) t = absurd (both_ways false refl t)

-- the array of an element is the first, since no two have one element
array_at : (o i : ℕ) → i < 92 → (at i).kind ≡ array o → array_of o ≡ Some (at i)
array_at o i h is =
    first-at (is_array_of o) entries i (rw len h) (rw is (eq-eqb o o refl))
    (λ k l. not-true (array_kind o (at k).kind) (rw is at (pairs-at other_array entries other_arrays k i l (rw len h))))

-- an entry of the program's table that stands at a place and is the first to pass a test
pub hit :
    (p : Entry → Bool) (e : BuiltIn) (i : ℕ) → i < 92 → entry_of e ≡ at i → p (entry_of e) ≡ true →
    ((k : ℕ) → k < i → p (at k) ≡ false) → Some (entry_of e) ≡ first p entries
hit p e i h is t f =
    ap Some is ∙ sym (first-at p entries i (rw len h) (subst (λ (x : Entry). p x ≡ true) is t) f)

-- and where none does
pub miss : (p : Entry → Bool) → ((k : ℕ) → k < 92 → p (at k) ≡ false) → None ≡ first p entries
miss p f = sym (first-none p entries (λ k h. f k (rw len at h)))

-- what stands past the end of the program's table
abbrev pub blank : BuiltIn
blank = (record { 0 = 0 }, record { ref_ptr = (0, 0); now = [] }, Simple)

-- what a search of the program's table by a test tells
abbrev pub FirstFound : (Entry → Bool) → List BuiltIn → Option (Bor BuiltIn) → Type 0
FirstFound p t r =
    MatchOption r (AllWithin (λ b. p (entry_of b) ≡ false) t 0 (length t))
    (λ x. (p (entry_of x.now) ≡ true) × (i : ℕ) × (i < length t) × HoldsAt (λ y. y ≡ x.now) t i × AllWithin (λ b. p (entry_of b) ≡ false) t 0 i)

module _ (p : Entry → Bool) (t : List BuiltIn) (n : length t ≡ 92) (s : Lists t) where
  fails : (d : BuiltIn) (m : ℕ) → m ≤ 92 → AllWithin (λ b. p (entry_of b) ≡ false) t 0 m → (k : ℕ) → k < m → p (at k) ≡ false
  fails d m l f k h = subst (λ (x : Entry). p x ≡ false) (s k d (omega arith)) (f k d (omega arith) h)

  pub first_found : (r : Option (Bor BuiltIn)) → FirstFound p t r → found (option_copied r) ≡ first p entries
  first_found None f = miss p (fails blank 92 (omega arith) (subst (λ m. AllWithin (λ b. p (entry_of b) ≡ false) t 0 m) n f))
  first_found (Some x) f =
      let h : f.1 < 92 = omega (arith, n, f.2) in
      hit p x.now f.1 h (ap entry_of (sym (f.3 blank)) ∙ s f.1 blank h) f.0 (fails blank f.1 (omega arith) f.4)

pub laws : TableLaws
unfolding types entries
laws = record {
  count = refl;
  simples = refl;
  pseudos = refl;
  arrays = refl;
  ranges = refl;
  oids_rise = rising;
  names_differ = distinct;
  name_finds_again = λ o e h. let r = first_some (has_oid o) entries e h in (eqb-true e.oid o r.passes, name-again (has_oid o) e r);
  oid_finds_again = λ n e h. let r = first_some (has_name n) entries e h in ((bytes_eq-Decides e.name n).0 r.passes, oid-again (has_name n) e r);
  component_stands = λ o p e h is. rw is at (known-again (has_oid o) e (first_some (has_oid o) entries e h));
  array_is = λ o a h. let r = first_some (is_array_of o) entries a h in (an-array o a.kind r.passes, oid-again (is_array_of o) a r);
  array_only = λ o a h is.
      let r = first_some (has_oid a.oid) entries a h in
      let k : (at r.at).kind ≡ array o = ap (λ (x : Entry). x.kind) r.is ∙ is in
      array_at o r.at (within (has_oid a.oid) a r) k ∙ ap Some r.is;
}
