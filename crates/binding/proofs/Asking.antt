-- Columns are asked for one after the other.
-- Assumes nothing.
use Rattle.std.proofs.Common.{◌≡◌, ℕ, ◌+◌, ◌<◌, ◌≤◌, Bool, true, false, ◌||◌, cond, List, [], ◌∷◌, ◌++◌, length, is_some, Some, None, Option, option_map, option_to_list, sym, refl, ap, ◌∙◌, subst, ⊎_elim, arith, append-nil, length-append}
use Rattle.std.specs.List.{cons_option, list_any}
use Rattle.std.proofs.lemmas.Bool.{cases_Bool, or_from}
use Rattle.std.proofs.lemmas.List.{length-map, map-append}
use Rattle.std.proofs.lemmas.List.Elements.{filter_map-append}
use Rattle.catalog.specs.Catalog.{Catalog, CatalogColumn}
use Rattle.catalog.specs.Meaning.{column_meaning, column_told}
use Rattle.catalog.specs.declared.values.Column.{Column}
use Rattle.keys.specs.Kinds.{same-pair}
use Rattle.keys.specs.Senses.{Pair, pair_of, same_pair}
use Rattle.keys.specs.declared.kinds.Attribute.{Attribute}
use Rattle.indexes.specs.Known.{Gained, HasEmpty, Interned, by_attribute}
use Rattle.slots.specs.Slots.{Entry, filled}
use Rattle.slots.specs.Stack.{LentItems, Pushed}
use Rattle.life.specs.Lists.{fresh_by, push_all, push_new}
use Rattle.life.specs.Tests.{sources}
use Rattle.life.proofs.Fresh.{mem_push, pushed}
use Rattle.life.proofs.Lists.{chosen_false, chosen_true, is_none_if, not_both, same_truth}
use Rattle.requests.specs.Asked.{fields_of}
use Rattle.requests.specs.declared.asked.FieldAsked.{FieldAsked}
use Rattle.book.specs.Held.{Held}
use Rattle.book.proofs.Put.{pushed_behind, taken}
use Rattle.finds.specs.Columns.{columns_found, columns_told}
use Rattle.binding.specs.declared.memory.ColumnFinds.{ColumnFinds}
use Rattle.binding.specs.Asked.{Gathered, asked_of, source_of, unheld}

-- where a column is held
abbrev pub holds : Held → Pair → Bool
holds h p = is_some (h.columns p)

-- whether the first of the fields is to be asked for
module _ (h : Held) (f : FieldAsked) (fs : List FieldAsked) where
  abbrev asks : List FieldAsked → List Pair
  asks xs = fresh_by same_pair (holds h) [] (sources (fields_of xs))

  unheld_none : (p : Pair) → holds h p ≡ true → is_some (unheld h (Some p)) ≡ true → ⊥
  unheld_none p t e = not_both e (ap (λ v. is_some (cond v None (Some p))) t)

  unheld_one : (p : Pair) → holds h p ≡ false → is_some (unheld h (Some p)) ≡ false → ⊥
  unheld_one p t e = not_both (ap (λ v. is_some (cond v None (Some p))) t) e

  pub passes_one : is_some (unheld h (source_of f)) ≡ false → asks (f ∷ fs) ≡ asks fs
  passes_one = over (source_of f)
    where
      over : (s : Option Pair) → is_some (unheld h s) ≡ false → fresh_by same_pair (holds h) [] (option_to_list s ++ sources (fields_of fs)) ≡ asks fs
      over None e = refl
      over (Some p) e =
          ⊎_elim
          (λ t. chosen_true (holds h p || false) _ _ (ap (λ v. v || false) t))
          (λ n. absurd (unheld_one p n e))
          (cases_Bool (holds h p))

  pub takes_one : is_some (unheld h (source_of f)) ≡ true → asks (f ∷ fs) ≡ [] → ⊥
  takes_one = over (source_of f)
    where
      over : (s : Option Pair) → is_some (unheld h s) ≡ true → fresh_by same_pair (holds h) [] (option_to_list s ++ sources (fields_of fs)) ≡ [] → ⊥
      over None e none = absurd (not_both e refl)
      over (Some p) e none =
          ⊎_elim
          (λ t. absurd (unheld_none p t e))
          (λ n.
          let one : p ∷ fresh_by same_pair (holds h) (p ∷ []) (sources (fields_of fs)) ≡ [] = sym (chosen_false (holds h p || false) _ _ (ap (λ v. v || false) n)) ∙ none in
          absurd cc)
          (cases_Bool (holds h p))

same_way : (p q : Pair) → same_pair p q ≡ same_pair q p
same_way p q =
    same_truth (same_pair p q) (same_pair q p) (λ e. (same-pair q p).1 (sym ((same-pair p q).0 e))) (λ e. (same-pair p q).1 (sym ((same-pair q p).0 e)))

some_else : {V : Type 0} (t : Bool) (v : V) (x : Option V) → is_some (cond t (Some v) x) ≡ (t || is_some x)
some_else true v x = refl
some_else false v x = refl

few_found : (c : Catalog) (asked : List Pair) → length (columns_found c asked) ≤ length asked
few_found c [] = omega arith
few_found c (p ∷ asked) = one (c.columns p.0 p.1) (few_found c asked)
  where
    one : (k : Option CatalogColumn) → length (columns_found c asked) ≤ length asked → length (cons_option (option_map (λ v. (p, v)) k) (columns_found c asked)) ≤ length (p ∷ asked)
    one None few = omega arith
    one (Some k) few = omega arith

-- a source that is not held
unheld_some : (h : Held) (s : Option Pair) (p : Pair) → Some p ≡ unheld h s → (s ≡ Some p) × (holds h p ≡ false)
unheld_some h None p e = absurd cc
unheld_some h (Some q) p e =
    ⊎_elim
    (λ t. let none : Some p ≡ None = e ∙ ap (λ v. cond v None (Some q)) t in absurd cc)
    (λ n.
    let same : Some p ≡ Some q = e ∙ ap (λ v. cond v None (Some q)) n in
    let is : p ≡ q = cc in
    (sym same, ap (holds h) is ∙ n))
    (cases_Bool (holds h q))

-- one more column was asked for
module _ (h : Held) (c : Catalog) (asked : List Pair) (f : ColumnFinds) (so : Gathered c asked f) where
  module _ (few : length asked < 256) (at : Attribute) (s : Option Pair) (is : Some (pair_of at) ≡ unheld h s) (absent : is_some (by_attribute f.asked (pair_of at)) ≡ false)
      (index : List (Entry Attribute ℕ)) (r : Option ℕ)
      (interned : Interned (by_attribute f.asked (pair_of at)) 0 (HasEmpty f.asked) (Gained same_pair pair_of f.asked (pair_of at) 0 index) (index ≡ f.asked) r) where
    abbrev p : Pair
    p = pair_of at

    gained : Gained same_pair pair_of f.asked p 0 index
    gained = taken (by_attribute f.asked p) 0 _ _ _ r interned (is_none_if (by_attribute f.asked p) absent) (omega (arith, f.lent.asked_lent, so.counted))

    one_more : push_all same_pair (holds h) asked (option_to_list s) ≡ asked ++ p ∷ []
    one_more =
        let source = unheld_some h s p is in
        ap (λ v. push_all same_pair (holds h) asked (option_to_list v)) source.0
        ∙ chosen_false (holds h p || list_any (same_pair p) asked) _ _ (or_from (holds h p) (list_any (same_pair p) asked) source.1 (sym (so.indexed p) ∙ absent))

    leads : (q : Pair) → is_some (by_attribute index q) ≡ list_any (same_pair q) (asked ++ p ∷ [])
    leads q =
        ap is_some (gained.holds q)
        ∙ some_else (same_pair p q) 0 (by_attribute f.asked q)
        ∙ (λ i. same_way p q i || so.indexed q i)
        ∙ sym (mem_push same_pair same-pair (holds h) p q asked)

    counts : filled index ≡ length (asked ++ p ∷ [])
    counts = gained.count ∙ omega (arith, so.counted, length-append asked (p ∷ []))

    finds : (k : Option CatalogColumn) → c.columns p.0 p.1 ≡ k → columns_found c (asked ++ p ∷ []) ≡ columns_found c asked ++ cons_option (option_map (λ v. (p, v)) k) []
    finds k e = filter_map-append (λ (q : Pair). option_map (λ v. (q, v)) (c.columns q.0 q.1)) asked (p ∷ []) ∙ ap (λ v. columns_found c asked ++ cons_option (option_map (λ w. (p, w)) v) []) e

    -- the catalog has it
    pub asked_found : (g : ColumnFinds) → g.asked ≡ index → (k : Column) → column_told (Some k) ≡ c.columns p.0 p.1 → (d : Option (Unit {0})) → Pushed f.found (at, k) d g.found →
        Gathered c (push_all same_pair (holds h) asked (option_to_list s)) g
    asked_found g same k told d laid =
        let long : length (columns_told f.found.items) ≡ length f.found.items = length-map f.found.items (λ (x : Attribute × Column). (pair_of x.0, column_meaning x.1)) in
        let behind = pushed_behind f.found (at, k) d g.found laid (omega (arith, f.lent.found_lent, few_found c asked, ap length so.found)) in
        subst (λ (ps : List Pair). Gathered c ps g) (sym one_more) (record {
          indexed = λ q. ap (λ es. is_some (by_attribute es q)) same ∙ leads q;
          counted = ap filled same ∙ counts;
          found =
              ap columns_told behind.0
              ∙ map-append (λ (x : Attribute × Column). (pair_of x.0, column_meaning x.1)) f.found.items ((at, k) ∷ [])
              ∙ ap (λ xs. xs ++ (p, column_meaning k) ∷ []) so.found
              ∙ sym (finds (Some (column_meaning k)) (sym told));
        })

    -- or not
    pub asked_none : (g : ColumnFinds) → g.asked ≡ index → g.found ≡ f.found → None ≡ c.columns p.0 p.1 → Gathered c (push_all same_pair (holds h) asked (option_to_list s)) g
    asked_none g same found told =
        subst (λ (ps : List Pair). Gathered c ps g) (sym one_more) (record {
          indexed = λ q. ap (λ es. is_some (by_attribute es q)) same ∙ leads q;
          counted = ap filled same ∙ counts;
          found = ap (λ (x : LentItems (Attribute × Column)). columns_told x.items) found ∙ so.found ∙ sym (append-nil (columns_found c asked)) ∙ sym (finds None (sym told));
        })

-- of all fields, these columns were asked for, and these fields are left
pub record Asking (c : Catalog) (h : Held) (all rest : List FieldAsked) (n : ℕ) (f : ColumnFinds) : Type 0 where
  pub asked : List Pair
  pub gathered : Gathered c asked f
  pub few : length asked ≤ n
  pub left : push_all same_pair (holds h) asked (sources (fields_of rest)) ≡ asked_of h all

module _ (c : Catalog) (h : Held) (all : List FieldAsked) where
  pub asking_begun : (f : ColumnFinds) → Gathered c [] f → Asking c h all all 0 f
  asking_begun f so = record { asked = []; gathered = so; few = omega arith; left = pushed same_pair same-pair (holds h) (sources (fields_of all)) [] }

  one_longer : (asked : List Pair) (p : Pair) → length (push_new same_pair (holds h) asked p) ≤ length asked + 1
  one_longer asked p =
      let test = holds h p || list_any (same_pair p) asked in
      ⊎_elim
      (λ t. subst (λ (ps : List Pair). length ps ≤ length asked + 1) (sym (chosen_true test asked (asked ++ p ∷ []) t)) (omega arith))
      (λ n. subst (λ (ps : List Pair). length ps ≤ length asked + 1) (sym (chosen_false test asked (asked ++ p ∷ []) n)) (omega (arith, length-append asked (p ∷ []))))
      (cases_Bool test)

  by_source : (asked : List Pair) (later : List FieldAsked) (s : Option Pair) →
      (length (push_all same_pair (holds h) asked (option_to_list s)) ≤ length asked + 1) ×
      (push_all same_pair (holds h) (push_all same_pair (holds h) asked (option_to_list s)) (sources (fields_of later)) ≡ push_all same_pair (holds h) asked (option_to_list s ++ sources (fields_of later)))
  by_source asked later None = (omega arith, refl)
  by_source asked later (Some p) = (one_longer asked p, refl)

  pub asking_more : (rest : List FieldAsked) (n : ℕ) (f : ColumnFinds) (x : FieldAsked) (later : List FieldAsked) (g : ColumnFinds) → rest ≡ x ∷ later → n < 256 → Asking c h all rest n f →
      ((asked : List Pair) → Gathered c asked f → length asked < 256 → Gathered c (push_all same_pair (holds h) asked (option_to_list (source_of x))) g) → Asking c h all later (n + 1) g
  asking_more rest n f x later g next few so on =
      let by = by_source so.asked later (source_of x) in
      record {
        asked = push_all same_pair (holds h) so.asked (option_to_list (source_of x));
        gathered = on so.asked so.gathered (omega (arith, so.few));
        few = omega (arith, so.few, by.0);
        left = by.1 ∙ sym (ap (λ xs. push_all same_pair (holds h) so.asked (sources (fields_of xs))) next) ∙ so.left;
      }

  pub asking_done : (rest : List FieldAsked) (n : ℕ) (f : ColumnFinds) → rest ≡ [] → Asking c h all rest n f → Gathered c (asked_of h all) f
  asking_done rest n f none so =
      subst (λ (ps : List Pair). Gathered c ps f) (sym (ap (λ xs. push_all same_pair (holds h) so.asked (sources (fields_of xs))) none) ∙ so.left) so.gathered
