-- Columns counted one after the other, a relation at the first of its columns, take what is new of them.
-- Assumes nothing.
use Rattle.std.proofs.Common.{◌≡◌, ℕ, ◌+◌, ◌*◌, ◌≤◌, Bool, true, false, ◌||◌, if◌then◌else◌, List, [], ◌∷◌, ◌++◌, length, map, nat_eq, is_some, Some, None, Option, sym, refl, ap, ◌∙◌, subst, arith, length-append}
use Rattle.std.specs.Option.{option_or}
use Rattle.std.proofs.Math.Bool.{or-false}
use Rattle.std.proofs.lemmas.Bool.Decides.{Decides-eqb}
use Rattle.type_info.specs.declared.oid.Oid.{Oid}
use Rattle.catalog.specs.Catalog.{Catalog}
use Rattle.catalog.specs.Shape.{Name}
use Rattle.indexes.specs.Known.{by_oid}
use Rattle.keys.specs.Kinds.{same-pair}
use Rattle.keys.specs.Senses.{Pair, same_pair}
use Rattle.slots.specs.Slots.{Entry, filled}
use Rattle.unfolding.specs.Lists.{Distinct}
use Rattle.life.specs.Lists.{is_in}
use Rattle.life.specs.Steps.{Book}
use Rattle.room.specs.Added.{Once, columns_added, new_by}
use Rattle.room.specs.Sizes.{Sizes, sizes_of}
use Rattle.room.specs.Tables.{Tables, look_up}
use Rattle.room.proofs.LookUp.{look_append}
use Rattle.room.proofs.Order.{sizes_with}
use Rattle.book.specs.Held.{FewOf, Held, size_of_column_name, size_of_relation, sum_of}
use Rattle.book.specs.Stands.{Stands, one_column}
use Rattle.finds.specs.Columns.{Counted, CountedIn, FoundColumn, column_counted, column_size, columns_found, counted_from, counted_so, nothing_counted, size_of_columns}
use Rattle.finds.proofs.Grown.{in_one_more, leads_on}
use Rattle.finds.proofs.News.{new_apart, new_held, new_one}
use Rattle.finds.proofs.Related.{of_columns, relation_in, size_one_column}
use Rattle.finds.proofs.Told.{values_once}
use Rattle.finds.proofs.Steps.{few_sum, none_sum, sum_assoc, sum_none}

pub counted_more : (h : Held) (s : Counted) (xs : List FoundColumn) (x : FoundColumn) → counted_from h s (xs ++ x ∷ []) ≡ column_counted h (counted_from h s xs) x
counted_more h s [] x = refl
counted_more h s (y ∷ xs) x = counted_more h (column_counted h s y) xs x

-- an index that leads to the relations that are counted, of n columns
pub record Leading (n : ℕ) (s : Counted) (seen : List (Entry Oid ℕ)) : Type 0 where
  pub leads : (r : ℕ) → is_some (by_oid seen r) ≡ is_in r s.relations
  pub count : filled seen ≡ length s.relations
  pub short : length s.relations ≤ n

-- it does so after one more
pub leading_on : (n : ℕ) (s : Counted) (seen now : List (Entry Oid ℕ)) → Leading n s seen → (held related : Bool) (x : FoundColumn) → CountedIn held related seen x.0.0 now →
    Leading (n + 1) (counted_so held related s x) now × (length now ≡ length seen)
leading_on n s seen now l true related x same =
    (subst (λ (es : List (Entry Oid ℕ)). Leading (n + 1) (counted_so true related s x) es) (sym same) (record { leads = l.leads; count = l.count; short = omega (arith, l.short) }), ap length same)
leading_on n s seen now l false true x same =
    (subst (λ (es : List (Entry Oid ℕ)). Leading (n + 1) (counted_so false true s x) es) (sym same) (record { leads = l.leads; count = l.count; short = omega (arith, l.short) }), ap length same)
leading_on n s seen now l false false x gained = (
  record {
    leads = leads_on seen s.relations x.0.0 0 now l.leads gained;
    count = omega (arith, gained.count, l.count, length-append s.relations (x.0.0 ∷ []));
    short = omega (arith, l.short, length-append s.relations (x.0.0 ∷ []));
  },
  gained.size,
)

-- what is counted so far of columns, in sizes of the code
pub record Counting (h : Held) (slots n : ℕ) (xs : List FoundColumn) (sizes : Sizes) (seen : List (Entry Oid ℕ)) : Type 0 where
  pub told : sizes ≡ (counted_from h nothing_counted xs).sizes
  pub leading : Leading n (counted_from h nothing_counted xs) seen
  pub same : length seen ≡ slots
  pub few : FewOf (16384 * n) sizes

pub counting_on :
    (h : Held) (slots n : ℕ) (xs : List FoundColumn) (sizes : Sizes) (seen : List (Entry Oid ℕ)) → Counting h slots n xs sizes seen → (x : FoundColumn) (more after : Sizes) (now : List (Entry Oid ℕ)) →
    more ≡ column_size (is_some (h.columns x.0)) (is_some (h.relations x.0.0) || is_some (by_oid seen x.0.0)) x.1 →
    CountedIn (is_some (h.columns x.0)) (is_some (h.relations x.0.0) || is_some (by_oid seen x.0.0)) seen x.0.0 now →
    FewOf 16384 more → after ≡ sum_of sizes more → (ys : List FoundColumn) → ys ≡ xs ++ x ∷ [] → Counting h slots (n + 1) ys after now
counting_on h slots n xs sizes seen c x more after now size counted few total ys next =
    let s = counted_from h nothing_counted xs in
    let held = is_some (h.columns x.0) in
    let related : (is_some (h.relations x.0.0) || is_some (by_oid seen x.0.0)) ≡ (is_some (h.relations x.0.0) || is_in x.0.0 s.relations) = ap (λ v. is_some (h.relations x.0.0) || v) (c.leading.leads x.0.0) in
    let grown : counted_from h nothing_counted ys ≡ column_counted h s x = ap (counted_from h nothing_counted) next ∙ counted_more h nothing_counted xs x in
    let on = leading_on n s seen now c.leading held (is_some (h.relations x.0.0) || is_in x.0.0 s.relations) x (subst (λ v. CountedIn held v seen x.0.0 now) related counted) in
    let many : 16384 * n + 16384 ≡ 16384 * (n + 1) = omega arith in
    record {
      told = total ∙ (λ i. sum_of (c.told i) ((size ∙ ap (λ v. column_size held v x.1) related) i)) ∙ sym (ap (λ (k : Counted). k.sizes) grown);
      leading = subst (λ (k : Counted). Leading (n + 1) k now) (sym grown) on.0;
      same = on.1 ∙ c.same;
      few = subst (λ m. FewOf m after) many (few_sum (16384 * n) 16384 sizes more after c.few few total);
    }

-- all that is counted is what is new
module _ (h : Held) (t : Tables) (st : Stands h t) where
  abbrev later : List FoundColumn → List FoundColumn
  later xs = new_by same_pair t.columns xs

  -- of columns, where these relations are held
  abbrev new_where : List (ℕ × Name) → List FoundColumn → Tables
  new_where rs xs = of_columns (later xs) (new_by nat_eq rs (map relation_in (later xs)))

  abbrev Same : List (ℕ × Name) → Counted → Type 0
  Same rs s = (r : ℕ) → is_some (look_up nat_eq rs r) ≡ (is_some (h.relations r) || is_in r s.relations)

  some_more : {V : Type 0} (x : Option V) (y v b : Bool) (w : V) → is_some x ≡ (y || b) → (look : Option V) → look ≡ (if v then Some w else None) → is_some (option_or x look) ≡ (y || (v || b))
  some_more None true v b w e look l = absurd cc
  some_more None false true b w e look l = ap is_some l
  some_more None false false b w e look l = ap is_some l ∙ e
  some_more (Some a) true v b w e look l = refl
  some_more (Some a) false true b w e look l = refl
  some_more (Some a) false false b w e look l = e

  same_on : (rs : List (ℕ × Name)) (s : Counted) (x : FoundColumn) → Same rs s → Same (rs ++ relation_in x ∷ []) (counted_so false false s x)
  same_on rs s x same r =
      ap is_some (look_append nat_eq Decides-eqb rs (relation_in x ∷ []) r)
      ∙ some_more (look_up nat_eq rs r) (is_some (h.relations r)) (nat_eq r x.0.0) (is_in r s.relations) x.1.table (same r) (look_up nat_eq (relation_in x ∷ []) r) refl
      ∙ ap (λ v. is_some (h.relations r) || v) (sym (in_one_more r x.0.0 s.relations))

  counted_all : (xs : List FoundColumn) (rs : List (ℕ × Name)) (s : Counted) → Same rs s → Once xs → (counted_from h s xs).sizes ≡ sum_of s.sizes (sizes_of (new_where rs xs))
  counted_all [] rs s same once = sym (sum_none s.sizes)
  counted_all (x ∷ xs) rs s same once =
      by_case (is_some (h.columns x.0)) (is_some (h.relations x.0.0) || is_in x.0.0 s.relations) refl refl (counted_all xs)
    where
      held_so : is_some (look_up same_pair t.columns x.0) ≡ is_some (h.columns x.0)
      held_so = ap (λ (b : Book). is_some (b.columns x.0.0 x.0.1)) st.book

      by_case :
          (held related : Bool) → is_some (h.columns x.0) ≡ held → (is_some (h.relations x.0.0) || is_in x.0.0 s.relations) ≡ related →
          ((rs : List (ℕ × Name)) (s : Counted) → Same rs s → Once xs → (counted_from h s xs).sizes ≡ sum_of s.sizes (sizes_of (new_where rs xs))) →
          (counted_from h (counted_so held related s x) xs).sizes ≡ sum_of s.sizes (sizes_of (new_where rs (x ∷ xs)))
      by_case true related e g rest =
          rest rs (counted_so true related s x) same once.1
          ∙ (λ i. sum_of (sum_none s.sizes i) (sizes_of (of_columns (less i) (new_by nat_eq rs (map relation_in (less i))))))
        where
          less : later xs ≡ later (x ∷ xs)
          less = sym (new_held same_pair same-pair t.columns x xs (held_so ∙ e))
      by_case false true e g rest =
          rest rs (counted_so false true s x) same once.1
          ∙ sym (sum_assoc s.sizes (size_of_column_name x.1.column) (sizes_of (new_where rs xs)))
          ∙ ap (sum_of s.sizes)
          ((λ i. sum_of (sym (size_one_column (Some []) x.0 x.1) i) (sizes_of (new_where rs xs)))
          ∙ sym (sizes_with (one_column (Some []) x.0 x.1) (new_where rs xs))
          ∙ (λ i. sizes_of (of_columns (x ∷ later xs) (relations i)))
          ∙ (λ i. sizes_of (of_columns (more i) (new_by nat_eq rs (map relation_in (more i))))))
        where
          more : x ∷ later xs ≡ later (x ∷ xs)
          more = sym (new_apart same_pair same-pair t.columns x xs (held_so ∙ e) once.0)

          relations : new_by nat_eq rs (map relation_in (later xs)) ≡ new_by nat_eq rs (relation_in x ∷ map relation_in (later xs))
          relations = sym (new_held nat_eq Decides-eqb rs (relation_in x) (map relation_in (later xs)) (same x.0.0 ∙ g))
      by_case false false e g rest =
          rest (rs ++ relation_in x ∷ []) (counted_so false false s x) (same_on rs s x same) once.1
          ∙ sym (sum_assoc s.sizes (sum_of (size_of_column_name x.1.column) (size_of_relation x.1.table)) (sizes_of (new_where (rs ++ relation_in x ∷ []) xs)))
          ∙ ap (sum_of s.sizes)
          ((λ i. sum_of (sym (size_one_column None x.0 x.1) i) (sizes_of (new_where (rs ++ relation_in x ∷ []) xs)))
          ∙ sym (sizes_with (one_column None x.0 x.1) (new_where (rs ++ relation_in x ∷ []) xs))
          ∙ (λ i. sizes_of (of_columns (x ∷ later xs) (relations i)))
          ∙ (λ i. sizes_of (of_columns (more i) (new_by nat_eq rs (map relation_in (more i))))))
        where
          more : x ∷ later xs ≡ later (x ∷ xs)
          more = sym (new_apart same_pair same-pair t.columns x xs (held_so ∙ e) once.0)

          relations : relation_in x ∷ new_by nat_eq (rs ++ relation_in x ∷ []) (map relation_in (later xs)) ≡ new_by nat_eq rs (relation_in x ∷ map relation_in (later xs))
          relations = sym (new_one nat_eq Decides-eqb rs (relation_in x) (map relation_in (later xs)) (same x.0.0 ∙ g))

  module _ (c : Catalog) (asked : List Pair) (once : Distinct asked) where
    pub columns_size : (xs : List FoundColumn) → xs ≡ columns_found c asked → size_of_columns h xs ≡ sizes_of (columns_added c t asked)
    columns_size xs same =
        let held_first : Same t.relations nothing_counted = λ r. ap (λ (g : ℕ → Option Name). is_some (g r)) st.relations ∙ sym (or-false (is_some (h.relations r))) in
        ap (size_of_columns h) same
        ∙ counted_all (columns_found c asked) t.relations nothing_counted held_first (values_once same_pair same-pair (λ (p : Pair). c.columns p.0 p.1) asked once)
        ∙ none_sum (sizes_of (columns_added c t asked))
