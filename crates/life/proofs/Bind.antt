-- A computed Bind is a step of any life; what its column round asks for and tells.
-- Assumes nothing.
use Rattle.std.proofs.Common.{◌≡◌, ℕ, zero, suc, ◌+◌, ◌-◌, ◌≤◌, Bool, true, false, cond, ◌&&◌, ◌⊎◌, ◌↔◌, List, [], ◌∷◌, ℤ, is_some, Some, None, Option, sym, refl, ap, ◌∙◌, subst, inl, inr, ⊎_elim, arith}
use Rattle.std.proofs.lemmas.Bool.{and_from, and_parts, cases_Bool, cond-false, cond-true}
use Rattle.std.specs.List.{list_any}
use Rattle.std.specs.Option.{option_or}
use Rattle.catalog.specs.Catalog.{CatalogColumn, Catalog, Laws}
use Rattle.keys.specs.Kinds.{same-pair}
use Rattle.keys.specs.Senses.{Pair, same_pair}
use Rattle.unfolding.specs.Lists.{Mem, Distinct}
use Rattle.life.specs.Bind.{column_questions, types_book, columns_book, column_round, types_settled, bind_settled, bind_outcome, BindLaw, ColumnsLaw, QuestionsLaw, AnyColumn, TellsColumns, ColumnRoundLaw, BindNineLaw}
use Rattle.life.specs.Calls.{Binding, bind, requests, AsksColumn}
use Rattle.life.specs.Keep.{kept, call_event}
use Rattle.life.specs.Life.{Lived}
use Rattle.life.specs.Lists.{fresh_by, first_place}
use Rattle.life.specs.Outcomes.{Outcome, fitted, if_fits, concluded, unresolved, Unresolved, Fits, RefusedAtFirst}
use Rattle.life.specs.Rounds.{Descriptors}
use Rattle.life.specs.Settle.{settled}
use Rattle.life.specs.Steps.{Book, Ending, accepted, refused, rounds_told, accepts, keeps_finds, TellsTypeRounds, Event, Step}
use Rattle.life.specs.Tests.{sources, asks_column}
use Rattle.life.specs.Walk.{Walked, ended, stopped, walk_from}
use Rattle.life.proofs.Fresh.{fresh_has, has_fresh, fresh_distinct}
use Rattle.life.proofs.Keep.{keeping_step, lives_on}
use Rattle.life.proofs.Life.{fit}
use Rattle.life.proofs.Lists.{not_both, split_option, is_none_if, none_not_some, same_truth, mem_tells}
use Rattle.life.proofs.Outcomes.{offence_bare, Next, refusal_next, fitted_next, fits_so, refused_first, unresolved_tells}
use Rattle.life.proofs.Tells.{or_first, sources_tell, asks_tells}
use Rattle.life.proofs.Walk.{Ended, Result, ended_counts, ended_reads, walk_result}

module _ (b : Book) (q : Binding) where
  abbrev held : Pair → Bool
  held p = is_some (b.columns p.0 p.1)

  abbrev questions : List Pair
  questions = column_questions b q

  asked_so : (q.queries && q.origins) ≡ true → questions ≡ fresh_by same_pair held [] (sources q.fields)
  asked_so e = cond-true (q.queries && q.origins) _ [] e

  pub questions_tell : (r : ℕ) (a : ℤ) → Mem (r, a) questions ↔ (AsksColumn (bind q) r a × (b.columns r a ≡ None))
  questions_tell r a =
      ⊎_elim
      (λ e.
      let w = and_parts q.queries q.origins e in (
        λ m.
            let x = fresh_has same_pair same-pair held (sources q.fields) [] (r, a) (subst (Mem (r, a)) (asked_so e) m) in
            ((w.0, w.1, (sources_tell q.fields r a).0 x.0), is_none_if (b.columns r a) x.1),
        λ x.
            subst (Mem (r, a)) (sym (asked_so e))
            (has_fresh same_pair same-pair held (sources q.fields) [] (r, a) ((sources_tell q.fields r a).1 x.0.2) (none_not_some (b.columns r a) x.1) (λ m. m)),
      ))
      (λ e. (
        λ m. absurd (subst (Mem (r, a)) (cond-false (q.queries && q.origins) _ [] e) m),
        λ x. absurd (not_both (and_from q.queries q.origins x.0.0 x.0.1) e),
      ))
      (cases_Bool (q.queries && q.origins))

  pub questions_distinct : Distinct questions
  questions_distinct =
      ⊎_elim
      (λ e. subst Distinct (sym (asked_so e)) (fresh_distinct same_pair same-pair held (sources q.fields) []))
      (λ e. subst Distinct (sym (cond-false (q.queries && q.origins) _ [] e)) tt)
      (cases_Bool (q.queries && q.origins))

  -- of a column that the book does not hold, the test by the fields and that by the questions are one
  pub asks_questions : (r : ℕ) (a : ℤ) → b.columns r a ≡ None → asks_column (bind q) r a ≡ list_any (same_pair (r, a)) questions
  asks_questions r a z =
      let asks = asks_tells (bind q) r a in
      let test = mem_tells same_pair same-pair (r, a) questions in
      same_truth (asks_column (bind q) r a) (list_any (same_pair (r, a)) questions)
      (λ t. test.1 ((questions_tell r a).1 (asks.0 t, z)))
      (λ t. asks.1 ((questions_tell r a).0 (test.0 t)).0)

  pub any_column : (p : Pair) (ps : List Pair) → questions ≡ p ∷ ps → AnyColumn b (bind q)
  any_column p ps e = let x = (questions_tell p.0 p.1).0 (subst (Mem p) (sym e) (inl refl)) in (p.0, p.1, x.0, x.1)

  pub no_column : questions ≡ [] → AnyColumn b (bind q) → ⊥
  no_column e x = subst (Mem (x.0, x.1)) e ((questions_tell x.0 x.1).1 (x.2, x.3))

pub questions_law : QuestionsLaw
questions_law b q = (questions_tell b q, questions_distinct b q)

module _ (full full_columns : Book → Option ℕ) (c : Catalog) (b : Book) (q : Binding) where
  abbrev rs : List ℕ
  rs = requests c (bind q)

  abbrev typed : List ℕ → Book
  typed reads = types_book full full_columns c b q reads

  abbrev columned : List ℕ → List Pair → Book
  columned reads ps = columns_book full full_columns c b q reads ps

  abbrev held_or : ℕ → ℤ → Bool → Option CatalogColumn
  held_or r a t = option_or (b.columns r a) (cond t (c.columns r a) None)

  same_column : (r : ℕ) (a : ℤ) → held_or r a (true && asks_column (bind q) r a) ≡ held_or r a (list_any (same_pair (r, a)) (column_questions b q))
  same_column r a =
      ⊎_elim
      (λ z. ap (held_or r a) (asks_questions b q r a z))
      (λ z. or_first (b.columns r a) _ z.0 z.1 ∙ sym (or_first (b.columns r a) _ z.0 z.1))
      (split_option (b.columns r a))

  -- it is the book that an accepted step keeps
  same_book : (reads : List ℕ) → kept c (bind q) reads b true ≡ columned reads (column_questions b q)
  same_book reads = λ i. record {
    descriptors = (typed reads).descriptors;
    names = (typed reads).names;
    arrays = (typed reads).arrays;
    columns = λ r a. same_column r a i;
  }

  module _ (h : List Event) (laws : Laws c) (l : Lived h c b) where
    abbrev NextBind : Outcome → Type 0
    NextBind o = Next c b (bind q) laws o

    module _ (n : ℕ) (reads : List ℕ) (e : Ended c b.descriptors rs ⊥ 0 n reads) (le : n ≤ c.allowance) where
      keeping : (g : Ending) → keeps_finds g ≡ true → ((k : ℕ) → TellsTypeRounds g k → n ≡ k) → rounds_told g ≤ c.allowance →
          Step (call_event c (bind q) g) b (kept c (bind q) reads b (accepts g))
      keeping g k t m =
          keeping_step h c b (bind q) g reads n laws l (ended_reads c b.descriptors rs ⊥ 0 n reads e) (ended_counts c b.descriptors rs ⊥ 0 n reads e) k t m

      accepted_next : (m : ℕ) (ps : List Pair) → column_questions b q ≡ ps → n + m ≤ c.allowance → NextBind (record { ending = accepted n m; left = columned reads ps })
      accepted_next m ps e' less =
          subst (λ (k : Book). Step (call_event c (bind q) (accepted n m)) b k) (same_book reads ∙ ap (columned reads) e') (keeping (accepted n m) refl (λ k t. t) less)

      untold : (x k r : ℕ) → (x ≡ 5) ⊎ (x ≡ 8) → ((x ≡ 9) ⊎ (x ≡ 10)) × (r ≡ k) → n ≡ k
      untold x k r p t = absurd (omega (arith, p, t.0))

      round_next : (ps : List Pair) → column_questions b q ≡ ps → (left : ℕ) → left + n ≡ c.allowance → NextBind (column_round full full_columns c b q n reads left ps)
      round_next [] e' left a = accepted_next 0 [] e' (omega arith)
      round_next (p ∷ ps) e' zero a = keeping (refused 5 (suc n) true n) refl (λ k t. untold 5 k n (inl refl) t) le
      round_next (p ∷ ps) e' (suc left) a = go (full_columns (columned reads (p ∷ ps)))
        where
          go : (f : Option ℕ) →
              NextBind (fitted f (record { ending = accepted n 1; left = columned reads (p ∷ ps) }) (λ t. record { ending = refused 8 t true (suc n); left = typed reads }))
          go None = accepted_next 1 (p ∷ ps) e' (omega arith)
          go (Some t) = keeping (refused 8 t true (suc n)) refl (λ k t. untold 8 k (suc n) (inr refl) t) (omega arith)

      types_next : (x : Option ℕ) → NextBind (types_settled full full_columns c b q n reads x)
      types_next None = round_next (column_questions b q) refl (c.allowance - n) (omega arith)
      types_next (Some place) = keeping (refused 9 place false n) refl (λ k t. t.1) le

    walked_next : (w : Walked) → Result c b.descriptors rs ⊥ 0 w → NextBind (concluded b (bind_settled full full_columns c b q) w)
    walked_next (ended n reads) r =
        let x : Option ℕ = first_place (unresolved c (settled c b.descriptors reads)) 0 rs in
        fitted_next c b (bind q) laws (full (typed reads)) (types_settled full full_columns c b q n reads x) n r.2 (types_next n reads r.0 r.2 x)
    walked_next (stopped n p k) r = refusal_next c b (bind q) laws n p k (offence_bare c b.descriptors rs 0 n p k r.0) r.1

    pub bind_step : NextBind (bind_outcome full full_columns c b q)
    bind_step = walked_next (walk_from c b.descriptors rs) (walk_result c b.descriptors rs)

  -- the column round
  abbrev ToldBind : Outcome → Type 0
  ToldBind o = TellsColumns c b (bind q) o.ending

  round_told : (n : ℕ) (reads : List ℕ) (left : ℕ) (ps : List Pair) → left + n ≡ c.allowance → column_questions b q ≡ ps →
      ToldBind (column_round full full_columns c b q n reads left ps)
  round_told n reads left [] a e = inr (refl, no_column b q e)
  round_told n reads zero (p ∷ ps) a e = (any_column b q p ps e, inl (refl, refl, omega arith))
  round_told n reads (suc left) (p ∷ ps) a e = go (full_columns (columned reads (p ∷ ps)))
    where
      go : (f : Option ℕ) →
          ToldBind (fitted f (record { ending = accepted n 1; left = columned reads (p ∷ ps) }) (λ t. record { ending = refused 8 t true (suc n); left = typed reads }))
      go None = inl (refl, any_column b q p ps e)
      go (Some t) = (any_column b q p ps e, inr refl)

  walked_told : (w : Walked) → Result c b.descriptors rs ⊥ 0 w → ToldBind (concluded b (bind_settled full full_columns c b q) w)
  walked_told (ended n reads) r = go (first_place (unresolved c (settled c b.descriptors reads)) 0 rs) (full (typed reads))
    where
      go : (x : Option ℕ) (f : Option ℕ) → ToldBind (if_fits f (types_settled full full_columns c b q n reads x) b n)
      go None None = round_told n reads (c.allowance - n) (column_questions b q) (omega (arith, r.2)) refl
      go (Some place) None = tt
      go x (Some t) = tt
  walked_told (stopped n p m) r = tt

  -- the column round is never refused by 9
  round_no_nine : (n : ℕ) (reads : List ℕ) (place left : ℕ) (ps : List Pair) → (column_round full full_columns c b q n reads left ps).ending ≡ refused 9 place false n → ⊥
  round_no_nine n reads place left [] e = absurd cc
  round_no_nine n reads place zero (p ∷ ps) e = absurd cc
  round_no_nine n reads place (suc left) (p ∷ ps) e = go (full_columns (columned reads (p ∷ ps))) e
    where
      go : (f : Option ℕ) →
          (fitted f (record { ending = accepted n 1; left = columned reads (p ∷ ps) }) (λ t. record { ending = refused 8 t true (suc n); left = typed reads })).ending
          ≡ refused 9 place false n →
          ⊥
      go None e = absurd cc
      go (Some t) e = absurd cc

  types_nine : (n : ℕ) (reads : List ℕ) (x : Option ℕ) (place : ℕ) → ((types_settled full full_columns c b q n reads x).ending ≡ refused 9 place false n) ↔ (x ≡ Some place)
  types_nine n reads x place = (from x, λ e. ap (λ v. (types_settled full full_columns c b q n reads v).ending) e)
    where
      from : (x : Option ℕ) → (types_settled full full_columns c b q n reads x).ending ≡ refused 9 place false n → x ≡ Some place
      from None e = absurd (round_no_nine n reads place (c.allowance - n) (column_questions b q) e)
      from (Some i) e = let z : i ≡ place = cc in ap (λ k. Some k) z

  module _ (h : List Event) (l : Lived h c b) (n : ℕ) (reads : List ℕ) (w : walk_from c b.descriptors rs ≡ ended n reads)
      (fits : Fits (bind_outcome full full_columns c b q).ending n) where
    pub refused_nine : RefusedAtFirst (bind_outcome full full_columns c b q).ending 9 n (Unresolved c) rs
    refused_nine =
        let d : Descriptors = settled c b.descriptors reads in
        let x : Option ℕ = first_place (unresolved c d) 0 rs in
        let fine : Outcome = types_settled full full_columns c b q n reads x in
        let r = subst (Result c b.descriptors rs ⊥ 0) w (walk_result c b.descriptors rs) in
        let all : Outcome = bind_outcome full full_columns c b q in
        let out : all ≡ fine = fits_so all fine (full (typed reads)) b n (ap (concluded b (bind_settled full full_columns c b q)) w) fits in
        let told : all.ending ≡ fine.ending = ap (λ (o : Outcome). o.ending) out in
        refused_first (bind_outcome full full_columns c b q).ending 9 n (unresolved c d) (Unresolved c) rs
        (unresolved_tells c b.descriptors rs (fit h c b l).sound reads (ended_reads c b.descriptors rs ⊥ 0 n reads r.0))
        (λ place. (λ y. (types_nine n reads x place).0 (sym told ∙ y), λ y. told ∙ (types_nine n reads x place).1 y))

pub bind_law : BindLaw
bind_law full full_columns h c b q laws l =
    let o : Outcome = bind_outcome full full_columns c b q in lives_on h c b o.left (bind q) o.ending l (bind_step full full_columns c b q h laws l)

pub columns_law : ColumnsLaw
columns_law full full_columns h c b q laws l = (bind_step full full_columns c b q h laws l).columns

pub column_round_law : ColumnRoundLaw
column_round_law full full_columns c b q =
    let rs : List ℕ = requests c (bind q) in walked_told full full_columns c b q (walk_from c b.descriptors rs) (walk_result c b.descriptors rs)

pub bind_nine_law : BindNineLaw
bind_nine_law full full_columns h c b q l n reads w fits = refused_nine full full_columns c b q h l n reads w fits
