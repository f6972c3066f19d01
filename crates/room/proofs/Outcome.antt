-- What a computed call comes to where what it adds is counted.
-- Assumes nothing.
use Rattle.std.proofs.Common.{◌≡◌, ℕ, zero, suc, ◌+◌, ◌-◌, ◌<◌, Bool, true, false, cond, ◌⊎◌, ◌↔◌, List, [], ◌∷◌, Some, None, Option, nat_eq, bytes_eq, sym, refl, ap, ◌∙◌, subst, inl, inr, ⊎_elim, arith}
use Rattle.std.proofs.lemmas.List.{append-nil}
use Rattle.catalog.specs.Catalog.{Catalog, Laws}
use Rattle.keys.specs.Senses.{Pair, same_pair}
use Rattle.unfolding.specs.Lists.{Mem}
use Rattle.life.specs.Bind.{column_questions, types_book, columns_book, column_round, types_settled, bind_settled, bind_outcome, AnyColumn}
use Rattle.life.specs.Calls.{Declared, Binding, Call, fill, resolve, bind, describe, requests}
use Rattle.life.specs.Fill.{quiet_settled, quiet_outcome}
use Rattle.life.specs.Keep.{kept}
use Rattle.life.specs.Life.{Lived}
use Rattle.life.specs.Lists.{AnyOf, first_place}
use Rattle.life.specs.Outcomes.{Outcome, refusal, fitted, if_fits, concluded, closing, unresolved, Unresolved}
use Rattle.life.specs.Resolve.{offends, lacks, resolve_left, resolve_settled, resolve_outcome}
use Rattle.life.specs.RoundOne.{for_arrays_alone, round_one, resolve_walk}
use Rattle.life.specs.Run.{perform}
use Rattle.life.specs.Settle.{settled}
use Rattle.life.specs.Steps.{Book, Ending, accepted, refused, accepts, keeps_finds, Event}
use Rattle.life.specs.Walk.{Walked, ended, stopped, walk_from}
use Rattle.life.proofs.Bind.{any_column, no_column}
use Rattle.life.proofs.First.{Come, resolve_come}
use Rattle.life.proofs.Life.{fit, agrees}
use Rattle.life.proofs.Lists.{not_both, not_some_none, same_some, split_option, place_some}
use Rattle.life.proofs.Outcomes.{unresolved_tells}
use Rattle.life.proofs.Resolve.{read_so}
use Rattle.life.proofs.Told.{Within, WalkTold, oids_told, resolve_told}
use Rattle.life.proofs.Walk.{Result, ended_reads, walk_result}
use Rattle.room.specs.Added.{with_types, with_columns}
use Rattle.room.specs.Room.{walk_of, rows_read, rows_apart, columns_asked}
use Rattle.room.specs.Tables.{Tables, look_up, contents, extended, no_tables}
use Rattle.room.proofs.Additions.{added_law}

-- nothing more
nothing_more : (t : Tables) → contents (extended t no_tables) ≡ contents t
nothing_more t = λ i. record {
  descriptors = look_up nat_eq (append-nil t.descriptors i);
  names = look_up bytes_eq (append-nil t.names i);
  arrays = look_up nat_eq (append-nil t.arrays i);
  columns = λ r a. look_up same_pair (append-nil t.columns i) (r, a);
}

-- a refusal within the rounds keeps nothing, and is not 8
pub bare : (n p r : ℕ) → Within n p r → keeps_finds (refused n p false r) ≡ false
bare n p r = ⊎_elim (λ x. at x.0) (⊎_elim (λ x. at x.0) (⊎_elim at at))
  where
    at : {m : ℕ} → n ≡ m → keeps_finds (refused n p false r) ≡ keeps_finds (refused m p false r)
    at e = ap (λ k. keeps_finds (refused k p false r)) e

not_eight : (n p r : ℕ) → Within n p r → n ≡ 8 → ⊥
not_eight n p r w e = omega (arith, w, e)

module _ (c : Catalog) (t : Tables) (call : Call) (f g : Option ℕ) where
  abbrev b : Book
  b = contents t

  abbrev typed_by : List ℕ → Tables
  typed_by reads = with_types c t call reads (rows_apart c b call)

  -- the tables that a call which ended so leaves
  abbrev pub left_by : List ℕ → Ending → Tables
  left_by reads e = cond (accepts e) (with_columns c (typed_by reads) (columns_asked b call)) (cond (keeps_finds e) (typed_by reads) t)

  abbrev NoneUnresolved : Type 0
  NoneUnresolved = (o : ℕ) → Mem o (requests c call) → Unresolved c o → ⊥

  -- why a column round is refused by 8
  pub record Columned (w : Walked) (i r : ℕ) : Type 0 where
    pub types : ℕ
    pub next : r ≡ suc types
    pub walked : (reads : List ℕ) × (w ≡ ended types reads)
    pub fits : f ≡ None
    pub unfolds : NoneUnresolved
    pub any : AnyColumn b call
    pub allowed : types < c.allowance
    pub full : g ≡ Some i

  pub record Limited (w : Walked) (o : Outcome) : Type 0 where
    pub left : contents (left_by (rows_read w) o.ending) ≡ o.left
    pub types_fit : keeps_finds o.ending ≡ true → f ≡ None
    pub columns_fit : accepts o.ending ≡ true → (g ≡ None) ⊎ (columns_asked b call ≡ [])
    pub eight : (i r : ℕ) → (o.ending ≡ refused 8 i false r) ↔ (((reads : List ℕ) × (w ≡ ended r reads)) × (f ≡ Some i))
    pub column_eight : (i r : ℕ) → (o.ending ≡ refused 8 i true r) ↔ Columned w i r

  unkept : (reads : List ℕ) (n p r : ℕ) → keeps_finds (refused n p false r) ≡ false → contents (left_by reads (refused n p false r)) ≡ b
  unkept reads n p r e = ap (λ v. contents (cond v (typed_by reads) t)) e

  stopped_so : (n p r : ℕ) → Within n p r → Limited (stopped n p r) (refusal b n p r)
  stopped_so n p r w = record {
    left = unkept [] n p r (bare n p r w);
    types_fit = λ k. absurd (not_both k (bare n p r w));
    columns_fit = λ k. absurd (not_both k refl);
    eight = λ i m. (λ e. let z : n ≡ 8 = cc in absurd (not_eight n p r w z), λ x. absurd (never m x.0.0 x.0.1));
    column_eight = λ i m. (λ e. absurd cc, λ x. absurd (never x.types x.walked.0 x.walked.1));
  }
    where
      never : (m : ℕ) (reads : List ℕ) → stopped n p r ≡ ended m reads → ⊥
      never m reads e = cc

  full_so : (n : ℕ) (reads : List ℕ) (i : ℕ) → f ≡ Some i → Limited (ended n reads) (refusal b 8 i n)
  full_so n reads i e = record {
    left = refl;
    types_fit = λ k. absurd (not_both k refl);
    columns_fit = λ k. absurd (not_both k refl);
    eight = λ j m. (
      λ x. let z : i ≡ j = cc in let y : n ≡ m = cc in ((reads, ap (λ k. ended k reads) y), e ∙ ap (λ k. Some k) z),
      λ x. told j m (same_some e x.1) (rounds m x.0.0 x.0.1),
    );
    column_eight = λ j m. (λ x. absurd cc, λ x. absurd (not_some_none i e x.fits));
  }
    where
      told : (j m : ℕ) → i ≡ j → n ≡ m → refused 8 i false n ≡ refused 8 j false m
      told j m x y = λ k. refused 8 (x k) false (y k)

      rounds : (m : ℕ) (rs : List ℕ) → ended n reads ≡ ended m rs → n ≡ m
      rounds m rs x = cc

  -- an ending that is not refusal 8, where all types fit
  abbrev NotEight : Ending → Type 0
  NotEight e = (i r : ℕ) (columns : Bool) → e ≡ refused 8 i columns r → ⊥

  none_full : {A : Type 0} (i : ℕ) → f ≡ None → f ≡ Some i → A
  none_full i e x = absurd (not_some_none i x e)

  -- the outcome once its rounds are walked
  fitted_so : (n : ℕ) (reads : List ℕ) (fine : Outcome) → (f ≡ None → Limited (ended n reads) fine) → Limited (ended n reads) (if_fits f fine b n)
  fitted_so n reads fine next =
      ⊎_elim
      (λ z. subst (λ v. Limited (ended n reads) (if_fits v fine b n)) (sym z) (next z))
      (λ z. subst (λ v. Limited (ended n reads) (if_fits v fine b n)) (sym z.1) (full_so n reads z.0 z.1))
      (split_option f)

  -- where no column is to be asked for
  module _ (none : columns_asked b call ≡ []) (nobody : AnyColumn b call → ⊥) where
    fitting_so : (n : ℕ) (reads : List ℕ) (e : Ending) (book : Book) → f ≡ None → NotEight e → contents (left_by reads e) ≡ book →
        Limited (ended n reads) (record { ending = e; left = book })
    fitting_so n reads e book z not same = record {
      left = same;
      types_fit = λ _. z;
      columns_fit = λ _. inr none;
      eight = λ i r. (λ x. absurd (not i r false x), λ x. none_full i z x.1);
      column_eight = λ i r. (λ x. absurd (not i r true x), λ x. absurd (nobody x.any));
    }

    accepted_left : (reads : List ℕ) → contents (with_columns c (typed_by reads) (columns_asked b call)) ≡ contents (typed_by reads)
    accepted_left reads = ap (λ ps. contents (with_columns c (typed_by reads) ps)) none ∙ nothing_more (typed_by reads)

    pub closed_so : (n : ℕ) (reads : List ℕ) (x y : Option ℕ) (book : Book) → f ≡ None → contents (typed_by reads) ≡ book →
        Limited (ended n reads) (record { ending = closing n x y; left = book })
    closed_so n reads None None book z same = fitting_so n reads (accepted n 0) book z (λ i r v e. absurd cc) (accepted_left reads ∙ same)
    closed_so n reads None (Some place) book z same =
        fitting_so n reads (refused 10 place false n) book z (λ i r v e. let q : ◌≡◌ {A = ℕ} 10 8 = cc in omega arith) same
    closed_so n reads (Some place) y book z same =
        fitting_so n reads (refused 9 place false n) book z (λ i r v e. let q : ◌≡◌ {A = ℕ} 9 8 = cc in omega arith) same

module _ (h : List Event) (c : Catalog) (laws : Laws c) (t : Tables) (l : Lived h c (contents t)) (f g : Option ℕ) where
  abbrev met : Book
  met = contents t

  -- the functions that the calls take
  abbrev full : Book → Option ℕ
  full k = f

  abbrev full_columns : Book → Option ℕ
  full_columns k = g

  fill_so : (rs : List ℕ) → Limited c t (fill rs) f g (walk_of c met (fill rs)) (quiet_outcome full c met (fill rs))
  fill_so rs = go (walk_from c met.descriptors rs) (walk_result c met.descriptors rs) (oids_told c met rs)
    where
      go : (w : Walked) → Result c met.descriptors rs ⊥ 0 w → WalkTold w → Limited c t (fill rs) f g w (concluded met (quiet_settled full c met (fill rs)) w)
      go (ended n reads) r w =
          let x : Option ℕ = first_place (unresolved c (settled c met.descriptors reads)) 0 rs in
          let e : Ending = closing n x None in
          let book : Book = kept c (fill rs) reads met (accepts e) in
          fitted_so c t (fill rs) f g n reads (record { ending = e; left = book })
          (λ z.
          closed_so c t (fill rs) f g refl (λ a. a.2) n reads x None book z
          ((added_law h c t laws l reads).0 rs (accepts e) (ended_reads c met.descriptors rs ⊥ 0 n reads r.0)))
      go (stopped n p m) r w = stopped_so c t (fill rs) f g n p m w

  resolve_so : (ds : List Declared) → Limited c t (resolve ds) f g (walk_of c met (resolve ds)) (resolve_outcome full c met ds)
  resolve_so ds = go (resolve_walk c met ds) (resolve_come c met (agrees h c met l) ds) (resolve_told c met ds)
    where
      go : (w : Walked) → Come c met (agrees h c met l) ds w → WalkTold w →
          Limited c t (resolve ds) f g w (concluded met (resolve_settled full c met ds) w)
      go (ended n reads) r w =
          let d = settled c met.descriptors reads in
          let x : Option ℕ = first_place (offends c met d) 0 ds in
          let y : Option ℕ = first_place (lacks c met d) 0 ds in
          let book : Book = resolve_left full c met ds reads in
          fitted_so c t (resolve ds) f g n reads (record { ending = closing n x y; left = book })
          (λ z.
          closed_so c t (resolve ds) f g refl (λ a. a.2) n reads x y book z
          ((added_law h c t laws l reads).1 ds (for_arrays_alone (round_one c met ds)) (read_so c met (agrees h c met l) ds n reads r.0.0)))
      go (stopped n p m) r w = stopped_so c t (resolve ds) f g n p m w

  describe_so : (o : ℕ) → f ≡ None → Limited c t (describe o) f g (ended 0 []) (record { ending = accepted 0 0; left = met })
  describe_so o z =
      fitting_so c t (describe o) f g refl (λ a. a.2) 0 [] (accepted 0 0) met z (λ i r v e. absurd cc)
      (nothing_more (extended t no_tables) ∙ nothing_more t)

  module _ (q : Binding) where
    abbrev rs : List ℕ
    rs = requests c (bind q)

    abbrev asked : List Pair
    asked = column_questions met q

    abbrev typed_book : List ℕ → Book
    typed_book reads = types_book full full_columns c met q reads

    abbrev columned_book : List ℕ → List Pair → Book
    columned_book reads ps = columns_book full full_columns c met q reads ps

    module _ (n : ℕ) (reads : List ℕ) (r : Result c met.descriptors rs ⊥ 0 (ended n reads)) (z : f ≡ None) where
      abbrev BindLimited : Outcome → Type 0
      BindLimited o = Limited c t (bind q) f g (ended n reads) o

      typed_so : contents (with_types c t (bind q) reads []) ≡ typed_book reads
      typed_so = ((added_law h c t laws l reads).2 full full_columns q (ended_reads c met.descriptors rs ⊥ 0 n reads r.0)).0

      columned_so : (ps : List Pair) → asked ≡ ps → contents (with_columns c (with_types c t (bind q) reads []) asked) ≡ columned_book reads ps
      columned_so ps e =
          ((added_law h c t laws l reads).2 full full_columns q (ended_reads c met.descriptors rs ⊥ 0 n reads r.0)).1 asked ∙ ap (columned_book reads) e

      -- of a column round that is not refused by 8, and of one that is
      unrefused : (e : Ending) (book : Book) → NotEight c t (bind q) f g e → contents (left_by c t (bind q) f g reads e) ≡ book →
          (accepts e ≡ true → (g ≡ None) ⊎ (asked ≡ [])) → (AnyColumn met (bind q) → n < c.allowance → g ≡ None) ⊎ ((NoneUnresolved c t (bind q) f g) → ⊥) →
          BindLimited (record { ending = e; left = book })
      unrefused e book not same fits why = record {
        left = same;
        types_fit = λ _. z;
        columns_fit = fits;
        eight = λ i m. (λ x. absurd (not i m false x), λ x. none_full c t (bind q) f g i z x.1);
        column_eight = λ i m. (
          λ x. absurd (not i m true x),
          λ x.
              let same_n : n ≡ x.types = let y = x.walked.1 in cc in
              absurd
              (⊎_elim
              (λ y. not_some_none i x.full (y x.any (omega (arith, same_n, x.allowed))))
              (λ y. y x.unfolds)
              why),
        );
      }

      overfull : (ps : List Pair) (i : ℕ) → NoneUnresolved c t (bind q) f g → AnyColumn met (bind q) → n < c.allowance → g ≡ Some i →
          BindLimited (record { ending = refused 8 i true (suc n); left = typed_book reads })
      overfull ps i unfolds any allowed e = record {
        left = typed_so;
        types_fit = λ _. z;
        columns_fit = λ k. absurd (not_both k refl);
        eight = λ j m. (λ x. absurd cc, λ x. none_full c t (bind q) f g j z x.1);
        column_eight = λ j m. (
          λ x.
              let y : i ≡ j = cc in
              let v : suc n ≡ m = cc in
              record {
                types = n;
                next = sym v;
                walked = (reads, refl);
                fits = z;
                unfolds = unfolds;
                any = any;
                allowed = allowed;
                full = e ∙ ap (λ k. Some k) y;
              },
          λ x.
              let y = same_some e x.full in
              let v : n ≡ x.types = let u = x.walked.1 in cc in
              λ k. refused 8 (y k) true ((ap suc v ∙ sym x.next) k),
        );
      }

      round_so : NoneUnresolved c t (bind q) f g → (left : ℕ) (ps : List Pair) → left + n ≡ c.allowance → asked ≡ ps →
          BindLimited (column_round full full_columns c met q n reads left ps)
      round_so unfolds left [] a e =
          unrefused (accepted n 0) (columned_book reads []) (λ i m v x. absurd cc) (columned_so [] e) (λ _. inr e)
          (inl (λ any _. absurd (no_column met q e any)))
      round_so unfolds zero (p ∷ ps) a e =
          unrefused (refused 5 (suc n) true n) (typed_book reads) (λ i m v x. let y : ◌≡◌ {A = ℕ} 5 8 = cc in omega arith) typed_so
          (λ k. absurd (not_both k refl)) (inl (λ _ less. absurd (omega (arith, a, less))))
      round_so unfolds (suc left) (p ∷ ps) a e =
          ⊎_elim
          (λ none.
          subst (λ v. BindLimited (round v)) (sym none)
          (unrefused (accepted n 1) (columned_book reads (p ∷ ps)) (λ i m v x. absurd cc) (columned_so (p ∷ ps) e) (λ _. inl none)
          (inl (λ _ _. none))))
          (λ some.
          subst (λ v. BindLimited (round v)) (sym some.1)
          (overfull (p ∷ ps) some.0 unfolds (any_column met q p ps e) (omega (arith, a)) some.1))
          (split_option g)
        where
          round : Option ℕ → Outcome
          round v =
              fitted v (record { ending = accepted n 1; left = columned_book reads (p ∷ ps) })
              (λ table. record { ending = refused 8 table true (suc n); left = typed_book reads })

      types_so : (x : Option ℕ) → ((place : ℕ) → x ≡ Some place → NoneUnresolved c t (bind q) f g → ⊥) → (x ≡ None → NoneUnresolved c t (bind q) f g) →
          BindLimited (types_settled full full_columns c met q n reads x)
      types_so None some none = round_so (none refl) (c.allowance - n) asked (omega (arith, r.2)) refl
      types_so (Some place) some none =
          unrefused (refused 9 place false n) (typed_book reads) (λ i m v x. let y : ◌≡◌ {A = ℕ} 9 8 = cc in omega arith) typed_so
          (λ k. absurd (not_both k refl)) (inr (some place refl))

      -- the first requested OID that has a row and no unfolding, if any
      abbrev first_nine : Option ℕ
      first_nine = first_place (unresolved c (settled c met.descriptors reads)) 0 rs

      nine_so : ((place : ℕ) × (first_nine ≡ Some place)) ↔ AnyOf (Unresolved c) rs
      nine_so =
          place_some (unresolved c (settled c met.descriptors reads)) (Unresolved c) rs
          (unresolved_tells c met.descriptors rs (fit h c met l).sound reads (ended_reads c met.descriptors rs ⊥ 0 n reads r.0)) 0

      settled_so : BindLimited (types_settled full full_columns c met q n reads first_nine)
      settled_so =
          types_so first_nine
          (λ place e none. let x = nine_so.0 (place, e) in none x.0 x.1 x.2)
          (λ e o m u. let x = nine_so.1 (o, m, u) in not_some_none x.0 x.1 e)

    bind_so : Limited c t (bind q) f g (walk_of c met (bind q)) (bind_outcome full full_columns c met q)
    bind_so = go (walk_from c met.descriptors rs) (walk_result c met.descriptors rs) (oids_told c met rs)
      where
        go : (w : Walked) → Result c met.descriptors rs ⊥ 0 w → WalkTold w →
            Limited c t (bind q) f g w (concluded met (bind_settled full full_columns c met q) w)
        go (ended n reads) r w =
            let x : Option ℕ = first_place (unresolved c (settled c met.descriptors reads)) 0 rs in
            fitted_so c t (bind q) f g n reads (types_settled full full_columns c met q n reads x) (λ z. settled_so n reads r z)
        go (stopped n p m) r w = stopped_so c t (bind q) f g n p m w

  -- whatever is counted, if a Describe finds room for nothing
  pub limited_so : (call : Call) → ((o : ℕ) → call ≡ describe o → f ≡ None) →
      Limited c t call f g (walk_of c met call) (perform full full_columns c met call)
  limited_so (fill rs) none = fill_so rs
  limited_so (resolve ds) none = resolve_so ds
  limited_so (bind q) none = bind_so q
  limited_so (describe o) none = describe_so o (none o refl)
