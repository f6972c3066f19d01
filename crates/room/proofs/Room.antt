-- Lives within capacities are lives.
-- Assumes nothing.
use Rattle.std.proofs.Common.{◌≡◌, ℕ, zero, suc, ◌<◌, true, false, cond, ◌⊎◌, ◌↔◌, List, [], ◌∷◌, None, Option, sym, refl, ap, ◌∙◌, subst, inl, inr, ⊎_elim, arith}
use Rattle.std.proofs.lemmas.Bool.{cases_Bool, cond-false, cond-true}
use Rattle.catalog.specs.Catalog.{Catalog, Laws}
use Rattle.life.specs.Calls.{Call, describe}
use Rattle.life.specs.Life.{Lived}
use Rattle.life.specs.Outcomes.{Outcome, TypeRounds}
use Rattle.life.specs.Run.{Done}
use Rattle.life.specs.Steps.{Book, Ending, accepted, refused, accepts, keeps_finds, Event, Step}
use Rattle.life.proofs.Life.{lifetime_law}
use Rattle.life.proofs.Lists.{not_both, not_some_none}
use Rattle.life.proofs.Run.{done_step, rounds_law, away_silent}
use Rattle.room.specs.Added.{columns_added, Held}
use Rattle.room.specs.Room.{walk_of, rows_read, rows_apart, columns_asked, Within, new_types, typed, new_columns, types_full, columns_full, limited, tables_left, TypesFull, ColumnsFull, DoneWithin, LivedWithin, CountedWithin, RoomLaw, EightLaw, ColumnsPlaceLaw}
use Rattle.room.specs.Sizes.{Sizes, at, sizes_of, AllFits}
use Rattle.room.specs.Tables.{Tables, no_tables, contents, extended}
use Rattle.room.proofs.Fitting.{full_first, none_full, sum_law}
use Rattle.room.proofs.Holding.{held_law}
use Rattle.room.proofs.Outcome.{Limited, limited_so}

-- what fits within the capacities is within them
fits_within : (capacity : Sizes) (t more : Tables) → AllFits capacity (sizes_of t) (sizes_of more) → Within capacity (extended t more)
fits_within capacity t more fits i l = let s = sum_law t more i l in let r = fits i l in omega (arith, s, r)

nothing_at : (i : ℕ) → i < 7 → at (sizes_of no_tables) i ≡ 0
nothing_at zero l = refl
nothing_at (suc zero) l = refl
nothing_at (suc (suc zero)) l = refl
nothing_at (suc (suc (suc zero))) l = refl
nothing_at (suc (suc (suc (suc zero)))) l = refl
nothing_at (suc (suc (suc (suc (suc zero))))) l = refl
nothing_at (suc (suc (suc (suc (suc (suc zero)))))) l = refl
nothing_at (suc (suc (suc (suc (suc (suc (suc i))))))) l = absurd (omega arith)

-- nothing always fits
nothing_fits : (capacity : Sizes) (t : Tables) → Within capacity t → AllFits capacity (sizes_of t) (sizes_of no_tables)
nothing_fits capacity t w i l = let z = nothing_at i l in let r = w i l in omega (arith, z, r)

accepted_keeps : (e : Ending) → accepts e ≡ true → keeps_finds e ≡ true
accepted_keeps (accepted n m) a = refl
accepted_keeps (refused n p columns r) a = absurd (not_both a refl)

module _ (capacity : Sizes) (h : List Event) (c : Catalog) (laws : Laws c) (t : Tables) (l : Lived h c (contents t)) (held : Held t) (within : Within capacity t) where
  module _ (call : Call) where
    abbrev f : Option ℕ
    f = types_full capacity c t call

    abbrev g : Option ℕ
    g = columns_full capacity c t call

    abbrev out : Outcome
    out = limited capacity c t call

    describe_fits : (o : ℕ) → call ≡ describe o → f ≡ None
    describe_fits o e =
        subst (λ k. types_full capacity c t k ≡ None) (sym e)
        ((none_full capacity (sizes_of t) (sizes_of no_tables)).1 (nothing_fits capacity t within))

    pub so : Limited c t call f g (walk_of c (contents t) call) out
    so = limited_so h c laws t l f g call describe_fits

    abbrev some : Tables
    some = typed capacity c t call

    abbrev more : Tables
    more = extended some (new_columns capacity c t call)

    abbrev left : Tables
    left = tables_left capacity c t call

    -- what holds of each of the tables that it may leave holds of those that it leaves
    of_left : (P : Tables → Type 0) →
        (accepts out.ending ≡ true → P more) →
        (keeps_finds out.ending ≡ true → P some) → P t → P left
    of_left P a k n =
        ⊎_elim
        (λ y. subst P (sym (cond-true (accepts out.ending) more (cond (keeps_finds out.ending) some t) y)) (a y))
        (λ y.
        subst P (sym (cond-false (accepts out.ending) more (cond (keeps_finds out.ending) some t) y))
        (⊎_elim
        (λ z. subst P (sym (cond-true (keeps_finds out.ending) some t z)) (k z))
        (λ z. subst P (sym (cond-false (keeps_finds out.ending) some t z)) n)
        (cases_Bool (keeps_finds out.ending))))
        (cases_Bool (accepts out.ending))

    pub left_held : Held left
    left_held =
        let law = held_law h c t laws l held in
        let reads : List ℕ = rows_read (walk_of c (contents t) call) in
        let apart : List ℕ = rows_apart c (contents t) call in
        of_left Held (λ _. law.1 call reads apart (columns_asked (contents t) call)) (λ _. law.0 call reads apart) held

    some_fits : keeps_finds out.ending ≡ true → Within capacity some
    some_fits k =
        fits_within capacity t (new_types capacity c t call)
        ((none_full capacity (sizes_of t) (sizes_of (new_types capacity c t call))).0 (so.types_fit k))

    more_fits : accepts out.ending ≡ true → Within capacity more
    more_fits a =
        fits_within capacity some (new_columns capacity c t call)
        (⊎_elim
        (λ z. (none_full capacity (sizes_of some) (sizes_of (new_columns capacity c t call))).0 z)
        (λ z.
        subst (λ ps. AllFits capacity (sizes_of some) (sizes_of (columns_added c some ps))) (sym z)
        (nothing_fits capacity some (some_fits (accepted_keeps out.ending a))))
        (so.columns_fit a))

    pub left_within : Within capacity left
    left_within = of_left (Within capacity) more_fits some_fits within

    -- refusal 8
    pub types_eight : (i r : ℕ) → (out.ending ≡ refused 8 i false r) ↔ TypesFull capacity c t call i r
    types_eight i r =
        let first = full_first capacity (sizes_of t) (sizes_of (new_types capacity c t call)) i in
        (λ e. let x = (so.eight i r).0 e in (x.0, first.0 x.1), λ x. (so.eight i r).1 (x.0, first.1 x.1))

    pub columns_eight : (i r : ℕ) → (out.ending ≡ refused 8 i true r) ↔ ColumnsFull capacity c t call i r
    columns_eight i r =
        let first = full_first capacity (sizes_of some) (sizes_of (new_columns capacity c t call)) i in
        let none = none_full capacity (sizes_of t) (sizes_of (new_types capacity c t call)) in (
          λ e.
              let x = (so.column_eight i r).0 e in
              record {
                types = x.types;
                next = x.next;
                walked = x.walked;
                fits = none.0 x.fits;
                unfolds = x.unfolds;
                any = x.any;
                allowed = x.allowed;
                full = first.0 x.full;
              },
          λ x.
              (so.column_eight i r).1
              (record {
                types = x.types;
                next = x.next;
                walked = x.walked;
                fits = none.1 x.fits;
                unfolds = x.unfolds;
                any = x.any;
                allowed = x.allowed;
                full = first.1 x.full;
              }),
        )

    -- no type is added with the columns
    untouched : (i : ℕ) → i < 4 → at (sizes_of (new_columns capacity c t call)) i ≡ 0
    untouched zero l = refl
    untouched (suc zero) l = refl
    untouched (suc (suc zero)) l = refl
    untouched (suc (suc (suc zero))) l = refl
    untouched (suc (suc (suc (suc i)))) l = absurd (omega arith)

    behind_arrays : (i r : ℕ) → ColumnsFull capacity c t call i r → i < 4 → ⊥
    behind_arrays i r x l =
        let none = untouched i l in
        let fits = fits_within capacity t (new_types capacity c t call) x.fits i (omega arith) in
        let lacks = x.full.1 in
        omega (arith, none, fits, lacks)

    pub columns_place : (i r : ℕ) → out.ending ≡ refused 8 i true r → (i ≡ 4) ⊎ ((i ≡ 5) ⊎ (i ≡ 6))
    columns_place i r e = let x = (columns_eight i r).0 e in among i x.full.0 (behind_arrays i r x)
      where
        among : (i : ℕ) → i < 7 → (i < 4 → ⊥) → (i ≡ 4) ⊎ ((i ≡ 5) ⊎ (i ≡ 6))
        among zero l n = absurd (n (omega arith))
        among (suc zero) l n = absurd (n (omega arith))
        among (suc (suc zero)) l n = absurd (n (omega arith))
        among (suc (suc (suc zero))) l n = absurd (n (omega arith))
        among (suc (suc (suc (suc zero)))) l n = inl refl
        among (suc (suc (suc (suc (suc zero))))) l n = inr (inl refl)
        among (suc (suc (suc (suc (suc (suc zero)))))) l n = inr (inr refl)
        among (suc (suc (suc (suc (suc (suc (suc i))))))) l n = absurd (omega arith)

-- what holds of the tables of a life within capacities
pub record State (capacity : Sizes) (h : List Event) (c : Catalog) (t : Tables) : Type 0 where
  pub lived : Lived h c (contents t)
  pub held : Held t
  pub within : Within capacity t

module _ (capacity : Sizes) where
  done_so : (h : List Event) (e : Event) (t t' : Tables) → State capacity h e.before t → DoneWithin capacity e t t' →
      Done (λ _. types_full capacity e.before t e.call) (λ _. columns_full capacity e.before t e.call) e (contents t) (contents t')
  done_so h e t t' s d = record {
    laws = d.laws;
    after = d.after;
    what =
        ⊎_elim
        (λ x. inl (x.0, ap contents x.1 ∙ (so capacity h e.before d.laws t s.lived s.held s.within e.call).left))
        (λ x. inr (x.0, ap contents x.1))
        d.what;
  }

  step_so : (h : List Event) (e : Event) (t t' : Tables) → State capacity h e.before t → DoneWithin capacity e t t' → Step e (contents t) (contents t')
  step_so h e t t' s d =
      done_step (λ _. types_full capacity e.before t e.call) (λ _. columns_full capacity e.before t e.call) h e (contents t) (contents t') s.lived
      (done_so h e t t' s d)

  pub state : (h : List Event) (c : Catalog) (t : Tables) → LivedWithin capacity h c t → State capacity h c t
  state [] c t l = subst (State capacity [] c) (sym l) (record { lived = refl; held = nothing_held; within = nothing_within })
    where
      nothing_held : Held no_tables
      nothing_held = record {
        descriptors = tt;
        names = tt;
        arrays = tt;
        columns = tt;
        relations = tt;
        related = λ r n. (λ e. absurd (not_some_none n e refl), λ x. absurd (not_some_none x.1 x.2 refl));
      }

      nothing_within : Within capacity no_tables
      nothing_within i l = let z = nothing_at i l in omega (arith, z)
  state (e ∷ h) c t l =
      let s = state h e.before l.0 l.1 in
      let d = l.2 in
      record {
        lived = (contents l.0, s.lived, step_so h e l.0 t s d, l.3);
        held =
            ⊎_elim
            (λ x. subst Held (sym x.1) (left_held capacity h e.before d.laws l.0 s.lived s.held s.within e.call))
            (λ x. subst Held (sym x.1) s.held)
            d.what;
        within =
            ⊎_elim
            (λ x. subst (Within capacity) (sym x.1) (left_within capacity h e.before d.laws l.0 s.lived s.held s.within e.call))
            (λ x. subst (Within capacity) (sym x.1) s.within)
            d.what;
      }

  counted : (h : List Event) (c : Catalog) (t : Tables) (l : LivedWithin capacity h c t) → CountedWithin capacity h c t l
  counted [] c t l = tt
  counted (e ∷ h) c t l =
      let s = state h e.before l.0 l.1 in
      let full : Book → Option ℕ = λ _. types_full capacity e.before l.0 e.call in
      let full_columns : Book → Option ℕ = λ _. columns_full capacity e.before l.0 e.call in (
        λ k x.
            ⊎_elim
            (λ y. rounds_law full full_columns h e.before (contents l.0) e.call s.lived k (subst (λ v. TypeRounds v k) y.0 x))
            (λ y. absurd (away_silent e.ending k y.0 x))
            l.2.what,
        (step_so h e l.0 t s l.2).lowers,
        counted h e.before l.0 l.1,
      )

pub room_law : RoomLaw
room_law capacity h c t l =
    let s = state capacity h c t l in
    ((lifetime_law h c (contents t) s.lived).0, counted capacity h c t l, s.held, s.within)

pub eight_law : EightLaw
eight_law capacity h c t l laws call =
    let s = state capacity h c t l in (
      (so capacity h c laws t s.lived s.held s.within call).left,
      types_eight capacity h c laws t s.lived s.held s.within call,
      columns_eight capacity h c laws t s.lived s.held s.within call,
    )

pub columns_place_law : ColumnsPlaceLaw
columns_place_law capacity h c t l laws call = let s = state capacity h c t l in columns_place capacity h c laws t s.lived s.held s.within call
