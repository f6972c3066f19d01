-- How a computed fill ends, and what it leaves, once its rounds are walked.
-- Assumes nothing.
use Rattle.std.proofs.Common.{◌≡◌, ℕ, ◌<◌, false, if◌then◌else◌, ◌↔◌, List, [], length, option_map, Ok, Err, Some, None, Option, sym, refl, ap, ◌∙◌, subst}
use Rattle.catalog.specs.Catalog.{Catalog}
use Rattle.catalog.specs.declared.faults.Told.{Told}
use Rattle.unfolding.specs.Lists.{Mem}
use Rattle.life.specs.Calls.{fill}
use Rattle.life.specs.Faults.{of_layer_fill}
use Rattle.life.specs.Fill.{quiet_ending, quiet_settled}
use Rattle.life.specs.Keep.{kept}
use Rattle.life.specs.Lists.{first_place}
use Rattle.life.specs.Outcomes.{Outcome, closing, concluded, if_fits, unresolved}
use Rattle.life.specs.Rounds.{StandsOnce}
use Rattle.life.specs.Settle.{settled}
use Rattle.life.specs.Steps.{Book, Ending, accepts, keeps_finds, refused}
use Rattle.life.specs.Walk.{Walked, answered, ended, walk_from}
use Rattle.life.proofs.Lists.{not_some_none, same_some}
use Rattle.life.proofs.Told.{WalkTold, oids_told}
use Rattle.life.proofs.Walk.{Result as Walked_to, ended_reads, walk_result}
use Rattle.room.specs.Added.{columns_added, types_added, with_types}
use Rattle.room.specs.Room.{limited, rows_read, tables_left}
use Rattle.room.specs.Sizes.{first_full, sizes_of}
use Rattle.room.specs.Tables.{Tables, contents, extended}
use Rattle.room.proofs.Extended.{extended_none}
use Rattle.room.proofs.Outcome.{bare}
use Rattle.book.specs.Held.{Held, book_held}
use Rattle.book.specs.Stands.{Stands}
use Rattle.faults.specs.declared.fill.FillFault.{FillFault}
use Rattle.faults.specs.Faults.{refusal_of}
use Rattle.resolve.specs.Fills.{FullAt, ending_told, left_over}
use Rattle.resolve.specs.Walks.{stopped_told}
use Rattle.resolve.proofs.Left.{first_left_so, place_in}

module _ (c : Catalog) (h : Held) (t : Tables) (s : Stands h t) (os : List ℕ) where
  abbrev b : Book
  b = contents t

  -- by how its rounds were walked
  abbrev added_by : Walked → Tables
  added_by w = types_added c t (fill os) (rows_read w) []

  abbrev full_by : Walked → Option ℕ
  full_by w = first_full h.capacity (sizes_of t) (sizes_of (added_by w))

  abbrev outcome_by : Walked → Outcome
  outcome_by w = concluded b (quiet_settled (λ _. full_by w) c b (fill os)) w

  abbrev left_by : Walked → Ending → Tables
  left_by w e =
      let typed : Tables = extended t (added_by w) in
      if accepts e then extended typed (columns_added c typed []) else if keeps_finds e then typed else t

  abbrev out : Outcome
  out = limited h.capacity c t (fill os)

  abbrev left : Tables
  left = tables_left h.capacity c t (fill os)

  module _ (w : Walked) (walked : w ≡ walk_from c (book_held h).descriptors os) where
    walked_so : walk_from c b.descriptors os ≡ w
    walked_so = ap (λ (k : Book). walk_from c k.descriptors os) s.book ∙ sym walked

    ends_so : out.ending ≡ (outcome_by w).ending
    ends_so = ap (λ v. (outcome_by v).ending) walked_so

    left_so : left ≡ left_by w (outcome_by w).ending
    left_so = ap (λ v. left_by v (outcome_by v).ending) walked_so

  -- refused in the rounds
  module _ (fault : FillFault) (walked : stopped_told (refusal_of fault) ≡ walk_from c (book_held h).descriptors os) where
    abbrev told : Told
    told = refusal_of fault

    pub stopped_ends : ending_told (Err fault) ≡ out.ending
    stopped_ends = sym (ends_so (stopped_told told) walked)

    pub stopped_leaves : Stands h left
    stopped_leaves =
        let w = stopped_told told in
        let within = subst WalkTold (walked_so w walked) (oids_told c b os) in
        subst (Stands h) (sym (left_so w walked ∙ ap (λ k. if k then extended t (added_by w) else t) (bare told.number told.place told.rounds within))) s

  -- walked to their end
  module _ (n : ℕ) (reads : List ℕ) (walked : ended n reads ≡ walk_from c (book_held h).descriptors os) where
    abbrev full : Option ℕ
    full = first_full h.capacity h.taken (sizes_of (types_added c t (fill os) reads []))

    abbrev fine : Outcome
    fine = let e : Ending = quiet_ending (λ _. full) c b (fill os) n reads in record { ending = e; left = kept c (fill os) reads b (accepts e) }

    full_so : full_by (ended n reads) ≡ full
    full_so = ap (λ taken. first_full h.capacity taken (sizes_of (types_added c t (fill os) reads []))) s.sizes

    fitted_so : (x : Option ℕ) → full ≡ x → (outcome_by (ended n reads)).ending ≡ (if_fits x fine b n).ending
    fitted_so x e = ap (λ f. (if_fits f fine b n).ending) (full_so ∙ e)

    -- a table has no room
    pub full_ends : (fault : FillFault) → FullAt full n fault → (ending_told (Err fault) ≡ out.ending) × Stands h left
    full_ends fault at = over full refl
      where
        over : (x : Option ℕ) → full ≡ x → (ending_told (Err fault) ≡ out.ending) × Stands h left
        over None e = absurd (not_some_none (refusal_of fault) at (ap (option_map (λ table. of_layer_fill 8 table n)) e))
        over (Some table) e =
            let is : of_layer_fill 8 table n ≡ refusal_of fault = same_some (ap (option_map (λ p. of_layer_fill 8 p n)) e) at in
            let ends : out.ending ≡ refused 8 table false n = ends_so (ended n reads) walked ∙ fitted_so (Some table) e in (
              sym (ends ∙ ap (λ (x : Told). refused x.number x.place false x.rounds) is),
              subst (Stands h) (sym (left_so (ended n reads) walked ∙ ap (left_by (ended n reads)) (fitted_so (Some table) e))) s,
            )

    -- all is kept
    module _ (fits : full ≡ None) (g : Held) (now : Stands g (with_types c t (fill os) reads [])) where
      kept_ends : out.ending ≡ fine.ending
      kept_ends = ends_so (ended n reads) walked ∙ fitted_so None fits

      by_ending : (x : Option ℕ) → left_by (ended n reads) (closing n x None) ≡ with_types c t (fill os) reads []
      by_ending None = extended_none (with_types c t (fill os) reads [])
      by_ending (Some place) = refl

      pub kept_leaves : Stands g left
      kept_leaves =
          subst (Stands g)
          (sym
          (left_so (ended n reads) walked
          ∙ ap (left_by (ended n reads)) (fitted_so None fits)
          ∙ by_ending (first_place (unresolved c (settled c b.descriptors reads)) 0 os)))
          now

      are : (o : ℕ) → Mem o reads ↔ StandsOnce c b.descriptors os o
      are = ended_reads c b.descriptors os ⊥ 0 n reads (subst (Walked_to c b.descriptors os ⊥ 0) (walked_so (ended n reads) walked) (walk_result c b.descriptors os)).0

      -- by the first that is left
      module _ (x : Option ℕ) (first : x ≡ first_place (left_over c (answered (book_held g).descriptors) reads) 0 os) where
        closed : closing n x None ≡ out.ending
        closed = ap (λ y. closing n y None) (first ∙ first_left_so c t (fill os) os reads [] are g now) ∙ sym kept_ends

        pub accepted_ends : x ≡ None → ending_told (Ok n) ≡ out.ending
        accepted_ends e = ap (λ y. closing n y None) (sym e) ∙ closed

        pub unresolved_ends : (place : ℕ) → x ≡ Some place → refused 9 place false n ≡ out.ending
        unresolved_ends place e = ap (λ y. closing n y None) (sym e) ∙ closed

        pub unresolved_in : (place : ℕ) → x ≡ Some place → place < length os
        unresolved_in place e = place_in (left_over c (answered (book_held g).descriptors) reads) os place (sym first ∙ e)
