-- The rounds of a computed Resolve, and what they leave, once they are walked.
-- Assumes nothing.
use Rattle.std.proofs.Common.{◌≡◌, ◌∙◌, ℕ, true, false, if◌then◌else◌, List, [], map, option_map, Some, None, Option, sym, refl, ap, subst, arith, ◌↔◌, ◌⊎◌, inl, inr}
use Rattle.catalog.specs.Catalog.{Catalog}
use Rattle.catalog.specs.declared.faults.Told.{Told}
use Rattle.unfolding.specs.Lists.{Mem}
use Rattle.life.specs.Calls.{Declared, requests, resolve}
use Rattle.life.specs.Faults.{of_layer_fill}
use Rattle.life.specs.Life.{Agrees}
use Rattle.life.specs.Lists.{first_place, is_in}
use Rattle.life.specs.Outcomes.{Outcome, closing, concluded, if_fits}
use Rattle.life.specs.Resolve.{lacks, offends, resolve_left, resolve_settled}
use Rattle.life.specs.RoundOne.{for_arrays_alone, resolve_walk, round_one}
use Rattle.life.specs.Rounds.{StandsOnce}
use Rattle.life.specs.Settle.{settled}
use Rattle.life.specs.Steps.{Book, Ending, accepts, keeps_finds, refused}
use Rattle.life.specs.Walk.{Walked, ended}
use Rattle.life.proofs.First.{Come, resolve_come}
use Rattle.life.proofs.Known.{known_not}
use Rattle.life.proofs.Lists.{in_mem, not_some_none, same_some}
use Rattle.life.proofs.Questions.{all_distinct, alone_apart}
use Rattle.life.proofs.Resolve.{read_so}
use Rattle.life.proofs.Standing.{stands_unknown}
use Rattle.life.proofs.Told.{WalkTold, resolve_told}
use Rattle.std.proofs.lemmas.Bool.{cases_Bool}
use Rattle.room.specs.Added.{columns_added, types_added, with_types}
use Rattle.room.specs.Room.{limited, rows_read, tables_left}
use Rattle.room.specs.Sizes.{first_full, sizes_of}
use Rattle.room.specs.Tables.{Tables, contents, extended}
use Rattle.room.proofs.Extended.{extended_none}
use Rattle.room.proofs.Outcome.{bare}
use Rattle.book.specs.Held.{Held, book_held}
use Rattle.book.specs.Stands.{Stands}
use Rattle.calls.specs.Resolving.{EntriesKept, EntriesRefused, Noted}
use Rattle.entries.specs.Asking.{with_link}
use Rattle.entries.specs.Notes.{apart_told, leads_told}
use Rattle.entries.specs.declared.notes.Notes.{Notes}
use Rattle.faults.specs.declared.fill.FillFault.{FillFault}
use Rattle.faults.specs.Faults.{refusal_of}
use Rattle.finds.specs.Finds.{reads_of}
use Rattle.finds.specs.Resolving.{entry_lead}
use Rattle.finds.specs.declared.tables.Finds.{Finds}
use Rattle.resolve.specs.Fills.{FullAt}
use Rattle.resolve.specs.Walks.{stopped_told}

module _ (c : Catalog) (h : Held) (t : Tables) (s : Stands h t) (ds : List Declared) where
  abbrev b : Book
  b = contents t

  abbrev apart : List ℕ
  apart = for_arrays_alone (round_one c b ds)

  -- by how its rounds were walked
  abbrev added_by : Walked → Tables
  added_by w = types_added c t (resolve ds) (rows_read w) apart

  abbrev full_by : Walked → Option ℕ
  full_by w = first_full h.capacity (sizes_of t) (sizes_of (added_by w))

  abbrev outcome_by : Walked → Outcome
  outcome_by w = concluded b (resolve_settled (λ _. full_by w) c b ds) w

  abbrev left_by : Walked → Ending → Tables
  left_by w e =
      let typed : Tables = extended t (added_by w) in
      if accepts e then extended typed (columns_added c typed []) else if keeps_finds e then typed else t

  abbrev out : Outcome
  out = limited h.capacity c t (resolve ds)

  abbrev left : Tables
  left = tables_left h.capacity c t (resolve ds)

  module _ (w : Walked) (walked : w ≡ resolve_walk c (book_held h) ds) where
    walked_so : resolve_walk c b ds ≡ w
    walked_so = ap (λ (k : Book). resolve_walk c k ds) s.book ∙ sym walked

    ends_so : out.ending ≡ (outcome_by w).ending
    ends_so = ap (λ v. (outcome_by v).ending) walked_so

    left_so : left ≡ left_by w (outcome_by w).ending
    left_so = ap (λ v. left_by v (outcome_by v).ending) walked_so

  -- refused in the rounds
  pub stopped : (fault : FillFault) → stopped_told (refusal_of fault) ≡ resolve_walk c (book_held h) ds → EntriesRefused h.capacity c t ds fault h
  stopped fault walked =
      let told : Told = refusal_of fault in
      let w : Walked = stopped_told told in
      let within = subst WalkTold (walked_so w walked) (resolve_told c b ds) in
      record {
        ends = sym (ends_so w walked);
        left = subst (Stands h) (sym (left_so w walked ∙ ap (λ k. if k then extended t (added_by w) else t) (bare told.number told.place told.rounds within))) s;
      }

  -- walked to their end
  module _ (n : ℕ) (reads : List ℕ) (walked : ended n reads ≡ resolve_walk c (book_held h) ds) where
    abbrev full : Option ℕ
    full = first_full h.capacity h.taken (sizes_of (types_added c t (resolve ds) reads apart))

    abbrev after : Ending
    after = closing n (first_place (offends c b (settled c b.descriptors reads)) 0 ds) (first_place (lacks c b (settled c b.descriptors reads)) 0 ds)

    full_so : full_by (ended n reads) ≡ full
    full_so = ap (λ taken. first_full h.capacity taken (sizes_of (types_added c t (resolve ds) reads apart))) s.sizes

    abbrev fine : Outcome
    fine = record { ending = after; left = resolve_left (λ _. full) c b ds reads }

    fitted_so : (x : Option ℕ) → full ≡ x → (outcome_by (ended n reads)).ending ≡ (if_fits x fine b n).ending
    fitted_so x e = ap (λ f. (if_fits f fine b n).ending) (full_so ∙ e)

    -- a table has no room
    pub full_refuses : (fault : FillFault) → FullAt full n fault → EntriesRefused h.capacity c t ds fault h
    full_refuses fault at = over full refl
      where
        over : (x : Option ℕ) → full ≡ x → EntriesRefused h.capacity c t ds fault h
        over None e = absurd (not_some_none (refusal_of fault) at (ap (option_map (λ table. of_layer_fill 8 table n)) e))
        over (Some table) e =
            let is : of_layer_fill 8 table n ≡ refusal_of fault = same_some (ap (option_map (λ p. of_layer_fill 8 p n)) e) at in
            let ends : out.ending ≡ refused 8 table false n = ends_so (ended n reads) walked ∙ fitted_so (Some table) e in
            record {
              ends = sym (ends ∙ ap (λ (x : Told). refused x.number x.place false x.rounds) is);
              left = subst (Stands h) (sym (left_so (ended n reads) walked ∙ ap (left_by (ended n reads)) (fitted_so (Some table) e))) s;
            }

    -- all is kept
    pub all_kept : full ≡ None → (g : Held) → Stands g (with_types c t (resolve ds) reads apart) → EntriesKept h.capacity c t ds n reads g
    all_kept fits g now = record {
      walked = walked_so (ended n reads) walked;
      fits = ap full_by (walked_so (ended n reads) walked) ∙ full_so ∙ fits;
      kept = now;
    }

  -- and how it ends then
  module _ (n : ℕ) (reads : List ℕ) (g : Held) (k : EntriesKept h.capacity c t ds n reads g) where
    abbrev then_ending : Ending
    then_ending = closing n (first_place (offends c b (settled c b.descriptors reads)) 0 ds) (first_place (lacks c b (settled c b.descriptors reads)) 0 ds)

    abbrev by : Option ℕ → Walked → Outcome
    by f w = concluded b (resolve_settled (λ _. f) c b ds) w

    pub then_ends : out.ending ≡ then_ending
    then_ends = (λ i. (by (k.fits i) (k.walked i)).ending)

    pub left_told : out.left.descriptors ≡ settled c b.descriptors reads
    left_told = (λ i. (by (k.fits i) (k.walked i)).left.descriptors)

    by_ending : (x y : Option ℕ) → left_by (ended n reads) (closing n x y) ≡ with_types c t (resolve ds) reads apart
    by_ending None None = extended_none (with_types c t (resolve ds) reads apart)
    by_ending None (Some place) = refl
    by_ending (Some place) y = refl

    pub then_leaves : Stands g left
    then_leaves =
        subst (Stands g)
        (sym
        ((λ i. left_by (k.walked i) (then_ends i))
        ∙ by_ending (first_place (offends c b (settled c b.descriptors reads)) 0 ds) (first_place (lacks c b (settled c b.descriptors reads)) 0 ds)))
        k.kept

  -- what is noted then
  module _ (agree : Agrees c (contents t)) (n : ℕ) (reads : List ℕ) (walked : resolve_walk c (contents t) ds ≡ ended n reads) where
    come : Come c b agree ds (ended n reads)
    come = subst (Come c b agree ds) walked (resolve_come c b agree ds)

    pub are : (o : ℕ) → Mem o reads ↔ StandsOnce c b.descriptors (requests c (resolve ds)) o
    are = read_so c b agree ds n reads come.0.0

    not_read : (o : ℕ) → Mem o apart → is_in o reads ≡ false
    not_read o m = by (cases_Bool (is_in o reads))
      where
        by : (is_in o reads ≡ true) ⊎ (is_in o reads ≡ false) → is_in o reads ≡ false
        by (inl y) = absurd (known_not b.descriptors o ((alone_apart c b agree ds o).0 m).1 (stands_unknown c b.descriptors (requests c (resolve ds)) o ((are o).0 (in_mem o reads y))))
        by (inr z) = z

    pub noted_so : (f : Finds) (notes : Notes) → reads_of f ≡ reads → leads_told notes ≡ map (entry_lead c (book_held h)) ds →
        apart_told notes ≡ map (with_link c) (for_arrays_alone (round_one c (book_held h) ds)) → Noted c h f notes ds apart
    noted_so f notes same leads told = record {
      leads = leads;
      apart = told ∙ ap (λ (k : Book). map (with_link c) (for_arrays_alone (round_one c k ds))) (sym s.book);
      once = all_distinct c b agree ds 0;
      other = λ o m. ap (is_in o) same ∙ not_read o m;
      few = omega (arith, come.0.0.few);
    }
