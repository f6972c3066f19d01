-- How a Resolve ends once all is kept, and what it writes, is what the law tells.
-- Assumes nothing.
use Rattle.std.proofs.Common.{◌≡◌, ◌∙◌, ℕ, suc, Bool, true, false, not, List, [], ◌∷◌, ◌++◌, map, is_some, Some, None, Option, option_to_list, sym, refl, ap}
use Rattle.catalog.specs.Catalog.{Catalog}
use Rattle.life.specs.Buffers.{written_over}
use Rattle.life.specs.Calls.{Declared, resolve}
use Rattle.life.specs.Life.{Agrees}
use Rattle.life.specs.Lists.{first_place}
use Rattle.life.specs.Outcomes.{closing}
use Rattle.life.specs.Resolve.{entry_oid, lacks, offends, oids}
use Rattle.life.specs.Rounds.{Descriptors}
use Rattle.life.specs.Settle.{settled}
use Rattle.life.specs.Steps.{Book, Ending, accepts, refused}
use Rattle.life.specs.Walk.{answered}
use Rattle.life.proofs.Lists.{not_some_none, chosen_false, chosen_true}
use Rattle.life.proofs.Outcomes.{closing_accepts}
use Rattle.room.specs.Room.{limited}
use Rattle.room.specs.Tables.{Tables, contents}
use Rattle.book.specs.Held.{Held, book_held}
use Rattle.book.specs.Stands.{Stands}
use Rattle.calls.specs.Resolving.{EntriesDone, EntriesKept}
use Rattle.calls.proofs.Entered.{are, left_told, then_ends, then_leaves}
use Rattle.entries.specs.Answers.{all_written, asked_for, led_from, oid_or_zero, without_oid}
use Rattle.entries.proofs.OfEntries.{all_told, first_told, lacks_so, offends_so, oid_so}
use Rattle.finds.specs.Resolving.{entry_lead}
use Rattle.resolve.specs.Fills.{left_over}

pub closes_nine : (n place : ℕ) (x y : Option ℕ) → Some place ≡ x → refused 9 place false n ≡ closing n x y
closes_nine n place x y e = ap (λ v. closing n v y) e

-- where no entry lacks its OID, all are written
module _ (c : Catalog) (b : Book) (d : Descriptors) where
  pub none_lacking : (ds : List Declared) (i : ℕ) → first_place (lacks c b d) i ds ≡ None → map (λ x. oid_or_zero (entry_oid c b d x)) ds ≡ oids c b d ds
  none_lacking [] i e = refl
  none_lacking (x ∷ xs) i e = by (entry_oid c b d x) refl (none_lacking xs (suc i))
    where
      by : (y : Option ℕ) → entry_oid c b d x ≡ y →
          (first_place (lacks c b d) (suc i) xs ≡ None → map (λ z. oid_or_zero (entry_oid c b d z)) xs ≡ oids c b d xs) →
          oid_or_zero (entry_oid c b d x) ∷ map (λ z. oid_or_zero (entry_oid c b d z)) xs ≡ option_to_list (entry_oid c b d x) ++ oids c b d xs
      by None z more = absurd (not_some_none i (chosen_true (lacks c b d x) (Some i) (first_place (lacks c b d) (suc i) xs) (ap (λ v. not (is_some v)) z)) e)
      by (Some o) z more =
          let rest = more (sym (chosen_false (lacks c b d x) (Some i) (first_place (lacks c b d) (suc i) xs) (ap (λ v. not (is_some v)) z)) ∙ e) in
          (λ k. oid_or_zero (z k) ∷ rest k) ∙ (λ k. option_to_list (sym z k) ++ oids c b d xs)

module _ (c : Catalog) (h : Held) (t : Tables) (s : Stands h t) (ds : List Declared) (agree : Agrees c (contents t)) (n : ℕ) (reads : List ℕ) (g : Held)
    (k : EntriesKept h.capacity c t ds n reads g) (ls : List (Option ℕ)) (noted : ls ≡ map (entry_lead c (book_held h)) ds) where
  abbrev b : Book
  b = contents t

  abbrev d : Descriptors
  d = settled c b.descriptors reads

  abbrev arrays : ℕ → Option ℕ
  arrays = (book_held g).arrays

  abbrev known : ℕ → Bool
  known = answered (book_held g).descriptors

  leads : ls ≡ map (entry_lead c b) ds
  leads = noted ∙ ap (λ (k : Book). map (entry_lead c k) ds) (sym s.book)

  abbrev nine : Option ℕ
  nine = first_place (λ (x : Declared × Option ℕ). asked_for arrays (left_over c known reads) x.0 x.1) 0 (led_from 0 ds ls)

  abbrev ten : Option ℕ
  ten = first_place (λ (x : Declared × Option ℕ). without_oid arrays known x.0 x.1) 0 (led_from 0 ds ls)

  nine_so : nine ≡ first_place (offends c b d) 0 ds
  nine_so = first_told (entry_lead c b) _ (offends c b d) ds ls leads (offends_so c t agree ds reads (are c h t s ds agree n reads k.walked) g k.kept)

  ten_so : ten ≡ first_place (lacks c b d) 0 ds
  ten_so = first_told (entry_lead c b) _ (lacks c b d) ds ls leads (lacks_so c t agree ds reads (are c h t s ds agree n reads k.walked) g k.kept)

  module _ (e : Ending) (ends : e ≡ closing n nine ten) where
    pub done : EntriesDone h.capacity c t ds e g
    done = record {
      ends = ends ∙ (λ i. closing n (nine_so i) (ten_so i)) ∙ sym (then_ends c h t s ds n reads g k);
      left = then_leaves c h t s ds n reads g k;
    }

    pub written : accepts e ≡ true → (before after : List ℕ) → after ≡ written_over (all_written arrays known (led_from 0 ds ls)) before →
        after ≡ written_over (oids c b (limited h.capacity c t (resolve ds)).left.descriptors ds) before
    written accepted before after so =
        let none : ten ≡ None = closing_accepts n nine ten (sym (ap accepts ends) ∙ accepted) in
        let all : all_written arrays known (led_from 0 ds ls) ≡ oids c b d ds =
        all_told (entry_lead c b) _ (λ x. oid_or_zero (entry_oid c b d x)) ds ls leads
        (λ x m. ap oid_or_zero (oid_so c t agree ds reads (are c h t s ds agree n reads k.walked) g k.kept x m))
        ∙ none_lacking c b d ds 0 (sym ten_so ∙ none) in
        so ∙ ap (λ os. written_over os before) (all ∙ ap (λ v. oids c b v ds) (sym (left_told c h t s ds n reads g k)))
