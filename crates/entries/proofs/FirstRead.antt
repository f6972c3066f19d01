-- The loop over the entries comes to the lists of round 1.
-- Assumes nothing.
use Rattle.std.proofs.Common.{◌≡◌, ℕ, ◌-◌, List, length, map, flat_map, Ok, Err, sym, ap, ◌∙◌}
use Rattle.catalog.specs.Catalog.{Catalog}
use Rattle.life.specs.Calls.{Declared}
use Rattle.life.specs.Reading.{reading, halted, read_entries, summed}
use Rattle.life.specs.RoundOne.{asked_in_full, asked_oid, for_arrays_alone, refusable, round_one}
use Rattle.life.specs.Steps.{Book}
use Rattle.life.specs.Walk.{Asked, all_read, stop, answered, ask_each}
use Rattle.life.proofs.Reading.{reading_law}
use Rattle.finds.specs.declared.tables.Finds.{Finds}
use Rattle.finds.specs.Finds.{queue_of, rows_of}
use Rattle.faults.specs.declared.fill.FillFault.{FillFault}
use Rattle.resolve.specs.Rounds.{with_all}
use Rattle.entries.specs.declared.notes.Notes.{Notes}
use Rattle.entries.specs.Asking.{AllRead, CameTo, from_here, rows_left, with_link}
use Rattle.entries.specs.FirstRound.{FirstHalted, FirstRead, Nothing, row_links}
use Rattle.entries.specs.Notes.{apart_of, apart_told}
use Rattle.entries.proofs.InRows.{links_from}

-- where nothing was read, nothing stands without its row, and nothing is noted
pub all_of_nothing : (c : Catalog) (f : Finds) (n : Notes) → Nothing f n → AllRead c f n
all_of_nothing c f n none = record { rows = none.rows ∙ sym (ap (map c.rows) none.queue); apart = none.apart ∙ sym (ap (λ xs. map (with_link c) (map (λ x. x.0) xs)) none.apart) }

summed_reading : (a : Asked) (full alone queue apart : List ℕ) (left : ℕ) → reading queue apart left ≡ summed a full alone → (a ≡ all_read left) × (queue ≡ full) × (apart ≡ alone)
summed_reading (all_read rest) full alone queue apart left e = let l : left ≡ rest = cc in (ap all_read (sym l), cc, cc)
summed_reading (stop number place) full alone queue apart left e = absurd cc

summed_halted : (a : Asked) (full alone : List ℕ) (number place : ℕ) → halted number place ≡ summed a full alone → a ≡ stop number place
summed_halted (all_read rest) full alone number place e = absurd cc
summed_halted (stop n p) full alone number place e = cc

module _ (c : Catalog) (b : Book) (ds : List Declared) (f : Finds) (n : Notes) (none : Nothing f n) where
  abbrev asked : Asked
  asked = ask_each asked_oid (refusable c) 256 (round_one c b ds)

  abbrev full : List ℕ
  full = asked_in_full (round_one c b ds)

  abbrev alone : List ℕ
  alone = for_arrays_alone (round_one c b ds)

  from_nothing : from_here (read_entries c b ds) f n ≡ summed asked full alone
  from_nothing =
      (λ i. read_entries c b ds (none.queue i) (map (λ x. x.0) (none.apart i)) (256 - length (none.apart i) - length (none.rows i)))
      ∙ reading_law c b ds

  pub first_halted : (fault : FillFault) (g : Finds) (m : Notes) → CameTo c (from_here (read_entries c b ds) f n) (Err fault) g m → FirstHalted c b ds fault
  first_halted fault g m came = record { asked = summed_halted asked full alone _ _ (came.told ∙ from_nothing); told = came.round }

  pub first_read : (g : Finds) (m : Notes) → CameTo c (from_here (read_entries c b ds) f n) (Ok tt) g m →
      (h : Finds) → queue_of h ≡ with_all (answered b.descriptors) (queue_of g) (flat_map row_links (rows_of g)) → rows_of h ≡ rows_of g → FirstRead c b ds h m
  first_read g m came h queue rows =
      let lists = summed_reading asked full alone (queue_of g) (apart_of m) (rows_left g m) (came.told ∙ from_nothing) in
      let read : rows_of g ≡ map c.rows full = came.all.rows ∙ ap (map c.rows) lists.1 in
      record {
        asked = lists.0 ∙ ap (λ rs. all_read (256 - length (apart_told m) - length rs)) (sym rows);
        queue =
            queue
            ∙ (λ i. with_all (answered b.descriptors) (lists.1 i) (flat_map row_links (read i)))
            ∙ ap (with_all (answered b.descriptors) full) (links_from c full);
        rows = rows ∙ read;
        apart = came.all.apart ∙ ap (map (with_link c)) lists.2;
      }
