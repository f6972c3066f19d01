-- The entries, one after the other.
-- Assumes nothing.
use Rattle.std.proofs.Common.{◌≡◌, ℕ, ◌+◌, ◌<◌, ◌≤◌, List, [], ◌∷◌, ◌++◌, length, map, take, drop, get_or, Ok, Err, Result, Option, sym, refl, ap, ◌∙◌, arith}
use Rattle.std.proofs.lemmas.List.{drop_all, drop_more, length-map, length-take-le, map-append, take_all, take_more}
use Rattle.catalog.specs.Catalog.{Catalog}
use Rattle.life.specs.Calls.{Declared}
use Rattle.life.specs.HostCalls.{meant_type}
use Rattle.life.specs.Reading.{Read, then_read, read_all, read_entries}
use Rattle.life.specs.RoundOne.{entry_asks}
use Rattle.life.specs.Steps.{Book}
use Rattle.finds.specs.declared.tables.Finds.{Finds}
use Rattle.faults.specs.declared.fill.FillFault.{FillFault}
use Rattle.requests.specs.Asked.{declared_by, type_asked}
use Rattle.requests.specs.declared.asked.TypeAsked.{TypeAsked}
use Rattle.entries.specs.declared.notes.Notes.{Notes}
use Rattle.finds.specs.Resolving.{entry_lead}
use Rattle.entries.specs.Asking.{AllRead, CameTo, from_here, read_told}
use Rattle.entries.specs.Notes.{leads_told}

-- where names lead, noted for one entry more
pub one_lead :
    (lead : Declared → Option ℕ) (host : List ℕ) (entries : List TypeAsked) (i : ℕ) (x : TypeAsked) → i < length entries → (m k : Notes) →
    (length entries ≤ 256 → leads_told m ≡ map lead (declared_by host (take i entries))) →
    (length (leads_told m) < 256 → leads_told k ≡ leads_told m ++ lead (meant_type host (type_asked (get_or entries i x))) ∷ []) →
    length entries ≤ 256 → leads_told k ≡ map lead (declared_by host (take (i + 1) entries))
one_lead lead host entries i x more m k so one few =
    let meant : TypeAsked → Declared = λ y. meant_type host (type_asked y) in
    let here : TypeAsked = get_or entries i x in
    let long : length (leads_told m) ≡ i =
    ap length (so few) ∙ length-map (declared_by host (take i entries)) lead ∙ length-map (take i entries) meant ∙ length-take-le i entries (omega arith) in
    one (omega arith)
    ∙ ap (λ ls. ls ++ lead (meant here) ∷ []) (so few)
    ∙ sym (ap (map lead) (ap (map meant) (take_more entries i x more) ∙ map-append meant (take i entries) (here ∷ []))
    ∙ map-append lead (map meant (take i entries)) (meant here ∷ []))

module _ (c : Catalog) (b : Book) (host : List ℕ) (entries : List TypeAsked) where
  abbrev meant : TypeAsked → Declared
  meant x = meant_type host (type_asked x)

  abbrev left : List TypeAsked → Finds → Notes → Read
  left xs f n = from_here (read_entries c b (declared_by host xs)) f n

  abbrev leads : List TypeAsked → List (Option ℕ)
  leads xs = map (entry_lead c b) (declared_by host xs)

  -- the first i entries were read, and f and n became g and m
  pub record InEntries (i : ℕ) (f : Finds) (n : Notes) (g : Finds) (m : Notes) : Type 0 where
    pub on : left (drop i entries) g m ≡ left entries f n
    pub all : AllRead c g m
    pub leads_so : length entries ≤ 256 → leads_told m ≡ leads (take i entries)

  module _ (f : Finds) (n : Notes) where
    pub begun : AllRead c f n → leads_told n ≡ [] → InEntries 0 f n f n
    begun all none = record { on = refl; all = all; leads_so = λ few. none }

    module _ (i : ℕ) (g : Finds) (m : Notes) (so : InEntries i f n g m) where
      module _ (x : TypeAsked) (more : i < length entries) (h : Finds) (k : Notes) where
        abbrev here : TypeAsked
        here = get_or entries i x

        then_left : (r : Result (Unit {0}) FillFault) → CameTo c (from_here (read_all c b (entry_asks c b (meant here))) g m) r h k →
            then_read (read_told r h k) (read_entries c b (declared_by host (drop (i + 1) entries))) ≡ left entries f n
        then_left r came =
            ap (λ y. then_read y (read_entries c b (declared_by host (drop (i + 1) entries)))) came.told
            ∙ sym (ap (λ xs. left xs g m) (drop_more entries i x more))
            ∙ so.on

        pub entry_done : CameTo c (from_here (read_all c b (entry_asks c b (meant here))) g m) (Ok tt) h k →
            (length (leads_told m) < 256 → leads_told k ≡ leads_told m ++ entry_lead c b (meant here) ∷ []) → InEntries (i + 1) f n h k
        entry_done came lead = record {
          on = then_left (Ok tt) came;
          all = came.all;
          leads_so = one_lead (entry_lead c b) host entries i x more m k so.leads_so lead;
        }

        pub entry_halts : (fault : FillFault) → CameTo c (from_here (read_all c b (entry_asks c b (meant here))) g m) (Err fault) h k →
            CameTo c (left entries f n) (Err fault) h k
        entry_halts fault came = record { told = then_left (Err fault) came; all = tt; round = came.round }

      module _ (over : length entries ≤ i) where
        pub entries_done : CameTo c (left entries f n) (Ok tt) g m
        entries_done = record { told = sym (ap (λ xs. left xs g m) (drop_all i entries over)) ∙ so.on; all = so.all; round = tt }

        pub leads_done : length entries ≤ 256 → leads_told m ≡ leads entries
        leads_done few = so.leads_so few ∙ ap leads (take_all i entries over)
