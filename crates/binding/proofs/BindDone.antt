-- A computed bind goes on from its types to its columns.
-- Assumes nothing.
use Rattle.std.proofs.Common.{◌≡◌, ℕ, ◌-◌, ◌≤◌, Bool, true, false, if◌then◌else◌, List, [], IfErr, IfOk, is_some, Some, None, Option, Result, Ok, Err, sym, refl, ap, ◌∙◌, subst, arith}
use Rattle.catalog.specs.declared.faults.CatalogFault.TheVariants.{NoAllowance, BreaksLimit, Contradicts, Full as Lacks}
use Rattle.catalog.specs.Catalog.{Catalog, CatalogColumn, Spent, spent}
use Rattle.keys.specs.Senses.{Pair, same_pair}
use Rattle.life.specs.Bind.{bind_settled, column_questions, column_round, types_settled}
use Rattle.life.specs.Calls.{Binding, bind, requests}
use Rattle.life.specs.Lists.{first_place, fresh_by}
use Rattle.life.specs.Outcomes.{Outcome, concluded, if_fits, unresolved}
use Rattle.life.specs.Settle.{settled}
use Rattle.life.specs.Steps.{Book, Ending, accepts, keeps_finds, refused}
use Rattle.life.specs.Tests.{sources}
use Rattle.room.specs.Added.{columns_added, with_columns, with_types}
use Rattle.room.specs.Room.{columns_full, limited, new_columns, rows_read, tables_left, typed, types_full}
use Rattle.room.specs.Sizes.{first_full, sizes_of}
use Rattle.room.specs.Tables.{Tables, contents, extended}
use Rattle.requests.specs.Asked.{fields_of}
use Rattle.requests.specs.declared.asked.FieldAsked.{FieldAsked}
use Rattle.book.specs.Held.{Held}
use Rattle.book.specs.Stands.{Stands}
use Rattle.faults.specs.Faults.{refusal_of, refused_so}
use Rattle.faults.specs.declared.columns.ColumnsFault.{ColumnsFault}
use Rattle.faults.specs.declared.fill.FillFault.{FillFault}
use Rattle.faults.specs.declared.fill.FillFault.TheVariants.{Catalog as OfCatalog, TooManyRounds, Malformed, TooManyRows, Full, Unresolved}
use Rattle.finds.specs.Columns.{RelatedBy}
use Rattle.binding.specs.Asked.{binding_of}
use Rattle.binding.specs.ColumnRound.{ending_told}
use Rattle.binding.specs.ColumnRound as round
use Rattle.binding.specs.Types.{AsksFor, TypesKept}
use Rattle.binding.specs.Whole.{binding_asked, wanted, wanted_ending}
use Rattle.binding.proofs.Ending.{same_ending}

-- the tables of relations stay, and with them what is so of them; so do the columns of the catalog
pub related_still : (c d : Catalog) (n : ℕ) (h g : Held) → Spent n c d → g.relations ≡ h.relations → RelatedBy c h → RelatedBy d g
related_still c d n h g cost same related r a k there held is =
    related r a k (subst (λ (e : Catalog). e.columns r a ≡ Some k) cost.after there) held (sym (ap (λ (f : ℕ → Option (List ℕ)). f r) same) ∙ is)

-- rounds of types, and then more
pub spent_more : (c d e : Catalog) (n m : ℕ) → Spent n c d → n ≤ m → Spent (m - n) d e → Spent m c e
spent_more c d e n m first since more =
    let left : d.allowance ≡ c.allowance - n = ap (λ (k : Catalog). k.allowance) first.after in
    let same : d.allowance - (m - n) ≡ c.allowance - m = omega (arith, left, since) in
    record {
      enough = omega (arith, left, first.enough, more.enough, since);
      after = more.after ∙ ap (λ (k : Catalog). spent k (d.allowance - (m - n))) first.after ∙ ap (spent c) same;
    }

-- no fault of a fill is of layer columns
pub not_of_columns : (f : FillFault) → refused_so (refusal_of f) ≡ refused (refusal_of f).number (refusal_of f).place false (refusal_of f).rounds
not_of_columns (OfCatalog (NoAllowance round)) = refl
not_of_columns (OfCatalog (BreaksLimit of)) = refl
not_of_columns (OfCatalog (Contradicts of)) = refl
not_of_columns (OfCatalog (Lacks table)) = refl
not_of_columns TooManyRounds = refl
not_of_columns (Malformed oid round) = refl
not_of_columns (TooManyRows oid round) = refl
not_of_columns (Full table rounds) = refl
not_of_columns (Unresolved place rounds) = refl

pub asks_so : (parameters : List ℕ) (fields : List FieldAsked) (origins : Bool) → AsksFor (binding_asked parameters fields true origins) parameters fields
asks_so parameters fields origins = record { parameters_so = refl; fields_so = refl; queries = refl }

module _ (c d : Catalog) (h g : Held) (t : Tables) (parameters : List ℕ) (fields : List FieldAsked) (origins : Bool) (n : ℕ) (s : Stands h t)
    (kept : TypesKept h.capacity c t (binding_asked parameters fields true origins) n g) (same : g.capacity ≡ h.capacity) (stay : g.columns ≡ h.columns) (cost : Spent n c d) where
  abbrev q : Binding
  q = binding_asked parameters fields true origins

  abbrev b : Book
  b = contents t

  -- the tables once the types are kept
  abbrev next : Tables
  next = with_types c t (bind q) kept.reads []

  abbrev asked : List Pair
  asked = wanted origins g fields

  abbrev full : Option ℕ
  full = columns_full h.capacity c t (bind q)

  -- by how it ended
  abbrev left_by : Ending → Tables
  left_by e = if accepts e then extended (typed h.capacity c t (bind q)) (new_columns h.capacity c t (bind q)) else if keeps_finds e then typed h.capacity c t (bind q) else t

  typed_so : typed h.capacity c t (bind q) ≡ next
  typed_so = ap (λ w. with_types c t (bind q) (rows_read w) []) kept.walked

  asked_so : column_questions b q ≡ asked
  asked_so =
      let columns_of : Book → Pair → Option CatalogColumn = λ k p. k.columns p.0 p.1 in
      ap (λ (k : Pair → Option CatalogColumn). if origins then fresh_by same_pair (λ p. is_some (k p)) [] (sources (fields_of fields)) else [])
      (ap columns_of s.book ∙ sym stay)

  full_so : full ≡ round.columns_full d g next asked
  full_so =
      ap (λ k. first_full k (sizes_of (typed h.capacity c t (bind q))) (sizes_of (new_columns h.capacity c t (bind q)))) (sym same)
      ∙ ap (λ (u : Tables). first_full g.capacity (sizes_of u) (sizes_of (columns_added c u (column_questions b q)))) typed_so
      ∙ ap (λ ps. first_full g.capacity (sizes_of next) (sizes_of (columns_added c next ps))) asked_so
      ∙ ap (λ z. first_full g.capacity z (sizes_of (columns_added c next asked))) kept.kept.sizes
      ∙ ap (λ (e : Catalog). first_full g.capacity g.taken (sizes_of (columns_added e next asked))) (sym cost.after)

  columns_so : extended (typed h.capacity c t (bind q)) (new_columns h.capacity c t (bind q)) ≡ with_columns d next asked
  columns_so =
      ap (λ (u : Tables). extended u (columns_added c u (column_questions b q))) typed_so
      ∙ ap (with_columns c next) asked_so
      ∙ ap (λ (e : Catalog). with_columns e next asked) (sym cost.after)

  by_origins : (v : Bool) → (column_round (λ k. None) (λ k. round.columns_full d g next (wanted v g fields)) d (contents next) (binding_of fields) n [] d.allowance (wanted v g fields)).ending
      ≡ wanted_ending v d g next fields n
  by_origins true = refl
  by_origins false = refl

  pub goes_on : (limited h.capacity c t (bind q)).ending ≡ wanted_ending origins d g next fields n
  goes_on =
      let fine : Option ℕ → Outcome = types_settled (λ _. types_full h.capacity c t (bind q)) (λ _. full) c b q n kept.reads in
      let first : Option ℕ = first_place (unresolved c (settled c b.descriptors kept.reads)) 0 (requests c (bind q)) in
      ap (λ w. (concluded b (bind_settled (λ _. types_full h.capacity c t (bind q)) (λ _. full) c b q) w).ending) kept.walked
      ∙ ap (λ f. (if_fits f (fine first) b n).ending) kept.fits
      ∙ ap (λ x. (fine x).ending) kept.unfold_all
      ∙ same_ending (λ _. types_full h.capacity c t (bind q)) full c d b (contents next) q (binding_of fields) n (c.allowance - n) kept.reads (column_questions b q)
      ∙ ap (λ left. (column_round (λ k. None) (λ k. full) d (contents next) (binding_of fields) n [] left (column_questions b q)).ending) (sym (ap (λ (e : Catalog). e.allowance) cost.after))
      ∙ (λ i. (column_round (λ k. None) (λ k. full_so i) d (contents next) (binding_of fields) n [] d.allowance (asked_so i)).ending)
      ∙ by_origins origins

  pub left_so : (r : Result ℕ ColumnsFault) (k : Held) → ending_told n r ≡ (limited h.capacity c t (bind q)).ending → keeps_finds (ending_told n r) ≡ true →
      IfOk r (λ _. Stands k (with_columns d next asked)) → IfErr r (λ _. k ≡ g) → Stands k (tables_left h.capacity c t (bind q))
  left_so (Ok m) k ends keeps stands same_held = subst (Stands k) (sym (ap left_by (sym ends) ∙ columns_so)) stands
  left_so (Err fault) k ends keeps stands same_held =
      let left : tables_left h.capacity c t (bind q) ≡ next =
      ap left_by (sym ends) ∙ ap (λ v. if v then typed h.capacity c t (bind q) else t) keeps ∙ typed_so in
      subst (λ (x : Held). Stands x (tables_left h.capacity c t (bind q))) (sym same_held) (subst (Stands g) (sym left) kept.kept)
