-- How a computed Bind ends where its types are refused, and what it leaves.
-- Assumes nothing.
use Rattle.std.proofs.Common.{◌≡◌, ℕ, ◌<◌, ◌≤◌, false, length-append, arith, if◌then◌else◌, ◌↔◌, List, [], ◌++◌, length, map, nat_eq, option_map, Some, None, Option, sym, refl, ap, ◌∙◌, subst}
use Rattle.std.proofs.lemmas.List.{append-nil, length-map}
use Rattle.book.specs.Held.{Held, book_held}
use Rattle.book.specs.Stands.{Stands}
use Rattle.catalog.specs.Catalog.{Catalog, CatalogColumn}
use Rattle.catalog.specs.declared.faults.Told.{Told}
use Rattle.faults.specs.declared.fill.FillFault.{FillFault}
use Rattle.faults.specs.Faults.{refusal_of}
use Rattle.keys.specs.Senses.{Pair, same_pair}
use Rattle.life.specs.Bind.{bind_settled, types_settled}
use Rattle.life.specs.Calls.{Binding, Call, bind, requests}
use Rattle.life.specs.Faults.{of_layer_fill}
use Rattle.life.specs.Lists.{first_place}
use Rattle.life.specs.Outcomes.{Outcome, concluded, if_fits, unresolved}
use Rattle.life.specs.Rounds.{Descriptors, StandsOnce}
use Rattle.life.specs.Settle.{settled}
use Rattle.life.specs.Steps.{Book, Ending, accepts, keeps_finds, refused}
use Rattle.life.specs.Walk.{Walked, answered, ended, walk_from}
use Rattle.life.proofs.Ends.{ends_law}
use Rattle.life.proofs.Lists.{not_some_none, same_some}
use Rattle.life.proofs.Told.{WalkTold, oids_told}
use Rattle.life.proofs.Walk.{Result as Walked_to, ended_reads, walk_result}
use Rattle.life.specs.HostCalls.{meant_field}
use Rattle.requests.specs.Asked.{field_asked, fields_of}
use Rattle.requests.specs.declared.asked.FieldAsked.{FieldAsked}
use Rattle.resolve.specs.Fills.{FullAt, left_over}
use Rattle.resolve.specs.Lists.{both_lists, types_of}
use Rattle.resolve.specs.Walks.{stopped_told}
use Rattle.resolve.proofs.Left.{first_left_so, place_in}
use Rattle.room.specs.Added.{types_added, with_types}
use Rattle.room.specs.Room.{columns_full, limited, new_columns, rows_read, tables_left, typed, types_full}
use Rattle.room.specs.Sizes.{first_full, sizes_of}
use Rattle.room.specs.Tables.{Tables, contents, extended, look_up}
use Rattle.room.proofs.Outcome.{bare}
use Rattle.unfolding.specs.Lists.{Mem}
use Rattle.binding.specs.Types.{AsksFor, TypesKept, TypesRefused}

-- types leave the columns and the relations that are held
module _ (c : Catalog) (h g : Held) (t : Tables) (call : Call) (reads : List ℕ) (s : Stands h t) (now : Stands g (with_types c t call reads [])) where
  pub columns_stay : g.columns ≡ h.columns
  columns_stay =
      let columns_of : Book → Pair → Option CatalogColumn = λ b p. b.columns p.0 p.1 in
      ap columns_of (sym now.book) ∙ ap (look_up same_pair) (append-nil t.columns) ∙ ap columns_of s.book

  pub relations_stay : g.relations ≡ h.relations
  relations_stay = sym now.relations ∙ ap (look_up nat_eq) (append-nil t.relations) ∙ s.relations

-- what a Bind requests
pub requests_so : (c : Catalog) (q : Binding) (parameters : List ℕ) (fields : List FieldAsked) → AsksFor q parameters fields →
    requests c (bind q) ≡ both_lists parameters fields
requests_so c q parameters fields so = λ i. if so.queries i then so.parameters_so i ++ map (λ f. f.oid) (so.fields_so i) else []

module _ (c : Catalog) (h : Held) (t : Tables) (s : Stands h t) (q : Binding) (parameters : List ℕ) (fields : List FieldAsked) (so : AsksFor q parameters fields) where
  abbrev b : Book
  b = contents t

  abbrev rs : List ℕ
  rs = both_lists parameters fields

  abbrev full : Option ℕ
  full = types_full h.capacity c t (bind q)

  abbrev next : ℕ → List ℕ → Outcome
  next = bind_settled (λ _. full) (λ _. columns_full h.capacity c t (bind q)) c b q

  abbrev out : Outcome
  out = limited h.capacity c t (bind q)

  -- by how it ended
  abbrev left_by : Ending → Tables
  left_by e = if accepts e then extended (typed h.capacity c t (bind q)) (new_columns h.capacity c t (bind q)) else if keeps_finds e then typed h.capacity c t (bind q) else t

  asked : requests c (bind q) ≡ rs
  asked = requests_so c q parameters fields so

  module _ (w : Walked) (walked : w ≡ walk_from c (book_held h).descriptors rs) where
    walked_so : walk_from c b.descriptors (requests c (bind q)) ≡ w
    walked_so = (λ i. let k : Book = s.book i in walk_from c k.descriptors (asked i)) ∙ sym walked

    ends_so : out.ending ≡ (concluded b next w).ending
    ends_so = ap (λ v. (concluded b next v).ending) walked_so

  -- a refusal that keeps nothing
  bare_leaves : (g : Held) (told : Told) → h ≡ g → out.ending ≡ refused told.number told.place false told.rounds →
      keeps_finds (refused told.number told.place false told.rounds) ≡ false → Stands g (tables_left h.capacity c t (bind q))
  bare_leaves g told same ends none =
      let kept : tables_left h.capacity c t (bind q) ≡ t = ap left_by ends ∙ ap (λ k. if k then typed h.capacity c t (bind q) else t) none in
      subst (λ (k : Held). Stands k (tables_left h.capacity c t (bind q))) same (subst (Stands h) (sym kept) s)

  -- refused in the rounds
  pub stopped_so : (fault : FillFault) → stopped_told (refusal_of fault) ≡ walk_from c (book_held h).descriptors rs → TypesRefused h.capacity c t q fault h
  stopped_so fault walked =
      let told : Told = refusal_of fault in
      let ends : out.ending ≡ refused told.number told.place false told.rounds = ends_so (stopped_told told) walked in
      let within = subst WalkTold (walked_so (stopped_told told) walked) (oids_told c b (requests c (bind q))) in
      record { ends = sym ends; left = bare_leaves h told refl ends (bare told.number told.place told.rounds within) }

  -- walked to their end
  module _ (n : ℕ) (reads : List ℕ) (walked : ended n reads ≡ walk_from c (book_held h).descriptors rs) where
    abbrev full_here : Option ℕ
    full_here = first_full h.capacity h.taken (sizes_of (types_added c t (bind q) reads []))

    full_so : full ≡ full_here
    full_so = λ i. first_full h.capacity (s.sizes i) (sizes_of (types_added c t (bind q) (rows_read (walked_so (ended n reads) walked i)) []))

    typed_so : typed h.capacity c t (bind q) ≡ with_types c t (bind q) reads []
    typed_so = ap (λ w. with_types c t (bind q) (rows_read w) []) (walked_so (ended n reads) walked)

    abbrev first : Option ℕ
    first = first_place (unresolved c (settled c b.descriptors reads)) 0 (requests c (bind q))

    abbrev fine : Option ℕ → Outcome
    fine x = types_settled (λ _. full) (λ _. columns_full h.capacity c t (bind q)) c b q n reads x

    fitted_so : (x : Option ℕ) → full ≡ x → out.ending ≡ (if_fits x (fine first) b n).ending
    fitted_so x e = ends_so (ended n reads) walked ∙ ap (λ f. (if_fits f (fine first) b n).ending) e

    -- a table has no room
    pub full_refuses : (fault : FillFault) (g : Held) → g ≡ h → FullAt full_here n fault → TypesRefused h.capacity c t q fault g
    full_refuses fault g same at = over full_here refl
      where
        over : (x : Option ℕ) → full_here ≡ x → TypesRefused h.capacity c t q fault g
        over None e = absurd (not_some_none (refusal_of fault) at (ap (option_map (λ table. of_layer_fill 8 table n)) e))
        over (Some table) e =
            let is : of_layer_fill 8 table n ≡ refusal_of fault = same_some (ap (option_map (λ p. of_layer_fill 8 p n)) e) at in
            let ends : out.ending ≡ refused 8 table false n = fitted_so (Some table) (full_so ∙ e) in
            record {
              ends = sym (ends ∙ ap (λ (x : Told). refused x.number x.place false x.rounds) is);
              left = bare_leaves g (of_layer_fill 8 table n) (sym same) ends refl;
            }

    -- all is kept
    module _ (fits : full_here ≡ None) (g : Held) (now : Stands g (with_types c t (bind q) reads [])) where
      are : (o : ℕ) → Mem o reads ↔ StandsOnce c b.descriptors rs o
      are =
          subst (λ os. (o : ℕ) → Mem o reads ↔ StandsOnce c b.descriptors os o) asked
          (ended_reads c b.descriptors (requests c (bind q)) ⊥ 0 n reads
          (subst (Walked_to c b.descriptors (requests c (bind q)) ⊥ 0) (walked_so (ended n reads) walked) (walk_result c b.descriptors (requests c (bind q)))).0)

      -- by the first that is left
      module _ (x : Option ℕ) (left : x ≡ first_place (left_over c (answered (book_held g).descriptors) reads) 0 rs) where
        first_so : x ≡ first
        first_so = left ∙ first_left_so c t (bind q) rs reads [] are g now ∙ ap (first_place (unresolved c (settled c b.descriptors reads)) 0) (sym asked)

        pub left_in : (place : ℕ) → x ≡ Some place → place < length rs
        left_in place e = place_in (left_over c (answered (book_held g).descriptors) reads) rs place (sym left ∙ e)

        ends_fine : out.ending ≡ (fine x).ending
        ends_fine = fitted_so None (full_so ∙ fits) ∙ ap (λ y. (fine y).ending) (sym first_so)

        pub left_refuses : (place : ℕ) (fault : FillFault) → x ≡ Some place → refusal_of fault ≡ of_layer_fill 9 place n → TypesRefused h.capacity c t q fault g
        left_refuses place fault e is =
            let ends : out.ending ≡ refused 9 place false n = ends_fine ∙ ap (λ y. (fine y).ending) e in
            record {
              ends = ap (λ (k : Told). refused k.number k.place false k.rounds) is ∙ sym ends;
              left = subst (Stands g) (sym (ap left_by ends ∙ typed_so)) now;
            }

        pub all_kept : x ≡ None → TypesKept h.capacity c t q n g
        all_kept e = record {
          reads = reads;
          walked = walked_so (ended n reads) walked;
          fits = full_so ∙ fits;
          unfold_all = sym first_so ∙ e;
          kept = now;
        }

-- rounds that are walked to their end are few
pub rounds_few : (c : Catalog) (b : Descriptors) (rs : List ℕ) (n : ℕ) (reads : List ℕ) → ended n reads ≡ walk_from c b rs → n ≤ 64
rounds_few c b rs n reads walked = ((ends_law c b rs n).0 (reads, sym walked)).rounds

-- places of two short lists are small
pub place_small : (parameters : List ℕ) (fields : List FieldAsked) (place : ℕ) → length parameters ≤ 256 → length fields ≤ 256 → place < length (both_lists parameters fields) →
    place < 4294967296
place_small parameters fields place few many within =
    omega (
      arith,
      length-append parameters (types_of fields),
      length-map (fields_of fields) (λ f. f.oid),
      length-map fields (λ f. meant_field (field_asked f)),
      within,
      few,
      many,
    )
