-- A computed Resolve is a step of any life, and writes the OIDs of its entries; refusals 9 and 10 have their places.
-- Assumes nothing.
use Rattle.std.proofs.Common.{◌≡◌, ℕ, suc, Bool, true, false, cond, not, ◌&&◌, ◌||◌, ◌↔◌, List, [], ◌∷◌, ◌++◌, length, is_some, Some, None, Option, option_to_list, sym, refl, ap, ◌∙◌, subst, inl, inr, ⊎_elim, arith}
use Rattle.std.proofs.lemmas.Bool.{not-true, or_cases, or_left, or_right}
use Rattle.std.specs.Option.{option_or}
use Rattle.catalog.specs.Catalog.{Catalog, Laws}
use Rattle.catalog.specs.Shape.{Name}
use Rattle.unfolding.specs.Lists.{Mem}
use Rattle.life.specs.Calls.{Declared, of_oid, of_name, array_of, resolve, array_link, entry_requests, requests}
use Rattle.life.specs.Keep.{kept_names, kept, call_event}
use Rattle.life.specs.Life.{Lived, Agrees}
use Rattle.life.specs.Lists.{is_in, first_place}
use Rattle.life.specs.Outcomes.{Outcome, if_fits, concluded, closing, unresolved, Fits, RefusedAtFirst}
use Rattle.life.specs.Resolve.{link_from, entry_oid, oids, offends, lacks, resolved_book, resolve_ending, resolve_left, resolve_settled, resolve_outcome, ResolveLaw, HasOid, HasNoOid, Resolves, EntryLaw, WrittenLaw, EntryUnresolved, ResolveNineLaw, TenLaw}
use Rattle.life.specs.RoundOne.{asked_in_full, for_arrays_alone, lead, entry_asks, round_one, resolve_walk}
use Rattle.life.specs.Rounds.{Descriptors, StandsOnce}
use Rattle.life.specs.Settle.{settled}
use Rattle.life.specs.Steps.{Book, Ending, accepts, Event, NamesStand, Step}
use Rattle.life.specs.Tests.{declares_array}
use Rattle.life.specs.Walk.{Walked, ended, stopped}
use Rattle.life.proofs.First.{Stop, Come, resolve_come}
use Rattle.life.proofs.Keep.{settled_leads, keeping_step, lives_on}
use Rattle.life.proofs.Life.{fit, agrees}
use Rattle.life.proofs.Lists.{not_both, not_some_none, split_option, same_truth, in_mem, mem_in, flat_mem, any_tells, place_yes, place_no, place_some}
use Rattle.life.proofs.Outcomes.{Bare, offence_bare, Next, refusal_next, fitted_next, fits_so, closing_keeps, closing_tells, closing_told, closing_accepts, closing_nine, closing_ten, refused_first, unresolved_tells}
use Rattle.life.proofs.Questions.{lead_is, link_is, entry_full, round_full, alone_apart, element_read}
use Rattle.life.proofs.Standing.{layer_stands}
use Rattle.life.proofs.Tells.{or_first, declares_array_tells}
use Rattle.life.proofs.Walk.{Ended, ended_counts, ended_reads}

module _ (c : Catalog) (b : Book) (agree : Agrees c b) (ds : List Declared) (n : ℕ) (reads : List ℕ)
    (e : Ended c b.descriptors (requests c (resolve ds)) (NamesStand c b (resolve ds)) (length (for_arrays_alone (round_one c b ds))) n reads) where
  abbrev rs : List ℕ
  rs = requests c (resolve ds)

  abbrev alone : List ℕ
  alone = for_arrays_alone (round_one c b ds)

  pub read_so : (o : ℕ) → Mem o reads ↔ StandsOnce c b.descriptors rs o
  read_so = ended_reads c b.descriptors rs (NamesStand c b (resolve ds)) (length alone) n reads e

  -- where the book holds no array, the rows read for one are those of declared elements
  read_link : (k : ℕ) → b.arrays k ≡ None → (is_in k reads || declares_array c (resolve ds) k) ≡ (is_in k reads || is_in k alone)
  read_link k z =
      same_truth (is_in k reads || declares_array c (resolve ds) k) (is_in k reads || is_in k alone)
      (λ t.
      ⊎_elim
      (λ y. or_left (is_in k reads) (is_in k alone) y)
      (λ y.
      ⊎_elim
      (λ m. or_left (is_in k reads) (is_in k alone) (mem_in k reads ((read_so k).1 (1, layer_stands c b.descriptors rs 0 k (subst (Mem k) (round_full c b agree ds) m)))))
      (λ m. or_right (is_in k reads) (is_in k alone) (mem_in k alone m))
      (element_read c b agree ds k ((declares_array_tells c (resolve ds) k).0 y) z))
      (or_cases (is_in k reads) (declares_array c (resolve ds) k) t))
      (λ t.
      ⊎_elim
      (λ y. or_left (is_in k reads) (declares_array c (resolve ds) k) y)
      (λ y. or_right (is_in k reads) (declares_array c (resolve ds) k) ((declares_array_tells c (resolve ds) k).1 ((alone_apart c b agree ds k).0 (in_mem k alone y)).0))
      (or_cases (is_in k reads) (is_in k alone) t))

  abbrev linked_if : ℕ → Bool → Option ℕ
  linked_if k t = option_or (b.arrays k) (cond t (array_link (c.rows k)) None)

  same_link : (k : ℕ) → linked_if k (is_in k reads || declares_array c (resolve ds) k) ≡ linked_if k (is_in k reads || is_in k alone)
  same_link k =
      ⊎_elim
      (λ z. ap (linked_if k) (read_link k z))
      (λ z. or_first (b.arrays k) _ z.0 z.1 ∙ sym (or_first (b.arrays k) _ z.0 z.1))
      (split_option (b.arrays k))

  no_column : {A : Type 0} (done : Bool) (x y : Option A) → option_or x (cond (done && false) y None) ≡ x
  no_column true None y = refl
  no_column true (Some a) y = refl
  no_column false None y = refl
  no_column false (Some a) y = refl

  -- it is the book that a step keeps
  pub same_book : (done : Bool) → kept c (resolve ds) reads b done ≡ resolved_book c b ds reads alone
  same_book done = λ i. record {
    descriptors = settled c b.descriptors reads;
    names = kept_names c (resolve ds) (settled c b.descriptors reads) b.names;
    arrays = λ k. same_link k i;
    columns = λ r a. no_column done (b.columns r a) (c.columns r a) i;
  }

module _ (full : Book → Option ℕ) (h : List Event) (c : Catalog) (b : Book) (ds : List Declared) (laws : Laws c) (l : Lived h c b) where
  resolve_next : (w : Walked) → Come c b (agrees h c b l) ds w → Next c b (resolve ds) laws (concluded b (resolve_settled full c b ds) w)
  resolve_next (ended n reads) g =
      let agree = agrees h c b l in
      let after : Descriptors = settled c b.descriptors reads in
      let x : Option ℕ = first_place (offends c b after) 0 ds in
      let y : Option ℕ = first_place (lacks c b after) 0 ds in
      let e : Ending = closing n x y in
      let left : Book = resolve_left full c b ds reads in
      fitted_next c b (resolve ds) laws (full left) (record { ending = e; left = left }) n g.0.2
      (subst (λ (k : Book). Step (call_event c (resolve ds) e) b k) (same_book c b agree ds n reads g.0.0 (accepts e))
      (keeping_step h c b (resolve ds) e reads n laws l (read_so c b agree ds n reads g.0.0)
      (ended_counts c b.descriptors (requests c (resolve ds)) (NamesStand c b (resolve ds)) (length (for_arrays_alone (round_one c b ds))) n reads g.0.0)
      (closing_keeps n x y) (closing_tells n x y) (omega (arith, closing_told n x y, g.0.2))))
  resolve_next (stopped n p r) g = refusal_next c b (resolve ds) laws n p r (stop_bare n p r g.0) g.1
    where
      stop_bare : (n p r : ℕ) → Stop c b (agrees h c b l) ds n p r → Bare n
      stop_bare n p r =
          ⊎_elim
          (⊎_elim (λ x. inr (inl x.0)) (λ x. ⊎_elim (λ y. inr (inr (inr (inl y.0)))) (λ y. inr (inr (inl y.0))) x.1.why))
          (offence_bare c b.descriptors (requests c (resolve ds)) (length (for_arrays_alone (round_one c b ds))) n p r)

  pub resolve_step : Next c b (resolve ds) laws (resolve_outcome full c b ds)
  resolve_step = resolve_next (resolve_walk c b ds) (resolve_come c b (agrees h c b l) ds)

pub resolve_law : ResolveLaw
resolve_law full h c b ds laws l =
    lives_on h c b (resolve_outcome full c b ds).left (resolve ds) (resolve_outcome full c b ds).ending l (resolve_step full h c b ds laws l)

-- the OID of an entry
module _ (c : Catalog) (b : Book) (agree : Agrees c b) (d : Descriptors) where
  array_leads : (n : Name) (o : ℕ) → (link_from c b (lead c b n) ≡ Some o) ↔ ((e : ℕ) × (c.named n ≡ Some e) × (array_link (c.rows e) ≡ Some o))
  array_leads n o = (
    λ x.
        ⊎_elim
        (λ z. absurd (not_some_none o x (ap (link_from c b) z)))
        (λ z. (z.0, sym (lead_is c b agree n) ∙ z.1, sym (link_is c b agree z.0) ∙ sym (ap (link_from c b) z.1) ∙ x))
        (split_option (lead c b n)),
    λ y. ap (link_from c b) (lead_is c b agree n ∙ y.1) ∙ link_is c b agree y.0 ∙ y.2,
  )

  pub entry_has : (x : Declared) (o : ℕ) → (entry_oid c b d x ≡ Some o) ↔ HasOid c d x o
  entry_has (of_oid p) o = (λ e. cc, λ e. ap (λ k. Some k) e)
  entry_has (of_name n) o =
      let s = settled_leads d (lead c b n) o in
      (λ e. let y = s.0 e in (sym (lead_is c b agree n) ∙ y.0, y.1), λ y. s.1 (lead_is c b agree n ∙ y.0, y.1))
  entry_has (array_of n) o =
      let s = settled_leads d (link_from c b (lead c b n)) o in
      (λ e. let y = s.0 e in ((array_leads n o).0 y.0, y.1), λ y. s.1 ((array_leads n o).1 y.0, y.1))

  pub lacks_tells : (x : Declared) → (lacks c b d x ≡ true) ↔ HasNoOid c d x
  lacks_tells x = (
    λ t o q. not_both (ap is_some ((entry_has x o).1 q)) (not-true (is_some (entry_oid c b d x)) t),
    λ q. ⊎_elim (λ z. ap (λ u. not (is_some u)) z) (λ z. absurd (q z.0 ((entry_has x z.0).0 z.1))) (split_option (entry_oid c b d x)),
  )

  -- where no entry lacks its OID, the OIDs are one for each
  pub none_lacks : (i : ℕ) (ds : List Declared) → first_place (lacks c b d) i ds ≡ None → Resolves c d ds (oids c b d ds)
  none_lacks i [] e = tt
  none_lacks i (x ∷ ds) e =
      ⊎_elim
      (λ z.
      let t : lacks c b d x ≡ true = ap (λ v. not (is_some v)) z in
      absurd (not_some_none i (place_yes (lacks c b d) (HasNoOid c d) i x ds t) e))
      (λ z.
      let t : lacks c b d x ≡ false = ap (λ v. not (is_some v)) z.1 in
      subst (λ v. Resolves c d (x ∷ ds) (option_to_list v ++ oids c b d ds)) (sym z.1)
      ((entry_has x z.0).0 z.1, none_lacks (suc i) ds (sym (place_no (lacks c b d) (HasNoOid c d) i x ds t) ∙ e)))
      (split_option (entry_oid c b d x))

pub entry_law : EntryLaw
entry_law h c b after l x o = entry_has c b (agrees h c b l) after x o

module _ (full : Book → Option ℕ) (c : Catalog) (b : Book) (ds : List Declared) where
  abbrev Unlacked : Outcome → Type 0
  Unlacked o = accepts o.ending ≡ true → first_place (lacks c b o.left.descriptors) 0 ds ≡ None

  fitted_lacks : (fine : Outcome) (n : ℕ) (f : Option ℕ) → Unlacked fine → Unlacked (if_fits f fine b n)
  fitted_lacks fine n None u = u
  fitted_lacks fine n (Some t) u = λ e. absurd cc

  accepted_lacks : (w : Walked) → Unlacked (concluded b (resolve_settled full c b ds) w)
  accepted_lacks (ended n reads) =
      let after : Descriptors = settled c b.descriptors reads in
      fitted_lacks (record { ending = resolve_ending full c b ds n reads; left = resolve_left full c b ds reads }) n (full (resolve_left full c b ds reads))
      (closing_accepts n (first_place (offends c b after) 0 ds) (first_place (lacks c b after) 0 ds))
  accepted_lacks (stopped n p r) = λ e. absurd cc

pub written_law : WrittenLaw
written_law full h c b ds l e =
    let d : Descriptors = (resolve_outcome full c b ds).left.descriptors in
    subst (λ v. Resolves c d ds (cond v (oids c b d ds) [])) (sym e)
    (none_lacks c b (agrees h c b l) d 0 ds (accepted_lacks full c b ds (resolve_walk c b ds) e))

-- refusals 9 and 10
module _ (full : Book → Option ℕ) (h : List Event) (c : Catalog) (b : Book) (ds : List Declared) (l : Lived h c b) (n : ℕ) (reads : List ℕ)
    (w : resolve_walk c b ds ≡ ended n reads) (fits : Fits (resolve_outcome full c b ds).ending n) where
  abbrev d : Descriptors
  d = settled c b.descriptors reads

  abbrev nine : Option ℕ
  nine = first_place (offends c b d) 0 ds

  abbrev ten : Option ℕ
  ten = first_place (lacks c b d) 0 ds

  abbrev fine : Outcome
  fine = record { ending = closing n nine ten; left = resolve_left full c b ds reads }

  pub out : resolve_outcome full c b ds ≡ fine
  out = fits_so (resolve_outcome full c b ds) fine (full (resolve_left full c b ds reads)) b n (ap (concluded b (resolve_settled full c b ds)) w) fits

  offends_tells : (x : Declared) → Mem x ds → (offends c b d x ≡ true) ↔ EntryUnresolved c x
  offends_tells x m =
      let agree = agrees h c b l in
      let come = subst (Come c b agree ds) w (resolve_come c b agree ds) in
      let test = unresolved_tells c b.descriptors (requests c (resolve ds)) (fit h c b l).sound reads (read_so c b agree ds n reads come.0.0) in
      let due : ℕ → Type 0 = λ o. unresolved c d o ≡ true in
      let any = any_tells (unresolved c d) due (λ o. (λ t. t, λ t. t)) (asked_in_full (entry_asks c b x)) in
      let requested : (o : ℕ) → Mem o (entry_requests c x) → Mem o (requests c (resolve ds)) = λ o k. (flat_mem (entry_requests c) ds o).1 (x, m, k) in (
        λ t.
            let r = any.0 t in
            let k = subst (Mem r.0) (entry_full c b agree x) r.1 in
            (r.0, k, (test r.0 (requested r.0 k)).0 r.2),
        λ z. any.1 (z.0, subst (Mem z.0) (sym (entry_full c b agree x)) z.1, (test z.0 (requested z.0 z.1)).1 z.2),
      )

  pub refused_nine : RefusedAtFirst (resolve_outcome full c b ds).ending 9 n (EntryUnresolved c) ds
  refused_nine =
      let told : (resolve_outcome full c b ds).ending ≡ closing n nine ten = ap (λ (o : Outcome). o.ending) out in
      refused_first (resolve_outcome full c b ds).ending 9 n (offends c b d) (EntryUnresolved c) ds offends_tells
      (λ place. (λ y. (closing_nine n nine ten place).0 (sym told ∙ y), λ y. told ∙ (closing_nine n nine ten place).1 y))

  pub refused_ten : ((x : Declared) → Mem x ds → EntryUnresolved c x → ⊥) → RefusedAtFirst (resolve_outcome full c b ds).ending 10 n (HasNoOid c d) ds
  refused_ten no_nine =
      let unrefused : nine ≡ None =
      ⊎_elim
      (λ z. z)
      (λ z. let x = (place_some (offends c b d) (EntryUnresolved c) ds offends_tells 0).0 z in absurd (no_nine x.0 x.1 x.2))
      (split_option nine) in
      let told : (resolve_outcome full c b ds).ending ≡ closing n None ten = ap (λ (o : Outcome). o.ending) out ∙ ap (λ v. closing n v ten) unrefused in
      refused_first (resolve_outcome full c b ds).ending 10 n (lacks c b d) (HasNoOid c d) ds (λ x _. lacks_tells c b (agrees h c b l) d x)
      (λ place. (λ y. (closing_ten n ten place).0 (sym told ∙ y), λ y. told ∙ (closing_ten n ten place).1 y))

pub resolve_nine_law : ResolveNineLaw
resolve_nine_law full h c b ds l n reads w fits = refused_nine full h c b ds l n reads w fits

pub ten_law : TenLaw
ten_law full h c b ds l n reads w fits no_nine =
    let left : (resolve_outcome full c b ds).left.descriptors ≡ settled c b.descriptors reads = ap (λ (o : Outcome). o.left.descriptors) (out full h c b ds l n reads w fits) in
    subst (λ d. RefusedAtFirst (resolve_outcome full c b ds).ending 10 n (HasNoOid c d) ds) (sym left) (refused_ten full h c b ds l n reads w fits no_nine)
