-- The book that a keeping step leaves is the law's.
-- Assumes nothing.
use Rattle.std.proofs.Common.{◌≡◌, ℕ, ◌-◌, ◌≤◌, Bool, true, false, cond, ◌&&◌, ◌||◌, ◌⊎◌, ◌↔◌, List, is_some, nat_eq, Some, None, Option, option_and_then, bytes_eq, sym, refl, ap, ◌∙◌, subst, inl, inr, ⊎_elim, arith, eq-eqb}
use Rattle.std.proofs.lemmas.Bool.{and_from, and_parts, or_cases, or_left, or_right}
use Rattle.std.specs.Option.{option_or}
use Rattle.catalog.specs.Catalog.{Catalog, Laws, spent, Grows}
use Rattle.catalog.specs.Shape.{Name, Head}
use Rattle.unfolding.specs.Lists.{Mem}
use Rattle.unfolding.specs.Unfolding.{Tree, built, node, Trees, Link, built_in, Unfolds}
use Rattle.life.specs.Calls.{Call, array_link, requests, Declares, DeclaresArray}
use Rattle.life.specs.Keep.{if_named, pretty_in, if_settled, kept, call_event, LivesOn, KeepingLaw, LeavingLaw}
use Rattle.life.specs.Life.{Lived}
use Rattle.life.specs.Lists.{is_in}
use Rattle.life.specs.Rounds.{Descriptors, Known, Unknown, found, StandsOnce}
use Rattle.life.specs.Settle.{settled}
use Rattle.life.specs.Steps.{Book, PrettyName, Ending, accepted, refused, rounds_told, accepts, keeps_finds, TellsTypeRounds, Event, LastOfCall, LedTo, KeepsDescriptors, KeepsNames, KeepsArrays, KeepsColumns, Step}
use Rattle.life.specs.Tests.{declares, declares_array, asks_column}
use Rattle.life.proofs.Known.{found_held, found_tells, Right, found_right}
use Rattle.life.proofs.Life.{pretty_leads, Sound, Met, met_unless, met, Fit, fit}
use Rattle.life.proofs.Lists.{not_both, not_some_none, same_some, split_option, bytes_same, same_bytes, in_mem, mem_in}
use Rattle.life.proofs.Settle.{settled_right, settled_ext, settled_complete, settled_only}
use Rattle.life.proofs.Standing.{link_stands, stands_unknown, stands_led}
use Rattle.life.proofs.Tells.{or_some, or_first, or_next, or_adds, if_some, if_true, declares_tells, declares_array_tells, asks_tells}

module _ (c : Catalog) (b : Descriptors) (rs : List ℕ) (sound : Sound c b) (reads : List ℕ) (are : (o : ℕ) → Mem o reads ↔ StandsOnce c b rs o) where
  read_unknown : (o : ℕ) → Mem o reads → Unknown b o
  read_unknown o m = stands_unknown c b rs o ((are o).0 m)

  -- what is met is known or read
  near : (o : ℕ) → Met c b rs o → Known b o ⊎ Mem o reads
  near o = ⊎_elim (λ k. inl k) (λ s. inr ((are o).1 s))

  reads_closed : (o p : ℕ) → Mem o reads → Link c o p → Known b p ⊎ Mem p reads
  reads_closed o p m l = near p (met_unless c b rs p (λ u. link_stands c b rs o p ((are o).0 m) l u))

  pub kept_right : Right c (settled c b reads)
  kept_right = settled_right c b reads (λ p m. (read_unknown p m).0) sound.right

  -- what the passes leave is what a step keeps
  pub settled_keeps : KeepsDescriptors c rs b (settled c b reads)
  settled_keeps o t = (
    λ x.
        ⊎_elim
        (λ y. inr ((are o).0 y, kept_right o t x))
        (λ h. inl (h.1 ∙ ap (λ u. Some u) (same_some (settled_ext c b reads o h.0 h.1) x)))
        (settled_only c b reads o (t, x)),
    ⊎_elim
        (λ x. settled_ext c b reads o t x)
        (λ x.
        let m = (are o).1 x.0 in
        sym (found_held (settled c b reads) o (read_unknown o m).0) ∙ settled_complete c b reads sound.right (λ p k. (read_unknown p k).0) reads_closed o t (inr m) x.1),
  )

  -- a requested OID is found after the passes exactly with its unfolding
  pub request_found : (r : ℕ) (t : Tree) → Mem r rs → (found (settled c b reads) r ≡ Some t) ↔ Unfolds c r t
  request_found r t m = (
    found_right c (settled c b reads) kept_right r t,
    settled_complete c b reads sound.right (λ p k. (read_unknown p k).0) reads_closed r t (near r (met_unless c b rs r (λ u. (1, (m, u))))),
  )

named_some : (n : Name) (o p : ℕ) (x : Option Tree) → option_and_then (if_named n o) x ≡ Some p →
    (q : ℕ) × (h : Head) × (ts : Trees) × (o ≡ p) × (x ≡ Some (node q n h ts))
named_some n o p None e = absurd (not_some_none p e refl)
named_some n o p (Some (built q)) e = absurd (not_some_none p e refl)
named_some n o p (Some (node q m h ts)) e =
    let x = if_some (bytes_eq m n) (Some o) p e in
    let y : o ≡ p = sym (same_some x.1 refl) in
    (q, h, ts, y, ap (λ k. Some (node q k h ts)) (bytes_same m n x.0))

some_named : (n : Name) (o q : ℕ) (h : Head) (ts : Trees) (x : Option Tree) → x ≡ Some (node q n h ts) → option_and_then (if_named n o) x ≡ Some o
some_named n o q h ts x e = ap (option_and_then (if_named n o)) e ∙ if_true (bytes_eq n n) (Some o) (same_bytes n n refl)

pub pretty_some : (d : Descriptors) (n : Name) (x : Option ℕ) (p : ℕ) → pretty_in d n x ≡ Some p →
    (x ≡ Some p) × (q : ℕ) × (h : Head) × (ts : Trees) × (d p ≡ Some (node q n h ts))
pretty_some d n None p e = absurd (not_some_none p e refl)
pretty_some d n (Some o) p e =
    let x = named_some n o p (d o) e in
    (ap (λ k. Some k) x.3, x.0, x.1, x.2, sym (ap d x.3) ∙ x.4)

-- a name leads to what is known exactly so
pub settled_leads : (d : Descriptors) (x : Option ℕ) (o : ℕ) → (if_settled d x ≡ Some o) ↔ ((x ≡ Some o) × Known d o)
settled_leads d x o = (from x, λ y. ap (if_settled d) y.0 ∙ if_true (is_some (found d o)) (Some o) ((found_tells d o).1 y.1))
  where
    from : (x : Option ℕ) → if_settled d x ≡ Some o → (x ≡ Some o) × Known d o
    from None e = absurd (not_some_none o e refl)
    from (Some p) e =
        let y = if_some (is_some (found d p)) (Some p) o e in
        (y.1, subst (Known d) (same_some refl y.1) ((found_tells d p).0 y.0))

pub grows_self : (c : Catalog) → Grows c c
grows_self c = record { rows_stay = λ o r e. e; named_stay = λ n o e. e; columns_stay = λ r a k e. e }

lower : (c : Catalog) (n : ℕ) → Grows c (spent c n)
lower c n = record { rows_stay = λ o r e. e; named_stay = λ m o e. e; columns_stay = λ r a k e. e }

raise : (c : Catalog) (n : ℕ) → Grows (spent c n) c
raise c n = record { rows_stay = λ o r e. e; named_stay = λ m o e. e; columns_stay = λ r a k e. e }

module _ (c : Catalog) (b : Book) (call : Call) (reads : List ℕ) (laws : Laws c) (fits : Fit c b)
    (are : (o : ℕ) → Mem o reads ↔ StandsOnce c b.descriptors (requests c call) o) (done : Bool) where
  abbrev rs : List ℕ
  rs = requests c call

  abbrev d : Descriptors
  d = settled c b.descriptors reads

  abbrev b' : Book
  b' = kept c call reads b done

  right : Right c d
  right = kept_right c b.descriptors rs fits.sound reads are

  -- the names that are new
  abbrev NewName : Name → ℕ → Type 0
  NewName n o = PrettyName b' n o ⊎ (Declares call n × (c.named n ≡ Some o) × Known d o)

  abbrev new_name : Name → Option ℕ
  new_name n = option_or (pretty_in d n (c.named n)) (cond (declares call n) (if_settled d (c.named n)) None)

  new_names : (n : Name) (o : ℕ) → new_name n ≡ Some o → NewName n o
  new_names n o e =
      ⊎_elim
      (λ p.
      let z = pretty_some d n (c.named n) o p in
      let u = right o (node z.1 n z.2 z.3) z.4 in
      inl (z.2, z.3, z.4 ∙ ap (λ q. Some (node q n z.2 z.3)) (sym u.3)))
      (λ p.
      let z = if_some (declares call n) (if_settled d (c.named n)) o p.1 in
      let w = (settled_leads d (c.named n) o).0 z.1 in
      inr ((declares_tells call n).0 z.0, w.0, w.1))
      (or_some (pretty_in d n (c.named n)) _ o e)

  leads_so : (n : Name) (o : ℕ) → NewName n o → c.named n ≡ Some o
  leads_so n o = ⊎_elim (λ y. pretty_leads c laws o n y.0 y.1 (right o (node o n y.0 y.1) y.2)) (λ y. y.1)

  names_new : (n : Name) (o : ℕ) → NewName n o → new_name n ≡ Some o
  names_new n o (inl y) =
      or_first (pretty_in d n (c.named n)) _ o (ap (pretty_in d n) (leads_so n o (inl y)) ∙ some_named n o o y.0 y.1 (d o) y.2)
  names_new n o (inr y) =
      ⊎_elim
      (λ z. or_next (pretty_in d n (c.named n)) _ z ∙ if_true (declares call n) _ ((declares_tells call n).1 y.0) ∙ (settled_leads d (c.named n) o).1 (y.1, y.2))
      (λ p. let z = pretty_some d n (c.named n) p.0 p.1 in or_first (pretty_in d n (c.named n)) _ o (p.1 ∙ ap (λ k. Some k) (same_some z.0 y.1)))
      (split_option (pretty_in d n (c.named n)))

  names_kept : KeepsNames c call b b'
  names_kept n o =
      or_adds (b.names n) (new_name n) o (new_names n o)
      (λ y. (λ _. names_new n o y, λ p z. same_some (fits.agrees.names n p z) (leads_so n o y)))

  abbrev NewArray : ℕ → ℕ → Type 0
  NewArray e a = (array_link (c.rows e) ≡ Some a) × (DeclaresArray c call e ⊎ ((built_in e ≡ false) × LedTo c rs e))

  -- the row of a new array is declared or read
  row_asked : (e a : ℕ) → NewArray e a → b.arrays e ≡ None → (is_in e reads || declares_array c call e) ≡ true
  row_asked e a (x, inl y) unheld = or_right (is_in e reads) (declares_array c call e) ((declares_array_tells c call e).1 y)
  row_asked e a (x, inr y) unheld =
      ⊎_elim
      (⊎_elim (λ z. absurd (not_both z y.0)) (λ h. absurd (not_some_none a (fits.array_held e a h x) unheld)))
      (λ s. or_left (is_in e reads) (declares_array c call e) (mem_in e reads ((are e).1 s)))
      (met c b.descriptors rs fits.sound e y.1)

  arrays_kept : KeepsArrays c call rs b b'
  arrays_kept e a =
      or_adds (b.arrays e) (cond (is_in e reads || declares_array c call e) (array_link (c.rows e)) None) a
      (λ y.
      let z = if_some (is_in e reads || declares_array c call e) (array_link (c.rows e)) a y in (
        z.1,
        ⊎_elim
            (λ m.
            let s = (are e).0 (in_mem e reads m) in
            inr ((stands_unknown c b.descriptors rs e s).0, stands_led c b.descriptors rs e s))
            (λ m. inl ((declares_array_tells c call e).0 m))
            (or_cases (is_in e reads) (declares_array c call e) z.0),
      ))
      (λ y. (
        λ unheld. if_true (is_in e reads || declares_array c call e) (array_link (c.rows e)) (row_asked e a y unheld) ∙ y.0,
        λ v z. same_some (fits.agrees.arrays e v z) y.0,
      ))

  columns_kept : KeepsColumns c call done b b'
  columns_kept r a k =
      or_adds (b.columns r a) (cond (done && asks_column call r a) (c.columns r a) None) k
      (λ y.
      let z = if_some (done && asks_column call r a) (c.columns r a) k y in
      let w = and_parts done (asks_column call r a) z.0 in
      (w.0, (asks_tells call r a).0 w.1, z.1))
      (λ y. (
        λ _. if_true (done && asks_column call r a) (c.columns r a) (and_from done (asks_column call r a) y.0 ((asks_tells call r a).1 y.1)) ∙ y.2,
        λ v z. same_some (fits.agrees.columns r a v z) y.2,
      ))

-- the step itself, of the book that the call met
pub keeping_step : (h : List Event) (c : Catalog) (b : Book) (call : Call) (e : Ending) (reads : List ℕ) (n : ℕ) → Laws c → Lived h c b →
    ((o : ℕ) → Mem o reads ↔ StandsOnce c b.descriptors (requests c call) o) → LastOfCall c b call n →
    keeps_finds e ≡ true → ((k : ℕ) → TellsTypeRounds e k → n ≡ k) → rounds_told e ≤ c.allowance →
    Step (call_event c call e) b (kept c call reads b (accepts e))
keeping_step h c b call e reads n laws l are last keeps tells_it le =
    let fits = fit h c b l in
    record {
      laws = laws;
      stays = lower c (c.allowance - rounds_told e);
      adds_nothing = raise c (c.allowance - rounds_told e);
      lowers = omega arith;
      descriptors = λ _. settled_keeps c b.descriptors (requests c call) fits.sound reads are;
      names = λ _. names_kept c b call reads laws fits are (accepts e);
      arrays = λ _. arrays_kept c b call reads laws fits are (accepts e);
      columns = columns_kept c b call reads laws fits are (accepts e);
      leaves = λ y. absurd (not_both keeps y);
      counts = λ k y. subst (LastOfCall c b call) (tells_it k y) last;
    }

-- a step of the book that a life left makes the life longer
pub lives_on : (h : List Event) (c : Catalog) (b after : Book) (call : Call) (e : Ending) → Lived h c b → Step (call_event c call e) b after → LivesOn h c call e after
lives_on h c b after call e l s = (b, l, s, grows_self (spent c (c.allowance - rounds_told e)))

pub keeping_law : KeepingLaw
keeping_law h c b call e reads n laws l are last keeps tells_it le =
    lives_on h c b (kept c call reads b (accepts e)) call e l (keeping_step h c b call e reads n laws l are last keeps tells_it le)

untold : (e : Ending) (k : ℕ) → keeps_finds e ≡ false → TellsTypeRounds e k → ⊥
untold (accepted t m) k e x = not_both {b = true} refl e
untold (refused n p col r) k e x =
    ⊎_elim
    (λ y. not_both (or_left (nat_eq n 9) _ (eq-eqb n 9 y)) e)
    (λ y. not_both (or_right (nat_eq n 9) _ (or_left (nat_eq n 10) _ (eq-eqb n 10 y))) e)
    x.0

unaccepted : (e : Ending) → keeps_finds e ≡ false → accepts e ≡ true → ⊥
unaccepted (accepted t m) e x = not_both {b = true} refl e
unaccepted (refused n p col r) e x = not_both {b = false} x refl

pub leaving_step : (c : Catalog) (b : Book) (call : Call) (e : Ending) → Laws c → keeps_finds e ≡ false → rounds_told e ≤ c.allowance → Step (call_event c call e) b b
leaving_step c b call e laws leaves le = record {
  laws = laws;
  stays = lower c (c.allowance - rounds_told e);
  adds_nothing = raise c (c.allowance - rounds_told e);
  lowers = omega arith;
  descriptors = λ y. absurd (not_both y leaves);
  names = λ y. absurd (not_both y leaves);
  arrays = λ y. absurd (not_both y leaves);
  columns = λ r a k. (λ y. inl y, ⊎_elim (λ y. y) (λ y. absurd (unaccepted e leaves y.0)));
  leaves = λ _. refl;
  counts = λ k y. absurd (untold e k leaves y);
}

pub leaving_law : LeavingLaw
leaving_law h c b call e laws l leaves le = lives_on h c b b call e l (leaving_step c b call e laws leaves le)
