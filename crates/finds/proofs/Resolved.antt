-- A book that takes in what a Resolve declares and reads apart stands for what the law adds.
-- Assumes nothing.
use Rattle.std.proofs.Common.{◌≡◌, ℕ, Bool, true, false, not, ◌&&◌, ◌||◌, ◌⊎◌, if◌then◌else◌, List, [], ◌∷◌, ◌++◌, map, nat_eq, bytes_eq, is_some, Some, None, Option, sym, refl, ap, ◌∙◌, subst, inl, inr, ⊎_elim, append-nil}
use Rattle.std.specs.List.{cons_option, filter_map, list_any}
use Rattle.std.specs.Option.{option_map, option_or}
use Rattle.std.proofs.Math.Bool.{or_assoc}
use Rattle.std.proofs.lemmas.Bool.{and_from, and_parts, cases_Bool, cond-false}
use Rattle.std.proofs.lemmas.Bool.Decides.{Decides-eqb}
use Rattle.std.proofs.lemmas.List.Elements.{filter_map-append}
use Rattle.std.proofs.lemmas.Slice.Eq.{bytes_eq-Decides}
use Rattle.catalog.specs.Catalog.{Catalog, CatalogRow, Laws}
use Rattle.catalog.specs.Shape.{Name}
use Rattle.unfolding.specs.Lists.{Distinct, Mem}
use Rattle.unfolding.specs.Unfolding.{Tree, built, built_in}
use Rattle.life.specs.Calls.{Declared, array_link, array_of, fill, of_name, of_oid, resolve}
use Rattle.life.specs.InTurn.{known_so}
use Rattle.life.specs.Keep.{if_settled}
use Rattle.life.specs.Lists.{fresh_by, is_in}
use Rattle.life.specs.RoundOne.{lead}
use Rattle.life.specs.Rounds.{Descriptors, found}
use Rattle.life.specs.Settle.{settled}
use Rattle.life.specs.Steps.{Book}
use Rattle.life.specs.Walk.{answered}
use Rattle.life.proofs.InTurn.{in_turn_described}
use Rattle.life.proofs.Lists.{chosen_false, chosen_true, not_both, same_some, same_truth}
use Rattle.room.specs.Added.{Once, declared_names, new_by, types_added, with_types, with_values}
use Rattle.room.specs.Sizes.{Sizes, first_full, name_of, sizes_of}
use Rattle.room.specs.Tables.{Tables, contents, extended, look_up}
use Rattle.room.proofs.Additions.{described_so, map_mem}
use Rattle.room.proofs.Extended.{extended_assoc}
use Rattle.room.proofs.LookUp.{keys, look_append, look_new, look_values, values_mem}
use Rattle.room.proofs.Order.{sizes_with}
use Rattle.book.specs.Adding.{adds_name}
use Rattle.book.specs.Held.{Fits, Held, book_held, sum_of, with_name}
use Rattle.book.specs.Stands.{Stands, one_name}
use Rattle.book.proofs.Room.{fits_then}
use Rattle.finds.specs.declared.tables.Finds.{Finds}
use Rattle.finds.specs.Finds.{ReadFrom, order_of, reads_of}
use Rattle.finds.specs.Keeping.{Find, SettledBy, array_kept, array_size, each, link_kept, new_link_size, size_of_all}
use Rattle.finds.specs.Resolving.{Apart, Lead, apart_kept, apart_size, entry_lead, lead_kept, lead_size, leads_of, left_out, names_find, names_settled, new_leads, same_name, size_of_resolved}
use Rattle.finds.proofs.Counted.{links_size}
use Rattle.finds.proofs.Gathering.{chosen, each_capacity, each_link, fits_first, fits_none, link_capacity, links_in, links_kept, links_kept_in, named_all, named_kept, names_in, names_new, new_links, of_arrays, of_names, size_one_name}
use Rattle.finds.proofs.Landed.{names_looked, size_added}
use Rattle.finds.proofs.News.{new_alike, new_append, new_held, new_one}
use Rattle.finds.proofs.Told.{by_row, links_so, settled_found, values_once}

-- the capacity stays
pub lead_capacity : (h : Held) (x : Lead) → (lead_kept h x).capacity ≡ h.capacity
lead_capacity h x = chosen (answered (book_held h).descriptors x.1 && adds_name h x.0) (with_name h x.0 x.1) h refl

pub apart_capacity : (h : Held) (x : Apart) → (apart_kept h x).capacity ≡ h.capacity
apart_capacity h x = link_capacity h x.0 x.1

-- what is known
pub answered_found : (d : Descriptors) (o : ℕ) → answered d o ≡ is_some (found d o)
answered_found d o = by_case (built_in o)
  where
    by_case : (v : Bool) → (v || is_some (d o)) ≡ is_some (if v then Some (built o) else d o)
    by_case true = refl
    by_case false = refl

-- what goes into the tables beside the finds: names, and array links
module _ (c : Catalog) (t : Tables) (reads es : List ℕ) (ds : List Declared) where
  abbrev pub after : Descriptors
  after = settled c (contents t).descriptors reads

  abbrev pub value : Name → Option ℕ
  value n = if_settled after (c.named n)

  abbrev pub link : ℕ → Option ℕ
  link e = array_link (c.rows e)

  abbrev pub of_finds : Tables
  of_finds = types_added c t (fill []) reads []

  abbrev pub so_far : Tables
  so_far = with_types c t (fill []) reads []

  abbrev pub declared : List Lead
  declared = with_values value (declared_names (resolve ds))

  abbrev pub linked : List (ℕ × ℕ)
  linked = with_values link es

  abbrev pub rest : Tables
  rest = extended (names_new so_far declared) (new_links so_far linked)

  names_split : (types_added c t (resolve ds) reads es).names ≡ of_finds.names ++ (new_by bytes_eq so_far.names declared ++ [])
  names_split =
      let ns = map (λ (x : ℕ × Tree). name_of x.1) of_finds.descriptors in
      ap (new_by bytes_eq t.names) (filter_map-append (λ n. option_map (λ v. (n, v)) (value n)) ns (declared_names (resolve ds)))
      ∙ new_append bytes_eq bytes_eq-Decides (with_values value ns) declared t.names
      ∙ ap (λ l. new_by bytes_eq t.names (with_values value l) ++ new_by bytes_eq (t.names ++ new_by bytes_eq t.names (with_values value l)) declared) (sym (append-nil ns))
      ∙ ap (λ l. of_finds.names ++ l) (sym (append-nil (new_by bytes_eq so_far.names declared)))

  arrays_split : (types_added c t (resolve ds) reads es).arrays ≡ of_finds.arrays ++ new_by nat_eq so_far.arrays linked
  arrays_split =
      ap (new_by nat_eq t.arrays) (filter_map-append (λ e. option_map (λ v. (e, v)) (link e)) reads es)
      ∙ new_append nat_eq Decides-eqb (with_values link reads) linked t.arrays
      ∙ ap (λ l. new_by nat_eq t.arrays (with_values link l) ++ new_by nat_eq (t.arrays ++ new_by nat_eq t.arrays (with_values link l)) linked) (sym (append-nil reads))

  pub added_split : types_added c t (resolve ds) reads es ≡ extended of_finds rest
  added_split = λ i. record {
    descriptors = sym (append-nil of_finds.descriptors) i;
    names = names_split i;
    arrays = arrays_split i;
    columns = [];
    relations = [];
  }

  pub all_split : with_types c t (resolve ds) reads es ≡ extended so_far rest
  all_split = ap (extended t) added_split ∙ sym (extended_assoc t of_finds rest)

-- what is there goes on being there
still : {A : Type 0} (x y : Option A) → is_some x ≡ true → is_some (option_or x y) ≡ true
still None y e = absurd (not_both e refl)
still (Some a) y e = refl

-- the names that lead to what is known are those declared that do
module _ (c : Catalog) (b : Book) (d : Descriptors) where
  abbrev pub known_lead : Lead → Option Lead
  known_lead x = if is_some (found d x.1) then Some x else None

  abbrev pub known_leads : List Lead → List Lead
  known_leads xs = filter_map known_lead xs

  abbrev settled_value : Name → Option ℕ
  settled_value n = if_settled d (c.named n)

  drops : (held : List Lead) (n : Name) (x : Option ℕ) (xs : List Lead) → is_some (look_up bytes_eq held n) ≡ true →
      new_by bytes_eq held (cons_option (option_map (λ o. (n, o)) x) xs) ≡ new_by bytes_eq held xs
  drops held n None xs e = refl
  drops held n (Some o) xs e = new_held bytes_eq bytes_eq-Decides held (n, o) xs e

  -- more is held
  abbrev Holds : (Name → Bool) → List Lead → Type 0
  Holds there held = (m : Name) → there m ≡ true → is_some (look_up bytes_eq held m) ≡ true

  holds_more : (there : Name → Bool) (held more : List Lead) → Holds there held → Holds there (held ++ more)
  holds_more there held more h m e = ap is_some (look_append bytes_eq bytes_eq-Decides held more m) ∙ still (look_up bytes_eq held m) (look_up bytes_eq more m) (h m e)

  module _ (there : Name → Bool) (n : Name) (xs ys : List Lead) (alike : (held : List Lead) → Holds there held → new_by bytes_eq held xs ≡ new_by bytes_eq held ys) where
    same_entry : (x : Option ℕ) (held : List Lead) → Holds there held →
        new_by bytes_eq held (cons_option (option_map (λ o. (n, o)) x) xs) ≡ new_by bytes_eq held (cons_option (option_map (λ o. (n, o)) x) ys)
    same_entry None held h = alike held h
    same_entry (Some o) held h =
        ⊎_elim
        (λ y. new_held bytes_eq bytes_eq-Decides held (n, o) xs y ∙ alike held h ∙ sym (new_held bytes_eq bytes_eq-Decides held (n, o) ys y))
        (λ y.
        new_one bytes_eq bytes_eq-Decides held (n, o) xs y
        ∙ ap (λ l. (n, o) ∷ l) (alike (held ++ (n, o) ∷ []) (holds_more there held ((n, o) ∷ []) h))
        ∙ sym (new_one bytes_eq bytes_eq-Decides held (n, o) ys y))
        (cases_Bool (is_some (look_up bytes_eq held n)))

    entry : (x y : Option ℕ) (held : List Lead) → Holds there held → (there n ≡ true) ⊎ (x ≡ y) →
        new_by bytes_eq held (cons_option (option_map (λ o. (n, o)) x) xs) ≡ new_by bytes_eq held (cons_option (option_map (λ o. (n, o)) y) ys)
    entry x y held h either =
        ⊎_elim
        (λ e. drops held n x xs (h n e) ∙ alike held h ∙ sym (drops held n y ys (h n e)))
        (λ e. ap (λ v. new_by bytes_eq held (cons_option (option_map (λ o. (n, o)) v) xs)) e ∙ same_entry y held h)
        either

  known_first : (n : Name) (l : Option ℕ) (xs : List Lead) →
      known_leads (cons_option (option_map (λ o. (n, o)) l) xs) ≡ cons_option (option_map (λ o. (n, o)) (if_settled d l)) (known_leads xs)
  known_first n None xs = refl
  known_first n (Some o) xs = by_case (is_some (found d o))
    where
      by_case : (v : Bool) →
          cons_option (if v then Some (n, o) else None) (known_leads xs) ≡ cons_option (option_map (λ p. (n, p)) (if v then Some o else None)) (known_leads xs)
      by_case true = refl
      by_case false = refl

  -- the book's answer stands in the way of what the catalog says, or there is none
  led : (n : Name) → (is_some (b.names n) ≡ true) ⊎ (if_settled d (lead c b n) ≡ settled_value n)
  led n = by_case (b.names n)
    where
      by_case : (x : Option ℕ) → (is_some x ≡ true) ⊎ (if_settled d (option_or x (c.named n)) ≡ settled_value n)
      by_case None = inr refl
      by_case (Some o) = inl refl

  abbrev held_there : Name → Bool
  held_there n = is_some (b.names n)

  abbrev pub entry_leads : List Declared → List Lead
  entry_leads ds = leads_of ds (map (entry_lead c b) ds)

  pub leads_new : (ds : List Declared) (held : List Lead) → ((m : Name) → is_some (b.names m) ≡ true → is_some (look_up bytes_eq held m) ≡ true) →
      new_by bytes_eq held (known_leads (entry_leads ds)) ≡ new_by bytes_eq held (with_values settled_value (declared_names (resolve ds)))
  leads_new [] held h = refl
  leads_new (of_oid o ∷ ds) held h = leads_new ds held h
  leads_new (of_name n ∷ ds) held h =
      ap (new_by bytes_eq held) (known_first n (lead c b n) (entry_leads ds))
      ∙ entry held_there n (known_leads (entry_leads ds)) (with_values settled_value (declared_names (resolve ds))) (leads_new ds) (if_settled d (lead c b n)) (settled_value n) held h (led n)
  leads_new (array_of n ∷ ds) held h =
      ap (new_by bytes_eq held) (known_first n (lead c b n) (entry_leads ds))
      ∙ entry held_there n (known_leads (entry_leads ds)) (with_values settled_value (declared_names (resolve ds))) (leads_new ds) (if_settled d (lead c b n)) (settled_value n) held h (led n)

  -- each is what its name leads to
  first_led : (n : Name) (l : Option ℕ) (xs : List Lead) (x : Lead) → lead c b n ≡ l → Mem x (cons_option (option_map (λ o. (n, o)) l) xs) →
      (Mem x xs → lead c b x.0 ≡ Some x.1) → lead c b x.0 ≡ Some x.1
  first_led n None xs x e m others = others m
  first_led n (Some o) xs x e m others =
      ⊎_elim (λ same. ap (λ (y : Lead). lead c b y.0) same ∙ e ∙ sym (ap (λ (y : Lead). Some y.1) same)) others m

  pub leads_lead : (ds : List Declared) (x : Lead) → Mem x (entry_leads ds) → lead c b x.0 ≡ Some x.1
  leads_lead [] x m = absurd m
  leads_lead (of_oid o ∷ ds) x m = leads_lead ds x m
  leads_lead (of_name n ∷ ds) x m = first_led n (lead c b n) (entry_leads ds) x refl m (leads_lead ds x)
  leads_lead (array_of n ∷ ds) x m = first_led n (lead c b n) (entry_leads ds) x refl m (leads_lead ds x)

  -- they are kept one after the other
  kept_descriptors : (h : Held) (x : Lead) → (book_held (named_kept h x)).descriptors ≡ (book_held h).descriptors
  kept_descriptors h x = by_case (adds_name h x.0)
    where
      by_case : (v : Bool) → (book_held (if v then with_name h x.0 x.1 else h)).descriptors ≡ (book_held h).descriptors
      by_case true = refl
      by_case false = refl

  pub known_kept : (xs : List Lead) (h : Held) → ((o : ℕ) → answered (book_held h).descriptors o ≡ is_some (found d o)) → each lead_kept h xs ≡ each named_kept h (known_leads xs)
  known_kept [] h known = refl
  known_kept (x ∷ xs) h known =
      ⊎_elim
      (λ y.
      ap (λ v. each lead_kept (if v && adds_name h x.0 then with_name h x.0 x.1 else h) xs) (known x.1 ∙ y)
      ∙ known_kept xs (named_kept h x) (λ o. ap (λ (e : Descriptors). answered e o) (kept_descriptors h x) ∙ known o)
      ∙ sym (ap (λ v. each named_kept h (cons_option (if v then Some x else None) (known_leads xs))) y))
      (λ n.
      ap (λ v. each lead_kept (if v && adds_name h x.0 then with_name h x.0 x.1 else h) xs) (known x.1 ∙ n)
      ∙ known_kept xs h known
      ∙ sym (ap (λ v. each named_kept h (cons_option (if v then Some x else None) (known_leads xs))) n))
      (cases_Bool (is_some (found d x.1)))

  -- and counted
  pub known_fresh :
      (skip skip' : Lead → Bool) (xs seen : List Lead) → ((x : Lead) → is_some (found d x.1) ≡ false → skip x ≡ true) →
      ((x : Lead) → Mem x xs → is_some (found d x.1) ≡ true → skip x ≡ skip' x) →
      fresh_by same_name skip seen xs ≡ fresh_by same_name skip' seen (known_leads xs)
  known_fresh skip skip' [] seen out same = refl
  known_fresh skip skip' (x ∷ xs) seen out same =
      let later = λ (y : Lead) (m : Mem y xs). same y (inr m) in
      ⊎_elim
      (λ y.
      let here = ap (λ v. v || list_any (same_name x) seen) (same x (inl refl) y) in
      ⊎_elim
      (λ t.
      chosen_true (skip x || list_any (same_name x) seen) _ _ t
      ∙ known_fresh skip skip' xs seen out later
      ∙ sym (chosen_true (skip' x || list_any (same_name x) seen) _ _ (sym here ∙ t)))
      (λ n.
      chosen_false (skip x || list_any (same_name x) seen) _ _ n
      ∙ ap (λ l. x ∷ l) (known_fresh skip skip' xs (x ∷ seen) out later)
      ∙ sym (chosen_false (skip' x || list_any (same_name x) seen) _ _ (sym here ∙ n)))
      (cases_Bool (skip x || list_any (same_name x) seen))
      ∙ sym (ap (λ v. fresh_by same_name skip' seen (cons_option (if v then Some x else None) (known_leads xs))) y))
      (λ n.
      chosen_true (skip x || list_any (same_name x) seen) _ _ (ap (λ v. v || list_any (same_name x) seen) (out x n))
      ∙ known_fresh skip skip' xs seen out later
      ∙ sym (ap (λ v. fresh_by same_name skip' seen (cons_option (if v then Some x else None) (known_leads xs))) n))
      (cases_Bool (is_some (found d x.1)))

-- so much names take
pub size_names : (xs : List Lead) → size_of_all lead_size xs ≡ sizes_of (of_names xs)
size_names [] = refl
size_names (x ∷ xs) = (λ i. sum_of (sym (size_one_name x.0 x.1) i) (size_names xs i)) ∙ sym (sizes_with (one_name x.0 x.1) (of_names xs))

-- the rows apart are as finds of their elements
module _ (c : Catalog) where
  abbrev pub rows_apart : List ℕ → List Apart
  rows_apart es = map (λ e. (e, array_link (c.rows e))) es

  pub apart_sizes : (h : Held) (es : List ℕ) → size_of_all (apart_size h) (rows_apart es) ≡ size_of_all (array_size h) (map (by_row c) es)
  apart_sizes h [] = refl
  apart_sizes h (e ∷ es) = λ i. sum_of (by_case (c.rows e) i) (apart_sizes h es i)
    where
      by_case : (r : Option CatalogRow) → new_link_size h e (array_link r) ≡ array_size h (option_map (λ x. (e, x)) r)
      by_case None = refl
      by_case (Some r) = refl

  pub apart_each : (es : List ℕ) (h : Held) → each apart_kept h (rows_apart es) ≡ each array_kept h (map (by_row c) es)
  apart_each [] h = refl
  apart_each (e ∷ es) h = by_case (c.rows e) ∙ apart_each es (array_kept h (by_row c e))
    where
      by_case : (r : Option CatalogRow) →
          each apart_kept (link_kept h e (array_link r)) (rows_apart es) ≡ each apart_kept (array_kept h (option_map (λ x. (e, x)) r)) (rows_apart es)
      by_case None = refl
      by_case (Some r) = refl

module _ (c : Catalog) (laws : Laws c) (f : Finds) (from : ReadFrom c f) (t : Tables) (k : SettledBy c (contents t).descriptors f) (h : Held) (s : Stands h t) where
  abbrev reads : List ℕ
  reads = reads_of f

  abbrev d : Descriptors
  d = settled c (contents t).descriptors reads

  abbrev b : Book
  b = book_held h

  -- what is known once the step is done
  known_then : (o : ℕ) → known_so b.descriptors (order_of f) o ≡ is_some (found d o)
  known_then o =
      ap (λ (z : Book). known_so z.descriptors (order_of f) o) (sym s.book)
      ∙ or_assoc (built_in o) (is_some ((contents t).descriptors o)) (is_in o (order_of f))
      ∙ ap (λ v. built_in o || v) (sym (in_turn_described c (contents t).descriptors (order_of f) k.turn o))
      ∙ ap (λ (e : Descriptors). answered e o) k.settles
      ∙ answered_found d o

  -- names that the finds bring are those of rows that were settled
  abbrev named_in : Name → Option Find → Bool
  named_in n None = false
  named_in n (Some y) = bytes_eq n y.1.pretty

  looked_in : (xs : List (Option Find)) (n : Name) → is_some (look_up bytes_eq (names_in xs) n) ≡ list_any (named_in n) xs
  looked_in [] n = refl
  looked_in (None ∷ xs) n = looked_in xs n
  looked_in (Some y ∷ xs) n = by_case (bytes_eq n y.1.pretty) (looked_in xs n)
    where
      by_case : (v : Bool) → is_some (look_up bytes_eq (names_in xs) n) ≡ list_any (named_in n) xs →
          is_some (if v then Some y.0 else look_up bytes_eq (names_in xs) n) ≡ (v || list_any (named_in n) xs)
      by_case true later = refl
      by_case false later = later

  one_named : (x : Lead) → c.named x.0 ≡ Some x.1 → (p : ℕ) → named_in x.0 (by_row c p) ≡ names_find x (by_row c p)
  one_named x e p = by_case (c.rows p) refl
    where
      by_case : (r : Option CatalogRow) → c.rows p ≡ r → named_in x.0 (option_map (λ y. (p, y)) r) ≡ names_find x (option_map (λ y. (p, y)) r)
      by_case None there = refl
      by_case (Some r) there =
          same_truth (bytes_eq x.0 r.pretty) (nat_eq p x.1 && bytes_eq x.0 r.pretty)
          (λ y.
          let same : p ≡ x.1 = same_some (laws.pretty_leads p r there) (ap c.named (sym ((bytes_eq-Decides x.0 r.pretty).0 y)) ∙ e) in
          and_from (nat_eq p x.1) (bytes_eq x.0 r.pretty) ((Decides-eqb p x.1).1 same) y)
          (λ y. (and_parts (nat_eq p x.1) (bytes_eq x.0 r.pretty) y).1)

  all_named : (x : Lead) → c.named x.0 ≡ Some x.1 → (os : List ℕ) → list_any (named_in x.0) (map (by_row c) os) ≡ list_any (names_find x) (map (by_row c) os)
  all_named x e [] = refl
  all_named x e (o ∷ os) = λ i. one_named x e o i || all_named x e os i

  new_named : (x : Lead) → c.named x.0 ≡ Some x.1 → look_up bytes_eq t.names x.0 ≡ None →
      names_settled f x ≡ is_some (look_up bytes_eq (of_finds c t reads [] []).names x.0)
  new_named x e none =
      ap (list_any (names_find x)) (settled_found c f from)
      ∙ sym (all_named x e (order_of f))
      ∙ sym (looked_in (map (by_row c) (order_of f)) x.0)
      ∙ ap is_some (sym (look_new bytes_eq bytes_eq-Decides t.names (names_in (map (by_row c) (order_of f))) x.0 none))
      ∙ ap is_some (sym (names_looked c laws f from t k x.0))

  -- what is left out is held once the finds are in the tables
  left_held : (x : Lead) → lead c b x.0 ≡ Some x.1 → is_some (found d x.1) ≡ true → left_out h f x ≡ is_some (look_up bytes_eq (so_far c t reads [] []).names x.0)
  left_held x e known =
      ap (λ v. is_some (h.names x.0) || (not v || names_settled f x)) (known_then x.1 ∙ known)
      ∙ by_case (h.names x.0) refl
      ∙ ap is_some (sym (look_append bytes_eq bytes_eq-Decides t.names (of_finds c t reads [] []).names x.0))
    where
      by_case : (y : Option ℕ) → h.names x.0 ≡ y → (is_some (h.names x.0) || names_settled f x) ≡ is_some (option_or (look_up bytes_eq t.names x.0) (look_up bytes_eq (of_finds c t reads [] []).names x.0))
      by_case None none =
          let there : look_up bytes_eq t.names x.0 ≡ None = ap (λ (z : Book). z.names x.0) s.book ∙ none in
          (λ i. is_some (none i) || names_settled f x)
          ∙ new_named x (sym (ap (λ v. option_or v (c.named x.0)) none) ∙ e) there
          ∙ sym (ap (λ v. is_some (option_or v (look_up bytes_eq (of_finds c t reads [] []).names x.0))) there)
      by_case (Some o) some =
          let there : look_up bytes_eq t.names x.0 ≡ Some o = ap (λ (z : Book). z.names x.0) s.book ∙ some in
          (λ i. is_some (some i) || names_settled f x) ∙ sym (ap (λ v. is_some (option_or v (look_up bytes_eq (of_finds c t reads [] []).names x.0))) there)

  held_on : (m : Name) → is_some (h.names m) ≡ true → is_some (look_up bytes_eq (so_far c t reads [] []).names m) ≡ true
  held_on m e =
      ap is_some (look_append bytes_eq bytes_eq-Decides t.names (of_finds c t reads [] []).names m)
      ∙ still (look_up bytes_eq t.names m) (look_up bytes_eq (of_finds c t reads [] []).names m) (ap (λ (z : Book). is_some (z.names m)) s.book ∙ e)

  module _ (ds : List Declared) (es : List ℕ) (once : Distinct es) (other : (o : ℕ) → Mem o es → is_in o reads ≡ false) where
    abbrev leads : List Lead
    leads = entry_leads c b d ds

    abbrev now : Tables
    now = so_far c t reads es ds

    names_declared : new_by bytes_eq now.names (known_leads c b d leads) ≡ new_by bytes_eq now.names (declared c t reads es ds)
    names_declared = leads_new c b d ds now.names held_on

    new_so : new_leads h f leads ≡ new_by bytes_eq now.names (declared c t reads es ds)
    new_so =
        known_fresh c b d (left_out h f) (λ x. is_some (look_up bytes_eq now.names x.0)) leads []
        (λ x n.
        ap (λ v. is_some (h.names x.0) || (not v || names_settled f x)) (known_then x.1 ∙ n)
        ∙ or_true (is_some (h.names x.0)))
        (λ x m known. left_held x (leads_lead c b d ds x m) known)
        ∙ names_declared
      where
        or_true : (v : Bool) → (v || true) ≡ true
        or_true true = refl
        or_true false = refl

    -- none of the rows apart was read, so that what is new of their links is so before and after
    apart_new : (e : ℕ) → Mem e (keys (linked c t reads es ds)) → is_some (look_up nat_eq t.arrays e) ≡ is_some (look_up nat_eq now.arrays e)
    apart_new e m =
        by_case (look_up nat_eq t.arrays e) refl ∙ ap is_some (sym (look_append nat_eq Decides-eqb t.arrays (of_finds c t reads es ds).arrays e))
      where
        unread : is_in e (reads ++ []) ≡ false
        unread =
            let x = map_mem (λ (y : ℕ × ℕ). y.0) (linked c t reads es ds) e m in
            ap (is_in e) (append-nil reads) ∙ other e (subst (λ j. Mem j es) (sym x.2) (values_mem nat_eq Decides-eqb (link c t reads es ds) es x.0 x.1).0)

        by_case : (x : Option ℕ) → look_up nat_eq t.arrays e ≡ x → is_some (look_up nat_eq t.arrays e) ≡ is_some (option_or (look_up nat_eq t.arrays e) (look_up nat_eq (of_finds c t reads es ds).arrays e))
        by_case None none =
            let found_none : look_up nat_eq (of_finds c t reads es ds).arrays e ≡ None =
            look_new nat_eq Decides-eqb t.arrays (with_values (link c t reads es ds) (reads ++ [])) e none
            ∙ look_values nat_eq Decides-eqb (link c t reads es ds) e (reads ++ [])
            ∙ cond-false (is_in e (reads ++ [])) (link c t reads es ds e) None unread in
            ap is_some none ∙ sym (λ i. is_some (option_or (none i) (found_none i)))
        by_case (Some a) some = ap is_some some ∙ sym (ap (λ v. is_some (option_or v (look_up nat_eq (of_finds c t reads es ds).arrays e))) some)

    links_once : Once (links_in (map (by_row c) es))
    links_once = subst (λ l. Once l) (sym (links_so c es)) (values_once nat_eq Decides-eqb (link c t reads es ds) es once)

    apart_so : size_of_all (apart_size h) (rows_apart c es) ≡ sizes_of (new_links now (linked c t reads es ds))
    apart_so =
        apart_sizes c h es
        ∙ links_size h t (ap (λ (z : Book). z.arrays) s.book) (map (by_row c) es) links_once
        ∙ ap (λ l. sizes_of (of_arrays (new_by nat_eq t.arrays l))) (links_so c es)
        ∙ ap (λ l. sizes_of (of_arrays l)) (new_alike nat_eq Decides-eqb t.arrays now.arrays (linked c t reads es ds) apart_new)

    pub size_resolved : size_of_resolved h f leads (rows_apart c es) ≡ sizes_of (types_added c t (resolve ds) reads es)
    size_resolved =
        (λ i.
        sum_of (size_added c laws f from t k h s (fill []) refl i)
        (sum_of ((ap (size_of_all lead_size) new_so ∙ size_names (new_by bytes_eq now.names (declared c t reads es ds))) i) (apart_so i)))
        ∙ ap (sum_of (sizes_of (of_finds c t reads es ds))) (sym (sizes_with (names_new now (declared c t reads es ds)) (new_links now (linked c t reads es ds))))
        ∙ sym (sizes_with (of_finds c t reads es ds) (rest c t reads es ds))
        ∙ ap sizes_of (sym (added_split c t reads es ds))

    -- where it fits, so do the finds
    module _ (room : first_full h.capacity h.taken (sizes_of (types_added c t (resolve ds) reads es)) ≡ None) where
      fits_all : Fits (sizes_of (extended now (rest c t reads es ds))) h.capacity
      fits_all =
          subst (λ (z : Sizes). Fits z h.capacity)
          ((λ i. sum_of (sym s.sizes i) (sizes_of (types_added c t (resolve ds) reads es)))
          ∙ sym (sizes_with t (types_added c t (resolve ds) reads es))
          ∙ ap sizes_of (all_split c t reads es ds))
          (fits_then h.capacity h.taken (sizes_of (types_added c t (resolve ds) reads es)) room)

      pub room_first : first_full h.capacity h.taken (sizes_of (types_added c t (fill []) reads [])) ≡ None
      room_first =
          fits_none h.capacity h.taken (sizes_of (of_finds c t reads es ds))
          (subst (λ (z : Sizes). Fits z h.capacity)
          (sizes_with t (of_finds c t reads es ds) ∙ (λ i. sum_of (s.sizes i) (sizes_of (of_finds c t reads es ds))))
          (fits_first now (rest c t reads es ds) h.capacity fits_all))

      -- and the book with them takes in the rest
      module _ (g : Held) (capacity : g.capacity ≡ h.capacity) (stands : Stands g now) where
        abbrev t_named : Tables
        t_named = extended now (names_new now (declared c t reads es ds))

        fits_named : Fits (sizes_of t_named) h.capacity
        fits_named =
            fits_first t_named (new_links now (linked c t reads es ds)) h.capacity
            (subst (λ (u : Tables). Fits (sizes_of u) h.capacity) (sym (extended_assoc now (names_new now (declared c t reads es ds)) (new_links now (linked c t reads es ds)))) fits_all)

        known_now : (o : ℕ) → answered (book_held g).descriptors o ≡ is_some (found d o)
        known_now o =
            ap (λ (z : Book). answered z.descriptors o) (sym stands.book)
            ∙ ap (λ v. built_in o || is_some v) (described_so c t (fill []) reads [] o)
            ∙ answered_found d o

        abbrev named : Held
        named = each lead_kept g leads

        stands_named : Stands named t_named
        stands_named =
            subst (λ (k : Held). Stands k t_named) (sym (known_kept c b d leads g known_now))
            (subst (λ l. Stands (each named_kept g (known_leads c b d leads)) (extended now (of_names l))) names_declared
            (named_all (known_leads c b d leads) g now stands
            (subst (λ l. Fits (sizes_of (extended now (of_names l))) g.capacity) (sym names_declared) (subst (Fits (sizes_of t_named)) (sym capacity) fits_named))))

        named_capacity : named.capacity ≡ h.capacity
        named_capacity = each_capacity lead_kept lead_capacity g leads ∙ capacity

        no_arrays : t_named.arrays ≡ now.arrays
        no_arrays = append-nil now.arrays

        all_then : extended t_named (new_links t_named (linked c t reads es ds)) ≡ extended now (rest c t reads es ds)
        all_then =
            ap (λ l. extended t_named (of_arrays (new_by nat_eq l (linked c t reads es ds)))) no_arrays
            ∙ extended_assoc now (names_new now (declared c t reads es ds)) (new_links now (linked c t reads es ds))

        stands_linked : Stands (links_kept_in named (linked c t reads es ds)) (extended t_named (new_links t_named (linked c t reads es ds)))
        stands_linked =
            links_kept (linked c t reads es ds) named t_named stands_named
            (subst (λ (u : Tables). Fits (sizes_of u) named.capacity) (sym all_then) (subst (Fits (sizes_of (extended now (rest c t reads es ds)))) (sym named_capacity) fits_all))

        linked_so : each apart_kept named (rows_apart c es) ≡ links_kept_in named (linked c t reads es ds)
        linked_so = apart_each c es named ∙ each_link (map (by_row c) es) named ∙ ap (links_kept_in named) (links_so c es)

        pub resolved_stands : Stands (each apart_kept (each lead_kept g leads) (rows_apart c es)) (with_types c t (resolve ds) reads es)
        resolved_stands =
            subst (λ (k : Held). Stands k (with_types c t (resolve ds) reads es)) (sym linked_so)
            (subst (Stands (links_kept_in named (linked c t reads es ds))) (all_then ∙ sym (all_split c t reads es ds)) stands_linked)
