-- The tables with what a step adds are the book that it keeps.
-- Assumes nothing.
use Rattle.std.proofs.Common.{◌≡◌, ℕ, Bool, true, false, cond, ◌&&◌, ◌||◌, ◌↔◌, List, [], ◌∷◌, ◌++◌, map, ℤ, nat_eq, Some, None, bytes_eq, Decides, Option, option_and_then, sym, refl, ap, ◌∙◌, subst, inl, inr, ⊎_elim}
use Rattle.std.proofs.lemmas.Bool.{cases_Bool, cond-false, cond-true}
use Rattle.std.proofs.lemmas.Bool.Decides.{Decides-eqb}
use Rattle.std.proofs.lemmas.List.{append-nil}
use Rattle.std.proofs.lemmas.List.Folds.{list_any-append}
use Rattle.std.proofs.lemmas.Slice.Eq.{bytes_eq-Decides}
use Rattle.std.specs.List.{list_any}
use Rattle.std.specs.Option.{option_or}
use Rattle.catalog.specs.Catalog.{Catalog, Laws}
use Rattle.catalog.specs.Shape.{Name}
use Rattle.keys.specs.Kinds.{same-pair}
use Rattle.keys.specs.Senses.{Pair, same_pair}
use Rattle.unfolding.specs.Lists.{Mem}
use Rattle.unfolding.specs.Unfolding.{Tree, built, node, built_in, Unfolds}
use Rattle.life.specs.Calls.{Declared, of_oid, of_name, array_of, Call, fill, resolve, bind, describe, array_link, requests, Names, Declares}
use Rattle.life.specs.Keep.{if_named, pretty_in, if_settled, kept_names}
use Rattle.life.specs.Lists.{is_in}
use Rattle.life.specs.Rounds.{Descriptors}
use Rattle.life.specs.Steps.{Book}
use Rattle.life.specs.Tests.{declares}
use Rattle.life.proofs.Keep.{kept_right, pretty_some, settled_leads}
use Rattle.life.proofs.Known.{Right}
use Rattle.life.proofs.Life.{pretty_leads, Fit, fit}
use Rattle.life.proofs.Lists.{not_both, not_some_none, same_some, split_option, mem_tells, mem_left, mem_right, mem_split, flat_mem}
use Rattle.life.proofs.Settle.{settled_ext, settled_only}
use Rattle.life.proofs.Standing.{stands_unknown}
use Rattle.life.proofs.Tells.{or_some, or_first, or_next, if_some, if_true, declares_tells}
use Rattle.room.specs.Added.{with_values, entry_names, declared_names, after, new_descriptors, with_types, with_columns, ReadWhatStands, AddedLaw}
use Rattle.room.specs.Sizes.{name_of}
use Rattle.room.specs.Tables.{Tables, look_up, contents}
use Rattle.room.proofs.LookUp.{look_mem, look_values, values_mem, look_new, look_extended, new_mem}

-- two options that tell the same are one
same_option : {A : Type 0} (x y : Option A) → ((a : A) → x ≡ Some a → y ≡ Some a) → ((a : A) → y ≡ Some a → x ≡ Some a) → x ≡ y
same_option None None f g = refl
same_option None (Some b) f g = g b refl
same_option (Some a) y f g = sym (f a refl)

or_nothing : {A : Type 0} (x : Option A) → option_or x None ≡ x
or_nothing None = refl
or_nothing (Some a) = refl

no_column : {A : Type 0} (done : Bool) (x y : Option A) → x ≡ option_or x (cond (done && false) y None)
no_column true x y = sym (or_nothing x)
no_column false x y = sym (or_nothing x)

-- what comes second counts only where nothing comes first
or_same : {A : Type 0} (x y z : Option A) → (x ≡ None → y ≡ z) → option_or x y ≡ option_or x z
or_same None y z f = f refl
or_same (Some a) y z f = refl

entry_named : (x : Declared) (n : Name) → Mem n (entry_names x) ↔ Names x n
entry_named (of_oid o) n = (λ m. m, λ m. m)
entry_named (of_name m) n = (⊎_elim (λ e. sym e) (λ x. absurd x), λ e. inl (sym e))
entry_named (array_of m) n = (⊎_elim (λ e. sym e) (λ x. absurd x), λ e. inl (sym e))

declared_named : (call : Call) (n : Name) → Mem n (declared_names call) ↔ Declares call n
declared_named (fill os) n = (λ m. m, λ m. m)
declared_named (resolve ds) n =
    let all = flat_mem entry_names ds n in (
      λ m. let x = all.0 m in (x.0, x.1, (entry_named x.0 n).0 x.2),
      λ x. all.1 (x.0, x.1, (entry_named x.0 n).1 x.2),
    )
declared_named (bind q) n = (λ m. m, λ m. m)
declared_named (describe o) n = (λ m. m, λ m. m)

named_mem : (n : Name) (ns : List Name) → Decides (list_any (bytes_eq n) ns) (Mem n ns)
named_mem n ns = mem_tells bytes_eq bytes_eq-Decides n ns

-- the members of a list made from another
pub map_mem : {A B : Type 0} (f : A → B) (xs : List A) (y : B) → Mem y (map f xs) → (x : A) × Mem x xs × (y ≡ f x)
map_mem f [] y m = absurd m
map_mem f (x ∷ xs) y m = ⊎_elim (λ e. (x, inl refl, e)) (λ n. let r = map_mem f xs y n in (r.0, inr r.1, r.2)) m

pub mem_map : {A B : Type 0} (f : A → B) (xs : List A) (x : A) → Mem x xs → Mem (f x) (map f xs)
mem_map f [] x m = absurd m
mem_map f (y ∷ xs) x m = ⊎_elim (λ e. inl (ap f e)) (λ n. inr (mem_map f xs x n)) m

module _ (c : Catalog) (t : Tables) (call : Call) (reads apart : List ℕ) where
  abbrev b : Book
  b = contents t

  abbrev d : Descriptors
  d = after c t call reads apart

  abbrev all : Tables
  all = with_types c t call reads apart

  abbrev found : List (ℕ × Tree)
  found = with_values d reads

  read_found : (o : ℕ) → look_up nat_eq found o ≡ cond (is_in o reads) (d o) None
  read_found o = look_values nat_eq Decides-eqb d o reads

  pub described_so : (o : ℕ) → look_up nat_eq all.descriptors o ≡ d o
  described_so o =
      look_extended nat_eq Decides-eqb t.descriptors found o
      ∙ ap (option_or (b.descriptors o)) (read_found o)
      ∙ ⊎_elim
      (λ z. or_next (b.descriptors o) (cond (is_in o reads) (d o) None) z ∙ unheld z)
      (λ z. or_first (b.descriptors o) (cond (is_in o reads) (d o) None) z.0 z.1 ∙ sym (settled_ext c b.descriptors reads o z.0 z.1))
      (split_option (b.descriptors o))
    where
      unheld : b.descriptors o ≡ None → cond (is_in o reads) (d o) None ≡ d o
      unheld z =
          ⊎_elim
          (λ y. cond-true (is_in o reads) (d o) None y)
          (λ n.
          cond-false (is_in o reads) (d o) None n
          ∙ ⊎_elim
          (λ e. sym e)
          (λ e.
          absurd
          (⊎_elim
          (λ m. not_both ((mem_tells nat_eq Decides-eqb o reads).1 m) n)
          (λ h. not_some_none h.0 h.1 z)
          (settled_only c b.descriptors reads o e)))
          (split_option (d o)))
          (cases_Bool (is_in o reads))

  pub linked_so : (e : ℕ) → look_up nat_eq all.arrays e ≡ option_or (b.arrays e) (cond (is_in e reads || is_in e apart) (array_link (c.rows e)) None)
  linked_so e =
      look_extended nat_eq Decides-eqb t.arrays (with_values (λ k. array_link (c.rows k)) (reads ++ apart)) e
      ∙ ap (option_or (b.arrays e))
      (look_values nat_eq Decides-eqb (λ k. array_link (c.rows k)) e (reads ++ apart)
      ∙ ap (λ v. cond v (array_link (c.rows e)) None) (list_any-append (nat_eq e) reads apart))

  columned_so : (r : ℕ) (a : ℤ) → look_up same_pair all.columns (r, a) ≡ b.columns r a
  columned_so r a = ap (λ l. look_up same_pair l (r, a)) (append-nil t.columns)

  module _ (laws : Laws c) (fits : Fit c b) (are : ReadWhatStands c t call reads) where
    right : Right c d
    right = kept_right c b.descriptors (requests c call) fits.sound reads are

    abbrev pretty : List Name
    pretty = map (λ (x : ℕ × Tree). name_of x.1) (new_descriptors c t call reads apart)

    abbrev wanted : List Name
    wanted = pretty ++ declared_names call

    -- an OID read is not described before
    read_new : (o : ℕ) → Mem o reads → b.descriptors o ≡ None
    read_new o m = (stands_unknown c b.descriptors (requests c call) o ((are o).0 m)).1

    new_found : (o : ℕ) (u : Tree) → Mem o reads → d o ≡ Some u → Mem (o, u) (new_descriptors c t call reads apart)
    new_found o u m e =
        look_mem nat_eq Decides-eqb (new_descriptors c t call reads apart) o u
        (look_new nat_eq Decides-eqb t.descriptors found o (read_new o m)
        ∙ read_found o
        ∙ cond-true (is_in o reads) (d o) None ((mem_tells nat_eq Decides-eqb o reads).1 m)
        ∙ e)

    abbrev kept_name : Name → Option ℕ
    kept_name n = option_or (pretty_in d n (c.named n)) (cond (declares call n) (if_settled d (c.named n)) None)

    abbrev wanted_name : Name → Option ℕ
    wanted_name n = cond (list_any (bytes_eq n) wanted) (if_settled d (c.named n)) None

    pretty_wanted : (n : Name) (o : ℕ) (u : Tree) → Mem o reads → d o ≡ Some u → n ≡ name_of u → Mem n wanted
    pretty_wanted n o u m e z =
        mem_left n pretty (declared_names call)
        (subst (λ v. Mem v pretty) (sym z) (mem_map (λ (x : ℕ × Tree). name_of x.1) (new_descriptors c t call reads apart) (o, u) (new_found o u m e)))

    wanted_is : (n : Name) (o : ℕ) → Mem n wanted → if_settled d (c.named n) ≡ Some o → wanted_name n ≡ Some o
    wanted_is n o m e = if_true (list_any (bytes_eq n) wanted) (if_settled d (c.named n)) ((named_mem n wanted).1 m) ∙ e

    kept_wanted : (n : Name) (o : ℕ) → b.names n ≡ None → kept_name n ≡ Some o → wanted_name n ≡ Some o
    kept_wanted n o z e =
        ⊎_elim
        (λ p.
        let x = pretty_some d n (c.named n) o p in
        let u : Tree = node x.1 n x.2 x.3 in
        let leads = (settled_leads d (c.named n) o).1 (x.0, inr (u, x.4)) in
        ⊎_elim
        (λ m. wanted_is n o (pretty_wanted n o u m x.4 refl) leads)
        (λ g.
        let was : b.descriptors o ≡ Some u = g.1 ∙ ap (λ v. Some v) (same_some (settled_ext c b.descriptors reads o g.0 g.1) x.4) in
        let itself : x.1 ≡ o = sym (right o u x.4).3 in
        absurd (not_some_none o (fits.pretty_held n o (x.2, x.3, was ∙ ap (λ q. Some (node q n x.2 x.3)) itself)) z))
        (settled_only c b.descriptors reads o (u, x.4)))
        (λ p.
        let y = if_some (declares call n) (if_settled d (c.named n)) o p.1 in
        wanted_is n o (mem_right n pretty (declared_names call) ((declared_named call n).1 ((declares_tells call n).0 y.0))) y.1)
        (or_some (pretty_in d n (c.named n)) (cond (declares call n) (if_settled d (c.named n)) None) o e)

    -- of a descriptor that is read the pretty name leads to it
    pretty_is : (o : ℕ) (u : Tree) → built_in o ≡ false → Unfolds c o u → d o ≡ Some u →
        (c.named (name_of u) ≡ Some o) × (pretty_in d (name_of u) (c.named (name_of u)) ≡ Some o)
    pretty_is o (built p) f w e = absurd (not_both w.1 f)
    pretty_is o (node q m h ts) f w e =
        let leads : c.named m ≡ Some o = pretty_leads c laws o m h ts (subst (λ v. Unfolds c o (node v m h ts)) (sym w.3) w) in
        (leads, ap (pretty_in d m) leads ∙ ap (option_and_then (if_named m o)) e ∙ if_true (bytes_eq m m) (Some o) ((bytes_eq-Decides m m).1 refl))

    wanted_kept : (n : Name) (o : ℕ) → wanted_name n ≡ Some o → kept_name n ≡ Some o
    wanted_kept n o e =
        let y = if_some (list_any (bytes_eq n) wanted) (if_settled d (c.named n)) o e in
        let leads = (settled_leads d (c.named n) o).0 y.1 in
        let declared : Option ℕ = cond (declares call n) (if_settled d (c.named n)) None in
        ⊎_elim
        (λ m.
        let x = map_mem (λ (v : ℕ × Tree). name_of v.1) (new_descriptors c t call reads apart) n m in
        let r = values_mem nat_eq Decides-eqb d reads x.0 (new_mem nat_eq Decides-eqb t.descriptors found x.0 x.1) in
        let p = pretty_is x.0.0 x.0.1 (stands_unknown c b.descriptors (requests c call) x.0.0 ((are x.0.0).0 r.0)).0 (right x.0.0 x.0.1 r.1) r.1 in
        let same : x.0.0 ≡ o = same_some (ap c.named x.2 ∙ p.0) leads.0 in
        or_first (pretty_in d n (c.named n)) declared o (ap (λ v. pretty_in d v (c.named v)) x.2 ∙ p.1 ∙ ap (λ v. Some v) same))
        (λ m.
        let now : declared ≡ Some o =
        if_true (declares call n) (if_settled d (c.named n)) ((declares_tells call n).1 ((declared_named call n).0 m)) ∙ y.1 in
        ⊎_elim
        (λ z. or_next (pretty_in d n (c.named n)) declared z ∙ now)
        (λ z.
        or_first (pretty_in d n (c.named n)) declared o
        (z.1 ∙ ap (λ v. Some v) (same_some (pretty_some d n (c.named n) z.0 z.1).0 leads.0)))
        (split_option (pretty_in d n (c.named n))))
        (mem_split n pretty (declared_names call) ((named_mem n wanted).0 y.0))

    named_so : (n : Name) → look_up bytes_eq all.names n ≡ kept_names c call d b.names n
    named_so n =
        look_extended bytes_eq bytes_eq-Decides t.names (with_values (λ m. if_settled d (c.named m)) wanted) n
        ∙ ap (option_or (b.names n)) (look_values bytes_eq bytes_eq-Decides (λ m. if_settled d (c.named m)) n wanted)
        ∙ or_same (b.names n) (wanted_name n) (kept_name n)
        (λ z. same_option (wanted_name n) (kept_name n) (wanted_kept n) (λ o. kept_wanted n o z))

asked_so : (c : Catalog) (t : Tables) (asked : List Pair) (r : ℕ) (a : ℤ) →
    look_up same_pair (with_columns c t asked).columns (r, a)
    ≡ option_or (look_up same_pair t.columns (r, a)) (cond (list_any (same_pair (r, a)) asked) (c.columns r a) None)
asked_so c t asked r a =
    look_extended same_pair same-pair t.columns (with_values (λ (p : Pair). c.columns p.0 p.1) asked) (r, a)
    ∙ ap (option_or (look_up same_pair t.columns (r, a))) (look_values same_pair same-pair (λ (p : Pair). c.columns p.0 p.1) (r, a) asked)

pub added_law : AddedLaw
added_law h c t laws l reads = (
  λ os done are i. record {
    descriptors = λ o. described_so c t (fill os) reads [] o i;
    names = λ n. named_so c t (fill os) reads [] laws (fit h c (contents t) l) are n i;
    arrays = λ e. linked_so c t (fill os) reads [] e i;
    columns = λ r a. (columned_so c t (fill os) reads [] r a ∙ no_column done ((contents t).columns r a) (c.columns r a)) i;
  },
  λ ds apart are i. record {
    descriptors = λ o. described_so c t (resolve ds) reads apart o i;
    names = λ n. named_so c t (resolve ds) reads apart laws (fit h c (contents t) l) are n i;
    arrays = λ e. linked_so c t (resolve ds) reads apart e i;
    columns = λ r a. columned_so c t (resolve ds) reads apart r a i;
  },
  λ full full_columns q are. (
    λ i. record {
      descriptors = λ o. described_so c t (bind q) reads [] o i;
      names = λ n. named_so c t (bind q) reads [] laws (fit h c (contents t) l) are n i;
      arrays = λ e. linked_so c t (bind q) reads [] e i;
      columns = λ r a. (columned_so c t (bind q) reads [] r a ∙ no_column false ((contents t).columns r a) (c.columns r a)) i;
    },
    λ asked i. record {
      descriptors = λ o. (ap (λ k. look_up nat_eq k o) (append-nil (with_types c t (bind q) reads []).descriptors) ∙ described_so c t (bind q) reads [] o) i;
      names = λ n.
          (ap (λ k. look_up bytes_eq k n) (append-nil (with_types c t (bind q) reads []).names)
          ∙ named_so c t (bind q) reads [] laws (fit h c (contents t) l) are n) i;
      arrays = λ e. (ap (λ k. look_up nat_eq k e) (append-nil (with_types c t (bind q) reads []).arrays) ∙ linked_so c t (bind q) reads [] e) i;
      columns = λ r a.
          (asked_so c (with_types c t (bind q) reads []) asked r a
          ∙ ap (λ v. option_or v (cond (list_any (same_pair (r, a)) asked) (c.columns r a) None)) (columned_so c t (bind q) reads [] r a)) i;
    },
  ),
)
