-- What is read of a catalog and settled, as lists of OIDs.
-- Assumes nothing.
use Rattle.std.proofs.Common.{◌≡◌, ℕ, zero, suc, ◌≤◌, ◌<◌, Bool, true, false, if◌then◌else◌, List, [], ◌∷◌, ◌++◌, length, map, take, slice_get, is_some, option_and_then, option_map, Some, None, Decides, Option, sym, refl, ap, ◌∙◌, subst, inl, inr, ⊎_elim, arith}
use Rattle.std.specs.List.{cons_option}
use Rattle.std.specs.Prelude.{slice_index}
use Rattle.std.proofs.Math.Seq.{take-suc}
use Rattle.std.proofs.lemmas.Bool.{cond-true}
use Rattle.std.proofs.lemmas.List.{get_or-take, length-map, map-append}
use Rattle.std.proofs.lemmas.Simd.{map-map}
use Rattle.std.proofs.lemmas.Option.{slice_get-get_or, slice_get-map}
use Rattle.type_info.specs.declared.oid.Oid.{Oid}
use Rattle.catalog.specs.Catalog.{Catalog, CatalogRow, Laws}
use Rattle.catalog.specs.Shape.{Name, Shape, formed, shape}
use Rattle.unfolding.specs.Lists.{Distinct, Mem}
use Rattle.unfolding.specs.Unfolding.{Tree, Trees, built, built_in, node}
use Rattle.unfolding.proofs.Unfolding.{formed-row}
use Rattle.life.specs.Calls.{array_link}
use Rattle.life.specs.InTurn.{InTurn}
use Rattle.life.specs.Keep.{if_settled}
use Rattle.life.specs.Rounds.{Descriptors, found}
use Rattle.life.specs.Settle.{gather, made_of, pass}
use Rattle.life.proofs.InTurn.{in_turn_trees}
use Rattle.life.proofs.Lists.{mem_tells, not_some_none, same_some}
use Rattle.room.specs.Added.{Once, with_values}
use Rattle.room.specs.Sizes.{name_of}
use Rattle.room.proofs.Additions.{map_mem}
use Rattle.room.proofs.LookUp.{keys, look_mem, look_values, values_mem}
use Rattle.book.proofs.Growth.{map_kept}
use Rattle.book.proofs.Shapes.{shape_of_row}
use Rattle.finds.specs.declared.tables.Finds.{Finds}
use Rattle.finds.specs.Finds.{ReadFrom, order_of, queue_of, reads_of, rows_of}
use Rattle.finds.specs.Keeping.{Find, find_at, found_of, places, read_finds, settled_finds}
use Rattle.finds.specs.Tables.{has_row}
use Rattle.finds.proofs.Grown.{row_within}
use Rattle.finds.proofs.Gathering.{link_of, links_in, names_in}
use Rattle.finds.proofs.Put.{rows_long}

-- keys of a list
module _ {K V : Type 0} (same : K → K → Bool) (tells : (x y : K) → Decides (same x y) (x ≡ y)) (value : K → Option V) where
  pub mem_values : (ks : List K) (k : K) (v : V) → Mem k ks → value k ≡ Some v → Mem (k, v) (with_values value ks)
  mem_values ks k v m e =
      look_mem same tells (with_values value ks) k v
      (look_values same tells value k ks ∙ cond-true _ (value k) None ((mem_tells same tells k ks).1 m) ∙ e)

  pub values_once : (ks : List K) → Distinct ks → Once (with_values value ks)
  values_once [] d = tt
  values_once (k ∷ ks) d = by_value (value k) (values_once ks d.1)
    where
      by_value : (v : Option V) → Once (with_values value ks) → Once (cons_option (option_map (λ w. (k, w)) v) (with_values value ks))
      by_value None o = o
      by_value (Some v) o = (
        λ m.
            let x = map_mem (λ (y : K × V). y.0) (with_values value ks) k m in
            d.0 (subst (λ j. Mem j ks) (sym x.2) (values_mem same tells value ks x.0 x.1).0),
        o,
      )

pub distinct_take : (n : ℕ) (os : List ℕ) → Distinct os → Distinct (take n os)
distinct_take zero os d = tt
distinct_take (suc n) [] d = tt
distinct_take (suc n) (o ∷ os) d = (λ m. d.0 (in_take n os o m), distinct_take n os d.1)
  where
    in_take : (k : ℕ) (ps : List ℕ) (p : ℕ) → Mem p (take k ps) → Mem p ps
    in_take zero ps p m = absurd m
    in_take (suc k) [] p m = absurd m
    in_take (suc k) (q ∷ ps) p m = ⊎_elim (λ e. inl e) (λ n. inr (in_take k ps p n)) m

around : {X : Type 0} (x : X) (xs : List X) → Mem x xs → (before : List X) × (after : List X) × (xs ≡ before ++ x ∷ after)
around x [] m = absurd m
around x (y ∷ xs) (inl e) = ([], xs, ap (λ z. z ∷ xs) (sym e))
around x (y ∷ xs) (inr m) = let r = around x xs m in (y ∷ r.0, r.1, ap (λ l. y ∷ l) r.2)

module _ (c : Catalog) where
  -- an OID with its row
  abbrev pub by_row : ℕ → Option Find
  by_row o = option_map (λ r. (o, r)) (c.rows o)

  module _ (f : Finds) (from : ReadFrom c f) where
    reads_long : length (reads_of f) ≡ length (rows_of f)
    reads_long = sym (length-map (reads_of f) c.rows) ∙ ap length (sym from)

    find_row : (i : ℕ) → i < length (rows_of f) → find_at f i ≡ by_row (slice_index (queue_of f) i)
    find_row i inside =
        let o = slice_index (queue_of f) i in
        let oid : slice_get (reads_of f) i ≡ Some o =
        slice_get-get_or (reads_of f) i 0 (omega (arith, inside, reads_long)) ∙ ap (λ p. Some p) (get_or-take (length (rows_of f)) (queue_of f) i 0 inside) in
        let row : slice_get (rows_of f) i ≡ Some (c.rows o) =
        ap (λ rs. slice_get rs i) from ∙ slice_get-map c.rows (reads_of f) i ∙ ap (option_map c.rows) oid in
        λ j. found_of (oid j) (row j)

    pub settled_found : settled_finds f ≡ map by_row (order_of f)
    settled_found =
        map_kept (find_at f) (λ i. by_row (slice_index (queue_of f) i)) (has_row f.rows.items)
        (λ i e. find_row i (omega (arith, row_within f.rows.items i e, rows_long f))) f.order.items f.ordered.placed
        ∙ sym (map-map by_row (λ i. slice_index (queue_of f) i) f.order.items)

    queue_long : length (rows_of f) ≤ length (queue_of f)
    queue_long = omega (arith, f.ordered.read, rows_long f, length-map f.queue.items (λ (o : Oid). o.0))

    found_so_far : (n : ℕ) → n ≤ length (rows_of f) → map (find_at f) (places n) ≡ map by_row (take n (queue_of f))
    found_so_far zero l = refl
    found_so_far (suc n) l =
        let here : n < length (rows_of f) = omega (arith, l) in
        map-append (find_at f) (places n) (n ∷ [])
        ∙ (λ i. found_so_far n (omega (arith, l)) i ++ find_row n here i ∷ [])
        ∙ sym (map-append by_row (take n (queue_of f)) (slice_index (queue_of f) n ∷ []))
        ∙ ap (map by_row) (sym (take-suc (queue_of f) n 0 (omega (arith, here, queue_long))))

    pub read_found : read_finds f ≡ map by_row (reads_of f)
    read_found = found_so_far (length (rows_of f)) (omega arith)

  -- the array links of OIDs
  link_so : (o : ℕ) (x : Option CatalogRow) → option_and_then link_of (option_map (λ r. (o, r)) x) ≡ option_map (λ v. (o, v)) (array_link x)
  link_so o None = refl
  link_so o (Some r) = refl

  pub links_so : (os : List ℕ) → links_in (map by_row os) ≡ with_values (λ e. array_link (c.rows e)) os
  links_so [] = refl
  links_so (o ∷ os) = λ i. cons_option (link_so o (c.rows o) i) (links_so os i)

  module _ (laws : Laws c) where
    -- their pretty names, each once
    name_leads : (os : List ℕ) (n : Name) → Mem n (keys (names_in (map by_row os))) → (p : ℕ) × Mem p os × (c.named n ≡ Some p)
    name_leads [] n m = absurd m
    name_leads (o ∷ os) n m = by_case (c.rows o) refl m (name_leads os n)
      where
        by_case :
            (x : Option CatalogRow) → c.rows o ≡ x →
            Mem n (keys (cons_option (option_map (λ (y : Find). (y.1.pretty, y.0)) (option_map (λ r. (o, r)) x)) (names_in (map by_row os)))) →
            (Mem n (keys (names_in (map by_row os))) → (p : ℕ) × Mem p os × (c.named n ≡ Some p)) → (p : ℕ) × Mem p (o ∷ os) × (c.named n ≡ Some p)
        by_case None e k later = let r = later k in (r.0, inr r.1, r.2)
        by_case (Some x) e k later =
            ⊎_elim
            (λ same. (o, inl refl, ap c.named same ∙ laws.pretty_leads o x e))
            (λ others. let r = later others in (r.0, inr r.1, r.2))
            k

    pub names_once : (os : List ℕ) → Distinct os → Once (names_in (map by_row os))
    names_once [] d = tt
    names_once (o ∷ os) d = by_case (c.rows o) refl (names_once os d.1)
      where
        by_case :
            (x : Option CatalogRow) → c.rows o ≡ x → Once (names_in (map by_row os)) →
            Once (cons_option (option_map (λ (y : Find). (y.1.pretty, y.0)) (option_map (λ r. (o, r)) x)) (names_in (map by_row os)))
        by_case None e once = once
        by_case (Some x) e once = (
          λ m.
              let r = name_leads os x.pretty m in
              let same : r.0 ≡ o = same_some r.2 (laws.pretty_leads o x e) in
              d.0 (subst (λ p. Mem p os) same r.1),
          once,
        )

  module _ (b : Descriptors) (order : List ℕ) (turn : InTurn c b order) where
    -- what is told of an OID that is settled
    pub record Told (d : Descriptors) (o : ℕ) : Type 0 where
      pub row : CatalogRow
      pub there : c.rows o ≡ Some row
      pub shp : Shape
      pub formed_so : formed c o ≡ Some shp
      pub shaped : shape row ≡ Some shp
      pub trees : Trees
      pub tree : d o ≡ Some (node o shp.name shp.head trees)

    pub node_made : (d : Descriptors) (o : ℕ) (s : Shape) (u : Tree) → made_of d o s ≡ Some u → (ts : Trees) × (u ≡ node o s.name s.head ts)
    node_made d o s u e = by_trees (gather d s.links) e
      where
        by_trees : (x : Option Trees) → option_map (node o s.name s.head) x ≡ Some u → (ts : Trees) × (u ≡ node o s.name s.head ts)
        by_trees None q = absurd (not_some_none u q refl)
        by_trees (Some ts) q = (ts, sym (same_some refl q))

    shape_made : (d : Descriptors) (o : ℕ) (u : Tree) (x : Option Shape) → formed c o ≡ x → option_and_then (made_of d o) x ≡ Some u →
        (s : Shape) × (formed c o ≡ Some s) × (made_of d o s ≡ Some u)
    shape_made d o u None e q = absurd (not_some_none u q refl)
    shape_made d o u (Some s) e q = (s, e, q)

    pub told : (o : ℕ) → Mem o order → Told (pass c b order) o
    told o m =
        let a = around o order m in
        let t = in_turn_trees c b order turn a.0 a.1 o a.2 in
        let s = shape_made (pass c b a.0) o t.0 (formed c o) refl t.1 in
        let r = formed-row c o s.0 s.1 in
        let n = node_made (pass c b a.0) o s.0 t.0 s.2 in
        record {
          row = r.0;
          there = r.1;
          shp = s.0;
          formed_so = s.1;
          shaped = r.2;
          trees = n.0;
          tree = t.2 ∙ ap (λ u. Some u) n.1;
        }

    -- each of the names leads to its OID
    module _ (laws : Laws c) where
      abbrev lead : Name → Option ℕ
      lead n = if_settled (pass c b order) (c.named n)

      found_there : (d : Descriptors) (o : ℕ) (u : Tree) → d o ≡ Some u → is_some (found d o) ≡ true
      found_there d o u e = by_case (built_in o)
        where
          by_case : (v : Bool) → is_some (if v then Some (built o) else d o) ≡ true
          by_case true = refl
          by_case false = ap is_some e

      leads : (o : ℕ) (t : Told (pass c b order) o) → lead t.shp.name ≡ Some o
      leads o t =
          let d = pass c b order in
          ap (if_settled d) (ap c.named (shape_of_row t.row t.shp t.shaped).0 ∙ laws.pretty_leads o t.row t.there)
          ∙ cond-true (is_some (found d o)) (Some o) None (found_there d o (node o t.shp.name t.shp.head t.trees) t.tree)

      pub names_so : (os : List ℕ) → ((o : ℕ) → Mem o os → Mem o order) →
          names_in (map by_row os) ≡ with_values lead (map (λ (x : ℕ × Tree). name_of x.1) (with_values (pass c b order) os))
      names_so [] sub = refl
      names_so (o ∷ os) sub =
          let t = told o (sub o (inl refl)) in
          let d = pass c b order in
          let rest = names_so os (λ p m. sub p (inr m)) in
          (λ i. cons_option (option_map (λ (y : Find). (y.1.pretty, y.0)) (option_map (λ r. (o, r)) (t.there i))) (rest i))
          ∙ ap (λ n. (n, o) ∷ with_values lead (map (λ (x : ℕ × Tree). name_of x.1) (with_values d os))) (sym (shape_of_row t.row t.shp t.shaped).0)
          ∙ sym (λ i. cons_option (option_map (λ v. (t.shp.name, v)) (leads o t i)) (with_values lead (map (λ (x : ℕ × Tree). name_of x.1) (with_values d os))))
          ∙ sym (λ i. with_values lead (map (λ (x : ℕ × Tree). name_of x.1) (cons_option (option_map (λ v. (o, v)) (t.tree i)) (with_values d os))))
