-- The trees of descriptors: one for each slot, made of those of earlier slots; what is there stays when slots follow.
-- Assumes nothing.
use Rattle.std.proofs.Common.{◌≡◌, ℕ, zero, suc, ◌+◌, ◌<◌, Bool, true, false, not, ◌&&◌, List, [], ◌∷◌, ◌++◌, length, take, drop, slice_get, nat_eq, unwrap_or, ⊎_elim, Some, None, Option, sym, refl, ap, ap₂, ◌∙◌, subst, append_assoc, append-nil, length-append, length-take-le, take-append-drop, zero-add, arith}
use Rattle.std.specs.List.{list_all}
use Rattle.std.proofs.Math.Bool.{and_assoc}
use Rattle.std.proofs.lemmas.Bool.{and_parts, cases_Bool, eqb-true, ltb-true, not-true, false≢true}
use Rattle.std.proofs.lemmas.Option.{none-some, slice_get_within}
use Rattle.life.specs.Lists.{first_place}
use Rattle.life.proofs.Lists.{chosen_false, chosen_true, not_some_none, same_some}
use Rattle.unfolding.specs.Unfolding.{Tree, built, more, node, built_in}
use Rattle.book.specs.declared.descriptor.Component.{Component}
use Rattle.book.specs.declared.descriptor.Component.TheVariants.{BuiltIn, Slot}
use Rattle.book.specs.Descriptions.{Description, component_tree, component_trees, is_earlier, slot_of, tree_of, trees_of, trees_on, well_founded}

module _ {A : Type 0} where
  pub slice_get-append : (xs ys : List A) (i : ℕ) (x : A) → slice_get xs i ≡ Some x → slice_get (xs ++ ys) i ≡ Some x
  slice_get-append [] ys i x e = absurd (none-some x e)
  slice_get-append (y ∷ xs) ys zero x e = e
  slice_get-append (y ∷ xs) ys (suc i) x e = slice_get-append xs ys i x e

  pub slice_get-here : (xs : List A) (x : A) (ys : List A) → slice_get (xs ++ x ∷ ys) (length xs) ≡ Some x
  slice_get-here [] x ys = refl
  slice_get-here (y ∷ xs) x ys = slice_get-here xs x ys

  pub slice_get_some : (xs : List A) (i : ℕ) → i < length xs → (x : A) × (slice_get xs i ≡ Some x)
  slice_get_some [] i l = absurd (omega arith)
  slice_get_some (x ∷ xs) zero l = (x, refl)
  slice_get_some (x ∷ xs) (suc i) l = slice_get_some xs i (omega arith)

  pub split_at : (xs : List A) (i : ℕ) (x : A) → slice_get xs i ≡ Some x → xs ≡ take i xs ++ x ∷ drop (suc i) xs
  split_at [] i x e = absurd (none-some x e)
  split_at (y ∷ xs) zero x e = let same : y ≡ x = cc in ap (λ z. z ∷ xs) same
  split_at (y ∷ xs) (suc i) x e = ap (λ zs. y ∷ zs) (split_at xs i x e)

  -- the place of the first that passes a test, counted from k, is the place of one that passes it
  pub record PlacedAt (test : A → Bool) (k : ℕ) (xs : List A) (j : ℕ) : Type 0 where
    pub place : ℕ
    pub counted : j ≡ k + place
    pub there : A
    pub stands : slice_get xs place ≡ Some there
    pub passes : test there ≡ true

  pub placed_at : (test : A → Bool) (k : ℕ) (xs : List A) (j : ℕ) → first_place test k xs ≡ Some j → PlacedAt test k xs j
  placed_at test k [] j e = absurd (not_some_none j e refl)
  placed_at test k (x ∷ xs) j e =
      ⊎_elim
      (λ yes. record {
        place = 0;
        counted = let at : k ≡ j = same_some (chosen_true (test x) _ _ yes) e in omega arith;
        there = x;
        stands = refl;
        passes = yes;
      })
      (λ no.
      let later = placed_at test (suc k) xs j (sym (chosen_false (test x) _ _ no) ∙ e) in
      record {
        place = suc later.place;
        counted = omega (arith, later.counted);
        there = later.there;
        stands = later.stands;
        passes = later.passes;
      })
      (cases_Bool (test x))

pub trees_on-append : (ts : List Tree) (ds es : List Description) → trees_on ts (ds ++ es) ≡ trees_on (trees_on ts ds) es
trees_on-append ts [] es = refl
trees_on-append ts (d ∷ ds) es = trees_on-append (ts ++ tree_of ts d ∷ []) ds es

-- one more descriptor
pub trees_of-more : (ds : List Description) (d : Description) → trees_of (ds ++ d ∷ []) ≡ trees_of ds ++ tree_of (trees_of ds) d ∷ []
trees_of-more ds d = trees_on-append [] ds (d ∷ [])

pub length-trees_on : (ts : List Tree) (ds : List Description) → length (trees_on ts ds) ≡ length ts + length ds
length-trees_on ts [] = omega arith
length-trees_on ts (d ∷ ds) = omega (arith, length-trees_on (ts ++ tree_of ts d ∷ []) ds, length-append ts (tree_of ts d ∷ []))

pub length-trees_of : (ds : List Description) → length (trees_of ds) ≡ length ds
length-trees_of ds = omega (arith, length-trees_on [] ds)

-- the trees that were there come first
pub trees_on-prefix : (ts : List Tree) (ds : List Description) → (us : List Tree) × (trees_on ts ds ≡ ts ++ us)
trees_on-prefix ts [] = ([], sym (append-nil ts))
trees_on-prefix ts (d ∷ ds) =
    let later = trees_on-prefix (ts ++ tree_of ts d ∷ []) ds in
    (tree_of ts d ∷ later.0, later.1 ∙ append_assoc ts (tree_of ts d ∷ []) later.0)

pub trees_of-prefix : (ds es : List Description) → (us : List Tree) × (trees_of (ds ++ es) ≡ trees_of ds ++ us)
trees_of-prefix ds es = let u = trees_on-prefix (trees_of ds) es in (u.0, trees_on-append [] ds es ∙ u.1)

pub tree_stays : (ds es : List Description) (i : ℕ) (t : Tree) → slice_get (trees_of ds) i ≡ Some t → slice_get (trees_of (ds ++ es)) i ≡ Some t
tree_stays ds es i t e =
    let u = trees_of-prefix ds es in
    ap (λ ts. slice_get ts i) u.1 ∙ slice_get-append (trees_of ds) u.0 i t e

-- the tree of a slot, over those of the slots before it
pub tree_at : (ds : List Description) (i : ℕ) (d : Description) → slice_get ds i ≡ Some d → slice_get (trees_of ds) i ≡ Some (tree_of (trees_of (take i ds)) d)
tree_at ds i d e =
    let before : List Description = take i ds in
    let split : trees_of ds ≡ trees_on (trees_of before ++ tree_of (trees_of before) d ∷ []) (drop (suc i) ds) =
    ap trees_of (split_at ds i d e) ∙ trees_on-append [] before (d ∷ drop (suc i) ds) in
    let later = trees_on-prefix (trees_of before ++ tree_of (trees_of before) d ∷ []) (drop (suc i) ds) in
    let parts : trees_of ds ≡ trees_of before ++ tree_of (trees_of before) d ∷ later.0 =
    split ∙ later.1 ∙ append_assoc (trees_of before) (tree_of (trees_of before) d ∷ []) later.0 in
    let long : length (trees_of before) ≡ i = length-trees_of before ∙ length-take-le i ds (omega (arith, slice_get_within ds i d e)) in
    ap₂ (λ ts j. slice_get ts j) parts (sym long) ∙ slice_get-here (trees_of before) (tree_of (trees_of before) d) later.0

-- the slot of an OID is that of a descriptor with this OID
pub slot_stands : (ds : List Description) (o i : ℕ) → slot_of ds o ≡ Some i → (d : Description) × (slice_get ds i ≡ Some d) × (o ≡ d.oid)
slot_stands ds o i e =
    let p = placed_at (λ (d : Description). nat_eq o d.oid) 0 ds i e in
    let place : p.place ≡ i = omega (arith, p.counted) in
    (p.there, subst (λ (j : ℕ). slice_get ds j ≡ Some p.there) place p.stands, eqb-true o p.there.oid p.passes)

-- a slot's descriptor: it does not describe a built-in type, and its components are built in or of earlier slots
pub record Founded (slot : ℕ) (d : Description) : Type 0 where
  pub apart : built_in d.oid ≡ false
  pub earlier : list_all (is_earlier slot) d.components ≡ true

pub founded_at : (k : ℕ) (ds : List Description) (i : ℕ) (d : Description) → well_founded k ds ≡ true → slice_get ds i ≡ Some d → Founded (k + i) d
founded_at k [] i d f e = absurd (none-some d e)
founded_at k (x ∷ ds) zero d f e =
    let same : x ≡ d = cc in
    let own = and_parts (not (built_in x.oid)) (list_all (is_earlier k) x.components) (and_parts _ (well_founded (suc k) ds) f).0 in
    let here : Founded k x = record { apart = not-true (built_in x.oid) own.0; earlier = own.1 } in
    let zeroth : k ≡ k + 0 = omega arith in
    subst (λ (y : Description). Founded (k + 0) y) same (subst (λ (j : ℕ). Founded j x) zeroth here)
founded_at k (x ∷ ds) (suc i) d f e =
    let next : suc k + i ≡ k + suc i = omega arith in
    subst (λ (j : ℕ). Founded j d) next (founded_at (suc k) ds i d (and_parts _ (well_founded (suc k) ds) f).1 e)

pub founded_slot : (ds : List Description) (i : ℕ) (d : Description) → well_founded 0 ds ≡ true → slice_get ds i ≡ Some d → Founded i d
founded_slot ds i d f e = subst (λ (j : ℕ). Founded j d) (zero-add i) (founded_at 0 ds i d f e)

pub well_founded-append : (k : ℕ) (ds es : List Description) → well_founded k (ds ++ es) ≡ (well_founded k ds && well_founded (k + length ds) es)
well_founded-append k [] es = let here : k ≡ k + 0 = omega arith in ap (λ j. well_founded j es) here
well_founded-append k (d ∷ ds) es =
    ap (λ b. own && b) (well_founded-append (suc k) ds es)
    ∙ sym (and_assoc own later (well_founded (suc k + length ds) es))
    ∙ ap (λ j. (own && later) && well_founded j es) (omega arith)
  where
    own : Bool
    own = not (built_in d.oid) && list_all (is_earlier k) d.components

    later : Bool
    later = well_founded (suc k) ds

-- over trees that are the same in all earlier slots a descriptor has the same tree
module _ (slot : ℕ) (ts us : List Tree) (agree : (i : ℕ) → i < slot → slice_get ts i ≡ slice_get us i) where
  component_same : (c : Option Component) → is_earlier slot c ≡ true → component_tree ts c ≡ component_tree us c
  component_same None e = absurd (false≢true e)
  component_same (Some (BuiltIn o)) e = refl
  component_same (Some (Slot i)) e = ap (λ t. unwrap_or t (built 0)) (agree i (ltb-true i slot e))

  components_same : (cs : List (Option Component)) → list_all (is_earlier slot) cs ≡ true → component_trees ts cs ≡ component_trees us cs
  components_same [] e = refl
  components_same (c ∷ cs) e =
      let parts = and_parts (is_earlier slot c) (list_all (is_earlier slot) cs) e in
      ap₂ more (component_same c parts.0) (components_same cs parts.1)

  pub tree_same : (d : Description) → list_all (is_earlier slot) d.components ≡ true → tree_of ts d ≡ tree_of us d
  tree_same d e = ap (node d.oid d.name d.head) (components_same d.components e)

-- a slot's tree, over those of all slots
pub tree_founded :
    (ds : List Description) (i : ℕ) (d : Description) → well_founded 0 ds ≡ true → slice_get ds i ≡ Some d → slice_get (trees_of ds) i ≡ Some (tree_of (trees_of ds) d)
tree_founded ds i d f e =
    tree_at ds i d e ∙ ap (λ t. Some t) (tree_same i (trees_of (take i ds)) (trees_of ds) agree d (founded_slot ds i d f e).earlier)
  where
    long : length (trees_of (take i ds)) ≡ i
    long = length-trees_of (take i ds) ∙ length-take-le i ds (omega (arith, slice_get_within ds i d e))

    agree : (j : ℕ) → j < i → slice_get (trees_of (take i ds)) j ≡ slice_get (trees_of ds) j
    agree j l =
        let t = slice_get_some (trees_of (take i ds)) j (omega (arith, long)) in
        let stays = tree_stays (take i ds) (drop i ds) j t.0 t.1 in
        t.1 ∙ sym stays ∙ ap (λ es. slice_get (trees_of es) j) (take-append-drop i ds)
