-- Settling in any order comes to what the passes settle, and a test of links tells what can be settled.
-- Assumes nothing.
use Rattle.std.proofs.Common.{◌≡◌, ℕ, zero, suc, Bool, true, false, ◌||◌, ◌&&◌, ◌⊎◌, List, [], ◌∷◌, ◌++◌, length, is_some, if◌then◌else◌, Some, None, Option, option_map, option_and_then, sym, refl, ap, ◌∙◌, subst, inl, inr, ⊎_elim, append_assoc, append-nil}
use Rattle.std.specs.List.{list_all}
use Rattle.std.proofs.Math.Bool.{or_assoc, or-false}
use Rattle.std.proofs.lemmas.Bool.{and_parts, or_cases, or_from, or_left, or_parts, or_right}
use Rattle.catalog.specs.Catalog.{Catalog}
use Rattle.catalog.specs.Shape.{Shape, formed}
use Rattle.unfolding.specs.Lists.{Mem, Distinct}
use Rattle.unfolding.specs.Unfolding.{Tree, built, node, Trees, built_in}
use Rattle.life.specs.InTurn.{AnyOrderLaw, InTurn, InTurnAfter, InTurnLaw, MayFollow, known_so, ready, ready_shape}
use Rattle.life.specs.Lists.{is_in}
use Rattle.life.specs.Rounds.{Descriptors, Unknown, found}
use Rattle.life.specs.Settle.{put, joined, gather, made_of, made, settle_one, pass, passes, settled, Still}
use Rattle.life.specs.Walk.{answered}
use Rattle.life.proofs.Known.{unanswered}
use Rattle.life.proofs.Lists.{not_both, not_some_none, same_some, split_option, is_none_if, is_some_if, none_not_some, same_truth, in_mem, mem_in, mem_left, mem_right, mem_split, distinct_append}
use Rattle.life.proofs.Settle.{Ext, put_cases, put_ext, made_ext, one_cases, one_ext, pass_ext, passes_ext, settled_still}

same_option : {A : Type 0} (x y : Option A) → ((a : A) → x ≡ Some a → y ≡ Some a) → ((a : A) → y ≡ Some a → x ≡ Some a) → x ≡ y
same_option None None f g = refl
same_option None (Some b) f g = g b refl
same_option (Some a) y f g = sym (f a refl)

module _ (c : Catalog) (b : Descriptors) where
  -- each is described by b or made of what d holds
  abbrev Grounded : Descriptors → Type 0
  Grounded d = (o : ℕ) (t : Tree) → d o ≡ Some t → (b o ≡ Some t) ⊎ (made c d o ≡ Some t)

  one_grounded : (d : Descriptors) (o : ℕ) → Grounded d → Grounded (settle_one c d o)
  one_grounded d o g =
      ⊎_elim
      (λ x. subst Grounded (sym x.0) g)
      (λ x.
      let more : Ext d (put d o x.0) = put_ext c d o x.0 x.1 in
      subst Grounded (sym x.3)
      (λ p t e.
      ⊎_elim
      (λ y.
      let same : x.0 ≡ t = same_some y.1 e in
      inr (subst (λ q. made c (put d o x.0) q ≡ Some t) (sym y.0) (made_ext c d (put d o x.0) more o x.0 x.2 ∙ ap (λ u. Some u) same)))
      (λ y. ⊎_elim (λ h. inl h) (λ h. inr (made_ext c d (put d o x.0) more p t h)) (g p t (sym y.1 ∙ e)))
      (put_cases d o x.0 p)))
      (one_cases c d o)

  pass_grounded : (os : List ℕ) (d : Descriptors) → Grounded d → Grounded (pass c d os)
  pass_grounded [] d g = g
  pass_grounded (o ∷ os) d g = pass_grounded os (settle_one c d o) (one_grounded d o g)

  passes_grounded : (reads : List ℕ) (n : ℕ) (d : Descriptors) → Grounded d → Grounded (passes c reads n d)
  passes_grounded reads zero d g = g
  passes_grounded reads (suc n) d g = passes_grounded reads n (pass c d reads) (pass_grounded reads d g)

  -- what leaves nothing to settle holds all that can be settled from below it
  module _ (reads : List ℕ) (e : Descriptors) (ground : Grounded e) (still : Still c e reads) where
    one_below : (d : Descriptors) (o : ℕ) → Mem o reads → Ext b d → Ext d e → Ext (settle_one c d o) e
    one_below d o m up below =
        ⊎_elim
        (λ x. subst (λ f. Ext f e) (sym x.0) below)
        (λ x.
        let there : made c e o ≡ Some x.0 = made_ext c d e below o x.0 x.2 in
        let held : e o ≡ Some x.0 =
        ⊎_elim
        (λ n. absurd (not_some_none x.0 there (still o m n)))
        (λ h.
        ⊎_elim
        (λ y. absurd (not_some_none h.0 (up o h.0 y) x.1))
        (λ y. h.1 ∙ sym y ∙ there)
        (ground o h.0 h.1))
        (split_option (e o)) in
        subst (λ f. Ext f e) (sym x.3)
        (λ p t h. ⊎_elim (λ y. ap e y.0 ∙ held ∙ sym y.1 ∙ h) (λ y. below p t (sym y.1 ∙ h)) (put_cases d o x.0 p)))
        (one_cases c d o)

    pass_below : (os : List ℕ) (d : Descriptors) → ((o : ℕ) → Mem o os → Mem o reads) → Ext b d → Ext d e → Ext (pass c d os) e
    pass_below [] d sub up below = below
    pass_below (o ∷ os) d sub up below =
        pass_below os (settle_one c d o) (λ p m. sub p (inr m)) (λ p t h. one_ext c d o p t (up p t h)) (one_below d o (sub o (inl refl)) up below)

    passes_below : (n : ℕ) (d : Descriptors) → Ext b d → Ext d e → Ext (passes c reads n d) e
    passes_below zero d up below = below
    passes_below (suc n) d up below =
        passes_below n (pass c d reads) (λ p t h. pass_ext c reads d p t (up p t h)) (pass_below reads d (λ p m. m) up below)

pub any_order_law : AnyOrderLaw
any_order_law c b reads order sub still = λ i o.
    same_option (pass c b order o) (settled c b reads o)
    (pass_below c b reads (settled c b reads) (passes_grounded c b reads (length reads) b self) (settled_still c b reads) order b sub (λ p t h. h) (passes_ext c reads (length reads) b) o)
    (passes_below c b reads (pass c b order) (pass_grounded c b order b self) still (length reads) b (λ p t h. h) (pass_ext c order b) o)
    i
  where
    self : Grounded c b b
    self o t h = inl h

pass_append : (c : Catalog) (xs ys : List ℕ) (b : Descriptors) → pass c b (xs ++ ys) ≡ pass c (pass c b xs) ys
pass_append c [] ys b = refl
pass_append c (x ∷ xs) ys b = pass_append c xs ys (settle_one c b x)

pub pass_one_more : (c : Catalog) (b : Descriptors) (order : List ℕ) (o : ℕ) → pass c b (order ++ o ∷ []) ≡ settle_one c (pass c b order) o
pass_one_more c b order o = pass_append c order (o ∷ []) b

-- membership of a list that has grown at its end
in_last : (o : ℕ) (os : List ℕ) → is_in o (os ++ o ∷ []) ≡ true
in_last o os = mem_in o (os ++ o ∷ []) (mem_right o os (o ∷ []) (inl refl))

in_more : (p o : ℕ) (os : List ℕ) → is_in p os ≡ true → is_in p (os ++ o ∷ []) ≡ true
in_more p o os e = mem_in p (os ++ o ∷ []) (mem_left p os (o ∷ []) (in_mem p os e))

in_other : (p o : ℕ) (os : List ℕ) → (p ≡ o → ⊥) → is_in p (os ++ o ∷ []) ≡ is_in p os
in_other p o os n =
    same_truth (is_in p (os ++ o ∷ [])) (is_in p os)
    (λ e. ⊎_elim (λ m. mem_in p os m) (λ m. ⊎_elim (λ q. absurd (n q)) (λ z. absurd z) m) (mem_split p os (o ∷ []) (in_mem p (os ++ o ∷ []) e)))
    (in_more p o os)

-- what is found, gathered and made, as tests
some_if : {A : Type 0} (t : Bool) (a : A) (y : Option A) → is_some (if t then Some a else y) ≡ (t || is_some y)
some_if true a y = refl
some_if false a y = refl

some_joined : (x : Option Tree) (y : Option Trees) → is_some (joined x y) ≡ (is_some x && is_some y)
some_joined None y = refl
some_joined (Some t) None = refl
some_joined (Some t) (Some ts) = refl

some_map : {A B : Type 0} (f : A → B) (x : Option A) → is_some (option_map f x) ≡ is_some x
some_map f None = refl
some_map f (Some a) = refl

pub some_gather : (d : Descriptors) (os : List ℕ) → is_some (gather d os) ≡ list_all (answered d) os
some_gather d [] = refl
some_gather d (o ∷ os) = some_joined (found d o) (gather d os) ∙ (λ i. some_if (built_in o) (built o) (d o) i && some_gather d os i)

some_made_of : (d : Descriptors) (o : ℕ) (x : Option Shape) → is_some (option_and_then (made_of d o) x) ≡ ready_shape (answered d) x
some_made_of d o None = refl
some_made_of d o (Some s) = some_map (node o s.name s.head) (gather d s.links) ∙ some_gather d s.links

all_on : (k l : ℕ → Bool) → ((p : ℕ) → k p ≡ true → l p ≡ true) → (os : List ℕ) → list_all k os ≡ true → list_all l os ≡ true
all_on k l on [] e = refl
all_on k l on (o ∷ os) e = let h = and_parts (k o) (list_all k os) e in λ i. on o h.0 i && all_on k l on os h.1 i

ready_on : (k l : ℕ → Bool) → ((p : ℕ) → k p ≡ true → l p ≡ true) → (x : Option Shape) → ready_shape k x ≡ true → ready_shape l x ≡ true
ready_on k l on None e = e
ready_on k l on (Some s) e = all_on k l on s.links e

module _ (c : Catalog) (b : Descriptors) where
  pub ready_stays : (order : List ℕ) (o p : ℕ) → ready c b order o ≡ true → ready c b (order ++ p ∷ []) o ≡ true
  ready_stays order o p =
      ready_on (known_so b order) (known_so b (order ++ p ∷ []))
      (λ q e.
      ⊎_elim
      (or_left (answered b q) (is_in q (order ++ p ∷ [])))
      (λ m. or_right (answered b q) (is_in q (order ++ p ∷ [])) (in_more q p order m))
      (or_cases (answered b q) (is_in q order) e))
      (formed c o)

  -- lists in turn: the empty one, one put together, its two parts, and one longer
  pub in_turn_none : InTurn c b []
  in_turn_none = tt

  turns_join : (before xs ys : List ℕ) → InTurnAfter c b before xs → InTurnAfter c b (before ++ xs) ys → InTurnAfter c b before (xs ++ ys)
  turns_join before [] ys g h = subst (λ l. InTurnAfter c b l ys) (append-nil before) h
  turns_join before (x ∷ xs) ys g h =
      (g.0, turns_join (before ++ x ∷ []) xs ys g.1 (subst (λ l. InTurnAfter c b l ys) (sym (append_assoc before (x ∷ []) xs)) h))

  turns_part : (before xs ys : List ℕ) → InTurnAfter c b before (xs ++ ys) → InTurnAfter c b before xs × InTurnAfter c b (before ++ xs) ys
  turns_part before [] ys g = (tt, subst (λ l. InTurnAfter c b l ys) (sym (append-nil before)) g)
  turns_part before (x ∷ xs) ys g =
      let h = turns_part (before ++ x ∷ []) xs ys g.1 in
      ((g.0, h.0), subst (λ l. InTurnAfter c b l ys) (append_assoc before (x ∷ []) xs) h.1)

  pub in_turn_more : (order : List ℕ) (o : ℕ) → InTurn c b order → MayFollow c b order o → InTurn c b (order ++ o ∷ [])
  in_turn_more order o g next = turns_join [] order (o ∷ []) g (next, tt)

  -- what holds of the empty list, and stays as a list in turn grows, holds of each list in turn
  grown : (P : List ℕ → Type 0) → P [] → ((before : List ℕ) (o : ℕ) → P before → MayFollow c b before o → P (before ++ o ∷ [])) →
      (order : List ℕ) → InTurn c b order → P order
  grown P start step order g = on [] order start g
    where
      on : (before os : List ℕ) → P before → InTurnAfter c b before os → P (before ++ os)
      on before [] p g = subst P (sym (append-nil before)) p
      on before (o ∷ os) p g = subst P (append_assoc before (o ∷ []) os) (on (before ++ o ∷ []) os (step before o p g.0) g.1)

  -- what is described is told by the list, and so what can be made by the test of links
  abbrev Tells : List ℕ → Type 0
  Tells order = (p : ℕ) → is_some (pass c b order p) ≡ (is_some (b p) || is_in p order)

  made_told : (order : List ℕ) → Tells order → (o : ℕ) → is_some (made c (pass c b order) o) ≡ ready c b order o
  made_told order tells o =
      some_made_of (pass c b order) o (formed c o) ∙
      ap (λ k. ready_shape k (formed c o)) (λ i p. (ap (λ x. built_in p || x) (tells p) ∙ sym (or_assoc (built_in p) (is_some (b p)) (is_in p order))) i)

  -- o that may follow is settled next
  follow : (order : List ℕ) (o : ℕ) → Tells order → MayFollow c b order o →
      (t : Tree) × (pass c b order o ≡ None) × (made c (pass c b order) o ≡ Some t) × (settle_one c (pass c b order) o ≡ put (pass c b order) o t)
  follow order o tells next =
      let new = or_parts (answered b o) (is_in o order) next.0 in
      let open_yet : pass c b order o ≡ None =
      is_none_if (pass c b order o) (tells o ∙ or_from (is_some (b o)) (is_in o order) (none_not_some (b o) (unanswered b o new.0).1) new.1) in
      let t = is_some_if (made c (pass c b order) o) (made_told order tells o ∙ next.1) in
      ⊎_elim
      (λ x. absurd (not_some_none t.0 t.1 (x.1 open_yet)))
      (λ x. x)
      (one_cases c (pass c b order) o)

  tells_more : (order : List ℕ) (o : ℕ) → Tells order → MayFollow c b order o → Tells (order ++ o ∷ [])
  tells_more order o tells next p =
      let f = follow order o tells next in
      ap (λ (d : Descriptors). is_some (d p)) (pass_one_more c b order o ∙ f.3) ∙
      ⊎_elim
      (λ y. ap is_some y.1 ∙ sym (or_right (is_some (b p)) (is_in p (order ++ o ∷ [])) (subst (λ q. is_in q (order ++ o ∷ []) ≡ true) (sym y.0) (in_last o order))))
      (λ y. ap is_some y.1 ∙ tells p ∙ ap (λ x. is_some (b p) || x) (sym (in_other p o order y.0)))
      (put_cases (pass c b order) o f.0 p)

  pub in_turn_described : (order : List ℕ) → InTurn c b order → (p : ℕ) → is_some (pass c b order p) ≡ (is_some (b p) || is_in p order)
  in_turn_described order g = grown Tells (λ p. sym (or-false (is_some (b p)))) tells_more order g

  pub in_turn_makes : (order : List ℕ) → InTurn c b order → (o : ℕ) → is_some (made c (pass c b order) o) ≡ ready c b order o
  in_turn_makes order g = made_told order (in_turn_described order g)

  -- the one that follows gets what is made of those before it, and all others keep what they have
  pub in_turn_put : (order : List ℕ) (o : ℕ) → InTurn c b order → MayFollow c b order o →
      (t : Tree) × (made c (pass c b order) o ≡ Some t) × (pass c b (order ++ o ∷ []) ≡ put (pass c b order) o t)
  in_turn_put order o g next = let f = follow order o (in_turn_described order g) next in (f.0, f.2, pass_one_more c b order o ∙ f.3)

  pub in_turn_unknown : (order : List ℕ) → InTurn c b order → (o : ℕ) → Mem o order → Unknown b o
  in_turn_unknown =
      grown (λ os. (o : ℕ) → Mem o os → Unknown b o) (λ o m. absurd m)
      (λ before o known next p m.
      ⊎_elim
      (known p)
      (λ z. ⊎_elim (λ e. subst (Unknown b) (sym e) (unanswered b o (or_parts (answered b o) (is_in o before) next.0).0)) (λ n. absurd n) z)
      (mem_split p before (o ∷ []) m))

  pub in_turn_once : (order : List ℕ) → InTurn c b order → Distinct order
  in_turn_once =
      grown Distinct tt
      (λ before o once next.
      distinct_append before (o ∷ []) once (λ m. m, tt)
      (λ p m z.
      ⊎_elim
      (λ e. not_both (mem_in o before (subst (λ q. Mem q before) e m)) (or_parts (answered b o) (is_in o before) next.0).1)
      (λ n. absurd n)
      z))

  pub in_turn_trees : (order : List ℕ) → InTurn c b order → (before after : List ℕ) (o : ℕ) → order ≡ before ++ o ∷ after →
      (t : Tree) × (made c (pass c b before) o ≡ Some t) × (pass c b order o ≡ Some t)
  in_turn_trees order g before after o e =
      let h = turns_part [] before (o ∷ after) (subst (InTurn c b) e g) in
      let f = follow before o (in_turn_described before h.0) h.1.0 in
      let here : settle_one c (pass c b before) o o ≡ Some f.0 =
      ap (λ (d : Descriptors). d o) f.3 ∙ ⊎_elim (λ y. y.1) (λ y. absurd (y.0 refl)) (put_cases (pass c b before) o f.0 o) in (
        f.0,
        f.2,
        ap (λ (d : Descriptors). d o) (ap (pass c b) e ∙ pass_append c before (o ∷ after) b) ∙
            pass_ext c after (settle_one c (pass c b before) o) o f.0 here,
      )

  pub in_turn_ends : (order : List ℕ) → InTurn c b order → (reads : List ℕ) → ((o : ℕ) → Mem o order → Mem o reads) →
      ((o : ℕ) → Mem o reads → b o ≡ None → is_in o order ≡ false → ready c b order o ≡ false) →
      pass c b order ≡ settled c b reads
  in_turn_ends order g reads sub none_ready =
      any_order_law c b reads order sub
      (λ o m n.
      let open_yet = or_parts (is_some (b o)) (is_in o order) (sym (in_turn_described order g o) ∙ none_not_some (pass c b order o) n) in
      is_none_if (made c (pass c b order) o) (in_turn_makes order g o ∙ none_ready o m (is_none_if (b o) open_yet.0) open_yet.1))

pub in_turn_law : InTurnLaw
in_turn_law c b order g = record {
  described = in_turn_described c b order g;
  makes = in_turn_makes c b order g;
  follows = λ o next. in_turn_more c b order o g next;
  one_more = pass_one_more c b order;
  stays = ready_stays c b order;
  once = in_turn_once c b order g;
  unknown = in_turn_unknown c b order g;
  trees = in_turn_trees c b order g;
  ends = in_turn_ends c b order g;
}
