-- The passes settle exactly the OIDs read that have an unfolding.
-- Assumes nothing.
use Rattle.std.proofs.Common.{◌≡◌, ℕ, zero, suc, ◌+◌, ◌<◌, ◌≤◌, false, ◌⊎◌, List, [], ◌∷◌, length, is_some, nat_eq, Some, None, Option, option_map, option_and_then, sym, refl, ap, ◌∙◌, subst, inl, inr, ⊎_elim, arith, eq-eqb, eqb-true}
use Rattle.std.proofs.lemmas.Bool.{cases_Bool, cond-false, cond-true}
use Rattle.catalog.specs.Catalog.{Catalog}
use Rattle.catalog.specs.Shape.{Shape, formed}
use Rattle.unfolding.specs.Lists.{Mem}
use Rattle.unfolding.specs.Unfolding.{Tree, built, node, Trees, none, more, Link, built_in, Unfolds, UnfoldAll}
use Rattle.unfolding.proofs.Unfolding.{unique}
use Rattle.life.specs.Rounds.{Descriptors, Described, Known, found}
use Rattle.life.specs.Settle.{put, put_if, joined, gather, made_of, made, settle_one, pass, passes, settled, Still, PassesLaw}
use Rattle.life.proofs.Known.{known_not, found_built, found_held, Right, found_right}
use Rattle.life.proofs.Lists.{not_both, not_some_none, split_option, none_not_some, chosen_true, chosen_false}

-- all that b holds d holds too
abbrev pub Ext : Descriptors → Descriptors → Type 0
Ext b d = (o : ℕ) (t : Tree) → b o ≡ Some t → d o ≡ Some t

pub put_cases : (b : Descriptors) (o : ℕ) (t : Tree) (p : ℕ) → ((p ≡ o) × (put b o t p ≡ Some t)) ⊎ ((p ≡ o → ⊥) × (put b o t p ≡ b p))
put_cases b o t p =
    ⊎_elim
    (λ y. inl (sym (eqb-true o p y), cond-true (nat_eq o p) (Some t) (b p) y))
    (λ n. inr (λ e. not_both (eq-eqb o p (sym e)) n, cond-false (nat_eq o p) (Some t) (b p) n))
    (cases_Bool (nat_eq o p))

joined_some : (x : Option Tree) (y : Option Trees) (us : Trees) → joined x y ≡ Some us → (t : Tree) × (ts : Trees) × (x ≡ Some t) × (y ≡ Some ts) × (more t ts ≡ us)
joined_some None y us e = absurd (not_some_none us e refl)
joined_some (Some t) None us e = absurd (not_some_none us e refl)
joined_some (Some t) (Some ts) us e = (t, ts, refl, refl, cc)

map_some : {A B : Type 0} (f : A → B) (x : Option A) (y : B) → option_map f x ≡ Some y → (a : A) × (x ≡ Some a) × (f a ≡ y)
map_some f None y e = absurd (not_some_none y e refl)
map_some f (Some a) y e = (a, refl, cc)

module _ (c : Catalog) where
  found_ext : (b d : Descriptors) → Ext b d → (o : ℕ) (t : Tree) → found b o ≡ Some t → found d o ≡ Some t
  found_ext b d x o t e =
      ⊎_elim
      (λ y. found_built d o y ∙ sym (found_built b o y) ∙ e)
      (λ n. found_held d o n ∙ x o t (sym (found_held b o n) ∙ e))
      (cases_Bool (built_in o))

  gather_right : (b : Descriptors) → Right c b → (os : List ℕ) (ts : Trees) → gather b os ≡ Some ts → UnfoldAll c os ts
  gather_right b g [] ts e = let same : none ≡ ts = cc in subst (UnfoldAll c []) same tt
  gather_right b g (o ∷ os) ts e =
      let j = joined_some (found b o) (gather b os) ts e in
      subst (UnfoldAll c (o ∷ os)) j.4 (found_right c b g o j.0 j.2, gather_right b g os j.1 j.3)

  gather_ext : (b d : Descriptors) → Ext b d → (os : List ℕ) (ts : Trees) → gather b os ≡ Some ts → gather d os ≡ Some ts
  gather_ext b d x [] ts e = e
  gather_ext b d x (o ∷ os) ts e =
      let j = joined_some (found b o) (gather b os) ts e in
      (λ i. joined (found_ext b d x o j.0 j.2 i) (gather_ext b d x os j.1 j.3 i)) ∙ ap (λ u. Some u) j.4

  made_some : (b : Descriptors) (o : ℕ) (t : Tree) → made c b o ≡ Some t →
      (s : Shape) × (ts : Trees) × (formed c o ≡ Some s) × (gather b s.links ≡ Some ts) × (node o s.name s.head ts ≡ t)
  made_some b o t e =
      ⊎_elim
      (λ n. absurd (not_some_none t e (ap (option_and_then (made_of b o)) n)))
      (λ s.
      let m = map_some (node o s.0.name s.0.head) (gather b s.0.links) t (sym (ap (option_and_then (made_of b o)) s.1) ∙ e) in
      (s.0, m.0, s.1, m.1, m.2))
      (split_option (formed c o))

  pub some_made : (b : Descriptors) (o : ℕ) (s : Shape) (ts : Trees) → formed c o ≡ Some s → gather b s.links ≡ Some ts → made c b o ≡ Some (node o s.name s.head ts)
  some_made b o s ts f g = ap (option_and_then (made_of b o)) f ∙ ap (option_map (node o s.name s.head)) g

  made_right : (b : Descriptors) → Right c b → (o : ℕ) → built_in o ≡ false → (t : Tree) → made c b o ≡ Some t → Unfolds c o t
  made_right b g o nb t e =
      let m = made_some b o t e in
      subst (Unfolds c o) m.4 (m.0, m.2, nb, refl, refl, refl, gather_right b g m.0.links m.1 m.3)

  pub made_ext : (b d : Descriptors) → Ext b d → (o : ℕ) (t : Tree) → made c b o ≡ Some t → made c d o ≡ Some t
  made_ext b d x o t e =
      let m = made_some b o t e in
      some_made d o m.0 m.1 m.2 (gather_ext b d x m.0.links m.1 m.3) ∙ ap (λ u. Some u) m.4

  -- one row: settled already or not to be settled yet, or settled now
  pub one_cases : (b : Descriptors) (o : ℕ) →
      ((settle_one c b o ≡ b) × (b o ≡ None → made c b o ≡ None)) ⊎
      ((t : Tree) × (b o ≡ None) × (made c b o ≡ Some t) × (settle_one c b o ≡ put b o t))
  one_cases b o =
      ⊎_elim
      (λ n.
      let opened : settle_one c b o ≡ put_if b o (made c b o) = chosen_false (is_some (b o)) b (put_if b o (made c b o)) (none_not_some (b o) n) in
      ⊎_elim
      (λ m. inl (opened ∙ ap (put_if b o) m, λ _. m))
      (λ m. inr (m.0, n, m.1, opened ∙ ap (put_if b o) m.1))
      (split_option (made c b o)))
      (λ h. inl (chosen_true (is_some (b o)) b (put_if b o (made c b o)) (ap is_some h.1), λ n. absurd (not_some_none h.0 h.1 n)))
      (split_option (b o))

  pub put_ext : (b : Descriptors) (o : ℕ) (t : Tree) → b o ≡ None → Ext b (put b o t)
  put_ext b o t n p u e =
      ⊎_elim
      (λ y. absurd (not_some_none u (sym (ap b y.0) ∙ e) n))
      (λ y. y.1 ∙ e)
      (put_cases b o t p)

  pub one_ext : (b : Descriptors) (o : ℕ) → Ext b (settle_one c b o)
  one_ext b o =
      ⊎_elim
      (λ x. subst (Ext b) (sym x.0) (λ p t e. e))
      (λ x. subst (Ext b) (sym x.3) (put_ext b o x.0 x.1))
      (one_cases b o)

  pub pass_ext : (os : List ℕ) (b : Descriptors) → Ext b (pass c b os)
  pass_ext [] b p t e = e
  pass_ext (o ∷ os) b p t e = pass_ext os (settle_one c b o) p t (one_ext b o p t e)

  pub passes_ext : (reads : List ℕ) (n : ℕ) (b : Descriptors) → Ext b (passes c reads n b)
  passes_ext reads zero b p t e = e
  passes_ext reads (suc n) b p t e = passes_ext reads n (pass c b reads) p t (pass_ext reads b p t e)

  one_right : (b : Descriptors) (o : ℕ) → built_in o ≡ false → Right c b → Right c (settle_one c b o)
  one_right b o nb g =
      ⊎_elim
      (λ x. subst (Right c) (sym x.0) g)
      (λ x.
      subst (Right c) (sym x.3)
      (λ p t e.
      ⊎_elim
      (λ y. subst (λ q. Unfolds c q t) (sym y.0) (made_right b g o nb t (x.2 ∙ sym y.1 ∙ e)))
      (λ y. g p t (sym y.1 ∙ e))
      (put_cases b o x.0 p)))
      (one_cases b o)

  pass_right : (os : List ℕ) (b : Descriptors) → ((o : ℕ) → Mem o os → built_in o ≡ false) → Right c b → Right c (pass c b os)
  pass_right [] b nb g = g
  pass_right (o ∷ os) b nb g = pass_right os (settle_one c b o) (λ p m. nb p (inr m)) (one_right b o (nb o (inl refl)) g)

  passes_right : (reads : List ℕ) (n : ℕ) (b : Descriptors) → ((o : ℕ) → Mem o reads → built_in o ≡ false) → Right c b → Right c (passes c reads n b)
  passes_right reads zero b nb g = g
  passes_right reads (suc n) b nb g = passes_right reads n (pass c b reads) nb (pass_right reads b nb g)

  -- only rows read are settled
  one_only : (b : Descriptors) (o p : ℕ) → Described (settle_one c b o) p → (p ≡ o) ⊎ Described b p
  one_only b o p h =
      ⊎_elim
      (λ x. inr (h.0, sym (ap (λ (d : Descriptors). d p) x.0) ∙ h.1))
      (λ x.
      ⊎_elim
      (λ y. inl y.0)
      (λ y. inr (h.0, sym y.1 ∙ sym (ap (λ (d : Descriptors). d p) x.3) ∙ h.1))
      (put_cases b o x.0 p))
      (one_cases b o)

  pass_only : (os : List ℕ) (b : Descriptors) (p : ℕ) → Described (pass c b os) p → Mem p os ⊎ Described b p
  pass_only [] b p h = inr h
  pass_only (o ∷ os) b p h =
      ⊎_elim
      (λ m. inl (inr m))
      (λ k. ⊎_elim (λ e. inl (inl e)) (λ x. inr x) (one_only b o p k))
      (pass_only os (settle_one c b o) p h)

  passes_only : (reads : List ℕ) (n : ℕ) (b : Descriptors) (p : ℕ) → Described (passes c reads n b) p → Mem p reads ⊎ Described b p
  passes_only reads zero b p h = inr h
  passes_only reads (suc n) b p h = ⊎_elim (λ m. inl m) (λ k. pass_only reads b p k) (passes_only reads n (pass c b reads) p h)

  abbrev Due : Descriptors → List ℕ → Type 0
  Due b os = (o : ℕ) × (t : Tree) × Mem o os × (b o ≡ None) × (made c b o ≡ Some t)

  still_or_due : (b : Descriptors) (os : List ℕ) → Still c b os ⊎ Due b os
  still_or_due b [] = inl (λ o m. absurd m)
  still_or_due b (p ∷ os) =
      ⊎_elim
      (λ (s : Still c b os).
      ⊎_elim
      (λ x. inl (λ o m. ⊎_elim (λ (e : o ≡ p). subst (λ q. b q ≡ None → made c b q ≡ None) (sym e) x.1) (s o) m))
      (λ x. inr (p, x.0, inl refl, x.1, x.2))
      (one_cases b p))
      (λ (d : Due b os). inr (d.0, d.1, inr d.2, d.3, d.4))
      (still_or_due b os)

  pass_still : (os : List ℕ) (b : Descriptors) → Still c b os → pass c b os ≡ b
  pass_still [] b s = refl
  pass_still (o ∷ os) b s =
      let same : settle_one c b o ≡ b = ⊎_elim (λ x. x.0) (λ x. absurd (not_some_none x.0 x.2 (s o (inl refl) x.1))) (one_cases b o) in
      ap (λ (d : Descriptors). pass c d os) same ∙ pass_still os b (λ p m. s p (inr m))

  passes_still : (reads : List ℕ) (n : ℕ) (b : Descriptors) → Still c b reads → passes c reads n b ≡ b
  passes_still reads zero b s = refl
  passes_still reads (suc n) b s = ap (passes c reads n) (pass_still reads b s) ∙ passes_still reads n b s

  one_does : (b : Descriptors) (o : ℕ) (t : Tree) → made c b o ≡ Some t → Described (settle_one c b o) o
  one_does b o t e =
      ⊎_elim
      (λ n.
      ⊎_elim
      (λ x. absurd (not_some_none t e (x.1 n)))
      (λ x. ⊎_elim (λ y. (x.0, ap (λ (d : Descriptors). d o) x.3 ∙ y.1)) (λ y. absurd (y.0 refl)) (put_cases b o x.0 o))
      (one_cases b o))
      (λ h. (h.0, one_ext b o o h.0 h.1))
      (split_option (b o))

  pass_does : (os : List ℕ) (b : Descriptors) (o : ℕ) (t : Tree) → Mem o os → made c b o ≡ Some t → Described (pass c b os) o
  pass_does [] b o t m e = absurd m
  pass_does (p ∷ os) b o t (inl q) e =
      let h = one_does b o t e in
      (h.0, pass_ext os (settle_one c b p) o h.0 (subst (λ x. settle_one c b x o ≡ Some h.0) q h.1))
  pass_does (p ∷ os) b o t (inr m) e = pass_does os (settle_one c b p) o t m (made_ext b (settle_one c b p) (one_ext b p) o t e)

  -- a pass that changes nothing leaves nothing to settle: where a loop may stop
  unchanged_still : (reads : List ℕ) (b : Descriptors) → pass c b reads ≡ b → Still c b reads
  unchanged_still reads b same o m n =
      ⊎_elim
      (λ e. e)
      (λ x. let h = pass_does reads b o x.0 m x.1 in absurd (not_some_none h.0 (sym (ap (λ (d : Descriptors). d o) same) ∙ h.1) n))
      (split_option (made c b o))

  -- how many rows are not settled
  abbrev open_at : Option Tree → ℕ
  open_at None = 1
  open_at (Some t) = 0

  abbrev left_open : Descriptors → List ℕ → ℕ
  left_open b [] = 0
  left_open b (o ∷ os) = open_at (b o) + left_open b os

  at_most_one : (x : Option Tree) → open_at x ≤ 1
  at_most_one None = omega arith
  at_most_one (Some t) = omega arith

  open_length : (b : Descriptors) (os : List ℕ) → left_open b os ≤ length os
  open_length b [] = omega arith
  open_length b (o ∷ os) = omega (arith, at_most_one (b o), open_length b os)

  at_ext : (b d : Descriptors) → Ext b d → (o : ℕ) → open_at (d o) ≤ open_at (b o)
  at_ext b d x o =
      ⊎_elim
      (λ n. let z : open_at (b o) ≡ 1 = ap open_at n in omega (arith, z, at_most_one (d o)))
      (λ h. let z : open_at (d o) ≡ 0 = ap open_at (x o h.0 h.1) in omega (arith, z))
      (split_option (b o))

  open_ext : (b d : Descriptors) → Ext b d → (os : List ℕ) → left_open d os ≤ left_open b os
  open_ext b d x [] = omega arith
  open_ext b d x (o ∷ os) = omega (arith, at_ext b d x o, open_ext b d x os)

  open_less : (b d : Descriptors) → Ext b d → (os : List ℕ) (o : ℕ) → Mem o os → b o ≡ None → Described d o → left_open d os < left_open b os
  open_less b d x [] o m n h = absurd m
  open_less b d x (p ∷ os) o (inl e) n h =
      let was : open_at (b p) ≡ 1 = ap open_at (sym (ap b e) ∙ n) in
      let now : open_at (d p) ≡ 0 = ap open_at (sym (ap d e) ∙ h.1) in
      omega (arith, was, now, open_ext b d x os)
  open_less b d x (p ∷ os) o (inr m) n h = omega (arith, at_ext b d x p, open_less b d x os o m n h)

  open_none : (b : Descriptors) (os : List ℕ) (o : ℕ) → Mem o os → b o ≡ None → 0 < left_open b os
  open_none b [] o m n = absurd m
  open_none b (p ∷ os) o (inl e) n = let was : open_at (b p) ≡ 1 = ap open_at (sym (ap b e) ∙ n) in omega (arith, was)
  open_none b (p ∷ os) o (inr m) n = omega (arith, open_none b os o m n)

  pub settles : (reads : List ℕ) (n : ℕ) (b : Descriptors) → left_open b reads ≤ n → Still c (passes c reads n b) reads
  settles reads zero b le = λ o m e. absurd (omega (arith, open_none b reads o m e))
  settles reads (suc n) b le =
      ⊎_elim
      (λ (s : Still c b reads). subst (λ d. Still c d reads) (sym (passes_still reads (suc n) b s)) s)
      (λ (d : Due b reads).
      let less = open_less b (pass c b reads) (pass_ext reads b) reads d.0 d.2 d.3 (pass_does reads b d.0 d.1 d.2 d.4) in
      settles reads n (pass c b reads) (omega arith))
      (still_or_due b reads)

  -- where nothing is left to settle, every OID near has its unfolding
  module _ (b : Descriptors) (reads : List ℕ) (right : Right c b) (still : Still c b reads) where
    abbrev Near : ℕ → Type 0
    Near p = Known b p ⊎ Mem p reads

    module _ (closed : (o p : ℕ) → Mem o reads → Link c o p → Near p) where
      mutual
        complete : (t : Tree) (o : ℕ) → Unfolds c o t → Near o → found b o ≡ Some t
        complete (built q) o u near = found_built b o u.1 ∙ ap (λ x. Some (built x)) u.0
        complete (node q n d ts) o u near =
            ⊎_elim
            (λ e.
            let read : Mem o reads = ⊎_elim (λ k. absurd (known_not b o k (u.2, e))) (λ m. m) near in
            let all = completes ts u.0.links u.6 (λ p m. closed o p read (u.0, u.1, m)) in
            absurd (not_some_none (node o u.0.name u.0.head ts) (some_made b o u.0 ts u.1 all) (still o read e)))
            (λ h. found_held b o u.2 ∙ h.1 ∙ ap (λ x. Some x) (unique c o h.0 (node q n d ts) (right o h.0 h.1) u))
            (split_option (b o))

        completes : (ts : Trees) (os : List ℕ) → UnfoldAll c os ts → ((p : ℕ) → Mem p os → Near p) → gather b os ≡ Some ts
        completes none [] u near = refl
        completes none (o ∷ os) u near = absurd u
        completes (more t ts) [] u near = absurd u
        completes (more t ts) (o ∷ os) u near = λ i. joined (complete t o u.0 (near o (inl refl)) i) (completes ts os u.1 (λ p m. near p (inr m)) i)

  pub settled_still : (b : Descriptors) (reads : List ℕ) → Still c (settled c b reads) reads
  settled_still b reads = settles reads (length reads) b (open_length b reads)

  pub settled_right : (b : Descriptors) (reads : List ℕ) → ((o : ℕ) → Mem o reads → built_in o ≡ false) → Right c b → Right c (settled c b reads)
  settled_right b reads = passes_right reads (length reads) b

  pub settled_ext : (b : Descriptors) (reads : List ℕ) → Ext b (settled c b reads)
  settled_ext b reads = passes_ext reads (length reads) b

  -- every OID read or known that has an unfolding is found with it
  pub settled_complete : (b : Descriptors) (reads : List ℕ) → Right c b → ((o : ℕ) → Mem o reads → built_in o ≡ false) →
      ((o p : ℕ) → Mem o reads → Link c o p → Known b p ⊎ Mem p reads) →
      (o : ℕ) (t : Tree) → Known b o ⊎ Mem o reads → Unfolds c o t → found (settled c b reads) o ≡ Some t
  settled_complete b reads right nb closed o t near u =
      let d : Descriptors = settled c b reads in
      let on : (p : ℕ) → Known b p ⊎ Mem p reads → Known d p ⊎ Mem p reads = λ p. ⊎_elim (λ k. inl (known_on p k)) (λ m. inr m) in
      complete d reads (settled_right b reads nb right) (settled_still b reads) (λ q p m l. on p (closed q p m l)) t o u (on o near)
    where
      known_on : (p : ℕ) → Known b p → Known (settled c b reads) p
      known_on p = ⊎_elim (λ y. inl y) (λ h. inr (h.0, settled_ext b reads p h.0 h.1))

  pub settled_only : (b : Descriptors) (reads : List ℕ) (o : ℕ) → Described (settled c b reads) o → Mem o reads ⊎ Described b o
  settled_only b reads o h = passes_only reads (length reads) b o h

pub passes_law : PassesLaw
passes_law c b reads = (settled_still c b reads, λ same n. passes_still c reads n b (unchanged_still c reads b same))
