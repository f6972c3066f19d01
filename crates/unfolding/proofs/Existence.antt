-- An unfolding exists exactly where no row is missing or malformed and no links go round. Assumes nothing.
use Rattle.std.proofs.Common.{◌≡◌, ℕ, zero, suc, ◌+◌, ◌<◌, ◌≤◌, true, false, ◌⊎◌, List, [], ◌∷◌, length, Some, sym, refl, ap, subst, inl, inr, ⊎_elim, arith}
use Rattle.std.proofs.lemmas.Bool.{cases_Bool}
use Rattle.unfolding.specs.Lists.{Mem, Distinct}
use Rattle.catalog.specs.Catalog.{Catalog}
use Rattle.catalog.specs.Shape.{Shape, formed}
use Rattle.unfolding.specs.Unfolding.{Tree, built, node, Trees, none, more, Link, Unfolds, UnfoldAll, HasUnfolding, Leads, itself, onward, built_in}
use Rattle.unfolding.specs.Laws.{GoesRound, Exists}
use Rattle.unfolding.proofs.Lists.{pigeon}
use Rattle.unfolding.proofs.Unfolding.{unique, link-has}

abbrev mutual
  size : Tree → ℕ
  size (built o) = 1
  size (node o n h ts) = suc (sizes ts)

  sizes : Trees → ℕ
  sizes none = 0
  sizes (more t ts) = size t + sizes ts

module _ (c : Catalog) where
  leads-has : (o p : ℕ) → HasUnfolding c o → Leads c o p → HasUnfolding c p
  leads-has o p u (itself e) = subst (HasUnfolding c) e u
  leads-has o p u (onward q l nb k) = let v = leads-has o q u l in link-has c q p v.0 nb v.1 k

  has-formed : (p : ℕ) (t : Tree) → Unfolds c p t → (built_in p ≡ true) ⊎ ((s : Shape) × (formed c p ≡ Some s))
  has-formed p (built q) u = inl u.1
  has-formed p (node q n h ts) u = inr (u.0, u.1)

  part-size : (os : List ℕ) (ts : Trees) (p : ℕ) (u : Tree) → UnfoldAll c os ts → Mem p os → Unfolds c p u → size u ≤ sizes ts
  part-size [] ts p u h m x = absurd m
  part-size (o ∷ os) none p u h m x = absurd h
  part-size (o ∷ os) (more t ts) p u h (inl e) x =
      let same : u ≡ t = unique c p u t x (subst (λ q. Unfolds c q t) (sym e) h.0) in
      let equal : size u ≡ size t = ap size same in
      omega arith
  part-size (o ∷ os) (more t ts) p u h (inr m) x = omega (arith, part-size os ts p u h.1 m x)

  link-size : (o p : ℕ) (t u : Tree) → built_in o ≡ false → Unfolds c o t → Link c o p → Unfolds c p u → size u < size t
  link-size o p (built q) u nb x l y = absurd cc
  link-size o p (node q n h ts) u nb x l y =
      let same : l.0 ≡ x.0 = cc in
      omega (arith, part-size x.0.links ts p u x.6 (subst (λ (s : Shape). Mem p s.links) same l.2) y)

  leads-size : (o p : ℕ) (t u : Tree) → Unfolds c o t → Leads c o p → Unfolds c p u → size u ≤ size t
  leads-size o p t u x (itself e) y =
      let same : u ≡ t = unique c p u t y (subst (λ q. Unfolds c q t) e x) in
      let equal : size u ≡ size t = ap size same in
      omega arith
  leads-size o p t u x (onward q l nb k) y =
      let v = leads-has o q (t, x) l in
      omega (arith, leads-size o q t v.0 x l v.1, link-size q p v.0 u nb v.1 k y)

  no-round : (p : ℕ) → HasUnfolding c p → GoesRound c p → ⊥
  no-round p u r =
      let v = link-has c p r.0 u.0 r.1 u.1 r.2 in
      omega (arith, link-size p r.0 u.0 v.0 r.1 u.1 r.2 v.1, leads-size r.0 p v.0 u.0 v.1 r.3 u.1)

  all-unfold : (os : List ℕ) → ((p : ℕ) → Mem p os → HasUnfolding c p) → (ts : Trees) × UnfoldAll c os ts
  all-unfold [] f = (none, tt)
  all-unfold (o ∷ os) f =
      let t = f o (inl refl) in
      let ts = all-unfold os (λ p m. f p (inr m)) in
      (more t.0 ts.0, (t.1, ts.1))

  -- in one link or more
  abbrev LeadsOn : ℕ → ℕ → Type 0
  LeadsOn a b = (x : ℕ) × (built_in a ≡ false) × Link c a x × Leads c x b

  module _ (r : ℕ) (os : List ℕ) (all : (p : ℕ) → Leads c r p → Mem p os)
      (fine : (p : ℕ) → Leads c r p → (built_in p ≡ true) ⊎ ((s : Shape) × (formed c p ≡ Some s)))
      (straight : (p : ℕ) → Leads c r p → GoesRound c p → ⊥) where
    -- the OIDs of the path are distinct, each leads on to o, and so many more can follow
    unfold-by : (m : ℕ) (path : List ℕ) (o : ℕ) → Leads c r o → Distinct (o ∷ path) → ((q : ℕ) → Mem q path → Mem q os) → ((q : ℕ) → Mem q path → LeadsOn q o) → length os ≤ m + length path → HasUnfolding c o
    unfold-by zero path o lead d inside on le =
        absurd (omega (arith, pigeon (o ∷ path) os d (λ q m. ⊎_elim (λ (e : q ≡ o). subst (λ x. Mem x os) (sym e) (all o lead)) (inside q) m)))
    unfold-by (suc m) path o lead d inside on le =
        ⊎_elim
        (λ y. (built o, (refl, y)))
        (λ nb.
        ⊎_elim
        (λ y. absurd cc)
        (λ f.
        let s = f.0 in
        let step : (p : ℕ) → Mem p s.links → HasUnfolding c p = λ p k.
        let l : Link c o p = (s, f.1, k) in
        let lead' : Leads c r p = onward o lead nb l in
        let on' : (q : ℕ) → Mem q (o ∷ path) → LeadsOn q p = λ q x.
        ⊎_elim
        (λ (e : q ≡ o). subst (λ v. LeadsOn v p) (sym e) (p, nb, l, itself refl))
        (λ x'. let a = on q x' in (a.0, a.1, a.2, onward o a.3 nb l))
        x in
        let new : Mem p (o ∷ path) → ⊥ = λ x. straight p lead' (on' p x) in
        unfold-by m (o ∷ path) p lead' (new, d) (λ q x. ⊎_elim (λ (e : q ≡ o). subst (λ v. Mem v os) (sym e) (all o lead)) (inside q) x) on' (omega arith) in
        let ts = all-unfold s.links step in
        (node o s.name s.head ts.0, (s, f.1, nb, refl, refl, refl, ts.1)))
        (fine o lead))
        (cases_Bool (built_in o))

    root-unfolds : HasUnfolding c r
    root-unfolds = unfold-by (length os) [] r (itself refl) (λ x. x, tt) (λ q x. absurd x) (λ q x. absurd x) (omega arith)

pub exists : Exists
exists c o os all = (
  λ u. (λ p l. let v = leads-has c o p u l in has-formed c p v.0 v.1, λ p l. no-round c p (leads-has c o p u l)),
  λ h. root-unfolds c o os all h.0 h.1,
)
