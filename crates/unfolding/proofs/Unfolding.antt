-- An OID has at most one unfolding, and keeps it as the catalog grows. Assumes nothing.
use Rattle.std.proofs.Common.{◌≡◌, ℕ, false, not, ◌&&◌, ◌==◌, List, [], ◌∷◌, Some, None, Option, sym, refl, ap, ◌∙◌, subst, inl, inr}
use Rattle.std.specs.Option.{option_and_then}
use Rattle.std.proofs.lemmas.Bool.{cond_both}
use Rattle.unfolding.specs.Lists.{Mem}
use Rattle.catalog.specs.Catalog.{Catalog, CatalogRow, Grows}
use Rattle.catalog.specs.Shape.{Shape, Head, domain, array, range, codes_listed, linked, shape, formed}
use Rattle.unfolding.specs.Unfolding.{Tree, built, node, Trees, none, more, Link, Unfolds, UnfoldAll, HasUnfolding, built_in}

pub formed-row : (c : Catalog) (o : ℕ) (s : Shape) → formed c o ≡ Some s → (r : CatalogRow) × (c.rows o ≡ Some r) × (shape r ≡ Some s)
unfolding formed
formed-row c o s e =
    by_cases (c.rows o) refl e where
      by_cases : (r : Option CatalogRow) → c.rows o ≡ r → option_and_then shape r ≡ Some s → (k : CatalogRow) × (c.rows o ≡ Some k) × (shape k ≡ Some s)
      by_cases None h e = absurd cc
      by_cases (Some k) h e = (k, h, e)

pub row-formed : (c : Catalog) (o : ℕ) (r : CatalogRow) → c.rows o ≡ Some r → formed c o ≡ shape r
unfolding formed
row-formed c o r e = ap (option_and_then shape) e

pub formed-grows : (c d : Catalog) → Grows c d → (o : ℕ) (s : Shape) → formed c o ≡ Some s → formed d o ≡ Some s
formed-grows c d g o s e = let r = formed-row c o s e in row-formed d o r.0 (g.rows_stay o r.0 r.1) ∙ r.2

mutual
  pub unique : (c : Catalog) (o : ℕ) (t u : Tree) → Unfolds c o t → Unfolds c o u → t ≡ u
  unique c o (built p) (built q) h k = ap built (sym h.0 ∙ k.0)
  unique c o (built p) (node q m e us) h k = absurd cc
  unique c o (node p n d ts) (built q) h k = absurd cc
  unique c o (node p n d ts) (node q m e us) h k =
      let same : h.0 ≡ k.0 = cc in
      let rest : ts ≡ us = uniques c k.0.links ts us (subst (λ (s : Shape). UnfoldAll c s.links ts) same h.6) k.6 in
      λ i. node ((sym h.3 ∙ k.3) i) ((sym h.4 ∙ ap (λ (s : Shape). s.name) same ∙ k.4) i) ((sym h.5 ∙ ap (λ (s : Shape). s.head) same ∙ k.5) i) (rest i)

  uniques : (c : Catalog) (os : List ℕ) (ts us : Trees) → UnfoldAll c os ts → UnfoldAll c os us → ts ≡ us
  uniques c [] none none h k = refl
  uniques c [] none (more u us) h k = absurd k
  uniques c [] (more t ts) us h k = absurd h
  uniques c (o ∷ os) none us h k = absurd h
  uniques c (o ∷ os) (more t ts) none h k = absurd k
  uniques c (o ∷ os) (more t ts) (more u us) h k = λ i. more (unique c o t u h.0 k.0 i) (uniques c os ts us h.1 k.1 i)

mutual
  pub unfolds-grows : (c d : Catalog) → Grows c d → (o : ℕ) (t : Tree) → Unfolds c o t → Unfolds d o t
  unfolds-grows c d g o (built p) h = h
  unfolds-grows c d g o (node p n e ts) h =
      (h.0, formed-grows c d g o h.0 h.1, h.2, h.3, h.4, h.5, unfold-all-grows c d g h.0.links ts h.6)

  unfold-all-grows : (c d : Catalog) → Grows c d → (os : List ℕ) (ts : Trees) → UnfoldAll c os ts → UnfoldAll d os ts
  unfold-all-grows c d g [] none h = h
  unfold-all-grows c d g [] (more t ts) h = h
  unfold-all-grows c d g (o ∷ os) none h = h
  unfold-all-grows c d g (o ∷ os) (more t ts) h = (unfolds-grows c d g o t h.0, unfold-all-grows c d g os ts h.1)

-- a link of what has an unfolding has one
all_have : (c : Catalog) (os : List ℕ) (ts : Trees) (p : ℕ) → UnfoldAll c os ts → Mem p os → HasUnfolding c p
all_have c [] ts p h m = absurd m
all_have c (o ∷ os) none p h m = absurd h
all_have c (o ∷ os) (more t ts) p h (inl e) = (t, subst (λ (q : ℕ). Unfolds c q t) (sym e) h.0)
all_have c (o ∷ os) (more t ts) p h (inr m) = all_have c os ts p h.1 m

pub link-has : (c : Catalog) (o p : ℕ) (t : Tree) → built_in o ≡ false → Unfolds c o t → Link c o p → HasUnfolding c p
link-has c o p (built q) nb h l = absurd cc
link-has c o p (node q n d ts) nb h l =
    let same : l.0 ≡ h.0 = cc in
    all_have c h.0.links ts p h.6 (subst (λ (s : Shape). Mem p s.links) same l.2)

-- a shape has the row's pretty name
pub shape-name : (r : CatalogRow) (s : Shape) → shape r ≡ Some s → s.name ≡ r.pretty
unfolding shape
shape-name r s e =
    subst Named e
    (cond_both (not (codes_listed r)) None _ Named (λ _. tt)
    (λ _. cond_both (r.typtype == 100) _ _ Named (λ _. link domain r.typbasetype)
    (λ _. cond_both (r.typtype == 98 && r.typcategory == 65) _ _ Named (λ _. link array r.typelem)
    (λ _. cond_both (r.typtype == 112) _ _ Named (λ _. refl)
    (λ _. cond_both (r.typtype == 114) _ _ Named (λ _. link range r.rngsubtype)
    (λ _. cond_both (r.typtype == 101) _ _ Named (λ _. refl)
    (λ _. cond_both (r.typtype == 99) _ _ Named (λ _. refl) (λ _. refl))))))))
  where
    Named : Option Shape → Type 0
    Named None = Unit {0}
    Named (Some k) = k.name ≡ r.pretty

    link : (h : Head) (o : Option ℕ) → Named (linked r h o)
    link h None = tt
    link h (Some o) = refl
