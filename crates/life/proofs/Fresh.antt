-- What `fresh_by` and `links_of` hold.
-- Assumes nothing.
use Rattle.std.proofs.Common.{◌≡◌, ℕ, Bool, true, false, ◌||◌, ◌↔◌, List, [], ◌∷◌, ◌++◌, Decides, sym, refl, ap, ◌∙◌, subst, inl, inr, ⊎_elim, append_assoc, append-nil}
use Rattle.std.proofs.lemmas.Bool.{cases_Bool, or_cases, or_parts}
use Rattle.std.specs.List.{list_any}
use Rattle.catalog.specs.Catalog.{Catalog}
use Rattle.catalog.specs.Shape.{formed}
use Rattle.unfolding.specs.Lists.{Mem, Distinct}
use Rattle.unfolding.specs.Unfolding.{Link}
use Rattle.life.specs.Lists.{AnyOf, fresh_by, push_all}
use Rattle.life.specs.Walk.{links_in, links_of}
use Rattle.life.proofs.Lists.{not_both, split_option, chosen_true, chosen_false, mem_tells, flat_mem}

module _ {A : Type 0} (same : A → A → Bool) (tells : (x y : A) → Decides (same x y) (x ≡ y)) (skip : A → Bool) where
  passes : (seen : List A) (x : A) (xs : List A) → (skip x || list_any (same x) seen) ≡ true → fresh_by same skip seen (x ∷ xs) ≡ fresh_by same skip seen xs
  passes seen x xs = chosen_true (skip x || list_any (same x) seen) _ _

  takes : (seen : List A) (x : A) (xs : List A) → (skip x || list_any (same x) seen) ≡ false → fresh_by same skip seen (x ∷ xs) ≡ x ∷ fresh_by same skip (x ∷ seen) xs
  takes seen x xs = chosen_false (skip x || list_any (same x) seen) _ _

  pub fresh_has : (xs seen : List A) (p : A) → Mem p (fresh_by same skip seen xs) → Mem p xs × (skip p ≡ false) × (Mem p seen → ⊥)
  fresh_has [] seen p m = absurd m
  fresh_has (x ∷ xs) seen p m =
      ⊎_elim
      (λ t. let h = fresh_has xs seen p (subst (Mem p) (passes seen x xs t) m) in (inr h.0, h.1, h.2))
      (λ f.
      let n = or_parts (skip x) (list_any (same x) seen) f in
      ⊎_elim
      (λ (e : p ≡ x). (inl e, ap skip e ∙ n.0, λ k. not_both ((mem_tells same tells x seen).1 (subst (λ q. Mem q seen) e k)) n.1))
      (λ k. let h = fresh_has xs (x ∷ seen) p k in (inr h.0, h.1, λ l. h.2 (inr l)))
      (subst (Mem p) (takes seen x xs f) m))
      (cases_Bool (skip x || list_any (same x) seen))

  pub has_fresh : (xs seen : List A) (p : A) → Mem p xs → skip p ≡ false → (Mem p seen → ⊥) → Mem p (fresh_by same skip seen xs)
  has_fresh [] seen p m s n = absurd m
  has_fresh (x ∷ xs) seen p m s n =
      ⊎_elim
      (λ t.
      subst (Mem p) (sym (passes seen x xs t))
      (⊎_elim
      (λ (e : p ≡ x).
      absurd
      (⊎_elim
      (λ y. not_both y (sym (ap skip e) ∙ s))
      (λ y. n (subst (λ q. Mem q seen) (sym e) ((mem_tells same tells x seen).0 y)))
      (or_cases (skip x) (list_any (same x) seen) t)))
      (λ k. has_fresh xs seen p k s n)
      m))
      (λ f.
      subst (Mem p) (sym (takes seen x xs f))
      (⊎_elim
      (λ (e : p ≡ x). inl e)
      (λ k.
      ⊎_elim
      (λ y. inl ((tells p x).0 y))
      (λ y. inr (has_fresh xs (x ∷ seen) p k s (⊎_elim (λ (e : p ≡ x). not_both ((tells p x).1 e) y) n)))
      (cases_Bool (same p x)))
      m))
      (cases_Bool (skip x || list_any (same x) seen))

  pub fresh_distinct : (xs seen : List A) → Distinct (fresh_by same skip seen xs)
  fresh_distinct [] seen = tt
  fresh_distinct (x ∷ xs) seen =
      ⊎_elim
      (λ t. subst Distinct (sym (passes seen x xs t)) (fresh_distinct xs seen))
      (λ f. subst Distinct (sym (takes seen x xs f)) (λ m. (fresh_has xs (x ∷ seen) x m).2 (inl refl), fresh_distinct xs (x ∷ seen)))
      (cases_Bool (skip x || list_any (same x) seen))

  -- only what is in the list of those seen counts
  pub fresh_same : (xs seen seen' : List A) → ((x : A) → list_any (same x) seen ≡ list_any (same x) seen') → fresh_by same skip seen xs ≡ fresh_by same skip seen' xs
  fresh_same [] seen seen' e = refl
  fresh_same (x ∷ xs) seen seen' e =
      ⊎_elim
      (λ t. passes seen x xs t ∙ fresh_same xs seen seen' e ∙ sym (passes seen' x xs (sym (ap (λ y. skip x || y) (e x)) ∙ t)))
      (λ f.
      takes seen x xs f
      ∙ ap (λ l. x ∷ l) (fresh_same xs (x ∷ seen) (x ∷ seen') (λ p. ap (λ y. same p x || y) (e p)))
      ∙ sym (takes seen' x xs (sym (ap (λ y. skip x || y) (e x)) ∙ f)))
      (cases_Bool (skip x || list_any (same x) seen))

  pub mem_push : (x p : A) (queue : List A) → list_any (same p) (queue ++ x ∷ []) ≡ list_any (same p) (x ∷ queue)
  mem_push x p [] = refl
  mem_push x p (q ∷ queue) = ap (λ y. same p q || y) (mem_push x p queue) ∙ turn (same p q) (same p x) (list_any (same p) queue)
    where
      turn : (x y z : Bool) → (x || (y || z)) ≡ (y || (x || z))
      turn true true z = refl
      turn true false z = refl
      turn false true z = refl
      turn false false z = refl

  -- a queue filled one after the other
  pub pushed : (xs queue : List A) → push_all same skip queue xs ≡ queue ++ fresh_by same skip queue xs
  pushed [] queue = sym (append-nil queue)
  pushed (x ∷ xs) queue =
      ⊎_elim
      (λ t.
      ap (λ q. push_all same skip q xs) (chosen_true (skip x || list_any (same x) queue) queue (queue ++ x ∷ []) t)
      ∙ pushed xs queue
      ∙ ap (λ l. queue ++ l) (sym (passes queue x xs t)))
      (λ f.
      ap (λ q. push_all same skip q xs) (chosen_false (skip x || list_any (same x) queue) queue (queue ++ x ∷ []) f)
      ∙ pushed xs (queue ++ x ∷ [])
      ∙ append_assoc queue (x ∷ []) (fresh_by same skip (queue ++ x ∷ []) xs)
      ∙ ap (λ l. queue ++ x ∷ l) (fresh_same xs (queue ++ x ∷ []) (x ∷ queue) (λ p. mem_push x p queue))
      ∙ ap (λ l. queue ++ l) (sym (takes queue x xs f)))
      (cases_Bool (skip x || list_any (same x) queue))

link_mem : (c : Catalog) (o p : ℕ) → Mem p (links_in (formed c o)) ↔ Link c o p
link_mem c o p = (
  λ m.
      ⊎_elim
      (λ e. absurd (subst (λ x. Mem p (links_in x)) e m))
      (λ s. (s.0, s.1, subst (λ x. Mem p (links_in x)) s.1 m))
      (split_option (formed c o)),
  λ l. subst (λ x. Mem p (links_in x)) (sym l.1) l.2,
)

pub links_mem : (c : Catalog) (os : List ℕ) (p : ℕ) → Mem p (links_of c os) ↔ AnyOf (λ o. Link c o p) os
links_mem c os p =
    let all = flat_mem (λ o. links_in (formed c o)) os p in (
      λ m. let x = all.0 m in (x.0, x.1, (link_mem c x.0 p).0 x.2),
      λ x. all.1 (x.0, x.1, (link_mem c x.0 p).1 x.2),
    )
