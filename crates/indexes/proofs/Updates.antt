-- A map as a function, with a value put under a key. Assumes nothing.
use Rattle.std.proofs.Common.{◌≡◌, ℕ, Bool, true, false, cond, ◌⊎◌, is_some, Some, None, Decides, Option, sym, refl, ap, ◌∙◌, inl, inr, ⊎_elim, arith}
use Rattle.std.specs.Map.{update}
use Rattle.std.proofs.lemmas.Bool.{cases_Bool, cond-true, cond-false}

through : {A B : Type 0} (g : A → B) (b : Bool) (x y : A) → g (cond b x y) ≡ cond b (g x) (g y)
through g true x y = refl
through g false x y = refl

-- what such a map tells through g
pub told_after :
    {Q V W : Type 0} (alike : Q → Q → Bool) (g : Option V → Option W) (before after : Q → Option V) (key : Q) (v : V) →
    ((q : Q) → after q ≡ update alike before key (Some v) q) → (λ q. g (after q)) ≡ update alike (λ q. g (before q)) key (g (Some v))
told_after alike g before after key v e = λ i q. (ap g (e q) ∙ through g (alike key q) (Some v) (before q)) i

module _ {Q V : Type 0} (alike : Q → Q → Bool) (tells : (a b : Q) → Decides (alike a b) (a ≡ b)) (f : Q → Option V) (key : Q) (w : V) where
  -- the new value under the key, or what the map had
  pub was : (q : Q) (v : V) → update alike f key (Some w) q ≡ Some v → ((key ≡ q) × (w ≡ v)) ⊎ (f q ≡ Some v)
  was q v e =
      ⊎_elim
      (λ t. let z : Some w ≡ Some v = sym (cond-true (alike key q) (Some w) (f q) t) ∙ e in inl ((tells key q).0 t, cc))
      (λ t. inr (sym (cond-false (alike key q) (Some w) (f q) t) ∙ e))
      (cases_Bool (alike key q))

  pub here : update alike f key (Some w) key ≡ Some w
  here = cond-true (alike key key) (Some w) (f key) ((tells key key).1 refl)

  -- where the key was absent, what was there stays
  pub stays : f key ≡ None → (q : Q) (v : V) → f q ≡ Some v → update alike f key (Some w) q ≡ Some v
  stays none q v e =
      ⊎_elim
      (λ t. let same : f key ≡ f q = ap f ((tells key q).0 t) in let z : ◌≡◌ {A = ℕ} 0 1 = cc in absurd (omega arith))
      (λ t. cond-false (alike key q) (Some w) (f q) t ∙ e)
      (cases_Bool (alike key q))

  -- what has a value goes on having one
  pub stays_some : (q : Q) → is_some (f q) ≡ true → is_some (update alike f key (Some w) q) ≡ true
  stays_some q e =
      ⊎_elim
      (λ t. ap is_some (cond-true (alike key q) (Some w) (f q) t))
      (λ t. ap is_some (cond-false (alike key q) (Some w) (f q) t) ∙ e)
      (cases_Bool (alike key q))

-- to put what is there alters nothing
pub put_again :
    {Q V : Type 0} (alike : Q → Q → Bool) (tells : (a b : Q) → Decides (alike a b) (a ≡ b)) (f : Q → Option V) (key : Q) (v : V) → f key ≡ Some v →
    f ≡ update alike f key (Some v)
put_again alike tells f key v e = λ i q.
    (⊎_elim
    (λ t. ap f (sym ((tells key q).0 t)) ∙ e ∙ sym (cond-true (alike key q) (Some v) (f q) t))
    (λ t. sym (cond-false (alike key q) (Some v) (f q) t))
    (cases_Bool (alike key q))) i
