-- Tables with one entry more behind the others.
-- Assumes nothing.
use Rattle.std.proofs.Common.{◌≡◌, Bool, true, false, List, [], ◌∷◌, ◌++◌, Some, None, Decides, Option, sym, refl, ap, ◌∙◌, ⊎_elim}
use Rattle.std.specs.Map.{update}
use Rattle.std.specs.Option.{option_or}
use Rattle.std.proofs.lemmas.Bool.{cases_Bool, cond-false, cond-true}
use Rattle.life.proofs.Lists.{not_both}
use Rattle.room.specs.Tables.{look_up}
use Rattle.room.proofs.LookUp.{look_append}

or_nothing : {V : Type 0} (x : Option V) → option_or x None ≡ x
or_nothing None = refl
or_nothing (Some v) = refl

module _ {K V : Type 0} (same : K → K → Bool) (tells : (x y : K) → Decides (same x y) (x ≡ y)) where
  module _ (f : K → Option V) (k : K) (v : V) (new : f k ≡ None) (j : K) where
    abbrev last : Option V
    last = look_up same ((k, v) ∷ []) j

    here : same k j ≡ true → option_or (f j) last ≡ update same f k (Some v) j
    here t =
        let e : k ≡ j = (tells k j).0 t in
        ap (λ x. option_or x last) (sym (ap f e) ∙ new)
        ∙ cond-true (same j k) (Some v) None ((tells j k).1 (sym e))
        ∙ sym (cond-true (same k j) (Some v) (f j) t)

    apart : same k j ≡ false → same j k ≡ false
    apart n = ⊎_elim (λ t. absurd (not_both ((tells k j).1 (sym ((tells j k).0 t))) n)) (λ m. m) (cases_Bool (same j k))

    elsewhere : same k j ≡ false → option_or (f j) last ≡ update same f k (Some v) j
    elsewhere n =
        ap (option_or (f j)) (cond-false (same j k) (Some v) None (apart n))
        ∙ or_nothing (f j)
        ∙ sym (cond-false (same k j) (Some v) (f j) n)

    one_more_at : option_or (f j) last ≡ update same f k (Some v) j
    one_more_at = ⊎_elim here elsewhere (cases_Bool (same k j))

  -- a key that was not held leads to its value, and all others to theirs
  pub look_one_more : (xs : List (K × V)) (f : K → Option V) → look_up same xs ≡ f → (k : K) (v : V) → f k ≡ None →
      look_up same (xs ++ (k, v) ∷ []) ≡ update same f k (Some v)
  look_one_more xs f e k v new = λ i j.
      (look_append same tells xs ((k, v) ∷ []) j ∙ ap (λ (g : K → Option V). option_or (g j) (look_up same ((k, v) ∷ []) j)) e ∙ one_more_at f k v new j) i
