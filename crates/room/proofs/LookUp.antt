-- Look-up in lists of entries, and what is new to one.
-- Assumes nothing.
use Rattle.std.proofs.Common.{◌≡◌, Bool, true, false, cond, ◌||◌, ◌⊎◌, List, [], ◌∷◌, ◌++◌, map, is_some, Some, None, Decides, Option, option_map, sym, refl, ap, ◌∙◌, subst, inl, inr, ⊎_elim}
use Rattle.std.proofs.lemmas.Bool.{cases_Bool, cond-false, cond-true, or_from, or_parts}
use Rattle.std.specs.List.{list_any, cons_option}
use Rattle.std.specs.Option.{option_or}
use Rattle.unfolding.specs.Lists.{Mem}
use Rattle.life.specs.Lists.{fresh_by}
use Rattle.life.proofs.Lists.{not_both, not_some_none, same_some, split_option, is_none_if, chosen_true, chosen_false}
use Rattle.room.specs.Tables.{look_up}
use Rattle.room.specs.Added.{with_values, new_by, Once}

abbrev pub keys : {K V : Type 0} → List (K × V) → List K
keys xs = map (λ x. x.0) xs

module _ {K V : Type 0} (same : K → K → Bool) (tells : (x y : K) → Decides (same x y) (x ≡ y)) where
  here : (k : K) (x : K × V) (xs : List (K × V)) → same k x.0 ≡ true → look_up same (x ∷ xs) k ≡ Some x.1
  here k x xs e = cond-true (same k x.0) (Some x.1) (look_up same xs k) e

  there : (k : K) (x : K × V) (xs : List (K × V)) → same k x.0 ≡ false → look_up same (x ∷ xs) k ≡ look_up same xs k
  there k x xs e = cond-false (same k x.0) (Some x.1) (look_up same xs k) e

  pub look_append : (xs ys : List (K × V)) (k : K) → look_up same (xs ++ ys) k ≡ option_or (look_up same xs k) (look_up same ys k)
  look_append [] ys k = refl
  look_append (x ∷ xs) ys k =
      ⊎_elim
      (λ t. here k x (xs ++ ys) t ∙ sym (ap (λ v. option_or v (look_up same ys k)) (here k x xs t)))
      (λ f. there k x (xs ++ ys) f ∙ look_append xs ys k ∙ sym (ap (λ v. option_or v (look_up same ys k)) (there k x xs f)))
      (cases_Bool (same k x.0))

  -- what is looked up is there
  pub look_mem : (xs : List (K × V)) (k : K) (v : V) → look_up same xs k ≡ Some v → Mem (k, v) xs
  look_mem [] k v e = absurd (not_some_none v e refl)
  look_mem (x ∷ xs) k v e =
      ⊎_elim
      (λ t. inl (λ i. ((tells k x.0).0 t i, same_some e (here k x xs t) i)))
      (λ f. inr (look_mem xs k v (sym (there k x xs f) ∙ e)))
      (cases_Bool (same k x.0))

  -- and what is there is looked up, if its key is held once
  pub mem_key : (xs : List (K × V)) (x : K × V) → Mem x xs → Mem x.0 (keys xs)
  mem_key [] x m = absurd m
  mem_key (y ∷ xs) x m = ⊎_elim (λ e. inl (ap (λ (z : K × V). z.0) e)) (λ n. inr (mem_key xs x n)) m

  pub key_held : (xs : List (K × V)) (k : K) → Mem k (keys xs) → look_up same xs k ≡ None → ⊥
  key_held [] k m e = absurd m
  key_held (x ∷ xs) k m e =
      ⊎_elim
      (λ t. not_some_none x.1 (here k x xs t) e)
      (λ f. ⊎_elim (λ z. not_both ((tells k x.0).1 z) f) (λ n. key_held xs k n (sym (there k x xs f) ∙ e)) m)
      (cases_Bool (same k x.0))

  pub mem_look : (xs : List (K × V)) → Once xs → (k : K) (v : V) → Mem (k, v) xs → look_up same xs k ≡ Some v
  mem_look [] once k v m = absurd m
  mem_look (x ∷ xs) once k v m =
      ⊎_elim
      (λ t.
      ⊎_elim
      (λ e. here k x xs t ∙ ap (λ (z : K × V). Some z.1) (sym e))
      (λ n. absurd (once.0 (subst (λ q. Mem q (keys xs)) ((tells k x.0).0 t) (mem_key xs (k, v) n))))
      m)
      (λ f.
      ⊎_elim
      (λ e. absurd (not_both ((tells k x.0).1 (ap (λ (z : K × V). z.0) e)) f))
      (λ n. there k x xs f ∙ mem_look xs once.1 k v n)
      m)
      (cases_Bool (same k x.0))

  -- the keys that have a value are looked up with it
  module _ (value : K → Option V) (k : K) where
    abbrev value_if : Bool → Option V
    value_if t = cond t (value k) None

    none_whatever : (t : Bool) → value k ≡ None → value_if t ≡ None
    none_whatever true e = e
    none_whatever false e = refl

    value_next : (j : K) (ks : List K) (v : Option V) → value j ≡ v → look_up same (with_values value ks) k ≡ value_if (list_any (same k) ks) →
        look_up same (cons_option (option_map (λ w. (j, w)) v) (with_values value ks)) k ≡ value_if (same k j || list_any (same k) ks)
    value_next j ks None e rest =
        ⊎_elim
        (λ t.
        let z : value k ≡ None = ap value ((tells k j).0 t) ∙ e in
        rest ∙ none_whatever (list_any (same k) ks) z ∙ sym (none_whatever (same k j || list_any (same k) ks) z))
        (λ f. rest ∙ sym (ap (λ s. value_if (s || list_any (same k) ks)) f))
        (cases_Bool (same k j))
    value_next j ks (Some v) e rest =
        ⊎_elim
        (λ t.
        here k (j, v) (with_values value ks) t
        ∙ sym (ap value ((tells k j).0 t) ∙ e)
        ∙ sym (ap (λ s. value_if (s || list_any (same k) ks)) t))
        (λ f. there k (j, v) (with_values value ks) f ∙ rest ∙ sym (ap (λ s. value_if (s || list_any (same k) ks)) f))
        (cases_Bool (same k j))

    pub look_values : (ks : List K) → look_up same (with_values value ks) k ≡ value_if (list_any (same k) ks)
    look_values [] = refl
    look_values (j ∷ ks) = value_next j ks (value j) refl (look_values ks)

  pub values_mem : (value : K → Option V) (ks : List K) (x : K × V) → Mem x (with_values value ks) → Mem x.0 ks × (value x.0 ≡ Some x.1)
  values_mem value [] x m = absurd m
  values_mem value (j ∷ ks) x m =
      ⊎_elim
      (λ z.
      let r = values_mem value ks x (subst (λ v. Mem x (cons_option (option_map (λ w. (j, w)) v) (with_values value ks))) z m) in
      (inr r.0, r.1))
      (λ z.
      ⊎_elim
      (λ e. (inl (ap (λ (y : K × V). y.0) e), ap (λ (y : K × V). value y.0) e ∙ z.1 ∙ sym (ap (λ (y : K × V). Some y.1) e)))
      (λ n. let r = values_mem value ks x n in (inr r.0, r.1))
      (subst (λ v. Mem x (cons_option (option_map (λ w. (j, w)) v) (with_values value ks))) z.1 m))
      (split_option (value j))

  -- what is new to these
  module _ (held : List (K × V)) where
    abbrev skip : K × V → Bool
    skip x = is_some (look_up same held x.0)

    abbrev alike : K × V → K × V → Bool
    alike x y = same x.0 y.0

    abbrev news : List (K × V) → List (K × V) → List (K × V)
    news seen xs = fresh_by alike skip seen xs

    passed : (seen : List (K × V)) (x : K × V) (xs : List (K × V)) → (skip x || list_any (alike x) seen) ≡ true → news seen (x ∷ xs) ≡ news seen xs
    passed seen x xs = chosen_true (skip x || list_any (alike x) seen) _ _

    taken : (seen : List (K × V)) (x : K × V) (xs : List (K × V)) → (skip x || list_any (alike x) seen) ≡ false →
        news seen (x ∷ xs) ≡ x ∷ news (x ∷ seen) xs
    taken seen x xs = chosen_false (skip x || list_any (alike x) seen) _ _

    unseen : (seen : List (K × V)) (k : K) (x : K × V) → k ≡ x.0 → list_any (λ y. same k y.0) seen ≡ false → list_any (alike x) seen ≡ false
    unseen seen k x e n = subst (λ j. list_any (λ (y : K × V). same j y.0) seen ≡ false) e n

    look_news : (xs seen : List (K × V)) (k : K) → look_up same held k ≡ None → list_any (λ (y : K × V). same k y.0) seen ≡ false →
        look_up same (news seen xs) k ≡ look_up same xs k
    look_news [] seen k z n = refl
    look_news (x ∷ xs) seen k z n =
        ⊎_elim
        (λ t.
        let e = (tells k x.0).0 t in
        let free = or_from (skip x) (list_any (alike x) seen) (ap is_some (sym (ap (look_up same held) e) ∙ z)) (unseen seen k x e n) in
        ap (λ l. look_up same l k) (taken seen x xs free) ∙ here k x (news (x ∷ seen) xs) t ∙ sym (here k x xs t))
        (λ f.
        ⊎_elim
        (λ y. ap (λ l. look_up same l k) (passed seen x xs y) ∙ look_news xs seen k z n ∙ sym (there k x xs f))
        (λ y.
        ap (λ l. look_up same l k) (taken seen x xs y)
        ∙ there k x (news (x ∷ seen) xs) f
        ∙ look_news xs (x ∷ seen) k z (or_from (same k x.0) (list_any (λ (y : K × V). same k y.0) seen) f n)
        ∙ sym (there k x xs f))
        (cases_Bool (skip x || list_any (alike x) seen)))
        (cases_Bool (same k x.0))

    -- a key that is not held is looked up in what is new as in what was found
    pub look_new : (xs : List (K × V)) (k : K) → look_up same held k ≡ None → look_up same (new_by same held xs) k ≡ look_up same xs k
    look_new xs k z = look_news xs [] k z refl

    pub look_extended : (xs : List (K × V)) (k : K) →
        look_up same (held ++ new_by same held xs) k ≡ option_or (look_up same held k) (look_up same xs k)
    look_extended xs k =
        look_append held (new_by same held xs) k
        ∙ ⊎_elim
        (λ z. ap (λ v. option_or v (look_up same (new_by same held xs) k)) z ∙ look_new xs k z ∙ sym (ap (λ v. option_or v (look_up same xs k)) z))
        (λ z.
        ap (λ v. option_or v (look_up same (new_by same held xs) k)) z.1 ∙ sym (ap (λ v. option_or v (look_up same xs k)) z.1))
        (split_option (look_up same held k))

    news_mem : (xs seen : List (K × V)) (x : K × V) → Mem x (news seen xs) → Mem x xs
    news_mem [] seen x m = absurd m
    news_mem (y ∷ xs) seen x m =
        ⊎_elim
        (λ t. inr (news_mem xs seen x (subst (λ l. Mem x l) (passed seen y xs t) m)))
        (λ t. ⊎_elim (λ e. inl e) (λ n. inr (news_mem xs (y ∷ seen) x n)) (subst (λ l. Mem x l) (taken seen y xs t) m))
        (cases_Bool (skip y || list_any (alike y) seen))

    pub new_mem : (xs : List (K × V)) (x : K × V) → Mem x (new_by same held xs) → Mem x xs
    new_mem xs = news_mem xs []

    -- the keys of what is new are neither held nor twice in it
    news_keys : (xs seen : List (K × V)) (k : K) → Mem k (keys (news seen xs)) →
        (look_up same held k ≡ None) × (list_any (λ (y : K × V). same k y.0) seen ≡ false)
    news_keys [] seen k m = absurd m
    news_keys (x ∷ xs) seen k m =
        ⊎_elim
        (λ y. news_keys xs seen k (subst (λ l. Mem k (keys l)) (passed seen x xs y) m))
        (λ y.
        let p = or_parts (skip x) (list_any (alike x) seen) y in
        ⊎_elim
        (λ e.
        subst (λ j. (look_up same held j ≡ None) × (list_any (λ (y : K × V). same j y.0) seen ≡ false)) (sym e)
        (is_none_if (look_up same held x.0) p.0, p.1))
        (λ n.
        let r = news_keys xs (x ∷ seen) k n in
        (r.0, (or_parts (same k x.0) (list_any (λ (y : K × V). same k y.0) seen) r.1).1))
        (subst (λ l. Mem k (keys l)) (taken seen x xs y) m))
        (cases_Bool (skip x || list_any (alike x) seen))

    news_once : (xs seen : List (K × V)) → Once (news seen xs)
    news_once [] seen = tt
    news_once (x ∷ xs) seen =
        ⊎_elim
        (λ y. subst (λ l. Once l) (sym (passed seen x xs y)) (news_once xs seen))
        (λ y.
        subst (λ l. Once l) (sym (taken seen x xs y)) (
          λ m.
              let r = news_keys xs (x ∷ seen) x.0 m in
              not_both ((tells x.0 x.0).1 refl) (or_parts (same x.0 x.0) (list_any (λ (y : K × V). same x.0 y.0) seen) r.1).0,
          news_once xs (x ∷ seen),
        ))
        (cases_Bool (skip x || list_any (alike x) seen))

    pub new_unheld : (xs : List (K × V)) (k : K) → Mem k (keys (new_by same held xs)) → look_up same held k ≡ None
    new_unheld xs k m = (news_keys xs [] k m).0

    pub new_once : Once held → (xs : List (K × V)) → Once (held ++ new_by same held xs)
    new_once once xs = go held once (λ k m. λ n. key_held held k m (news_keys xs [] k n).0)
      where
        go : (hs : List (K × V)) → Once hs → ((k : K) → Mem k (keys hs) → Mem k (keys (news [] xs)) → ⊥) → Once (hs ++ news [] xs)
        go [] o apart = news_once xs []
        go (y ∷ hs) o apart = (
          λ m. ⊎_elim o.0 (apart y.0 (inl refl)) (split_keys hs m),
          go hs o.1 (λ k m. apart k (inr m)),
        )
          where
            split_keys : (hs : List (K × V)) → Mem y.0 (keys (hs ++ news [] xs)) → Mem y.0 (keys hs) ⊎ Mem y.0 (keys (news [] xs))
            split_keys [] m = inr m
            split_keys (z ∷ hs) m = ⊎_elim (λ e. inl (inl e)) (λ n. ⊎_elim (λ l. inl (inr l)) (λ r. inr r) (split_keys hs n)) m
