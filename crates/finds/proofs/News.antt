-- What is new to entries that are held, entry by entry.
-- Assumes nothing.
use Rattle.std.proofs.Common.{◌≡◌, Bool, true, false, cond, ◌||◌, ◌↔◌, List, [], ◌∷◌, ◌++◌, is_some, Some, None, Decides, Option, sym, refl, ap, ◌∙◌, subst, inl, inr, ⊎_elim, append-nil, append_assoc}
use Rattle.std.proofs.lemmas.Bool.{cases_Bool, cond-true, or_from, or_left}
use Rattle.std.specs.List.{list_any}
use Rattle.std.specs.Option.{option_or}
use Rattle.unfolding.specs.Lists.{Mem}
use Rattle.life.specs.Lists.{fresh_by}
use Rattle.life.proofs.Lists.{chosen_false, chosen_true, is_none_if, mem_tells, not_some_none}
use Rattle.room.specs.Added.{Once, new_by, with_values}
use Rattle.room.specs.Tables.{look_up}
use Rattle.room.proofs.LookUp.{keys, look_append, look_mem, look_new, look_values, mem_key, mem_look, new_mem, new_unheld, values_mem}

same_option : {A : Type 0} (x y : Option A) → ((a : A) → x ≡ Some a → y ≡ Some a) → ((a : A) → y ≡ Some a → x ≡ Some a) → x ≡ y
same_option None None f g = refl
same_option None (Some b) f g = g b refl
same_option (Some a) y f g = sym (f a refl)

pub or_put : (x y u v : Bool) → (x || u) ≡ (y || v) → (b : Bool) → (x || (b || u)) ≡ (y || (b || v))
or_put x y u v e false = e
or_put true true u v e true = refl
or_put true false u v e true = refl
or_put false true u v e true = refl
or_put false false u v e true = refl

some_or : {V : Type 0} (x : Option V) (t : Bool) (v : V) → (is_some x || (t || false)) ≡ (is_some (option_or x (cond t (Some v) None)) || false)
some_or None true v = refl
some_or None false v = refl
some_or (Some w) true v = refl
some_or (Some w) false v = refl

module _ {K V : Type 0} (same : K → K → Bool) (tells : (x y : K) → Decides (same x y) (x ≡ y)) where
  -- the key is held or seen
  abbrev met : List (K × V) → List (K × V) → K → Bool
  met held seen k = is_some (look_up same held k) || list_any (λ (y : K × V). same k y.0) seen

  abbrev news : List (K × V) → List (K × V) → List (K × V) → List (K × V)
  news held seen xs = fresh_by (λ x y. same x.0 y.0) (λ x. is_some (look_up same held x.0)) seen xs

  passed : (held seen : List (K × V)) (x : K × V) (xs : List (K × V)) → met held seen x.0 ≡ true → news held seen (x ∷ xs) ≡ news held seen xs
  passed held seen x xs = chosen_true (met held seen x.0) _ _

  taken : (held seen : List (K × V)) (x : K × V) (xs : List (K × V)) → met held seen x.0 ≡ false → news held seen (x ∷ xs) ≡ x ∷ news held (x ∷ seen) xs
  taken held seen x xs = chosen_false (met held seen x.0) _ _

  -- what is new depends on which keys are met alone
  news_alike : (xs held seen held' seen' : List (K × V)) → ((k : K) → Mem k (keys xs) → met held seen k ≡ met held' seen' k) → news held seen xs ≡ news held' seen' xs
  news_alike [] held seen held' seen' e = refl
  news_alike (x ∷ xs) held seen held' seen' e =
      let here = e x.0 (inl refl) in
      ⊎_elim
      (λ t. passed held seen x xs t ∙ news_alike xs held seen held' seen' (λ k m. e k (inr m)) ∙ sym (passed held' seen' x xs (sym here ∙ t)))
      (λ n.
      taken held seen x xs n
      ∙ ap (λ l. x ∷ l) (news_alike xs held (x ∷ seen) held' (x ∷ seen') (λ k m. or_put _ _ _ _ (e k (inr m)) (same k x.0)))
      ∙ sym (taken held' seen' x xs (sym here ∙ n)))
      (cases_Bool (met held seen x.0))

  module _ (held : List (K × V)) (x : K × V) (xs : List (K × V)) where
    pub new_held : is_some (look_up same held x.0) ≡ true → new_by same held (x ∷ xs) ≡ new_by same held xs
    new_held e = passed held [] x xs (or_left (is_some (look_up same held x.0)) false e)

    module _ (new : is_some (look_up same held x.0) ≡ false) where
      first : new_by same held (x ∷ xs) ≡ x ∷ news held (x ∷ []) xs
      first = taken held [] x xs (or_from (is_some (look_up same held x.0)) false new refl)

      -- where it is new, it may be held before the others are looked at
      pub new_one : new_by same held (x ∷ xs) ≡ x ∷ new_by same (held ++ x ∷ []) xs
      new_one =
          first
          ∙ ap (λ l. x ∷ l)
          (news_alike xs held (x ∷ []) (held ++ x ∷ []) []
          (λ k m. some_or (look_up same held k) (same k x.0) x.1 ∙ ap (λ v. is_some v || false) (sym (look_append same tells held (x ∷ []) k))))

      -- and where none of the others has its key, it may be left out
      pub new_apart : (Mem x.0 (keys xs) → ⊥) → new_by same held (x ∷ xs) ≡ x ∷ new_by same held xs
      new_apart apart =
          first
          ∙ ap (λ l. x ∷ l)
          (news_alike xs held (x ∷ []) held []
          (λ k m. ap (λ v. is_some (look_up same held k) || (v || false)) (other k m)))
        where
          other : (k : K) → Mem k (keys xs) → same k x.0 ≡ false
          other k m = ⊎_elim (λ t. absurd (apart (subst (λ j. Mem j (keys xs)) ((tells k x.0).0 t) m))) (λ n. n) (cases_Bool (same k x.0))

  -- what is new goes by which keys are held
  pub new_alike : (held held' xs : List (K × V)) → ((k : K) → Mem k (keys xs) → is_some (look_up same held k) ≡ is_some (look_up same held' k)) →
      new_by same held xs ≡ new_by same held' xs
  new_alike held held' xs e = news_alike xs held [] held' [] (λ k m. ap (λ v. v || false) (e k m))

  -- the first of two lists may be held before the second is looked at
  pub new_append : (xs ys held : List (K × V)) → new_by same held (xs ++ ys) ≡ new_by same held xs ++ new_by same (held ++ new_by same held xs) ys
  new_append [] ys held = ap (λ l. new_by same l ys) (sym (append-nil held))
  new_append (x ∷ xs) ys held =
      let more = held ++ x ∷ [] in
      let rest = new_by same more xs in
      ⊎_elim
      (λ t. new_held held x (xs ++ ys) t ∙ new_append xs ys held ∙ ap (λ l. l ++ new_by same (held ++ l) ys) (sym (new_held held x xs t)))
      (λ n.
      new_one held x (xs ++ ys) n
      ∙ ap (λ l. x ∷ l) (new_append xs ys more)
      ∙ ap (λ l. x ∷ (rest ++ new_by same l ys)) (append_assoc held (x ∷ []) rest)
      ∙ ap (λ l. l ++ new_by same (held ++ l) ys) (sym (new_one held x xs n)))
      (cases_Bool (is_some (look_up same held x.0)))

  -- it has each key once
  pub new_alone : (xs held : List (K × V)) → Once (new_by same held xs)
  new_alone [] held = tt
  new_alone (x ∷ xs) held =
      ⊎_elim
      (λ t. subst (λ l. Once l) (sym (new_held held x xs t)) (new_alone xs held))
      (λ n.
      subst (λ l. Once l) (sym (new_one held x xs n)) (
        λ m. not_some_none x.1 (there n) (new_unheld same tells (held ++ x ∷ []) xs x.0 m),
        new_alone xs (held ++ x ∷ []),
      ))
      (cases_Bool (is_some (look_up same held x.0)))
    where
      there : is_some (look_up same held x.0) ≡ false → look_up same (held ++ x ∷ []) x.0 ≡ Some x.1
      there n =
          look_append same tells held (x ∷ []) x.0
          ∙ (λ i. option_or (is_none_if (look_up same held x.0) n i) (cond-true (same x.0 x.0) (Some x.1) None ((tells x.0 x.0).1 refl) i))

  -- of keys with a value it has those that are not held
  module _ (held : List (K × V)) (value : K → Option V) (ks : List K) (x : K × V) where
    abbrev pub NewEntry : Type 0
    NewEntry = (look_up same held x.0 ≡ None) × Mem x.0 ks × (value x.0 ≡ Some x.1)

    pub new_members : Mem x (new_by same held (with_values value ks)) ↔ NewEntry
    new_members = (
      λ m.
          let v = values_mem same tells value ks x (new_mem same tells held (with_values value ks) x m) in
          (new_unheld same tells held (with_values value ks) x.0 (mem_key same tells (new_by same held (with_values value ks)) x m), v.0, v.1),
      λ n.
          look_mem same tells (new_by same held (with_values value ks)) x.0 x.1
          (look_new same tells held (with_values value ks) x.0 n.0
          ∙ look_values same tells value x.0 ks
          ∙ cond-true (list_any (same x.0) ks) (value x.0) None ((mem_tells same tells x.0 ks).1 n.1)
          ∙ n.2),
    )

  -- entries with each key once that have the same members lead to the same
  pub look_alike : (xs ys : List (K × V)) → Once xs → Once ys → ((x : K × V) → Mem x xs ↔ Mem x ys) → (k : K) → look_up same xs k ≡ look_up same ys k
  look_alike xs ys o p e k =
      same_option (look_up same xs k) (look_up same ys k)
      (λ v l. mem_look same tells ys p k v ((e (k, v)).0 (look_mem same tells xs k v l)))
      (λ v l. mem_look same tells xs o k v ((e (k, v)).1 (look_mem same tells ys k v l)))
