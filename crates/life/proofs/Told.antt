-- Every refusal of a call is one of the table: its number, its place, its rounds and its layer.
-- Assumes nothing.
use Rattle.std.proofs.Common.{◌≡◌, ℕ, zero, suc, ◌+◌, ◌-◌, ◌≤◌, Bool, true, false, ◌||◌, ◌⊎◌, List, [], ◌∷◌, ◌++◌, map, Some, None, Option, sym, refl, ap, subst, inl, inr, ⊎_elim, arith}
use Rattle.std.proofs.lemmas.Bool.{cases_Bool}
use Rattle.std.specs.List.{list_any}
use Rattle.catalog.specs.Catalog.{Catalog}
use Rattle.catalog.specs.declared.faults.Layer.{Layer}
use Rattle.catalog.specs.declared.faults.Layer.TheVariants as layer
use Rattle.catalog.specs.declared.faults.Told.{Told}
use Rattle.keys.specs.Senses.{Pair}
use Rattle.life.specs.Bind.{column_questions, types_book, columns_book, column_round, types_settled}
use Rattle.life.specs.Calls.{Declared, Binding, fill, resolve, bind, requests}
use Rattle.life.specs.HostCalls.{ResolveAsked, BindAsked, HostCall, host_fill, host_resolve, host_bind, host_describe, meant, meant_type, meant_field, numbered, early_refusal, unless_early, first_behind, asked_outcome}
use Rattle.life.specs.Lists.{fresh, first_place}
use Rattle.life.specs.Outcomes.{Outcome, refusal, fitted, if_fits, concluded, closing, unresolved}
use Rattle.life.specs.Resolve.{offends, lacks}
use Rattle.life.specs.RoundOne.{Question, asked_oid, asked_in_full, refusable, any_question, asks_name, round_one, first_opened, resolve_walk}
use Rattle.life.specs.Run.{perform}
use Rattle.life.specs.Settle.{settled}
use Rattle.life.specs.Steps.{Book, Ending, accepted, refused}
use Rattle.life.specs.Told.{layer_of, told_of, Listed, MayTell, MayLayer, ToldLaw}
use Rattle.life.specs.Walk.{answered, links_of, malformed, Asked, all_read, stop, ask_each, ask, Walked, ended, stopped, and_then, walk, walk_from}
use Rattle.life.proofs.HostCalls.{early_number}
use Rattle.life.proofs.Lists.{same_some, not_some_none, split_option, chosen_true, chosen_false}

-- the numbers of a refusal within the type rounds, with what place and rounds they have
abbrev pub Within : (number place rounds : ℕ) → Type 0
Within n p r = ((n ≡ 4) × (p ≡ 65) × (r ≡ 64)) ⊎ (((n ≡ 5) × (p ≡ suc r)) ⊎ ((n ≡ 6) ⊎ (n ≡ 7)))

abbrev AskTold : Asked → Type 0
AskTold (all_read left) = Unit {0}
AskTold (stop n p) = (n ≡ 6) ⊎ (n ≡ 7)

abbrev pub WalkTold : Walked → Type 0
WalkTold (ended n reads) = Unit {0}
WalkTold (stopped n p r) = Within n p r

ask_told : {Q : Type 0} (oid : Q → ℕ) (bad : Q → Bool) (left : ℕ) (qs : List Q) → AskTold (ask_each oid bad left qs)
ask_told oid bad left [] = tt
ask_told oid bad zero (q ∷ qs) = inr refl
ask_told oid bad (suc left) (q ∷ qs) =
    ⊎_elim
    (λ y. subst AskTold (sym (chosen_true (bad q) (stop 6 (oid q)) (ask_each oid bad left qs) y)) (inl refl))
    (λ n. subst AskTold (sym (chosen_false (bad q) (stop 6 (oid q)) (ask_each oid bad left qs) n)) (ask_told oid bad left qs))
    (cases_Bool (bad q))

then_told : (a : Asked) (rounds : ℕ) (next : ℕ → Walked) → AskTold a → ((left : ℕ) → WalkTold (next left)) → WalkTold (and_then a rounds next)
then_told (all_read left) rounds next t f = f left
then_told (stop n p) rounds next t f = inr (inr t)

walk_told : (c : Catalog) (skip : ℕ → Bool) (fuel opened left allowance : ℕ) (now seen : List ℕ) → fuel + opened ≡ 64 →
    WalkTold (walk c skip fuel opened left allowance now seen)
walk_told c skip zero opened left allowance [] seen e = tt
walk_told c skip zero opened left allowance (o ∷ os) seen e = inl (refl, omega (arith, e), omega (arith, e))
walk_told c skip (suc fuel) opened left allowance [] seen e = tt
walk_told c skip (suc fuel) opened left zero (o ∷ os) seen e = inr (inl (refl, refl))
walk_told c skip (suc fuel) opened left (suc allowance) (o ∷ os) seen e =
    then_told (ask c left (o ∷ os)) (suc opened) _ (ask_told (λ p. p) (malformed c) left (o ∷ os))
    (λ rest.
    walk_told c skip fuel (suc opened) rest allowance (fresh skip (seen ++ (o ∷ os)) (links_of c (o ∷ os))) (seen ++ (o ∷ os)) (omega (arith, e)))

pub oids_told : (c : Catalog) (b : Book) (rs : List ℕ) → WalkTold (walk_from c b.descriptors rs)
oids_told c b rs = walk_told c (answered b.descriptors) 64 0 256 c.allowance (fresh (answered b.descriptors) [] rs) [] refl

pub resolve_told : (c : Catalog) (b : Book) (ds : List Declared) → WalkTold (resolve_walk c b ds)
resolve_told c b ds =
    ⊎_elim (λ y. subst WalkTold (sym (chosen_true test opened (ended 0 []) y)) (first c.allowance)) (λ n. subst WalkTold (sym (chosen_false test opened (ended 0 []) n)) tt)
    (cases_Bool test)
  where
    qs : List Question
    qs = round_one c b ds

    opened : Walked
    opened = first_opened c b c.allowance qs

    test : Bool
    test = list_any (asks_name c b) ds || any_question qs

    first : (allowance : ℕ) → WalkTold (first_opened c b allowance qs)
    first zero = inr (inl (refl, refl))
    first (suc allowance) =
        then_told (ask_each asked_oid (refusable c) 256 qs) 1 _ (ask_told asked_oid (refusable c) 256 qs)
        (λ rest. walk_told c (answered b.descriptors) 63 1 rest allowance _ (asked_in_full qs) refl)

-- the ending is as the table has it, for this call
abbrev Right : HostCall → Ending → Type 0
Right call (accepted types columns) = Unit {0}
Right call (refused n p columns r) = Listed (layer_of n columns) n p r × MayTell call n × MayLayer call (layer_of n columns)

fill_apart : layer.Fill ≡ layer.Columns → ⊥
fill_apart e = absurd cc

catalog_apart : layer.Catalog ≡ layer.Columns → ⊥
catalog_apart e = absurd cc

call_apart : layer.Call ≡ layer.Columns → ⊥
call_apart e = absurd cc

at : (call : HostCall) (n k p r : ℕ) (columns : Bool) → n ≡ k → Right call (refused k p columns r) → Right call (refused n p columns r)
at call n k p r columns e = subst (λ m. Right call (refused m p columns r)) (sym e)

-- of a call that may be refused by 4 to 9
module _ (call : HostCall) (may : (k : ℕ) → 4 ≤ k → k ≤ 9 → MayTell call k) (of_layer : (l : Layer) → (l ≡ layer.Columns → ⊥) → MayLayer call l) where
  eight : (b : Book) (table n : ℕ) → Right call (refusal b 8 table n).ending
  eight b table n = (inr (inr (inr (inl refl))), may 8 (omega arith) (omega arith), of_layer layer.Fill fill_apart)

  nine : (place n : ℕ) → Right call (refused 9 place false n)
  nine place n = (inr (inr (inr (inr refl))), may 9 (omega arith) (omega arith), of_layer layer.Fill fill_apart)

  within : (n p r : ℕ) → Within n p r → Right call (refused n p false r)
  within n p r (inl h) = at call n 4 p r false h.0 (inl (refl, h.1, h.2), may 4 (omega arith) (omega arith), of_layer layer.Fill fill_apart)
  within n p r (inr (inl h)) = at call n 5 p r false h.0 ((refl, h.1), may 5 (omega arith) (omega arith), of_layer layer.Catalog catalog_apart)
  within n p r (inr (inr (inl h))) = at call n 6 p r false h (inr (inl refl), may 6 (omega arith) (omega arith), of_layer layer.Fill fill_apart)
  within n p r (inr (inr (inr h))) = at call n 7 p r false h (inr (inr (inl refl)), may 7 (omega arith) (omega arith), of_layer layer.Fill fill_apart)

  fits : (f : Option ℕ) (fine : Outcome) (b : Book) (n : ℕ) → Right call fine.ending → Right call (if_fits f fine b n).ending
  fits None fine b n g = g
  fits (Some table) fine b n g = eight b table n

  concludes : (b : Book) (next : ℕ → List ℕ → Outcome) → ((n : ℕ) (reads : List ℕ) → Right call (next n reads).ending) →
      (w : Walked) → WalkTold w → Right call (concluded b next w).ending
  concludes b next g (ended n reads) t = g n reads
  concludes b next g (stopped n p r) t = within n p r t

module _ (full full_columns : Book → Option ℕ) (c : Catalog) (b : Book) where
  fill_right : (os : List ℕ) → Right (host_fill os) (perform full full_columns c b (fill os)).ending
  fill_right os =
      concludes call may of_layer b _
      (λ n reads. fits call may of_layer _ _ b n (closes n (first_place (unresolved c (settled c b.descriptors reads)) 0 os)))
      (walk_from c b.descriptors os) (oids_told c b os)
    where
      call : HostCall
      call = host_fill os

      may : (k : ℕ) → 4 ≤ k → k ≤ 9 → MayTell call k
      may k x y = inr (x, y)

      of_layer : (l : Layer) → (l ≡ layer.Columns → ⊥) → MayLayer call l
      of_layer l x = x

      closes : (n : ℕ) (x : Option ℕ) → Right call (closing n x None)
      closes n None = tt
      closes n (Some place) = nine call may of_layer place n

  resolve_right : (q : ResolveAsked) (ds : List Declared) → Right (host_resolve q) (perform full full_columns c b (resolve ds)).ending
  resolve_right q ds =
      concludes call may of_layer b _
      (λ n reads.
      fits call may of_layer _ _ b n
      (closes n (first_place (offends c b (settled c b.descriptors reads)) 0 ds) (first_place (lacks c b (settled c b.descriptors reads)) 0 ds)))
      (resolve_walk c b ds) (resolve_told c b ds)
    where
      call : HostCall
      call = host_resolve q

      may : (k : ℕ) → 4 ≤ k → k ≤ 9 → MayTell call k
      may k x y = (omega (arith, x), omega (arith, y))

      of_layer : (l : Layer) → (l ≡ layer.Columns → ⊥) → MayLayer call l
      of_layer l x = x

      closes : (n : ℕ) (x y : Option ℕ) → Right call (closing n x y)
      closes n None None = tt
      closes n None (Some place) = (inr refl, (omega arith, omega arith), call_apart)
      closes n (Some place) y = nine call may of_layer place n

  bind_right : (q : BindAsked) (g : Binding) → Right (host_bind q) (perform full full_columns c b (bind g)).ending
  bind_right q g =
      concludes call may of_layer b _
      (λ n reads.
      fits call may of_layer _ _ b n (settles n reads (first_place (unresolved c (settled c b.descriptors reads)) 0 (requests c (bind g)))))
      (walk_from c b.descriptors (requests c (bind g))) (oids_told c b (requests c (bind g)))
    where
      call : HostCall
      call = host_bind q

      may : (k : ℕ) → 4 ≤ k → k ≤ 9 → MayTell call k
      may k x y = (omega (arith, x), y)

      of_layer : (l : Layer) → (l ≡ layer.Columns → ⊥) → MayLayer call l
      of_layer l x = tt

      columns_fit : (f : Option ℕ) (fine left : Outcome) (n : ℕ) → Right call fine.ending →
          Right call (fitted f fine (λ table. record { ending = refused 8 table true (suc n); left = left.left })).ending
      columns_fit None fine left n r = r
      columns_fit (Some table) fine left n r = (inr refl, (omega arith, omega arith), tt)

      round : (n : ℕ) (reads : List ℕ) (left : ℕ) (ps : List Pair) → Right call (column_round full full_columns c b g n reads left ps).ending
      round n reads left [] = tt
      round n reads zero (p ∷ ps) = (inl (refl, refl), (omega arith, omega arith), tt)
      round n reads (suc left) (p ∷ ps) =
          columns_fit (full_columns (columns_book full full_columns c b g reads (p ∷ ps))) _
          (record { ending = accepted 0 0; left = types_book full full_columns c b g reads }) n tt

      settles : (n : ℕ) (reads : List ℕ) (x : Option ℕ) → Right call (types_settled full full_columns c b g n reads x).ending
      settles n reads None = round n reads (c.allowance - n) (column_questions b g)
      settles n reads (Some place) = nine call may of_layer place n

  performed_right : (host : List ℕ) (call : HostCall) → Right call (perform full full_columns c b (meant host call)).ending
  performed_right host (host_fill os) = fill_right os
  performed_right host (host_resolve q) = resolve_right q (map (meant_type host) q.entries)
  performed_right host (host_bind q) =
      bind_right q (record { parameters = q.parameters; fields = map meant_field q.fields; queries = q.queries; origins = q.origins })
  performed_right host (host_describe o) = tt

-- refusals 1 to 3
early_right : (host : List ℕ) (b : Book) (call : HostCall) (r : ℕ × ℕ) → early_refusal host call ≡ Some r → Right call (refusal b r.0 r.1 0).ending
early_right host b call r e = by_call call e
  where
    number : (r.0 ≡ 1) ⊎ ((r.0 ≡ 2) ⊎ (r.0 ≡ 3))
    number = early_number host call r e

    listed : (m : HostCall) → MayTell m r.0 → ((l : Layer) → (l ≡ layer.Columns → ⊥) → MayLayer m l) → Right m (refusal b r.0 r.1 0).ending
    listed m may of_layer =
        ⊎_elim
        (λ x. at m r.0 1 r.1 0 false x (inl (inl refl, refl), subst (MayTell m) x may, of_layer layer.Call call_apart))
        (⊎_elim
        (λ x. at m r.0 2 r.1 0 false x (inl (inr (inl refl), refl), subst (MayTell m) x may, of_layer layer.Call call_apart))
        (λ x. at m r.0 3 r.1 0 false x (inl (inr (inr refl), refl), subst (MayTell m) x may, of_layer layer.Call call_apart)))
        number

    first_alone : (x : Option ℕ) → numbered 1 x ≡ Some r → r.0 ≡ 1
    first_alone None x = absurd (not_some_none r x refl)
    first_alone (Some p) x = sym (ap (λ v. v.0) (same_some refl x))

    by_call : (m : HostCall) → early_refusal host m ≡ Some r → Right m (refusal b r.0 r.1 0).ending
    by_call (host_fill os) x = listed (host_fill os) (inl (first_alone (first_behind 256 0 os) x)) (λ l y. y)
    by_call (host_resolve q) x = listed (host_resolve q) (omega (arith, number), omega (arith, number)) (λ l y. y)
    by_call (host_bind q) x = listed (host_bind q) (omega (arith, number), omega (arith, number)) (λ l y. tt)
    by_call (host_describe o) x = absurd (not_some_none r x refl)

asked_right : (full full_columns : Book → Option ℕ) (host : List ℕ) (c : Catalog) (b : Book) (call : HostCall) →
    Right call (asked_outcome full full_columns host c b call).ending
asked_right full full_columns host c b call =
    ⊎_elim
    (λ e. subst Ends (sym e) (performed_right full full_columns c b host call))
    (λ z. subst Ends (sym z.1) (early_right host b call z.0 z.1))
    (split_option (early_refusal host call))
  where
    Ends : Option (ℕ × ℕ) → Type 0
    Ends r = Right call (unless_early b (perform full full_columns c b (meant host call)) r).ending

told_right : (call : HostCall) (e : Ending) → Right call e → (t : Told) → told_of e ≡ Some t →
    Listed t.layer t.number t.place t.rounds × MayTell call t.number × MayLayer call t.layer
told_right call (accepted types columns) g t x = absurd (not_some_none t x refl)
told_right call (refused n p columns r) g t x =
    subst (λ (u : Told). Listed u.layer u.number u.place u.rounds × MayTell call u.number × MayLayer call u.layer) (same_some refl x) g

pub told_law : ToldLaw
told_law full full_columns host c b call = told_right call (asked_outcome full full_columns host c b call).ending (asked_right full full_columns host c b call)
