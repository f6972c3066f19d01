-- An accepted call writes as many answers as its lists are long, and no call writes past a buffer.
-- Assumes nothing.
use Rattle.std.proofs.Common.{◌≡◌, ℕ, suc, ◌+◌, ◌≤◌, Bool, true, false, List, [], ◌∷◌, map, length, drop, if◌then◌else◌, Some, None, Option, nat_lt, sym, refl, ap, ◌∙◌, subst, ⊎_elim, arith, length-append, length-drop}
use Rattle.std.proofs.lemmas.Bool.{cases_Bool, ltb-false}
use Rattle.std.proofs.lemmas.List.{length-map}
use Rattle.std.specs.Option.{option_or}
use Rattle.catalog.specs.Catalog.{Catalog}
use Rattle.life.specs.Buffers.{written_over, Answered, resolve_answers, ResolveBufferLaw, BindBufferLaw}
use Rattle.life.specs.Calls.{Declared, Field}
use Rattle.life.specs.HostCalls.{host_resolve, host_bind, meant, meant_type, meant_field, field_name, numbered, first_behind, first_misnamed, early_refusal, unless_early, asked_outcome}
use Rattle.life.specs.Outcomes.{Outcome}
use Rattle.life.specs.Resolve.{Resolves, oids, resolve_outcome, resolve_writes}
use Rattle.life.specs.Rounds.{Descriptors}
use Rattle.life.specs.Run.{perform}
use Rattle.life.specs.Steps.{Book, accepts}
use Rattle.life.specs.Written.{bound_columns, written}
use Rattle.life.proofs.Lists.{not_both}
use Rattle.life.proofs.Resolve.{written_law}

as_many_if : {A : Type 0} (n : ℕ) (answers buffer : List A) → length answers ≡ n → n ≤ length buffer → length (written_over answers buffer) ≡ length buffer
as_many_if n answers buffer e l = omega (arith, length-append answers (drop (length answers) buffer), length-drop (length answers) buffer, e, l)

-- what is answered by a call, as it is done or not
answered : {A : Type 0} (t : Bool) (n : ℕ) (all buffer : List A) → (t ≡ true → length all ≡ n) → (t ≡ true → n ≤ length buffer) →
    Answered (t ≡ true) n (if t then all else []) buffer
answered true n all buffer many room = record {
  as_long = as_many_if n all buffer (many refl) (room refl);
  as_many = many;
  untouched = λ no. absurd (no refl);
}
answered false n all buffer many room = record {
  as_long = refl;
  as_many = λ e. absurd (not_both e refl);
  untouched = λ no. refl;
}

-- a call that is accepted is not refused early
not_early : (b : Book) (fine : Outcome) (r : Option (ℕ × ℕ)) → accepts (unless_early b fine r).ending ≡ true → r ≡ None
not_early b fine None e = refl
not_early b fine (Some r) e = absurd (not_both e refl)

second_none : (x y z : Option (ℕ × ℕ)) → option_or x (option_or y z) ≡ None → y ≡ None
second_none None None z e = refl
second_none None (Some y) z e = e
second_none (Some x) None z e = refl
second_none (Some x) (Some y) z e = absurd cc

no_place : (number : ℕ) (p : Option ℕ) → numbered number p ≡ None → p ≡ None
no_place number None e = refl
no_place number (Some p) e = absurd cc

neither : (x y : Option ℕ) → option_or x y ≡ None → (x ≡ None) × (y ≡ None)
neither None y e = (refl, e)
neither (Some x) y e = absurd cc

none_behind : {A : Type 0} (n i : ℕ) (xs : List A) → first_behind n i xs ≡ None → length xs ≤ n
none_behind n i xs e =
    ⊎_elim
    (λ y. let some : first_behind n i xs ≡ Some (i + n) = rw y refl in absurd cc)
    (λ no. ltb-false n (length xs) no)
    (cases_Bool (nat_lt n (length xs)))

-- one OID for each entry is as many as there are entries
resolves_all : (c : Catalog) (d : Descriptors) (xs : List Declared) (os : List ℕ) → Resolves c d xs os → length os ≡ length xs
resolves_all c d [] [] r = refl
resolves_all c d [] (o ∷ os) r = absurd r
resolves_all c d (x ∷ xs) [] r = absurd r
resolves_all c d (x ∷ xs) (o ∷ os) r = ap suc (resolves_all c d xs os r.1)

bound_all : (b : Book) (i : ℕ) (fs : List Field) → length (bound_columns b i fs) ≡ length fs
bound_all b i [] = refl
bound_all b i (f ∷ fs) = ap suc (bound_all b (suc i) fs)

pub resolve_buffer_law : ResolveBufferLaw
resolve_buffer_law full full_columns host h c b q buffer l slots =
    (answered (accepts o.ending) (length q.entries) all buffer (λ e. resolves_all c o.left.descriptors ds all (right e) ∙ length-map q.entries (meant_type host)) room, λ e. subst (Resolves c o.left.descriptors ds) (sym (chosen e)) (right e))
  where
    ds : List Declared
    ds = map (meant_type host) q.entries

    o : Outcome
    o = asked_outcome full full_columns host c b (host_resolve q)

    all : List ℕ
    all = oids c b o.left.descriptors ds

    chosen : accepts o.ending ≡ true → resolve_answers full full_columns host c b q ≡ all
    chosen e = rw e refl

    early : accepts o.ending ≡ true → early_refusal host (host_resolve q) ≡ None
    early e = not_early b (perform full full_columns c b (meant host (host_resolve q))) (early_refusal host (host_resolve q)) e

    room : accepts o.ending ≡ true → length q.entries ≤ length buffer
    room e = omega (arith, slots, none_behind q.slots 0 q.entries (no_place 2 _ (second_none _ _ _ (early e))))

    right : accepts o.ending ≡ true → Resolves c o.left.descriptors ds all
    right e =
        let r : Outcome = resolve_outcome full c b ds in
        let same : o ≡ r = ap (unless_early b r) (early e) in
        let yes : accepts r.ending ≡ true = subst (λ (x : Outcome). accepts x.ending ≡ true) same e in
        let writes : resolve_writes full c b ds ≡ oids c b r.left.descriptors ds = rw yes refl in
        let w : Resolves c r.left.descriptors ds (oids c b r.left.descriptors ds) =
        subst (Resolves c r.left.descriptors ds) writes (written_law full h c b ds l yes) in
        subst (λ (x : Outcome). Resolves c x.left.descriptors ds (oids c b x.left.descriptors ds)) (sym same) w

pub bind_buffer_law : BindBufferLaw
bind_buffer_law full full_columns host c b q types columns type_slots column_slots = (
  answered (accepts o.ending) (length q.parameters) (map (written o.left) q.parameters) types (λ e. length-map q.parameters (written o.left))
      (λ e. omega (arith, type_slots, none_behind q.parameter_slots 0 q.parameters (room e).0)),
  answered (accepts o.ending) (length q.fields) (bound_columns o.left 0 (map meant_field q.fields)) columns (λ e. bound_all o.left 0 (map meant_field q.fields) ∙ length-map q.fields meant_field)
      (λ e. omega (arith, column_slots, none_behind q.column_slots (length q.parameters) q.fields (room e).1)),
)
  where
    o : Outcome
    o = asked_outcome full full_columns host c b (host_bind q)

    room : accepts o.ending ≡ true → (first_behind q.parameter_slots 0 q.parameters ≡ None) × (first_behind q.column_slots (length q.parameters) q.fields ≡ None)
    room e =
        let early = not_early b (perform full full_columns c b (meant host (host_bind q))) (early_refusal host (host_bind q)) e in
        let n : ℕ = length q.parameters in
        let slots : Option ℕ = option_or (first_behind q.parameter_slots 0 q.parameters) (first_behind q.column_slots n q.fields) in
        let many : Option (ℕ × ℕ) = numbered 1 (option_or (first_behind 256 0 q.parameters) (first_behind 256 n q.fields)) in
        let names : Option (ℕ × ℕ) = numbered 3 (first_misnamed host field_name n q.fields) in
        neither (first_behind q.parameter_slots 0 q.parameters) (first_behind q.column_slots n q.fields)
        (no_place 2 slots (second_none many (numbered 2 slots) names early))
