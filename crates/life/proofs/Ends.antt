-- A walk ends exactly where it is orderly, and stops at its first offence.
-- Assumes nothing.
use Rattle.std.proofs.Common.{◌≡◌, ℕ, suc, ◌+◌, ◌<◌, true, ◌⊎◌, List, ◌∷◌, length, sym, refl, ap, ◌∙◌, subst, inl, inr, ⊎_elim, arith, length-append}
use Rattle.catalog.specs.Catalog.{Catalog}
use Rattle.unfolding.specs.Lists.{Mem}
use Rattle.unfolding.proofs.Lists.{pigeon}
use Rattle.life.specs.Rounds.{Descriptors, Stands}
use Rattle.life.specs.Stops.{standing, earlier, Orderly, Needed, Offence, EndsLaw, StopsLaw}
use Rattle.life.specs.Walk.{malformed, Walked, ended, stopped, walk_from}
use Rattle.life.proofs.Lists.{not_both, mem_right}
use Rattle.life.proofs.Standing.{layer_stands, earlier_stands, earlier_distinct}
use Rattle.life.proofs.Walk.{Result, ended_counts, ended_reads, walk_result, last_once}

module _ (c : Catalog) (b : Descriptors) (rs : List ℕ) (extra : ℕ) where
  -- what an offence shows of the rounds
  abbrev pub Shows : Type 0
  Shows =
      ((o : ℕ) × Stands c b rs 65 o) ⊎
      (((o : ℕ) × Stands c b rs (suc c.allowance) o) ⊎
      (((k : ℕ) × (256 < extra + length (earlier c b rs k))) ⊎
      ((k o : ℕ) × Stands c b rs k o × (malformed c o ≡ true))))

  stands_on : (k : ℕ) → Needed c b rs extra k → (o : ℕ) × Stands c b rs (suc k) o
  stands_on k d = (d.1.0, layer_stands c b rs k d.1.0 d.1.1)

  pub shows : (n p r : ℕ) → Offence c b rs extra n p r → Shows
  shows n p r =
      ⊎_elim
      (λ x. inl (subst (λ k. (o : ℕ) × Stands c b rs (suc k) o) x.2 (stands_on r x.3)))
      (⊎_elim
      (λ x. inr (inl (subst (λ k. (o : ℕ) × Stands c b rs (suc k) o) x.2 (stands_on r x.4))))
      (λ x.
      let s = x.6 in
      ⊎_elim
      (λ y.
      let long : length (standing c b rs x.0) ≡ length s.before + suc (length s.behind) = ap length s.here ∙ length-append s.before (s.asked ∷ s.behind) in
      inr (inr (inl (suc x.0, omega (arith, x.5.asked, y.1, long, length-append (earlier c b rs x.0) (standing c b rs x.0))))))
      (λ y.
      let here : Mem s.asked (standing c b rs x.0) = subst (Mem s.asked) (sym s.here) (mem_right s.asked s.before (s.asked ∷ s.behind) (inl refl)) in
      inr (inr (inr (suc x.0, s.asked, layer_stands c b rs x.0 s.asked here, y.2))))
      s.why))

module _ (c : Catalog) (b : Descriptors) (rs : List ℕ) (n : ℕ) where
  ends_if : (w : Walked) → Result c b rs ⊥ 0 w → Orderly c b rs n → (reads : List ℕ) × (w ≡ ended n reads)
  ends_if (ended m reads) r o = (reads, ap (λ i. ended i reads) (last_once c b rs ⊥ m n (ended_counts c b rs ⊥ 0 m reads r.0) o.last))
  ends_if (stopped number p k) r o =
      absurd
      (⊎_elim
      (λ x. omega (arith, o.last.0 65 (inr x), o.rounds))
      (⊎_elim
      (λ x. omega (arith, o.last.0 (suc c.allowance) (inr x), o.allowed))
      (⊎_elim
      (λ x. omega (arith, x.1, o.few (earlier c b rs x.0) (earlier_distinct c b rs x.0) (earlier_stands c b rs x.0)))
      (λ x. not_both x.3 (o.sane x.0 x.1 x.2))))
      (shows c b rs 0 number p k r.0))

  ends_only : (w : Walked) (reads : List ℕ) → w ≡ ended n reads → Result c b rs ⊥ 0 w → Orderly c b rs n
  ends_only w reads e r =
      let h = subst (Result c b rs ⊥ 0) e r in
      let are = ended_reads c b rs ⊥ 0 n reads h.0 in
      record {
        last = ended_counts c b rs ⊥ 0 n reads h.0;
        rounds = h.1;
        allowed = h.2;
        sane = λ k o s. h.0.sane o ((are o).1 (k, s));
        few = λ os d all. omega (arith, pigeon os reads d (λ o m. (are o).1 (all o m)), h.0.few);
      }

pub ends_law : EndsLaw
ends_law c b rs n = (
  λ x. ends_only c b rs n (walk_from c b rs) x.0 x.1 (walk_result c b rs),
  λ o. ends_if c b rs n (walk_from c b rs) (walk_result c b rs) o,
)

pub stops_law : StopsLaw
stops_law c b rs n p r e = (subst (Result c b rs ⊥ 0) e (walk_result c b rs)).0
