-- A queue that is cut to its first k places while OIDs are pushed.
-- Assumes nothing.
use Rattle.std.proofs.Common.{◌≡◌, ℕ, ◌+◌, ◌-◌, ◌≤◌, Bool, ◌||◌, List, [], ◌∷◌, ◌++◌, length, take, nat_eq, nat_lt, if◌then◌else◌, sym, refl, ap, ◌∙◌, subst, ⊎_elim, arith, length-append}
use Rattle.std.specs.List.{list_any}
use Rattle.std.proofs.Math.Seq.{take-append-add}
use Rattle.std.proofs.lemmas.Bool.{cases_Bool, cases_lt, ltb-true, ltb-false}
use Rattle.std.proofs.lemmas.Bool.Decides.{Decides-eqb}
use Rattle.std.proofs.lemmas.List.{take-append-le, take_all, length-take-le}
use Rattle.life.specs.Lists.{fresh, push_all, push_new}
use Rattle.life.proofs.Fresh.{pushed}
use Rattle.life.proofs.Lists.{chosen_true, chosen_false}
use Rattle.finds.specs.Finds.{pushed as pushed_one}
use Rattle.resolve.specs.Rounds.{with_all}

module _ (skip : ℕ → Bool) where
  abbrev all : List ℕ → List ℕ → List ℕ
  all queue os = push_all nat_eq skip queue os

  pub longer : (os queue : List ℕ) → all queue os ≡ queue ++ fresh skip queue os
  longer os queue = pushed nat_eq Decides-eqb skip os queue

  all_append : (os ps queue : List ℕ) → all queue (os ++ ps) ≡ all (all queue os) ps
  all_append [] ps queue = refl
  all_append (o ∷ os) ps queue = all_append os ps (push_new nat_eq skip queue o)

  -- what is pushed behind the first k does not count
  front : (k : ℕ) (os queue : List ℕ) → k ≤ length queue → take k (all queue os) ≡ take k queue
  front k os queue enough = ap (take k) (longer os queue) ∙ take-append-le k queue (fresh skip queue os) enough

  cut : (k : ℕ) (os queue : List ℕ) → take k (all (take k queue) os) ≡ take k (all queue os)
  cut k os queue =
      ⊎_elim
      (λ less. ap (λ q. take k (all q os)) (take_all k queue (omega arith)))
      (λ more.
      front k os (take k queue) (omega (arith, length-take-le k queue more))
      ∙ take_all k (take k queue) (omega (arith, length-take-le k queue more))
      ∙ sym (front k os queue more))
      (cases_lt (length queue) k)

  -- one after the other
  pub with_both : (os ps queue : List ℕ) → with_all skip (with_all skip queue os) ps ≡ with_all skip queue (os ++ ps)
  with_both os ps queue = cut 257 ps (all queue os) ∙ sym (ap (take 257) (all_append os ps queue))

  new_few : (queue : List ℕ) (o : ℕ) → length (push_new nat_eq skip queue o) ≤ length queue + 1
  new_few queue o =
      ⊎_elim
      (λ y. subst (λ (q : List ℕ). length q ≤ length queue + 1) (sym (chosen_true (skip o || list_any (nat_eq o) queue) queue (queue ++ o ∷ []) y)) (omega arith))
      (λ n. subst (λ (q : List ℕ). length q ≤ length queue + 1) (sym (chosen_false (skip o || list_any (nat_eq o) queue) queue (queue ++ o ∷ []) n)) (omega (arith, length-append queue (o ∷ []))))
      (cases_Bool (skip o || list_any (nat_eq o) queue))

  pub with_one : (queue : List ℕ) (o : ℕ) → length queue ≤ 257 → pushed_one skip queue o ≡ with_all skip queue (o ∷ [])
  with_one queue o few =
      ⊎_elim
      (λ y.
      ap (λ (t : Bool). if t then push_new nat_eq skip queue o else queue) y
      ∙ sym (take_all 257 (push_new nat_eq skip queue o) (omega (arith, new_few queue o, ltb-true (length queue) 257 y))))
      (λ n.
      ap (λ (t : Bool). if t then push_new nat_eq skip queue o else queue) n
      ∙ sym (front 257 (o ∷ []) queue (ltb-false (length queue) 257 n) ∙ take_all 257 queue few))
      (cases_Bool (nat_lt (length queue) 257))

  pub with_none : (queue : List ℕ) → length queue ≤ 257 → with_all skip queue [] ≡ queue
  with_none queue few = take_all 257 queue few

  -- what stands stays in front
  pub with_behind : (os queue : List ℕ) → length queue ≤ 257 → with_all skip queue os ≡ queue ++ take (257 - length queue) (fresh skip queue os)
  with_behind os queue few =
      let all_places : 257 ≡ length queue + (257 - length queue) = omega arith in
      ap (take 257) (longer os queue)
      ∙ ap (λ k. take k (queue ++ fresh skip queue os)) all_places
      ∙ take-append-add queue (fresh skip queue os) (257 - length queue)
