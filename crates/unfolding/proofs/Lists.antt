-- Lists of numbers, and choices. Assumes nothing.
use Rattle.std.proofs.Common.{◌≡◌, ℕ, suc, ◌≤◌, Bool, true, false, eqb, List, [], ◌∷◌, length, sym, refl, ap, ◌∙◌, subst, inl, inr, ⊎_elim, arith}
use Rattle.std.proofs.lemmas.Bool.{cases_Bool, eqb-true, eq-eqb}
use Rattle.unfolding.specs.Lists.{Mem, Distinct}

without : ℕ → List ℕ → List ℕ
without x [] = []
without x (y ∷ ys) = elim (eqb x y) [ true ↦ ys | false ↦ y ∷ without x ys ]

without-length : (x : ℕ) (ys : List ℕ) → Mem x ys → suc (length (without x ys)) ≡ length ys
unfolding without
without-length x [] m = absurd m
without-length x (y ∷ ys) m =
    ⊎_elim
    (λ t. ap (λ (v : Bool). suc (length (elim v as (λ _. List ℕ) [ true ↦ ys | false ↦ y ∷ without x ys ]))) t)
    (λ f.
    let later : Mem x ys = ⊎_elim (λ e. let t = eq-eqb x y e in absurd cc) (λ k. k) m in
    ap (λ (v : Bool). suc (length (elim v as (λ _. List ℕ) [ true ↦ ys | false ↦ y ∷ without x ys ]))) f ∙ ap suc (without-length x ys later))
    (cases_Bool (eqb x y))

without-mem : (x o : ℕ) (ys : List ℕ) → Mem o ys → (o ≡ x → ⊥) → Mem o (without x ys)
unfolding without
without-mem x o [] m n = absurd m
without-mem x o (y ∷ ys) m n =
    ⊎_elim
    (λ t.
    let later : Mem o ys = ⊎_elim (λ (e : o ≡ y). absurd (n (e ∙ sym (eqb-true x y t)))) (λ k. k) m in
    subst (λ (v : Bool). Mem o (elim v as (λ _. List ℕ) [ true ↦ ys | false ↦ y ∷ without x ys ])) (sym t) later)
    (λ f.
    let there : Mem o (y ∷ without x ys) = ⊎_elim (λ (e : o ≡ y). inl e) (λ k. inr (without-mem x o ys k n)) m in
    subst (λ (v : Bool). Mem o (elim v as (λ _. List ℕ) [ true ↦ ys | false ↦ y ∷ without x ys ])) (sym f) there)
    (cases_Bool (eqb x y))

-- a list without repetition is no longer than one that has all of its entries
pub pigeon : (xs ys : List ℕ) → Distinct xs → ((o : ℕ) → Mem o xs → Mem o ys) → length xs ≤ length ys
pigeon [] ys d h = omega arith
pigeon (x ∷ xs) ys d h =
    let rest = pigeon xs (without x ys) d.1 (λ o m. without-mem x o ys (h o (inr m)) (λ e. d.0 (subst (λ v. Mem v xs) e m))) in
    omega (arith, rest, without-length x ys (h x (inl refl)))
