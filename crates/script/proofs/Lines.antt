-- A line or a word and what follows it.
use Rattle.std.proofs.Common.{◌≡◌, ℕ, zero, suc, ◌≤◌, ◌<◌, List, [], ◌∷◌, ◌++◌, length, get_or, take, drop, refl, arith}
use Rattle.std.proofs.lemmas.Bool.{eq-eqb, ne_eqb}
use Rattle.script.specs.Words.{Absent, joined, lines, words}

-- a byte that a list has not is none of its bytes
absent-head : (b x : ℕ) (s : List ℕ) → Absent b (x ∷ s) → x ≡ b → ⊥
absent-head b x s never = never 0 (omega arith)

absent-tail : (b x : ℕ) (s : List ℕ) → Absent b (x ∷ s) → Absent b s
absent-tail b x s never k h = never (suc k) (omega arith)

-- the first of several lines, and the only one
pub lines-first : (l r : List ℕ) → Absent 10 l → lines (l ++ (10 ∷ r)) ≡ l ∷ lines r
lines-first [] r never = refl
lines-first (b ∷ l) r never = rw (ne_eqb b 10 (absent-head 10 b l never), lines-first l r (absent-tail 10 b l never))

pub lines-last : (l : List ℕ) → 0 < length l → Absent 10 l → lines l ≡ l ∷ []
lines-last [] some never = absurd (omega arith)
lines-last (b ∷ []) some never = rw (ne_eqb b 10 (absent-head 10 b [] never))
lines-last (b ∷ (c ∷ l)) some never =
    rw (ne_eqb b 10 (absent-head 10 b (c ∷ l) never), lines-last (c ∷ l) (omega arith) (absent-tail 10 b (c ∷ l) never))

-- a byte before a space, or before the end, is a word
alone : (b c : ℕ) (cs : List ℕ) (ws : List (List ℕ)) → c ≡ 32 → joined b (c ∷ cs) ws ≡ (b ∷ []) ∷ ws
alone b c cs [] e = refl
alone b c cs (w ∷ ws) e = rw (eq-eqb c 32 e)

-- a line that begins with i spaces
pub past-spaces : (s : List ℕ) (i : ℕ) → ((k : ℕ) → k < i → get_or s k 0 ≡ 32) → words s ≡ words (drop i s)
past-spaces s zero all = refl
past-spaces [] (suc i) all = refl
past-spaces (b ∷ s) (suc i) all = rw (eq-eqb b 32 (all 0 (omega arith))) (past-spaces s i (λ k h. all (suc k) (omega arith)))

-- a line whose first i bytes are a word
pub first-word : (s : List ℕ) (i : ℕ) → 0 < i → i ≤ length s → ((k : ℕ) → k < i → get_or s k 0 ≡ 32 → ⊥) → (i < length s → get_or s i 0 ≡ 32) →
    words s ≡ take i s ∷ words (drop i s)
first-word s zero some le none at = absurd (omega arith)
first-word [] (suc i) some le none at = absurd (omega arith)
first-word (b ∷ []) (suc zero) some le none at = rw (ne_eqb b 32 (none 0 (omega arith)))
first-word (b ∷ (c ∷ s)) (suc zero) some le none at =
    rw (ne_eqb b 32 (none 0 (omega arith))) (alone b c s (words (c ∷ s)) (at (omega arith)))
first-word (b ∷ []) (suc (suc i)) some le none at = absurd (omega arith)
first-word (b ∷ (c ∷ s)) (suc (suc i)) some le none at =
    rw (
      ne_eqb b 32 (none 0 (omega arith)),
      first-word (c ∷ s) (suc i) (omega arith) (omega arith) (λ k h. none (suc k) (omega arith)) (λ h. at (omega arith)),
      ne_eqb c 32 (none 1 (omega arith)),
    )
