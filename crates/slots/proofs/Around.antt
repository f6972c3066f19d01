-- The slots in a ring. Assumes nothing.
use Rattle.std.proofs.Common.{◌≡◌, ℕ, ◌+◌, ◌-◌, ◌*◌, ◌%◌, ◌<◌, ◌≤◌, ◌⊎◌, List, ◌++◌, length, get_or, ap, ◌∙◌, ⊎_elim, inl, inr, mod-lt, arith, length-append}
use Rattle.std.specs.List.{range_with_len, enumerate_from}
use Rattle.std.proofs.lemmas.Bool.{cases_lt}
use Rattle.std.proofs.Math.Nat.{mod-eq_of_lt, add-mul-mod_self_right}
use Rattle.std.proofs.lemmas.List.{get_or_append_left, get_or-append_right}
use Rattle.std.proofs.lemmas.List.FromFn.{length-range_with_len, get_or-range_with_len, length-enumerate_from, get_or-enumerate_from}
use Rattle.slots.specs.Slots.{distance}

-- a place below 2 * n, around the end of n slots
once_around : (n k : ℕ) → k < n + n → ((k < n) × (k % n ≡ k)) ⊎ ((n ≤ k) × (k % n ≡ k - n))
once_around n k l =
    ⊎_elim
    (λ below. inl (below, mod-eq_of_lt below))
    (λ above.
    let far : k ≡ k - n + 1 * n = omega arith in
    inr (above, ap (λ m. m % n) far ∙ add-mul-mod_self_right (k - n) 1 n ∙ mod-eq_of_lt (omega arith)))
    (cases_lt k n)

pub around-below : (n h k : ℕ) → h < n → (h + k) % n < n
around-below n h k hn = mod-lt (h + k) (omega arith)

pub distance-below : (n h i : ℕ) → h < n → distance n h i < n
distance-below n h i hn = mod-lt (n + i - h) (omega arith)

pub around-distance : (n h i : ℕ) → h < n → i < n → (h + distance n h i) % n ≡ i
around-distance n h i hn ni =
    let far = once_around n (n + i - h) (omega arith) in
    let back = once_around n (h + distance n h i) (omega (arith, distance-below n h i hn)) in
    grind arith

pub distance-around : (n h k : ℕ) → h < n → k < n → distance n h ((h + k) % n) ≡ k
distance-around n h k hn kn =
    let there = once_around n (h + k) (omega arith) in
    let back = once_around n (n + (h + k) % n - h) (omega (arith, around-below n h k hn)) in
    grind arith

-- the slots from h on, around the end
abbrev pub ring : ℕ → ℕ → List ℕ
ring n h = range_with_len h (n - h) ++ range_with_len 0 h

length-ring : (n h : ℕ) → h < n → length (ring n h) ≡ n
length-ring n h hn = omega (arith, length-append (range_with_len h (n - h)) (range_with_len 0 h), length-range_with_len h (n - h), length-range_with_len 0 h)

get_or-ring : (n h k d : ℕ) → h < n → k < n → get_or (ring n h) k d ≡ (h + k) % n
get_or-ring n h k d hn kn =
    let long : length (range_with_len h (n - h)) ≡ n - h = length-range_with_len h (n - h) in
    let turned = once_around n (h + k) (omega arith) in
    ⊎_elim
    (λ below.
    let first = get_or_append_left (range_with_len h (n - h)) (range_with_len 0 h) d k (omega arith) in
    let there = get_or-range_with_len h (n - h) k d below in
    grind arith)
    (λ above.
    let second = get_or-append_right (range_with_len h (n - h)) (range_with_len 0 h) (n - h) k d long above in
    let there = get_or-range_with_len 0 h (k - (n - h)) d (omega arith) in
    grind arith)
    (cases_lt k (n - h))

pub length-counted_ring : (n h : ℕ) → h < n → length (enumerate_from 0 (ring n h)) ≡ n
length-counted_ring n h hn = length-enumerate_from 0 (ring n h) ∙ length-ring n h hn

pub get_or-counted_ring : (n h k : ℕ) (p : ℕ × ℕ) → h < n → k < n → p ≡ get_or (enumerate_from 0 (ring n h)) k p → (p.0 ≡ k) × (p.1 ≡ (h + k) % n)
get_or-counted_ring n h k p hn kn e =
    let is = e ∙ get_or-enumerate_from 0 (ring n h) k p (omega (arith, length-ring n h hn)) in
    (omega (arith, ap (λ (q : ℕ × ℕ). q.0) is), ap (λ (q : ℕ × ℕ). q.1) is ∙ get_or-ring n h k p.1 hn kn)
