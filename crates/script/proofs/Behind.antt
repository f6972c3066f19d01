-- A number that is read from left to right.
use Rattle.std.proofs.Common.{◌≡◌, ℕ, ◌+◌, ◌*◌, ◌≤◌, Bool, true, false, cond, ◌&&◌, ltb, List, [], ◌∷◌, Some, None, Option, Bor, Iter, ◌<◌, ◌∙◌, arith}
use Rattle.std.specs.Str.Parse.{digits_value_after}
use Rattle.std.specs.Char.{is_ascii_digit, digit_value}
use Rattle.std.specs.Str.{all_ascii_digits}
use Rattle.std.proofs.lemmas.Bool.Decides.{nat_tests}
use Rattle.std.specs.Iterator.{Yields}
use Rattle.std.specs.List.{FoldsTo}
use Rattle.std.proofs.lemmas.List.{nil_from_length}
use Rattle.std.specs.Option.{MatchOption}
use Rattle.std.proofs.lemmas.Fn.{fronts}
use Rattle.script.specs.Numbers.{with_digit}

-- the number that n and the digits behind it write
abbrev pub number_behind : ℕ → ℕ → List ℕ → Option ℕ
number_behind limit n rest =
    cond (all_ascii_digits rest && ltb (digits_value_after 10 n rest) limit) (Some (digits_value_after 10 n rest)) None

-- the same, where what was read before may be no number
abbrev pub number_with : ℕ → Option ℕ → List ℕ → Option ℕ
number_with limit None rest = None
number_with limit (Some n) rest = number_behind limit n rest

-- a number does not fall with its digits
value_after-ge : (n : ℕ) (cs : List ℕ) → n ≤ digits_value_after 10 n cs
value_after-ge n [] = omega arith
value_after-ge n (c ∷ cs) = omega (arith, value_after-ge (n * 10 + digit_value c) cs)

-- d says whether the next byte is a digit, and v is the number with that digit
with-digit : (d : Bool) (v limit : ℕ) (rest : List ℕ) (r : Option ℕ) → r ≡ cond (d && ltb v limit) (Some v) None →
    cond ((d && all_ascii_digits rest) && ltb (digits_value_after 10 v rest) limit) (Some (digits_value_after 10 v rest)) None ≡ number_with limit r rest
with-digit false v limit rest r e = rw e
with-digit true v limit rest None e = let h = value_after-ge v rest in grind (arith, nat_tests)
with-digit true v limit rest (Some m) e = let same : m ≡ v = grind (arith, nat_tests) in rw same

-- one digit more
pub behind_more : (limit n b : ℕ) (rest : List ℕ) (r : Option ℕ) → r ≡ with_digit limit n b →
    number_behind limit n (b ∷ rest) ≡ number_with limit r rest
behind_more limit n b rest r e = with-digit (is_ascii_digit b) (n * 10 + digit_value b) limit rest r e

-- what `with_digit` gives is below the limit
some-below : (limit n b m : ℕ) → Some m ≡ with_digit limit n b → m < limit
some-below limit n b m e = grind (arith, nat_tests)

-- calls of `with_digit` on the bytes that an iterator gives, from the number p.1 to the number q.1
pub behind_run : {F : Type 0} (R : F × ℕ → Bor ℕ → F × ℕ → Type 0) (limit : ℕ) →
    ((p : F × ℕ) (x : Bor ℕ) (q : F × ℕ) → R p x q → Some q.1 ≡ with_digit limit p.1 x.now) →
    (xs : List (Bor ℕ)) (s t : Iter ℕ) (p q : F × ℕ) → Yields fronts s xs t → FoldsTo R p xs q → p.1 < limit →
    (number_behind limit p.1 s.rest.now ≡ number_behind limit q.1 t.rest.now) × (q.1 < limit)
behind_run R limit goes [] s t p q y f h = (rw (y, f), rw (← f) h)
behind_run R limit goes (x ∷ xs) s t p q y f h =
    let digit : Some f.0.1 ≡ with_digit limit p.1 x.now = goes p x f.0 f.1 in
    let more = behind_run R limit goes xs y.0 t f.0 q y.2 f.2 (some-below limit p.1 x.now f.0.1 digit) in
    (rw y.1 (behind_more limit p.1 x.now y.0.rest.now (Some f.0.1) digit) ∙ more.0, more.1)

-- the call after those, if one came: what it refuses is no number
pub behind_end : {Q : Bor ℕ → Type 0} (limit n : ℕ) (t u : Iter ℕ) (o : Option (Bor ℕ)) (r : Option ℕ) → n < limit →
    ((x : Bor ℕ) → Q x → (None ≡ with_digit limit n x.now) × (r ≡ None)) → fronts t o u → MatchOption o (r ≡ Some n) Q →
    number_behind limit n t.rest.now ≡ r
behind_end limit n t u None r h stops end told =
    let below : ltb n limit ≡ true = grind (arith, nat_tests) in rw (nil_from_length t.rest.now end.0, told, below)
behind_end limit n t u (Some x) r h stops end told =
    let stop = stops x told in rw (end, stop.1) (behind_more limit n x.now u.rest.now None stop.0)
