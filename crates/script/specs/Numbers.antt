-- The numbers of a script: decimal digits, leading zeros allowed, whose value is within a limit.
-- Assumes nothing.
use Rattle.std.specs.Prelude.{ℕ, ◌+◌, ◌*◌, cond, ◌&&◌, List, [], ◌∷◌, length, ℤ, pos, neg_ℤ, Some, None, Option, ◌==◌, nat_lt}
use Rattle.std.specs.Option.{option_map}
use Rattle.std.specs.Str.Parse.{digits_value}
use Rattle.std.specs.Char.{is_ascii_digit, digit_value}
use Rattle.std.specs.Str.{all_ascii_digits}

-- the number that the digits write, where there are digits and nothing else and it is below the limit
abbrev pub number_below : ℕ → List ℕ → Option ℕ
number_below limit word =
    cond (nat_lt 0 (length word) && (all_ascii_digits word && nat_lt (digits_value 10 word) limit)) (Some (digits_value 10 word)) None

-- one digit more behind the number n, where b is a digit and the number stays below the limit
abbrev pub with_digit : ℕ → ℕ → ℕ → Option ℕ
with_digit limit n b =
    cond (is_ascii_digit b && nat_lt (n * 10 + digit_value b) limit) (Some (n * 10 + digit_value b)) None

-- a minus sign (45) may stand before the digits of a signed number of 16 bits
abbrev pub signed_number : List ℕ → Option ℤ
signed_number [] = None
signed_number (b ∷ bs) =
    cond (b == 45) (option_map (λ n. neg_ℤ (pos n)) (number_below 32769 bs)) (option_map pos (number_below 32768 (b ∷ bs)))
