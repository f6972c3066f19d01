use Rattle.std.proofs.Common.{◌≡◌, ℕ, ◌<◌, Some, arith, rules}
use Rattle.std.specs.Char.{digit_value}
use Rattle.std.proofs.lemmas.Bool.Decides.{nat_tests}
use Rattle.script.specs.Names.{hex_digit}
use Rattle.script.proofs.names.hex_byte.Goals as goal

-- what `to_digit` tells of a hexadecimal digit
told : (b d : ℕ) → d ≡ digit_value b → d < 16 → hex_digit b ≡ Some d
told b d e h = grind (arith, nat_tests)

pub returns : goal.returns
returns c =
    rw (told c.args.high c.in_ok-high.high (search rules) (search rules), told c.args.low c.in_ok-low.low (search rules) (search rules)) (search rules)
