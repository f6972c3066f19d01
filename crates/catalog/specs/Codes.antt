-- The code bytes of a row, as PostgreSQL's page on pg_type lists them.
-- Assumes nothing.
use Rattle.std.specs.Prelude.{◌≡◌, ℕ, Bool, true, false, ◌||◌, List, [], ◌∷◌, ◌++◌, Ok, Err, Result, codes, decimal, ◌==◌}
use Rattle.catalog.specs.declared.codes.TypType.{TypType}
use Rattle.catalog.specs.declared.codes.TypType.TheVariants as t
use Rattle.catalog.specs.declared.codes.UnknownCode.{UnknownCode}
use Rattle.catalog.specs.declared.codes.TypCategory.{TypCategory}
use Rattle.catalog.specs.declared.codes.TypCategory.TheVariants as c

abbrev pub listed : ℕ → List ℕ → Bool
listed b [] = false
listed b (x ∷ xs) = b == x || listed b xs

abbrev pub typtypes : List ℕ
typtypes = codes "bcdepr"

abbrev pub typcategories : List ℕ
typcategories = codes "ABCDEGINPRSTUVX"

-- the byte that stands for each
abbrev pub typtype_byte : TypType → ℕ
typtype_byte t.Base = 98
typtype_byte t.Composite = 99
typtype_byte t.Domain = 100
typtype_byte t.Enum = 101
typtype_byte t.Pseudo = 112
typtype_byte t.Range = 114

abbrev pub typcategory_byte : TypCategory → ℕ
typcategory_byte c.Array = 65
typcategory_byte c.Boolean = 66
typcategory_byte c.Composite = 67
typcategory_byte c.DateTime = 68
typcategory_byte c.Enum = 69
typcategory_byte c.Geometric = 71
typcategory_byte c.Network = 73
typcategory_byte c.Numeric = 78
typcategory_byte c.Pseudo = 80
typcategory_byte c.Range = 82
typcategory_byte c.String = 83
typcategory_byte c.Timespan = 84
typcategory_byte c.User = 85
typcategory_byte c.BitString = 86
typcategory_byte c.Unknown = 88

-- a byte read: the answer stands for it, and it is refused, as the code that is unknown, only where it is not listed
abbrev pub CodeRead : {T : Type 0} → (T → ℕ) → List ℕ → ℕ → Result T UnknownCode → Type 0
CodeRead byte_of all b (Ok x) = (byte_of x ≡ b) × (listed b all ≡ true)
CodeRead byte_of all b (Err e) = (e.0 ≡ b) × (listed b all ≡ false)

abbrev pub TypTypeRead : ℕ → Result TypType UnknownCode → Type 0
TypTypeRead = CodeRead typtype_byte typtypes

abbrev pub TypCategoryRead : ℕ → Result TypCategory UnknownCode → Type 0
TypCategoryRead = CodeRead typcategory_byte typcategories

-- how a byte that is no code is told
abbrev pub unknown_text : UnknownCode → List ℕ
unknown_text code = codes "unknown code " ++ decimal code.0
