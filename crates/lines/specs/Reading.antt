-- What the words behind the first of a line say, or why they say nothing.
-- Assumes nothing.
use Rattle.std.specs.Prelude.{◌≡◌, ℕ, ◌^◌, not, List, [], ◌∷◌, pos, None, Ok, Err, Option, Result, ◌==◌}
use Rattle.std.specs.Bool.{then_some}
use Rattle.std.specs.Borrow.{Bor}
use Rattle.std.specs.Option.{ok_or, option_map}
use Rattle.std.specs.Ordering.{int_eq}
use Rattle.script.specs.Names.{named}
use Rattle.script.specs.Numbers.{number_below, signed_number}
use Rattle.script.specs.Words.{only_of, words}
use Rattle.transcript.specs.declared.answers.Reason.{Reason}
use Rattle.transcript.specs.declared.answers.Reason.TheVariants.{WordCount, NotANumber, NotAnAttributeNumber, NotAName, NotACode}
use Rattle.type_info.specs.declared.oid.AttributeNumber.{AttributeNumber}
use Rattle.type_info.specs.declared.oid.Oid.{Oid}
use Rattle.lines.specs.declared.trouble.Trouble.{Trouble}
use Rattle.lines.specs.declared.trouble.Trouble.TheVariants.{NotUnderstood, OutOfMemory}

-- what is read of what was read, unless that was not understood
abbrev pub onward : {A B : Type 0} → Result A Reason → (A → Result B Reason) → Result B Reason
onward (Ok x) f = f x
onward (Err why) f = Err why

-- what was read, as it is seen
abbrev pub seen : {A B : Type 0} → (A → B) → Result A Reason → Result B Reason
seen view (Ok x) = Ok (view x)
seen view (Err why) = Err why

-- what the words tell is read, as it is seen; at want of memory nothing is promised
abbrev pub Reads : {A B : Type 0} → (A → B) → Result B Reason → Result A Trouble → Type 0
Reads view told (Ok x) = told ≡ Ok (view x)
Reads view told (Err (NotUnderstood why)) = told ≡ Err why
Reads view told (Err (OutOfMemory e)) = Unit {0}

-- the only one of some words, or why there is none
abbrev pub only_word : List (List ℕ) → Result (List ℕ) Reason
only_word ws = ok_or (only_of ws) WordCount

abbrev pub OnlyRead : List (List ℕ) → Result (Bor (List ℕ)) Reason → Type 0
OnlyRead ws (Ok word) = ws ≡ word.now ∷ []
OnlyRead ws (Err why) = (only_of ws ≡ None) × (why ≡ WordCount)

-- the first of some words, and a rest that has the others
abbrev pub FirstRead : List (List ℕ) → Result (Bor (List ℕ) × Bor (List ℕ)) Reason → Type 0
FirstRead ws (Ok found) = ws ≡ found.0.now ∷ words found.1.now
FirstRead ws (Err why) = (ws ≡ []) × (why ≡ WordCount)

-- a number; an OID; an attribute number; either of these where 0 (the number) says that it is absent
abbrev pub number_read : List ℕ → Result ℕ Reason
number_read word = ok_or (number_below (2 ^ 32) word) NotANumber

abbrev pub oid_read : List ℕ → Result Oid Reason
oid_read word = seen (λ n. record { 0 = n }) (number_read word)

abbrev pub link_read : List ℕ → Result (Option Oid) Reason
link_read word = seen (λ o. then_some (not (o.0 == 0)) o) (oid_read word)

abbrev pub attribute_number_read : List ℕ → Result AttributeNumber Reason
attribute_number_read word = ok_or (option_map (λ n. record { 0 = n }) (signed_number word)) NotAnAttributeNumber

abbrev pub attribute_link_read : List ℕ → Result (Option AttributeNumber) Reason
attribute_link_read word = seen (λ a. then_some (not (int_eq a.0 (pos 0))) a) (attribute_number_read word)

-- a name; a code, which is one byte written as a name
abbrev pub name_read : List ℕ → Result (List ℕ) Reason
name_read word = ok_or (named word) NotAName

abbrev pub one_byte : List ℕ → Result ℕ Reason
one_byte [] = Err NotACode
one_byte (b ∷ []) = Ok b
one_byte (b ∷ (c ∷ bs)) = Err NotACode

abbrev pub code_read : List ℕ → Result ℕ Reason
code_read word = onward (name_read word) one_byte
