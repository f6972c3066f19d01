-- An entry of a line: `oid:N`, `name:NAME` or `array:NAME`.
-- Assumes nothing.
use Rattle.std.specs.Prelude.{ℕ, List, codes, ok_or, option_map, Option, Result}
use Rattle.std.specs.Option.{option_or}
use Rattle.requests.specs.declared.asked.TypeAsked.{TypeAsked}
use Rattle.requests.specs.declared.asked.TypeAsked.TheVariants as asked
use Rattle.script.specs.Words.{behind_prefix}
use Rattle.transcript.specs.declared.answers.Reason.{Reason}
use Rattle.transcript.specs.declared.answers.Reason.TheVariants.{NotAnEntry}
use Rattle.type_info.specs.Meaning.{Declaration, by_its_oid, by_its_name, as_array_of}
use Rattle.lines.specs.Host.{name_placed}
use Rattle.lines.specs.Reading.{onward, oid_read, name_read, seen}
use Rattle.lines.specs.declared.entry.Entry.{Entry}
use Rattle.lines.specs.declared.entry.Entry.TheVariants as entry
use Rattle.lines.specs.declared.entry.Prefix.{Prefix}
use Rattle.lines.specs.declared.entry.Prefix.TheVariants as prefix

-- a prefix, if a word has it, and what stands behind it
abbrev pub prefixed : Prefix → List ℕ → List ℕ → Option (Prefix × List ℕ)
prefixed p text word = option_map (λ written. (p, written)) (behind_prefix text word)

-- the prefix of an entry and what stands behind it
abbrev pub entry_parts : List ℕ → Result (Prefix × List ℕ) Reason
entry_parts word =
    ok_or
    (option_or (prefixed prefix.Oid (codes "oid:") word)
    (option_or (prefixed prefix.Name (codes "name:") word) (prefixed prefix.Array (codes "array:") word)))
    NotAnEntry

-- what an entry declares
abbrev pub declaration_read : Prefix → List ℕ → Result Declaration Reason
declaration_read prefix.Oid written = seen (λ o. by_its_oid o.0) (oid_read written)
declaration_read prefix.Name written = seen by_its_name (name_read written)
declaration_read prefix.Array written = seen as_array_of (name_read written)

abbrev pub entry_read : List ℕ → Result Declaration Reason
entry_read word = onward (entry_parts word) (λ p. declaration_read p.0 p.1)

-- what an entry that was read declares
abbrev pub declared_by : Entry → Declaration
declared_by (entry.Oid o) = by_its_oid o.0
declared_by (entry.Name n) = by_its_name n.items
declared_by (entry.ArrayOf n) = as_array_of n.items

-- what an entry asks, its name laid behind a host text
abbrev pub asked_placed : List ℕ → Prefix → List ℕ → Result (List ℕ × TypeAsked) Reason
asked_placed host prefix.Oid written = seen (λ o. (host, asked.Oid o)) (oid_read written)
asked_placed host prefix.Name written = seen (λ n. (n.0, asked.Name n.1)) (name_placed host written)
asked_placed host prefix.Array written = seen (λ n. (n.0, asked.ArrayOf n.1)) (name_placed host written)

abbrev pub entry_placed : List ℕ → List ℕ → Result (List ℕ × TypeAsked) Reason
entry_placed host word = onward (entry_parts word) (λ p. asked_placed host p.0 p.1)
