-- What a line of a script does to the catalogs and what is printed for it.
-- Assumes nothing.
use Rattle.std.specs.Prelude.{◌≡◌, ℕ, Bool, false, List, Ok, Err, Option, Result, is_err}
use Rattle.catalog.specs.declared.faults.CatalogFault.{CatalogFault}
use Rattle.catalog.specs.declared.faults.Told.{Told}
use Rattle.catalog.specs.Catalog.{CatalogColumn, CatalogRow}
use Rattle.catalog.specs.Faults.{fault_told}
use Rattle.keys.specs.declared.kinds.Attribute.{Attribute}
use Rattle.lines.specs.Additions.{column_line, name_line}
use Rattle.lines.specs.Catalogs.{allowance_line, use_line}
use Rattle.lines.specs.Entries.{entry_read}
use Rattle.lines.specs.Reading.{onward, only_word, oid_read, name_read, seen}
use Rattle.lines.specs.Rows.{row_line}
use Rattle.lines.specs.Verbs.{verb_read}
use Rattle.lines.specs.declared.trouble.Trouble.{Trouble}
use Rattle.lines.specs.declared.trouble.Trouble.TheVariants.{NotUnderstood, OutOfMemory}
use Rattle.lines.specs.declared.verb.Verb.{Verb}
use Rattle.lines.specs.declared.verb.Verb.TheVariants as verb
use Rattle.offers.specs.Offered.{offered_column, offered_name, offered_row}
use Rattle.row_table.specs.Additions.{column_answer, column_then, name_answer, name_then, row_answer, row_then}
use Rattle.row_table.specs.Held as table
use Rattle.transcript.specs.Appends.{Behind}
use Rattle.transcript.specs.Printed.{addition_text, allowance_text, builtin_text, element_text, in_use_text}
use Rattle.transcript.specs.declared.answers.Addition.{Addition}
use Rattle.transcript.specs.declared.answers.Addition.TheVariants as what
use Rattle.transcript.specs.declared.answers.Reason.{Reason}
use Rattle.type_info.specs.declared.oid.Oid.{Oid}
use Rattle.type_info.specs.Meaning.{element_name}
use Rattle.type_info.specs.Table.{by_oid, by_name}
use Rattle.session.specs.Catalogs.{Held, at_allowance, using}

-- what a line prints, whether it was a call that was refused, and the catalogs after it
pub record Reply : Type 0 where
  pub text : List ℕ
  pub refused : Bool
  pub catalogs : Held

-- `builtin OID`
abbrev pub builtin_oid_text : List (List ℕ) → Result (List ℕ) Reason
builtin_oid_text ws = onward (only_word ws) (λ word. onward (oid_read word) (λ o. Ok (builtin_text (by_oid o.0))))

-- `builtin-name NAME`
abbrev pub builtin_name_text : List (List ℕ) → Result (List ℕ) Reason
builtin_name_text ws = onward (only_word ws) (λ word. onward (name_read word) (λ n. Ok (builtin_text (by_name n))))

-- `element ENTRY`
abbrev pub element_of_entry_text : List (List ℕ) → Result (List ℕ) Reason
element_of_entry_text ws = onward (only_word ws) (λ word. onward (entry_read word) (λ d. Ok (element_text (element_name d))))

-- a line that leaves the catalogs as they are
abbrev pub told : Held → Result (List ℕ) Reason → Result Reply Reason
told c text = seen (λ t. record { text = t; refused = false; catalogs = c }) text

-- `use rows`, `use shelf`
abbrev pub use_reply : Held → List (List ℕ) → Result Reply Reason
use_reply c ws = seen (λ catalog. record { text = in_use_text catalog; refused = false; catalogs = using c catalog }) (use_line ws)

-- `allowance N`
abbrev pub allowance_reply : Held → List (List ℕ) → Result Reply Reason
allowance_reply c ws = seen (λ n. record { text = allowance_text n; refused = false; catalogs = at_allowance c n }) (allowance_line ws)

-- an addition to the row table, by what it answers and what is held then
abbrev pub outcome_told : Result (Unit {0}) CatalogFault → Result (Unit {0}) Told
outcome_told (Ok done) = Ok done
outcome_told (Err fault) = Err (fault_told fault)

abbrev pub addition_reply : Held → Addition → Result (Unit {0}) CatalogFault → table.Held → Reply
addition_reply c what outcome rows =
    record { text = addition_text what (outcome_told outcome); refused = is_err outcome; catalogs = record c { rows = rows } }

-- `row OID PRETTY TYPTYPE TYPCATEGORY TYPELEM TYPBASETYPE RNGSUBTYPE TYPARRAY [labels NAME..] [attributes (NAME OID)..]`
abbrev pub row_reply_to : Held → Oid → Option CatalogRow → Reply
row_reply_to c oid offered = addition_reply c what.Row (row_answer c.rows oid offered) (row_then c.rows oid offered)

abbrev pub row_reply : Held → List (List ℕ) → Result Reply Reason
row_reply c ws = seen (λ line. row_reply_to c line.1.oid (offered_row line.0 line.1)) (row_line ws)

-- `name NAME OID`
abbrev pub name_reply_to : Held → Oid → Option (List ℕ) → Reply
name_reply_to c oid offered = addition_reply c what.Name (name_answer c.rows oid offered) (name_then c.rows oid offered)

abbrev pub name_reply : Held → List (List ℕ) → Result Reply Reason
name_reply c ws = seen (λ line. name_reply_to c line.1.oid (offered_name line.0 line.1.name)) (name_line ws)

-- `column RELATION ATTRIBUTE TABLE COLUMN`
abbrev pub column_reply_to : Held → Attribute → Option CatalogColumn → Reply
column_reply_to c at offered = addition_reply c what.Column (column_answer c.rows at offered) (column_then c.rows at offered)

abbrev pub column_reply : Held → List (List ℕ) → Result Reply Reason
column_reply c ws =
    seen (λ line. column_reply_to c (record { relation = line.1.relation; number = line.1.number }) (offered_column line.0 line.1.table line.1.name))
    (column_line ws)

-- a line of some kind
abbrev pub reply_to : Verb → Held → List (List ℕ) → Result Reply Reason
reply_to verb.Use c ws = use_reply c ws
reply_to verb.Allowance c ws = allowance_reply c ws
reply_to verb.Row c ws = row_reply c ws
reply_to verb.Name c ws = name_reply c ws
reply_to verb.Column c ws = column_reply c ws
reply_to verb.Element c ws = told c (element_of_entry_text ws)
reply_to verb.Builtin c ws = told c (builtin_oid_text ws)
reply_to verb.BuiltinName c ws = told c (builtin_name_text ws)

-- a line, by its first word and the words behind that
abbrev pub reply : Held → List ℕ → List (List ℕ) → Result Reply Reason
reply c word ws = onward (verb_read word) (λ v. reply_to v c ws)

-- what was printed with a text behind it; a line that is not understood prints none; at want of memory nothing is promised
abbrev pub Prints : Result (List ℕ) Reason → List ℕ → List ℕ → Result (Unit {0}) Trouble → Type 0
Prints told before after (Ok done) = (bytes : List ℕ) × (told ≡ Ok bytes) × Behind before bytes after
Prints told before after (Err (NotUnderstood why)) = (told ≡ Err why) × (after ≡ before)
Prints told before after (Err (OutOfMemory e)) = Unit {0}

-- the same of a reply: a line that is not understood leaves the catalogs as they were
abbrev pub Replies : Result Reply Reason → List ℕ → List ℕ → Held → Held → Result Bool Trouble → Type 0
Replies told before after held then (Ok refused) =
    (bytes : List ℕ) × (told ≡ Ok (record { text = bytes; refused = refused; catalogs = then })) × Behind before bytes after
Replies told before after held then (Err (NotUnderstood why)) = (told ≡ Err why) × (after ≡ before) × (then ≡ held)
Replies told before after held then (Err (OutOfMemory e)) = Unit {0}

abbrev pub IsOutOfMemory : Trouble → Type 0
IsOutOfMemory (NotUnderstood why) = ⊥
IsOutOfMemory (OutOfMemory e) = Unit {0}
