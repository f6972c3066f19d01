-- The lines of the steps: Fill, Resolve, Bind and Ordinal.
-- Assumes nothing.
use Rattle.std.specs.Prelude.{ℕ, ◌^◌, Bool, true, false, if◌then◌else◌, List, [], ◌∷◌, Some, None, Ok, Err, codes, Option, Result}
use Rattle.std.specs.Str.{bytes_eq}
use Rattle.keys.specs.declared.span.Span.{Span}
use Rattle.requests.specs.declared.asked.FieldAsked.{FieldAsked}
use Rattle.requests.specs.declared.asked.TypeAsked.{TypeAsked}
use Rattle.script.specs.Numbers.{number_below}
use Rattle.script.specs.Words.{behind_prefix}
use Rattle.transcript.specs.declared.answers.Reason.{Reason}
use Rattle.transcript.specs.declared.answers.Reason.TheVariants.{NotANumber, NotYesOrNo, WordCount}
use Rattle.lines.specs.Entries.{entry_placed}
use Rattle.lines.specs.Host.{name_placed}
use Rattle.lines.specs.Reading.{attribute_link_read, link_read, number_read, oid_read, only_word, onward, seen}
use Rattle.lines.specs.declared.steps.BindLine.{BindLine}
use Rattle.lines.specs.declared.steps.ResolveLine.{ResolveLine}

-- the numbers that some words begin with, and the words behind them
abbrev pub number_before : Option ℕ → List ℕ → List (List ℕ) → List ℕ × List (List ℕ) → List ℕ × List (List ℕ)
number_before None w ws others = ([], w ∷ ws)
number_before (Some n) w ws others = (n ∷ others.0, others.1)

abbrev pub numbers_first : List (List ℕ) → List ℕ × List (List ℕ)
numbers_first [] = ([], [])
numbers_first (w ∷ ws) = number_before (number_below (2 ^ 32) w) w ws (numbers_first ws)

-- where nothing is left behind the numbers
abbrev pub all_numbers : List ℕ × List (List ℕ) → Result (List ℕ) Reason
all_numbers (ns, []) = Ok ns
all_numbers (ns, (w ∷ ws)) = Err NotANumber

-- `fill OID..`
abbrev pub fill_line : List (List ℕ) → Result (List ℕ) Reason
fill_line ws = all_numbers (numbers_first ws)

-- a number behind a key, which may be left out, and the words behind it
abbrev pub setting_behind : Option (List ℕ) → List ℕ → List (List ℕ) → Result (Option ℕ × List (List ℕ)) Reason
setting_behind None w ws = Ok (None, w ∷ ws)
setting_behind (Some digits) w ws = seen (λ n. (Some n, ws)) (number_read digits)

abbrev pub setting_read : List ℕ → List (List ℕ) → Result (Option ℕ × List (List ℕ)) Reason
setting_read key [] = Ok (None, [])
setting_read key (w ∷ ws) = setting_behind (behind_prefix key w) w ws

-- entries, their names laid in turn
abbrev pub entries_placed : List ℕ → List (List ℕ) → Result (List ℕ × List TypeAsked) Reason
entries_placed host [] = Ok (host, [])
entries_placed host (w ∷ ws) = onward (entry_placed host w) (λ e. onward (entries_placed e.0 ws) (λ es. Ok (es.0, e.1 ∷ es.1)))

-- what a resolve asks, and how many slots its answer buffer has, if the line says that
pub record ResolveRead : Type 0 where
  pub host : List ℕ
  pub entries : List TypeAsked
  pub slots : Option ℕ

abbrev pub resolve_read : ResolveLine → ResolveRead
resolve_read line = record { host = line.host.items; entries = line.entries.items; slots = line.slots }

-- `resolve [out=N] ENTRY..`
abbrev pub resolve_line : List (List ℕ) → Result ResolveRead Reason
resolve_line ws =
    onward (setting_read (codes "out=") ws) (λ s.
    onward (entries_placed [] s.1) (λ e.
    Ok (record { host = e.0; entries = e.1; slots = s.0 })))

-- whether a word is that for yes or that for no
abbrev pub flag_read : (for_yes for_no word : List ℕ) → Result Bool Reason
flag_read for_yes for_no word = if bytes_eq word for_yes then Ok true else (if bytes_eq word for_no then Ok false else Err NotYesOrNo)

-- the words behind one that has to come, or why another stands in its place
abbrev pub words_behind : List ℕ → Reason → List (List ℕ) → Result (List (List ℕ)) Reason
words_behind due other [] = Err WordCount
words_behind due other (w ∷ ws) = if bytes_eq w due then Ok ws else Err other

-- a field, its name laid behind a host text
abbrev pub field_placed : (host name oid relation attribute : List ℕ) → Result (List ℕ × FieldAsked) Reason
field_placed host name oid relation attribute =
    onward (name_placed host name) (λ n.
    onward (oid_read oid) (λ o.
    onward (link_read relation) (λ r.
    onward (attribute_link_read attribute) (λ a.
    Ok (n.0, record { name = n.1; oid = o; relation = r; attribute = a })))))

-- fields of four words each, their names laid in turn
abbrev pub fields_placed : List ℕ → List (List ℕ) → Result (List ℕ × List FieldAsked) Reason
fields_placed host [] = Ok (host, [])
fields_placed host (name ∷ (oid ∷ (relation ∷ (attribute ∷ ws)))) =
    onward (field_placed host name oid relation attribute) (λ f. onward (fields_placed f.0 ws) (λ fs. Ok (fs.0, f.1 ∷ fs.1)))
fields_placed host others = Err WordCount

-- what a bind asks, and how many slots its answer buffers have, where the line says that
pub record BindRead : Type 0 where
  pub host : List ℕ
  pub parameters : List ℕ
  pub fields : List FieldAsked
  pub queries : Bool
  pub origins : Bool
  pub parameter_slots : Option ℕ
  pub column_slots : Option ℕ

abbrev pub bind_read : BindLine → BindRead
bind_read line = record {
  host = line.host.items;
  parameters = line.parameters.items;
  fields = line.fields.items;
  queries = line.queries;
  origins = line.origins;
  parameter_slots = line.parameter_slots;
  column_slots = line.column_slots;
}

-- `bind queries=yes|no origins=yes|no [parameters=N] [columns=N] parameters OID.. fields (NAME TYPE RELATION ATTRIBUTE)..`
abbrev pub bind_line : List (List ℕ) → Result BindRead Reason
bind_line (queries ∷ (origins ∷ ws)) =
    onward (flag_read (codes "queries=yes") (codes "queries=no") queries) (λ q.
    onward (flag_read (codes "origins=yes") (codes "origins=no") origins) (λ o.
    onward (setting_read (codes "parameters=") ws) (λ p.
    onward (setting_read (codes "columns=") p.1) (λ c.
    onward (words_behind (codes "parameters") WordCount c.1) (λ ps.
    onward (words_behind (codes "fields") NotANumber (numbers_first ps).1) (λ fs.
    onward (fields_placed [] fs) (λ f.
    Ok (record {
      host = f.0;
      parameters = (numbers_first ps).0;
      fields = f.1;
      queries = q;
      origins = o;
      parameter_slots = p.0;
      column_slots = c.0;
    }))))))))
bind_line others = Err WordCount

-- `ordinal NAME`
abbrev pub ordinal_line : List ℕ → List (List ℕ) → Result (List ℕ × Span) Reason
ordinal_line host ws = onward (only_word ws) (name_placed host)
