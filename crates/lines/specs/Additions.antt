-- The lines that add a name or a column to the row table.
-- Assumes nothing.
use Rattle.std.specs.Prelude.{ℕ, List, [], ◌∷◌, Ok, Err, Result}
use Rattle.keys.specs.declared.span.Span.{Span}
use Rattle.transcript.specs.declared.answers.Reason.{Reason}
use Rattle.transcript.specs.declared.answers.Reason.TheVariants.{WordCount}
use Rattle.type_info.specs.declared.oid.AttributeNumber.{AttributeNumber}
use Rattle.type_info.specs.declared.oid.Oid.{Oid}
use Rattle.lines.specs.Host.{name_placed}
use Rattle.lines.specs.Reading.{attribute_number_read, oid_read, onward}
use Rattle.lines.specs.declared.additions.ColumnLine.{ColumnLine}
use Rattle.lines.specs.declared.additions.NameLine.{NameLine}

-- a name as it is offered, over some host text
pub record NameOffer : Type 0 where
  pub name : Span
  pub oid : Oid

abbrev pub name_offered : NameLine → List ℕ × NameOffer
name_offered line = (line.host.items, record { name = line.name; oid = line.oid })

-- `name NAME OID`
abbrev pub name_line : List (List ℕ) → Result (List ℕ × NameOffer) Reason
name_line (name ∷ (oid ∷ [])) = onward (name_placed [] name) (λ n. onward (oid_read oid) (λ o. Ok (n.0, record { name = n.1; oid = o })))
name_line others = Err WordCount

-- a column as it is offered
pub record ColumnOffer : Type 0 where
  pub relation : Oid
  pub number : AttributeNumber
  pub table : Span
  pub name : Span

abbrev pub column_offered : ColumnLine → List ℕ × ColumnOffer
column_offered line =
    (line.host.items, record { relation = line.relation; number = line.number; table = line.table; name = line.name })

-- `column RELATION ATTRIBUTE TABLE COLUMN`
abbrev pub column_line : List (List ℕ) → Result (List ℕ × ColumnOffer) Reason
column_line (relation ∷ (number ∷ (table ∷ (name ∷ [])))) =
    onward (oid_read relation) (λ r.
    onward (attribute_number_read number) (λ a.
    onward (name_placed [] table) (λ t.
    onward (name_placed t.0 name) (λ c.
    Ok (c.0, record { relation = r; number = a; table = t.1; name = c.1 })))))
column_line others = Err WordCount
