-- What a line that adds to the row table answers. Assumes nothing.
use Rattle.std.proofs.Common.{◌≡◌, ℕ, Bool, List, Ok, Err, Result, ap, sym, ◌∙◌, MatchResult, is_err}
use Rattle.catalog.specs.declared.faults.CatalogFault.{CatalogFault}
use Rattle.lines.specs.declared.trouble.Trouble.{Trouble}
use Rattle.lines.specs.declared.trouble.Trouble.TheVariants.{NotUnderstood, OutOfMemory}
use Rattle.row_table.specs.Held as table
use Rattle.transcript.specs.Appends.{Behind}
use Rattle.transcript.specs.Printed.{addition_text}
use Rattle.transcript.specs.declared.answers.Addition.{Addition}
use Rattle.transcript.specs.declared.answers.Reason.{Reason}
use Rattle.session.specs.Catalogs.{Held}
use Rattle.session.specs.Lines.{IsOutOfMemory, Replies, Reply, addition_reply, outcome_told}

pub added :
    (told : Result Reply Reason) (c : Held) (what : Addition) (outcome : Result (Unit {0}) CatalogFault) (rows : table.Held) (before after : List ℕ) (r : Result Bool Trouble) →
    told ≡ Ok (addition_reply c what outcome rows) →
    MatchResult r (λ refused. (refused ≡ is_err outcome) × Behind before (addition_text what (outcome_told outcome)) after) IsOutOfMemory →
    Replies told before after c (record c { rows = rows }) r
added told c what outcome rows before after (Ok refused) is printed =
    (addition_text what (outcome_told outcome), is ∙ ap (λ (b : Bool). Ok (record { text = addition_text what (outcome_told outcome); refused = b; catalogs = record c { rows = rows } })) (sym printed.0), printed.1)
added told c what outcome rows before after (Err (NotUnderstood why)) is printed = absurd printed
added told c what outcome rows before after (Err (OutOfMemory e)) is printed = tt
