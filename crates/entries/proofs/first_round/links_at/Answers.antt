use Rattle.std.proofs.Common.{◌∙◌, Some, ap, map, option_map, sym}
use Rattle.catalog.specs.Meaning.{row_meaning}
use Rattle.keys.specs.Senses.{oid_of}
use Rattle.finds.specs.Finds.{rows_of}
use Rattle.entries.specs.FirstRound.{row_links}
use Rattle.entries.proofs.InRows.{row_there}
use Rattle.entries.proofs.first_round.links_at.Goals as goal

pub returns-in_default : goal.returns-in_default
returns-in_default c = ap (map oid_of) c.new.ensures ∙ sym (ap row_links (row_there (rows_of c.args.finds.now) c.args.place _ c.in_default.ensures.row))

pub returns-in-Some-row : goal.returns-in-Some-row
returns-in-Some-row c =
    c.links_of.ensures
    ∙ sym (ap row_links
    (row_there (rows_of c.args.finds.now) c.args.place _ (sym (ap (λ r. Some (option_map (λ x. row_meaning x.now) r)) c.in-Some-row.is) ∙ c.in-Some.ensures.row)))

pub returns-in-None : goal.returns-in-None
returns-in-None c =
    ap (map oid_of) c.new-in-None.ensures
    ∙ sym (ap row_links
    (row_there (rows_of c.args.finds.now) c.args.place _ (sym (ap (λ r. Some (option_map (λ x. row_meaning x.now) r)) c.in-None.is) ∙ c.in-Some.ensures.row)))
