use Rattle.std.proofs.Common.{rules, ◌≡◌, Ok}
use Rattle.lines.specs.Verbs.{verb_read}
use Rattle.lines.specs.declared.verb.Verb.TheVariants.{Row, Name, Column}
use Rattle.session.proofs.catalogs.Catalogs.answer.Goals as goal

pub returns-in-Row : goal.returns-in-Row
returns-in-Row c = let verb : verb_read c.args.verb.now ≡ Ok Row = search rules in rw verb c.answer_row.ensures

pub returns-in-Name : goal.returns-in-Name
returns-in-Name c = let verb : verb_read c.args.verb.now ≡ Ok Name = search rules in rw verb c.answer_name.ensures

pub returns-in-Column : goal.returns-in-Column
returns-in-Column c = let verb : verb_read c.args.verb.now ≡ Ok Column = search rules in rw verb c.answer_column.ensures
