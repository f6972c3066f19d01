use Rattle.std.proofs.Common.{rules, ◌≡◌, Ok}
use Rattle.lines.specs.Catalogs.{use_line}
use Rattle.script.specs.Words.{words}
use Rattle.transcript.specs.Printed.{in_use_text}
use Rattle.session.proofs.catalogs.Catalogs.answer_use.Goals as goal

pub returns : goal.returns
returns c =
    let read : use_line (words c.args.rest.now) ≡ Ok c.in_ok-catalog.catalog = search rules in
    (in_use_text c.in_ok-catalog.catalog, rw (read, c.choose.ensures) search rules, search rules)
