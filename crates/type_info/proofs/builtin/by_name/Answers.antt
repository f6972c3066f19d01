use Rattle.std.proofs.Common.{◌≡◌, true, false, ap, ◌∙◌, rules}
use Rattle.std.proofs.lemmas.Iterator.{YieldsList-from_slice, first_from_find}
use borrow.Author.Tests.{tests}
use Rattle.type_info.specs.Meaning.{entry_of, found}
use Rattle.type_info.specs.Table.{has_name}
use Rattle.type_info.proofs.Facts.{first_found}
use Rattle.type_info.proofs.builtin.by_name.Goals as goal

pub returns : goal.returns
returns c =
    let p = has_name c.args.name.now in
    ap found c.copied.ensures ∙ first_found p c.table.result.now c.table.ensures.len c.table.ensures.places c.find.result
    (first_from_find _ _ _ (λ b. p (entry_of b) ≡ true) (λ b. p (entry_of b) ≡ false) c.find.ensures.ran
    (YieldsList-from_slice c.table.result.now cc) (λ x q k. search (rules, tests)) (λ x q k. search (rules, tests)))
