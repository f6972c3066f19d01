use Rattle.std.proofs.Common.{◌≡◌, true, false, sym, refl, ap, ◌∙◌, rules}
use Rattle.std.proofs.lemmas.Iterator.{YieldsList-from_slice, first_from_find}
use borrow.Author.Tests.{tests}
use Rattle.type_info.specs.Meaning.{entry_of, found, kind_of}
use Rattle.type_info.specs.contracts.builtin.BuiltInKindPartialEq.TheImpl.{ghosts}
use Rattle.type_info.specs.declared.oid.Oid.{Oid}
use Rattle.type_info.specs.declared.builtin.BuiltInKind.{BuiltInKind}
use Rattle.type_info.specs.declared.builtin.BuiltInKind.TheVariants.{Simple, Pseudo, Array, Range}
use Rattle.type_info.specs.Table.{is_array_of, array_kind}
use Rattle.type_info.proofs.Facts.{first_found}
use Rattle.type_info.proofs.builtin.array_of.Goals as goal

same_kind : (k : BuiltInKind) (o : Oid) → ghosts.eq k (Array o) ≡ array_kind o.0 (kind_of k)
same_kind Simple o = refl
same_kind Pseudo o = refl
same_kind (Array e) o = refl
same_kind (Range e) o = refl

pub returns : goal.returns
returns c =
    let p = is_array_of c.args.element.0 in
    ap found c.copied.ensures ∙ first_found p c.table.result.now c.table.ensures.len c.table.ensures.places c.find.result
    (first_from_find _ _ _ (λ b. p (entry_of b) ≡ true) (λ b. p (entry_of b) ≡ false) c.find.ensures.ran
    (YieldsList-from_slice c.table.result.now cc) (λ x q k. sym (same_kind x.now.2 c.args.element) ∙ search (rules, tests))
    (λ x q k. (search (rules, tests), sym (same_kind x.now.2 c.args.element) ∙ search (rules, tests))))
