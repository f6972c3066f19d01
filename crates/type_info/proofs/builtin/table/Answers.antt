use Rattle.std.proofs.Common.{◌≡◌, List, map, length, get_or, sym, ap, ◌∙◌}
use Rattle.std.proofs.lemmas.List.{length-map, get_or-map}
use Rattle.type_info.specs.declared.builtin.BuiltIn.{BuiltIn}
use Rattle.type_info.specs.Table.{Entry, entries, none}
use Rattle.type_info.specs.Meaning.{entry_of, Lists}
use Rattle.type_info.proofs.Facts.{len}
use Rattle.type_info.proofs.builtin.table.Goals as goal

lens : (xs : List BuiltIn) → map entry_of xs ≡ entries → length xs ≡ 92
lens xs e = sym (length-map xs entry_of) ∙ ap length e ∙ len

lists : (xs : List BuiltIn) → map entry_of xs ≡ entries → Lists xs
lists xs e i d h =
    sym (get_or-map entry_of xs i d none (rw (lens xs e) h)) ∙ ap (λ (es : List Entry). get_or es i none) e

pub returns : goal.returns
returns c =
    record { len = lens c.constant.result.now c.constant.ensures; places = lists c.constant.result.now c.constant.ensures }
