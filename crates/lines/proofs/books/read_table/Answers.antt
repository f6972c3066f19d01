use Rattle.std.proofs.Common.{◌≡◌, codes, refl, rules}
use Rattle.std.proofs.lemmas.Slice.Eq.{text_from_reads}
use Rattle.lines.proofs.books.read_table.Goals as goal

pub returns-in-descriptors : goal.returns-in-descriptors
returns-in-descriptors c = let word : c.args.key.now ≡ codes "descriptors" = text_from_reads _ _ (search rules) (search rules) in rw word refl

pub returns-in-arrays : goal.returns-in-arrays
returns-in-arrays c = let word : c.args.key.now ≡ codes "arrays" = text_from_reads _ _ (search rules) (search rules) in rw word refl

pub returns-in-columns : goal.returns-in-columns
returns-in-columns c = let word : c.args.key.now ≡ codes "columns" = text_from_reads _ _ (search rules) (search rules) in rw word refl

pub returns-in-relations : goal.returns-in-relations
returns-in-relations c = let word : c.args.key.now ≡ codes "relations" = text_from_reads _ _ (search rules) (search rules) in rw word refl
