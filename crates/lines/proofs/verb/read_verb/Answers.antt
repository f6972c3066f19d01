use Rattle.std.proofs.Common.{◌≡◌, codes, refl, rules}
use Rattle.std.proofs.lemmas.Slice.Eq.{text_from_reads}
use Rattle.lines.proofs.verb.read_verb.Goals as goal

pub returns-in-column : goal.returns-in-column
returns-in-column c = let word : c.args.word.now ≡ codes "column" = text_from_reads _ _ (search rules) (search rules) in rw word refl

pub returns-in-element : goal.returns-in-element
returns-in-element c = let word : c.args.word.now ≡ codes "element" = text_from_reads _ _ (search rules) (search rules) in rw word refl

pub returns-in-builtin : goal.returns-in-builtin
returns-in-builtin c = let word : c.args.word.now ≡ codes "builtin" = text_from_reads _ _ (search rules) (search rules) in rw word refl

pub returns-in-allowance : goal.returns-in-allowance
returns-in-allowance c = let word : c.args.word.now ≡ codes "allowance" = text_from_reads _ _ (search rules) (search rules) in rw word refl

pub returns-in-98 : goal.returns-in-98
returns-in-98 c = let word : c.args.word.now ≡ codes "builtin-name" = text_from_reads _ _ (search rules) (search rules) in rw word refl
