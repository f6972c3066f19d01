use Rattle.std.proofs.Common.{◌≡◌, codes, refl, rules}
use Rattle.std.proofs.lemmas.Slice.Eq.{text_from_reads}
use Rattle.lines.proofs.verb.read_step.Goals as goal

pub returns-in-resolve : goal.returns-in-resolve
returns-in-resolve c = let word : c.args.word.now ≡ codes "resolve" = text_from_reads _ _ (search rules) (search rules) in rw word refl

pub returns-in-describe : goal.returns-in-describe
returns-in-describe c = let word : c.args.word.now ≡ codes "describe" = text_from_reads _ _ (search rules) (search rules) in rw word refl

pub returns-in-ordinal : goal.returns-in-ordinal
returns-in-ordinal c = let word : c.args.word.now ≡ codes "ordinal" = text_from_reads _ _ (search rules) (search rules) in rw word refl

pub returns-in-101 : goal.returns-in-101
returns-in-101 c = let word : c.args.word.now ≡ codes "element-of" = text_from_reads _ _ (search rules) (search rules) in rw word refl
