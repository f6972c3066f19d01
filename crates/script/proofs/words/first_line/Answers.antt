use Rattle.std.proofs.Common.{◌≡◌, ℕ, ◌<◌, List, [], ◌∷◌, length, Some, None, Option, Bor, refl, ap, ◌∙◌, rules}
use Rattle.std.specs.Option.{unwrap_or}
use Rattle.script.specs.Words.{CutAt, lines}
use Rattle.script.proofs.Lines.{lines-first, lines-last}
use Rattle.script.proofs.words.first_line.Goals as goal

-- what a cut at a line feed tells of the first line; where there is none the whole text is one
first : (s : List ℕ) (cut : Option (Bor (List ℕ) × Bor (List ℕ))) (whole : Bor (List ℕ) × Bor (List ℕ)) → 0 < length s → CutAt 10 s cut →
    whole.0.now ≡ s → whole.1.now ≡ [] → lines s ≡ (unwrap_or cut whole).0.now ∷ lines (unwrap_or cut whole).1.now
first s None whole some never all none = rw (all, none) (lines-last s some never)
first s (Some parts) whole some h all none = ap lines h.0 ∙ lines-first parts.0.now parts.1.now h.1

pub returns-clause-first : goal.returns-clause-first
returns-clause-first c =
    rw c.unwrap_or.ensures (first c.args.text.now c.cut.result _ (search rules) (search rules) refl refl)
