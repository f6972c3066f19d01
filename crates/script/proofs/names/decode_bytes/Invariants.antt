use Rattle.std.proofs.Common.{◌≡◌, length, take, vec_items}
use Rattle.script.specs.Names.{laid, unescaped}
use Rattle.script.proofs.names.decode_bytes.Given as goal

abbrev pub invariant-loop-b : goal.invariant-loop-b
invariant-loop-b l =
    (laid (vec_items l.initial.text) (unescaped l.word) ≡ laid (vec_items l.text) (unescaped l.rest))
    × (take (length (vec_items l.initial.text)) (vec_items l.text) ≡ vec_items l.initial.text)

abbrev pub decreases-loop-b : goal.decreases-loop-b
decreases-loop-b l = length l.rest
