use Rattle.std.proofs.Common.{◌≡◌, ◌++◌, ℕ, List, length}
use Rattle.std.specs.Fmt.{HasWritten, IsPlainFormatter}
use Rattle.std.specs.List.{flat_map}
use Rattle.script.specs.Names.{shown_byte}
use Rattle.transcript.proofs.words.write_bytes.Given as goal

-- the bytes so far are written, the rest stand behind them
abbrev pub invariant-loop-rest : goal.invariant-loop-rest
invariant-loop-rest g l =
    IsPlainFormatter l.initial.f →
    (done : List ℕ) × (l.initial.rest ≡ done ++ l.rest) × HasWritten g.W.Write.write_str_gives l.initial.f (flat_map shown_byte done) l.f

abbrev pub decreases-loop-rest : goal.decreases-loop-rest
decreases-loop-rest g l = length l.rest
