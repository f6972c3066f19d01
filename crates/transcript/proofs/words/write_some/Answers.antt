use Rattle.std.proofs.Common.{◌<◌, ◌≤◌, ◌∙◌, ap, length, rules}
use Rattle.std.proofs.lemmas.List.{take_all}
use Rattle.std.proofs.lemmas.List.Elements.{All-from_get_or}
use Rattle.std.specs.List.{flat_map}
use Rattle.script.specs.Names.{shown_byte}
use Rattle.transcript.proofs.Ascii.{shown_is_text}
use Rattle.transcript.proofs.words.write_some.Goals as goal

pub unreachable-requires : goal.unreachable-requires
unreachable-requires g c =
    let bytes = c.args.bytes.now in
    let whole : length bytes ≤ c.loop-byte.byte-index = search rules in
    c.in-Err.ensures.cases.0
    (shown_is_text _ bytes (All-from_get_or (λ b. b < 256) bytes 0 (λ i l. let fits = c.type_inv.bytes i in search rules))
    (c.loop-byte.invariant.0 ∙ ap (flat_map shown_byte) (take_all c.loop-byte.byte-index bytes whole)))
