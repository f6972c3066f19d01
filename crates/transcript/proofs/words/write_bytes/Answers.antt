use Rattle.std.proofs.Common.{◌≡◌, ◌∙◌, ◌++◌, ap, sym, append_assoc, rules}
use Rattle.std.proofs.lemmas.Grind.{flat_map-append, put_two}
use Rattle.script.specs.Names.{shown_byte}
use Rattle.transcript.proofs.words.write_bytes.Goals as goal

pub loop-rest-preserved : goal.loop-rest-preserved
loop-rest-preserved g c plain =
    let (done, whole, wrote) = c.loop-rest.invariant plain in
    let some = c.split_at.result.0.now in
    let further = c.split_at.result.1.now in
    let split : c.loop-rest.rest.now ≡ some ++ further = search rules in (
      done ++ some,
      whole ∙ ap (λ r. done ++ r) split ∙ sym (append_assoc done some further),
      put_two g.W.Write.write_str_gives _ _ _ _ _ _ wrote (c.write_some.ensures wrote.plain (search rules)) (sym (flat_map-append shown_byte done some)),
    )
