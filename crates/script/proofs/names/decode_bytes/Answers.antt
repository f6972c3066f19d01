use Rattle.std.proofs.Common.{◌≡◌, ℕ, ◌≤◌, List, [], ◌∷◌, ◌++◌, length, take, Some, None, Err, vec_items, Option, refl, ap, ◌∙◌, arith, rules}
use Rattle.std.proofs.lemmas.List.{append_assoc, length-take, take-append-le}
use Rattle.script.specs.declared.names.NameFault.{NameFault}
use Rattle.script.specs.declared.names.NameFault.TheVariants.{NotAName, OutOfMemory}
use Rattle.script.specs.Names.{Laid, NextByte, consed, laid, unescaped}
use Rattle.script.proofs.names.decode_bytes.Goals as goal

-- one byte more
laid_more : (before after : List ℕ) (b : ℕ) (o rest : Option (List ℕ)) → o ≡ consed b rest → after ≡ before ++ (b ∷ []) →
    laid before o ≡ laid after rest
laid_more before after b o None e f = rw e
laid_more before after b o (Some bs) e f = rw (e, f, append_assoc)

-- where nothing can be laid there is no name
none-from-laid : (before : List ℕ) (o : Option (List ℕ)) → laid before o ≡ None → o ≡ None
none-from-laid before None e = refl
none-from-laid before (Some bs) e = cc

-- what is laid behind a text leaves it at the front
front-more : (xs ys zs : List ℕ) → take (length xs) ys ≡ xs → take (length xs) (ys ++ zs) ≡ xs
front-more xs ys zs e =
    let le : length xs ≤ length ys = omega (arith, simp length-take at (ap length e)) in rw take-append-le e

-- a fault of `next_byte` is the fault of the name
refused : (word rest before after : List ℕ) (fault : NameFault) → NextByte rest (Err fault) → laid before (unescaped word) ≡ laid after (unescaped rest) →
    take (length before) after ≡ before → Laid word before after (Err fault)
refused word rest before after NotAName none same front = (none-from-laid before (unescaped word) (same ∙ rw none), front)
refused word rest before after (OutOfMemory e) never same front = absurd never

pub returns-in_err-b : goal.returns-in_err-b
returns-in_err-b c =
    let same : c.from_residual.result ≡ Err c.in_err-b.field-0.0 = search rules in
    rw same
    (refused c.args.word.now c.loop-b.rest.now (vec_items c.args.text.now) (vec_items c.loop-b.text) c.in_err-b.field-0.0
    c.in_err-b.ensures c.loop-b.invariant.0 c.loop-b.invariant.1)

pub loop-b-preserved : goal.loop-b-preserved
loop-b-preserved c =
    let next = rw c.in-Some.is at c.in_ok-b.ensures in
    let pushed = c.in_ok-push.ensures.items in (
      c.loop-b.invariant.0
          ∙ laid_more (vec_items c.loop-b.text) (vec_items c.push.new.self) c.in-Some.b (unescaped c.loop-b.rest.now) (unescaped c.in-Some.further.now) next.0 pushed,
      rw pushed (front-more (vec_items c.args.text.now) (vec_items c.loop-b.text) (c.in-Some.b ∷ []) c.loop-b.invariant.1),
    )
