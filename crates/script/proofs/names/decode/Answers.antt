use Rattle.std.proofs.Common.{◌≡◌, ℕ, ◌≤◌, true, false, take, List, [], ◌∷◌, ◌++◌, length, get_or, is_err, Some, None, Ok, Err, vec_items, codes, Option, Result, sym, refl, ap, ◌∙◌, ⊎_elim, append-nil, arith, rules}
use Rattle.std.specs.Str.{bytes_eq}
use Rattle.std.proofs.lemmas.Slice.Eq.{text_from_reads, bytes_eq-Decides}
use Rattle.std.proofs.lemmas.Bool.{ne_eqb, cases_Bool, cond-false}
use Rattle.script.specs.declared.names.NameFault.{NameFault}
use Rattle.script.specs.declared.names.NameFault.TheVariants.{NotAName, OutOfMemory}
use Rattle.script.specs.Names.{Decoded, Laid, laid, named, unescaped}
use Rattle.script.proofs.names.decode.Goals as goal

-- a word that is neither %- nor begins with @
named_other : (s : List ℕ) → 1 ≤ length s → (length s ≡ 2 → get_or s 0 0 ≡ 37 → get_or s 1 0 ≡ 45 → ⊥) → (get_or s 0 0 ≡ 64 → ⊥) →
    named s ≡ unescaped s
named_other [] some empty at = absurd (omega arith)
named_other (b ∷ bs) some empty at =
    ⊎_elim
    (λ t. let e = (bytes_eq-Decides (b ∷ bs) (codes "%-")).0 t in
    absurd (empty (ap length e) (ap (λ (s : List ℕ). get_or s 0 0) e) (ap (λ (s : List ℕ). get_or s 1 0) e)))
    (λ t. cond-false _ _ _ t ∙ cond-false _ _ _ (ne_eqb b 64 at))
    (cases_Bool (bytes_eq (b ∷ bs) (codes "%-")))

-- the name that was laid
name-from-laid : (before after : List ℕ) (o : Option (List ℕ)) → laid before o ≡ Some after →
    (name : List ℕ) × (o ≡ Some name) × (after ≡ before ++ name)
name-from-laid before after None e = cc
name-from-laid before after (Some name) e = (name, refl, cc)

-- a word that is neither, and what was laid of it
decoded : (word before after : List ℕ) (r : Result (Unit {0}) NameFault) → false ≡ is_err r → named word ≡ unescaped word →
    Laid word before after r → Decoded word before after r
decoded word before after (Ok done) ok same h = rw same (name-from-laid before after (unescaped word) h)
decoded word before after (Err fault) ok same h = cc

-- the same where the text is cut back to what it held
put_back : (word before after kept : List ℕ) (r : Result (Unit {0}) NameFault) → true ≡ is_err r → named word ≡ unescaped word →
    Laid word before after r → kept ≡ take (length before) after → Decoded word before kept r
put_back word before after kept (Ok done) err same h back = cc
put_back word before after kept (Err NotAName) err same h back = (same ∙ h.0, back ∙ h.1)
put_back word before after kept (Err (OutOfMemory e)) err same h back = back ∙ h

-- a word that begins with @ is no name
at-sign : (word before : List ℕ) → 1 ≤ length word → get_or word 0 0 ≡ 64 → Decoded word before before (Err NotAName)
at-sign [] before some e = absurd (omega arith)
at-sign (b ∷ bs) before some e = rw e (refl, refl)

-- the check finds this and `returns-then-is_err` by itself; they are written so that a wrong `decode` is refused by the fact that fails
pub returns-in-64 : goal.returns-in-64
returns-in-64 c = search (rules, at-sign)

pub returns-in-37 : goal.returns-in-37
returns-in-37 c = (
  [],
  ap named (text_from_reads c.args.word.now (codes "%-") (search rules) (search rules, (search rules, tt))),
  sym (append-nil (vec_items c.args.text.now)),
)

pub returns-else-is_err : goal.returns-else-is_err
returns-else-is_err c =
    decoded c.args.word.now (vec_items c.args.text.now) (vec_items c.decode_bytes-done.new.text) c.decode_bytes-done.result
    c.if-is_err.ensures.value
    (named_other c.args.word.now (search rules) (search rules) (search rules))
    c.decode_bytes-done.ensures

pub returns-then-is_err : goal.returns-then-is_err
returns-then-is_err c =
    put_back c.args.word.now (vec_items c.args.text.now) (vec_items c.decode_bytes-done.new.text) (vec_items c.truncate.new.self) c.decode_bytes-done.result
    c.if-is_err.ensures.value
    (named_other c.args.word.now (search rules) (search rules) (search rules))
    c.decode_bytes-done.ensures
    (search rules)
