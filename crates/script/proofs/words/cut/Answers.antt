use Rattle.std.proofs.Common.{◌≡◌, ℕ, ◌+◌, ◌<◌, List, ◌∷◌, ◌++◌, length, get_or, take, drop, sym, rules}
use Rattle.std.proofs.lemmas.List.{drop_more, take-append-drop, take_rest, places}
use Rattle.script.proofs.words.cut.Goals as goal

-- a text is what stands before its byte at i, that byte, and the rest
split : (s : List ℕ) (i b : ℕ) (rest : List ℕ) → i < length s → get_or s i 0 ≡ b → rest ≡ drop (i + 1) s → s ≡ take i s ++ (b ∷ rest)
split s i b rest h e same = rw (same, ← e, ← drop_more s i 0 h) (sym (take-append-drop i s))

-- the check finds this by itself; it is written so that a wrong `cut` is refused by the fact that fails
pub returns-clause-parts : goal.returns-clause-parts
returns-clause-parts c =
    (split c.args.text.now c.in_ok-end.end c.args.separator _ (search rules) (search rules) (search (rules, take_rest)), search (rules, places))
