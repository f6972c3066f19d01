use Rattle.std.proofs.Common.{◌≡◌, ◌∙◌, ℕ, List, Option, Result, Some, None, Ok, Err, IfSome, IfOk, OnOk, is_ok, true, refl, sym, rules}
use Rattle.std.proofs.KnownBytes.{Appends-of_writes}
use Rattle.transcript.proofs.words.print.Goals as goal

-- what is so of an accepted result may be shown behind the text that there may be
behind_text : {E : Type 0} (text : Option (List ℕ)) (r : Result (Unit {0}) E) (P : List ℕ → Type 0) → (is_ok r ≡ true → IfSome text P) → IfSome text (λ bs. IfOk r (λ done. P bs))
behind_text None r P so = tt
behind_text (Some bs) (Ok x) P so = so refl
behind_text (Some bs) (Err e) P so = tt

accepted : {E : Type 0} (r : Result (Unit {0}) E) (X : Type 0) → OnOk r X → is_ok r ≡ true → X
accepted (Ok x) X told ok = told
accepted (Err e) X told ok = cc

each : (text : Option (List ℕ)) (P Q : List ℕ → Type 0) → ((bs : List ℕ) → P bs → Q bs) → IfSome text P → IfSome text Q
each None P Q so told = tt
each (Some bs) P Q so told = so bs told

pub returns : goal.returns
returns g c =
    behind_text (g.D.Display.output c.args.value) c.map_err.result _ (λ ok.
    each (g.D.Display.output c.args.value) _ _
    (λ bs wrote.
    let (name, bytes) = Appends-of_writes (λ t. t.printed.ghost_name) (λ t. Some t.printed.now.items) _ bs _ wrote in
    record { is = search rules })
    (accepted c.write-written.result _ c.write-written.ensures.writes (sym c.map_err.ensures.variant ∙ ok)))
