-- A computed Fill is a step of any life, and refusal 9 has its place.
-- Assumes nothing.
use Rattle.std.proofs.Common.{◌≡◌, ℕ, List, None, Option, sym, ap, ◌∙◌, subst, arith}
use Rattle.catalog.specs.Catalog.{Catalog, Laws}
use Rattle.life.specs.Calls.{Call, fill, requests}
use Rattle.life.specs.Fill.{quiet_settled, quiet_outcome, QuietLaw, FillLaw, NineLaw}
use Rattle.life.specs.Keep.{kept}
use Rattle.life.specs.Life.{Lived}
use Rattle.life.specs.Lists.{first_place}
use Rattle.life.specs.Outcomes.{Outcome, concluded, closing, unresolved, Unresolved}
use Rattle.life.specs.Rounds.{Descriptors}
use Rattle.life.specs.Settle.{settled}
use Rattle.life.specs.Steps.{Book, accepts, Event, NamesStand}
use Rattle.life.specs.Walk.{Walked, ended, stopped, walk_from}
use Rattle.life.proofs.Keep.{keeping_step, lives_on}
use Rattle.life.proofs.Life.{fit}
use Rattle.life.proofs.Outcomes.{offence_bare, Next, refusal_next, fitted_next, last_quiet, fits_so, closing_keeps, closing_tells, closing_told, closing_nine, refused_first, unresolved_tells}
use Rattle.life.proofs.Walk.{Result, ended_counts, ended_reads, walk_result}

module _ (full : Book → Option ℕ) (h : List Event) (c : Catalog) (b : Book) (call : Call) (laws : Laws c) (l : Lived h c b) (quiet : NamesStand c b call → ⊥) where
  abbrev rs : List ℕ
  rs = requests c call

  walked_next : (w : Walked) → Result c b.descriptors rs ⊥ 0 w → Next c b call laws (concluded b (quiet_settled full c b call) w)
  walked_next (ended n reads) r =
      let x : Option ℕ = first_place (unresolved c (settled c b.descriptors reads)) 0 rs in
      let left : Book = kept c call reads b (accepts (closing n x None)) in
      fitted_next c b call laws (full left) (record { ending = closing n x None; left = left }) n r.2
      (keeping_step h c b call (closing n x None) reads n laws l (ended_reads c b.descriptors rs ⊥ 0 n reads r.0)
      (last_quiet c b.descriptors rs (NamesStand c b call) quiet n (ended_counts c b.descriptors rs ⊥ 0 n reads r.0))
      (closing_keeps n x None) (closing_tells n x None) (omega (arith, closing_told n x None, r.2)))
  walked_next (stopped n p k) r = refusal_next c b call laws n p k (offence_bare c b.descriptors rs 0 n p k r.0) r.1

  pub quiet_step : Next c b call laws (quiet_outcome full c b call)
  quiet_step = walked_next (walk_from c b.descriptors rs) (walk_result c b.descriptors rs)

pub quiet_law : QuietLaw
quiet_law full h c b call laws l quiet =
    lives_on h c b (quiet_outcome full c b call).left call (quiet_outcome full c b call).ending l (quiet_step full h c b call laws l quiet)

pub fill_law : FillLaw
fill_law full h c b rs laws l = quiet_law full h c b (fill rs) laws l (λ x. x)

pub nine_law : NineLaw
nine_law full h c b call l n reads w fits =
    let rs : List ℕ = requests c call in
    let d : Descriptors = settled c b.descriptors reads in
    let x : Option ℕ = first_place (unresolved c d) 0 rs in
    let left : Book = kept c call reads b (accepts (closing n x None)) in
    let fine : Outcome = record { ending = closing n x None; left = left } in
    let r = subst (Result c b.descriptors rs ⊥ 0) w (walk_result c b.descriptors rs) in
    let out : quiet_outcome full c b call ≡ fine = fits_so (quiet_outcome full c b call) fine (full left) b n (ap (concluded b (quiet_settled full c b call)) w) fits in
    let told : (quiet_outcome full c b call).ending ≡ closing n x None = ap (λ (o : Outcome). o.ending) out in
    refused_first (quiet_outcome full c b call).ending 9 n (unresolved c d) (Unresolved c) rs
    (unresolved_tells c b.descriptors rs (fit h c b l).sound reads (ended_reads c b.descriptors rs ⊥ 0 n reads r.0))
    (λ place. (λ y. (closing_nine n x None place).0 (sym told ∙ y), λ y. told ∙ (closing_nine n x None place).1 y))
