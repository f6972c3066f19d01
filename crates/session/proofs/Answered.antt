-- A line that was carried out and ended is answered as it is to be. Assumes nothing.
use Rattle.std.proofs.Common.{◌≡◌, ℕ, Bool, List, Ok, Err, Result, OnOk, ap, sym, subst, ◌∙◌}
use Rattle.std.specs.declared.alloc.AllocError.{AllocError}
use Rattle.lines.specs.declared.trouble.Trouble.{Trouble}
use Rattle.lines.specs.declared.trouble.Trouble.TheVariants.{NotUnderstood, OutOfMemory}
use Rattle.transcript.specs.Appends.{Appends, Behind}
use Rattle.transcript.specs.declared.answers.Reason.{Reason}
use Rattle.session.specs.Catalogs.{Held}
use Rattle.session.specs.Lines.{Replies, Reply}
use Rattle.session.specs.Run.{Closes, Run, answered, ended, one_more, replied}

module _ (told : Result Reply Reason) (before mid after : List ℕ) (held then : Held) where
  pub prints : (number : ℕ) (r : Result Bool Trouble) (end : Result (Unit {0}) AllocError) → Replies told before mid held then r → Closes number r mid after end → Appends (answered number told) before after end
  prints number (Ok refused) end replies closes =
      subst (λ t. Appends (answered number t) before after end) (sym replies.1)
      (subst (Appends replies.0 before after) (sym closes.1) (subst (Behind before replies.0) (sym closes.0) replies.2))
  prints number (Err (NotUnderstood why)) end replies closes =
      subst (λ t. Appends (answered number t) before after end) (sym replies.0)
      (subst (λ m. Appends (answered number (Err why)) m after end) replies.1 closes)
  prints number (Err (OutOfMemory e)) end replies closes = subst (Appends (answered number told) before after) (sym closes) tt

  pub counts : (number : ℕ) (s done : Run) (r : Result Bool Trouble) (end : Result (Unit {0}) AllocError) →
      s.catalogs ≡ held → Replies told before mid held then r → Closes number r mid after end → OnOk end (done ≡ ended r (record s { catalogs = then })) → OnOk end (done ≡ replied told s)
  counts number s done (Ok refused) (Ok u) is replies closes e = e ∙ ap (λ t. replied t s) (sym replies.1)
  counts number s done (Ok refused) (Err a) is replies closes e = tt
  counts number s done (Err (NotUnderstood why)) (Ok u) is replies closes e =
      e ∙ (ap (λ (h : Held). record s { misread = one_more s.misread; catalogs = h }) (replies.2 ∙ sym is) ∙ ap (λ t. replied t s) (sym replies.0))
  counts number s done (Err (NotUnderstood why)) (Err a) is replies closes e = tt
  counts number s done (Err (OutOfMemory a)) (Ok u) is replies closes e = cc
  counts number s done (Err (OutOfMemory a)) (Err b) is replies closes e = tt
