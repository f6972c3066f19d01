-- A line that cannot be read changes nothing, and prints nothing of its own. Assumes nothing.
use Rattle.std.proofs.Common.{◌≡◌, ℕ, Bool, List, Err, Result, refl, ap, sym, subst}
use Rattle.lines.specs.Reading.{Reads, seen}
use Rattle.lines.specs.declared.trouble.Trouble.{Trouble}
use Rattle.lines.specs.declared.trouble.Trouble.TheVariants.{NotUnderstood, OutOfMemory}
use Rattle.transcript.specs.declared.answers.Reason.{Reason}
use Rattle.session.specs.Catalogs.{Held}
use Rattle.session.specs.Lines.{Replies, Reply}

module _ {A B : Type 0} (view : A → B) (told : Result B Reason) (reply : B → Reply) (out : List ℕ) (held : Held) where
  unread_by : (e : Trouble) → Reads view told (Err e) → Replies (seen reply told) out out held held (Err e)
  unread_by (NotUnderstood why) e = (ap (seen reply) e, refl, refl)
  unread_by (OutOfMemory a) e = tt

  pub unread : (e : Trouble) (read : Result A Trouble) (r : Result Bool Trouble) → Reads view told read → read ≡ Err e → r ≡ Err e → Replies (seen reply told) out out held held r
  unread e read r reads is answered =
      subst (Replies (seen reply told) out out held held) (sym answered) (unread_by e (subst (Reads view told) is reads))
