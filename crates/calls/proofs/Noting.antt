-- What is noted stays so while no more is read.
-- Assumes nothing.
use Rattle.std.proofs.Common.{◌≡◌, ◌∙◌, ℕ, List, ap}
use Rattle.catalog.specs.Catalog.{Catalog}
use Rattle.life.specs.Calls.{Declared}
use Rattle.life.specs.Lists.{is_in}
use Rattle.book.specs.Held.{Held}
use Rattle.entries.specs.declared.notes.Notes.{Notes}
use Rattle.finds.specs.Finds.{reads_of}
use Rattle.finds.specs.declared.tables.Finds.{Finds}
use Rattle.calls.specs.Resolving.{Noted}

pub noted_still : (c : Catalog) (h : Held) (f g : Finds) (n : Notes) (ds : List Declared) (es : List ℕ) → reads_of g ≡ reads_of f → Noted c h f n ds es → Noted c h g n ds es
noted_still c h f g n ds es same noted = record {
  leads = noted.leads;
  apart = noted.apart;
  once = noted.once;
  other = λ o m. ap (is_in o) same ∙ noted.other o m;
  few = noted.few;
}
