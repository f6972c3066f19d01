-- Memory of the size of its tables.
-- Assumes nothing.
use Rattle.binding.specs.Memory as columns
use Rattle.calls.specs.Work.{Lent}
use Rattle.calls.specs.declared.work.WorkMemory.{WorkMemory}
use Rattle.entries.specs.Notes as entries
use Rattle.finds.specs.Finds as finds

pub record Whole (m : WorkMemory) : Type 0 where
  pub finds_whole : finds.Whole m.finds
  pub notes_whole : entries.WholeNotes m.notes
  pub columns_whole : columns.Whole m.columns
  pub names_whole : Lent m.text.now m.names.now
