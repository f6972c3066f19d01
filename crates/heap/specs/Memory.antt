-- How much memory a row table, a book and a step need.
-- Assumes nothing.
use Rattle.std.specs.Prelude.{◌≡◌, vec_len}
use Rattle.heap.specs.declared.books.BookMemory.{BookMemory}
use Rattle.heap.specs.declared.steps.FindsMemory.{FindsMemory}
use Rattle.heap.specs.declared.tables.TableMemory.{TableMemory}
use Rattle.heap.specs.declared.work.StepMemory.{StepMemory}

pub record Enough (m : TableMemory) : Type 0 where
  pub rows : vec_len m.rows ≡ 256
  pub names : vec_len m.names ≡ 512
  pub text : vec_len m.text ≡ 65536
  pub relations : vec_len m.relations ≡ 1024
  pub columns : vec_len m.columns ≡ 1024

-- of the maps twice as many slots as a book can use
pub record EnoughBook (m : BookMemory) : Type 0 where
  pub descriptors : vec_len m.descriptors ≡ 512
  pub index : vec_len m.index ≡ 1024
  pub parts : vec_len m.parts ≡ 4096
  pub names : vec_len m.names ≡ 2048
  pub arrays : vec_len m.arrays ≡ 2048
  pub text : vec_len m.text ≡ 65536
  pub columns : vec_len m.columns ≡ 2048
  pub relations : vec_len m.relations ≡ 256

pub record EnoughFinds (m : FindsMemory) : Type 0 where
  pub queue : vec_len m.queue ≡ 257
  pub index : vec_len m.index ≡ 512
  pub rows : vec_len m.rows ≡ 256
  pub order : vec_len m.order ≡ 256
  pub settled : vec_len m.settled ≡ 512

pub record EnoughWork (m : StepMemory) : Type 0 where
  pub finds : EnoughFinds m.finds
  pub leads : vec_len m.leads ≡ 256
  pub apart : vec_len m.apart ≡ 256
  pub apart_index : vec_len m.apart_index ≡ 512
  pub asked : vec_len m.asked ≡ 512
  pub found : vec_len m.found ≡ 256
  pub seen : vec_len m.seen ≡ 512
  pub text : vec_len m.text ≡ 32768
  pub names : vec_len m.names ≡ 512
