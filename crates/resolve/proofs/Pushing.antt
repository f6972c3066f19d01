-- OIDs pushed one after the other.
-- Assumes nothing.
use Rattle.std.proofs.Common.{◌≡◌, ℕ, ◌≤◌, Bool, List, [], ◌∷◌, length, sym, ap, ◌∙◌, arith}
use Rattle.std.proofs.lemmas.List.{length-map}
use Rattle.keys.specs.Senses.{oid_of}
use Rattle.finds.specs.declared.tables.Finds.{Finds}
use Rattle.finds.specs.Finds.{order_of, pushed, queue_of, reads_of, rows_of}
use Rattle.finds.proofs.Put.{few_oids}
use Rattle.resolve.specs.Rounds.{with_all}
use Rattle.resolve.proofs.Cut.{with_both, with_none, with_one}

pub few_queued : (f : Finds) → length (queue_of f) ≤ 257
few_queued f = omega (arith, few_oids f, length-map f.queue.items oid_of)

-- of all OIDs that were to be pushed into f, these are left to push into g
pub record Pushing (skip : ℕ → Bool) (all rest : List ℕ) (f g : Finds) : Type 0 where
  pub queue : with_all skip (queue_of g) rest ≡ with_all skip (queue_of f) all
  pub rows : rows_of g ≡ rows_of f
  pub order : order_of g ≡ order_of f
  pub reads : reads_of g ≡ reads_of f

module _ (skip : ℕ → Bool) (all : List ℕ) (f : Finds) where
  pub pushing_more :
      (rest : List ℕ) (o : ℕ) (later : List ℕ) (g h : Finds) → rest ≡ o ∷ later → Pushing skip all rest f g → queue_of h ≡ pushed skip (queue_of g) o →
      rows_of h ≡ rows_of g → order_of h ≡ order_of g → reads_of h ≡ reads_of g → Pushing skip all later f h
  pushing_more rest o later g h next so queue rows order reads = record {
    queue =
        ap (λ q. with_all skip q later) (queue ∙ with_one skip (queue_of g) o (few_queued g))
        ∙ with_both skip (o ∷ []) later (queue_of g)
        ∙ sym (ap (with_all skip (queue_of g)) next)
        ∙ so.queue;
    rows = rows ∙ so.rows;
    order = order ∙ so.order;
    reads = reads ∙ so.reads;
  }

  pub pushing_done : (rest : List ℕ) (g : Finds) → rest ≡ [] → Pushing skip all rest f g → queue_of g ≡ with_all skip (queue_of f) all
  pushing_done rest g none so = sym (ap (with_all skip (queue_of g)) none ∙ with_none skip (queue_of g) (few_queued g)) ∙ so.queue
