use Rattle.std.proofs.Common.{◌≡◌, ◌∙◌, ap, arith, length, min, refl, subst, sym}
use Rattle.std.specs.Option.{option_map}
use Rattle.catalog.specs.Meaning.{oid_told}
use Rattle.keys.specs.Spans.{span_bytes}
use Rattle.room.specs.Sizes.{capacities}
use Rattle.room.specs.Tables.{no_tables}
use Rattle.slots.specs.Stack.{slots_lent}
use Rattle.slots.specs.Text.{lent}
use Rattle.book.specs.Descriptions.{descriptions_of, members_of}
use Rattle.book.specs.Held.{Held}
use Rattle.book.specs.Stands.{Stands}
use Rattle.book.specs.Tables.{column_read}
use Rattle.book.proofs.Stands.{stands_new}
use Rattle.book.proofs.tables.Book.new.Goals as goal

pub returns-clause-held : goal.returns-clause-held
returns-clause-held c =
    let m = c.args.memory in
    let descriptors : slots_lent c.new.result ≡ length m.descriptors.now = ap slots_lent c.new.ensures ∙ omega arith in
    let parts : slots_lent c.new-3.result ≡ length m.parts.now = ap slots_lent c.new-3.ensures ∙ omega arith in
    let bytes : lent c.new-4.result.text ≡ length m.text.now = ap lent c.new-4.ensures.text ∙ omega arith in
    λ i.
    let text = (c.new-4.ensures.text i).text in
    record {
      descriptions = descriptions_of (members_of text (c.new-3.ensures i).items) text (c.new.ensures i).items;
      members = members_of text (c.new-3.ensures i).items;
      names = λ n. ap oid_told (c.new-4.ensures.holds n) i;
      arrays = λ e. ap oid_told (c.new-5.ensures.holds e) i;
      columns = λ p. option_map (column_read text) (c.new-6.ensures.holds p i);
      relations = λ r. option_map (span_bytes text) (c.new-7.ensures.holds r i);
      taken = record {
        descriptors = length (c.new.ensures i).items;
        parts = length (c.new-3.ensures i).items;
        names = c.new-4.ensures.count i;
        arrays = c.new-5.ensures.count i;
        text = length text;
        columns = c.new-6.ensures.count i;
        relations = c.new-7.ensures.count i;
      };
      capacity = capacities (record {
        descriptors = min (descriptors i) (c.new-2.ensures.size i);
        parts = parts i;
        names = c.new-4.ensures.size i;
        arrays = c.new-5.ensures.size i;
        text = bytes i;
        columns = c.new-6.ensures.size i;
        relations = c.new-7.ensures.size i;
      });
    }

pub returns-clause-stands : goal.returns-clause-stands
returns-clause-stands c = subst (λ (g : Held). Stands g no_tables) (sym (returns-clause-held c)) (stands_new _)

pub returns-clause-lived : goal.returns-clause-lived
returns-clause-lived c catalog = record { tables = no_tables; lived = refl; stands = returns-clause-stands c }
