use Rattle.std.proofs.Common.{◌≡◌, ap, arith, length}
use Rattle.std.proofs.lemmas.List.{length-take}
use Rattle.catalog.specs.Meaning.{row_meaning, shape_meaning, text_of}
use Rattle.book.proofs.Shapes.{parts_of_row, shape_of_row}
use Rattle.book.proofs.settling.size_of.Goals as goal

pub size_of_parts-parts-requires : goal.size_of_parts-parts-requires
size_of_parts-parts-requires c = parts_of_row (row_meaning c.args.row.now) (shape_meaning c.args.shape.now) c.requires

pub returns-clause-few : goal.returns-clause-few
returns-clause-few c =
    let name : length c.args.shape.now.name.now ≡ length (text_of c.args.row.now.pretty) = ap length (shape_of_row (row_meaning c.args.row.now) (shape_meaning c.args.shape.now) c.requires).0 in
    let parts = c.size_of_parts-parts.ensures.sizes in
    record {
      descriptors = omega arith;
      parts = omega (arith, c.size_of_parts-parts.ensures.parts_few);
      names = omega (arith, ap (λ s. s.names) parts);
      arrays = omega (arith, ap (λ s. s.arrays) parts);
      text = omega (arith, name, c.size_of_parts-parts.ensures.few, c.args.row.now.pretty.bytes.few, length-take c.args.row.now.pretty.bytes.count c.args.row.now.pretty.bytes.items);
      columns = omega (arith, ap (λ s. s.columns) parts);
      relations = omega (arith, ap (λ s. s.relations) parts);
    }
