use Rattle.std.proofs.Common.{refl}
use Rattle.type_info.specs.Table.{types, entries}
use Rattle.catalog.specs.Shape.{formed, shape}
use Rattle.worked_examples.proofs.Lives.{one_laws, one_life, asked_life}
use Rattle.worked_examples.proofs.examples_hold.Goals as goal

pub returns : goal.returns
unfolding types entries formed shape
returns c = record {
  built_in = record {
    int4 = refl;
    int4_array = refl;
    int4_range = refl;
    int2vector = refl;
    unknown = refl;
    zero = refl;
    largest = refl;
  };
  fill = record {
    two = refl;
    price = refl;
    crop = refl;
    edge_known = refl;
    hue_known = refl;
    no_more = refl;
    poor = refl;
    poor_spent = refl;
    missing = refl;
    nothing = refl;
    alone = refl;
    alone_unknown = refl;
    alone_again = refl;
    ring = refl;
    ring_from_egg = refl;
    ring_unknown = refl;
    chain_64 = refl;
    chain_65 = refl;
  };
  resolve = record {
    vector_ends = refl;
    vector_writes = refl;
    array_ends = refl;
    array_writes = refl;
    lacking_ends = refl;
    lacking_link = refl;
    lacking_name = refl;
    found_ends = refl;
    found_writes = refl;
    again = refl;
    no_room = refl;
    with_room = refl;
    described = refl;
    nameless = refl;
  };
  bind = record {
    ends = refl;
    writes = refl;
    poor = refl;
    poor_keeps = refl;
    poor_leaves = refl;
    poor_writes = refl;
    without = refl;
    quiet = refl;
  };
  life = record {
    laws = one_laws;
    first_ends = refl;
    second_ends = refl;
    life = one_life;
    knows = refl;
    as_meant = refl;
    asked_ends = refl;
    asked_life = asked_life;
  };
  early = record {
    most = refl;
    too_many = refl;
    too_many_fields = refl;
    apart = refl;
    no_slot = refl;
    no_column_slot = refl;
    nameless = refl;
    longest = refl;
    too_long = refl;
    too_long_element = refl;
    too_long_field = refl;
    at_end = refl;
    past_end = refl;
    one_first = refl;
    two_first = refl;
    told = refl;
    follows = refl;
  };
  ordinal = record {
    w = refl;
    h = refl;
    wh = refl;
    empty = refl;
    outside = refl;
    outside_too = refl;
  };
  capacities = record {
    whole = refl;
    fifteen = refl;
    just_fits = refl;
    no_descriptor = refl;
    no_part = refl;
    no_name = refl;
    no_byte = refl;
    nothing_kept = refl;
    again = refl;
    declared = refl;
    hue_too = refl;
    hue_left = refl;
    columns = refl;
    no_column_byte = refl;
    no_column = refl;
    no_relation = refl;
    types_kept = refl;
    no_parts = refl;
    no_parts_left = refl;
    full_size = refl;
    full_size_left = refl;
  };
}
