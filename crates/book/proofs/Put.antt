-- What the tables hold once one thing more was put into them, and that they are sound again.
-- Assumes nothing.
use Rattle.std.proofs.Common.{◌≡◌, ℕ, ◌+◌, ◌≤◌, Bool, true, false, cond, List, [], ◌∷◌, ◌++◌, length, min, nat_eq, bytes_eq, Some, None, Option, sym, refl, ap, ◌∙◌, subst, arith, length-append}
use Rattle.std.proofs.lemmas.Bool.{le-leb}
use Rattle.std.proofs.lemmas.List.{append-nil, length-map, map-append}
use Rattle.std.specs.List.{list_all}
use Rattle.std.specs.Map.{update}
use Rattle.std.specs.Option.{option_map}
use Rattle.catalog.specs.Meaning.{oid_told}
use Rattle.indexes.specs.Known.{Gained, GainedName, HasEmpty, HasRoom, Interned, Names, by_attribute, by_oid, known}
use Rattle.indexes.proofs.Updates.{told_after}
use Rattle.keys.specs.declared.kinds.Attribute.{Attribute}
use Rattle.keys.specs.declared.span.Span.{Span}
use Rattle.keys.specs.Senses.{Pair, oid_of, pair_of, same_pair}
use Rattle.keys.specs.Spans.{span_bytes, span_end}
use Rattle.room.specs.Sizes.{Sizes, capacities}
use Rattle.slots.specs.Slots.{Entry, filled}
use Rattle.slots.specs.Stack.{LentItems, Pushed, slots_lent}
use Rattle.slots.specs.Text.{Laid, lent}
use Rattle.type_info.specs.declared.oid.Oid.{Oid}
use Rattle.life.proofs.Lists.{not_some_none}
use Rattle.book.specs.declared.descriptor.ColumnNames.{ColumnNames}
use Rattle.book.specs.declared.descriptor.Component.{Component}
use Rattle.book.specs.declared.descriptor.Descriptor.{Descriptor}
use Rattle.book.specs.declared.descriptor.Kind.{Kind}
use Rattle.book.specs.declared.descriptor.Part.{Part}
use Rattle.book.specs.declared.tables.Book.{Book}
use Rattle.book.specs.Adding.{description_with}
use Rattle.book.specs.Book.{held_of}
use Rattle.book.specs.Descriptions.{Description, Member, components_of, description_of, descriptions_of, head_of, member_of, members_of, slot_of, well_founded}
use Rattle.book.specs.Held.{Fits, Held, size_of_column_name, size_of_description, size_of_members, size_of_name, size_of_relation, sum_of, with_column_name, with_description, with_members, with_name, with_relation}
use Rattle.book.specs.Tables.{Inside, Sound, column_inside, column_read, descriptor_inside, holding, lent_to, part_inside, relation_inside, run_inside, span_inside, taken_by}
use Rattle.book.proofs.Appended.{slot_of_more}
use Rattle.book.proofs.Trees.{well_founded-append}
use Rattle.book.proofs.Growth.{all_kept, all_one_more, and_so, column_further, column_kept, descriptions_kept, descriptor_further, le_longer, members_kept, part_further, relation_further, relation_kept, span_kept}

-- sound tables that hold h
pub record Holds (h : Held) (descriptors : LentItems Descriptor) (index : List (Entry Oid ℕ)) (parts : LentItems Part) (names : Names Oid) (arrays : List (Entry Oid Oid)) (columns : List (Entry Attribute ColumnNames)) (relations : List (Entry Oid Span)) : Type 0 where
  pub held : holding descriptors index parts names arrays columns relations ≡ h
  pub inside : Inside descriptors index parts names arrays columns relations
  pub sound : Sound descriptors index parts names arrays columns relations

-- an item that is pushed where a slot is free stands behind the others
pub pushed_behind : {T : Type 0} (s : LentItems T) (x : T) (r : Option (Unit {0})) (u : LentItems T) → Pushed s x r u → length s.items + 1 ≤ slots_lent s →
    (u.items ≡ s.items ++ x ∷ []) × (slots_lent u ≡ slots_lent s)
pushed_behind s x (Some done) u pushed room = (
  pushed.0,
  let long : length u.items ≡ length s.items + 1 = ap length pushed.0 ∙ length-append s.items (x ∷ []) in omega (arith, long, pushed.1),
)
pushed_behind s x None u pushed room = absurd (omega (arith, room, pushed.0))

-- an absent key that is offered where there is room is added
pub taken : {V : Type 0} (before : Option V) (offered : V) (room added same : Type 0) (r : Option V) → Interned before offered room added same r → before ≡ None → room → added
taken None offered room added same (Some v) h none there = h.2
taken None offered room added same None h none there = absurd (h.0 there)
taken (Some w) offered room added same r h none there = absurd (not_some_none w refl none)

pub unmapped : {V W : Type 0} (g : V → W) (x : Option V) → option_map g x ≡ None → x ≡ None
unmapped g None e = refl
unmapped g (Some v) e = absurd (not_some_none (g v) refl e)

-- so much, as more was added
pub taken_is :
    (s more u : Sizes) →
    u.descriptors ≡ s.descriptors + more.descriptors → u.parts ≡ s.parts + more.parts → u.names ≡ s.names + more.names →
    u.arrays ≡ s.arrays + more.arrays → u.text ≡ s.text + more.text → u.columns ≡ s.columns + more.columns → u.relations ≡ s.relations + more.relations →
    u ≡ sum_of s more
taken_is s more u d p n a t c r = λ i. record { descriptors = d i; parts = p i; names = n i; arrays = a i; text = t i; columns = c i; relations = r i }

module _ (b : Book) where
  abbrev text : List ℕ
  text = b.names.text.text

  abbrev members : List Member
  members = members_of text b.parts.items

  members_long : length members ≡ length b.parts.items
  members_long = length-map b.parts.items (member_of text)

  descriptors_inside : list_all (descriptor_inside (length members) (length text)) b.descriptors.items ≡ true
  descriptors_inside = subst (λ n. list_all (descriptor_inside n (length text)) b.descriptors.items ≡ true) (sym members_long) b.inside.descriptors_inside

  -- where the descriptors and the index are as they were, and so much is held that fits
  module _ (parts : LentItems Part) (names : Names Oid) (arrays : List (Entry Oid Oid)) (columns : List (Entry Attribute ColumnNames)) (relations : List (Entry Oid Span))
      (h : Held) (held : holding b.descriptors b.index parts names arrays columns relations ≡ h) (same : h.descriptions ≡ (held_of b).descriptions) (fits : Fits h.taken h.capacity) where
    sound_again : Sound b.descriptors b.index parts names arrays columns relations
    sound_again =
        let told = ap (λ (x : Held). x.descriptions) held ∙ same in
        record {
          indexed = λ o. b.sound.indexed o ∙ ap (λ ds. slot_of ds o) (sym told);
          counted = b.sound.counted;
          founded = subst (λ ds. well_founded 0 ds ≡ true) (sym told) b.sound.founded;
          fits = subst (λ (x : Held). Fits x.taken x.capacity) (sym held) fits;
        }

  -- names were laid behind the text, or nothing was
  module _ (more : List ℕ) (names : Names Oid) (laid : names.text.text ≡ text ++ more) where
    members_now : members_of names.text.text b.parts.items ≡ members
    members_now = ap (λ x. members_of x b.parts.items) laid ∙ members_kept text more b.parts.items b.inside.parts_inside

    descriptions_now : (ns : List Member) → descriptions_of (members ++ ns) names.text.text b.descriptors.items ≡ (held_of b).descriptions
    descriptions_now ns =
        ap (λ x. descriptions_of (members ++ ns) x b.descriptors.items) laid
        ∙ descriptions_kept text more members ns b.descriptors.items descriptors_inside

    descriptions_stay : descriptions_of members names.text.text b.descriptors.items ≡ (held_of b).descriptions
    descriptions_stay = ap (λ ms. descriptions_of ms names.text.text b.descriptors.items) (sym (append-nil members)) ∙ descriptions_now []

    columns_now : (p : Pair) → option_map (column_read names.text.text) (by_attribute b.columns p) ≡ (held_of b).columns p
    columns_now p =
        ap (λ x. option_map (column_read x) (by_attribute b.columns p)) laid
        ∙ column_kept text more (by_attribute b.columns p) (b.inside.columns_inside p)

    relations_now : (r : ℕ) → option_map (span_bytes names.text.text) (by_oid b.relations r) ≡ (held_of b).relations r
    relations_now r =
        ap (λ x. option_map (span_bytes x) (by_oid b.relations r)) laid
        ∙ relation_kept text more (by_oid b.relations r) (b.inside.relations_inside r)

    longer : length names.text.text ≡ length text + length more
    longer = ap length laid ∙ length-append text more

    further : length text ≤ length names.text.text
    further = omega (arith, longer)

    parts_inside_now : list_all (part_inside (length names.text.text)) b.parts.items ≡ true
    parts_inside_now = all_kept (part_inside (length text)) (part_inside (length names.text.text)) (part_further (length text) (length names.text.text) further) b.parts.items b.inside.parts_inside

    descriptors_inside_now : (n : ℕ) → length b.parts.items ≤ n → list_all (descriptor_inside n (length names.text.text)) b.descriptors.items ≡ true
    descriptors_inside_now n l =
        all_kept (descriptor_inside (length b.parts.items) (length text)) (descriptor_inside n (length names.text.text))
        (descriptor_further (length b.parts.items) n (length text) (length names.text.text) l further)
        b.descriptors.items b.inside.descriptors_inside

    columns_inside_now : (p : Pair) → column_inside (length names.text.text) (by_attribute b.columns p) ≡ true
    columns_inside_now p = column_further (length text) (length names.text.text) further (by_attribute b.columns p) (b.inside.columns_inside p)

    relations_inside_now : (r : ℕ) → relation_inside (length names.text.text) (by_oid b.relations r) ≡ true
    relations_inside_now r = relation_further (length text) (length names.text.text) further (by_oid b.relations r) (b.inside.relations_inside r)

    -- where no more was put
    inside_still : Inside b.descriptors b.index b.parts names b.arrays b.columns b.relations
    inside_still = record {
      descriptors_inside = descriptors_inside_now (length b.parts.items) (omega arith);
      parts_inside = parts_inside_now;
      columns_inside = columns_inside_now;
      relations_inside = relations_inside_now;
    }

  -- a part
  module _ (name : List ℕ) (typed : Option Component) (span : Span) (names : Names Oid) (parts : LentItems Part)
      (fits : Fits (sum_of (held_of b).taken (size_of_members (record { called = name; typed = typed } ∷ []))) (held_of b).capacity)
      (slots : names.slots ≡ b.names.slots) (knows : (q : List ℕ) → known names q ≡ known b.names q) (same_lent : lent names.text ≡ lent b.names.text)
      (laid : Laid b.names.text name span names.text) (r : Option (Unit {0})) (pushed : Pushed b.parts (record { name = span; typed = typed }) r parts) where
    abbrev part : Part
    part = record { name = span; typed = typed }

    abbrev member : Member
    member = record { called = name; typed = typed }

    behind : (parts.items ≡ b.parts.items ++ part ∷ []) × (slots_lent parts ≡ slots_lent b.parts)
    behind = pushed_behind b.parts part r parts pushed (omega (arith, fits.parts))

    with_part : members_of names.text.text parts.items ≡ members ++ member ∷ []
    with_part =
        ap (members_of names.text.text) behind.0
        ∙ map-append (member_of names.text.text) b.parts.items (part ∷ [])
        ∙ (λ i. members_now name names laid.text i ++ record { called = laid.reads i; typed = typed } ∷ [])

    one_more : length parts.items ≡ length b.parts.items + 1
    one_more = ap length behind.0 ∙ length-append b.parts.items (part ∷ [])

    longer_text : length names.text.text ≡ length text + (0 + length name)
    longer_text = omega (arith, ap length laid.text, length-append text name)

    part_held : holding b.descriptors b.index parts names b.arrays b.columns b.relations ≡ with_members (held_of b) (member ∷ [])
    part_held = λ i. record {
      descriptions = ((λ j. descriptions_of (with_part j) names.text.text b.descriptors.items) ∙ descriptions_now name names laid.text (member ∷ [])) i;
      members = with_part i;
      names = λ n. oid_told (knows n i);
      arrays = (held_of b).arrays;
      columns = λ p. columns_now name names laid.text p i;
      relations = λ q. relations_now name names laid.text q i;
      taken = taken_is (held_of b).taken (size_of_members (member ∷ [])) (taken_by b.descriptors b.index parts names b.arrays b.columns b.relations)
          (omega arith) one_more (ap filled slots ∙ omega arith) (omega arith) longer_text (omega arith) (omega arith) i;
      capacity = capacities (record (lent_to b.descriptors b.index b.parts b.names b.arrays b.columns b.relations) { parts = behind.1 i; names = length (slots i); text = same_lent i });
    }

    part_inside_again : Inside b.descriptors b.index parts names b.arrays b.columns b.relations
    part_inside_again = record {
      descriptors_inside = descriptors_inside_now name names laid.text (length parts.items) (omega (arith, one_more));
      parts_inside =
          subst (λ ps. list_all (part_inside (length names.text.text)) ps ≡ true) (sym behind.0)
          (all_one_more (part_inside (length names.text.text)) b.parts.items part (parts_inside_now name names laid.text) (le-leb (span_end span) (length names.text.text) laid.within));
      columns_inside = columns_inside_now name names laid.text;
      relations_inside = relations_inside_now name names laid.text;
    }

    pub part_put : Holds (with_members (held_of b) (member ∷ [])) b.descriptors b.index parts names b.arrays b.columns b.relations
    part_put = record {
      held = part_held;
      inside = part_inside_again;
      sound = sound_again parts names b.arrays b.columns b.relations (with_members (held_of b) (member ∷ [])) part_held refl fits;
    }

  -- a descriptor
  module _ (oid : Oid) (name : List ℕ) (kind : Kind) (span : Span) (names : Names Oid) (descriptors : LentItems Descriptor) (index : List (Entry Oid ℕ))
      (fits : Fits (sum_of (held_of b).taken (size_of_description name)) (held_of b).capacity)
      (new : slot_of (held_of b).descriptions oid.0 ≡ None)
      (in_parts : run_inside (length members) kind ≡ true)
      (founded : well_founded (length (held_of b).descriptions) (description_with (held_of b) oid.0 name kind ∷ []) ≡ true)
      (slots : names.slots ≡ b.names.slots) (knows : (q : List ℕ) → known names q ≡ known b.names q) (same_lent : lent names.text ≡ lent b.names.text)
      (laid : Laid b.names.text name span names.text)
      (r : Option (Unit {0})) (pushed : Pushed b.descriptors (record { oid = oid; name = span; kind = kind }) r descriptors)
      (s : Option ℕ) (interned : Interned (by_oid b.index oid.0) (length b.descriptors.items) (HasEmpty b.index) (Gained nat_eq oid_of b.index oid.0 (length b.descriptors.items) index) (index ≡ b.index) s) where
    abbrev descriptor : Descriptor
    descriptor = record { oid = oid; name = span; kind = kind }

    abbrev description : Description
    description = description_with (held_of b) oid.0 name kind

    descriptions_long : length (held_of b).descriptions ≡ length b.descriptors.items
    descriptions_long = length-map b.descriptors.items (description_of members text)

    stacked : (descriptors.items ≡ b.descriptors.items ++ descriptor ∷ []) × (slots_lent descriptors ≡ slots_lent b.descriptors)
    stacked = pushed_behind b.descriptors descriptor r descriptors pushed (omega (arith, fits.descriptors))

    gained : Gained nat_eq oid_of b.index oid.0 (length b.descriptors.items) index
    gained = taken (by_oid b.index oid.0) (length b.descriptors.items) _ _ _ s interned (b.sound.indexed oid.0 ∙ new) (omega (arith, fits.descriptors, b.sound.counted))

    with_one : descriptions_of (members_of names.text.text b.parts.items) names.text.text descriptors.items ≡ (held_of b).descriptions ++ description ∷ []
    with_one =
        (λ i. descriptions_of (members_now name names laid.text i) names.text.text (stacked.0 i))
        ∙ map-append (description_of members names.text.text) b.descriptors.items (descriptor ∷ [])
        ∙ (λ i. descriptions_stay name names laid.text i ++ record { oid = oid.0; name = laid.reads i; head = head_of members kind; components = components_of members kind } ∷ [])

    one_descriptor_more : length descriptors.items ≡ length b.descriptors.items + 1
    one_descriptor_more = ap length stacked.0 ∙ length-append b.descriptors.items (descriptor ∷ [])

    descriptor_held : holding descriptors index b.parts names b.arrays b.columns b.relations ≡ with_description (held_of b) description
    descriptor_held = λ i. record {
      descriptions = with_one i;
      members = members_now name names laid.text i;
      names = λ n. oid_told (knows n i);
      arrays = (held_of b).arrays;
      columns = λ p. columns_now name names laid.text p i;
      relations = λ q. relations_now name names laid.text q i;
      taken = taken_is (held_of b).taken (size_of_description name) (taken_by descriptors index b.parts names b.arrays b.columns b.relations)
          one_descriptor_more (omega arith) (ap filled slots ∙ omega arith) (omega arith) (omega (arith, ap length laid.text, length-append text name)) (omega arith) (omega arith) i;
      capacity = capacities (record (lent_to b.descriptors b.index b.parts b.names b.arrays b.columns b.relations) { descriptors = min (stacked.1 i) (gained.size i); names = length (slots i); text = same_lent i });
    }

    descriptor_inside_again : Inside descriptors index b.parts names b.arrays b.columns b.relations
    descriptor_inside_again = record {
      descriptors_inside =
          subst (λ ds. list_all (descriptor_inside (length b.parts.items) (length names.text.text)) ds ≡ true) (sym stacked.0)
          (all_one_more (descriptor_inside (length b.parts.items) (length names.text.text)) b.descriptors.items descriptor
          (descriptors_inside_now name names laid.text (length b.parts.items) (omega arith))
          (and_so (span_inside (length names.text.text) span) (run_inside (length b.parts.items) kind) (le-leb (span_end span) (length names.text.text) laid.within) (subst (λ n. run_inside n kind ≡ true) members_long in_parts)));
      parts_inside = parts_inside_now name names laid.text;
      columns_inside = columns_inside_now name names laid.text;
      relations_inside = relations_inside_now name names laid.text;
    }

    descriptor_sound : Sound descriptors index b.parts names b.arrays b.columns b.relations
    descriptor_sound = record {
      indexed = λ o.
          gained.holds o
          ∙ (λ i. update nat_eq (λ p. b.sound.indexed p i) oid.0 (Some (sym descriptions_long i)) o)
          ∙ sym (slot_of_more (held_of b).descriptions description o new)
          ∙ ap (λ ds. slot_of ds o) (sym with_one);
      counted = omega (arith, gained.count, one_descriptor_more, b.sound.counted);
      founded =
          ap (well_founded 0) with_one
          ∙ well_founded-append 0 (held_of b).descriptions (description ∷ [])
          ∙ and_so (well_founded 0 (held_of b).descriptions) (well_founded (0 + length (held_of b).descriptions) (description ∷ [])) b.sound.founded
          (subst (λ n. well_founded n (description ∷ []) ≡ true) (omega arith) founded);
      fits = subst (λ (x : Held). Fits x.taken x.capacity) (sym descriptor_held) fits;
    }

    pub descriptor_put : Holds (with_description (held_of b) description) descriptors index b.parts names b.arrays b.columns b.relations
    descriptor_put = record { held = descriptor_held; inside = descriptor_inside_again; sound = descriptor_sound }

  -- a name that leads to an OID
  module _ (name : List ℕ) (oid : Oid) (names : Names Oid)
      (fits : Fits (sum_of (held_of b).taken (size_of_name name)) (held_of b).capacity) (fresh : known b.names name ≡ None)
      (r : Option Oid) (interned : Interned (known b.names name) oid (HasRoom b.names (length name)) (GainedName b.names name oid names) (names ≡ b.names) r) where
    gained_name : GainedName b.names name oid names
    gained_name = taken (known b.names name) oid _ _ _ r interned fresh (
      omega (arith, fits.names),
      record { lent = omega (arith, fits.text); told = omega (arith, fits.text) },
    )

    abbrev laid_name : names.text.text ≡ text ++ name
    laid_name = gained_name.text

    name_held : holding b.descriptors b.index b.parts names b.arrays b.columns b.relations ≡ with_name (held_of b) name oid.0
    name_held = λ i. record {
      descriptions = ((λ j. descriptions_of (members_now name names laid_name j) names.text.text b.descriptors.items) ∙ descriptions_stay name names laid_name) i;
      members = members_now name names laid_name i;
      names = told_after bytes_eq oid_told (known b.names) (known names) name oid gained_name.knows i;
      arrays = (held_of b).arrays;
      columns = λ p. columns_now name names laid_name p i;
      relations = λ q. relations_now name names laid_name q i;
      taken = taken_is (held_of b).taken (size_of_name name) (taken_by b.descriptors b.index b.parts names b.arrays b.columns b.relations)
          (omega arith) (omega arith) gained_name.count (omega arith) (omega (arith, ap length laid_name, length-append text name)) (omega arith) (omega arith) i;
      capacity = capacities (record (lent_to b.descriptors b.index b.parts b.names b.arrays b.columns b.relations) { names = gained_name.size i; text = gained_name.lent i });
    }

    pub name_put : Holds (with_name (held_of b) name oid.0) b.descriptors b.index b.parts names b.arrays b.columns b.relations
    name_put = record {
      held = name_held;
      inside = inside_still name names laid_name;
      sound = sound_again b.parts names b.arrays b.columns b.relations (with_name (held_of b) name oid.0) name_held refl fits;
    }

  -- the table of a relation
  module _ (relation : Oid) (table : List ℕ) (span : Span) (names : Names Oid) (relations : List (Entry Oid Span))
      (fits : Fits (sum_of (held_of b).taken (size_of_relation table)) (held_of b).capacity) (fresh : (held_of b).relations relation.0 ≡ None)
      (slots : names.slots ≡ b.names.slots) (knows : (q : List ℕ) → known names q ≡ known b.names q) (same_lent : lent names.text ≡ lent b.names.text)
      (laid : Laid b.names.text table span names.text)
      (r : Option Span) (interned : Interned (by_oid b.relations relation.0) span (HasEmpty b.relations) (Gained nat_eq oid_of b.relations relation.0 span relations) (relations ≡ b.relations) r) where
    gained_relation : Gained nat_eq oid_of b.relations relation.0 span relations
    gained_relation = taken (by_oid b.relations relation.0) span _ _ _ r interned (unmapped (span_bytes text) (by_oid b.relations relation.0) fresh) (omega (arith, fits.relations))

    relations_read : (λ q. option_map (span_bytes names.text.text) (by_oid relations q)) ≡ update nat_eq (held_of b).relations relation.0 (Some table)
    relations_read =
        told_after nat_eq (option_map (span_bytes names.text.text)) (by_oid b.relations) (by_oid relations) relation.0 span gained_relation.holds
        ∙ (λ i. update nat_eq (λ q. relations_now table names laid.text q i) relation.0 (Some (laid.reads i)))

    relation_held : holding b.descriptors b.index b.parts names b.arrays b.columns relations ≡ with_relation (held_of b) relation.0 table
    relation_held = λ i. record {
      descriptions = ((λ j. descriptions_of (members_now table names laid.text j) names.text.text b.descriptors.items) ∙ descriptions_stay table names laid.text) i;
      members = members_now table names laid.text i;
      names = λ n. oid_told (knows n i);
      arrays = (held_of b).arrays;
      columns = λ p. columns_now table names laid.text p i;
      relations = relations_read i;
      taken = taken_is (held_of b).taken (size_of_relation table) (taken_by b.descriptors b.index b.parts names b.arrays b.columns relations)
          (omega arith) (omega arith) (ap filled slots ∙ omega arith) (omega arith) (omega (arith, ap length laid.text, length-append text table)) (omega arith) gained_relation.count i;
      capacity = capacities (record (lent_to b.descriptors b.index b.parts b.names b.arrays b.columns b.relations) { names = length (slots i); text = same_lent i; relations = gained_relation.size i });
    }

    pub relation_put : Holds (with_relation (held_of b) relation.0 table) b.descriptors b.index b.parts names b.arrays b.columns relations
    relation_put = record {
      held = relation_held;
      inside = record {
        descriptors_inside = descriptors_inside_now table names laid.text (length b.parts.items) (omega arith);
        parts_inside = parts_inside_now table names laid.text;
        columns_inside = columns_inside_now table names laid.text;
        relations_inside = λ q.
            subst (λ x. relation_inside (length names.text.text) x ≡ true) (sym (gained_relation.holds q))
            (if_one_more (nat_eq relation.0 q) (by_oid b.relations q) (relations_inside_now table names laid.text q));
      };
      sound = sound_again b.parts names b.arrays b.columns relations (with_relation (held_of b) relation.0 table) relation_held refl fits;
    }
      where
        if_one_more : (t : Bool) (x : Option Span) → relation_inside (length names.text.text) x ≡ true → relation_inside (length names.text.text) (cond t (Some span) x) ≡ true
        if_one_more true x e = le-leb (span_end span) (length names.text.text) laid.within
        if_one_more false x e = e

  -- a column of a relation whose table is held
  module _ (at : Attribute) (table : Span) (name : List ℕ) (span : Span) (names : Names Oid) (columns : List (Entry Attribute ColumnNames))
      (fits : Fits (sum_of (held_of b).taken (size_of_column_name name)) (held_of b).capacity) (fresh : (held_of b).columns (pair_of at) ≡ None)
      (related : by_oid b.relations at.relation.0 ≡ Some table)
      (slots : names.slots ≡ b.names.slots) (knows : (q : List ℕ) → known names q ≡ known b.names q) (same_lent : lent names.text ≡ lent b.names.text)
      (laid : Laid b.names.text name span names.text)
      (r : Option ColumnNames) (interned : Interned (by_attribute b.columns (pair_of at)) (record { table = table; name = span }) (HasEmpty b.columns) (Gained same_pair pair_of b.columns (pair_of at) (record { table = table; name = span }) columns) (columns ≡ b.columns) r) where
    abbrev spans : ColumnNames
    spans = record { table = table; name = span }

    gained_column : Gained same_pair pair_of b.columns (pair_of at) spans columns
    gained_column = taken (by_attribute b.columns (pair_of at)) spans _ _ _ r interned (unmapped (column_read text) (by_attribute b.columns (pair_of at)) fresh) (omega (arith, fits.columns))

    table_inside : span_inside (length text) table ≡ true
    table_inside = sym (ap (relation_inside (length text)) related) ∙ b.inside.relations_inside at.relation.0

    columns_read : (λ p. option_map (column_read names.text.text) (by_attribute columns p)) ≡ update same_pair (held_of b).columns (pair_of at) (Some (record { table = span_bytes text table; column = name }))
    columns_read =
        told_after same_pair (option_map (column_read names.text.text)) (by_attribute b.columns) (by_attribute columns) (pair_of at) spans gained_column.holds
        ∙ (λ i. update same_pair (λ p. columns_now name names laid.text p i) (pair_of at) (Some (record { table = (ap (λ x. span_bytes x table) laid.text ∙ span_kept text name table table_inside) i; column = laid.reads i })))

    column_held : holding b.descriptors b.index b.parts names b.arrays columns b.relations ≡ with_column_name (held_of b) (pair_of at) (span_bytes text table) name
    column_held = λ i. record {
      descriptions = ((λ j. descriptions_of (members_now name names laid.text j) names.text.text b.descriptors.items) ∙ descriptions_stay name names laid.text) i;
      members = members_now name names laid.text i;
      names = λ n. oid_told (knows n i);
      arrays = (held_of b).arrays;
      columns = columns_read i;
      relations = λ q. relations_now name names laid.text q i;
      taken = taken_is (held_of b).taken (size_of_column_name name) (taken_by b.descriptors b.index b.parts names b.arrays columns b.relations)
          (omega arith) (omega arith) (ap filled slots ∙ omega arith) (omega arith) (omega (arith, ap length laid.text, length-append text name)) gained_column.count (omega arith) i;
      capacity = capacities (record (lent_to b.descriptors b.index b.parts b.names b.arrays b.columns b.relations) { names = length (slots i); text = same_lent i; columns = gained_column.size i });
    }

    pub column_put : Holds (with_column_name (held_of b) (pair_of at) (span_bytes text table) name) b.descriptors b.index b.parts names b.arrays columns b.relations
    column_put = record {
      held = column_held;
      inside = record {
        descriptors_inside = descriptors_inside_now name names laid.text (length b.parts.items) (omega arith);
        parts_inside = parts_inside_now name names laid.text;
        relations_inside = relations_inside_now name names laid.text;
        columns_inside = λ p.
            subst (λ x. column_inside (length names.text.text) x ≡ true) (sym (gained_column.holds p))
            (if_one_more (same_pair (pair_of at) p) (by_attribute b.columns p) (columns_inside_now name names laid.text p));
      };
      sound = sound_again b.parts names b.arrays columns b.relations (with_column_name (held_of b) (pair_of at) (span_bytes text table) name) column_held refl fits;
    }
      where
        if_one_more : (t : Bool) (x : Option ColumnNames) → column_inside (length names.text.text) x ≡ true → column_inside (length names.text.text) (cond t (Some spans) x) ≡ true
        if_one_more true x e = and_so (span_inside (length names.text.text) table) (span_inside (length names.text.text) span)
            (le_longer (span_end table) (length text) (length names.text.text) (further name names laid.text) table_inside)
            (le-leb (span_end span) (length names.text.text) laid.within)
        if_one_more false x e = e
