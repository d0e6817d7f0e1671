use Rattle.std.proofs.Common.{rules, ◌<◌, length, refl}
use Rattle.gq_types.specs.Look.{types_view}
use Rattle.gq_document.specs.FieldSets.{key}
use Rattle.gq_merging.specs.Helping.GroupTables.{SayTheSame}
use Rattle.gq_merging.specs.Helping.Views.{field_at, member_view, rows_view}
use Rattle.gq_merging.specs.Helping.GroupViews.{classes_view}
use Rattle.gq_merging.proofs.ClassLemmas.{places_within, group_at, member_at, group_in_range, groups_set, classes_other, takes_other}
use Rattle.gq_merging.proofs.classes.put_other.Goals as goal

pub put_number-requires : goal.put_number-requires
put_number-requires c =
    let within : c.args.place < length c.args.classes.now.groups.items = (places_within (rows_view c.args.tables.rows.now) c.args.classes.now (key (field_at c.args.member.now.it)) c.args.place c.requires.classes c.requires.place).1 in
    record {
      range = group_in_range (rows_view c.args.tables.rows.now) c.args.classes.now.groups.items c.args.place c.index_mut.result.now within c.index_mut.ensures.value c.requires.classes.range;
    }

pub returns-clause-classes : goal.returns-clause-classes
returns-clause-classes c =
    classes_other (types_view c.args.tables.types.now) (rows_view c.args.tables.rows.now) (member_view c.args.member.now) (classes_view c.args.classes.now) _ c.requires.classes
    c.args.place c.index_mut.result.now.items c.put_number.new.group.items refl refl (groups_set c.args.classes.now.groups.items c.args.place c.put_number.new.group) c.in_ok-put_number.ensures.range

pub returns-clause-takes : goal.returns-clause-takes
returns-clause-takes c =
    let within : c.args.place < length c.args.classes.now.groups.items = (places_within (rows_view c.args.tables.rows.now) c.args.classes.now (key (field_at c.args.member.now.it)) c.args.place c.requires.classes c.requires.place).1 in
    let within_firsts : c.args.place < length c.args.classes.now.firsts.items = (places_within (rows_view c.args.tables.rows.now) c.args.classes.now (key (field_at c.args.member.now.it)) c.args.place c.requires.classes c.requires.place).0 in
    let same : SayTheSame (types_view c.args.tables.types.now) (field_at c.index.result.now.it) (field_at c.args.member.now.it) = search rules in
    λ t. takes_other (types_view c.args.tables.types.now) (rows_view c.args.tables.rows.now) (member_view c.args.member.now) (classes_view c.args.classes.now) _ c.requires.classes
    c.args.place c.index_mut.result.now.items c.put_number.new.group.items refl refl (groups_set c.args.classes.now.groups.items c.args.place c.put_number.new.group)
    (member_view c.index.result.now) c.requires.place (member_at c.args.classes.now.firsts.items c.args.place c.index.result.now within_firsts c.index.ensures) same
    (group_at c.args.classes.now.groups.items c.args.place c.index_mut.result.now within c.index_mut.ensures.value) c.in_ok-put_number.ensures.kept c.in_ok-put_number.ensures.under
