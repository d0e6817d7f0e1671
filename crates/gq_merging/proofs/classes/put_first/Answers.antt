use Rattle.std.proofs.Common.{◌≡◌, ◌∷◌, [], ◌++◌, ◌∙◌, ap}
use Rattle.std.specs.Option.{option_map}
use Rattle.gq_types.specs.Look.{types_view}
use Rattle.gq_document.specs.FieldSets.{key}
use Rattle.gq_merging.specs.Helping.Views.{field_at, member_view, rows_view}
use Rattle.gq_merging.specs.Helping.GroupViews.{classes_view}
use Rattle.gq_merging.proofs.ClassLemmas.{firsts_push, groups_push, keys_push, keyed_push, classes_first, takes_first}
use Rattle.gq_merging.proofs.classes.put_first.Goals as goal

pub returns-clause-keyed : goal.returns-clause-keyed
returns-clause-keyed c =
    let table : c.put_key.new.table ≡ option_map (λ names. names ++ key (field_at c.args.member.now.it) ∷ []) c.args.classes.now.table =
    c.in_ok-put_key.ensures ∙ ap (λ t. option_map (λ names. names ++ t ∷ []) c.args.classes.now.table) c.key.ensures in
    keyed_push c.args.classes.now.table c.put_key.new.table (classes_view c.args.classes.now).keys _ (key (field_at c.args.member.now.it)) table
    (keys_push c.args.classes.now.firsts.items c.push.new.self.items c.args.member.now c.in_ok-push.ensures.items) c.requires.keyed

pub returns-clause-classes : goal.returns-clause-classes
returns-clause-classes c =
    classes_first (types_view c.args.tables.types.now) (rows_view c.args.tables.rows.now) (member_view c.args.member.now) (classes_view c.args.classes.now) _ c.requires.classes
    c.put_number.new.group.items (keys_push c.args.classes.now.firsts.items c.push.new.self.items c.args.member.now c.in_ok-push.ensures.items)
    (firsts_push c.args.classes.now.firsts.items c.push.new.self.items c.args.member.now c.in_ok-push.ensures.items)
    (groups_push c.args.classes.now.groups.items c.push-2.new.self.items c.put_number.new.group c.in_ok-push-2.ensures.items) c.in_ok-put_number.ensures.range

pub returns-clause-takes : goal.returns-clause-takes
returns-clause-takes c =
    takes_first (types_view c.args.tables.types.now) (rows_view c.args.tables.rows.now) (member_view c.args.member.now) (classes_view c.args.classes.now) _ c.requires.classes
    c.put_number.new.group.items (keys_push c.args.classes.now.firsts.items c.push.new.self.items c.args.member.now c.in_ok-push.ensures.items)
    (firsts_push c.args.classes.now.firsts.items c.push.new.self.items c.args.member.now c.in_ok-push.ensures.items)
    (groups_push c.args.classes.now.groups.items c.push-2.new.self.items c.put_number.new.group c.in_ok-push-2.ensures.items) c.requires.absent c.in_ok-put_number.ensures.under
