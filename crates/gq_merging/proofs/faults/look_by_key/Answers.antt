use Rattle.std.proofs.Common.{◌≡◌, [], ap, ◌∙◌}
use Rattle.gq_document.specs.FieldSets.{key}
use Rattle.gq_merging.specs.Helping.NameTables.{by_name_view, fields_with}
use Rattle.gq_merging.specs.Helping.Views.{field_at, member_view, members_view, look_view}
use Rattle.gq_merging.proofs.LookLemmas.{look_keyed, look_unkeyed}
use Rattle.gq_merging.proofs.faults.look_by_key.Goals as goal

pub returns-in_ok-look_with : goal.returns-in_ok-look_with
returns-in_ok-look_with c =
    let those : members_view c.in-Some.those.now ≡ fields_with (by_name_view c.args.right.now) (key (field_at c.args.left.now.it)) =
    c.in-Some.ensures ∙ ap (fields_with (by_name_view c.args.right.now)) c.key.ensures in
    look_keyed (look_view c.args.look) (member_view c.args.left.now) (by_name_view c.args.right.now) (members_view c.in-Some.those.now)
    c.args.faults.now.items c.look_with.new.faults.items c.args.found.now.keys c.look_with.new.found.keys those c.in_ok-look_with.ensures

pub returns-in_default : goal.returns-in_default
returns-in_default c =
    let none : [] ≡ fields_with (by_name_view c.args.right.now) (key (field_at c.args.left.now.it)) =
    c.in_default.ensures ∙ ap (fields_with (by_name_view c.args.right.now)) c.key.ensures in
    look_unkeyed (look_view c.args.look) (member_view c.args.left.now) (by_name_view c.args.right.now) c.args.faults.now.items c.args.found.now.keys none
