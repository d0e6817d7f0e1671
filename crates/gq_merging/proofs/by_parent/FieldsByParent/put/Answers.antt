use Rattle.std.proofs.Common.{rules, ◌≡◌, ◌++◌, ◌∷◌, [], Some, None, true, false, is_some, ap, sym, subst, ◌∙◌}
use Rattle.std.proofs.lemmas.List.{map-append}
use Rattle.gq_types.specs.Joined.{kind_named}
use Rattle.gq_types.specs.Look.{types_view, text_of}
use Rattle.gq_types.specs.LookUps.{has_kind}
use Rattle.gq_types.specs.declared.entry.TypeKind.TheVariants as kind
use Rattle.gq_merging.specs.Helping.NameTables.{by_name_view}
use Rattle.gq_merging.specs.Helping.ParentTables.{parent_text, AreByParent}
use Rattle.gq_merging.specs.Helping.Views.{member_view, members_view}
use Rattle.gq_merging.proofs.ParentLemmas.{by_parent_unknown, by_parent_object, by_parent_other, by_parent_neither, text_is}
use Rattle.gq_merging.proofs.by_parent.FieldsByParent.put.Goals as goal

pub returns-in_default : goal.returns-in_default
returns-in_default c ms are =
    let none : text_of c.args.member.now.it.parent ≡ None = ap text_of c.in_default.is in
    by_parent_unknown (types_view c.args.types.now) (by_name_view c.args.self.now.of_objects) (members_view c.args.self.now.of_others.items) ms (member_view c.args.member.now) are none

pub returns-in_ok-put : goal.returns-in_ok-put
returns-in_ok-put c ms are =
    let parent : text_of c.args.member.now.it.parent ≡ Some c.in-Some.parent.now = ap text_of c.in-Some.is in
    let object : has_kind (types_view c.args.types.now) kind.Object c.in-Some.parent.now ≡ true = sym c.is_object.ensures ∙ c.if-is_object.true in
    by_parent_object (types_view c.args.types.now) (by_name_view c.args.self.now.of_objects) (members_view c.args.self.now.of_others.items) ms (member_view c.args.member.now) are
    c.in-Some.parent.now parent (by_name_view c.put.new.self) object
    (c.in_ok-put.ensures parent_text are.objects (text_is (member_view c.args.member.now) c.in-Some.parent.now parent) are.listed)

pub returns-in_ok-push : goal.returns-in_ok-push
returns-in_ok-push c ms are =
    let parent : text_of c.args.member.now.it.parent ≡ Some c.in-Some.parent.now = ap text_of c.in-Some.is in
    let object : has_kind (types_view c.args.types.now) kind.Object c.in-Some.parent.now ≡ false = sym c.is_object.ensures ∙ c.if-is_object.false in
    let known : is_some (kind_named (types_view c.args.types.now) c.in-Some.parent.now) ≡ true = search rules in
    let pushed : members_view c.push.new.self.items ≡ members_view c.args.self.now.of_others.items ++ member_view c.args.member.now ∷ [] =
    ap members_view c.in_ok-push.ensures.items ∙ map-append member_view c.args.self.now.of_others.items (c.args.member.now ∷ []) in
    subst (λ os. AreByParent (types_view c.args.types.now) (by_name_view c.args.self.now.of_objects) os (ms ++ member_view c.args.member.now ∷ [])) (sym pushed)
    (by_parent_other (types_view c.args.types.now) (by_name_view c.args.self.now.of_objects) (members_view c.args.self.now.of_others.items) ms (member_view c.args.member.now) are
    c.in-Some.parent.now parent object known)

pub returns-else-is_some : goal.returns-else-is_some
returns-else-is_some c ms are =
    let parent : text_of c.args.member.now.it.parent ≡ Some c.in-Some.parent.now = ap text_of c.in-Some.is in
    let object : has_kind (types_view c.args.types.now) kind.Object c.in-Some.parent.now ≡ false = sym c.is_object.ensures ∙ c.if-is_object.false in
    let known : is_some (kind_named (types_view c.args.types.now) c.in-Some.parent.now) ≡ false = search rules in
    by_parent_neither (types_view c.args.types.now) (by_name_view c.args.self.now.of_objects) (members_view c.args.self.now.of_others.items) ms (member_view c.args.member.now) are
    c.in-Some.parent.now parent object known
