use Rattle.std.proofs.Common.{◌≡◌, ◌∙◌, ◌+◌, [], take, take-suc, add-one, subst, sym, ap, ◌++◌, ◌∷◌}
use Rattle.std.proofs.lemmas.List.{map-append}
use Rattle.gq_types.specs.Look.{types_view}
use Rattle.gq_merging.specs.Helping.SetTables.{AreNumbered}
use Rattle.gq_merging.specs.Helping.Views.{field_at, fields_at, sets_at, member_view, members_view}
use Rattle.gq_merging.proofs.Numbered.{one_numbered}
use Rattle.gq_merging.proofs.rows.numbered.Goals as goal

pub loop-field-preserved : goal.loop-field-preserved
loop-field-preserved c =
    let es = types_view c.args.types.now in
    let i = c.loop-field.field-index in
    let all = c.args.fields.now in
    let one = c.field-item.result in
    let old = sets_at c.args.sets.now.items in
    let new = sets_at c.put_set.new.sets.items in
    let longer : take (i + 1) all ≡ take i all ++ one ∷ [] =
    ap (λ k. take k all) (add-one i) ∙ take-suc all i _ c.loop-field-test.true ∙ ap (λ f. take i all ++ f ∷ []) (sym c.field-item.is) in
    let fields_are : fields_at (take (i + 1) all) ≡ fields_at (take i all) ++ field_at one ∷ [] = ap fields_at longer ∙ map-append field_at (take i all) (one ∷ []) in
    let before = members_view c.loop-field.members.items in
    let members_are : members_view c.push.new.self.items ≡ before ++ record { field_at = field_at one; below = c.in_ok-below.below } ∷ [] =
    ap members_view c.in_ok-push.ensures.items ∙ map-append member_view c.loop-field.members.items _ in
    let numbered = one_numbered es (fields_at (take i all)) old (sets_at c.loop-field.sets.items) new before (field_at one) c.in_ok-below.below c.loop-field.invariant.members c.in_ok-below.ensures.put in
    record {
      empty = c.in_ok-below.ensures.empty;
      members = subst (λ fs. AreNumbered es fs old new (members_view c.push.new.self.items)) (sym fields_are)
          (subst (λ ms. AreNumbered es (fields_at (take i all) ++ field_at one ∷ []) old new ms) (sym members_are) numbered);
    }
