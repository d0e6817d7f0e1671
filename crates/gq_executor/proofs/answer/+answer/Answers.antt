use Rattle.std.proofs.Common.{rules, ◌≡◌, ℕ, ◌+◌, ◌*◌, ◌<◌, ◌≤◌, List, [], ◌∷◌, ◌++◌, length, get_or, take, map, Option, Some, None, refl, sym, ap, ◌∙◌, subst, arith, true, false}
use Rattle.std.specs.Prelude.{IfOk, ◌&&◌}
use Rattle.std.specs.Option.{option_map, option_and_then}
use Rattle.std.proofs.lemmas.Result.{IfOk-weaker}
use Rattle.std.proofs.lemmas.List.{map-append, length-map}
use Rattle.gq_tree.specs.Forest.{none}
use Rattle.gq_table.specs.Views.{leaf_view, answer_view, answers_view}
use Rattle.gq_table.proofs.Trees.{view_nothing, view_failed, view_leaf_result, view_object_result, view_list_result}
use Rattle.gq_meaning.specs.Values.{Text, text}
use Rattle.gq_meaning.specs.Shown as shown
use Rattle.gq_meaning.specs.Thin.{IsIn}
use Rattle.gq_meaning.specs.Acyclic.{Rankable}
use Rattle.gq_meaning.specs.Results as result
use Rattle.gq_meaning.specs.Results.{Answer, key}
use Rattle.gq_meaning.specs.Expand.{Asked, sets_of}
use Rattle.gq_meaning.specs.Response.{is_unfit, is_non_null, keys_after, of_key}
use Rattle.gq_meaning.specs.Answered.{is_null}
use Rattle.gq_meaning.proofs.Height.{height}
use Rattle.gq_meaning.proofs.Ranks.{height_over, fields_rank, fields_less, key_rank, key_less, key_there}
use Rattle.gq_meaning.specs.Depth.{depth}
use Rattle.gq_meaning.proofs.Weights.{weight, lighter_group}
use Rattle.gq_table.specs.Rows.{row_of}
use Rattle.gq_collect.specs.World.{given_by, rows_in, definitions_in, deepest_in}
use Rattle.gq_response.specs.Views.{step_view, path_view, errors_view, data_view}
use Rattle.gq_collect.specs.Views.{asked_of, asked_all, setting_in, type_seen, found_seen}
use Rattle.gq_executor.specs.Answers.{IsAnswer, IsFieldAnswer, IsItemAnswer}
use Rattle.gq_response.proofs.Trees.{view_null, view_leaf, view_list, view_object}
use Rattle.gq_executor.proofs.Loops.{unfit_answer, nothing_answer, failed_never, leaf_answer, leaf_never, begins, list_more, list_blocked, list_done, object_more, keys_more, object_blocked, object_done, depth_at, item_answer}
use Rattle.gq_executor.proofs.Fields.{field_answer, typename_answer}
use Rattle.gq_executor.proofs.PlanLemmas.{first_prepared, plan_is, lent_plan, along, group_at, keys_length, calls_length, call_at}
use Rattle.gq_collect.proofs.GroupLemmas.{in_keys_at}
use Rattle.gq_executor.proofs.answer.+answer.Goals as goal

pub answer-returns-then-is_unfit-clause-answer : goal.answer-returns-then-is_unfit-clause-answer
answer-returns-then-is_unfit-clause-answer t c =
    unfit_answer c.args.world (type_seen c.args.type_ref) (asked_all c.args.group.now) (path_view c.args.path.now.items) (found_seen c.args.found) _ _ _ view_null (sym c.is_unfit.ensures ∙ c.if-is_unfit.true)
    (c.in_ok-put_error.ensures ∙ ap (λ z. errors_view c.args.errors.now.items ++ path_view z ∷ []) c.deref.ensures.value)

pub answer_field-returns-clause-answer : goal.answer_field-returns-clause-answer
answer_field-returns-clause-answer t c =
    let call = first_prepared c.args.world c.args.object.now c.args.group.now c.index-group-0.result c.args.call.now c.requires.1.1.1.0 c.index-group-0.is c.requires.1.1.1.1 in
    field_answer c.args.world c.args.object.now c.args.number c.args.group.now c.index-group-0.result (type_seen c.args.call.now.type_ref) (found_seen c.in_ok-found.found) _ _ _ _ _ c.requires.1.1.1.0 c.index-group-0.is (sym c.eq.ensures ∙ c.if-eq.false)
    call.type_is (c.in_ok-found.ensures.is ∙ ap (option_and_then (row_of (rows_in c.args.world))) (call.call_is c.args.number))
    (ap (λ z. z && c.is_null.result) c.is_non_null.ensures ∙ ap (λ z. is_non_null (type_seen c.args.call.now.type_ref) && z) c.is_null.ensures) c.in_ok-value.ensures.answer

pub answer_field-returns-then-eq-clause-answer : goal.answer_field-returns-then-eq-clause-answer
answer_field-returns-then-eq-clause-answer t c =
    typename_answer c.args.world c.args.object.now c.args.number c.args.group.now c.index-group-0.result _ _ _ c.requires.1.1.1.0 c.index-group-0.is (sym c.eq.ensures ∙ c.if-eq.true)
    (view_leaf _ ∙ ap (λ z. record { shown = shown.leaf (text z); below = none }) c.in_ok-text.ensures.text)

pub answer_item-returns-clause-answer : goal.answer_item-returns-clause-answer
answer_item-returns-clause-answer t c =
    item_answer c.args.world (type_seen c.args.type_ref) (type_seen c.item_type-item_type.result) (answer_view c.args.item.now) (asked_all c.args.group.now) _ _ _ _ _ _ c.item_type-item_type.ensures
    (ap path_view c.in_ok-push.ensures.items ∙ map-append step_view c.args.path.now.items _)
    (ap (λ z. z && c.is_null.result) c.is_non_null.ensures ∙ ap (λ z. is_non_null (type_seen c.item_type-item_type.result) && z) c.is_null.ensures) c.in_ok-value.ensures.answer

pub answer_list-answer_item-requires : goal.answer_list-answer_item-requires
answer_list-answer_item-requires t c =
    let h = depth_at c.args.items.now c.loop-index.index c.index-items-index.result c.loop-index-test.true c.index-items-index.is in
    (omega (arith, h, c.decreases), (c.requires.ranked, lent_plan c.args.world (asked_all c.args.group.now) c.as_ref-plan.result c.in_ok-own.own c.as_ref-plan.ensures.value c.in_ok-own.ensures))

pub answer_list-loop-index-init : goal.answer_list-loop-index-init
answer_list-loop-index-init t c =
    (begins c.args.world (type_seen c.args.type_ref) (asked_all c.args.group.now) (path_view c.args.path.now.items) _ _ _ (ap (map data_view) c.new-values.ensures.items), refl)

pub answer_list-loop-index-preserved : goal.answer_list-loop-index-preserved
answer_list-loop-index-preserved t c = (
  list_more c.args.world (type_seen c.args.type_ref) (asked_all c.args.group.now) (path_view c.args.path.now.items) c.args.items.now c.loop-index.index c.index-items-index.result c.loop-index.blocked c.in_ok-stops.stops c.loop-index.values.items _ c.in_ok-stops.value
      (errors_view c.args.errors.now.items) (errors_view c.loop-index.errors.items) (errors_view c.answer_item.new.errors.items) c.loop-index-test.true c.index-items-index.is c.requires.fits c.in_ok-push.ensures.items c.loop-index.invariant.0
      (subst (λ z. IsItemAnswer c.args.world (type_seen c.args.type_ref) (answer_view c.index-items-index.result) (asked_all c.args.group.now) (path_view z ++ result.index c.loop-index.index ∷ []) (errors_view c.loop-index.errors.items) (errors_view c.answer_item.new.errors.items) c.in_ok-stops.stops (data_view c.in_ok-stops.value)) c.loop-index.invariant.1
      c.in_ok-stops.ensures.answer),
  c.in_ok-stops.ensures.path ∙ c.loop-index.invariant.1,
)

pub answer_list-returns-clause-answer : goal.answer_list-returns-clause-answer
answer_list-returns-clause-answer t c =
    list_done c.args.world (type_seen c.args.type_ref) (asked_all c.args.group.now) (path_view c.args.path.now.items) c.args.items.now c.loop-index.index c.loop-index.blocked (map data_view c.loop-index.values.items) _ _ _ (view_list c.loop-index.values) c.loop-index-test.false c.if-blocked.false c.requires.fits c.loop-index.invariant.0

pub answer_list-returns-clause-path : goal.answer_list-returns-clause-path
answer_list-returns-clause-path t c = c.loop-index.invariant.1

pub answer_list-returns-then-blocked-clause-answer : goal.answer_list-returns-then-blocked-clause-answer
answer_list-returns-then-blocked-clause-answer t c =
    list_blocked c.args.world (type_seen c.args.type_ref) (asked_all c.args.group.now) (path_view c.args.path.now.items) c.args.items.now c.loop-index.index c.loop-index.blocked (map data_view c.loop-index.values.items) _ _ _ view_null c.loop-index-test.false c.if-blocked.true c.requires.fits c.loop-index.invariant.0

pub answer_list-returns-then-blocked-clause-path : goal.answer_list-returns-then-blocked-clause-path
answer_list-returns-then-blocked-clause-path t c = c.loop-index.invariant.1

pub answer_members-answer_key-requires : goal.answer_members-answer_key-requires
answer_members-answer_key-requires t c =
    let plan = c.requires.1.1.1.1 in
    let facts = group_at c.args.world c.args.object.now (asked_all c.args.group.now) c.args.plan.now plan c.deref-one-items.result.now c.loop-place.place c.one-item.result c.get-key.result.now c.deref.result.now
    c.deref-one-items.ensures.value c.loop-place-test.true c.one-item.is c.get-key.ensures c.deref.ensures.value in
    let r = c.requires.1.1.0 in
    let ds = definitions_in c.args.world in
    let fs = plan.fields in
    let thin = plan.thin r.0 r.1 r.2 in
    let s = setting_in c.args.world c.args.object.now in
    let k = c.get-key.result.now in
    let there : 0 < length (of_key k fs) = key_there k [] fs (subst (λ z. IsIn z (keys_after [] fs)) (sym facts.key_is) (in_keys_at (keys_after [] fs) c.loop-place.place facts.within)) in
    let same = sym facts.group_is in
    let n : length (asked_all c.deref.result.now) ≡ length c.deref.result.now = length-map c.deref.result.now asked_of in
    let m = ap length same in
    let lower : height ds (sets_of (asked_all c.deref.result.now)) < height_over ds fs = subst (λ z. height ds (sets_of z) < height_over ds fs) same (key_less ds k fs there) in
    let under = fields_less s ds (asked_all c.args.group.now) fs r thin in
    let light = lighter_group (deepest_in c.args.world) (height ds (sets_of (asked_all c.deref.result.now))) (height ds (sets_of (asked_all c.args.group.now))) (omega arith) in
    let call = call_at c.args.world c.args.object.now (asked_all c.args.group.now) c.args.plan.now plan c.deref-one-items.result.now c.loop-place.place c.one-item.result c.deref.result.now c.index-call.result.now
    c.deref-one-items.ensures.value c.loop-place-test.true c.one-item.is c.deref.ensures.value c.index-call.ensures in
    (omega (arith, light, c.requires.1.0), (subst (λ z. Rankable ds (sets_of z)) same (key_rank ds k fs (fields_rank s ds (asked_all c.args.group.now) fs r thin)), (omega arith, call)))

pub answer_members-get-key-requires : goal.answer_members-get-key-requires
answer_members-get-key-requires t c =
    let n = keys_length c.args.world c.args.object.now (asked_all c.args.group.now) c.args.plan.now c.requires.1.1.1.1 in
    let l = ap length c.deref-one-items.ensures.value in
    omega (arith, n, l, c.loop-place-test.true)

pub answer_members-index-call-requires : goal.answer_members-index-call-requires
answer_members-index-call-requires t c =
    let n = calls_length c.args.world c.args.object.now (asked_all c.args.group.now) c.args.plan.now c.requires.1.1.1.1 in
    let l = ap length c.deref-one-items.ensures.value in
    let within : c.loop-place.place < length c.args.plan.now.calls.items = omega (arith, n, l, c.loop-place-test.true) in
    search (rules, within)

pub answer_members-loop-place-init : goal.answer_members-loop-place-init
answer_members-loop-place-init t c =
    (begins c.args.world (type_seen c.args.type_ref) (asked_all c.args.group.now) (path_view c.args.path.now.items) _ _ _ (ap (map (λ m. data_view m.value)) c.new-members.ensures.items), ap (map (λ m. m.key)) c.new-members.ensures.items, refl)

pub answer_members-loop-place-preserved : goal.answer_members-loop-place-preserved
answer_members-loop-place-preserved t c =
    let plan = c.requires.1.1.1.1 in
    let facts = group_at c.args.world c.args.object.now (asked_all c.args.group.now) c.args.plan.now plan c.deref-one-items.result.now c.loop-place.place c.one-item.result c.get-key.result.now c.deref.result.now
    c.deref-one-items.ensures.value c.loop-place-test.true c.one-item.is c.get-key.ensures c.deref.ensures.value in
    let r = c.requires.1.1.0 in
    let fs = plan.fields in
    let thin = plan.thin r.0 r.1 r.2 in
    let keys_are = plan.groups.keys_are in
    let here : Option Answer = Some (record { label = result.object c.args.object.now c.args.number; below = none }) in
    let k = c.get-key.result.now in (
      along c.args.world (type_seen c.args.type_ref) here (asked_all c.args.group.now) (path_view c.args.path.now.items) _ (keys_after [] fs) c.args.plan.now.groups.keys (c.loop-place.place + 1) _ (errors_view c.args.errors.now.items) (errors_view c.answer_key.new.errors.items) (sym keys_are)
          (object_more c.args.world (type_seen c.args.type_ref) (asked_all c.args.group.now) (path_view c.args.path.now.items) c.args.object.now c.args.number fs c.loop-place.place k (asked_all c.deref.result.now) c.loop-place.blocked c.in_ok-stops.stops
          c.loop-place.members.items _ _ (errors_view c.args.errors.now.items) (errors_view c.loop-place.errors.items) (errors_view c.answer_key.new.errors.items) c.requires.1.1.1.0 thin facts.within facts.key_is facts.group_is c.in_ok-push.ensures.items
          (along c.args.world (type_seen c.args.type_ref) here (asked_all c.args.group.now) (path_view c.args.path.now.items) c.loop-place.blocked c.args.plan.now.groups.keys (keys_after [] plan.fields) c.loop-place.place (map (λ m. data_view m.value) c.loop-place.members.items) (errors_view c.args.errors.now.items) (errors_view c.loop-place.errors.items) keys_are c.loop-place.invariant.0)
          (subst (λ z. IsFieldAnswer c.args.world c.args.object.now c.args.number (asked_all c.deref.result.now) (path_view z ++ result.key k ∷ []) (errors_view c.loop-place.errors.items) (errors_view c.answer_key.new.errors.items) c.in_ok-stops.stops (data_view c.in_ok-stops.value)) c.loop-place.invariant.2 c.in_ok-stops.ensures.answer)),
      keys_more c.args.world (type_seen c.args.type_ref) (asked_all c.args.group.now) (path_view c.args.path.now.items) c.args.plan.now.groups.keys c.loop-place.place k c.loop-place.members.items _ _ (let n = ap length keys_are in omega (arith, n, facts.within)) c.get-key.ensures c.in_ok-key.ensures.text c.in_ok-push.ensures.items c.loop-place.invariant.1,
      c.in_ok-stops.ensures.path ∙ c.loop-place.invariant.2,
    )

pub answer_members-returns-clause-answer : goal.answer_members-returns-clause-answer
answer_members-returns-clause-answer t c =
    let plan = c.requires.1.1.1.1 in
    let r = c.requires.1.1.0 in
    let thin = plan.thin r.0 r.1 r.2 in
    let keys_are = plan.groups.keys_are in
    let n = keys_length c.args.world c.args.object.now (asked_all c.args.group.now) c.args.plan.now plan in
    let o = ap length c.deref-one-items.ensures.value in
    let p = ap length keys_are in
    let here : Option Answer = Some (record { label = result.object c.args.object.now c.args.number; below = none }) in
    object_done c.args.world (type_seen c.args.type_ref) (asked_all c.args.group.now) (path_view c.args.path.now.items) c.args.object.now c.args.number plan.fields c.loop-place.place c.loop-place.blocked c.loop-place.members.items _ _ _
    (view_object c.loop-place.members) (omega (arith, n, o, p, c.loop-place-test.false)) c.if-blocked.false c.requires.1.1.1.0 thin (c.loop-place.invariant.1 ∙ ap (take c.loop-place.place) keys_are)
    (along c.args.world (type_seen c.args.type_ref) here (asked_all c.args.group.now) (path_view c.args.path.now.items) c.loop-place.blocked c.args.plan.now.groups.keys (keys_after [] plan.fields) c.loop-place.place (map (λ m. data_view m.value) c.loop-place.members.items) (errors_view c.args.errors.now.items) (errors_view c.loop-place.errors.items) keys_are c.loop-place.invariant.0)

pub answer_members-returns-clause-path : goal.answer_members-returns-clause-path
answer_members-returns-clause-path t c = c.loop-place.invariant.2

pub answer_members-returns-then-blocked-clause-answer : goal.answer_members-returns-then-blocked-clause-answer
answer_members-returns-then-blocked-clause-answer t c =
    let plan = c.requires.1.1.1.1 in
    let r = c.requires.1.1.0 in
    let thin = plan.thin r.0 r.1 r.2 in
    let keys_are = plan.groups.keys_are in
    let n = keys_length c.args.world c.args.object.now (asked_all c.args.group.now) c.args.plan.now plan in
    let o = ap length c.deref-one-items.ensures.value in
    let p = ap length keys_are in
    let here : Option Answer = Some (record { label = result.object c.args.object.now c.args.number; below = none }) in
    object_blocked c.args.world (type_seen c.args.type_ref) (asked_all c.args.group.now) (path_view c.args.path.now.items) c.args.object.now c.args.number plan.fields c.loop-place.place c.loop-place.blocked _ _ _ _
    view_null (omega (arith, n, o, p, c.loop-place-test.false)) c.if-blocked.true c.requires.1.1.1.0 thin
    (along c.args.world (type_seen c.args.type_ref) here (asked_all c.args.group.now) (path_view c.args.path.now.items) c.loop-place.blocked c.args.plan.now.groups.keys (keys_after [] plan.fields) c.loop-place.place (map (λ m. data_view m.value) c.loop-place.members.items) (errors_view c.args.errors.now.items) (errors_view c.loop-place.errors.items) keys_are c.loop-place.invariant.0)

pub answer_members-returns-then-blocked-clause-path : goal.answer_members-returns-then-blocked-clause-path
answer_members-returns-then-blocked-clause-path t c = c.loop-place.invariant.2

pub answer_outcome-answer_list-requires : goal.answer_outcome-answer_list-requires
answer_outcome-answer_list-requires t c =
    let same : answer_view c.args.outcome.now ≡ record { label = result.list; below = answers_view c.deref.result.now } =
    ap answer_view c.in-List.is ∙ view_list_result c.in-List.items ∙ ap (λ z. record { label = result.list; below = answers_view z }) (sym c.deref.ensures.value) in
    let d : depth (answer_view c.args.outcome.now).below ≡ depth (answers_view c.deref.result.now) = ap (λ z. depth z.below) same in
    (omega (arith, d, c.decreases), (c.requires.ranked, ap (λ z. is_unfit (given_by c.args.world) (type_seen c.args.type_ref) (Some z)) (sym same) ∙ c.requires.fits))

pub answer_outcome-answer_object-requires : goal.answer_outcome-answer_object-requires
answer_outcome-answer_object-requires t c =
    let same : answer_view c.args.outcome.now ≡ record { label = result.object c.as_str-object.result.now c.in-Object.number; below = none } =
    ap answer_view c.in-Object.is ∙ view_object_result c.in-Object.type_name c.in-Object.number ∙ ap (λ z. record { label = result.object z c.in-Object.number; below = none }) (sym c.as_str-object.ensures) in
    let d : depth (answer_view c.args.outcome.now).below ≡ 0 = ap (λ z. depth z.below) same in
    (omega (arith, d, c.decreases), (c.requires.ranked, ap (λ z. is_unfit (given_by c.args.world) (type_seen c.args.type_ref) (Some z)) (sym same) ∙ c.requires.fits))

pub answer_outcome-answer_members-requires : goal.answer_outcome-answer_members-requires
answer_outcome-answer_members-requires t c =
    let same : answer_view c.args.outcome.now ≡ record { label = result.object c.as_str-object.result.now c.in-Object.number; below = none } =
    ap answer_view c.in-Object.is ∙ view_object_result c.in-Object.type_name c.in-Object.number ∙ ap (λ z. record { label = result.object z c.in-Object.number; below = none }) (sym c.as_str-object.ensures) in
    let d : depth (answer_view c.args.outcome.now).below ≡ 0 = ap (λ z. depth z.below) same in
    let plan = plan_is c.args.world (asked_all c.args.group.now) c.args.plan c.in-Some-plan_for.plan c.as_str-object.result.now c.requires.plan c.in-Some-plan_for.ensures.plan c.in-Some-plan_for.ensures.object in
    (omega (arith, d, c.decreases), (c.requires.ranked, (ap (λ z. is_unfit (given_by c.args.world) (type_seen c.args.type_ref) (Some z)) (sym same) ∙ c.requires.fits, plan)))

pub answer_outcome-returns-in-Failed-clause-answer : goal.answer_outcome-returns-in-Failed-clause-answer
answer_outcome-returns-in-Failed-clause-answer t c =
    absurd (failed_never c.args.world (type_seen c.args.type_ref) (asked_all c.args.group.now) (path_view c.args.path.now.items) (answer_view c.args.outcome.now) (ap answer_view c.in-Failed.is ∙ view_failed) c.requires.fits)

pub answer_outcome-returns-in-List-clause-answer : goal.answer_outcome-returns-in-List-clause-answer
answer_outcome-returns-in-List-clause-answer t c =
    let same : answer_view c.args.outcome.now ≡ record { label = result.list; below = answers_view c.deref.result.now } =
    ap answer_view c.in-List.is ∙ view_list_result c.in-List.items ∙ ap (λ z. record { label = result.list; below = answers_view z }) (sym c.deref.ensures.value) in
    subst (λ (z : Answer). IfOk c.answer_list.result (λ d. IsAnswer c.args.world (type_seen c.args.type_ref) (Some z) (asked_all c.args.group.now) (path_view c.args.path.now.items) (errors_view c.args.errors.now.items) (errors_view c.answer_list.new.errors.items) (data_view d))) (sym same) c.answer_list.ensures.answer

pub answer_outcome-returns-in-None-clause-answer : goal.answer_outcome-returns-in-None-clause-answer
answer_outcome-returns-in-None-clause-answer t c =
    absurd (leaf_never c.args.world (type_seen c.args.type_ref) (asked_all c.args.group.now) (path_view c.args.path.now.items) (answer_view c.args.outcome.now) (leaf_view c.in-Leaf.leaf) (ap answer_view c.in-Leaf.is ∙ view_leaf_result c.in-Leaf.leaf) c.requires.fits
    (sym c.in_ok-written-in-Leaf.ensures ∙ ap (option_map leaf_view) c.in-None.is))

pub answer_outcome-returns-in-Nothing-clause-answer : goal.answer_outcome-returns-in-Nothing-clause-answer
answer_outcome-returns-in-Nothing-clause-answer t c =
    nothing_answer c.args.world (type_seen c.args.type_ref) (asked_all c.args.group.now) (path_view c.args.path.now.items) (answer_view c.args.outcome.now) _ _ view_null (ap answer_view c.in-Nothing.is ∙ view_nothing) c.requires.fits

pub answer_outcome-returns-in-Some-plan_for-clause-answer : goal.answer_outcome-returns-in-Some-plan_for-clause-answer
answer_outcome-returns-in-Some-plan_for-clause-answer t c =
    let same : answer_view c.args.outcome.now ≡ record { label = result.object c.as_str-object.result.now c.in-Object.number; below = none } =
    ap answer_view c.in-Object.is ∙ view_object_result c.in-Object.type_name c.in-Object.number ∙ ap (λ z. record { label = result.object z c.in-Object.number; below = none }) (sym c.as_str-object.ensures) in
    subst (λ (z : Answer). IfOk c.answer_members.result (λ d. IsAnswer c.args.world (type_seen c.args.type_ref) (Some z) (asked_all c.args.group.now) (path_view c.args.path.now.items) (errors_view c.args.errors.now.items) (errors_view c.answer_members.new.errors.items) (data_view d))) (sym same) c.answer_members.ensures.answer

pub answer_outcome-returns-in-None-plan_for-clause-answer : goal.answer_outcome-returns-in-None-plan_for-clause-answer
answer_outcome-returns-in-None-plan_for-clause-answer t c =
    let same : answer_view c.args.outcome.now ≡ record { label = result.object c.as_str-object.result.now c.in-Object.number; below = none } =
    ap answer_view c.in-Object.is ∙ view_object_result c.in-Object.type_name c.in-Object.number ∙ ap (λ z. record { label = result.object z c.in-Object.number; below = none }) (sym c.as_str-object.ensures) in
    subst (λ (z : Answer). IfOk c.answer_object.result (λ d. IsAnswer c.args.world (type_seen c.args.type_ref) (Some z) (asked_all c.args.group.now) (path_view c.args.path.now.items) (errors_view c.args.errors.now.items) (errors_view c.answer_object.new.errors.items) (data_view d))) (sym same) c.answer_object.ensures.answer

pub answer_outcome-returns-in-Some-clause-answer : goal.answer_outcome-returns-in-Some-clause-answer
answer_outcome-returns-in-Some-clause-answer t c =
    leaf_answer c.args.world (type_seen c.args.type_ref) (asked_all c.args.group.now) (path_view c.args.path.now.items) (answer_view c.args.outcome.now) _ _ (leaf_view c.in-Leaf.leaf) (leaf_view c.in-Some.leaf) (view_leaf c.in-Some.leaf)
    (ap answer_view c.in-Leaf.is ∙ view_leaf_result c.in-Leaf.leaf) c.requires.fits (sym c.in_ok-written-in-Leaf.ensures ∙ ap (option_map leaf_view) c.in-Some.is)
