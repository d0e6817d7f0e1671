use Rattle.std.proofs.Common.{◌≡◌, ◌+◌, ◌*◌, Some, map, take, []}
use Rattle.gq_tree.specs.Forest.{none}
use Rattle.gq_meaning.specs.Results as result
use Rattle.gq_meaning.specs.Results.{key}
use Rattle.gq_meaning.specs.Response.{indexes}
use Rattle.gq_executor.proofs.Loops.{IsSoFar}
use Rattle.gq_meaning.specs.Expand.{sets_of}
use Rattle.gq_meaning.proofs.Height.{height}
use Rattle.gq_meaning.specs.Depth.{depth}
use Rattle.gq_meaning.proofs.Weights.{weight}
use Rattle.gq_table.specs.Views.{answer_view, answers_view}
use Rattle.gq_collect.specs.World.{definitions_in, deepest_in}
use Rattle.gq_response.specs.Views.{path_view, errors_view, data_view}
use Rattle.gq_collect.specs.Views.{asked_all, depth_seen, type_seen}
use Rattle.gq_executor.proofs.answer.+answer.Given as goal

abbrev pub decreases-answer : goal.decreases-answer
decreases-answer l = 8 * weight (deepest_in l.world) (height (definitions_in l.world) (sets_of (asked_all l.group.now))) (depth_seen l.found) + 7

abbrev pub decreases-answer_outcome : goal.decreases-answer_outcome
decreases-answer_outcome l = 8 * weight (deepest_in l.world) (height (definitions_in l.world) (sets_of (asked_all l.group.now))) (depth (answer_view l.outcome.now).below) + 6

abbrev pub decreases-answer_list : goal.decreases-answer_list
decreases-answer_list l = 8 * weight (deepest_in l.world) (height (definitions_in l.world) (sets_of (asked_all l.group.now))) (depth (answers_view l.items.now)) + 5

abbrev pub decreases-answer_item : goal.decreases-answer_item
decreases-answer_item l = 8 * weight (deepest_in l.world) (height (definitions_in l.world) (sets_of (asked_all l.group.now))) (depth (answer_view l.item.now).below) + 8

abbrev pub decreases-answer_object : goal.decreases-answer_object
decreases-answer_object l = 8 * weight (deepest_in l.world) (height (definitions_in l.world) (sets_of (asked_all l.group.now))) 0 + 5

abbrev pub decreases-answer_members : goal.decreases-answer_members
decreases-answer_members l = 8 * weight (deepest_in l.world) (height (definitions_in l.world) (sets_of (asked_all l.group.now))) 0 + 4

abbrev pub decreases-answer_key : goal.decreases-answer_key
decreases-answer_key l = 8 * weight (deepest_in l.world) (height (definitions_in l.world) (sets_of (asked_all l.group.now))) (deepest_in l.world) + 9

abbrev pub decreases-answer_field : goal.decreases-answer_field
decreases-answer_field l = 8 * weight (deepest_in l.world) (height (definitions_in l.world) (sets_of (asked_all l.group.now))) (deepest_in l.world) + 8

abbrev pub invariant-answer_members-loop-place : goal.invariant-answer_members-loop-place
invariant-answer_members-loop-place l =
    IsSoFar l.world (type_seen l.type_ref) (Some (record { label = result.object l.object l.number; below = none })) (asked_all l.group) (path_view l.fn.path.items) l.blocked
    (map key (take l.place l.plan.groups.keys)) (map (λ m. data_view m.value) l.members.items) (errors_view l.fn.errors.items) (errors_view l.errors.items)
    × (map (λ m. m.key) l.members.items ≡ take l.place l.plan.groups.keys) × (l.path.items ≡ l.fn.path.items)

abbrev pub invariant-answer_list-loop-index : goal.invariant-answer_list-loop-index
invariant-answer_list-loop-index l =
    IsSoFar l.world (type_seen l.type_ref) (Some (record { label = result.list; below = answers_view l.items })) (asked_all l.group) (path_view l.fn.path.items) l.blocked
    (take l.index (indexes 0 (answers_view l.items))) (map data_view l.values.items) (errors_view l.fn.errors.items) (errors_view l.errors.items)
    × (l.path.items ≡ l.fn.path.items)
