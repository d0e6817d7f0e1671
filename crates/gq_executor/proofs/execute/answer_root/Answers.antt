use Rattle.std.proofs.Common.{◌≡◌, ap, ◌∙◌, subst, Some, []}
use Rattle.std.specs.Prelude.{not}
use Rattle.gq_tree.specs.Forest.{none}
use Rattle.gq_tree.specs.Views.{type_view}
use Rattle.gq_meaning.specs.Results as result
use Rattle.gq_meaning.specs.Response.{fits, root_fields}
use Rattle.gq_meaning.specs.Views.{set_in}
use Rattle.gq_collect.specs.World.{given_by, definitions_in}
use Rattle.gq_executor.specs.Answers.{IsAnswer}
use Rattle.gq_response.specs.Views.{path_view, errors_view, data_view}
use Rattle.gq_executor.proofs.Roots.{rank_one}
use Rattle.gq_executor.proofs.execute.answer_root.Goals as goal

pub answer_object-requires-clause-ranked : goal.answer_object-requires-clause-ranked
answer_object-requires-clause-ranked c = rank_one (definitions_in c.args.world) (set_in c.args.set.now) c.requires.ranked

pub answer_object-requires-clause-fits : goal.answer_object-requires-clause-fits
answer_object-requires-clause-fits c = ap (λ z. not (fits (given_by c.args.world) z (result.object c.args.root.now 0))) c.requires.type_is ∙ ap not c.requires.is_root

pub returns : goal.returns
returns c =
    subst (λ z. IsAnswer c.args.world (Some z) (Some (record { label = result.object c.args.root.now 0; below = none })) (root_fields (set_in c.args.set.now)) [] (errors_view c.args.errors.now.items) (errors_view c.answer_object.new.errors.items) (data_view c.in_ok-data.data)) c.requires.type_is
    (subst (λ z. IsAnswer c.args.world (Some (type_view c.args.type_ref.now)) (Some (record { label = result.object c.args.root.now 0; below = none })) (root_fields (set_in c.args.set.now)) (path_view z) (errors_view c.args.errors.now.items) (errors_view c.answer_object.new.errors.items) (data_view c.in_ok-data.data)) c.new-path.ensures.items
    c.in_ok-data.ensures.answer)
