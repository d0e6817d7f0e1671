use Rattle.std.proofs.Common.{rules, ◌≡◌, ◌↔◌, IsTrue, true, map, subst}
use Rattle.gq_tree.specs.Views.{argument_view}
use Rattle.gq_tree.specs.declared.tree.Selection.TheViews.{out-Field}
use Rattle.gq_types.specs.Look.{types_view, text_of}
use Rattle.gq_merging.specs.FieldsMerge.{can_coincide}
use Rattle.gq_merging.specs.SameArguments.{SameArguments}
use Rattle.gq_merging.specs.Helping.Views.{field_at}
use Rattle.gq_merging.proofs.CompareLemmas.{names_apart, arguments_apart}
use Rattle.gq_merging.proofs.comparing.calls_differ.Goals as goal

pub returns-then-ne : goal.returns-then-ne
returns-then-ne c =
    let meet : can_coincide (types_view c.args.types.now) (text_of c.args.left.now.parent) (text_of c.args.right.now.parent) ≡ true = search rules in
    let apart : (out-Field c.args.left.now.field.now).name.text ≡ (out-Field c.args.right.now.field.now).name.text → ⊥ = search rules in
    names_apart (types_view c.args.types.now) (field_at c.args.left.now) (field_at c.args.right.now) meet apart

pub returns : goal.returns
returns c =
    let meet : can_coincide (types_view c.args.types.now) (text_of c.args.left.now.parent) (text_of c.args.right.now.parent) ≡ true = search rules in
    let same : (out-Field c.args.left.now.field.now).name.text ≡ (out-Field c.args.right.now.field.now).name.text = search rules in
    arguments_apart (types_view c.args.types.now) (field_at c.args.left.now) (field_at c.args.right.now) c.in_ok-same.same meet same
    (subst (λ l. IsTrue c.in_ok-same.same ↔ SameArguments (map argument_view l) (field_at c.args.right.now).arguments) c.deref.ensures.value
    (subst (λ r. IsTrue c.in_ok-same.same ↔ SameArguments (map argument_view c.deref.result.now) (map argument_view r)) c.deref-2.ensures.value c.in_ok-same.ensures))
