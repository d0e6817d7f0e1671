use Rattle.std.proofs.Common.{◌∙◌, List, ap, true, filter}
use Rattle.std.specs.Bool.{beq}
use Rattle.gq_fault.specs.declared.fault.Fault.{Fault}
use Rattle.gq_rules.specs.RestsOnFile.{rests_on_file}
use Rattle.gq_tree.specs.declared.parsed.Parsed.{Parsed}
use Rattle.gq_tree.specs.Readings.{parsed_view, unshared_view}
use Rattle.gq_types.specs.Look.{types_view}
use Rattle.gq_document.specs.Definitions.{operations_of, fragments_of, operations_view, fragments_view}
use Rattle.gq_rules.proofs.ByFile.{of_one}
use Rattle.gq_rules.proofs.by_file.found_in.Goals as goal

pub returns : goal.returns
returns c = of_one (types_view c.args.types.now) (parsed_view c.args.reading.now) _ _ _ _
    (ap operations_view c.deref.ensures.value ∙ c.in_ok-definitions.ensures.operations ∙ ap (λ (rs : List Parsed). operations_of (unshared_view rs)) c.from_ref.ensures.value)
    (ap fragments_view c.deref-2.ensures.value ∙ c.in_ok-definitions.ensures.fragments ∙ ap (λ (rs : List Parsed). fragments_of (unshared_view rs)) c.from_ref.ensures.value)
    c.in_ok-faults.ensures (c.in_ok-own.ensures ∙ ap (λ (fs : List Fault). filter (λ (z : Fault). beq (rests_on_file z.code) true) fs) c.deref-3.ensures.value)
