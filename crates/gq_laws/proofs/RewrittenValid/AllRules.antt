-- After a removal, an extract or an inline no rule of executable definitions is broken.
use Rattle.std.proofs.Common.{◌≡◌, List, Some, Contains, map, refl, subst}
use Rattle.gq_fault.specs.FaultPlaces.{fault_at}
use Rattle.gq_fault.specs.declared.code.Code.TheVariants.{FragmentNameNotUnique}
use Rattle.gq_fault.specs.declared.fault.Fault.{Fault}
use Rattle.gq_tree.specs.Readings.{ParsedOf}
use Rattle.gq_document.specs.Definitions.{FragmentOf, fragments_of}
use Rattle.gq_document.specs.Executable.{ExecutableOf}
use Rattle.gq_meaning.specs.Expand.{Definition, find_definition}
use Rattle.gq_fields.specs.FieldFaults.{IsFieldFault}
use Rattle.gq_fragments.specs.FragmentFaults.{IsFragmentFault, repeated_fragment_name}
use Rattle.gq_fragments.specs.OperationFaults.{IsOperationFault}
use Rattle.gq_spreads.specs.SpreadFaults.{IsSpreadFault}
use Rattle.gq_variables.specs.VariableFaults.{IsVariableFault}
use Rattle.gq_rules.specs.Project.{executable_of}
use Rattle.gq_rules.specs.RuleFaults.{IsRuleFault, of_operations, of_fields, of_fragments, of_spreads, of_variables, of_merging}
use Rattle.gq_merging.specs.FieldsMerge.{IsMergingFault}
use Rattle.gq_laws.specs.Merging.Edits.{FieldsOutOfBracesMerge, InlinedFieldsMerge}
use Rattle.gq_laws.specs.Placing.Types.{IsFaultless}
use Rattle.gq_laws.specs.Rewriting.Statics.{seen_fragment}
use Rattle.gq_laws.proofs.Rewriting.Executables.{fragments_seen}
use Rattle.gq_laws.proofs.Rewriting.Named.{name_is}
use Rattle.gq_laws.specs.RewrittenValid.Faultless.{AreFaultless}
use Rattle.gq_laws.specs.RewrittenValid.Removed.{RemovalsKeepRule, RemovalsKeepAllRules}
use Rattle.gq_laws.specs.RewrittenValid.Extracted.{ExtractsKeepRule, ExtractsKeepAllRules}
use Rattle.gq_laws.specs.RewrittenValid.Inlined.{InlinesKeepRule, InlinesKeepAllRules}
use Rattle.gq_laws.proofs.RewrittenValid.OneName.{one_named}

-- each fragment is found by its name
pub each_found : (rs : List ParsedOf) → IsFaultless IsFragmentFault (executable_of rs) → (g : FragmentOf) → Contains (fragments_of rs) g → find_definition (map seen_fragment (fragments_of rs)) g.name.text ≡ Some (seen_fragment g)
each_found rs none g stands =
    let one : (f : FragmentOf) → Contains (fragments_of rs) f → f.name.text ≡ g.name.text → f ≡ g =
    λ f c e. one_named (λ (x : FragmentOf). x.name.text) (fragments_of rs)
    (λ x r. none (fault_at x.file FragmentNameNotUnique x.name) (repeated_fragment_name (record { later = x; is_repeated = r; is = refl }))) g f stands c e in
    subst (λ (ds : List Definition). find_definition ds g.name.text ≡ Some (seen_fragment g)) (fragments_seen rs) (name_is rs g stands one)

pub removals_keep_all_rules : RemovalsKeepRule IsFieldFault → RemovalsKeepRule IsOperationFault → RemovalsKeepRule IsFragmentFault → RemovalsKeepRule IsSpreadFault → RemovalsKeepRule IsVariableFault → FieldsOutOfBracesMerge →
    RemovalsKeepAllRules
removals_keep_all_rules fields operations fragments spreads variables merge before after file place entries is rooted known can none = by
  where
    fragments_fine : IsFaultless IsFragmentFault (executable_of after)
    fragments_fine = fragments before after file place entries is rooted can (λ f h. none f (of_fragments h))

    by : (f : Fault) → IsRuleFault (executable_of after) f → ⊥
    by f (of_operations h) = operations before after file place entries is rooted can (λ g k. none g (of_operations k)) f h
    by f (of_fields h) = fields before after file place entries is rooted can (λ g k. none g (of_fields k)) f h
    by f (of_fragments h) = fragments_fine f h
    by f (of_spreads h) = spreads before after file place entries is rooted can (λ g k. none g (of_spreads k)) f h
    by f (of_variables h) = variables before after file place entries is rooted can (λ g k. none g (of_variables k)) f h
    by f (of_merging h) =
        merge before after file place (record { entries = entries; is = is; rooted = rooted; found = each_found after fragments_fine }) known can (λ g k. none g (of_merging k)) f h

-- no fault of any rule, rule by rule
faultless : (x : ExecutableOf) → IsFaultless IsRuleFault x → AreFaultless x
faultless x none = record {
  fields = λ f h. none f (of_fields h);
  operations = λ f h. none f (of_operations h);
  fragments = λ f h. none f (of_fragments h);
  spreads = λ f h. none f (of_spreads h);
  variables = λ f h. none f (of_variables h);
  merging = λ f h. none f (of_merging h);
}

pub extracts_keep_all_rules : ExtractsKeepRule IsFieldFault → ExtractsKeepRule IsOperationFault → ExtractsKeepRule IsFragmentFault → ExtractsKeepRule IsSpreadFault → ExtractsKeepRule IsVariableFault → ExtractsKeepRule IsMergingFault →
    ExtractsKeepAllRules
extracts_keep_all_rules fields operations fragments spreads variables merging before after e object is rooted can possible none = by
  where
    fine : AreFaultless (executable_of before)
    fine = faultless (executable_of before) none

    by : (f : Fault) → IsRuleFault (executable_of after) f → ⊥
    by f (of_operations h) = operations before after e object is rooted can possible fine f h
    by f (of_fields h) = fields before after e object is rooted can possible fine f h
    by f (of_fragments h) = fragments before after e object is rooted can possible fine f h
    by f (of_spreads h) = spreads before after e object is rooted can possible fine f h
    by f (of_variables h) = variables before after e object is rooted can possible fine f h
    by f (of_merging h) = merging before after e object is rooted can possible fine f h

pub inlines_keep_all_rules : InlinesKeepRule IsFieldFault → InlinesKeepRule IsOperationFault → InlinesKeepRule IsFragmentFault → InlinesKeepRule IsSpreadFault → InlinesKeepRule IsVariableFault → InlinedFieldsMerge →
    InlinesKeepAllRules
inlines_keep_all_rules fields operations fragments spreads variables merge before after old s entries is rooted sound can its conditions named elsewhere none = by
  where
    fine : AreFaultless (executable_of before)
    fine = faultless (executable_of before) none

    fragments_fine : IsFaultless IsFragmentFault (executable_of after)
    fragments_fine = fragments before after old s entries is can its conditions named elsewhere fine

    by : (f : Fault) → IsRuleFault (executable_of after) f → ⊥
    by f (of_operations h) = operations before after old s entries is can its conditions named elsewhere fine f h
    by f (of_fields h) = fields before after old s entries is can its conditions named elsewhere fine f h
    by f (of_fragments h) = fragments_fine f h
    by f (of_spreads h) = spreads before after old s entries is can its conditions named elsewhere fine f h
    by f (of_variables h) = variables before after old s entries is can its conditions named elsewhere fine f h
    by f (of_merging h) =
        merge before after old s (record { entries = entries; is = is; rooted = rooted; found = each_found after fragments_fine }) sound can (λ g k. none g (of_merging k)) f h
