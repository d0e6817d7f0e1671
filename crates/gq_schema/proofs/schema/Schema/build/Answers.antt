use Rattle.std.proofs.Common.{ap, subst, ◌∙◌, ◌++◌, length, arith}
use Rattle.std.proofs.lemmas.List.{nil_from_length}
use Rattle.std.proofs.lemmas.Bool.Decides.{nat_tests}
use Rattle.std.proofs.lemmas.Result.{err_from_is_err_and}
use Rattle.gq_tree.specs.Readings.{unshared_view}
use Rattle.gq_fault.specs.Tells.{told}
use Rattle.gq_parse.specs.Parsed.{AreParsed}
use Rattle.gq_types.specs.Look.{types_view}
use Rattle.gq_types.specs.BuiltIn.{built_in}
use Rattle.gq_document.specs.Definitions.{entries_of}
use Rattle.gq_schema.proofs.SchemaLemmas.{none_found, faults_found}
use Rattle.gq_schema.proofs.schema.Schema.build.Goals as goal

-- src/schema.rt:87:13
pub invariant_of-result : goal.invariant_of-result
invariant_of-result c = none_found (types_view c.in_ok-types.types) c.in_ok-faults.faults.items c.in_ok-faults.ensures.exact (nil_from_length _ (grind (arith, nat_tests)))

pub returns-then-is_empty-clause-schema : goal.returns-then-is_empty-clause-schema
returns-then-is_empty-clause-schema c = record {
  readings = unshared_view c.in_ok-readings.readings.items;
  are_readings = subst (λ ds. AreParsed ds (unshared_view c.in_ok-readings.readings.items)) c.documents.ensures.all c.in_ok-readings.ensures;
  is = c.in_ok-types.ensures ∙ ap (λ es. built_in ++ es) (c.in_ok-entries.ensures ∙ ap (λ rs. entries_of (unshared_view rs)) c.deref.ensures.value);
}

pub returns-then-is_empty-clause-valid : goal.returns-then-is_empty-clause-valid
returns-then-is_empty-clause-valid c = none_found (types_view c.in_ok-types.types) c.in_ok-faults.faults.items c.in_ok-faults.ensures.exact (nil_from_length _ (grind (arith, nat_tests)))

pub returns-clause-faults : goal.returns-clause-faults
returns-clause-faults c =
    faults_found c.args.project.now (unshared_view c.in_ok-readings.readings.items) (types_view c.in_ok-types.types) c.in_ok-faults.faults.items c.in_ok-found_at.field-0.items
    (subst (λ ds. AreParsed ds (unshared_view c.in_ok-readings.readings.items)) c.documents.ensures.all c.in_ok-readings.ensures)
    (c.in_ok-types.ensures ∙ ap (λ es. built_in ++ es) (c.in_ok-entries.ensures ∙ ap (λ rs. entries_of (unshared_view rs)) c.deref.ensures.value))
    c.in_ok-faults.ensures.sorted c.in_ok-faults.ensures.exact
    (c.in_ok-found_at.ensures ∙ ap (λ ds. told ds c.deref-2.result.now) c.documents-2.ensures.all ∙ ap (λ xs. told c.args.project.now xs) c.deref-2.ensures.value)
    (λ e. let l = ap length e in grind (arith, nat_tests))

pub returns-in_err-faults-clause-faults : goal.returns-in_err-faults-clause-faults
returns-in_err-faults-clause-faults c =
    let p = err_from_is_err_and c.from_residual-in_err-faults.result c.from_residual-in_err-faults.ensures.1 in
    rw (p.1, p.2) tt

pub returns-in_err-found_at-clause-faults : goal.returns-in_err-found_at-clause-faults
returns-in_err-found_at-clause-faults c =
    let p = err_from_is_err_and c.from_residual-in_err-found_at.result c.from_residual-in_err-found_at.ensures.1 in
    rw (p.1, p.2) tt
