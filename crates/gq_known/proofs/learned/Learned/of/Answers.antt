use Rattle.std.proofs.Common.{◌∙◌, ◌++◌, ap, subst, length, List, arith}
use Rattle.std.proofs.lemmas.List.{nil_from_length}
use Rattle.std.proofs.lemmas.Bool.Decides.{nat_tests}
use Rattle.gq_project.specs.declared.document.Doc.{Doc}
use Rattle.gq_tree.specs.Readings.{SharedParsed, readings_view}
use Rattle.gq_parse.specs.Parsed.{AreParsed}
use Rattle.gq_types.specs.BuiltIn.{built_in}
use Rattle.gq_types.specs.Look.{types_view}
use Rattle.gq_document.specs.Definitions.{entries_of}
use Rattle.gq_known.proofs.LearnedLemmas.{none_found, some_found}
use Rattle.gq_known.proofs.learned.Learned.of.Goals as goal

pub returns : goal.returns
returns c =
    let rs = c.in_ok-readings.readings.items in
    let es = types_view c.in_ok-types.types in
    let faults = c.in_ok-schema_faults.field-0.items in
    record {
      are_readings = subst (λ (ds : List Doc). AreParsed ds (readings_view rs)) c.documents-documents.ensures.all c.in_ok-readings.ensures;
      is_type_system = c.in_ok-types.ensures ∙ ap (λ (xs : List SharedParsed). built_in ++ entries_of (readings_view xs)) c.deref.ensures.value;
      sound = λ yes. none_found es faults c.in_ok-schema_faults.ensures.exact (nil_from_length _ (grind (arith, nat_tests)));
      faulty = λ no. some_found es faults c.in_ok-schema_faults.ensures.exact (λ e. let l = ap length e in grind (arith, nat_tests));
    }
