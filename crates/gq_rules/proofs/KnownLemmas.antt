-- What is put where it is known that nothing is wrong with the type system, and what a report tells that may be none.
use Rattle.std.proofs.Common.{◌≡◌, List, [], ◌++◌, Option, Some, None, IfSome, IfNone, sym, ◌∙◌, append-nil}
use Rattle.gq_names.proofs.RepeatLemmas.{contains_none}
use Rattle.gq_project.specs.declared.document.Doc.{Doc}
use Rattle.gq_fault.specs.declared.fault.Fault.{Fault}
use Rattle.gq_fault.specs.Adds.{AddsExactly}
use Rattle.gq_type_system.specs.SchemaFaults.{IsSchemaFault}
use Rattle.gq_document.specs.Executable.{ExecutableOf}
use Rattle.gq_rules.specs.declared.report.Report.{Report}
use Rattle.gq_rules.specs.RuleFaults.{IsRuleFault}
use Rattle.gq_rules.specs.Validity.{IsReportOf, IsValid, IsInvalid}
use Rattle.gq_rules.specs.Helping.Reported.{IsReported}
use Rattle.gq_rules.specs.Helping.Wrongs.{PutsWrong}
use Rattle.gq_rules.proofs.WrongLemmas.{rules_wrong, put_behind_none}

module _ (x : ExecutableOf) (sound : (fault : Fault) → IsSchemaFault x.entries fault → ⊥) where
  -- the rules alone are told
  pub rules_alone : (old found new : List Fault) → old ≡ [] → AddsExactly (IsRuleFault x) [] found → new ≡ old ++ found → PutsWrong x old new
  rules_alone old found new none told put = put_behind_none x old found new none (rules_wrong x found sound told) put

  -- something is told by then, and that is all
  pub nothing_more : (old : List Fault) → (old ≡ [] → ⊥) → PutsWrong x old old
  nothing_more old some = record {
    schema = [];
    exact = λ fault. ((λ c. absurd (contains_none fault c)), (λ f. absurd (sound fault f)));
    alone = λ _. sym (append-nil old);
    rules = λ none. absurd (some (sym (append-nil old) ∙ none));
  }

module _ (documents : List Doc) where
  pub none_is_valid : (report : Option Report) → IsReported documents report → IfNone report (IsValid documents)
  none_is_valid None r = r
  none_is_valid (Some report) r = tt

  pub some_is_invalid : (report : Option Report) → IsReported documents report → IfSome report (λ r. IsReportOf documents r.found.items × IsInvalid documents)
  some_is_invalid None r = tt
  some_is_invalid (Some report) r = r
