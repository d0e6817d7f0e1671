-- An execution that is answered, and one that is refused.
use Rattle.std.proofs.Common.{◌≡◌, ℕ, Bool, List, Option, Some, None, Result, Ok, Err, IfOk, cond, inl, inr, refl, ap, ◌∙◌}
use Rattle.std.specs.Prelude.{is_none, option_and_then}
use Rattle.std.specs.Option.{option_map, option_or}
use Rattle.gq_project.specs.declared.document.Doc.{Doc}
use Rattle.gq_rules.specs.declared.valid.Invalid.{Invalid}
use Rattle.gq_meaning.specs.Values.{Text, Values}
use Rattle.gq_table.specs.Rows.{RowOf}
use Rattle.gq_check.specs.declared.files.File.{File}
use Rattle.gq_check.specs.declared.exec_fault.ExecFault.{ExecFault}
use Rattle.gq_check.specs.declared.exec_fault.ExecFault.TheVariants.{BadTable, BadVariables, Check}
use Rattle.gq_check.specs.declared.judging.Verdict.{Verdict}
use Rattle.gq_check.specs.Execution.{rows_in, variables_in, table_fault, variables_fault, exec_fault, told, responded}
use Rattle.gq_check.specs.Helping.ExecVerdicts.{IsExecVerdict, IsAnswered}
use Rattle.gq_check.specs.Files.{files_fault, documents_of}

table_fine : (table : Option (List ℕ)) (rows : List RowOf) → option_and_then rows_in table ≡ Some rows → table_fault table ≡ None
table_fine None rows e = absurd (cc)
table_fine (Some bytes) rows e = ap (λ (o : Option (List RowOf)). let b : Bool = is_none o in cond b (Some BadTable) None) e

variables_fine : (variables : Option (List ℕ)) (raw : Values) → option_and_then variables_in variables ≡ Some raw → variables_fault variables ≡ None
variables_fine None raw e = absurd (cc)
variables_fine (Some bytes) raw e = ap (λ (o : Option Values). let b : Bool = is_none o in cond b (Some BadVariables) None) e

no_fault : (table variables : Option (List ℕ)) (files : List File) (rows : List RowOf) (raw : Values) → option_and_then rows_in table ≡ Some rows → option_and_then variables_in variables ≡ Some raw → files_fault files ≡ None → exec_fault table variables files ≡ None
no_fault table variables files rows raw t v f =
    ap (λ (o : Option ExecFault). option_or o (option_or (variables_fault variables) (option_map Check (files_fault files)))) (table_fine table rows t)
    ∙ ap (λ (o : Option ExecFault). option_or o (option_map Check (files_fault files))) (variables_fine variables raw v)
    ∙ ap (λ o. option_map Check o) f

pub exec_verdict : (name : Option Text) (table variables : Option (List ℕ)) (files : List File) (rows : List RowOf) (raw : Values) (verdict : Verdict) → option_and_then rows_in table ≡ Some rows → option_and_then variables_in variables ≡ Some raw → files_fault files ≡ None →
    IsAnswered name rows raw (documents_of files) verdict → IsExecVerdict name table variables files verdict
exec_verdict name table variables files rows raw verdict t v f (inl r) = record {
  outcome = responded r.response;
  is_outcome = (no_fault table variables files rows raw t v f, r.valid, record { rows = rows; rows_are = t; raw = raw; raw_is = v; executed = r.executed });
  text = r.text;
  no_error = refl;
  no_reason = λ b t v. refl;
  status = r.status;
}
exec_verdict name table variables files rows raw verdict t v f (inr i) = record {
  outcome = told i.found;
  is_outcome = (no_fault table variables files rows raw t v f, i.invalid, i.report);
  text = i.text;
  no_error = refl;
  no_reason = λ b t v. refl;
  status = i.status;
}

pub same_as : (judged : Result (List Doc) Invalid) (project documents : List Doc) → IfOk judged (λ v. v ≡ project) → project ≡ documents → IfOk judged (λ v. v ≡ documents)
same_as (Ok v) project documents e f = e ∙ f
same_as (Err i) project documents e f = tt
