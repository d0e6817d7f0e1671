-- What is wrong with the fields, arguments, directives and default values of operations and fragments: each fault that a rule
-- demands, one case a rule (sections 5.3.1, 5.3.3, 5.4, 5.6 and 5.7).
use Rattle.gq_fault.specs.declared.fault.Fault.{Fault}
use Rattle.gq_document.specs.Executable.{ExecutableOf}
use Rattle.gq_fields.specs.FieldSelections.{IsUnknownField}
use Rattle.gq_fields.specs.LeafFieldSelections.{HasWrongSelections}
use Rattle.gq_fields.specs.Arguments.{HasWrongArgument}
use Rattle.gq_fields.specs.Directives.{HasWrongDirective}
use Rattle.gq_fields.specs.Values.{HasWrongDefault}

pub data IsFieldFault (x : ExecutableOf) (fault : Fault) : Type 0 where
  unknown_field : IsUnknownField x fault → IsFieldFault x fault
  wrong_selections : HasWrongSelections x fault → IsFieldFault x fault
  wrong_argument : HasWrongArgument x fault → IsFieldFault x fault
  wrong_directive : HasWrongDirective x fault → IsFieldFault x fault
  wrong_default : HasWrongDefault x fault → IsFieldFault x fault
