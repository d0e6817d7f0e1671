-- A project (section 5) in which selections in a row were put into a new fragment.
use Rattle.std.specs.Prelude.{◌≡◌, List, map}
use Rattle.gq_fault.specs.declared.fault.Fault.{Fault}
use Rattle.gq_tree.specs.Plain.{erase_document}
use Rattle.gq_tree.specs.Readings.{ParsedOf, definitions_read}
use Rattle.gq_types.specs.Entries.{Text}
use Rattle.gq_types.specs.Possible.{IsPossible}
use Rattle.gq_document.specs.Executable.{ExecutableOf}
use Rattle.gq_rewritten.specs.Rewrites.{rewritten_from}
use Rattle.gq_rules.specs.Project.{type_system_of, executable_of}
use Rattle.gq_rules.specs.RuleFaults.{IsRuleFault}
use Rattle.gq_laws.specs.Rewriting.Edits.{RunAt, extraction, CanExtract}
use Rattle.gq_laws.specs.Rewriting.Statics.{static_of, roots_in}
use Rattle.gq_laws.specs.Placing.Types.{IsFaultless}
use Rattle.gq_laws.specs.RewrittenValid.Faultless.{AreFaultless}
use Rattle.gq_laws.specs.RewrittenValid.Removed.{AreRooted}

-- Where no rule was broken, none of that kind is broken then, if some object type is possible where the selections stand.
abbrev pub ExtractsKeepRule : (ExecutableOf → Fault → Type 0) → Type 0
ExtractsKeepRule IsFault =
    (before after : List ParsedOf) (e : RunAt) (object : Text) →
    map erase_document (map definitions_read after) ≡ rewritten_from (extraction e) 0 (map definitions_read before) → AreRooted before →
    CanExtract (static_of (type_system_of before)) (roots_in (type_system_of before)) (map definitions_read before) e → IsPossible (type_system_of before) e.on object →
    AreFaultless (executable_of before) → IsFaultless IsFault (executable_of after)

-- So it is of all rules together.
abbrev pub ExtractsKeepAllRules : Type 0
ExtractsKeepAllRules =
    (before after : List ParsedOf) (e : RunAt) (object : Text) →
    map erase_document (map definitions_read after) ≡ rewritten_from (extraction e) 0 (map definitions_read before) → AreRooted before →
    CanExtract (static_of (type_system_of before)) (roots_in (type_system_of before)) (map definitions_read before) e → IsPossible (type_system_of before) e.on object →
    IsFaultless IsRuleFault (executable_of before) → IsFaultless IsRuleFault (executable_of after)
