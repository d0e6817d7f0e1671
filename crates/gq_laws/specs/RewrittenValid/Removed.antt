-- A project (section 5) in which an inline fragment that says nothing lost its braces.
use Rattle.std.specs.Prelude.{◌≡◌, ℕ, List, Some, Contains, map}
use Rattle.gq_text.specs.declared.place.Span.{Span}
use Rattle.gq_fault.specs.declared.fault.Fault.{Fault}
use Rattle.gq_tree.specs.Plain.{erase_document}
use Rattle.gq_tree.specs.Readings.{ParsedOf, definitions_read}
use Rattle.gq_types.specs.Entries.{Text}
use Rattle.gq_types.specs.Roots.{root_of}
use Rattle.gq_document.specs.Definitions.{OperationOf, operations_of, entries_of}
use Rattle.gq_document.specs.Executable.{ExecutableOf}
use Rattle.gq_rewritten.specs.Rewrites.{rewritten_from}
use Rattle.gq_rules.specs.Project.{type_system_of, executable_of}
use Rattle.gq_rules.specs.RuleFaults.{IsRuleFault}
use Rattle.gq_laws.specs.Merging.Edits.{AreKnown}
use Rattle.gq_laws.specs.Rewriting.Edits.{removal, CanRemove}
use Rattle.gq_laws.specs.Rewriting.Statics.{static_of, roots_in}
use Rattle.gq_laws.specs.Placing.Types.{IsFaultless}

-- Each operation has a root type.
abbrev pub AreRooted : List ParsedOf → Type 0
AreRooted readings = (o : OperationOf) → Contains (operations_of readings) o → (t : Text) × (root_of (type_system_of readings) o.kind ≡ Some t)

-- Where no rule of that kind was broken, none is broken then.
abbrev pub RemovalsKeepRule : (ExecutableOf → Fault → Type 0) → Type 0
RemovalsKeepRule IsFault =
    (before after : List ParsedOf) (file : ℕ) (place : Span) → entries_of before ≡ entries_of after →
    map erase_document (map definitions_read after) ≡ rewritten_from (removal file place) 0 (map definitions_read before) → AreRooted before →
    CanRemove (static_of (type_system_of before)) (roots_in (type_system_of before)) (map definitions_read before) file place →
    IsFaultless IsFault (executable_of before) → IsFaultless IsFault (executable_of after)

-- So it is of all rules together, where the parents of selections are known.
abbrev pub RemovalsKeepAllRules : Type 0
RemovalsKeepAllRules =
    (before after : List ParsedOf) (file : ℕ) (place : Span) → entries_of before ≡ entries_of after →
    map erase_document (map definitions_read after) ≡ rewritten_from (removal file place) 0 (map definitions_read before) → AreRooted before → AreKnown before →
    CanRemove (static_of (type_system_of before)) (roots_in (type_system_of before)) (map definitions_read before) file place →
    IsFaultless IsRuleFault (executable_of before) → IsFaultless IsRuleFault (executable_of after)
