-- A project in which a spread became an inline fragment (section 2.8) with the selections of its fragment.
use Rattle.std.specs.Prelude.{◌≡◌, List, Option, Some, None, map, Contains}
use Rattle.gq_text.specs.declared.place.Span.{Span}
use Rattle.gq_fault.specs.declared.fault.Fault.{Fault}
use Rattle.gq_tree.specs.Plain.{DirectiveOf, erase_document}
use Rattle.gq_tree.specs.Readings.{ParsedOf, definitions_read}
use Rattle.gq_types.specs.Entries.{Text}
use Rattle.gq_document.specs.Definitions.{entries_of}
use Rattle.gq_document.specs.Executable.{ExecutableOf}
use Rattle.gq_rewritten.specs.Rewrites.{rewritten_from}
use Rattle.gq_rules.specs.Project.{type_system_of, executable_of}
use Rattle.gq_rules.specs.RuleFaults.{IsRuleFault}
use Rattle.gq_laws.specs.Merging.Edits.{AreKnown}
use Rattle.gq_laws.specs.Rewriting.Edits.{SpreadAt, inlining, CanInline}
use Rattle.gq_laws.specs.Rewriting.Statics.{static_of, roots_in}
use Rattle.gq_laws.specs.Placing.Types.{IsFaultless}
use Rattle.gq_laws.specs.RewrittenValid.Faultless.{AreFaultless}
use Rattle.gq_laws.specs.RewrittenValid.Removed.{AreRooted}
use Rattle.gq_laws.specs.RewrittenValid.InlinedSpread.{IsCondition, IsItsFragment, IsSpreadElsewhere}

-- What goes is the fragment of the spread, and where none goes another spread of it stands. Where no rule was broken, none of that
-- kind is broken then.
abbrev pub InlinesKeepRule : (ExecutableOf → Fault → Type 0) → Type 0
InlinesKeepRule IsFault =
    (before after : List ParsedOf) (old : Option Text) (s : SpreadAt) → entries_of before ≡ entries_of after →
    map erase_document (map definitions_read after) ≡ rewritten_from (inlining s) 0 (map definitions_read before) →
    (can : CanInline (static_of (type_system_of before)) (roots_in (type_system_of before)) (map definitions_read before) old s) → IsItsFragment (executable_of before) can.name.text s →
    ((d : DirectiveOf Span) → Contains can.directives d → IsCondition d) → ((text : Text) → old ≡ Some text → text ≡ can.name.text) →
    (old ≡ None → IsSpreadElsewhere (executable_of before) can.name.text s) →
    AreFaultless (executable_of before) → IsFaultless IsFault (executable_of after)

-- So it is of all rules together, where each operation has a root type.
abbrev pub InlinesKeepAllRules : Type 0
InlinesKeepAllRules =
    (before after : List ParsedOf) (old : Option Text) (s : SpreadAt) → entries_of before ≡ entries_of after →
    map erase_document (map definitions_read after) ≡ rewritten_from (inlining s) 0 (map definitions_read before) → AreRooted before →
    AreKnown before → (can : CanInline (static_of (type_system_of before)) (roots_in (type_system_of before)) (map definitions_read before) old s) → IsItsFragment (executable_of before) can.name.text s →
    ((d : DirectiveOf Span) → Contains can.directives d → IsCondition d) → ((text : Text) → old ≡ Some text → text ≡ can.name.text) → (old ≡ None → IsSpreadElsewhere (executable_of before) can.name.text s) →
    IsFaultless IsRuleFault (executable_of before) → IsFaultless IsRuleFault (executable_of after)
