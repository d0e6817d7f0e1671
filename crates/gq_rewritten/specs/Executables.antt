-- Definitions of operations and fragments (GraphQL, October 2021, section 2.2).
use Rattle.gq_tree.specs.Plain.{Def, operation, fragment, type_system}

-- no definition of the type system
abbrev pub IsExecutable : {P : Type 0} → Def P → Type 0
IsExecutable (operation kind name variables directives set braces place) = Unit {0}
IsExecutable (fragment name on directives set braces place) = Unit {0}
IsExecutable (type_system definition) = ⊥
