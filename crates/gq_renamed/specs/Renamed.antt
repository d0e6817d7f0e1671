-- The trees of a document with names changed.
use Rattle.std.specs.Prelude.{ℕ, ◌+◌, List, [], ◌∷◌, map}
use Rattle.gq_tree.specs.Forest.{relabel, relabel_tree}
use Rattle.gq_tree.specs.Plain.{NameOf, Says, Part, Val, DirectiveOf, VariableOf, Head, Sels, Def, variable, int, float, string, boolean, null, enum, list, object, field, spread, inline, operation, fragment, type_system}
use Rattle.gq_renamed.specs.Renamings.{Renaming, renamed_text}

abbrev pub rename_fragment : {P : Type 0} → Renaming → List ℕ → NameOf P → NameOf P
rename_fragment renaming new name = record { text = renamed_text renaming.fragments new name.text; place = name.place }

abbrev pub rename_variable : {P : Type 0} → Renaming → List ℕ → NameOf P → NameOf P
rename_variable renaming new name = record { text = renamed_text renaming.variables new name.text; place = name.place }

-- a variable among values is renamed
abbrev pub rename_says : {P : Type 0} → Renaming → List ℕ → Says P → Says P
rename_says renaming new (variable name place) = variable (rename_variable renaming new name) place
rename_says renaming new (int text place) = int text place
rename_says renaming new (float text place) = float text place
rename_says renaming new (string text place) = string text place
rename_says renaming new (boolean value place) = boolean value place
rename_says renaming new (null place) = null place
rename_says renaming new (enum name) = enum name
rename_says renaming new (list place) = list place
rename_says renaming new (object place) = object place

abbrev pub rename_part : {P : Type 0} → Renaming → List ℕ → Part P → Part P
rename_part renaming new part = record { key = part.key; says = rename_says renaming new part.says }

abbrev pub rename_value : {P : Type 0} → Renaming → List ℕ → Val P → Val P
rename_value renaming new value = relabel_tree (rename_part renaming new) value

abbrev pub rename_directive : {P : Type 0} → Renaming → List ℕ → DirectiveOf P → DirectiveOf P
rename_directive renaming new d = record { name = d.name; arguments = map (rename_value renaming new) d.arguments; place = d.place }

-- Of a variable's definition its name is changed; its default value and its directives hold no variable (section 2.10).
abbrev pub rename_definition : {P : Type 0} → Renaming → List ℕ → VariableOf P → VariableOf P
rename_definition renaming new v = record { name = rename_variable renaming new v.name; place = v.place; type_ref = v.type_ref; default = v.default; directives = v.directives }

-- a spread is renamed, and what stands in arguments and directives
abbrev pub rename_head : {P : Type 0} → Renaming → List ℕ → Head P → Head P
rename_head renaming new (field alias name arguments directives braces place) = field alias name (map (rename_value renaming new) arguments) (map (rename_directive renaming new) directives) braces place
rename_head renaming new (spread name directives place) = spread (rename_fragment renaming new name) (map (rename_directive renaming new) directives) place
rename_head renaming new (inline on directives braces place) = inline on (map (rename_directive renaming new) directives) braces place

abbrev pub rename_selections : {P : Type 0} → Renaming → List ℕ → Sels P → Sels P
rename_selections renaming new ss = relabel (rename_head renaming new) ss

abbrev pub rename_def : {P : Type 0} → Renaming → List ℕ → Def P → Def P
rename_def renaming new (operation kind name variables directives set braces place) =
    operation kind name (map (rename_definition renaming new) variables) (map (rename_directive renaming new) directives) (rename_selections renaming new set) braces place
rename_def renaming new (fragment name on directives set braces place) =
    fragment (rename_fragment renaming new name) on (map (rename_directive renaming new) directives) (rename_selections renaming new set) braces place
rename_def renaming new (type_system definition) = type_system definition

-- the number of the next executable definition, behind this one
abbrev pub next_number : {P : Type 0} → Def P → ℕ → ℕ
next_number (operation kind name variables directives set braces place) k = k + 1
next_number (fragment name on directives set braces place) k = k + 1
next_number (type_system definition) k = k

-- A document, each of its executable definitions renamed by its own rule. They are numbered one after the other, the first by the given number.
abbrev pub rename_document : {P : Type 0} → (ℕ → Renaming) → ℕ → List ℕ → List (Def P) → List (Def P)
rename_document rule k new [] = []
rename_document rule k new (d ∷ ds) = rename_def (rule k) new d ∷ rename_document rule (next_number d k) new ds
