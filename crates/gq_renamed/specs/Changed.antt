-- The names of a document that a rename changes, in the order of the text.
use Rattle.std.specs.Prelude.{ℕ, Bool, List, [], ◌∷◌, ◌++◌, if◌then◌else◌, map}
use Rattle.std.specs.List.{flat_map}
use Rattle.gq_text.specs.declared.place.Span.{Span}
use Rattle.gq_text.specs.declared.replacement.Replacement.{Replacement}
use Rattle.gq_tree.specs.Forest.{labels, labels_in}
use Rattle.gq_tree.specs.Plain.{NameOf, Says, Part, Val, Vals, DirectiveOf, Head, Sels, Def, variable, int, float, string, boolean, null, enum, list, object, field, spread, inline, operation, fragment, type_system}
use Rattle.gq_renamed.specs.Renamings.{Renaming}
use Rattle.gq_renamed.specs.Renamed.{next_number}

abbrev pub changed_name : {P : Type 0} → (List ℕ → Bool) → NameOf P → List (NameOf P)
changed_name is_renamed name = if is_renamed name.text then name ∷ [] else []

abbrev pub changed_in_says : {P : Type 0} → Renaming → Says P → List (NameOf P)
changed_in_says renaming (variable name place) = changed_name renaming.variables name
changed_in_says renaming (int text place) = []
changed_in_says renaming (float text place) = []
changed_in_says renaming (string text place) = []
changed_in_says renaming (boolean value place) = []
changed_in_says renaming (null place) = []
changed_in_says renaming (enum name) = []
changed_in_says renaming (list place) = []
changed_in_says renaming (object place) = []

abbrev pub changed_in_part : {P : Type 0} → Renaming → Part P → List (NameOf P)
changed_in_part renaming part = changed_in_says renaming part.says

abbrev pub changed_in_values : {P : Type 0} → Renaming → Vals P → List (NameOf P)
changed_in_values renaming vs = flat_map (changed_in_part renaming) (labels vs)

abbrev pub changed_in_value : {P : Type 0} → Renaming → Val P → List (NameOf P)
changed_in_value renaming v = flat_map (changed_in_part renaming) (labels_in v)

abbrev pub changed_in_arguments : {P : Type 0} → Renaming → List (Val P) → List (NameOf P)
changed_in_arguments renaming vs = flat_map (changed_in_value renaming) vs

abbrev pub changed_in_directives : {P : Type 0} → Renaming → List (DirectiveOf P) → List (NameOf P)
changed_in_directives renaming ds = flat_map (λ d. changed_in_arguments renaming d.arguments) ds

abbrev pub changed_in_head : {P : Type 0} → Renaming → Head P → List (NameOf P)
changed_in_head renaming (field alias name arguments directives braces place) = changed_in_arguments renaming arguments ++ changed_in_directives renaming directives
changed_in_head renaming (spread name directives place) = changed_name renaming.fragments name ++ changed_in_directives renaming directives
changed_in_head renaming (inline on directives braces place) = changed_in_directives renaming directives

abbrev pub changed_in_selections : {P : Type 0} → Renaming → Sels P → List (NameOf P)
changed_in_selections renaming ss = flat_map (changed_in_head renaming) (labels ss)

abbrev pub changed_in_def : {P : Type 0} → Renaming → Def P → List (NameOf P)
changed_in_def renaming (operation kind name variables directives set braces place) =
    flat_map (λ v. changed_name renaming.variables v.name) variables ++ (changed_in_directives renaming directives ++ changed_in_selections renaming set)
changed_in_def renaming (fragment name on directives set braces place) =
    changed_name renaming.fragments name ++ (changed_in_directives renaming directives ++ changed_in_selections renaming set)
changed_in_def renaming (type_system definition) = []

-- those of a document, whose executable definitions have a rule each, by their numbers
abbrev pub changed_in_document : {P : Type 0} → (ℕ → Renaming) → ℕ → List (Def P) → List (NameOf P)
changed_in_document rule k [] = []
changed_in_document rule k (d ∷ ds) = changed_in_def (rule k) d ++ changed_in_document rule (next_number d k) ds

-- each of these names replaced
abbrev pub replacements_of : List ℕ → List (NameOf Span) → List Replacement
replacements_of new names = map (λ name. record { span = name.place; text = new }) names
