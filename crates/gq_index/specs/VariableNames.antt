-- The variables of a definition: where they are defined (section 2.10) and where they are used (section 5.8).
use Rattle.std.specs.Prelude.{List, [], ◌∷◌, ◌++◌, map}
use Rattle.std.specs.List.{flat_map}
use Rattle.gq_tree.specs.Forest.{labels, labels_in}
use Rattle.gq_tree.specs.Plain.{NameOf, Says, Part, Val, DirectiveOf, Head, Sels, Def, field, spread, inline, variable, int, float, string, boolean, null, enum, list, object, operation, fragment, type_system}

-- the name of the variable that a value is
abbrev pub says_variable : {P : Type 0} → Says P → List (NameOf P)
says_variable (variable name place) = name ∷ []
says_variable (int text place) = []
says_variable (float text place) = []
says_variable (string text place) = []
says_variable (boolean value place) = []
says_variable (null place) = []
says_variable (enum name) = []
says_variable (list place) = []
says_variable (object place) = []

abbrev pub part_variable : {P : Type 0} → Part P → List (NameOf P)
part_variable p = says_variable p.says

-- those in a value, in the order of the text; so below
abbrev pub value_variables : {P : Type 0} → Val P → List (NameOf P)
value_variables v = flat_map part_variable (labels_in v)

abbrev pub argument_variables : {P : Type 0} → List (Val P) → List (NameOf P)
argument_variables arguments = flat_map value_variables arguments

abbrev pub directive_variables : {P : Type 0} → List (DirectiveOf P) → List (NameOf P)
directive_variables directives = flat_map (λ d. argument_variables d.arguments) directives

-- those that a selection says, the selections in its braces left out
abbrev pub head_variables : {P : Type 0} → Head P → List (NameOf P)
head_variables (field alias name arguments directives braces place) = argument_variables arguments ++ directive_variables directives
head_variables (spread name directives place) = directive_variables directives
head_variables (inline on directives braces place) = directive_variables directives

-- those in selections, at any depth
abbrev pub selection_variables : {P : Type 0} → Sels P → List (NameOf P)
selection_variables ss = flat_map head_variables (labels ss)

-- the names of the variables that a definition uses
abbrev pub used_variables : {P : Type 0} → Def P → List (NameOf P)
used_variables (operation kind name variables directives set braces place) = flat_map (λ v. directive_variables v.directives) variables ++ (directive_variables directives ++ selection_variables set)
used_variables (fragment name on directives set braces place) = directive_variables directives ++ selection_variables set
used_variables (type_system definition) = []

-- the names of the variables that it defines
abbrev pub defined_variables : {P : Type 0} → Def P → List (NameOf P)
defined_variables (operation kind name variables directives set braces place) = map (λ v. v.name) variables
defined_variables (fragment name on directives set braces place) = []
defined_variables (type_system definition) = []
