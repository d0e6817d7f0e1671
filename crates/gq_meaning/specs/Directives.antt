-- `@skip` and `@include` in the collection of fields (section 6.3.2, with sections 3.13.1 and 3.13.2).
use Rattle.std.specs.Prelude.{List, Bool, false, not, codes, Option, Some, None, find, if◌then◌else◌}
use Rattle.std.specs.List.{list_any}
use Rattle.std.specs.Option.{option_map_or}
use Rattle.std.specs.Str.{bytes_eq}
use Rattle.gq_tree.specs.Forest.{none, more}
use Rattle.gq_tree.specs.Plain as tree
use Rattle.gq_tree.specs.Plain.{NameOf, Val, DirectiveOf}
use Rattle.gq_meaning.specs.Values as value
use Rattle.gq_meaning.specs.Values.{Text, Says, Value, Values}
use Rattle.gq_meaning.specs.Selected.{Directives}

-- the entry of that name
abbrev pub is_under : {P : Type 0} → Text → Option (NameOf P) → Bool
is_under text None = false
is_under text (Some name) = bytes_eq text name.text

abbrev pub is_keyed : Text → Option Text → Bool
is_keyed text None = false
is_keyed text (Some key) = bytes_eq text key

abbrev pub entry_of : Text → Values → Option Value
entry_of text none = None
entry_of text (more part below rest) = if is_keyed text part.key then Some (record { label = part; below = below }) else entry_of text rest

abbrev pub is_true : Says → Bool
is_true (value.leaf (value.boolean b)) = b
is_true _ = false

-- whether the value of the variable is true
abbrev pub is_variable_true : Values → Text → Bool
is_variable_true variables name = option_map_or (λ v. is_true v.label.says) (entry_of name variables) false

-- whether a literal is true, where variables have these values
abbrev pub holds_true : {P : Type 0} → Values → tree.Says P → Bool
holds_true variables (tree.boolean b place) = b
holds_true variables (tree.variable name place) = is_variable_true variables name.text
holds_true variables _ = false

-- the argument of that name
abbrev pub argument_of : {P : Type 0} → Text → List (Val P) → Option (Val P)
argument_of text arguments = find (λ a. is_under text a.label.key) arguments

abbrev pub if_is_true : {P : Type 0} → Values → DirectiveOf P → Bool
if_is_true variables d = option_map_or (λ a. holds_true variables a.label.says) (argument_of (codes "if") d.arguments) false

-- whether a directive leaves out where it stands
abbrev pub leaves_out : {P : Type 0} → Values → DirectiveOf P → Bool
leaves_out variables d =
    if bytes_eq d.name.text (codes "skip") then if_is_true variables d else
    if bytes_eq d.name.text (codes "include") then not (if_is_true variables d) else false

abbrev pub takes_with : Values → Directives → Bool
takes_with variables ds = not (list_any (leaves_out variables) ds)
