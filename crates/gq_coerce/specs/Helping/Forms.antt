-- The forms of literals that the code tells apart.
use Rattle.std.specs.Prelude.{◌≡◌, Bool, true, false, map}
use Rattle.gq_tree.specs.Forest.{row}
use Rattle.gq_tree.specs.Plain as tree
use Rattle.gq_tree.specs.Plain.{Val, erase_values, unnamed}
use Rattle.gq_tree.specs.Views.{entry_view}
use Rattle.gq_coerce.specs.declared.forms.Form.{Form}
use Rattle.gq_coerce.specs.declared.forms.Form.TheVariants as form
use Rattle.gq_coerce.specs.Literals.{Says}
use Rattle.gq_coerce.specs.Helping.Views.{bare}

-- no variable, no list and not null
abbrev pub is_single : Says → Bool
is_single (tree.variable n place) = false
is_single (tree.null place) = false
is_single (tree.list place) = false
is_single _ = true

abbrev pub IsForm : Val (Unit {0}) → Form → Type 0
IsForm v (form.Variable name) = v.label.says ≡ tree.variable (record { text = name.now; place = tt }) tt
IsForm v form.Null = v.label.says ≡ tree.null tt
IsForm v (form.List items) = v ≡ unnamed (tree.list tt) (row (map bare items.now))
IsForm v form.Single = is_single v.label.says ≡ true
