-- Values that were just made, as the definitions see them.
use Rattle.std.proofs.Common.{◌≡◌, List, [], ◌∷◌, ◌++◌, map, Option, Some, refl, ap, sym, ◌∙◌, Vec, Global, append-nil, append_assoc}
use Rattle.std.proofs.lemmas.List.{map-append}
use Rattle.gq_tree.specs.Forest.{row}
use Rattle.gq_tree.proofs.Trees as tree
use Rattle.gq_meaning.specs.Values as value
use Rattle.gq_meaning.specs.Values.{Text}
use Rattle.gq_table.specs.declared.values.Value.{Value}
use Rattle.gq_table.specs.declared.values.Entry.{Entry}
use Rattle.gq_table.specs.declared.values.Value.TheVariants as variant
use Rattle.gq_table.specs.Views.{value_view, values_view, entry_view, entries_view}
use Rattle.gq_table.proofs.Trees.{view_null, view_leaf, view_enum, view_list, view_object}
use Rattle.gq_table.proofs.SameLemmas.{value_key}
use Rattle.gq_coerce.specs.Coerced.{Coerced, given, alone, unnamed, under, list_value, object_value}

-- a value by itself has no name
pub unnamed_view : (v : Value) → unnamed (value_view v) ≡ value_view v
unnamed_view v = ap (λ (k : _). let w : value.Value = record { label = record { key = k; says = (value_view v).label.says }; below = (value_view v).below } in w) (sym (value_key v))

pub list_made : (vs : Vec Value Global) → given (value_view (variant.List vs)) ≡ list_value (Some (map value_view vs.items))
list_made vs = ap given (view_list vs)

pub object_made : (es : Vec Entry Global) → given (value_view (variant.Object es)) ≡ object_value (Some (map entry_view es.items))
object_made es = ap given (view_object es)

pub ruleset made = (view_null, view_leaf, view_enum, view_list, view_object, unnamed_view, map-append)

-- for a walk over literals that makes values
pub ruleset literals = (tree.values, made)
