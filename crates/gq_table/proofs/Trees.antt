-- The equations of the views, one for each variant.
use Rattle.std.proofs.Common.{◌≡◌, ℕ, List, [], ◌∷◌, map, refl, ap, sym, ◌∙◌, Vec, Global, append_assoc, append-nil}
use Rattle.std.proofs.lemmas.List.{map-append}
use Rattle.gq_tree.specs.Forest.{none, row}
use Rattle.gq_meaning.specs.Values as value
use Rattle.gq_meaning.specs.Values.{Text}
use Rattle.gq_meaning.specs.Results as result
use Rattle.gq_meaning.specs.Results.{Answer}
use Rattle.gq_table.specs.declared.values.Leaf.{Leaf}
use Rattle.gq_table.specs.declared.values.Value.{Value}
use Rattle.gq_table.specs.declared.values.Entry.{Entry}
use Rattle.gq_table.specs.declared.values.Value.TheOpen.{Value-F}
use Rattle.gq_table.specs.declared.values.Value.TheVariants as variant
use Rattle.gq_table.specs.declared.values.Value.TheVariants.{rolls-Null, rolls-Leaf, rolls-Enum, rolls-List, rolls-Object}
use Rattle.gq_table.specs.declared.values.Value.TheFolds.{fold-Entry, fold-roll-Value, fold_out-Entry}
use Rattle.gq_table.specs.declared.results.Outcome.{Outcome}
use Rattle.gq_table.specs.declared.results.Outcome.TheOpen.{Outcome-F}
use Rattle.gq_table.specs.declared.results.Outcome.TheVariants as outcome
use Rattle.gq_table.specs.declared.results.Outcome.TheVariants.{rolls-Nothing, rolls-Failed, rolls-Object as rolls_object, rolls-Leaf as rolls_leaf, rolls-List as rolls_list}
use Rattle.gq_table.specs.declared.results.Outcome.TheFolds.{fold-roll-Outcome}
use Rattle.gq_table.specs.Views.{leaf_view, alone, value_step, entry_step, value_view, values_view, entry_view, entries_view, answer_step, answer_view, answers_view}

pub view_null : value_view variant.Null ≡ alone value.null none
unfolding value_view
view_null = ap value_view (sym rolls-Null) ∙ fold-roll-Value value.Value value.Value value_step entry_step Value-F.Null

pub view_leaf : (v : Leaf) → value_view (variant.Leaf v) ≡ alone (value.leaf (leaf_view v)) none
unfolding value_view
view_leaf v = ap value_view (sym (rolls-Leaf v)) ∙ fold-roll-Value value.Value value.Value value_step entry_step (Value-F.Leaf v)

pub view_enum : (name : Text) → value_view (variant.Enum name) ≡ alone (value.enum name) none
unfolding value_view
view_enum name = ap value_view (sym (rolls-Enum name)) ∙ fold-roll-Value value.Value value.Value value_step entry_step (Value-F.Enum name)

pub view_list : (vs : Vec Value Global) → value_view (variant.List vs) ≡ alone value.list (values_view vs.items)
unfolding value_view
view_list vs = ap value_view (sym (rolls-List vs)) ∙ fold-roll-Value value.Value value.Value value_step entry_step (Value-F.List vs)

abbrev folded_entry : Entry → value.Value
folded_entry = fold-Entry value.Value value.Value value_step entry_step

view_entry : (e : Entry) → folded_entry e ≡ entry_view e
unfolding value_view
view_entry = fold_out-Entry value.Value value.Value value_step entry_step

view_entries : (es : List Entry) → map folded_entry es ≡ map entry_view es
view_entries [] = refl
view_entries (e ∷ es) = ap (λ v. v ∷ map folded_entry es) (view_entry e) ∙ ap (λ vs. entry_view e ∷ vs) (view_entries es)

pub view_object : (es : Vec Entry Global) → value_view (variant.Object es) ≡ alone value.object (entries_view es.items)
unfolding value_view
view_object es = ap value_view (sym (rolls-Object es)) ∙ fold-roll-Value value.Value value.Value value_step entry_step (Value-F.Object es)
    ∙ ap (λ (vs : List value.Value). alone value.object (row vs)) (view_entries es.items)

-- results
pub view_nothing : answer_view outcome.Nothing ≡ record { label = result.nothing; below = none }
unfolding answer_view
view_nothing = ap answer_view (sym rolls-Nothing) ∙ fold-roll-Outcome Answer answer_step Outcome-F.Nothing

pub view_failed : answer_view outcome.Failed ≡ record { label = result.failed; below = none }
unfolding answer_view
view_failed = ap answer_view (sym rolls-Failed) ∙ fold-roll-Outcome Answer answer_step Outcome-F.Failed

pub view_leaf_result : (v : Leaf) → answer_view (outcome.Leaf v) ≡ record { label = result.leaf (leaf_view v); below = none }
unfolding answer_view
view_leaf_result v = ap answer_view (sym (rolls_leaf v)) ∙ fold-roll-Outcome Answer answer_step (Outcome-F.Leaf v)

pub view_object_result : (type_name : Text) (number : ℕ) → answer_view (outcome.Object type_name number) ≡ record { label = result.object type_name number; below = none }
unfolding answer_view
view_object_result type_name number = ap answer_view (sym (rolls_object type_name number)) ∙ fold-roll-Outcome Answer answer_step (Outcome-F.Object type_name number)

pub view_list_result : (os : Vec Outcome Global) → answer_view (outcome.List os) ≡ record { label = result.list; below = answers_view os.items }
unfolding answer_view
view_list_result os = ap answer_view (sym (rolls_list os)) ∙ fold-roll-Outcome Answer answer_step (Outcome-F.List os)

pub ruleset results = (view_nothing, view_failed, view_leaf_result, view_object_result, view_list_result)

pub ruleset values = (view_null, view_leaf, view_enum, view_list, view_object)

pub ruleset gathers = (values, map-append, append-nil, append_assoc)
