-- The equations of the views, one for each variant, and the rulesets that walks over trees name.
use Rattle.std.proofs.Common.{◌≡◌, Bool, List, [], ◌∷◌, ◌++◌, map, refl, ap, sym, ◌∙◌, Option, Some, None, append-nil, append_assoc, Vec, Global, Box}
use Rattle.std.proofs.lemmas.List.{map-append}
use Rattle.std.proofs.lemmas.Grind.{flat_map-append}
use Rattle.std.specs.Option.{option_map}
use Rattle.gq_text.specs.declared.place.Span.{Span}
use Rattle.gq_tree.specs.Forest.{none, row}
use Rattle.gq_tree.specs.Plain.{Val, variable, int, float, string, boolean, null, enum, list, object, unnamed, TypeOf, named, list_of, non_null, Sel, field, spread, inline}
use Rattle.gq_tree.specs.Views.{name_of, alias_of, value_step, entry_step, value_view, values_view, entry_view, entries_view, argument_view, directive_view, type_step, type_view, Braces, sel_view, sels_view, below_of, braces_of, sel_step, field_step, inline_step, set_step}
use Rattle.gq_tree.specs.declared.tree.Name.{Name}
use Rattle.gq_tree.specs.declared.tree.Spread.{Spread}
use Rattle.gq_tree.specs.declared.tree.Selection.{Selection}
use Rattle.gq_tree.specs.declared.tree.Field.{Field}
use Rattle.gq_tree.specs.declared.tree.InlineFragment.{InlineFragment}
use Rattle.gq_tree.specs.declared.tree.SelectionSet.{SelectionSet}
use Rattle.gq_tree.specs.declared.tree.Selection.TheOpen as layer
use Rattle.gq_tree.specs.declared.tree.Selection.TheVariants as variant
use Rattle.gq_tree.specs.declared.tree.Selection.TheVariants.{rolls-Field, rolls-Spread, rolls-Inline}
use Rattle.gq_tree.specs.declared.tree.Selection.TheFolds.{fold-Selection, fold-Field, fold-InlineFragment, fold-SelectionSet, map-Field, fold-roll-Selection, fold-roll-Field, fold_out-Field, fold_out-InlineFragment, fold_out-SelectionSet}
use Rattle.gq_tree.specs.declared.tree.Selection.TheViews.{out-Field, roll-Field, roll-InlineFragment, roll-SelectionSet}
use Rattle.gq_tree.specs.declared.value.Literal.{Literal}
use Rattle.gq_tree.specs.declared.value.Variable.{Variable}
use Rattle.gq_tree.specs.declared.value.Value.{Value}
use Rattle.gq_tree.specs.declared.value.ObjectField.{ObjectField}
use Rattle.gq_tree.specs.declared.value.Argument.{Argument}
use Rattle.gq_tree.specs.declared.value.Directive.{Directive}
use Rattle.gq_tree.specs.declared.value.Value.TheOpen.{Value-F}
use Rattle.gq_tree.specs.declared.value.Value.TheVariants as value_variant
use Rattle.gq_tree.specs.declared.value.Value.TheVariants.{rolls-Variable, rolls-Int, rolls-Float, rolls-String, rolls-Boolean, rolls-Null, rolls-Enum, rolls-List, rolls-Object}
use Rattle.gq_tree.specs.declared.value.Value.TheFolds.{fold-ObjectField, fold-roll-Value, fold_out-ObjectField}
use Rattle.gq_tree.specs.declared.types.TypeRef.{TypeRef}
use Rattle.gq_tree.specs.declared.types.TypeRef.TheOpen.{TypeRef-F}
use Rattle.gq_tree.specs.declared.types.TypeRef.TheVariants as type_variant
use Rattle.gq_tree.specs.declared.types.TypeRef.TheVariants.{rolls-Named, rolls-NonNull, rolls-List as rolls_type_list}
use Rattle.gq_tree.specs.declared.types.TypeRef.TheFolds.{fold-roll-TypeRef}

-- values
pub view_variable : (v : Variable) → value_view (value_variant.Variable v) ≡ unnamed (variable (name_of v.name) v.span) none
unfolding value_view
view_variable v = ap value_view (sym (rolls-Variable v)) ∙ fold-roll-Value (Val Span) (Val Span) value_step entry_step (Value-F.Variable v)

pub view_int : (l : Literal) → value_view (value_variant.Int l) ≡ unnamed (int l.text l.span) none
unfolding value_view
view_int l = ap value_view (sym (rolls-Int l)) ∙ fold-roll-Value (Val Span) (Val Span) value_step entry_step (Value-F.Int l)

pub view_float : (l : Literal) → value_view (value_variant.Float l) ≡ unnamed (float l.text l.span) none
unfolding value_view
view_float l = ap value_view (sym (rolls-Float l)) ∙ fold-roll-Value (Val Span) (Val Span) value_step entry_step (Value-F.Float l)

pub view_string : (l : Literal) → value_view (value_variant.String l) ≡ unnamed (string l.text l.span) none
unfolding value_view
view_string l = ap value_view (sym (rolls-String l)) ∙ fold-roll-Value (Val Span) (Val Span) value_step entry_step (Value-F.String l)

pub view_boolean : (b : Bool) (place : Span) → value_view (value_variant.Boolean b place) ≡ unnamed (boolean b place) none
unfolding value_view
view_boolean b place = ap value_view (sym (rolls-Boolean b place)) ∙ fold-roll-Value (Val Span) (Val Span) value_step entry_step (Value-F.Boolean b place)

pub view_null : (place : Span) → value_view (value_variant.Null place) ≡ unnamed (null place) none
unfolding value_view
view_null place = ap value_view (sym (rolls-Null place)) ∙ fold-roll-Value (Val Span) (Val Span) value_step entry_step (Value-F.Null place)

pub view_enum : (n : Name) → value_view (value_variant.Enum n) ≡ unnamed (enum (name_of n)) none
unfolding value_view
view_enum n = ap value_view (sym (rolls-Enum n)) ∙ fold-roll-Value (Val Span) (Val Span) value_step entry_step (Value-F.Enum n)

pub view_list : (vs : Vec Value Global) (place : Span) → value_view (value_variant.List vs place) ≡ unnamed (list place) (values_view vs.items)
unfolding value_view
view_list vs place = ap value_view (sym (rolls-List vs place)) ∙ fold-roll-Value (Val Span) (Val Span) value_step entry_step (Value-F.List vs place)

abbrev folded_entry : ObjectField → Val Span
folded_entry = fold-ObjectField (Val Span) (Val Span) value_step entry_step

view_entry : (e : ObjectField) → folded_entry e ≡ entry_view e
unfolding value_view
view_entry = fold_out-ObjectField (Val Span) (Val Span) value_step entry_step

view_entries : (es : List ObjectField) → map folded_entry es ≡ map entry_view es
view_entries [] = refl
view_entries (e ∷ es) = ap (λ v. v ∷ map folded_entry es) (view_entry e) ∙ ap (λ vs. entry_view e ∷ vs) (view_entries es)

pub view_object : (es : Vec ObjectField Global) (place : Span) → value_view (value_variant.Object es place) ≡ unnamed (object place) (entries_view es.items)
unfolding value_view
view_object es place = ap value_view (sym (rolls-Object es place)) ∙ fold-roll-Value (Val Span) (Val Span) value_step entry_step (Value-F.Object es place)
    ∙ ap (λ (vs : List (Val Span)). unnamed (object place) (row vs)) (view_entries es.items)

-- types
pub view_named : (n : Name) → type_view (type_variant.Named n) ≡ named (name_of n)
unfolding type_view
view_named n = ap type_view (sym (rolls-Named n)) ∙ fold-roll-TypeRef (TypeOf Span) type_step (TypeRef-F.Named n)

pub view_list_of : (t : Box TypeRef Global) → type_view (type_variant.List t) ≡ list_of (type_view t.value)
unfolding type_view
view_list_of t = ap type_view (sym (rolls_type_list t)) ∙ fold-roll-TypeRef (TypeOf Span) type_step (TypeRef-F.List t)

pub view_non_null : (t : Box TypeRef Global) → type_view (type_variant.NonNull t) ≡ non_null (type_view t.value)
unfolding type_view
view_non_null t = ap type_view (sym (rolls-NonNull t)) ∙ fold-roll-TypeRef (TypeOf Span) type_step (TypeRef-F.NonNull t)

-- a spread
pub view_spread : (s : Spread) → sel_view (variant.Spread s) ≡ record { label = spread (name_of s.name) (map directive_view s.directives.items) s.span; below = none }
unfolding sel_view
view_spread s = ap sel_view (sym (rolls-Spread s)) ∙ fold-roll-Selection (Sel Span) (Sel Span) (Sel Span) Braces sel_step field_step inline_step set_step (layer.Spread s)

abbrev set_view : SelectionSet → Braces
set_view = fold-SelectionSet (Sel Span) (Sel Span) (Sel Span) Braces sel_step field_step inline_step set_step

view_set : (s : SelectionSet) → set_view s ≡ record { sels = sels_view s.items.items; place = s.span }
unfolding sel_view
view_set = fold_out-SelectionSet (Sel Span) (Sel Span) (Sel Span) Braces sel_step field_step inline_step set_step

-- an inline fragment that is read
pub view_inline : (i : InlineFragment) → sel_view (variant.Inline i) ≡ record { label = inline (option_map name_of i.on) (map directive_view i.directives.items) i.set.span i.span; below = sels_view i.set.items.items }
unfolding sel_view
view_inline i = ap sel_view (sym (rolls-Inline i)) ∙ fold-roll-Selection (Sel Span) (Sel Span) (Sel Span) Braces sel_step field_step inline_step set_step (layer.Inline i)
    ∙ fold_out-InlineFragment (Sel Span) (Sel Span) (Sel Span) Braces sel_step field_step inline_step set_step i
    ∙ ap (λ (b : Braces). let one : Sel Span = record { label = inline (option_map name_of i.on) (map directive_view i.directives.items) b.place i.span; below = b.sels } in one) (view_set i.set)

-- an inline fragment that was just made
pub view_made_inline : (on : Option Name) (directives : Vec Directive Global) (braces : Span) (items : Vec Selection Global) (place : Span) →
    sel_view (variant.Inline (roll-InlineFragment (record { on = on; directives = directives; set = roll-SelectionSet (record { span = braces; items = items }); span = place })))
    ≡ record { label = inline (option_map name_of on) (map directive_view directives.items) braces place; below = sels_view items.items }
view_made_inline on directives braces items place = view_inline (roll-InlineFragment (record { on = on; directives = directives; set = roll-SelectionSet (record { span = braces; items = items }); span = place }))

-- one layer of a field, with the views of its parts
abbrev of_layer : layer.Field-F Selection Field InlineFragment SelectionSet → Sel Span
of_layer x = field_step (map-Field Selection Field InlineFragment SelectionSet (Sel Span) (Sel Span) (Sel Span) Braces
    (fold-Selection (Sel Span) (Sel Span) (Sel Span) Braces sel_step field_step inline_step set_step)
    (fold-Field (Sel Span) (Sel Span) (Sel Span) Braces sel_step field_step inline_step set_step)
    (fold-InlineFragment (Sel Span) (Sel Span) (Sel Span) Braces sel_step field_step inline_step set_step)
    set_view x)

by_set : (alias : Option (Box Name Global)) (name : Name) (arguments : Vec Argument Global) (directives : Vec Directive Global) (o : Option (Box SelectionSet Global)) (place : Span) →
    of_layer (record { alias = alias; name = name; arguments = arguments; directives = directives; set = o; span = place })
    ≡ record { label = field (alias_of alias) (name_of name) (map argument_view arguments.items) (map directive_view directives.items) (braces_of o) place; below = below_of o }
by_set alias name arguments directives None place = refl
by_set alias name arguments directives (Some s) place =
    let made : Braces → Sel Span = λ b. record {
      label = field (alias_of alias) (name_of name) (map argument_view arguments.items) (map directive_view directives.items) (Some b.place) place;
      below = b.sels;
    } in
    ap made (view_set s.value)

-- a field that is read
pub view_field : (f : Field) → sel_view (variant.Field f)
    ≡ record {
      label = field (alias_of (out-Field f).alias) (name_of (out-Field f).name) (map argument_view (out-Field f).arguments.items)
          (map directive_view (out-Field f).directives.items) (braces_of (out-Field f).set) (out-Field f).span;
      below = below_of (out-Field f).set;
    }
unfolding sel_view
view_field f = ap sel_view (sym (rolls-Field f)) ∙ fold-roll-Selection (Sel Span) (Sel Span) (Sel Span) Braces sel_step field_step inline_step set_step (layer.Field f)
    ∙ fold_out-Field (Sel Span) (Sel Span) (Sel Span) Braces sel_step field_step inline_step set_step f
    ∙ by_set (out-Field f).alias (out-Field f).name (out-Field f).arguments (out-Field f).directives (out-Field f).set (out-Field f).span

-- a field that was just made
pub view_made : (alias : Option (Box Name Global)) (name : Name) (arguments : Vec Argument Global) (directives : Vec Directive Global) (o : Option (Box SelectionSet Global)) (place : Span) →
    sel_view (variant.Field (roll-Field (record { alias = alias; name = name; arguments = arguments; directives = directives; set = o; span = place })))
    ≡ record { label = field (alias_of alias) (name_of name) (map argument_view arguments.items) (map directive_view directives.items) (braces_of o) place; below = below_of o }
unfolding sel_view
view_made alias name arguments directives o place =
    let made : layer.Field-F Selection Field InlineFragment SelectionSet = record { alias = alias; name = name; arguments = arguments; directives = directives; set = o; span = place } in
    ap sel_view (sym (rolls-Field (roll-Field made))) ∙ fold-roll-Selection (Sel Span) (Sel Span) (Sel Span) Braces sel_step field_step inline_step set_step (layer.Field (roll-Field made))
    ∙ fold-roll-Field (Sel Span) (Sel Span) (Sel Span) Braces sel_step field_step inline_step set_step made
    ∙ by_set alias name arguments directives o place

-- for a walk over values
pub ruleset values = (view_variable, view_int, view_float, view_string, view_boolean, view_null, view_enum, view_list, view_object)

-- for a walk over types
pub ruleset types = (view_named, view_list_of, view_non_null)

-- for a walk over selections that tests or counts
pub ruleset views = (view_field, view_made, view_spread, view_inline, view_made_inline)

-- for a walk over selections or values that gathers
pub ruleset gathers = (views, values, map-append, append-nil, append_assoc, flat_map-append)
