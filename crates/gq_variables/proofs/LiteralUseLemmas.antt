-- The uses in a literal, as the code goes over it.
use Rattle.std.proofs.Common.{◌≡◌, ℕ, List, [], ◌∷◌, ◌++◌, Option, Some, None, refl, ap, sym, ◌∙◌, Vec, Global}
use Rattle.std.proofs.lemmas.Option.{none-some}
use Rattle.gq_text.specs.declared.place.Span.{Span}
use Rattle.gq_tree.specs.Plain.{NameOf, Val}
use Rattle.gq_tree.specs.Views.{value_view, values_view, entries_view}
use Rattle.gq_tree.specs.declared.value.Value.{Value}
use Rattle.gq_tree.specs.declared.value.ObjectField.{ObjectField}
use Rattle.gq_tree.specs.declared.value.Value.TheVariants as value_variant
use Rattle.gq_tree.proofs.Trees.{view_list, view_object}
use Rattle.gq_tree.proofs.ValueLemmas.{value_key}
use Rattle.gq_types.specs.Entries.{EntryOf}
use Rattle.gq_variables.specs.Uses.{PlaceOf, UseOf, part_place, items_place, field_place}
use Rattle.gq_variables.specs.Helping.UsesPlaces.{own_uses, uses_among, value_uses, item_uses, field_uses}

-- an item of a list literal has no key
at_item : (es : List EntryOf) (file : ℕ) (place : PlaceOf) (v : Value) → (key : Option (NameOf Span)) → key ≡ None →
    own_uses file (part_place es place key) (value_view v).label.says ++ uses_among es file (part_place es (part_place es place key)) (value_view v).below
    ≡ value_uses es file (items_place place) (value_view v)
at_item es file place v None e = refl
at_item es file place v (Some key) e = absurd (none-some key (sym e))

row_of_items : (es : List EntryOf) (file : ℕ) (place : PlaceOf) (vs : List Value) → uses_among es file (part_place es place) (values_view vs) ≡ item_uses es file (items_place place) vs
row_of_items es file place [] = refl
row_of_items es file place (v ∷ vs) =
    ap (λ (f : List UseOf). f ++ uses_among es file (part_place es place) (values_view vs)) (at_item es file place v (value_view v).label.key (value_key v))
    ∙ ap (λ (f : List UseOf). value_uses es file (items_place place) (value_view v) ++ f) (row_of_items es file place vs)

row_of_fields : (es : List EntryOf) (file : ℕ) (place : PlaceOf) (fs : List ObjectField) → uses_among es file (part_place es place) (entries_view fs) ≡ field_uses es file place fs
row_of_fields es file place [] = refl
row_of_fields es file place (f ∷ fs) = ap (λ (r : List UseOf). value_uses es file (field_place es place f.name.text) (value_view f.value) ++ r) (row_of_fields es file place fs)

-- what is put for a list literal are its uses
pub list_done : (es : List EntryOf) (file : ℕ) (place inner : PlaceOf) (v : Value) (vs : Vec Value Global) (span : Span) (now : List Value) (old new : List UseOf) →
    v ≡ value_variant.List vs span → inner ≡ items_place place → now ≡ vs.items →
    new ≡ old ++ item_uses es file inner now → new ≡ old ++ value_uses es file place (value_view v)
list_done es file place inner v vs span now old new is read behind below =
    let seen = ap value_view is ∙ view_list vs span in
    let row = ap (λ (w : Val Span). own_uses file place w.label.says ++ uses_among es file (part_place es place) w.below) seen ∙ row_of_items es file place vs.items in
    let same = ap (λ (p : PlaceOf). item_uses es file p now) read ∙ ap (item_uses es file (items_place place)) behind in
    below ∙ ap (λ (x : List UseOf). old ++ x) (same ∙ sym row)

-- what is put for an object literal are its uses
pub object_done : (es : List EntryOf) (file : ℕ) (place : PlaceOf) (v : Value) (fs : Vec ObjectField Global) (span : Span) (now : List ObjectField) (old new : List UseOf) →
    v ≡ value_variant.Object fs span → now ≡ fs.items →
    new ≡ old ++ field_uses es file place now → new ≡ old ++ value_uses es file place (value_view v)
object_done es file place v fs span now old new is behind below =
    let seen = ap value_view is ∙ view_object fs span in
    let row = ap (λ (w : Val Span). own_uses file place w.label.says ++ uses_among es file (part_place es place) w.below) seen ∙ row_of_fields es file place fs.items in
    below ∙ ap (λ (x : List UseOf). old ++ x) (ap (field_uses es file place) behind ∙ sym row)
