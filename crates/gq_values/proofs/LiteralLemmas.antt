-- The faults of the literals in a literal, as the code goes over them.
use Rattle.std.proofs.Common.{◌≡◌, ℕ, List, [], ◌∷◌, ◌++◌, Option, Some, None, refl, ap, sym, ◌∙◌, Vec, Global}
use Rattle.std.proofs.lemmas.Option.{none-some}
use Rattle.gq_text.specs.declared.place.Span.{Span}
use Rattle.gq_tree.specs.Plain.{NameOf, Val}
use Rattle.gq_tree.specs.Views.{value_view, values_view, entries_view}
use Rattle.gq_tree.specs.declared.value.Value.{Value}
use Rattle.gq_tree.specs.declared.value.ObjectField.{ObjectField}
use Rattle.gq_tree.specs.declared.value.Value.TheVariants as value_variant
use Rattle.gq_tree.proofs.Trees.{view_list, view_object}
use Rattle.gq_tree.proofs.ValueLemmas.{value_key}
use Rattle.gq_fault.specs.declared.fault.Fault.{Fault}
use Rattle.gq_types.specs.Entries.{EntryOf}
use Rattle.gq_values.specs.Literals.{Expected, part_at, items_at, field_at}
use Rattle.gq_values.proofs.Steps.{both_done}
use Rattle.gq_values.specs.LiteralPlaces.{own_faults, faults_in, literal_faults, item_faults, value_faults}

-- an item of a list literal has no key
at_item : (es : List EntryOf) (file : ℕ) (reading : Expected) (v : Value) → (key : Option (NameOf Span)) → key ≡ None →
    own_faults es file (part_at es reading key) (value_view v).label.says (value_view v).below ++ faults_in es file (part_at es (part_at es reading key)) (value_view v).below
    ≡ literal_faults es file (items_at reading) (value_view v)
at_item es file reading v None e = refl
at_item es file reading v (Some key) e = absurd (none-some key (sym e))

pub row_of_items : (es : List EntryOf) (file : ℕ) (reading : Expected) (vs : List Value) → faults_in es file (part_at es reading) (values_view vs) ≡ item_faults es file (items_at reading) vs
row_of_items es file reading [] = refl
row_of_items es file reading (v ∷ vs) =
    ap (λ (f : List Fault). f ++ faults_in es file (part_at es reading) (values_view vs)) (at_item es file reading v (value_view v).label.key (value_key v))
    ∙ ap (λ (f : List Fault). literal_faults es file (items_at reading) (value_view v) ++ f) (row_of_items es file reading vs)

pub row_of_values : (es : List EntryOf) (file : ℕ) (reading : Expected) (fs : List ObjectField) → faults_in es file (part_at es reading) (entries_view fs) ≡ value_faults es file reading fs
row_of_values es file reading [] = refl
row_of_values es file reading (f ∷ fs) = ap (λ (r : List Fault). literal_faults es file (field_at es reading f.name.text) (value_view f.value) ++ r) (row_of_values es file reading fs)

-- what is put for a list literal is what is told of it
pub list_done : (es : List EntryOf) (file : ℕ) (reading inner : Expected) (v : Value) (vs : Vec Value Global) (place : Span) (now : List Value) (old mid new : List Fault) →
    v ≡ value_variant.List vs place → inner ≡ items_at reading → now ≡ vs.items → mid ≡ old ++ own_faults es file reading (value_view v).label.says (value_view v).below →
    new ≡ mid ++ item_faults es file inner now → new ≡ old ++ literal_faults es file reading (value_view v)
list_done es file reading inner v vs place now old mid new is read behind own below =
    let seen = ap value_view is ∙ view_list vs place in
    let row = ap (λ (w : Val Span). faults_in es file (part_at es reading) w.below) seen ∙ row_of_items es file reading vs.items in
    let same = ap (λ (r : Expected). item_faults es file r now) read ∙ ap (item_faults es file (items_at reading)) behind in
    both_done old mid new (own_faults es file reading (value_view v).label.says (value_view v).below) (faults_in es file (part_at es reading) (value_view v).below) own
    (below ∙ ap (λ (x : List Fault). mid ++ x) (same ∙ sym row))

-- what is put for an object literal is what is told of it
pub object_done : (es : List EntryOf) (file : ℕ) (reading : Expected) (v : Value) (fs : Vec ObjectField Global) (place : Span) (now : List ObjectField) (old mid new : List Fault) →
    v ≡ value_variant.Object fs place → now ≡ fs.items → mid ≡ old ++ own_faults es file reading (value_view v).label.says (value_view v).below →
    new ≡ mid ++ value_faults es file reading now → new ≡ old ++ literal_faults es file reading (value_view v)
object_done es file reading v fs place now old mid new is behind own below =
    let seen = ap value_view is ∙ view_object fs place in
    let row = ap (λ (w : Val Span). faults_in es file (part_at es reading) w.below) seen ∙ row_of_values es file reading fs.items in
    both_done old mid new (own_faults es file reading (value_view v).label.says (value_view v).below) (faults_in es file (part_at es reading) (value_view v).below) own
    (below ∙ ap (λ (x : List Fault). mid ++ x) (ap (value_faults es file reading) behind ∙ sym row))
