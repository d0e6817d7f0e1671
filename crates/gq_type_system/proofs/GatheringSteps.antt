-- One more literal of a row is gathered from.
use Rattle.std.proofs.Common.{◌≡◌, ℕ, ◌+◌, ◌<◌, List, ◌++◌, length, get_or, drop, refl, ap, sym, ◌∙◌, Option, Some, None}
use Rattle.std.specs.Option.{option_map_or}
use Rattle.std.proofs.lemmas.List.{at_drop_more}
use Rattle.gq_text.specs.declared.place.Span.{Span}
use Rattle.gq_tree.specs.Plain.{Says, Vals, TypeOf}
use Rattle.gq_tree.specs.Views.{name_of, value_view, values_view, entries_view}
use Rattle.gq_tree.specs.Wrapping.{item_of}
use Rattle.gq_tree.specs.declared.value.Value.{Value}
use Rattle.gq_tree.specs.declared.value.ObjectField.{ObjectField}
use Rattle.gq_tree.proofs.ValueLemmas.{value_key}
use Rattle.gq_types.specs.Entries.{EntryOf}
use Rattle.gq_values.specs.Literals.{at_type, at_any, at_field, input_object_at}
use Rattle.gq_type_system.specs.Helping.DefaultValuesPlaces.{type_in, below_of, gathered, gathered_of}

type_read : (o : Option (TypeOf Span)) → type_in (option_map_or at_type o at_any) ≡ o
type_read None = refl
type_read (Some t) = refl

module _ (es : List EntryOf) (at : TypeOf Span → Says Span → Vals Span → List ℕ) (t : TypeOf Span) where
  -- an item of a list literal
  pub items_more : (faults : List Value) (i : ℕ) (x : Value) → i < length faults → x ≡ get_or faults i x
      → gathered es at (below_of es t) (values_view (drop i faults)) ≡ gathered_of es at (item_of t) (value_view x) ++ gathered es at (below_of es t) (values_view (drop (i + 1) faults))
  items_more faults i x below is =
      at_drop_more (λ rest. gathered es at (below_of es t) (values_view rest)) faults i x below
      ∙ ap (λ y. gathered_of es at (type_in (below_of es t (value_view y).label.key)) (value_view y) ++ gathered es at (below_of es t) (values_view (drop (i + 1) faults))) (sym is)
      ∙ ap (λ k. gathered_of es at (type_in (below_of es t k)) (value_view x) ++ gathered es at (below_of es t) (values_view (drop (i + 1) faults))) (value_key x)
      ∙ ap (λ o. gathered_of es at o (value_view x) ++ gathered es at (below_of es t) (values_view (drop (i + 1) faults))) (type_read (item_of t))

  -- a field of an object literal
  pub fields_more : (given : List ObjectField) (i : ℕ) (x : ObjectField) → i < length given → x ≡ get_or given i x
      → gathered es at (below_of es t) (entries_view (drop i given)) ≡ gathered_of es at (type_in (at_field es (input_object_at es t) (name_of x.name).text)) (value_view x.value) ++ gathered es at (below_of es t) (entries_view (drop (i + 1) given))
  fields_more given i x below is =
      at_drop_more (λ rest. gathered es at (below_of es t) (entries_view rest)) given i x below
      ∙ ap (λ (y : ObjectField). gathered_of es at (type_in (at_field es (input_object_at es t) (name_of y.name).text)) (value_view y.value) ++ gathered es at (below_of es t) (entries_view (drop (i + 1) given))) (sym is)
