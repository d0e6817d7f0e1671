-- The types of fields, as execution meets them, are subtypes of those that a document shows.
use Rattle.std.proofs.Common.{◌≡◌, Bool, true, false, List, Option, Some, None, sym, ap, ◌∙◌, subst}
use Rattle.std.specs.Prelude.{bytes_eq, if◌then◌else◌}
use Rattle.std.specs.Option.{option_map}
use Rattle.std.proofs.lemmas.Option.{same_Some}
use Rattle.gq_text.specs.declared.place.Span.{Span}
use Rattle.gq_tree.specs.Plain.{TypeOf, FieldDefinitionOf}
use Rattle.gq_types.specs.Entries.{Text, EntryOf}
use Rattle.gq_types.specs.Names.{field_named}
use Rattle.gq_types.specs.SubtypesTests.{is_possible}
use Rattle.gq_document.specs.Selections.{FieldOf, typename, typename_field, is_composite_named}
use Rattle.gq_tree.specs.NamedTypes.{base_name}
use Rattle.gq_meaning.specs.Values.{Values}
use Rattle.gq_meaning.specs.Rewritten.{HasSubtypes}
use Rattle.gq_table.specs.Rows.{RowOf}
use Rattle.gq_collect.specs.Given.{typename_type, type_of, given_in}
use Rattle.gq_laws.specs.Rewriting.Subtypes.{static_of, HasSubfields}
use Rattle.gq_laws.proofs.Rewriting.SubtypeLemmas.{field_by}

module _ (es : List EntryOf) where
  -- the type of a field in an object's own type
  abbrev type_by : Bool → (object text : Text) → Option (TypeOf Span)
  type_by b object text = if b then Some typename_type else type_of es object text

  own_end : (object text : Text) (d : FieldOf) (t : TypeOf Span) (b : Bool) → field_by es b object text ≡ Some d → type_by b object text ≡ Some t → base_name t ≡ base_name d.type_ref
  own_end object text d t true is_defined is_type = by_test (is_composite_named es object) is_defined
    where
      by_test : (c : Bool) → (if c then Some typename_field else None) ≡ Some d → base_name t ≡ base_name d.type_ref
      by_test true h = ap base_name (sym (same_Some typename_type t is_type)) ∙ ap (λ (f : FieldOf). base_name f.type_ref) (same_Some typename_field d h)
      by_test false h = absurd (cc)
  own_end object text d t false is_defined is_type = by_field (field_named es object text) is_defined is_type
    where
      by_field : (o : Option (FieldDefinitionOf Span)) → option_map (λ f. let one : FieldOf = record { type_ref = f.type_ref; arguments = f.arguments } in one) o ≡ Some d → option_map (λ (f : FieldDefinitionOf Span). f.type_ref) o ≡ Some t → base_name t ≡ base_name d.type_ref
      by_field None h k = absurd (cc)
      by_field (Some f) h k = ap base_name (sym (same_Some f.type_ref t k)) ∙ ap (λ (g : FieldOf). base_name g.type_ref) (same_Some (record { type_ref = f.type_ref; arguments = f.arguments }) d h)

  pub has_subtypes : HasSubfields es → (rows : List RowOf) (values : Values) → HasSubtypes (static_of es) (given_in es rows values)
  has_subtypes fields rows values = record {
    each = λ type_name object text super other t applies is_static is_type fits.
        let own = fields type_name object text super applies is_static in
        own.possible other (subst (λ s. is_possible es s other ≡ true) (own_end object text own.definition t (bytes_eq text typename) own.is_defined is_type) fits);
  }
