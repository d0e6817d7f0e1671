-- Where no field is told that is not defined, a field is known of which the parent's type has possible objects (section 5.3.1).
use Rattle.std.proofs.Common.{◌≡◌, true, Option, Some, None, refl, ap}
use Rattle.std.specs.Option.{option_map}
use Rattle.gq_fault.specs.declared.code.Code.TheVariants.{UnknownField}
use Rattle.gq_fault.specs.declared.fault.Fault.{Fault}
use Rattle.gq_tree.specs.Plain.{field}
use Rattle.gq_types.specs.Entries.{Text}
use Rattle.gq_types.specs.SubtypesTests.{is_possible}
use Rattle.gq_types.proofs.SubtypeLemmas.{possible_decides}
use Rattle.gq_document.specs.Selections.{FieldOf, field_on}
use Rattle.gq_tree.specs.NamedTypes.{base_name}
use Rattle.gq_document.specs.Executable.{ExecutableOf}
use Rattle.gq_fields.specs.FieldSelections.{IsUnknownField}
use Rattle.gq_document.specs.FieldSets.{FieldAt}
use Rattle.gq_laws.specs.Rewriting.Agree.{static_of}
use Rattle.gq_laws.proofs.Rewriting.SelectedFields.{IsSelectedField}
use Rattle.gq_laws.proofs.Rewriting.ParentsAgree.{possible_known}

pub field_known : (x : ExecutableOf) → ((fault : Fault) → IsUnknownField x fault → ⊥) → (f : FieldAt) (p o : Text) → f.parent ≡ Some p → is_possible x.entries p o ≡ true → IsSelectedField x f → (c : Text) × (static_of x.entries p f.name.text ≡ Some c)
field_known x known f p o is possible selected = by_field (field_on x.entries p f.name.text) refl
  where
    by_field : (d : Option FieldOf) → field_on x.entries p f.name.text ≡ d → (c : Text) × (static_of x.entries p f.name.text ≡ Some c)
    by_field (Some d) e = (base_name d.type_ref, ap (option_map (λ z. base_name z.type_ref)) e)
    by_field None e =
        let kind = possible_known x.entries ((possible_decides x.entries p o).0 possible) in
        absurd (known (record { file = f.file; start = f.name.place.start; code = UnknownField; end = f.name.place.end }) (record {
          one = record {
            selected = record { file = f.file; parent = f.parent; selection = record { label = field f.alias f.name f.arguments selected.directives selected.braces f.place; below = f.below } };
            stands = selected.stands;
            alias = f.alias;
            name = f.name;
            arguments = f.arguments;
            directives = selected.directives;
            braces = selected.braces;
            place = f.place;
            is_field = refl;
          };
          type_name = p;
          is_parent = is;
          kind = kind.0;
          is_known = kind.1;
          is_not_defined = e;
          is = refl;
        }))
