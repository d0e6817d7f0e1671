-- What is known of each selection, over any executable definitions with which nothing is wrong (section 5.3).
use Rattle.std.proofs.Common.{◌≡◌, ◌≢◌, ℕ, Bool, true, false, List, Option, Some, None, refl, sym, ap, ◌∙◌, subst, is_some, Contains}
use Rattle.std.specs.Prelude.{codes, bytes_eq, option_and_then, if◌then◌else◌}
use Rattle.std.specs.Option.{option_map, option_map_or}
use Rattle.std.proofs.lemmas.Option.{same_Some}
use Rattle.gq_text.specs.declared.place.Span.{Span}
use Rattle.gq_fault.specs.declared.code.Code.TheVariants.{UnknownField, WrongSelections, UnknownTypeCondition, ConditionNotComposite, NoRootType, SubscriptionOperation}
use Rattle.gq_fault.specs.declared.fault.Fault.{Fault}
use Rattle.gq_tree.specs.declared.tree.OperationKind.{OperationKind}
use Rattle.gq_tree.specs.declared.tree.OperationKind.TheVariants.{Query, Mutation, Subscription}
use Rattle.gq_tree.specs.Plain.{NameOf, FieldDefinitionOf, Head, field, spread, inline, Sel, Sels}
use Rattle.gq_types.specs.declared.entry.TypeKind.{TypeKind}
use Rattle.gq_types.specs.declared.entry.TypeKind.TheVariants as kind
use Rattle.gq_types.specs.Entries.{Text, EntryOf}
use Rattle.gq_types.specs.Kinds.{is_composite}
use Rattle.gq_types.specs.Joined.{kind_named}
use Rattle.gq_types.specs.Names.{field_named}
use Rattle.gq_types.specs.Roots.{root_of}
use Rattle.gq_document.specs.Definitions.{OperationOf, FragmentOf}
use Rattle.gq_document.specs.Selections.{FieldOf, typename, typename_field, is_composite_named, field_on, selected_field, parent_below, SelectedOf, IsSelectionWithin, here, within, after, of_operation, of_fragment}
use Rattle.gq_tree.specs.NamedTypes.{base_name}
use Rattle.gq_document.specs.Executable.{ExecutableOf, Selects}
use Rattle.gq_type_system.specs.SchemaFaults.{IsSchemaFault, unknown_type, no_object, no_query_root}
use Rattle.gq_fault.specs.FaultPlaces as places
use Rattle.gq_fields.specs.SelectedFields.{SelectsField}
use Rattle.gq_fields.specs.FieldFaults.{unknown_field, wrong_selections}
use Rattle.gq_fragments.specs.OperationPlace.{operation_place}
use Rattle.gq_fragments.specs.TypeConditions as condition
use Rattle.gq_fragments.specs.TypeConditions.{IsTypeCondition}
use Rattle.gq_fragments.specs.FragmentFaults.{unknown_condition, condition_not_composite}
use Rattle.gq_fragments.specs.OperationFaults.{subscription, no_root_type}
use Rattle.gq_rules.specs.RuleFaults.{IsRuleFault, of_operations, of_fields, of_fragments}
use Rattle.gq_laws.specs.Rewriting.Braces.{holds_any, IsBraced}
use Rattle.gq_laws.specs.Rewriting.ParentsAndFields.{HasParent, HasField, HaveRoots, HaveParents, HaveFields}
use Rattle.gq_laws.proofs.Rewriting.TypeLemmas.{type_is_known}
use Rattle.gq_laws.proofs.Rewriting.SubtypeLemmas.{field_by}
use Rattle.gq_laws.proofs.Rewriting.RootLemmas.{root_is_object, query_root}
use Rattle.gq_laws.proofs.Rewriting.BracesLemmas.{AreBraced}

some_stand : {es : List EntryOf} {parent inner : Option Text} {ss : Sels Span} {selection : Sel Span} → IsSelectionWithin es parent ss inner selection → holds_any ss ≡ true
some_stand here = refl
some_stand (within s) = refl
some_stand (after s) = refl

-- the kind of what is a composite type
composite_kind : (es : List EntryOf) (type_name : Text) → (k : TypeKind) → kind_named es type_name ≡ Some k → is_composite k ≡ true → is_composite_named es type_name ≡ true
composite_kind es type_name k known composite = ap (λ (o : Option TypeKind). option_map_or is_composite o false) known ∙ composite

module _ (x : ExecutableOf) (no_schema : (fault : Fault) → IsSchemaFault x.entries fault → ⊥) (no_rule : (fault : Fault) → IsRuleFault x fault → ⊥) where
  -- operations
  abbrev Root : OperationOf → OperationKind → Type 0
  Root o operation = o.kind ≡ operation → (t : Text) × (root_of x.entries operation ≡ Some t)

  mutation_root : (o : OperationOf) → Contains x.operations o → Root o Mutation
  mutation_root o there is = by_root (root_of x.entries Mutation) refl
    where
      by_root : (r : Option Text) → root_of x.entries Mutation ≡ r → (t : Text) × (root_of x.entries Mutation ≡ Some t)
      by_root None e = absurd (no_rule (places.fault_over o.file NoRootType (operation_place o)) (of_operations (no_root_type (record { operation = o; stands = there; is_mutation = is; has_no_root = e; is = refl }))))
      by_root (Some t) e = (t, e)

  some_root : (o : OperationOf) → Contains x.operations o → (operation : OperationKind) → Root o operation
  some_root o there Query is = query_root x.entries (λ fault u. no_schema fault (unknown_type u)) (λ fault u. no_schema fault (no_object u)) (λ fault u. no_schema fault (no_query_root u))
  some_root o there Mutation is = mutation_root o there is
  some_root o there Subscription is = absurd (no_rule (places.fault_over o.file SubscriptionOperation (operation_place o)) (of_operations (subscription (record { operation = o; stands = there; is_subscription = is; is = refl }))))

  pub have_roots : HaveRoots x
  have_roots o there =
      let r = some_root o there o.kind refl in
      record { type_name = r.0; is = r.1; is_object = root_is_object x.entries o.kind r.0 r.1 }

  root_parent : (o : OperationOf) → Contains x.operations o → HasParent x.entries (root_of x.entries o.kind)
  root_parent o there = let r = have_roots o there in record { type_name = r.type_name; is = r.is; of_kind = kind.Object; is_known = r.is_object; is_composite_kind = refl }

  -- type conditions
  condition_known : (file : ℕ) (name : NameOf Span) → IsTypeCondition x file name → HasParent x.entries (Some name.text)
  condition_known file name stands = by_kind (kind_named x.entries name.text) refl
    where
      by_composite : (k : TypeKind) → kind_named x.entries name.text ≡ Some k → (b : Bool) → is_composite k ≡ b → HasParent x.entries (Some name.text)
      by_composite k known true e = record { type_name = name.text; is = refl; of_kind = k; is_known = known; is_composite_kind = e }
      by_composite k known false e = absurd (no_rule (places.fault_at file ConditionNotComposite name) (of_fragments (condition_not_composite (record { file = file; name = name; is_condition = stands; kind = k; is_known = known; is_not_composite = e; is = refl }))))

      by_kind : (o : Option TypeKind) → kind_named x.entries name.text ≡ o → HasParent x.entries (Some name.text)
      by_kind None e = absurd (no_rule (places.fault_at file UnknownTypeCondition name) (of_fragments (unknown_condition (record { file = file; name = name; is_condition = stands; is_unknown = e; is = refl }))))
      by_kind (Some k) e = by_composite k e (is_composite k) refl

  -- a field of a parent that is known
  module _ (of_string : kind_named x.entries (codes "String") ≡ Some kind.Scalar) where
    record IsFound (parent : Option Text) (text : Text) : Type 0 where
      definition : FieldOf
      is_defined : selected_field x.entries parent text ≡ Some definition
      of_kind : TypeKind
      is_known : kind_named x.entries (base_name definition.type_ref) ≡ Some of_kind

    -- the type of a field that is found is known
    found_kind : (type_name text : Text) (d : FieldOf) (b : Bool) → field_by x.entries b type_name text ≡ Some d → (k : TypeKind) × (kind_named x.entries (base_name d.type_ref) ≡ Some k)
    found_kind type_name text d true e = by_test (is_composite_named x.entries type_name) e
      where
        by_test : (b : Bool) → (if b then Some typename_field else None) ≡ Some d → (k : TypeKind) × (kind_named x.entries (base_name d.type_ref) ≡ Some k)
        by_test true h = (kind.Scalar, subst (λ (f : FieldOf). kind_named x.entries (base_name f.type_ref) ≡ Some kind.Scalar) (same_Some typename_field d h) of_string)
        by_test false h = absurd (cc)
    found_kind type_name text d false e = by_field (field_named x.entries type_name text) refl e
      where
        by_field : (o : Option (FieldDefinitionOf Span)) → field_named x.entries type_name text ≡ o → option_map (λ f. let one : FieldOf = record { type_ref = f.type_ref; arguments = f.arguments } in one) o ≡ Some d → (k : TypeKind) × (kind_named x.entries (base_name d.type_ref) ≡ Some k)
        by_field None is h = absurd (cc)
        by_field (Some f) is h =
            let k = type_is_known x.entries (λ fault u. no_schema fault (unknown_type u)) type_name text f is in
            (k.0, subst (λ (g : FieldOf). kind_named x.entries (base_name g.type_ref) ≡ Some k.0) (same_Some (record { type_ref = f.type_ref; arguments = f.arguments }) d h) k.1)

    field_found : (one : SelectsField x) → HasParent x.entries one.selected.parent → IsFound one.selected.parent one.name.text
    field_found one p = by_field (field_on x.entries p.type_name one.name.text) refl
      where
        by_field : (o : Option FieldOf) → field_on x.entries p.type_name one.name.text ≡ o → IsFound one.selected.parent one.name.text
        by_field None e = absurd (no_rule (places.fault_at one.selected.file UnknownField one.name) (of_fields (unknown_field (record {
          one = one;
          type_name = p.type_name;
          is_parent = p.is;
          kind = p.of_kind;
          is_known = p.is_known;
          is_not_defined = e;
          is = refl;
        }))))
        by_field (Some d) e =
            let k = found_kind p.type_name one.name.text d (bytes_eq one.name.text typename) e in
            record {
              definition = d;
              is_defined = ap (λ (o : Option Text). option_and_then (λ (t : Text). field_on x.entries t one.name.text) o) p.is ∙ e;
              of_kind = k.0;
              is_known = k.1;
            }

    has_field : (one : SelectsField x) → HasParent x.entries one.selected.parent → HasField x.entries one.selected.parent one.name.text one.braces
    has_field one p = by_test (is_some one.braces) (is_composite found.of_kind) refl refl
      where
        found : IsFound one.selected.parent one.name.text
        found = field_found one p

        fits : is_some one.braces ≡ is_composite found.of_kind → HasField x.entries one.selected.parent one.name.text one.braces
        fits e = record { definition = found.definition; is_defined = found.is_defined; of_kind = found.of_kind; is_known = found.is_known; in_braces = e }

        differs : is_some one.braces ≢ is_composite found.of_kind → HasField x.entries one.selected.parent one.name.text one.braces
        differs other = absurd (no_rule (places.fault_at one.selected.file WrongSelections one.name) (of_fields (wrong_selections (record {
          one = one;
          definition = found.definition;
          is_defined = found.is_defined;
          kind = found.of_kind;
          is_known = found.is_known;
          is_wrong = other;
          is = refl;
        }))))

        by_test : (b c : Bool) → is_some one.braces ≡ b → is_composite found.of_kind ≡ c → HasField x.entries one.selected.parent one.name.text one.braces
        by_test true true e h = fits (e ∙ sym h)
        by_test true false e h = differs (λ same. cc)
        by_test false true e h = differs (λ same. cc)
        by_test false false e h = fits (e ∙ sym h)

    -- the parent of what stands below a selection
    module _ (file : ℕ) where
      abbrev selected : Option Text → Sel Span → SelectedOf
      selected parent s = record { file = file; parent = parent; selection = s }

      below_known : (parent : Option Text) (head : Head Span) (below : Sels Span) → Selects x (selected parent (record { label = head; below = below })) → HasParent x.entries parent → IsBraced head below → holds_any below ≡ true → HasParent x.entries (parent_below x.entries parent head)
      below_known parent (field alias name arguments directives braces place) below stands p braced some =
          let one : SelectsField x = record {
            selected = selected parent (record { label = field alias name arguments directives braces place; below = below });
            stands = stands;
            alias = alias;
            name = name;
            arguments = arguments;
            directives = directives;
            braces = braces;
            place = place;
            is_field = refl;
          } in
          let f = has_field one p in
          record {
            type_name = base_name f.definition.type_ref;
            is = ap (λ (o : Option FieldOf). option_map (λ (d : FieldOf). base_name d.type_ref) o) f.is_defined;
            of_kind = f.of_kind;
            is_known = f.is_known;
            is_composite_kind = sym f.in_braces ∙ braced ∙ some;
          }
      below_known parent (spread name directives place) below stands p braced some = p
      below_known parent (inline None directives braces place) below stands p braced some = p
      below_known parent (inline (Some name) directives braces place) below stands p braced some = condition_known file name (condition.of_inline_fragment stands refl)

      -- each selection that stands among these has a parent that is known
      parent_known : {parent inner : Option Text} {ss : Sels Span} {selection : Sel Span} → IsSelectionWithin x.entries parent ss inner selection → AreBraced ss →
          ((other : Option Text) (s : Sel Span) → IsSelectionWithin x.entries parent ss other s → Selects x (selected other s)) → HasParent x.entries parent → HasParent x.entries inner
      parent_known here braced lifts p = p
      parent_known (within {parent = parent} {head = head} {below = below} s) braced lifts p =
          parent_known s braced.1 (λ other t inside. lifts other t (within inside)) (below_known parent head below (lifts parent (record { label = head; below = below }) here) p braced.0 (some_stand s))
      parent_known (after s) braced lifts p = parent_known s braced.2 (λ other t inside. lifts other t (after inside)) p

    module _ (operations : (o : OperationOf) → Contains x.operations o → AreBraced o.set) (fragments : (f : FragmentOf) → Contains x.fragments f → AreBraced f.set) where
      pub have_parents : HaveParents x
      have_parents s (of_operation {o = o} there is) = parent_known s.file is.1 (operations o there) (λ other t inside. of_operation there (is.0, inside)) (root_parent o there)
      have_parents s (of_fragment {f = f} there is) = parent_known s.file is.1 (fragments f there) (λ other t inside. of_fragment there (is.0, inside)) (condition_known f.file f.on (condition.of_fragment there))

      pub have_fields : HaveFields x
      have_fields one = has_field one (have_parents one.selected one.stands)
