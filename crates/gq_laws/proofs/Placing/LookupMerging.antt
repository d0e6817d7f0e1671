-- The faults of fields that do not merge over type systems in which each look-up finds the same but for its places, or also but for fields that
-- are not selected.
use Rattle.std.proofs.Common.{◌≡◌, Bool, false, List, [], Option, Some, None, refl, sym, ap, ◌∙◌, subst}
use Rattle.std.specs.Prelude.{◌&&◌, ◌||◌, not, is_some, if◌then◌else◌}
use Rattle.std.specs.Str.{bytes_eq}
use Rattle.std.specs.Option.{option_map, option_map_or}
use Rattle.gq_text.specs.declared.place.Span.{Span}
use Rattle.gq_tree.specs.NamedTypes.{base_name}
use Rattle.gq_tree.specs.Plain.{TypeOf, named, list_of, non_null, place_type, no_place, field, inline}
use Rattle.gq_fault.specs.declared.fault.Fault.{Fault}
use Rattle.gq_types.specs.declared.entry.TypeKind.{TypeKind}
use Rattle.gq_types.specs.declared.entry.TypeKind.TheVariants as kinds
use Rattle.gq_types.specs.Entries.{Text, EntryOf}
use Rattle.gq_types.specs.Kinds.{same_kind}
use Rattle.gq_types.specs.Joined.{kind_named}
use Rattle.gq_document.specs.Definitions.{OperationOf, FragmentOf}
use Rattle.gq_document.specs.Selections.{selected_field}
use Rattle.gq_document.specs.Executable.{ExecutableOf}
use Rattle.gq_document.specs.FieldSets.{SetOf, FieldAt, operation_set, field_set, InSet, Stands}
use Rattle.gq_document.specs.FieldSets as sets
use Rattle.gq_merging.specs.declared.purpose.Purpose.{Purpose}
use Rattle.gq_merging.specs.declared.purpose.Purpose.TheVariants.{Shapes, Names}
use Rattle.gq_merging.specs.Shapes.{composite, leaf, many, never_null, shape_of}
use Rattle.gq_merging.specs.FieldsMerge.{HaveOneKey, can_coincide, leads_on, Meet, together, deeper, HasType, Differ, in_shape, in_call, IsFaultFor, IsMergingFault, of_shapes, of_names}
use Rattle.gq_laws.specs.Placing.Types.{PlacesOfTypesDoNotMatter}
use Rattle.gq_laws.specs.Placing.OtherFields.{LooksAlikeBut, SelectNone, OtherFieldsDoNotMatter, is_one_of, selects_one_of}
use Rattle.gq_types.proofs.Placing.Alike.{back, seen}
use Rattle.gq_laws.proofs.Placing.Arguments.{option_too}
use Rattle.gq_laws.proofs.Placing.Schema.{base_alike}
use Rattle.gq_laws.proofs.Placing.Lookups.{executable, erase_field, base_of, set_parts, composites, selected_on, all_fields, none_selected}

abbrev coincide_by : Text → Text → Option TypeKind → Option TypeKind → Bool
coincide_by left right k l = is_some k && is_some l && (bytes_eq left right || not (option_map_or (same_kind kinds.Object) k false && option_map_or (same_kind kinds.Object) l false))

abbrev set_below : FieldAt → Option Text → SetOf
set_below f parent = record { file = f.file; parent = parent; selections = f.below }

abbrev set_from : OperationOf → Option Text → SetOf
set_from o parent = record { file = o.file; parent = parent; selections = o.set }

shape_erased : (es : List EntryOf) (t : TypeOf Span) → shape_of es t ≡ shape_of es (place_type back (place_type no_place t))
shape_erased es (named name) = refl
shape_erased es (list_of item) = ap many (shape_erased es item)
shape_erased es (non_null inner) = ap never_null (shape_erased es inner)

shape_alike : (es : List EntryOf) (t u : TypeOf Span) → place_type no_place t ≡ place_type no_place u → shape_of es t ≡ shape_of es u
shape_alike es t u e = seen (place_type no_place) (place_type back) (shape_of es) (shape_erased es) t u e

module _ (names : List Text) (es us : List EntryOf) (same : LooksAlikeBut names es us) (os : List OperationOf) (gs : List FragmentOf) (none : SelectNone names os gs) where
  abbrev x : ExecutableOf
  x = executable es os gs

  abbrev y : ExecutableOf
  y = executable us os gs

  -- names of fields that are selected
  abbrev SelectsNone : SetOf → Type 0
  SelectsNone s = selects_one_of names s.selections ≡ false

  abbrev HasOther : FieldAt → Type 0
  HasOther a = (is_one_of names a.name.text ≡ false) × (selects_one_of names a.below ≡ false)

  field_none : {s : SetOf} {a : FieldAt} → SelectsNone s → InSet x s a → HasOther a
  field_none e (sets.here {alias = alias} {name = name} {arguments = arguments} {directives = directives} {braces = braces} {place = place} {below = below} {rest = rest}) =
      let p = set_parts names (field alias name arguments directives braces place) below rest e in
      (p.0, p.1)
  field_none e (sets.within {on = on} {directives = directives} {braces = braces} {place = place} {below = below} {rest = rest} h) =
      field_none (set_parts names (inline on directives braces place) below rest e).1 h
  field_none e (sets.through {fragment = g} c n h) = field_none (none.fragments g c) h
  field_none e (sets.after {head = head} {below = below} {rest = rest} h) = field_none (set_parts names head below rest e).2 h

  set_none : {s : SetOf} → Stands x s → SelectsNone s
  set_none (sets.of_operation {o = o} c) = none.operations o c
  set_none (sets.of_fragment {f = g} c) = none.fragments g c
  set_none (sets.of_field h i) = (field_none (set_none h) i).1

  meet_none : {purpose : Purpose} {a b : FieldAt} → Meet x purpose a b → HasOther a × HasOther b
  meet_none (together s h) = (field_none (set_none s) h.first, field_none (set_none s) h.second)
  meet_none (deeper m l h) =
      let w = meet_none m in
      (field_none w.0.1 h.first, field_none w.1.1 h.second)

  -- sets
  in_set : {s : SetOf} {a : FieldAt} → InSet x s a → InSet y s a
  in_set sets.here = sets.here
  in_set (sets.within h) = sets.within (in_set h)
  in_set (sets.through c e h) = sets.through c e (in_set h)
  in_set (sets.after h) = sets.after (in_set h)

  sets_of_operations : (o : OperationOf) → operation_set es o ≡ operation_set us o
  sets_of_operations o = ap (set_from o) (same.root o.kind)

  sets_of_fields : (a : FieldAt) → HasOther a → field_set es a ≡ field_set us a
  sets_of_fields a o =
      let found = selected_on names es us same a.parent a.name.text o.0 in
      ap (set_below a) (base_of (selected_field es a.parent a.name.text) (selected_field us a.parent a.name.text) found)

  stands : {s : SetOf} → Stands x s → Stands y s
  stands (sets.of_operation {o = o} c) = subst (λ z. Stands y z) (sym (sets_of_operations o)) (sets.of_operation c)
  stands (sets.of_fragment c) = sets.of_fragment c
  stands (sets.of_field {f = a} h i) = subst (λ z. Stands y z) (sym (sets_of_fields a (field_none (set_none h) i))) (sets.of_field (stands h) (in_set i))

  one_key : {s t : SetOf} {a b : FieldAt} → HaveOneKey x s t a b → HaveOneKey y s t a b
  one_key h = record { first = in_set h.first; second = in_set h.second; one_key = h.one_key }

  below : (a b : FieldAt) {c d : FieldAt} → HasOther a → HasOther b → HaveOneKey x (field_set es a) (field_set es b) c d → HaveOneKey y (field_set us a) (field_set us b) c d
  below a b {c} {d} o q h =
      subst (λ z. HaveOneKey y z (field_set us b) c d) (sets_of_fields a o) (subst (λ z. HaveOneKey y (field_set es a) z c d) (sets_of_fields b q) (one_key h))

  -- fields that meet
  coincide : (left right : Option Text) → can_coincide es left right ≡ can_coincide us left right
  coincide None right = refl
  coincide (Some left) None = refl
  coincide (Some left) (Some right) =
      ap (λ k. coincide_by left right k (kind_named es right)) (same.kind left) ∙ ap (λ k. coincide_by left right (kind_named us left) k) (same.kind right)

  leads : (purpose : Purpose) (a b : FieldAt) → leads_on es purpose a b ≡ leads_on us purpose a b
  leads Shapes a b = refl
  leads Names a b = coincide a.parent b.parent

  meet : {purpose : Purpose} {a b : FieldAt} → Meet x purpose a b → Meet y purpose a b
  meet (together s h) = together (stands s) (one_key h)
  meet {purpose} (deeper {a = a} {b = b} m l h) =
      let w = meet_none m in
      deeper (meet m) (sym (leads purpose a b) ∙ l) (below a b w.0 w.1 h)

  -- fields that differ
  shapes : (t : TypeOf Span) → shape_of es t ≡ shape_of us t
  shapes (named name) = ap (λ b. if b then composite else leaf name.text) (composites names es us same name.text)
  shapes (list_of item) = ap many (shapes item)
  shapes (non_null inner) = ap never_null (shapes inner)

  has_type : {a : FieldAt} {t : TypeOf Span} → HasOther a → HasType es a t → (u : TypeOf Span) × HasType us a u × (place_type no_place t ≡ place_type no_place u)
  has_type {a} {t} o h =
      let found = selected_on names es us same a.parent a.name.text o.0 in
      let d = option_too erase_field (selected_field us a.parent a.name.text) h.definition (ap (option_map erase_field) (sym h.is_known) ∙ found) in
      let u = d.0.type_ref in
      let types : place_type no_place t ≡ place_type no_place u = ap (place_type no_place) (sym h.is) ∙ ap (λ z. z.0) d.2 in
      let ends : is_some (kind_named us (base_name u)) ≡ is_some (kind_named es (base_name t)) =
      ap (λ z. is_some (kind_named us z)) (sym (base_alike t u types)) ∙ sym (ap (λ k. is_some k) (same.kind (base_name t))) in
      (u, record { definition = d.0; is_known = d.1; is = refl; end_is_known = ends ∙ h.end_is_known }, types)

  differ : {purpose : Purpose} {a b : FieldAt} → HasOther a → HasOther b → Differ es purpose a b → Differ us purpose a b
  differ o q (in_shape left right l r d) =
      let m = has_type o l in
      let n = has_type q r in
      in_shape m.0 n.0 m.1 n.1 (λ e. d (shapes left ∙ shape_alike us left m.0 m.2 ∙ e ∙ sym (shape_alike us right n.0 n.2) ∙ sym (shapes right)))
  differ o q (in_call {a = a} {b = b} c d) = in_call (sym (coincide a.parent b.parent) ∙ c) d

  fault_for : {purpose : Purpose} {f : Fault} → IsFaultFor x purpose f → IsFaultFor y purpose f
  fault_for h =
      let w = meet_none h.meet in
      record {
        first = h.first;
        later = h.later;
        meet = meet h.meet;
        differ = differ w.0 w.1 h.differ;
        is_no_later = h.is_no_later;
        is = h.is;
      }

  merging_fault : (f : Fault) → IsMergingFault x f → IsMergingFault y f
  merging_fault f (of_shapes h) = of_shapes (fault_for h)
  merging_fault f (of_names h) = of_names (fault_for h)

pub other_fields_of_merging : OtherFieldsDoNotMatter IsMergingFault
other_fields_of_merging names es us same os gs none f h = merging_fault names es us same os gs none f h

pub types_of_merging : PlacesOfTypesDoNotMatter IsMergingFault
types_of_merging es us same os gs f h = other_fields_of_merging [] es us (all_fields es us same) os gs (none_selected os gs) f h
