-- The faults of fragments, of definitions that are equal but for their places.
use Rattle.std.proofs.Common.{◌≡◌, List, Some, None, map, refl, sym, ap, ◌∙◌, subst}
use Rattle.gq_text.specs.declared.place.Span.{Span}
use Rattle.gq_fault.specs.declared.fault.Fault.{Fault}
use Rattle.gq_fault.specs.FaultPlaces.{fault_at, fault_over, first_bytes}
use Rattle.gq_fault.specs.declared.code.Code.TheVariants.{FragmentNameNotUnique, SpreadNotPossible}
use Rattle.gq_tree.specs.Plain.{Head, field, spread, inline, place_name, place_head, no_place}
use Rattle.gq_types.specs.Entries.{Text, EntryOf}
use Rattle.gq_document.specs.Definitions.{OperationOf, FragmentOf}
use Rattle.gq_document.specs.Executable.{ExecutableOf}
use Rattle.gq_fragments.specs.FragmentNameUniqueness.{IsRepeatedFragmentName}
use Rattle.gq_fragments.specs.FragmentSpreadTypeExistence.{IsUnknownCondition}
use Rattle.gq_fragments.specs.FragmentsOnCompositeTypes.{IsConditionNotComposite}
use Rattle.gq_fragments.specs.FragmentSpreadIsPossible.{IsSpread, of_fragment, of_inline_fragment, IsSpreadNotPossible}
use Rattle.gq_fragments.specs.FragmentFaults.{IsFragmentFault, repeated_fragment_name, unknown_condition, condition_not_composite, spread_not_possible}
use Rattle.gq_laws.specs.Placing.Places.{erase_operation, erase_fragment, SameButPlaces, HasLike, PlacesDoNotMatter}
use Rattle.gq_types.proofs.Placing.Alike.{contains}
use Rattle.gq_laws.proofs.Placing.Bare.{by_names}
use Rattle.gq_laws.proofs.Placing.Operations.{repeated_by, names_of_unknown_conditions, names_of_other_conditions}
use Rattle.gq_laws.proofs.Placing.Selected.{selected_alike}

pub fragment_name : (f g : FragmentOf) → erase_fragment f ≡ erase_fragment g → f.name.text ≡ g.name.text
fragment_name f g e =
    let defs = ap (λ z. z.1) e in
    let names : place_name no_place f.name ≡ place_name no_place g.name = cc in
    ap (λ n. n.text) names

fragment_on : (f g : FragmentOf) → erase_fragment f ≡ erase_fragment g → f.on.text ≡ g.on.text
fragment_on f g e =
    let defs = ap (λ z. z.1) e in
    let names : place_name no_place f.on ≡ place_name no_place g.on = cc in
    ap (λ n. n.text) names

module _ (es : List EntryOf) (os ps : List OperationOf) (fs gs : List FragmentOf) (eo : map erase_operation os ≡ map erase_operation ps) (ef : map erase_fragment fs ≡ map erase_fragment gs) where
  abbrev x : ExecutableOf
  x = record { entries = es; operations = os; fragments = fs }

  abbrev y : ExecutableOf
  y = record { entries = es; operations = ps; fragments = gs }

  same : SameButPlaces x y
  same = record { entries = refl; operations = eo; fragments = ef }

  repeated_fragment_too : (f : Fault) → IsRepeatedFragmentName x f → HasLike (IsRepeatedFragmentName y) f
  repeated_fragment_too f h =
      let r = repeated_by erase_fragment (λ g. g.name.text) fragment_name fs gs ef h.later h.is_repeated in (
        fault_at r.0.file FragmentNameNotUnique r.0.name,
        record { later = r.0; is_repeated = r.1; is = refl },
        sym (ap (λ z. z.0) r.2) ∙ ap (λ z. z.file) (sym h.is),
        ap (λ z. z.code) (sym h.is),
      )

  spread_too : {h : Head Span} {condition : Text} {place : Span} → IsSpread fs h condition place → (k : Head Span) → place_head no_place h ≡ place_head no_place k → (place2 : Span) × IsSpread gs k condition place2
  spread_too (of_fragment {f = f} {name = name} c same) (spread n ds p) e =
      let names : place_name no_place name ≡ place_name no_place n = cc in
      let d = contains erase_fragment fs gs ef f c in
      let at_name : d.0.name.text ≡ n.text = sym (fragment_name f d.0 d.2) ∙ same ∙ ap (λ z. z.text) names in
      (n.place, subst (λ z. IsSpread gs (spread n ds p) z n.place) (sym (fragment_on f d.0 d.2)) (of_fragment d.1 at_name))
  spread_too (of_inline_fragment {condition = condition}) (inline (Some n) ds b p) e =
      let names : place_name no_place condition ≡ place_name no_place n = cc in
      (first_bytes 3 p, subst (λ z. IsSpread gs (inline (Some n) ds b p) z (first_bytes 3 p)) (ap (λ z. z.text) (sym names)) of_inline_fragment)
  spread_too (of_fragment c same) (field a n vs ds b p) e = absurd (cc)
  spread_too (of_fragment c same) (inline o ds b p) e = absurd (cc)
  spread_too of_inline_fragment (field a n vs ds b p) e = absurd (cc)
  spread_too of_inline_fragment (spread n ds p) e = absurd (cc)
  spread_too of_inline_fragment (inline None ds b p) e = absurd (cc)

  not_possible_too : (f : Fault) → IsSpreadNotPossible x f → HasLike (IsSpreadNotPossible y) f
  not_possible_too f h =
      let r = selected_alike es os ps fs gs eo ef h.selected h.is_selected in
      let s = spread_too h.is_spread r.0.label (ap (λ z. z.label) r.2) in (
        fault_over h.selected.file SpreadNotPossible s.0,
        record {
          selected = record { file = h.selected.file; parent = h.selected.parent; selection = r.0 };
          is_selected = r.1;
          parent = h.parent;
          is_below = h.is_below;
          condition = h.condition;
          place = s.0;
          is_spread = s.1;
          have_no_object = h.have_no_object;
          is = refl;
        },
        ap (λ z. z.file) (sym h.is),
        ap (λ z. z.code) (sym h.is),
      )

  fragment_too : (f : Fault) → IsFragmentFault x f → HasLike (IsFragmentFault y) f
  fragment_too f (repeated_fragment_name h) = let g = repeated_fragment_too f h in (g.0, repeated_fragment_name g.1, g.2, g.3)
  fragment_too f (unknown_condition h) = let g = by_names IsUnknownCondition names_of_unknown_conditions x y same f h in (g.0, unknown_condition g.1, g.2, g.3)
  fragment_too f (condition_not_composite h) = let g = by_names IsConditionNotComposite names_of_other_conditions x y same f h in (g.0, condition_not_composite g.1, g.2, g.3)
  fragment_too f (spread_not_possible h) = let g = not_possible_too f h in (g.0, spread_not_possible g.1, g.2, g.3)

pub fragments_alike : PlacesDoNotMatter IsFragmentFault
fragments_alike x y s f h =
    subst (λ es. HasLike (IsFragmentFault (record { entries = es; operations = y.operations; fragments = y.fragments })) f) s.entries
    (fragment_too x.entries x.operations y.operations x.fragments y.fragments s.operations s.fragments f h)
