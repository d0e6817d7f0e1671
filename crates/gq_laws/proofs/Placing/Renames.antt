-- The faults of fragments before and after a fragment is renamed to a fresh name, or variables are renamed.
use Rattle.std.proofs.Common.{◌≡◌, ℕ, Bool, true, false, List, [], ◌++◌, Option, Some, None, map, refl, sym, ap, ◌∙◌, subst, Contains}
use Rattle.std.specs.Prelude.{if◌then◌else◌}
use Rattle.std.specs.Str.{bytes_eq}
use Rattle.std.proofs.lemmas.List.Elements.{Contains-append_left, Contains-append_right}
use Rattle.std.proofs.lemmas.Slice.Eq.{bytes_eq-Decides}
use Rattle.gq_text.specs.declared.place.Span.{Span}
use Rattle.gq_fault.specs.declared.fault.Fault.{Fault}
use Rattle.gq_fault.specs.FaultPlaces.{fault_at, fault_over, first_bytes}
use Rattle.gq_fault.specs.declared.code.Code.TheVariants.{FragmentNameNotUnique, SpreadNotPossible}
use Rattle.gq_tree.specs.Forest.{labels, relabel, relabel_tree}
use Rattle.gq_tree.specs.Names.{spread_name, spread_names}
use Rattle.gq_tree.specs.Plain.{NameOf, Head, field, spread, inline, Sel, Sels, place_name, place_head, no_place, erase_document}
use Rattle.gq_tree.specs.Readings.{ParsedOf, definitions_read}
use Rattle.gq_types.specs.Entries.{Text, EntryOf}
use Rattle.gq_types.proofs.Gathered.{first, later, to_flat}
use Rattle.gq_renamed.specs.Renamings.{Renaming, fragment_called, renamed_text}
use Rattle.gq_renamed.specs.Projects.{rename_trees}
use Rattle.gq_document.specs.Definitions.{OperationOf, FragmentOf, operations_of, fragments_of}
use Rattle.gq_document.specs.Selections.{SelectedOf, parent_below, IsSelectionWithin, here, within, after, IsSelected}
use Rattle.gq_document.specs.Selections as selections
use Rattle.gq_document.specs.Executable.{ExecutableOf}
use Rattle.gq_spreads.specs.FragmentSpreadTargetDefined.{IsSpreadName}
use Rattle.gq_spreads.specs.FragmentSpreadTargetDefined as targets
use Rattle.gq_fragments.specs.FragmentNameUniqueness.{IsRepeatedFragmentName}
use Rattle.gq_fragments.specs.FragmentSpreadTypeExistence.{IsUnknownCondition}
use Rattle.gq_fragments.specs.FragmentsOnCompositeTypes.{IsConditionNotComposite}
use Rattle.gq_fragments.specs.FragmentSpreadIsPossible.{IsSpread, of_fragment, of_inline_fragment, IsSpreadNotPossible}
use Rattle.gq_fragments.specs.FragmentFaults.{IsFragmentFault, repeated_fragment_name, unknown_condition, condition_not_composite, spread_not_possible}
use Rattle.gq_laws.specs.Placing.Places.{HasLike}
use Rattle.gq_rules.specs.Files.{together}
use Rattle.gq_laws.specs.Placing.Names.{shown_name, named_head, named_def, FragmentRenamesKeepFaultless, ChangesNoFragment, VariableRenamesKeepFaultless}
use Rattle.gq_laws.specs.Placing.Types.{IsFaultless}
use Rattle.gq_types.proofs.Placing.Alike.{back}
use Rattle.gq_types.proofs.Placing.Lists.{weaken_by, stands_by, contains_by}
use Rattle.gq_laws.proofs.Placing.Forgetting.{all_three, selects_operation, selects_fragment, selected_by}
use Rattle.gq_laws.proofs.Placing.Bare.{named_read, shown_before, def_renamed, renamed_alike}
use Rattle.gq_laws.proofs.Placing.Documents.{named_operation, named_fragment, operations_named, fragments_named}
use Rattle.gq_laws.proofs.Placing.Operations.{names_of_unknown_conditions, names_of_other_conditions}
use Rattle.gq_laws.proofs.Placing.Both.{renames_keep}

abbrev itself : Text → Text
itself text = text

-- what the names are shown as before
abbrev called : (old new : Text) → Text → Text
called old new text = renamed_text (λ t. bytes_eq t old) new text

-- names that are not the new one stay apart
pub apart : (old new a b : Text) → (a ≡ new → ⊥) → (b ≡ new → ⊥) → called old new a ≡ called old new b → a ≡ b
apart old new a b not_a not_b e = by (bytes_eq a old) (bytes_eq b old) refl refl e
  where
    by : (s t : Bool) → bytes_eq a old ≡ s → bytes_eq b old ≡ t → (if s then new else a) ≡ (if t then new else b) → a ≡ b
    by true true is_a is_b same = (bytes_eq-Decides a old).0 is_a ∙ sym ((bytes_eq-Decides b old).0 is_b)
    by true false is_a is_b same = absurd (not_b (sym same))
    by false true is_a is_b same = absurd (not_a same)
    by false false is_a is_b same = same

-- the name of a spread among selections is among their spreads
label_in : {es : List EntryOf} {parent inner : Option Text} {set : Sels Span} {s : Sel Span} → IsSelectionWithin es parent set inner s → Contains (labels set) s.label
label_in (here {head = head} {below = below} {rest = rest}) = first head head (labels below ++ labels rest) refl
label_in {s = s} (within {head = head} {below = below} {rest = rest} w) = later head s.label (labels below ++ labels rest) (Contains-append_left (labels below) (labels rest) s.label (label_in w))
label_in {s = s} (after {head = head} {below = below} {rest = rest} w) = later head s.label (labels below ++ labels rest) (Contains-append_right (labels below) (labels rest) s.label (label_in w))

among : {es : List EntryOf} {parent inner : Option Text} {set : Sels Span} {s : Sel Span} → IsSelectionWithin es parent set inner s → (name : NameOf Span) → Contains (spread_name s.label) name → Contains (spread_names set) name
among {set = set} {s = s} w name c = to_flat spread_name (labels set) s.label name (label_in w) c

among_selected : (es : List EntryOf) (os : List OperationOf) (fs : List FragmentOf) (s : SelectedOf) → IsSelected es os fs s → (name : NameOf Span) → Contains (spread_name s.selection.label) name →
    IsSpreadName (record { entries = es; operations = os; fragments = fs }) s.file name
among_selected es os fs s (selections.of_operation {o = o} c w) name h = targets.of_operation c (among w.1 name h) w.0
among_selected es os fs s (selections.of_fragment {f = f} c w) name h = targets.of_fragment c (among w.1 name h) w.0

-- what is seen through either look
parent_erased : (shown : Text → Text) (es : List EntryOf) (parent : Option Text) (h : Head Span) → parent_below es parent h ≡ parent_below es parent (place_head back (named_head shown h))
parent_erased shown es parent (field alias name arguments directives braces place) = refl
parent_erased shown es parent (spread name directives place) = refl
parent_erased shown es parent (inline None directives braces place) = refl
parent_erased shown es parent (inline (Some condition) directives braces place) = refl

module _ (earlier : Text → Text) where
  parent_alike : (es : List EntryOf) (parent : Option Text) (h k : Head Span) → named_head itself h ≡ named_head earlier k → parent_below es parent h ≡ parent_below es parent k
  parent_alike es parent h k e = parent_erased itself es parent h ∙ ap (λ z. parent_below es parent (place_head back z)) e ∙ sym (parent_erased earlier es parent k)

  operation_selects : (o p : OperationOf) → named_operation itself o ≡ named_operation earlier p → selects_operation (named_head itself) o ≡ selects_operation (named_head earlier) p
  operation_selects o p e =
      let defs = ap (λ z. z.1) e in
      let kinds : o.kind ≡ p.kind = cc in
      let sets : relabel (named_head itself) o.set ≡ relabel (named_head earlier) p.set = cc in
      all_three (ap (λ z. z.0) e) kinds sets

  on_alike : (f g : FragmentOf) → named_fragment itself f ≡ named_fragment earlier g → f.on.text ≡ g.on.text
  on_alike f g e =
      let defs = ap (λ z. z.1) e in
      let ons : place_name no_place f.on ≡ place_name no_place g.on = cc in
      ap (λ z. z.text) ons

  name_alike : (f g : FragmentOf) → named_fragment itself f ≡ named_fragment earlier g → f.name.text ≡ earlier g.name.text
  name_alike f g e =
      let defs = ap (λ z. z.1) e in
      let names : shown_name itself f.name ≡ shown_name earlier g.name = cc in
      ap (λ z. z.text) names

  fragment_selects : (f g : FragmentOf) → named_fragment itself f ≡ named_fragment earlier g → selects_fragment (named_head itself) f ≡ selects_fragment (named_head earlier) g
  fragment_selects f g e =
      let defs = ap (λ z. z.1) e in
      let sets : relabel (named_head itself) f.set ≡ relabel (named_head earlier) g.set = cc in
      all_three (ap (λ z. z.0) e) (on_alike f g e) sets

  -- from what is read afterwards to what was read before
  module _ (es : List EntryOf) (os ps : List OperationOf) (fs gs : List FragmentOf) (eo : map (named_operation itself) os ≡ map (named_operation earlier) ps)
      (ef : map (named_fragment itself) fs ≡ map (named_fragment earlier) gs) where
    abbrev x : ExecutableOf
    x = record { entries = es; operations = os; fragments = fs }

    abbrev y : ExecutableOf
    y = record { entries = es; operations = ps; fragments = gs }

    selected : (s : SelectedOf) → IsSelected es os fs s → (t : Sel Span) × IsSelected es ps gs (record { file = s.file; parent = s.parent; selection = t }) × (relabel_tree (named_head itself) s.selection ≡ relabel_tree (named_head earlier) t)
    selected s c = selected_by (named_head itself) (named_head earlier) parent_alike es os ps fs gs
        (weaken_by (named_operation itself) (named_operation earlier) (selects_operation (named_head itself)) (selects_operation (named_head earlier)) operation_selects os ps eo)
        (weaken_by (named_fragment itself) (named_fragment earlier) (selects_fragment (named_head itself)) (selects_fragment (named_head earlier)) fragment_selects fs gs ef) s c

    -- names that are looked for in one another stay apart
    record AreApart : Type 0 where
      pub of_fragments : (f g : FragmentOf) → Contains gs f → Contains gs g → earlier f.name.text ≡ earlier g.name.text → f.name.text ≡ g.name.text
      pub of_spreads : (f : FragmentOf) (file : ℕ) (name : NameOf Span) → Contains gs f → IsSpreadName y file name → earlier f.name.text ≡ earlier name.text → f.name.text ≡ name.text

    module _ (apart : AreApart) where
      repeated : (f : Fault) → IsRepeatedFragmentName x f → HasLike (IsRepeatedFragmentName y) f
      repeated f h =
          let c = h.is_repeated in
          let r = stands_by (named_fragment itself) (named_fragment earlier) fs gs ef c.0 h.later c.1.here in
          let o = stands_by (named_fragment itself) (named_fragment earlier) fs gs ef c.1.earlier c.1.other c.1.stands_earlier in
          let same : earlier o.0.name.text ≡ earlier r.0.name.text = sym (name_alike c.1.other o.0 o.2) ∙ c.1.same_text ∙ name_alike h.later r.0 r.2 in
          let texts = apart.of_fragments o.0 r.0 (c.1.earlier, o.1.0, o.1.1) (c.0, r.1.0, r.1.1) same in (
            fault_at r.0.file FragmentNameNotUnique r.0.name,
            record {
              later = r.0;
              is_repeated = (c.0, record { here = r.1; earlier = c.1.earlier; is_earlier = c.1.is_earlier; other = o.0; stands_earlier = o.1; same_text = texts });
              is = refl;
            },
            sym (ap (λ z. z.0) r.2) ∙ ap (λ z. z.file) (sym h.is),
            ap (λ z. z.code) (sym h.is),
          )

      spread_back : {h : Head Span} {condition : Text} {place : Span} → IsSpread fs h condition place → (file : ℕ) (k : Head Span) →
          ((name : NameOf Span) → Contains (spread_name k) name → IsSpreadName y file name) →
          named_head itself h ≡ named_head earlier k → (place2 : Span) × IsSpread gs k condition place2
      spread_back (of_fragment {f = f} {name = name} c same) file (spread n ds p) stands e =
          let names : shown_name itself name ≡ shown_name earlier n = cc in
          let d = contains_by (named_fragment itself) (named_fragment earlier) fs gs ef f c in
          let shown : earlier d.0.name.text ≡ earlier n.text = sym (name_alike f d.0 d.2) ∙ same ∙ ap (λ z. z.text) names in
          let texts = apart.of_spreads d.0 file n d.1 (stands n (first n n [] refl)) shown in
          (n.place, subst (λ z. IsSpread gs (spread n ds p) z n.place) (sym (on_alike f d.0 d.2)) (of_fragment d.1 texts))
      spread_back (of_inline_fragment {condition = condition}) file (inline (Some n) ds b p) stands e =
          let names : place_name no_place condition ≡ place_name no_place n = cc in
          (first_bytes 3 p, subst (λ z. IsSpread gs (inline (Some n) ds b p) z (first_bytes 3 p)) (ap (λ z. z.text) (sym names)) of_inline_fragment)
      spread_back (of_fragment c same) file (field a n vs ds b p) stands e = absurd (cc)
      spread_back (of_fragment c same) file (inline o ds b p) stands e = absurd (cc)
      spread_back of_inline_fragment file (field a n vs ds b p) stands e = absurd (cc)
      spread_back of_inline_fragment file (spread n ds p) stands e = absurd (cc)
      spread_back of_inline_fragment file (inline None ds b p) stands e = absurd (cc)

      not_possible : (f : Fault) → IsSpreadNotPossible x f → HasLike (IsSpreadNotPossible y) f
      not_possible f h =
          let r = selected h.selected h.is_selected in
          let s : SelectedOf = record { file = h.selected.file; parent = h.selected.parent; selection = r.0 } in
          let m = spread_back h.is_spread h.selected.file r.0.label (λ name c. among_selected es ps gs s r.1 name c) (ap (λ z. z.label) r.2) in (
            fault_over h.selected.file SpreadNotPossible m.0,
            record {
              selected = s;
              is_selected = r.1;
              parent = h.parent;
              is_below = h.is_below;
              condition = h.condition;
              place = m.0;
              is_spread = m.1;
              have_no_object = h.have_no_object;
              is = refl;
            },
            ap (λ z. z.file) (sym h.is),
            ap (λ z. z.code) (sym h.is),
          )

-- what is read before and after
abbrev ReadAs : (Text → Text) → (rs qs : List ParsedOf) → Type 0
ReadAs earlier rs qs = map (named_read itself) qs ≡ map (named_read earlier) rs

module _ (es : List EntryOf) (earlier : Text → Text) (rs qs : List ParsedOf) (reads : ReadAs earlier rs qs) where
  eo : map (named_operation itself) (operations_of qs) ≡ map (named_operation earlier) (operations_of rs)
  eo = operations_named itself earlier rs qs reads

  ef : map (named_fragment itself) (fragments_of qs) ≡ map (named_fragment earlier) (fragments_of rs)
  ef = fragments_named itself earlier rs qs reads

  -- of the faults that name fragments
  named_faults : AreApart earlier es (operations_of qs) (operations_of rs) (fragments_of qs) (fragments_of rs) eo ef → IsFaultless IsFragmentFault (together es rs) →
      IsFaultless IsUnknownCondition (together es qs) → IsFaultless IsConditionNotComposite (together es qs) → IsFaultless IsFragmentFault (together es qs)
  named_faults apart none unknown other f (repeated_fragment_name h) =
      let g = repeated earlier es (operations_of qs) (operations_of rs) (fragments_of qs) (fragments_of rs) eo ef apart f h in
      none g.0 (repeated_fragment_name g.1)
  named_faults apart none unknown other f (unknown_condition h) = unknown f h
  named_faults apart none unknown other f (condition_not_composite h) = other f h
  named_faults apart none unknown other f (spread_not_possible h) =
      let g = not_possible earlier es (operations_of qs) (operations_of rs) (fragments_of qs) (fragments_of rs) eo ef apart f h in
      none g.0 (spread_not_possible g.1)

-- of those of type conditions
abbrev pub AreRenamed : (ℕ → Renaming) → Text → (rs qs : List ParsedOf) → Type 0
AreRenamed rule new rs qs = map erase_document (map definitions_read qs) ≡ rename_trees rule 0 new (map erase_document (map definitions_read rs))

unknown_keep : (es : List EntryOf) (rule : ℕ → Renaming) (new : Text) (rs qs : List ParsedOf) → AreRenamed rule new rs qs →
    IsFaultless IsFragmentFault (together es rs) → IsFaultless IsUnknownCondition (together es qs)
unknown_keep es rule new rs qs e none f h = renames_keep IsUnknownCondition names_of_unknown_conditions es rule new rs qs e (λ g u. none g (unknown_condition u)) f h

other_keep : (es : List EntryOf) (rule : ℕ → Renaming) (new : Text) (rs qs : List ParsedOf) → AreRenamed rule new rs qs →
    IsFaultless IsFragmentFault (together es rs) → IsFaultless IsConditionNotComposite (together es qs)
other_keep es rule new rs qs e none f h = renames_keep IsConditionNotComposite names_of_other_conditions es rule new rs qs e (λ g u. none g (condition_not_composite u)) f h

pub fragment_renames_keep : FragmentRenamesKeepFaultless IsFragmentFault
fragment_renames_keep es old new rs qs e fresh none =
    let reads = renamed_alike itself (called old new) (λ n. fragment_called old) new (λ n d. def_renamed itself (fragment_called old) new d) rs qs e in
    named_faults es (called old new) rs qs reads (record {
      of_fragments = λ f g c d. apart old new f.name.text g.name.text (fresh.in_fragments f c) (fresh.in_fragments g d);
      of_spreads = λ f file name c s. apart old new f.name.text name.text (fresh.in_fragments f c) (fresh.in_spreads file name s);
    }) none (unknown_keep es (λ n. fragment_called old) new rs qs e none) (other_keep es (λ n. fragment_called old) new rs qs e none)

-- A rename that changes no fragment's name shows each definition as it was.
pub names_stay : (rule : ℕ → Renaming) (new : Text) → ChangesNoFragment rule → (rs qs : List ParsedOf) → AreRenamed rule new rs qs → ReadAs itself rs qs
names_stay rule new none rs qs e = renamed_alike itself itself rule new (λ n d. def_renamed itself (rule n) new d ∙ ap (λ z. named_def z d) (same n)) rs qs e
  where
    text_stays : (b : Bool) (text : Text) → b ≡ false → (if b then new else text) ≡ text
    text_stays true text f = absurd (cc)
    text_stays false text f = refl

    same : (n : ℕ) → shown_before itself (rule n) new ≡ itself
    same n = λ i text. text_stays ((rule n).fragments text) text (none n text) i

pub variable_renames_keep : VariableRenamesKeepFaultless IsFragmentFault
variable_renames_keep es rule new rs qs stay e none =
    named_faults es itself rs qs (names_stay rule new stay rs qs e) (record { of_fragments = λ f g c d same. same; of_spreads = λ f file name c s same. same }) none
    (unknown_keep es rule new rs qs e none) (other_keep es rule new rs qs e none)
