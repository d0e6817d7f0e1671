-- What is told of the spreads of a closed set of files, and of those of all files: unknown fragments, cycles of fragments, and
-- spreads that are not possible. What is told of the set stands in it and is told of all files; what is told of all files is
-- told of each closed set that has the file in which the spread stands.
use Rattle.std.proofs.Common.{◌≡◌, ℕ, List, [], Option, Contains, refl, sym, ap, subst}
use Rattle.std.proofs.lemmas.List.Elements.{Contains-append_left, Contains-append_right}
use Rattle.gq_text.specs.declared.place.Span.{Span}
use Rattle.gq_tree.specs.Forest.{labels}
use Rattle.gq_tree.specs.Names.{spread_name, spread_names}
use Rattle.gq_tree.specs.Plain as tree
use Rattle.gq_tree.specs.Plain.{NameOf, Head, Sel, Sels}
use Rattle.gq_fault.specs.declared.fault.Fault.{Fault}
use Rattle.gq_types.specs.Entries.{Text, EntryOf}
use Rattle.gq_types.proofs.Gathered.{first, later, to_flat}
use Rattle.gq_document.specs.Definitions.{FragmentOf}
use Rattle.gq_document.specs.Selections.{SelectedOf, IsSelectionWithin, here, within, after}
use Rattle.gq_document.specs.Selections as selections
use Rattle.gq_document.specs.Executable.{ExecutableOf, Selects}
use Rattle.gq_spreads.specs.FragmentSpreadTargetDefined.{IsSpreadName, IsUnknownFragment}
use Rattle.gq_spreads.specs.FragmentSpreadTargetDefined as targets
use Rattle.gq_spreads.specs.FragmentSpreadsMustNotFormCycles.{IsFragmentCycle}
use Rattle.gq_fragments.specs.FragmentSpreadIsPossible.{IsSpread, of_fragment, of_inline_fragment, IsSpreadNotPossible}
use Rattle.gq_by_file.specs.Closed.Closed.{IsClosed, StandsInFile}
use Rattle.gq_by_file.specs.Closed.Closed as closed
use Rattle.gq_by_file.proofs.Closed.Within.{IsInside, operation_from, operation_to, fragment_from, fragment_to, reached_from, reached_to, operation_inside, fragment_inside}

-- what is told of a closed set stands in it, and is told of all files
abbrev pub AreSound : (ExecutableOf → Fault → Type 0) → Type 0
AreSound F = (files : List ℕ) (x : ExecutableOf) → IsClosed files x → (f : Fault) → F (closed.within files x) f → Contains files f.file × F x f

-- what is told of all files is told of each closed set that has one certain file
abbrev pub AreComplete : (ExecutableOf → Fault → Type 0) → Type 0
AreComplete F = (x : ExecutableOf) (f : Fault) → F x f → (n : ℕ) × StandsInFile x n × ((files : List ℕ) → IsClosed files x → Contains files n → F (closed.within files x) f)

-- of a number that is the same
pub in_files : (files : List ℕ) {n m : ℕ} → n ≡ m → Contains files m → Contains files n
in_files files e c = subst (λ k. Contains files k) (sym e) c

-- what a selection says is among what all of them say
label_in : {es : List EntryOf} {parent inner : Option Text} {set : Sels Span} {s : Sel Span} → IsSelectionWithin es parent set inner s → Contains (labels set) s.label
label_in (here {head = head} {below = below} {rest = rest}) = first head head _ refl
label_in (within {head = head} {below = below} {rest = rest} {selection = selection} w) =
    later head selection.label _ (Contains-append_left (labels below) (labels rest) selection.label (label_in w))
label_in (after {head = head} {below = below} {rest = rest} {selection = selection} w) =
    later head selection.label _ (Contains-append_right (labels below) (labels rest) selection.label (label_in w))

-- unknown fragments
module _ (files : List ℕ) (x : ExecutableOf) (closed_set : IsClosed files x) where
  name_from : {n : ℕ} {name : NameOf Span} → IsSpreadName (closed.within files x) n name →
      Contains files n × IsSpreadName x n name × ((f : FragmentOf) → Contains x.fragments f → name.text ≡ f.name.text → Contains files f.file)
  name_from {n} {name} (targets.of_operation {o = o} c s e) =
      let t = operation_from files x o c in
      (in_files files e t.1, targets.of_operation t.0 s e, λ f d q. operation_inside files x closed_set o c f d (record { name = name; stands = s; names = q }))
  name_from {n} {name} (targets.of_fragment {f = g} c s e) =
      let t = fragment_from files x g c in
      (in_files files e t.1, targets.of_fragment t.0 s e, λ f d q. fragment_inside files x closed_set g c f d (record { name = name; stands = s; names = q }))

pub unknown_fragments_sound : AreSound IsUnknownFragment
unknown_fragments_sound files x closed_set f h =
    let t = name_from files x closed_set h.is_spread in (
      in_files files (ap (λ z. z.file) h.is) t.0,
      record {
        file = h.file;
        name = h.name;
        is_spread = t.1;
        is_unknown = λ g d q. h.is_unknown g (fragment_to files x g d (t.2 g d q)) q;
        is = h.is;
      },
    )

pub unknown_fragments_complete : AreComplete IsUnknownFragment
unknown_fragments_complete x f h = by h.is_spread
  where
    again : (files : List ℕ) → IsSpreadName (closed.within files x) h.file h.name → IsUnknownFragment (closed.within files x) f
    again files s = record {
      file = h.file;
      name = h.name;
      is_spread = s;
      is_unknown = λ g d q. h.is_unknown g ((fragment_from files x g d).0) q;
      is = h.is;
    }

    by : IsSpreadName x h.file h.name → (n : ℕ) × StandsInFile x n × ((files : List ℕ) → IsClosed files x → Contains files n → IsUnknownFragment (closed.within files x) f)
    by (targets.of_operation {o = o} c s e) = (o.file, closed.of_operation c refl, λ files closed_set i. again files (targets.of_operation (operation_to files x o c i) s e))
    by (targets.of_fragment {f = g} c s e) = (g.file, closed.of_fragment c refl, λ files closed_set i. again files (targets.of_fragment (fragment_to files x g c i) s e))

-- cycles
pub fragment_cycles_sound : AreSound IsFragmentCycle
fragment_cycles_sound files x closed_set f h =
    let t = fragment_from files x h.fragment h.stands in
    let u = fragment_from files x h.target h.target_stands in (
      in_files files (ap (λ z. z.file) h.is) t.1,
      record {
        fragment = h.fragment;
        stands = t.0;
        name = h.name;
        is_spread = h.is_spread;
        target = h.target;
        target_stands = u.0;
        is_named = h.is_named;
        leads_back = reached_from files x h.leads_back;
        is = h.is;
      },
    )

pub fragment_cycles_complete : AreComplete IsFragmentCycle
fragment_cycles_complete x f h = (
  h.fragment.file,
  closed.of_fragment h.stands refl,
  λ files closed_set i.
      let c = fragment_to files x h.fragment h.stands i in
      let d = fragment_to files x h.target h.target_stands (fragment_inside files x closed_set h.fragment c h.target h.target_stands (record { name = h.name; stands = h.is_spread; names = h.is_named })) in
      record {
        fragment = h.fragment;
        stands = c;
        name = h.name;
        is_spread = h.is_spread;
        target = h.target;
        target_stands = d;
        is_named = h.is_named;
        leads_back = (reached_to files x closed_set (fragment_inside files x closed_set h.target d) h.leads_back).0;
        is = h.is;
      },
)

-- spreads that are not possible
module _ (files : List ℕ) (x : ExecutableOf) where
  selected_from : {s : SelectedOf} → Selects (closed.within files x) s → Contains files s.file × Selects x s
  selected_from (selections.of_operation {o = o} c w) = let t = operation_from files x o c in (in_files files w.0 t.1, selections.of_operation t.0 w)
  selected_from (selections.of_fragment {f = g} c w) = let t = fragment_from files x g c in (in_files files w.0 t.1, selections.of_fragment t.0 w)

  spread_from : {head : Head Span} {condition : Text} {place : Span} → IsSpread (closed.within files x).fragments head condition place → IsSpread x.fragments head condition place
  spread_from (of_fragment {f = g} c e) = of_fragment ((fragment_from files x g c).0) e
  spread_from of_inline_fragment = of_inline_fragment

  spread_to : {set : Sels Span} {head : Head Span} {condition : Text} {place : Span} → IsInside files x set → Contains (labels set) head → IsSpread x.fragments head condition place →
      IsSpread (closed.within files x).fragments head condition place
  spread_to {set} inside c (of_fragment {f = g} {name = name} {directives = directives} {place = place} d e) =
      let s : Contains (spread_names set) name = to_flat spread_name (labels set) (tree.spread name directives place) name c (first name name [] refl) in
      of_fragment (fragment_to files x g d (inside g d (record { name = name; stands = s; names = sym e }))) e
  spread_to inside c of_inline_fragment = of_inline_fragment

pub impossible_spreads_sound : AreSound IsSpreadNotPossible
impossible_spreads_sound files x closed_set f h =
    let t = selected_from files x h.is_selected in (
      in_files files (ap (λ z. z.file) h.is) t.0,
      record {
        selected = h.selected;
        is_selected = t.1;
        parent = h.parent;
        is_below = h.is_below;
        condition = h.condition;
        place = h.place;
        is_spread = spread_from files x h.is_spread;
        have_no_object = h.have_no_object;
        is = h.is;
      },
    )

pub impossible_spreads_complete : AreComplete IsSpreadNotPossible
impossible_spreads_complete x f h = by h.is_selected
  where
    again : (files : List ℕ) → Selects (closed.within files x) h.selected → IsSpread (closed.within files x).fragments h.selected.selection.label h.condition h.place → IsSpreadNotPossible (closed.within files x) f
    again files s spreads = record {
      selected = h.selected;
      is_selected = s;
      parent = h.parent;
      is_below = h.is_below;
      condition = h.condition;
      place = h.place;
      is_spread = spreads;
      have_no_object = h.have_no_object;
      is = h.is;
    }

    by : Selects x h.selected → (n : ℕ) × StandsInFile x n × ((files : List ℕ) → IsClosed files x → Contains files n → IsSpreadNotPossible (closed.within files x) f)
    by (selections.of_operation {o = o} c w) = (
      o.file,
      closed.of_operation c refl,
      λ files closed_set i.
          let d = operation_to files x o c i in
          again files (selections.of_operation d w) (spread_to files x (operation_inside files x closed_set o d) (label_in w.1) h.is_spread),
    )
    by (selections.of_fragment {f = g} c w) = (
      g.file,
      closed.of_fragment c refl,
      λ files closed_set i.
          let d = fragment_to files x g c i in
          again files (selections.of_fragment d w) (spread_to files x (fragment_inside files x closed_set g d) (label_in w.1) h.is_spread),
    )
