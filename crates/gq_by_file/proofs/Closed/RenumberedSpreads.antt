-- What is told of spreads is told of them under other numbers: unknown fragments, cycles of fragments, and spreads that are not possible. The same fragments
-- are reached, each under the number that answers to its own.
use Rattle.std.proofs.Common.{◌≡◌, ℕ, List, refl, sym, ap, subst}
use Rattle.gq_text.specs.declared.place.Span.{Span}
use Rattle.gq_tree.specs.Plain.{NameOf, Head, Sels}
use Rattle.gq_fault.specs.declared.code.Code.TheVariants.{UnknownFragment, FragmentCycle, SpreadNotPossible}
use Rattle.gq_fault.specs.declared.fault.Fault.{Fault}
use Rattle.gq_fault.specs.FaultPlaces.{fault_at, fault_over}
use Rattle.gq_types.specs.Entries.{Text, EntryOf}
use Rattle.gq_document.specs.Definitions.{OperationOf, FragmentOf}
use Rattle.gq_document.specs.Reaches.{IsSpreadIn, Reaches, at_once, through}
use Rattle.gq_document.specs.Selections.{SelectedOf}
use Rattle.gq_document.specs.Selections as selections
use Rattle.gq_document.specs.Executable.{Selects}
use Rattle.gq_spreads.specs.FragmentSpreadTargetDefined.{IsSpreadName, IsUnknownFragment}
use Rattle.gq_spreads.specs.FragmentSpreadTargetDefined as targets
use Rattle.gq_spreads.specs.FragmentSpreadsMustNotFormCycles.{IsFragmentCycle}
use Rattle.gq_fragments.specs.FragmentSpreadIsPossible.{IsSpread, of_fragment, of_inline_fragment, IsSpreadNotPossible}
use Rattle.gq_by_file.proofs.OneFile.Numbers.{fragment_to}
use Rattle.gq_by_file.proofs.Closed.Renumbered.{made, AreRenumbered, TellsOfRenumbered}

-- the same fault has the same code
pub same_code : {f g : Fault} → f ≡ g → g.code ≡ f.code
same_code e = sym (ap (λ z. z.code) e)

-- a spread names a fragment under any number
spread_in : {set : Sels Span} {g : FragmentOf} (n : ℕ) → IsSpreadIn set g → IsSpreadIn set (fragment_to n g)
spread_in n h = record { name = h.name; stands = h.stands; names = h.names }

-- the same selection in the document of another number
abbrev pub selected_to : ℕ → SelectedOf → SelectedOf
selected_to n s = record s { file = n }

module _ (Is : ℕ → ℕ → Type 0) (os ps : List OperationOf) (gs hs : List FragmentOf) (renumbered : AreRenumbered Is os ps gs hs) where
  -- what is reached is reached under the number that answers to its own
  pub reaches_to : {set : Sels Span} {g : FragmentOf} → Reaches gs set g → (n : ℕ) × Is g.file n × Reaches hs set (fragment_to n g)
  reaches_to (at_once {f = g} c h) = let d = renumbered.fragment g c in (d.0, d.1, at_once d.2 (spread_in d.0 h))
  reaches_to (through {f = g} r c h) =
      let t = reaches_to r in
      let d = renumbered.fragment g c in
      (d.0, d.1, through t.2 d.2 (spread_in d.0 h))

  pub reaches_back : {set : Sels Span} {h : FragmentOf} → Reaches hs set h → (n : ℕ) × Is n h.file × Reaches gs set (fragment_to n h)
  reaches_back (at_once {f = g} c h) = let d = renumbered.fragment_back g c in (d.0, d.1, at_once d.2 (spread_in d.0 h))
  reaches_back (through {f = g} r c h) =
      let t = reaches_back r in
      let d = renumbered.fragment_back g c in
      (d.0, d.1, through t.2 d.2 (spread_in d.0 h))

  module _ (es : List EntryOf) where
    name_to : {file : ℕ} {name : NameOf Span} → IsSpreadName (made es os gs) file name → (n : ℕ) × IsSpreadName (made es ps hs) n name
    name_to (targets.of_operation {o} c s e) = let d = renumbered.operation o c in (d.0, targets.of_operation d.2 s refl)
    name_to (targets.of_fragment {f = g} c s e) = let d = renumbered.fragment g c in (d.0, targets.of_fragment d.2 s refl)

    selected_in : {s : SelectedOf} → Selects (made es os gs) s → (n : ℕ) × Selects (made es ps hs) (selected_to n s)
    selected_in (selections.of_operation {o} c w) = let d = renumbered.operation o c in (d.0, selections.of_operation d.2 (refl, w.1))
    selected_in (selections.of_fragment {f = g} c w) = let d = renumbered.fragment g c in (d.0, selections.of_fragment d.2 (refl, w.1))

    spread_to : {head : Head Span} {condition : Text} {place : Span} → IsSpread gs head condition place → IsSpread hs head condition place
    spread_to (of_fragment {f = g} c e) = let d = renumbered.fragment g c in of_fragment d.2 e
    spread_to of_inline_fragment = of_inline_fragment

-- unknown fragments
pub unknown_renumbered : TellsOfRenumbered IsUnknownFragment
unknown_renumbered es Is os ps gs hs renumbered f h =
    let t = name_to Is os ps gs hs renumbered es h.is_spread in (
      fault_at t.0 UnknownFragment h.name,
      same_code h.is,
      record {
        file = t.0;
        name = h.name;
        is_spread = t.1;
        is_unknown = λ g c e. let d = renumbered.fragment_back g c in h.is_unknown (fragment_to d.0 g) d.2 e;
        is = refl;
      },
    )

-- cycles
pub cycle_renumbered : TellsOfRenumbered IsFragmentCycle
cycle_renumbered es Is os ps gs hs renumbered f h =
    let c = renumbered.fragment h.fragment h.stands in
    let d = renumbered.fragment h.target h.target_stands in
    let t = reaches_to Is os ps gs hs renumbered h.leads_back in
    let same = renumbered.is_one h.fragment.file t.0 c.0 t.1 c.1 in (
      fault_at c.0 FragmentCycle h.name,
      same_code h.is,
      record {
        fragment = fragment_to c.0 h.fragment;
        stands = c.2;
        name = h.name;
        is_spread = h.is_spread;
        target = fragment_to d.0 h.target;
        target_stands = d.2;
        is_named = h.is_named;
        leads_back = subst (λ n. Reaches hs h.target.set (fragment_to n h.fragment)) same t.2;
        is = refl;
      },
    )

-- spreads that are not possible
pub impossible_renumbered : TellsOfRenumbered IsSpreadNotPossible
impossible_renumbered es Is os ps gs hs renumbered f h =
    let t = selected_in Is os ps gs hs renumbered es h.is_selected in (
      fault_over t.0 SpreadNotPossible h.place,
      same_code h.is,
      record {
        selected = selected_to t.0 h.selected;
        is_selected = t.1;
        parent = h.parent;
        is_below = h.is_below;
        condition = h.condition;
        place = h.place;
        is_spread = spread_to Is os ps gs hs renumbered es h.is_spread;
        have_no_object = h.have_no_object;
        is = refl;
      },
    )
