-- The selections of operations and fragments.
use Rattle.std.proofs.Common.{Contains, inl, inr}
use Rattle.std.specs.List.{flat_map}
use Rattle.std.proofs.lemmas.List.Elements.{Contains-append_left, Contains-append_right, Contains-append_cases}
use Rattle.gq_types.proofs.Gathered.{from_flat, to_flat}
use Rattle.gq_document.specs.Selections.{SelectedOf, of_operation, of_fragment, operation_selections, fragment_selections}
use Rattle.gq_document.specs.Executable.{ExecutableOf, Selects}
use Rattle.gq_document.proofs.SelectionLemmas.{operation_holds, fragment_holds}
use Rattle.gq_fragments.specs.Helping.FragmentPlaces.{selections}

-- the list of all selections
pub from_selections : (x : ExecutableOf) (s : SelectedOf) → Contains (selections x) s → Selects x s
from_selections x s c =
    elim (Contains-append_cases (flat_map (operation_selections x.entries) x.operations) (flat_map (fragment_selections x.entries) x.fragments) s c) [
      | inl a ↦ (let r = from_flat (operation_selections x.entries) x.operations s a in of_operation r.1 ((operation_holds x.entries r.0 s).0 r.2))
      | inr b ↦ (let r = from_flat (fragment_selections x.entries) x.fragments s b in of_fragment r.1 ((fragment_holds x.entries r.0 s).0 r.2))
    ]

pub to_selections : (x : ExecutableOf) (s : SelectedOf) → Selects x s → Contains (selections x) s
to_selections x s (of_operation {o} stands is) =
    Contains-append_left (flat_map (operation_selections x.entries) x.operations) (flat_map (fragment_selections x.entries) x.fragments) s
    (to_flat (operation_selections x.entries) x.operations o s stands ((operation_holds x.entries o s).1 is))
to_selections x s (of_fragment {f} stands is) =
    Contains-append_right (flat_map (operation_selections x.entries) x.operations) (flat_map (fragment_selections x.entries) x.fragments) s
    (to_flat (fragment_selections x.entries) x.fragments f s stands ((fragment_holds x.entries f s).1 is))
