-- What is told of directives and default values in a type system, computed.
use Rattle.std.specs.Prelude.{ℕ, List, [], ◌∷◌, ◌++◌, Option, Some, None, if◌then◌else◌, map, flat_map, length}
use Rattle.std.specs.Option.{option_map_or}
use Rattle.std.specs.Borrow.{Bor}
use Rattle.gq_text.specs.declared.place.Span.{Span}
use Rattle.gq_fault.specs.declared.fault.Fault.{Fault}
use Rattle.gq_tree.specs.declared.type_system.InputValueDefinition.{InputValueDefinition}
use Rattle.gq_tree.specs.Plain.{InputOf}
use Rattle.gq_tree.specs.Views.{directive_view, input_view}
use Rattle.gq_types.specs.declared.entry.Entry.{Entry}
use Rattle.gq_types.specs.Entries.{Text, EntryOf, Numbered, entry_view}
use Rattle.gq_types.specs.BuiltIn.{defines_built_in}
use Rattle.gq_types.specs.Joined.{joined, judged}
use Rattle.gq_values.specs.Literals.{default_at}
use Rattle.gq_values.specs.LiteralPlaces.{literal_faults}
use Rattle.gq_values.specs.DirectivePlaces.{directive_faults}
use Rattle.gq_type_system.specs.declared.directive_sites.DirectiveSite.{DirectiveSite}
use Rattle.gq_type_system.specs.DirectivesAndDefaults.{Site, sites_in, own_site, own_names, all_inputs, told}
use Rattle.gq_type_system.specs.Helping.Walk.{at_each_number}

-- what the code's lists of places, of inputs and of entries stand for
abbrev pub site_view : DirectiveSite → Site
site_view s = record { location = s.location; directives = map directive_view s.directives.now }

abbrev pub sites_view : List DirectiveSite → List Site
sites_view ss = map site_view ss

abbrev pub inputs_view : List (Bor InputValueDefinition) → List (InputOf Span)
inputs_view is = map (λ i. input_view i.now) is

abbrev pub group_view : List (Bor Entry) → List EntryOf
group_view es = map (λ e. entry_view e.now) es

-- at the places in an entry, and in its default values
abbrev pub site_fault : List EntryOf → ℕ → Site → List Fault
site_fault es file site = directive_faults es file site.location [] site.directives

abbrev pub site_faults : List EntryOf → ℕ → List Site → List Fault
site_faults es file sites = flat_map (site_fault es file) sites

abbrev pub default_fault : List EntryOf → ℕ → InputOf Span → List Fault
default_fault es file input = option_map_or (λ value. literal_faults es file (default_at es input.type_ref) value) input.default []

abbrev pub default_faults : List EntryOf → ℕ → List (InputOf Span) → List Fault
default_faults es file inputs = flat_map (default_fault es file) inputs

abbrev pub inner_faults_at : List EntryOf → Numbered → List Fault
inner_faults_at es n = site_faults es n.entry.file (sites_in n.entry.definition) ++ default_faults es n.entry.file (all_inputs n.entry.definition)

abbrev pub inner_faults : List EntryOf → List Fault
inner_faults es = flat_map (inner_faults_at es) (judged es)

-- at an entry itself, behind directives of some names
abbrev pub faults_at_own : List EntryOf → ℕ → List Text → Option Site → List Fault
faults_at_own es file before None = []
faults_at_own es file before (Some site) = directive_faults es file site.location before site.directives

abbrev pub own_faults : List EntryOf → List Text → EntryOf → List Fault
own_faults es before e = if defines_built_in e.definition then [] else faults_at_own es e.file before (own_site e.definition)

-- at the entries of a group, one behind the other
abbrev pub group_faults : List EntryOf → List Text → List EntryOf → List Fault
group_faults es before [] = []
group_faults es before (e ∷ group) = own_faults es before e ++ group_faults es (before ++ own_names e) group

abbrev pub itself : EntryOf → List EntryOf
itself e = e ∷ []

abbrev pub group_of : List EntryOf → ℕ → List EntryOf
group_of es number = flat_map (λ n. itself n.entry) (joined es number)

abbrev pub group_faults_of : List EntryOf → ℕ → List Fault
group_faults_of es number = group_faults es [] (group_of es number)

-- of all numbers but the one behind the last
abbrev pub faults_of_groups : List EntryOf → List Fault
faults_of_groups es = at_each_number (group_faults_of es) 0 es

abbrev pub outer_faults : List EntryOf → List Fault
outer_faults es = faults_of_groups es ++ group_faults_of es (length es)

abbrev pub all_faults : List EntryOf → List Fault
all_faults es = inner_faults es ++ outer_faults es

abbrev pub bad_directives_and_defaults : List EntryOf → List Fault
bad_directives_and_defaults es = map told (all_faults es)
