-- What is told of single entries, put together, is what the rules put.
use Rattle.std.proofs.Common.{◌≡◌, List}
use Rattle.gq_types.specs.Entries.{EntryOf}
use Rattle.gq_type_system.specs.declared.each_entry.EntryFaults.{EntryFaults}
use Rattle.gq_type_system.specs.declared.each_entry.Told.{Told}
use Rattle.gq_type_system.specs.Helping.EachEntry.{AreTold, names_told, parts_told}
use Rattle.gq_type_system.specs.Helping.SchemaFaultsPlaces.{name_faults, part_faults}

pub names_are : (es : List EntryOf) (t : Told) → AreTold es t → names_told t.entries ≡ name_faults es
names_are es t are =
    let a = are.defined_twice in
    let b = are.extensions in
    let c = are.reserved in
    let d = are.unknown in
    let e = are.wrong in
    cc

-- where what is left is as it was
pub parts_are : (es : List EntryOf) (t : Told) (u : EntryFaults) → AreTold es t → u.empty.items ≡ t.entries.empty.items → u.arguments.items ≡ t.entries.arguments.items
    → u.inner.items ≡ t.entries.inner.items → parts_told es u t.groups ≡ part_faults es
parts_are es t u are empty arguments inner =
    let a = are.empty in
    let b = are.arguments in
    let c = are.inner in
    let d = are.repeated in
    let e = are.implementations in
    let f = are.outer in
    cc
