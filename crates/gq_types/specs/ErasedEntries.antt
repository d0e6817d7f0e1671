-- Definitions of the type system without their places. Two type systems are equal but for their places where these are the same.
use Rattle.gq_tree.specs.Plain.{TypeSystemOf, place_type_system, no_place}
use Rattle.gq_types.specs.Entries.{EntryOf}

-- a definition of the type system, its places and its document forgotten
abbrev pub erase_entry : EntryOf → TypeSystemOf (Unit {0})
erase_entry e = place_type_system no_place e.definition
