-- What the code's definitions and parts stand for.
use Rattle.std.specs.Prelude.{List, [], ◌∷◌, Option, map}
use Rattle.std.specs.Option.{option_map_or}
use Rattle.std.specs.Arc.{arc_value}
use Rattle.std.specs.declared.alloc.Global.{Global}
use Rattle.std.specs.declared.sync.Arc.{Arc}
use Rattle.gq_text.specs.declared.place.Span.{Span}
use Rattle.gq_tree.specs.declared.tree.Name.{Name}
use Rattle.gq_tree.specs.Plain.{NameOf}
use Rattle.gq_tree.specs.Views.{name_of, def_view}
use Rattle.gq_index.specs.declared.definitions.Executable.{Executable}
use Rattle.gq_index.specs.declared.part.Part.{Part}
use Rattle.gq_index.specs.declared.parts.Parts.{Parts}
use Rattle.gq_index.specs.declared.files.File.{File}
use Rattle.gq_index.specs.Occurrences.{DefinitionOf}
use Rattle.gq_index.specs.Parts.{PartOf}

abbrev pub definition_view : Executable → DefinitionOf
definition_view e = record { file = e.file; definition = def_view e.definition.now }

abbrev pub definitions_view : List Executable → List DefinitionOf
definitions_view es = map definition_view es

abbrev pub names_view : List Name → List (NameOf Span)
names_view names = map name_of names

-- the name that a definition has, if it is a fragment
abbrev pub own_names : Option Name → List (NameOf Span)
own_names name = option_map_or (λ n. name_of n ∷ []) name []

abbrev pub part_view : Part → PartOf
part_view p = record {
  is_operation = p.is_operation;
  place = p.place;
  own_name = own_names p.own_name;
  spreads = names_view p.spreads.items;
  used = names_view p.used.items;
  defined = names_view p.defined.items;
}

abbrev pub parts_view : List Part → List PartOf
parts_view parts = map part_view parts

-- the parts that are kept of a document, and of each of several
abbrev pub parts_held : Parts → List PartOf
parts_held p = parts_view p.parts.items

abbrev pub parts_shared : List (Arc Parts Global) → List (List PartOf)
parts_shared all = map (λ p. parts_held (arc_value p)) all

abbrev pub parts_kept : File → List PartOf
parts_kept file = parts_held (arc_value file.parts)
