-- Parts of all documents, and what the tables hold of them, computed.
use Rattle.std.specs.Prelude.{ℕ, ◌+◌, Bool, List, [], ◌∷◌, ◌++◌, map}
use Rattle.std.specs.List.{flat_map}
use Rattle.gq_text.specs.declared.place.Span.{Span}
use Rattle.gq_tree.specs.Plain.{NameOf}
use Rattle.gq_types.specs.Entries.{Text}
use Rattle.gq_index.specs.declared.occurrence.Occurrence.{Occurrence}
use Rattle.gq_index.specs.declared.placed.Placed.{Placed}
use Rattle.gq_index.specs.Parts.{PartOf, part_of}
use Rattle.gq_index.specs.Occurrences.{DefinitionOf, occurrences_of}
use Rattle.gq_index.specs.Views.{part_view}

-- a part, and the number of its document
pub record PartAt : Type 0 where
  pub file : ℕ
  pub part : PartOf

abbrev pub placed_part : Placed → PartAt
placed_part p = record { file = p.file; part = part_view p.part.now }

abbrev pub placed_view : List Placed → List PartAt
placed_view ps = map placed_part ps

-- those of definitions
abbrev pub part_at : DefinitionOf → PartAt
part_at d = record { file = d.file; part = part_of d.definition }

abbrev pub parts_at : List DefinitionOf → List PartAt
parts_at ds = map part_at ds

-- those of a document of that number, and of documents of which the first has it
abbrev pub placed : ℕ → List PartOf → List PartAt
placed file parts = map (λ p. record { file = file; part = p }) parts

abbrev pub placed_from : ℕ → List (List PartOf) → List PartAt
placed_from file [] = []
placed_from file (parts ∷ others) = placed file parts ++ placed_from (file + 1) others

-- where fragments are defined, where they are spread, and both in the order of the texts
abbrev pub occurrences_at : (PartOf → List (NameOf Span)) → Text → List PartAt → List Occurrence
occurrences_at names text ps = flat_map (λ p. occurrences_of p.file text (names p.part)) ps

abbrev pub definitions_at : List PartAt → Text → List Occurrence
definitions_at ps text = occurrences_at (λ p. p.own_name) text ps

abbrev pub spreads_at : List PartAt → Text → List Occurrence
spreads_at ps text = occurrences_at (λ p. p.spreads) text ps

abbrev pub names_at_all : List PartAt → Text → List Occurrence
names_at_all ps text = flat_map (λ p. occurrences_of p.file text p.part.own_name ++ occurrences_of p.file text p.part.spreads) ps

-- where each part stands, and whether it is an operation
abbrev pub places_at : List PartAt → List Occurrence
places_at ps = map (λ p. record { file = p.file; span = p.part.place }) ps

abbrev pub operations_at : List PartAt → List Bool
operations_at ps = map (λ p. p.part.is_operation) ps
