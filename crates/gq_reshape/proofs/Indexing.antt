-- What is known of the documents that are asked of, and their index.
use Rattle.std.proofs.Common.{◌≡◌, List, refl, subst}
use Rattle.gq_project.specs.declared.document.Doc.{Doc}
use Rattle.gq_tree.specs.Readings.{ParsedOf, readings_view}
use Rattle.gq_parse.specs.Parsed.{AreParsed}
use Rattle.gq_index.specs.declared.index.Index.{Index}
use Rattle.gq_index.specs.Indexed.{IsIndexOf, IsIndexOfProject}
use Rattle.gq_index.specs.Occurrences.{DefinitionOf, AreExecutables, executables}
use Rattle.gq_known.specs.Known.{IsKnown}
use Rattle.gq_reshape.specs.declared.asked.Asked.{Asked}
use Rattle.gq_reshape.specs.Helping.About.{IsAbout}

abbrev pub OneList : Type 0
OneList = (documents : List Doc) (xs ys : List DefinitionOf) → AreExecutables documents xs → AreExecutables documents ys → xs ≡ ys

pub index_of : OneList → (documents : List Doc) (index : Index) → IsIndexOfProject documents index → (rs : List ParsedOf) → AreParsed documents rs → IsIndexOf (executables rs) index
index_of one documents index i rs are =
    let x : AreExecutables documents (executables rs) = record { readings = rs; are_readings = are; is = refl } in
    subst (λ (ds : List DefinitionOf). IsIndexOf ds index) (one documents i.definitions (executables rs) i.of_documents x) i.is_index

module _ (asked : Asked) (about : IsAbout asked) (known : IsKnown asked.known) where
  pub are_readings : AreParsed asked.valid.now (readings_view asked.known.readings.now)
  are_readings = let R : List Doc → Type 0 = λ ds. AreParsed ds (readings_view asked.known.readings.now) in subst R about.is_project known.are_readings

  pub index_is : OneList → IsIndexOfProject asked.valid.now asked.index.now → IsIndexOf (executables (readings_view asked.known.readings.now)) asked.index.now
  index_is one index = index_of one asked.valid.now asked.index.now index (readings_view asked.known.readings.now) are_readings
