-- What is known of documents, and their index.
use Rattle.std.proofs.Common.{◌≡◌, List, refl, subst, sym}
use Rattle.gq_project.specs.declared.document.Doc.{Doc}
use Rattle.gq_tree.specs.Readings.{SharedParsed, readings_view}
use Rattle.gq_parse.specs.Parsed.{AreParsed}
use Rattle.gq_index.specs.declared.index.Index.{Index}
use Rattle.gq_index.specs.Indexed.{IsIndexOf, IsIndexOfProject}
use Rattle.gq_index.specs.Occurrences.{DefinitionOf, AreExecutables}
use Rattle.gq_known.specs.declared.known.Known.{Known}
use Rattle.gq_known.specs.Known.{IsKnown}
use Rattle.gq_query.specs.Helping.Own.{all_definitions}

-- documents have one list of executable definitions
abbrev pub OneList : Type 0
OneList = (documents : List Doc) (xs ys : List DefinitionOf) → AreExecutables documents xs → AreExecutables documents ys → xs ≡ ys

-- so the index of a project is that of the definitions that are known
pub own_index : (known : Known) (index : Index) → OneList → IsKnown known → IsIndexOfProject known.project.now index → IsIndexOf (all_definitions known.readings.now) index
own_index known index one is of =
    let ds = all_definitions known.readings.now in
    let own : AreExecutables known.project.now ds = record { readings = readings_view known.readings.now; are_readings = is.are_readings; is = refl } in
    subst (λ (l : List DefinitionOf). IsIndexOf l index) (one known.project.now of.definitions ds of.of_documents own) of.is_index

-- and that of the documents, listed, is the project's
pub index_of_known : (known : Known) (index : Index) (listed : List Doc) (readings : List SharedParsed) → listed ≡ known.project.now → known.readings.now ≡ readings
    → (AreParsed listed (readings_view readings) → IsIndexOfProject listed index) → IsKnown known → IsIndexOfProject known.project.now index
index_of_known known index listed readings all same of is =
    let are : AreParsed known.project.now (readings_view readings) = subst (λ (l : List SharedParsed). AreParsed known.project.now (readings_view l)) same is.are_readings in
    subst (λ (ds : List Doc). IsIndexOfProject ds index) all (of (subst (λ (ds : List Doc). AreParsed ds (readings_view readings)) (sym all) are))
