-- An index of what documents read as.
use Rattle.std.proofs.Common.{◌≡◌, List, sym, subst, ◌∙◌}
use Rattle.gq_project.specs.declared.document.Doc.{Doc}
use Rattle.gq_tree.specs.Readings.{SharedParsed, readings_view}
use Rattle.gq_parse.specs.Parsed.{AreParsed}
use Rattle.gq_index.specs.declared.index.Index.{Index}
use Rattle.gq_index.specs.Indexed.{IsIndexOfProject}

-- it is one of theirs
pub index_read : (told held documents : List Doc) (readings listed : List SharedParsed) (index : Index) → told ≡ held → held ≡ documents → listed ≡ readings → AreParsed held (readings_view readings) →
    (AreParsed told (readings_view listed) → IsIndexOfProject told index) → IsIndexOfProject documents index
index_read told held documents readings listed index tells same given are makes =
    let I : List Doc → Type 0 = λ ds. IsIndexOfProject ds index in
    let T : List Doc → Type 0 = λ ds. AreParsed ds (readings_view listed) in
    subst I (tells ∙ same) (makes (subst T (sym tells) (subst (λ (rs : List SharedParsed). AreParsed held (readings_view rs)) (sym given) are)))
