-- Two valid projects of the same types, where the documents of the one ask for what those of the other do, have the same responses.
use Rattle.std.proofs.Common.{◌≡◌, List, ◌++◌, Option, Contains, refl, sym, ap, subst}
use Rattle.std.specs.Prelude.{map}
use Rattle.gq_tree.specs.Plain.{erase_document}
use Rattle.gq_types.specs.BuiltIn.{built_in}
use Rattle.gq_types.specs.Entries.{EntryOf}
use Rattle.gq_project.specs.declared.document.Doc.{Doc}
use Rattle.gq_tree.specs.Readings.{ParsedOf}
use Rattle.gq_parse.specs.Parsed.{AreParsed}
use Rattle.gq_document.specs.Definitions.{OperationOf, entries_of, operations_of, fragments_of}
use Rattle.gq_document.specs.Executable.{ExecutableOf}
use Rattle.gq_rules.specs.Project.{type_system_of, executable_of}
use Rattle.gq_rules.specs.Validity.{IsValid}
use Rattle.gq_table.specs.Rows.{RowOf}
use Rattle.gq_meaning.specs.Values.{Text, Values}
use Rattle.gq_meaning.specs.Selected.{set_of}
use Rattle.gq_meaning.specs.Acyclic.{Rankable}
use Rattle.gq_response.specs.Responses.{ResponseOf}
use Rattle.gq_collect.specs.Fragments.{definition_of}
use Rattle.gq_executor.specs.Operations.{IsResponse}
use Rattle.gq_laws.specs.Rewriting.Answerable.{RequestsHaveAResponse}
use Rattle.gq_laws.specs.Rewriting.Executed.{RequestsHaveOneResponse}
use Rattle.gq_laws.specs.Rewriting.Validity.{FragmentsAreRanked}
use Rattle.gq_laws.specs.Rewriting.Subtypes.{ObjectsHaveSubtypes}
use Rattle.gq_laws.specs.Rewriting.Agree.{OperationAgrees, NamesAgreeInValid}
use Rattle.gq_laws.specs.Rewriting.Documents.{Restates}
use Rattle.gq_laws.specs.Rewriting.Statics.{static_of, roots_in}
use Rattle.gq_laws.proofs.Rewriting.Executables.{trees_read}
use Rattle.gq_laws.specs.Rewriting.Unchanged.{RestatedProjectsKeepResponses}
use Rattle.gq_laws.proofs.Rewriting.Requests.{project_over, HaveSubtypes, responses_stay}

abbrev pub Ranked : ExecutableOf → Type 0
Ranked x = (o : OperationOf) → Contains x.operations o → Rankable (map definition_of x.fragments) (set_of o.set)

abbrev pub Agree : ExecutableOf → Type 0
Agree x = (o : OperationOf) → Contains x.operations o → (rows : List RowOf) (values : Values) → OperationAgrees x o rows values

over_types : (es : List EntryOf) (bs rs : List ParsedOf) → Restates (static_of es) (roots_in es) (trees_read bs) (map erase_document (trees_read rs)) → Ranked (project_over es bs) → Ranked (project_over es rs) → HaveSubtypes es → Agree (project_over es bs) →
    (rows : List RowOf) (name : Option Text) (raw : Values) (response : ResponseOf) → IsResponse (project_over es bs) rows name raw response → IsResponse (project_over es rs) rows name raw response
over_types es bs rs restates ranked ranked' subtypes agree rows name raw response h =
    responses_stay es bs rs restates ranked ranked' subtypes (λ o c rows values. agree o c rows values (subtypes rows values)) rows name raw h

-- the same of what is equal to these
over_equal : (x y : ExecutableOf) (es : List EntryOf) (bs rs : List ParsedOf) → x ≡ project_over es bs → y ≡ project_over es rs → Restates (static_of es) (roots_in es) (trees_read bs) (map erase_document (trees_read rs)) → Ranked x → Ranked y → HaveSubtypes es → Agree x →
    (rows : List RowOf) (name : Option Text) (raw : Values) (response : ResponseOf) → IsResponse x rows name raw response → IsResponse y rows name raw response
over_equal x y es bs rs e f restates ranked ranked' subtypes agree rows name raw response h =
    subst (λ (z : ExecutableOf). IsResponse z rows name raw response) (sym f)
    (over_types es bs rs restates (subst Ranked e ranked) (subst Ranked f ranked') subtypes (subst Agree e agree) rows name raw response (subst (λ (z : ExecutableOf). IsResponse z rows name raw response) e h))

pub project_is : (rs : List ParsedOf) (es : List EntryOf) → type_system_of rs ≡ es → executable_of rs ≡ project_over es rs
project_is rs es e = ap (λ (x : List EntryOf). let y : ExecutableOf = record { entries = x; operations = operations_of rs; fragments = fragments_of rs } in y) e

one_way : FragmentsAreRanked → ObjectsHaveSubtypes → NamesAgreeInValid → (documents edited : List Doc) → ∥ IsValid documents ∥₁ → ∥ IsValid edited ∥₁ → (bs rs : List ParsedOf) → AreParsed documents bs → AreParsed edited rs → entries_of bs ≡ entries_of rs →
    Restates (static_of (type_system_of bs)) (roots_in (type_system_of bs)) (trees_read bs) (map erase_document (trees_read rs)) →
    (rows : List RowOf) (name : Option Text) (raw : Values) (response : ResponseOf) → IsResponse (executable_of bs) rows name raw response → IsResponse (executable_of rs) rows name raw response
one_way ranked subtypes agree documents edited valid valid' bs rs are are' same restates rows name raw response h =
    let es = type_system_of bs in
    let types : type_system_of rs ≡ es = ap (λ (xs : List EntryOf). built_in ++ xs) (sym same) in
    over_equal (executable_of bs) (executable_of rs) es bs rs (project_is bs es refl) (project_is rs es types) restates (ranked documents valid bs are) (ranked edited valid' rs are') (subtypes documents valid bs are) (agree documents valid bs are) rows name raw response h

-- A response after is the one that the response before became, since there is no other.
other_way : RequestsHaveAResponse → RequestsHaveOneResponse → (documents edited : List Doc) → ∥ IsValid documents ∥₁ → (bs rs : List ParsedOf) → AreParsed documents bs → AreParsed edited rs → (rows : List RowOf) (name : Option Text) (raw : Values) →
    ((response : ResponseOf) → IsResponse (executable_of bs) rows name raw response → IsResponse (executable_of rs) rows name raw response) →
    (response : ResponseOf) → IsResponse (executable_of rs) rows name raw response → IsResponse (executable_of bs) rows name raw response
other_way have one documents edited valid bs rs are are' rows name raw there response h =
    let old = have documents valid bs are rows name raw in
    let same : old.0 ≡ response = one edited rows name raw old.0 response (record { readings = rs; are_readings = are'; is_response = there old.0 old.1 }) (record { readings = rs; are_readings = are'; is_response = h }) in
    subst (λ (r : ResponseOf). IsResponse (executable_of bs) rows name raw r) same old.1

pub restated_keep : FragmentsAreRanked → ObjectsHaveSubtypes → NamesAgreeInValid → RequestsHaveAResponse → RequestsHaveOneResponse → RestatedProjectsKeepResponses
restated_keep ranked subtypes agree have one documents edited valid valid' bs rs are are' same restates rows name raw response =
    let there = one_way ranked subtypes agree documents edited valid valid' bs rs are are' same restates rows name raw in
    (there response, other_way have one documents edited valid bs rs are are' rows name raw there response)
