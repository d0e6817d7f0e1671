-- Two valid projects of the same types, where the documents of the one ask for what those of the other do, have the same calls.
use Rattle.std.proofs.Common.{◌≡◌, List, ◌++◌, Option, map, Contains, refl, sym, ap, subst}
use Rattle.gq_tree.specs.declared.tree.OperationKind.{OperationKind}
use Rattle.gq_tree.specs.Plain.{erase_document}
use Rattle.gq_types.specs.BuiltIn.{built_in}
use Rattle.gq_types.specs.Entries.{EntryOf}
use Rattle.gq_tree.specs.Readings.{ParsedOf}
use Rattle.gq_document.specs.Definitions.{OperationOf, operations_of, fragments_of}
use Rattle.gq_document.specs.Executable.{ExecutableOf}
use Rattle.gq_rules.specs.Project.{type_system_of, executable_of}
use Rattle.gq_table.specs.Rows.{RowOf}
use Rattle.gq_meaning.specs.Values.{Text, Values}
use Rattle.gq_meaning.specs.Results.{Call}
use Rattle.gq_meaning.specs.Selected.{set_of}
use Rattle.gq_meaning.specs.Expand.{Definition}
use Rattle.gq_meaning.specs.Acyclic.{Rankable}
use Rattle.gq_meaning.specs.Response.{Given, root, Calls}
use Rattle.gq_meaning.specs.Rewritten.{NamesAgree}
use Rattle.gq_collect.specs.Given.{given_in}
use Rattle.gq_collect.specs.Fragments.{definition_of}
use Rattle.gq_coerce.specs.Variables.{coerced_variables}
use Rattle.gq_laws.specs.Rewriting.Agree.{NamesAgreeInValid}
use Rattle.gq_laws.specs.Rewriting.Answerable.{RequestsHaveAResponse}
use Rattle.gq_laws.specs.Rewriting.Documents.{Restates, definitions_of}
use Rattle.gq_laws.specs.Rewriting.Statics.{static_of, roots_in, seen_operation}
use Rattle.gq_laws.specs.Rewriting.Subtypes.{ObjectsHaveSubtypes}
use Rattle.gq_laws.specs.Rewriting.Validity.{FragmentsAreRanked}
use Rattle.gq_laws.proofs.Rewriting.After.{meaning_kept}
use Rattle.gq_laws.proofs.Rewriting.Executables.{trees_read, fragments_seen}
use Rattle.gq_laws.proofs.Rewriting.Meant.{meant_among}
use Rattle.gq_laws.proofs.Rewriting.Requests.{project_over, AreRanked, HaveSubtypes, HaveOneName, Becomes, meant}
use Rattle.gq_laws.proofs.Rewriting.Restated.{Ranked, Agree, project_is}
use Rattle.gq_laws.proofs.Rewriting.VariableValues.{values_same}
use Rattle.gq_laws.proofs.Renaming.Answering.{found_weaker}
use Rattle.gq_law_calls.specs.Calls.{AreCalls}
use Rattle.gq_law_calls.specs.Steps.{RestatedProjectsKeepCalls}
use Rattle.gq_law_calls.proofs.OneList.{both_ways}
use Rattle.gq_law_calls.proofs.Going.{found_equal, CallsGo, OperationsGo, calls_go}

module _ (es : List EntryOf) (bs rs : List ParsedOf) (restates : Restates (static_of es) (roots_in es) (trees_read bs) (map erase_document (trees_read rs)))
    (ranked : AreRanked bs) (ranked' : AreRanked rs) (subtypes : HaveSubtypes es) (agree : HaveOneName es bs) (rows : List RowOf) where
  -- the calls of an operation are calls of what it becomes
  made_alike : (o p : OperationOf) → Contains (operations_of bs) o → Contains (operations_of rs) p → Becomes es bs rs restates o p → (values : Values) →
      CallsGo (project_over es bs) (project_over es rs) rows o p values values
  made_alike o p c c' becomes values calls h =
      let g : Given = given_in es rows values in
      let b : definitions_of (trees_read bs) ≡ map definition_of (fragments_of bs) = fragments_seen bs in
      let a : definitions_of (trees_read rs) ≡ map definition_of (fragments_of rs) = fragments_seen rs in
      let low = subst (λ (ds : List Definition). Rankable ds (set_of o.set)) (sym b) (ranked o c) in
      let low' = subst (λ (ds : List Definition). Rankable ds (set_of p.set)) (sym a) (ranked' p c') in
      let one_name = subst (λ (ds : List Definition). NamesAgree g ds (root (roots_in es o.kind) (set_of o.set))) (sym b) (agree o c rows values) in
      let keeps = meaning_kept (static_of es) (roots_in es) (trees_read bs) (trees_read rs) restates g refl low.0 low'.0 low.1 low'.1 (subtypes rows values) (seen_operation o)
      (seen_operation p) becomes low.2 low'.2 one_name in
      let there = keeps.1 calls (subst (λ (ds : List Definition). Calls g ds (roots_in es o.kind) (set_of o.set) calls) (sym b) h) in
      subst (λ (k : OperationKind). Calls g (map definition_of (fragments_of rs)) (roots_in es k) (set_of p.set) calls) becomes.kind
      (subst (λ (ds : List Definition). Calls g ds (roots_in es o.kind) (set_of p.set) calls) a there)

  all_made_alike : (name : Option Text) (raw : Values) (calls : List Call) → AreCalls (project_over es bs) rows name raw calls → AreCalls (project_over es rs) rows name raw calls
  all_made_alike name raw =
      calls_go (project_over es bs) (project_over es rs) rows raw raw name
      (found_weaker (OperationsGo (project_over es bs) (project_over es rs) rows raw raw)
      (λ o p e f becomes.
      found_equal (CallsGo (project_over es bs) (project_over es rs) rows o p) (coerced_variables es o.variables raw) (coerced_variables es p.variables raw)
      (values_same es raw o.variables p.variables becomes.variables)
      (λ values. made_alike o p (meant_among (operations_of bs) name o e) (meant_among (operations_of rs) name p f) becomes values)) (meant es bs rs restates name))

abbrev Go : ExecutableOf → ExecutableOf → Type 0
Go x y = (rows : List RowOf) (name : Option Text) (raw : Values) (calls : List Call) → AreCalls x rows name raw calls → AreCalls y rows name raw calls

over_types : (es : List EntryOf) (bs rs : List ParsedOf) → Restates (static_of es) (roots_in es) (trees_read bs) (map erase_document (trees_read rs)) → Ranked (project_over es bs) →
    Ranked (project_over es rs) → HaveSubtypes es → Agree (project_over es bs) →
    Go (project_over es bs) (project_over es rs)
over_types es bs rs restates ranked ranked' subtypes agree rows name raw =
    all_made_alike es bs rs restates ranked ranked' subtypes (λ o c rows values. agree o c rows values (subtypes rows values)) rows name raw

-- the same of what is equal to these
over_equal : (x y : ExecutableOf) (es : List EntryOf) (bs rs : List ParsedOf) → x ≡ project_over es bs → y ≡ project_over es rs →
    Restates (static_of es) (roots_in es) (trees_read bs) (map erase_document (trees_read rs)) → Ranked x → Ranked y → HaveSubtypes es → Agree x → Go x y
over_equal x y es bs rs e f restates ranked ranked' subtypes agree =
    subst (λ z. Go z y) (sym e)
    (subst (λ z. Go (project_over es bs) z) (sym f) (over_types es bs rs restates (subst Ranked e ranked) (subst Ranked f ranked') subtypes (subst Agree e agree)))

pub restated_keep_calls : FragmentsAreRanked → ObjectsHaveSubtypes → NamesAgreeInValid → RequestsHaveAResponse → RestatedProjectsKeepCalls
restated_keep_calls ranked subtypes agree have documents edited valid valid' bs rs are are' same restates rows name raw =
    let es = type_system_of bs in
    let types : type_system_of rs ≡ es = ap (λ (xs : List EntryOf). built_in ++ xs) (sym same) in
    both_ways (executable_of bs) (executable_of rs) rows name raw raw (have documents valid bs are rows name raw).1
    (over_equal (executable_of bs) (executable_of rs) es bs rs (project_is bs es refl) (project_is rs es types) restates (ranked documents valid bs are) (ranked edited valid' rs are')
    (subtypes documents valid bs are) (agree documents valid bs are) rows name raw)
