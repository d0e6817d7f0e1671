-- A valid project in which a variable was renamed in its group, by the rules of executable definitions.
use Rattle.std.proofs.Common.{◌≡◌, ℕ, Bool, true, false, List, [], ◌∷◌, map, flat_map, refl, subst, Contains}
use Rattle.std.specs.Prelude.{◌==◌, if◌then◌else◌}
use Rattle.std.specs.List.{AllByRecursion, list_any}
use Rattle.gq_text.specs.declared.place.Span.{Span}
use Rattle.gq_fault.specs.declared.fault.Fault.{Fault}
use Rattle.gq_tree.specs.Plain.{NameOf, VariableOf, Def, operation, fragment, type_system}
use Rattle.gq_tree.specs.Readings.{ParsedOf, definitions_read}
use Rattle.gq_project.specs.declared.document.Doc.{Doc}
use Rattle.gq_parse.proofs.OneReading.{OneTree}
use Rattle.gq_types.specs.Entries.{Text, EntryOf}
use Rattle.gq_types.proofs.Gathered.{nothing_in, to_flat}
use Rattle.gq_renamed.specs.Renamings.{Renaming, MayName, variable_called, nothing_renamed}
use Rattle.gq_renamed.specs.Projects.{RenamedProjectsRead}
use Rattle.gq_document.specs.Definitions.{OperationOf, operation_in}
use Rattle.gq_document.specs.Executable.{ExecutableOf}
use Rattle.gq_spreads.proofs.RowLemmas.{stands}
use Rattle.gq_fields.specs.FieldFaults.{IsFieldFault}
use Rattle.gq_fragments.specs.FragmentFaults.{IsFragmentFault}
use Rattle.gq_fragments.specs.OperationFaults.{IsOperationFault}
use Rattle.gq_spreads.specs.SpreadFaults.{IsSpreadFault}
use Rattle.gq_variables.specs.VariableFaults.{IsVariableFault}
use Rattle.gq_merging.specs.FieldsMerge.{IsMergingFault}
use Rattle.gq_index.specs.VariableNames.{directive_variables}
use Rattle.gq_index.specs.Occurrences.{DefinitionOf, executables}
use Rattle.gq_index.specs.VariableGroups.{IsOperationAt}
use Rattle.gq_cut.specs.Cut.{variable_in}
use Rattle.gq_cut.proofs.Constant as constant
use Rattle.gq_cut.proofs.VariableCut.{project_constant}
use Rattle.gq_rules.specs.Files.{together}
use Rattle.gq_rules.specs.Project.{type_system_of, executable_of}
use Rattle.gq_rules.specs.RuleFaults.{IsRuleFault, of_operations, of_fields, of_fragments, of_spreads, of_variables, of_merging}
use Rattle.gq_rules.specs.Validity.{IsValid}
use Rattle.gq_laws.specs.Placing.Places.{PlacesDoNotMatter}
use Rattle.gq_laws.specs.Placing.Names.{ChangesNoFragment, VariableRenamesKeepFaultless}
use Rattle.gq_laws.specs.Placing.Types.{IsFaultless}
use Rattle.gq_laws.specs.Renaming.Kept.{AreRenamed}
use Rattle.gq_laws.specs.Renaming.Uses.{UsesAreThoseOfTheRules}
use Rattle.gq_laws.proofs.Renaming.Promises.{NothingIsDemanded}
use Rattle.gq_laws.proofs.Renaming.RuleLemmas.{defines_used}
use Rattle.gq_laws.proofs.Renaming.UseLaws.{of_all, from_directives}
use Rattle.gq_laws.proofs.Renaming.ValidityLemmas.{no_rule}
use Rattle.gq_laws.specs.RenamedValid.Valid.{VariableRenamesKeepRule, VariableRenamesStayValid}
use Rattle.gq_laws.proofs.RenamedValid.Reading.{HaveTrees}
use Rattle.gq_laws.proofs.RenamedValid.Stays.{types_stay, stays}
use Rattle.gq_laws.proofs.RenamedValid.RenamedReading.{renamed_readings, same_but_places}
use Rattle.gq_laws.proofs.RenamedValid.RenamedUses.{IsConstant}
use Rattle.gq_laws.proofs.RenamedValid.RenamedGroup.{names_apart, names_agree, rules_agree}
use Rattle.gq_laws.proofs.RenamedValid.RenamedFaults.{fault_was}
use Rattle.gq_laws.proofs.RenamedValid.EachReached.{each_reached}
use Rattle.gq_laws.proofs.RenamedValid.VariablesMerge.{merging_stays}

-- the rule of a variable changes no fragment's name
no_fragment : (group : List ℕ) (old : Text) → ChangesNoFragment (variable_in group old)
no_fragment group old n text = by (list_any (λ m. m == n) group)
  where
    by : (b : Bool) → (if b then variable_called old else nothing_renamed).fragments text ≡ false
    by true = refl
    by false = refl

-- an operation of a document uses no variable in the directives of its variables
constant_operation : (file : ℕ) (d : Def Span) (o : OperationOf) → operation_in file d ≡ o ∷ [] → constant.IsConstant d → flat_map (λ v. directive_variables v.directives) o.variables ≡ []
constant_operation file (operation kind name variables directives set braces place) o e h =
    let own : OperationOf = record { file = file; kind = kind; name = name; variables = variables; directives = directives; set = set; braces = braces; place = place } in
    let same : own ≡ o = cc in
    subst (λ z. flat_map (λ v. directive_variables v.directives) z.variables ≡ []) same h
constant_operation file (fragment name on directives set braces place) o e h = absurd (cc)
constant_operation file (type_system definition) o e h = absurd (cc)

constant_at : (es : List EntryOf) (ds : List DefinitionOf) → AllByRecursion (λ d. constant.IsConstant d.definition) ds → (n : ℕ) (o : OperationOf) → IsOperationAt ds n o → IsConstant es o
constant_at es ds all n o at v c name place s =
    let d = at.definition in
    let h = of_all (λ (e : DefinitionOf). constant.IsConstant e.definition) ds d all (stands ds n d at.at) in
    let nothing = constant_operation d.file d.definition o at.is h in
    nothing_in name (subst (λ (names : List (NameOf Span)). Contains names name) nothing
    (to_flat (λ (w : VariableOf Span). directive_variables w.directives) o.variables v name c (from_directives es v.directives name place s)))

module _ (one_tree : OneTree) (nothing : NothingIsDemanded) where
  pub keeps_rule : (IsFault : ExecutableOf → Fault → Type 0) → ((x : ExecutableOf) (f : Fault) → IsFault x f → IsRuleFault x f) → VariableRenamesKeepFaultless IsFault → VariableRenamesKeepRule IsFault
  keeps_rule IsFault is_rule law documents before after old new definition group valid h members free f fault =
      let rule : ℕ → Renaming = variable_in group old in
      law (type_system_of before) rule new before after (no_fragment group old) h.renamed (λ g k. no_rule nothing documents before valid h.are_read g (is_rule (executable_of before) g k)) f
      (subst (λ (es : List EntryOf). IsFault (together es after) f) (types_stay one_tree nothing rule new documents before after valid h) fault)

  pub keeps_variables : UsesAreThoseOfTheRules → PlacesDoNotMatter IsVariableFault → VariableRenamesKeepRule IsVariableFault
  keeps_variables uses places documents before after old new definition group valid h members free f fault =
      let rule : ℕ → Renaming = variable_in group old in
      let es = type_system_of before in
      let none = no_rule nothing documents before valid h.are_read in
      let here = subst (λ (us : List EntryOf). IsVariableFault (together us after) f) (types_stay one_tree nothing rule new documents before after valid h) fault in
      let g = places (together es after) (together es (renamed_readings rule new before)) (same_but_places rule new es before after h.renamed) f here in
      let k = fault_was es before rule new (no_fragment group old) (rules_agree before old new definition group members documents h.are_read uses es)
      (constant_at es (executables before) (project_constant 0 documents before (map definitions_read before) h.are_read h.are_trees))
      (λ o there u reached. let v = defines_used es before none o there u reached in (v.variable, v.defined, v.named))
      (names_apart before old new definition group members free) g.0 g.1 in
      none k.0 (of_variables k.1)

  pub keeps_merging : PlacesDoNotMatter IsMergingFault → VariableRenamesKeepRule IsMergingFault
  keeps_merging places documents before after old new definition group valid h members free f fault =
      let rule : ℕ → Renaming = variable_in group old in
      let es = type_system_of before in
      let here = subst (λ (us : List EntryOf). IsMergingFault (together us after) f) (types_stay one_tree nothing rule new documents before after valid h) fault in
      let g = places (together es after) (together es (renamed_readings rule new before)) (same_but_places rule new es before after h.renamed) f here in
      let none = no_rule nothing documents before valid h.are_read in
      let all = each_reached es before (λ k s. none k (of_spreads s)) in
      none g.0 (of_merging (merging_stays es before rule new (no_fragment group old) (names_agree before old new definition group members) all g.0 g.1))

  -- A rule that changes no fragment's name may give any variable the name.
  may_name : (group : List ℕ) (old new : Text) (n : ℕ) → MayName (variable_in group old n) new
  may_name group old new n text renamed =
      let no : (variable_in group old n).fragments text ≡ false = no_fragment group old n text in
      absurd (cc)

  pub variable_renames : ((documents : List Doc) → IsValid documents → HaveTrees documents) → RenamedProjectsRead → VariableRenamesKeepRule IsOperationFault → VariableRenamesKeepRule IsFieldFault →
      VariableRenamesKeepRule IsFragmentFault → VariableRenamesKeepRule IsSpreadFault → VariableRenamesKeepRule IsVariableFault → VariableRenamesKeepRule IsMergingFault → VariableRenamesStayValid
  variable_renames have_trees rewrites operations fields fragments spreads variables merging documents before old new definition group in_order are valid is_name members free =
      stays one_tree nothing have_trees rewrites (variable_in group old) new documents before in_order are valid is_name (may_name group old new) keeps
    where
      keeps : (after : List ParsedOf) → AreRenamed (variable_in group old) new documents before after → IsFaultless IsRuleFault (executable_of after)
      keeps after h f (of_operations k) = operations documents before after old new definition group valid h members free f k
      keeps after h f (of_fields k) = fields documents before after old new definition group valid h members free f k
      keeps after h f (of_fragments k) = fragments documents before after old new definition group valid h members free f k
      keeps after h f (of_spreads k) = spreads documents before after old new definition group valid h members free f k
      keeps after h f (of_variables k) = variables documents before after old new definition group valid h members free f k
      keeps after h f (of_merging k) = merging documents before after old new definition group valid h members free f k
