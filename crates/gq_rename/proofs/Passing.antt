-- What is given a fresh name leaves a valid project, so a rename is not refused for what it leaves.
use Rattle.std.proofs.Common.{◌≡◌, ℕ, List, Result, Err, subst, arith, inl, inr, ◌⊎◌}
use Rattle.gq_project.specs.declared.document.Doc.{Doc}
use Rattle.gq_project.specs.Documents.{IsInOrder}
use Rattle.gq_edit.specs.declared.edit.DocumentEdit.{DocumentEdit}
use Rattle.gq_edit.specs.Edits.{after_edit}
use Rattle.gq_tree.specs.Readings.{ParsedOf}
use Rattle.gq_parse.specs.Parsed.{AreParsed}
use Rattle.gq_index.specs.Occurrences.{executables}
use Rattle.gq_renamed.specs.Names.{IsNameText, IsFragmentNameText}
use Rattle.gq_renamed.specs.Renamings.{Renaming, fragment_called}
use Rattle.gq_renamed.specs.Projects.{RenamedProjectsRead}
use Rattle.gq_cut.specs.Cut.{variable_in}
use Rattle.gq_cut.proofs.VariableCut.{may_name}
use Rattle.gq_rules.specs.Validity.{IsValid}
use Rattle.gq_laws.specs.RenamedValid.Valid.{FragmentRenamesStayValid, VariableRenamesStayValid}
use Rattle.gq_mentions.specs.declared.target.TargetKind.{TargetKind}
use Rattle.gq_mentions.specs.declared.target.TargetKind.TheVariants as kind
use Rattle.gq_rename.specs.declared.refusal.Refusal.{Refusal}
use Rattle.gq_rename.specs.declared.refusal.Refusal.TheVariants.{BadName, NameTaken, SelfCheck, NoMemory}
use Rattle.gq_rename.specs.Asks.{trees_of, MayBeCalled, IsGroup, IsFragmentDefined, IsVariableDefined, IsTaken, Changes, fragments, variables}
use Rattle.gq_rename.specs.Rename.{ReadsAsRenamed, IsRenameAnswer}
use Rattle.gq_rename.specs.Sound.{RenamesPass, ValidDocumentsAreTrees, edits_by}

pub fragment_stays : FragmentRenamesStayValid → (documents : List Doc) (rs : List ParsedOf) (old new : List ℕ) → IsInOrder documents → AreParsed documents rs → ∥ IsValid documents ∥₁ → IsFragmentNameText new →
    (IsFragmentDefined (executables rs) new → ⊥) → IsValid (after_edit (edits_by (λ n. fragment_called old) new documents rs) documents)
fragment_stays stays documents rs old new in_order are valid named free =
    stays documents rs old new in_order are valid named (λ f stands same. free (record { fragment = f; stands = stands; named = same }))

pub variable_stays : VariableRenamesStayValid → (documents : List Doc) (rs : List ParsedOf) (old new : List ℕ) (definition : ℕ) (group : List ℕ) → IsInOrder documents → AreParsed documents rs → ∥ IsValid documents ∥₁ → IsNameText new →
    IsGroup (executables rs) old definition group → (IsVariableDefined (executables rs) old definition new → ⊥) → IsValid (after_edit (edits_by (variable_in group old) new documents rs) documents)
variable_stays stays documents rs old new definition group in_order are valid named g free =
    stays documents rs old new definition group in_order are valid named g.members
    (λ n o in_group is v defined same. free (record { number = n; in_group = in_group; operation = o; is_operation = is; variable = v; defined = defined; named = same }))

module _ (trees : ValidDocumentsAreTrees) (projects : RenamedProjectsRead) (fragments_stay : FragmentRenamesStayValid) (variables_stay : VariableRenamesStayValid) where
  -- it passes its check where the new name may be given
  passes : (documents : List Doc) (rs : List ParsedOf) (new : List ℕ) → IsInOrder documents → AreParsed documents rs → ∥ IsValid documents ∥₁ → (of : TargetKind) (old : List ℕ) (definition : ℕ) {rule : ℕ → Renaming} →
      Changes (executables rs) old definition of rule → ((MayBeCalled of new → ⊥) → ⊥) → (IsTaken (executables rs) of old definition new → ⊥) →
      (ReadsAsRenamed documents (trees_of rs) rule new (edits_by rule new documents rs) × IsValid (after_edit (edits_by rule new documents rs) documents) → ⊥) → ⊥
  passes documents rs new in_order are valid kind.Fragment old definition fragments may free refuted =
      may (λ named.
      let w = projects (λ n. fragment_called old) new documents (trees_of rs) in_order (trees documents rs are valid) named.is_name (λ n text marked. named.not_on) in
      refuted (record { after = w.after; are_trees = w.are_trees; renamed = w.renamed }, fragment_stays fragments_stay documents rs old new in_order are valid named free))
  passes documents rs new in_order are valid kind.Variable old definition (variables {group} g) may free refuted =
      may (λ named.
      let w = projects (variable_in group old) new documents (trees_of rs) in_order (trees documents rs are valid) named (may_name group old new) in
      refuted (record { after = w.after; are_trees = w.are_trees; renamed = w.renamed }, variable_stays variables_stay documents rs old new definition group in_order are valid named g free))

  pub renames_pass : RenamesPass
  renames_pass documents key offset new in_order valid a =
      let r = a.offer.0.0 in
      passes documents a.readings new in_order a.are_readings valid r.target.kind r.target.name.text r.target.definition r.changes
      (λ bad. a.offer.1 BadName (omega arith) (record { target = r.target; here = r.here; holds = bad }))
      (λ taken. a.offer.1 NameTaken (omega arith) (record { target = r.target; here = r.here; holds = taken }))
      a.offer.0.1

-- so what was answered is not that
pub never_refused : RenamesPass → (documents : List Doc) (key : List ℕ) (offset : ℕ) (new : List ℕ) → IsInOrder documents → ∥ IsValid documents ∥₁ → (result : Result (List DocumentEdit) Refusal) →
    (result ≡ Err NoMemory) ⊎ IsRenameAnswer documents key offset new result → result ≡ Err SelfCheck → ⊥
never_refused pass documents key offset new in_order valid result (inl none) told = cc
never_refused pass documents key offset new in_order valid result (inr a) told = pass documents key offset new in_order valid (subst (λ (r : Result (List DocumentEdit) Refusal). IsRenameAnswer documents key offset new r) told a)
