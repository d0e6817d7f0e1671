-- The answer to the rename of a target, from what its steps answered.
use Rattle.std.proofs.Common.{◌≡◌, ◌↔◌, ℕ, ◌<◌, List, length, Option, Some, None, Result, Ok, Err, Contains, refl, sym, ap, subst, ◌∙◌, inr, ◌⊎◌}
use Rattle.std.specs.Prelude.{IfOk}
use Rattle.std.specs.List.Sorted.{IsStrictlyIncreasing}
use Rattle.gq_text.specs.declared.place.Span.{Span}
use Rattle.gq_tree.specs.Plain.{Def}
use Rattle.gq_project.specs.declared.document.Doc.{Doc}
use Rattle.gq_project.specs.Documents.{IsInOrder}
use Rattle.gq_edit.specs.declared.edit.DocumentEdit.{DocumentEdit}
use Rattle.gq_edit.specs.Edits.{FitDocuments, after_edit}
use Rattle.gq_tree.specs.Readings.{ParsedOf}
use Rattle.gq_parse.specs.Parsed.{AreParsed}
use Rattle.gq_index.specs.declared.index.Index.{Index}
use Rattle.gq_index.specs.Indexed.{IsIndexOf, IsIndexOfProject}
use Rattle.gq_index.specs.Occurrences.{DefinitionOf, AreExecutables, executables}
use Rattle.gq_index.specs.VariableGroups.{VariableGroup}
use Rattle.gq_renamed.specs.Names.{IsNameText}
use Rattle.gq_renamed.specs.Renamings.{Renaming, MayName, fragment_called}
use Rattle.gq_renamed.specs.Projects.{AreTrees, rename_edits}
use Rattle.gq_cut.specs.Cut.{HaveTrees, variable_in}
use Rattle.gq_rules.specs.Validity.{IsValid}
use Rattle.gq_mentions.specs.declared.target.Target.{Target}
use Rattle.gq_mentions.specs.declared.target.TargetKind.{TargetKind}
use Rattle.gq_mentions.specs.declared.target.TargetKind.TheVariants as kind
use Rattle.gq_rename.specs.declared.refusal.Refusal.{Refusal}
use Rattle.gq_rename.specs.declared.refusal.Refusal.TheVariants.{NothingHere, NoMemory}
use Rattle.gq_rename.specs.Asks.{trees_of, target_of, IsTarget, IsGroup, Changes, fragments, variables}
use Rattle.gq_rename.specs.Rename.{IsRenameAnswer, KeepsTrees}
use Rattle.gq_rename.specs.Sound.{IsSound, RenamesAreSound, ValidDocumentsAreTrees, AreUtf8, edits_by}
use Rattle.gq_rename.specs.Helping.NameRefusals.{IsNameRefusal}
use Rattle.gq_rename.specs.Checked.{IsMeasured}
use Rattle.gq_rename.proofs.Below.{target_below}
use Rattle.gq_rename.proofs.Answering.{nothing_here, name_refused, answered, keeps}

abbrev pub OneList : Type 0
OneList = (documents : List Doc) (xs ys : List DefinitionOf) → AreExecutables documents xs → AreExecutables documents ys → xs ≡ ys

-- the answer, where no memory is wanted
abbrev pub Answer : List Doc → List ℕ → ℕ → List ℕ → Result (List DocumentEdit) Refusal → Type 0
Answer documents key offset new result = (result ≡ Err NoMemory) ⊎ IsRenameAnswer documents key offset new result

abbrev pub Answers : List Doc → Target → List ℕ → Result (List DocumentEdit) Refusal → Type 0
Answers documents t new result = (key : List ℕ) (offset : ℕ) → IsTarget documents key offset t → Answer documents key offset new result

abbrev pub Keeps : List Doc → Target → List ℕ → Result (List DocumentEdit) Refusal → Type 0
Keeps documents t new result = (key : List ℕ) (offset : ℕ) → IsTarget documents key offset t → IfOk result (KeepsTrees documents key offset new)

-- nothing is at the offset
pub nothing_there : (held documents : List Doc) (rs : List ParsedOf) (key : List ℕ) (offset : ℕ) (new : List ℕ) → held ≡ documents → AreParsed held rs → ∥ IsValid documents ∥₁ →
    (AreParsed held rs → None ≡ target_of held rs key offset) → Answer documents key offset new (Err NothingHere)
nothing_there held documents rs key offset new same are valid none =
    let A : List Doc → Type 0 = λ ds. AreParsed ds rs in
    let here : target_of documents rs key offset ≡ None = ap (λ (ds : List Doc). target_of ds rs key offset) (sym same) ∙ sym (none are) in
    inr (nothing_here documents rs key offset new (subst A same are) valid here)

-- what was found is the target
pub target_there : (held documents : List Doc) (rs : List ParsedOf) (key : List ℕ) (offset : ℕ) (t : Target) (found : Option Target) → held ≡ documents → AreParsed held rs → found ≡ Some t →
    (AreParsed held rs → found ≡ target_of held rs key offset) → IsTarget documents key offset t
target_there held documents rs key offset t found same are is of =
    let T : List Doc → Type 0 = λ ds. IsTarget ds key offset t in
    subst T same (record { readings = rs; are_readings = are; here = sym (of are) ∙ is })

-- the documents that are indexed have trees
pub have_trees : (listed documents : List Doc) (index : Index) → listed ≡ documents → ValidDocumentsAreTrees → ∥ IsValid documents ∥₁ → IsIndexOfProject documents index → HaveTrees listed
have_trees listed documents index same trees valid i =
    let H : List Doc → Type 0 = λ ds. HaveTrees ds in
    subst H (sym same) (record { trees = trees_of i.of_documents.readings; are_trees = trees documents i.of_documents.readings i.of_documents.are_readings valid })

-- the edit that is made fits, and leaves a valid project
module _ (held documents : List Doc) (is_held : held ≡ documents) (edit : List DocumentEdit) where
  pub made_fits : (result : Result (List DocumentEdit) Refusal) → IsMeasured held edit result → FitDocuments held edit → IfOk result (FitDocuments documents)
  made_fits (Ok made) measured fit =
      let F : List Doc → Type 0 = λ ds. FitDocuments ds made in
      subst F is_held (subst (FitDocuments held) (sym measured.0) fit)
  made_fits (Err why) measured fit = tt

  pub made_valid : (result : Result (List DocumentEdit) Refusal) → IsMeasured held edit result → IfOk result (λ made. ∥ IsValid (after_edit made documents) ∥₁)
  made_valid (Ok made) measured =
      let V : List Doc → Type 0 = λ ds. ∥ IsValid (after_edit made ds) ∥₁ in
      let W : List DocumentEdit → Type 0 = λ es. ∥ IsValid (after_edit es held) ∥₁ in
      subst V is_held (subst W (sym measured.0) measured.2)
  made_valid (Err why) measured = tt

module _ (one_list : OneList) (listed documents : List Doc) (same : listed ≡ documents) (index : Index) (i : IsIndexOfProject documents index) (valid : ∥ IsValid documents ∥₁) where
  -- the index, of any reading of the documents
  index_of : (rs : List ParsedOf) → AreParsed documents rs → IsIndexOf (executables rs) index
  index_of rs are =
      let x : AreExecutables documents (executables rs) = record { readings = rs; are_readings = are; is = refl } in
      subst (λ (ds : List DefinitionOf). IsIndexOf ds index) (one_list documents i.definitions (executables rs) i.of_documents x) i.is_index

  index_listed : IsIndexOfProject listed index
  index_listed = let I : List Doc → Type 0 = λ ds. IsIndexOfProject ds index in subst I (sym same) i

  module _ (t : Target) (new : List ℕ) where
    -- the number of the target's definition is one of the index
    inside : (key : List ℕ) (offset : ℕ) (w : IsTarget documents key offset t) → t.definition < length (executables w.readings)
    inside key offset w = target_below documents w.readings key offset t w.here

    -- the new name is refused
    pub refused : (why : Refusal) → ((ds : List DefinitionOf) → IsIndexOf ds index → t.definition < length ds → IsNameRefusal ds t.kind t.name.text t.definition new (Some why)) → Answers documents t new (Err why)
    refused why h key offset w =
        inr (name_refused documents w.readings key offset new w.are_readings valid t w.here why (h (executables w.readings) (index_of w.readings w.are_readings) (inside key offset w)))

    module _ (trees : ValidDocumentsAreTrees) (sound : RenamesAreSound) (in_order : IsInOrder listed) (utf8 : AreUtf8 listed) (rule : ℕ → Renaming) (is_name : IsNameText new) (may : (n : ℕ) → MayName (rule n) new)
        (edit : List DocumentEdit) (is : IsIndexOfProject listed index → (ts : List (List (Def Span))) → AreTrees listed ts → edit ≡ rename_edits rule 0 new listed ts) (held : List Doc) (is_held : held ≡ documents) where
      sound_of : (rs : List ParsedOf) → AreParsed documents rs → IsSound documents rs rule new
      sound_of rs are =
          let O : List Doc → Type 0 = λ ds. IsInOrder ds in
          let U : List Doc → Type 0 = λ ds. AreUtf8 ds in
          sound documents rs rule new (subst O same in_order) (subst U same utf8) are valid is_name may

      edit_of : (rs : List ParsedOf) → AreParsed documents rs → edit ≡ edits_by rule new documents rs
      edit_of rs are =
          let E : List Doc → Type 0 = λ ds. (ts : List (List (Def Span))) → AreTrees ds ts → edit ≡ rename_edits rule 0 new ds ts in
          subst E same (is index_listed) (trees_of rs) (trees documents rs are valid)

      Rs : List ParsedOf
      Rs = i.of_documents.readings

      fit_all : FitDocuments documents edit
      unfolding Rs
      fit_all = subst (FitDocuments documents) (sym (edit_of Rs i.of_documents.are_readings)) (sound_of Rs i.of_documents.are_readings).fit

      pub fits : FitDocuments held edit
      fits = let F : List Doc → Type 0 = λ ds. FitDocuments ds edit in subst F (sym is_held) fit_all

      -- a valid project, where a reading says that the edit leaves one
      pub leaves_valid : (rs : List ParsedOf) → AreParsed documents rs → (IsIndexOf (executables rs) index → IsValid (after_edit (edits_by rule new documents rs) documents)) → IsValid (after_edit edit held)
      leaves_valid rs are left =
          let V : List Doc → Type 0 = λ ds. IsValid (after_edit edit ds) in
          let W : List DocumentEdit → Type 0 = λ es. IsValid (after_edit es documents) in
          subst V (sym is_held) (subst W (sym (edit_of rs are)) (left (index_of rs are)))

      module _ (changes : (ds : List DefinitionOf) → IsIndexOf ds index → t.definition < length ds → Changes ds t.name.text t.definition t.kind rule) (result : Result (List DocumentEdit) Refusal) (measured : IsMeasured held edit result) where
        measured_there : IsMeasured documents edit result
        measured_there = let C : List Doc → Type 0 = λ ds. IsMeasured ds edit result in subst C is_held measured

        pub made : ((ds : List DefinitionOf) → IsIndexOf ds index → t.definition < length ds → IsNameRefusal ds t.kind t.name.text t.definition new None) → Answers documents t new result
        made name key offset w =
            let of = index_of w.readings w.are_readings in
            let in_range = inside key offset w in
            answered documents w.readings key offset new w.are_readings valid t w.here rule (changes (executables w.readings) of in_range) (sound_of w.readings w.are_readings)
            (name (executables w.readings) of in_range) edit (edit_of w.readings w.are_readings) result measured_there

        pub kept : Keeps documents t new result
        kept key offset w =
            let of = index_of w.readings w.are_readings in
            let in_range = inside key offset w in
            keeps documents w.readings key offset new w.are_readings valid t w.here rule (changes (executables w.readings) of in_range) (sound_of w.readings w.are_readings) edit (edit_of w.readings w.are_readings) result measured_there

-- the names that change, by the kind of the target
pub fragment_changes : (ds : List DefinitionOf) (t : Target) (old : List ℕ) → t.kind ≡ kind.Fragment → old ≡ t.name.text → Changes ds t.name.text t.definition t.kind (λ n. fragment_called old)
fragment_changes ds t old of is =
    let K : TargetKind → Type 0 = λ k. Changes ds t.name.text t.definition k (λ n. fragment_called old) in
    let N : List ℕ → Type 0 = λ text. Changes ds text t.definition kind.Fragment (λ n. fragment_called old) in
    subst K (sym of) (subst N is fragments)

pub group_is : (ds : List DefinitionOf) (t : Target) (group : List ℕ) → IsStrictlyIncreasing group → ((n : ℕ) → Contains group n ↔ VariableGroup ds t.name.text t.definition n) → IsGroup ds t.name.text t.definition group
group_is ds t group ascending members = record { ascending = ascending; members = members }

pub variable_changes : (ds : List DefinitionOf) (t : Target) (old group : List ℕ) → t.kind ≡ kind.Variable → old ≡ t.name.text → IsGroup ds t.name.text t.definition group → Changes ds t.name.text t.definition t.kind (variable_in group old)
variable_changes ds t old group of is g =
    let K : TargetKind → Type 0 = λ k. Changes ds t.name.text t.definition k (variable_in group old) in
    let N : List ℕ → Type 0 = λ text. Changes ds t.name.text t.definition kind.Variable (variable_in group text) in
    subst K (sym of) (subst N (sym is) (variables g))

-- a refusal that was told under the kind and the text that the target has
pub refusal_of : (ds : List DefinitionOf) (t : Target) (of : TargetKind) (old new : List ℕ) (refusal : Option Refusal) → t.kind ≡ of → old ≡ t.name.text → IsNameRefusal ds of old t.definition new refusal → IsNameRefusal ds t.kind t.name.text t.definition new refusal
refusal_of ds t of old new refusal k o h =
    let K : TargetKind → Type 0 = λ x. IsNameRefusal ds x t.name.text t.definition new refusal in
    let N : List ℕ → Type 0 = λ text. IsNameRefusal ds of text t.definition new refusal in
    subst K (sym k) (subst N o h)

pub group_named : (ds : List DefinitionOf) (t : Target) (old group : List ℕ) → old ≡ t.name.text → IsGroup ds t.name.text t.definition group → IsGroup ds old t.definition group
group_named ds t old group is g = let N : List ℕ → Type 0 = λ text. IsGroup ds text t.definition group in subst N (sym is) g

pub members_of : (ds : List DefinitionOf) (t : Target) (old group items : List ℕ) → old ≡ t.name.text → group ≡ items → ((n : ℕ) → Contains items n ↔ VariableGroup ds old t.definition n) → (n : ℕ) → Contains group n ↔ VariableGroup ds t.name.text t.definition n
members_of ds t old group items is same members =
    let G : List ℕ → Type 0 = λ l. (n : ℕ) → Contains l n ↔ VariableGroup ds t.name.text t.definition n in
    let N : List ℕ → Type 0 = λ text. (n : ℕ) → Contains items n ↔ VariableGroup ds text t.definition n in
    subst G (sym same) (subst N is members)
