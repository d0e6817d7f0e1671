-- A project that was valid before a fragment was renamed is valid afterwards.
use Rattle.std.proofs.Common.{◌≡◌, ℕ, List, ◌++◌, map, refl, sym, ap, ◌∙◌, subst, Contains, ⊎_elim}
use Rattle.std.specs.Prelude.{◌≢◌}
use Rattle.std.proofs.lemmas.Grind.{not_there}
use Rattle.gq_text.specs.declared.place.Span.{Span}
use Rattle.gq_fault.specs.declared.fault.Fault.{Fault}
use Rattle.gq_fault.specs.FaultPlaces.{fault_at}
use Rattle.gq_fault.specs.declared.code.Code.TheVariants.{UnknownFragment}
use Rattle.gq_tree.specs.Plain.{NameOf, Def, erase_document}
use Rattle.gq_tree.specs.Readings.{ParsedOf, definitions_read}
use Rattle.gq_project.specs.declared.document.Doc.{Doc}
use Rattle.gq_project.specs.Documents.{IsInOrder}
use Rattle.gq_parse.specs.Parsed.{AreParsed}
use Rattle.gq_parse.proofs.OneReading.{OneTree}
use Rattle.gq_edit.specs.Edits.{after_edit}
use Rattle.gq_types.specs.BuiltIn.{built_in}
use Rattle.gq_types.specs.Entries.{Text, EntryOf}
use Rattle.gq_type_system.specs.SchemaFaults.{IsSchemaFault}
use Rattle.gq_document.specs.Definitions.{FragmentOf}
use Rattle.gq_document.specs.Executable.{ExecutableOf}
use Rattle.gq_spreads.specs.FragmentSpreadTargetDefined.{IsSpreadName}
use Rattle.gq_spreads.specs.SpreadFaults.{unknown_fragment}
use Rattle.gq_renamed.specs.Names.{IsNameText}
use Rattle.gq_renamed.specs.Renamings.{Renaming, MayName, fragment_called}
use Rattle.gq_renamed.specs.Projects.{AreTrees, rename_edits, rename_trees, RewritesProject, RenamedProjectsRead}
use Rattle.gq_rules.specs.Files.{together}
use Rattle.gq_rules.specs.Faults.{IsFaultOf, first, rule as of_rule, unread, mixed, type_system}
use Rattle.gq_rules.specs.Project.{type_system_of, executable_of}
use Rattle.gq_rules.specs.RuleFaults.{IsRuleFault, of_spreads}
use Rattle.gq_rules.specs.Validity.{IsValid}
use Rattle.gq_laws.specs.Placing.Names.{IsFresh, FragmentRenamesKeepFaultless}
use Rattle.gq_laws.specs.Placing.Types.{IsFaultless}
use Rattle.gq_laws.specs.Renaming.Kept.{AreRenamed}
use Rattle.gq_laws.proofs.Renaming.ExecutableLemmas.{fragments_same}
use Rattle.gq_laws.proofs.Renaming.Promises.{NothingIsDemanded, of_one_kind}
use Rattle.gq_laws.proofs.Renaming.RuleLemmas.{search_text}
use Rattle.gq_laws.proofs.Renaming.SameTypes.{same_entries}
use Rattle.gq_laws.proofs.Renaming.ValidityLemmas.{none_demanded, no_rule, no_document_is_mixed}
use Rattle.gq_laws.specs.RenamedValid.Valid.{FragmentRenamesStayValid}
use Rattle.gq_laws.proofs.RenamedValid.Reading.{HaveTrees, trees_read, read_trees, trees_are_read, definitions_of_trees, none_unread, AreAllOfOneKind, kinds_after, none_mixed}

-- where each spread names a fragment, a name that no fragment has is no spread's either
fresh_name : (x : ExecutableOf) (new : Text) → ((f : Fault) → IsRuleFault x f → ⊥) → ((f : FragmentOf) → Contains x.fragments f → f.name.text ≢ new) → IsFresh x new
fresh_name x new none unnamed = record { in_fragments = unnamed; in_spreads = by }
  where
    by : (file : ℕ) (name : NameOf Span) → IsSpreadName x file name → name.text ≢ new
    by file name spread same = ⊎_elim
        (λ f. unnamed f.0 f.1 f.2)
        (λ nowhere. none (fault_at file UnknownFragment name) (of_spreads (unknown_fragment (record {
          file = file;
          name = name;
          is_spread = spread;
          is_unknown = λ f c is. nowhere f c (sym is ∙ same);
          is = refl;
        }))))
        (search_text (λ (f : FragmentOf). f.name.text) x.fragments new)

module _ (one_tree : OneTree) (nothing : NothingIsDemanded) where
  -- the type system is the same
  pub types_stay : (rule : ℕ → Renaming) (new : Text) (documents : List Doc) (before after : List ParsedOf) → ∥ IsValid documents ∥₁ → AreRenamed rule new documents before after →
      type_system_of after ≡ type_system_of before
  types_stay rule new documents before after valid h =
      ap (λ (es : List EntryOf). built_in ++ es)
      (same_entries one_tree rule new documents before after h.in_order h.are_read h.are_trees h.are_read_after h.renamed
      (of_one_kind before (no_document_is_mixed nothing documents before valid h.are_read)))

  module _ (have_trees : (documents : List Doc) → IsValid documents → HaveTrees documents) (rewrites : RenamedProjectsRead) where
    -- After a rename that brings no fault of the rules the project is valid.
    module _ (rule : ℕ → Renaming) (new : Text) (documents : List Doc) (before : List ParsedOf) (in_order : IsInOrder documents) (are : AreParsed documents before) (valid : ∥ IsValid documents ∥₁)
        (is_name : IsNameText new) (may : (n : ℕ) → MayName (rule n) new)
        (keeps : (after : List ParsedOf) → AreRenamed rule new documents before after → IsFaultless IsRuleFault (executable_of after)) where
      abbrev texts : List (List (Def Span))
      texts = map definitions_read before

      are_trees : AreTrees documents texts
      are_trees = trees_read are (λ without. not_there valid (λ v. without (have_trees documents v)))

      made : RewritesProject rule new documents texts
      made = rewrites rule new documents texts in_order are_trees is_name may

      pub stays : IsValid (after_edit (rename_edits rule 0 new documents texts) documents)
      stays = record { readings = after; are_readings = are_after; none = none }
        where
          after : List ParsedOf
          after = read_trees made.after

          are_after : AreParsed (after_edit (rename_edits rule 0 new documents texts) documents) after
          are_after = trees_are_read made.are_trees

          renamed : map erase_document (map definitions_read after) ≡ rename_trees rule 0 new (map erase_document texts)
          renamed = ap (λ z. map erase_document z) (definitions_of_trees made.after) ∙ made.renamed

          are_renamed : AreRenamed rule new documents before after
          are_renamed = record { in_order = in_order; are_read = are; are_trees = are_trees; are_read_after = are_after; renamed = renamed }

          kinds : AreAllOfOneKind before
          kinds = of_one_kind before (no_document_is_mixed nothing documents before valid are)

          types : type_system_of after ≡ type_system_of before
          types = types_stay rule new documents before after valid are_renamed

          none : (f : Fault) → IsFaultOf after f → ⊥
          none f (first (unread h)) = none_unread made.after f h
          none f (first (mixed h)) = none_mixed after f (kinds_after rule new 0 before after renamed kinds) h
          none f (first (type_system h)) = none_demanded nothing documents before valid are f (first (type_system (subst (λ (es : List EntryOf). IsSchemaFault es f) types h)))
          none f (of_rule nothing_first h) = keeps after are_renamed f h

    pub fragment_renames : FragmentRenamesKeepFaultless IsRuleFault → FragmentRenamesStayValid
    fragment_renames rules documents before old new in_order are valid is_name unnamed =
        stays (λ n. fragment_called old) new documents before in_order are valid is_name.is_name (λ n text yes. is_name.not_on) (λ after h f fault.
        let none = no_rule nothing documents before valid are in
        let free = subst (λ (fs : List FragmentOf). (f : FragmentOf) → Contains fs f → f.name.text ≢ new) (fragments_same before) unnamed in
        let types = types_stay (λ n. fragment_called old) new documents before after valid h in
        rules (type_system_of before) old new before after h.renamed (fresh_name (executable_of before) new none free) none f
        (subst (λ (es : List EntryOf). IsRuleFault (together es after) f) types fault))
