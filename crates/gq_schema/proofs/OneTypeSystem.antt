-- All readings of documents define the same, so documents have one type system.
use Rattle.std.proofs.Common.{◌≡◌, List, ◌++◌, sym, ◌∙◌, ap, subst}
use Rattle.gq_project.specs.declared.document.Doc.{Doc}
use Rattle.gq_fault.specs.declared.found.Found.{Found}
use Rattle.gq_document.specs.Definitions.{entry_in}
use Rattle.gq_parse.proofs.OneReading.{OneTree, same_in_documents}
use Rattle.gq_types.specs.BuiltIn.{built_in}
use Rattle.gq_types.specs.Entries.{EntryOf}
use Rattle.gq_schema.specs.SchemaOf.{IsTypeSystemOf, HasNoFault, IsFaulty}

module _ (one_tree : OneTree) where
  pub one_type_system : (documents : List Doc) (xs ys : List EntryOf) → IsTypeSystemOf documents xs → IsTypeSystemOf documents ys → xs ≡ ys
  one_type_system documents xs ys x y =
      x.is ∙ ap (λ es. built_in ++ es) (same_in_documents one_tree entry_in documents x.readings y.readings x.are_readings y.are_readings) ∙ sym y.is

  pub not_both : (documents : List Doc) (es : List EntryOf) (found : List Found) → IsTypeSystemOf documents es → HasNoFault es → IsFaulty documents found → ⊥
  not_both documents es found of_documents nothing faulty =
      subst HasNoFault (one_type_system documents es faulty.entries of_documents faulty.of_documents) nothing faulty.some.0 faulty.some.1
