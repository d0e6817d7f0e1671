-- The edits that extract, inline and remove answer with keep every response.
use Rattle.gq_rename.specs.declared.refusal.Refusal.TheVariants.{NotRedundant}
use Rattle.gq_laws.proofs.Rewriting.ValidityLemmas.{NoneIsBoth}
use Rattle.gq_laws.specs.Rewriting.Unchanged.{RestatedProjectsKeepResponses}
use Rattle.gq_reshape.specs.Responses.{EditsKeepResponses}
use Rattle.gq_reshape.specs.Extract.{extract_cut}
use Rattle.gq_reshape.specs.Inline.{inline_cut}
use Rattle.gq_reshape.specs.Remove.{remove_cut}
use Rattle.gq_reshape.specs.Reshape.{IsExtractAnswer, IsInlineAnswer, IsRemoveAnswer}
use Rattle.gq_parse.proofs.OneReading.{OneTree}
use Rattle.gq_reshape.proofs.Changed.{all_promised, keeping_keeps}
use Rattle.gq_reshape.proofs.Removed.{removed_keeping}
use Rattle.gq_reshape.proofs.Extracted.{extracted_keeping}
use Rattle.gq_reshape.proofs.Inlined.{inlined_keeping}

module _ (one_tree : OneTree) (apart : NoneIsBoth) (stay : RestatedProjectsKeepResponses) where
  pub removes_keep : EditsKeepResponses IsRemoveAnswer
  removes_keep documents ask in_order valid edits a =
      let r = a.offer.1.0 in
      let promise = all_promised one_tree apart stay documents in_order valid a.types a.is_type_system a.readings a.are_readings in
      keeping_keeps one_tree apart stay documents in_order valid a.types a.is_type_system a.readings a.are_readings (remove_cut r)
      (removed_keeping documents ask a.readings a.are_readings a.types promise r (λ n. a.offer.0 NotRedundant n)) a.offer.1.1.1 edits a.offer.1.1.0

  pub extracts_keep : EditsKeepResponses IsExtractAnswer
  extracts_keep documents ask in_order valid edits a =
      let e = a.offer.1.0 in
      let promise = all_promised one_tree apart stay documents in_order valid a.types a.is_type_system a.readings a.are_readings in
      keeping_keeps one_tree apart stay documents in_order valid a.types a.is_type_system a.readings a.are_readings (extract_cut e)
      (extracted_keeping documents ask a.readings a.are_readings a.types promise e) a.offer.1.1.1 edits a.offer.1.1.0

  pub inlines_keep : EditsKeepResponses IsInlineAnswer
  inlines_keep documents ask in_order valid edits a =
      let i = a.offer.1.0 in
      let promise = all_promised one_tree apart stay documents in_order valid a.types a.is_type_system a.readings a.are_readings in
      keeping_keeps one_tree apart stay documents in_order valid a.types a.is_type_system a.readings a.are_readings (inline_cut i)
      (inlined_keeping documents ask a.readings a.are_readings a.types promise i) a.offer.1.1.1 edits a.offer.1.1.0
