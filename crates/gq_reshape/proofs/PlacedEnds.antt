-- Where the ends of all replacements lead back, those of their edit do.
use Rattle.std.proofs.Common.{◌≡◌, ℕ, suc, ◌+◌, Bool, true, false, List, [], ◌∷◌, Some, Contains, slice_get, map, nat_eq, refl, sym, ap, subst, ◌∙◌, arith}
use Rattle.std.specs.Prelude.{filter, if◌then◌else◌}
use Rattle.std.specs.List.{AllByRecursion}
use Rattle.std.proofs.lemmas.List.Elements.{recursion_from_All, All-contains_itself}
use Rattle.gq_project.specs.declared.document.Doc.{Doc}
use Rattle.gq_project.specs.Documents.{IsInOrder}
use Rattle.gq_renamed.proofs.EditedParts.{documents_of}
use Rattle.gq_rename.specs.LeadBack.{LeadsBack, SpansLeadBack, EditsLeadBack}
use Rattle.gq_rename.proofs.EditsOfParts.{of_each}
use Rattle.gq_reshape.specs.Placed.{edits_from, replacements_in}
use Rattle.gq_reshape.specs.declared.placed.PlacedReplacement.{PlacedReplacement}
use Rattle.gq_reshape.proofs.PlacedLemmas.{parts_from, documents_are, edits_are}
use Rattle.gq_reshape.proofs.RunStands.{same_number}

-- both ends of a replacement lead back in its document
abbrev pub EndsLeadBack : List Doc → PlacedReplacement → Type 0
EndsLeadBack documents p = (document : Doc) → slice_get documents p.file ≡ Some document → LeadsBack document.text p.replacement.span.start × LeadsBack document.text p.replacement.span.end

module _ (documents : List Doc) where
  in_document : (placed : List PlacedReplacement) → AllByRecursion (EndsLeadBack documents) placed → (file : ℕ) (document : Doc) → slice_get documents file ≡ Some document → SpansLeadBack document.text (replacements_in placed file)
  in_document [] h file document there = tt
  in_document (p ∷ placed) h file document there = by (nat_eq p.file file) refl (in_document placed h.1 file document there)
    where
      by : (b : Bool) → nat_eq p.file file ≡ b → SpansLeadBack document.text (replacements_in placed file) → SpansLeadBack document.text (map (λ r. r.replacement) (if b then p ∷ filter (λ r. nat_eq r.file file) placed else filter (λ r. nat_eq r.file file) placed))
      by true e rest = (h.0 document (ap (slice_get documents) (same_number p.file file e) ∙ there), rest)
      by false e rest = rest

  parts_lead : (placed : List PlacedReplacement) → AllByRecursion (EndsLeadBack documents) placed → (file : ℕ) (rest : List Doc) → ((i : ℕ) → slice_get documents (file + i) ≡ slice_get rest i) → AllByRecursion (λ p. SpansLeadBack p.document.text p.replacements) (parts_from placed file rest)
  parts_lead placed h file [] same = tt
  parts_lead placed h file (document ∷ rest) same =
      let here : file ≡ file + 0 = omega arith in (
        in_document placed h file document (ap (slice_get documents) here ∙ same 0),
        parts_lead placed h (suc file) rest (λ i. let number : suc file + i ≡ file + suc i = omega arith in ap (slice_get documents) number ∙ same (suc i)),
      )

  pub edits_lead : IsInOrder documents → (placed : List PlacedReplacement) → AllByRecursion (EndsLeadBack documents) placed → EditsLeadBack documents (edits_from placed 0 documents)
  edits_lead in_order placed h =
      let stand : AllByRecursion (Contains documents) (documents_of (parts_from placed 0 documents)) =
      subst (AllByRecursion (Contains documents)) (sym (documents_are placed 0 documents)) (recursion_from_All (Contains documents) documents (All-contains_itself documents)) in
      subst (EditsLeadBack documents) (edits_are placed 0 documents)
      (of_each documents in_order SpansLeadBack (parts_from placed 0 documents) stand (parts_lead placed h 0 documents (λ i. let number : 0 + i ≡ i = omega arith in ap (slice_get documents) number)))
