-- The edit of a rename: its documents are there, and its positions lead back to its offsets.
use Rattle.std.proofs.Common.{◌≡◌, ℕ, Bool, true, false, List, [], ◌∷◌, ◌++◌, None, find, Contains, refl, sym, ap, subst, ◌∙◌, append-nil, arith, length, IsUtf8}
use Rattle.std.specs.Prelude.{codes, if◌then◌else◌}
use Rattle.std.specs.List.{AllByRecursion}
use Rattle.std.proofs.lemmas.List.Elements.{recursion_from_All, All-contains_itself}
use Rattle.gq_text.specs.Cut.{PositionsLeadBack}
use Rattle.gq_text.specs.declared.place.Span.{Span}
use Rattle.gq_tree.specs.Plain.{NameOf, Def}
use Rattle.gq_tree.specs.Readings as reading
use Rattle.gq_tree.specs.Readings.{ParsedOf, definitions_read}
use Rattle.gq_project.specs.declared.document.Doc.{Doc}
use Rattle.gq_parse.specs.Derives.{Derives}
use Rattle.gq_parse.specs.Parsed.{AreParsed}
use Rattle.gq_parse.specs.Parsed as readings
use Rattle.gq_edit.specs.declared.edit.DocumentEdit.{DocumentEdit}
use Rattle.gq_edit.specs.Edits.{is_moved}
use Rattle.gq_renamed.specs.Changed.{replacements_of}
use Rattle.gq_renamed.specs.Projects.{number_behind, edit_if_any, rename_edits}
use Rattle.gq_renamed.specs.Renamings.{Renaming, MayName}
use Rattle.gq_renamed.specs.Rewritten.{rename_replacements}
use Rattle.gq_renamed.proofs.DocumentAgain.{document_again}
use Rattle.gq_renamed.proofs.EditedParts.{Part, documents_of, edits_of}
use Rattle.gq_renamed.proofs.Regrammar.{marked_names, name_in}
use Rattle.gq_renamed.proofs.Retelling.{Marked, tokens_of}
use Rattle.gq_rename.specs.Asks.{trees_of}
use Rattle.gq_rename.specs.Determined.{RenamesNameVersions, RenamesLeadBack}
use Rattle.gq_rename.specs.LeadBack.{SpansLeadBack, EditsLeadBack}
use Rattle.gq_rename.specs.Sound.{AreUtf8}
use Rattle.gq_rename.proofs.EditsOfParts.{of_each, none_moved}
use Rattle.gq_rename.proofs.Whole.{leads_back}
use Rattle.gq_rename.proofs.WholeTokens.{IsWholeToken, tokens_whole}

-- a name that is no word of the grammar may replace every name
some_name : (rule : ℕ → Renaming) (n : ℕ) → MayName (rule n) (codes "a")
some_name rule n text marked same = let size : 1 ≡ 2 = ap length same in omega (arith, size)

module _ (law : PositionsLeadBack) where
  names_lead : (text new : List ℕ) (ms : List Marked) → IsUtf8 text → AllByRecursion (IsWholeToken text) (tokens_of ms) → SpansLeadBack text (replacements_of new (marked_names ms))
  names_lead text new [] utf8 whole = tt
  names_lead text new (m ∷ ms) utf8 whole = by m.marked (names_lead text new ms utf8 whole.1)
    where
      by : (b : Bool) → SpansLeadBack text (replacements_of new (marked_names ms)) → SpansLeadBack text (replacements_of new (if b then name_in m.token ∷ marked_names ms else marked_names ms))
      by true rest = ((leads_back law text m.token.span.start utf8 whole.0.0, leads_back law text m.token.span.end utf8 whole.0.1), rest)
      by false rest = rest

  -- the names that change in a text
  text_leads : (rule : ℕ → Renaming) (k : ℕ) (new text : List ℕ) (tree : List (Def Span)) → IsUtf8 text → Derives text tree → SpansLeadBack text (rename_replacements rule k new tree)
  text_leads rule k new text tree utf8 derives =
      let w = document_again {new = codes "a"} rule k (some_name rule) derives.derived in
      let list : derives.tokens ≡ tokens_of w.front = w.split ∙ append-nil (tokens_of w.front) in
      let whole : AllByRecursion (IsWholeToken text) (tokens_of w.front) = subst (AllByRecursion (IsWholeToken text)) list (tokens_whole text derives.tokens utf8 derives.reads) in
      let N : List (NameOf Span) → Type 0 = λ names. SpansLeadBack text (replacements_of new names) in
      subst N w.named (names_lead text new w.front utf8 whole)

-- each document with what is replaced in it
rename_parts : (ℕ → Renaming) → ℕ → List ℕ → List Doc → List (List (Def Span)) → List Part
rename_parts rule k new [] trees = []
rename_parts rule k new (document ∷ documents) [] = []
rename_parts rule k new (document ∷ documents) (tree ∷ trees) = record { document = document; replacements = rename_replacements rule k new tree } ∷ rename_parts rule (number_behind tree k) new documents trees

edits_are : (rule : ℕ → Renaming) (k : ℕ) (new : List ℕ) (documents : List Doc) (trees : List (List (Def Span))) → edits_of (rename_parts rule k new documents trees) ≡ rename_edits rule k new documents trees
unfolding rename_parts
edits_are rule k new [] trees = refl
edits_are rule k new (document ∷ documents) [] = refl
edits_are rule k new (document ∷ documents) (tree ∷ trees) = ap (λ (es : List DocumentEdit). edit_if_any document (rename_replacements rule k new tree) ++ es) (edits_are rule (number_behind tree k) new documents trees)

parts_stand : (P : Doc → Type 0) (rule : ℕ → Renaming) (k : ℕ) (new : List ℕ) (documents : List Doc) (trees : List (List (Def Span))) → AllByRecursion P documents → AllByRecursion P (documents_of (rename_parts rule k new documents trees))
unfolding rename_parts
parts_stand P rule k new [] trees h = tt
parts_stand P rule k new (document ∷ documents) [] h = tt
parts_stand P rule k new (document ∷ documents) (tree ∷ trees) h = (h.0, parts_stand P rule (number_behind tree k) new documents trees h.1)

parts_lead : PositionsLeadBack → (rule : ℕ → Renaming) (k : ℕ) (new : List ℕ) {documents : List Doc} {rs : List ParsedOf} → AreParsed documents rs → AreUtf8 documents → AllByRecursion (λ p. SpansLeadBack p.document.text p.replacements) (rename_parts rule k new documents (trees_of rs))
unfolding rename_parts
parts_lead law rule k new readings.none utf8 = tt
parts_lead law rule k new (readings.more {document = document} {one = reading.tree d} p ps) utf8 = (text_leads law rule k new document.text d utf8.0 p, parts_lead law rule (number_behind d k) new ps utf8.1)
parts_lead law rule k new (readings.more {one = reading.syntax place} p ps) utf8 = (tt, parts_lead law rule k new ps utf8.1)
parts_lead law rule k new (readings.more {one = reading.limit place} p ps) utf8 = (tt, parts_lead law rule k new ps utf8.1)

all_stand : (documents : List Doc) → AllByRecursion (Contains documents) documents
all_stand documents = recursion_from_All (Contains documents) documents (All-contains_itself documents)

pub renames_name_versions : RenamesNameVersions
renames_name_versions documents key offset new edits in_order a =
    let r = a.offer.1.0 in
    let trees = trees_of a.readings in
    let F : List DocumentEdit → Type 0 = λ es. find (is_moved documents) es ≡ None in
    subst F (edits_are r.rule 0 new documents trees ∙ sym a.offer.1.1)
    (none_moved documents in_order (rename_parts r.rule 0 new documents trees) (parts_stand (Contains documents) r.rule 0 new documents trees (all_stand documents)))

pub renames_lead_back : PositionsLeadBack → RenamesLeadBack
renames_lead_back law documents key offset new edits in_order utf8 a =
    let r = a.offer.1.0 in
    let trees = trees_of a.readings in
    subst (EditsLeadBack documents) (edits_are r.rule 0 new documents trees ∙ sym a.offer.1.1)
    (of_each documents in_order SpansLeadBack (rename_parts r.rule 0 new documents trees) (parts_stand (Contains documents) r.rule 0 new documents trees (all_stand documents)) (parts_lead law r.rule 0 new a.are_readings utf8))
