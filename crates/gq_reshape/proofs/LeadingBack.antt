-- The edits of extract, inline and remove: their documents are there, and their positions lead back to their offsets.
use Rattle.std.proofs.Common.{◌≡◌, inl, inr, ℕ, zero, suc, Bool, true, false, List, [], ◌∷◌, Option, Some, None, Contains, length, slice_get, get_or, find, refl, sym, ap, subst, ◌∙◌, arith, IsUtf8}
use Rattle.std.specs.Prelude.{if◌then◌else◌}
use Rattle.std.specs.List.{AllByRecursion}
use Rattle.std.specs.Option.{option_map, option_or}
use Rattle.std.specs.Str.{bytes_eq}
use Rattle.std.proofs.lemmas.List.Elements.{All-contains, All-from_recursion}
use Rattle.std.proofs.lemmas.Str.{IsCharBoundary-end}
use Rattle.gq_text.specs.Cut.{PositionsLeadBack}
use Rattle.gq_text.specs.declared.place.Span.{Span}
use Rattle.gq_lex.specs.Tokens.{Lexeme}
use Rattle.gq_tree.specs.Plain.{Head, Sel, Sels, Def, spread, inline}
use Rattle.gq_tree.specs.Readings.{ParsedOf}
use Rattle.gq_tree.specs.Readings as reading
use Rattle.gq_project.specs.declared.document.Doc.{Doc}
use Rattle.gq_project.specs.Documents.{IsInOrder}
use Rattle.gq_parse.specs.Parsed.{AreParsed}
use Rattle.gq_parse.specs.Parsed as readings
use Rattle.gq_edit.specs.declared.edit.DocumentEdit.{DocumentEdit}
use Rattle.gq_edit.specs.Edits.{is_moved}
use Rattle.gq_types.specs.Entries.{Text, EntryOf}
use Rattle.gq_types.proofs.Gathered.{found}
use Rattle.gq_document.specs.Definitions.{FragmentOf, fragments_of}
use Rattle.gq_document.specs.Last.{find_last}
use Rattle.gq_document.specs.Selections.{SelectedOf, IsSelectionWithin, here, within, after, of_operation, of_fragment}
use Rattle.gq_meaning.specs.Thin.{IsIn}
use Rattle.gq_laws.specs.Rewriting.KnownBefore.{Each}
use Rattle.gq_laws.specs.Rewriting.Parts.{PlaceEnds, HeadEnds, DefinitionEnds}
use Rattle.gq_laws.proofs.Rewriting.Cuts.{parts_end}
use Rattle.gq_laws.proofs.Rewriting.Executables.{trees_read, Selected, operation_def, fragment_def, operation_stands, fragment_stands}
use Rattle.gq_select.specs.Meant.{is_spread, is_inline, document_sets}
use Rattle.gq_select.specs.Touched.{Touches, is_touched}
use Rattle.gq_rename.specs.LeadBack.{LeadsBack, EditsLeadBack}
use Rattle.gq_rename.specs.Sound.{AreUtf8}
use Rattle.gq_rename.proofs.Whole.{IsWhole, leads_back}
use Rattle.gq_rename.proofs.WholeTokens.{IsWholeToken, tokens_whole}
use Rattle.gq_reshape.specs.declared.placed.PlacedReplacement.{PlacedReplacement}
use Rattle.gq_reshape.specs.Asks.{RangeAsk, tree_at}
use Rattle.gq_reshape.specs.Cuts.{Cut, edits_of}
use Rattle.gq_reshape.specs.Determined.{EditsNameVersions, AnsweredEditsLeadBack}
use Rattle.gq_reshape.specs.Extract.{Extraction, extract_cut}
use Rattle.gq_reshape.specs.Inline.{Inlining, inline_cut, inline_replacements, comes_first, is_only_spread}
use Rattle.gq_reshape.specs.Remove.{Removal, remove_cut}
use Rattle.gq_laws.specs.Cutting.Texts.{inlined_text}
use Rattle.gq_reshape.specs.Reshape.{IsExtractAnswer, IsInlineAnswer, IsRemoveAnswer}
use Rattle.gq_reshape.proofs.PlacedEnds.{EndsLeadBack, edits_lead}
use Rattle.gq_reshape.proofs.PlacedLemmas.{edits_there}
use Rattle.gq_reshape.proofs.Standing.{meant_stands, selected_asked}

-- the first and the last of items that are all so
first_of_all : {A : Type 0} (P : A → Type 0) (test : A → Bool) (xs : List A) (x : A) → AllByRecursion P xs → find test xs ≡ Some x → P x
first_of_all P test xs x all e = All-contains P xs x (All-from_recursion P xs all) (found test xs x e).0

last_of_all : {A : Type 0} (P : A → Type 0) (test : A → Bool) (xs : List A) (x : A) → AllByRecursion P xs → find_last test xs ≡ Some x → P x
last_of_all P test [] x all e = absurd (cc)
last_of_all {A} P test (y ∷ ys) x all e = by (find_last test ys) (test y) refl e (λ z q. last_of_all P test ys z all.1 q)
  where
    by : (o : Option A) (b : Bool) → find_last test ys ≡ o → option_or o (if b then Some y else None) ≡ Some x → ((z : A) → find_last test ys ≡ Some z → P z) → P x
    by (Some z) b q r rest = let same : z ≡ x = cc in subst P same (rest z q)
    by None true q r rest = let same : y ≡ x = cc in subst P same all.0
    by None false q r rest = absurd (cc)

end_is_whole : (text : List ℕ) → IsWhole text (length text)
end_is_whole text = record { boundary = IsCharBoundary-end text; unsplit = λ feed return. past text feed }
  where
    past : (bs : List ℕ) → get_or bs (length bs) 0 ≡ 10 → ⊥
    past [] e = omega (arith, e)
    past (b ∷ bs) e = past bs e

-- the ends of what a range touches
touched_whole : (text : List ℕ) (range place : Span) → IsUtf8 text → Touches text range place → IsWhole text place.start × IsWhole text place.end
touched_whole text range place utf8 touches =
    let all = tokens_whole text touches.tokens utf8 touches.reads in
    (first (find (is_touched range) touches.tokens) refl touches.first all, last (find_last (is_touched range) touches.tokens) refl touches.last all)
  where
    first : (o : Option Lexeme) → find (is_touched range) touches.tokens ≡ o → option_map (λ t. t.span.start) o ≡ Some place.start → AllByRecursion (IsWholeToken text) touches.tokens → IsWhole text place.start
    first None q e all = absurd (cc)
    first (Some t) q e all = let same : t.span.start ≡ place.start = cc in subst (IsWhole text) same (first_of_all (IsWholeToken text) (is_touched range) touches.tokens t all q).0

    last : (o : Option Lexeme) → find_last (is_touched range) touches.tokens ≡ o → option_map (λ t. t.span.end) o ≡ Some place.end → AllByRecursion (IsWholeToken text) touches.tokens → IsWhole text place.end
    last None q e all = absurd (cc)
    last (Some t) q e all = let same : t.span.end ≡ place.end = cc in subst (IsWhole text) same (last_of_all (IsWholeToken text) (is_touched range) touches.tokens t all q).1

-- what is so of each head is so of a selection at any depth
each_within : (IsSo : Head Span → Type 0) (es : List EntryOf) {parent inner : Option Text} {sels : Sels Span} {s : Sel Span} → Each IsSo sels → IsSelectionWithin es parent sels inner s → IsSo s.label
each_within IsSo es each here = each.0
each_within IsSo es each (within w) = each_within IsSo es each.1 w
each_within IsSo es each (after w) = each_within IsSo es each.2 w

of_all : {A : Type 0} (P : A → Type 0) (xs : List A) (x : A) → AllByRecursion P xs → IsIn x xs → P x
of_all P [] x all m = absurd m
of_all P (y ∷ ys) x all (inl e) = subst P (sym e) all.0
of_all P (y ∷ ys) x all (inr m) = of_all P ys x all.1 m

utf8_at : (documents : List Doc) (file : ℕ) (document : Doc) → AreUtf8 documents → slice_get documents file ≡ Some document → IsUtf8 document.text
utf8_at [] file document utf8 e = absurd (cc)
utf8_at (d ∷ documents) zero document utf8 e = let same : d ≡ document = cc in subst (λ (x : Doc). IsUtf8 x.text) same utf8.0
utf8_at (d ∷ documents) (suc file) document utf8 e = utf8_at documents file document utf8.1 e

-- all parts of the tree of a text have such ends
reading_fits : (text : List ℕ) (one : ParsedOf) → IsUtf8 text → readings.IsParsed text one → AllByRecursion (DefinitionEnds (IsWhole text)) (Rattle.gq_tree.specs.Readings.definitions_read one)
reading_fits text (reading.tree d) utf8 p = parts_end (IsWhole text) text d p (tokens_whole text p.tokens utf8 p.reads)
reading_fits text (reading.syntax place) utf8 p = tt
reading_fits text (reading.limit place) utf8 p = tt

tree_fits : {documents : List Doc} {rs : List ParsedOf} → AreParsed documents rs → AreUtf8 documents → (file : ℕ) (document : Doc) (tree : List (Def Span)) → slice_get documents file ≡ Some document → slice_get (trees_read rs) file ≡ Some tree → AllByRecursion (DefinitionEnds (IsWhole document.text)) tree
tree_fits readings.none utf8 file document tree e f = absurd (cc)
tree_fits (readings.more {document = d} {one = one} p ps) utf8 zero document tree e f =
    let same : d ≡ document = cc in
    let read : Rattle.gq_tree.specs.Readings.definitions_read one ≡ tree = cc in
    let F : Doc → Type 0 = λ x. AllByRecursion (DefinitionEnds (IsWhole x.text)) tree in
    subst F same (subst (AllByRecursion (DefinitionEnds (IsWhole d.text))) read (reading_fits d.text one utf8.0 p))
tree_fits (readings.more p ps) utf8 (suc file) document tree e f = tree_fits ps utf8.1 file document tree e f

module _ (documents : List Doc) (rs : List ParsedOf) (are : AreParsed documents rs) (utf8 : AreUtf8 documents) where
  -- a selection of the project
  selected_fits : (es : List EntryOf) (s : SelectedOf) → Selected rs es s → (document : Doc) → slice_get documents s.file ≡ Some document → HeadEnds (IsWhole document.text) s.selection.label
  selected_fits es s (of_operation {o = o} c w) document there =
      let d = operation_stands rs o c in
      let fits = of_all (DefinitionEnds (IsWhole document.text)) d.tree (operation_def o) (tree_fits are utf8 o.file document d.tree (ap (slice_get documents) (sym w.0) ∙ there) d.is_tree) d.stands in
      each_within (HeadEnds (IsWhole document.text)) es fits w.1
  selected_fits es s (of_fragment {f = f} c w) document there =
      let d = fragment_stands rs f c in
      let fits = of_all (DefinitionEnds (IsWhole document.text)) d.tree (fragment_def f) (tree_fits are utf8 f.file document d.tree (ap (slice_get documents) (sym w.0) ∙ there) d.is_tree) d.stands in
      each_within (HeadEnds (IsWhole document.text)) es fits.2 w.1

  fragment_fits : (f : FragmentOf) → Contains (fragments_of rs) f → (document : Doc) → slice_get documents f.file ≡ Some document → PlaceEnds (IsWhole document.text) f.place
  fragment_fits f c document there =
      let d = fragment_stands rs f c in
      (of_all (DefinitionEnds (IsWhole document.text)) d.tree (fragment_def f) (tree_fits are utf8 f.file document d.tree there d.is_tree) d.stands).0

  module _ (law : PositionsLeadBack) where
    ends_lead : (file : ℕ) (document : Doc) (span : Span) → slice_get documents file ≡ Some document → IsWhole document.text span.start × IsWhole document.text span.end → LeadsBack document.text span.start × LeadsBack document.text span.end
    ends_lead file document span there whole =
        let text = utf8_at documents file document utf8 there in
        (leads_back law document.text span.start text whole.0, leads_back law document.text span.end text whole.1)

    extract_ends : (es : List EntryOf) (ask : RangeAsk) (e : Extraction documents es rs ask) → AllByRecursion (EndsLeadBack documents) (extract_cut e).replacements
    extract_ends es ask e = (run_leads, (end_leads, tt))
      where
        one : (document : Doc) → slice_get documents e.touched.file ≡ Some document → e.touched.document ≡ document
        one document there = let both : Some e.touched.document ≡ Some document = sym e.touched.asked_of.stands ∙ there in cc

        run_leads : (document : Doc) → slice_get documents e.touched.file ≡ Some document → LeadsBack document.text e.touched.place.start × LeadsBack document.text e.touched.place.end
        run_leads document there =
            let W : Doc → Type 0 = λ d. IsWhole d.text e.touched.place.start × IsWhole d.text e.touched.place.end in
            let text = utf8_at documents e.touched.file e.touched.document utf8 e.touched.asked_of.stands in
            ends_lead e.touched.file document e.touched.place there (subst W (one document there) (touched_whole e.touched.document.text ask.range e.touched.place text e.touched.touches))

        end_leads : (document : Doc) → slice_get documents e.touched.file ≡ Some document → LeadsBack document.text (length e.touched.document.text) × LeadsBack document.text (length e.touched.document.text)
        end_leads document there =
            let last : Span = record { start = length e.touched.document.text; end = length e.touched.document.text } in
            let W : Doc → Type 0 = λ d. IsWhole d.text last.start × IsWhole d.text last.end in
            ends_lead e.touched.file document last there (subst W (one document there) (end_is_whole e.touched.document.text, end_is_whole e.touched.document.text))

    remove_ends : (es : List EntryOf) (ask : RangeAsk) (r : Removal documents es rs ask) → AllByRecursion (EndsLeadBack documents) (remove_cut r).replacements
    remove_ends es ask r = (opened, tt)
      where
        opened : (document : Doc) → slice_get documents r.file ≡ Some document → LeadsBack document.text r.place.start × LeadsBack document.text r.place.end
        opened document there =
            let fits : HeadEnds (IsWhole document.text) r.selected.selection.label =
            selected_fits es (record { file = r.file; parent = r.selected.parent; selection = r.selected.selection })
            (selected_asked es rs r.file r.selected (meant_stands is_inline ask.range (document_sets es (tree_at rs r.file)) r.selected r.is_meant)) document there in
            let own : HeadEnds (IsWhole document.text) (inline r.on r.directives r.braces r.place) = subst (HeadEnds (IsWhole document.text)) r.is_inline fits in
            ends_lead r.file document r.place there (own.0.1, own.0.2)

    inline_ends : (es : List EntryOf) (ask : RangeAsk) (i : Inlining documents es rs ask) → AllByRecursion (EndsLeadBack documents) (inline_cut i).replacements
    inline_ends es ask i = by (is_only_spread rs i.name.text)
      where
        both : (b : Bool) (p q : PlacedReplacement) → EndsLeadBack documents p → EndsLeadBack documents q → AllByRecursion (EndsLeadBack documents) (if b then q ∷ p ∷ [] else p ∷ q ∷ [])
        both true p q h k = (k, (h, tt))
        both false p q h k = (h, (k, tt))

        opened : (document : Doc) → slice_get documents i.file ≡ Some document → LeadsBack document.text i.place.start × LeadsBack document.text i.place.end
        opened document there =
            let fits : HeadEnds (IsWhole document.text) i.selected.selection.label =
            selected_fits es (record { file = i.file; parent = i.selected.parent; selection = i.selected.selection })
            (selected_asked es rs i.file i.selected (meant_stands is_spread ask.range (document_sets es (tree_at rs i.file)) i.selected i.is_meant)) document there in
            let own : HeadEnds (IsWhole document.text) (spread i.name i.directives i.place) = subst (HeadEnds (IsWhole document.text)) i.is_spread fits in
            ends_lead i.file document i.place there (own.0.1, own.0.2)

        gone : (document : Doc) → slice_get documents i.definition.file ≡ Some document → LeadsBack document.text i.definition.place.start × LeadsBack document.text i.definition.place.end
        gone document there =
            let stands = (found (λ (f : FragmentOf). bytes_eq f.name.text i.name.text) (fragments_of rs) i.definition i.is_definition).0 in
            let fits = fragment_fits i.definition stands document there in
            ends_lead i.definition.file document i.definition.place there (fits.1, fits.2)

        by : (goes : Bool) → AllByRecursion (EndsLeadBack documents) (inline_replacements i.file i.document.text i.directives i.place i.definition i.home.text goes)
        by true =
            let p : PlacedReplacement = record { file = i.file; replacement = record { span = i.place; text = inlined_text i.document.text i.home.text i.definition.on.text i.directives i.definition.braces } } in
            let q : PlacedReplacement = record { file = i.definition.file; replacement = record { span = i.definition.place; text = [] } } in
            both (comes_first q p) p q opened gone
        by false = (opened, tt)

-- the edit of a cut
lead_of : (documents : List Doc) (cut : Cut) (edits : List DocumentEdit) → IsInOrder documents → edits ≡ edits_of cut documents → AllByRecursion (EndsLeadBack documents) cut.replacements → EditsLeadBack documents edits
lead_of documents cut edits in_order is h = subst (EditsLeadBack documents) (sym is) (edits_lead documents in_order cut.replacements h)

there_of : (documents : List Doc) (cut : Cut) (edits : List DocumentEdit) → IsInOrder documents → edits ≡ edits_of cut documents → find (is_moved documents) edits ≡ None
there_of documents cut edits in_order is = subst (λ (es : List DocumentEdit). find (is_moved documents) es ≡ None) (sym is) (edits_there cut.replacements documents in_order)

pub extracts_name_versions : EditsNameVersions IsExtractAnswer
extracts_name_versions documents ask edits in_order a = there_of documents (extract_cut a.offer.1.0) edits in_order a.offer.1.1.0

pub inlines_name_versions : EditsNameVersions IsInlineAnswer
inlines_name_versions documents ask edits in_order a = there_of documents (inline_cut a.offer.1.0) edits in_order a.offer.1.1.0

pub removes_name_versions : EditsNameVersions IsRemoveAnswer
removes_name_versions documents ask edits in_order a = there_of documents (remove_cut a.offer.1.0) edits in_order a.offer.1.1.0

pub extracts_lead_back : PositionsLeadBack → AnsweredEditsLeadBack IsExtractAnswer
extracts_lead_back law documents ask edits in_order utf8 a =
    lead_of documents (extract_cut a.offer.1.0) edits in_order a.offer.1.1.0 (extract_ends documents a.readings a.are_readings utf8 law a.types ask a.offer.1.0)

pub inlines_lead_back : PositionsLeadBack → AnsweredEditsLeadBack IsInlineAnswer
inlines_lead_back law documents ask edits in_order utf8 a =
    lead_of documents (inline_cut a.offer.1.0) edits in_order a.offer.1.1.0 (inline_ends documents a.readings a.are_readings utf8 law a.types ask a.offer.1.0)

pub removes_lead_back : PositionsLeadBack → AnsweredEditsLeadBack IsRemoveAnswer
removes_lead_back law documents ask edits in_order utf8 a =
    lead_of documents (remove_cut a.offer.1.0) edits in_order a.offer.1.1.0 (remove_ends documents a.readings a.are_readings utf8 law a.types ask a.offer.1.0)
