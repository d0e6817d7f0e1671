-- An ask has one answer, however the documents are read.
use Rattle.std.proofs.Common.{◌≡◌, ℕ, zero, suc, List, [], ◌∷◌, ◌++◌, Result, length, slice_get, find, nat_eq, refl, sym, ap, subst, ◌∙◌}
use Rattle.std.specs.Option.{option_map_or}
use Rattle.std.specs.Str.{bytes_eq}
use Rattle.gq_text.specs.declared.place.Span.{Span}
use Rattle.gq_tree.specs.Plain.{Def}
use Rattle.gq_tree.specs.Readings.{ParsedOf}
use Rattle.gq_project.specs.declared.document.Doc.{Doc}
use Rattle.gq_parse.specs.Parsed.{AreParsed}
use Rattle.gq_parse.proofs.OneReading.{OneTree, same_in_documents, same_trees}
use Rattle.gq_edit.specs.declared.edit.DocumentEdit.{DocumentEdit}
use Rattle.gq_types.specs.BuiltIn.{built_in}
use Rattle.gq_types.specs.Entries.{EntryOf}
use Rattle.gq_document.specs.Definitions.{FragmentOf, fragment_in, fragments_of, entry_in}
use Rattle.gq_index.specs.Occurrences.{DefinitionOf, executable_in, executables, fragment_spreads}
use Rattle.gq_schema.specs.SchemaOf.{IsTypeSystemOf}
use Rattle.gq_select.specs.Meant.{is_spread, is_inline, meant, document_sets}
use Rattle.gq_rename.specs.declared.refusal.Refusal.{Refusal}
use Rattle.gq_rename.specs.declared.refusal.Refusal.TheVariants.{ProjectInvalid, NothingHere, BadName, SameName, NameTaken, DirectiveInWay, NoPossibleType, NotSiblings, NotRedundant, TooLarge, SelfCheck, NoMemory}
use Rattle.gq_rename.specs.Asks.{trees_of}
use Rattle.gq_rename.specs.Determined.{RenamesAreDetermined}
use Rattle.gq_rename.specs.Offers.{IsOffer}
use Rattle.gq_rename.proofs.OneOffer.{one_offer, offer_carried}
use Rattle.gq_reshape.specs.declared.offering.Ask.TheVariants.{Rename, Extract, Inline, Remove}
use Rattle.gq_reshape.specs.Asks.{RangeAsk, tree_at}
use Rattle.gq_reshape.specs.Cuts.{Cut, edits_of, PassesCheck}
use Rattle.gq_reshape.specs.Determined.{OffersAreDetermined}
use Rattle.gq_reshape.specs.Extract.{run_at, innermost_at, parent_in_question, Extraction, extract_cut}
use Rattle.gq_reshape.specs.Inline.{Inlining, inline_at, inline_cut, is_only_spread}
use Rattle.gq_reshape.specs.Naming.{IsLeastFree}
use Rattle.gq_reshape.specs.Remove.{Removal, remove_cut}
use Rattle.gq_reshape.specs.Reshape.{PassesLimits, FailsCheck, RefusesExtract, RefusesInline, RefusesRemove, IsEdit, IsExtractEdit, IsInlineEdit, IsRemoveEdit, IsAnswerBy, IsExtractAnswer, IsInlineAnswer, IsRemoveAnswer}
use Rattle.gq_reshape.proofs.ExtractOffers.{OneReading}
use Rattle.gq_reshape.proofs.OneCut.{one_extraction, one_inlining, one_removal}

-- the tree of a document among all trees
tree_among : (rs : List ParsedOf) (file : ℕ) → tree_at rs file ≡ option_map_or (λ t. t) (slice_get (trees_of rs) file) []
tree_among [] file = refl
tree_among (r ∷ rs) zero = refl
tree_among (r ∷ rs) (suc file) = tree_among rs file

module _ (one_tree : OneTree) (documents : List Doc) (es : List EntryOf) (ask : RangeAsk) (xs ys : List ParsedOf) (p : AreParsed documents xs) (q : AreParsed documents ys) where
  same_list : executables xs ≡ executables ys
  same_list = same_in_documents one_tree executable_in documents xs ys p q

  same_fragments : fragments_of xs ≡ fragments_of ys
  same_fragments = same_in_documents one_tree fragment_in documents xs ys p q

  same_texts : trees_of xs ≡ trees_of ys
  same_texts = same_trees one_tree documents xs ys p q

  same_sets : (file : ℕ) → document_sets es (tree_at xs file) ≡ document_sets es (tree_at ys file)
  same_sets file =
      ap (document_sets es) (tree_among xs file ∙ ap (λ (ts : List (List (Def Span))). option_map_or (λ (t : List (Def Span)). t) (slice_get ts file) []) same_texts ∙ sym (tree_among ys file))

  passes_carried : (cut : Cut) → PassesCheck documents (trees_of xs) cut → PassesCheck documents (trees_of ys) cut
  passes_carried cut h = subst (λ (ts : List (List (Def Span))). PassesCheck documents ts cut) same_texts h

  fails_carried : (cut : Cut) → FailsCheck documents xs cut → FailsCheck documents ys cut
  fails_carried cut h = subst (λ (ts : List (List (Def Span))). PassesCheck documents ts cut → ⊥) same_texts h

  edit_carried : (cut : Cut) (edits : List DocumentEdit) → IsEdit documents xs cut edits → IsEdit documents ys cut edits
  edit_carried cut edits h = (h.0, passes_carried cut h.1)

  -- extract
  extraction_carried : (e : Extraction documents es xs ask) → (f : Extraction documents es ys ask) × (extract_cut f ≡ extract_cut e)
  extraction_carried e = (
    record {
      touched = e.touched;
      parent = e.parent;
      run = e.run;
      is_run = ap (run_at e.touched.place) (sym (same_sets e.touched.file)) ∙ e.is_run;
      number = e.number;
      is_least = subst (λ (ds : List DefinitionOf). IsLeastFree ds e.number) same_list e.is_least;
    },
    refl,
  )

  extract_refusal_carried : (why : Refusal) → RefusesExtract documents es xs ask why → RefusesExtract documents es ys ask why
  extract_refusal_carried ProjectInvalid h = h
  extract_refusal_carried NothingHere h = λ t. ap (parent_in_question t.place) (sym (same_sets t.file)) ∙ h t
  extract_refusal_carried BadName h = h
  extract_refusal_carried SameName h = h
  extract_refusal_carried NameTaken h = h
  extract_refusal_carried DirectiveInWay h = h
  extract_refusal_carried NoPossibleType h = record {
    touched = h.touched;
    parent = h.parent;
    in_question = ap (parent_in_question h.touched.place) (sym (same_sets h.touched.file)) ∙ h.in_question;
    no_object = h.no_object;
  }
  extract_refusal_carried NotSiblings h = record {
    touched = h.touched;
    no_run = ap (run_at h.touched.place) (sym (same_sets h.touched.file)) ∙ h.no_run;
    set = h.set;
    between = ap (innermost_at h.touched.place) (sym (same_sets h.touched.file)) ∙ h.between;
  }
  extract_refusal_carried NotRedundant h = h
  extract_refusal_carried TooLarge h = let f = extraction_carried h.0 in (f.0, subst (PassesLimits documents) (sym f.1) h.1)
  extract_refusal_carried SelfCheck h = let f = extraction_carried h.0 in (f.0, subst (FailsCheck documents ys) (sym f.1) (fails_carried (extract_cut h.0) h.1))
  extract_refusal_carried NoMemory h = h

  extract_edit_carried : (edits : List DocumentEdit) → IsExtractEdit documents es xs ask edits → IsExtractEdit documents es ys ask edits
  extract_edit_carried edits h =
      let f = extraction_carried h.0 in
      let E : Cut → Type 0 = λ c. IsEdit documents ys c edits in
      (f.0, subst E (sym f.1) (edit_carried (extract_cut h.0) edits h.1))

  -- inline
  only_carried : (text : List ℕ) → is_only_spread xs text ≡ is_only_spread ys text
  only_carried text = ap (λ (ds : List DefinitionOf). nat_eq (length (fragment_spreads ds text)) 1) same_list

  inlining_carried : (i : Inlining documents es xs ask) → Inlining documents es ys ask
  inlining_carried i = record {
    file = i.file;
    document = i.document;
    asked_of = i.asked_of;
    selected = i.selected;
    is_meant = ap (meant is_spread ask.range) (sym (same_sets i.file)) ∙ i.is_meant;
    name = i.name;
    directives = i.directives;
    place = i.place;
    is_spread = i.is_spread;
    definition = i.definition;
    is_definition = ap (find (λ (f : FragmentOf). bytes_eq f.name.text i.name.text)) (sym same_fragments) ∙ i.is_definition;
    home = i.home;
    is_home = i.is_home;
  }

  inline_cut_carried : (i : Inlining documents es xs ask) → inline_cut (inlining_carried i) ≡ inline_cut i
  unfolding inlining_carried
  inline_cut_carried i = ap (inline_at i.file i.document.text i.directives i.place i.definition i.home.text) (sym (only_carried i.name.text))

  inline_refusal_carried : ((ls : Inlining documents es ys ask) → Inlining documents es xs ask) → (why : Refusal) → RefusesInline documents es xs ask why → RefusesInline documents es ys ask why
  unfolding inlining_carried
  inline_refusal_carried back ProjectInvalid h = h
  inline_refusal_carried back NothingHere h = λ i. h (back i)
  inline_refusal_carried back BadName h = h
  inline_refusal_carried back SameName h = h
  inline_refusal_carried back NameTaken h = h
  inline_refusal_carried back DirectiveInWay h = record { inlining = inlining_carried h.inlining; in_way = h.in_way }
  inline_refusal_carried back NoPossibleType h = h
  inline_refusal_carried back NotSiblings h = h
  inline_refusal_carried back NotRedundant h = h
  inline_refusal_carried back TooLarge h = (inlining_carried h.0, subst (PassesLimits documents) (sym (inline_cut_carried h.0)) h.1)
  inline_refusal_carried back SelfCheck h = (inlining_carried h.0, subst (FailsCheck documents ys) (sym (inline_cut_carried h.0)) (fails_carried (inline_cut h.0) h.1))
  inline_refusal_carried back NoMemory h = h

  inline_edit_carried : (edits : List DocumentEdit) → IsInlineEdit documents es xs ask edits → IsInlineEdit documents es ys ask edits
  inline_edit_carried edits h = let E : Cut → Type 0 = λ c. IsEdit documents ys c edits in (inlining_carried h.0, subst E (sym (inline_cut_carried h.0)) (edit_carried (inline_cut h.0) edits h.1))

  -- remove
  removal_carried : Removal documents es xs ask → Removal documents es ys ask
  removal_carried r = record {
    file = r.file;
    document = r.document;
    asked_of = r.asked_of;
    selected = r.selected;
    is_meant = ap (meant is_inline ask.range) (sym (same_sets r.file)) ∙ r.is_meant;
    on = r.on;
    directives = r.directives;
    braces = r.braces;
    place = r.place;
    is_inline = r.is_inline;
  }

  remove_refusal_carried : (Removal documents es ys ask → Removal documents es xs ask) → (why : Refusal) → RefusesRemove documents es xs ask why → RefusesRemove documents es ys ask why
  unfolding removal_carried
  remove_refusal_carried back ProjectInvalid h = h
  remove_refusal_carried back NothingHere h = λ r. h (back r)
  remove_refusal_carried back BadName h = h
  remove_refusal_carried back SameName h = h
  remove_refusal_carried back NameTaken h = h
  remove_refusal_carried back DirectiveInWay h = h
  remove_refusal_carried back NoPossibleType h = h
  remove_refusal_carried back NotSiblings h = h
  remove_refusal_carried back NotRedundant h = record { removal = removal_carried h.removal; says = h.says }
  remove_refusal_carried back TooLarge h = (removal_carried h.0, h.1)
  remove_refusal_carried back SelfCheck h = (removal_carried h.0, fails_carried (remove_cut h.0) h.1)
  remove_refusal_carried back NoMemory h = h

  remove_edit_carried : (edits : List DocumentEdit) → IsRemoveEdit documents es xs ask edits → IsRemoveEdit documents es ys ask edits
  unfolding removal_carried
  remove_edit_carried edits h = (removal_carried h.0, edit_carried (remove_cut h.0) edits h.1)

-- an answer is one where it is so over each reading and where all readings tell the same
abbrev Refusing : Type 1
Refusing = List Doc → List EntryOf → List ParsedOf → RangeAsk → Refusal → Type 0

abbrev Editing : Type 1
Editing = List Doc → List EntryOf → List ParsedOf → RangeAsk → List DocumentEdit → Type 0

module _ (one_tree : OneTree) (Refuses : Refusing) (IsEditOf : Editing) (documents : List Doc) (ask : RangeAsk)
    (refusals : (es : List EntryOf) (xs ys : List ParsedOf) → AreParsed documents xs → AreParsed documents ys → (why : Refusal) → Refuses documents es xs ask why → Refuses documents es ys ask why)
    (edits_carried : (es : List EntryOf) (xs ys : List ParsedOf) → AreParsed documents xs → AreParsed documents ys → (edits : List DocumentEdit) → IsEditOf documents es xs ask edits → IsEditOf documents es ys ask edits)
    (one : (es : List EntryOf) (rs : List ParsedOf) (x y : List DocumentEdit) → IsEditOf documents es rs ask x → IsEditOf documents es rs ask y → x ≡ y) where
  same_types : (xs ys : List EntryOf) → IsTypeSystemOf documents xs → IsTypeSystemOf documents ys → xs ≡ ys
  same_types xs ys p q = p.is ∙ ap (λ (es : List EntryOf). built_in ++ es) (same_in_documents one_tree entry_in documents p.readings q.readings p.are_readings q.are_readings) ∙ sym q.is

  one_answer : (a b : Result (List DocumentEdit) Refusal) → IsAnswerBy Refuses IsEditOf documents ask a → IsAnswerBy Refuses IsEditOf documents ask b → a ≡ b
  one_answer a b p q =
      let O : List EntryOf → Type 0 = λ es. IsOffer (Refuses documents es p.readings ask) (IsEditOf documents es p.readings ask) a in
      let typed : O q.types = subst O (same_types p.types q.types p.is_type_system q.is_type_system) p.offer in
      let here : IsOffer (Refuses documents q.types q.readings ask) (IsEditOf documents q.types q.readings ask) a =
      offer_carried (Refuses documents q.types p.readings ask) (Refuses documents q.types q.readings ask) (IsEditOf documents q.types p.readings ask) (IsEditOf documents q.types q.readings ask)
      (refusals q.types p.readings q.readings p.are_readings q.are_readings) (refusals q.types q.readings p.readings q.are_readings p.are_readings) (edits_carried q.types p.readings q.readings p.are_readings q.are_readings) a typed in
      one_offer (Refuses documents q.types q.readings ask) (IsEditOf documents q.types q.readings ask) (λ x y c d. one q.types q.readings x y c.1 d.1) a b here q.offer

module _ (one_tree : OneTree) (one_reading : OneReading) (documents : List Doc) (ask : RangeAsk) where
  pub one_extract : (a b : Result (List DocumentEdit) Refusal) → IsExtractAnswer documents ask a → IsExtractAnswer documents ask b → a ≡ b
  one_extract =
      one_answer one_tree RefusesExtract IsExtractEdit documents ask
      (λ es xs ys p q. extract_refusal_carried one_tree documents es ask xs ys p q)
      (λ es xs ys p q. extract_edit_carried one_tree documents es ask xs ys p q)
      (λ es rs x y h k. h.1.0 ∙ ap (λ (c : Cut). edits_of c documents) (one_extraction documents es rs ask one_reading h.0 k.0) ∙ sym k.1.0)

  pub one_inline : (a b : Result (List DocumentEdit) Refusal) → IsInlineAnswer documents ask a → IsInlineAnswer documents ask b → a ≡ b
  one_inline =
      one_answer one_tree RefusesInline IsInlineEdit documents ask
      (λ es xs ys p q. inline_refusal_carried one_tree documents es ask xs ys p q (inlining_carried one_tree documents es ask ys xs q p))
      (λ es xs ys p q. inline_edit_carried one_tree documents es ask xs ys p q)
      (λ es rs x y h k. h.1.0 ∙ ap (λ (c : Cut). edits_of c documents) (one_inlining documents es rs ask h.0 k.0) ∙ sym k.1.0)

  pub one_remove : (a b : Result (List DocumentEdit) Refusal) → IsRemoveAnswer documents ask a → IsRemoveAnswer documents ask b → a ≡ b
  one_remove =
      one_answer one_tree RefusesRemove IsRemoveEdit documents ask
      (λ es xs ys p q. remove_refusal_carried one_tree documents es ask xs ys p q (removal_carried one_tree documents es ask ys xs q p))
      (λ es xs ys p q. remove_edit_carried one_tree documents es ask xs ys p q)
      (λ es rs x y h k. h.1.0 ∙ ap (λ (c : Cut). edits_of c documents) (one_removal documents es rs ask h.0 k.0) ∙ sym k.1.0)

pub offers_are_determined : OneTree → OneReading → RenamesAreDetermined → OffersAreDetermined
offers_are_determined one_tree one_reading renames documents (Rename key offset new_name) a b p q = renames documents key.now offset new_name.now a b p q
offers_are_determined one_tree one_reading renames documents (Extract key range) a b p q = one_extract one_tree one_reading documents (record { key = key.now; range = range }) a b p q
offers_are_determined one_tree one_reading renames documents (Inline key range) a b p q = one_inline one_tree one_reading documents (record { key = key.now; range = range }) a b p q
offers_are_determined one_tree one_reading renames documents (Remove key range) a b p q = one_remove one_tree one_reading documents (record { key = key.now; range = range }) a b p q
