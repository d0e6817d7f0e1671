-- A question has one answer.
use Rattle.std.proofs.Common.{◌≡◌, ◌↔◌, ◌<◌, ℕ, Bool, true, false, List, [], ◌++◌, Option, Some, None, Result, Contains, map, refl, sym, ap, subst, ◌∙◌, arith}
use Rattle.std.specs.Option.{option_map}
use Rattle.std.specs.Cmp.{IsTotalOrder}
use Rattle.std.proofs.lemmas.Cmp.{nat_cmp_total, nat_list_cmp_total, on_total, then_total}
use Rattle.gq_text.specs.declared.place.PositionEncoding.{PositionEncoding}
use Rattle.gq_text.specs.declared.place.Span.{Span}
use Rattle.gq_tree.specs.Plain.{VariableOf}
use Rattle.gq_tree.specs.Readings.{ParsedOf}
use Rattle.gq_parse.specs.Parsed.{AreParsed}
use Rattle.gq_project.specs.declared.document.Doc.{Doc}
use Rattle.gq_edit.specs.declared.edit.DocumentEdit.{DocumentEdit}
use Rattle.gq_types.specs.Entries.{Text, EntryOf}
use Rattle.gq_schema.specs.SchemaOf.{IsTypeSystemOf}
use Rattle.gq_index.specs.declared.occurrence.Occurrence.{Occurrence}
use Rattle.gq_index.specs.Occurrences.{DefinitionOf, AreExecutables, executables}
use Rattle.gq_mentions.specs.declared.mention.MentionKind.{MentionKind}
use Rattle.gq_mentions.specs.declared.mention.MentionKind.TheVariants as kind
use Rattle.gq_mentions.specs.Mentions.{MentionOf}
use Rattle.gq_query.specs.declared.told.Hover as query
use Rattle.gq_query.specs.Asked.{asked, AtMention}
use Rattle.gq_query.specs.Definitions.{IsDefinitionOf, AreDefinitions}
use Rattle.gq_query.specs.Groups.{IsFirstInGroup, here, nowhere, variable_at}
use Rattle.gq_query.specs.Hovers.{IsToldOf, hover_at, IsHoverAt, IsHover}
use Rattle.gq_query.specs.Order.{occurrence_cmp, AreExactly}
use Rattle.gq_query.specs.References.{IsReference, AreReferences}
use Rattle.gq_query.specs.Schemas.{BySchema, of_schema, of_none}
use Rattle.gq_query.specs.Words.{variable_words}
use Rattle.gq_completion.specs.declared.completion.Completion.{Completion}
use Rattle.gq_completion.specs.Completions.{AreCompletions}
use Rattle.gq_rename.specs.declared.refusal.Refusal.{Refusal}
use Rattle.gq_rename.specs.Determined.{RenamesAreDetermined, PreparedNamesAreDetermined}
use Rattle.gq_reshape.specs.Asks.{RangeAsk}
use Rattle.gq_reshape.specs.Determined.{AnswersAreDetermined}
use Rattle.gq_reshape.specs.Reshape.{IsExtractAnswer, IsInlineAnswer, IsRemoveAnswer}
use Rattle.gq_rpc.specs.declared.messages.Id.{Id}
use Rattle.gq_rpc.specs.declared.messages.CodeAction.{CodeAction}
use Rattle.gq_rpc.specs.declared.messages.CodeActionKind.{CodeActionKind}
use Rattle.gq_rpc.specs.declared.messages.CodeActionKind.TheVariants as action
use Rattle.gq_rpc.specs.declared.messages.CodeActionParams.{CodeActionParams}
use Rattle.gq_rpc.specs.declared.messages.Question.{Question}
use Rattle.gq_rpc.specs.declared.messages.Question.TheVariants as question
use Rattle.gq_rpc.specs.declared.messages.Outgoing.{Outgoing}
use Rattle.gq_rpc.specs.declared.messages.Outgoing.TheVariants as outgoing
use Rattle.gq_replies.specs.Answers.{text_at, offset_at, hover_in, item_of, prepared_in}
use Rattle.gq_replies.specs.CodeActions.{IsRefactoring, actions_of, is_asked_for, IsOfferedIf, IsGiven, TellsCodeActions}
use Rattle.gq_replies.specs.Laws.{QuestionsHaveOneAnswer}
use Rattle.gq_replies.specs.Locations.{locations_of}
use Rattle.gq_replies.specs.Renames.{rename_response}
use Rattle.gq_replies.proofs.OneList.{one_list}

abbrev pub OneList : Type 0
OneList = (documents : List Doc) (xs ys : List DefinitionOf) → AreExecutables documents xs → AreExecutables documents ys → xs ≡ ys

abbrev pub OneSystem : Type 0
OneSystem = (documents : List Doc) (xs ys : List EntryOf) → IsTypeSystemOf documents xs → IsTypeSystemOf documents ys → xs ≡ ys

occurrence_total : IsTotalOrder occurrence_cmp
occurrence_total = then_total (on_total (λ (o : Occurrence). o.file) nat_cmp_total) (then_total (on_total (λ (o : Occurrence). o.span.start) nat_cmp_total) (on_total (λ (o : Occurrence). o.span.end) nat_cmp_total))

one_exact : (Is : Occurrence → Type 0) (a b : List Occurrence) → AreExactly Is a → AreExactly Is b → a ≡ b
one_exact Is a b p q = one_list occurrence_total a b p.sorted q.sorted (λ o. ((λ c. (q.exact o).1 ((p.exact o).0 c)), (λ c. (p.exact o).1 ((q.exact o).0 c))))

one_completion : (documents : List Doc) (key : List ℕ) (offset : ℕ) (a b : List Completion) → AreCompletions documents key offset a → AreCompletions documents key offset b → a ≡ b
one_completion documents key offset a b p q =
    one_list (on_total (λ (c : Completion). c.label) nat_list_cmp_total) a b p.sorted q.sorted (λ c. ((λ k. (q.exact c).1 ((p.exact c).0 k)), (λ k. (p.exact c).1 ((q.exact c).0 k))))

-- the first variable of a group
one_first : (ds : List DefinitionOf) (text : Text) (n : ℕ) (a b : Option (VariableOf Span)) → IsFirstInGroup ds text n a → IsFirstInGroup ds text n b → a ≡ b
one_first ds text n a b (here {number = j} {v = v} g at before e) (here {number = k} {v = w} h there earlier f) =
    let above : j < k → ⊥ = λ less. let no : Some v ≡ None = sym at ∙ earlier j less g in cc in
    let below : k < j → ⊥ = λ less. let no : Some w ≡ None = sym there ∙ before k less h in cc in
    let same : j ≡ k = omega (arith, above, below) in
    e ∙ sym at ∙ ap (variable_at ds text) same ∙ there ∙ sym f
one_first ds text n a b (here {number = j} {v = v} g at before e) (nowhere none f) = absurd (let no : Some v ≡ None = sym at ∙ none j g in cc)
one_first ds text n a b (nowhere none e) (here {number = k} {v = w} h there earlier f) = absurd (let no : Some w ≡ None = sym there ∙ none k h in cc)
one_first ds text n a b (nowhere none e) (nowhere other f) = e ∙ sym f

module _ (lists : OneList) (systems : OneSystem) (documents : List Doc) where
  same_list : (xs ys : List ParsedOf) → AreParsed documents xs → AreParsed documents ys → executables xs ≡ executables ys
  same_list xs ys p q = lists documents (executables xs) (executables ys) (record { readings = xs; are_readings = p; is = refl }) (record { readings = ys; are_readings = q; is = refl })

  one_by_schema : {A : Type 0} (tells : List EntryOf → Option A) (a b : Option A) → BySchema documents tells a → BySchema documents tells b → a ≡ b
  one_by_schema tells a b (of_schema {es = xs} t n e) (of_schema {es = ys} u m f) = e ∙ ap tells (systems documents xs ys t u) ∙ sym f
  one_by_schema tells a b (of_schema {es = xs} t n e) (of_none none f) = absurd (none xs t n)
  one_by_schema tells a b (of_none none e) (of_schema {es = ys} u m f) = absurd (none ys u m)
  one_by_schema tells a b (of_none none e) (of_none other f) = e ∙ sym f

  one_told : (ds : List DefinitionOf) (k : MentionKind) (m : MentionOf) (a b : Option Text) → IsToldOf documents ds k m a → IsToldOf documents ds k m b → a ≡ b
  one_told ds kind.Fragment m a b p q = p ∙ sym q
  one_told ds kind.Variable m a b p q = p.are_words ∙ ap (option_map (λ (v : VariableOf Span). variable_words m.name.text v.type_ref)) (one_first ds m.name.text m.definition p.first q.first p.is_first q.is_first) ∙ sym q.are_words
  one_told ds kind.Field m a b p q = one_by_schema _ a b p q
  one_told ds kind.Condition m a b p q = one_by_schema _ a b p q

  one_hover_at : (ds : List DefinitionOf) (o : Option MentionOf) (a b : Option query.Hover) → IsHoverAt documents ds o a → IsHoverAt documents ds o b → a ≡ b
  one_hover_at ds None a b p q = p ∙ sym q
  one_hover_at ds (Some m) a b p q = p.shown ∙ ap (hover_at m.name.place) (one_told ds m.kind m p.told q.told p.is_told q.is_told) ∙ sym q.shown

  module _ (key : List ℕ) (offset : ℕ) where
    one_hover : (a b : Option query.Hover) → IsHover documents key offset a → IsHover documents key offset b → a ≡ b
    one_hover a b p q =
        let H : List DefinitionOf → Type 0 = λ ds. IsHoverAt documents ds (asked documents ds key offset) a in
        let here_too : H (executables q.readings) = subst H (same_list p.readings q.readings p.are_readings q.are_readings) p.is_hover in
        one_hover_at (executables q.readings) (asked documents (executables q.readings) key offset) a b here_too q.is_hover

    one_definitions : (a b : List Occurrence) → AreDefinitions documents key offset a → AreDefinitions documents key offset b → a ≡ b
    one_definitions a b p q =
        let E : List DefinitionOf → Type 0 = λ ds. AreExactly (λ o. AtMention documents ds key offset (λ m. IsDefinitionOf documents ds m.kind m o)) a in
        let here_too : E (executables q.readings) = subst E (same_list p.readings q.readings p.are_readings q.are_readings) p.exactly in
        one_exact _ a b here_too q.exactly

    one_references : (declared : Bool) (a b : List Occurrence) → AreReferences documents key offset declared a → AreReferences documents key offset declared b → a ≡ b
    one_references declared a b p q =
        let E : List DefinitionOf → Type 0 = λ ds. AreExactly (λ o. AtMention documents ds key offset (λ m. IsReference ds declared m o)) a in
        let here_too : E (executables q.readings) = subst E (same_list p.readings q.readings p.are_readings q.are_readings) p.exactly in
        one_exact _ a b here_too q.exactly

-- the actions of a kind
module _ (encoding : PositionEncoding) (documents : List Doc) (ask : RangeAsk) (k : CodeActionKind) (one : (a b : Result (List DocumentEdit) Refusal) → IsRefactoring k documents ask a → IsRefactoring k documents ask b → a ≡ b) where
  one_given : (b : Bool) (xs ys : List CodeAction) → IsOfferedIf encoding b documents ask k xs → IsOfferedIf encoding b documents ask k ys → xs ≡ ys
  one_given true xs ys p q = p.is ∙ ap (actions_of encoding documents k) (one p.answer q.answer p.is_answer q.is_answer) ∙ sym q.is
  one_given false xs ys p q = p ∙ sym q

module _ (lists : OneList) (systems : OneSystem) (renames : RenamesAreDetermined) (prepared : PreparedNamesAreDetermined) (extracts : AnswersAreDetermined IsExtractAnswer) (inlines : AnswersAreDetermined IsInlineAnswer) (removes : AnswersAreDetermined IsRemoveAnswer) where
  one_actions : (encoding : PositionEncoding) (documents : List Doc) (id : Id) (params : CodeActionParams) (range : Span) (a b : Outgoing) → TellsCodeActions encoding documents id params range a → TellsCodeActions encoding documents id params range b → a ≡ b
  one_actions encoding documents id params range a b p q =
      let ask : RangeAsk = record { key = params.key; range = range } in
      let e = one_given encoding documents ask action.Extract (extracts documents ask) (is_asked_for params.only action.Extract) p.extracts q.extracts p.extracts_given q.extracts_given in
      let i = one_given encoding documents ask action.Inline (inlines documents ask) (is_asked_for params.only action.Inline) p.inlines q.inlines p.inlines_given q.inlines_given in
      let r = one_given encoding documents ask action.Rewrite (removes documents ask) (is_asked_for params.only action.Rewrite) p.rewrites q.rewrites p.rewrites_given q.rewrites_given in
      p.is
      ∙ ap (λ (xs : List CodeAction). outgoing.CodeActions id (xs ++ (p.inlines ++ p.rewrites))) e
      ∙ ap (λ (xs : List CodeAction). outgoing.CodeActions id (q.extracts ++ (xs ++ p.rewrites))) i
      ∙ ap (λ (xs : List CodeAction). outgoing.CodeActions id (q.extracts ++ (q.inlines ++ xs))) r
      ∙ sym q.is

  pub questions_have_one_answer : QuestionsHaveOneAnswer
  questions_have_one_answer encoding documents id (question.Completion params) a b p q =
      let at = offset_at encoding documents params.key params.position in
      p.is ∙ ap (λ (cs : List Completion). outgoing.Completions id (map item_of cs)) (one_completion documents params.key at p.found q.found p.are_found q.are_found) ∙ sym q.is
  questions_have_one_answer encoding documents id (question.Definition params) a b p q =
      let at = offset_at encoding documents params.key params.position in
      p.is ∙ ap (λ (os : List Occurrence). outgoing.Locations id (locations_of encoding documents os)) (one_definitions lists systems documents params.key at p.found q.found p.are_found q.are_found) ∙ sym q.is
  questions_have_one_answer encoding documents id (question.Hover params) a b p q =
      let at = offset_at encoding documents params.key params.position in
      p.is ∙ ap (λ (h : Option query.Hover). outgoing.Hover id (option_map (hover_in encoding (text_at documents params.key)) h)) (one_hover lists systems documents params.key at p.found q.found p.is_found q.is_found) ∙ sym q.is
  questions_have_one_answer encoding documents id (question.PrepareRename params) a b p q =
      let at = offset_at encoding documents params.key params.position in
      p.is ∙ ap (λ (s : Option Span). outgoing.Prepared id (option_map (prepared_in encoding (text_at documents params.key)) s)) (prepared documents params.key at p.found q.found p.is_found q.is_found) ∙ sym q.is
  questions_have_one_answer encoding documents id (question.References params) a b p q =
      let at = offset_at encoding documents params.key params.position in
      p.is ∙ ap (λ (os : List Occurrence). outgoing.Locations id (locations_of encoding documents os)) (one_references lists systems documents params.key at params.include_declaration p.found q.found p.are_found q.are_found) ∙ sym q.is
  questions_have_one_answer encoding documents id (question.Rename params) a b p q =
      p.is ∙ ap (rename_response encoding id documents) (renames documents params.key (offset_at encoding documents params.key params.position) params.new_name p.answer q.answer p.is_answer q.is_answer) ∙ sym q.is
  questions_have_one_answer encoding documents id (question.CodeAction params) a b p q = one_actions encoding documents id params _ a b p q
