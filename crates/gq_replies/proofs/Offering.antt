-- A project that is not valid has no code actions, nor has one of which none are asked for.
use Rattle.std.proofs.Common.{◌≡◌, ◌⊎◌, inl, inr, Bool, true, false, ◌||◌, ℕ, List, [], ◌∷◌, ◌++◌, Option, None, Result, Ok, Err, IfOk, IfSome, OnOk, refl, sym, ap, subst, append-nil, append_assoc, ◌∙◌}
use mathlib.Core.Logic.{∥∥₁_map}
use Rattle.gq_text.specs.declared.place.PositionEncoding.{PositionEncoding}
use Rattle.gq_text.specs.declared.place.Span.{Span}
use Rattle.gq_project.specs.declared.document.Doc.{Doc}
use Rattle.gq_tree.specs.Readings.{ParsedOf}
use Rattle.gq_parse.specs.Parsed.{AreParsed}
use Rattle.gq_edit.specs.declared.edit.DocumentEdit.{DocumentEdit}
use Rattle.gq_edit.specs.declared.workspace.WorkspaceEdit.{WorkspaceEdit}
use Rattle.gq_edit.specs.Workspace.{workspace_edit_of}
use Rattle.gq_rules.specs.Validity.{IsValid}
use Rattle.gq_rename.specs.declared.refusal.Refusal.{Refusal}
use Rattle.gq_rename.specs.declared.refusal.Refusal.TheVariants.{ProjectInvalid, NoMemory}
use Rattle.gq_reshape.specs.Asks.{RangeAsk}
use Rattle.gq_reshape.specs.Reshape.{RefusesExtract, IsExtractEdit, RefusesInline, IsInlineEdit, RefusesRemove, IsRemoveEdit}
use Rattle.gq_rpc.specs.declared.messages.Id.{Id}
use Rattle.gq_reshape.specs.Responses.{KeepsResponses}
use Rattle.gq_rpc.specs.declared.messages.CodeAction.{CodeAction}
use Rattle.gq_rpc.specs.declared.messages.CodeActionKind.{CodeActionKind}
use Rattle.gq_rpc.specs.declared.messages.CodeActionKind.TheVariants as action
use Rattle.gq_rpc.specs.declared.messages.CodeActionParams.{CodeActionParams}
use Rattle.gq_rpc.specs.declared.messages.Outgoing.{Outgoing}
use Rattle.gq_rpc.specs.declared.messages.Outgoing.TheVariants as outgoing
use Rattle.gq_replies.specs.CodeActions.{is_asked_for, IsRefactoring, IsOffered, IsOfferedIf, IsGiven, TellsCodeActions}
use Rattle.gq_replies.specs.Helping.Results.{AddsGiven, IsAnswerKept, IsEditIfAny, IsEditOf}
use Rattle.gq_replies.proofs.Keeping.{by_both}
use Rattle.gq_replies.specs.Answers.{span_at}
use Rattle.gq_replies.proofs.NotValid.{refused_reshape}

abbrev asked : List ℕ → Span → RangeAsk
asked key range = record { key = key; range = range }

-- ---- where the project is not valid

none_given : (encoding : PositionEncoding) (b : Bool) (documents : List Doc) (ask : RangeAsk) (kind : CodeActionKind) → IsRefactoring kind documents ask (Err ProjectInvalid) → IsOfferedIf encoding b documents ask kind []
none_given encoding true documents ask kind h = record { answer = Err ProjectInvalid; is_answer = h; is = refl; sound = tt; responses = tt }
none_given encoding false documents ask kind h = refl

module _ (documents : List Doc) (readings : List ParsedOf) (are_readings : AreParsed documents readings) (not_valid : IsValid documents → ⊥) where
  refused : (kind : CodeActionKind) (ask : RangeAsk) → IsRefactoring kind documents ask (Err ProjectInvalid)
  refused action.Extract ask = refused_reshape documents readings are_readings not_valid RefusesExtract IsExtractEdit ask (λ es h. h)
  refused action.Inline ask = refused_reshape documents readings are_readings not_valid RefusesInline IsInlineEdit ask (λ es h. h)
  refused action.Rewrite ask = refused_reshape documents readings are_readings not_valid RefusesRemove IsRemoveEdit ask (λ es h. h)

  given : (encoding : PositionEncoding) (params : CodeActionParams) (range : Span) (kind : CodeActionKind) → IsGiven encoding documents (asked params.key range) params.only kind []
  given encoding params range kind = none_given encoding (is_asked_for params.only kind) documents (asked params.key range) kind (refused kind (asked params.key range))

  pub tells_none : (encoding : PositionEncoding) (params : CodeActionParams) (range : Span) (id : Id) → TellsCodeActions encoding documents id params range (outgoing.CodeActions id [])
  tells_none encoding params range id = record {
    extracts = [];
    extracts_given = given encoding params range action.Extract;
    inlines = [];
    inlines_given = given encoding params range action.Inline;
    rewrites = [];
    rewrites_given = given encoding params range action.Rewrite;
    is = refl;
  }

-- ---- where none are asked for

unasked : (encoding : PositionEncoding) (b : Bool) (documents : List Doc) (ask : RangeAsk) (kind : CodeActionKind) → b ≡ false → IsOfferedIf encoding b documents ask kind []
unasked encoding true documents ask kind h = absurd (cc)
unasked encoding false documents ask kind h = refl

left_false : (a b : Bool) → (a || b) ≡ false → a ≡ false
left_false true b h = h
left_false false b h = refl

right_false : (a b : Bool) → (a || b) ≡ false → b ≡ false
right_false true b h = absurd (cc)
right_false false b h = h

pub tells_unasked : (encoding : PositionEncoding) (documents : List Doc) (params : CodeActionParams) (range : Span) → (is_asked_for params.only action.Extract || (is_asked_for params.only action.Inline || is_asked_for params.only action.Rewrite)) ≡ false
    → (id : Id) → TellsCodeActions encoding documents id params range (outgoing.CodeActions id [])
tells_unasked encoding documents params range none id =
    let rest : (is_asked_for params.only action.Inline || is_asked_for params.only action.Rewrite) ≡ false = right_false (is_asked_for params.only action.Extract) _ none in
    record {
      extracts = [];
      extracts_given = unasked encoding (is_asked_for params.only action.Extract) documents (asked params.key range) action.Extract (left_false (is_asked_for params.only action.Extract) _ none);
      inlines = [];
      inlines_given = unasked encoding (is_asked_for params.only action.Inline) documents (asked params.key range) action.Inline (left_false (is_asked_for params.only action.Inline) _ rest);
      rewrites = [];
      rewrites_given = unasked encoding (is_asked_for params.only action.Rewrite) documents (asked params.key range) action.Rewrite (right_false (is_asked_for params.only action.Inline) _ rest);
      is = refl;
    }

-- ---- where the project is valid

-- under the names that the code has for the project, the key and the range
pub tells_asked : (encoding : PositionEncoding) (valid project documents : List Doc) → valid ≡ documents → project ≡ documents → (key : List ℕ) (params : CodeActionParams) → key ≡ params.key → (range : Span) → range ≡ span_at encoding project key params.range
    → (id : Id) (message : Outgoing) → TellsCodeActions encoding valid id params range message → TellsCodeActions encoding documents id params (span_at encoding documents params.key params.range) message
tells_asked encoding valid project documents same here key params same_key range is id message h =
    let same_range : range ≡ span_at encoding documents params.key params.range = is ∙ (ap (λ (ds : List Doc). span_at encoding ds key params.range) here ∙ ap (λ (k : List ℕ). span_at encoding documents k params.range) same_key) in
    subst (λ (ds : List Doc). TellsCodeActions encoding ds id params (span_at encoding documents params.key params.range) message) same (subst (λ (r : Span). TellsCodeActions encoding valid id params r message) same_range h)

-- ---- the actions of each kind, from its answer

-- the answer that one of the kinds has, by what is kept
pub answered : (documents : List Doc) (ask : RangeAsk) (kind shown : CodeActionKind) → kind ≡ shown → (result : Result (List DocumentEdit) Refusal) → {K I : Type 0} → ∥ K ∥₁ → ∥ I ∥₁
    → (K → I → (result ≡ Err NoMemory) ⊎ IsRefactoring shown documents ask result) → (K → I → IfOk result (KeepsResponses documents)) → ∥ IsAnswerKept kind documents ask result ∥₁
answered documents ask kind shown is result known index answers keeps =
    subst (λ (k : CodeActionKind). ∥ IsAnswerKept k documents ask result ∥₁) (sym is) (by_both known index (λ k i. (answers k i, keeps k i)))

-- a refusal offers nothing
not_offered : (documents : List Doc) (ask : RangeAsk) (kind : CodeActionKind) (why : Refusal) → (why ≡ NoMemory → ⊥) → ∥ IsAnswerKept kind documents ask (Err why) ∥₁ → ∥ IsEditIfAny kind documents ask None ∥₁
not_offered documents ask kind why other answer = ∥∥₁_map answer (λ a. (why, by a.0))
  where
    by : (◌≡◌ {A = Result (List DocumentEdit) Refusal} (Err why) (Err NoMemory)) ⊎ IsRefactoring kind documents ask (Err why) → IsRefactoring kind documents ask (Err why)
    by (inl none) = absurd (other (cc))
    by (inr a) = a

pub offered_nothing : (documents : List Doc) (ask : RangeAsk) (kind : CodeActionKind) (why : Refusal) {E : Type 0} (result : Result (Option (List DocumentEdit)) E) → IfOk result (λ edit. edit ≡ None) → OnOk result (why ≡ NoMemory → ⊥)
    → ∥ IsAnswerKept kind documents ask (Err why) ∥₁ → IfOk result (λ edit. ∥ IsEditIfAny kind documents ask edit ∥₁)
offered_nothing documents ask kind why (Ok edit) none other answer = subst (λ (o : Option (List DocumentEdit)). ∥ IsEditIfAny kind documents ask o ∥₁) (sym none) (not_offered documents ask kind why other answer)
offered_nothing documents ask kind why (Err e) none other answer = tt

pub nothing_fits : {E : Type 0} (P : List DocumentEdit → Type 0) (result : Result (Option (List DocumentEdit)) E) → IfOk result (λ edit. edit ≡ None) → IfOk result (λ edit. IfSome edit P)
nothing_fits P (Ok edit) none = subst (λ (o : Option (List DocumentEdit)). IfSome o P) (sym none) tt
nothing_fits P (Err e) none = tt

offered : (encoding : PositionEncoding) (asks : Bool) (documents : List Doc) (ask : RangeAsk) (kind : CodeActionKind) (actions : List CodeAction) → asks ≡ true → IsOffered encoding documents ask kind actions → IsOfferedIf encoding asks documents ask kind actions
offered encoding true documents ask kind actions e is = is
offered encoding false documents ask kind actions e is = absurd (cc)

module _ (encoding : PositionEncoding) (documents : List Doc) (key named : List ℕ) (range : Span) (same_key : key ≡ named) (only : Option (List (List ℕ))) (kind : CodeActionKind) (asks : is_asked_for only kind ≡ true) (before : List CodeAction) where
  to_named : (after : List CodeAction) → AddsGiven encoding documents (asked key range) only kind before after → AddsGiven encoding documents (asked named range) only kind before after
  to_named after = subst (λ (k : List ℕ). AddsGiven encoding documents (asked k range) only kind before after) same_key

  -- an edit gives one action
  pub adds_one : (edit : List DocumentEdit) (by_position : WorkspaceEdit) (after : List CodeAction) → IsEditOf kind documents (asked key range) edit → by_position ≡ workspace_edit_of encoding documents edit
      → after ≡ before ++ record { kind = kind; edit = by_position } ∷ [] → AddsGiven encoding documents (asked named range) only kind before after
  adds_one edit by_position after is same put =
      to_named after (
        record { kind = kind; edit = by_position } ∷ [],
        offered encoding (is_asked_for only kind) documents (asked key range) kind (record { kind = kind; edit = by_position } ∷ []) asks (record {
          answer = Ok edit;
          is_answer = is.is_answer;
          is = ap (λ (e : WorkspaceEdit). record { kind = kind; edit = e } ∷ []) same;
          sound = is.sound;
          responses = is.responses;
        }),
        put,
      )

  -- a refusal gives none
  pub adds_none : IsEditIfAny kind documents (asked key range) None → AddsGiven encoding documents (asked named range) only kind before before
  adds_none none =
      to_named before (
        [],
        offered encoding (is_asked_for only kind) documents (asked key range) kind [] asks (record { answer = Err none.0; is_answer = none.1; is = refl; sound = tt; responses = tt }),
        sym (append-nil before),
      )

-- the actions of all kinds, one kind after the other
pub all_given : (encoding : PositionEncoding) (documents : List Doc) (params : CodeActionParams) (range : Span) (id : Id) (start first second third : List CodeAction) → start ≡ []
    → AddsGiven encoding documents (asked params.key range) params.only action.Extract start first → AddsGiven encoding documents (asked params.key range) params.only action.Inline first second
    → AddsGiven encoding documents (asked params.key range) params.only action.Rewrite second third → TellsCodeActions encoding documents id params range (outgoing.CodeActions id third)
all_given encoding documents params range id start first second third nothing e i r = record {
  extracts = e.0;
  extracts_given = e.1;
  inlines = i.0;
  inlines_given = i.1;
  rewrites = r.0;
  rewrites_given = r.1;
  is = ap (λ (actions : List CodeAction). outgoing.CodeActions id actions) (r.2 ∙ ap (λ (xs : List CodeAction). xs ++ r.0) (i.2 ∙ ap (λ (xs : List CodeAction). xs ++ i.0) (e.2 ∙ ap (λ (xs : List CodeAction). xs ++ e.0) nothing)) ∙ append_assoc e.0 i.0 r.0);
}
