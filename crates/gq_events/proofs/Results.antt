-- Each result that is replied is its question's.
use Rattle.std.proofs.Common.{inl, inr, arith, Contains, ◌≡◌, ℕ, suc, Bool, true, false, cond, not, ◌&&◌, ◌==◌, List, [], ◌∷◌, map, Option, Some, None, ap, sym, refl, ◌∙◌, subst}
use Rattle.std.specs.Prelude.{codes, option_map, option_to_list}
use Rattle.std.specs.List.{AllByRecursion, list_any}
use mathlib.Core.Logic.{∥∥₁_map}
use Rattle.gq_text.specs.declared.place.PositionEncoding.{PositionEncoding}
use Rattle.gq_project.specs.declared.document.Doc.{Doc}
use Rattle.gq_project.specs.declared.document.DocChange.{DocChange}
use Rattle.gq_rpc.specs.declared.messages.Id.{Id}
use Rattle.gq_rpc.specs.declared.messages.CodeActionParams.{CodeActionParams}
use Rattle.gq_rpc.specs.declared.messages.Question.{Question}
use Rattle.gq_rpc.specs.declared.messages.Question.TheVariants as question
use Rattle.gq_rpc.specs.declared.messages.ResponseError.{ResponseError}
use Rattle.gq_rpc.specs.declared.messages.ResponseError.TheVariants as error
use Rattle.gq_rpc.specs.declared.messages.Outgoing.{Outgoing}
use Rattle.gq_events.specs.declared.documents.SessionDocument.{SessionDocument}
use Rattle.gq_events.specs.Jobs.{JobOf}
use Rattle.gq_events.specs.declared.event.Task.{Task}
use Rattle.gq_events.specs.declared.event.Task.TheVariants as task
use Rattle.gq_events.specs.declared.event.Answer.{Answer}
use Rattle.gq_events.specs.declared.event.Answer.TheVariants as answer
use Rattle.gq_events.specs.declared.event.Out.{Out}
use Rattle.gq_events.specs.declared.event.Out.TheVariants as out
use Rattle.gq_events.specs.declared.refusals.Denial.{Denial}
use Rattle.gq_events.specs.declared.refusals.Denial.TheVariants as denial
use Rattle.gq_events.specs.declared.effect.Change.{Change}
use Rattle.gq_events.specs.declared.effect.Change.TheVariants as change
use Rattle.gq_events.specs.declared.effect.Effect.{Effect}
use Rattle.gq_events.specs.declared.effect.Effect.TheVariants as effect
use Rattle.gq_replies.specs.Answers.{IsAnswer, AreDiagnosticsMessages}
use Rattle.gq_events.specs.Documents.{docs_of, document_at, is_open, is_any_lost, key_of, published}
use Rattle.gq_events.specs.Tasks.{is_of, place_of, Answers}
use Rattle.gq_events.specs.Rules.{Turn, Session, session_after, refused_as, answered, wants_document_changes, wants_code_actions, are_too_many, denied, denial_of_question, denial_of_ask, denied_by, denied_with, nothing_wrong, cleared, shown, own}
use Rattle.gq_events.specs.History.{session_at, effect_at, changed_at, docs_at, encoding_at, asked_before, pending_of}
use Rattle.gq_events.specs.Laws.{is_result, IsOwnAnswer, IsRightOutput, ResultsAreTheirQuestions}
use Rattle.gq_events.proofs.Lists.{both, weaker}
use Rattle.gq_events.proofs.Sources.{IsBroughtBy, IsGiven, of_outputs}

later : {X : Type 0} (y x : X) (xs : List X) → Contains xs x → Contains (y ∷ xs) x
later y x xs (k, within, is) = (suc k, omega arith, is)

contains_each : {X : Type 0} (xs : List X) → AllByRecursion (Contains xs) xs
contains_each [] = tt
contains_each (x ∷ xs) = ((0, omega arith, refl), weaker (Contains xs) (Contains (x ∷ xs)) (λ y h. later x y xs h) xs (contains_each xs))

-- ---- how a question may be denied

-- by no code action, where the client takes none
abbrev IsFair : Session → Option Question → Option Denial → Type 0
IsFair s asked None = Unit {0}
IsFair s asked (Some (denial.Error why)) = Unit {0}
IsFair s asked (Some denial.NoActions) = (params : CodeActionParams) × (asked ≡ Some (question.CodeAction params)) × (s.code_actions ≡ false)

cond_fair : (s : Session) (asked : Option Question) (b : Bool) (x y : Option Denial) → (b ≡ true → IsFair s asked x) → IsFair s asked y → IsFair s asked (cond b x y)
cond_fair s asked true x y h k = h refl
cond_fair s asked false x y h k = k

is_not : (b : Bool) → not b ≡ true → b ≡ false
is_not true h = absurd (cc)
is_not false h = refl

no_actions_fair : (s : Session) (q : Question) → (wants_code_actions q && not s.code_actions) ≡ true → IsFair s (Some q) (Some denial.NoActions)
no_actions_fair s (question.CodeAction params) h = (params, refl, is_not s.code_actions h)
no_actions_fair s (question.Completion params) h = absurd (cc)
no_actions_fair s (question.Definition params) h = absurd (cc)
no_actions_fair s (question.Hover params) h = absurd (cc)
no_actions_fair s (question.PrepareRename params) h = absurd (cc)
no_actions_fair s (question.References params) h = absurd (cc)
no_actions_fair s (question.Rename params) h = absurd (cc)

question_fair : (s : Session) (pending : List JobOf) (q : Question) → IsFair s (Some q) (denial_of_question s pending q)
question_fair s pending q =
    cond_fair s (Some q) (not (is_open (place_of q).key s.documents)) (Some (denial.Error error.InvalidParams)) _ (λ h. tt)
    (cond_fair s (Some q) (is_any_lost s.documents) (Some (denied (codes "document lost"))) _ (λ h. tt)
    (cond_fair s (Some q) (wants_document_changes q && not s.document_changes) (Some (denied (codes "no documentChanges"))) _ (λ h. tt)
    (cond_fair s (Some q) (wants_code_actions q && not s.code_actions) (Some denial.NoActions) _ (no_actions_fair s q)
    (cond_fair s (Some q) (are_too_many pending) (Some (denied (codes "too many pending"))) None (λ h. tt) tt))))

ask_fair : (s : Session) (pending : List JobOf) (asked : Option Question) → IsFair s asked (denial_of_ask s pending asked)
ask_fair s pending None = tt
ask_fair s pending (Some q) = question_fair s pending q

abbrev IsFairBy : Session → Effect → Option Denial → Type 0
IsFairBy s (effect.Asks id asked) denied = IsFair s asked denied
IsFairBy s effect.Nothing denied = Unit {0}
IsFairBy s (effect.LoadsBehind load) denied = Unit {0}
IsFairBy s (effect.Begins id capabilities) denied = Unit {0}
IsFairBy s (effect.Refuses id why) denied = Unit {0}
IsFairBy s (effect.Changes c) denied = Unit {0}
IsFairBy s (effect.Cancels id) denied = Unit {0}
IsFairBy s (effect.ShutsDown id) denied = Unit {0}
IsFairBy s (effect.Finishes done) denied = Unit {0}
IsFairBy s (effect.Stops status) denied = Unit {0}

denied_fair : (s : Session) (pending : List JobOf) (e : Effect) → IsFairBy s e (denied_by s pending e)
denied_fair s pending (effect.Asks id asked) = cond_fair s asked (list_any (λ job. is_of id job.task) pending) (Some (denial.Error error.InvalidRequest)) _ (λ h. tt) (ask_fair s pending asked)
denied_fair s pending effect.Nothing = tt
denied_fair s pending (effect.LoadsBehind load) = tt
denied_fair s pending (effect.Begins id capabilities) = tt
denied_fair s pending (effect.Refuses id why) = tt
denied_fair s pending (effect.Changes c) = tt
denied_fair s pending (effect.Cancels id) = tt
denied_fair s pending (effect.ShutsDown id) = tt
denied_fair s pending (effect.Finishes done) = tt
denied_fair s pending (effect.Stops status) = tt

-- ---- what is put out

module _ (events : List Turn) (j : ℕ) where
  abbrev All_right : List Out → Type 0
  All_right outs = AllByRecursion (IsRightOutput events j) outs

  no_result : (message : Outgoing) → is_result message ≡ false → IsRightOutput events j (out.Reply message)
  no_result message e = λ h. let both_are : true ≡ false = sym h ∙ e in absurd (cc)

  of_refused : (t : Task) (why : ResponseError) → All_right (refused_as t why)
  of_refused (task.Ask encoding id q) why = (no_result _ refl, tt)
  of_refused (task.Check encoding) why = tt

  abbrev IsRightNotice : Outgoing → Type 0
  IsRightNotice message = IsRightOutput events j (out.Notify message)

  of_messages : (messages : List Outgoing) → AllByRecursion IsRightNotice messages → All_right (map out.Notify messages)
  of_messages [] h = tt
  of_messages (m ∷ messages) h = (h.0, of_messages messages h.1)

  -- a check is brought by a change, and has the session's encoding
  changes_of : (session encoding : PositionEncoding) (e : Effect) → IsBroughtBy session e (task.Check encoding) → (c : Change) × (e ≡ effect.Changes c) × (encoding ≡ session)
  changes_of session encoding (effect.Changes c) h = (c, refl, same_check encoding session h)
    where
      same_check : (a b : PositionEncoding) → task.Check a ≡ task.Check b → a ≡ b
      same_check a b h = cc
  changes_of session encoding (effect.Asks id asked) (q, (is, same)) = absurd (cc)
  changes_of session encoding effect.Nothing h = absurd h
  changes_of session encoding (effect.LoadsBehind load) h = absurd h
  changes_of session encoding (effect.Begins id capabilities) h = absurd h
  changes_of session encoding (effect.Refuses id why) h = absurd h
  changes_of session encoding (effect.Cancels id) h = absurd h
  changes_of session encoding (effect.ShutsDown id) h = absurd h
  changes_of session encoding (effect.Finishes done) h = absurd h
  changes_of session encoding (effect.Stops status) h = absurd h

  of_report : (t : Task) (messages : List Outgoing) → IsGiven events j t (answer.Report messages) → (message : Outgoing) → Contains messages message → IsRightNotice message
  of_report (task.Ask encoding id q) messages given message among = ∥∥₁_map given.fits (λ e. absurd e)
  of_report (task.Check encoding) messages given message among =
      let changes = changes_of (encoding_at events given.place) encoding (effect_at events given.place) given.brought in
      ∥∥₁_map given.fits (λ are. inr (record {
        place = given.place;
        change = changes.0;
        messages = messages;
        earlier = given.earlier;
        changes = changes.1;
        are = subst (λ (e : PositionEncoding). AreDiagnosticsMessages e (docs_at events (suc given.place)) messages) changes.2 are;
        among = among;
      }))

  -- an ask leaves the documents as they are
  same_docs_after : (s : Session) (e : Effect) (document : Option SessionDocument) (id : Id) (asked : Option Question) → e ≡ effect.Asks id asked → docs_of (session_after s e document).documents ≡ docs_of s.documents
  same_docs_after s e document id asked is = ap (λ (x : Effect). docs_of (session_after s x document).documents) is

  -- a question is asked by its own event, and has the session's encoding
  asks_of : (session encoding : PositionEncoding) (e : Effect) (id : Id) (q : Question) → IsBroughtBy session e (task.Ask encoding id q) → (e ≡ effect.Asks id (Some q)) × (encoding ≡ session)
  asks_of session encoding (effect.Asks i asked) id q (r, (is, same)) = (same_ask encoding session i id r q same asked is, same_encoding encoding session i id r q same)
    where
      same_ask : (a b : PositionEncoding) (i id : Id) (r q : Question) → task.Ask a id q ≡ task.Ask b i r → (asked : Option Question) → asked ≡ Some r → effect.Asks i asked ≡ effect.Asks id (Some q)
      same_ask a b i id r q same asked is = cc

      same_encoding : (a b : PositionEncoding) (i id : Id) (r q : Question) → task.Ask a id q ≡ task.Ask b i r → a ≡ b
      same_encoding a b i id r q same = cc
  asks_of session encoding (effect.Changes c) id q h = absurd (cc)
  asks_of session encoding effect.Nothing id q h = absurd h
  asks_of session encoding (effect.LoadsBehind load) id q h = absurd h
  asks_of session encoding (effect.Begins i capabilities) id q h = absurd h
  asks_of session encoding (effect.Refuses i why) id q h = absurd h
  asks_of session encoding (effect.Cancels i) id q h = absurd h
  asks_of session encoding (effect.ShutsDown i) id q h = absurd h
  asks_of session encoding (effect.Finishes done) id q h = absurd h
  asks_of session encoding (effect.Stops status) id q h = absurd h

  of_response : (t : Task) (message : Outgoing) → IsGiven events j t (answer.Response message) → ∥ IsOwnAnswer events j message ∥₁
  of_response (task.Ask encoding id q) message given =
      let asks = asks_of (encoding_at events given.place) encoding (effect_at events given.place) id q given.brought in
      let docs = same_docs_after (session_at events given.place) (effect_at events given.place) (changed_at events given.place) id (Some q) asks.0 in
      let at : Answers (docs_at events given.place) (task.Ask encoding id q) (answer.Response message) =
      subst (λ (d : List Doc). Answers d (task.Ask encoding id q) (answer.Response message)) docs given.fits in
      ∥∥₁_map at (λ told. record {
        place = given.place;
        id = id;
        question = q;
        earlier = given.earlier;
        asks = asks.0;
        still = sym docs ∙ given.still;
        is = subst (λ (e : PositionEncoding). IsAnswer e (docs_at events given.place) id q message) asks.1 told;
      })
  of_response (task.Check encoding) message given = ∥∥₁_map given.fits (λ e. absurd e)

  of_answer : (t : Task) (a : Answer) → IsGiven events j t a → All_right (answered t a)
  of_answer t (answer.Response message) given = ((λ h. ∥∥₁_map (of_response t message given) inl), tt)
  of_answer t (answer.Report messages) given = of_messages messages (weaker (Contains messages) IsRightNotice (of_report t messages given) messages (contains_each messages))
  of_answer t answer.NoMemory given = of_refused t _
  of_answer t answer.Superseded given = tt

  of_denied : (id : Id) (asked : Option Question) (denied : Option Denial) → effect_at events j ≡ effect.Asks id asked → IsFair (session_at events j) asked denied → All_right (denied_with id denied)
  of_denied id asked None is h = tt
  of_denied id asked (Some (denial.Error why)) is h = (no_result _ refl, tt)
  of_denied id asked (Some denial.NoActions) is (params, same, none) =
      ((λ g. ∣ inr (record { id = id; params = params; asks = is ∙ ap (λ (q : Option Question). effect.Asks id q) same; takes_none = none; is = refl }) ∣₁), tt)

  of_closed : (key : List ℕ) → effect_at events j ≡ effect.Changes (change.Close key) → (document : Option SessionDocument) → document_at key (session_at events j).documents ≡ document
      → All_right (option_to_list (option_map nothing_wrong document))
  of_closed key closes None was_open = tt
  of_closed key closes (Some document) was_open = (∣ inl (record { key = key; document = document; closes = closes; was_open = was_open; is = refl }) ∣₁, tt)

  of_cleared : (b : Bool) (c : Change) → effect_at events j ≡ effect.Changes c → All_right (cond b (cleared (session_at events j).documents c) [])
  of_cleared true (change.Open item) is = tt
  of_cleared true (change.Edit params) is = tt
  of_cleared true (change.Load load) is = tt
  of_cleared true (change.Close key) is = of_closed key is (document_at key (session_at events j).documents) refl
  of_cleared false c is = tt

  of_shown : (none : Bool) (c : DocChange) → All_right (cond none [] (out.Publish c ∷ []))
  of_shown true c = tt
  of_shown false c = (tt, tt)

  of_own : (workers : ℕ) (denied : Option Denial) (e : Effect) (document : Option SessionDocument) → effect_at events j ≡ e → IsFairBy (session_at events j) e denied → All_right (own workers (session_at events j) denied e document)
  of_own workers denied (effect.Begins id capabilities) document is h = (no_result _ refl, tt)
  of_own workers denied (effect.Refuses id why) document is h = (no_result _ refl, tt)
  of_own workers denied (effect.Asks id asked) document is h = of_denied id asked denied is h
  of_own workers denied (effect.Changes c) document is h =
      both (IsRightOutput events j) (cond (session_at events j).diagnostics (cleared (session_at events j).documents c) []) (shown workers (published (key_of c) document))
      (of_cleared (session_at events j).diagnostics c is) (of_shown (workers == 0) (published (key_of c) document))
  of_own workers denied (effect.ShutsDown id) document is h = (no_result _ refl, tt)
  of_own workers denied (effect.Stops status) document is h = (tt, tt)
  of_own workers denied effect.Nothing document is h = tt
  of_own workers denied (effect.LoadsBehind load) document is h = tt
  of_own workers denied (effect.Cancels id) document is h = tt
  of_own workers denied (effect.Finishes done) document is h = tt

pub results_are_their_questions : ResultsAreTheirQuestions
results_are_their_questions workers events j fits =
    of_outputs workers events j (IsRightOutput events j) (of_own events j workers _ (effect_at events j) _ refl (denied_fair (session_at events j) (pending_of events j (asked_before workers events j)) (effect_at events j))) (λ c is t. of_refused events j t _) (λ t. of_refused events j t _) (λ t. of_refused events j t _) (of_answer events j) (λ job. tt) fits
