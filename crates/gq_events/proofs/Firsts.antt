-- The first event that decides a job.
use Rattle.std.proofs.Common.{◌≡◌, ℕ, zero, suc, ◌<◌, nat_lt, ℤ, Bool, true, false, not, ◌&&◌, ◌||◌, ◌==◌, List, [], ◌∷◌, ap, sym, refl, ◌∙◌, subst, arith, ◌↔◌, inl, inr, Option, Some, None, bytes_eq}
use Rattle.std.proofs.lemmas.Bool.{cases_lt}
use Rattle.std.proofs.lemmas.Bool.Decides.{nat_tests}
use Rattle.std.proofs.lemmas.Slice.Eq.{bytes_eq-Decides}
use Rattle.std.specs.Bool.{beq}
use Rattle.std.specs.Cmp.{signed_Decides, booleans_Decides}
use Rattle.std.specs.Option.{option_eq}
use Rattle.std.specs.Ordering.{int_eq}
use Rattle.gq_text.specs.declared.place.Position.{Position}
use Rattle.gq_text.specs.declared.place.PositionEncoding.{PositionEncoding}
use Rattle.gq_text.specs.declared.place.PositionEncoding.TheVariants.{Utf8, Utf16}
use Rattle.gq_project.specs.declared.document.Doc.{Doc}
use Rattle.gq_rpc.specs.declared.messages.Id.{Id}
use Rattle.gq_rpc.specs.declared.messages.Id.TheVariants as ids
use Rattle.gq_rpc.specs.declared.messages.TextDocumentPositionParams.{TextDocumentPositionParams}
use Rattle.gq_rpc.specs.declared.messages.Question.{Question}
use Rattle.gq_rpc.specs.declared.messages.Question.TheVariants as question
use Rattle.gq_events.specs.declared.documents.SessionDocument.{SessionDocument}
use Rattle.gq_events.specs.declared.event.Task.{Task}
use Rattle.gq_events.specs.declared.event.Task.TheVariants as task
use Rattle.gq_events.specs.Jobs.{JobOf, DoneOf}
use Rattle.gq_events.specs.declared.effect.Effect.{Effect}
use Rattle.gq_events.specs.declared.effect.Effect.TheVariants as effect
use Rattle.gq_events.specs.Documents.{docs_of}
use Rattle.gq_events.specs.Tasks.{same_id, same_encoding, kind_of, place_of, includes_declaration, new_name_of, end_of, kinds_of, same_position, same_place, same_texts, same_kinds, same_question, same_task, same_doc, same_docs, Answers}
use Rattle.gq_events.specs.Rules.{Turn, Session, session_after, decides}
use Rattle.gq_events.specs.History.{is_between, Asked, may_decide, is_pending, is_decided_at, session_at, docs_at, effect_at, changed_at}
use Rattle.gq_events.specs.Laws.{IsFirst}

or_false : (a b : Bool) → (a || b) ≡ false → (a ≡ false) × (b ≡ false)
or_false true b h = absurd (cc)
or_false false b h = (refl, h)

and_true : (a b : Bool) → (a && b) ≡ true → (a ≡ true) × (b ≡ true)
and_true true b h = (refl, h)
and_true false b h = absurd (cc)

not_true : (a : Bool) → not a ≡ true → a ≡ false
not_true true h = absurd (cc)
not_true false h = refl

after_place : (b t : Bool) → b ≡ true → (b && t) ≡ false → t ≡ false
after_place true t e h = h
after_place false t e h = absurd (cc)

-- nothing passes between two places, place by place
pub none_at : (test : ℕ → Bool) (i j : ℕ) → is_between test i j ≡ false → (k : ℕ) → i < k → k < j → test k ≡ false
none_at test i zero h k later before = absurd (omega arith)
none_at test i (suc j) h k later before =
    let parts = or_false (is_between test i j) (nat_lt i j && test j) h in
    elim (cases_lt k j) as (λ s. test k ≡ false) [
      | inl earlier ↦ none_at test i j parts.0 k later earlier
      | inr last ↦
          let here : k ≡ j = omega arith in
          let within : nat_lt i j ≡ true = grind (arith, nat_tests) in
          subst (λ (n : ℕ). test n ≡ false) (sym here) (after_place (nat_lt i j) (test j) within parts.1)
    ]

both_false : (a b : Bool) → a ≡ false → b ≡ false → (a || b) ≡ false
both_false a b e h = rw (e, h) refl

unless : (b t : Bool) → (b ≡ true → t ≡ false) → (b && t) ≡ false
unless true t f = f refl
unless false t f = refl

pub none_then : (test : ℕ → Bool) (i j : ℕ) → ((k : ℕ) → i < k → k < j → test k ≡ false) → is_between test i j ≡ false
none_then test i zero f = refl
none_then test i (suc j) f =
    both_false _ _ (none_then test i j (λ k h b. f k h (omega arith)))
    (unless (nat_lt i j) (test j) (λ e. let later : i < j = grind (arith, nat_tests) in f j later (omega arith)))

both_true : (a b : Bool) → a ≡ true → b ≡ true → (a && b) ≡ true
both_true a b e h = rw (e, h) refl

pub decided_at_first : (events : List Turn) (asked : Asked) (j : ℕ) → asked.place < j → (is_decided_at events j asked ≡ true) ↔ IsFirst events asked j
decided_at_first events asked j later = (
  λ h.
      let parts = and_true (is_pending events j asked) (may_decide events asked j) h in
      record { later = later; decides = parts.1; none_before = none_at (may_decide events asked) asked.place j (not_true _ parts.0) },
  λ first. both_true (is_pending events j asked) (may_decide events asked j) (ap not (none_then (may_decide events asked) asked.place j first.none_before)) first.decides,
)

-- an event that decides nothing leaves the documents as they are
unchanged_by : (s : Session) (e : Effect) (document : Option SessionDocument) (job : JobOf) → decides (docs_of s.documents) e job ≡ false → docs_of (session_after s e document).documents ≡ docs_of s.documents
unchanged_by s effect.Nothing document job h = refl
unchanged_by s (effect.LoadsBehind load) document job h = refl
unchanged_by s (effect.Begins id d) document job h = refl
unchanged_by s (effect.Refuses id w) document job h = refl
unchanged_by s (effect.Asks id look) document job h = refl
unchanged_by s (effect.Changes c) document job h = absurd (cc)
unchanged_by s (effect.Cancels id) document job h = refl
unchanged_by s (effect.ShutsDown id) document job h = refl
unchanged_by s (effect.Finishes done) document job h = refl
unchanged_by s (effect.Stops status) document job h = refl

-- while a question is pending, the documents are those after its own event
pub documents_stay : (events : List Turn) (asked : Asked) (j : ℕ) → asked.place < j → ((k : ℕ) → asked.place < k → k < j → may_decide events asked k ≡ false) → docs_at events j ≡ docs_at events (suc asked.place)
documents_stay events asked zero later none = absurd (omega arith)
documents_stay events asked (suc j) later none =
    elim (cases_lt asked.place j) as (λ s. docs_at events (suc j) ≡ docs_at events (suc asked.place)) [
      | inl earlier ↦ unchanged_by (session_at events j) (effect_at events j) (changed_at events j) asked.job (none j earlier (omega arith)) ∙ documents_stay events asked j earlier (λ k a b. none k a (omega arith))
      | inr last ↦ let here : j ≡ asked.place = omega arith in ap (λ (n : ℕ). docs_at events (suc n)) here
    ]

-- tests that say that things are equal
numbers_same : (a b : ℕ) → (a == b) ≡ true → a ≡ b
numbers_same a b h = grind (arith, nat_tests)

integers_same : (a b : ℤ) → int_eq a b ≡ true → a ≡ b
integers_same a b h = (signed_Decides a b).0 h

versions_same : (a b : Option ℤ) → option_eq int_eq a b ≡ true → a ≡ b
versions_same None None h = refl
versions_same None (Some b) h = absurd (cc)
versions_same (Some a) None h = absurd (cc)
versions_same (Some a) (Some b) h = ap Some (integers_same a b h)

texts_same : (a b : List ℕ) → bytes_eq a b ≡ true → a ≡ b
texts_same a b h = (bytes_eq-Decides a b).0 h

flags_same : (a b : Bool) → beq a b ≡ true → a ≡ b
flags_same a b h = (booleans_Decides a b).0 h

pub id_same : (a b : Id) → same_id a b ≡ true → a ≡ b
id_same (ids.Number a) (ids.Number b) h = ap ids.Number (integers_same a b h)
id_same (ids.Text a) (ids.Text b) h = ap ids.Text (texts_same a b h)
id_same (ids.Number a) (ids.Text b) h = absurd (cc)
id_same (ids.Text a) (ids.Number b) h = absurd (cc)

abbrev doc : List ℕ → List ℕ → Option ℤ → List ℕ → Doc
doc key uri version text = record { key = key; uri = uri; version = version; text = text }

same_fields : {k k' u u' t t' : List ℕ} {v v' : Option ℤ} → k ≡ k' → u ≡ u' → v ≡ v' → t ≡ t' → doc k u v t ≡ doc k' u' v' t'
same_fields e f g h = cc

doc_same : (a b : Doc) → same_doc a b ≡ true → a ≡ b
doc_same a b h =
    let first = and_true (bytes_eq a.key b.key) (bytes_eq a.uri b.uri && (option_eq int_eq a.version b.version && bytes_eq a.text b.text)) h in
    let second = and_true (bytes_eq a.uri b.uri) (option_eq int_eq a.version b.version && bytes_eq a.text b.text) first.1 in
    let third = and_true (option_eq int_eq a.version b.version) (bytes_eq a.text b.text) second.1 in
    same_fields (texts_same a.key b.key first.0) (texts_same a.uri b.uri second.0) (versions_same a.version b.version third.0) (texts_same a.text b.text third.1)

pub docs_same : (as_ bs : List Doc) → same_docs as_ bs ≡ true → as_ ≡ bs
docs_same [] [] h = refl
docs_same [] (b ∷ bs) h = absurd (cc)
docs_same (a ∷ as_) [] h = absurd (cc)
docs_same (a ∷ as_) (b ∷ bs) h = let parts = and_true (same_doc a b) (same_docs as_ bs) h in let e = doc_same a b parts.0 in let f = docs_same as_ bs parts.1 in cc

abbrev position : ℕ → ℕ → Position
position line character = record { line = line; character = character }

same_coordinates : {l l' c c' : ℕ} → l ≡ l' → c ≡ c' → position l c ≡ position l' c'
same_coordinates e f = cc

position_same : (a b : Position) → same_position a b ≡ true → a ≡ b
position_same a b h =
    let parts = and_true (a.line == b.line) (a.character == b.character) h in
    same_coordinates (numbers_same a.line b.line parts.0) (numbers_same a.character b.character parts.1)

abbrev place : List ℕ → Position → TextDocumentPositionParams
place key position = record { key = key; position = position }

same_params : {k k' : List ℕ} {p p' : Position} → k ≡ k' → p ≡ p' → place k p ≡ place k' p'
same_params e f = cc

place_same : (a b : TextDocumentPositionParams) → same_place a b ≡ true → a ≡ b
place_same a b h =
    let parts = and_true (bytes_eq a.key b.key) (same_position a.position b.position) h in
    same_params (texts_same a.key b.key parts.0) (position_same a.position b.position parts.1)

same_all : {a b : List ℕ} {as_ bs : List (List ℕ)} → a ≡ b → as_ ≡ bs → a ∷ as_ ≡ b ∷ bs
same_all e f = cc

all_same : (as_ bs : List (List ℕ)) → same_texts as_ bs ≡ true → as_ ≡ bs
all_same [] [] h = refl
all_same [] (b ∷ bs) h = absurd (cc)
all_same (a ∷ as_) [] h = absurd (cc)
all_same (a ∷ as_) (b ∷ bs) h = let parts = and_true (bytes_eq a b) (same_texts as_ bs) h in same_all (texts_same a b parts.0) (all_same as_ bs parts.1)

kinds_same : (a b : Option (List (List ℕ))) → same_kinds a b ≡ true → a ≡ b
kinds_same None None h = refl
kinds_same (Some a) (Some b) h = ap (λ (kinds : List (List ℕ)). Some kinds) (all_same a b h)
kinds_same None (Some b) h = absurd (cc)
kinds_same (Some a) None h = absurd (cc)

-- a question out of its parts
abbrev question_of : ℕ → TextDocumentPositionParams → Bool → List ℕ → Position → Option (List (List ℕ)) → Question
question_of zero at includes name end kinds = question.Completion at
question_of (suc zero) at includes name end kinds = question.Definition at
question_of (suc (suc zero)) at includes name end kinds = question.Hover at
question_of (suc (suc (suc zero))) at includes name end kinds = question.PrepareRename at
question_of (suc (suc (suc (suc zero)))) at includes name end kinds = question.References (record { key = at.key; position = at.position; include_declaration = includes })
question_of (suc (suc (suc (suc (suc zero))))) at includes name end kinds = question.Rename (record { key = at.key; position = at.position; new_name = name })
question_of (suc (suc (suc (suc (suc (suc more)))))) at includes name end kinds = question.CodeAction (record { key = at.key; range = record { start = at.position; end = end }; only = kinds })

of_parts : (q : Question) → question_of (kind_of q) (place_of q) (includes_declaration q) (new_name_of q) (end_of q) (kinds_of q) ≡ q
of_parts (question.Completion params) = refl
of_parts (question.Definition params) = refl
of_parts (question.Hover params) = refl
of_parts (question.PrepareRename params) = refl
of_parts (question.References params) = refl
of_parts (question.Rename params) = refl
of_parts (question.CodeAction params) = refl

same_parts : {k k' : ℕ} {p p' : TextDocumentPositionParams} {f f' : Bool} {n n' : List ℕ} {e e' : Position} {o o' : Option (List (List ℕ))}
    → k ≡ k' → p ≡ p' → f ≡ f' → n ≡ n' → e ≡ e' → o ≡ o' → question_of k p f n e o ≡ question_of k' p' f' n' e' o'
same_parts a b c d e f = cc

pub question_same : (a b : Question) → same_question a b ≡ true → a ≡ b
question_same a b h =
    let first = and_true (kind_of a == kind_of b) _ h in
    let second = and_true (same_place (place_of a) (place_of b)) _ first.1 in
    let third = and_true (beq (includes_declaration a) (includes_declaration b)) _ second.1 in
    let fourth = and_true (bytes_eq (new_name_of a) (new_name_of b)) _ third.1 in
    let fifth = and_true (same_position (end_of a) (end_of b)) _ fourth.1 in
    sym (of_parts a)
    ∙ (same_parts (numbers_same (kind_of a) (kind_of b) first.0) (place_same (place_of a) (place_of b) second.0)
    (flags_same (includes_declaration a) (includes_declaration b) third.0) (texts_same (new_name_of a) (new_name_of b) fourth.0)
    (position_same (end_of a) (end_of b) fifth.0) (kinds_same (kinds_of a) (kinds_of b) fifth.1)
    ∙ of_parts b)

encoding_same : (a b : PositionEncoding) → same_encoding a b ≡ true → a ≡ b
encoding_same Utf8 Utf8 h = refl
encoding_same Utf16 Utf16 h = refl
encoding_same Utf8 Utf16 h = absurd (cc)
encoding_same Utf16 Utf8 h = absurd (cc)

abbrev ask : PositionEncoding → Id → Question → Task
ask e i q = task.Ask e i q

same_ask : {e f : PositionEncoding} {i j : Id} {q r : Question} → e ≡ f → i ≡ j → q ≡ r → ask e i q ≡ ask f j r
same_ask h k l = cc

pub task_same : (a b : Task) → same_task a b ≡ true → a ≡ b
task_same (task.Ask e i a) (task.Ask f j b) h =
    let first = and_true (same_encoding e f) (same_id i j && same_question a b) h in
    let second = and_true (same_id i j) (same_question a b) first.1 in
    same_ask (encoding_same e f first.0) (id_same i j second.0) (question_same a b second.1)
task_same (task.Check e) (task.Check f) h = ap (λ (encoding : PositionEncoding). task.Check encoding) (encoding_same e f h)
task_same (task.Ask e i a) (task.Check f) h = absurd (cc)
task_same (task.Check e) (task.Ask f j b) h = absurd (cc)

pub answers_are_defined : (events : List Turn) (asked : Asked) (j : ℕ) (done : DoneOf) → IsFirst events asked j → effect_at events j ≡ effect.Finishes done → Answers (docs_at events (suc asked.place)) asked.job.task done.answer
answers_are_defined events asked j done first is =
    let decided : decides (docs_at events j) (effect.Finishes done) asked.job ≡ true = subst (λ (e : Effect). decides (docs_at events j) e asked.job ≡ true) is first.decides in
    let parts = and_true (done.job == asked.job.number) _ decided in
    let more = and_true (same_task done.task asked.job.task) _ parts.1 in
    let docs = docs_same done.texts (docs_at events j) more.1 ∙ documents_stay events asked j first.later first.none_before in
    subst (λ (q : Task). Answers (docs_at events (suc asked.place)) q done.answer) (task_same done.task asked.job.task more.0)
    (subst (λ (d : List Doc). Answers d done.task done.answer) docs done.fits)

one_place : (a b : ℕ) → (a < b → ⊥) → (b < a → ⊥) → a ≡ b
one_place a b h k = elim (cases_lt a b) as (λ s. a ≡ b) [
  | inl less ↦ absurd (h less)
  | inr more ↦ elim (cases_lt b a) as (λ s. a ≡ b) [ inl less ↦ absurd (k less) | inr same ↦ omega arith ]
]

both_ways : (b : Bool) → b ≡ true → b ≡ false → ⊥
both_ways true e f = cc
both_ways false e f = cc

pub decided_once : (events : List Turn) (asked : Asked) (j k : ℕ) → IsFirst events asked j → IsFirst events asked k → j ≡ k
decided_once events asked j k first other =
    one_place j k (λ less. both_ways (may_decide events asked j) first.decides (other.none_before j first.later less))
    (λ less. both_ways (may_decide events asked k) other.decides (first.none_before k other.later less))
