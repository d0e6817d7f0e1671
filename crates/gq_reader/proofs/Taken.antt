-- Events of what was taken in.
use Rattle.std.proofs.Common.{◌≡◌, ℕ, Bool, List, [], ◌∷◌, ◌++◌, map, refl, ap, sym, ◌∙◌, subst, append_assoc}
use Rattle.gq_events.specs.declared.event.Event.{Event}
use Rattle.gq_events.specs.declared.event.LoadedContent.{LoadedContent}
use Rattle.gq_reader.specs.Inputs.{Input, Body, File, event_of, load_of, AreEventsOf, files_behind, inputs_of}

-- ---- lists of inputs

-- these were taken, and left the folder so
abbrev pub EventsTo : {F : Type 0} → (F → List ℕ → LoadedContent → F → Type 0) → F → List Input → List Event → F → Type 0
EventsTo reads files [] [] files' = files' ≡ files
EventsTo reads files [] (e ∷ events) files' = ⊥
EventsTo reads files (input ∷ inputs) [] files' = ⊥
EventsTo reads files (Body body ∷ inputs) (e ∷ events) files' = (e ≡ event_of body) × EventsTo reads files inputs events files'
EventsTo {F = F} reads files (File key ∷ inputs) (e ∷ events) files' =
    (content : LoadedContent) × (e ≡ load_of key content) × (mid : F) × reads files key content mid × EventsTo reads mid inputs events files'

module _ {F : Type 0} (reads : F → List ℕ → LoadedContent → F → Type 0) where
  pub events_are : (files : F) (inputs : List Input) (events : List Event) (files' : F) → EventsTo reads files inputs events files' → AreEventsOf reads files inputs events
  events_are files [] [] files' h = tt
  events_are files [] (e ∷ events) files' h = absurd h
  events_are files (input ∷ inputs) [] files' h = absurd h
  events_are files (Body body ∷ inputs) (e ∷ events) files' h = (h.0, events_are files inputs events files' h.1)
  events_are files (File key ∷ inputs) (e ∷ events) files' h = (h.0, h.1, h.2, h.3, events_are h.2 inputs events files' h.4)

  -- one more
  pub one_body : (files : F) (inputs : List Input) (events : List Event) (mid : F) (body : List ℕ) (e : Event) (files' : F) → EventsTo reads files inputs events mid → e ≡ event_of body → files' ≡ mid
      → EventsTo reads files (inputs ++ Body body ∷ []) (events ++ e ∷ []) files'
  one_body files [] [] mid body e files' h is same = (is, same ∙ h)
  one_body files [] (x ∷ events) mid body e files' h is same = absurd h
  one_body files (input ∷ inputs) [] mid body e files' h is same = absurd h
  one_body files (Body first ∷ inputs) (x ∷ events) mid body e files' h is same = (h.0, one_body files inputs events mid body e files' h.1 is same)
  one_body files (File key ∷ inputs) (x ∷ events) mid body e files' h is same = (h.0, h.1, h.2, h.3, one_body h.2 inputs events mid body e files' h.4 is same)

  pub one_file : (files : F) (inputs : List Input) (events : List Event) (mid : F) (key : List ℕ) (content : LoadedContent) (e : Event) (files' : F) → EventsTo reads files inputs events mid → e ≡ load_of key content
      → reads mid key content files' → EventsTo reads files (inputs ++ File key ∷ []) (events ++ e ∷ []) files'
  one_file files [] [] mid key content e files' h is read = (content, is, files', subst (λ f. reads f key content files') h read, refl)
  one_file files [] (x ∷ events) mid key content e files' h is read = absurd h
  one_file files (input ∷ inputs) [] mid key content e files' h is read = absurd h
  one_file files (Body first ∷ inputs) (x ∷ events) mid key content e files' h is read = (h.0, one_file files inputs events mid key content e files' h.1 is read)
  one_file files (File first ∷ inputs) (x ∷ events) mid key content e files' h is read = (h.0, h.1, h.2, h.3, one_file h.2 inputs events mid key content e files' h.4 is read)

-- the inputs of messages, and of more of them
pub inputs_of-append : (has : List ℕ → Bool) (bodies more : List (List ℕ)) → inputs_of has (bodies ++ more) ≡ inputs_of has bodies ++ inputs_of has more
inputs_of-append has [] more = refl
inputs_of-append has (body ∷ bodies) more =
    ap (λ (l : List Input). Body body ∷ (map File (files_behind has body) ++ l)) (inputs_of-append has bodies more)
    ∙ ap (λ (l : List Input). Body body ∷ l) (sym (append_assoc (map File (files_behind has body)) (inputs_of has bodies) (inputs_of has more)))
