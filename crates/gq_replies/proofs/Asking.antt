-- What is found for a question is what its response tells, under the names that the code has for the key, the text and the
-- offset.
use Rattle.std.proofs.Common.{◌≡◌, ℕ, List, map, subst, ap, ◌∙◌}
use Rattle.std.specs.Prelude.{Option, option_map}
use Rattle.gq_text.specs.declared.place.PositionEncoding.{PositionEncoding}
use Rattle.gq_text.specs.declared.place.Span.{Span}
use Rattle.gq_project.specs.declared.document.Doc.{Doc}
use Rattle.gq_index.specs.declared.occurrence.Occurrence.{Occurrence}
use Rattle.gq_query.specs.declared.told.Hover as query
use Rattle.gq_query.specs.Hovers.{IsHover}
use Rattle.gq_query.specs.Definitions.{AreDefinitions}
use Rattle.gq_query.specs.References.{AreReferences}
use Rattle.gq_completion.specs.declared.completion.Completion.{Completion}
use Rattle.gq_completion.specs.Completions.{AreCompletions}
use Rattle.gq_rename.specs.Prepare.{IsPrepared}
use Rattle.gq_rpc.specs.declared.messages.Id.{Id}
use Rattle.gq_rpc.specs.declared.messages.Hover.{Hover}
use Rattle.gq_rpc.specs.declared.messages.Location.{Location}
use Rattle.gq_rpc.specs.declared.messages.CompletionItem.{CompletionItem}
use Rattle.gq_rpc.specs.declared.messages.PrepareRename.{PrepareRename}
use Rattle.gq_rpc.specs.declared.messages.TextDocumentPositionParams.{TextDocumentPositionParams}
use Rattle.gq_rpc.specs.declared.messages.ReferenceParams.{ReferenceParams}
use Rattle.gq_rpc.specs.declared.messages.Outgoing.TheVariants as outgoing
use Rattle.gq_replies.specs.Locations.{locations_of}
use Rattle.gq_replies.specs.Answers.{text_at, offset_at, hover_in, item_of, prepared_in, TellsHover, TellsDefinitions, TellsReferences, TellsCompletions, TellsPrepared}

-- what holds of the key and the offset that the code has, holds of those that are asked for
asked : (Holds : List ℕ → ℕ → Type 0) (key key' : List ℕ) (offset offset' : ℕ) → key ≡ key' → offset ≡ offset' → Holds key offset → Holds key' offset'
asked Holds key key' offset offset' k o h = subst (λ (i : ℕ). Holds key' i) o (subst (λ (x : List ℕ). Holds x offset) k h)

module _ (encoding : PositionEncoding) (documents : List Doc) (key : List ℕ) (offset : ℕ) (params : TextDocumentPositionParams) (same_key : key ≡ params.key) (same_offset : offset ≡ offset_at encoding documents key params.position) where
  at_offset : offset ≡ offset_at encoding documents params.key params.position
  at_offset = same_offset ∙ ap (λ (k : List ℕ). offset_at encoding documents k params.position) same_key

  at_text : (text : List ℕ) → text ≡ text_at documents key → text ≡ text_at documents params.key
  at_text text same_text = same_text ∙ ap (text_at documents) same_key

  pub tells_hover : (text : List ℕ) → text ≡ text_at documents key → (id : Id) (found : Option query.Hover) (shown : Option Hover) → IsHover documents key offset found → shown ≡ option_map (hover_in encoding text) found
      → TellsHover encoding documents id params (outgoing.Hover id shown)
  tells_hover text same_text id found shown h is = record {
    found = found;
    is_found = asked (λ (k : List ℕ) (i : ℕ). IsHover documents k i found) key params.key offset _ same_key at_offset h;
    is = ap (outgoing.Hover id) (is ∙ ap (λ (t : List ℕ). option_map (hover_in encoding t) found) (at_text text same_text));
  }

  pub tells_definitions : (id : Id) (found : List Occurrence) (located : List Location) → AreDefinitions documents key offset found → located ≡ locations_of encoding documents found
      → TellsDefinitions encoding documents id params (outgoing.Locations id located)
  tells_definitions id found located h is = record {
    found = found;
    are_found = asked (λ (k : List ℕ) (i : ℕ). AreDefinitions documents k i found) key params.key offset _ same_key at_offset h;
    is = ap (outgoing.Locations id) is;
  }

  pub tells_completions : (id : Id) (found : List Completion) (items : List CompletionItem) → AreCompletions documents key offset found → items ≡ map item_of found → TellsCompletions encoding documents id params (outgoing.Completions id items)
  tells_completions id found items h is = record {
    found = found;
    are_found = asked (λ (k : List ℕ) (i : ℕ). AreCompletions documents k i found) key params.key offset _ same_key at_offset h;
    is = ap (outgoing.Completions id) is;
  }

  pub tells_prepared : (text : List ℕ) → text ≡ text_at documents key → (id : Id) (found : Option Span) (prepared : Option PrepareRename) → IsPrepared documents key offset found → prepared ≡ option_map (prepared_in encoding text) found
      → TellsPrepared encoding documents id params (outgoing.Prepared id prepared)
  tells_prepared text same_text id found prepared h is = record {
    found = found;
    is_found = asked (λ (k : List ℕ) (i : ℕ). IsPrepared documents k i found) key params.key offset _ same_key at_offset h;
    is = ap (outgoing.Prepared id) (is ∙ ap (λ (t : List ℕ). option_map (prepared_in encoding t) found) (at_text text same_text));
  }

pub tells_references : (encoding : PositionEncoding) (documents : List Doc) (key : List ℕ) (offset : ℕ) (params : ReferenceParams) → key ≡ params.key → offset ≡ offset_at encoding documents key params.position
    → (id : Id) (found : List Occurrence) (located : List Location) → AreReferences documents key offset params.include_declaration found → located ≡ locations_of encoding documents found
    → TellsReferences encoding documents id params (outgoing.Locations id located)
tells_references encoding documents key offset params same_key same_offset id found located h is =
    let at_offset : offset ≡ offset_at encoding documents params.key params.position = same_offset ∙ ap (λ (k : List ℕ). offset_at encoding documents k params.position) same_key in
    record {
      found = found;
      are_found = asked (λ (k : List ℕ) (i : ℕ). AreReferences documents k i params.include_declaration found) key params.key offset _ same_key at_offset h;
      is = ap (outgoing.Locations id) is;
    }
