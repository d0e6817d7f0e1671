-- Each edit that is answered is safe.
use Rattle.std.proofs.Common.{ℕ, List, [], ◌∷◌, inl, inr, refl, sym, subst}
use Rattle.std.specs.Prelude.{◌⊎◌}
use Rattle.std.specs.List.{AllByRecursion}
use mathlib.Core.Logic.{∥∥₁_map}
use Rattle.gq_edit.specs.declared.workspace.WorkspaceEdit.{WorkspaceEdit}
use Rattle.gq_rpc.specs.declared.messages.Outgoing.{Outgoing}
use Rattle.gq_rpc.specs.declared.messages.Outgoing.TheVariants as outgoing
use Rattle.gq_replies.specs.Offers.{edits_in, IsSafe, AnsweredEditsAreSafe}
use Rattle.gq_events.specs.declared.event.Out.{Out}
use Rattle.gq_events.specs.declared.event.Out.TheVariants as out
use Rattle.gq_events.specs.Rules.{Turn}
use Rattle.gq_events.specs.History.{docs_at, encoding_at, outputs_at}
use Rattle.gq_events.specs.Laws.{IsOwnAnswer, IsNoActions, IsRightOutput}
use Rattle.gq_events.specs.Headline.{IsOwnEdit, IsSafeOutput, EditsAreSafe}
use Rattle.gq_events.proofs.Lists.{weaker}
use Rattle.gq_events.proofs.Results.{results_are_their_questions}

-- what holds of each of a list, truncated
each : {X : Type 0} (P : X → Type 0) (xs : List X) → ∥ AllByRecursion P xs ∥₁ → AllByRecursion (λ x. ∥ P x ∥₁) xs
each P [] h = tt
each P (x ∷ xs) h = (∥∥₁_map h (λ p. p.0), each P xs (∥∥₁_map h (λ p. p.1)))

module _ (law : AnsweredEditsAreSafe) (events : List Turn) (j : ℕ) where
  abbrev Own : Outgoing → List WorkspaceEdit → Type 0
  Own message edits = AllByRecursion (IsOwnEdit events j message) edits

  of_own : (message : Outgoing) → IsOwnAnswer events j message → Own message (edits_in message)
  of_own message own =
      weaker (IsSafe (encoding_at events own.place) (docs_at events own.place) own.question) (IsOwnEdit events j message)
      (λ edit safe. record { place = own.place; id = own.id; question = own.question; earlier = own.earlier; asks = own.asks; still = own.still; answers = own.is; safe = safe }) (edits_in message)
      (law (encoding_at events own.place) (docs_at events own.place) own.id own.question message own.is)

  -- no action carries no edit
  of_none : (message : Outgoing) → IsNoActions events j message → Own message (edits_in message)
  of_none message none = subst (λ (m : Outgoing). Own message (edits_in m)) (sym none.is) tt

  of_either : (message : Outgoing) → IsOwnAnswer events j message ⊎ IsNoActions events j message → Own message (edits_in message)
  of_either message (inl own) = of_own message own
  of_either message (inr none) = of_none message none

  of_result : (message : Outgoing) → ∥ IsOwnAnswer events j message ⊎ IsNoActions events j message ∥₁ → IsSafeOutput events j (out.Reply message)
  of_result message h = each (IsOwnEdit events j message) (edits_in message) (∥∥₁_map h (of_either message))

  -- a message that is no result carries no edit
  of_reply : (message : Outgoing) → IsRightOutput events j (out.Reply message) → IsSafeOutput events j (out.Reply message)
  of_reply (outgoing.Renamed id edit) h = of_result _ (h refl)
  of_reply (outgoing.CodeActions id actions) h = of_result _ (h refl)
  of_reply (outgoing.Initialized id capabilities) h = tt
  of_reply (outgoing.ShutDown id) h = tt
  of_reply (outgoing.Completions id items) h = tt
  of_reply (outgoing.Hover id hover) h = tt
  of_reply (outgoing.Locations id locations) h = tt
  of_reply (outgoing.Prepared id prepared) h = tt
  of_reply (outgoing.Error id why) h = tt
  of_reply (outgoing.Diagnostics params) h = tt

  of_output : (o : Out) → IsRightOutput events j o → IsSafeOutput events j o
  of_output (out.Reply message) h = of_reply message h
  of_output (out.Notify message) h = tt
  of_output (out.Publish change) h = tt
  of_output (out.Job job) h = tt
  of_output (out.Stop status) h = tt

pub edits_are_safe : AnsweredEditsAreSafe → EditsAreSafe
edits_are_safe law workers events j fits =
    weaker (IsRightOutput events j) (IsSafeOutput events j) (of_output law events j) (outputs_at workers events j) (results_are_their_questions workers events j fits)
