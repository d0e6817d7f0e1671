-- Which messages respond to a question.
use Rattle.std.specs.Prelude.{◌≡◌, Some}
use Rattle.gq_rpc.specs.declared.messages.Id.{Id}
use Rattle.gq_rpc.specs.declared.messages.ResponseError.{ResponseError}
use Rattle.gq_rpc.specs.declared.messages.ResponseError.TheVariants as error
use Rattle.gq_rpc.specs.declared.messages.Outgoing.{Outgoing}
use Rattle.gq_rpc.specs.declared.messages.Outgoing.TheVariants as outgoing

-- a question is refused for what it is about alone (LSP 3.17, RequestFailed)
abbrev pub IsFailure : ResponseError → Type 0
IsFailure error.ParseError = ⊥
IsFailure error.InvalidRequest = ⊥
IsFailure error.MethodNotFound = ⊥
IsFailure error.InvalidParams = ⊥
IsFailure error.NotInitialized = ⊥
IsFailure error.Cancelled = ⊥
IsFailure error.ContentModified = ⊥
IsFailure (error.RequestFailed why) = Unit {0}

-- a response to the request of that id: a result, or that it failed
abbrev pub Responds : Id → Outgoing → Type 0
Responds id (outgoing.Initialized to capabilities) = ⊥
Responds id (outgoing.ShutDown to) = ⊥
Responds id (outgoing.Completions to items) = to ≡ id
Responds id (outgoing.Hover to hover) = to ≡ id
Responds id (outgoing.Locations to locations) = to ≡ id
Responds id (outgoing.Prepared to prepared) = to ≡ id
Responds id (outgoing.Renamed to edit) = to ≡ id
Responds id (outgoing.CodeActions to actions) = to ≡ id
Responds id (outgoing.Error to why) = (to ≡ Some id) × IsFailure why
Responds id (outgoing.Diagnostics params) = ⊥
