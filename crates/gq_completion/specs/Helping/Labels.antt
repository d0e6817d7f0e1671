-- Names as completions, computed.
use Rattle.std.specs.Prelude.{ℕ, List}
use Rattle.gq_completion.specs.declared.completion.Completion.{Completion}
use Rattle.gq_completion.specs.declared.completion.CompletionKind.{CompletionKind}

abbrev pub labelled : CompletionKind → List ℕ → Completion
labelled kind name = record { kind = kind; label = name }
