-- What code actions are called (LSP 3.17, CodeActionKind, and the title of a CodeAction).
use Rattle.std.specs.Prelude.{ℕ, List, codes}
use Rattle.gq_rpc.specs.declared.messages.CodeActionKind.{CodeActionKind}
use Rattle.gq_rpc.specs.declared.messages.CodeActionKind.TheVariants as action

-- the name of a kind in messages
abbrev pub action_name : CodeActionKind → List ℕ
action_name action.Extract = codes "refactor.extract"
action_name action.Inline = codes "refactor.inline"
action_name action.Rewrite = codes "refactor.rewrite"

-- the title of an action of a kind
abbrev pub action_title : CodeActionKind → List ℕ
action_title action.Extract = codes "Extract fragment"
action_title action.Inline = codes "Inline fragment"
action_title action.Rewrite = codes "Remove redundant inline fragment"
