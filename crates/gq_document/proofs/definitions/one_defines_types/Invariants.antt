-- none so far
use Rattle.std.proofs.Common.{◌≡◌, ℕ, [], take, flat_map, map}
use Rattle.gq_tree.specs.Views.{def_view}
use Rattle.gq_document.specs.Definitions.{entry_in}
use Rattle.gq_document.proofs.definitions.one_defines_types.Given as goal

abbrev pub invariant-loop-definition : goal.invariant-loop-definition
invariant-loop-definition l = (file : ℕ) → flat_map (entry_in file) (map def_view (take l.definition-index l.definitions)) ≡ []
