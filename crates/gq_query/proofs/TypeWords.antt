-- How the words of a type are put together.
use Rattle.std.proofs.Common.{append_assoc}
use Rattle.gq_tree.proofs.Trees.{types}

pub ruleset type_words = (types, append_assoc)
