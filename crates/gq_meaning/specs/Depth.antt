-- How deep results nest. Execution ends by it, and no response is defined by it.
use Rattle.std.specs.Prelude.{ℕ, suc, max}
use Rattle.gq_tree.specs.Forest.{none, more}
use Rattle.gq_meaning.specs.Results.{Answers}

-- how deep the results below a result nest
abbrev pub depth : Answers → ℕ
depth none = 0
depth (more l below rest) = max (suc (depth below)) (depth rest)
