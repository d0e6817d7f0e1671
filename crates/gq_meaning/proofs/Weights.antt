-- A number that goes down with each step of the recursion over places: the height of the group first, then the depth of the result.
use Rattle.std.proofs.Common.{ℕ, suc, ◌+◌, ◌*◌, ◌<◌, ◌≤◌, List, ◌∷◌, arith, mul-le-mul_right}
use Rattle.gq_tree.specs.Forest.{row}
use Rattle.gq_meaning.specs.Results.{Answer}
use Rattle.gq_meaning.specs.Depth.{depth}

-- deepest: no result of the table nests deeper
abbrev pub weight : (deepest height depth : ℕ) → ℕ
weight deepest height d = height * (deepest + 2) + d

pub lighter_group : (deepest h h' : ℕ) → h < h' → weight deepest h deepest + 2 ≤ weight deepest h' 0
lighter_group deepest h h' l = let a = mul-le-mul_right {m = suc h} {n = h'} (deepest + 2) (omega arith) in omega arith

pub no_heavier : (deepest h h' : ℕ) → h ≤ h' → weight deepest h 0 ≤ weight deepest h' 0
no_heavier deepest h h' l = let a = mul-le-mul_right {m = h} {n = h'} (deepest + 2) l in omega arith

pub depth_item : (ts : List Answer) (t : Answer) (rest : List Answer) → depth t.below < depth (row (t ∷ rest))
depth_item ts t rest = omega arith
