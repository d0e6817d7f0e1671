-- What a response is (sections 6.4 and 7.1).
use Rattle.gq_tree.specs.Forest.{Forest}
use Rattle.gq_meaning.specs.Values.{Leaf}
use Rattle.gq_meaning.specs.Results.{Step}

-- what the data of a response says at one path
pub data Shown : Type 0 where
  null : Shown
  leaf : Leaf → Shown
  list : Shown
  object : Shown

-- it stands under a step
pub record Entry : Type 0 where
  pub step : Step
  pub shown : Shown

-- the entries of an object or the items of a list, in order
abbrev pub Entries : Type 0
Entries = Forest Entry

-- the data of a response
pub record Data : Type 0 where
  pub shown : Shown
  pub below : Entries
