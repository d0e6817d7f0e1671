-- What resolvers answer (sections 6.4.2 and 6.4.3), and paths of a response.
use Rattle.std.specs.Prelude.{ℕ, List}
use Rattle.gq_tree.specs.Forest.{Forest, Tree}
use Rattle.gq_meaning.specs.Values.{Text, Leaf, Values}

-- what a result says, the results in a list left out; objects of a type are numbered
pub data Result : Type 0 where
  nothing : Result
  failed : Result
  leaf : Leaf → Result
  object : (type_name : Text) → (number : ℕ) → Result
  list : Result

-- a result with those in it, and results in a row
abbrev pub Answer : Type 0
Answer = Tree Result

abbrev pub Answers : Type 0
Answers = Forest Result

-- a step of a path: a response key, or a place in a list from 0
pub data Step : Type 0 where
  key : Text → Step
  index : ℕ → Step

abbrev pub Path : Type 0
Path = List Step

-- a call of a resolver
pub record Call : Type 0 where
  pub type_name : Text
  pub number : ℕ
  pub field : Text
  pub arguments : Values
