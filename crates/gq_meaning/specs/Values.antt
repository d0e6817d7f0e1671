-- Values as execution sees them (sections 6.1.2, 6.4.1 and 6.4.3): of variables and arguments, and results of leaf types.
use Rattle.std.specs.Prelude.{ℕ, Bool, true, false, List, Option}
use Rattle.gq_tree.specs.Forest.{Forest, Tree}

-- the bytes of a text
abbrev pub Text : Type 0
Text = List ℕ

-- a value with no parts; a number is its spelling
pub data Leaf : Type 0 where
  boolean : Bool → Leaf
  number : Text → Leaf
  text : Text → Leaf

-- what a value says, the values in it left out
pub data Says : Type 0 where
  null : Says
  leaf : Leaf → Says
  enum : Text → Says
  list : Says
  object : Says

abbrev pub is_null : Says → Bool
is_null null = true
is_null _ = false

-- a value by itself or in a list, or under a name
pub record Part : Type 0 where
  pub key : Option Text
  pub says : Says

-- A value, and values in a row. The entries of an object stand in the order of their names, each name once.
abbrev pub Value : Type 0
Value = Tree Part

abbrev pub Values : Type 0
Values = Forest Part
