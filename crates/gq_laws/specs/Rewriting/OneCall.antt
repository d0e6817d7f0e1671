-- The fields of one response key of an object are one call (sections 5.3.2 and 6.3.2).
use Rattle.std.specs.Prelude.{◌≡◌, List}
use Rattle.gq_text.specs.declared.place.Span.{Span}
use Rattle.gq_tree.specs.Plain.{Val, erase_values}
use Rattle.gq_merging.specs.SameArguments.{SameArguments}
use Rattle.gq_meaning.specs.Selected.{Arguments}
use Rattle.gq_meaning.specs.Expand.{Asked}
use Rattle.gq_meaning.specs.Thin.{IsIn}
use Rattle.gq_laws.specs.Rewriting.Reached.{AtReachedPlaces}

-- The arguments are identical, whatever their places in documents are.
pub record AreIdenticalArguments (a b : Arguments) : Type 0 where
  pub left : List (Val Span)
  pub right : List (Val Span)
  pub is_left : a ≡ erase_values left
  pub is_right : b ≡ erase_values right
  pub same : SameArguments left right

-- one name, and identical arguments
pub record IsOneCall (a b : Asked) : Type 0 where
  pub one_name : a.name ≡ b.name
  pub one_row : AreIdenticalArguments a.arguments b.arguments

-- So it is for any two fields that ask for what stands at a path: these are the fields of one key of an object. That the first of them
-- decides is no choice, then.
abbrev pub FieldsAreOneCall : Type 0
FieldsAreOneCall = AtReachedPlaces (λ x g q. (a b : Asked) → IsIn a q.fields → IsIn b q.fields → IsOneCall a b)
