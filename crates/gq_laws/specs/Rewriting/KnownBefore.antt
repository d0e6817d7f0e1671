-- What is known of selections before they are rewritten: the types of their parents, and the fragments that they spread.
use Rattle.std.specs.Prelude.{◌≡◌, ◌⊎◌, List, [], Option, Some, None}
use Rattle.gq_text.specs.declared.place.Span.{Span}
use Rattle.gq_tree.specs.Forest.{Forest, more}
use Rattle.gq_tree.specs.Forest as forest
use Rattle.gq_tree.specs.Plain as tree
use Rattle.gq_tree.specs.Plain.{NameOf, Head, Sels}
use Rattle.gq_meaning.specs.Values.{Text}
use Rattle.gq_meaning.specs.Selected.{Set, none, field, spread, inline, set_of}
use Rattle.gq_meaning.specs.Expand.{Definition, find_definition}
use Rattle.gq_meaning.specs.Rewritten.{Static}

-- each label of a row of trees, at any depth, is so
abbrev pub Each : {L : Type 0} → (L → Type 0) → Forest L → Type 0
Each IsSo forest.none = Unit {0}
Each IsSo (forest.more label below rest) = IsSo label × Each IsSo below × Each IsSo rest

-- In a set whose parent has that type, each field with selections has a type for them.
abbrev pub IsTyped : Static → Text → Set → Type 0
IsTyped static t none = Unit {0}
IsTyped static t (field w k n a set rest) = ((set ≡ none) ⊎ ((c : Text) × (static t n ≡ Some c) × IsTyped static c set)) × IsTyped static t rest
IsTyped static t (spread w f rest) = IsTyped static t rest
IsTyped static t (inline w None set rest) = IsTyped static t set × IsTyped static t rest
IsTyped static t (inline w (Some on) set rest) = IsTyped static on set × IsTyped static t rest

-- the fragment stands before and after, with one type condition
pub record IsFound (ds ds' : List Definition) (f : Text) : Type 0 where
  pub before : Definition
  pub after : Definition
  pub is_before : find_definition ds f ≡ Some before
  pub is_after : find_definition ds' f ≡ Some after
  pub same_on : before.on ≡ after.on

-- so does the fragment of a spread
abbrev pub IsSpreadFound : List Definition → List Definition → {P : Type 0} → Head P → Type 0
IsSpreadFound ds ds' (tree.field alias name arguments directives braces place) = Unit {0}
IsSpreadFound ds ds' (tree.spread name directives place) = IsFound ds ds' name.text
IsSpreadFound ds ds' (tree.inline on directives braces place) = Unit {0}

-- all that is known of selections whose parent has that type
pub record IsKnown (static : Static) (ds ds' : List Definition) (t : Text) (sels : Sels Span) : Type 0 where
  pub typed : IsTyped static t (set_of sels)
  pub found : Each (IsSpreadFound ds ds') sels

-- the type of the parent of the selections in a selection's braces, where that is known
abbrev pub type_below : Static → Text → {P : Type 0} → Head P → Option Text
type_below static t (tree.field alias name arguments directives braces place) = static t name.text
type_below static t (tree.spread name directives place) = Some t
type_below static t (tree.inline None directives braces place) = Some t
type_below static t (tree.inline (Some on) directives braces place) = Some on.text

-- The last selections of a set, with the type of its parent: the set is this one or stands in it, at any depth.
pub data EndsSet (static : Static) : Text → Sels Span → Text → Sels Span → Type 0 where
  ends_here : {t : Text} {sels : Sels Span} → EndsSet static t sels t sels
  ends_within : {t c u : Text} {head : Head Span} {below rest last : Sels Span} → type_below static t head ≡ Some c → EndsSet static c below u last → EndsSet static t (more head below rest) u last
  ends_after : {t u : Text} {head : Head Span} {below rest last : Sels Span} → EndsSet static t rest u last → EndsSet static t (more head below rest) u last

-- a spread of a fragment before that has this type condition and selects this
pub record IsSpreadOf (ds : List Definition) (on : Text) (set : Sels Span) (f : Text) : Type 0 where
  pub definition : Definition
  pub is_found : find_definition ds f ≡ Some definition
  pub is_on : definition.on ≡ on
  pub selects : definition.set ≡ set_of set

-- an inline fragment without directives, and with no condition or the type of its parent
abbrev pub SaysNothing : Text → Head Span → Type 0
SaysNothing t (tree.field alias name arguments directives braces place) = ⊥
SaysNothing t (tree.spread name directives place) = ⊥
SaysNothing t (tree.inline None directives braces place) = (directives ≡ []) × Unit {0}
SaysNothing t (tree.inline (Some on) directives braces place) = (directives ≡ []) × (on.text ≡ t)
