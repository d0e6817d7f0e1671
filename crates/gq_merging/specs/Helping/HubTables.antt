-- Spreads of names that several fragments have, which lead to a hub: a set in which such a spread stands alone. Computed.
use Rattle.std.specs.Prelude.{◌≡◌, ◌≢◌, ◌⊎◌, ℕ, ◌+◌, ◌≤◌, ◌<◌, List, [], ◌∷◌, ◌++◌, Option, Some, None, All, Contains, slice_get, slice_index_or}
use Rattle.gq_text.specs.declared.place.Span.{Span}
use Rattle.gq_tree.specs.Forest.{none, more}
use Rattle.gq_tree.specs.Plain.{NameOf, DirectiveOf, Head, field, spread, inline, Sel, Sels}
use Rattle.gq_spreads.specs.Spreads.{places_from}
use Rattle.gq_types.specs.Entries.{Text, EntryOf}
use Rattle.gq_document.specs.FieldSets.{SetOf}
use Rattle.gq_merging.specs.Helping.SetTables.{RowOf, AreNumbered, own_fields, spreads_at, weights}

-- a spread's name, and the selections in which it stands alone
pub record SpreadOf : Type 0 where
  pub text : Text
  pub alone : Sels Span

-- the spreads in selections, those in inline fragments among them
abbrev pub spreads_in : Sels Span → List SpreadOf
spreads_in none = []
spreads_in (more (field alias name arguments directives braces place) below rest) = spreads_in rest
spreads_in (more (spread name directives place) below rest) = record { text = name.text; alone = more (spread name directives place) below none } ∷ spreads_in rest
spreads_in (more (inline on directives braces place) below rest) = spreads_in below ++ spreads_in rest

abbrev pub spreads_of : Head Span → Sels Span → List SpreadOf
spreads_of (field alias name arguments directives braces place) below = []
spreads_of (spread name directives place) below = record { text = name.text; alone = more (spread name directives place) below none } ∷ []
spreads_of (inline on directives braces place) below = spreads_in below

abbrev pub spreads_of_one : Sel Span → List SpreadOf
spreads_of_one s = spreads_of s.label s.below

-- in the selections stands a spread of that name, and nothing else
pub record IsAlone (text : Text) (ss : Sels Span) : Type 0 where
  pub name : NameOf Span
  pub directives : List (DirectiveOf Span)
  pub place : Span
  pub below : Sels Span
  pub is : ss ≡ more (spread name directives place) below none
  pub named : name.text ≡ text

-- the number of the hub of a name, if there is one: it is noted at the number of the first fragment of that name
abbrev pub noted_at : List (Option ℕ) → List ℕ → Option ℕ
noted_at hubs [] = None
noted_at hubs (first ∷ rest) = slice_index_or hubs first None

abbrev pub hub_at : List Text → List (Option ℕ) → Text → Option ℕ
hub_at names hubs text = noted_at hubs (places_from 0 text names)

-- the hubs are sets in which a spread of their name stands alone
abbrev pub AreHubs : List Text → List SetOf → List (Option ℕ) → Type 0
AreHubs names sets hubs = (text : Text) (hub : ℕ) → hub_at names hubs text ≡ Some hub → (s : SetOf) × (slice_get sets hub ≡ Some s) × IsAlone text s.selections

-- how many more hubs there can be
abbrev pub unset : List (Option ℕ) → ℕ
unset [] = 0
unset (None ∷ hubs) = 1 + unset hubs
unset (Some hub ∷ hubs) = unset hubs

-- the number of the hub is there, which is another set
pub record HasHub (names : List Text) (hubs : List (Option ℕ)) (number : ℕ) (numbers : List ℕ) (text : Text) : Type 0 where
  pub hub : ℕ
  pub is : hub_at names hubs text ≡ Some hub
  pub other : hub ≢ number
  pub there : Contains numbers hub

-- the number is that of a fragment of the spread's name, or of their hub
abbrev pub IsNumberOf : List Text → List (Option ℕ) → SpreadOf → ℕ → Type 0
IsNumberOf names hubs s k = Contains (places_from 0 s.text names) k ⊎ (hub_at names hubs s.text ≡ Some k)

-- it is that of one of these spreads
pub record IsNumberOfOne (names : List Text) (hubs : List (Option ℕ)) (spreads : List SpreadOf) (k : ℕ) : Type 0 where
  pub one : SpreadOf
  pub stands : Contains spreads one
  pub is : IsNumberOf names hubs one k

-- one of these spreads stands alone in the set
pub record IsAloneOf (spreads : List SpreadOf) (s : SetOf) : Type 0 where
  pub one : SpreadOf
  pub stands : Contains spreads one
  pub is : s.selections ≡ one.alone

-- The numbers that the spreads of the set with that number lead to, for which hubs are put behind the other sets.
pub record AreLed (names : List Text) (number : ℕ) (spreads : List SpreadOf) (sets sets' : List SetOf) (hubs hubs' : List (Option ℕ)) (numbers : List ℕ) : Type 0 where
  pub added : List SetOf
  pub grown : sets' ≡ sets ++ added
  pub each : All (IsAloneOf spreads) added
  pub few : weights added + unset hubs' ≤ unset hubs
  pub kept : (text : Text) (hub : ℕ) → hub_at names hubs text ≡ Some hub → hub_at names hubs' text ≡ Some hub
  pub are : AreHubs names sets' hubs'
  pub only : (k : ℕ) → Contains numbers k → IsNumberOfOne names hubs' spreads k
  pub all : (s : SpreadOf) (k : ℕ) → Contains spreads s → Contains (places_from 0 s.text names) k → Contains numbers k ⊎ HasHub names hubs' number numbers s.text

-- the same, where the numbers are put behind others
pub record PutsLed (names : List Text) (number : ℕ) (spreads : List SpreadOf) (sets sets' : List SetOf) (hubs hubs' : List (Option ℕ)) (old new : List ℕ) : Type 0 where
  pub numbers : List ℕ
  pub is : new ≡ old ++ numbers
  pub led : AreLed names number spreads sets sets' hubs hubs' numbers

-- the spreads of a set lead to these, and its fields have their numbers
pub record AreMade (es : List EntryOf) (names : List Text) (number : ℕ) (s : SetOf) (sets sets' : List SetOf) (hubs hubs' : List (Option ℕ)) (r : RowOf) : Type 0 where
  pub between : List SetOf
  pub led : AreLed names number (spreads_in s.selections) sets between hubs hubs' r.spreads
  pub numbered : AreNumbered es (own_fields s.file s.parent s.selections) between sets' r.members

-- the first of several numbers, which is below the count
pub record IsFirstOf (numbers : List ℕ) (count first : ℕ) : Type 0 where
  pub rest : List ℕ
  pub is : numbers ≡ first ∷ rest
  pub within : first < count

-- a row leads to the number through the hub of a name, which is another row
pub record LeadsByHub (names : List Text) (hubs : List (Option ℕ)) (rows : List RowOf) (from number : ℕ) : Type 0 where
  pub text : Text
  pub hub : ℕ
  pub is : hub_at names hubs text ≡ Some hub
  pub other : hub ≢ from
  pub there : Contains (spreads_at rows from) hub
  pub fragment : Contains (places_from 0 text names) number
