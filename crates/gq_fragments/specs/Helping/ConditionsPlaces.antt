-- The type conditions of fragments, kept by the fragments' names. Only private contracts speak of it.
use Rattle.std.specs.Prelude.{◌≡◌, Bool, List, ◌||◌}
use Rattle.std.specs.Borrow.{Bor}
use Rattle.std.specs.List.{list_any}
use Rattle.gq_names.specs.UnderNames.{UnderNames, items_under}
use Rattle.gq_types.specs.Entries.{Text}
use Rattle.gq_types.specs.LookUps.{texts_of}
use Rattle.gq_document.specs.Definitions.{FragmentOf}
use Rattle.gq_fragments.specs.Helping.FragmentPlaces.{is_on, some_condition}

-- whether a condition that is kept under the name passes a test
abbrev pub has_some : UnderNames (Bor Text) → (Text → Bool) → (name : Text) → Bool
has_some conditions test name = list_any test (texts_of (items_under conditions name))

-- what is kept under a name passes the same tests as the conditions of all fragments of that name
abbrev pub HoldConditions : List FragmentOf → UnderNames (Bor Text) → Type 0
HoldConditions fs conditions = (name : Text) (test : Text → Bool) → has_some conditions test name ≡ some_condition test fs name

-- the condition of one fragment more is kept
abbrev pub TakesIn : FragmentOf → (old new : UnderNames (Bor Text)) → Type 0
TakesIn f old new = (name : Text) (test : Text → Bool) → has_some new test name ≡ (has_some old test name || is_on name test f)
