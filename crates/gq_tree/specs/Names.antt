-- The names of fragments in a document.
use Rattle.std.specs.Prelude.{List, [], ◌∷◌, map}
use Rattle.std.specs.List.{flat_map}
use Rattle.std.specs.Borrow.{Bor}
use Rattle.gq_text.specs.declared.place.Span.{Span}
use Rattle.gq_tree.specs.declared.tree.Name.{Name}
use Rattle.gq_tree.specs.Forest.{labels}
use Rattle.gq_tree.specs.Plain.{NameOf, Head, Sels, Def, field, spread, inline, operation, fragment, type_system}
use Rattle.gq_tree.specs.Views.{name_of}

-- the fragment name in what a selection says: a spread has one, a field and an inline fragment none
abbrev pub spread_name : {P : Type 0} → Head P → List (NameOf P)
spread_name (field alias name arguments directives braces place) = []
spread_name (spread name directives place) = name ∷ []
spread_name (inline on directives braces place) = []

-- those of selections at any depth, in the order of the text
abbrev pub spread_names : {P : Type 0} → Sels P → List (NameOf P)
spread_names ss = flat_map spread_name (labels ss)

-- those of a definition: a fragment's own name comes first
abbrev pub names_in : {P : Type 0} → Def P → List (NameOf P)
names_in (operation kind name variables directives set braces place) = spread_names set
names_in (fragment name on directives set braces place) = name ∷ spread_names set
names_in (type_system definition) = []

-- the names of fragments in a document, at their definitions and their spreads, in the order of the text
abbrev pub fragment_names : {P : Type 0} → List (Def P) → List (NameOf P)
fragment_names ds = flat_map names_in ds

-- the names that references lead to
abbrev pub names_at : List (Bor Name) → List (NameOf Span)
names_at rs = map (λ r. name_of r.now) rs
