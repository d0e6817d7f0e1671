-- A document in which a fragment has another name: its operations are executed alike (section 6.3.2).
use Rattle.std.specs.Prelude.{◌≡◌, false, List, [], ◌∷◌, map, if◌then◌else◌}
use Rattle.std.specs.Str.{bytes_eq}
use Rattle.gq_meaning.specs.Values.{Text}
use Rattle.gq_meaning.specs.Results.{Path, Call}
use Rattle.gq_meaning.specs.Shown.{Data}
use Rattle.gq_meaning.specs.Selected.{Set, none, field, spread, inline}
use Rattle.gq_meaning.specs.Expand.{Definition}
use Rattle.gq_meaning.specs.Response.{Given, Responds, Calls}

abbrev pub renamed : (old new : Text) → Text → Text
renamed old new f = if bytes_eq f old then new else f

-- each spread of it has the new name, and so has its definition
abbrev pub rename_set : (old new : Text) → Set → Set
rename_set old new none = none
rename_set old new (field w k n a set rest) = field w k n a (rename_set old new set) (rename_set old new rest)
rename_set old new (spread w f rest) = spread w (renamed old new f) (rename_set old new rest)
rename_set old new (inline w on set rest) = inline w on (rename_set old new set) (rename_set old new rest)

abbrev pub rename_definition : (old new : Text) → Definition → Definition
rename_definition old new d = record { name = renamed old new d.name; on = d.on; set = rename_set old new d.set }

-- no fragment of that name is spread, or defined
abbrev pub IsUnspread : Text → Set → Type 0
IsUnspread new none = Unit {0}
IsUnspread new (field w k n a set rest) = IsUnspread new set × IsUnspread new rest
IsUnspread new (spread w f rest) = (bytes_eq f new ≡ false) × IsUnspread new rest
IsUnspread new (inline w on set rest) = IsUnspread new set × IsUnspread new rest

abbrev pub IsNew : Text → List Definition → Type 0
IsNew new [] = Unit {0}
IsNew new (d ∷ ds) = (bytes_eq d.name new ≡ false) × IsUnspread new d.set × IsNew new ds

-- A fragment that is given a new name leaves the data, the errors and the calls as they are.
abbrev pub RenamesKeep : Type 0
RenamesKeep = (g : Given) (ds : List Definition) (old new type_name : Text) (set : Set) → IsNew new ds → IsUnspread new set →
    ((d : Data) (es : List Path) → Responds g ds type_name set d es → Responds g (map (rename_definition old new) ds) type_name (rename_set old new set) d es)
    × ((cs : List Call) → Calls g ds type_name set cs → Calls g (map (rename_definition old new) ds) type_name (rename_set old new set) cs)
