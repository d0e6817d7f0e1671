-- That an operation has one response (section 6.4).
use Rattle.std.specs.Prelude.{◌≡◌, List}
use Rattle.gq_meaning.specs.Values.{Text}
use Rattle.gq_meaning.specs.Results.{Path}
use Rattle.gq_meaning.specs.Shown.{Data}
use Rattle.gq_meaning.specs.Selected.{Set}
use Rattle.gq_meaning.specs.Expand.{Definition}
use Rattle.gq_meaning.specs.Response.{Given, Responds}

-- an operation has at most one response
abbrev pub OneResponse : Type 0
OneResponse = (g : Given) (ds : List Definition) (type_name : Text) (set : Set) (d d' : Data) (es es' : List Path) → Responds g ds type_name set d es → Responds g ds type_name set d' es' → (d ≡ d') × (es ≡ es')
