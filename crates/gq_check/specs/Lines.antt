-- The lines that tell what was found: `FILE:LINE:COLUMN: CODE WORDS`.
use Rattle.std.specs.Prelude.{ℕ, ◌+◌, List, [], ◌++◌, Option, Some, None, find, codes, decimal}
use Rattle.gq_text.specs.declared.place.Position.{Position}
use Rattle.gq_project.specs.Documents.{has_key}
use Rattle.gq_project.specs.declared.document.Doc.{Doc}
use Rattle.gq_fault.specs.Codes.{text_of}
use Rattle.gq_diagnostics.specs.Words.{words_of}
use Rattle.gq_fault.specs.declared.found.Found.{Found}

-- the text of the document of that key
abbrev pub text_in : Option Doc → List ℕ
text_in None = []
text_in (Some document) = document.text

abbrev pub text_at : List Doc → List ℕ → List ℕ
text_at documents key = text_in (find (has_key key) documents)

-- the line of a fault that starts there; lines and columns are counted from 1
abbrev pub line_at : Found → Position → List ℕ
line_at found position =
    found.key ++ codes ":" ++ decimal (position.line + 1) ++ codes ":" ++ decimal (position.character + 1) ++ codes ": "
    ++ text_of found.code ++ codes " " ++ words_of found.code ++ codes "\n"
