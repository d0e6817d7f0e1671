-- The text of a response as JSON (section 7.2.1), without spaces.
use Rattle.std.specs.Prelude.{List, [], ◌∷◌, ◌++◌, map, codes, decimal, if◌then◌else◌}
use Rattle.gq_tree.specs.Forest.{none, more}
use Rattle.json.specs.Print.{quoted}
use Rattle.gq_meaning.specs.Values as value
use Rattle.gq_meaning.specs.Values.{Text, Leaf}
use Rattle.gq_meaning.specs.Results.{Step, key, index, Path}
use Rattle.gq_meaning.specs.Shown as shown
use Rattle.gq_meaning.specs.Shown.{Shown, Entries, Data}
use Rattle.gq_response.specs.Responses.{ResponseOf, request_error, answered}

abbrev pub leaf_text : Leaf → Text
leaf_text (value.boolean b) = if b then codes "true" else codes "false"
leaf_text (value.number spelling) = spelling
leaf_text (value.text t) = quoted t

abbrev pub step_text : Step → Text
step_text (key k) = quoted k
step_text (index i) = decimal i

-- texts with a comma before each
abbrev pub led_by_commas : List Text → Text
led_by_commas [] = []
led_by_commas (t ∷ ts) = codes "," ++ (t ++ led_by_commas ts)

-- texts with commas between them
abbrev pub with_commas : List Text → Text
with_commas [] = []
with_commas (t ∷ ts) = t ++ led_by_commas ts

-- what stands before an entry of an object, and before an item of a list
abbrev pub key_text : Step → Text
key_text (key k) = quoted k ++ codes ":"
key_text (index i) = []

-- what stands at one path, where what is below it has these texts
abbrev pub shown_text : Shown → List Text → Text
shown_text shown.null below = codes "null"
shown_text (shown.leaf v) below = leaf_text v
shown_text shown.list below = codes "[" ++ (with_commas below ++ codes "]")
shown_text shown.object below = codes "{" ++ (with_commas below ++ codes "}")

abbrev pub entry_texts : Entries → List Text
entry_texts none = []
entry_texts (more e below rest) = (key_text e.step ++ shown_text e.shown (entry_texts below)) ∷ entry_texts rest

abbrev pub data_text : Data → Text
data_text d = shown_text d.shown (entry_texts d.below)

abbrev pub error_text : Path → Text
error_text path = codes "{\"message\":\"field error\",\"path\":[" ++ (with_commas (map step_text path) ++ codes "]}")

abbrev pub errors_text : List Path → Text
errors_text [] = []
errors_text (p ∷ ps) = codes "\"errors\":[" ++ (with_commas (map error_text (p ∷ ps)) ++ codes "],")

-- the text of a response: errors stand before the data, and only where there are some
abbrev pub response_text : ResponseOf → Text
response_text request_error = codes "{\"errors\":[{\"message\":\"request error\"}]}"
response_text (answered d errors) = codes "{" ++ (errors_text errors ++ (codes "\"data\":" ++ (data_text d ++ codes "}")))
