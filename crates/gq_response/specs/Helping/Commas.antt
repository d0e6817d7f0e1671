-- Texts that are written one after another. No contract of a public call speaks of them.
use Rattle.std.specs.Prelude.{ℕ, zero, suc, List, [], ◌++◌, codes}
use Rattle.json.specs.Print.{quoted}
use Rattle.gq_meaning.specs.Values.{Text}
use Rattle.gq_response.specs.Texts.{led_by_commas, with_commas, data_text}
use Rattle.gq_response.specs.Views.{Keyed}

-- what stands before the text with that number
abbrev pub comma_before : ℕ → Text
comma_before zero = []
comma_before (suc i) = codes ","

-- the texts from that number on
abbrev pub texts_from : ℕ → List Text → Text
texts_from zero ts = with_commas ts
texts_from (suc i) ts = led_by_commas ts

abbrev pub member_text : Keyed → Text
member_text m = (quoted m.key ++ codes ":") ++ data_text m.value
