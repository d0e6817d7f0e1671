-- A text with some of its spans replaced.
use Rattle.std.specs.Prelude.{ℕ, List, [], ◌∷◌, ◌++◌, drop, slice_range}
use Rattle.gq_text.specs.declared.replacement.Replacement.{Replacement}

-- the text from the offset `at` on: the untouched pieces and the new texts, in order
abbrev pub replaced_from : ℕ → List Replacement → List ℕ → List ℕ
replaced_from at [] text = drop at text
replaced_from at (r ∷ rs) text = slice_range text at r.span.start ++ r.text ++ replaced_from r.span.end rs text

-- the text with all replacements made
abbrev pub replaced : List Replacement → List ℕ → List ℕ
replaced rs text = replaced_from 0 rs text
