-- Which files the spreads of a file lead to, computed from names.
use Rattle.std.specs.Prelude.{ℕ, ◌+◌, List, [], ◌∷◌, ◌++◌, flat_map, map}
use Rattle.std.specs.Str.{bytes_eq}
use Rattle.gq_names.specs.UnderNames.{UnderNames, items_under, one_if}
use Rattle.gq_types.specs.Entries.{Text}
use Rattle.gq_by_file.specs.declared.names.FileNames.{FileNames}

-- the number of a file, once for each of its fragments of that name
abbrev pub named_in : ℕ → Text → List Text → List ℕ
named_in file text [] = []
named_in file text (name ∷ names) = one_if (bytes_eq text name) file ++ named_in file text names

-- so of files, the first of which has the given number
abbrev pub files_from : ℕ → Text → List FileNames → List ℕ
files_from k text [] = []
files_from k text (one ∷ names) = named_in k text one.fragments.items ++ files_from (k + 1) text names

-- the files with fragments that are spread in a file, by a table of those
abbrev pub linked_by : UnderNames ℕ → FileNames → List ℕ
linked_by table one = flat_map (λ text. items_under table text) one.spreads.items

-- and by the names in all files
abbrev pub linked_in : List FileNames → FileNames → List ℕ
linked_in names one = flat_map (λ text. files_from 0 text names) one.spreads.items

abbrev pub links_among : List FileNames → List (List ℕ)
links_among names = map (linked_in names) names
