-- Extract: selections are put into a new fragment (section 2.8), and a spread of it stands for them.
use Rattle.std.specs.Prelude.{◌≡◌, ℕ, List, [], ◌∷◌, Option, Some, None, length, drop, slice_range}
use Rattle.std.specs.Option.{option_map, option_or}
use Rattle.gq_text.specs.declared.place.Span.{Span}
use Rattle.gq_tree.specs.Plain.{Sels, fragment, erase_all}
use Rattle.gq_project.specs.declared.document.Doc.{Doc}
use Rattle.gq_tree.specs.Readings.{ParsedOf}
use Rattle.gq_types.specs.Entries.{Text, EntryOf}
use Rattle.gq_types.specs.Possible.{IsPossible}
use Rattle.gq_index.specs.Occurrences.{executables}
use Rattle.gq_document.specs.Sets.{SetOf}
use Rattle.gq_rewritten.specs.Rewrites.{bare_name, with_extracted}
use Rattle.gq_select.specs.Meant.{document_sets}
use Rattle.gq_select.specs.Runs.{RunOf, find_run, innermost}
use Rattle.gq_select.specs.Touched.{Touches}
use Rattle.gq_reshape.specs.Asks.{RangeAsk, IsAskedOf, tree_at}
use Rattle.gq_reshape.specs.Cuts.{Cut}
use Rattle.gq_reshape.specs.Naming.{extracted_name, IsLeastFree}
use Rattle.gq_laws.specs.Cutting.Texts.{spread_text, fragment_text}
use Rattle.gq_reshape.specs.declared.placed.PlacedReplacement.{PlacedReplacement}

-- the document that is asked of, and the place of what the range touches there
pub record Touched (documents : List Doc) (ask : RangeAsk) : Type 0 where
  pub file : ℕ
  pub document : Doc
  pub asked_of : IsAskedOf documents ask.key file document
  pub place : Span
  pub touches : Touches document.text ask.range place

-- the run of that place in the document's sets; and the type of the parent of the set in question: that of the run, else the innermost
abbrev pub run_at : Span → List SetOf → Option RunOf
run_at place sets = find_run place.start place.end sets

abbrev pub innermost_at : Span → List SetOf → Option SetOf
innermost_at place sets = innermost place.start place.end sets

abbrev pub parent_in_question : Span → List SetOf → Option (Option Text)
parent_in_question place sets = option_or (option_map (λ r. r.parent) (run_at place sets)) (option_map (λ s. s.parent) (innermost_at place sets))

abbrev pub sets_asked : {documents : List Doc} {ask : RangeAsk} → List EntryOf → List ParsedOf → Touched documents ask → List SetOf
sets_asked es readings t = document_sets es (tree_at readings t.file)

-- what is extracted, with the number of the new fragment
pub record Extraction (documents : List Doc) (es : List EntryOf) (readings : List ParsedOf) (ask : RangeAsk) : Type 0 where
  pub touched : Touched documents ask
  pub parent : Text
  pub run : Sels Span
  pub is_run : run_at touched.place (sets_asked es readings touched) ≡ Some (record { parent = Some parent; run = run })
  pub number : ℕ
  pub is_least : IsLeastFree (executables readings) number

-- the replacements, from the place of the run, and the trees
abbrev pub extract_replacements : (file : ℕ) (text : List ℕ) (place : Span) (name on : Text) → List PlacedReplacement
extract_replacements file text place name on =
    record { file = file; replacement = record { span = place; text = spread_text name (drop place.end text) } }
    ∷ record { file = file; replacement = record { span = record { start = length text; end = length text }; text = fragment_text name on (slice_range text place.start place.end) } }
    ∷ []

abbrev pub extract_at : (file : ℕ) (text : List ℕ) (place : Span) (name on : Text) (run : Sels Span) → Cut
extract_at file text place name on run = record {
  replacements = extract_replacements file text place name on;
  rewrite = record {
    file = file;
    change = with_extracted place.start place.end name;
    added = fragment (bare_name name) (bare_name on) [] (erase_all run) tt tt ∷ [];
    dropped = None;
  };
}

abbrev pub extract_cut : {documents : List Doc} {es : List EntryOf} {readings : List ParsedOf} {ask : RangeAsk} → Extraction documents es readings ask → Cut
extract_cut e = extract_at e.touched.file e.touched.document.text e.touched.place (extracted_name e.number) e.parent e.run

-- Nothing is there: whatever the range touches, no set is in question. So it is where the project has no document of that key,
-- and where the range touches no token.
abbrev pub NothingToExtract : List Doc → List EntryOf → List ParsedOf → RangeAsk → Type 0
NothingToExtract documents es readings ask = (t : Touched documents ask) → parent_in_question t.place (sets_asked es readings t) ≡ None

-- no object type is possible for it
abbrev pub HasNoObject : List EntryOf → Option Text → Type 0
HasNoObject es None = Unit {0}
HasNoObject es (Some parent) = (object : Text) → IsPossible es parent object → ⊥

pub record HasNoPossibleType (documents : List Doc) (es : List EntryOf) (readings : List ParsedOf) (ask : RangeAsk) : Type 0 where
  pub touched : Touched documents ask
  pub parent : Option Text
  pub in_question : parent_in_question touched.place (sets_asked es readings touched) ≡ Some parent
  pub no_object : HasNoObject es parent

-- the ends lie between the braces of a set, and no set has such a run
pub record AreNoSiblings (documents : List Doc) (es : List EntryOf) (readings : List ParsedOf) (ask : RangeAsk) : Type 0 where
  pub touched : Touched documents ask
  pub no_run : run_at touched.place (sets_asked es readings touched) ≡ None
  pub set : SetOf
  pub between : innermost_at touched.place (sets_asked es readings touched) ≡ Some set
