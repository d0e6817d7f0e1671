-- What the code's refactorings are asked of, and what they find there.
use Rattle.std.specs.Prelude.{◌≡◌, true, false, ◌||◌, List, Some, find, map}
use Rattle.std.specs.List.{list_any}
use Rattle.std.specs.Option.{option_map}
use Rattle.std.specs.Str.{bytes_eq}
use Rattle.gq_text.specs.declared.place.Span.{Span}
use Rattle.gq_tree.specs.Readings.{readings_view}
use Rattle.gq_tree.specs.declared.tree.InlineFragment.{InlineFragment}
use Rattle.gq_tree.specs.declared.tree.Spread.{Spread}
use Rattle.gq_tree.specs.Plain.{DirectiveOf, Head, Sels, inline, spread}
use Rattle.gq_tree.specs.Views.{directive_view, name_of}
use Rattle.gq_project.specs.Documents.{IsInOrder}
use Rattle.gq_types.specs.Entries.{Text}
use Rattle.gq_types.specs.Look.{types_view}
use Rattle.gq_document.specs.Definitions.{FragmentOf, fragments_of}
use Rattle.gq_document.specs.Sets.{SetOf}
use Rattle.gq_rules.specs.Validity.{IsValid}
use Rattle.gq_index.specs.Indexed.{IsIndexOfProject}
use Rattle.gq_known.specs.Known.{IsKnown}
use Rattle.gq_select.specs.Meant.{StandingOf, document_sets, is_inline, is_spread, meant}
use Rattle.gq_select.specs.Touched.{Touches}
use Rattle.gq_rename.specs.Sound.{AreUtf8}
use Rattle.gq_reshape.specs.declared.asked.Asked.{Asked}
use Rattle.gq_reshape.specs.Asks.{RangeAsk, IsAskedOf, tree_at}
use Rattle.gq_reshape.specs.Extract.{HasNoObject, run_at}
use Rattle.gq_reshape.specs.Inline.{has_directive, is_in_way}
use Rattle.gq_reshape.specs.Remove.{says_nothing}

-- The documents are texts of a valid project, which is known and indexed, and the document is the one of that key. What is known and the index
-- are kept from ask to ask; so that an ask can be made of what is kept, they are merely so here, and premises where an answer is told.
pub record IsAbout (asked : Asked) : Type 0 where
  pub valid : ∥ IsValid asked.valid.now ∥₁
  pub in_order : IsInOrder asked.valid.now
  pub utf8 : AreUtf8 asked.valid.now
  pub is_known : ∥ IsKnown asked.known ∥₁
  pub is_project : asked.known.project.now ≡ asked.valid.now
  pub is_index : ∥ IsIndexOfProject asked.valid.now asked.index.now ∥₁
  pub is_document : IsAskedOf asked.valid.now asked.key.now asked.file asked.document.now

abbrev pub ask_of : Asked → RangeAsk
ask_of asked = record { key = asked.key.now; range = asked.range }

-- the selection sets of the document
abbrev pub sets_of_asked : Asked → List SetOf
sets_of_asked asked = document_sets (types_view asked.known.types.now) (tree_at (readings_view asked.known.readings.now) asked.file)

-- the range touches the tokens of that place, which are a run in a set whose parent has that type, for which an object type is possible
pub record IsRunOn (asked : Asked) (place : Span) (on : Text) (run : Sels Span) : Type 0 where
  pub touches : Touches asked.document.now.text asked.range place
  pub is_run : run_at place (sets_of_asked asked) ≡ Some (record { parent = Some on; run = run })
  pub has_object : HasNoObject (types_view asked.known.types.now) (Some on) → ⊥

abbrev pub IsSomeRunOn : Asked → Span → Text → Type 0
IsSomeRunOn asked place on = (run : Sels Span) × IsRunOn asked place on run

-- what a spread and an inline fragment of the code are in the tree
abbrev pub spread_head : Spread → Head Span
spread_head s = spread (name_of s.name) (map directive_view s.directives.items) s.span

abbrev pub inline_head : InlineFragment → Head Span
inline_head i = inline (option_map name_of i.on) (map directive_view i.directives.items) i.set.span i.span

-- the range means the spread, and this is its fragment
pub record IsSpreadOf (asked : Asked) (s : Spread) (f : FragmentOf) : Type 0 where
  pub selected : StandingOf
  pub is_meant : meant is_spread asked.range (sets_of_asked asked) ≡ Some selected
  pub is_spread : selected.selection.label ≡ spread_head s
  pub is_definition : find (λ f. bytes_eq f.name.text (name_of s.name).text) (fragments_of (readings_view asked.known.readings.now)) ≡ Some f

-- no directive of the spread or of the definition is in the way
abbrev pub IsDirectiveFree : List (DirectiveOf Span) → FragmentOf → Type 0
IsDirectiveFree directives f = (list_any is_in_way directives || has_directive f.directives) ≡ false

-- the range means the inline fragment, and it says nothing
pub record IsInlineAsked (asked : Asked) (i : InlineFragment) : Type 0 where
  pub selected : StandingOf
  pub is_meant : meant is_inline asked.range (sets_of_asked asked) ≡ Some selected
  pub is_inline : selected.selection.label ≡ inline_head i
  pub says : says_nothing (option_map name_of i.on) (map directive_view i.directives.items) selected.parent ≡ true
