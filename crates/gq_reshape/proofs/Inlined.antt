-- A spread becomes an inline fragment, and the last one takes the fragment with it: every response stays.
use Rattle.std.proofs.Common.{◌≡◌, inl, inr, ℕ, Bool, true, false, List, [], ◌∷◌, length, Option, Some, None, slice_get, Contains, refl, sym, ap, ◌∙◌, nat_eq, arith}
use Rattle.std.specs.Prelude.{◌||◌, ◌&&◌, ◌==◌, if◌then◌else◌}
use Rattle.std.specs.Option.{option_map_or}
use Rattle.std.specs.Str.{bytes_eq}
use Rattle.std.proofs.lemmas.Bool.Decides.{nat_tests}
use Rattle.gq_text.specs.declared.place.Span.{Span}
use Rattle.gq_tree.specs.Plain as tree
use Rattle.gq_tree.specs.Plain.{NameOf, DirectiveOf, Head, Def}
use Rattle.gq_project.specs.declared.document.Doc.{Doc}
use Rattle.gq_tree.specs.Readings.{ParsedOf}
use Rattle.gq_parse.specs.Parsed.{AreParsed}
use Rattle.gq_types.specs.Entries.{EntryOf}
use Rattle.gq_types.proofs.Gathered.{or_cases, found}
use Rattle.gq_document.specs.Definitions.{FragmentOf, fragments_of}
use Rattle.gq_document.specs.Selections.{SelectedOf}
use Rattle.gq_index.specs.Occurrences.{executables, fragment_spreads}
use Rattle.gq_meaning.proofs.TextLemmas.{same_text}
use Rattle.gq_rewritten.specs.Rewrites.{same_place, DefinitionPlace}
use Rattle.gq_laws.specs.Rewriting.Edits.{IsLastSpread}
use Rattle.gq_laws.proofs.Rewriting.Executables.{Selected}
use Rattle.gq_laws.proofs.Rewriting.Projects.{inlined_project}
use Rattle.gq_select.specs.Meant.{is_spread, document_sets}
use Rattle.gq_reshape.specs.declared.placed.PlacedReplacement.{PlacedReplacement}
use Rattle.gq_reshape.specs.Placed.{replacements_in}
use Rattle.gq_reshape.specs.Asks.{RangeAsk, tree_at}
use Rattle.gq_reshape.specs.Inline.{Inlining, is_only_spread, comes_first, in_order, inline_replacements, inline_cut}
use Rattle.gq_reshape.specs.Helping.Making.{SomeExecutable}
use Rattle.gq_reshape.proofs.Changed.{IsKeeping, it_holds, fragment_holds, selected_holds}
use Rattle.gq_reshape.proofs.Promised.{Promised}
use Rattle.gq_reshape.proofs.Removed.{other_document, neither}
use Rattle.gq_reshape.proofs.RunStands.{same_number}
use Rattle.gq_reshape.proofs.SameEntries.{trees_read, from_first}
use Rattle.gq_reshape.proofs.Spreads.{one_spread}
use Rattle.gq_reshape.proofs.Standing.{meant_stands, selected_asked}

-- one place
placed_same : (file k : ℕ) (p q : Span) → file ≡ k → p ≡ q → (nat_eq file k && same_place q p) ≡ true
placed_same file k p q e f = by file k p.start p.end q.start q.end e (ap (λ (z : Span). z.start) f) (ap (λ (z : Span). z.end) f)
  where
    by : (a b i j m n : ℕ) → a ≡ b → i ≡ m → j ≡ n → (nat_eq a b && (m == i && n == j)) ≡ true
    by a b i j m n x y z = grind (arith, nat_tests, x, y, z)

two_elsewhere : (a b : PlacedReplacement) (k : ℕ) → nat_eq a.file k ≡ false → nat_eq b.file k ≡ false → replacements_in (in_order a b) k ≡ []
two_elsewhere a b k e f = by (comes_first b a)
  where
    by : (t : Bool) → replacements_in (if t then b ∷ a ∷ [] else a ∷ b ∷ []) k ≡ []
    by true = other_document b (a ∷ []) k f ∙ other_document a [] k e
    by false = other_document a (b ∷ []) k e ∙ other_document b [] k f

module _ (documents : List Doc) (ask : RangeAsk) (rs : List ParsedOf) (are : AreParsed documents rs) (es : List EntryOf) (promise : Promised es rs) where
  module _ (i : Inlining documents es rs ask) where
    abbrev pub asked : SelectedOf
    asked = record { file = i.file; parent = i.selected.parent; selection = i.selected.selection }

    pub selects : Selected rs es asked
    selects = selected_asked es rs i.file i.selected (meant_stands is_spread ask.range (document_sets es (tree_at rs i.file)) i.selected i.is_meant)

    pub stands : Contains (fragments_of rs) i.definition × (bytes_eq i.definition.name.text i.name.text ≡ true)
    stands = found (λ (f : FragmentOf). bytes_eq f.name.text i.name.text) (fragments_of rs) i.definition i.is_definition

    pub named : i.definition.name.text ≡ i.name.text
    named = same_text i.definition.name.text i.name.text stands.1

    -- where the fragment goes, the spread is its last
    pub last_one : is_only_spread rs i.name.text ≡ true → (t : SelectedOf) → Selected rs es t → (h : Head Span) → t.selection.label ≡ h →
        IsLastSpread (Some i.definition.name.text) (record { file = i.file; place = i.place; on = i.definition.on.text; set = i.definition.set; dropped = Some (record { file = i.definition.file; place = i.definition.place }) }) t.file h
    last_one only t c (tree.field alias name arguments directives braces place) e = tt
    last_one only t c (tree.inline on directives braces place) e = tt
    last_one only t c (tree.spread name directives place) e = λ same.
        let text : i.definition.name.text ≡ name.text = cc in
        let one : length (fragment_spreads (executables rs) i.name.text) ≡ 1 = same_number (length (fragment_spreads (executables rs) i.name.text)) 1 only in
        let both = one_spread rs es i.name.text one asked t selects c i.name name i.directives directives i.place place i.is_spread e refl (sym text ∙ named) in
        placed_same i.file t.file i.place place both.0 both.1

    abbrev dropped : Bool → Option DefinitionPlace
    dropped b = if b then Some (record { file = i.definition.file; place = i.definition.place }) else None

    abbrev edited : Bool → ℕ → Bool
    edited b k = nat_eq i.file k || option_map_or (λ d. nat_eq d.file k) (dropped b) false

    quiet_at : (b : Bool) (k : ℕ) → edited b k ≡ false → replacements_in (inline_replacements i.file i.document.text i.directives i.place i.definition i.home.text b) k ≡ []
    quiet_at true k e =
        let apart = neither (nat_eq i.file k) (nat_eq i.definition.file k) e in
        two_elsewhere _ _ k apart.0 apart.1
    quiet_at false k e = other_document _ [] k (neither (nat_eq i.file k) false e).0

    holds_at : (b : Bool) (k : ℕ) → edited b k ≡ true → (tree : List (Def Span)) → slice_get (trees_read rs) k ≡ Some tree → SomeExecutable tree
    holds_at true k e tree there = elim (or_cases (nat_eq i.file k) (nat_eq i.definition.file k) e) [
      | inl h ↦ it_holds (trees_read rs) i.file k (selected_holds es rs asked selects) tree there (same_number i.file k h)
      | inr h ↦ it_holds (trees_read rs) i.definition.file k (fragment_holds rs i.definition stands.0) tree there (same_number i.definition.file k h)
    ]
    holds_at false k e tree there = elim (or_cases (nat_eq i.file k) false e) [
      | inl h ↦ it_holds (trees_read rs) i.file k (selected_holds es rs asked selects) tree there (same_number i.file k h)
      | inr h ↦ absurd (cc)
    ]

    pub inlined_keeping : IsKeeping es rs (inline_cut i)
    inlined_keeping = record {
      quiet = λ k e. quiet_at (is_only_spread rs i.name.text) k e;
      added = tt;
      some = from_first (inline_cut i).rewrite (trees_read rs) (λ n tree there e. holds_at (is_only_spread rs i.name.text) n e tree there);
      restates =
          inlined_project documents rs are es promise.rooted promise.known promise.defined promise.ranked.0 promise.ranked.1 i.definition stands.0 (promise.unique i.definition stands.0) asked selects i.name i.directives i.place i.is_spread named
          (is_only_spread rs i.name.text) (λ only t c. last_one only t c t.selection.label refl);
    }
