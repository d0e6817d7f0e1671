-- Selections of a project as it is read, extracted, inlined or opened.
use Rattle.std.proofs.Common.{◌≡◌, ℕ, zero, suc, Bool, true, false, List, ◌++◌, Option, Some, None, slice_get, Contains, append_assoc, refl, sym, ap, ◌∙◌, subst}
use Rattle.std.specs.Prelude.{if◌then◌else◌}
use Rattle.gq_text.specs.declared.place.Span.{Span}
use Rattle.gq_tree.specs.declared.tree.OperationKind.{OperationKind}
use Rattle.gq_tree.specs.Forest as forest
use Rattle.gq_tree.specs.Forest.{row}
use Rattle.gq_tree.specs.Plain as tree
use Rattle.gq_tree.specs.Plain.{NameOf, DirectiveOf, Head, Sel, Sels, Def, operation, fragment, type_system}
use Rattle.gq_project.specs.declared.document.Doc.{Doc}
use Rattle.gq_types.specs.Entries.{Text, EntryOf}
use Rattle.gq_tree.specs.Readings as reading
use Rattle.gq_parse.specs.Parsed as readings
use Rattle.gq_parse.specs.Parsed.{IsParsed, AreParsed}
use Rattle.gq_tree.specs.Readings.{ParsedOf, definitions_read}
use Rattle.gq_document.specs.Definitions.{OperationOf, FragmentOf, operations_of, fragments_of}
use Rattle.gq_document.specs.Selections.{SelectedOf, of_operation, of_fragment}
use Rattle.gq_meaning.specs.Expand.{find_definition}
use Rattle.gq_meaning.specs.Acyclic.{IsRanked}
use Rattle.gq_meaning.specs.Rewritten.{Static}
use Rattle.gq_meaning.proofs.ExpandLemmas.{found}
use Rattle.gq_rewritten.specs.Rewrites.{head_place, DefinitionPlace, rewritten_from}
use Rattle.gq_laws.specs.Rewriting.KnownBefore.{Each, SaysNothing}
use Rattle.gq_laws.specs.Rewriting.Places.{AreInPlace, run_start, run_end}
use Rattle.gq_laws.specs.Rewriting.Documents as documents
use Rattle.gq_laws.specs.Rewriting.Documents.{definitions_of, EachFrom, OfSet, EndsSetIn, IsSpreadDefined, AreSound, Restates}
use Rattle.gq_laws.specs.Rewriting.Edits.{HasDocument, RunAt, extraction, SpreadAt, inlining, GoesAs, IsSpreadOther, IsLastSpread, CanInline, removal}
use Rattle.gq_laws.specs.Rewriting.Statics.{static_of, roots_in, seen_fragment}
use Rattle.gq_laws.proofs.Rewriting.InPlace.{trees_are_in_place}
use Rattle.gq_laws.proofs.Rewriting.Located.{number_in, bounds, extract_restates, inline_restates, remove_restates}
use Rattle.gq_laws.proofs.Rewriting.Edits.{all_stay, none_goes}
use Rattle.gq_laws.proofs.Rewriting.Each.{each_always, deep_always, set_always}
use Rattle.gq_laws.proofs.Rewriting.Executables.{trees_read, StandsIn, fragment_def, fragment_stands, operation_stands, Rooted, Selected, are_typed, are_defined, are_last}
use Rattle.gq_laws.proofs.Rewriting.Selected.{selection_ends, row_in}
use Rattle.gq_laws.proofs.Rewriting.Named.{name_is}
use Rattle.gq_laws.proofs.Rewriting.Goes.{goes, ranked_other}

-- each tree of a project is in place
tree_in_place : (document : Doc) (one : ParsedOf) → IsParsed document.text one → AreInPlace 0 (definitions_read one)
tree_in_place document (reading.tree d) h = trees_are_in_place document.text (definitions_read (reading.tree d)) h
tree_in_place document (reading.syntax place) h = tt
tree_in_place document (reading.limit place) h = tt

pub project_in_place : {ds : List Doc} {rs : List ParsedOf} → AreParsed ds rs → (file : ℕ) (tree : List (Def Span)) → slice_get (trees_read rs) file ≡ Some tree → AreInPlace 0 tree
project_in_place readings.none file tree e = cc
project_in_place (readings.more {document} {one} h rest) zero tree e = let same : definitions_read one ≡ tree = cc in subst (AreInPlace 0) same (tree_in_place document one h)
project_in_place (readings.more h rest) (suc file) tree e = project_in_place rest file tree e

module _ (docs : List Doc) (rs : List ParsedOf) (are : AreParsed docs rs) (es : List EntryOf) (rooted : Rooted rs es) (known : (s : SelectedOf) → Selected rs es s → (p : Text) × (s.parent ≡ Some p))
    (defined : (s : SelectedOf) → Selected rs es s → IsSpreadDefined (definitions_of (trees_read rs)) s.selection.label) where
  abbrev static : Static
  static = static_of es

  abbrev roots : OperationKind → Text
  roots = roots_in es

  abbrev trees : List (List (Def Span))
  trees = trees_read rs

  pub sound : AreSound static roots trees
  sound = record { typed = are_typed rs es rooted known; defined = are_defined rs es defined }

  as_document : (file : ℕ) (d : Def Span) → StandsIn trees file d → HasDocument trees file
  as_document file d s = record { tree = s.tree; is_tree = s.is_tree; in_place = project_in_place are file s.tree s.is_tree }

  pub operation_document : (o : OperationOf) → Contains (operations_of rs) o → HasDocument trees o.file
  operation_document o c = as_document o.file _ (operation_stands rs o c)

  pub fragment_document : (f : FragmentOf) → Contains (fragments_of rs) f → HasDocument trees f.file
  fragment_document f c = as_document f.file _ (fragment_stands rs f c)

  pub selected_document : (s : SelectedOf) → Selected rs es s → HasDocument trees s.file
  selected_document s (of_operation {o} c w) = subst (HasDocument trees) (sym w.0) (operation_document o c)
  selected_document s (of_fragment {f} c w) = subst (HasDocument trees) (sym w.0) (fragment_document f c)

  -- A run of a set of a document is extracted.
  pub extracted_project : (e : RunAt) (document : HasDocument trees e.file) (set : Sels Span) → EndsSetIn static roots document.tree e.on set → (before others : List (Sel Span)) → set ≡ row (before ++ e.run ++ others) →
      run_start e.run ≡ Some e.start → run_end e.run ≡ Some e.end → find_definition (definitions_of trees) e.name ≡ None → Restates static roots trees (rewritten_from (extraction e) 0 trees)
  extracted_project e document set ends before others all first last free =
      extract_restates static roots trees e sound (record {
        document = document;
        others = others;
        ends = row_in static roots document.tree before (e.run ++ others) (subst (EndsSetIn static roots document.tree e.on) (all ∙ ap row (append_assoc before e.run others)) ends);
        first = first;
        last = last;
        free = free;
      })

  -- An inline fragment of a document is opened, that says nothing.
  pub removed_project : (s : SelectedOf) → Selected rs es s → (p : Text) → s.parent ≡ Some p → SaysNothing p s.selection.label → Restates static roots trees (rewritten_from (removal s.file (head_place s.selection.label)) 0 trees)
  removed_project s selects p e says =
      let document = selected_document s selects in
      let b = selection_ends rs es rooted sound.typed s selects document in
      let same : p ≡ b.parent = let q : Some p ≡ Some b.parent = sym e ∙ b.is_parent in cc in
      remove_restates static roots trees s.file (head_place s.selection.label) sound (record {
        document = document;
        parent = b.parent;
        head = s.selection.label;
        below = s.selection.below;
        rest = b.rest;
        ends = b.ends;
        at = refl;
        says = subst (λ z. SaysNothing z s.selection.label) same says;
      })

  -- A spread of a document is inlined, and its fragment goes if told so.
  module _ (rank : Text → ℕ) (ranked : IsRanked rank (definitions_of trees)) (f : FragmentOf) (stands : Contains (fragments_of rs) f) (unique : (g : FragmentOf) → Contains (fragments_of rs) g → g.name.text ≡ f.name.text → g ≡ f) where
    abbrev pub spread_at : ℕ → Span → Bool → SpreadAt
    spread_at file place with_fragment = record {
      file = file;
      place = place;
      on = f.on.text;
      set = f.set;
      dropped = if with_fragment then Some (record { file = f.file; place = f.place }) else None;
    }

    no_other : Each (IsSpreadOther (Some f.name.text)) f.set
    no_other =
        let m = (found (definitions_of trees) f.name.text (seen_fragment f) (name_is rs f stands unique)).1 in
        let home = fragment_stands rs f stands in
        let b = bounds roots 0 home.tree (project_in_place are f.file home.tree home.is_tree) (fragment_def f) home.stands documents.of_fragment in
        ranked_other rank f.name.text b.from b.to f.set (ranked.each (seen_fragment f) m) b.nested

    -- it can be inlined
    pub can_inline : (s : SelectedOf) → Selected rs es s → (name : NameOf Span) (directives : List (DirectiveOf Span)) (place : Span) → s.selection.label ≡ tree.spread name directives place → f.name.text ≡ name.text → (with_fragment : Bool) →
        (with_fragment ≡ true → (t : SelectedOf) → Selected rs es t → IsLastSpread (Some f.name.text) (spread_at s.file place true) t.file t.selection.label) →
        (can : CanInline static roots trees (if with_fragment then Some f.name.text else None) (spread_at s.file place with_fragment)) × (can.name ≡ name) × (can.directives ≡ directives)
    can_inline s selects name directives place label named with_fragment last = by with_fragment last
      where
        document : HasDocument trees s.file
        document = selected_document s selects

        can : (old : Option Text) (dropped : Option DefinitionPlace) → EachFrom (GoesAs (inlining (record { file = s.file; place = place; on = f.on.text; set = f.set; dropped = dropped })) old) 0 trees → Each (IsSpreadOther old) f.set →
            EachFrom (λ file d. OfSet roots (λ t set. Each (IsLastSpread old (record { file = s.file; place = place; on = f.on.text; set = f.set; dropped = dropped }) file) set) d) 0 trees →
            (can : CanInline static roots trees old (record { file = s.file; place = place; on = f.on.text; set = f.set; dropped = dropped })) × (can.name ≡ name) × (can.directives ≡ directives)
        can old dropped gone other last_one =
            let b = selection_ends rs es rooted sound.typed s selects document in
            let home = fragment_stands rs f stands in (
              record {
                document = document;
                parent = b.parent;
                name = name;
                directives = directives;
                below = s.selection.below;
                rest = b.rest;
                ends = subst (λ h. EndsSetIn static roots document.tree b.parent (forest.more h s.selection.below b.rest)) label b.ends;
                is_of = record { definition = seen_fragment f; is_found = subst (λ z. find_definition (definitions_of trees) z ≡ Some (seen_fragment f)) named (name_is rs f stands unique); is_on = refl; selects = refl };
                home = home.tree;
                is_home = number_in trees f.file home.tree home.is_tree;
                definition = fragment_def f;
                stands = home.stands;
                is_set = documents.of_fragment;
                goes = gone;
                other = other;
                last = last_one;
              },
              refl,
              refl,
            )

        by : (b : Bool) → (b ≡ true → (t : SelectedOf) → Selected rs es t → IsLastSpread (Some f.name.text) (spread_at s.file place true) t.file t.selection.label) →
            (can : CanInline static roots trees (if b then Some f.name.text else None) (spread_at s.file place b)) × (can.name ≡ name) × (can.directives ≡ directives)
        by true l =
            can (Some f.name.text) (Some (record { file = f.file; place = f.place })) (goes rs roots f stands (fragment_document f stands) unique (spread_at s.file place true) refl) no_other (are_last rs es (Some f.name.text) (spread_at s.file place true) (l refl))
        by false l =
            can None None (each_always (GoesAs (inlining (spread_at s.file place false)) None) (all_stay (inlining (spread_at s.file place false)) refl) 0 trees) (deep_always (IsSpreadOther None) none_goes f.set)
            (each_always (λ file d. OfSet roots (λ t set. Each (IsLastSpread None (spread_at s.file place false) file) set) d)
            (λ file d. set_always roots (λ t set. Each (IsLastSpread None (spread_at s.file place false) file) set) (λ t set. deep_always (IsLastSpread None (spread_at s.file place false) file) (none_last file) set) d) 0 trees)
          where
            none_last : (file : ℕ) (h : Head Span) → IsLastSpread None (spread_at s.file place false) file h
            none_last file (tree.field alias n arguments ds braces p) = tt
            none_last file (tree.spread n ds p) = λ e. cc
            none_last file (tree.inline on ds braces p) = tt

    pub inlined_project : (s : SelectedOf) → Selected rs es s → (name : NameOf Span) (directives : List (DirectiveOf Span)) (place : Span) → s.selection.label ≡ tree.spread name directives place → f.name.text ≡ name.text → (with_fragment : Bool) →
        (with_fragment ≡ true → (t : SelectedOf) → Selected rs es t → IsLastSpread (Some f.name.text) (spread_at s.file place true) t.file t.selection.label) → Restates static roots trees (rewritten_from (inlining (spread_at s.file place with_fragment)) 0 trees)
    inlined_project s selects name directives place label named with_fragment last =
        inline_restates static roots trees (if with_fragment then Some f.name.text else None) (spread_at s.file place with_fragment) sound (can_inline s selects name directives place label named with_fragment last).0
