-- An inline fragment that says nothing is opened: every response stays.
use Rattle.std.proofs.Common.{◌≡◌, inl, inr, ℕ, Bool, true, false, List, [], ◌∷◌, Option, Some, None, map, refl, sym, ap, ◌∙◌, subst, nat_eq}
use Rattle.std.specs.Prelude.{◌||◌, not, if◌then◌else◌}
use Rattle.std.specs.Option.{option_map_or}
use Rattle.std.specs.Str.{bytes_eq}
use Rattle.gq_text.specs.declared.place.Span.{Span}
use Rattle.gq_tree.specs.Plain.{NameOf, DirectiveOf, inline}
use Rattle.gq_project.specs.declared.document.Doc.{Doc}
use Rattle.gq_tree.specs.Readings.{ParsedOf}
use Rattle.gq_parse.specs.Parsed.{AreParsed}
use Rattle.gq_types.specs.Entries.{Text, EntryOf}
use Rattle.gq_types.proofs.Gathered.{and_parts, or_cases}
use Rattle.gq_document.specs.Selections.{SelectedOf}
use Rattle.gq_meaning.proofs.TextLemmas.{same_text}
use Rattle.gq_rewritten.specs.Rewrites.{head_place, Rewrite, DefinitionPlace, rewritten_from}
use Rattle.gq_laws.specs.Rewriting.KnownBefore.{SaysNothing}
use Rattle.gq_laws.specs.Rewriting.Documents.{Restates}
use Rattle.gq_laws.specs.Rewriting.Edits.{removal}
use Rattle.gq_laws.specs.Rewriting.Statics.{static_of, roots_in}
use Rattle.gq_laws.proofs.Rewriting.Executables.{Selected}
use Rattle.gq_laws.proofs.Rewriting.Projects.{removed_project}
use Rattle.gq_select.specs.Meant.{is_inline, document_sets}
use Rattle.gq_reshape.specs.declared.placed.PlacedReplacement.{PlacedReplacement}
use Rattle.gq_reshape.specs.Placed.{replacements_in}
use Rattle.gq_reshape.specs.Asks.{RangeAsk, tree_at}
use Rattle.gq_reshape.specs.Inline.{has_directive}
use Rattle.gq_reshape.specs.Remove.{Removal, is_parents_type, says_nothing, remove_cut, IsNotRedundant}
use Rattle.gq_reshape.specs.Helping.Rereading.{is_edited}
use Rattle.gq_reshape.proofs.Changed.{IsKeeping, it_holds, selected_holds}
use Rattle.gq_reshape.proofs.Promised.{Promised}
use Rattle.gq_reshape.proofs.RunStands.{same_number}
use Rattle.gq_reshape.proofs.SameEntries.{trees_read, from_first}
use Rattle.gq_reshape.proofs.Standing.{meant_stands, selected_asked}

-- a replacement in another document
pub other_document : (p : PlacedReplacement) (replacements : List PlacedReplacement) (k : ℕ) → nat_eq p.file k ≡ false → replacements_in (p ∷ replacements) k ≡ replacements_in replacements k
other_document p replacements k e = ap (λ (b : Bool). map (λ (x : PlacedReplacement). x.replacement) (if b then p ∷ Rattle.std.specs.List.filter (λ (x : PlacedReplacement). nat_eq x.file k) replacements else Rattle.std.specs.List.filter (λ (x : PlacedReplacement). nat_eq x.file k) replacements)) e

pub neither : (a b : Bool) → (a || b) ≡ false → (a ≡ false) × (b ≡ false)
neither false b e = (refl, e)
neither true b e = absurd (cc)

-- with nothing dropped
pub edited_there : (r : Rewrite) (k : ℕ) → r.dropped ≡ None → is_edited r k ≡ true → r.file ≡ k
edited_there r k none e = elim (or_cases (nat_eq r.file k) (option_map_or (λ d. nat_eq d.file k) r.dropped false) e) [
  | inl h ↦ same_number r.file k h
  | inr h ↦ let bad : false ≡ true = sym (ap (λ (o : Option DefinitionPlace). option_map_or (λ (d : DefinitionPlace). nat_eq d.file k) o false) none) ∙ h in absurd (cc)
]

not_false : (b : Bool) → (b ≡ false → ⊥) → b ≡ true
not_false true h = refl
not_false false h = absurd (h refl)

no_directive : (ds : List (DirectiveOf Span)) → not (has_directive ds) ≡ true → ds ≡ []
no_directive [] e = refl
no_directive (d ∷ ds) e = absurd (cc)

nothing_said : (on : Option (NameOf Span)) (directives : List (DirectiveOf Span)) (braces place : Span) (p : Text) → says_nothing on directives (Some p) ≡ true → SaysNothing p (inline on directives braces place)
nothing_said None directives braces place p e = (no_directive directives (and_parts (not (has_directive directives)) (is_parents_type None (Some p)) e).0, tt)
nothing_said (Some on) directives braces place p e =
    let parts = and_parts (not (has_directive directives)) (is_parents_type (Some on) (Some p)) e in
    (no_directive directives parts.0, sym (same_text p on.text parts.1))

module _ (documents : List Doc) (ask : RangeAsk) (rs : List ParsedOf) (are : AreParsed documents rs) (es : List EntryOf) (promise : Promised es rs) where
  -- what is removed, as a selection of the project whose parent has a known type
  pub record RemovalStands (r : Removal documents es rs ask) : Type 0 where
    pub selects : Selected rs es (record { file = r.file; parent = r.selected.parent; selection = r.selected.selection })
    pub parent : Text
    pub is_parent : r.selected.parent ≡ Some parent
    pub says : SaysNothing parent r.selected.selection.label

  pub removal_stands : (r : Removal documents es rs ask) → (IsNotRedundant documents es rs ask → ⊥) → RemovalStands r
  removal_stands r redundant =
      let s : SelectedOf = record { file = r.file; parent = r.selected.parent; selection = r.selected.selection } in
      let selects : Selected rs es s = selected_asked es rs r.file r.selected (meant_stands is_inline ask.range (document_sets es (tree_at rs r.file)) r.selected r.is_meant) in
      let p = promise.known s selects in
      let says : says_nothing r.on r.directives r.selected.parent ≡ true = not_false (says_nothing r.on r.directives r.selected.parent) (λ e. redundant (record { removal = r; says = e })) in
      let said : SaysNothing p.0 (inline r.on r.directives r.braces r.place) =
      nothing_said r.on r.directives r.braces r.place p.0 (subst (λ (z : Option Text). says_nothing r.on r.directives z ≡ true) p.1 says) in
      record { selects = selects; parent = p.0; is_parent = p.1; says = subst (SaysNothing p.0) (sym r.is_inline) said }

  pub removed_keeping : (r : Removal documents es rs ask) → (IsNotRedundant documents es rs ask → ⊥) → IsKeeping es rs (remove_cut r)
  removed_keeping r redundant =
      let s : SelectedOf = record { file = r.file; parent = r.selected.parent; selection = r.selected.selection } in
      let w = removal_stands r redundant in
      let place : head_place r.selected.selection.label ≡ r.place = ap head_place r.is_inline in
      let R : Span → Type 0 = λ z. Restates (static_of es) (roots_in es) (trees_read rs) (rewritten_from (removal r.file z) 0 (trees_read rs)) in
      record {
        quiet = λ k e. other_document _ [] k (neither (nat_eq r.file k) false e).0;
        added = tt;
        some = from_first (remove_cut r).rewrite (trees_read rs) (λ i tree there e. it_holds (trees_read rs) r.file i (selected_holds es rs s w.selects) tree there (edited_there (remove_cut r).rewrite i refl e));
        restates = subst R place (removed_project documents rs are es promise.rooted promise.known promise.defined s w.selects w.parent w.is_parent w.says);
      }
