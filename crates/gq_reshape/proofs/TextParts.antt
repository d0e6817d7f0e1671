-- Where the selections and fragments of a project stand in its texts: they cut no character, and do not overlap.
use Rattle.std.proofs.Common.{◌≡◌, ◌⊎◌, inl, inr, ℕ, zero, suc, ◌+◌, ◌<◌, ◌≤◌, List, [], ◌∷◌, Option, Some, Contains, slice_get, refl, sym, ap, ◌∙◌, subst, arith, IsUtf8}
use Rattle.std.specs.List.{AllByRecursion}
use Rattle.gq_text.specs.declared.place.Span.{Span}
use Rattle.gq_tree.specs.Readings as reading
use Rattle.gq_tree.specs.Plain as tree
use Rattle.gq_tree.specs.Plain.{NameOf, DirectiveOf, Head, Sel, Sels, Def, operation, fragment, type_system}
use Rattle.gq_tree.specs.Readings.{ParsedOf, definitions_read}
use Rattle.gq_project.specs.declared.document.Doc.{Doc}
use Rattle.gq_parse.specs.Parsed.{IsParsed, AreParsed}
use Rattle.gq_parse.specs.Parsed as readings
use Rattle.gq_types.specs.Entries.{Text, EntryOf}
use Rattle.gq_types.proofs.Gathered.{to_map}
use Rattle.gq_document.specs.Definitions.{FragmentOf, fragments_of}
use Rattle.gq_document.specs.Selections.{SelectedOf, IsSelectionWithin, here, within, after, of_operation, of_fragment}
use Rattle.gq_meaning.specs.Acyclic.{IsRanked}
use Rattle.gq_meaning.specs.Thin.{IsIn}
use Rattle.gq_rewritten.specs.Rewrites.{head_place, executable_place}
use Rattle.gq_rename.specs.Sound.{AreUtf8}
use Rattle.gq_laws.specs.Rewriting.Documents.{definitions_of}
use Rattle.gq_laws.specs.Rewriting.Edits.{IsSpreadOther}
use Rattle.gq_laws.specs.Rewriting.KnownBefore.{Each}
use Rattle.gq_laws.specs.Rewriting.Parts.{IsPartOf, HeadFits, DefinitionFits}
use Rattle.gq_laws.specs.Rewriting.Places.{AreNested, AreInPlace}
use Rattle.gq_laws.specs.Rewriting.Statics.{seen_fragment}
use Rattle.gq_laws.proofs.Rewriting.Cuts.{trees_cut_no_character}
use Rattle.gq_laws.proofs.Rewriting.Executables.{trees_read, is_in, fragments_seen, Selected, StandsIn, operation_def, fragment_def, operation_stands, fragment_stands}
use Rattle.gq_laws.proofs.Rewriting.Goes.{ranked_other}
use Rattle.gq_laws.proofs.Rewriting.Projects.{project_in_place}

-- ---- selections within selections

each_within : {es : List EntryOf} (P : Head Span → Type 0) {parent inner : Option Text} {sels : Sels Span} {s : Sel Span} → IsSelectionWithin es parent sels inner s → Each P sels → P s.label
each_within P here all = all.0
each_within P (within w) all = each_within P w all.1
each_within P (after w) all = each_within P w all.2

abbrev StandsWithin : ℕ → ℕ → Span → Type 0
StandsWithin from to place = (from ≤ place.start) × (place.start < place.end) × (place.end ≤ to)

place_within : {es : List EntryOf} {parent inner : Option Text} {sels : Sels Span} {s : Sel Span} (from to : ℕ) → IsSelectionWithin es parent sels inner s → AreNested from to sels → StandsWithin from to (head_place s.label)
place_within from to here nested = (nested.0, nested.1, nested.2)
place_within from to (within {head = head} w) nested =
    let i = place_within ((head_place head).start + 1) (head_place head).end w nested.3 in
    let a = nested.0 in let b = nested.2 in let c = i.0 in let d = i.2 in (omega (arith, a, c), i.1, omega (arith, b, d))
place_within from to (after {head = head} w) nested =
    let i = place_within (head_place head).end to w nested.4 in
    let a = nested.0 in let b = nested.1 in let c = i.0 in (omega (arith, a, b, c), i.1, i.2)

-- ---- the parts of a project's texts

definitions_fit : (document : Doc) (r : ParsedOf) → IsUtf8 document.text → IsParsed document.text r → AllByRecursion (DefinitionFits document.text) (definitions_read r)
definitions_fit document (reading.tree d) utf8 h = trees_cut_no_character document.text (definitions_read (reading.tree d)) utf8 h
definitions_fit document (reading.syntax place) utf8 h = tt
definitions_fit document (reading.limit place) utf8 h = tt

project_fits : {documents : List Doc} {rs : List ParsedOf} → AreParsed documents rs → AreUtf8 documents → (file : ℕ) (document : Doc) → slice_get documents file ≡ Some document → (tree : List (Def Span)) → slice_get (trees_read rs) file ≡ Some tree →
    AllByRecursion (DefinitionFits document.text) tree
project_fits readings.none utf8 file document e tree t = absurd (cc)
project_fits (readings.more {document = x} {one = one} h hs) utf8 zero document e tree t =
    let same : x ≡ document = cc in
    let read : definitions_read one ≡ tree = cc in
    let F : Doc → Type 0 = λ d. AllByRecursion (DefinitionFits d.text) tree in
    subst F same (subst (AllByRecursion (DefinitionFits x.text)) read (definitions_fit x one utf8.0 h))
project_fits (readings.more h hs) utf8 (suc file) document e tree t = project_fits hs utf8.1 file document e tree t

at_in : {X : Type 0} (P : X → Type 0) (xs : List X) (x : X) → AllByRecursion P xs → IsIn x xs → P x
at_in P [] x all m = absurd m
at_in P (y ∷ xs) x all (inl e) = subst P (sym e) all.0
at_in P (y ∷ xs) x all (inr m) = at_in P xs x all.1 m

module _ (documents : List Doc) (rs : List ParsedOf) (are : AreParsed documents rs) (utf8 : AreUtf8 documents) where
  definition_fits : (file : ℕ) (document : Doc) → slice_get documents file ≡ Some document → (d : Def Span) → StandsIn (trees_read rs) file d → DefinitionFits document.text d
  definition_fits file document e d s = at_in (DefinitionFits document.text) s.tree d (project_fits are utf8 file document e s.tree s.is_tree) s.stands

  pub fragment_fits : (f : FragmentOf) → Contains (fragments_of rs) f → (home : Doc) → slice_get documents f.file ≡ Some home → IsPartOf home.text f.place × IsPartOf home.text f.braces
  fragment_fits f c home e = let i = definition_fits f.file home e (fragment_def f) (fragment_stands rs f c) in (i.0, i.1)

  pub selection_fits : (es : List EntryOf) (s : SelectedOf) → Selected rs es s → (document : Doc) → slice_get documents s.file ≡ Some document → HeadFits document.text s.selection.label
  selection_fits es s (of_operation {o = o} c w) document e =
      let i = definition_fits o.file document (sym (ap (slice_get documents) w.0) ∙ e) (operation_def o) (operation_stands rs o c) in
      each_within (HeadFits document.text) w.1 i
  selection_fits es s (of_fragment {f = f} c w) document e =
      let i = definition_fits f.file document (sym (ap (slice_get documents) w.0) ∙ e) (fragment_def f) (fragment_stands rs f c) in
      each_within (HeadFits document.text) w.1 i.2

-- ---- definitions one after the other

abbrev NestedIn : Def Span → Type 0
NestedIn (operation kind name variables directives set braces place) = AreNested place.start place.end set
NestedIn (fragment name on directives set braces place) = AreNested place.start place.end set
NestedIn (type_system definition) = Unit {0}

first_nested : (from : ℕ) (d : Def Span) (ds : List (Def Span)) → AreInPlace from (d ∷ ds) → NestedIn d
first_nested from (operation kind name variables directives set braces place) ds all = all.2
first_nested from (fragment name on directives set braces place) ds all = all.2
first_nested from (type_system definition) ds all = tt

first_place : (from : ℕ) (d : Def Span) (ds : List (Def Span)) → AreInPlace from (d ∷ ds) → (p : Span) → executable_place d ≡ Some p → (from ≤ p.start) × (p.start < p.end) × AreInPlace p.end ds
first_place from (operation kind name variables directives set braces place) ds all p e =
    let same : place ≡ p = cc in subst (λ (z : Span). (from ≤ z.start) × (z.start < z.end) × AreInPlace z.end ds) same (all.0, all.1, all.3)
first_place from (fragment name on directives set braces place) ds all p e =
    let same : place ≡ p = cc in subst (λ (z : Span). (from ≤ z.start) × (z.start < z.end) × AreInPlace z.end ds) same (all.0, all.1, all.3)
first_place from (type_system definition) ds all p e = absurd (cc)

rest_place : (from : ℕ) (d : Def Span) (ds : List (Def Span)) → AreInPlace from (d ∷ ds) → (next : ℕ) × (from ≤ next) × AreInPlace next ds
rest_place from (operation kind name variables directives set braces place) ds all = let a = all.0 in let b = all.1 in (place.end, omega (arith, a, b), all.3)
rest_place from (fragment name on directives set braces place) ds all = let a = all.0 in let b = all.1 in (place.end, omega (arith, a, b), all.3)
rest_place from (type_system definition) ds all = (from, omega arith, all)

nested_in : (from : ℕ) (ds : List (Def Span)) → AreInPlace from ds → (d : Def Span) → IsIn d ds → NestedIn d
nested_in from [] all d m = absurd m
nested_in from (x ∷ ds) all d (inl e) = subst NestedIn (sym e) (first_nested from x ds all)
nested_in from (x ∷ ds) all d (inr m) = let n = rest_place from x ds all in nested_in n.0 ds n.2 d m

behind : (from : ℕ) (ds : List (Def Span)) → AreInPlace from ds → (d : Def Span) → IsIn d ds → (p : Span) → executable_place d ≡ Some p → (from ≤ p.start) × (p.start < p.end)
behind from [] all d m p e = absurd m
behind from (x ∷ ds) all d (inl q) p e = let i = first_place from x ds all p (ap executable_place (sym q) ∙ e) in (i.0, i.1)
behind from (x ∷ ds) all d (inr m) p e = let n = rest_place from x ds all in let i = behind n.0 ds n.2 d m p e in let low = i.0 in let rises = n.1 in (omega (arith, low, rises), i.1)

abbrev AreApart : Span → Span → Type 0
AreApart p q = (p.end ≤ q.start) ⊎ (q.end ≤ p.start)

definitions_apart : (from : ℕ) (ds : List (Def Span)) → AreInPlace from ds → (d d' : Def Span) → IsIn d ds → IsIn d' ds → (p q : Span) → executable_place d ≡ Some p → executable_place d' ≡ Some q → (d ≡ d') ⊎ AreApart p q
definitions_apart from [] all d d' m m' p q e e' = absurd m
definitions_apart from (x ∷ ds) all d d' (inl a) (inl b) p q e e' = inl (a ∙ sym b)
definitions_apart from (x ∷ ds) all d d' (inl a) (inr b) p q e e' = inr (inl (behind p.end ds (first_place from x ds all p (ap executable_place (sym a) ∙ e)).2 d' b q e').0)
definitions_apart from (x ∷ ds) all d d' (inr a) (inl b) p q e e' = inr (inr (behind q.end ds (first_place from x ds all q (ap executable_place (sym b) ∙ e')).2 d a p e).0)
definitions_apart from (x ∷ ds) all d d' (inr a) (inr b) p q e e' = let n = rest_place from x ds all in definitions_apart n.0 ds n.2 d d' a b p q e e'

-- ---- a spread and its fragment do not overlap

module _ (documents : List Doc) (rs : List ParsedOf) (are : AreParsed documents rs) (rank : Text → ℕ) (ranked : IsRanked rank (definitions_of (trees_read rs))) (f : FragmentOf) (stands : Contains (fragments_of rs) f) where
  home : StandsIn (trees_read rs) f.file (fragment_def f)
  home = fragment_stands rs f stands

  pub no_other : Each (IsSpreadOther (Some f.name.text)) f.set
  no_other =
      let c : Contains (definitions_of (trees_read rs)) (seen_fragment f) = subst (λ ds. Contains ds (seen_fragment f)) (sym (fragments_seen rs)) (to_map seen_fragment (fragments_of rs) f stands) in
      ranked_other rank f.name.text f.place.start f.place.end f.set (ranked.each (seen_fragment f) (is_in (seen_fragment f) (definitions_of (trees_read rs)) c))
      (nested_in 0 home.tree (project_in_place are f.file home.tree home.is_tree) (fragment_def f) home.stands)

  pub fragment_some : f.place.start < f.place.end
  fragment_some = (behind 0 home.tree (project_in_place are f.file home.tree home.is_tree) (fragment_def f) home.stands f.place refl).1

  -- no spread of it stands in it
  not_in_it : {es : List EntryOf} {parent inner : Option Text} {s : Sel Span} → IsSelectionWithin es parent f.set inner s → (name : NameOf Span) (directives : List (DirectiveOf Span)) (place : Span) → s.label ≡ tree.spread name directives place → f.name.text ≡ name.text → ⊥
  not_in_it w name directives place is named =
      let other : IsSpreadOther (Some f.name.text) (tree.spread name directives place) = subst (IsSpreadOther (Some f.name.text)) is (each_within (IsSpreadOther (Some f.name.text)) w no_other) in
      other (ap Some named)

  within_apart : (p q r : Span) → StandsWithin p.start p.end r → AreApart p q → AreApart r q
  within_apart p q r w (inl a) = let d = w.2 in inl (omega (arith, a, d))
  within_apart p q r w (inr a) = let b = w.0 in inr (omega (arith, a, b))

  pub spread_apart : (es : List EntryOf) (s : SelectedOf) → Selected rs es s → (name : NameOf Span) (directives : List (DirectiveOf Span)) (place : Span) → s.selection.label ≡ tree.spread name directives place → f.name.text ≡ name.text → f.file ≡ s.file → AreApart place f.place
  spread_apart es s (of_operation {o = o} c w) name directives place is named same =
      let t = operation_stands rs o c in
      let one : t.tree ≡ home.tree = let e : Some home.tree ≡ Some t.tree = sym home.is_tree ∙ ap (slice_get (trees_read rs)) (same ∙ w.0) ∙ t.is_tree in cc in
      let all = project_in_place are o.file t.tree t.is_tree in
      let at : head_place s.selection.label ≡ place = ap head_place is in
      let inside : StandsWithin o.place.start o.place.end place = subst (StandsWithin o.place.start o.place.end) at (place_within o.place.start o.place.end w.1 (nested_in 0 t.tree all (operation_def o) t.stands)) in
      elim (definitions_apart 0 t.tree all (operation_def o) (fragment_def f) t.stands (subst (IsIn (fragment_def f)) (sym one) home.stands) o.place f.place refl refl) [
        | inl e ↦ absurd (cc)
        | inr a ↦ within_apart o.place f.place place inside a
      ]
  spread_apart es s (of_fragment {f = g} c w) name directives place is named same =
      let t = fragment_stands rs g c in
      let one : t.tree ≡ home.tree = let e : Some home.tree ≡ Some t.tree = sym home.is_tree ∙ ap (slice_get (trees_read rs)) (same ∙ w.0) ∙ t.is_tree in cc in
      let all = project_in_place are g.file t.tree t.is_tree in
      let at : head_place s.selection.label ≡ place = ap head_place is in
      let inside : StandsWithin g.place.start g.place.end place = subst (StandsWithin g.place.start g.place.end) at (place_within g.place.start g.place.end w.1 (nested_in 0 t.tree all (fragment_def g) t.stands)) in
      elim (definitions_apart 0 t.tree all (fragment_def g) (fragment_def f) t.stands (subst (IsIn (fragment_def f)) (sym one) home.stands) g.place f.place refl refl) [
        | inl e ↦ let sets : g.set ≡ f.set = cc in absurd (not_in_it (subst (λ (z : Sels Span). IsSelectionWithin es (Some g.on.text) z s.parent s.selection) sets w.1) name directives place is named)
        | inr a ↦ within_apart g.place f.place place inside a
      ]
