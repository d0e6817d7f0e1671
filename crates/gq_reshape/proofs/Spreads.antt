-- Where a project has one spread of a fragment, any two are one.
use Rattle.std.proofs.Common.{◌≡◌, ℕ, suc, ◌+◌, Bool, true, false, List, [], ◌∷◌, length, map, flat_map, Contains, refl, sym, ap, ◌∙◌, subst, arith}
use Rattle.std.specs.Prelude.{if◌then◌else◌}
use Rattle.std.specs.List.{filter}
use Rattle.std.specs.Str.{bytes_eq}
use Rattle.std.proofs.lemmas.List.{length-append}
use Rattle.gq_text.specs.declared.place.Span.{Span}
use Rattle.gq_tree.specs.Forest.{labels}
use Rattle.gq_tree.specs.Names.{spread_name}
use Rattle.gq_tree.specs.Plain as tree
use Rattle.gq_tree.specs.Plain.{NameOf, DirectiveOf, Head, Def, operation, fragment, type_system}
use Rattle.gq_tree.specs.Readings.{ParsedOf}
use Rattle.gq_types.specs.Entries.{Text, EntryOf}
use Rattle.gq_types.proofs.Gathered.{nothing_in, only, from_flat, to_flat, to_map, to_filter}
use Rattle.gq_document.specs.Definitions.{OperationOf, FragmentOf, operation_in, fragment_in, operations_of, fragments_of}
use Rattle.gq_document.specs.Selections.{SelectedOf, of_operation, of_fragment}
use Rattle.gq_index.specs.declared.occurrence.Occurrence.{Occurrence}
use Rattle.gq_index.specs.Occurrences.{DefinitionOf, executables, spreads_in, called, occurrences_of, fragment_spreads}
use Rattle.gq_meaning.proofs.TextLemmas.{text_same}
use Rattle.gq_laws.proofs.Rewriting.Executables.{Selected}
use Rattle.gq_laws.proofs.Renaming.ExecutableLemmas.{fragments_same, operations_same}
use Rattle.gq_reshape.proofs.Promised.{label_in}

-- a selection, and the number of its document
abbrev pub Placed : Type 0
Placed = ℕ × Head Span

abbrev is_of_name : Text → Head Span → Bool
is_of_name text (tree.field alias name arguments directives braces place) = false
is_of_name text (tree.spread name directives place) = bytes_eq text name.text
is_of_name text (tree.inline on directives braces place) = false

abbrev is_of : Text → Placed → Bool
is_of text p = is_of_name text p.1

-- the spreads of that name among selections, and in a definition
abbrev hits : Text → ℕ → List (Head Span) → List Placed
hits text file heads = filter (is_of text) (map (λ (h : Head Span). (file, h)) heads)

abbrev heads_in : Def Span → List (Head Span)
heads_in (operation kind name variables directives set braces place) = labels set
heads_in (fragment name on directives set braces place) = labels set
heads_in (type_system definition) = []

hits_count : (text : Text) (file : ℕ) (heads : List (Head Span)) → length (occurrences_of file text (flat_map spread_name heads)) ≡ length (hits text file heads)
hits_count text file [] = refl
hits_count text file (tree.field alias name arguments directives braces place ∷ heads) = hits_count text file heads
hits_count text file (tree.inline on directives braces place ∷ heads) = hits_count text file heads
hits_count text file (tree.spread name directives place ∷ heads) = by (bytes_eq text name.text) (hits_count text file heads)
  where
    by : (b : Bool) → length (occurrences_of file text (flat_map spread_name heads)) ≡ length (hits text file heads) →
        length (map (λ (n : NameOf Span). let o : Occurrence = record { file = file; span = n.place } in o) (if b then name ∷ called text (flat_map spread_name heads) else called text (flat_map spread_name heads)))
        ≡ length (if b then (file, tree.spread name directives place) ∷ hits text file heads else hits text file heads)
    by true e = ap suc e
    by false e = e

abbrev in_definition : Text → DefinitionOf → List Placed
in_definition text d = hits text d.file (heads_in d.definition)

definition_count : (text : Text) (file : ℕ) (d : Def Span) → length (occurrences_of file text (spreads_in d)) ≡ length (hits text file (heads_in d))
definition_count text file (operation kind name variables directives set braces place) = hits_count text file (labels set)
definition_count text file (fragment name on directives set braces place) = hits_count text file (labels set)
definition_count text file (type_system definition) = refl

spread_count : (text : Text) (ds : List DefinitionOf) → length (fragment_spreads ds text) ≡ length (flat_map (in_definition text) ds)
spread_count text [] = refl
spread_count text (d ∷ ds) =
    length-append (occurrences_of d.file text (spreads_in d.definition)) (fragment_spreads ds text)
    ∙ ap (λ (n : ℕ). n + length (fragment_spreads ds text)) (definition_count text d.file d.definition)
    ∙ ap (λ (n : ℕ). length (in_definition text d) + n) (spread_count text ds)
    ∙ sym (length-append (in_definition text d) (flat_map (in_definition text) ds))

-- of a list of one item any two are one
one_item : {A : Type 0} (xs : List A) → length xs ≡ 1 → (x y : A) → Contains xs x → Contains xs y → x ≡ y
one_item [] e x y c d = nothing_in x c
one_item (z ∷ []) e x y c d = only z x c ∙ sym (only z y d)
one_item (z ∷ w ∷ xs) e x y c d = absurd (omega (arith, e))

module _ (rs : List ParsedOf) (es : List EntryOf) (text : Text) where
  placed_in : (d : DefinitionOf) → Contains (executables rs) d → (h : Head Span) → Contains (heads_in d.definition) h → is_of_name text h ≡ true → Contains (flat_map (in_definition text) (executables rs)) (d.file, h)
  placed_in d there h c e =
      to_flat (in_definition text) (executables rs) d (d.file, h) there
      (to_filter (is_of text) (map (λ (h : Head Span). (d.file, h)) (heads_in d.definition)) (d.file, h) (to_map (λ (h : Head Span). (d.file, h)) (heads_in d.definition) h c) e)

  of_file : (file k : ℕ) (h : Head Span) → file ≡ k → Contains (flat_map (in_definition text) (executables rs)) (k, h) → Contains (flat_map (in_definition text) (executables rs)) (file, h)
  of_file file k h e c = subst (λ (n : ℕ). Contains (flat_map (in_definition text) (executables rs)) (n, h)) (sym e) c

  operation_placed : (o : OperationOf) → Contains (operations_of rs) o → (h : Head Span) → Contains (labels o.set) h → is_of_name text h ≡ true → Contains (flat_map (in_definition text) (executables rs)) (o.file, h)
  operation_placed o c h there e =
      let w = from_flat (λ (d : DefinitionOf). operation_in d.file d.definition) (executables rs) o (subst (λ (l : List OperationOf). Contains l o) (sym (operations_same rs)) c) in
      by w.0 w.0.definition refl w.1 w.2
    where
      by : (d : DefinitionOf) (x : Def Span) → d.definition ≡ x → Contains (executables rs) d → Contains (operation_in d.file d.definition) o → Contains (flat_map (in_definition text) (executables rs)) (o.file, h)
      by d (operation kind name variables directives set braces place) q m i =
          let own : OperationOf = record { file = d.file; kind = kind; name = name; variables = variables; directives = directives; set = set; braces = braces; place = place } in
          let same : o ≡ own = only own o (subst (λ (x : Def Span). Contains (operation_in d.file x) o) q i) in
          let inside : Contains (labels set) h = subst (λ (p : OperationOf). Contains (labels p.set) h) same there in
          of_file o.file d.file h (ap (λ (p : OperationOf). p.file) same) (placed_in d m h (subst (λ (x : Def Span). Contains (heads_in x) h) (sym q) inside) e)
      by d (fragment name on directives set braces place) q m i = nothing_in o (subst (λ (x : Def Span). Contains (operation_in d.file x) o) q i)
      by d (type_system definition) q m i = nothing_in o (subst (λ (x : Def Span). Contains (operation_in d.file x) o) q i)

  fragment_placed : (f : FragmentOf) → Contains (fragments_of rs) f → (h : Head Span) → Contains (labels f.set) h → is_of_name text h ≡ true → Contains (flat_map (in_definition text) (executables rs)) (f.file, h)
  fragment_placed f c h there e =
      let w = from_flat (λ (d : DefinitionOf). fragment_in d.file d.definition) (executables rs) f (subst (λ (l : List FragmentOf). Contains l f) (sym (fragments_same rs)) c) in
      by w.0 w.0.definition refl w.1 w.2
    where
      by : (d : DefinitionOf) (x : Def Span) → d.definition ≡ x → Contains (executables rs) d → Contains (fragment_in d.file d.definition) f → Contains (flat_map (in_definition text) (executables rs)) (f.file, h)
      by d (fragment name on directives set braces place) q m i =
          let own : FragmentOf = record { file = d.file; name = name; on = on; directives = directives; set = set; braces = braces; place = place } in
          let same : f ≡ own = only own f (subst (λ (x : Def Span). Contains (fragment_in d.file x) f) q i) in
          let inside : Contains (labels set) h = subst (λ (p : FragmentOf). Contains (labels p.set) h) same there in
          of_file f.file d.file h (ap (λ (p : FragmentOf). p.file) same) (placed_in d m h (subst (λ (x : Def Span). Contains (heads_in x) h) (sym q) inside) e)
      by d (operation kind name variables directives set braces place) q m i = nothing_in f (subst (λ (x : Def Span). Contains (fragment_in d.file x) f) q i)
      by d (type_system definition) q m i = nothing_in f (subst (λ (x : Def Span). Contains (fragment_in d.file x) f) q i)

  selected_placed : (s : SelectedOf) → Selected rs es s → is_of_name text s.selection.label ≡ true → Contains (flat_map (in_definition text) (executables rs)) (s.file, s.selection.label)
  selected_placed s (of_operation {o = o} c w) e = of_file s.file o.file s.selection.label w.0 (operation_placed o c s.selection.label (label_in w.1) e)
  selected_placed s (of_fragment {f = f} c w) e = of_file s.file f.file s.selection.label w.0 (fragment_placed f c s.selection.label (label_in w.1) e)

  -- Two spreads of the name are one, where the project has one.
  pub one_spread : length (fragment_spreads (executables rs) text) ≡ 1 → (s t : SelectedOf) → Selected rs es s → Selected rs es t → (n m : NameOf Span) (ds fs : List (DirectiveOf Span)) (p q : Span) → s.selection.label ≡ tree.spread n ds p → t.selection.label ≡ tree.spread m fs q →
      n.text ≡ text → m.text ≡ text → (s.file ≡ t.file) × (p ≡ q)
  one_spread one s t c d n m ds fs p q e f a b =
      let hit : is_of_name text s.selection.label ≡ true = ap (is_of_name text) e ∙ text_same text n.text (sym a) in
      let too : is_of_name text t.selection.label ≡ true = ap (is_of_name text) f ∙ text_same text m.text (sym b) in
      let same : ◌≡◌ {A = Placed} (s.file, s.selection.label) (t.file, t.selection.label) =
      one_item (flat_map (in_definition text) (executables rs)) (sym (spread_count text (executables rs)) ∙ one) (s.file, s.selection.label) (t.file, t.selection.label) (selected_placed s c hit) (selected_placed t d too) in
      let heads : tree.spread n ds p ≡ tree.spread m fs q = sym e ∙ ap (λ (x : Placed). x.1) same ∙ f in
      (ap (λ (x : Placed). x.0) same, cc)
