-- What is told of a name, by the places at which it is defined: of a fragment the first stands in the document of the first place, and of a variable a definition has one
-- where it has a place.
use Rattle.std.proofs.Common.{◌≡◌, ℕ, ◌<◌, Bool, true, false, cond, List, [], ◌∷◌, ◌++◌, Option, Some, None, All, length, ◌==◌, map, filter, take, slice_get}
use Rattle.std.proofs.Common.{refl, sym, ap, subst, ◌∙◌, arith, eqb-true}
use Rattle.std.specs.Prelude.{find, bytes_eq, option_and_then}
use Rattle.std.specs.Option.{option_map, option_map_or, option_or}
use Rattle.std.proofs.lemmas.List.{map-append}
use Rattle.std.proofs.lemmas.List.Concat.{flat_map-append}
use Rattle.std.proofs.lemmas.List.Elements.{All-nil, All-append, All-head, All-tail, All-map, filter-append}
use Rattle.std.proofs.lemmas.Option.{same_Some}
use Rattle.gq_text.specs.declared.place.Span.{Span}
use Rattle.gq_tree.specs.Plain.{NameOf, VariableOf, Def, operation, fragment, type_system}
use Rattle.gq_tree.specs.Readings.{ParsedOf}
use Rattle.gq_types.specs.Entries.{Text}
use Rattle.gq_document.specs.Definitions.{FragmentOf, fragment_in}
use Rattle.gq_index.specs.declared.occurrence.Occurrence.{Occurrence}
use Rattle.gq_index.specs.Occurrences.{DefinitionOf, executables, fragment_name, fragment_definitions, called, occurrences_of, places_called, definitions_in, variable_definitions}
use Rattle.gq_index.specs.VariableGroups.{fragments_among}
use Rattle.gq_query.specs.Groups.{variable_in, variable_at}
use Rattle.gq_query.specs.Helping.Own.{own_definitions}
use Rattle.gq_query.specs.Words.{fragment_words, fragment_told}
use Rattle.gq_query.proofs.OwnDefinitions.{split}

-- fragments of a name
abbrev has_name : Text → FragmentOf → Bool
has_name text f = bytes_eq text f.name.text

abbrev named : Text → List DefinitionOf → List FragmentOf
named text ds = filter (has_name text) (fragments_among ds)

abbrev place_named : FragmentOf → Occurrence
place_named f = record { file = f.file; span = f.name.place }

abbrev place_in : ℕ → NameOf Span → Occurrence
place_in file n = record { file = file; span = n.place }

first_found : {X : Type 0} (p : X → Bool) (xs : List X) → find p xs ≡ slice_get (filter p xs) 0
first_found p [] = refl
first_found p (x ∷ xs) = by (p x) (first_found p xs)
  where
    by : (b : Bool) → find p xs ≡ slice_get (filter p xs) 0 → cond b (Some x) (find p xs) ≡ slice_get (cond b (x ∷ filter p xs) (filter p xs)) 0
    by true h = refl
    by false h = h

named_append : (text : Text) (before rest : List DefinitionOf) → named text (before ++ rest) ≡ named text before ++ named text rest
named_append text before rest =
    ap (filter (has_name text)) (flat_map-append (λ (d : DefinitionOf). fragment_in d.file d.definition) before rest)
    ∙ filter-append (has_name text) (fragments_among before) (fragments_among rest)

placed_one : (text : Text) (file : ℕ) (d : Def Span) → occurrences_of file text (fragment_name d) ≡ map place_named (filter (has_name text) (fragment_in file d))
placed_one text file (operation kind name variables directives set braces place) = refl
placed_one text file (fragment name on directives set braces place) = by (bytes_eq text name.text)
  where
    here : FragmentOf
    here = record { file = file; name = name; on = on; directives = directives; set = set; braces = braces; place = place }

    by : (b : Bool) → map (place_in file) (cond b (name ∷ []) []) ≡ map place_named (cond b (here ∷ []) [])
    by true = refl
    by false = refl
placed_one text file (type_system definition) = refl

placed : (text : Text) (ds : List DefinitionOf) → fragment_definitions ds text ≡ map place_named (named text ds)
placed text [] = refl
placed text (d ∷ ds) =
    let one = filter (has_name text) (fragment_in d.file d.definition) in
    ap (λ (l : List Occurrence). l ++ fragment_definitions ds text) (placed_one text d.file d.definition)
    ∙ ap (λ (l : List Occurrence). map place_named one ++ l) (placed text ds)
    ∙ sym (map-append place_named one (named text ds))
    ∙ ap (map place_named) (sym (filter-append (has_name text) (fragment_in d.file d.definition) (fragments_among ds)))

-- their places are in the documents of their definitions
files_of : (P : ℕ → Type 0) (text : Text) (ds : List DefinitionOf) → All (λ d. P d.file) ds → All (λ (o : Occurrence). P o.file) (fragment_definitions ds text)
files_of P text [] all = All-nil (λ (o : Occurrence). P o.file)
files_of P text (d ∷ ds) all =
    All-append (λ (o : Occurrence). P o.file) (occurrences_of d.file text (fragment_name d.definition)) (fragment_definitions ds text)
    (All-map (λ (o : Occurrence). P o.file) (place_in d.file) (called text (fragment_name d.definition))
    (λ k n below. All-head (λ (x : DefinitionOf). P x.file) d ds all))
    (files_of P text ds (All-tail (λ (x : DefinitionOf). P x.file) d ds all))

same_file : (f : FragmentOf) (o : Occurrence) → ◌≡◌ {A = Option Occurrence} (Some (place_named f)) (Some o) → f.file ≡ o.file
same_file f o e = let same : place_named f ≡ o = same_Some (place_named f) o e in ap (λ (x : Occurrence). x.file) same

file_of_first : (P : ℕ → Type 0) (text : Text) (ds : List DefinitionOf) (f : FragmentOf) (fs : List FragmentOf) → All (λ d. P d.file) ds → named text ds ≡ f ∷ fs → P f.file
file_of_first P text ds f fs all is =
    All-head (λ (o : Occurrence). P o.file) (place_named f) (map place_named fs)
    (subst (λ (l : List Occurrence). All (λ (o : Occurrence). P o.file) l) (placed text ds ∙ ap (map place_named) is) (files_of P text ds all))

-- the first one of all is the first of those in its document
module _ (file : ℕ) (text : Text) (before after : List DefinitionOf) (below : All (λ d. d.file < file) before) (above : All (λ d. file < d.file) after) (o : Occurrence) (stands : o.file ≡ file) where
  first_of_own : (xs ys zs : List FragmentOf) → named text before ≡ xs → named text after ≡ zs → slice_get (map place_named (xs ++ (ys ++ zs))) 0 ≡ Some o
      → slice_get (xs ++ (ys ++ zs)) 0 ≡ slice_get ys 0
  first_of_own (x ∷ xs) ys zs front back e =
      let low : x.file < file = file_of_first (λ n. n < file) text before x xs below front in
      let same = same_file x o e in
      absurd (omega (arith, low, same, stands))
  first_of_own [] (y ∷ ys) zs front back e = refl
  first_of_own [] [] (z ∷ zs) front back e =
      let high : file < z.file = file_of_first (λ n. file < n) text after z zs above back in
      let same = same_file z o e in
      absurd (omega (arith, high, same, stands))
  first_of_own [] [] [] front back e = absurd (cc)

pub fragment_in_document : (rs : List ParsedOf) (text : Text) (o : Occurrence) → slice_get (fragment_definitions (executables rs) text) 0 ≡ Some o
    → fragment_told (executables rs) text ≡ fragment_told (own_definitions o.file rs) text
fragment_in_document rs text o at =
    let s = split o.file rs in
    let before = executables (take o.file rs) in
    let own = own_definitions o.file rs in
    let parts : named text (executables rs) ≡ named text before ++ (named text own ++ named text s.after) =
    ap (named text) s.is ∙ named_append text before (own ++ s.after) ∙ ap (λ (l : List FragmentOf). named text before ++ l) (named_append text own s.after) in
    let first : slice_get (map place_named (named text before ++ (named text own ++ named text s.after))) 0 ≡ Some o =
    ap (λ (l : List FragmentOf). slice_get (map place_named l) 0) (sym parts) ∙ ap (λ (l : List Occurrence). slice_get l 0) (sym (placed text (executables rs))) ∙ at in
    let same = first_of_own o.file text before s.after s.below s.above o refl (named text before) (named text own) (named text s.after) refl refl first in
    ap (λ (f : Option FragmentOf). option_map (λ g. fragment_words g.name.text g.on.text) f)
    (first_found (has_name text) (fragments_among (executables rs))
    ∙ ap (λ (l : List FragmentOf). slice_get l 0) parts
    ∙ same
    ∙ sym (first_found (has_name text) (fragments_among own)))

-- nothing is told of one that is defined nowhere
pub fragment_nowhere : (ds : List DefinitionOf) (text : Text) → slice_get (fragment_definitions ds text) 0 ≡ None → None ≡ fragment_told ds text
fragment_nowhere ds text at =
    let none : slice_get (map place_named (named text ds)) 0 ≡ None = ap (λ (l : List Occurrence). slice_get l 0) (sym (placed text ds)) ∙ at in
    let nothing : slice_get (named text ds) 0 ≡ None = by (named text ds) none in
    ap (λ (f : Option FragmentOf). option_map (λ g. fragment_words g.name.text g.on.text) f) (sym nothing ∙ sym (first_found (has_name text) (fragments_among ds)))
  where
    by : (fs : List FragmentOf) → slice_get (map place_named fs) 0 ≡ None → slice_get fs 0 ≡ None
    by [] e = refl
    by (f ∷ fs) e = absurd (cc)

-- variables of a name
abbrev place_defined : VariableOf Span → Span
place_defined v = v.name.place

abbrev defined_at : Text → DefinitionOf → Option (VariableOf Span)
defined_at text d = variable_in text d.definition

first_place_in : (text : Text) (vs : List (VariableOf Span)) → option_map place_defined (find (λ v. bytes_eq text v.name.text) vs) ≡ slice_get (places_called text (map (λ v. v.name) vs)) 0
first_place_in text [] = refl
first_place_in text (v ∷ vs) = by (bytes_eq text v.name.text) (first_place_in text vs)
  where
    by : (b : Bool) → option_map place_defined (find (λ (u : VariableOf Span). bytes_eq text u.name.text) vs) ≡ slice_get (places_called text (map (λ (u : VariableOf Span). u.name) vs)) 0 →
        option_map place_defined (cond b (Some v) (find (λ (u : VariableOf Span). bytes_eq text u.name.text) vs))
        ≡ slice_get (map (λ (n : NameOf Span). n.place) (cond b (v.name ∷ called text (map (λ (u : VariableOf Span). u.name) vs)) (called text (map (λ (u : VariableOf Span). u.name) vs)))) 0
    by true h = refl
    by false h = h

place_in_definition : (text : Text) (d : Def Span) → option_map place_defined (variable_in text d) ≡ slice_get (definitions_in d text) 0
place_in_definition text (operation kind name variables directives set braces place) = first_place_in text variables
place_in_definition text (fragment name on directives set braces place) = refl
place_in_definition text (type_system definition) = refl

place_at : (ds : List DefinitionOf) (text : Text) (n : ℕ) → option_map place_defined (variable_at ds text n) ≡ slice_get (variable_definitions ds n text) 0
place_at ds text n = by (slice_get ds n)
  where
    by : (o : Option DefinitionOf) → option_map place_defined (option_and_then (defined_at text) o) ≡ slice_get (option_map_or (λ d. definitions_in d.definition text) o []) 0
    by None = refl
    by (Some d) = place_in_definition text d.definition

-- a definition that has no place of the name defines no such variable
pub defines_none : (ds : List DefinitionOf) (text : Text) (n : ℕ) (spans : List Span) → spans ≡ variable_definitions ds n text → (length spans == 0) ≡ true → variable_at ds text n ≡ None
defines_none ds text n [] are empty = by (variable_at ds text n) (place_at ds text n ∙ ap (λ (l : List Span). slice_get l 0) (sym are))
  where
    by : (o : Option (VariableOf Span)) → option_map place_defined o ≡ None → o ≡ None
    by None e = refl
    by (Some v) e = absurd (cc)
defines_none ds text n (s ∷ spans) are empty = absurd (let e = eqb-true (length (s ∷ spans)) 0 empty in omega (arith, e))

-- one that has a place defines one, which is the first of that definition and any behind it
pub defines_one : (ds : List DefinitionOf) (text : Text) (n : ℕ) (rest : Option (VariableOf Span)) (spans : List Span) → spans ≡ variable_definitions ds n text → (length spans == 0) ≡ false
    → option_or (variable_at ds text n) rest ≡ variable_at ds text n
defines_one ds text n rest [] are some = absurd (cc)
defines_one ds text n rest (s ∷ spans) are some = by (variable_at ds text n) (place_at ds text n ∙ ap (λ (l : List Span). slice_get l 0) (sym are))
  where
    by : (o : Option (VariableOf Span)) → option_map place_defined o ≡ Some s → option_or o rest ≡ o
    by None e = absurd (cc)
    by (Some v) e = refl
