-- What documents define of the type system, document by document.
use Rattle.std.proofs.Common.{◌≡◌, ◌<◌, ◌≤◌, ℕ, zero, suc, ◌+◌, ◌-◌, List, [], ◌∷◌, ◌++◌, All, Some, drop, get_or, length, set, slice_get, take, refl, sym, ◌∙◌, ap, subst, arith}
use Rattle.std.specs.Prelude.{map, flat_map}
use Rattle.std.specs.List.{enumerate_from, insert, remove}
use Rattle.std.proofs.lemmas.List.{drop-map, length-drop, map-append, take-map}
use Rattle.std.proofs.lemmas.List.Elements.{All-head, All-tail}
use Rattle.std.proofs.Math.ListN.{get_or-map}
use Rattle.std.proofs.Math.Seq.{take-length}
use Rattle.gq_text.specs.declared.place.Span.{Span}
use Rattle.gq_tree.specs.Plain.{Def, TypeSystemOf, operation, fragment, type_system, erase_document, no_place, place_type_system}
use Rattle.gq_tree.specs.Readings.{ParsedOf, SharedParsed, definitions_read, in_document, shared_view, readings_view}
use Rattle.gq_types.specs.BuiltIn.{built_in}
use Rattle.gq_types.specs.Entries.{EntryOf}
use Rattle.gq_types.specs.Look.{types_view}
use Rattle.gq_document.specs.Definitions.{entry_in, entries_of}
use Rattle.gq_laws.specs.Placing.Tokens.{erased_types, types_in}
use Rattle.gq_types.specs.ErasedEntries.{erase_entry}
use Rattle.gq_laws.specs.Placing.Types.{erase_filed, DocumentsOfTypesDoNotMatterToTypes}
use Rattle.gq_schema.specs.SchemaOf.{HasNoFault}
use Rattle.gq_type_system.specs.SchemaFaults.{IsSchemaFault}
use Rattle.gq_index.proofs.Parallel.{map_insert, map_remove}
use Rattle.gq_kept.specs.declared.typed.Typed.{Typed}
use Rattle.gq_kept.specs.Helping.TypesOf.{AreTypesOf, IsOneTypeSystem, types_defined}

-- the same in another document
entry_at : ℕ → EntryOf → EntryOf
entry_at file e = record { file = file; definition = e.definition }

as_first : (file : ℕ) (ds : List (Def Span)) → flat_map (entry_in file) ds ≡ map (entry_at file) (flat_map (entry_in 0) ds)
unfolding entry_at
as_first file [] = refl
as_first file (operation kind name variables directives set braces place ∷ ds) = as_first file ds
as_first file (fragment name on directives set braces place ∷ ds) = as_first file ds
as_first file (type_system d ∷ ds) = ap (λ (es : List EntryOf). record { file = file; definition = d } ∷ es) (as_first file ds)

-- the entries of documents that have these, the first document having the number n
gathered : ℕ → List (List EntryOf) → List EntryOf
gathered n [] = []
gathered n (es ∷ ess) = map (entry_at n) es ++ gathered (n + 1) ess

entries_from : (n : ℕ) (rs : List ParsedOf) → flat_map (λ r. in_document entry_in r.0 r.1) (enumerate_from n rs) ≡ gathered n (map types_defined rs)
unfolding gathered
entries_from n [] = refl
entries_from n (r ∷ rs) =
    ap (λ (es : List EntryOf). es ++ flat_map (λ s. in_document entry_in s.0 s.1) (enumerate_from (n + 1) rs)) (as_first n (definitions_read r))
    ∙ ap (λ (rest : List EntryOf). map (entry_at n) (types_defined r) ++ rest) (entries_from (n + 1) rs)

-- what the documents define settles the entries
same_entries : (xs ys : List ParsedOf) → map types_defined xs ≡ map types_defined ys → entries_of xs ≡ entries_of ys
same_entries xs ys e = entries_from 0 xs ∙ ap (gathered 0) e ∙ sym (entries_from 0 ys)

-- and the entries settle the type system
same_types : (xs ys : List ParsedOf) (made : Typed) → entries_of xs ≡ entries_of ys → AreTypesOf xs made → AreTypesOf ys made
same_types xs ys made e are = record {
  is_type_system = are.is_type_system ∙ ap (λ (es : List EntryOf). built_in ++ es) e;
  sound = are.sound;
  faulty = are.faulty;
}

-- one is replaced by what a function does not tell from it
same_map : {X Y : Type 0} (f : X → Y) (xs : List X) (i : ℕ) (x d : X) → f (get_or xs i d) ≡ f x → map f (set xs i x) ≡ map f xs
same_map f [] i x d e = refl
same_map {X} {Y} f (y ∷ xs) zero x d e = ap (λ (z : Y). z ∷ map f xs) (sym e)
same_map {X} {Y} f (y ∷ xs) (suc i) x d e = ap (λ (zs : List Y). f y ∷ zs) (same_map f xs i x d e)

-- one that defines nothing is replaced by another one that does not
pub types_alike : (readings : List SharedParsed) (at : ℕ) (old new : SharedParsed) (made : Typed) → old ≡ get_or readings at old → types_defined (shared_view old) ≡ [] → types_defined (shared_view new) ≡ []
    → AreTypesOf (readings_view readings) made → AreTypesOf (set (readings_view readings) at (shared_view new)) made
types_alike readings at old new made is none none_new are =
    let there : get_or (readings_view readings) at (shared_view old) ≡ shared_view old = get_or-map shared_view readings at old ∙ ap shared_view (sym is) in
    let same : types_defined (get_or (readings_view readings) at (shared_view old)) ≡ types_defined (shared_view new) = ap types_defined there ∙ none ∙ sym none_new in
    same_types _ _ made (same_entries _ _ (sym (same_map types_defined (readings_view readings) at (shared_view new) (shared_view old) same))) are

-- as many as are left are all that are left
all_left : {X : Type 0} (xs : List X) (n : ℕ) → take (length xs - n) (drop n xs) ≡ drop n xs
all_left xs n = subst (λ (count : ℕ). take count (drop n xs) ≡ drop n xs) (length-drop n xs) (take-length (drop n xs))

-- what stands before a place, or from it on, is read as it is among all
pub read_before : (readings : List SharedParsed) (n : ℕ) → readings_view (take n readings) ≡ take n (readings_view readings)
read_before readings n = sym (take-map shared_view n readings)

pub read_behind : (readings : List SharedParsed) (n : ℕ) → readings_view (take (length readings - n) (drop n readings)) ≡ drop n (readings_view readings)
read_behind readings n = ap readings_view (all_left readings n) ∙ sym (drop-map shared_view n readings)

next : (i : ℕ) → i + 1 ≡ suc i
next i = omega arith

-- what is left where one is taken out
pub removed_between : {X : Type 0} (xs : List X) (i : ℕ) → take i xs ++ drop (i + 1) xs ≡ remove xs i
removed_between xs i = ap (λ (n : ℕ). take i xs ++ drop n xs) (next i)

parts : {X : Type 0} (xs : List X) (i : ℕ) (x : X) → i < length xs → take i xs ++ (x ∷ drop (suc i) xs) ≡ set xs i x
parts [] i x h = absurd (omega arith)
parts (y ∷ xs) zero x h = refl
parts {X} (y ∷ xs) (suc i) x h = ap (λ (zs : List X). y ∷ zs) (parts xs i x (omega arith))

-- what is replaced stands between what is before it and what is behind it
pub set_between : {X : Type 0} (xs : List X) (i : ℕ) (x : X) → i < length xs → take i xs ++ (x ∷ drop (i + 1) xs) ≡ set xs i x
set_between xs i x h = ap (λ (n : ℕ). take i xs ++ (x ∷ drop n xs)) (next i) ∙ parts xs i x h

-- ---- one that defines nothing is put in behind all that is defined

-- what holds of all of two lists holds of all of the second
all_behind : {X : Type 0} (P : X → Type 0) (xs ys : List X) → All P (xs ++ ys) → All P ys
all_behind P [] ys all = all
all_behind P (x ∷ xs) ys all = all_behind P xs ys (All-tail P x (xs ++ ys) all)

-- its document is one before that place
stands_before : ℕ → EntryOf → Type 0
stands_before at e = e.file < at

-- where all entries of documents stand before the first of these, the documents have none, whatever number the first one gets
none_gathered : (at n m : ℕ) → at ≤ n → (ess : List (List EntryOf)) → All (stands_before at) (gathered n ess) → gathered m ess ≡ []
unfolding gathered entry_at stands_before
none_gathered at n m le [] all = refl
none_gathered at n m le ([] ∷ ess) all = none_gathered at (n + 1) (m + 1) (omega arith) ess all
none_gathered at n m le ((e ∷ es) ∷ ess) all = let first : n < at = All-head (stands_before at) _ _ all in absurd (omega arith)

-- where all entries stand before a place, they stay as they are when a document that has none is put in there
same_gathered : (at n i : ℕ) → at ≤ n + i → (ess : List (List EntryOf)) → All (stands_before at) (gathered n ess) → gathered n (insert ess i []) ≡ gathered n ess
unfolding gathered
same_gathered at n zero le [] all = refl
same_gathered at n (suc i) le [] all = refl
same_gathered at n zero le (es ∷ ess) all = none_gathered at n (n + 1) (omega arith) (es ∷ ess) all ∙ sym (none_gathered at n n (omega arith) (es ∷ ess) all)
same_gathered at n (suc i) le (es ∷ ess) all =
    ap (λ (others : List EntryOf). map (entry_at n) es ++ others)
    (same_gathered at (n + 1) i (omega arith) ess (all_behind (stands_before at) (map (entry_at n) es) (gathered (n + 1) ess) all))

-- so of what documents are read as
entries_stay : (rs : List ParsedOf) (at : ℕ) (r : ParsedOf) → types_defined r ≡ [] → All (stands_before at) (entries_of rs) → entries_of rs ≡ entries_of (insert rs at r)
entries_stay rs at r none before =
    let more : map types_defined (insert rs at r) ≡ insert (map types_defined rs) at [] = map_insert types_defined rs at r ∙ ap (λ (es : List EntryOf). insert (map types_defined rs) at es) none in
    let same = same_gathered at 0 at (omega arith) (map types_defined rs) (subst (All (stands_before at)) (entries_from 0 rs) before) in
    entries_from 0 rs ∙ sym (entries_from 0 (insert rs at r) ∙ ap (gathered 0) more ∙ same)

-- and their type system stays
pub types_stay : (rs : List ParsedOf) (at : ℕ) (r : ParsedOf) (typed : Typed) → types_defined r ≡ [] → All (λ e. e.file < at) (types_view typed.types)
    → AreTypesOf rs typed → AreTypesOf (insert rs at r) typed
unfolding stands_before
types_stay rs at r typed none before are =
    let among = all_behind (stands_before at) built_in (entries_of rs) (subst (All (stands_before at)) are.is_type_system before) in
    same_types _ _ typed (entries_stay rs at r none among) are

-- ---- one type system, whatever the numbers of its documents are

-- what is not told by the number of a document
module _ {X : Type 0} (what : EntryOf → X) (unseen : (n : ℕ) (e : EntryOf) → what (entry_at n e) ≡ what e) where
  same_what : (n : ℕ) (es : List EntryOf) → map what (map (entry_at n) es) ≡ map what es
  same_what n [] = refl
  same_what n (e ∷ es) = ap (λ (x : X). x ∷ map what (map (entry_at n) es)) (unseen n e) ∙ ap (λ (xs : List X). what e ∷ xs) (same_what n es)

  what_gathered : (n : ℕ) (ess : List (List EntryOf)) → map what (gathered n ess) ≡ flat_map (map what) ess
  unfolding gathered
  what_gathered n [] = refl
  what_gathered n (es ∷ ess) =
      map-append what (map (entry_at n) es) (gathered (n + 1) ess)
      ∙ ap (λ (xs : List X). xs ++ map what (gathered (n + 1) ess)) (same_what n es)
      ∙ ap (λ (xs : List X). map what es ++ xs) (what_gathered (n + 1) ess)

  what_of : (rs : List ParsedOf) → map what (built_in ++ entries_of rs) ≡ map what built_in ++ flat_map (map what) (map types_defined rs)
  what_of rs =
      map-append what built_in (entries_of rs)
      ∙ ap (λ (es : List EntryOf). map what built_in ++ map what es) (entries_from 0 rs)
      ∙ ap (λ (xs : List X). map what built_in ++ xs) (what_gathered 0 (map types_defined rs))

  one_what : (rs ss : List ParsedOf) → flat_map (map what) (map types_defined rs) ≡ flat_map (map what) (map types_defined ss) → map what (built_in ++ entries_of rs) ≡ map what (built_in ++ entries_of ss)
  one_what rs ss e = what_of rs ∙ ap (λ (xs : List X). map what built_in ++ xs) e ∙ sym (what_of ss)

definition_in : EntryOf → TypeSystemOf Span
definition_in e = e.definition

definition_kept : (n : ℕ) (e : EntryOf) → definition_in (entry_at n e) ≡ definition_in e
unfolding entry_at definition_in
definition_kept n e = refl

flat_insert : {X Y : Type 0} (f : List X → List Y) → f [] ≡ [] → (xss : List (List X)) (at : ℕ) → flat_map f (insert xss at []) ≡ flat_map f xss
flat_insert {X} {Y} f e [] zero = ap (λ (ys : List Y). ys ++ []) e
flat_insert {X} {Y} f e [] (suc at) = ap (λ (ys : List Y). ys ++ []) e
flat_insert {X} {Y} f e (xs ∷ xss) zero = ap (λ (ys : List Y). ys ++ flat_map f (xs ∷ xss)) e
flat_insert {X} {Y} f e (xs ∷ xss) (suc at) = ap (λ (ys : List Y). f xs ++ ys) (flat_insert f e xss at)

flat_remove : {X Y : Type 0} (f : List X → List Y) → f [] ≡ [] → (xss : List (List X)) (at : ℕ) → get_or xss at [] ≡ [] → flat_map f (remove xss at) ≡ flat_map f xss
flat_remove f e [] zero h = refl
flat_remove f e [] (suc at) h = refl
flat_remove {X} {Y} f e (xs ∷ xss) zero h = sym (ap (λ (ys : List Y). ys ++ flat_map f xss) (ap f h ∙ e))
flat_remove {X} {Y} f e (xs ∷ xss) (suc at) h = ap (λ (ys : List Y). f xs ++ ys) (flat_remove f e xss at h)

one_system : (rs ss : List ParsedOf) → flat_map (map definition_in) (map types_defined rs) ≡ flat_map (map definition_in) (map types_defined ss) → IsOneTypeSystem rs ss
unfolding definition_in
one_system rs ss e = one_what definition_in definition_kept rs ss e

-- a document that defines nothing is put in, or taken out
pub system_inserted : (rs : List ParsedOf) (at : ℕ) (r : ParsedOf) → types_defined r ≡ [] → IsOneTypeSystem rs (insert rs at r)
system_inserted rs at r none =
    one_system rs (insert rs at r)
    (sym (ap (flat_map (map definition_in)) (map_insert types_defined rs at r ∙ ap (λ (es : List EntryOf). insert (map types_defined rs) at es) none) ∙ flat_insert (map definition_in) refl (map types_defined rs) at))

pub nothing_at : (readings : List SharedParsed) (at : ℕ) (r : SharedParsed) → r ≡ get_or readings at r → types_defined (shared_view r) ≡ [] → get_or (map types_defined (readings_view readings)) at [] ≡ []
nothing_at readings at r is none =
    let there : get_or (readings_view readings) at (shared_view r) ≡ shared_view r = get_or-map shared_view readings at r ∙ ap shared_view (sym is) in
    ap (get_or (map types_defined (readings_view readings)) at) (sym none) ∙ get_or-map types_defined (readings_view readings) at (shared_view r) ∙ ap types_defined there ∙ none

pub system_removed : (rs : List ParsedOf) (at : ℕ) → get_or (map types_defined rs) at [] ≡ [] → IsOneTypeSystem rs (remove rs at)
system_removed rs at nothing =
    one_system rs (remove rs at)
    (sym (ap (flat_map (map definition_in)) (map_remove types_defined rs at) ∙ flat_remove (map definition_in) refl (map types_defined rs) at nothing))

pub system_replaced : (readings : List SharedParsed) (at : ℕ) (old new : SharedParsed) → old ≡ get_or readings at old → types_defined (shared_view old) ≡ [] → types_defined (shared_view new) ≡ []
    → IsOneTypeSystem (readings_view readings) (set (readings_view readings) at (shared_view new))
system_replaced readings at old new is none none_new =
    let there : get_or (readings_view readings) at (shared_view old) ≡ shared_view old = get_or-map shared_view readings at old ∙ ap shared_view (sym is) in
    let same : types_defined (get_or (readings_view readings) at (shared_view old)) ≡ types_defined (shared_view new) = ap types_defined there ∙ none ∙ sym none_new in
    one_system (readings_view readings) (set (readings_view readings) at (shared_view new))
    (ap (flat_map (map definition_in)) (sym (same_map types_defined (readings_view readings) at (shared_view new) (shared_view old) same)))

-- ---- a document defines what it did, places forgotten

erased_kept : (n : ℕ) (e : EntryOf) → erase_entry (entry_at n e) ≡ erase_entry e
unfolding entry_at
erased_kept n e = refl

erased_in : (ds : List (Def Span)) → map erase_entry (flat_map (entry_in 0) ds) ≡ flat_map types_in (erase_document ds)
erased_in [] = refl
erased_in (operation kind name variables directives set braces place ∷ ds) = erased_in ds
erased_in (fragment name on directives set braces place ∷ ds) = erased_in ds
erased_in (type_system d ∷ ds) = ap (λ (l : List (TypeSystemOf (Unit {0}))). place_type_system no_place d ∷ l) (erased_in ds)

flat_set : {X Y : Type 0} (f : X → List Y) (xs : List X) (i : ℕ) (x was : X) → slice_get xs i ≡ Some was → f was ≡ f x → flat_map f (set xs i x) ≡ flat_map f xs
flat_set f [] i x was there e = refl
flat_set {X} {Y} f (y ∷ xs) zero x was there e = let same : y ≡ was = cc in ap (λ (ys : List Y). ys ++ flat_map f xs) (sym e ∙ ap f (sym same))
flat_set {X} {Y} f (y ∷ xs) (suc i) x was there e = ap (λ (ys : List Y). f y ++ ys) (flat_set f xs i x was there e)

flat_of_map : {X Y Z : Type 0} (f : Y → List Z) (g : X → Y) (xs : List X) → flat_map f (map g xs) ≡ flat_map (λ x. f (g x)) xs
flat_of_map f g [] = refl
flat_of_map {X} {Y} {Z} f g (x ∷ xs) = ap (λ (zs : List Z). f (g x) ++ zs) (flat_of_map f g xs)

pub erased_replaced : (rs : List ParsedOf) (at : ℕ) (r was : ParsedOf) → slice_get rs at ≡ Some was → erased_types was ≡ erased_types r → map erase_entry (built_in ++ entries_of rs) ≡ map erase_entry (built_in ++ entries_of (set rs at r))
erased_replaced rs at r was there alike =
    let f : ParsedOf → List (TypeSystemOf (Unit {0})) = λ one. map erase_entry (types_defined one) in
    let same : f was ≡ f r = erased_in (definitions_read was) ∙ alike ∙ sym (erased_in (definitions_read r)) in
    one_what erase_entry erased_kept rs (set rs at r)
    (flat_of_map (map erase_entry) types_defined rs ∙ sym (flat_set f rs at r was there same) ∙ sym (flat_of_map (map erase_entry) types_defined (set rs at r)))

-- the same with the numbers of the documents
filed_at : (n : ℕ) (es : List EntryOf) → map erase_filed (map (entry_at n) es) ≡ map (λ t. (n, t)) (map erase_entry es)
unfolding entry_at
filed_at n [] = refl
filed_at n (e ∷ es) = ap (λ (l : List (ℕ × TypeSystemOf (Unit {0}))). (n, erase_entry e) ∷ l) (filed_at n es)

filed_gathered : (n : ℕ) (xs ys : List (List EntryOf)) → map (map erase_entry) xs ≡ map (map erase_entry) ys → map erase_filed (gathered n xs) ≡ map erase_filed (gathered n ys)
unfolding gathered
filed_gathered n [] [] e = refl
filed_gathered n [] (y ∷ ys) e = absurd (cc)
filed_gathered n (x ∷ xs) [] e = absurd (cc)
filed_gathered n (x ∷ xs) (y ∷ ys) e =
    let first : map erase_entry x ≡ map erase_entry y = cc in
    let rest : map (map erase_entry) xs ≡ map (map erase_entry) ys = cc in
    map-append erase_filed (map (entry_at n) x) (gathered (n + 1) xs)
    ∙ ap (λ (l : List (ℕ × TypeSystemOf (Unit {0}))). l ++ map erase_filed (gathered (n + 1) xs)) (filed_at n x ∙ ap (map (λ t. (n, t))) first ∙ sym (filed_at n y))
    ∙ ap (λ (l : List (ℕ × TypeSystemOf (Unit {0}))). map erase_filed (map (entry_at n) y) ++ l) (filed_gathered (n + 1) xs ys rest)
    ∙ sym (map-append erase_filed (map (entry_at n) y) (gathered (n + 1) ys))

map_set : {X Y : Type 0} (f : X → Y) (xs : List X) (i : ℕ) (x was : X) → slice_get xs i ≡ Some was → f was ≡ f x → map f (set xs i x) ≡ map f xs
map_set f [] i x was there e = refl
map_set {X} {Y} f (y ∷ xs) zero x was there e = let same : y ≡ was = cc in ap (λ (z : Y). z ∷ map f xs) (sym e ∙ ap f (sym same))
map_set {X} {Y} f (y ∷ xs) (suc i) x was there e = ap (λ (ys : List Y). f y ∷ ys) (map_set f xs i x was there e)

map_of_map : {X Y Z : Type 0} (f : Y → Z) (g : X → Y) (xs : List X) → map f (map g xs) ≡ map (λ x. f (g x)) xs
map_of_map f g [] = refl
map_of_map {X} {Y} {Z} f g (x ∷ xs) = ap (λ (zs : List Z). f (g x) ∷ zs) (map_of_map f g xs)

pub filed_replaced : (rs : List ParsedOf) (at : ℕ) (r was : ParsedOf) → slice_get rs at ≡ Some was → erased_types was ≡ erased_types r → map erase_filed (built_in ++ entries_of rs) ≡ map erase_filed (built_in ++ entries_of (set rs at r))
filed_replaced rs at r was there alike =
    let f : ParsedOf → List (TypeSystemOf (Unit {0})) = λ one. map erase_entry (types_defined one) in
    let same : f was ≡ f r = erased_in (definitions_read was) ∙ alike ∙ sym (erased_in (definitions_read r)) in
    let each = map_of_map (map erase_entry) types_defined rs ∙ sym (map_set f rs at r was there same) ∙ sym (map_of_map (map erase_entry) types_defined (set rs at r)) in
    map-append erase_filed built_in (entries_of rs)
    ∙ ap (λ (l : List (ℕ × TypeSystemOf (Unit {0}))). map erase_filed built_in ++ l)
    (ap (map erase_filed) (entries_from 0 rs) ∙ filed_gathered 0 (map types_defined rs) (map types_defined (set rs at r)) each ∙ ap (map erase_filed) (sym (entries_from 0 (set rs at r))))
    ∙ sym (map-append erase_filed built_in (entries_of (set rs at r)))

-- ---- whether a rule is broken does not depend on the numbers of documents

erased_one : (rs ss : List ParsedOf) → IsOneTypeSystem rs ss → map erase_entry (built_in ++ entries_of rs) ≡ map erase_entry (built_in ++ entries_of ss)
erased_one rs ss one =
    sym (map_of_map (place_type_system no_place) (λ (e : EntryOf). e.definition) (built_in ++ entries_of rs))
    ∙ ap (map (place_type_system no_place)) one
    ∙ map_of_map (place_type_system no_place) (λ (e : EntryOf). e.definition) (built_in ++ entries_of ss)

pub types_told : DocumentsOfTypesDoNotMatterToTypes → (rs ss : List ParsedOf) → IsOneTypeSystem rs ss → (typed made : Typed) → types_view made.types ≡ built_in ++ entries_of ss → made.has_schema ≡ typed.has_schema
    → AreTypesOf rs typed → AreTypesOf ss made
types_told unseen rs ss one typed made is flag are =
    let same = erased_one rs ss one in
    let back : HasNoFault (types_view typed.types) → HasNoFault (types_view made.types) = λ none f h. (
    let t = unseen (built_in ++ entries_of ss) (built_in ++ entries_of rs) (sym same) f (subst (λ (es : List EntryOf). IsSchemaFault es f) is h) in
    none t.0 (subst (λ (es : List EntryOf). IsSchemaFault es t.0) (sym are.is_type_system) t.1)) in
    let forth : HasNoFault (types_view made.types) → HasNoFault (types_view typed.types) = λ none f h. (
    let t = unseen (built_in ++ entries_of rs) (built_in ++ entries_of ss) same f (subst (λ (es : List EntryOf). IsSchemaFault es f) are.is_type_system h) in
    none t.0 (subst (λ (es : List EntryOf). IsSchemaFault es t.0) (sym is) t.1)) in
    record {
      is_type_system = is;
      sound = λ e. back (are.sound (sym flag ∙ e));
      faulty = λ e none. are.faulty (sym flag ∙ e) (forth none);
    }
