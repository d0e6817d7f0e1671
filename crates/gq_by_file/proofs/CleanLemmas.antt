-- Whether a fault rests on names is the same of all files with the same names.
use Rattle.std.proofs.Common.{◌≡◌, ◌↔◌, ℕ, zero, suc, Bool, true, ◌+◌, List, [], ◌∷◌, ◌++◌, Option, Some, None, Contains, map, flat_map, slice_get, refl, sym, ap, ap₂, ◌∙◌, subst, arith}
use Rattle.std.specs.List.{enumerate_from}
use Rattle.std.proofs.lemmas.List.{map-append}
use Rattle.std.proofs.lemmas.Option.{none-some, same_Some}
use Rattle.gq_text.specs.declared.place.Span.{Span}
use Rattle.gq_tree.specs.Plain.{NameOf, Def, operation, fragment, type_system}
use Rattle.gq_tree.specs.Readings.{ParsedOf, definitions_read, in_document}
use Rattle.gq_names.specs.Repeats.{IsRepeated, StandsAt}
use Rattle.gq_fault.specs.declared.fault.Fault.{Fault}
use Rattle.gq_types.specs.Entries.{Text, EntryOf}
use Rattle.gq_types.proofs.Gathered.{from_map, nothing_in, to_map}
use Rattle.gq_document.specs.Definitions.{OperationOf, FragmentOf, operation_in, fragment_in}
use Rattle.gq_document.specs.Executable.{ExecutableOf}
use Rattle.gq_fragments.specs.FragmentNameUniqueness.{IsRepeatedFragmentName}
use Rattle.gq_fragments.specs.LoneAnonymousOperation.{IsNotAlone}
use Rattle.gq_fragments.specs.OperationNameUniqueness.{IsRepeatedOperationName, OperationName, names_in, operation_names}
use Rattle.gq_spreads.specs.FragmentsMustBeUsed.{IsUnusedFragment}
use Rattle.gq_rules.specs.Files.{together}
use Rattle.gq_by_file.specs.Closed.Laws.{IsDemandedByNames, repeated_operation_name, not_alone, repeated_fragment_name, not_used}
use Rattle.gq_by_file.specs.Closed.RestsOnNames.{IsFaultByNames}
use Rattle.gq_by_file.specs.Names.{AreNames, AreNamesIn, none, more, fragment_names_in, operation_names_in, text_of_name}
use Rattle.gq_by_file.specs.Across.{AreClean}
use Rattle.gq_by_file.specs.declared.names.FileNames.{FileNames}
use Rattle.gq_by_file.specs.Helping.ByNames.{AreSpreadsOf, IsSpreadText, of_operation, of_fragment, all_spreads}
use Rattle.gq_by_file.proofs.Closed.ByNames.{by_rules}
use Rattle.gq_by_file.proofs.LinkLemmas.{spreads_are}

-- the texts of what stands in files are those of their names
module _ {A B C : Type 0} (what : ℕ → Def Span → List A) (text : A → C) (names_of : Def Span → List B) (said : B → C)
    (one : (k : ℕ) (d : Def Span) → map text (what k d) ≡ map said (names_of d)) where
  texts_in : (k : ℕ) (ds : List (Def Span)) → map text (flat_map (what k) ds) ≡ map said (flat_map names_of ds)
  texts_in k [] = refl
  texts_in k (d ∷ ds) =
      map-append text (what k d) (flat_map (what k) ds)
      ∙ ap₂ (λ (a b : List C). a ++ b) (one k d) (texts_in k ds)
      ∙ sym (map-append said (names_of d) (flat_map names_of ds))

  module _ (kept : FileNames → List C) (are : (r : ParsedOf) (file : FileNames) → AreNamesIn r file → kept file ≡ map said (flat_map names_of (definitions_read r))) where
    texts_from : (k : ℕ) {rs : List ParsedOf} {names : List FileNames} → AreNames rs names → map text (flat_map (λ r. in_document what r.0 r.1) (enumerate_from k rs)) ≡ flat_map kept names
    texts_from k none = refl
    texts_from k (more {r = r} {rs = rs} {one = file} {names = names} h hs) =
        map-append text (in_document what k r) (flat_map (λ q. in_document what q.0 q.1) (enumerate_from (k + 1) rs))
        ∙ ap₂ (λ (a b : List C). a ++ b) (texts_in k (definitions_read r) ∙ sym (are r file h)) (texts_from (k + 1) hs)

abbrev operation_text : OperationOf → Option Text
operation_text o = text_of_name o.name

abbrev fragment_text : FragmentOf → Text
fragment_text f = f.name.text

operation_said : (k : ℕ) (d : Def Span) → map operation_text (operation_in k d) ≡ map text_of_name (operation_names_in d)
operation_said k (operation kind name variables directives set braces place) = refl
operation_said k (fragment name on directives set braces place) = refl
operation_said k (type_system definition) = refl

fragment_said : (k : ℕ) (d : Def Span) → map fragment_text (fragment_in k d) ≡ map (λ (n : NameOf Span). n.text) (fragment_names_in d)
fragment_said k (operation kind name variables directives set braces place) = refl
fragment_said k (fragment name on directives set braces place) = refl
fragment_said k (type_system definition) = refl

operation_texts : (es : List EntryOf) {rs : List ParsedOf} {names : List FileNames} → AreNames rs names → map operation_text (together es rs).operations ≡ flat_map (λ (one : FileNames). one.operations.items) names
operation_texts es are = texts_from operation_in operation_text operation_names_in text_of_name operation_said (λ (one : FileNames). one.operations.items) (λ r file h. h.operations) 0 are

fragment_texts : (es : List EntryOf) {rs : List ParsedOf} {names : List FileNames} → AreNames rs names → map fragment_text (together es rs).fragments ≡ flat_map (λ (one : FileNames). one.fragments.items) names
fragment_texts es are = texts_from fragment_in fragment_text fragment_names_in (λ (n : NameOf Span). n.text) fragment_said (λ (one : FileNames). one.fragments.items) (λ r file h. h.fragments) 0 are

-- what stands in one of two lists of the same texts, and what stands at its place in the other
module _ {A C : Type 0} (text : A → C) where
  stands_too : (xs ys : List A) → map text xs ≡ map text ys → (i : ℕ) (y : A) → StandsAt ys i y → (x : A) × StandsAt xs i x × (text x ≡ text y)
  stands_too xs [] same i y (inside, is) = absurd (omega (arith, inside))
  stands_too [] (z ∷ ys) same i y (inside, is) = absurd (cc)
  stands_too (x ∷ xs) (z ∷ ys) same zero y (inside, is) = (x, (omega arith, refl), (let head : text x ≡ text z = cc in head ∙ ap text is))
  stands_too (x ∷ xs) (z ∷ ys) same (suc i) y (inside, is) =
      let rest : map text xs ≡ map text ys = cc in
      let t = stands_too xs ys rest i y (omega (arith, inside), is) in
      (t.0, (let below = t.1.0 in omega (arith, below), t.1.1), t.2)

  there_too : (xs ys : List A) → map text xs ≡ map text ys → (i : ℕ) (y : A) → slice_get ys i ≡ Some y → (x : A) × (slice_get xs i ≡ Some x) × (text x ≡ text y)
  there_too xs [] same i y is = absurd (none-some y is)
  there_too [] (z ∷ ys) same i y is = absurd (cc)
  there_too (x ∷ xs) (z ∷ ys) same zero y is = (x, refl, (let head : text x ≡ text z = cc in head ∙ ap text (same_Some z y is)))
  there_too (x ∷ xs) (z ∷ ys) same (suc i) y is = let rest : map text xs ≡ map text ys = cc in there_too xs ys rest i y is

repeated_too : {A : Type 0} (text : A → Text) (xs ys : List A) → map text xs ≡ map text ys → (y : A) → IsRepeated text ys y → (x : A) × IsRepeated text xs x
repeated_too text xs ys same y (i, at) =
    let late = stands_too text xs ys same i y at.here in
    let early = stands_too text xs ys same at.earlier at.other at.stands_earlier in
    (late.0, (i, record { here = late.1; earlier = at.earlier; is_earlier = at.is_earlier; other = early.0; stands_earlier = early.1; same_text = early.2 ∙ at.same_text ∙ sym late.2 }))

-- the names of operations, without those that have none
abbrev some_text : Option Text → List Text
some_text None = []
some_text (Some text) = text ∷ []

abbrev name_text : OperationName → Text
name_text n = n.name.text

named_texts : (os : List OperationOf) → map name_text (operation_names os) ≡ flat_map some_text (map operation_text os)
named_texts [] = refl
named_texts (o ∷ os) = map-append name_text (names_in o.file o.name) (operation_names os) ∙ ap₂ (λ (a b : List Text). a ++ b) (one o.file o.name) (named_texts os)
  where
    one : (file : ℕ) (name : Option (NameOf Span)) → map name_text (names_in file name) ≡ some_text (text_of_name name)
    one file None = refl
    one file (Some name) = refl

is_none : (a b : Option (NameOf Span)) → text_of_name a ≡ text_of_name b → b ≡ None → a ≡ None
is_none None b same is = refl
is_none (Some a) b same is = let e : text_of_name (Some a) ≡ None = same ∙ ap text_of_name is in absurd (cc)

module _ (es us : List EntryOf) (rs qs : List ParsedOf) (names : List FileNames) (are : AreNames rs names) (are_too : AreNames qs names) where
  abbrev x : ExecutableOf
  x = together es rs

  abbrev y : ExecutableOf
  y = together us qs

  same_operations : map operation_text x.operations ≡ map operation_text y.operations
  same_operations = operation_texts es are ∙ sym (operation_texts us are_too)

  same_fragments : map fragment_text x.fragments ≡ map fragment_text y.fragments
  same_fragments = fragment_texts es are ∙ sym (fragment_texts us are_too)

  of_repeated_operation : (f : Fault) → IsRepeatedOperationName y f → (g : Fault) × IsDemandedByNames x g
  of_repeated_operation f h =
      let same = named_texts x.operations ∙ ap (λ (ts : List (Option Text)). flat_map some_text ts) same_operations ∙ sym (named_texts y.operations) in
      let t = repeated_too name_text (operation_names x.operations) (operation_names y.operations) same h.later h.is_repeated in
      (_, repeated_operation_name (record { later = t.0; is_repeated = t.1; is = refl }))

  of_not_alone : (f : Fault) → IsNotAlone y f → (g : Fault) × IsDemandedByNames x g
  of_not_alone f h =
      let here = there_too operation_text x.operations y.operations same_operations h.number h.operation h.stands in
      let there = there_too operation_text x.operations y.operations same_operations h.other_number h.other h.other_stands in (
        _,
        not_alone (record {
          number = h.number;
          operation = here.0;
          stands = here.1;
          is_anonymous = is_none here.0.name h.operation.name here.2 h.is_anonymous;
          other_number = h.other_number;
          other = there.0;
          other_stands = there.1;
          is_another = h.is_another;
          is = refl;
        }),
      )

  of_repeated_fragment : (f : Fault) → IsRepeatedFragmentName y f → (g : Fault) × IsDemandedByNames x g
  of_repeated_fragment f h =
      let t = repeated_too fragment_text x.fragments y.fragments same_fragments h.later h.is_repeated in
      (_, repeated_fragment_name (record { later = t.0; is_repeated = t.1; is = refl }))

  spread_too : (text : Text) → IsSpreadText x text → IsSpreadText y text
  spread_too text h = (spreads_are us qs names are_too text).0 ((spreads_are es rs names are text).1 h)

  no_spread : (f : Fault) (w : IsUnusedFragment y f) (text : Text) → IsSpreadText y text → text ≡ w.fragment.name.text → ⊥
  no_spread f w text (of_operation {o} {name} c stands is) same = w.in_no_operation o c (record { name = name; stands = stands; names = is ∙ same })
  no_spread f w text (of_fragment {g} {name} c stands is) same = w.in_no_fragment g c (record { name = name; stands = stands; names = is ∙ same })

  of_not_used : (f : Fault) → IsUnusedFragment y f → (g : Fault) × IsDemandedByNames x g
  of_not_used f w =
      let t = from_map fragment_text x.fragments w.fragment.name.text (subst (λ (ts : List Text). Contains ts w.fragment.name.text) (sym same_fragments) (to_map fragment_text y.fragments w.fragment w.stands)) in
      let none_of : IsSpreadText x t.0.name.text → ⊥ = λ h. no_spread f w t.0.name.text (spread_too t.0.name.text h) t.2 in (
        _,
        not_used (record {
          fragment = t.0;
          stands = t.1;
          in_no_operation = λ o c h. none_of (of_operation c h.stands h.names);
          in_no_fragment = λ g c h. none_of (of_fragment c h.stands h.names);
          is = refl;
        }),
      )

  by_rule : (f : Fault) → IsDemandedByNames y f → (g : Fault) × IsDemandedByNames x g
  by_rule f (repeated_operation_name h) = of_repeated_operation f h
  by_rule f (not_alone h) = of_not_alone f h
  by_rule f (repeated_fragment_name h) = of_repeated_fragment f h
  by_rule f (not_used h) = of_not_used f h

  -- names alone decide whether a fault rests on them
  pub names_decide : (f : Fault) → IsFaultByNames y f → (g : Fault) × IsFaultByNames x g
  names_decide f h = let t = by_rule f ((by_rules y f).0 h) in (t.0, (by_rules x t.0).1 t.1)

pub clean_from : (es : List EntryOf) (rs : List ParsedOf) (names : List FileNames) → AreNames rs names → ((f : Fault) → IsFaultByNames (together es rs) f → ⊥) → AreClean names
clean_from es rs names are nothing us qs are_too f h = let t = names_decide es us rs qs names are are_too f h in nothing t.0 t.1

-- what is told of names, of an executable that is the same
module _ (es : List EntryOf) (rs : List ParsedOf) (names : List FileNames) (are : AreNames rs names) (z : ExecutableOf) (is : z ≡ together es rs) (faults : List Fault)
    (told : AreSpreadsOf z (all_spreads names) → (f : Fault) → Contains faults f ↔ IsFaultByNames z f) where
  pub named_exact : (f : Fault) → Contains faults f ↔ IsFaultByNames (together es rs) f
  named_exact f =
      subst (λ (w : ExecutableOf). Contains faults f ↔ IsFaultByNames w f) is
      (told (subst (λ (w : ExecutableOf). AreSpreadsOf w (all_spreads names)) (sym is) (spreads_are es rs names are)) f)

  pub clean_told : faults ≡ [] → AreClean names
  clean_told empty = clean_from es rs names are (λ f h. nothing_in f (subst (λ (fs : List Fault). Contains fs f) empty ((named_exact f).1 h)))

-- the same where the names are lent
module _ (es : List EntryOf) (rs : List ParsedOf) (x : ExecutableOf) (is : x ≡ together es rs) (given names : List FileNames) (same : given ≡ names) (are : AreNames rs names) (old : Bool) (clean : old ≡ true → AreClean names) where
  are_given : AreNames rs given
  are_given = subst (λ (ns : List FileNames). AreNames rs ns) (sym same) are

  clean_given : old ≡ true → AreClean given
  clean_given e = subst (λ (ns : List FileNames). AreClean ns) (sym same) (clean e)

  pub clean_stays : (new : Bool) → ((es : List EntryOf) (rs : List ParsedOf) → x ≡ together es rs → AreNames rs given → (old ≡ true → AreClean given) → new ≡ true → AreClean given) → new ≡ true → AreClean names
  clean_stays new goes e = subst (λ (ns : List FileNames). AreClean ns) same (goes es rs is are_given clean_given e)

  pub named_stay : (faults : List Fault) →
      ((es : List EntryOf) (rs : List ParsedOf) → x ≡ together es rs → AreNames rs given → (old ≡ true → AreClean given) → (f : Fault) → Contains faults f ↔ IsFaultByNames (together es rs) f) →
      (f : Fault) → Contains faults f ↔ IsFaultByNames (together es rs) f
  named_stay faults told = told es rs is are_given clean_given
