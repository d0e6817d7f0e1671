-- The fields that are collected for an object are in the set of fields with all fragments expanded (sections 5.3.2 and 6.3.2).
use Rattle.std.proofs.Common.{◌≡◌, inl, inr, ℕ, zero, suc, Bool, true, false, List, [], ◌∷◌, ◌++◌, length, map, Option, Some, None, refl, sym, subst, Contains}
use Rattle.std.specs.Prelude.{if◌then◌else◌}
use Rattle.std.specs.Option.{option_map}
use Rattle.gq_text.specs.declared.place.Span.{Span}
use Rattle.gq_tree.specs.Forest as forest
use Rattle.gq_tree.specs.Plain as tree
use Rattle.gq_tree.specs.Plain.{NameOf, Sels}
use Rattle.gq_names.proofs.RepeatLemmas.{contains_first, contains_later}
use Rattle.gq_document.specs.Definitions.{FragmentOf}
use Rattle.gq_document.specs.Executable.{ExecutableOf}
use Rattle.gq_document.specs.FieldSets as sets
use Rattle.gq_document.specs.FieldSets.{SetOf, FieldAt, fragment_set, narrowed, InSet}
use Rattle.gq_meaning.specs.Values.{Text}
use Rattle.gq_meaning.specs.Selected.{bare, set_of, join}
use Rattle.gq_meaning.specs.Selected as selected
use Rattle.gq_meaning.specs.Expand.{Asked, Definition, Setting, fits_condition, find_definition, expand_with, entered, expand_within, expand, sets_of}
use Rattle.gq_meaning.specs.Thin.{IsIn}
use Rattle.gq_meaning.proofs.ThinLemmas.{in_either}
use Rattle.gq_meaning.proofs.ExpandLemmas.{found}
use Rattle.gq_meaning.proofs.Repeats.{expand_join}
use Rattle.gq_collect.specs.Fragments.{definition_of}
use Rattle.gq_laws.specs.Rewriting.StaticTypes.{asked_by}

in_if : {A : Type 0} (b : Bool) (a : A) (xs : List A) → IsIn a (if b then xs else []) → (b ≡ true) × IsIn a xs
in_if true a xs m = (refl, m)
in_if false a xs m = absurd m

fragment_named : (fs : List FragmentOf) (d : Definition) → IsIn d (map definition_of fs) → (f : FragmentOf) × Contains fs f × (d ≡ definition_of f)
fragment_named [] d m = absurd m
fragment_named (f ∷ fs) d (inl e) = (f, contains_first f fs f refl, e)
fragment_named (f ∷ fs) d (inr m) = let r = fragment_named fs d m in (r.0, contains_later f fs r.0 r.1, r.2)

-- the type of the parent is known, and applies to the object
pub record HasParent (s : Setting) (parent : Option Text) : Type 0 where
  pub type_name : Text
  pub is : parent ≡ Some type_name
  pub applies : s.applies type_name ≡ true

-- a field that is asked for, as it stands in a set of fields
pub record IsFrom (x : ExecutableOf) (s : Setting) (set : SetOf) (a : Asked) : Type 0 where
  pub field_at : FieldAt
  pub stands : InSet x set field_at
  pub parent : HasParent s field_at.parent
  pub asks : a ≡ asked_by field_at

-- a way into a set is one into what leads to it
goes_on : {x : ExecutableOf} {s : Setting} {inner outer : SetOf} {a : Asked} → ((f : FieldAt) → InSet x inner f → InSet x outer f) → IsFrom x s inner a → IsFrom x s outer a
goes_on way i = record {
  field_at = i.field_at;
  stands = way i.field_at i.stands;
  parent = i.parent;
  asks = i.asks;
}

condition_known : (s : Setting) (on : Option (NameOf Span)) (parent : Option Text) → HasParent s parent → fits_condition s (option_map (λ n. n.text) on) ≡ true → HasParent s (narrowed on parent)
condition_known s None parent p e = p
condition_known s (Some name) parent p e = record { type_name = name.text; is = refl; applies = e }

-- what spreads give
abbrev Enters : ExecutableOf → Setting → (Text → List Asked) → Type 0
Enters x s enter = (f : Text) (a : Asked) → IsIn a (enter f) → (d : FragmentOf) × Contains x.fragments d × (f ≡ d.name.text) × IsFrom x s (fragment_set d) a

module _ (x : ExecutableOf) (s : Setting) (enter : Text → List Asked) (enters : Enters x s enter) where
  from_with : (file : ℕ) (parent : Option Text) (ss : Sels Span) → HasParent s parent → (a : Asked) → IsIn a (expand_with s enter (set_of ss)) → IsFrom x s (record { file = file; parent = parent; selections = ss }) a
  from_with file parent forest.none p a m = absurd m
  from_with file parent (forest.more (tree.field alias name arguments directives braces place) below rest) p a m = elim (in_either a _ (expand_with s enter (set_of rest)) m) [
    | inl h ↦ by_one (in_if (s.takes (bare directives)) a _ h).1
    | inr h ↦ goes_on (λ f i. sets.after i) (from_with file parent rest p a h)
  ]
    where
      by_one : IsIn a (record { key = selected.key_of alias name; name = name.text; arguments = tree.erase_values arguments; set = set_of below } ∷ []) →
          IsFrom x s (record { file = file; parent = parent; selections = forest.more (tree.field alias name arguments directives braces place) below rest }) a
      by_one (inl e) = record {
        field_at = record { file = file; parent = parent; alias = alias; name = name; arguments = arguments; place = place; below = below };
        stands = sets.here;
        parent = p;
        asks = e;
      }
      by_one (inr h) = absurd h
  from_with file parent (forest.more (tree.spread name directives place) below rest) p a m = elim (in_either a _ (expand_with s enter (set_of rest)) m) [
    | inl h ↦ let d = enters name.text a (in_if (s.takes (bare directives)) a _ h).1 in goes_on (λ f i. sets.through d.1 d.2 i) d.3
    | inr h ↦ goes_on (λ f i. sets.after i) (from_with file parent rest p a h)
  ]
  from_with file parent (forest.more (tree.inline on directives braces place) below rest) p a m = elim (in_either a _ (expand_with s enter (set_of rest)) m) [
    | inl h ↦
        let taken = in_if (s.takes (bare directives)) a _ h in
        let fit = in_if (fits_condition s (option_map (λ n. n.text) on)) a _ taken.1 in
        goes_on (λ f i. sets.within i) (from_with file (narrowed on parent) below (condition_known s on parent p fit.0) a fit.1)
    | inr h ↦ goes_on (λ f i. sets.after i) (from_with file parent rest p a h)
  ]

module _ (x : ExecutableOf) (s : Setting) where
  abbrev definitions : List Definition
  definitions = map definition_of x.fragments

  from_within : (n file : ℕ) (parent : Option Text) (ss : Sels Span) → HasParent s parent → (a : Asked) → IsIn a (expand_within n s definitions (set_of ss)) → IsFrom x s (record { file = file; parent = parent; selections = ss }) a
  from_within zero file parent ss p a m = from_with x s (λ f. []) (λ f b h. absurd h) file parent ss p a m
  from_within (suc n) file parent ss p a m =
      from_with x s (λ f. entered s (expand_within n s definitions) (find_definition definitions f)) (λ f b h. by_found (λ d q. from_within n d.file (Some d.on.text) d.set q) f b (find_definition definitions f) refl h) file parent ss p a m
    where
      by_found : ((d : FragmentOf) → HasParent s (Some d.on.text) → (b : Asked) → IsIn b (expand_within n s definitions (set_of d.set)) → IsFrom x s (fragment_set d) b) → (f : Text) (b : Asked) (o : Option Definition) → find_definition definitions f ≡ o →
          IsIn b (entered s (expand_within n s definitions) o) → (d : FragmentOf) × Contains x.fragments d × (f ≡ d.name.text) × IsFrom x s (fragment_set d) b
      by_found rec f b None e h = absurd h
      by_found rec f b (Some d) e h =
          let q = found definitions f d e in
          let r = fragment_named x.fragments d q.1 in
          let i = in_if (s.applies d.on) b (expand_within n s definitions d.set) h in
          let parent : HasParent s (Some r.0.on.text) = record { type_name = r.0.on.text; is = refl; applies = subst (λ z. s.applies z.on ≡ true) r.2 i.0 } in
          (r.0, r.1, subst (λ z. f ≡ z.name) r.2 (sym q.0), rec r.0 parent b (subst (λ z. IsIn b (expand_within n s definitions z.set)) r.2 i.1))

  -- A field that a set gives is in the set.
  pub from_set : (set : SetOf) → HasParent s set.parent → (a : Asked) → IsIn a (expand s definitions (set_of set.selections)) → IsFrom x s set a
  from_set set p a m = from_within (length definitions) set.file set.parent set.selections p a m

expand_two : (s : Setting) (ds : List Definition) (n : ℕ) (a b : selected.Set) → expand_within n s ds (join a b) ≡ expand_within n s ds a ++ expand_within n s ds b
expand_two s ds zero a b = expand_join s _ a b
expand_two s ds (suc n) a b = expand_join s _ a b

none_in : (s : Setting) (ds : List Definition) (n : ℕ) (a : Asked) → IsIn a (expand_within n s ds selected.none) → ⊥
none_in s ds zero a m = m
none_in s ds (suc n) a m = m

-- A field that some fields ask for is asked for by one of them.
pub by_one_of : (s : Setting) (ds : List Definition) (xs : List Asked) (a : Asked) → IsIn a (expand s ds (sets_of xs)) → (w : Asked) × IsIn w xs × IsIn a (expand s ds w.set)
by_one_of s ds [] a m = absurd (none_in s ds (length ds) a m)
by_one_of s ds (x ∷ xs) a m = elim (in_either a _ _ (subst (IsIn a) (expand_two s ds (length ds) x.set (sets_of xs)) m)) [
  | inl h ↦ (x, inl refl, h)
  | inr h ↦ let r = by_one_of s ds xs a h in (r.0, inr r.1, r.2)
]
