-- The type conditions of fragments, kept by the fragments' names.
use Rattle.std.proofs.Common.{◌≡◌, Bool, true, false, List, ◌∷◌, ◌++◌, refl, sym, ◌∙◌, ap, subst}
use Rattle.std.specs.Prelude.{◌||◌, ◌&&◌}
use Rattle.std.specs.Borrow.{Bor}
use Rattle.std.specs.List.{list_any}
use Rattle.std.specs.Str.{bytes_eq}
use Rattle.std.specs.Cmp.Lexicographic.{bytes_decides}
use Rattle.std.proofs.Math.Bool.{or_assoc, or-false}
use Rattle.std.proofs.lemmas.List.{map-append}
use Rattle.std.proofs.lemmas.List.Folds.{list_any-append}
use Rattle.gq_names.specs.UnderNames.{UnderNames, items_under, one_if}
use Rattle.gq_types.specs.Entries.{Text}
use Rattle.gq_types.specs.LookUps.{texts_of}
use Rattle.gq_types.proofs.Gathered.{from_any, to_any, or_right}
use Rattle.gq_document.specs.Definitions.{FragmentOf}
use Rattle.gq_fragments.specs.Helping.FragmentPlaces.{is_on, some_condition}
use Rattle.gq_fragments.specs.Helping.ConditionsPlaces.{has_some, TakesIn}

-- a condition that was put under the name
module _ (f : FragmentOf) (old new : UnderNames (Bor Text)) (item : Bor Text) (is : item.now ≡ f.on.text)
    (put : (text : Text) → items_under new text ≡ items_under old text ++ one_if (bytes_eq text f.name.text) item) where
  one : (test : Text → Bool) (b : Bool) → list_any test (texts_of (one_if b item)) ≡ (b && test f.on.text)
  one test true = or-false (test item.now) ∙ ap test is
  one test false = refl

  more : (name : Text) (test : Text → Bool) (b : Bool) → list_any test (texts_of (items_under old name ++ one_if b item)) ≡ (has_some old test name || (b && test f.on.text))
  more name test b =
      ap (list_any test) (map-append (λ (r : Bor Text). r.now) (items_under old name) (one_if b item))
      ∙ list_any-append test (texts_of (items_under old name)) (texts_of (one_if b item))
      ∙ ap (λ c. has_some old test name || c) (one test b)

  pub takes_new : TakesIn f old new
  takes_new name test = ap (λ items. list_any test (texts_of items)) (put name) ∙ more name test (bytes_eq name f.name.text)

-- a condition that was there
module _ (f : FragmentOf) (old : UnderNames (Bor Text)) (known : list_any (bytes_eq f.on.text) (texts_of (items_under old f.name.text)) ≡ true) where
  passes : (name : Text) (test : Text → Bool) → bytes_eq name f.name.text ≡ true → test f.on.text ≡ true → has_some old test name ≡ true
  passes name test same passed =
      let is : name ≡ f.name.text = (bytes_decides name f.name.text).0 same in
      let there = from_any (bytes_eq f.on.text) (texts_of (items_under old f.name.text)) known in
      let alike : f.on.text ≡ there.0 = (bytes_decides f.on.text there.0).0 there.2 in
      subst (λ n. has_some old test n ≡ true) (sym is)
      (to_any test (texts_of (items_under old f.name.text)) there.0 there.1 (subst (λ t. test t ≡ true) alike passed))

  by_case : (name : Text) (test : Text → Bool) (b c : Bool) → bytes_eq name f.name.text ≡ b → test f.on.text ≡ c → has_some old test name ≡ (has_some old test name || (b && c))
  by_case name test true true same passed = passes name test same passed ∙ sym (or_right (has_some old test name) true refl)
  by_case name test true false same passed = sym (or-false (has_some old test name))
  by_case name test false c same passed = sym (or-false (has_some old test name))

  pub takes_known : TakesIn f old old
  takes_known name test = by_case name test (bytes_eq name f.name.text) (test f.on.text) refl refl

-- one fragment more is gone over
pub gone_over : (f : FragmentOf) (rest : List FragmentOf) (old new : UnderNames (Bor Text)) → TakesIn f old new → (name : Text) (test : Text → Bool) →
    (has_some new test name || some_condition test rest name) ≡ (has_some old test name || some_condition test (f ∷ rest) name)
gone_over f rest old new takes name test =
    ap (λ b. b || some_condition test rest name) (takes name test) ∙ or_assoc (has_some old test name) (is_on name test f) (some_condition test rest name)
