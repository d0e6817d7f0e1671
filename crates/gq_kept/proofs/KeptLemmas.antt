-- What is kept of documents, where one is replaced, put in or taken out.
use Rattle.std.proofs.Common.{◌≡◌, ℕ, Bool, true, false, if◌then◌else◌, List, [], ◌++◌, set, get_or, map, Some, None, Option, IfNone, IfSome, is_some, ◌<◌, ◌≤◌, length, refl, sym, ap, subst, ◌∙◌, arith}
use Rattle.std.specs.List.{insert, remove}
use Rattle.std.specs.List.Sorted.{IsStrictlySortedBy}
use Rattle.std.proofs.lemmas.List.{length-map, map-set, map-append, take-map, drop-map}
use Rattle.std.proofs.Math.Nat.{ℕ_set}
use mathlib.Core.Logic.{∥∥₁_map, ∥∥₁_elim, ∥∥₁_prop}
use Rattle.gq_project.specs.declared.document.Doc.{Doc}
use Rattle.gq_project.specs.Documents.{with_doc, without}
use Rattle.gq_project.specs.Helping.Places.{IsPlaceOf, IsGapFor}
use Rattle.gq_tree.specs.Readings.{ParsedOf, SharedParsed, definitions_read, shared_view, readings_view}
use Rattle.gq_parse.specs.Parsed.{IsParsed, AreParsed}
use Rattle.gq_types.specs.BuiltIn.{built_in}
use Rattle.gq_types.specs.Entries.{EntryOf}
use Rattle.gq_types.specs.Look.{types_view}
use Rattle.gq_document.specs.Definitions.{entries_of}
use Rattle.gq_by_file.specs.OneFile.Laws.{AreAlikeToRules, NumbersOfEntriesAreUnseen}
use Rattle.gq_index.specs.declared.index.Index.{Index}
use Rattle.gq_index.specs.Indexed.{IsIndexOfProject}
use Rattle.gq_known.specs.Known.{AreKnown}
use Rattle.gq_rules.specs.Validity.{IsReportOf, IsValid}
use Rattle.gq_kept.specs.declared.by_document.ByDocument.{ByDocument}
use Rattle.gq_kept.specs.declared.typed.Typed.{Typed}
use Rattle.gq_kept.specs.Helping.Facts.{AreKept}
use Rattle.gq_kept.specs.Helping.ByDocument.{AreByDocument}
use Rattle.gq_kept.specs.Helping.TypesOf.{AreTypesOf, DefineAlike, types_defined}
use Rattle.gq_kept.specs.Helping.Unindexed.{AddNothing}
use Rattle.gq_parse.proofs.OneReading.{OneTree}
use Rattle.gq_index.proofs.Parallel.{as_many}
use Rattle.gq_kept.proofs.IndexLemmas.{settled}
use Rattle.gq_kept.proofs.KnownLemmas.{types_known, replaced, inserted, removed}
use Rattle.gq_kept.proofs.TypesLemmas.{system_inserted, system_removed}

-- with no index
kept_by : (documents : List Doc) (readings : List SharedParsed) (typed : Typed) (found : ByDocument) → ∥ AreKnown documents readings (types_view typed.types) typed.has_schema × AreByDocument (types_view typed.types) (readings_view readings) found ∥₁ →
    AreKept documents readings typed found None
kept_by documents readings typed found both = record { known = ∥∥₁_map both (λ b. b.0); owned = ∥∥₁_map both (λ b. b.1); indexed = ∣ tt ∣₁ }

-- with an index
kept_with : (documents : List Doc) (readings : List SharedParsed) (typed : Typed) (found : ByDocument) (index : Option Index) → ∥ AreKnown documents readings (types_view typed.types) typed.has_schema × AreByDocument (types_view typed.types) (readings_view readings) found ∥₁ →
    ∥ IfSome index (IsIndexOfProject documents) ∥₁ → AreKept documents readings typed found index
kept_with documents readings typed found index both indexed = record { known = ∥∥₁_map both (λ b. b.0); owned = ∥∥₁_map both (λ b. b.1); indexed = indexed }

pub kept_first : (documents told : List Doc) (readings : List SharedParsed) (typed : Typed) (found : ByDocument) → told ≡ documents → ((es : List EntryOf) (rs : List ParsedOf) → AreByDocument es rs found) →
    AreKnown documents readings (types_view typed.types) typed.has_schema → AreKept told readings typed found None
kept_first documents told readings typed found same nothing known =
    let D : List Doc → Type 0 = λ ds. AreKept ds readings typed found None in
    subst D (sym same) (kept_by documents readings typed found ∣ (known, nothing (types_view typed.types) (readings_view readings)) ∣₁)

pub not_none : {A P : Type 0} (o : Option A) → is_some o ≡ false → IfNone o P → P
not_none None e p = p
not_none (Some x) e p = absurd (cc)

-- both at once
pub both_known : {A B C : Type 0} → ∥ A ∥₁ → ∥ B ∥₁ → (A → B → C) → ∥ C ∥₁
both_known a b f = ∥∥₁_elim a ∥∥₁_prop (λ x. ∥∥₁_map b (λ y. f x y))

-- the type systems before and after
systems : (before after : List ParsedOf) (old made : Typed) (changes : Bool) → AreTypesOf before old → AreTypesOf after made → (changes ≡ false → DefineAlike before after) → changes ≡ false → AreAlikeToRules (types_view old.types) (types_view made.types)
systems before after old made changes was is stays e =
    let D : List EntryOf → List EntryOf → Type 0 = λ es us. AreAlikeToRules es us in
    subst (λ (es : List EntryOf). D es (types_view made.types)) (sym was.is_type_system) (subst (λ (us : List EntryOf). D (built_in ++ entries_of before) us) (sym is.is_type_system) (stays e))

module _ (documents : List Doc) (readings : List SharedParsed) (typed : Typed) (found : ByDocument) (index : Option Index) (kept : AreKept documents readings typed found index) where
  -- as many readings as documents
  kept_count : length documents ≡ length readings
  kept_count = ∥∥₁_elim kept.known (ℕ_set _ _) (λ known. as_many known.are_readings ∙ length-map readings shared_view)

  pub kept_indexed : (others : ByDocument) (made : Index) → (AreByDocument (types_view typed.types) (readings_view readings) found → AreByDocument (types_view typed.types) (readings_view readings) others)
      → (AreParsed documents (readings_view readings) → AreByDocument (types_view typed.types) (readings_view readings) found → IsIndexOfProject documents made) → AreKept documents readings typed others (Some made)
  kept_indexed others made goes_on of = record {
    known = kept.known;
    owned = ∥∥₁_map kept.owned goes_on;
    indexed = both_known kept.known kept.owned (λ known owned. of known.are_readings owned);
  }

  -- more is known of the files each by itself
  pub kept_owned : (others : ByDocument) → (AreByDocument (types_view typed.types) (readings_view readings) found → AreByDocument (types_view typed.types) (readings_view readings) others) → AreKept documents readings typed others index
  kept_owned others goes_on = record { known = kept.known; owned = ∥∥₁_map kept.owned goes_on; indexed = kept.indexed }

  -- the documents as they are told of, and the readings as they are given
  module _ (told : List Doc) (given : List SharedParsed) (is_told : documents ≡ told) (is_given : given ≡ readings) where
    pub given_in_range : (at : ℕ) (key : List ℕ) → IsPlaceOf (λ d. d.key) key told at → at < length readings
    given_in_range at key place = let count = kept_count in let below : at < length told = place.in_range in let same = ap length is_told in omega arith

    pub gap_in_range : (at : ℕ) (key : List ℕ) → IsGapFor (λ d. d.key) key told at → at ≤ length readings
    gap_in_range at key gap = let count = kept_count in let below : at ≤ length told = gap.in_range in let same = ap length is_told in omega arith

    pub kept_replaced : (at : ℕ) (doc : Doc) (reading : SharedParsed) (made : Typed) (left : ByDocument) (changes : Bool) → IsPlaceOf (λ d. d.key) doc.key told at → ∥ IsParsed doc.text (shared_view reading) ∥₁
        → (AreParsed told (readings_view given) → IsParsed doc.text (shared_view reading) → AreTypesOf (readings_view given) typed → AreTypesOf (set (readings_view given) at (shared_view reading)) made)
        → (changes ≡ false → AreParsed told (readings_view given) → IsParsed doc.text (shared_view reading) → DefineAlike (readings_view given) (set (readings_view given) at (shared_view reading)))
        → ((changes ≡ false → AreAlikeToRules (types_view typed.types) (types_view made.types)) → AreByDocument (types_view typed.types) (readings_view readings) found → AreByDocument (types_view made.types) (set (readings_view readings) at (shared_view reading)) left)
        → OneTree → (keeps : Bool) → (keeps ≡ true → AddNothing (get_or (map definitions_read (readings_view readings)) at []) × AddNothing (definitions_read (shared_view reading)))
        → AreKept (with_doc documents doc) (set readings at reading) made left (if keeps then index else None)
    kept_replaced at doc reading made left changes place merely types stays forgets one_tree keeps silent =
        kept_with _ _ _ left (if keeps then index else None) (∥∥₁_elim merely ∥∥₁_prop (λ (parsed : IsParsed doc.text (shared_view reading)). both_known kept.known kept.owned (λ known owned.
        let was : AreTypesOf (readings_view given) typed = rw is_given (types_known documents readings typed known) in
        let read : AreParsed told (readings_view given) =
        subst (λ (ds : List Doc). AreParsed ds (readings_view given)) is_told (subst (λ (gs : List SharedParsed). AreParsed documents (readings_view gs)) (sym is_given) known.are_readings) in
        let are : AreTypesOf (set (readings_view given) at (shared_view reading)) made = types read parsed was in
        let one = systems (readings_view given) (set (readings_view given) at (shared_view reading)) typed made changes was are (λ e. stays e read parsed) in
        let there : AreByDocument (types_view made.types) (set (readings_view readings) at (shared_view reading)) left = forgets one owned in
        (replaced documents readings typed known at doc reading made (rw is_told place) parsed (rw (← is_given) are), rw map-set there))))
        (∥∥₁_elim merely ∥∥₁_prop (λ (parsed : IsParsed doc.text (shared_view reading)). both_known kept.known kept.indexed (λ known indexed.
        settled one_tree documents (readings_view readings) index at doc (shared_view reading) keeps known.are_readings indexed (rw is_told place) parsed silent)))

    pub kept_inserted : NumbersOfEntriesAreUnseen → (at : ℕ) (doc : Doc) (reading : SharedParsed) (made : Typed) (left : ByDocument) (changes : Bool) → IsGapFor (λ d. d.key) doc.key told at → ∥ IsParsed doc.text (shared_view reading) ∥₁
        → (AreTypesOf (readings_view given) typed → AreTypesOf (insert (readings_view given) at (shared_view reading)) made)
        → (changes ≡ false → types_defined (shared_view reading) ≡ [])
        → ((es us : List EntryOf) (rs : List ParsedOf) → at ≤ length rs → (changes ≡ false → AreAlikeToRules es us) → AreByDocument es rs found → AreByDocument us (insert rs at (shared_view reading)) left)
        → AreKept (with_doc documents doc) (insert readings at reading) made left None
    kept_inserted unseen at doc reading made left changes gap merely types defines opens =
        kept_by _ _ _ left (∥∥₁_elim merely ∥∥₁_prop (λ (parsed : IsParsed doc.text (shared_view reading)). both_known kept.known kept.owned (λ known owned.
        let was : AreTypesOf (readings_view given) typed = rw is_given (types_known documents readings typed known) in
        let are : AreTypesOf (insert (readings_view given) at (shared_view reading)) made = types was in
        let one = systems (readings_view given) (insert (readings_view given) at (shared_view reading)) typed made changes was are (λ e. unseen _ _ (system_inserted (readings_view given) at (shared_view reading) (defines e))) in
        let within : at ≤ length (readings_view readings) = subst (λ (n : ℕ). at ≤ n) (sym (length-map readings shared_view)) (gap_in_range at doc.key gap) in
        let there : AreByDocument (types_view made.types) (insert (readings_view readings) at (shared_view reading)) left = opens (types_view typed.types) (types_view made.types) (readings_view readings) within one owned in
        let same : readings_view (insert readings at reading) ≡ insert (readings_view readings) at (shared_view reading) = simp (map-append, take-map, drop-map) in
        (inserted documents readings typed known at doc reading made (rw is_told gap) parsed (rw (← is_given) are), rw same there))))

    pub kept_removed : NumbersOfEntriesAreUnseen → (at : ℕ) (key : List ℕ) (made : Typed) (left : ByDocument) (changes : Bool) → IsPlaceOf (λ d. d.key) key told at
        → (AreTypesOf (readings_view given) typed → AreTypesOf (remove (readings_view given) at) made)
        → (changes ≡ false → get_or (map types_defined (readings_view given)) at [] ≡ [])
        → ((es us : List EntryOf) (rs : List ParsedOf) → (changes ≡ false → AreAlikeToRules es us) → AreByDocument es rs found → AreByDocument us (remove rs at) left)
        → AreKept (without documents key) (remove readings at) made left None
    kept_removed unseen at key made left changes place types defines closes =
        kept_by _ _ _ left (both_known kept.known kept.owned (λ known owned.
        let was : AreTypesOf (readings_view given) typed = rw is_given (types_known documents readings typed known) in
        let are : AreTypesOf (remove (readings_view given) at) made = types was in
        let one = systems (readings_view given) (remove (readings_view given) at) typed made changes was are (λ e. unseen _ _ (system_removed (readings_view given) at (defines e))) in
        let there : AreByDocument (types_view made.types) (remove (readings_view readings) at) left = closes (types_view typed.types) (types_view made.types) (readings_view readings) one owned in
        let same : readings_view (remove readings at) ≡ remove (readings_view readings) at = simp (map-append, take-map, drop-map) in
        (removed documents readings typed known at key made (rw is_told place) (rw (← is_given) are), rw same there)))

-- nothing is told of a valid project
pub report_of_valid : (documents : List Doc) → IsValid documents → IsReportOf documents []
unfolding IsStrictlySortedBy
report_of_valid documents valid = record {
  readings = valid.readings;
  are_readings = valid.are_readings;
  faults = [];
  sorted = tt;
  exact = λ fault. ((λ h. absurd (omega (arith, h.1))), (λ is. absurd (valid.none fault is)));
  are_told = refl;
}
