-- A document is replaced by one with the same tokens: no rule tells the type systems apart.
use Rattle.std.proofs.Common.{◌≡◌, ◌⊎◌, ⊎_elim, ℕ, zero, suc, ◌<◌, Bool, true, false, List, [], ◌∷◌, ◌++◌, Some, length, map, set, slice_get, refl, sym, ◌∙◌, ap, subst, arith}
use Rattle.gq_project.specs.declared.document.Doc.{Doc}
use Rattle.gq_tree.specs.Readings.{ParsedOf}
use Rattle.gq_tree.specs.Readings as reading
use Rattle.gq_parse.specs.Parsed.{IsParsed, AreParsed, more}
use Rattle.gq_types.specs.BuiltIn.{built_in}
use Rattle.gq_types.specs.Entries.{EntryOf}
use Rattle.gq_document.specs.Definitions.{entries_of}
use Rattle.gq_rules.specs.RuleFaults.{IsRuleFault}
use Rattle.gq_by_file.specs.OneFile.Laws.{NumbersOfEntriesAreUnseen}
use Rattle.gq_types.specs.ErasedEntries.{erase_entry}
use Rattle.gq_types.specs.Look.{types_view}
use Rattle.gq_laws.specs.Placing.Tokens.{ReadAlike, SameTokensDefineAlike, erased_types}
use Rattle.gq_laws.specs.Placing.Types.{PlacesOfTypesDoNotMatter, PlacesOfTypesDoNotMatterToTypes, TypesLookAlike, erase_filed}
use Rattle.gq_schema.specs.SchemaOf.{HasNoFault}
use Rattle.gq_kept.specs.Helping.ReadsOn.{HasTokens, ReadsOn, has_tree}
use Rattle.gq_kept.specs.Helping.TypesOf.{AreTypesOf, DefineAlike, IsOneTypeSystem, IsSameOf, TellsOf}
use Rattle.gq_kept.specs.declared.typed.Typed.{Typed}
use Rattle.gq_kept.proofs.TypesLemmas.{erased_replaced, filed_replaced}

-- a document among those that are read, and what it is read as
pub record ReadAt (documents : List Doc) (rs : List ParsedOf) (at : ℕ) : Type 0 where
  pub document : Doc
  pub stands : slice_get documents at ≡ Some document
  pub reading : ParsedOf
  pub there : slice_get rs at ≡ Some reading
  pub parsed : IsParsed document.text reading

pub read_at : (documents : List Doc) (rs : List ParsedOf) (at : ℕ) → at < length documents → AreParsed documents rs → ReadAt documents rs at
read_at [] rs at h p = absurd (omega (arith, h))
read_at (d ∷ ds) [] at h p = elim p [ ]
read_at (d ∷ ds) (r ∷ rs) zero h (more q qs) = record { document = d; stands = refl; reading = r; there = refl; parsed = q }
read_at (d ∷ ds) (r ∷ rs) (suc at) h (more q qs) = let w = read_at ds rs at (omega (arith, h)) qs in record { document = w.document; stands = w.stands; reading = w.reading; there = w.there; parsed = w.parsed }

-- what is told where a document, which reads so, gets that text
abbrev pub IsToldOf : List Doc → ℕ → ParsedOf → List ℕ → Bool → Bool → Type 0
IsToldOf documents at r text changes is_made = changes ≡ false → (is_made ≡ false) ⊎ ((has_tree r ≡ true) × ((was : Doc) → slice_get documents at ≡ Some was → ReadsOn was.text text))

pub told_of_both : {documents others : List Doc} (at : ℕ) (r : ParsedOf) {text other : List ℕ} (changes is_made : Bool) → others ≡ documents → other ≡ text → IsToldOf others at r other changes is_made
    → IsToldOf documents at r text changes is_made
told_of_both {documents} {others} at r {text} {other} changes is_made e f told =
    subst (λ (ds : List Doc). IsToldOf ds at r text changes is_made) e (subst (λ (t : List ℕ). IsToldOf others at r t changes is_made) f told)

-- what has a tree reads as tokens
tokens_of : (text : List ℕ) (r : ParsedOf) → has_tree r ≡ true → IsParsed text r → HasTokens text
tokens_of text (reading.tree definitions) has parsed = (parsed.tokens, parsed.reads)
tokens_of text (reading.syntax place) has parsed = absurd (cc)
tokens_of text (reading.limit place) has parsed = absurd (cc)

-- so the document has the tokens that it had
read_alike : (documents : List Doc) (rs : List ParsedOf) (at : ℕ) (text : List ℕ) (was : ParsedOf) (w : ReadAt documents rs at) → slice_get rs at ≡ Some was → has_tree was ≡ true
    → ((one : Doc) → slice_get documents at ≡ Some one → ReadsOn one.text text) → ReadAlike w.document.text text
read_alike documents rs at text was w there has on =
    let same : was ≡ w.reading = let e = sym there ∙ w.there in cc in
    let tokens = tokens_of w.document.text w.reading (sym (ap has_tree same) ∙ has) w.parsed in
    on w.document w.stands tokens.0 tokens.1

module _ (numbers : NumbersOfEntriesAreUnseen) (tokens : SameTokensDefineAlike) (looks : TypesLookAlike) (rules : PlacesOfTypesDoNotMatter IsRuleFault) where
  pub replaced_alike : (documents : List Doc) (rs : List ParsedOf) (at : ℕ) (text : List ℕ) (was r : ParsedOf) (changes is_made : Bool) → at < length documents → slice_get rs at ≡ Some was
      → IsToldOf documents at was text changes is_made
      → (is_made ≡ false → IsOneTypeSystem rs (set rs at r))
      → changes ≡ false → AreParsed documents rs → IsParsed text r → DefineAlike rs (set rs at r)
  replaced_alike documents rs at text was r changes is_made inside there alike stays e are parsed os gs f =
      ⊎_elim
      (λ same. numbers (built_in ++ entries_of rs) (built_in ++ entries_of (set rs at r)) (stays same) os gs f)
      (λ read.
      let w = read_at documents rs at inside are in
      let one = tokens w.document.text text w.reading r (read_alike documents rs at text was w there read.0 read.1) w.parsed parsed in
      let erased = erased_replaced rs at r w.reading w.there one in
      let es : List EntryOf = built_in ++ entries_of rs in
      let us : List EntryOf = built_in ++ entries_of (set rs at r) in
      (rules es us (looks es us erased) os gs f, rules us es (looks us es (sym erased)) os gs f))
      (alike e)

-- what is known of the rules of the type system stays so
rules_kept : PlacesOfTypesDoNotMatterToTypes → (holds : Bool) (rs qs : List ParsedOf) → map erase_filed (built_in ++ entries_of rs) ≡ map erase_filed (built_in ++ entries_of qs) → TellsOf holds rs → TellsOf holds qs
rules_kept places holds rs qs same tells =
    let es : List EntryOf = built_in ++ entries_of rs in
    let us : List EntryOf = built_in ++ entries_of qs in
    (λ yes f h. let g = places us es (sym same) f h in tells.0 yes g.0 g.1, λ no none. tells.1 no (λ f h. let g = places es us same f h in none g.0 g.1))

-- so is it where the document has the tokens that it had
module _ (tokens : SameTokensDefineAlike) (documents : List Doc) (rs : List ParsedOf) (at : ℕ) (text : List ℕ) (was r : ParsedOf) (changes is_made : Bool) (inside : at < length documents) (there : slice_get rs at ≡ Some was)
    (told : IsToldOf documents at was text changes is_made) (both : (is_made ≡ true) × (changes ≡ false)) (are : AreParsed documents rs) (parsed : IsParsed text r) where
  -- what the document was read as, and that it defines the same but for places
  abbrev WasRead : Type 0
  WasRead = (old : ParsedOf) × (slice_get rs at ≡ Some old) × (erased_types old ≡ erased_types r)

  was_read : WasRead
  was_read =
      ⊎_elim
      (λ none. let clash : true ≡ false = sym both.0 ∙ none in absurd (cc))
      (λ read.
      let w = read_at documents rs at inside are in
      (w.reading, w.there, tokens w.document.text text w.reading r (read_alike documents rs at text was w there read.0 read.1) w.parsed parsed))
      (told both.1)

  pub told_kept : PlacesOfTypesDoNotMatterToTypes → (typed : Typed) → AreTypesOf rs typed → TellsOf typed.has_schema (set rs at r)
  told_kept places typed types =
      let sound : typed.has_schema ≡ true → HasNoFault (built_in ++ entries_of rs) = λ yes. subst HasNoFault types.is_type_system (types.sound yes) in
      let faulty : typed.has_schema ≡ false → HasNoFault (built_in ++ entries_of rs) → ⊥ = λ no none. types.faulty no (subst HasNoFault (sym types.is_type_system) none) in
      rules_kept places typed.has_schema rs (set rs at r) (filed_replaced rs at r was_read.0 was_read.1 was_read.2) (sound, faulty)

  pub same_kept : (typed : Typed) → types_view typed.types ≡ built_in ++ entries_of rs → IsSameOf typed (set rs at r)
  same_kept typed is = ap (map erase_entry) is ∙ erased_replaced rs at r was_read.0 was_read.1 was_read.2
