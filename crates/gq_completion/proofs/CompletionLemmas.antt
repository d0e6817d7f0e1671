-- What completes a text is told by its one reading as tokens, its one tree, and the one type system of the project.
use Rattle.std.proofs.Common.{◌≡◌, ◌↔◌, ℕ, zero, suc, ◌≤◌, ◌<◌, ◌^◌, Bool, true, false, List, [], ◌∷◌, Option, Some, None, Result, Ok, Err, IfOk, IfSome, length, refl, sym, ap, ◌∙◌, subst, arith, Contains}
use Rattle.std.specs.Prelude.{find, position, slice_get, option_and_then}
use Rattle.std.specs.Option.{option_map}
use Rattle.std.proofs.lemmas.Option.{slice_get-map}
use Rattle.std.specs.Cmp.Lexicographic.{slice_cmp}
use Rattle.std.specs.List.Sorted.{IsStrictlySortedBy}
use Rattle.std.specs.Ordering.{nat_cmp}
use Rattle.gq_text.specs.declared.place.Span.{Span}
use Rattle.gq_lex.specs.Tokens.{Lexeme, Reads}
use Rattle.gq_tree.specs.Plain.{Def}
use Rattle.gq_tree.specs.Readings.{ParsedOf, SharedParsed, readings_view, shared_view}
use Rattle.gq_project.specs.declared.document.Doc.{Doc}
use Rattle.gq_project.specs.Documents.{has_key}
use Rattle.gq_parse.specs.Derives.{Derives}
use Rattle.gq_parse.specs.Parsed.{HasNoTree, IsParsed, AreParsed, more}
use Rattle.gq_types.specs.Entries.{Text, EntryOf}
use Rattle.gq_types.proofs.Gathered.{nothing_in}
use Rattle.gq_types.proofs.Searches.{position_within, find_through}
use Rattle.gq_schema.specs.SchemaOf.{IsTypeSystemOf, HasNoFault}
use Rattle.gq_known.specs.Known.{AreKnown}
use Rattle.gq_parse.proofs.OneReading.{OneTree}
use Rattle.gq_completion.specs.declared.completion.Completion.{Completion}
use Rattle.gq_completion.specs.declared.completion.CompletionKind.{CompletionKind}
use Rattle.gq_completion.specs.Helping.Completed.{AreCompleted}
use Rattle.gq_completion.specs.Completions.{IsFieldIn, IsFieldBy, IsFieldName, IsName, Completes, AreCompletions}
use Rattle.gq_completion.specs.Tokens.{kind_at}

abbrev pub OneReading : Type 0
OneReading = (text : List ℕ) (a b : List Lexeme) → Reads text a → Reads text b → a ≡ b

abbrev pub OneTypeSystem : Type 0
OneTypeSystem = (documents : List Doc) (xs ys : List EntryOf) → IsTypeSystemOf documents xs → IsTypeSystemOf documents ys → xs ≡ ys

abbrev Sorted : List Completion → Type 0
Sorted items = IsStrictlySortedBy (λ (a b : Completion). slice_cmp nat_cmp a.label b.label) items

-- fields by what is known of documents
module _ (documents : List Doc) (readings : List SharedParsed) (es : List EntryOf) (has_schema : Bool) (tree : List (Def Span)) (p i : ℕ) where
  own_type_system : AreKnown documents readings es has_schema → IsTypeSystemOf documents es
  own_type_system known = record { readings = readings_view readings; are_readings = known.are_readings; is = known.is_type_system }

  pub by_schema : OneTypeSystem → has_schema ≡ true → (names : List Text) → ((label : Text) → Contains names label ↔ IsFieldIn es tree p i label) → AreKnown documents readings es has_schema →
      (label : Text) → Contains names label ↔ IsFieldBy documents tree p i label
  by_schema one has names are known label = (
    λ c. record { entries = es; of_documents = own_type_system known; no_fault = known.sound has; is = (are label).0 c },
    λ h. (are label).1 (subst (λ xs. IsFieldIn xs tree p i label) (one documents h.entries es h.of_documents (own_type_system known)) h.is),
  )

  pub without_schema : OneTypeSystem → has_schema ≡ false → (names : List Text) → names ≡ [] → AreKnown documents readings es has_schema → (label : Text) → Contains names label ↔ IsFieldBy documents tree p i label
  without_schema one has names e known label = (
    λ c. nothing_in label (subst (λ xs. Contains xs label) e c),
    λ h. absurd (known.faulty has (subst HasNoFault (one documents h.entries es h.of_documents (own_type_system known)) h.no_fault)),
  )

-- fields in a text
module _ (documents : List Doc) (p i : ℕ) where
  pub in_text : OneTree → (tree : List (Def Span)) (names : List Text) → ((label : Text) → Contains names label ↔ IsFieldBy documents tree p i label) → (text : Text) → Derives text tree →
      (label : Text) → Contains names label ↔ IsFieldName documents text p i label
  in_text one_tree tree names are text derives label = (
    λ c. record { tree = tree; derives = derives; is = (are label).0 c },
    λ h. (are label).1 (subst (λ t. IsFieldBy documents t p i label) (one_tree text h.tree tree h.derives derives) h.is),
  )

  pub without_tree : (names : List Text) → names ≡ [] → (text : Text) → HasNoTree text → (label : Text) → Contains names label ↔ IsFieldName documents text p i label
  without_tree names e text none label = (λ c. nothing_in label (subst (λ xs. Contains xs label) e c), λ h. absurd (none h.tree h.derives))

-- what completes a document of some number
pub reading_at : (documents : List Doc) (rs : List ParsedOf) → AreParsed documents rs → (k : ℕ) (document : Doc) (one : ParsedOf) → slice_get documents k ≡ Some document → slice_get rs k ≡ Some one → IsParsed document.text one
reading_at [] rs are k document one d r = absurd (cc)
reading_at (x ∷ xs) [] are k document one d r = absurd (cc)
reading_at (x ∷ xs) (y ∷ ys) (more is rest) zero document one d r =
    let of : x ≡ document = cc in
    let reads : y ≡ one = cc in
    subst (λ (z : Doc). IsParsed z.text one) of (subst (λ (z : ParsedOf). IsParsed x.text z) reads is)
reading_at (x ∷ xs) (y ∷ ys) (more is rest) (suc k) document one d r = reading_at xs ys rest k document one d r

no_reading_at : (documents : List Doc) (rs : List ParsedOf) → AreParsed documents rs → (k : ℕ) (document : Doc) → slice_get documents k ≡ Some document → slice_get rs k ≡ None → ⊥
no_reading_at [] rs are k document d r = absurd (cc)
no_reading_at (x ∷ xs) [] are k document d r = elim are [ ]
no_reading_at (x ∷ xs) (y ∷ ys) (more is rest) zero document d r = absurd (cc)
no_reading_at (x ∷ xs) (y ∷ ys) (more is rest) (suc k) document d r = no_reading_at xs ys rest k document d r

-- what completes a text
module _ (documents : List Doc) (text : Text) (i : ℕ) where
  pub by_tokens : OneReading → (tokens : List Lexeme) → Reads text tokens → length tokens ≤ 2 ^ 20 → (kind : CompletionKind) → kind ≡ kind_at tokens i → (names : List Text) →
      ((label : Text) → Contains names label ↔ IsName documents text tokens i kind label) →
      (items : List Completion) → Sorted items → ((item : Completion) → Contains items item ↔ ((item.kind ≡ kind) × Contains names item.label)) → AreCompleted documents text i items
  by_tokens one tokens reads few kind e names are items sorted exact = record {
    sorted = sorted;
    exact = λ item. (
      λ c.
          let q = (exact item).0 c in
          record { tokens = tokens; reads = reads; few = few; kind = q.0 ∙ e; name = subst (λ k. IsName documents text tokens i k item.label) (sym q.0) ((are item.label).0 q.1) },
      λ h.
          let same = one text h.tokens tokens h.reads reads in
          let is : item.kind ≡ kind = h.kind ∙ ap (λ ts. kind_at ts i) same ∙ sym e in
          (exact item).1 (is, (are item.label).1 (subst (λ k. IsName documents text tokens i k item.label) is (subst (λ ts. IsName documents text ts i item.kind item.label) same h.name))),
    );
  }

  empty : ((tokens : List Lexeme) → Reads text tokens → length tokens ≤ 2 ^ 20 → ⊥) → AreCompleted documents text i []
  unfolding IsStrictlySortedBy
  empty none = record { sorted = tt; exact = λ item. (λ c. nothing_in item c, λ h. absurd (none h.tokens h.reads h.few)) }

  pub nothing : ((tokens : List Lexeme) → Reads text tokens → length tokens ≤ 2 ^ 20 → ⊥) → (items : List Completion) → items ≡ [] → AreCompleted documents text i items
  nothing none items e = subst (λ xs. AreCompleted documents text i xs) (sym e) (empty none)

at_key : (documents : List Doc) (key : List ℕ) (i : ℕ) (document : Doc) → find (has_key key) documents ≡ Some document → (items : List Completion) → AreCompleted documents document.text i items → AreCompletions documents key i items
at_key documents key i document found items are = record {
  sorted = are.sorted;
  exact = λ item. (
    λ c. record { document = document; found = found; completes = (are.exact item).0 c },
    λ h.
        let same : ◌≡◌ {A = Option Doc} (Some document) (Some h.document) = sym found ∙ h.found in
        let one : document ≡ h.document = cc in
        (are.exact item).1 (subst (λ (d : Doc). Completes documents d.text i item) (sym one) h.completes),
  );
}

none_at : (documents : List Doc) (key : List ℕ) (i : ℕ) → find (has_key key) documents ≡ None → AreCompletions documents key i []
unfolding IsStrictlySortedBy
none_at documents key i absent = record {
  sorted = tt;
  exact = λ item. (λ c. nothing_in item c, λ h. let no : ◌≡◌ {A = Option Doc} None (Some h.document) = sym absent ∙ h.found in absurd (cc));
}

-- what stands at a place within a list
standing : {X : Type 0} (xs : List X) (k : ℕ) → k < length xs → (x : X) × (slice_get xs k ≡ Some x)
standing [] k l = absurd (omega (arith, l))
standing (x ∷ xs) zero l = (x, refl)
standing (x ∷ xs) (suc k) l = standing xs k (omega (arith, l))

-- the document of a key is that of its number
pub at_place : (documents : List Doc) (key : List ℕ) (i k : ℕ) → position (has_key key) documents ≡ Some k → (items : List Completion) →
    ((document : Doc) → slice_get documents k ≡ Some document → AreCompleted documents document.text i items) → AreCompletions documents key i items
at_place documents key i k e items are =
    let here = standing documents k (subst (λ (o : Option ℕ). IfSome o (λ n. n < length documents)) e (position_within (has_key key) documents)) in
    let found = find_through (has_key key) documents ∙ ap (option_and_then (λ n. slice_get documents n)) e ∙ here.1 in
    at_key documents key i here.0 found items (are here.0 here.1)

pub no_place : (documents : List Doc) (key : List ℕ) (i : ℕ) → position (has_key key) documents ≡ None → (items : List Completion) → items ≡ [] → AreCompletions documents key i items
no_place documents key i absent items e =
    subst (λ xs. AreCompletions documents key i xs) (sym e) (none_at documents key i (find_through (has_key key) documents ∙ ap (option_and_then (λ n. slice_get documents n)) absent))

-- what completes the document of some number
module _ (documents : List Doc) (readings : List SharedParsed) (es : List EntryOf) (has_schema : Bool) (i k : ℕ) (items : List Completion) where
  pub at_number : (here : Doc) (one : SharedParsed) (text : Text) → text ≡ here.text → slice_get documents k ≡ Some here → slice_get readings k ≡ Some one →
      (AreKnown documents readings es has_schema → IsParsed text (shared_view one) → AreCompleted documents text i items) →
      AreKnown documents readings es has_schema → (document : Doc) → slice_get documents k ≡ Some document → AreCompleted documents document.text i items
  at_number here one text e stands reads are known document found =
      let both : ◌≡◌ {A = Option Doc} (Some here) (Some document) = sym stands ∙ found in
      let same : here ≡ document = cc in
      let read = reading_at documents (readings_view readings) known.are_readings k here (shared_view one) stands (slice_get-map shared_view readings k ∙ ap (option_map shared_view) reads) in
      subst (λ t. AreCompleted documents t i items) (e ∙ ap (λ (d : Doc). d.text) same) (are known (subst (λ t. IsParsed t (shared_view one)) (sym e) read))

  pub no_document : slice_get documents k ≡ None → (document : Doc) → slice_get documents k ≡ Some document → AreCompleted documents document.text i items
  no_document absent document found =
      let no : ◌≡◌ {A = Option Doc} None (Some document) = sym absent ∙ found in
      absurd (cc)

  pub no_reading : slice_get readings k ≡ None → AreKnown documents readings es has_schema → (document : Doc) → slice_get documents k ≡ Some document → AreCompleted documents document.text i items
  no_reading absent known document found = absurd (no_reading_at documents (readings_view readings) known.are_readings k document found (slice_get-map shared_view readings k ∙ ap (option_map shared_view) absent))

-- two facts of one result
pub both : {T E : Type 0} (r : Result T E) (P Q : T → Type 0) → IfOk r P → IfOk r Q → IfOk r (λ x. P x × Q x)
both (Ok x) P Q p q = (p, q)
both (Err y) P Q p q = tt
