-- The answer to extract, from what its steps found.
use Rattle.std.proofs.Common.{◌≡◌, ℕ, ◌<◌, List, Option, Some, None, Result, Ok, Err, slice_get, find, position, option_and_then, refl, sym, ap, subst, ◌∙◌, inl, inr, ⊎_elim, arith}
use Rattle.std.specs.Option.{option_map, option_or}
use Rattle.std.proofs.lemmas.Grind.{not_there}
use Rattle.gq_text.specs.declared.place.Span.{Span}
use Rattle.gq_lex.specs.Tokens.{Lexeme, Reads}
use Rattle.gq_tree.specs.Plain.{Sels}
use Rattle.gq_project.specs.declared.document.Doc.{Doc}
use Rattle.gq_project.specs.Documents.{has_key}
use Rattle.gq_edit.specs.declared.edit.DocumentEdit.{DocumentEdit}
use Rattle.gq_tree.specs.Readings.{ParsedOf}
use Rattle.gq_types.specs.Entries.{Text, EntryOf}
use Rattle.gq_index.specs.Occurrences.{DefinitionOf, executables}
use Rattle.gq_rules.specs.Validity.{IsValid}
use Rattle.gq_document.specs.Last.{find_last}
use Rattle.gq_document.specs.Sets.{SetOf}
use Rattle.gq_select.specs.Runs.{RunOf}
use Rattle.gq_select.specs.Touched.{Touches, is_touched}
use Rattle.gq_rename.specs.declared.refusal.Refusal.{Refusal}
use Rattle.gq_rename.specs.declared.refusal.Refusal.TheVariants.{ProjectInvalid, NothingHere, BadName, SameName, NameTaken, DirectiveInWay, NoPossibleType, NotSiblings, NotRedundant, TooLarge, SelfCheck, NoMemory}
use Rattle.gq_rename.specs.Refusals.{number_of}
use Rattle.gq_reshape.specs.Asks.{RangeAsk, IsAskedOf}
use Rattle.gq_reshape.specs.Cuts.{Cut}
use Rattle.gq_reshape.specs.Extract.{Touched, run_at, innermost_at, parent_in_question, sets_asked, Extraction, extract_at, extract_cut, NothingToExtract, HasNoObject, HasNoPossibleType, AreNoSiblings}
use Rattle.gq_reshape.specs.Naming.{IsLeastFree, extracted_name}
use Rattle.gq_reshape.specs.Helping.Judged.{IsJudged}
use Rattle.gq_reshape.specs.Reshape.{PassesLimits, FailsCheck, RefusesExtract}
use Rattle.gq_reshape.specs.Helping.Steps.{ExtractOffer, IsNoRun}

abbrev pub OneReading : Type 0
OneReading = (text : List ℕ) (a b : List Lexeme) → Reads text a → Reads text b → a ≡ b

pub same_span : (p q : Span) → p.start ≡ q.start → p.end ≡ q.end → p ≡ q
same_span p q e f = ap (λ (s : ℕ). let x : Span = record { start = s; end = p.end } in x) e ∙ ap (λ (t : ℕ). let x : Span = record { start = q.start; end = t } in x) f

-- the least free number is one
pub least_once : (ds : List DefinitionOf) (m n : ℕ) → IsLeastFree ds m → IsLeastFree ds n → m ≡ n
least_once ds m n a b =
    let above : m < n → ⊥ = λ less. b.least m a.positive less a.free in
    let below : n < m → ⊥ = λ less. a.least n b.positive less b.free in
    omega (arith, above, below)

module _ (documents : List Doc) (es : List EntryOf) (readings : List ParsedOf) (ask : RangeAsk) (valid : ∥ IsValid documents ∥₁) where
  -- what is refuted by what is known so far
  none_before : (n : ℕ) → (2 < n → NothingToExtract documents es readings ask → ⊥) → (7 < n → HasNoPossibleType documents es readings ask → ⊥) → (8 < n → AreNoSiblings documents es readings ask → ⊥) →
      (10 < n → (e : Extraction documents es readings ask) → PassesLimits documents (extract_cut e) → ⊥) → (11 < n → (e : Extraction documents es readings ask) → FailsCheck documents readings (extract_cut e) → ⊥) →
      (why : Refusal) → number_of why < n → RefusesExtract documents es readings ask why → ⊥
  none_before n some typed run fits checks ProjectInvalid less h = not_there valid h
  none_before n some typed run fits checks NothingHere less h = some less h
  none_before n some typed run fits checks BadName less h = h
  none_before n some typed run fits checks SameName less h = h
  none_before n some typed run fits checks NameTaken less h = h
  none_before n some typed run fits checks DirectiveInWay less h = h
  none_before n some typed run fits checks NoPossibleType less h = typed less h
  none_before n some typed run fits checks NotSiblings less h = run less h
  none_before n some typed run fits checks NotRedundant less h = h
  none_before n some typed run fits checks TooLarge less h = fits less h.0 h.1
  none_before n some typed run fits checks SelfCheck less h = checks less h.0 h.1
  none_before n some typed run fits checks NoMemory less h = h

  -- nothing is there
  pub nothing : NothingToExtract documents es readings ask → ExtractOffer documents es readings ask (Err NothingHere)
  nothing h = inr (h, none_before 2 (λ l. absurd (omega (arith, l))) (λ l. absurd (omega (arith, l))) (λ l. absurd (omega (arith, l))) (λ l. absurd (omega (arith, l))) (λ l. absurd (omega (arith, l))))

  pub no_document : position (has_key ask.key) documents ≡ None → ExtractOffer documents es readings ask (Err NothingHere)
  no_document none = nothing (λ u. let e = sym none ∙ u.asked_of.is_at in absurd (cc))

  module _ (one_reading : OneReading) (file : ℕ) (document : Doc) (asked : IsAskedOf documents ask.key file document) where
    same_file : (u : Touched documents ask) → file ≡ u.file
    same_file u = let e = sym asked.is_at ∙ u.asked_of.is_at in cc

    same_document : (u : Touched documents ask) → document ≡ u.document
    same_document u = let e : Some document ≡ Some u.document = sym asked.stands ∙ ap (slice_get documents) (same_file u) ∙ u.asked_of.stands in cc

    pub no_token : ((place : Span) → Touches document.text ask.range place → ⊥) → ExtractOffer documents es readings ask (Err NothingHere)
    no_token none = nothing (λ u. absurd (none u.place (let T : Doc → Type 0 = λ d. Touches d.text ask.range u.place in subst T (sym (same_document u)) u.touches)))

    module _ (place : Span) (touches : Touches document.text ask.range place) where
      abbrev own : Touched documents ask
      own = record { file = file; document = document; asked_of = asked; place = place; touches = touches }

      same_place : (u : Touched documents ask) → place ≡ u.place
      same_place u =
          let R : Doc → Type 0 = λ d. Reads d.text u.touches.tokens in
          let same : touches.tokens ≡ u.touches.tokens = one_reading document.text touches.tokens u.touches.tokens touches.reads (subst R (sym (same_document u)) u.touches.reads) in
          let first : Some place.start ≡ Some u.place.start = sym touches.first ∙ ap (λ (ts : List Lexeme). option_map (λ t. t.span.start) (find (is_touched ask.range) ts)) same ∙ u.touches.first in
          let last : Some place.end ≡ Some u.place.end = sym touches.last ∙ ap (λ (ts : List Lexeme). option_map (λ t. t.span.end) (find_last (is_touched ask.range) ts)) same ∙ u.touches.last in
          same_span place u.place (cc) (cc)

      abbrev pub Sets : List SetOf
      Sets = sets_asked es readings own

      same_sets : (u : Touched documents ask) → Sets ≡ sets_asked es readings u
      same_sets u = ap (λ (f : ℕ). Rattle.gq_select.specs.Meant.document_sets es (Rattle.gq_reshape.specs.Asks.tree_at readings f)) (same_file u)

      of_each : {A : Type 0} (f : Span → List SetOf → A) (u : Touched documents ask) → f place Sets ≡ f u.place (sets_asked es readings u)
      of_each f u = ap (λ (p : Span). f p Sets) (same_place u) ∙ ap (f u.place) (same_sets u)

      -- no set is in question
      pub no_set : parent_in_question place Sets ≡ None → ExtractOffer documents es readings ask (Err NothingHere)
      no_set none = nothing (λ u. sym (of_each parent_in_question u) ∙ none)

      some_set : (parent : Option Text) → parent_in_question place Sets ≡ Some parent → NothingToExtract documents es readings ask → ⊥
      some_set parent some none = let e : Some parent ≡ None = sym some ∙ none own in cc

      pub no_type : (parent : Option Text) → parent_in_question place Sets ≡ Some parent → HasNoObject es parent → ExtractOffer documents es readings ask (Err NoPossibleType)
      no_type parent in_question none =
          inr (
            record { touched = own; parent = parent; in_question = in_question; no_object = none },
            none_before 7 (λ l. some_set parent in_question) (λ l. absurd (omega (arith, l))) (λ l. absurd (omega (arith, l))) (λ l. absurd (omega (arith, l))) (λ l. absurd (omega (arith, l))),
          )

      typed : (parent : Option Text) → parent_in_question place Sets ≡ Some parent → (HasNoObject es parent → ⊥) → HasNoPossibleType documents es readings ask → ⊥
      typed parent in_question some h =
          let e : Some parent ≡ Some h.parent = sym in_question ∙ of_each parent_in_question h.touched ∙ h.in_question in
          let same : h.parent ≡ parent = cc in
          some (subst (HasNoObject es) same h.no_object)

      pub siblings : (set : SetOf) → run_at place Sets ≡ None → innermost_at place Sets ≡ Some set → (HasNoObject es set.parent → ⊥) → ExtractOffer documents es readings ask (Err NotSiblings)
      siblings set none between some =
          let q : parent_in_question place Sets ≡ Some set.parent =
          ap (λ (r : Option RunOf). option_or (option_map (λ r. r.parent) r) (option_map (λ s. s.parent) (innermost_at place Sets))) none ∙ ap (option_map (λ s. s.parent)) between in
          inr (
            record { touched = own; no_run = none; set = set; between = between },
            none_before 8 (λ l. some_set set.parent q) (λ l. typed set.parent q some) (λ l. absurd (omega (arith, l))) (λ l. absurd (omega (arith, l))) (λ l. absurd (omega (arith, l))),
          )

      -- there is no run
      pub no_run : (set : Option SetOf) (why : Refusal) → run_at place Sets ≡ None → innermost_at place Sets ≡ set → IsNoRun es set why → ExtractOffer documents es readings ask (Err why)
      no_run None why none between h =
          let q : parent_in_question place Sets ≡ None =
          ap (λ (r : Option RunOf). option_or (option_map (λ r. r.parent) r) (option_map (λ s. s.parent) (innermost_at place Sets))) none ∙ ap (option_map (λ s. s.parent)) between in
          subst (λ (w : Refusal). ExtractOffer documents es readings ask (Err w)) (sym h) (no_set q)
      no_run (Some set) why none between h =
          let q : parent_in_question place Sets ≡ Some set.parent =
          ap (λ (r : Option RunOf). option_or (option_map (λ r. r.parent) r) (option_map (λ s. s.parent) (innermost_at place Sets))) none ∙ ap (option_map (λ s. s.parent)) between in
          ⊎_elim
          (λ (a : (why ≡ NotSiblings) × (HasNoObject es set.parent → ⊥)). subst (λ (w : Refusal). ExtractOffer documents es readings ask (Err w)) (sym a.0) (siblings set none between a.1))
          (λ (b : (why ≡ NoPossibleType) × HasNoObject es set.parent). subst (λ (w : Refusal). ExtractOffer documents es readings ask (Err w)) (sym b.0) (no_type set.parent q b.1))
          h

      module _ (parent : Option Text) (run : Sels Span) (is_run : run_at place Sets ≡ Some (record { parent = parent; run = run })) where
        question : parent_in_question place Sets ≡ Some parent
        question = ap (λ (r : Option RunOf). option_or (option_map (λ r. r.parent) r) (option_map (λ s. s.parent) (innermost_at place Sets))) is_run

        pub run_without_type : HasNoObject es parent → ExtractOffer documents es readings ask (Err NoPossibleType)
        run_without_type none = no_type parent question none

      module _ (on : Text) (run : Sels Span) (is_run : run_at place Sets ≡ Some (record { parent = Some on; run = run })) (some : HasNoObject es (Some on) → ⊥) (number : ℕ) (least : IsLeastFree (executables readings) number) where
        abbrev extraction : Extraction documents es readings ask
        extraction = record { touched = own; parent = on; run = run; is_run = is_run; number = number; is_least = least }

        abbrev pub OwnCut : Cut
        OwnCut = extract_at file document.text place (extracted_name number) on run

        same_cut : (e : Extraction documents es readings ask) → OwnCut ≡ extract_cut e
        same_cut e =
            let found : Some (record { parent = Some on; run = run }) ≡ Some (record { parent = Some e.parent; run = e.run }) = sym is_run ∙ of_each run_at e.touched ∙ e.is_run in
            let on_found : Some on ≡ Some e.parent = ap (λ (o : Option RunOf). option_and_then (λ r. r.parent) o) found in
            let run_found : Some run ≡ Some e.run = ap (λ (o : Option RunOf). option_map (λ r. r.run) o) found in
            let same_on : on ≡ e.parent = cc in
            let same_run : run ≡ e.run = cc in
            ap (λ (f : ℕ). extract_at f document.text place (extracted_name number) on run) (same_file e.touched)
            ∙ ap (λ (d : Doc). extract_at e.touched.file d.text place (extracted_name number) on run) (same_document e.touched)
            ∙ ap (λ (p : Span). extract_at e.touched.file e.touched.document.text p (extracted_name number) on run) (same_place e.touched)
            ∙ ap (λ (n : ℕ). extract_at e.touched.file e.touched.document.text e.touched.place (extracted_name n) on run) (least_once (executables readings) number e.number least e.is_least)
            ∙ ap (λ (t : Text). extract_at e.touched.file e.touched.document.text e.touched.place (extracted_name e.number) t run) same_on
            ∙ ap (extract_at e.touched.file e.touched.document.text e.touched.place (extracted_name e.number) e.parent) same_run

        before : (n : ℕ) → (10 < n → PassesLimits documents OwnCut → ⊥) → (11 < n → FailsCheck documents readings OwnCut → ⊥) → (why : Refusal) → number_of why < n → RefusesExtract documents es readings ask why → ⊥
        before n fits checks =
            none_before n (λ l. some_set (Some on) (question (Some on) run is_run)) (λ l. typed (Some on) (question (Some on) run is_run) some)
            (λ l h. let e : Some (record { parent = Some on; run = run }) ≡ None = sym is_run ∙ of_each run_at h.touched ∙ h.no_run in cc)
            (λ l e h. fits l (subst (PassesLimits documents) (sym (same_cut e)) h)) (λ l e h. checks l (subst (FailsCheck documents readings) (sym (same_cut e)) h))

        pub made : (result : Result (List DocumentEdit) Refusal) → IsJudged documents readings OwnCut result → ExtractOffer documents es readings ask result
        made (Ok edits) j = inr (λ why h. before 13 (λ l. j.1) (λ l fails. fails j.2) why (below why) h, (extraction, (j.0, j.2)))
          where
            below : (why : Refusal) → number_of why < 13
            below ProjectInvalid = omega arith
            below NothingHere = omega arith
            below BadName = omega arith
            below SameName = omega arith
            below NameTaken = omega arith
            below DirectiveInWay = omega arith
            below NoPossibleType = omega arith
            below NotSiblings = omega arith
            below NotRedundant = omega arith
            below TooLarge = omega arith
            below SelfCheck = omega arith
            below NoMemory = omega arith
        made (Err ProjectInvalid) j = absurd j
        made (Err NothingHere) j = absurd j
        made (Err BadName) j = absurd j
        made (Err SameName) j = absurd j
        made (Err NameTaken) j = absurd j
        made (Err DirectiveInWay) j = absurd j
        made (Err NoPossibleType) j = absurd j
        made (Err NotSiblings) j = absurd j
        made (Err NotRedundant) j = absurd j
        made (Err TooLarge) j = inr ((extraction, j), before 10 (λ l. absurd (omega (arith, l))) (λ l. absurd (omega (arith, l))))
        made (Err SelfCheck) j = inr ((extraction, j.1), before 11 (λ l. j.0) (λ l. absurd (omega (arith, l))))
        made (Err NoMemory) j = inl refl
