-- Which edits leave a text that passes a limit, and what an edit is then answered with.
use Rattle.std.proofs.Common.{◌≡◌, ℕ, suc, ◌+◌, ◌<◌, ◌^◌, Bool, true, false, List, [], ◌∷◌, length, drop, get_or, Option, Some, None, Result, Ok, Err, Contains, find, refl, sym, ap, subst, ◌∙◌, arith, inr, ⊎_elim}
use Rattle.std.specs.Prelude.{IfOk, IsTrue, nat_lt, ◌↔◌}
use Rattle.std.specs.List.{AllByRecursion}
use Rattle.std.specs.Option.{option_map_or}
use Rattle.std.proofs.lemmas.Bool.Decides.{nat_tests}
use Rattle.gq_project.specs.declared.document.Doc.{Doc}
use Rattle.gq_types.proofs.Gathered.{nothing_in, cases_cons}
use Rattle.gq_edit.specs.declared.edit.DocumentEdit.{DocumentEdit}
use Rattle.gq_edit.specs.Edits.{document_of, edited_text, is_too_large}
use Rattle.gq_rename.specs.declared.refusal.Refusal.{Refusal}
use Rattle.gq_rename.specs.declared.refusal.Refusal.TheVariants.{ProjectInvalid, NothingHere, BadName, SameName, NameTaken, DirectiveInWay, NoPossibleType, NotSiblings, NotRedundant, TooLarge, SelfCheck, NoMemory}
use Rattle.gq_rename.specs.Rename.{IsTooLarge}
use Rattle.gq_tree.specs.Readings.{ParsedOf}
use Rattle.gq_rename.specs.Asks.{trees_of}
use Rattle.gq_reshape.specs.Cuts.{Cut, edits_of, PassesCheck}
use Rattle.gq_reshape.specs.Helping.Judged.{IsJudged}
use Rattle.gq_reshape.specs.Helping.Limits.{PassesSomeLimit}
use Rattle.gq_reshape.specs.Helping.Limited.{TextPasses, OnePasses, ArePassed, IsLimited}
use Rattle.gq_reshape.proofs.LimitLemmas.{first_too_large}
use Rattle.gq_reshape.proofs.LowLemmas.{drop_read}

pub one_is_passed : (documents : List Doc) (edits : List DocumentEdit) → OnePasses documents edits true → ArePassed documents edits true
one_is_passed documents edits one = record { edit = one.0; stands = one.1; document = one.2.0; of = one.2.1; passes = inr one.2.2 }

not_found : (documents : List Doc) (edits : List DocumentEdit) (edit : DocumentEdit) → find (is_too_large documents) edits ≡ None → Contains edits edit → is_too_large documents edit ≡ true → ⊥
not_found documents [] edit none stands long = nothing_in edit stands
not_found documents (e ∷ es) edit none stands long = by (is_too_large documents e) refl none (λ f d. not_found documents es edit f d long)
  where
    by : (b : Bool) → is_too_large documents e ≡ b → Rattle.std.specs.Prelude.cond b (Some e) (find (is_too_large documents) es) ≡ None → (find (is_too_large documents) es ≡ None → Contains es edit → ⊥) → ⊥
    by true t f later = absurd (cc)
    by false t f later = ⊎_elim (λ same. let g : true ≡ false = sym long ∙ ap (is_too_large documents) (sym same) ∙ t in cc) (λ d. later f d) (cases_cons e edit es stands)

each_fine : (documents : List Doc) (edits : List DocumentEdit) (edit : DocumentEdit) → AllByRecursion (λ edit. TextPasses documents edit → ⊥) edits → Contains edits edit → TextPasses documents edit → ⊥
each_fine documents [] edit all stands passes = nothing_in edit stands
each_fine documents (e ∷ es) edit all stands passes =
    ⊎_elim (λ same. all.0 (subst (TextPasses documents) (sym same) passes)) (λ rest. each_fine documents es edit all.1 rest passes) (cases_cons e edit es stands)

pub none_is_passed : (documents : List Doc) (edits : List DocumentEdit) → find (is_too_large documents) edits ≡ None → OnePasses documents edits false → ArePassed documents edits false
none_is_passed documents edits none fine large =
    ⊎_elim
    (λ long. not_found documents edits large.edit none large.stands
    (ap (λ (o : Option Doc). option_map_or (λ document. nat_lt (2 ^ 22) (length (edited_text large.edit document))) o false) large.of ∙ (let t : nat_lt (2 ^ 22) (length (edited_text large.edit large.document)) ≡ true = grind (arith, nat_tests) in t)))
    (λ passes. each_fine documents edits large.edit fine large.stands (large.document, large.of, passes))
    large.passes

-- one more of the texts passes none
pub fine_later : (documents : List Doc) (edits : List DocumentEdit) (i : ℕ) (edit : DocumentEdit) (passes : Bool) → i < length edits → edit ≡ get_or edits i edit → (IsTrue passes ↔ TextPasses documents edit) → passes ≡ false →
    (AllByRecursion (λ edit. TextPasses documents edit → ⊥) (drop i edits) → AllByRecursion (λ edit. TextPasses documents edit → ⊥) edits) →
    AllByRecursion (λ edit. TextPasses documents edit → ⊥) (drop (i + 1) edits) → AllByRecursion (λ edit. TextPasses documents edit → ⊥) edits
fine_later documents edits i edit passes h is told untrue so rest =
    let fine : TextPasses documents edit → ⊥ = λ t. let u = subst IsTrue untrue (told.1 t) in absurd (cc) in
    let e : i + 1 ≡ suc i = omega arith in
    so (subst (AllByRecursion (λ edit. TextPasses documents edit → ⊥)) (sym (drop_read edits i edit h is)) (fine, subst (λ (n : ℕ). AllByRecursion (λ edit. TextPasses documents edit → ⊥) (drop n edits)) e rest))

-- what is told of one text
pub text_told : {E : Type 0} (documents : List Doc) (edit : DocumentEdit) (doc : Doc) (text : List ℕ) (result : Result Bool E) → document_of documents edit ≡ Some doc → text ≡ edited_text edit doc →
    IfOk result (λ passes. IsTrue passes ↔ PassesSomeLimit text) → IfOk result (λ passes. IsTrue passes ↔ TextPasses documents edit)
text_told documents edit doc text (Ok passes) of is h = (
  λ yes. (doc, of, subst PassesSomeLimit is (h.0 yes)),
  λ q.
      let both : Some q.0 ≡ Some doc = sym q.1 ∙ of in
      let same : q.0 ≡ doc = cc in
      h.1 (subst PassesSomeLimit (ap (edited_text edit) same ∙ sym is) q.2),
)
text_told documents edit doc text (Err why) of is h = tt

-- some text has too many bytes, where not none has
pub not_none : (documents : List Doc) (edits : List DocumentEdit) → (find (is_too_large documents) edits ≡ None → ⊥) → ArePassed documents edits true
not_none documents edits some = by (find (is_too_large documents) edits) refl
  where
    by : (o : Option DocumentEdit) → find (is_too_large documents) edits ≡ o → ArePassed documents edits true
    by None e = absurd (some e)
    by (Some edit) e = first_too_large documents edits edit e

pub are_told : {E : Type 0} (documents : List Doc) (edits : List DocumentEdit) (result : Result Bool E) → find (is_too_large documents) edits ≡ None → IfOk result (OnePasses documents edits) → IfOk result (ArePassed documents edits)
are_told documents edits (Ok true) none h = one_is_passed documents edits h
are_told documents edits (Ok false) none h = none_is_passed documents edits none h
are_told documents edits (Err why) none h = tt

-- where no limit is passed, the edit passes its check
module _ (documents : List Doc) (before : List ParsedOf) (cut : Cut) (passes : (IsTooLarge documents (edits_of cut documents) → ⊥) → PassesCheck documents (trees_of before) cut) where
  pub limited_judges : (result : Result (List DocumentEdit) Refusal) → IsLimited documents (edits_of cut documents) result → IsJudged documents before cut result
  limited_judges (Ok made) h = (h.0, h.1, passes h.1)
  limited_judges (Err ProjectInvalid) h = h
  limited_judges (Err NothingHere) h = h
  limited_judges (Err BadName) h = h
  limited_judges (Err SameName) h = h
  limited_judges (Err NameTaken) h = h
  limited_judges (Err DirectiveInWay) h = h
  limited_judges (Err NoPossibleType) h = h
  limited_judges (Err NotSiblings) h = h
  limited_judges (Err NotRedundant) h = h
  limited_judges (Err TooLarge) h = h
  limited_judges (Err SelfCheck) h = absurd h
  limited_judges (Err NoMemory) h = tt
