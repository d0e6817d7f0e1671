-- The answer to remove, from what its steps found.
use Rattle.std.proofs.Common.{◌≡◌, ℕ, ◌<◌, Bool, true, false, List, Option, Some, None, Result, Ok, Err, slice_get, position, refl, sym, ap, subst, ◌∙◌, inl, inr, arith}
use Rattle.std.proofs.lemmas.Grind.{not_there}
use Rattle.gq_text.specs.declared.place.Span.{Span}
use Rattle.gq_tree.specs.Plain.{NameOf, DirectiveOf, inline}
use Rattle.gq_project.specs.declared.document.Doc.{Doc}
use Rattle.gq_project.specs.Documents.{has_key}
use Rattle.gq_edit.specs.declared.edit.DocumentEdit.{DocumentEdit}
use Rattle.gq_tree.specs.Readings.{ParsedOf}
use Rattle.gq_types.specs.Entries.{EntryOf}
use Rattle.gq_rules.specs.Validity.{IsValid}
use Rattle.gq_select.specs.Meant.{StandingOf, is_inline, meant, document_sets}
use Rattle.gq_rename.specs.declared.refusal.Refusal.{Refusal}
use Rattle.gq_rename.specs.declared.refusal.Refusal.TheVariants.{ProjectInvalid, NothingHere, BadName, SameName, NameTaken, DirectiveInWay, NoPossibleType, NotSiblings, NotRedundant, TooLarge, SelfCheck, NoMemory}
use Rattle.gq_rename.specs.Refusals.{number_of}
use Rattle.gq_reshape.specs.Asks.{RangeAsk, IsAskedOf, tree_at}
use Rattle.gq_reshape.specs.Cuts.{Cut}
use Rattle.gq_reshape.specs.Helping.Judged.{IsJudged}
use Rattle.gq_reshape.specs.Remove.{Removal, remove_at, remove_cut, NothingToRemove, says_nothing, IsNotRedundant}
use Rattle.gq_reshape.specs.Reshape.{PassesLimits, FailsCheck, RefusesRemove}
use Rattle.gq_reshape.specs.Helping.Steps.{RemoveOffer}

module _ (documents : List Doc) (es : List EntryOf) (readings : List ParsedOf) (ask : RangeAsk) (valid : ∥ IsValid documents ∥₁) where
  -- what is refuted by what is known so far
  none_before : (n : ℕ) → (2 < n → NothingToRemove documents es readings ask → ⊥) → (9 < n → IsNotRedundant documents es readings ask → ⊥) → (10 < n → (i : Removal documents es readings ask) → PassesLimits documents (remove_cut i) → ⊥) →
      (11 < n → (i : Removal documents es readings ask) → FailsCheck documents readings (remove_cut i) → ⊥) → (why : Refusal) → number_of why < n → RefusesRemove documents es readings ask why → ⊥
  none_before n some own fits checks ProjectInvalid less h = not_there valid h
  none_before n some own fits checks NothingHere less h = some less h
  none_before n some own fits checks BadName less h = h
  none_before n some own fits checks SameName less h = h
  none_before n some own fits checks NameTaken less h = h
  none_before n some own fits checks DirectiveInWay less h = h
  none_before n some own fits checks NoPossibleType less h = h
  none_before n some own fits checks NotSiblings less h = h
  none_before n some own fits checks NotRedundant less h = own less h
  none_before n some own fits checks TooLarge less h = fits less h.0 h.1
  none_before n some own fits checks SelfCheck less h = checks less h.0 h.1
  none_before n some own fits checks NoMemory less h = h

  -- nothing is there
  pub nothing : (Removal documents es readings ask → ⊥) → RemoveOffer documents es readings ask (Err NothingHere)
  nothing h = inr (h, none_before 2 (λ l. absurd (omega (arith, l))) (λ l. absurd (omega (arith, l))) (λ l. absurd (omega (arith, l))) (λ l. absurd (omega (arith, l))))

  pub no_document : position (has_key ask.key) documents ≡ None → RemoveOffer documents es readings ask (Err NothingHere)
  no_document none = nothing (λ u. let e = sym none ∙ u.asked_of.is_at in cc)

  module _ (file : ℕ) (document : Doc) (asked : IsAskedOf documents ask.key file document) where
    same_file : (u : Removal documents es readings ask) → file ≡ u.file
    same_file u = let e = sym asked.is_at ∙ u.asked_of.is_at in cc

    same_document : (u : Removal documents es readings ask) → document ≡ u.document
    same_document u = let e : Some document ≡ Some u.document = sym asked.stands ∙ ap (slice_get documents) (same_file u) ∙ u.asked_of.stands in cc

    Meant : (u : Removal documents es readings ask) → meant is_inline ask.range (document_sets es (tree_at readings file)) ≡ Some u.selected
    Meant u = ap (λ (f : ℕ). meant is_inline ask.range (document_sets es (tree_at readings f))) (same_file u) ∙ u.is_meant

    pub none_meant : meant is_inline ask.range (document_sets es (tree_at readings file)) ≡ None → RemoveOffer documents es readings ask (Err NothingHere)
    none_meant none = nothing (λ u. let e : None ≡ Some u.selected = sym none ∙ Meant u in cc)

    module _ (s : StandingOf) (is_meant : meant is_inline ask.range (document_sets es (tree_at readings file)) ≡ Some s) (on : Option (NameOf Span)) (directives : List (DirectiveOf Span)) (braces place : Span) (is : s.selection.label ≡ inline on directives braces place) where
      same_selected : (u : Removal documents es readings ask) → s ≡ u.selected
      same_selected u = let e : Some s ≡ Some u.selected = sym is_meant ∙ Meant u in cc

      same_head : (u : Removal documents es readings ask) → inline on directives braces place ≡ inline u.on u.directives u.braces u.place
      same_head u = sym is ∙ ap (λ (x : StandingOf). x.selection.label) (same_selected u) ∙ u.is_inline

      same_on : (u : Removal documents es readings ask) → on ≡ u.on
      same_on u = let e = same_head u in cc

      same_directives : (u : Removal documents es readings ask) → directives ≡ u.directives
      same_directives u = let e = same_head u in cc

      same_braces : (u : Removal documents es readings ask) → braces ≡ u.braces
      same_braces u = let e = same_head u in cc

      same_place : (u : Removal documents es readings ask) → place ≡ u.place
      same_place u = let e = same_head u in cc

      abbrev pub own : Removal documents es readings ask
      own = record { file = file; document = document; asked_of = asked; selected = s; is_meant = is_meant; on = on; directives = directives; braces = braces; place = place; is_inline = is }

      abbrev pub OwnCut : Cut
      OwnCut = remove_at file document.text place braces

      abbrev pub Says : Bool
      Says = says_nothing on directives s.parent

      same_cut : (u : Removal documents es readings ask) → OwnCut ≡ remove_cut u
      same_cut u =
          ap (λ (k : ℕ). remove_at k document.text place braces) (same_file u)
          ∙ ap (λ (d : Doc). remove_at u.file d.text place braces) (same_document u)
          ∙ ap (λ (p : Span). remove_at u.file u.document.text p braces) (same_place u)
          ∙ ap (remove_at u.file u.document.text u.place) (same_braces u)

      pub says_something : Says ≡ false → RemoveOffer documents es readings ask (Err NotRedundant)
      says_something says = inr (record { removal = own; says = says }, none_before 9 (λ l none. none own) (λ l. absurd (omega (arith, l))) (λ l. absurd (omega (arith, l))) (λ l. absurd (omega (arith, l))))

      pub own_not : Says ≡ true → IsNotRedundant documents es readings ask → ⊥
      own_not says h =
          let e : Says ≡ false = ap (λ (o : Option (NameOf Span)). says_nothing o directives s.parent) (same_on h.removal) ∙ ap (λ (ds : List (DirectiveOf Span)). says_nothing h.removal.on ds s.parent) (same_directives h.removal) ∙ ap (λ (x : StandingOf). says_nothing h.removal.on h.removal.directives x.parent) (same_selected h.removal) ∙ h.says in
          let g : true ≡ false = sym says ∙ e in cc

      before : (n : ℕ) → (9 < n → Says ≡ true) → (10 < n → PassesLimits documents OwnCut → ⊥) → (11 < n → FailsCheck documents readings OwnCut → ⊥) → (why : Refusal) → number_of why < n → RefusesRemove documents es readings ask why → ⊥
      before n says fits checks =
          none_before n (λ l none. none own) (λ l h. own_not (says l) h) (λ l i h. fits l (subst (PassesLimits documents) (sym (same_cut i)) h)) (λ l i h. checks l (subst (FailsCheck documents readings) (sym (same_cut i)) h))

      below : (why : Refusal) → number_of why < 13
      below ProjectInvalid = omega arith
      below NothingHere = omega arith
      below BadName = omega arith
      below SameName = omega arith
      below NameTaken = omega arith
      below DirectiveInWay = omega arith
      below NoPossibleType = omega arith
      below NotSiblings = omega arith
      below NotRedundant = omega arith
      below TooLarge = omega arith
      below SelfCheck = omega arith
      below NoMemory = omega arith

      pub made : Says ≡ true → (result : Result (List DocumentEdit) Refusal) → IsJudged documents readings OwnCut result → RemoveOffer documents es readings ask result
      made says (Ok edits) j = inr (λ why h. before 13 (λ l. says) (λ l. j.1) (λ l fails. fails j.2) why (below why) h, (own, (j.0, j.2)))
      made says (Err ProjectInvalid) j = absurd j
      made says (Err NothingHere) j = absurd j
      made says (Err BadName) j = absurd j
      made says (Err SameName) j = absurd j
      made says (Err NameTaken) j = absurd j
      made says (Err DirectiveInWay) j = absurd j
      made says (Err NoPossibleType) j = absurd j
      made says (Err NotSiblings) j = absurd j
      made says (Err NotRedundant) j = absurd j
      made says (Err TooLarge) j = inr ((own, j), before 10 (λ l. says) (λ l. absurd (omega (arith, l))) (λ l. absurd (omega (arith, l))))
      made says (Err SelfCheck) j = inr ((own, j.1), before 11 (λ l. says) (λ l. j.0) (λ l. absurd (omega (arith, l))))
      made says (Err NoMemory) j = inl refl
