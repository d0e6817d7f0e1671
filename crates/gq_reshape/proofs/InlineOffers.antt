-- The answer to inline, from what its steps found.
use Rattle.std.proofs.Common.{◌≡◌, ℕ, ◌<◌, Bool, true, false, ◌||◌, List, Some, None, Result, Ok, Err, slice_get, find, position, refl, sym, ap, subst, ◌∙◌, inl, inr, arith}
use Rattle.std.specs.List.{list_any}
use Rattle.std.specs.Str.{bytes_eq}
use Rattle.std.proofs.lemmas.Grind.{not_there}
use Rattle.gq_text.specs.declared.place.Span.{Span}
use Rattle.gq_tree.specs.Plain.{NameOf, DirectiveOf, spread}
use Rattle.gq_project.specs.declared.document.Doc.{Doc}
use Rattle.gq_project.specs.Documents.{has_key}
use Rattle.gq_edit.specs.declared.edit.DocumentEdit.{DocumentEdit}
use Rattle.gq_tree.specs.Readings.{ParsedOf}
use Rattle.gq_types.specs.Entries.{EntryOf}
use Rattle.gq_document.specs.Definitions.{FragmentOf, fragments_of}
use Rattle.gq_rules.specs.Validity.{IsValid}
use Rattle.gq_select.specs.Meant.{StandingOf, is_spread, meant, document_sets}
use Rattle.gq_rename.specs.declared.refusal.Refusal.{Refusal}
use Rattle.gq_rename.specs.declared.refusal.Refusal.TheVariants.{ProjectInvalid, NothingHere, BadName, SameName, NameTaken, DirectiveInWay, NoPossibleType, NotSiblings, NotRedundant, TooLarge, SelfCheck, NoMemory}
use Rattle.gq_rename.specs.Refusals.{number_of}
use Rattle.gq_reshape.specs.Asks.{RangeAsk, IsAskedOf, tree_at}
use Rattle.gq_reshape.specs.Cuts.{Cut}
use Rattle.gq_reshape.specs.Helping.Judged.{IsJudged}
use Rattle.gq_reshape.specs.Inline.{Inlining, inline_at, inline_cut, is_only_spread, NothingToInline, is_in_way, has_directive, IsDirectiveInWay}
use Rattle.gq_reshape.specs.Reshape.{PassesLimits, FailsCheck, RefusesInline}
use Rattle.gq_reshape.specs.Helping.Steps.{InlineOffer}

module _ (documents : List Doc) (es : List EntryOf) (readings : List ParsedOf) (ask : RangeAsk) (valid : ∥ IsValid documents ∥₁) where
  -- what is refuted by what is known so far
  none_before : (n : ℕ) → (2 < n → NothingToInline documents es readings ask → ⊥) → (6 < n → IsDirectiveInWay documents es readings ask → ⊥) → (10 < n → (i : Inlining documents es readings ask) → PassesLimits documents (inline_cut i) → ⊥) →
      (11 < n → (i : Inlining documents es readings ask) → FailsCheck documents readings (inline_cut i) → ⊥) → (why : Refusal) → number_of why < n → RefusesInline documents es readings ask why → ⊥
  none_before n some own fits checks ProjectInvalid less h = not_there valid h
  none_before n some own fits checks NothingHere less h = some less h
  none_before n some own fits checks BadName less h = h
  none_before n some own fits checks SameName less h = h
  none_before n some own fits checks NameTaken less h = h
  none_before n some own fits checks DirectiveInWay less h = own less h
  none_before n some own fits checks NoPossibleType less h = h
  none_before n some own fits checks NotSiblings less h = h
  none_before n some own fits checks NotRedundant less h = h
  none_before n some own fits checks TooLarge less h = fits less h.0 h.1
  none_before n some own fits checks SelfCheck less h = checks less h.0 h.1
  none_before n some own fits checks NoMemory less h = h

  -- nothing is there
  pub nothing : (Inlining documents es readings ask → ⊥) → InlineOffer documents es readings ask (Err NothingHere)
  nothing h = inr (h, none_before 2 (λ l. absurd (omega (arith, l))) (λ l. absurd (omega (arith, l))) (λ l. absurd (omega (arith, l))) (λ l. absurd (omega (arith, l))))

  pub no_document : position (has_key ask.key) documents ≡ None → InlineOffer documents es readings ask (Err NothingHere)
  no_document none = nothing (λ u. let e = sym none ∙ u.asked_of.is_at in cc)

  module _ (file : ℕ) (document : Doc) (asked : IsAskedOf documents ask.key file document) where
    same_file : (u : Inlining documents es readings ask) → file ≡ u.file
    same_file u = let e = sym asked.is_at ∙ u.asked_of.is_at in cc

    same_document : (u : Inlining documents es readings ask) → document ≡ u.document
    same_document u = let e : Some document ≡ Some u.document = sym asked.stands ∙ ap (slice_get documents) (same_file u) ∙ u.asked_of.stands in cc

    Meant : (u : Inlining documents es readings ask) → meant is_spread ask.range (document_sets es (tree_at readings file)) ≡ Some u.selected
    Meant u = ap (λ (f : ℕ). meant is_spread ask.range (document_sets es (tree_at readings f))) (same_file u) ∙ u.is_meant

    pub none_meant : meant is_spread ask.range (document_sets es (tree_at readings file)) ≡ None → InlineOffer documents es readings ask (Err NothingHere)
    none_meant none = nothing (λ u. let e : None ≡ Some u.selected = sym none ∙ Meant u in cc)

    module _ (s : StandingOf) (is_meant : meant is_spread ask.range (document_sets es (tree_at readings file)) ≡ Some s) (name : NameOf Span) (directives : List (DirectiveOf Span)) (place : Span) (is : s.selection.label ≡ spread name directives place) where
      same_head : (u : Inlining documents es readings ask) → spread name directives place ≡ spread u.name u.directives u.place
      same_head u =
          let e : Some s ≡ Some u.selected = sym is_meant ∙ Meant u in
          let same : s ≡ u.selected = cc in
          sym is ∙ ap (λ (x : StandingOf). x.selection.label) same ∙ u.is_spread

      same_name : (u : Inlining documents es readings ask) → name ≡ u.name
      same_name u = let e = same_head u in cc

      same_directives : (u : Inlining documents es readings ask) → directives ≡ u.directives
      same_directives u = let e = same_head u in cc

      same_place : (u : Inlining documents es readings ask) → place ≡ u.place
      same_place u = let e = same_head u in cc

      Found : (u : Inlining documents es readings ask) → find (λ f. bytes_eq f.name.text name.text) (fragments_of readings) ≡ Some u.definition
      Found u = ap (λ (n : NameOf Span). find (λ f. bytes_eq f.name.text n.text) (fragments_of readings)) (same_name u) ∙ u.is_definition

      pub no_fragment : find (λ f. bytes_eq f.name.text name.text) (fragments_of readings) ≡ None → InlineOffer documents es readings ask (Err NothingHere)
      no_fragment none = nothing (λ u. let e : None ≡ Some u.definition = sym none ∙ Found u in cc)

      module _ (f : FragmentOf) (is_definition : find (λ f. bytes_eq f.name.text name.text) (fragments_of readings) ≡ Some f) (home : Doc) (is_home : slice_get documents f.file ≡ Some home) where
        abbrev pub own : Inlining documents es readings ask
        own = record {
          file = file;
          document = document;
          asked_of = asked;
          selected = s;
          is_meant = is_meant;
          name = name;
          directives = directives;
          place = place;
          is_spread = is;
          definition = f;
          is_definition = is_definition;
          home = home;
          is_home = is_home;
        }

        abbrev pub OwnCut : Cut
        OwnCut = inline_at file document.text directives place f home.text (is_only_spread readings name.text)

        abbrev pub Says : Bool
        Says = list_any is_in_way directives || has_directive f.directives

        same_definition : (u : Inlining documents es readings ask) → f ≡ u.definition
        same_definition u = let e : Some f ≡ Some u.definition = sym is_definition ∙ Found u in cc

        same_home : (u : Inlining documents es readings ask) → home ≡ u.home
        same_home u = let e : Some home ≡ Some u.home = sym is_home ∙ ap (λ (g : FragmentOf). slice_get documents g.file) (same_definition u) ∙ u.is_home in cc

        same_cut : (u : Inlining documents es readings ask) → OwnCut ≡ inline_cut u
        same_cut u =
            ap (λ (k : ℕ). inline_at k document.text directives place f home.text (is_only_spread readings name.text)) (same_file u)
            ∙ ap (λ (d : Doc). inline_at u.file d.text directives place f home.text (is_only_spread readings name.text)) (same_document u)
            ∙ ap (λ (ds : List (DirectiveOf Span)). inline_at u.file u.document.text ds place f home.text (is_only_spread readings name.text)) (same_directives u)
            ∙ ap (λ (p : Span). inline_at u.file u.document.text u.directives p f home.text (is_only_spread readings name.text)) (same_place u)
            ∙ ap (λ (g : FragmentOf). inline_at u.file u.document.text u.directives u.place g home.text (is_only_spread readings name.text)) (same_definition u)
            ∙ ap (λ (d : Doc). inline_at u.file u.document.text u.directives u.place u.definition d.text (is_only_spread readings name.text)) (same_home u)
            ∙ ap (λ (n : NameOf Span). inline_at u.file u.document.text u.directives u.place u.definition u.home.text (is_only_spread readings n.text)) (same_name u)

        pub in_way : Says ≡ true → InlineOffer documents es readings ask (Err DirectiveInWay)
        in_way says = inr (record { inlining = own; in_way = says }, none_before 6 (λ l none. none own) (λ l. absurd (omega (arith, l))) (λ l. absurd (omega (arith, l))) (λ l. absurd (omega (arith, l))))

        pub own_not : Says ≡ false → IsDirectiveInWay documents es readings ask → ⊥
        own_not says h =
            let e : Says ≡ true = ap (λ (ds : List (DirectiveOf Span)). list_any is_in_way ds || has_directive f.directives) (same_directives h.inlining) ∙ ap (λ (g : FragmentOf). list_any is_in_way h.inlining.directives || has_directive g.directives) (same_definition h.inlining) ∙ h.in_way in
            let g : false ≡ true = sym says ∙ e in cc

        before : (n : ℕ) → (6 < n → Says ≡ false) → (10 < n → PassesLimits documents OwnCut → ⊥) → (11 < n → FailsCheck documents readings OwnCut → ⊥) → (why : Refusal) → number_of why < n → RefusesInline documents es readings ask why → ⊥
        before n says fits checks =
            none_before n (λ l none. none own) (λ l h. own_not (says l) h) (λ l i h. fits l (subst (PassesLimits documents) (sym (same_cut i)) h)) (λ l i h. checks l (subst (FailsCheck documents readings) (sym (same_cut i)) h))

        below : (why : Refusal) → number_of why < 13
        below ProjectInvalid = omega arith
        below NothingHere = omega arith
        below BadName = omega arith
        below SameName = omega arith
        below NameTaken = omega arith
        below DirectiveInWay = omega arith
        below NoPossibleType = omega arith
        below NotSiblings = omega arith
        below NotRedundant = omega arith
        below TooLarge = omega arith
        below SelfCheck = omega arith
        below NoMemory = omega arith

        pub made : Says ≡ false → (result : Result (List DocumentEdit) Refusal) → IsJudged documents readings OwnCut result → InlineOffer documents es readings ask result
        made says (Ok edits) j = inr (λ why h. before 13 (λ l. says) (λ l. j.1) (λ l fails. fails j.2) why (below why) h, (own, (j.0, j.2)))
        made says (Err ProjectInvalid) j = absurd j
        made says (Err NothingHere) j = absurd j
        made says (Err BadName) j = absurd j
        made says (Err SameName) j = absurd j
        made says (Err NameTaken) j = absurd j
        made says (Err DirectiveInWay) j = absurd j
        made says (Err NoPossibleType) j = absurd j
        made says (Err NotSiblings) j = absurd j
        made says (Err NotRedundant) j = absurd j
        made says (Err TooLarge) j = inr ((own, j), before 10 (λ l. says) (λ l. absurd (omega (arith, l))) (λ l. absurd (omega (arith, l))))
        made says (Err SelfCheck) j = inr ((own, j.1), before 11 (λ l. says) (λ l. j.0) (λ l. absurd (omega (arith, l))))
        made says (Err NoMemory) j = inl refl
