-- The cuts of extract, inline and remove can be made.
use Rattle.std.proofs.Common.{◌≡◌, ◌⊎◌, inl, inr, ℕ, suc, ◌+◌, ◌<◌, ◌≤◌, Bool, true, false, ◌&&◌, ◌||◌, nat_eq, nat_lt, List, [], ◌∷◌, Some, length, drop, map, slice_get, refl, sym, ap, ◌∙◌, subst, arith}
use Rattle.std.specs.Prelude.{if◌then◌else◌, slice_range}
use Rattle.std.specs.List.{filter}
use Rattle.std.proofs.lemmas.Bool.Decides.{nat_tests}
use Rattle.std.proofs.lemmas.Str.{IsCharBoundary-end}
use Rattle.gq_text.specs.declared.place.Span.{Span}
use Rattle.gq_text.specs.declared.replacement.Replacement.{Replacement}
use Rattle.gq_tree.specs.Readings.{ParsedOf}
use Rattle.gq_tree.specs.Plain.{Def, DirectiveOf, Sels}
use Rattle.gq_project.specs.declared.document.Doc.{Doc}
use Rattle.gq_edit.specs.Replacements.{AreDisjoint, FitText}
use Rattle.gq_types.proofs.Gathered.{or_cases}
use Rattle.gq_document.specs.Definitions.{FragmentOf}
use Rattle.gq_laws.specs.Rewriting.Parts.{IsPartOf}
use Rattle.gq_rename.specs.Asks.{trees_of}
use Rattle.gq_reshape.specs.declared.placed.PlacedReplacement.{PlacedReplacement}
use Rattle.gq_reshape.specs.Asks.{tree_at}
use Rattle.gq_reshape.specs.Extract.{extract_at}
use Rattle.gq_reshape.specs.Inline.{inline_at, comes_first, in_order}
use Rattle.gq_reshape.specs.Placed.{replacements_in}
use Rattle.gq_reshape.specs.Remove.{remove_at}
use Rattle.gq_laws.specs.Cutting.Texts.{inlined_text, opened_text, spread_text, fragment_text}
use Rattle.gq_reshape.specs.Helping.Fitting.{AllFit}
use Rattle.gq_reshape.specs.Helping.Making.{CanBeMade, SomeExecutable}
use Rattle.gq_reshape.proofs.Quiet.{skipped, extract_quiet, inline_quiet, remove_quiet}
use Rattle.gq_reshape.proofs.Ready.{tree_is}
use Rattle.gq_reshape.proofs.RunStands.{same_number}

abbrev Fit : List ℕ → List Replacement → Type 0
Fit text rs = AreDisjoint rs × FitText text rs

fit_from : (placed : List PlacedReplacement) (file : ℕ) (documents : List Doc) → ((k : ℕ) (d : Doc) → slice_get documents k ≡ Some d → Fit d.text (replacements_in placed (file + k))) → AllFit placed file documents
fit_from placed file [] each = tt
fit_from placed file (d ∷ documents) each = (
  let here : file + 0 ≡ file = omega arith in subst (λ (n : ℕ). Fit d.text (replacements_in placed n)) here (each 0 d refl),
  fit_from placed (suc file) documents (λ k x e. let there : file + suc k ≡ suc file + k = omega arith in subst (λ (n : ℕ). Fit x.text (replacements_in placed n)) there (each (suc k) x e)),
)

all_fit : (placed : List PlacedReplacement) (documents : List Doc) → ((k : ℕ) (d : Doc) → slice_get documents k ≡ Some d → Fit d.text (replacements_in placed k)) → AllFit placed 0 documents
all_fit placed documents each = fit_from placed 0 documents (λ k d e. let same : k ≡ 0 + k = omega arith in subst (λ (n : ℕ). Fit d.text (replacements_in placed n)) same (each k d e))

-- a replacement in the document
pub kept : (p : PlacedReplacement) (ps : List PlacedReplacement) (file : ℕ) → nat_eq p.file file ≡ true → replacements_in (p ∷ ps) file ≡ p.replacement ∷ replacements_in ps file
kept p ps file e = ap (λ (b : Bool). map (λ p. p.replacement) (if b then p ∷ filter (λ p. nat_eq p.file file) ps else filter (λ p. nat_eq p.file file) ps)) e

-- the document of a number
one_document : (documents : List Doc) (file k : ℕ) (document d : Doc) → slice_get documents file ≡ Some document → slice_get documents k ≡ Some d → nat_eq file k ≡ true → document ≡ d
one_document documents file k document d at here e = let both : Some document ≡ Some d = sym at ∙ ap (slice_get documents) (same_number file k e) ∙ here in cc

nothing_fits : (text : List ℕ) (rs : List Replacement) → rs ≡ [] → Fit text rs
nothing_fits text rs e = subst (Fit text) (sym e) (tt, tt)

one_fits : (text : List ℕ) (place : Span) (put : List ℕ) → IsPartOf text place → Fit text (record { span = place; text = put } ∷ [])
one_fits text place put part = ((omega arith, part.0, tt), (part.1, part.2, tt))

two_fit : (text : List ℕ) (p q : Span) (put put' : List ℕ) → IsPartOf text p → IsPartOf text q → p.end ≤ q.start → Fit text (record { span = p; text = put } ∷ record { span = q; text = put' } ∷ [])
two_fit text p q put put' a b behind = ((omega arith, a.0, (behind, b.0, tt)), (a.1, a.2, (b.1, b.2, tt)))

-- something changes in one document
one_executable : (rs : List ParsedOf) (file k : ℕ) (tree : List (Def Span)) → SomeExecutable (tree_at rs file) → slice_get (trees_of rs) k ≡ Some tree → file ≡ k → SomeExecutable tree
one_executable rs file k tree some there same = subst SomeExecutable (ap (tree_at rs) same ∙ tree_is rs k tree there) some

only_there : (file k : ℕ) → (nat_eq file k || false) ≡ true → file ≡ k
only_there file k e = elim (or_cases (nat_eq file k) false e) [
  | inl h ↦ same_number file k h
  | inr h ↦ absurd (cc)
]

module _ (documents : List Doc) (rs : List ParsedOf) (file : ℕ) (document : Doc) (at : slice_get documents file ≡ Some document) (some : SomeExecutable (tree_at rs file)) where
  module _ (place : Span) (name on : List ℕ) (run : Sels Span) (part : IsPartOf document.text place) where
    abbrev spread_put : PlacedReplacement
    spread_put = record { file = file; replacement = record { span = place; text = spread_text name (drop place.end document.text) } }

    abbrev at_end : Span
    at_end = record { start = length document.text; end = length document.text }

    abbrev fragment_put : PlacedReplacement
    fragment_put = record { file = file; replacement = record { span = at_end; text = fragment_text name on (slice_range document.text place.start place.end) } }

    extract_fits : (k : ℕ) (d : Doc) → slice_get documents k ≡ Some d → Fit d.text (replacements_in (spread_put ∷ fragment_put ∷ []) k)
    extract_fits k d e = by (nat_eq file k) refl
      where
        by : (b : Bool) → nat_eq file k ≡ b → Fit d.text (replacements_in (spread_put ∷ fragment_put ∷ []) k)
        by true q =
            let end : IsPartOf document.text at_end = (omega arith, IsCharBoundary-end document.text, IsCharBoundary-end document.text) in
            let D : Doc → Type 0 = λ x. Fit x.text (replacements_in (spread_put ∷ fragment_put ∷ []) k) in
            subst D (one_document documents file k document d at e q)
            (subst (Fit document.text) (sym (kept spread_put (fragment_put ∷ []) k q ∙ ap (λ (xs : List Replacement). spread_put.replacement ∷ xs) (kept fragment_put [] k q)))
            (two_fit document.text place at_end spread_put.replacement.text fragment_put.replacement.text part end part.2.0))
        by false q = nothing_fits d.text (replacements_in (spread_put ∷ fragment_put ∷ []) k) (skipped spread_put (fragment_put ∷ []) k q ∙ skipped fragment_put [] k q)

    pub extract_made : CanBeMade documents rs (extract_at file document.text place name on run)
    extract_made = record {
      fit = all_fit (spread_put ∷ fragment_put ∷ []) documents extract_fits;
      quiet = extract_quiet file document.text place name on run;
      executable = λ k tree there e. one_executable rs file k tree some there (only_there file k e);
    }

  one_replacement : (p : PlacedReplacement) → p.file ≡ file → IsPartOf document.text p.replacement.span → (k : ℕ) (d : Doc) → slice_get documents k ≡ Some d → Fit d.text (replacements_in (p ∷ []) k)
  one_replacement p is part k d e = by (nat_eq p.file k) refl
    where
      by : (b : Bool) → nat_eq p.file k ≡ b → Fit d.text (replacements_in (p ∷ []) k)
      by true q =
          let same = one_document documents p.file k document d (ap (slice_get documents) is ∙ at) e q in
          let D : Doc → Type 0 = λ x. Fit x.text (replacements_in (p ∷ []) k) in
          subst D same (subst (Fit document.text) (sym (kept p [] k q)) (one_fits document.text p.replacement.span p.replacement.text part))
      by false q = nothing_fits d.text (replacements_in (p ∷ []) k) (skipped p [] k q)

  abbrev inside_put : Span → Span → PlacedReplacement
  inside_put place braces = record { file = file; replacement = record { span = place; text = opened_text document.text braces } }

  pub remove_made : (place braces : Span) → IsPartOf document.text place → CanBeMade documents rs (remove_at file document.text place braces)
  remove_made place braces part = record {
    fit = all_fit (inside_put place braces ∷ []) documents (one_replacement (inside_put place braces) refl part);
    quiet = remove_quiet file document.text place braces;
    executable = λ k tree there e. one_executable rs file k tree some there (only_there file k e);
  }

  -- which of two comes first
  first_is : (a b i j : ℕ) → a ≡ b → (nat_lt a b || (nat_eq a b && nat_lt i j)) ≡ true → i < j
  first_is a b i j same e = grind (arith, nat_tests, same, e)

  first_is_not : (a b i j : ℕ) → a ≡ b → (nat_lt a b || (nat_eq a b && nat_lt i j)) ≡ false → j ≤ i
  first_is_not a b i j same e = grind (arith, nat_tests, same, e)

  module _ (f : FragmentOf) (home : Doc) (home_at : slice_get documents f.file ≡ Some home) (home_some : SomeExecutable (tree_at rs f.file)) (directives : List (DirectiveOf Span)) (place : Span) (part : IsPartOf document.text place) (gone_part : IsPartOf home.text f.place)
      (some_place : f.place.start < f.place.end) (apart : f.file ≡ file → (place.end ≤ f.place.start) ⊎ (f.place.end ≤ place.start)) where
    abbrev opened : PlacedReplacement
    opened = record { file = file; replacement = record { span = place; text = inlined_text document.text home.text f.on.text directives f.braces } }

    abbrev gone : PlacedReplacement
    gone = record { file = f.file; replacement = record { span = f.place; text = [] } }

    -- both in one document, in order
    both_fit : (k : ℕ) (d : Doc) → slice_get documents k ≡ Some d → nat_eq file k ≡ true → nat_eq f.file k ≡ true → Fit d.text (replacements_in (in_order opened gone) k)
    both_fit k d e q r = by (comes_first gone opened) refl
      where
        own : document ≡ d
        own = one_document documents file k document d at e q

        own_home : home ≡ d
        own_home = one_document documents f.file k home d home_at e r

        number : f.file ≡ file
        number = same_number f.file k r ∙ sym (same_number file k q)

        here : IsPartOf d.text place
        here = let P : Doc → Type 0 = λ x. IsPartOf x.text place in subst P own part

        there : IsPartOf d.text f.place
        there = let P : Doc → Type 0 = λ x. IsPartOf x.text f.place in subst P own_home gone_part

        behind : f.place.start < place.start → f.place.end ≤ place.start
        behind less = elim (apart number) [
          | inl a ↦ absurd (let b = here.0 in omega (arith, a, b, less))
          | inr a ↦ a
        ]

        before : place.start ≤ f.place.start → place.end ≤ f.place.start
        before low = elim (apart number) [
          | inl a ↦ a
          | inr a ↦ absurd (let b = some_place in omega (arith, a, b, low))
        ]

        by : (b : Bool) → comes_first gone opened ≡ b → Fit d.text (replacements_in (if b then gone ∷ opened ∷ [] else opened ∷ gone ∷ []) k)
        by true t =
            subst (Fit d.text) (sym (kept gone (opened ∷ []) k r ∙ ap (λ (xs : List Replacement). gone.replacement ∷ xs) (kept opened [] k q)))
            (two_fit d.text f.place place [] (inlined_text document.text home.text f.on.text directives f.braces) there here (behind (first_is f.file file f.place.start place.start number t)))
        by false t =
            subst (Fit d.text) (sym (kept opened (gone ∷ []) k q ∙ ap (λ (xs : List Replacement). opened.replacement ∷ xs) (kept gone [] k r)))
            (two_fit d.text place f.place (inlined_text document.text home.text f.on.text directives f.braces) [] here there (before (first_is_not f.file file f.place.start place.start number t)))

    own_alone : (k : ℕ) → nat_eq f.file k ≡ false → replacements_in (in_order opened gone) k ≡ replacements_in (opened ∷ []) k
    own_alone k r = by (comes_first gone opened)
      where
        by : (b : Bool) → replacements_in (if b then gone ∷ opened ∷ [] else opened ∷ gone ∷ []) k ≡ replacements_in (opened ∷ []) k
        by true = skipped gone (opened ∷ []) k r
        by false = last (nat_eq file k) refl
          where
            last : (b : Bool) → nat_eq file k ≡ b → replacements_in (opened ∷ gone ∷ []) k ≡ replacements_in (opened ∷ []) k
            last true q = kept opened (gone ∷ []) k q ∙ ap (λ (xs : List Replacement). opened.replacement ∷ xs) (skipped gone [] k r) ∙ sym (kept opened [] k q)
            last false q = skipped opened (gone ∷ []) k q ∙ skipped gone [] k r ∙ sym (skipped opened [] k q)

    gone_alone : (k : ℕ) → nat_eq file k ≡ false → replacements_in (in_order opened gone) k ≡ replacements_in (gone ∷ []) k
    gone_alone k q = by (comes_first gone opened)
      where
        by : (b : Bool) → replacements_in (if b then gone ∷ opened ∷ [] else opened ∷ gone ∷ []) k ≡ replacements_in (gone ∷ []) k
        by false = skipped opened (gone ∷ []) k q
        by true = last (nat_eq f.file k) refl
          where
            last : (b : Bool) → nat_eq f.file k ≡ b → replacements_in (gone ∷ opened ∷ []) k ≡ replacements_in (gone ∷ []) k
            last true r = kept gone (opened ∷ []) k r ∙ ap (λ (xs : List Replacement). gone.replacement ∷ xs) (skipped opened [] k q) ∙ sym (kept gone [] k r)
            last false r = skipped gone (opened ∷ []) k r ∙ skipped opened [] k q ∙ sym (skipped gone [] k r)

    gone_fits : (k : ℕ) (d : Doc) → slice_get documents k ≡ Some d → Fit d.text (replacements_in (gone ∷ []) k)
    gone_fits k d e = by (nat_eq f.file k) refl
      where
        by : (b : Bool) → nat_eq f.file k ≡ b → Fit d.text (replacements_in (gone ∷ []) k)
        by true r =
            let P : Doc → Type 0 = λ x. IsPartOf x.text f.place in
            subst (Fit d.text) (sym (kept gone [] k r)) (one_fits d.text f.place [] (subst P (one_document documents f.file k home d home_at e r) gone_part))
        by false r = nothing_fits d.text (replacements_in (gone ∷ []) k) (skipped gone [] k r)

    pairs_fit : (k : ℕ) (d : Doc) → slice_get documents k ≡ Some d → Fit d.text (replacements_in (in_order opened gone) k)
    pairs_fit k d e = by (nat_eq file k) (nat_eq f.file k) refl refl
      where
        by : (b c : Bool) → nat_eq file k ≡ b → nat_eq f.file k ≡ c → Fit d.text (replacements_in (in_order opened gone) k)
        by true true q r = both_fit k d e q r
        by b false q r = subst (Fit d.text) (sym (own_alone k r)) (one_replacement opened refl part k d e)
        by false true q r = subst (Fit d.text) (sym (gone_alone k q)) (gone_fits k d e)

    pub inline_made : (goes : Bool) → CanBeMade documents rs (inline_at file document.text directives place f home.text goes)
    inline_made true = record {
      fit = all_fit (in_order opened gone) documents pairs_fit;
      quiet = inline_quiet file document.text directives place f home.text true;
      executable = λ k tree there e. elim (or_cases (nat_eq file k) (nat_eq f.file k) e) [
        | inl h ↦ one_executable rs file k tree some there (same_number file k h)
        | inr h ↦ one_executable rs f.file k tree home_some there (same_number f.file k h)
      ];
    }
    inline_made false = record {
      fit = all_fit (opened ∷ []) documents (one_replacement opened refl part);
      quiet = inline_quiet file document.text directives place f home.text false;
      executable = λ k tree there e. one_executable rs file k tree some there (only_there file k e);
    }
