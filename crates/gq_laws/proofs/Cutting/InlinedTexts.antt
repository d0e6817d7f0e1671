-- The laws of texts in which a spread became an inline fragment, and of those from which a definition went.
use Rattle.std.proofs.Common.{◌≡◌, ◌⊎◌, inl, inr, ⊎_elim, ℕ, zero, suc, ◌+◌, ◌<◌, ◌≤◌, Bool, true, false, List, [], ◌∷◌, ◌++◌, Some, refl, sym, ap, subst, ◌∙◌, arith, append_assoc, map, filter}
use Rattle.std.specs.Prelude.{codes, nat_lt, if◌then◌else◌}
use Rattle.std.specs.List.{AllByRecursion}
use Rattle.std.proofs.lemmas.Bool.Decides.{nat_tests}
use Rattle.gq_text.specs.declared.place.Span.{Span}
use Rattle.gq_text.specs.declared.replacement.Replacement.{Replacement}
use Rattle.gq_text.specs.Replaced.{replaced, replaced_from}
use Rattle.gq_lex.specs.declared.token.Kind.TheVariants as kind
use Rattle.gq_lex.specs.Tokens.{Lexeme, Reads}
use Rattle.gq_tree.specs.Forest.{more}
use Rattle.gq_tree.specs.Plain.{NameOf, DirectiveOf, Sels, Def, spread, operation, fragment, type_system, erase_all, erase_document}
use Rattle.gq_parse.specs.Derives.{Derives}
use Rattle.gq_parse.specs.Grammar.{Tokens, starts, ends}
use Rattle.gq_renamed.specs.Names.{IsNameText}
use Rattle.gq_rewritten.specs.Rewrites.{with_set, with_inlined, is_kept}
use Rattle.gq_rewritten.specs.Executables.{IsExecutable}
use Rattle.gq_laws.proofs.Rewriting.InPlace.{trees_are_in_place}
use Rattle.gq_laws.specs.Cutting.Inlined.{inlined, gone, put_in_order, ReadsAs, ReadsWithin, InlinedTextsRead, TextsReadWithoutFragment, InlinedTextsReadWithoutFragment}
use Rattle.gq_laws.specs.Cutting.Standing.{HasSelection, set_in}
use Rattle.gq_laws.specs.Cutting.Texts.{last_directive_end, directives_text}
use Rattle.gq_laws.proofs.Cutting.Alike.{AreAlike}
use Rattle.gq_laws.proofs.Cutting.DefinitionRuns.{unquoted_end}
use Rattle.gq_laws.proofs.Cutting.Deriving.{AreTreeOf, DerivesAs}
use Rattle.gq_laws.proofs.Cutting.DocumentHoles.{IsAt}
use Rattle.gq_laws.proofs.Cutting.Dropped.{without, FollowsType, gone_at, without_document}
use Rattle.gq_laws.proofs.Cutting.ExtractedTexts.{first_and_last}
use Rattle.gq_laws.proofs.Cutting.Filtered.{is_without}
use Rattle.gq_laws.proofs.Cutting.Fronts.{GoneRun, gone_run, type_name}
use Rattle.gq_laws.proofs.Cutting.Inlined.{SpreadSigns, last_end, Inlined, InlinedIn, inlined_document, FragmentSet, fragment_set}
use Rattle.gq_laws.proofs.Cutting.Holes.{Way, tail_at}
use Rattle.gq_laws.proofs.Cutting.InlinedLast.{inlined_behind, inlined_before}
use Rattle.gq_laws.proofs.Cutting.Inlining.{AreDirectives, no_directives, some_directives, inlined_reads, gone_reads, inlined_from, gone_from}
use Rattle.gq_laws.proofs.Cutting.Inlining as put
use Rattle.gq_laws.proofs.Cutting.Likeness.{alike_same, alike_append}
use Rattle.gq_laws.proofs.Cutting.Phrases.{IsSome}
use Rattle.gq_laws.proofs.Cutting.Reading.{EndsUnquoted, ReadsLike, like_alike}
use Rattle.gq_laws.proofs.Cutting.TextRuns.{ReadsFrom, from_start, RunIn, run_in}
use Rattle.gq_laws.proofs.Cutting.Ways.{number_of, way_to}
use Rattle.gq_laws.proofs.Cutting.Within.{derives_within}
use Rattle.gq_laws.proofs.Cutting.Words.{is_name_or_dots, is_brace, opening_text, closing_text}
use Rattle.gq_laws.proofs.Cutting.Written.{sample, braced_tokens, on_tokens}

-- ---- a spread, its directives and a set in their texts

same_end : (d : DirectiveOf Span) (ds : List (DirectiveOf Span)) → last_end d ds ≡ last_directive_end d.place ds
same_end d [] = refl
same_end d (e ∷ ds) = same_end e ds

record SpreadPlaced (text : List ℕ) (at : ℕ) (front given behind : Tokens) (directives : List (DirectiveOf Span)) (place : Span) : Type 0 where
  first : Lexeme
  more : Tokens
  last : Lexeme
  run : RunIn text at front first (first ∷ more) last behind place.start place.end
  dots : is_name_or_dots first.kind ≡ true
  are : AreDirectives given (directives_text text directives)

-- where the directives of a spread end
abbrev AreGiven : List (DirectiveOf Span) → Tokens → Type 0
AreGiven directives given = (d : DirectiveOf Span) (others : List (DirectiveOf Span)) → directives ≡ d ∷ others → IsSome given × (starts given ≡ d.place.start) × (ends given ≡ last_end d others)

given_placed : (text : List ℕ) (at : ℕ) (front given behind : Tokens) (directives : List (DirectiveOf Span)) → ReadsFrom text at (front ++ (given ++ behind)) → AreGiven directives given →
    (directives ≡ [] → given ≡ []) → AreDirectives given (directives_text text directives)
given_placed text at front given behind [] reads some nothing = subst (λ (l : Tokens). AreDirectives l []) (sym (nothing refl)) no_directives
given_placed text at front given behind (d ∷ ds) reads some nothing =
    let s = some d ds refl in
    let g = first_and_last given s.0 in
    let own =
    run_in text at d.place.start (last_directive_end d.place ds) front g.first g.last g.more g.others behind
    (subst (λ (l : Tokens). ReadsFrom text at (front ++ (l ++ behind))) g.is reads) g.run_is (g.begins ∙ s.1) (g.finishes ∙ s.2 ∙ same_end d ds) in
    subst (λ (l : Tokens). AreDirectives l (directives_text text (d ∷ ds))) (sym g.is) (some_directives own)

spread_placed : (text : List ℕ) (at : ℕ) (name : NameOf Span) (directives : List (DirectiveOf Span)) (place : Span) (front signs given behind : Tokens) →
    ReadsFrom text at (front ++ ((signs ++ given) ++ behind)) →
    SpreadSigns name place signs → ends (signs ++ given) ≡ place.end → AreGiven directives given → (directives ≡ [] → given ≡ []) → SpreadPlaced text at front given behind directives place
spread_placed text at name directives place front signs given behind reads begins finishes some nothing =
    let same : signs ++ given ≡ begins.sign ∷ begins.word ∷ given = ap (λ (l : Tokens). l ++ given) begins.are in
    let f = first_and_last (signs ++ given) (subst IsSome (sym same) tt) in
    let heads : begins.sign ∷ begins.word ∷ given ≡ f.first ∷ f.more = sym same ∙ f.is in
    let head : begins.sign ≡ f.first = cc in
    let parts : front ++ ((signs ++ given) ++ behind) ≡ (front ++ signs) ++ (given ++ behind) =
    ap (λ (l : Tokens). front ++ l) (append_assoc signs given behind) ∙ sym (append_assoc front signs (given ++ behind)) in
    record {
      first = f.first;
      more = f.more;
      last = f.last;
      run = run_in text at place.start place.end front f.first f.last f.more f.others behind (subst (λ (l : Tokens). ReadsFrom text at (front ++ (l ++ behind))) f.is reads) f.run_is
          (f.begins ∙ ap starts same ∙ begins.sign_place) (f.finishes ∙ finishes);
      dots = ap (λ (t : Lexeme). is_name_or_dots t.kind) (sym head) ∙ ap is_name_or_dots begins.sign_kind;
      are = given_placed text at (front ++ signs) given behind directives (subst (ReadsFrom text at) parts reads) some nothing;
    }

record SetPlaced (home : List ℕ) (braces : Span) (inner : Tokens) : Type 0 where
  before : Tokens
  behind : Tokens
  brace : Lexeme
  closing : Lexeme
  run : RunIn home 0 before brace (brace ∷ (inner ++ closing ∷ [])) closing behind braces.start braces.end
  opens : (brace.kind ≡ kind.BraceOpen) × (brace.text ≡ codes "{")
  closes : (closing.kind ≡ kind.BraceClose) × (closing.text ≡ codes "}")

set_placed : (home : List ℕ) {tokens : Tokens} {set : Sels Span} {braces : Span} → Reads home tokens → (h : FragmentSet tokens set braces) → SetPlaced home braces h.inner
set_placed home {tokens} {set} {braces} reads h =
    let parts : tokens ≡ h.front ++ (h.brace ∷ ((h.inner ++ h.closing ∷ []) ++ h.behind)) =
    h.cut ∙ ap (λ (l : Tokens). h.front ++ (h.brace ∷ l)) (sym (append_assoc h.inner (h.closing ∷ []) h.behind)) in
    let r =
    run_in home 0 braces.start braces.end h.front h.brace h.closing (h.inner ++ h.closing ∷ []) (h.brace ∷ h.inner) h.behind
    (from_start home _ (subst (Reads home) parts reads)) refl h.opens.1 h.closes.1 in
    record {
      before = h.front;
      behind = h.behind;
      brace = h.brace;
      closing = h.closing;
      run = r;
      opens = (h.opens.0, opening_text r.begins.2 h.opens.0);
      closes = (h.closes.0, closing_text r.ends h.closes.0);
    }

-- the tokens that are put, with one place or another
abbrev inlined_sample : List ℕ → (given inner others : Tokens) → Tokens
inlined_sample on given inner others = sample kind.Spread (codes "...") ∷ on_tokens on (given ++ (braced_tokens inner ++ others))

put_alike : {home : List ℕ} {braces : Span} (on : List ℕ) (given inner others : Tokens) (s : SetPlaced home braces inner) →
    AreAlike (inlined_sample on given inner others) (put.inlined_tokens on given (s.brace ∷ (inner ++ s.closing ∷ [])) ++ others)
put_alike on given inner others s =
    let set : Tokens = s.brace ∷ (inner ++ s.closing ∷ []) in
    let braced : AreAlike (braced_tokens inner) set = (s.opens.0, s.opens.1, alike_append inner inner _ _ (alike_same inner) (s.closes.0, s.closes.1, tt)) in
    let all : AreAlike (given ++ (braced_tokens inner ++ others)) (given ++ (set ++ others)) =
    alike_append given given _ _ (alike_same given) (alike_append (braced_tokens inner) set others others braced (alike_same others)) in
    let glued : AreAlike (given ++ (braced_tokens inner ++ others)) ((given ++ set) ++ others) =
    subst (AreAlike (given ++ (braced_tokens inner ++ others))) (sym (append_assoc given set others)) all in
    (refl, refl, (refl, refl, (refl, refl, glued)))

as_read : {text : List ℕ} {new : List (Def (Unit {0}))} (rs : List Replacement) → DerivesAs (replaced rs text) new → ReadsAs text rs new
as_read rs d = record { tree = d.tree; derives = d.derives; is = d.is }

-- ---- no definition of the spread's document goes

pub inlined_texts_read : InlinedTextsRead
inlined_texts_read text home document others name directives place called on set braces whole d e has stands passes_none =
    let n = number_of document has.definition has.stands in
    let w = way_to (set_in has.definition) (spread name directives place) has.among in
    let x : Inlined document d.tokens name directives place = inlined_document n.0 w.way has.definition d.derived (trees_are_in_place text document d) n.1 w.is in
    let m = number_of others (fragment called on [] set braces whole) stands in
    let h : FragmentSet e.tokens set braces = fragment_set m.0 called on [] set braces whole e.derived m.1 in
    let is_on = type_name home m.0 called on [] set braces whole e.reads e.derived m.1 in
    let s = set_placed home e.reads h in
    let r = spread_placed text 0 name directives place x.front x.signs x.given x.behind (from_start text _ (subst (Reads text) x.cut d.reads)) x.begins x.finishes x.are_given x.none_given in
    let full : Tokens = s.brace ∷ (h.inner ++ s.closing ∷ []) in
    let rs : List Replacement = inlined text home place directives on.text braces ∷ [] in
    let own : ReadsLike (replaced rs text) (x.front ++ (put.inlined_tokens on.text x.given full ++ x.behind)) [] =
    inlined_reads text home place braces on.text (directives_text text directives) x.given x.front (r.first ∷ r.more) x.behind full r.first r.last s.brace s.closing r.run r.dots s.run
    (ap is_brace s.closes.0) is_on r.are in
    let read : ReadsLike (replaced rs text) (x.front ++ inlined_sample on.text x.given h.inner x.behind) [] =
    like_alike _ _ (alike_append x.front x.front _ _ (alike_same x.front) (put_alike on.text x.given h.inner x.behind s)) own in
    as_read rs (derives_within (replaced rs text) _ _ passes_none read (λ zs alike. x.again on.text set h.inner zs h.is_some h.again alike))

-- ---- a definition goes

no_type : (m : ℕ) (ds : List (Def Span)) → AllByRecursion IsExecutable ds → FollowsType m ds → ⊥
no_type zero ds all h = h
no_type (suc n) [] all h = h
no_type (suc zero) (operation kind name variables directives set braces place ∷ ds) all h = h
no_type (suc zero) (fragment name on directives set braces place ∷ ds) all h = h
no_type (suc zero) (type_system one ∷ ds) all h = all.0
no_type (suc (suc n)) (d ∷ ds) all h = no_type (suc n) ds all.1 h

pub texts_read_without_fragment : TextsReadWithoutFragment
texts_read_without_fragment text document called on directives set braces whole file d executable stands passes_none =
    let e : Def Span = fragment called on directives set braces whole in
    let m = number_of document e stands in
    let g = gone_at m.0 e d.derived m.1 in
    let f = gone_run text m.0 called on directives set braces whole g.front g.gone g.behind d.reads d.derived m.1 g.cut g.is_some (g.covers e m.1) in
    let parts : d.tokens ≡ g.front ++ (f.run.first ∷ (f.run.more ++ g.behind)) = g.cut ∙ ap (λ (l : Tokens). g.front ++ (l ++ g.behind)) f.run.is in
    let r =
    run_in text 0 whole.start whole.end g.front f.run.first f.run.last f.run.more f.run.others g.behind
    (from_start text (g.front ++ (f.run.first ∷ (f.run.more ++ g.behind))) (subst (Reads text) parts d.reads)) f.run.run_is f.begins f.finishes in
    let read : ReadsLike (replaced (gone whole ∷ []) text) (g.front ++ g.behind) [] = gone_reads text whole g.front (f.run.first ∷ f.run.more) g.behind f.run.first f.run.last r f.is_name f.unquoted in
    let left = is_without file whole m.0 e 0 document m.1 refl (trees_are_in_place text document d) in
    let fits : FollowsType m.0 document → ⊥ = no_type m.0 document executable in
    let T : List (Def Span) → Type 0 = λ l. AreTreeOf (erase_document l) (g.front ++ g.behind) in
    let are : AreTreeOf (erase_document (without m.0 document)) (g.front ++ g.behind) = λ zs alike. without_document m.0 document g (λ t. absurd (fits t)) zs alike in
    let new : List (Def (Unit {0})) = erase_document (filter (is_kept (Some (record { file = file; place = whole })) file) document) in
    let are_new : AreTreeOf new (g.front ++ g.behind) = subst T (sym left) are in
    as_read (gone whole ∷ []) (derives_within (replaced (gone whole ∷ []) text) (g.front ++ g.behind) new passes_none read are_new)

-- ---- both in one document

-- the number of a definition among the others, and among all
number_with : (m n : ℕ) (d : Def Span) (ds : List (Def Span)) → IsAt d n (without m ds) → ((m ≤ n) × IsAt d (suc n) ds) ⊎ ((suc n ≤ m) × IsAt d n ds)
number_with m n d [] i = absurd i
number_with zero n d (x ∷ ds) i = inl (omega arith, i)
number_with (suc m) zero d (x ∷ ds) i = inr (omega arith, i)
number_with (suc m) (suc n) d (x ∷ ds) i =
    ⊎_elim (λ (h : (m ≤ n) × IsAt d (suc n) ds). let l = h.0 in inl (omega (arith, l), h.1)) (λ (h : (suc n ≤ m) × IsAt d n ds). let l = h.0 in inr (omega (arith, l), h.1)) (number_with m n d ds i)

earlier : (a b : ℕ) → a < b → nat_lt a b ≡ true
earlier a b h = grind (arith, nat_tests)

not_earlier : (a b : ℕ) → b < a → nat_lt a b ≡ false
not_earlier a b h = grind (arith, nat_tests)

four_parts : (a b c d : Tokens) → a ++ (b ++ (c ++ d)) ≡ (a ++ (b ++ c)) ++ d
four_parts a b c d = simp append_assoc

cancelled : (a : Tokens) {b c : Tokens} → a ++ b ≡ a ++ c → b ≡ c
cancelled [] e = e
cancelled (t ∷ a) e = cancelled a (cc)

-- ---- the two replacements in their order
module _ (text : List ℕ) (document : List (Def Span)) (name : NameOf Span) (directives : List (DirectiveOf Span)) (place : Span) (called on : NameOf Span) (set : Sels Span) (braces whole : Span)
    (d : Derives text document) (m : ℕ) (is_at : IsAt (fragment called on [] set braces whole) m document) where
  abbrev new : List (Def Span) → List (Def (Unit {0}))
  new ds = map (with_set (with_inlined place on.text (erase_all set))) ds

  abbrev opened : Replacement
  opened = inlined text text place directives on.text braces

  abbrev fragment_there : Def Span
  fragment_there = fragment called on [] set braces whole

  h : FragmentSet d.tokens set braces
  h = fragment_set m called on [] set braces whole d.derived is_at

  is_on : IsNameText on.text
  is_on = type_name text m called on [] set braces whole d.reads d.derived is_at

  s : SetPlaced text braces h.inner
  s = set_placed text d.reads h

  abbrev full : Tokens
  full = s.brace ∷ (h.inner ++ s.closing ∷ [])

  -- the fragment stands before the spread
  behind_it : (ds : List (Def Span)) (front gone_tokens behind between left : Tokens) → d.tokens ≡ front ++ (gone_tokens ++ behind) → (f : GoneRun whole front gone_tokens) →
      (x : InlinedIn ds (front ++ between) left left (front ++ behind) name directives place) →
      behind ≡ between ++ ((x.signs ++ x.given) ++ (x.between ++ left)) → ReadsWithin text (put_in_order place whole opened) (new ds)
  behind_it ds front gone_tokens behind between left cut f x inside passes_none =
      let others : Tokens = x.between ++ left in
      let parts : d.tokens ≡ front ++ (f.run.first ∷ (f.run.more ++ behind)) = cut ∙ ap (λ (l : Tokens). front ++ (l ++ behind)) f.run.is in
      let g : RunIn text 0 front f.run.first (f.run.first ∷ f.run.more) f.run.last behind whole.start whole.end =
      run_in text 0 whole.start whole.end front f.run.first f.run.last f.run.more f.run.others behind (from_start text _ (subst (Reads text) parts d.reads)) f.run.run_is f.begins f.finishes in
      let tail : ReadsFrom text whole.end (between ++ ((x.signs ++ x.given) ++ others)) = subst (ReadsFrom text whole.end) inside g.tail_reads in
      let r : SpreadPlaced text whole.end between x.given others directives place =
      spread_placed text whole.end name directives place between x.signs x.given others tail x.begins x.finishes x.are_given x.none_given in
      let rs : List Replacement = gone whole ∷ opened ∷ [] in
      let in_order : put_in_order place whole opened ≡ rs =
      ap (λ (b : Bool). if b then rs else opened ∷ gone whole ∷ []) (earlier whole.start place.start (omega (arith, g.in_order, r.run.starts_behind))) in
      let inner : ReadsLike (replaced_from whole.end (opened ∷ []) text) (between ++ (put.inlined_tokens on.text x.given full ++ others)) [] =
      inlined_reads text text place braces on.text (directives_text text directives) x.given between (r.first ∷ r.more) others full r.first r.last s.brace s.closing r.run r.dots s.run
      (ap is_brace s.closes.0) is_on r.are in
      let own : ReadsLike (replaced rs text) (front ++ (between ++ (put.inlined_tokens on.text x.given full ++ others))) [] =
      gone_from text whole front (f.run.first ∷ f.run.more) behind f.run.first f.run.last g f.is_name f.unquoted (opened ∷ []) (between ++ (put.inlined_tokens on.text x.given full ++ others)) inner in
      let glued : ReadsLike (replaced rs text) ((front ++ between) ++ (put.inlined_tokens on.text x.given full ++ others)) [] =
      subst (λ (l : Tokens). ReadsLike (replaced rs text) l []) (sym (append_assoc front between (put.inlined_tokens on.text x.given full ++ others))) own in
      let read : ReadsLike (replaced rs text) ((front ++ between) ++ inlined_sample on.text x.given h.inner others) [] =
      like_alike _ _ (alike_append (front ++ between) (front ++ between) _ _ (alike_same (front ++ between)) (put_alike on.text x.given h.inner others s)) glued in
      let W : List Replacement → Type 0 = λ l. ReadsWithin text l (new ds) in
      subst W (sym in_order) (λ passes. as_read rs (derives_within (replaced rs text) _ _ passes read (λ zs alike. x.again on.text set h.inner zs h.is_some h.again alike))) passes_none

  -- the fragment stands behind the spread
  before_it : (ds : List (Def Span)) (front between gone_tokens behind : Tokens) → (x : InlinedIn ds front (between ++ (gone_tokens ++ behind)) (between ++ behind) d.tokens name directives place) →
      IsSome gone_tokens →
      (starts gone_tokens ≡ whole.start) × (ends gone_tokens ≡ whole.end) → ReadsWithin text (put_in_order place whole opened) (new ds)
  before_it ds front between gone_tokens behind x some covers passes_none =
      let mid : Tokens = x.between ++ between in
      let all : d.tokens ≡ front ++ ((x.signs ++ x.given) ++ (mid ++ (gone_tokens ++ behind))) =
      x.cut ∙ ap (λ (l : Tokens). front ++ ((x.signs ++ x.given) ++ l)) (sym (append_assoc x.between between (gone_tokens ++ behind))) in
      let r : SpreadPlaced text 0 front x.given (mid ++ (gone_tokens ++ behind)) directives place =
      spread_placed text 0 name directives place front x.signs x.given (mid ++ (gone_tokens ++ behind))
      (from_start text _ (subst (Reads text) all d.reads)) x.begins x.finishes x.are_given x.none_given in
      let before : Tokens = front ++ ((x.signs ++ x.given) ++ mid) in
      let split : d.tokens ≡ before ++ (gone_tokens ++ behind) = all ∙ four_parts front (x.signs ++ x.given) mid (gone_tokens ++ behind) in
      let f : GoneRun whole before gone_tokens = gone_run text m called on [] set braces whole before gone_tokens behind d.reads d.derived is_at split some covers in
      let unquoted : EndsUnquoted mid = unquoted_end (front ++ (x.signs ++ x.given)) mid (sym (append_assoc front (x.signs ++ x.given) mid)) f.unquoted in
      let tail : ReadsFrom text place.end (mid ++ (f.run.first ∷ (f.run.more ++ behind))) = subst (λ (l : Tokens). ReadsFrom text place.end (mid ++ (l ++ behind))) f.run.is r.run.tail_reads in
      let g : RunIn text place.end mid f.run.first (f.run.first ∷ f.run.more) f.run.last behind whole.start whole.end =
      run_in text place.end whole.start whole.end mid f.run.first f.run.last f.run.more f.run.others behind tail f.run.run_is f.begins f.finishes in
      let rs : List Replacement = opened ∷ gone whole ∷ [] in
      let in_order : put_in_order place whole opened ≡ rs =
      ap (λ (b : Bool). if b then gone whole ∷ opened ∷ [] else rs) (not_earlier whole.start place.start (omega (arith, r.run.in_order, g.starts_behind))) in
      let inner : ReadsLike (replaced_from place.end (gone whole ∷ []) text) (mid ++ behind) [] =
      gone_reads text whole mid (f.run.first ∷ f.run.more) behind f.run.first f.run.last g f.is_name unquoted in
      let own : ReadsLike (replaced rs text) (front ++ (put.inlined_tokens on.text x.given full ++ (mid ++ behind))) [] =
      inlined_from text text place braces on.text (directives_text text directives) x.given front (r.first ∷ r.more)
      (mid ++ (gone_tokens ++ behind)) full r.first r.last s.brace s.closing r.run r.dots s.run (ap is_brace s.closes.0) is_on r.are
      (gone whole ∷ []) (mid ++ behind) inner in
      let left : Tokens = x.between ++ (between ++ behind) in
      let glued : ReadsLike (replaced rs text) (front ++ (put.inlined_tokens on.text x.given full ++ left)) [] =
      subst (λ (l : Tokens). ReadsLike (replaced rs text) (front ++ (put.inlined_tokens on.text x.given full ++ l)) []) (append_assoc x.between between behind) own in
      let read : ReadsLike (replaced rs text) (front ++ inlined_sample on.text x.given h.inner left) [] =
      like_alike _ _ (alike_append front front _ _ (alike_same front) (put_alike on.text x.given h.inner left s)) glued in
      let W : List Replacement → Type 0 = λ l. ReadsWithin text l (new ds) in
      subst W (sym in_order) (λ passes. as_read rs (derives_within (replaced rs text) _ _ passes read (λ zs alike. x.again on.text set h.inner zs h.is_some h.again alike))) passes_none

  -- by the numbers of the two definitions
  pub both : AllByRecursion IsExecutable document → HasSelection (without m document) (spread name directives place) → ReadsWithin text (put_in_order place whole opened) (new (without m document))
  both executable has =
      let n = number_of (without m document) has.definition has.stands in
      let w = way_to (set_in has.definition) (spread name directives place) has.among in
      let all = trees_are_in_place text document d in
      let fits : FollowsType m document → ⊥ = no_type m document executable in
      ⊎_elim
      (λ (i : (m ≤ n.0) × IsAt has.definition (suc n.0) document).
      let x = inlined_behind m n.0 w.way fragment_there has.definition i.0 d.derived all is_at i.1 w.is in
      let z = x.inlined (λ t. absurd (fits t)) in
      let f = gone_run text m called on [] set braces whole x.front x.gone x.behind d.reads d.derived is_at x.cut x.is_some x.covers in
      behind_it (without m document) x.front x.gone x.behind z.0 z.1 x.cut f z.2 (cancelled x.front (z.2.cut ∙ append_assoc x.front z.0 ((z.2.signs ++ z.2.given) ++ (z.2.between ++ z.1)))))
      (λ (i : (suc n.0 ≤ m) × IsAt has.definition n.0 document). behind_by m n.0 w.way has.definition i.0 is_at i.1 w.is fits)
      (number_with m n.0 has.definition document n.1)
    where
      behind_by : (k n : ℕ) (w : Way) (one : Def Span) {below rest : Sels Span} → suc n ≤ k → IsAt fragment_there k document → IsAt one n document →
          tail_at w (set_in one) ≡ more (spread name directives place) below rest → (FollowsType k document → ⊥) →
          ReadsWithin text (put_in_order place whole opened) (new (without k document))
      behind_by zero n w one l i j e fits = absurd (omega (arith, l))
      behind_by (suc k) n w one l i j e fits =
          let x = inlined_before n k w fragment_there one (omega (arith, l)) d.derived (trees_are_in_place text document d) i j e in
          before_it (without (suc k) document) x.front x.between x.gone x.behind (x.inlined (λ t. absurd (fits t))) x.is_some x.covers

pub inlined_texts_read_without_fragment : InlinedTextsReadWithoutFragment
inlined_texts_read_without_fragment text document name directives place called on set braces whole file d executable has stands =
    let e : Def Span = fragment called on [] set braces whole in
    let m = number_of document e stands in
    let left = is_without file whole m.0 e 0 document m.1 refl (trees_are_in_place text document d) in
    let H : List (Def Span) → Type 0 = λ l. HasSelection l (spread name directives place) in
    let R : List (Def Span) → Type 0 =
    λ l. ReadsWithin text (put_in_order place whole (inlined text text place directives on.text braces)) (map (with_set (with_inlined place on.text (erase_all set))) l) in
    subst R (sym left) (both text document name directives place called on set braces whole d m.0 m.1 executable (subst H left has))
