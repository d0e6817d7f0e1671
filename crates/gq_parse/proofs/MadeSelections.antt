-- The selections that the descent makes are those that stand there, and where a part of one is missing none stands.
use Rattle.std.proofs.Common.{◌≡◌, ◌<◌, false, List, [], ◌∷◌, length, map, refl, ap, sym, subst, ◌∙◌, Option, Some, Vec, Global, Box, arith, codes}
use Rattle.std.specs.Option.{option_map}
use Rattle.gq_text.specs.declared.place.Span.{Span}
use Rattle.gq_lex.specs.declared.token.Kind.TheVariants as kind
use Rattle.gq_tree.specs.Forest.{none, row}
use Rattle.gq_tree.specs.Plain.{NameOf, Val, DirectiveOf, Head, Sel, Sels, field, spread, inline}
use Rattle.gq_tree.specs.Views.{name_of, alias_of, argument_view, directive_view, sel_view, sels_view, below_of, braces_of}
use Rattle.gq_tree.specs.declared.tree.Name.{Name}
use Rattle.gq_tree.specs.declared.tree.Spread.{Spread}
use Rattle.gq_tree.specs.declared.tree.SelectionSet.{SelectionSet}
use Rattle.gq_tree.specs.declared.tree.Selection.TheVariants as variant
use Rattle.gq_tree.specs.declared.tree.Selection.TheViews.{roll-Field, roll-InlineFragment}
use Rattle.gq_tree.specs.declared.value.Argument.{Argument}
use Rattle.gq_tree.specs.declared.value.Directive.{Directive}
use Rattle.gq_tree.proofs.Trees.{view_spread, view_made, view_inline}
use Rattle.gq_parse.specs.Grammar.{Tokens, covered, IsPunctuator, IsName, IsKeyword, NotNext, ManyUntil, closed, another, IsFragmentName, IsOptionalCondition, no_condition, a_condition, IsFieldName, no_alias, alias, IsArguments, IsDirectives, IsSelection, a_field, a_spread, an_inline, IsOptionalSet, no_set, a_set, IsSelectionSet, braces, IsSelections, set_closed, selection}
use Rattle.gq_parse.specs.Helping.Phrases.{Lacks, IsSel, Unique, NeverBegins}
use Rattle.gq_parse.proofs.Unique.{not_next, moved, punctuator_begins, spelled_begins, same_punctuator, same_name, same_fragment_name, same_optional_condition, same_field_name}
use Rattle.gq_parse.proofs.UniqueValues.{same_arguments, same_directives}
use Rattle.gq_parse.proofs.UniqueSelections.{field_or_dots, selection_or_close, same_selection}

unique_sel_of : {s z : Sel Span} {tokens other a b : Tokens} → IsSel s tokens a → tokens ≡ other → IsSel z other b → (s ≡ z) × (a ≡ b)
unique_sel_of {s} {z} p same q =
    let e = same_selection p same q in
    let S : Head Span → Sels Span → Sel Span = λ h b. record { label = h; below = b } in
    (ap (λ (h : Head Span). S h s.below) e.0 ∙ ap (S z.label) e.1, e.2)

pub unique_sel : Unique IsSel
unique_sel x y tokens other a b p same q = unique_sel_of p same q

pub sel_or_close : NeverBegins kind.BraceClose IsSel
sel_or_close x tokens a p begins = selection_or_close p begins

seen_as : {x y : Sel Span} {tokens rest : Tokens} → y ≡ x → IsSel x tokens rest → IsSel y tokens rest
seen_as {tokens = tokens} {rest = rest} e v = subst (λ (z : Sel Span). IsSel z tokens rest) (sym e) v

-- a field
pub field_of : (x : Option (Box Name Global)) (n : Name) (arguments : Vec Argument Global) (directives : Vec Directive Global) (o : Option (Box SelectionSet Global)) (place : Span) {tokens a b c rest : Tokens} →
    IsFieldName (alias_of x) (name_of n) tokens a → IsArguments false (map argument_view arguments.items) a b → IsDirectives false (map directive_view directives.items) b c →
    IsOptionalSet (braces_of o) (below_of o) c rest → place ≡ covered tokens rest →
    IsSel (sel_view (variant.Field (roll-Field (record { alias = x; name = n; arguments = arguments; directives = directives; set = o; span = place })))) tokens rest
field_of x n arguments directives o place {tokens} {a} {b} {c} {rest} h r d s e =
    let F : Span → Sel Span = λ p. record { label = field (alias_of x) (name_of n) (map argument_view arguments.items) (map directive_view directives.items) (braces_of o) p; below = below_of o } in
    seen_as (view_made x n arguments directives o place ∙ ap F e) (a_field a b c h r d s)

-- a spread
pub spread_of : (s : Spread) {tokens a b rest : Tokens} → IsPunctuator kind.Spread tokens a → IsFragmentName (name_of s.name) a b → IsDirectives false (map directive_view s.directives.items) b rest → s.span ≡ covered tokens rest → IsSel (sel_view (variant.Spread s)) tokens rest
spread_of s {tokens} {a} {b} {rest} m h d e =
    let F : Span → Sel Span = λ p. record { label = spread (name_of s.name) (map directive_view s.directives.items) p; below = none } in
    seen_as (view_spread s ∙ ap F e) (a_spread a b m h d)

-- an inline fragment
pub inline_of : (on : Option Name) (directives : Vec Directive Global) (set : SelectionSet) (place : Span) {tokens a b c rest : Tokens} →
    IsPunctuator kind.Spread tokens a → IsOptionalCondition (option_map name_of on) a b → IsDirectives false (map directive_view directives.items) b c → IsSelectionSet (sels_view set.items.items) c rest → set.span ≡ covered c rest → place ≡ covered tokens rest →
    IsSel (sel_view (variant.Inline (roll-InlineFragment (record { on = on; directives = directives; set = set; span = place })))) tokens rest
inline_of on directives set place {tokens} {a} {b} {c} {rest} m h d s f e =
    let F : Span → Span → Sel Span = λ q p. record { label = inline (option_map name_of on) (map directive_view directives.items) q p; below = sels_view set.items.items } in
    seen_as (view_inline (roll-InlineFragment (record { on = on; directives = directives; set = set; span = place })) ∙ ap (F set.span) e ∙ ap (λ (q : Span). F q (covered tokens rest)) f) (an_inline a b c m h d s)

-- the selections in braces
selections_closed : {xs : List (Sel Span)} {tokens rest : Tokens} → ManyUntil IsSel kind.BraceClose xs tokens rest → IsSelections (row xs) tokens rest
selections_closed (closed m) = set_closed m
selections_closed (another a s others) = selection a s (selections_closed others)

record AsSelections (tokens rest : Tokens) : Type 0 where
  items : List (Sel Span)
  are : ManyUntil IsSel kind.BraceClose items tokens rest

closed_selections : {ss : Sels Span} {tokens rest : Tokens} → IsSelections ss tokens rest → AsSelections tokens rest
closed_selections (set_closed m) = record { items = []; are = closed m }
closed_selections (selection {h = h} {below = below} a s ss) =
    let l = closed_selections ss in
    record { items = record { label = h; below = below } ∷ l.items; are = another a s l.are }

pub set_of : (xs : List (Sel Span)) {tokens a rest : Tokens} → IsPunctuator kind.BraceOpen tokens a → ManyUntil IsSel kind.BraceClose xs a rest → 0 < length xs → IsSelectionSet (row xs) tokens rest
set_of [] m c some = absurd (omega (arith, some))
set_of (x ∷ xs) {a = a} m c some = braces a m (selections_closed c)

pub set_missing : {tokens a : Tokens} → IsPunctuator kind.BraceOpen tokens a → Lacks (ManyUntil IsSel kind.BraceClose) a → Lacks IsSelectionSet tokens
set_missing m lacks _ rest (braces a2 m2 ss) =
    let l = closed_selections ss in
    lacks l.items rest (subst (λ (t : Tokens). ManyUntil IsSel kind.BraceClose l.items t rest) (sym (same_punctuator m refl m2)) l.are)

-- some selections stand in a set
some_selections : {ss : Sels Span} {xs : List (Sel Span)} {tokens other a b : Tokens} → ManyUntil IsSel kind.BraceClose xs tokens a → tokens ≡ other → xs ≡ [] → IsSelections ss other b → ss ≡ none
some_selections c same empty (set_closed m) = refl
some_selections (closed m) same empty (selection a2 s2 ss2) = absurd (selection_or_close s2 (moved _ same (punctuator_begins m)))
some_selections (another a x others) same empty (selection a2 s2 ss2) = absurd (cc)

pub set_empty : (xs : List (Sel Span)) {tokens a b : Tokens} → IsPunctuator kind.BraceOpen tokens a → ManyUntil IsSel kind.BraceClose xs a b → xs ≡ [] → Lacks IsSelectionSet tokens
set_empty xs m c empty _ rest (braces a2 m2 ss) = let e = some_selections c (same_punctuator m refl m2) empty ss in cc

-- SelectionSet?
pub optional_set_missing : {o : Option Span} {ss : Sels Span} {tokens a rest : Tokens} → IsPunctuator kind.BraceOpen tokens a → Lacks IsSelectionSet tokens → IsOptionalSet o ss tokens rest → ⊥
optional_set_missing m lacks (no_set free) = not_next _ _ free (punctuator_begins m)
optional_set_missing m lacks (a_set s) = lacks _ _ s

pub optional_set_of : {ss : Sels Span} {place : Span} {tokens rest : Tokens} → IsSelectionSet ss tokens rest → place ≡ covered tokens rest → IsOptionalSet (Some place) ss tokens rest
optional_set_of {ss} {place} {tokens} {rest} s e = subst (λ (p : Span). IsOptionalSet (Some p) ss tokens rest) (sym e) (a_set s)

-- which selection stands behind dots
pub no_condition_there : {tokens a : Tokens} → IsPunctuator kind.Name tokens a → Lacks (IsKeyword (codes "on")) tokens → Lacks IsOptionalCondition tokens
no_condition_there m lacks x rest (no_condition free) = not_next _ _ free (punctuator_begins m)
no_condition_there m lacks x rest (a_condition c) = lacks c.keyword c.behind c.begins

-- parts of a selection, by cases on it
no_field_name_in : {h : Head Span} {ss : Sels Span} {tokens rest : Tokens} → NotNext kind.Spread tokens → ((x : Option (NameOf Span)) (n : NameOf Span) (r : Tokens) → IsFieldName x n tokens r → ⊥) → IsSelection h ss tokens rest → ⊥
no_field_name_in free lacks (a_field a b c n r d o) = lacks _ _ _ n
no_field_name_in free lacks (a_spread a b m n d) = not_next _ _ free (punctuator_begins m)
no_field_name_in free lacks (an_inline a b c m t d s) = not_next _ _ free (punctuator_begins m)

pub no_field_name : {tokens : Tokens} → NotNext kind.Spread tokens → ((x : Option (NameOf Span)) (n : NameOf Span) (r : Tokens) → IsFieldName x n tokens r → ⊥) → Lacks IsSel tokens
no_field_name free lacks s rest p = no_field_name_in free lacks p

no_field_arguments_in : {x : Option (NameOf Span)} {n : NameOf Span} {h : Head Span} {ss : Sels Span} {tokens a rest : Tokens} → IsFieldName x n tokens a → Lacks (IsArguments false) a → IsSelection h ss tokens rest → ⊥
no_field_arguments_in n lacks (a_field {arguments = z} a2 b2 c2 n2 r2 d2 o2) = lacks z b2 (subst (λ (t : Tokens). IsArguments false z t b2) (sym (same_field_name n refl n2).2) r2)
no_field_arguments_in n lacks (a_spread a2 b2 m2 n2 d2) = field_or_dots n refl m2
no_field_arguments_in n lacks (an_inline a2 b2 c2 m2 t2 d2 s2) = field_or_dots n refl m2

pub no_field_arguments : {x : Option (NameOf Span)} {n : NameOf Span} {tokens a : Tokens} → IsFieldName x n tokens a → Lacks (IsArguments false) a → Lacks IsSel tokens
no_field_arguments n lacks s rest p = no_field_arguments_in n lacks p

no_field_directives_in : {x : Option (NameOf Span)} {n : NameOf Span} {vs : List (Val Span)} {h : Head Span} {ss : Sels Span} {tokens a b rest : Tokens} → IsFieldName x n tokens a → IsArguments false vs a b → Lacks (IsDirectives false) b → IsSelection h ss tokens rest → ⊥
no_field_directives_in n r lacks (a_field {directives = z} a2 b2 c2 n2 r2 d2 o2) =
    let e = same_arguments r (same_field_name n refl n2).2 r2 in
    lacks z c2 (subst (λ (t : Tokens). IsDirectives false z t c2) (sym e.1) d2)
no_field_directives_in n r lacks (a_spread a2 b2 m2 n2 d2) = field_or_dots n refl m2
no_field_directives_in n r lacks (an_inline a2 b2 c2 m2 t2 d2 s2) = field_or_dots n refl m2

pub no_field_directives : {x : Option (NameOf Span)} {n : NameOf Span} {vs : List (Val Span)} {tokens a b : Tokens} → IsFieldName x n tokens a → IsArguments false vs a b → Lacks (IsDirectives false) b → Lacks IsSel tokens
no_field_directives n r lacks s rest p = no_field_directives_in n r lacks p

no_field_set_in : {x : Option (NameOf Span)} {n : NameOf Span} {vs : List (Val Span)} {ds : List (DirectiveOf Span)} {h : Head Span} {ss : Sels Span} {tokens a b c rest : Tokens} → IsFieldName x n tokens a → IsArguments false vs a b → IsDirectives false ds b c → ((o : Option Span) (z : Sels Span) (r : Tokens) → IsOptionalSet o z c r → ⊥) → IsSelection h ss tokens rest → ⊥
no_field_set_in {rest = rest} n r d lacks (a_field {braces = o} {ss = z} a2 b2 c2 n2 r2 d2 o2) =
    let e = same_arguments r (same_field_name n refl n2).2 r2 in
    let f = same_directives d e.1 d2 in
    lacks o z rest (subst (λ (t : Tokens). IsOptionalSet o z t rest) (sym f.1) o2)
no_field_set_in n r d lacks (a_spread a2 b2 m2 n2 d2) = field_or_dots n refl m2
no_field_set_in n r d lacks (an_inline a2 b2 c2 m2 t2 d2 s2) = field_or_dots n refl m2

pub no_field_set : {x : Option (NameOf Span)} {n : NameOf Span} {vs : List (Val Span)} {ds : List (DirectiveOf Span)} {tokens a b c : Tokens} → IsFieldName x n tokens a → IsArguments false vs a b → IsDirectives false ds b c → ((o : Option Span) (z : Sels Span) (r : Tokens) → IsOptionalSet o z c r → ⊥) → Lacks IsSel tokens
no_field_set n r d lacks s rest p = no_field_set_in n r d lacks p

-- of a spread
no_spread_name_in : {h : Head Span} {ss : Sels Span} {tokens a rest : Tokens} → IsPunctuator kind.Spread tokens a → Lacks IsOptionalCondition a → Lacks IsFragmentName a → IsSelection h ss tokens rest → ⊥
no_spread_name_in m no_on lacks (a_field a2 b2 c2 n2 r2 d2 o2) = field_or_dots n2 refl m
no_spread_name_in m no_on lacks (a_spread {name = z} a2 b2 m2 n2 d2) = lacks z b2 (subst (λ (t : Tokens). IsFragmentName z t b2) (sym (same_punctuator m refl m2)) n2)
no_spread_name_in m no_on lacks (an_inline {on = z} a2 b2 c2 m2 t2 d2 s2) = no_on z b2 (subst (λ (t : Tokens). IsOptionalCondition z t b2) (sym (same_punctuator m refl m2)) t2)

-- behind dots stands neither a fragment's name nor a type condition that can be read
pub no_spread_name : {tokens a : Tokens} → IsPunctuator kind.Spread tokens a → Lacks IsOptionalCondition a → Lacks IsFragmentName a → Lacks IsSel tokens
no_spread_name m no_on lacks s rest p = no_spread_name_in m no_on lacks p

no_spread_directives_in : {n : NameOf Span} {h : Head Span} {ss : Sels Span} {tokens a b rest : Tokens} → IsPunctuator kind.Spread tokens a → Lacks IsOptionalCondition a → IsFragmentName n a b → Lacks (IsDirectives false) b → IsSelection h ss tokens rest → ⊥
no_spread_directives_in m no_on n lacks (a_field a2 b2 c2 n2 r2 d2 o2) = field_or_dots n2 refl m
no_spread_directives_in {rest = rest} m no_on n lacks (a_spread {directives = z} a2 b2 m2 n2 d2) =
    let e = same_fragment_name n (same_punctuator m refl m2) n2 in
    lacks z rest (subst (λ (t : Tokens). IsDirectives false z t rest) (sym e.1) d2)
no_spread_directives_in m no_on n lacks (an_inline {on = z} a2 b2 c2 m2 t2 d2 s2) = no_on z b2 (subst (λ (t : Tokens). IsOptionalCondition z t b2) (sym (same_punctuator m refl m2)) t2)

pub no_spread_directives : {n : NameOf Span} {tokens a b : Tokens} → IsPunctuator kind.Spread tokens a → Lacks IsOptionalCondition a → IsFragmentName n a b → Lacks (IsDirectives false) b → Lacks IsSel tokens
no_spread_directives m no_on n lacks s rest p = no_spread_directives_in m no_on n lacks p

-- of an inline fragment
no_inline_directives_in : {on : Option (NameOf Span)} {h : Head Span} {ss : Sels Span} {tokens a b rest : Tokens} → IsPunctuator kind.Spread tokens a → Lacks IsFragmentName a → IsOptionalCondition on a b → Lacks (IsDirectives false) b → IsSelection h ss tokens rest → ⊥
no_inline_directives_in m no_name t lacks (a_field a2 b2 c2 n2 r2 d2 o2) = field_or_dots n2 refl m
no_inline_directives_in m no_name t lacks (a_spread {name = z} a2 b2 m2 n2 d2) = no_name z b2 (subst (λ (t : Tokens). IsFragmentName z t b2) (sym (same_punctuator m refl m2)) n2)
no_inline_directives_in m no_name t lacks (an_inline {directives = z} a2 b2 c2 m2 t2 d2 s2) =
    let e = same_optional_condition t (same_punctuator m refl m2) t2 in
    lacks z c2 (subst (λ (t : Tokens). IsDirectives false z t c2) (sym e.1) d2)

pub no_inline_directives : {on : Option (NameOf Span)} {tokens a b : Tokens} → IsPunctuator kind.Spread tokens a → Lacks IsFragmentName a → IsOptionalCondition on a b → Lacks (IsDirectives false) b → Lacks IsSel tokens
no_inline_directives m no_name t lacks s rest p = no_inline_directives_in m no_name t lacks p

no_inline_set_in : {on : Option (NameOf Span)} {ds : List (DirectiveOf Span)} {h : Head Span} {ss : Sels Span} {tokens a b c rest : Tokens} → IsPunctuator kind.Spread tokens a → Lacks IsFragmentName a → IsOptionalCondition on a b → IsDirectives false ds b c → Lacks IsSelectionSet c → IsSelection h ss tokens rest → ⊥
no_inline_set_in m no_name t d lacks (a_field a2 b2 c2 n2 r2 d2 o2) = field_or_dots n2 refl m
no_inline_set_in m no_name t d lacks (a_spread {name = z} a2 b2 m2 n2 d2) = no_name z b2 (subst (λ (t : Tokens). IsFragmentName z t b2) (sym (same_punctuator m refl m2)) n2)
no_inline_set_in {rest = rest} m no_name t d lacks (an_inline {ss = z} a2 b2 c2 m2 t2 d2 s2) =
    let e = same_optional_condition t (same_punctuator m refl m2) t2 in
    let f = same_directives d e.1 d2 in
    lacks z rest (subst (λ (t : Tokens). IsSelectionSet z t rest) (sym f.1) s2)

pub no_inline_set : {on : Option (NameOf Span)} {ds : List (DirectiveOf Span)} {tokens a b c : Tokens} → IsPunctuator kind.Spread tokens a → Lacks IsFragmentName a → IsOptionalCondition on a b → IsDirectives false ds b c → Lacks IsSelectionSet c → Lacks IsSel tokens
no_inline_set m no_name t d lacks s rest p = no_inline_set_in m no_name t d lacks p

-- the name of a field
pub no_second_name : {y : NameOf Span} {x : Option (NameOf Span)} {n : NameOf Span} {tokens a b rest : Tokens} → IsName y tokens a → IsPunctuator kind.Colon a b → NotNext kind.Name b → IsFieldName x n tokens rest → ⊥
no_second_name n m free (no_alias n2 free2) = not_next _ _ free2 (moved _ (same_name n refl n2).1 (punctuator_begins m))
no_second_name n m free (alias a2 b2 n2 m2 k2) = not_next _ _ free (moved _ (sym (same_punctuator m (same_name n refl n2).1 m2)) (spelled_begins k2))

pub no_inline_condition : {tokens a : Tokens} → IsPunctuator kind.Spread tokens a → Lacks IsFragmentName a → Lacks IsOptionalCondition a → Lacks IsSel tokens
no_inline_condition m no_name lacks s rest p = no_spread_name_in m lacks no_name p
