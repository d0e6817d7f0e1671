-- Definitions.
use Rattle.std.proofs.Common.{◌≡◌, ◌≢◌, List, [], ◌∷◌, true, false, Option, refl, subst, ◌⊎◌, inl, inr}
use Rattle.std.specs.Prelude.{codes}
use Rattle.gq_text.specs.declared.place.Span.{Span}
use Rattle.gq_lex.specs.declared.token.Kind.{Kind}
use Rattle.gq_lex.specs.declared.token.Kind.TheVariants as kind
use Rattle.gq_lex.specs.Tokens.{Lexeme}
use Rattle.gq_tree.specs.Plain.{NameOf, DirectiveOf, VariableOf, Sels, BodyOf, TypeSystemOf}
use Rattle.gq_parse.specs.Grammar.{Tokens, IsPunctuator, IsName, IsKeyword, IsOptionalName, IsVariableDefinitions, IsDirectives, IsSelectionSet, IsOperationType, a_query, a_mutation, a_subscription, bare, typed, fragment_on, braces}
use Rattle.gq_parse.specs.Helping.Words.{word_of}
use Rattle.gq_parse.specs.declared.expected.Word.{Word}
use Rattle.gq_parse.specs.declared.expected.Word.TheVariants as word
use Rattle.gq_parse.specs.declared.expected.Row.TheVariants.{Variables, Roots}
use Rattle.gq_parse.specs.declared.expected.Symbol.{Symbol}
use Rattle.gq_parse.specs.declared.expected.Symbol.TheVariants.{AnyName, FragmentName, Directives, SomeDirectives, OptionalRow, PartsWith, OptionalName, Set, FirstSelection, Definition, Described, Extension, ExtendedScalar}
use Rattle.gq_parse.specs.declared.expected.Move.TheVariants.{TakesThen, TakesThenFour}
use Rattle.gq_parse.specs.Helping.Expected.{move, name_move, described_move, extension_move, definition_word_move, definition_move}
use Rattle.gq_parse.proofs.Means.{Means, After, Next, punctuator, spelled, here, spelled_here, name_here, at_kind, at_word}
use Rattle.gq_parse.specs.TypeSystem.{IsDescription, no_description, a_description, a_block_description, a_schema, IsTypeBody, a_scalar, an_object_type, an_interface, a_union, an_enum_type, an_input_type, HasParts, IsTypeSystemDefinition, a_schema_definition, a_type_definition, a_directive_definition, a_schema_extension, a_type_extension}
use Rattle.gq_parse.specs.Documents.{an_operation, a_fragment, a_type_system_definition}
use Rattle.gq_tree.specs.declared.tree.OperationKind.{OperationKind}
use Rattle.gq_parse.proofs.NextTypeParts.{keyword, is_keyword}

at_key : (t : Lexeme) (ts y : Tokens) (s : Symbol) (w : Word) → t.kind ≡ kind.Name → word_of t.text ≡ w → After (move s kind.Name w) t ts y → Next s t ts y
at_key t ts y s w e f h = at_word t ts y s kind.Name w e f h

-- a type system definition behind its description
forth_body : {n : NameOf Span} {ds : List (DirectiveOf Span)} {body : BodyOf Span} (t : Lexeme) (ts y : Tokens) → IsTypeBody n ds body (t ∷ ts) y → Next Described t ts y
forth_body t ts y (a_scalar a b k n h) =
    let e = keyword word.Scalar tt k in
    at_key t ts y Described word.Scalar e.0 e.2 (b, subst (λ (x : Tokens). Means AnyName x b) e.1 (_, n), (_, h))
forth_body t ts y (an_object_type a b c d k n i h f) =
    let e = keyword word.Object tt k in
    at_key t ts y Described word.Object e.0 e.2 (b, c, d, subst (λ (x : Tokens). Means AnyName x b) e.1 (_, n), (_, i), (_, h), (_, f))
forth_body t ts y (an_interface a b c d k n i h f) =
    let e = keyword word.Interface tt k in
    at_key t ts y Described word.Interface e.0 e.2 (b, c, d, subst (λ (x : Tokens). Means AnyName x b) e.1 (_, n), (_, i), (_, h), (_, f))
forth_body t ts y (a_union a b c k n h m) =
    let e = keyword word.Union tt k in
    at_key t ts y Described word.Union e.0 e.2 (b, c, subst (λ (x : Tokens). Means AnyName x b) e.1 (_, n), (_, h), (_, m))
forth_body t ts y (an_enum_type a b c k n h v) =
    let e = keyword word.Enum tt k in
    at_key t ts y Described word.Enum e.0 e.2 (b, c, subst (λ (x : Tokens). Means AnyName x b) e.1 (_, n), (_, h), (_, v))
forth_body t ts y (an_input_type a b c k n h v) =
    let e = keyword word.Input tt k in
    at_key t ts y Described word.Input e.0 e.2 (b, c, subst (λ (x : Tokens). Means AnyName x b) e.1 (_, n), (_, h), (_, v))

pub forth_described : (t : Lexeme) (ts y : Tokens) → Means Described (t ∷ ts) y → Next Described t ts y
forth_described t ts y (inl (ds, [], s, some)) = absurd (some refl)
forth_described t ts y (inl (ds, root ∷ roots, a_schema a b k h r, some)) =
    let e = keyword word.Schema tt k in
    at_key t ts y Described word.Schema e.0 e.2 (b, subst (λ (x : Tokens). Means (Directives true) x b) e.1 (_, h), (root, roots, r))
forth_described t ts y (inr (inl (n, ds, body, h))) = forth_body t ts y h
forth_described t ts y (inr (inr (n, arguments, again, locations, h))) =
    let e = keyword word.Directive tt h.keyword in
    at_key t ts y Described word.Directive e.0 e.2 (h.c, h.d, h.e, h.f, subst (λ (x : Tokens). IsPunctuator kind.At x h.c) e.1 h.at, (n, h.is_name), (arguments, h.is_arguments), (again, h.is_again), (locations, h.is_locations))

back_described_word : (t : Lexeme) (ts y : Tokens) (w : Word) → t.kind ≡ kind.Name → word_of t.text ≡ w → After (described_move w) t ts y → Means Described (t ∷ ts) y
back_described_word t ts y word.Schema e f (m, h, r) = inl (_, _, a_schema ts m (is_keyword word.Schema tt t ts e f) h.1 r.2, λ q. cc)
back_described_word t ts y word.Scalar e f (m, n, h) = inr (inl (_, _, _, a_scalar ts m (is_keyword word.Scalar tt t ts e f) n.1 h.1))
back_described_word t ts y word.Object e f (m, n, o, a, i, h, r) = inr (inl (_, _, _, an_object_type ts m n o (is_keyword word.Object tt t ts e f) a.1 i.1 h.1 r.1))
back_described_word t ts y word.Interface e f (m, n, o, a, i, h, r) = inr (inl (_, _, _, an_interface ts m n o (is_keyword word.Interface tt t ts e f) a.1 i.1 h.1 r.1))
back_described_word t ts y word.Union e f (m, n, a, h, r) = inr (inl (_, _, _, a_union ts m n (is_keyword word.Union tt t ts e f) a.1 h.1 r.1))
back_described_word t ts y word.Enum e f (m, n, a, h, r) = inr (inl (_, _, _, an_enum_type ts m n (is_keyword word.Enum tt t ts e f) a.1 h.1 r.1))
back_described_word t ts y word.Input e f (m, n, a, h, r) = inr (inl (_, _, _, an_input_type ts m n (is_keyword word.Input tt t ts e f) a.1 h.1 r.1))
back_described_word t ts y word.Directive e f (m, n, o, p, a, b, c, d, l) =
    inr (inr (b.0, c.0, d.0, l.0, record { place = t.span; b = ts; c = m; d = n; e = o; f = p; keyword = is_keyword word.Directive tt t ts e f; at = a; is_name = b.1; is_arguments = c.1; is_again = d.1; is_locations = l.1 }))
back_described_word t ts y _ e f h = absurd h

pub back_described : (t : Lexeme) (ts y : Tokens) (k : Kind) → t.kind ≡ k → After (name_move k (described_move (word_of t.text))) t ts y → Means Described (t ∷ ts) y
back_described t ts y kind.Name e h = back_described_word t ts y (word_of t.text) e refl h
back_described t ts y _ e h = absurd h

-- the name and the directives of a scalar that is extended
pub forth_extended_scalar : (t : Lexeme) (ts y : Tokens) → Means ExtendedScalar (t ∷ ts) y → Next ExtendedScalar t ts y
forth_extended_scalar t ts y (n, d, ds, a, h, i) =
    let e = spelled h in
    at_kind t ts y ExtendedScalar kind.Name e.0 (subst (λ (x : Tokens). Means SomeDirectives x y) e.1 (d, ds, i))

pub back_extended_scalar : (t : Lexeme) (ts y : Tokens) (k : Kind) → t.kind ≡ k → After (name_move k (TakesThen SomeDirectives)) t ts y → Means ExtendedScalar (t ∷ ts) y
back_extended_scalar t ts y kind.Name e h = (_, h.0, h.1, ts, name_here e, h.2)
back_extended_scalar t ts y _ e h = absurd h

-- a type system extension behind `extend`
forth_extended : {n : NameOf Span} {ds : List (DirectiveOf Span)} {body : BodyOf Span} (t : Lexeme) (ts y : Tokens) → IsTypeBody n ds body (t ∷ ts) y → (ds ≢ []) ⊎ HasParts body → Next Extension t ts y
forth_extended {ds = []} t ts y (a_scalar a b k n h) (inl some) = absurd (some refl)
forth_extended {n = name} {ds = d ∷ ds} t ts y (a_scalar a b k n h) (inl some) =
    let e = keyword word.Scalar tt k in
    at_key t ts y Extension word.Scalar e.0 e.2 (name, d, ds, b, subst (λ (x : Tokens). IsName name x b) e.1 n, h)
forth_extended t ts y (a_scalar a b k n h) (inr some) = absurd some
forth_extended t ts y (an_object_type a b c d k n i h f) some =
    let e = keyword word.Object tt k in
    at_key t ts y Extension word.Object e.0 e.2 (b, subst (λ (x : Tokens). Means AnyName x b) e.1 (_, n), (_, _, _, c, d, i, h, f, some))
forth_extended t ts y (an_interface a b c d k n i h f) some =
    let e = keyword word.Interface tt k in
    at_key t ts y Extension word.Interface e.0 e.2 (b, subst (λ (x : Tokens). Means AnyName x b) e.1 (_, n), (_, _, _, c, d, i, h, f, some))
forth_extended t ts y (a_union a b c k n h m) some =
    let e = keyword word.Union tt k in
    at_key t ts y Extension word.Union e.0 e.2 (b, subst (λ (x : Tokens). Means AnyName x b) e.1 (_, n), (_, _, c, h, m, some))
forth_extended t ts y (an_enum_type a b c k n h v) some =
    let e = keyword word.Enum tt k in
    at_key t ts y Extension word.Enum e.0 e.2 (b, subst (λ (x : Tokens). Means AnyName x b) e.1 (_, n), (_, _, c, h, v, some))
forth_extended t ts y (an_input_type a b c k n h v) some =
    let e = keyword word.Input tt k in
    at_key t ts y Extension word.Input e.0 e.2 (b, subst (λ (x : Tokens). Means AnyName x b) e.1 (_, n), (_, _, c, h, v, some))

pub forth_extension : (t : Lexeme) (ts y : Tokens) → Means Extension (t ∷ ts) y → Next Extension t ts y
forth_extension t ts y (inl (ds, roots, a_schema a b k h r, some)) =
    let e = keyword word.Schema tt k in
    at_key t ts y Extension word.Schema e.0 e.2 (subst (λ (x : Tokens). Means (PartsWith Roots) x y) e.1 (_, _, b, h, r, some))
forth_extension t ts y (inr (n, ds, body, h, some)) = forth_extended t ts y h some

back_extension_word : (t : Lexeme) (ts y : Tokens) (w : Word) → t.kind ≡ kind.Name → word_of t.text ≡ w → After (extension_move w) t ts y → Means Extension (t ∷ ts) y
back_extension_word t ts y word.Schema e f (ds, roots, b, h, r, some) = inl (_, _, a_schema ts b (is_keyword word.Schema tt t ts e f) h r, some)
back_extension_word t ts y word.Scalar e f (n, d, ds, a, h, i) = inr (_, _, _, a_scalar ts a (is_keyword word.Scalar tt t ts e f) h i, inl (λ q. cc))
back_extension_word t ts y word.Object e f (m, n, (is, ds, fields, a, b, i, h, r, some)) = inr (_, _, _, an_object_type ts m a b (is_keyword word.Object tt t ts e f) n.1 i h r, some)
back_extension_word t ts y word.Interface e f (m, n, (is, ds, fields, a, b, i, h, r, some)) = inr (_, _, _, an_interface ts m a b (is_keyword word.Interface tt t ts e f) n.1 i h r, some)
back_extension_word t ts y word.Union e f (m, n, (ds, names, a, h, r, some)) = inr (_, _, _, a_union ts m a (is_keyword word.Union tt t ts e f) n.1 h r, some)
back_extension_word t ts y word.Enum e f (m, n, (ds, rows, a, h, r, some)) = inr (_, _, _, an_enum_type ts m a (is_keyword word.Enum tt t ts e f) n.1 h r, some)
back_extension_word t ts y word.Input e f (m, n, (ds, rows, a, h, r, some)) = inr (_, _, _, an_input_type ts m a (is_keyword word.Input tt t ts e f) n.1 h r, some)
back_extension_word t ts y _ e f h = absurd h

pub back_extension : (t : Lexeme) (ts y : Tokens) (k : Kind) → t.kind ≡ k → After (name_move k (extension_move (word_of t.text))) t ts y → Means Extension (t ∷ ts) y
back_extension t ts y kind.Name e h = back_extension_word t ts y (word_of t.text) e refl h
back_extension t ts y _ e h = absurd h

-- a definition
described_same : (t : Lexeme) (ts y : Tokens) (w : Word) → After (described_move w) t ts y → After (definition_word_move w) t ts y
described_same t ts y word.Query h = absurd h
described_same t ts y word.Mutation h = absurd h
described_same t ts y word.Subscription h = absurd h
described_same t ts y word.Fragment h = absurd h
described_same t ts y word.Extend h = absurd h
described_same t ts y _ h = h

described_at : (t : Lexeme) (ts y : Tokens) (k : Kind) (w : Word) → After (name_move k (described_move w)) t ts y → After (definition_move k w) t ts y
described_at t ts y kind.Name w h = described_same t ts y w h
described_at t ts y _ w h = absurd h

forth_with : {d : Option (NameOf Span)} (t : Lexeme) (ts a y : Tokens) → IsDescription d (t ∷ ts) a → Means Described a y → Next Definition t ts y
forth_with t ts a y (no_description m n) h = described_at t ts y t.kind (word_of t.text) (forth_described t ts y h)
forth_with t ts a y (a_description s) h = let e = spelled s in at_kind t ts y Definition kind.String e.0 (subst (λ (x : Tokens). Means Described x y) e.1 h)
forth_with t ts a y (a_block_description s) h = let e = spelled s in at_kind t ts y Definition kind.BlockString e.0 (subst (λ (x : Tokens). Means Described x y) e.1 h)

forth_extend : {place : Span} (t : Lexeme) (ts a y : Tokens) → IsKeyword (codes "extend") place (t ∷ ts) a → Means Extension a y → Next Definition t ts y
forth_extend t ts a y k h = let e = keyword word.Extend tt k in at_key t ts y Definition word.Extend e.0 e.2 (subst (λ (x : Tokens). Means Extension x y) e.1 h)

forth_type_system : {d : TypeSystemOf Span} (t : Lexeme) (ts y : Tokens) → IsTypeSystemDefinition d (t ∷ ts) y → Next Definition t ts y
forth_type_system t ts y (a_schema_definition a d s some) = forth_with t ts a y d (inl (_, _, s, some))
forth_type_system t ts y (a_type_definition a d h) = forth_with t ts a y d (inr (inl (_, _, _, h)))
forth_type_system t ts y (a_directive_definition a b c d e f h k p n i r l) =
    forth_with t ts a y h (inr (inr (_, _, _, _, record { place = _; b = b; c = c; d = d; e = e; f = f; keyword = k; at = p; is_name = n; is_arguments = i; is_again = r; is_locations = l })))
forth_type_system t ts y (a_schema_extension a k s some) = forth_extend t ts a y k (inl (_, _, s, some))
forth_type_system t ts y (a_type_extension a k h some) = forth_extend t ts a y k (inr (_, _, _, h, some))

forth_typed : {type : OperationKind} {n : Option (NameOf Span)} {vs : List (VariableOf Span)} {ds : List (DirectiveOf Span)} {ss : Sels Span} (t : Lexeme) (ts a b c d y : Tokens) → IsOperationType type (t ∷ ts) a → IsOptionalName n a b → IsVariableDefinitions vs b c → IsDirectives false ds c d → IsSelectionSet ss d y → Next Definition t ts y
forth_typed t ts a b c d y (a_query k) n v h s =
    let e = keyword word.Query tt k in
    at_key t ts y Definition word.Query e.0 e.2 (b, c, d, subst (λ (x : Tokens). Means OptionalName x b) e.1 (_, n), (_, v), (_, h), (_, s))
forth_typed t ts a b c d y (a_mutation k) n v h s =
    let e = keyword word.Mutation tt k in
    at_key t ts y Definition word.Mutation e.0 e.2 (b, c, d, subst (λ (x : Tokens). Means OptionalName x b) e.1 (_, n), (_, v), (_, h), (_, s))
forth_typed t ts a b c d y (a_subscription k) n v h s =
    let e = keyword word.Subscription tt k in
    at_key t ts y Definition word.Subscription e.0 e.2 (b, c, d, subst (λ (x : Tokens). Means OptionalName x b) e.1 (_, n), (_, v), (_, h), (_, s))

pub forth_definition : (t : Lexeme) (ts y : Tokens) → Means Definition (t ∷ ts) y → Next Definition t ts y
forth_definition t ts y (d, an_operation (bare (braces a p h))) =
    let e = punctuator p in
    at_kind t ts y Definition kind.BraceOpen e.0 (subst (λ (x : Tokens). Means FirstSelection x y) e.1 (_, _, _, h))
forth_definition t ts y (d, an_operation (typed a b c f o n v h s)) = forth_typed t ts a b c f y o n v h s
forth_definition t ts y (d, a_fragment (fragment_on a b c f first k n o h s)) =
    let e = keyword word.Fragment tt k in
    at_key t ts y Definition word.Fragment e.0 e.2 (b, o.behind, c, f, subst (λ (x : Tokens). Means FragmentName x b) e.1 (_, n), (_, o.begins), (_, o.names), (_, h), (_, s))
forth_definition t ts y (d, a_type_system_definition h) = forth_type_system t ts y h

back_with : {d : Option (NameOf Span)} (x a y : Tokens) → IsDescription d x a → Means Described a y → Means Definition x y
back_with x a y d (inl (ds, roots, s, some)) = (_, a_type_system_definition (a_schema_definition a d s some))
back_with x a y d (inr (inl (n, ds, body, h))) = (_, a_type_system_definition (a_type_definition a d h))
back_with x a y d (inr (inr (n, i, r, l, h))) =
    (_, a_type_system_definition (a_directive_definition a h.b h.c h.d h.e h.f d h.keyword h.at h.is_name h.is_arguments h.is_again h.is_locations))

back_extend : (t : Lexeme) (ts y : Tokens) → t.kind ≡ kind.Name → word_of t.text ≡ word.Extend → Means Extension ts y → Means Definition (t ∷ ts) y
back_extend t ts y e f (inl (ds, roots, s, some)) = (_, a_type_system_definition (a_schema_extension ts (is_keyword word.Extend tt t ts e f) s some))
back_extend t ts y e f (inr (n, ds, body, h, some)) = (_, a_type_system_definition (a_type_extension ts (is_keyword word.Extend tt t ts e f) h some))

back_typed : {type : OperationKind} (t : Lexeme) (ts y : Tokens) → IsOperationType type (t ∷ ts) ts → After (TakesThenFour OptionalName (OptionalRow Variables) (Directives false) Set) t ts y → Means Definition (t ∷ ts) y
back_typed t ts y o (m, n, p, a, b, c, s) = (_, an_operation (typed ts m n p o a.1 b.1 c.1 s.1))

back_definition_word : (t : Lexeme) (ts y : Tokens) (w : Word) → t.kind ≡ kind.Name → word_of t.text ≡ w → (After (described_move w) t ts y → Means Described (t ∷ ts) y) → After (definition_word_move w) t ts y → Means Definition (t ∷ ts) y
back_definition_word t ts y word.Query e f g h = back_typed t ts y (a_query (is_keyword word.Query tt t ts e f)) h
back_definition_word t ts y word.Mutation e f g h = back_typed t ts y (a_mutation (is_keyword word.Mutation tt t ts e f)) h
back_definition_word t ts y word.Subscription e f g h = back_typed t ts y (a_subscription (is_keyword word.Subscription tt t ts e f)) h
back_definition_word t ts y word.Fragment e f g (m, n, o, p, a, b, c, h, s) =
    (_, a_fragment (fragment_on ts m o p t.span (is_keyword word.Fragment tt t ts e f) a.1 (record { keyword = b.0; behind = n; begins = b.1; names = c.1 }) h.1 s.1))
back_definition_word t ts y word.Extend e f g h = back_extend t ts y e f h
back_definition_word t ts y _ e f g h = back_with (t ∷ ts) (t ∷ ts) y (no_description (λ q. cc) (λ q. cc)) (g h)

pub back_definition : (t : Lexeme) (ts y : Tokens) (k : Kind) → t.kind ≡ k → After (definition_move k (word_of t.text)) t ts y → Means Definition (t ∷ ts) y
back_definition t ts y kind.Name e h = back_definition_word t ts y (word_of t.text) e refl (back_described_word t ts y (word_of t.text) e refl) h
back_definition t ts y kind.BraceOpen e (g, below, ss, s) = (_, an_operation (bare (braces ts (here e) s)))
back_definition t ts y kind.String e h = back_with (t ∷ ts) ts y (a_description (spelled_here e)) h
back_definition t ts y kind.BlockString e h = back_with (t ∷ ts) ts y (a_block_description (spelled_here e)) h
back_definition t ts y _ e h = absurd h
