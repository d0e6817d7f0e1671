-- The definitions that the descent makes are those that stand there, and where a part of one is missing none stands.
use Rattle.std.proofs.Common.{◌≡◌, ◌≢◌, ◌<◌, ◌≤◌, ℕ, List, [], length, drop, length-drop, map, refl, ap, sym, subst, ◌∙◌, Option, None, arith, codes, false, inl, inr}
use Rattle.std.proofs.lemmas.List.{drop_all, length-map}
use Rattle.gq_text.specs.declared.place.Span.{Span}
use Rattle.gq_lex.specs.declared.token.Token.{Token}
use Rattle.gq_lex.specs.Tokens.{lexeme_of}
use Rattle.gq_lex.specs.declared.token.Kind.TheVariants as kind
use Rattle.gq_tree.specs.declared.tree.OperationKind.{OperationKind}
use Rattle.gq_tree.specs.declared.tree.OperationKind.TheVariants.{Query}
use Rattle.gq_tree.specs.Plain.{NameOf, VariableOf, DirectiveOf, Sels, Def, operation, fragment}
use Rattle.gq_parse.specs.Helping.From.{from}
use Rattle.gq_parse.specs.Grammar.{Tokens, covered, IsKeyword, IsFragmentName, IsTypeCondition, IsOptionalName, IsVariableDefinitions, IsDirectives, IsSelectionSet, IsOperationType, IsOperationDefinition, bare, typed, IsFragmentDefinition, fragment_on, IsPunctuator, NotNext, braces}
use Rattle.gq_parse.specs.TypeSystem.{IsTypeSystemDefinition}
use Rattle.gq_parse.specs.Documents.{IsDefinition, an_operation, a_fragment, a_type_system_definition, IsDocument, at_end, definition}
use Rattle.gq_parse.specs.Helping.Parts.{IsTypeSystem, of_type_system, IsOperationOrTypeSystem}
use Rattle.gq_parse.specs.Helping.Phrases.{Lacks}
use Rattle.gq_parse.proofs.Unique.{not_next, punctuator_begins, same_spelled, same_fragment_name, same_type_condition, same_optional_name}
use Rattle.gq_parse.proofs.UniqueValues.{same_variable_definitions, same_directives}
use Rattle.gq_parse.proofs.UniqueOperations.{type_or_set, same_operation_type, fragment_or_operation}
use Rattle.gq_parse.proofs.UniqueDocuments.{same_definition, definition_or_end, fragment_or_type_system, brace_or_type_system, type_or_type_system}
use Rattle.gq_parse.proofs.Fronts.{Front, no_more, one_more}

-- an operation without its type
pub bare_of : {variables : List (VariableOf Span)} {directives : List (DirectiveOf Span)} {ss : Sels Span} {place : Span} {tokens rest : Tokens} → variables ≡ [] → directives ≡ [] → IsSelectionSet ss tokens rest → place ≡ covered tokens rest →
    IsOperationDefinition (operation Query None variables directives ss place place) tokens rest
bare_of {variables} {directives} {ss} {place} {tokens} {rest} v d s e =
    let O : List (VariableOf Span) → List (DirectiveOf Span) → Span → Def Span = λ vs ds p. operation Query None vs ds ss p p in
    let same : O variables directives place ≡ O [] [] (covered tokens rest) = ap (λ (vs : List (VariableOf Span)). O vs directives place) v ∙ ap (λ (ds : List (DirectiveOf Span)). O [] ds place) d ∙ ap (O [] []) e in
    subst (λ (x : Def Span). IsOperationDefinition x tokens rest) (sym same) (bare s)

pub no_bare_set : {tokens : Tokens} → Lacks IsOperationType tokens → Lacks IsSelectionSet tokens → Lacks IsOperationDefinition tokens
no_bare_set no_type lacks x rest (bare s) = lacks _ _ s
no_bare_set no_type lacks x rest (typed a b c d o n v r s) = no_type _ _ o

-- an operation behind its type
pub typed_of : {type : OperationKind} {name : Option (NameOf Span)} {variables : List (VariableOf Span)} {directives : List (DirectiveOf Span)} {ss : Sels Span} {braces place : Span} {tokens a b c d rest : Tokens} → IsOperationType type tokens a → IsOptionalName name a b → IsVariableDefinitions variables b c → IsDirectives false directives c d → IsSelectionSet ss d rest → braces ≡ covered d rest → place ≡ covered tokens rest →
    IsOperationDefinition (operation type name variables directives ss braces place) tokens rest
typed_of {type} {name} {variables} {directives} {ss} {braces} {place} {tokens} {a} {b} {c} {d} {rest} o n v r s f e =
    let O : Span → Span → Def Span = λ q p. operation type name variables directives ss q p in
    let same : O braces place ≡ O (covered d rest) (covered tokens rest) = ap (λ (q : Span). O q place) f ∙ ap (O (covered d rest)) e in
    subst (λ (x : Def Span). IsOperationDefinition x tokens rest) (sym same) (typed a b c d o n v r s)

pub no_typed_name : {type : OperationKind} {tokens a : Tokens} → IsOperationType type tokens a → Lacks IsOptionalName a → Lacks IsOperationDefinition tokens
no_typed_name o lacks x rest (bare s2) = type_or_set o refl s2
no_typed_name o lacks x rest (typed {name = z} a2 b2 c2 d2 o2 n2 v2 r2 s2) =
    lacks z b2 (subst (λ (t : Tokens). IsOptionalName z t b2) (sym (same_operation_type o refl o2).1) n2)

pub no_typed_variables : {type : OperationKind} {name : Option (NameOf Span)} {tokens a b : Tokens} → IsOperationType type tokens a → IsOptionalName name a b → Lacks IsVariableDefinitions b → Lacks IsOperationDefinition tokens
no_typed_variables o n lacks x rest (bare s2) = type_or_set o refl s2
no_typed_variables o n lacks x rest (typed {variables = z} a2 b2 c2 d2 o2 n2 v2 r2 s2) =
    let e = same_optional_name n (same_operation_type o refl o2).1 n2 in
    lacks z c2 (subst (λ (t : Tokens). IsVariableDefinitions z t c2) (sym e.1) v2)

pub no_typed_directives : {type : OperationKind} {name : Option (NameOf Span)} {variables : List (VariableOf Span)} {tokens a b c : Tokens} → IsOperationType type tokens a → IsOptionalName name a b → IsVariableDefinitions variables b c → Lacks (IsDirectives false) c → Lacks IsOperationDefinition tokens
no_typed_directives o n v lacks x rest (bare s2) = type_or_set o refl s2
no_typed_directives o n v lacks x rest (typed {directives = z} a2 b2 c2 d2 o2 n2 v2 r2 s2) =
    let e = same_optional_name n (same_operation_type o refl o2).1 n2 in
    let f = same_variable_definitions v e.1 v2 in
    lacks z d2 (subst (λ (t : Tokens). IsDirectives false z t d2) (sym f.1) r2)

pub no_typed_set : {type : OperationKind} {name : Option (NameOf Span)} {variables : List (VariableOf Span)} {directives : List (DirectiveOf Span)} {tokens a b c d : Tokens} → IsOperationType type tokens a → IsOptionalName name a b → IsVariableDefinitions variables b c → IsDirectives false directives c d → Lacks IsSelectionSet d → Lacks IsOperationDefinition tokens
no_typed_set o n v r lacks x rest (bare s2) = type_or_set o refl s2
no_typed_set o n v r lacks x rest (typed {ss = z} a2 b2 c2 d2 o2 n2 v2 r2 s2) =
    let e = same_optional_name n (same_operation_type o refl o2).1 n2 in
    let f = same_variable_definitions v e.1 v2 in
    let g = same_directives r f.1 r2 in
    lacks z rest (subst (λ (t : Tokens). IsSelectionSet z t rest) (sym g.1) s2)

-- a fragment definition
pub fragment_of : {first : Span} {name on : NameOf Span} {directives : List (DirectiveOf Span)} {ss : Sels Span} {braces place : Span} {tokens a b c d rest : Tokens} → IsKeyword (codes "fragment") first tokens a → IsFragmentName name a b → IsTypeCondition on b c → IsDirectives false directives c d → IsSelectionSet ss d rest → braces ≡ covered d rest → place ≡ covered tokens rest →
    IsFragmentDefinition (fragment name on directives ss braces place) tokens rest
fragment_of {first} {name} {on} {directives} {ss} {braces} {place} {tokens} {a} {b} {c} {d} {rest} k n t r s f e =
    let F : Span → Span → Def Span = λ q p. fragment name on directives ss q p in
    let same : F braces place ≡ F (covered d rest) (covered tokens rest) = ap (λ (q : Span). F q place) f ∙ ap (F (covered d rest)) e in
    subst (λ (x : Def Span). IsFragmentDefinition x tokens rest) (sym same) (fragment_on a b c d first k n t r s)

pub no_fragment_keyword : {tokens : Tokens} → Lacks (IsKeyword (codes "fragment")) tokens → Lacks IsFragmentDefinition tokens
no_fragment_keyword lacks x rest (fragment_on a2 b2 c2 d2 first2 k2 n2 t2 r2 s2) = lacks first2 a2 k2

pub no_fragment_name : {first : Span} {tokens a : Tokens} → IsKeyword (codes "fragment") first tokens a → Lacks IsFragmentName a → Lacks IsFragmentDefinition tokens
no_fragment_name k lacks x rest (fragment_on {name = z} a2 b2 c2 d2 first2 k2 n2 t2 r2 s2) =
    lacks z b2 (subst (λ (t : Tokens). IsFragmentName z t b2) (sym (same_spelled k refl k2).2) n2)

pub no_fragment_condition : {first : Span} {name : NameOf Span} {tokens a b : Tokens} → IsKeyword (codes "fragment") first tokens a → IsFragmentName name a b → Lacks IsTypeCondition b → Lacks IsFragmentDefinition tokens
no_fragment_condition k n lacks x rest (fragment_on {on = z} a2 b2 c2 d2 first2 k2 n2 t2 r2 s2) =
    let e = same_fragment_name n (same_spelled k refl k2).2 n2 in
    lacks z c2 (subst (λ (t : Tokens). IsTypeCondition z t c2) (sym e.1) t2)

pub no_fragment_directives : {first : Span} {name on : NameOf Span} {tokens a b c : Tokens} → IsKeyword (codes "fragment") first tokens a → IsFragmentName name a b → IsTypeCondition on b c → Lacks (IsDirectives false) c → Lacks IsFragmentDefinition tokens
no_fragment_directives k n t lacks x rest (fragment_on {directives = z} a2 b2 c2 d2 first2 k2 n2 t2 r2 s2) =
    let e = same_fragment_name n (same_spelled k refl k2).2 n2 in
    let f = same_type_condition t e.1 t2 in
    lacks z d2 (subst (λ (t : Tokens). IsDirectives false z t d2) (sym f.1) r2)

pub no_fragment_set : {first : Span} {name on : NameOf Span} {directives : List (DirectiveOf Span)} {tokens a b c d : Tokens} → IsKeyword (codes "fragment") first tokens a → IsFragmentName name a b → IsTypeCondition on b c → IsDirectives false directives c d → Lacks IsSelectionSet d → Lacks IsFragmentDefinition tokens
no_fragment_set k n t r lacks x rest (fragment_on {ss = z} a2 b2 c2 d2 first2 k2 n2 t2 r2 s2) =
    let e = same_fragment_name n (same_spelled k refl k2).2 n2 in
    let f = same_type_condition t e.1 t2 in
    let g = same_directives r f.1 r2 in
    lacks z rest (subst (λ (t : Tokens). IsSelectionSet z t rest) (sym g.1) s2)

-- a definition with the keyword of a fragment, and one without
pub no_fragment : {first : Span} {tokens a : Tokens} → IsKeyword (codes "fragment") first tokens a → Lacks IsFragmentDefinition tokens → Lacks IsDefinition tokens
no_fragment k lacks x rest (an_operation o) = fragment_or_operation k refl o
no_fragment k lacks x rest (a_fragment f) = lacks _ _ f
no_fragment k lacks x rest (a_type_system_definition t) = fragment_or_type_system k refl t

pub not_fragment : {tokens : Tokens} → Lacks (IsKeyword (codes "fragment")) tokens → Lacks IsOperationOrTypeSystem tokens → Lacks IsDefinition tokens
not_fragment no_keyword lacks x rest (an_operation o) = lacks x rest (inl o)
not_fragment no_keyword lacks x rest (a_fragment f) = no_fragment_keyword no_keyword x rest f
not_fragment no_keyword lacks x rest (a_type_system_definition t) = lacks x rest (inr (of_type_system t))

pub other_definition : {d : Def Span} {tokens rest : Tokens} → IsOperationOrTypeSystem d tokens rest → IsDefinition d tokens rest
other_definition (inl o) = an_operation o
other_definition (inr (of_type_system t)) = a_type_system_definition t

-- an operation, or a definition of the type system
pub no_operation : {tokens : Tokens} → Lacks IsTypeSystem tokens → Lacks IsOperationDefinition tokens → Lacks IsOperationOrTypeSystem tokens
no_operation no_type_system lacks x rest (inl o) = lacks x rest o
no_operation no_type_system lacks x rest (inr t) = no_type_system x rest t

pub no_type_system : {tokens : Tokens} → Lacks IsTypeSystemDefinition tokens → Lacks IsTypeSystem tokens
no_type_system lacks _ rest (of_type_system {d = d} t) = lacks d rest t

pub brace_no_type_system : {tokens a : Tokens} → IsPunctuator kind.BraceOpen tokens a → Lacks IsTypeSystem tokens
brace_no_type_system m _ rest (of_type_system t) = brace_or_type_system t (punctuator_begins m)

pub type_no_type_system : {k : OperationKind} {tokens a : Tokens} → IsOperationType k tokens a → Lacks IsTypeSystem tokens
type_no_type_system o _ rest (of_type_system t) = type_or_type_system o refl t

pub begins_no_operation : {tokens : Tokens} → NotNext kind.BraceOpen tokens → Lacks IsOperationType tokens → Lacks IsOperationDefinition tokens
begins_no_operation free no_type x rest (bare (braces a m s)) = not_next _ _ free (punctuator_begins m)
begins_no_operation free no_type x rest (typed {type = k} a b c d o n v r s) = no_type k a o

-- definitions up to the end
pub definitions_end : {ds : List (Def Span)} {tokens rest : Tokens} → Front IsDefinition ds tokens rest → rest ≡ [] → IsDocument ds tokens
definitions_end no_more end = subst (IsDocument []) (sym end) at_end
definitions_end (one_more b first others) end = definition b first (definitions_end others end)

-- behind definitions stands a token, and no definition
pub behind_definitions : {ds zs : List (Def Span)} {tokens other a : Tokens} → Front IsDefinition ds tokens a → a ≢ [] → Lacks IsDefinition a → tokens ≡ other → IsDocument zs other → ⊥
behind_definitions no_more there lacks same at_end = there same
behind_definitions no_more there lacks same (definition {d = z} a2 d2 ds2) = lacks z a2 (subst (λ (x : Tokens). IsDefinition z x a2) (sym same) d2)
behind_definitions (one_more b first others) there lacks same at_end = definition_or_end first same
behind_definitions (one_more b first others) there lacks same (definition a2 d2 ds2) = behind_definitions others there lacks (same_definition first same d2).1 ds2

-- the tokens behind the last one, and before it
pub from_end : (tokens : List Token) (at : ℕ) → length tokens ≤ at → from tokens at ≡ []
from_end tokens at h = ap (map lexeme_of) (drop_all at tokens h)

pub from_there : (tokens : List Token) (at : ℕ) → at < length tokens → from tokens at ≢ []
from_there tokens at h end = absurd (omega (arith, h, ap length end, length-map (drop at tokens) lexeme_of, length-drop at tokens))
