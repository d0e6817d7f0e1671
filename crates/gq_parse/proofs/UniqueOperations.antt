-- Tokens are one operation or one fragment at most.
use Rattle.std.proofs.Common.{length, arith, ◌≡◌, ◌≢◌, ℕ, List, refl, ap, sym, codes}
use Rattle.gq_text.specs.declared.place.Span.{Span}
use Rattle.gq_lex.specs.declared.token.Kind.TheVariants as kind
use Rattle.gq_tree.specs.declared.tree.OperationKind.{OperationKind}
use Rattle.gq_tree.specs.declared.tree.OperationKind.TheVariants.{Query, Mutation, Subscription}
use Rattle.gq_tree.specs.Plain.{Sels, Def}
use Rattle.gq_parse.specs.Grammar.{Tokens, IsKeyword, IsSelectionSet, braces, IsOperationType, a_query, a_mutation, a_subscription, IsOperationDefinition, bare, typed, IsFragmentDefinition, fragment_on}
use Rattle.gq_parse.specs.Helping.Phrases.{Begins}
use Rattle.gq_parse.proofs.Unique.{first_letter, one_kind, moved, punctuator_begins, spelled_begins, same_spelled, same_fragment_name, same_type_condition, same_optional_name}
use Rattle.gq_parse.proofs.UniqueValues.{same_directives, same_variable_definitions}
use Rattle.gq_parse.proofs.UniqueSelections.{same_selection_set}

-- the keyword of an operation's type
abbrev pub type_word : OperationKind → List ℕ
type_word Query = codes "query"
type_word Mutation = codes "mutation"
type_word Subscription = codes "subscription"

pub record IsTypeWord (kind : OperationKind) (tokens rest : Tokens) : Type 0 where
  pub place : Span
  pub keyword : IsKeyword (type_word kind) place tokens rest

pub type_keyword : {kind : OperationKind} {tokens rest : Tokens} → IsOperationType kind tokens rest → IsTypeWord kind tokens rest
type_keyword (a_query {place = place} k) = record { place = place; keyword = k }
type_keyword (a_mutation {place = place} k) = record { place = place; keyword = k }
type_keyword (a_subscription {place = place} k) = record { place = place; keyword = k }

-- these words differ in their length or in their first letter
query_apart_mutation : codes "query" ≢ codes "mutation"
query_apart_mutation h = let e : 5 ≡ 8 = ap length h in absurd (omega (arith, e))

query_apart_subscription : codes "query" ≢ codes "subscription"
query_apart_subscription h = let e : 5 ≡ 12 = ap length h in absurd (omega (arith, e))

mutation_apart_subscription : codes "mutation" ≢ codes "subscription"
mutation_apart_subscription h = let e : 8 ≡ 12 = ap length h in absurd (omega (arith, e))

type_word_apart : (kind : OperationKind) → type_word kind ≢ codes "fragment"
type_word_apart Query h = let e : 5 ≡ 8 = ap length h in absurd (omega (arith, e))
type_word_apart Mutation h = let e : 109 ≡ 102 = ap first_letter h in absurd (omega (arith, e))
type_word_apart Subscription h = let e : 12 ≡ 8 = ap length h in absurd (omega (arith, e))

one_type : (kind other : OperationKind) → type_word kind ≡ type_word other → kind ≡ other
one_type Query Query h = refl
one_type Query Mutation h = absurd (query_apart_mutation h)
one_type Query Subscription h = absurd (query_apart_subscription h)
one_type Mutation Query h = absurd (query_apart_mutation (sym h))
one_type Mutation Mutation h = refl
one_type Mutation Subscription h = absurd (mutation_apart_subscription h)
one_type Subscription Query h = absurd (query_apart_subscription (sym h))
one_type Subscription Mutation h = absurd (mutation_apart_subscription (sym h))
one_type Subscription Subscription h = refl

pub same_operation_type : {k j : OperationKind} {tokens other a b : Tokens} → IsOperationType k tokens a → tokens ≡ other → IsOperationType j other b → (k ≡ j) × (a ≡ b)
same_operation_type {k} {j} o same o2 =
    let e = same_spelled (type_keyword o).keyword same (type_keyword o2).keyword in
    (one_type k j e.0, e.2)

-- a Name begins no selection set
pub name_or_set : {ss : Sels Span} {tokens b : Tokens} → Begins kind.Name tokens → IsSelectionSet ss tokens b → ⊥
name_or_set begins (braces a m body) = let h = one_kind _ _ _ begins (punctuator_begins m) in cc

pub type_or_set : {k : OperationKind} {ss : Sels Span} {tokens other a b : Tokens} → IsOperationType k tokens a → tokens ≡ other → IsSelectionSet ss other b → ⊥
type_or_set o same s = name_or_set (moved _ same (spelled_begins (type_keyword o).keyword)) s

-- the keyword of a fragment begins no operation
pub fragment_or_operation : {k : Span} {d : Def Span} {tokens other a b : Tokens} → IsKeyword (codes "fragment") k tokens a → tokens ≡ other → IsOperationDefinition d other b → ⊥
fragment_or_operation k same (bare s) = name_or_set (moved _ same (spelled_begins k)) s
fragment_or_operation k same (typed {type = type} a b c d o n v r s) = type_word_apart type (sym (same_spelled k same (type_keyword o).keyword).0)

pub same_operation : {d z : Def Span} {tokens other a b : Tokens} → IsOperationDefinition d tokens a → tokens ≡ other → IsOperationDefinition z other b → (d ≡ z) × (a ≡ b)
same_operation (bare s) same (bare s2) =
    let r = same_selection_set s same s2 in
    let r0 = r.0 in
    let r1 = r.1 in
    (cc, r1)
same_operation (bare s) same (typed a2 b2 c2 d2 o2 n2 v2 r2 s2) = absurd (type_or_set o2 (sym same) s)
same_operation (typed a b c d o n v r s) same (bare s2) = absurd (type_or_set o same s2)
same_operation (typed a b c d o n v r s) same (typed a2 b2 c2 d2 o2 n2 v2 r2 s2) =
    let e = same_operation_type o same o2 in
    let f = same_optional_name n e.1 n2 in
    let g = same_variable_definitions v f.1 v2 in
    let h = same_directives r g.1 r2 in
    let i = same_selection_set s h.1 s2 in
    let e0 = e.0 in
    let f0 = f.0 in
    let g0 = g.0 in
    let h0 = h.0 in
    let h1 = h.1 in
    let i0 = i.0 in
    let i1 = i.1 in
    (cc, i1)

pub same_fragment : {d z : Def Span} {tokens other a b : Tokens} → IsFragmentDefinition d tokens a → tokens ≡ other → IsFragmentDefinition z other b → (d ≡ z) × (a ≡ b)
same_fragment (fragment_on a b c d first k n t r s) same (fragment_on a2 b2 c2 d2 first2 k2 n2 t2 r2 s2) =
    let e = same_spelled k same k2 in
    let f = same_fragment_name n e.2 n2 in
    let g = same_type_condition t f.1 t2 in
    let h = same_directives r g.1 r2 in
    let i = same_selection_set s h.1 s2 in
    let f0 = f.0 in
    let g0 = g.0 in
    let h0 = h.0 in
    let h1 = h.1 in
    let i0 = i.0 in
    let i1 = i.1 in
    (cc, i1)
