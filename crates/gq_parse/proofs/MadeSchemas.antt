-- The schemas that the descent makes are those that stand there, and where a part of one is missing none stands.
use Rattle.std.proofs.Common.{true, List, refl, sym, subst, codes}
use Rattle.gq_text.specs.declared.place.Span.{Span}
use Rattle.gq_lex.specs.declared.token.Kind.TheVariants as kind
use Rattle.gq_tree.specs.declared.tree.OperationKind.{OperationKind}
use Rattle.gq_tree.specs.Plain.{NameOf, DirectiveOf, RootOf}
use Rattle.gq_parse.specs.Grammar.{Tokens, IsPunctuator, IsName, IsKeyword, NotNext, OptionalMany, IsDirectives, IsOperationType, a_query, a_mutation, a_subscription}
use Rattle.gq_parse.specs.TypeSystem.{IsRoot, a_root, IsSchema, a_schema}
use Rattle.gq_parse.specs.Helping.Phrases.{Lacks}
use Rattle.gq_parse.specs.Helping.Parts.{LacksSchema}
use Rattle.gq_parse.proofs.Unique.{not_next, moved, punctuator_begins, spelled_begins, same_punctuator, same_spelled}
use Rattle.gq_parse.proofs.UniqueValues.{same_directives}
use Rattle.gq_parse.proofs.UniqueOperations.{same_operation_type}

pub root_of : {t : OperationKind} {n : NameOf Span} {tokens a b rest : Tokens} → IsOperationType t tokens a → IsPunctuator kind.Colon a b → IsName n b rest → IsRoot (record { kind = t; name = n }) tokens rest
root_of {a = a} {b = b} t m n = a_root a b t m n

pub no_root_type : {tokens : Tokens} → Lacks IsOperationType tokens → Lacks IsRoot tokens
no_root_type lacks x rest (a_root {type = t} a b o m n) = lacks t a o

pub no_root_colon : {t : OperationKind} {tokens a : Tokens} → IsOperationType t tokens a → NotNext kind.Colon a → Lacks IsRoot tokens
no_root_colon t free x rest (a_root a b o m n) = not_next _ _ free (moved _ (sym (same_operation_type t refl o).1) (punctuator_begins m))

pub no_root_name : {t : OperationKind} {tokens a b : Tokens} → IsOperationType t tokens a → IsPunctuator kind.Colon a b → NotNext kind.Name b → Lacks IsRoot tokens
no_root_name t k free x rest (a_root a b o m n) = not_next _ _ free (moved _ (sym (same_punctuator k (same_operation_type t refl o).1 m)) (spelled_begins n))

pub schema_of : {place : Span} {ds : List (DirectiveOf Span)} {rs : List (RootOf Span)} {tokens a b rest : Tokens} → IsKeyword (codes "schema") place tokens a → IsDirectives true ds a b → OptionalMany IsRoot kind.BraceOpen kind.BraceClose rs b rest → IsSchema ds rs tokens rest
schema_of {a = a} {b = b} k ds rs = a_schema a b k ds rs

pub no_schema_word : {tokens : Tokens} → Lacks (IsKeyword (codes "schema")) tokens → LacksSchema tokens
no_schema_word lacks ds rs rest (a_schema {place = p} a b k d r) = lacks p a k

pub no_schema_directives : {place : Span} {tokens a : Tokens} → IsKeyword (codes "schema") place tokens a → Lacks (IsDirectives true) a → LacksSchema tokens
no_schema_directives k lacks ds rs rest (a_schema a2 b2 k2 d2 r2) = lacks ds b2 (subst (λ (t : Tokens). IsDirectives true ds t b2) (sym (same_spelled k refl k2).2) d2)

pub no_schema_roots : {place : Span} {xs : List (DirectiveOf Span)} {tokens a b : Tokens} → IsKeyword (codes "schema") place tokens a → IsDirectives true xs a b → Lacks (OptionalMany IsRoot kind.BraceOpen kind.BraceClose) b → LacksSchema tokens
no_schema_roots k d lacks ds rs rest (a_schema a2 b2 k2 d2 r2) =
    lacks rs rest (subst (λ (t : Tokens). OptionalMany IsRoot kind.BraceOpen kind.BraceClose rs t rest) (sym (same_directives d (same_spelled k refl k2).2 d2).1) r2)

-- the type of an operation
pub no_operation_type : {tokens : Tokens} → Lacks (IsKeyword (codes "query")) tokens → Lacks (IsKeyword (codes "mutation")) tokens → Lacks (IsKeyword (codes "subscription")) tokens → Lacks IsOperationType tokens
no_operation_type no_query no_mutation no_subscription kind rest (a_query {place = place} k) = no_query place rest k
no_operation_type no_query no_mutation no_subscription kind rest (a_mutation {place = place} k) = no_mutation place rest k
no_operation_type no_query no_mutation no_subscription kind rest (a_subscription {place = place} k) = no_subscription place rest k
