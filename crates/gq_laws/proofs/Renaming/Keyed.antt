-- Each argument in a document has its name (section 2.6).
use Rattle.std.proofs.Common.{◌≡◌, true, false, List, [], ◌∷◌, ◌++◌, Option, Some, refl}
use Rattle.std.specs.List.{AllByRecursion}
use Rattle.gq_text.specs.declared.place.Span.{Span}
use Rattle.gq_lex.specs.declared.token.Kind.{Kind}
use Rattle.gq_tree.specs.Forest.{labels}
use Rattle.gq_tree.specs.Plain.{NameOf, Val, DirectiveOf, VariableOf, Head, Sels, Def, field, spread, inline, operation, fragment, type_system}
use Rattle.gq_parse.specs.Grammar.{Tokens, ManyUntil, closed, another, OptionalMany, absent, enclosed, IsArgument, an_argument, IsDirectives, no_directive, a_directive, IsVariableDefinition, a_variable_definition, IsSelection, a_field, a_spread, an_inline, IsOptionalSet, no_set, a_set, IsSelectionSet, braces, IsSelections, set_closed, selection, IsOperationDefinition, bare, typed, IsFragmentDefinition, fragment_on}
use Rattle.gq_parse.specs.Documents.{IsDefinition, an_operation, a_fragment, a_type_system_definition, IsDocument, at_end, definition}

pub record HasKey (v : Val Span) : Type 0 where
  pub key : NameOf Span
  pub is : v.label.key ≡ Some key

abbrev pub KeyedArguments : List (Val Span) → Type 0
KeyedArguments vs = AllByRecursion HasKey vs

abbrev pub KeyedDirectives : List (DirectiveOf Span) → Type 0
KeyedDirectives ds = AllByRecursion (λ d. KeyedArguments d.arguments) ds

abbrev pub KeyedHead : Head Span → Type 0
KeyedHead (field alias name arguments directives span place) = KeyedArguments arguments × KeyedDirectives directives
KeyedHead (spread name directives place) = KeyedDirectives directives
KeyedHead (inline on directives span place) = KeyedDirectives directives

abbrev pub KeyedSelections : Sels Span → Type 0
KeyedSelections ss = AllByRecursion KeyedHead (labels ss)

abbrev pub KeyedVariables : List (VariableOf Span) → Type 0
KeyedVariables vs = AllByRecursion (λ v. KeyedDirectives v.directives) vs

abbrev pub KeyedDef : Def Span → Type 0
KeyedDef (operation kind name variables directives set span place) = KeyedVariables variables × KeyedDirectives directives × KeyedSelections set
KeyedDef (fragment name on directives set span place) = KeyedDirectives directives × KeyedSelections set
KeyedDef (type_system one) = Unit {0}

closed_all : {A : Type 0} {X : A → Tokens → Tokens → Type 0} (P : A → Type 0) {k : Kind} {xs : List A} {tokens rest : Tokens} → ((x : A) (t r : Tokens) → X x t r → P x) → ManyUntil X k xs tokens rest → AllByRecursion P xs
closed_all P each (closed m) = tt
closed_all P {tokens = tokens} each (another {x = x} a one others) = (each x tokens a one, closed_all P each others)

enclosed_all : {A : Type 0} {X : A → Tokens → Tokens → Type 0} (P : A → Type 0) {k j : Kind} {xs : List A} {tokens rest : Tokens} → ((x : A) (t r : Tokens) → X x t r → P x) → OptionalMany X k j xs tokens rest → AllByRecursion P xs
enclosed_all P each (absent free) = tt
enclosed_all P each (enclosed a m c) = closed_all P each c

false_argument : (v : Val Span) (tokens rest : Tokens) → IsArgument false v tokens rest → HasKey v
false_argument v tokens rest (an_argument {name = name} a b n m one) = record { key = name; is = refl }

true_argument : (v : Val Span) (tokens rest : Tokens) → IsArgument true v tokens rest → HasKey v
true_argument v tokens rest (an_argument {name = name} a b n m one) = record { key = name; is = refl }

false_directives : {ds : List (DirectiveOf Span)} {tokens rest : Tokens} → IsDirectives false ds tokens rest → KeyedDirectives ds
false_directives (no_directive free) = tt
false_directives (a_directive a b c m n args others) = (enclosed_all HasKey false_argument args, false_directives others)

true_directives : {ds : List (DirectiveOf Span)} {tokens rest : Tokens} → IsDirectives true ds tokens rest → KeyedDirectives ds
true_directives (no_directive free) = tt
true_directives (a_directive a b c m n args others) = (enclosed_all HasKey true_argument args, true_directives others)

variable_keyed : (v : VariableOf Span) (tokens rest : Tokens) → IsVariableDefinition v tokens rest → KeyedDirectives v.directives
variable_keyed v tokens rest (a_variable_definition a b c d e m n k type value others) = true_directives others

all_append : {A : Type 0} (P : A → Type 0) (xs ys : List A) → AllByRecursion P xs → AllByRecursion P ys → AllByRecursion P (xs ++ ys)
all_append P [] ys h g = g
all_append P (x ∷ xs) ys h g = (h.0, all_append P xs ys h.1 g)

mutual
  selection_keyed : {h : Head Span} {below : Sels Span} {tokens rest : Tokens} → IsSelection h below tokens rest → KeyedHead h × KeyedSelections below
  selection_keyed (a_field a b c name args dirs set) = ((enclosed_all HasKey false_argument args, false_directives dirs), optional_keyed set)
  selection_keyed (a_spread a b m name dirs) = (false_directives dirs, tt)
  selection_keyed (an_inline a b c m on dirs set) = (false_directives dirs, set_keyed set)

  optional_keyed : {o : Option Span} {ss : Sels Span} {tokens rest : Tokens} → IsOptionalSet o ss tokens rest → KeyedSelections ss
  optional_keyed (no_set free) = tt
  optional_keyed (a_set set) = set_keyed set

  set_keyed : {ss : Sels Span} {tokens rest : Tokens} → IsSelectionSet ss tokens rest → KeyedSelections ss
  set_keyed (braces a m all) = selections_keyed all

  selections_keyed : {ss : Sels Span} {tokens rest : Tokens} → IsSelections ss tokens rest → KeyedSelections ss
  selections_keyed (set_closed m) = tt
  selections_keyed (selection {h = h} {below = below} {ss = ss} a one others) =
      let w = selection_keyed one in
      (w.0, all_append KeyedHead (labels below) (labels ss) w.1 (selections_keyed others))

operation_keyed : {d : Def Span} {tokens rest : Tokens} → IsOperationDefinition d tokens rest → KeyedDef d
operation_keyed (bare set) = (tt, tt, set_keyed set)
operation_keyed (typed {variables = vs} a b c d word n vars dirs set) = (enclosed_all (λ v. KeyedDirectives v.directives) variable_keyed vars, false_directives dirs, set_keyed set)

fragment_keyed : {d : Def Span} {tokens rest : Tokens} → IsFragmentDefinition d tokens rest → KeyedDef d
fragment_keyed (fragment_on a b c d first word n cond dirs set) = (false_directives dirs, set_keyed set)

definition_keyed : {d : Def Span} {tokens rest : Tokens} → IsDefinition d tokens rest → KeyedDef d
definition_keyed (an_operation h) = operation_keyed h
definition_keyed (a_fragment h) = fragment_keyed h
definition_keyed (a_type_system_definition h) = tt

pub document_keyed : {ds : List (Def Span)} {tokens : Tokens} → IsDocument ds tokens → AllByRecursion KeyedDef ds
document_keyed at_end = tt
document_keyed (definition a one others) = (definition_keyed one, document_keyed others)
