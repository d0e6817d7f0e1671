-- The directives of a variable's definition hold no variable, since they are constant (section 2.10).
use Rattle.std.proofs.Common.{◌≡◌, ℕ, Bool, true, false, List, [], ◌∷◌, ◌++◌, Option, Some, None, refl, sym, ap, ◌∙◌, append-nil}
use Rattle.std.specs.List.{flat_map, AllByRecursion}
use Rattle.std.proofs.lemmas.Grind.{flat_map-append}
use Rattle.gq_text.specs.declared.place.Span.{Span}
use Rattle.gq_lex.specs.declared.token.Kind.{Kind}
use Rattle.gq_tree.specs.Forest.{none, more, labels, labels_in}
use Rattle.gq_tree.specs.Plain.{NameOf, Says, Part, Val, Vals, DirectiveOf, VariableOf, Def, variable, int, float, string, boolean, null, enum, list, object, under, unnamed, operation, fragment, type_system}
use Rattle.gq_parse.specs.Grammar.{Tokens, ManyUntil, closed, another, OptionalMany, absent, enclosed, IsValue, a_variable, an_int, a_float, a_string, a_block_string, is_true, is_false, is_null, an_enum, a_list, an_object, IsValues, list_closed, an_item, IsObjectFields, object_closed, an_object_field, IsArgument, an_argument, IsDirectives, no_directive, a_directive, IsVariableDefinition, a_variable_definition, IsOperationDefinition, bare, typed, IsFragmentDefinition, fragment_on}
use Rattle.gq_parse.specs.Documents.{IsDefinition, an_operation, a_fragment, a_type_system_definition, IsDocument, at_end, definition}
use Rattle.gq_index.specs.VariableNames.{says_variable, part_variable, value_variables, argument_variables, directive_variables}

-- what holds of each phrase of a kind
closed_all : {A : Type 0} {X : A → Tokens → Tokens → Type 0} (P : A → Type 0) {k : Kind} {xs : List A} {tokens rest : Tokens} → ((x : A) (t r : Tokens) → X x t r → P x) → ManyUntil X k xs tokens rest → AllByRecursion P xs
closed_all P each (closed m) = tt
closed_all P {tokens = tokens} each (another {x = x} a one others) = (each x tokens a one, closed_all P each others)

enclosed_all : {A : Type 0} {X : A → Tokens → Tokens → Type 0} (P : A → Type 0) {k j : Kind} {xs : List A} {tokens rest : Tokens} → ((x : A) (t r : Tokens) → X x t r → P x) → OptionalMany X k j xs tokens rest → AllByRecursion P xs
enclosed_all P each (absent free) = tt
enclosed_all P each (enclosed a m c) = closed_all P each c

-- where each gives nothing, all do
nothing_of : {A B : Type 0} (f : A → List B) (xs : List A) → AllByRecursion (λ x. f x ≡ []) xs → flat_map f xs ≡ []
nothing_of f [] h = refl
nothing_of {A} {B} f (x ∷ xs) h = ap (λ (l : List B). l ++ flat_map f xs) h.0 ∙ nothing_of f xs h.1

abbrev below_variables : Vals Span → List (NameOf Span)
below_variables vs = flat_map part_variable (labels vs)

more_nothing : (p : Part Span) (b r : Vals Span) → part_variable p ≡ [] → below_variables b ≡ [] → below_variables r ≡ [] → below_variables (more p b r) ≡ []
more_nothing p b r e1 e2 e3 =
    ap (λ (l : List (NameOf Span)). l ++ flat_map part_variable (labels b ++ labels r)) e1
    ∙ flat_map-append part_variable (labels b) (labels r)
    ∙ ap (λ (l : List (NameOf Span)). l ++ below_variables r) e2
    ∙ e3

mutual
  value_constant : {says : Says Span} {below : Vals Span} {tokens rest : Tokens} → IsValue true says below tokens rest → (says_variable says ≡ []) × (below_variables below ≡ [])
  value_constant (a_variable a free m n) = absurd (cc)
  value_constant (an_int h) = (refl, refl)
  value_constant (a_float h) = (refl, refl)
  value_constant (a_string h) = (refl, refl)
  value_constant (a_block_string h) = (refl, refl)
  value_constant (is_true h) = (refl, refl)
  value_constant (is_false h) = (refl, refl)
  value_constant (is_null h) = (refl, refl)
  value_constant (an_enum h other) = (refl, refl)
  value_constant (a_list a m vs) = (refl, values_constant vs)
  value_constant (an_object a m vs) = (refl, fields_constant vs)

  values_constant : {vs : Vals Span} {tokens rest : Tokens} → IsValues true vs tokens rest → below_variables vs ≡ []
  values_constant (list_closed m) = refl
  values_constant (an_item {says = says} {below = below} {vs = vs} a v others) =
      let w = value_constant v in
      more_nothing (record { key = None; says = says }) below vs w.0 w.1 (values_constant others)

  fields_constant : {vs : Vals Span} {tokens rest : Tokens} → IsObjectFields true vs tokens rest → below_variables vs ≡ []
  fields_constant (object_closed m) = refl
  fields_constant (an_object_field {name = name} {says = says} {below = below} {vs = vs} a b c n m v others) =
      let w = value_constant v in
      more_nothing (record { key = Some name; says = says }) below vs w.0 w.1 (fields_constant others)

argument_constant : (v : Val Span) (tokens rest : Tokens) → IsArgument true v tokens rest → value_variables v ≡ []
argument_constant v tokens rest (an_argument {says = says} {below = below} a b n m one) =
    let w = value_constant one in
    ap (λ (l : List (NameOf Span)). l ++ below_variables below) w.0 ∙ w.1

directives_constant : {ds : List (DirectiveOf Span)} {tokens rest : Tokens} → IsDirectives true ds tokens rest → directive_variables ds ≡ []
directives_constant (no_directive free) = refl
directives_constant (a_directive {arguments = vs} {ds = ds} a b c m n args others) =
    ap (λ (l : List (NameOf Span)). l ++ directive_variables ds) (nothing_of value_variables vs (enclosed_all (λ v. value_variables v ≡ []) argument_constant args)) ∙ directives_constant others

variable_constant : (v : VariableOf Span) (tokens rest : Tokens) → IsVariableDefinition v tokens rest → directive_variables v.directives ≡ []
variable_constant v tokens rest (a_variable_definition a b c d e m n k type value others) = directives_constant others

-- no variable is used where an operation defines its variables
abbrev pub IsConstant : Def Span → Type 0
IsConstant (operation kind name variables directives set braces place) = flat_map (λ v. directive_variables v.directives) variables ≡ []
IsConstant (fragment name on directives set braces place) = Unit {0}
IsConstant (type_system one) = Unit {0}

operation_constant : {d : Def Span} {tokens rest : Tokens} → IsOperationDefinition d tokens rest → IsConstant d
operation_constant (bare set) = refl
operation_constant (typed {variables = vs} a b c d word n vars dirs set) = nothing_of (λ (v : VariableOf Span). directive_variables v.directives) vs (enclosed_all (λ v. directive_variables v.directives ≡ []) variable_constant vars)

fragment_constant : {d : Def Span} {tokens rest : Tokens} → IsFragmentDefinition d tokens rest → IsConstant d
fragment_constant (fragment_on a b c d first word n cond dirs set) = tt

definition_constant : {d : Def Span} {tokens rest : Tokens} → IsDefinition d tokens rest → IsConstant d
definition_constant (an_operation h) = operation_constant h
definition_constant (a_fragment h) = fragment_constant h
definition_constant (a_type_system_definition h) = tt

pub document_constant : {ds : List (Def Span)} {tokens : Tokens} → IsDocument ds tokens → AllByRecursion IsConstant ds
document_constant at_end = tt
document_constant (definition a one others) = (definition_constant one, document_constant others)
