-- The values that the descent makes are those that stand there, and where a part of one is missing none stands.
use Rattle.std.proofs.Common.{◌≡◌, ℕ, Bool, true, false, List, [], ◌∷◌, map, refl, ap, sym, subst, ◌∙◌, codes, inl, inr, Vec, Global}
use Rattle.gq_text.specs.declared.place.Span.{Span}
use Rattle.gq_lex.specs.declared.token.Kind.TheVariants as kind
use Rattle.gq_tree.specs.Forest.{none, row}
use Rattle.gq_tree.specs.Plain.{NameOf, Val, Vals, variable, list, object, unnamed, under}
use Rattle.gq_tree.specs.Views.{name_of, value_view, values_view, entry_view, entries_view}
use Rattle.gq_tree.specs.declared.tree.Name.{Name}
use Rattle.gq_tree.specs.declared.value.Literal.{Literal}
use Rattle.gq_tree.specs.declared.value.Variable.{Variable}
use Rattle.gq_tree.specs.declared.value.ObjectField.{ObjectField}
use Rattle.gq_tree.specs.declared.value.Value.{Value}
use Rattle.gq_tree.specs.declared.value.Value.TheVariants as variant
use Rattle.gq_tree.proofs.Trees.{view_variable, view_int, view_float, view_string, view_boolean, view_null, view_enum, view_list, view_object}
use Rattle.gq_parse.specs.Grammar.{Tokens, covered, IsPunctuator, IsSpelled, IsName, IsKeyword, NotNext, ManyUntil, closed, another, IsValueWord, IsValue, a_variable, an_int, a_float, a_string, a_block_string, is_true, is_false, is_null, an_enum, a_list, an_object, IsValues, list_closed, an_item, IsObjectFields, object_closed, an_object_field, IsArgument, an_argument}
use Rattle.gq_parse.specs.Helping.Phrases.{Begins, Lacks, IsVariable, IsLoneValue, lone, Unique, NeverBegins}
use Rattle.gq_parse.proofs.Unique.{not_next, moved, one_kind, punctuator_begins, spelled_begins, same_punctuator, same_name}
use Rattle.gq_parse.proofs.UniqueValues.{value_by, same_value, value_or_close}

seen_as : {constant : Bool} {x y : Val Span} {tokens rest : Tokens} → y ≡ x → IsLoneValue constant x tokens rest → IsLoneValue constant y tokens rest
seen_as {constant} {tokens = tokens} {rest = rest} e v = subst (λ (z : Val Span). IsLoneValue constant z tokens rest) (sym e) v

pub lone_variable : {constant : Bool} (v : Variable) {tokens rest : Tokens} → constant ≡ false → IsVariable (name_of v.name) tokens rest → v.span ≡ covered tokens rest → IsLoneValue constant (value_view (variant.Variable v)) tokens rest
lone_variable v free h place = seen_as (view_variable v ∙ ap (λ (p : Span). unnamed (variable (name_of v.name) p) none) place) (lone (a_variable h.behind free h.dollar h.names))

pub lone_int : (constant : Bool) (l : Literal) {tokens rest : Tokens} → IsSpelled kind.Int l.text l.span tokens rest → IsLoneValue constant (value_view (variant.Int l)) tokens rest
lone_int constant l i = seen_as (view_int l) (lone (an_int i))

pub lone_float : (constant : Bool) (l : Literal) {tokens rest : Tokens} → IsSpelled kind.Float l.text l.span tokens rest → IsLoneValue constant (value_view (variant.Float l)) tokens rest
lone_float constant l i = seen_as (view_float l) (lone (a_float i))

pub lone_string : (constant : Bool) (l : Literal) {tokens rest : Tokens} → IsSpelled kind.String l.text l.span tokens rest → IsLoneValue constant (value_view (variant.String l)) tokens rest
lone_string constant l i = seen_as (view_string l) (lone (a_string i))

pub lone_block_string : (constant : Bool) (l : Literal) {tokens rest : Tokens} → IsSpelled kind.BlockString l.text l.span tokens rest → IsLoneValue constant (value_view (variant.String l)) tokens rest
lone_block_string constant l i = seen_as (view_string l) (lone (a_block_string i))

pub lone_true : (constant : Bool) (place : Span) {tokens rest : Tokens} → IsKeyword (codes "true") place tokens rest → IsLoneValue constant (value_view (variant.Boolean true place)) tokens rest
lone_true constant place k = seen_as (view_boolean true place) (lone (is_true k))

pub lone_false : (constant : Bool) (place : Span) {tokens rest : Tokens} → IsKeyword (codes "false") place tokens rest → IsLoneValue constant (value_view (variant.Boolean false place)) tokens rest
lone_false constant place k = seen_as (view_boolean false place) (lone (is_false k))

pub lone_null : (constant : Bool) (place : Span) {tokens rest : Tokens} → IsKeyword (codes "null") place tokens rest → IsLoneValue constant (value_view (variant.Null place)) tokens rest
lone_null constant place k = seen_as (view_null place) (lone (is_null k))

pub lone_enum : (constant : Bool) (n : Name) {tokens rest : Tokens} → Lacks (IsKeyword (codes "true")) tokens → Lacks (IsKeyword (codes "false")) tokens → Lacks (IsKeyword (codes "null")) tokens → IsName (name_of n) tokens rest → IsLoneValue constant (value_view (variant.Enum n)) tokens rest
lone_enum constant n {tokens} {rest} no_true no_false no_null h = seen_as (view_enum n) (lone (an_enum h (λ w. other w)))
  where
    worded : {word : List ℕ} → (name_of n).text ≡ word → IsKeyword word n.span tokens rest
    worded e = subst (λ (w : List ℕ). IsKeyword w n.span tokens rest) e h

    other : IsValueWord (name_of n).text → ⊥
    other (inl e) = no_true n.span rest (worded e)
    other (inr (inl e)) = no_false n.span rest (worded e)
    other (inr (inr e)) = no_null n.span rest (worded e)

-- the values of a list in brackets
values_closed : {constant : Bool} {xs : List (Val Span)} {tokens rest : Tokens} → ManyUntil (IsLoneValue constant) kind.BracketClose xs tokens rest → IsValues constant (row xs) tokens rest
values_closed (closed m) = list_closed m
values_closed (another a (lone v) others) = an_item a v (values_closed others)

record AsValues (constant : Bool) (tokens rest : Tokens) : Type 0 where
  items : List (Val Span)
  are : ManyUntil (IsLoneValue constant) kind.BracketClose items tokens rest

closed_values : {constant : Bool} {vs : Vals Span} {tokens rest : Tokens} → IsValues constant vs tokens rest → AsValues constant tokens rest
closed_values (list_closed m) = record { items = []; are = closed m }
closed_values (an_item {says = says} {below = below} a v vs) =
    let l = closed_values vs in
    record { items = unnamed says below ∷ l.items; are = another a (lone v) l.are }

pub lone_list : {constant : Bool} (vs : Vec Value Global) (place : Span) {tokens a rest : Tokens} → IsPunctuator kind.BracketOpen tokens a → ManyUntil (IsLoneValue constant) kind.BracketClose (map value_view vs.items) a rest → place ≡ covered tokens rest → IsLoneValue constant (value_view (variant.List vs place)) tokens rest
lone_list vs place {a = a} m c e = seen_as (view_list vs place ∙ ap (λ (p : Span). unnamed (list p) (values_view vs.items)) e) (lone (a_list a m (values_closed c)))

pub list_missing : {constant : Bool} {tokens a : Tokens} → IsPunctuator kind.BracketOpen tokens a → Lacks (ManyUntil (IsLoneValue constant) kind.BracketClose) a → Lacks (IsLoneValue constant) tokens
list_missing {constant} m lacks x rest (lone v) =
    let w = value_by kind.BracketOpen (punctuator_begins m) v in
    let l = closed_values w.2 in
    lacks l.items rest (subst (λ (t : Tokens). ManyUntil (IsLoneValue constant) kind.BracketClose l.items t rest) (sym (same_punctuator m refl w.1)) l.are)

-- the fields of an object in braces
fields_closed : {constant : Bool} {xs : List (Val Span)} {tokens rest : Tokens} → ManyUntil (IsArgument constant) kind.BraceClose xs tokens rest → IsObjectFields constant (row xs) tokens rest
fields_closed (closed m) = object_closed m
fields_closed (another a (an_argument b c n m v) others) = an_object_field b c a n m v (fields_closed others)

record AsFields (constant : Bool) (tokens rest : Tokens) : Type 0 where
  items : List (Val Span)
  are : ManyUntil (IsArgument constant) kind.BraceClose items tokens rest

closed_fields : {constant : Bool} {vs : Vals Span} {tokens rest : Tokens} → IsObjectFields constant vs tokens rest → AsFields constant tokens rest
closed_fields (object_closed m) = record { items = []; are = closed m }
closed_fields (an_object_field {name = name} {says = says} {below = below} a b c n m v vs) =
    let l = closed_fields vs in
    record { items = under name (unnamed says below) ∷ l.items; are = another c (an_argument a b n m v) l.are }

pub lone_object : {constant : Bool} (es : Vec ObjectField Global) (place : Span) {tokens a rest : Tokens} → IsPunctuator kind.BraceOpen tokens a → ManyUntil (IsArgument constant) kind.BraceClose (map entry_view es.items) a rest → place ≡ covered tokens rest → IsLoneValue constant (value_view (variant.Object es place)) tokens rest
lone_object es place {a = a} m c e = seen_as (view_object es place ∙ ap (λ (p : Span). unnamed (object p) (entries_view es.items)) e) (lone (an_object a m (fields_closed c)))

pub object_missing : {constant : Bool} {tokens a : Tokens} → IsPunctuator kind.BraceOpen tokens a → Lacks (ManyUntil (IsArgument constant) kind.BraceClose) a → Lacks (IsLoneValue constant) tokens
object_missing {constant} m lacks x rest (lone v) =
    let w = value_by kind.BraceOpen (punctuator_begins m) v in
    let l = closed_fields w.2 in
    lacks l.items rest (subst (λ (t : Tokens). ManyUntil (IsArgument constant) kind.BraceClose l.items t rest) (sym (same_punctuator m refl w.1)) l.are)

-- a `$` begins no constant value, and none where no variable stands
pub variable_in_constant : {constant : Bool} {tokens : Tokens} → constant ≡ true → Begins kind.Dollar tokens → Lacks (IsLoneValue constant) tokens
variable_in_constant is begins x rest (lone v) = let w = value_by kind.Dollar begins v in let e = sym is ∙ w.1 in cc

pub variable_missing : {constant : Bool} {tokens : Tokens} → Begins kind.Dollar tokens → Lacks IsVariable tokens → Lacks (IsLoneValue constant) tokens
variable_missing begins lacks x rest (lone v) = let w = value_by kind.Dollar begins v in lacks w.0 rest w.2

-- values by themselves are read in one way
pub unique_lone : (constant : Bool) → Unique (IsLoneValue constant)
unique_lone constant x y tokens other a b (lone v) same (lone v2) =
    let e = same_value v same v2 in
    let e0 = e.0 in
    let e1 = e.1 in
    (cc, e.2)

pub lone_or_close : (constant : Bool) → NeverBegins kind.BracketClose (IsLoneValue constant)
lone_or_close constant x tokens a (lone v) begins = value_or_close v begins

pub argument_or_brace : (constant : Bool) → NeverBegins kind.BraceClose (IsArgument constant)
argument_or_brace constant x tokens a (an_argument _ _ n m v) begins = absurd (let h = one_kind _ _ _ (spelled_begins n) begins in cc)

-- a name, a colon and a value
pub argument_of : {constant : Bool} {n : NameOf Span} {x : Val Span} {tokens a b rest : Tokens} → IsName n tokens a → IsPunctuator kind.Colon a b → IsLoneValue constant x b rest → IsArgument constant (under n x) tokens rest
argument_of {a = a} {b = b} n m (lone v) = an_argument a b n m v

pub no_argument_colon : {constant : Bool} {n : NameOf Span} {tokens a : Tokens} → IsName n tokens a → NotNext kind.Colon a → Lacks (IsArgument constant) tokens
no_argument_colon n free x rest (an_argument a2 b2 n2 m2 v2) = not_next _ _ free (moved _ (sym (same_name n refl n2).1) (punctuator_begins m2))

pub no_argument_value : {constant : Bool} {n : NameOf Span} {tokens a b : Tokens} → IsName n tokens a → IsPunctuator kind.Colon a b → Lacks (IsLoneValue constant) b → Lacks (IsArgument constant) tokens
no_argument_value {constant} n m lacks x rest (an_argument {says = says} {below = below} a2 b2 n2 m2 v2) =
    lacks (unnamed says below) rest (lone (subst (λ (t : Tokens). IsValue constant says below t rest) (sym (same_punctuator m (same_name n refl n2).1 m2)) v2))
