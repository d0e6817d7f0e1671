-- The definitions of fields, of arguments and of the values of an enum that the descent makes are those that stand there, and where a part of one is missing none stands.
use Rattle.std.proofs.Common.{◌≡◌, ◌≢◌, ◌||◌, ◌⊎◌, inl, inr, ℕ, Bool, true, false, List, refl, ap, sym, subst, ◌∙◌, Option, Some, codes}
use Rattle.std.specs.Str.{bytes_eq}
use Rattle.std.proofs.lemmas.Slice.Eq.{bytes_eq-Decides}
use Rattle.gq_text.specs.declared.place.Span.{Span}
use Rattle.gq_lex.specs.declared.token.Kind.{Kind}
use Rattle.gq_lex.specs.declared.token.Kind.TheVariants as kind
use Rattle.gq_tree.specs.declared.value.Literal.{Literal}
use Rattle.gq_tree.specs.Plain.{NameOf, Val, TypeOf, InputOf}
use Rattle.gq_tree.specs.Views.{literal_view}
use Rattle.gq_parse.specs.Grammar.{Tokens, IsPunctuator, IsSpelled, IsName, NotNext, IsValueWord, IsDirectives, IsType, IsDefaultValue}
use Rattle.gq_parse.specs.TypeSystem.{IsDescription, a_description, a_block_description, IsInputValue, an_input_value, IsArgumentsDefinition, IsFieldDefinition, a_field_definition, IsEnumValueDefinition, an_enum_value}
use Rattle.gq_parse.specs.Helping.Phrases.{Lacks, NeverBegins}
use Rattle.gq_parse.proofs.Unique.{not_next, moved, punctuator_begins, spelled_begins, same_punctuator, same_name}
use Rattle.gq_parse.proofs.UniqueValues.{same_type, same_default}
use Rattle.gq_parse.proofs.UniqueTypeSystem.{same_description, same_inputs, paren_never, brace_never}

-- descriptions
pub description_of : (l : Literal) {tokens rest : Tokens} → IsSpelled kind.String l.text l.span tokens rest → IsDescription (Some (literal_view l)) tokens rest
description_of l s = a_description s

pub block_description_of : (l : Literal) {tokens rest : Tokens} → IsSpelled kind.BlockString l.text l.span tokens rest → IsDescription (Some (literal_view l)) tokens rest
block_description_of l s = a_block_description s

-- behind a description and a name
same_said : {o p : Option (NameOf Span)} {n m : NameOf Span} {tokens a b c d : Tokens} → IsDescription o tokens a → IsName n a b → IsDescription p tokens c → IsName m c d → b ≡ d
same_said said n said2 n2 = (same_name n (same_description said refl said2).1 n2).1

-- definitions of arguments and of input fields
pub no_input_name : {o : Option (NameOf Span)} {tokens a : Tokens} → IsDescription o tokens a → NotNext kind.Name a → Lacks IsInputValue tokens
no_input_name said free x rest (an_input_value a2 b2 c2 d2 e2 said2 n2 m2 t2 v2 r2) = not_next _ _ free (moved _ (sym (same_description said refl said2).1) (spelled_begins n2))

pub no_input_colon : {o : Option (NameOf Span)} {n : NameOf Span} {tokens a b : Tokens} → IsDescription o tokens a → IsName n a b → NotNext kind.Colon b → Lacks IsInputValue tokens
no_input_colon said n free x rest (an_input_value a2 b2 c2 d2 e2 said2 n2 m2 t2 v2 r2) = not_next _ _ free (moved _ (sym (same_said said n said2 n2)) (punctuator_begins m2))

pub no_input_type : {o : Option (NameOf Span)} {n : NameOf Span} {tokens a b c : Tokens} → IsDescription o tokens a → IsName n a b → IsPunctuator kind.Colon b c → Lacks IsType c → Lacks IsInputValue tokens
no_input_type said n m lacks x rest (an_input_value {t = t} a2 b2 c2 d2 e2 said2 n2 m2 t2 v2 r2) =
    lacks t d2 (subst (λ (y : Tokens). IsType t y d2) (sym (same_punctuator m (same_said said n said2 n2) m2)) t2)

pub no_input_default : {o : Option (NameOf Span)} {n : NameOf Span} {t : TypeOf Span} {tokens a b c d : Tokens} → IsDescription o tokens a → IsName n a b → IsPunctuator kind.Colon b c → IsType t c d → Lacks IsDefaultValue d → Lacks IsInputValue tokens
no_input_default said n m t lacks x rest (an_input_value {default = v} a2 b2 c2 d2 e2 said2 n2 m2 t2 v2 r2) =
    lacks v e2 (subst (λ (y : Tokens). IsDefaultValue v y e2) (sym (same_type t (same_punctuator m (same_said said n said2 n2) m2) t2).1) v2)

pub no_input_directives : {o : Option (NameOf Span)} {n : NameOf Span} {t : TypeOf Span} {v : Option (Val Span)} {tokens a b c d e : Tokens} → IsDescription o tokens a → IsName n a b → IsPunctuator kind.Colon b c → IsType t c d → IsDefaultValue v d e → Lacks (IsDirectives true) e → Lacks IsInputValue tokens
no_input_directives said n m t v lacks x rest (an_input_value {directives = ds} a2 b2 c2 d2 e2 said2 n2 m2 t2 v2 r2) =
    lacks ds rest (subst (λ (y : Tokens). IsDirectives true ds y rest) (sym (same_default v (same_type t (same_punctuator m (same_said said n said2 n2) m2) t2).1 v2).1) r2)

-- what closes them
pub closes_no_input : (k : Kind) → ((k ≡ kind.ParenClose) ⊎ (k ≡ kind.BraceClose)) → NeverBegins k IsInputValue
closes_no_input k (inl e) = subst (λ (j : Kind). NeverBegins j IsInputValue) (sym e) paren_never
closes_no_input k (inr e) = subst (λ (j : Kind). NeverBegins j IsInputValue) (sym e) brace_never

-- definitions of fields
pub no_field_name : {o : Option (NameOf Span)} {tokens a : Tokens} → IsDescription o tokens a → NotNext kind.Name a → Lacks IsFieldDefinition tokens
no_field_name said free x rest (a_field_definition a2 b2 c2 d2 e2 said2 n2 x2 m2 t2 r2) = not_next _ _ free (moved _ (sym (same_description said refl said2).1) (spelled_begins n2))

pub no_field_arguments : {o : Option (NameOf Span)} {n : NameOf Span} {tokens a b : Tokens} → IsDescription o tokens a → IsName n a b → Lacks IsArgumentsDefinition b → Lacks IsFieldDefinition tokens
no_field_arguments said n lacks x rest (a_field_definition {arguments = xs} a2 b2 c2 d2 e2 said2 n2 x2 m2 t2 r2) =
    lacks xs c2 (subst (λ (y : Tokens). IsArgumentsDefinition xs y c2) (sym (same_said said n said2 n2)) x2)

pub no_field_colon : {o : Option (NameOf Span)} {n : NameOf Span} {xs : List (InputOf Span)} {tokens a b c : Tokens} → IsDescription o tokens a → IsName n a b → IsArgumentsDefinition xs b c → NotNext kind.Colon c → Lacks IsFieldDefinition tokens
no_field_colon said n xs free x rest (a_field_definition a2 b2 c2 d2 e2 said2 n2 x2 m2 t2 r2) =
    not_next _ _ free (moved _ (sym (same_inputs paren_never xs (same_said said n said2 n2) x2).1) (punctuator_begins m2))

pub no_field_type : {o : Option (NameOf Span)} {n : NameOf Span} {xs : List (InputOf Span)} {tokens a b c d : Tokens} → IsDescription o tokens a → IsName n a b → IsArgumentsDefinition xs b c → IsPunctuator kind.Colon c d → Lacks IsType d → Lacks IsFieldDefinition tokens
no_field_type said n xs m lacks x rest (a_field_definition {t = t} a2 b2 c2 d2 e2 said2 n2 x2 m2 t2 r2) =
    lacks t e2 (subst (λ (y : Tokens). IsType t y e2) (sym (same_punctuator m (same_inputs paren_never xs (same_said said n said2 n2) x2).1 m2)) t2)

pub no_field_directives : {o : Option (NameOf Span)} {n : NameOf Span} {xs : List (InputOf Span)} {t : TypeOf Span} {tokens a b c d e : Tokens} → IsDescription o tokens a → IsName n a b → IsArgumentsDefinition xs b c → IsPunctuator kind.Colon c d → IsType t d e → Lacks (IsDirectives true) e → Lacks IsFieldDefinition tokens
no_field_directives said n xs m t lacks x rest (a_field_definition {directives = ds} a2 b2 c2 d2 e2 said2 n2 x2 m2 t2 r2) =
    lacks ds rest (subst (λ (y : Tokens). IsDirectives true ds y rest) (sym (same_type t (same_punctuator m (same_inputs paren_never xs (same_said said n said2 n2) x2).1 m2) t2).1) r2)

-- definitions of the values of an enum
pub no_value_name : {o : Option (NameOf Span)} {tokens a : Tokens} → IsDescription o tokens a → NotNext kind.Name a → Lacks IsEnumValueDefinition tokens
no_value_name said free x rest (an_enum_value a2 b2 said2 n2 w2 r2) = not_next _ _ free (moved _ (sym (same_description said refl said2).1) (spelled_begins n2))

pub value_of_its_own : {o : Option (NameOf Span)} {n : NameOf Span} {tokens a b : Tokens} → IsDescription o tokens a → IsName n a b → IsValueWord n.text → Lacks IsEnumValueDefinition tokens
value_of_its_own said n word x rest (an_enum_value a2 b2 said2 n2 w2 r2) =
    w2 (subst IsValueWord (ap (λ (m : NameOf Span). m.text) (same_name n (same_description said refl said2).1 n2).0) word)

pub no_value_directives : {o : Option (NameOf Span)} {n : NameOf Span} {tokens a b : Tokens} → IsDescription o tokens a → IsName n a b → Lacks (IsDirectives true) b → Lacks IsEnumValueDefinition tokens
no_value_directives said n lacks x rest (an_enum_value {directives = ds} a2 b2 said2 n2 w2 r2) =
    lacks ds rest (subst (λ (y : Tokens). IsDirectives true ds y rest) (sym (same_said said n said2 n2)) r2)

either_true : (a b : Bool) → (a || b) ≡ true → (a ≡ true) ⊎ (b ≡ true)
either_true true b e = inl refl
either_true false b e = inr e

either_false : (a b : Bool) → (a || b) ≡ false → (a ≡ false) × (b ≡ false)
either_false true b e = absurd (let f : true ≡ false = e in cc)
either_false false b e = (refl, e)

apart_at : (word other : List ℕ) → bytes_eq word other ≡ false → word ≢ other
apart_at word other e same = let t = (bytes_eq-Decides word other).1 same in let f : true ≡ false = sym t ∙ e in cc

value_word : (b : Bool) (word : List ℕ) → b ≡ (bytes_eq word (codes "true") || bytes_eq word (codes "false") || bytes_eq word (codes "null")) → b ≡ true → IsValueWord word
value_word b word e t = by (either_true _ _ (sym e ∙ t))
  where
    first : ((bytes_eq word (codes "true") ≡ true) ⊎ (bytes_eq word (codes "false") ≡ true)) → IsValueWord word
    first (inl h) = inl ((bytes_eq-Decides word (codes "true")).0 h)
    first (inr h) = inr (inl ((bytes_eq-Decides word (codes "false")).0 h))

    by : (((bytes_eq word (codes "true") || bytes_eq word (codes "false")) ≡ true) ⊎ (bytes_eq word (codes "null") ≡ true)) → IsValueWord word
    by (inl h) = first (either_true _ _ h)
    by (inr h) = inr (inr ((bytes_eq-Decides word (codes "null")).0 h))

no_value_word : (b : Bool) (word : List ℕ) → b ≡ (bytes_eq word (codes "true") || bytes_eq word (codes "false") || bytes_eq word (codes "null")) → b ≡ false → IsValueWord word → ⊥
no_value_word b word e f w = apart w
  where
    all : ((bytes_eq word (codes "true") || bytes_eq word (codes "false")) ≡ false) × (bytes_eq word (codes "null") ≡ false)
    all = either_false _ _ (sym e ∙ f)

    first : (bytes_eq word (codes "true") ≡ false) × (bytes_eq word (codes "false") ≡ false)
    first = either_false _ _ all.0

    apart : IsValueWord word → ⊥
    apart (inl h) = apart_at word (codes "true") first.0 h
    apart (inr (inl h)) = apart_at word (codes "false") first.1 h
    apart (inr (inr h)) = apart_at word (codes "null") all.1 h

pub word_said : (b : Bool) (said word : List ℕ) → said ≡ word → b ≡ (bytes_eq said (codes "true") || bytes_eq said (codes "false") || bytes_eq said (codes "null")) → b ≡ true → IsValueWord word
word_said b said word same e t = subst IsValueWord same (value_word b said e t)

pub no_word_said : (b : Bool) (said word : List ℕ) → said ≡ word → b ≡ (bytes_eq said (codes "true") || bytes_eq said (codes "false") || bytes_eq said (codes "null")) → b ≡ false → IsValueWord word → ⊥
no_word_said b said word same e f w = no_value_word b said e f (subst IsValueWord (sym same) w)
