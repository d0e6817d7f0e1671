-- The definitions of directives that the descent makes are those that stand there, and where a part of one is missing none stands.
use Rattle.std.proofs.Common.{◌≡◌, Bool, true, List, ◌∷◌, refl, ap, sym, subst, ◌∙◌, Option, Some, codes}
use Rattle.gq_text.specs.declared.place.Span.{Span}
use Rattle.gq_lex.specs.declared.token.Kind.TheVariants as kind
use Rattle.gq_lex.specs.Tokens.{Lexeme}
use Rattle.gq_tree.specs.declared.type_system.DirectiveLocation.{DirectiveLocation}
use Rattle.gq_tree.specs.Plain.{NameOf, InputOf, TypeSystemOf, directive_definition}
use Rattle.gq_parse.specs.Grammar.{Tokens, IsPunctuator, IsName, IsKeyword, NotNext, covered}
use Rattle.gq_parse.specs.TypeSystem.{Delimited, IsArgumentsDefinition, location_word, IsLocation, a_location, IsRepeatable, once, repeatable}
use Rattle.gq_parse.specs.Helping.Phrases.{Lacks}
use Rattle.gq_parse.specs.Helping.Locations.{location_named}
use Rattle.gq_parse.specs.Helping.Parts.{IsDirectiveDescribed, directive_described}
use Rattle.gq_parse.proofs.Unique.{not_next, moved, punctuator_begins, spelled_begins, same_punctuator, same_spelled, same_name}
use Rattle.gq_parse.proofs.UniqueTypeSystem.{same_inputs, paren_never}
use Rattle.gq_parse.proofs.UniqueDocuments.{on_apart_repeatable, same_repeatable}
use Rattle.gq_parse.proofs.TypeWords.{word_of_location}

-- a location
pub location_of : {l : DirectiveLocation} {t : Lexeme} {tokens rest other : Tokens} → IsPunctuator kind.Name tokens rest → tokens ≡ t ∷ other → location_named t.text ≡ Some l → IsLocation l tokens rest
location_of {l} {t} {tokens} {rest} name first e =
    let same : name.token ≡ t = let f = sym name.first ∙ first in cc in
    let word : IsKeyword (location_word l) t.span tokens rest = record { token = name.token; first = name.first; kind = name.kind; spelling = sym (word_of_location t.text l e) ∙ ap (λ (u : Lexeme). u.text) (sym same); span = ap (λ (u : Lexeme). u.span) (sym same) } in
    a_location word

-- repeatable? on
pub repeatable_of : {p q : Span} {tokens a rest : Tokens} → IsKeyword (codes "repeatable") p tokens a → IsKeyword (codes "on") q a rest → IsRepeatable true tokens rest
repeatable_of {a = a} h k = repeatable a h k

pub no_on_behind : {p : Span} {tokens a : Tokens} → IsKeyword (codes "repeatable") p tokens a → Lacks (IsKeyword (codes "on")) a → Lacks IsRepeatable tokens
no_on_behind h lacks x rest (once k) = on_apart_repeatable (same_spelled k refl h).0
no_on_behind h lacks x rest (repeatable {q = q} b k m) = lacks q rest (subst (λ (t : Tokens). IsKeyword (codes "on") q t rest) (sym (same_spelled h refl k).2) m)

pub no_repeatable : {tokens : Tokens} → Lacks (IsKeyword (codes "on")) tokens → Lacks (IsKeyword (codes "repeatable")) tokens → Lacks IsRepeatable tokens
no_repeatable no_on no_word x rest (once {place = p} k) = no_on p rest k
no_repeatable no_on no_word x rest (repeatable {p = p} b k m) = no_word p b k

-- a definition
pub directive_made : {first : Tokens} {o : Option (NameOf Span)} {n : NameOf Span} {xs : List (InputOf Span)} {again : Bool} {ls : List DirectiveLocation} {p place : Span} {tokens b c d e f rest : Tokens} → IsKeyword (codes "directive") p tokens b → IsPunctuator kind.At b c → IsName n c d → IsArgumentsDefinition xs d e → IsRepeatable again e f → Delimited IsLocation kind.Pipe ls f rest → place ≡ covered first rest →
    IsDirectiveDescribed first o (directive_definition o n xs again ls place) tokens rest
directive_made {first} {o} {n} {xs} {again} {ls} {tokens = tokens} {b = b} {c = c} {d = d} {e = e} {f = f} {rest = rest} k m name args r l is =
    let D : Span → TypeSystemOf Span = λ q. directive_definition o n xs again ls q in
    subst (λ (q : Span). IsDirectiveDescribed first o (D q) tokens rest) (sym is) (directive_described b c d e f k m name args r l)

pub no_directive_word : {first : Tokens} {o : Option (NameOf Span)} {tokens : Tokens} → Lacks (IsKeyword (codes "directive")) tokens → Lacks (IsDirectiveDescribed first o) tokens
no_directive_word lacks x rest (directive_described {place = p} b c d e f k m n xs r l) = lacks p b k

pub no_directive_at : {first : Tokens} {o : Option (NameOf Span)} {p : Span} {tokens a : Tokens} → IsKeyword (codes "directive") p tokens a → NotNext kind.At a → Lacks (IsDirectiveDescribed first o) tokens
no_directive_at h free x rest (directive_described b c d e f k m n xs r l) = not_next _ _ free (moved _ (sym (same_spelled h refl k).2) (punctuator_begins m))

pub no_directive_name : {first : Tokens} {o : Option (NameOf Span)} {p : Span} {tokens a b : Tokens} → IsKeyword (codes "directive") p tokens a → IsPunctuator kind.At a b → NotNext kind.Name b → Lacks (IsDirectiveDescribed first o) tokens
no_directive_name h i free x rest (directive_described b c d e f k m n xs r l) = not_next _ _ free (moved _ (sym (same_punctuator i (same_spelled h refl k).2 m)) (spelled_begins n))

-- from the keyword to behind the name
directive_named : {p q : Span} {n m : NameOf Span} {tokens a b c d e f : Tokens} → IsKeyword (codes "directive") p tokens a → IsPunctuator kind.At a b → IsName n b c → IsKeyword (codes "directive") q tokens d → IsPunctuator kind.At d e → IsName m e f → c ≡ f
directive_named h i n k m x = (same_name n (same_punctuator i (same_spelled h refl k).2 m) x).1

pub no_directive_arguments : {first : Tokens} {o : Option (NameOf Span)} {p : Span} {n : NameOf Span} {tokens a b c : Tokens} → IsKeyword (codes "directive") p tokens a → IsPunctuator kind.At a b → IsName n b c → Lacks IsArgumentsDefinition c → Lacks (IsDirectiveDescribed first o) tokens
no_directive_arguments h i n lacks x rest (directive_described {arguments = ys} b c d e f k m n2 xs r l) =
    lacks ys e (subst (λ (t : Tokens). IsArgumentsDefinition ys t e) (sym (directive_named h i n k m n2)) xs)

pub no_directive_on : {first : Tokens} {o : Option (NameOf Span)} {p : Span} {n : NameOf Span} {zs : List (InputOf Span)} {tokens a b c d : Tokens} → IsKeyword (codes "directive") p tokens a → IsPunctuator kind.At a b → IsName n b c → IsArgumentsDefinition zs c d → Lacks IsRepeatable d → Lacks (IsDirectiveDescribed first o) tokens
no_directive_on h i n zs lacks x rest (directive_described {again = again} b c d e f k m n2 xs r l) =
    lacks again f (subst (λ (t : Tokens). IsRepeatable again t f) (sym (same_inputs paren_never zs (directive_named h i n k m n2) xs).1) r)

pub no_directive_locations : {first : Tokens} {o : Option (NameOf Span)} {p : Span} {n : NameOf Span} {zs : List (InputOf Span)} {y : Bool} {tokens a b c d e : Tokens} → IsKeyword (codes "directive") p tokens a → IsPunctuator kind.At a b → IsName n b c → IsArgumentsDefinition zs c d → IsRepeatable y d e → Lacks (Delimited IsLocation kind.Pipe) e → Lacks (IsDirectiveDescribed first o) tokens
no_directive_locations h i n zs y lacks x rest (directive_described {locations = ls} b c d e f k m n2 xs r l) =
    lacks ls rest (subst (λ (t : Tokens). Delimited IsLocation kind.Pipe ls t rest) (sym (same_repeatable y (same_inputs paren_never zs (directive_named h i n k m n2) xs).1 r).1) l)
