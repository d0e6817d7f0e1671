-- Phrases with a punctuator between them: those that the descent makes stand there, and where one is missing none do.
use Rattle.std.proofs.Common.{◌≡◌, ℕ, List, [], ◌∷◌, ◌++◌, refl, sym, subst, codes}
use Rattle.gq_text.specs.declared.place.Span.{Span}
use Rattle.gq_lex.specs.declared.token.Kind.{Kind}
use Rattle.gq_lex.specs.declared.token.Kind.TheVariants as kind
use Rattle.gq_tree.specs.Plain.{NameOf}
use Rattle.gq_parse.specs.Grammar.{Tokens, IsPunctuator, IsName, IsKeyword, NotNext}
use Rattle.gq_parse.specs.TypeSystem.{NotWord, Separated, last, next, Delimited, plain, led, IsImplements, no_interfaces, interfaces, IsMembers, no_members, members}
use Rattle.gq_parse.specs.Helping.Phrases.{Lacks, Unique}
use Rattle.gq_parse.proofs.Unique.{not_next, moved, punctuator_begins, spelled_begins, same_punctuator, same_spelled}
use Rattle.gq_parse.proofs.UniqueTypeSystem.{not_word}
use Rattle.gq_parse.proofs.Fronts.{Front, no_more, one_more}

-- X and the punctuator behind it
pub data Followed {A : Type 0} (X : A → Tokens → Tokens → Type 0) (k : Kind) : A → Tokens → Tokens → Type 0 where
  followed : {x : A} {tokens rest : Tokens} (a : Tokens) → X x tokens a → IsPunctuator k a rest → Followed X k x tokens rest

pub followed_by : {A : Type 0} {X : A → Tokens → Tokens → Type 0} {k : Kind} {x : A} {tokens a rest : Tokens} → X x tokens a → IsPunctuator k a rest → Followed X k x tokens rest
followed_by {a = a} one m = followed a one m

pub last_of : {A : Type 0} {X : A → Tokens → Tokens → Type 0} {k : Kind} {xs : List A} {x : A} {tokens a rest : Tokens} → Front (Followed X k) xs tokens a → X x a rest → NotNext k rest → Separated X k (xs ++ x ∷ []) tokens rest
last_of no_more one free = last one free
last_of (one_more b (followed c first m) others) one free = next c b first m (last_of others one free)

pub separated_put : {A : Type 0} {X : A → Tokens → Tokens → Type 0} {k : Kind} (xs ys : List A) (x : A) {tokens a rest : Tokens} → ys ≡ xs ++ x ∷ [] → Front (Followed X k) xs tokens a → X x a rest → NotNext k rest → Separated X k ys tokens rest
separated_put {X} {k} xs ys x {tokens} {rest = rest} e front one free = subst (λ zs. Separated X k zs tokens rest) (sym e) (last_of front one free)

behind_separated : {A : Type 0} {X : A → Tokens → Tokens → Type 0} {k : Kind} {xs ys : List A} {tokens other a rest : Tokens} → Unique X → Front (Followed X k) xs tokens a → Lacks X a → tokens ≡ other → Separated X k ys other rest → ⊥
behind_separated {X} {rest = rest} unique no_more lacks same (last {x = x} one free) = lacks x rest (subst (λ (t : Tokens). X x t rest) (sym same) one)
behind_separated {X} unique no_more lacks same (next {x = x} b c one m others) = lacks x b (subst (λ (t : Tokens). X x t b) (sym same) one)
behind_separated unique (one_more {x = x} b (followed c first m) others) lacks same (last {x = y} one free) = not_next _ _ free (moved _ (unique x y _ _ _ _ first same one).1 (punctuator_begins m))
behind_separated unique (one_more {x = x} b (followed c first m) others) lacks same (next {x = y} b2 c2 one m2 others2) =
    behind_separated unique others lacks (same_punctuator m (unique x y _ _ _ _ first same one).1 m2) others2

pub not_separated : {A : Type 0} {X : A → Tokens → Tokens → Type 0} {k : Kind} {xs : List A} {tokens a : Tokens} → Unique X → Front (Followed X k) xs tokens a → Lacks X a → Lacks (Separated X k) tokens
not_separated unique front lacks ys rest s = behind_separated unique front lacks refl s

-- with the punctuator before the first one too
pub led_by : {A : Type 0} {X : A → Tokens → Tokens → Type 0} {k : Kind} {xs : List A} {tokens a rest : Tokens} → IsPunctuator k tokens a → Separated X k xs a rest → Delimited X k xs tokens rest
led_by {a = a} m s = led a m s

pub not_led_behind : {A : Type 0} {X : A → Tokens → Tokens → Type 0} {k : Kind} {tokens a : Tokens} → IsPunctuator k tokens a → Lacks (Separated X k) a → Lacks (Delimited X k) tokens
not_led_behind m lacks xs rest (plain free s) = not_next _ _ free (punctuator_begins m)
not_led_behind {X} {k} m lacks xs rest (led a2 m2 s) = lacks xs rest (subst (λ (t : Tokens). Separated X k xs t rest) (sym (same_punctuator m refl m2)) s)

pub not_led : {A : Type 0} {X : A → Tokens → Tokens → Type 0} {k : Kind} {tokens : Tokens} → NotNext k tokens → Lacks (Separated X k) tokens → Lacks (Delimited X k) tokens
not_led free lacks xs rest (plain free2 s) = lacks xs rest s
not_led free lacks xs rest (led a m s) = not_next _ _ free (punctuator_begins m)

-- interfaces
pub another_word : (word : List ℕ) (tokens : Tokens) → Lacks (IsKeyword word) tokens → NotWord word tokens
another_word word [] lacks = tt
another_word word (t ∷ ts) lacks = λ k e. lacks t.span ts (record { token = t; first = refl; kind = k; spelling = sym e; span = refl })

pub implements_of : {names : List (NameOf Span)} {place : Span} {tokens a rest : Tokens} → IsKeyword (codes "implements") place tokens a → Delimited IsName kind.Ampersand names a rest → IsImplements names tokens rest
implements_of {a = a} k l = interfaces a k l

pub implements_none : (names : List (NameOf Span)) {tokens : Tokens} → names ≡ [] → Lacks (IsKeyword (codes "implements")) tokens → IsImplements names tokens tokens
implements_none names {tokens} e lacks = subst (λ (ns : List (NameOf Span)). IsImplements ns tokens tokens) (sym e) (no_interfaces (another_word _ tokens lacks))

pub implements_missing : {place : Span} {tokens a : Tokens} → IsKeyword (codes "implements") place tokens a → Lacks (Delimited IsName kind.Ampersand) a → Lacks IsImplements tokens
implements_missing k lacks names rest (no_interfaces free) = not_word _ free refl k
implements_missing k lacks names rest (interfaces a2 k2 l2) = lacks names rest (subst (λ (t : Tokens). Delimited IsName kind.Ampersand names t rest) (sym (same_spelled k refl k2).2) l2)

-- members
pub members_of : {names : List (NameOf Span)} {tokens a rest : Tokens} → IsPunctuator kind.Equals tokens a → Delimited IsName kind.Pipe names a rest → IsMembers names tokens rest
members_of {a = a} m l = members a m l

pub members_none : (names : List (NameOf Span)) {tokens : Tokens} → names ≡ [] → NotNext kind.Equals tokens → IsMembers names tokens tokens
members_none names {tokens} e free = subst (λ (ns : List (NameOf Span)). IsMembers ns tokens tokens) (sym e) (no_members free)

pub members_missing : {tokens a : Tokens} → IsPunctuator kind.Equals tokens a → Lacks (Delimited IsName kind.Pipe) a → Lacks IsMembers tokens
members_missing m lacks names rest (no_members free) = not_next _ _ free (punctuator_begins m)
members_missing m lacks names rest (members a2 m2 l2) = lacks names rest (subst (λ (t : Tokens). Delimited IsName kind.Pipe names t rest) (sym (same_punctuator m refl m2)) l2)

-- names
pub no_name_next : {tokens : Tokens} → NotNext kind.Name tokens → Lacks IsName tokens
no_name_next free name rest n = not_next _ _ free (spelled_begins n)
