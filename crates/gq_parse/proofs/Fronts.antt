-- Phrases of one sort in a row, up to a rest.
use Rattle.std.proofs.Common.{Bool, true, false, Option, Some, None, ◌≡◌, List, [], ◌∷◌, ◌++◌, map, length, refl, ap, sym, subst, ◌∙◌, arith, ◌<◌}
use Rattle.std.specs.Prelude.{is_some, not, IfSome, IfNone}
use Rattle.gq_lex.specs.declared.token.Kind.{Kind}
use Rattle.gq_parse.specs.Grammar.{Tokens, IsPunctuator, NotNext, ManyUntil, closed, another, OptionalMany, absent, enclosed}
use Rattle.gq_parse.specs.Helping.Phrases.{Lacks, Unique, NeverBegins}
use Rattle.gq_parse.proofs.Unique.{not_next, moved, punctuator_begins, same_punctuator, same_closed}

pub data Front {A : Type 0} (X : A → Tokens → Tokens → Type 0) : List A → Tokens → Tokens → Type 0 where
  no_more : {tokens : Tokens} → Front X [] tokens tokens
  one_more : {x : A} {xs : List A} {tokens rest : Tokens} (a : Tokens) → X x tokens a → Front X xs a rest → Front X (x ∷ xs) tokens rest

pub front_push : {A : Type 0} {X : A → Tokens → Tokens → Type 0} {xs : List A} {x : A} {tokens a rest : Tokens} → Front X xs tokens a → X x a rest → Front X (xs ++ x ∷ []) tokens rest
front_push {rest = rest} no_more one = one_more rest one no_more
front_push (one_more b first others) one = one_more b first (front_push others one)

-- none yet
pub front_start : {A : Type 0} {X : A → Tokens → Tokens → Type 0} (xs : List A) {tokens : Tokens} → xs ≡ [] → Front X xs tokens tokens
front_start {X} xs {tokens} e = subst (λ ys. Front X ys tokens tokens) (sym e) no_more

-- one more is put
pub front_put : {A : Type 0} {X : A → Tokens → Tokens → Type 0} (xs ys : List A) (x : A) {tokens a rest : Tokens} → ys ≡ xs ++ x ∷ [] → Front X xs tokens a → X x a rest → Front X ys tokens rest
front_put {X} xs ys x {tokens} {rest = rest} e front one = subst (λ zs. Front X zs tokens rest) (sym e) (front_push front one)

map_push : {A B : Type 0} (f : A → B) (xs : List A) (x : A) → map f (xs ++ x ∷ []) ≡ map f xs ++ f x ∷ []
map_push f [] x = refl
map_push f (y ∷ xs) x = ap (λ zs. f y ∷ zs) (map_push f xs x)

-- one more is put, which is read as f says
pub front_read : {A B : Type 0} {X : B → Tokens → Tokens → Type 0} (f : A → B) (xs ys : List A) (x : A) {tokens a rest : Tokens} → ys ≡ xs ++ x ∷ [] → Front X (map f xs) tokens a → X (f x) a rest → Front X (map f ys) tokens rest
front_read f xs ys x e front one = front_put _ _ (f x) (ap (map f) e ∙ map_push f xs x) front one

-- a front and what closes it
pub front_closed : {A : Type 0} {X : A → Tokens → Tokens → Type 0} {k : Kind} {xs : List A} {tokens a rest : Tokens} → Front X xs tokens a → IsPunctuator k a rest → ManyUntil X k xs tokens rest
front_closed no_more m = closed m
front_closed (one_more b first others) m = another b first (front_closed others m)

-- behind a front stands neither what closes it nor one more
pub behind_front : {A : Type 0} {X : A → Tokens → Tokens → Type 0} {k : Kind} {xs ys : List A} {tokens other a rest : Tokens} → Unique X → NeverBegins k X → Front X xs tokens a → NotNext k a → Lacks X a → tokens ≡ other → ManyUntil X k ys other rest → ⊥
behind_front unique apart no_more free lacks same (closed m) = not_next _ _ free (moved _ (sym same) (punctuator_begins m))
behind_front {X} unique apart no_more free lacks same (another {x = x} b one others) = lacks x b (subst (λ (t : Tokens). X x t b) (sym same) one)
behind_front unique apart (one_more {x = x} b first others) free lacks same (closed m) = apart x _ b first (moved _ (sym same) (punctuator_begins m))
behind_front unique apart (one_more {x = x} b first others) free lacks same (another {x = y} b2 one others2) = behind_front unique apart others free lacks (unique x y _ _ b b2 first same one).1 others2

pub not_closed : {A : Type 0} {X : A → Tokens → Tokens → Type 0} {k : Kind} {xs : List A} {tokens a : Tokens} → Unique X → NeverBegins k X → Front X xs tokens a → NotNext k a → Lacks X a → Lacks (ManyUntil X k) tokens
not_closed unique apart front free lacks ys rest c = behind_front unique apart front free lacks refl c

-- brackets with something in them
pub enclosed_some : {A : Type 0} {X : A → Tokens → Tokens → Type 0} {k j : Kind} (xs : List A) {tokens a rest : Tokens} → IsPunctuator k tokens a → ManyUntil X j xs a rest → 0 < length xs → OptionalMany X k j xs tokens rest
enclosed_some [] m c some = absurd (omega (arith, some))
enclosed_some (x ∷ xs) {a = a} m c some = enclosed a m c

-- nothing is in them
pub enclosed_empty : {A : Type 0} {X : A → Tokens → Tokens → Type 0} {k j : Kind} (xs : List A) {tokens a b : Tokens} → Unique X → NeverBegins j X → IsPunctuator k tokens a → ManyUntil X j xs a b → xs ≡ [] → Lacks (OptionalMany X k j) tokens
enclosed_empty xs unique apart m c empty ys rest (absent free) = not_next _ _ free (punctuator_begins m)
enclosed_empty xs unique apart m c empty ys rest (enclosed a2 m2 c2) = let e = sym empty ∙ (same_closed unique apart c (same_punctuator m refl m2) c2).0 in cc

-- a list without items
pub no_items : {A B : Type 0} (f : A → B) (xs : List A) → length xs ≡ 0 → map f xs ≡ []
no_items f [] h = refl
no_items f (x ∷ xs) h = absurd (omega (arith, h))

pub some_items : {A B : Type 0} (f : A → B) (xs : List A) → 0 < length xs → 0 < length (map f xs)
some_items f [] h = absurd (omega (arith, h))
some_items f (x ∷ xs) h = omega arith

-- nothing opens
pub enclosed_none : {A : Type 0} {X : A → Tokens → Tokens → Type 0} {k j : Kind} (xs : List A) {tokens : Tokens} → xs ≡ [] → NotNext k tokens → OptionalMany X k j xs tokens tokens
enclosed_none {X} {k} {j} xs {tokens} e free = subst (λ ys. OptionalMany X k j ys tokens tokens) (sym e) (absent free)

-- an option that was tested
pub some_at : {X : Type 0} {P : X → Type 0} (o : Option X) (b : Bool) → b ≡ is_some o → b ≡ true → IfSome o P → (x : X) × P x
some_at None b e t h = absurd (let f : false ≡ true = sym e ∙ t in cc)
some_at (Some x) b e t h = (x, h)

pub none_at : {X P : Type 0} (o : Option X) (b : Bool) → b ≡ is_some o → b ≡ false → IfNone o P → P
none_at None b e t h = h
none_at (Some x) b e t h = absurd (let f : true ≡ false = sym e ∙ t in cc)

pub not_some : {X P : Type 0} (o : Option X) (b : Bool) → is_some o ≡ not b → b ≡ true → IfNone o P → P
not_some None b e t h = h
not_some (Some x) b e t h = absurd (let f : true ≡ false = e ∙ ap not t in cc)
