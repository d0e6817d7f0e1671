-- A document whose tokens lose those of a definition is the document without it.
use Rattle.std.proofs.Common.{◌≡◌, ℕ, zero, suc, ◌≤◌, true, false, List, [], ◌∷◌, ◌++◌, Option, refl, sym, ap, subst, ◌∙◌, append_assoc, append-nil, arith}
use Rattle.std.proofs.lemmas.List.{append_cancel_right}
use Rattle.gq_text.specs.declared.place.Span.{Span}
use Rattle.gq_lex.specs.declared.token.Kind.{Kind}
use Rattle.gq_lex.specs.declared.token.Kind.TheVariants as kind
use Rattle.gq_lex.specs.Tokens.{Lexeme}
use Rattle.gq_tree.specs.Forest.{more}
use Rattle.gq_tree.specs.Plain.{NameOf, DirectiveOf, Head, Sels, Def, operation, fragment, type_system, RootOf, BodyOf, erase_all, erase_document}
use Rattle.gq_parse.specs.Grammar as grammar
use Rattle.gq_parse.specs.Grammar.{Tokens, NotNext, starts, ends, IsPunctuator, IsSpelled, IsSelections, a_query, a_mutation, a_subscription, bare, typed, fragment_on}
use Rattle.gq_parse.specs.TypeSystem.{IsDescription, no_description, a_description, a_block_description, IsSchema, a_schema, IsTypeBody, a_scalar, an_object_type, an_interface, a_union}
use Rattle.gq_parse.specs.TypeSystem.{an_enum_type, an_input_type, a_schema_definition, a_type_definition, a_directive_definition, a_schema_extension, a_type_extension}
use Rattle.gq_parse.specs.Documents.{IsDefinition, an_operation, a_fragment, a_type_system_definition, IsDocument, at_end, definition}
use Rattle.gq_renamed.proofs.Regrammar.{Then}
use Rattle.gq_laws.proofs.Rewriting.Past.{Passed, over_passed, past_set, before_operation_set, before_fragment_set, past_type_system}
use Rattle.gq_laws.specs.Cutting.Standing.{set_in}
use Rattle.gq_laws.proofs.Cutting.Alike.{AreAlike}
use Rattle.gq_laws.proofs.Cutting.Phrases.{Asked, MayFollow, Kept, IsSome, cut_alike, some_alike, both, turned, some_more}
use Rattle.gq_laws.proofs.Cutting.Rows.{nothing}
use Rattle.gq_laws.proofs.Cutting.Runs.{some_front, starts_same, ends_at}
use Rattle.gq_laws.proofs.Cutting.Definitions.{DefinitionLike, operation_kept, fragment_kept, definition_kept}
use Rattle.gq_laws.proofs.Cutting.Holes.{Way, tail_at, with_tail}
use Rattle.gq_laws.proofs.Cutting.DocumentHoles.{goes_on, begins_as_implements, behind_definition, asks_definition, DefinitionWith, definition_hole, Definitions, document_kept, IsAt}
use Rattle.gq_laws.proofs.Cutting.DocumentHoles.{with_definition, DocumentWith, document_hole, DocumentHole, all_stays, HasTree, finished, nothing_behind}

-- without the element of that number
abbrev pub without : {A : Type 0} → ℕ → List A → List A
without n [] = []
without zero (x ∷ xs) = xs
without (suc n) (x ∷ xs) = x ∷ without n xs

abbrev pub IsTypeSystem : Def Span → Type 0
IsTypeSystem (operation kind name variables directives set braces place) = ⊥
IsTypeSystem (fragment name on directives set braces place) = ⊥
IsTypeSystem (type_system one) = Unit {0}

-- a definition of the type system stands right before the definition of that number
abbrev pub FollowsType : ℕ → List (Def Span) → Type 0
FollowsType zero ds = ⊥
FollowsType (suc n) [] = ⊥
FollowsType (suc zero) (d ∷ ds) = IsTypeSystem d
FollowsType (suc (suc n)) (d ∷ ds) = FollowsType (suc n) ds

past_definition : {d : Def Span} {tokens rest : Tokens} → IsDefinition d tokens rest → Passed tokens rest
past_definition (an_operation (bare s)) = past_set s
past_definition (an_operation (typed b c d e t n vs xs s)) = over_passed (before_operation_set t n vs xs) (past_set s)
past_definition (a_fragment (fragment_on b c d e first w n t xs s)) = over_passed (before_fragment_set w n t xs) (past_set s)
past_definition (a_type_system_definition x) = past_type_system x

-- A definition before a rest in place of its own: the tokens of it, and it again before that.
record Moved (d : Def Span) (tokens a behind : Tokens) : Type 0 where
  front : Tokens
  split : tokens ≡ front ++ a
  is_some : IsSome front
  kept : Kept behind_definition (DefinitionLike d) (front ++ behind) behind

moved_by : {asked : Asked} {d : Def Span} {tokens a : Tokens} (v : Kept asked (DefinitionLike d) tokens a) (behind : Tokens) →
    ((after : Tokens) → MayFollow behind_definition behind after → MayFollow asked a after) → Passed tokens a → Moved d tokens a behind
moved_by {a = a} v behind follows p = record {
  front = v.front;
  split = v.split;
  is_some = some_front v.front a v.split p;
  kept = record { front = v.front; split = refl; again = λ us after r m. v.again us after r (follows after m) };
}

moved : {d : Def Span} {tokens a : Tokens} (behind : Tokens) → IsDefinition d tokens a → (IsTypeSystem d → MayFollow behind_definition [] behind) → Moved d tokens a behind
moved behind (an_operation h) fits =
    moved_by (operation_kept {asked = nothing} h) behind (λ after m. record { kinds = λ k is. absurd (cc); words = λ w is. absurd (cc) }) (past_definition (an_operation h))
moved behind (a_fragment h) fits = moved_by (fragment_kept {asked = nothing} h) behind (λ after m. record { kinds = λ k is. absurd (cc); words = λ w is. absurd (cc) }) (past_definition (a_fragment h))
moved behind (a_type_system_definition h) fits =
    let f = fits tt in
    moved_by (definition_kept asks_definition (a_type_system_definition h)) behind
    (λ after m. record { kinds = λ k is free. m.kinds k is (f.kinds k is tt); words = λ w is free. m.words w is (f.words w is tt) }) (past_definition (a_type_system_definition h))

-- the same where the rest begins as its own does
moved_alike : {d : Def Span} {tokens : Tokens} (f x y : Tokens) → IsSome f → IsDefinition d tokens (f ++ x) → Moved d tokens (f ++ x) (f ++ y)
moved_alike f x y some h = moved_by (definition_kept asks_definition h) (f ++ y) (λ after. same f after some) (past_definition h)
  where
    same : (f after : Tokens) → IsSome f → MayFollow behind_definition (f ++ y) after → MayFollow behind_definition (f ++ x) after
    same [] after i m = absurd i
    same (t ∷ f) after i m = record { kinds = m.kinds; words = m.words }

-- the tokens of an operation or a fragment are those of its place
abbrev pub Covers : Def Span → Tokens → Type 0
Covers (operation kind name variables directives set braces place) gone = (starts gone ≡ place.start) × (ends gone ≡ place.end)
Covers (fragment name on directives set braces place) gone = (starts gone ≡ place.start) × (ends gone ≡ place.end)
Covers (type_system one) gone = Unit {0}

covers : {d : Def Span} {tokens rest : Tokens} (f : Tokens) → tokens ≡ f ++ rest → IsSome f → IsDefinition d tokens rest → Covers d f
covers {rest = rest} f e some (an_operation (bare s)) = (sym (starts_same f rest some) ∙ sym (ap starts e), sym (ends_at f rest e))
covers {rest = rest} f e some (an_operation (typed a b c d t n vs xs s)) = (sym (starts_same f rest some) ∙ sym (ap starts e), sym (ends_at f rest e))
covers {rest = rest} f e some (a_fragment (fragment_on a b c d first w n t xs s)) = (sym (starts_same f rest some) ∙ sym (ap starts e), sym (ends_at f rest e))
covers f e some (a_type_system_definition x) = tt

-- The tokens of a definition in those of a document, and the document without it.
pub record Gone (n : ℕ) (ds : List (Def Span)) (tokens : Tokens) : Type 0 where
  pub front : Tokens
  pub gone : Tokens
  pub behind : Tokens
  pub cut : tokens ≡ front ++ (gone ++ behind)
  pub is_some : IsSome gone
  pub some_before : (k : ℕ) → n ≡ suc k → IsSome front
  pub covers : (d : Def Span) → IsAt d n ds → Covers d gone
  pub others : (ds' : List (Def Span)) × IsDocument ds' behind
  pub kept : (FollowsType n ds → MayFollow behind_definition [] behind) → Kept behind_definition (Definitions (without n ds)) (front ++ behind) []

-- one definition, and definitions behind it
one_more : (d : Def Span) (ds : List (Def Span)) {x y : Tokens} → Then (DefinitionLike d) (Definitions ds) x y → Definitions (d ∷ ds) x y
one_more d ds q added t = let z = q.2 added t in (q.1.0 ∷ z.0, definition q.0 q.1.1 z.1, let e1 = q.1.2 in let e2 = z.2 in cc)

kept_at : {asked : Asked} {Q : Tokens → Tokens → Type 0} {tokens other rest : Tokens} → tokens ≡ other → Kept asked Q tokens rest → Kept asked Q other rest
kept_at {asked} {Q} {rest = rest} e k = let P : Tokens → Type 0 = λ l. Kept asked Q l rest in subst P e k

-- the first definition
record First (d : Def Span) (ds : List (Def Span)) (tokens : Tokens) : Type 0 where
  gone : Tokens
  behind : Tokens
  split : tokens ≡ gone ++ behind
  is_some : IsSome gone
  covers : Covers d gone
  others : IsDocument ds behind

first_of_document : {d : Def Span} {ds : List (Def Span)} {tokens : Tokens} → IsDocument (d ∷ ds) tokens → First d ds tokens
first_of_document (definition a one others) =
    let k = definition_kept asks_definition one in
    let some = some_front k.front a k.split (past_definition one) in
    record { gone = k.front; behind = a; split = k.split; is_some = some; covers = covers k.front k.split some one; others = others }

pub gone_at : (n : ℕ) (e : Def Span) {ds : List (Def Span)} {tokens : Tokens} → IsDocument ds tokens → IsAt e n ds → Gone n ds tokens
gone_at n e at_end i = absurd i
gone_at zero e (definition {d = d} {ds = ds} a one others) i =
    let f = first_of_document (definition a one others) in
    record {
      front = [];
      gone = f.gone;
      behind = f.behind;
      cut = f.split;
      is_some = f.is_some;
      some_before = λ k q. absurd (omega (arith, q));
      covers =
          λ x j. subst (λ (z : Def Span). Covers z f.gone) j f.covers;
      others = (ds, f.others);
      kept = λ h. document_kept f.others;
    }
gone_at (suc zero) e (definition a one at_end) i = absurd i
gone_at (suc zero) e (definition {d = d} a one (definition {d = g} {ds = ds} b two others)) i =
    let f = first_of_document (definition b two others) in
    let k = definition_kept asks_definition one in
    record {
      front = k.front;
      gone = f.gone;
      behind = f.behind;
      cut = k.split ∙ ap (λ (l : Tokens). k.front ++ l) f.split;
      is_some = f.is_some;
      some_before = λ n q. some_front k.front a k.split (past_definition one);
      covers = λ x j. subst (λ (z : Def Span). Covers z f.gone) j f.covers;
      others = (ds, f.others);
      kept = λ h.
          let m = moved f.behind one h in
          let same : m.front ≡ k.front = append_cancel_right m.front k.front a (sym m.split ∙ k.split) in
          kept_at (ap (λ (l : Tokens). l ++ f.behind) same) (turned (λ x y q. one_more d ds q) (both m.kept (document_kept f.others)));
    }
gone_at (suc (suc n)) e {tokens = tokens} (definition {d = d} {ds = ds} a one others) i =
    let g = gone_at (suc n) e others i in
    let P : Tokens → Type 0 = λ l. IsDefinition d tokens l in
    let m = moved_alike g.front (g.gone ++ g.behind) g.behind (g.some_before n refl) (subst P g.cut one) in
    record {
      front = m.front ++ g.front;
      gone = g.gone;
      behind = g.behind;
      cut = m.split ∙ sym (append_assoc m.front g.front (g.gone ++ g.behind));
      is_some = g.is_some;
      some_before = λ k q. some_more m.front g.front m.is_some;
      covers = g.covers;
      others = g.others;
      kept = λ h. kept_at (sym (append_assoc m.front g.front g.behind)) (turned (λ x y q. one_more d (without (suc n) ds) q) (both m.kept (g.kept h)));
    }

-- what a definition begins with may stand behind any other one, but for a brace
follows_by : {x y : Tokens} (t : Lexeme) → x ≡ t ∷ y → goes_on t.kind ≡ false → (t.kind ≡ kind.Name → begins_as_implements t.text ≡ false) → MayFollow behind_definition [] x
follows_by {x} {y} t e k w =
    let P : Tokens → Type 0 = λ l. MayFollow behind_definition [] l in
    subst P (sym e) (record {
      kinds = λ j is free same. let f : true ≡ false = sym is ∙ ap goes_on (sym same) ∙ k in cc;
      words = λ v is free named same. let f : true ≡ false = sym is ∙ ap begins_as_implements (sym same) ∙ w named in cc;
    })

follows_word : {word : List ℕ} {p : Span} {x y : Tokens} → begins_as_implements word ≡ false → IsSpelled kind.Name word p x y → MayFollow behind_definition [] x
follows_word is h = follows_by h.token h.first (ap goes_on h.kind) (λ e. ap begins_as_implements (sym h.spelling) ∙ is)

follows_other : {k : Kind} {word : List ℕ} {p : Span} {x y : Tokens} → goes_on k ≡ false → (k ≡ kind.Name → ⊥) → IsSpelled k word p x y → MayFollow behind_definition [] x
follows_other is other h = follows_by h.token h.first (ap goes_on h.kind ∙ is) (λ e. absurd (other (sym h.kind ∙ e)))

described : {o : Option (NameOf Span)} {x a : Tokens} → IsDescription o x a → MayFollow behind_definition [] a → MayFollow behind_definition [] x
described (no_description free other) m = m
described (a_description h) m = follows_other refl (λ e. cc) h
described (a_block_description h) m = follows_other refl (λ e. cc) h

schema_follows : {ds : List (DirectiveOf Span)} {rs : List (RootOf Span)} {x y : Tokens} → IsSchema ds rs x y → MayFollow behind_definition [] x
schema_follows (a_schema a b word dirs roots) = follows_word refl word

body_follows : {n : NameOf Span} {ds : List (DirectiveOf Span)} {body : BodyOf Span} {x y : Tokens} → IsTypeBody n ds body x y → MayFollow behind_definition [] x
body_follows (a_scalar a b word n dirs) = follows_word refl word
body_follows (an_object_type a b c d word n is dirs fields) = follows_word refl word
body_follows (an_interface a b c d word n is dirs fields) = follows_word refl word
body_follows (a_union a b c word n dirs names) = follows_word refl word
body_follows (an_enum_type a b c word n dirs values) = follows_word refl word
body_follows (an_input_type a b c word n dirs fields) = follows_word refl word

brace_first : {x y : Tokens} → IsPunctuator kind.BraceOpen x y → NotNext kind.BraceOpen x → ⊥
brace_first m free = let P : Tokens → Type 0 = λ l. NotNext kind.BraceOpen l in let h = subst P m.first free in h m.kind

pub document_follows : {ds : List (Def Span)} {x : Tokens} → IsDocument ds x → NotNext kind.BraceOpen x → MayFollow behind_definition [] x
document_follows at_end free = nothing_behind
document_follows (definition a (an_operation (bare (grammar.braces b m body))) others) free = absurd (brace_first m free)
document_follows (definition a (an_operation (typed b c d e (a_query h) n vs xs s)) others) free = follows_word refl h
document_follows (definition a (an_operation (typed b c d e (a_mutation h) n vs xs s)) others) free = follows_word refl h
document_follows (definition a (an_operation (typed b c d e (a_subscription h) n vs xs s)) others) free = follows_word refl h
document_follows (definition a (a_fragment (fragment_on b c d e first w n t xs s)) others) free = follows_word refl w
document_follows (definition a (a_type_system_definition (a_schema_definition b said s some)) others) free = described said (schema_follows s)
document_follows (definition a (a_type_system_definition (a_type_definition b said body)) others) free = described said (body_follows body)
document_follows (definition a (a_type_system_definition (a_directive_definition b c d e f g said word m n inputs r locations)) others) free = described said (follows_word refl word)
document_follows (definition a (a_type_system_definition (a_schema_extension b word s some)) others) free = follows_word refl word
document_follows (definition a (a_type_system_definition (a_type_extension b word body some)) others) free = follows_word refl word

-- The document without it. Where a definition of the type system stands before what goes, no brace may stand behind that.
pub without_document : (n : ℕ) (ds : List (Def Span)) {tokens : Tokens} (g : Gone n ds tokens) → (FollowsType n ds → NotNext kind.BraceOpen g.behind) → (zs : Tokens) →
    AreAlike (g.front ++ g.behind) zs → HasTree zs (erase_document (without n ds))
without_document n ds g fits zs h =
    let k = g.kept (λ t. document_follows g.others.1 (fits t)) in
    let A : Tokens → Type 0 = λ l. AreAlike l zs in
    let z = k.again zs [] (subst A (k.split ∙ append-nil k.front) h) nothing_behind [] at_end in
    finished zs (zs ++ []) (sym (append-nil zs)) {one = erase_document (without n ds) ++ []} z (append-nil (erase_document (without n ds)))

-- a definition before a document's last selections of a set
before_document : {P : Tokens → Tokens → Type 0} {h : Head Span} {b r : Sels Span} {Q : Sels Span → Tokens → Tokens → Type 0} {front left stays tokens a : Tokens} (f : Tokens) → tokens ≡ f ++ a →
    Kept behind_definition P tokens a → DocumentHole h b r Q front left stays a → IsSome front →
    DocumentHole h b r (λ new. Then P (Q new)) (f ++ front) left stays tokens
before_document {P} {Q = Q} {front} {left} {stays} {tokens} {a} f cut v w some =
    let same : v.front ≡ f = append_cancel_right v.front f a (sym v.split ∙ cut) in
    record {
      tail = w.tail;
      split = cut ∙ ap (λ (l : Tokens). f ++ l) w.split ∙ sym (append_assoc f front w.tail);
      stands = w.stands;
      again = λ us x vs after g c s p d q m.
          let k = cut_alike f front us p in
          let A : Tokens → Type 0 = λ l. AreAlike l k.first in
          let N : Tokens → Type 0 = λ l. MayFollow behind_definition l (k.second ++ x) in
          let next = subst N (sym w.split) (some_alike behind_definition front k.second w.tail x some k.rest) in
          let first = v.again k.first (k.second ++ x) (subst A (sym same) k.alike) next in
          let second = w.again k.second x vs after g c s k.rest d q m in
          let whole : us ++ x ≡ k.first ++ (k.second ++ x) = ap (λ (l : Tokens). l ++ x) k.whole ∙ append_assoc k.first k.second x in
          let S : Tokens → Type 0 = λ l. P l (k.second ++ x) in
          (k.second ++ x, subst S (sym whole) first, second);
    }

turned_document : {h : Head Span} {b r : Sels Span} {P Q : Sels Span → Tokens → Tokens → Type 0} {front left stays tokens : Tokens} →
    ((g : Head Span) (c s : Sels Span) (x y : Tokens) → P (more g c s) x y → Q (more g c s) x y) → DocumentHole h b r P front left stays tokens → DocumentHole h b r Q front left stays tokens
turned_document f w = record { tail = w.tail; split = w.split; stands = w.stands; again = λ us x vs after g c s p d q m. f g c s (us ++ x) after (w.again us x vs after g c s p d q m) }

-- one definition before those of which one's selections change
one_with : (d : Def Span) (n : ℕ) (w : Way) (ds : List (Def Span)) (new : Sels Span) {x y : Tokens} → Then (DefinitionLike d) (DocumentWith n w ds new) x y → DocumentWith (suc n) w (d ∷ ds) new x y
one_with d n w ds new q added t = let z = q.2 added t in (q.1.0 ∷ z.0, definition q.0 q.1.1 z.1, let e1 = q.1.2 in let e2 = z.2 in cc)

-- two parts of a document's tokens, with the last selections of a set in the second
pub record HoleIn (front behind : Tokens) (h : Head Span) (b r : Sels Span) (Q : Sels Span → Tokens → Tokens → Type 0) : Type 0 where
  pub between : Tokens
  pub left : Tokens
  pub hole : DocumentHole h b r Q (front ++ between) left left (front ++ behind)
  pub is_some : IsSome (front ++ between)

-- Where a definition goes, and the last selections of a set stand behind it.
pub record HoleBehind (m : ℕ) (ds : List (Def Span)) (h : Head Span) (b r : Sels Span) (Q : Sels Span → Tokens → Tokens → Type 0) (tokens : Tokens) : Type 0 where
  pub front : Tokens
  pub gone : Tokens
  pub behind : Tokens
  pub cut : tokens ≡ front ++ (gone ++ behind)
  pub is_some : IsSome gone
  pub some_before : (k : ℕ) → m ≡ suc k → IsSome front
  pub covers : (d : Def Span) → IsAt d m ds → Covers d gone
  pub others : (ds' : List (Def Span)) × IsDocument ds' behind
  pub hole : (FollowsType m ds → MayFollow behind_definition [] behind) → HoleIn front behind h b r Q

hole_over : (front between behind : Tokens) {h : Head Span} {b r : Sels Span} {Q : Sels Span → Tokens → Tokens → Type 0} {left : Tokens} (f : Tokens) →
    DocumentHole h b r Q (f ++ (front ++ between)) left left (f ++ (front ++ behind)) → DocumentHole h b r Q ((f ++ front) ++ between) left left ((f ++ front) ++ behind)
hole_over front between behind {h} {b} {r} {Q} {left} f w =
    let P : Tokens → Type 0 = λ l. DocumentHole h b r Q l left left (f ++ (front ++ behind)) in
    let R : Tokens → Type 0 = λ l. DocumentHole h b r Q ((f ++ front) ++ between) left left l in
    subst R (sym (append_assoc f front behind)) (subst P (sym (append_assoc f front between)) w)

some_over : (f g z : Tokens) → IsSome f → IsSome ((f ++ g) ++ z)
some_over f g z some = some_more (f ++ g) z (some_more f g some)

pub hole_behind : (m n : ℕ) (w : Way) (e d : Def Span) {ds : List (Def Span)} {h : Head Span} {b r : Sels Span} {tokens : Tokens} → m ≤ n → IsDocument ds tokens → IsAt e m ds → IsAt d (suc n) ds →
    tail_at w (set_in d) ≡ more h b r → HoleBehind m ds h b r (DocumentWith n w (without m ds)) tokens
hole_behind m n w e d l at_end i at is = absurd i
hole_behind zero n w e d l (definition {d = x} {ds = ds} a one others) i at is =
    let f = first_of_document (definition a one others) in
    let H = document_hole n w d f.others at is in
    record {
      front = [];
      gone = f.gone;
      behind = f.behind;
      cut = f.split;
      is_some = f.is_some;
      some_before = λ k q. absurd (omega (arith, q));
      covers = λ x j. subst (λ (z : Def Span). Covers z f.gone) j f.covers;
      others = (ds, f.others);
      hole = λ fits. record { between = H.0.front; left = H.0.left; hole = all_stays H.0; is_some = H.1 };
    }
hole_behind (suc zero) n w e d l (definition a one at_end) i at is = absurd i
hole_behind (suc zero) zero w e d l (definition a one (definition b two others)) i at is = absurd (omega (arith, l))
hole_behind (suc zero) (suc n) w e d l (definition {d = x} a one (definition {d = g} {ds = ds} b two others)) i at is =
    let f = first_of_document (definition b two others) in
    let H = document_hole n w d f.others at is in
    let k = definition_kept asks_definition one in
    record {
      front = k.front;
      gone = f.gone;
      behind = f.behind;
      cut = k.split ∙ ap (λ (l : Tokens). k.front ++ l) f.split;
      is_some = f.is_some;
      some_before = λ n q. some_front k.front a k.split (past_definition one);
      covers = λ x j. subst (λ (z : Def Span). Covers z f.gone) j f.covers;
      others = (ds, f.others);
      hole = λ fits.
          let m = moved f.behind one fits in
          let same : m.front ≡ k.front = append_cancel_right m.front k.front a (sym m.split ∙ k.split) in
          let v = kept_at (ap (λ (l : Tokens). l ++ f.behind) same) m.kept in
          record {
            between = H.0.front;
            left = H.0.left;
            hole = turned_document (λ y c s u v q. one_with x n w ds (more y c s) q) (before_document k.front refl v (all_stays H.0) H.1);
            is_some = some_more k.front H.0.front (some_front k.front a k.split (past_definition one));
          };
    }
hole_behind (suc (suc m)) zero w e d l (definition a one others) i at is = absurd (omega (arith, l))
hole_behind (suc (suc m)) (suc n) w e d {tokens = tokens} l (definition {d = x} {ds = ds} a one others) i at is =
    let g = hole_behind (suc m) n w e d (omega (arith, l)) others i at is in
    let P : Tokens → Type 0 = λ l. IsDefinition x tokens l in
    let m' = moved_alike g.front (g.gone ++ g.behind) g.behind (g.some_before m refl) (subst P g.cut one) in
    record {
      front = m'.front ++ g.front;
      gone = g.gone;
      behind = g.behind;
      cut = m'.split ∙ sym (append_assoc m'.front g.front (g.gone ++ g.behind));
      is_some = g.is_some;
      some_before = λ k q. some_more m'.front g.front m'.is_some;
      covers = g.covers;
      others = g.others;
      hole = λ fits.
          let j = g.hole fits in
          record {
            between = j.between;
            left = j.left;
            hole = turned_document (λ y c s u v q. one_with x n w (without (suc m) ds) (more y c s) q)
                (hole_over g.front j.between g.behind m'.front (before_document m'.front refl m'.kept j.hole j.is_some));
            is_some = some_over m'.front g.front j.between m'.is_some;
          };
    }

-- Where a definition goes, and the last selections of a set stand before it.
pub record HoleBefore (m : ℕ) (ds : List (Def Span)) (h : Head Span) (b r : Sels Span) (Q : Sels Span → Tokens → Tokens → Type 0) (tokens : Tokens) : Type 0 where
  pub front : Tokens
  pub between : Tokens
  pub gone : Tokens
  pub behind : Tokens
  pub is_some : IsSome gone
  pub some_front : IsSome front
  pub covers : (d : Def Span) → IsAt d m ds → Covers d gone
  pub others : (ds' : List (Def Span)) × IsDocument ds' behind
  pub hole : (FollowsType m ds → MayFollow behind_definition [] behind) → DocumentHole h b r Q front (between ++ (gone ++ behind)) (between ++ behind) tokens

follows_on : (m : ℕ) (d : Def Span) (ds : List (Def Span)) → FollowsType m ds → FollowsType (suc m) (d ∷ ds)
follows_on zero d ds h = absurd h
follows_on (suc m) d ds h = h

join : (x : Def Span) (w : Way) (new : Sels Span) (y : Tokens) {z : Tokens} → DefinitionWith w x new z y → (ds added : List (Def Span)) →
    (ds' : List (Def Span)) × IsDocument ds' y × (erase_document ds' ≡ erase_document ds ++ erase_document added) →
    (ds' : List (Def Span)) × IsDocument ds' z × (erase_document ds' ≡ with_definition zero (with_tail w (erase_all new)) (x ∷ ds) ++ erase_document added)
join x w new y u ds added n = (u.0 ∷ n.0, definition y u.1 n.1, let e1 = u.2 in let e2 = n.2 in cc)

hole_first : (m : ℕ) (w : Way) (e d : Def Span) {x : Def Span} {ds : List (Def Span)} {h : Head Span} {b r : Sels Span} {tokens a : Tokens} → IsDefinition x tokens a → IsDocument ds a →
    IsAt e m ds → x ≡ d → tail_at w (set_in d) ≡ more h b r →
    HoleBefore (suc m) (x ∷ ds) h b r (DocumentWith zero w (x ∷ without m ds)) tokens
hole_first m w e d {x} {ds} {h} {b} {r} {tokens} {a} one others i at is =
    let V = definition_hole {asked = nothing} w one (ap (λ (l : Def Span). tail_at w (set_in l)) at ∙ is) in
    let v = V.0 in
    let g = gone_at m e others i in
    let left_is : v.left ≡ (v.back ++ g.front) ++ (g.gone ++ g.behind) = v.ends ∙ ap (λ (l : Tokens). v.back ++ l) g.cut ∙ sym (append_assoc v.back g.front (g.gone ++ g.behind)) in
    record {
      front = v.front;
      between = v.back ++ g.front;
      gone = g.gone;
      behind = g.behind;
      is_some = g.is_some;
      some_front = V.1;
      covers = g.covers;
      others = g.others;
      hole = λ fits.
          let K = g.kept (λ t. fits (follows_on m x ds t)) in
          record {
            tail = v.tail;
            split = v.split;
            stands = let P : Tokens → Type 0 = λ l. IsSelections (more h b r) v.tail l in subst P left_is v.stands;
            again = λ us y vs after g' c s p q t mf.
                let A : Tokens → Type 0 = λ l. AreAlike l vs in
                let k = cut_alike v.back (g.front ++ g.behind) vs (subst A (append_assoc v.back g.front g.behind) t) in
                let B : Tokens → Type 0 = λ l. AreAlike l k.second in
                let z = K.again k.second after (subst B (K.split ∙ append-nil K.front) k.rest) mf in
                let e1 : vs ++ after ≡ k.first ++ (k.second ++ after) = ap (λ (l : Tokens). l ++ after) k.whole ∙ append_assoc k.first k.second after in
                let D : Tokens → Type 0 = λ l. IsSelections (more g' c s) y l in
                let u = v.again us y k.first (k.second ++ after) g' c s p (subst D e1 q) k.alike (record { kinds = λ k is. absurd (cc); words = λ w is. absurd (cc) }) in
                λ added t. join x w (more g' c s) (k.second ++ after) u (without m ds) added (z added t);
          };
    }

pub hole_before : (n m : ℕ) (w : Way) (e d : Def Span) {ds : List (Def Span)} {h : Head Span} {b r : Sels Span} {tokens : Tokens} → n ≤ m → IsDocument ds tokens → IsAt e (suc m) ds → IsAt d n ds →
    tail_at w (set_in d) ≡ more h b r → HoleBefore (suc m) ds h b r (DocumentWith n w (without (suc m) ds)) tokens
hole_before n m w e d l at_end i at is = absurd i
hole_before zero m w e d l (definition a one others) i at is = hole_first m w e d one others i at is
hole_before (suc n) zero w e d l (definition a one others) i at is = absurd (omega (arith, l))
hole_before (suc n) (suc m) w e d l (definition {d = x} {ds = ds} a one others) i at is =
    let g = hole_before n m w e d (omega (arith, l)) others i at is in
    let k = definition_kept asks_definition one in
    record {
      front = k.front ++ g.front;
      between = g.between;
      gone = g.gone;
      behind = g.behind;
      is_some = g.is_some;
      some_front = some_more k.front g.front (some_front k.front a k.split (past_definition one));
      covers = g.covers;
      others = g.others;
      hole = λ fits. turned_document (λ y c s u v q. one_with x n w (without (suc m) ds) (more y c s) q) (before_document k.front k.split k (g.hole fits) g.some_front);
    }
