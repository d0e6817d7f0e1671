-- Other selections in the place of the last ones of a set of a document.
use Rattle.std.proofs.Common.{◌≡◌, ℕ, zero, suc, List, [], ◌∷◌, ◌++◌, Bool, true, false, None, refl, sym, ap, subst, ◌∙◌, append-nil}
use Rattle.std.specs.Prelude.{nat_eq}
use Rattle.gq_text.specs.declared.place.Span.{Span}
use Rattle.gq_lex.specs.declared.token.Kind.{Kind}
use Rattle.gq_lex.specs.declared.token.Kind.TheVariants as kind
use Rattle.gq_tree.specs.declared.tree.OperationKind.TheVariants.{Query}
use Rattle.gq_tree.specs.Forest.{more}
use Rattle.gq_tree.specs.Plain.{Head, Sels, Def, operation, fragment, erase_all, erase_document}
use Rattle.gq_parse.specs.Grammar.{Tokens, covered, IsSelections, bare, typed, fragment_on}
use Rattle.gq_parse.specs.Documents.{IsDefinition, an_operation, a_fragment, a_type_system_definition, IsDocument, at_end, definition}
use Rattle.gq_renamed.proofs.Regrammar.{plain_def}
use Rattle.gq_rewritten.specs.Rewrites.{with_set}
use Rattle.gq_laws.specs.Cutting.Standing.{set_in}
use Rattle.gq_laws.proofs.Cutting.Alike.{AreAlike}
use Rattle.gq_laws.proofs.Cutting.Phrases.{Asked, MayFollow, Kept, next_alike, none_alike, both, turned}
use Rattle.gq_laws.proofs.Cutting.Definitions.{AsksDefinition, before_operation_set, before_fragment_set, definition_kept}
use Rattle.gq_laws.proofs.Cutting.Holes.{Way, tail_at, with_tail, none_at, Hole, SomeHole, turned_placed, before_placed, behind_placed, set_hole}

-- a definition with other selections at the end of a way
abbrev pub DefinitionWith : Way → Def Span → Sels Span → Tokens → Tokens → Type 0
DefinitionWith w d new x y = (d' : Def Span) × IsDefinition d' x y × (plain_def d' ≡ with_set (with_tail w (erase_all new)) d)

pub definition_hole : {asked : Asked} (w : Way) {d : Def Span} {h : Head Span} {b r : Sels Span} {tokens rest : Tokens} → IsDefinition d tokens rest → tail_at w (set_in d) ≡ more h b r →
    SomeHole asked h b r (DefinitionWith w d) tokens rest
definition_hole w (an_operation (bare set)) e =
    turned_placed (λ g c s x y q. (operation Query None [] [] q.0 (covered x y) (covered x y), an_operation (bare q.1), let e = q.2 in cc)) (set_hole w set e)
definition_hole w (an_operation (typed {type = type} {name = name} {variables = vs} {directives = ds} {ss = ss} a b c d word n vars dirs set)) e =
    turned_placed (λ g i z x y q.
    let q1 = q.1.2 in
    let q2 = q1.2 in
    let s = q.2 in (
      operation type q1.1.0 q2.1.0 q2.2.0 s.0 (covered q.0 y) (covered x y),
      an_operation (typed q.1.0 q1.0 q2.0 q.0 q.1.1 q1.1.1 q2.1.1 q2.2.1 s.1),
      let e1 = q1.1.2 in let e2 = q2.1.2 in let e3 = q2.2.2 in let e4 = s.2 in cc,
    ))
    (before_placed (before_operation_set word n vars dirs) (set_hole w set e))
definition_hole w (a_fragment (fragment_on {name = name} {on = on} {directives = ds} {ss = ss} a b c d first word n cond dirs set)) e =
    turned_placed (λ g i z x y q.
    let q1 = q.1.2 in
    let q2 = q1.2 in
    let s = q.2 in (
      fragment q1.1.0 q2.1.0 q2.2.0 s.0 (covered q.0 y) (covered x y),
      a_fragment (fragment_on q.1.0 q1.0 q2.0 q.0 q.1.1.0 q.1.1.1 q1.1.1 q2.1.1 q2.2.1 s.1),
      let e1 = q1.1.2 in let e2 = q2.1.2 in let e3 = q2.2.2 in let e4 = s.2 in cc,
    ))
    (before_placed (before_fragment_set word n cond dirs) (set_hole w set e))
definition_hole w (a_type_system_definition h) e = absurd (none_at w e)

-- words that `implements` may be, and no definition begins with
abbrev pub begins_as_implements : List ℕ → Bool
begins_as_implements [] = false
begins_as_implements (c ∷ []) = false
begins_as_implements (c ∷ d ∷ cs) = nat_eq d 109

-- the kinds of tokens with which a definition goes on where it can
abbrev pub goes_on : Kind → Bool
goes_on kind.ParenOpen = true
goes_on kind.At = true
goes_on kind.BraceOpen = true
goes_on kind.Bang = true
goes_on kind.Equals = true
goes_on kind.Pipe = true
goes_on kind.Ampersand = true
goes_on _ = false

-- what a definition may not have behind it
abbrev pub behind_definition : Asked
behind_definition = record { kinds = goes_on; words = begins_as_implements }

pub asks_definition : AsksDefinition behind_definition
asks_definition = record { paren = refl; at = refl; brace = refl; bang = refl; equals = refl; pipe = refl; ampersand = refl; implements = refl }

-- definitions, and others behind them
abbrev pub Definitions : List (Def Span) → Tokens → Tokens → Type 0
Definitions ds x y = (added : List (Def Span)) → IsDocument added y → (ds' : List (Def Span)) × IsDocument ds' x × (erase_document ds' ≡ erase_document ds ++ erase_document added)

pub document_kept : {ds : List (Def Span)} {tokens : Tokens} → IsDocument ds tokens → Kept behind_definition (Definitions ds) tokens []
document_kept at_end = record {
  front = [];
  split = refl;
  again = λ us after r s added d. let P : Tokens → Type 0 = λ l. IsDocument added l in (added, subst P (sym (none_alike us after r)) d, refl);
}
document_kept (definition {d = d} {ds = ds} a one others) =
    turned (λ x y q added t. let z = q.2 added t in (q.1.0 ∷ z.0, definition q.0 q.1.1 z.1, let e1 = q.1.2 in let e2 = z.2 in cc))
    (both (definition_kept asks_definition one) (document_kept others))

-- the definition of this number
abbrev pub IsAt : Def Span → ℕ → List (Def Span) → Type 0
IsAt d n [] = ⊥
IsAt d zero (e ∷ ds) = e ≡ d
IsAt d (suc n) (e ∷ ds) = IsAt d n ds

-- definitions with the selections of that one changed, and others behind them
abbrev pub with_definition : ℕ → (Sels Span → Sels (Unit {0})) → List (Def Span) → List (Def (Unit {0}))
with_definition n change [] = []
with_definition zero change (d ∷ ds) = with_set change d ∷ erase_document ds
with_definition (suc n) change (d ∷ ds) = plain_def d ∷ with_definition n change ds

abbrev pub DocumentWith : ℕ → Way → List (Def Span) → Sels Span → Tokens → Tokens → Type 0
DocumentWith n w ds new x y =
    (added : List (Def Span)) → IsDocument added y → (ds' : List (Def Span)) × IsDocument ds' x × (erase_document ds' ≡ with_definition n (with_tail w (erase_all new)) ds ++ erase_document added)

pub document_hole : (n : ℕ) (w : Way) (d : Def Span) {ds : List (Def Span)} {h : Head Span} {b r : Sels Span} {tokens : Tokens} → IsDocument ds tokens → IsAt d n ds →
    tail_at w (set_in d) ≡ more h b r → SomeHole behind_definition h b r (DocumentWith n w ds) tokens []
document_hole n w d at_end i e = absurd i
document_hole zero w d {h = h} {b} {r} (definition {d = one} {ds = ds} a first others) i e =
    let k = document_kept others in
    turned_placed (λ g c s x y q added t. let z = q.2 added t in (q.1.0 ∷ z.0, definition q.0 q.1.1 z.1, let e1 = q.1.2 in let e2 = z.2 in cc))
    (behind_placed (definition_hole {asked = behind_definition} w first (ap (λ (l : Def Span). tail_at w (set_in l)) i ∙ e)) k (λ us after p m. next_alike behind_definition k.front us [] after p m))
document_hole (suc n) w d (definition {d = one} {ds = ds} a first others) i e =
    turned_placed (λ g c s x y q added t. let z = q.2 added t in (q.1.0 ∷ z.0, definition q.0 q.1.1 z.1, let e1 = q.1.2 in let e2 = z.2 in cc))
    (before_placed (definition_kept asks_definition first) (document_hole n w d others i e))

-- tokens of which it is known that they are a document of that tree
abbrev pub HasTree : Tokens → List (Def (Unit {0})) → Type 0
HasTree x tree = (ds : List (Def Span)) × IsDocument ds x × (erase_document ds ≡ tree)

pub finished : (zs x : Tokens) → zs ≡ x → {one other : List (Def (Unit {0}))} → HasTree x one → one ≡ other → HasTree zs other
finished zs x e d i = let P : Tokens → Type 0 = λ l. IsDocument d.0 l in (d.0, subst P (sym e) d.1, d.2 ∙ i)

pub two_parts : {A : Type 0} {a b c d : List A} → a ≡ b → c ≡ d → a ++ c ≡ b ++ d
two_parts {A} {a} {b} {c} {d} e f = ap (λ (l : List A). l ++ c) e ∙ ap (λ (l : List A). b ++ l) f

-- a document may end
pub nothing_behind : MayFollow behind_definition [] []
nothing_behind = record { kinds = λ k is h. h; words = λ w is h. h }

-- The last selections of a set stand in the tokens of a document, behind some of them and before others, of which not all may stay.
pub record DocumentHole (h : Head Span) (b r : Sels Span) (Q : Sels Span → Tokens → Tokens → Type 0) (front left stays tokens : Tokens) : Type 0 where
  pub tail : Tokens
  pub split : tokens ≡ front ++ tail
  pub stands : IsSelections (more h b r) tail left
  pub again : (us x vs after : Tokens) (g : Head Span) (c s : Sels Span) → AreAlike front us → IsSelections (more g c s) x (vs ++ after) → AreAlike stays vs → MayFollow behind_definition [] after →
      Q (more g c s) (us ++ x) after

pub all_stays : {h : Head Span} {b r : Sels Span} {Q : Sels Span → Tokens → Tokens → Type 0} {tokens : Tokens} (w : Hole behind_definition h b r Q tokens []) →
    DocumentHole h b r Q w.front w.left w.left tokens
all_stays w = record {
  tail = w.tail;
  split = w.split;
  stands = w.stands;
  again = λ us x vs after g c s p d q m. let A : Tokens → Type 0 = λ l. AreAlike l vs in w.again us x vs after g c s p d (subst A (w.ends ∙ append-nil w.back) q) m;
}
