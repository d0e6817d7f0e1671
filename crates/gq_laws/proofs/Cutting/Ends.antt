-- What may stand behind a selection.
use Rattle.std.proofs.Common.{◌≡◌, ℕ, List, [], ◌∷◌, Bool, true, false, refl, sym, ap, subst, ◌∙◌}
use Rattle.gq_text.specs.declared.place.Span.{Span}
use Rattle.gq_lex.specs.declared.token.Kind.{Kind}
use Rattle.gq_lex.specs.declared.token.Kind.TheVariants as kind
use Rattle.gq_tree.specs.Plain.{Sels}
use Rattle.gq_parse.specs.Grammar.{Tokens, NotNext, IsPunctuator, IsSpelled, no_alias, alias, a_field, a_spread, an_inline, IsSelections, set_closed, selection}
use Rattle.gq_laws.proofs.Cutting.Phrases.{Asked, MayFollow, AsksSelection}

-- the kinds of tokens that neither begin a selection nor close a set
abbrev pub begins_none : Kind → Bool
begins_none kind.Name = false
begins_none kind.Spread = false
begins_none kind.BraceClose = false
begins_none _ = true

-- what a selection may not have behind it
abbrev pub behind_selection : Asked
behind_selection = record { kinds = begins_none; words = λ w. false }

pub asks_selection : AsksSelection behind_selection
asks_selection = (refl, refl, refl, refl)

-- tokens that may stand behind any selection
abbrev pub Ends : Tokens → Type 0
Ends [] = Unit {0}
Ends (t ∷ ts) = begins_none t.kind ≡ false

pub ends_follow : (rest after : Tokens) → Ends after → MayFollow behind_selection rest after
ends_follow rest after h = record { kinds = λ k is free. by after k is h; words = λ w is free. absurd (cc) }
  where
    by : (x : Tokens) (k : Kind) → begins_none k ≡ true → Ends x → NotNext k x
    by [] k is h = tt
    by (t ∷ ts) k is h = λ e. let f : true ≡ false = sym is ∙ ap begins_none (sym e) ∙ h in cc

begins : {k : Kind} {x y : Tokens} → begins_none k ≡ false → IsPunctuator k x y → Ends x
begins is m = let P : Tokens → Type 0 = λ l. Ends l in subst P (sym m.first) (ap begins_none m.kind ∙ is)

begins_spelled : {k : Kind} {text : List ℕ} {place : Span} {x y : Tokens} → begins_none k ≡ false → IsSpelled k text place x y → Ends x
begins_spelled is m = let P : Tokens → Type 0 = λ l. Ends l in subst P (sym m.first) (ap begins_none m.kind ∙ is)

-- selections stand behind any selection
pub selections_end : {ss : Sels Span} {x y : Tokens} → IsSelections ss x y → Ends x
selections_end (set_closed m) = begins refl m
selections_end (selection a (a_field b c d (no_alias n free) args dirs set) others) = begins_spelled refl n
selections_end (selection a (a_field b c d (alias e f n m k) args dirs set) others) = begins_spelled refl n
selections_end (selection a (a_spread b c m n dirs) others) = begins refl m
selections_end (selection a (an_inline b c d m cond dirs set) others) = begins refl m
