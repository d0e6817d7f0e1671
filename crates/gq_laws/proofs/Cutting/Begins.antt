-- A selection begins with a Name or with three dots.
use Rattle.std.proofs.Common.{◌≡◌, [], ◌∷◌, ◌++◌, true, sym, ap, subst}
use Rattle.gq_text.specs.declared.place.Span.{Span}
use Rattle.gq_lex.specs.Tokens.{Lexeme}
use Rattle.gq_tree.specs.Forest.{more}
use Rattle.gq_tree.specs.Plain.{Head, Sels}
use Rattle.gq_parse.specs.Grammar.{Tokens, no_alias, alias, IsSelection, a_field, a_spread, an_inline, IsSelections, selection}
use Rattle.gq_laws.proofs.Cutting.Phrases.{IsSome}
use Rattle.gq_laws.proofs.Cutting.Words.{is_name_or_dots}

abbrev pub BeginsSelection : Tokens → Type 0
BeginsSelection [] = ⊥
BeginsSelection (t ∷ ts) = is_name_or_dots t.kind ≡ true

with_first : (t : Lexeme) (ts : Tokens) {tokens : Tokens} → tokens ≡ t ∷ ts → is_name_or_dots t.kind ≡ true → BeginsSelection tokens
with_first t ts is kind_is = subst BeginsSelection (sym is) kind_is

selection_begins : {h : Head Span} {b : Sels Span} {tokens rest : Tokens} → IsSelection h b tokens rest → BeginsSelection tokens
selection_begins (a_field x y z (no_alias n free) g ds s) = with_first n.token x n.first (ap is_name_or_dots n.kind)
selection_begins (a_field x y z (alias a b n p m) g ds s) = with_first n.token a n.first (ap is_name_or_dots n.kind)
selection_begins (a_spread a b p n ds) = with_first p.token a p.first (ap is_name_or_dots p.kind)
selection_begins (an_inline a b c p t ds s) = with_first p.token a p.first (ap is_name_or_dots p.kind)

pub selections_begin : {h : Head Span} {b r : Sels Span} {tokens rest : Tokens} → IsSelections (more h b r) tokens rest → BeginsSelection tokens
selections_begin (selection a h ss) = selection_begins h

pub begins_front : (front rest : Tokens) → IsSome front → BeginsSelection (front ++ rest) → BeginsSelection front
begins_front [] rest some b = absurd some
begins_front (t ∷ front) rest some b = b
