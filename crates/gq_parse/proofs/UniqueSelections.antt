-- Selections are read in one way at most.
use Rattle.std.proofs.Common.{◌≡◌, refl, sym, Option}
use Rattle.gq_text.specs.declared.place.Span.{Span}
use Rattle.gq_lex.specs.declared.token.Kind.TheVariants as kind
use Rattle.gq_tree.specs.Plain.{NameOf, Head, Sels}
use Rattle.gq_parse.specs.Grammar.{Tokens, IsPunctuator, IsFieldName, IsSelection, a_field, a_spread, an_inline, IsOptionalSet, no_set, a_set, IsSelectionSet, braces, IsSelections, set_closed, selection}
use Rattle.gq_parse.specs.Helping.Phrases.{Begins}
use Rattle.gq_parse.proofs.Unique.{one_kind, not_next, moved, punctuator_begins, same_punctuator, same_fragment_name, same_optional_condition, name_or_condition, same_field_name, field_name_begins}
use Rattle.gq_parse.proofs.UniqueValues.{same_arguments, same_directives}

-- a field and what begins with dots
pub field_or_dots : {x : Option (NameOf Span)} {n : NameOf Span} {tokens other a b : Tokens} → IsFieldName x n tokens a → tokens ≡ other → IsPunctuator kind.Spread other b → ⊥
field_or_dots n same m = let h = one_kind _ _ _ (moved _ same (field_name_begins n)) (punctuator_begins m) in cc

-- no selection begins with a closing brace
pub selection_or_close : {s : Head Span} {ss : Sels Span} {tokens a : Tokens} → IsSelection s ss tokens a → Begins kind.BraceClose tokens → ⊥
selection_or_close (a_field a b c n r d o) begins = let h = one_kind _ _ _ (field_name_begins n) begins in cc
selection_or_close (a_spread a b m n d) begins = let h = one_kind _ _ _ (punctuator_begins m) begins in cc
selection_or_close (an_inline a b c m t d s) begins = let h = one_kind _ _ _ (punctuator_begins m) begins in cc

mutual
  pub same_selection : {s z : Head Span} {ss zz : Sels Span} {tokens other a b : Tokens} → IsSelection s ss tokens a → tokens ≡ other → IsSelection z zz other b → (s ≡ z) × (ss ≡ zz) × (a ≡ b)
  same_selection (a_field a b c n r d o) same (a_field a2 b2 c2 n2 r2 d2 o2) =
      let e = same_field_name n same n2 in
      let f = same_arguments r e.2 r2 in
      let g = same_directives d f.1 d2 in
      let h = same_optional_set o g.1 o2 in
      let e0 = e.0 in
      let e1 = e.1 in
      let f0 = f.0 in
      let g0 = g.0 in
      let h0 = h.0 in
      let h2 = h.2 in
      (cc, h.1, h2)
  same_selection (a_field a b c n r d o) same (a_spread a2 b2 m2 n2 d2) = absurd (field_or_dots n same m2)
  same_selection (a_field a b c n r d o) same (an_inline a2 b2 c2 m2 t2 d2 s2) = absurd (field_or_dots n same m2)
  same_selection (a_spread a b m n d) same (a_field a2 b2 c2 n2 r2 d2 o2) = absurd (field_or_dots n2 (sym same) m)
  same_selection (a_spread a b m n d) same (a_spread a2 b2 m2 n2 d2) =
      let e = same_fragment_name n (same_punctuator m same m2) n2 in
      let f = same_directives d e.1 d2 in
      let e0 = e.0 in
      let f0 = f.0 in
      let f1 = f.1 in
      (cc, refl, f1)
  same_selection (a_spread a b m n d) same (an_inline a2 b2 c2 m2 t2 d2 s2) = absurd (name_or_condition n (same_punctuator m same m2) t2)
  same_selection (an_inline a b c m t d s) same (a_field a2 b2 c2 n2 r2 d2 o2) = absurd (field_or_dots n2 (sym same) m)
  same_selection (an_inline a b c m t d s) same (a_spread a2 b2 m2 n2 d2) = absurd (name_or_condition n2 (sym (same_punctuator m same m2)) t)
  same_selection (an_inline a b c m t d s) same (an_inline a2 b2 c2 m2 t2 d2 s2) =
      let e = same_optional_condition t (same_punctuator m same m2) t2 in
      let f = same_directives d e.1 d2 in
      let g = same_selection_set s f.1 s2 in
      let e0 = e.0 in
      let f0 = f.0 in
      let f1 = f.1 in
      let g1 = g.1 in
      (cc, g.0, g1)

  pub same_optional_set : {s z : Option Span} {ss zz : Sels Span} {tokens other a b : Tokens} → IsOptionalSet s ss tokens a → tokens ≡ other → IsOptionalSet z zz other b → (s ≡ z) × (ss ≡ zz) × (a ≡ b)
  same_optional_set (no_set free) same (no_set free2) = (refl, refl, same)
  same_optional_set (no_set free) same (a_set (braces a2 m2 body2)) = absurd (not_next _ _ free (moved _ (sym same) (punctuator_begins m2)))
  same_optional_set (a_set (braces a m body)) same (no_set free2) = absurd (not_next _ _ free2 (moved _ same (punctuator_begins m)))
  same_optional_set (a_set s) same (a_set s2) =
      let r = same_selection_set s same s2 in
      let r1 = r.1 in
      (cc, r.0, r1)

  pub same_selection_set : {ss zz : Sels Span} {tokens other a b : Tokens} → IsSelectionSet ss tokens a → tokens ≡ other → IsSelectionSet zz other b → (ss ≡ zz) × (a ≡ b)
  same_selection_set (braces a m body) same (braces a2 m2 body2) = same_selections body (same_punctuator m same m2) body2

  pub same_selections : {ss zz : Sels Span} {tokens other a b : Tokens} → IsSelections ss tokens a → tokens ≡ other → IsSelections zz other b → (ss ≡ zz) × (a ≡ b)
  same_selections (set_closed m) same (set_closed m2) = (refl, same_punctuator m same m2)
  same_selections (set_closed m) same (selection a2 sel2 body2) = absurd (selection_or_close sel2 (moved _ same (punctuator_begins m)))
  same_selections (selection a sel body) same (set_closed m2) = absurd (selection_or_close sel (moved _ (sym same) (punctuator_begins m2)))
  same_selections (selection a sel body) same (selection a2 sel2 body2) =
      let e = same_selection sel same sel2 in
      let r = same_selections body e.2 body2 in
      let e0 = e.0 in
      let e1 = e.1 in
      let r0 = r.0 in
      (cc, r.1)
