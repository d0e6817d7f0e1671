-- A spread that becomes an inline fragment.
use Rattle.std.proofs.Common.{◌≡◌, Bool, true, false, List, Some, refl, sym, ap, subst, map}
use Rattle.std.specs.Prelude.{if◌then◌else◌}
use Rattle.gq_text.specs.declared.place.Span.{Span}
use Rattle.gq_tree.specs.Forest.{none, more}
use Rattle.gq_tree.specs.Plain as tree
use Rattle.gq_tree.specs.Plain.{Head, Sel, Sels, no_place, place_head, place_directive, erase_all}
use Rattle.gq_meaning.specs.Values.{Text}
use Rattle.gq_meaning.specs.Selected as selected
use Rattle.gq_meaning.specs.Selected.{Set, bare, put_before, set_of}
use Rattle.gq_meaning.specs.Expand.{Definition}
use Rattle.gq_meaning.specs.Rewritten.{Static, Rewritten, same_end, inlined}
use Rattle.gq_rewritten.specs.Rewrites.{Bare, head_place, same_place, inlined_head, with_inlined}
use Rattle.gq_laws.specs.Rewriting.KnownBefore.{Each, IsTyped, IsKnown}
use Rattle.gq_laws.proofs.Rewriting.Conditions.{IsInlinable, IsInlinedOrFound}
use Rattle.gq_laws.proofs.Rewriting.Sets.{typed_after}
use Rattle.gq_laws.proofs.Rewriting.Heads.{head_stays, head_forgets, known_stays}

module _ (static : Static) (ds ds' : List Definition) (place : Span) (on : Text) (set : Sels Span) (known : IsKnown static ds ds' on set) where
  abbrev Becomes : Text → Set → Set → Type 0
  Becomes = Rewritten static ds ds'

  abbrev after : Sels Span → Bare
  after = with_inlined place on (erase_all set)

  test : (h : Head Span) (below rest : Sels Span) (b : Bool) → same_place (head_place h) place ≡ b →
      after (more h below rest) ≡ (if b then more (inlined_head on h) (erase_all set) (after rest) else more (place_head no_place h) (after below) (after rest))
  test h below rest b e = ap (λ z. if z then more (inlined_head on h) (erase_all set) (after rest) else more (place_head no_place h) (after below) (after rest)) e

  at_spread : (t : Text) (h : Head Span) (below rest : Sels Span) → IsInlinable ds on set h → Becomes t (set_of rest) (set_of (after rest)) →
      Becomes t (set_of (more h below rest)) (set_of (more (inlined_head on h) (erase_all set) (after rest)))
  at_spread t (tree.field alias name arguments directives braces p) below rest h next = absurd h
  at_spread t (tree.spread name directives p) below rest h next =
      subst (λ z. Becomes t (selected.spread (bare directives) name.text (set_of rest)) (selected.inline z (Some on) (set_of (erase_all set)) (set_of (after rest)))) (sym (spread_directives name directives p))
      (subst (λ z. Becomes t (selected.spread (bare directives) name.text (set_of rest)) (selected.inline (bare directives) (Some z) (set_of (erase_all set)) (set_of (after rest)))) h.is_on
      (inlined h.definition h.is_found
      (subst (λ z. Becomes h.definition.on z (set_of (erase_all set))) (sym h.selects) (subst (λ z. Becomes z (set_of set) (set_of (erase_all set))) (sym h.is_on) (known_stays static ds ds' on set known))) next))
    where
      spread_directives : (name : tree.NameOf Span) (directives : List (tree.DirectiveOf Span)) (p : Span) → bare (map (place_directive no_place) directives) ≡ bare directives
      spread_directives name directives p = let e = head_forgets (tree.spread name directives p) selected.none selected.none in cc
  at_spread t (tree.inline condition directives braces p) below rest h next = absurd h

  by_place : (t : Text) (h : Head Span) (below rest : Sels Span) (b : Bool) → same_place (head_place h) place ≡ b → IsTyped static t (set_of (more h below rest)) → IsInlinedOrFound ds ds' place on set h →
      ((u : Text) → IsTyped static u (set_of below) → Becomes u (set_of below) (set_of (after below))) → (IsTyped static t (set_of rest) → Becomes t (set_of rest) (set_of (after rest))) →
      Becomes t (set_of (more h below rest)) (set_of (after (more h below rest)))
  by_place t h below rest true e typed here below_becomes rest_becomes =
      subst (λ z. Becomes t (set_of (more h below rest)) (set_of z)) (sym (test h below rest true e))
      (at_spread t h below rest (here.at_place e) (rest_becomes (typed_after static t h below rest typed)))
  by_place t h below rest false e typed here below_becomes rest_becomes =
      subst (λ z. Becomes t (set_of (more h below rest)) (set_of z)) (sym (test h below rest false e))
      (head_stays static ds ds' t h below rest (after below) (after rest) typed (here.elsewhere e) (λ u i typed_below. below_becomes u typed_below) (λ q. ap after q) rest_becomes)

  inlines : (t : Text) (sels : Sels Span) → IsTyped static t (set_of sels) → Each (IsInlinedOrFound ds ds' place on set) sels → Becomes t (set_of sels) (set_of (after sels))
  inlines t none typed all = same_end
  inlines t (more h below rest) typed all =
      by_place t h below rest (same_place (head_place h) place) refl typed all.0 (λ u typed_below. inlines u below typed_below all.1) (λ typed_rest. inlines t rest typed_rest all.2)

  -- The spread at a place becomes an inline fragment with the selections of its fragment.
  pub inline_becomes : (t : Text) (sels : Sels Span) → IsTyped static t (set_of sels) → Each (IsInlinedOrFound ds ds' place on set) sels → Becomes t (set_of sels) (set_of (after sels))
  inline_becomes t sels typed all = inlines t sels typed all
