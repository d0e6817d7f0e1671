-- An inline fragment that says nothing goes.
use Rattle.std.proofs.Common.{◌≡◌, Bool, true, false, List, [], Some, None, refl, sym, ap, subst}
use Rattle.std.specs.Prelude.{if◌then◌else◌}
use Rattle.gq_text.specs.declared.place.Span.{Span}
use Rattle.gq_tree.specs.Forest.{none, more}
use Rattle.gq_tree.specs.Plain as tree
use Rattle.gq_tree.specs.Plain.{Head, Sel, Sels, no_place, place_head, erase_all}
use Rattle.gq_meaning.specs.Values.{Text}
use Rattle.gq_meaning.specs.Selected as selected
use Rattle.gq_meaning.specs.Selected.{Set, bare, put_before, set_of, join}
use Rattle.gq_meaning.specs.Expand.{Definition}
use Rattle.gq_meaning.specs.Rewritten.{Static, Rewritten, same_end, removed, removed_bare}
use Rattle.gq_rewritten.specs.Rewrites.{Bare, head_place, same_place, followed_by, without_braces}
use Rattle.gq_laws.specs.Rewriting.KnownBefore.{Each, IsTyped, IsSpreadFound, IsKnown, ends_here, ends_within, ends_after, SaysNothing, type_below}
use Rattle.gq_laws.proofs.Rewriting.Conditions.{OnlyNothingAt}
use Rattle.gq_laws.proofs.Rewriting.Sets.{set_followed, typed_after}
use Rattle.gq_laws.proofs.Rewriting.Heads.{head_stays, known_stays}

module _ (static : Static) (ds ds' : List Definition) (place : Span) where
  abbrev Becomes : Text → Set → Set → Type 0
  Becomes = Rewritten static ds ds'

  abbrev after : Sels Span → Bare
  after = without_braces place

  test : (h : Head Span) (below rest : Sels Span) (b : Bool) → same_place (head_place h) place ≡ b →
      after (more h below rest) ≡ (if b then followed_by (erase_all below) (after rest) else more (place_head no_place h) (after below) (after rest))
  test h below rest b e = ap (λ z. if z then followed_by (erase_all below) (after rest) else more (place_head no_place h) (after below) (after rest)) e

  at_inline : (t : Text) (h : Head Span) (below rest : Sels Span) → SaysNothing t h → IsTyped static t (set_of (more h below rest)) → Each (IsSpreadFound ds ds') below →
      Becomes t (set_of rest) (set_of (after rest)) → Becomes t (set_of (more h below rest)) (join (set_of (erase_all below)) (set_of (after rest)))
  at_inline t (tree.field alias name arguments directives braces p) below rest s typed found next = absurd s
  at_inline t (tree.spread name directives p) below rest s typed found next = absurd s
  at_inline t (tree.inline None directives braces p) below rest s typed found next =
      subst (λ w. Becomes t (selected.inline (bare w) None (set_of below) (set_of rest)) (join (set_of (erase_all below)) (set_of (after rest)))) (sym s.0)
      (removed_bare (known_stays static ds ds' t below (record { typed = typed.0; found = found })) next)
  at_inline t (tree.inline (Some on) directives braces p) below rest s typed found next =
      subst (λ w. Becomes t (selected.inline (bare w) (Some on.text) (set_of below) (set_of rest)) (join (set_of (erase_all below)) (set_of (after rest)))) (sym s.0)
      (subst (λ z. Becomes t (selected.inline [] (Some z) (set_of below) (set_of rest)) (join (set_of (erase_all below)) (set_of (after rest)))) (sym s.1)
      (removed (known_stays static ds ds' t below (record { typed = subst (λ z. IsTyped static z (set_of below)) s.1 typed.0; found = found })) next))

  by_place : (t : Text) (h : Head Span) (below rest : Sels Span) (b : Bool) → same_place (head_place h) place ≡ b → IsTyped static t (set_of (more h below rest)) → Each (IsSpreadFound ds ds') (more h below rest) →
      (same_place (head_place h) place ≡ true → SaysNothing t h) →
      ((u : Text) → type_below static t h ≡ Some u → IsTyped static u (set_of below) → Becomes u (set_of below) (set_of (after below))) → (IsTyped static t (set_of rest) → Becomes t (set_of rest) (set_of (after rest))) →
      Becomes t (set_of (more h below rest)) (set_of (after (more h below rest)))
  by_place t h below rest true e typed found only below_becomes rest_becomes =
      subst (λ z. Becomes t (set_of (more h below rest)) (set_of z)) (sym (test h below rest true e))
      (subst (λ z. Becomes t (set_of (more h below rest)) z) (sym (set_followed (erase_all below) (after rest)))
      (at_inline t h below rest (only e) typed found.1 (rest_becomes (typed_after static t h below rest typed))))
  by_place t h below rest false e typed found only below_becomes rest_becomes =
      subst (λ z. Becomes t (set_of (more h below rest)) (set_of z)) (sym (test h below rest false e))
      (head_stays static ds ds' t h below rest (after below) (after rest) typed found.0 below_becomes (λ q. ap after q) rest_becomes)

  removes : (t : Text) (sels : Sels Span) → IsTyped static t (set_of sels) → Each (IsSpreadFound ds ds') sels → OnlyNothingAt static place t sels → Becomes t (set_of sels) (set_of (after sels))
  removes t none typed found only = same_end
  removes t (more h below rest) typed found only =
      by_place t h below rest (same_place (head_place h) place) refl typed found (λ e. only t h below rest ends_here e)
      (λ u i typed_below. removes u below typed_below found.1 (λ v head b r ends. only v head b r (ends_within i ends)))
      (λ typed_rest. removes t rest typed_rest found.2 (λ v head b r ends. only v head b r (ends_after ends)))

  -- The selections of the inline fragment at a place stand in its place.
  pub remove_becomes : (t : Text) (sels : Sels Span) → IsKnown static ds ds' t sels → OnlyNothingAt static place t sels → Becomes t (set_of sels) (set_of (after sels))
  remove_becomes t sels known only = removes t sels known.typed known.found only
