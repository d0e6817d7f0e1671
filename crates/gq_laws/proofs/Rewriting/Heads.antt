-- A selection that stays, around what is below it and before what comes after it.
use Rattle.std.proofs.Common.{◌≡◌, ◌⊎◌, inl, inr, List, Some, None, refl, sym, ap, subst}
use Rattle.gq_text.specs.declared.place.Span.{Span}
use Rattle.gq_tree.specs.Forest as forest
use Rattle.gq_tree.specs.Plain as tree
use Rattle.gq_tree.specs.Plain.{NameOf, DirectiveOf, Head, Sels, no_place, place_name, place_directive, place_head, erase_all, erase_values}
use Rattle.gq_meaning.specs.Values.{Text}
use Rattle.gq_meaning.specs.Selected.{Set, none, field, bare, key_of, put_before, set_of}
use Rattle.gq_meaning.specs.Expand.{Definition}
use Rattle.gq_meaning.specs.Rewritten.{Static, Rewritten, same_end, same_leaf, same_field, same_spread, same_inline, same_bare}
use Rattle.gq_meaning.proofs.Places.{set_forgets}
use Rattle.gq_rewritten.specs.Rewrites.{Bare}
use Rattle.gq_laws.specs.Rewriting.KnownBefore.{Each, IsTyped, IsSpreadFound, IsKnown, type_below}
use Rattle.gq_laws.proofs.Rewriting.Sets.{nothing_in, typed_after}

-- the same head, its place forgotten
pub head_forgets : (h : Head Span) (set rest : Set) → put_before (place_head no_place h) set rest ≡ put_before h set rest
head_forgets (tree.field alias name arguments directives braces place) set rest =
    let e = set_forgets (forest.more (tree.field alias name arguments directives braces place) forest.none forest.none) in cc
head_forgets (tree.spread name directives place) set rest =
    let e = set_forgets (forest.more (tree.spread name directives place) forest.none forest.none) in cc
head_forgets (tree.inline on directives braces place) set rest =
    let e = set_forgets (forest.more (tree.inline on directives braces place) forest.none forest.none) in cc

module _ (static : Static) (ds ds' : List Definition) where
  abbrev Becomes : Text → Set → Set → Type 0
  Becomes = Rewritten static ds ds'

  around : (t : Text) (h : Head Span) (below : Sels Span) (below' : Set) (rest rest' : Set) → IsTyped static t (put_before h (set_of below) rest) → IsSpreadFound ds ds' h →
      ((u : Text) → type_below static t h ≡ Some u → IsTyped static u (set_of below) → Becomes u (set_of below) below') → (below ≡ forest.none → below' ≡ none) → Becomes t rest rest' →
      Becomes t (put_before h (set_of below) rest) (put_before h below' rest')
  around t (tree.field alias name arguments directives braces place) below below' rest rest' typed found next empty after = by typed.0
    where
      by : ((set_of below ≡ none) ⊎ ((c : Text) × (static t name.text ≡ Some c) × IsTyped static c (set_of below))) →
          Becomes t (field (bare directives) (key_of alias name) name.text (erase_values arguments) (set_of below) rest) (field (bare directives) (key_of alias name) name.text (erase_values arguments) below' rest')
      by (inl e) =
          subst (λ z. Becomes t (field (bare directives) (key_of alias name) name.text (erase_values arguments) z rest) (field (bare directives) (key_of alias name) name.text (erase_values arguments) below' rest')) (sym e)
          (subst (λ z. Becomes t (field (bare directives) (key_of alias name) name.text (erase_values arguments) none rest) (field (bare directives) (key_of alias name) name.text (erase_values arguments) z rest')) (sym (empty (nothing_in below e)))
          (same_leaf after))
      by (inr q) = same_field q.0 q.1 (next q.0 q.1 q.2) after
  around t (tree.spread name directives place) below below' rest rest' typed found next empty after = same_spread found.before found.after found.is_before found.is_after found.same_on after
  around t (tree.inline None directives braces place) below below' rest rest' typed found next empty after = same_bare (next t refl typed.0) after
  around t (tree.inline (Some on) directives braces place) below below' rest rest' typed found next empty after = same_inline (next on.text refl typed.0) after

  -- A selection that stays, where what is below it and what comes after it become others.
  pub head_stays : (t : Text) (h : Head Span) (below rest : Sels Span) (below' rest' : Bare) → IsTyped static t (set_of (forest.more h below rest)) → IsSpreadFound ds ds' h →
      ((u : Text) → type_below static t h ≡ Some u → IsTyped static u (set_of below) → Becomes u (set_of below) (set_of below')) → (below ≡ forest.none → below' ≡ forest.none) →
      (IsTyped static t (set_of rest) → Becomes t (set_of rest) (set_of rest')) →
      Becomes t (set_of (forest.more h below rest)) (set_of (forest.more (place_head no_place h) below' rest'))
  head_stays t h below rest below' rest' typed found next empty after =
      subst (λ z. Becomes t (put_before h (set_of below) (set_of rest)) z) (sym (head_forgets h (set_of below') (set_of rest')))
      (around t h below (set_of below') (set_of rest) (set_of rest') typed found next (λ e. ap set_of (empty e)) (after (typed_after static t h below rest typed)))

  stays : (t : Text) (sels : Sels Span) → IsTyped static t (set_of sels) → Each (IsSpreadFound ds ds') sels → Becomes t (set_of sels) (set_of (erase_all sels))
  stays t forest.none typed found = same_end
  stays t (forest.more h below rest) typed found =
      head_stays t h below rest (erase_all below) (erase_all rest) typed found.0 (λ u e typed_below. stays u below typed_below found.1) (λ e. ap erase_all e) (λ typed_rest. stays t rest typed_rest found.2)

  -- Selections stand for themselves.
  pub known_stays : (t : Text) (sels : Sels Span) → IsKnown static ds ds' t sels → Becomes t (set_of sels) (set_of (erase_all sels))
  known_stays t sels known = stays t sels known.typed known.found
