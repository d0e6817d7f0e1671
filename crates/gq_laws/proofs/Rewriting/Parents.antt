-- Selections with the types of their parents.
use Rattle.std.proofs.Common.{◌≡◌, ◌⊎◌, inl, inr, ℕ, ◌+◌, List, [], ◌∷◌, ◌++◌, Option, Some, None, refl, sym, ap, ◌∙◌, subst}
use Rattle.gq_text.specs.declared.place.Span.{Span}
use Rattle.gq_tree.specs.Forest as forest
use Rattle.gq_tree.specs.Forest.{Tree, row}
use Rattle.gq_tree.specs.Plain as tree
use Rattle.gq_tree.specs.Plain.{Head, Sel, Sels}
use Rattle.gq_types.specs.Entries.{Text, EntryOf}
use Rattle.gq_document.specs.Selections.{IsSelectionWithin, here, within, after, parent_below}
use Rattle.gq_meaning.specs.Selected.{Set, set_of}
use Rattle.gq_meaning.specs.Selected as selected
use Rattle.gq_meaning.specs.Rewritten.{Static}
use Rattle.gq_laws.specs.Rewriting.KnownBefore.{Each, IsTyped, type_below, EndsSet, ends_here, ends_within, ends_after}
use Rattle.gq_laws.specs.Rewriting.Places.{HoldsNone, AreNested}
use Rattle.gq_rewritten.specs.Rewrites.{head_place}
use Rattle.gq_laws.specs.Rewriting.Statics.{static_of}
use Rattle.gq_laws.proofs.Rewriting.Sets.{nothing_in, typed_after}

pub parent_is : (es : List EntryOf) (t : Text) (h : Head Span) → parent_below es (Some t) h ≡ type_below (static_of es) t h
parent_is es t (tree.field alias name arguments directives braces place) = refl
parent_is es t (tree.spread name directives place) = refl
parent_is es t (tree.inline None directives braces place) = refl
parent_is es t (tree.inline (Some on) directives braces place) = refl

-- What is so of each selection that stands among these.
pub each_standing : (es : List EntryOf) (parent : Option Text) (sels : Sels Span) (IsSo : Head Span → Type 0) → ((inner : Option Text) (s : Sel Span) → IsSelectionWithin es parent sels inner s → IsSo s.label) → Each IsSo sels
each_standing es parent forest.none IsSo all = tt
each_standing es parent (forest.more h b r) IsSo all = (
  all parent (record { label = h; below = b }) here,
  each_standing es (parent_below es parent h) b IsSo (λ inner s w. all inner s (within w)),
  each_standing es parent r IsSo (λ inner s w. all inner s (after w)),
)

-- Where the parent of each selection is known, each field with selections has its type.
pub typed_parents : (es : List EntryOf) (t : Text) (sels : Sels Span) → ((inner : Option Text) (s : Sel Span) → IsSelectionWithin es (Some t) sels inner s → (c : Text) × (inner ≡ Some c)) → IsTyped (static_of es) t (set_of sels)
typed_parents es t forest.none known = tt
typed_parents es t (forest.more h b r) known =
    by h b (λ inner s w. known inner s (within w)) (λ c inner_known. typed_parents es c b inner_known) (typed_parents es t r (λ inner s w. known inner s (after w)))
  where
    by : (head : Head Span) (below : Sels Span) → ((inner : Option Text) (s : Sel Span) → IsSelectionWithin es (parent_below es (Some t) head) below inner s → (c : Text) × (inner ≡ Some c)) →
        ((c : Text) → ((inner : Option Text) (s : Sel Span) → IsSelectionWithin es (Some c) below inner s → (d : Text) × (inner ≡ Some d)) → IsTyped (static_of es) c (set_of below)) →
        IsTyped (static_of es) t (set_of r) → IsTyped (static_of es) t (set_of (forest.more head below r))
    by (tree.field alias name arguments directives braces place) forest.none inside next rest = (inl refl, rest)
    by (tree.field alias name arguments directives braces place) (forest.more h' b' r') inside next rest =
        let q = inside (static_of es t name.text) (record { label = h'; below = b' }) here in
        (inr (q.0, q.1, next q.0 (λ inner s w. inside inner s (subst (λ z. IsSelectionWithin es z (forest.more h' b' r') inner s) (sym q.1) w))), rest)
    by (tree.spread name directives place) below inside next rest = rest
    by (tree.inline None directives braces place) below inside next rest = (next t inside, rest)
    by (tree.inline (Some on) directives braces place) below inside next rest = (next on.text inside, rest)

-- A selection that stands among these begins the last ones of a set.
pub record Begins (static : Static) (t : Text) (sels : Sels Span) (inner : Option Text) (s : Sel Span) : Type 0 where
  pub parent : Text
  pub is_parent : inner ≡ Some parent
  pub rest : Sels Span
  pub ends : EndsSet static t sels parent (forest.more s.label s.below rest)

none_stands : (es : List EntryOf) (parent inner : Option Text) (s : Sel Span) → IsSelectionWithin es parent forest.none inner s → ⊥
none_stands es parent inner s w = elim w [ ]

pub begins : (es : List EntryOf) (t : Text) (from to : ℕ) {parent inner : Option Text} {sels : Sels Span} {s : Sel Span} → parent ≡ Some t → IsSelectionWithin es parent sels inner s → IsTyped (static_of es) t (set_of sels) → AreNested from to sels → Begins (static_of es) t sels inner s
begins es t from to e (here {rest}) typed nested = record { parent = t; is_parent = e; rest = rest; ends = ends_here }
begins es t from to {parent} {inner} {s = s} e (within {head} {below} {rest} w) typed nested =
    by head (λ q. none_stands es (parent_below es parent head) inner s (subst (λ z. IsSelectionWithin es (parent_below es parent head) z inner s) q w)) typed nested.5
    (λ c k typed_below. begins es c ((head_place head).start + 1) (head_place head).end (ap (λ z. parent_below es z head) e ∙ parent_is es t head ∙ k) w typed_below nested.3)
  where
    by : (h : Head Span) → (below ≡ forest.none → ⊥) → IsTyped (static_of es) t (set_of (forest.more h below rest)) → HoldsNone h below →
        ((c : Text) → type_below (static_of es) t h ≡ Some c → IsTyped (static_of es) c (set_of below) → Begins (static_of es) c below inner s) → Begins (static_of es) t (forest.more h below rest) inner s
    by (tree.field alias name arguments directives braces place) some k holds next = kinds k.0
      where
        kinds : (set_of below ≡ selected.none) ⊎ ((c : Text) × (static_of es t name.text ≡ Some c) × IsTyped (static_of es) c (set_of below)) →
            Begins (static_of es) t (forest.more (tree.field alias name arguments directives braces place) below rest) inner s
        kinds (inl q) = absurd (some (nothing_in below q))
        kinds (inr q) = let i = next q.0 q.1 q.2 in record { parent = i.parent; is_parent = i.is_parent; rest = i.rest; ends = ends_within q.1 i.ends }
    by (tree.spread name directives place) some k holds next = absurd (some holds)
    by (tree.inline None directives braces place) some k holds next = let i = next t refl k.0 in record { parent = i.parent; is_parent = i.is_parent; rest = i.rest; ends = ends_within refl i.ends }
    by (tree.inline (Some on) directives braces place) some k holds next = let i = next on.text refl k.0 in record { parent = i.parent; is_parent = i.is_parent; rest = i.rest; ends = ends_within refl i.ends }
begins es t from to e (after {head} {below} {rest} w) typed nested =
    let i = begins es t (head_place head).end to e w (typed_after (static_of es) t head below rest typed) nested.4 in
    record { parent = i.parent; is_parent = i.is_parent; rest = i.rest; ends = ends_after i.ends }

-- the last selections of a set inside a set
pub ends_again : (static : Static) {t u v : Text} {sels mid last : Sels Span} → EndsSet static t sels u mid → EndsSet static u mid v last → EndsSet static t sels v last
ends_again static ends_here k = k
ends_again static (ends_within i h) k = ends_within i (ends_again static h k)
ends_again static (ends_after h) k = ends_after (ends_again static h k)

pub ends_below : (static : Static) {t u c : Text} {sels b r : Sels Span} {h : Head Span} → EndsSet static t sels u (forest.more h b r) → type_below static u h ≡ Some c → EndsSet static t sels c b
ends_below static e k = ends_again static e (ends_within k ends_here)

pub ends_row : (static : Static) (u : Text) (before others : List (Sel Span)) → EndsSet static u (row (before ++ others)) u (row others)
ends_row static u [] others = ends_here
ends_row static u (s ∷ before) others = ends_after (ends_row static u before others)
