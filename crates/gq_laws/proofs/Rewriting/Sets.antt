-- Sets one after another, and what is known of them.
use Rattle.std.proofs.Common.{◌≡◌, List, [], ◌∷◌, ◌++◌, Some, None, refl, ap, ◌∙◌}
use Rattle.gq_tree.specs.Forest.{Forest, Tree, row}
use Rattle.gq_tree.specs.Forest as forest
use Rattle.gq_tree.specs.Plain as tree
use Rattle.gq_tree.specs.Plain.{Head, Sel, Sels}
use Rattle.gq_meaning.specs.Values.{Text}
use Rattle.gq_meaning.specs.Selected.{Set, none, field, spread, inline, put_before, set_of, join}
use Rattle.gq_meaning.specs.Rewritten.{Static}
use Rattle.gq_rewritten.specs.Rewrites.{followed_by}
use Rattle.gq_laws.specs.Rewriting.KnownBefore.{Each, IsTyped}

put_join : {P : Type 0} (h : Head P) (set a b : Set) → put_before h set (join a b) ≡ join (put_before h set a) b
put_join (tree.field alias name arguments directives braces place) set a b = refl
put_join (tree.spread name directives place) set a b = refl
put_join (tree.inline on directives braces place) set a b = refl

pub set_followed : {P : Type 0} (a b : Sels P) → set_of (followed_by a b) ≡ join (set_of a) (set_of b)
set_followed forest.none b = refl
set_followed (forest.more h below rest) b = ap (put_before h (set_of below)) (set_followed rest b) ∙ put_join h (set_of below) (set_of rest) (set_of b)

pub set_append : {P : Type 0} (xs ys : List (Sel P)) → set_of (row (xs ++ ys)) ≡ join (set_of (row xs)) (set_of (row ys))
set_append [] ys = refl
set_append (x ∷ xs) ys = ap (put_before x.label (set_of x.below)) (set_append xs ys) ∙ put_join x.label (set_of x.below) (set_of (row xs)) (set_of (row ys))

-- a set of no selection is of none
pub nothing_in : {P : Type 0} (a : Sels P) → set_of a ≡ none → a ≡ forest.none
nothing_in forest.none e = refl
nothing_in (forest.more (tree.field alias name arguments directives braces place) below rest) e = cc
nothing_in (forest.more (tree.spread name directives place) below rest) e = cc
nothing_in (forest.more (tree.inline on directives braces place) below rest) e = cc

pub typed_join : (static : Static) (t : Text) (a b : Set) → IsTyped static t (join a b) → IsTyped static t a × IsTyped static t b
typed_join static t none b h = (tt, h)
typed_join static t (field w k n x set rest) b h = let i = typed_join static t rest b h.1 in ((h.0, i.0), i.1)
typed_join static t (spread w f rest) b h = typed_join static t rest b h
typed_join static t (inline w None set rest) b h = let i = typed_join static t rest b h.1 in ((h.0, i.0), i.1)
typed_join static t (inline w (Some on) set rest) b h = let i = typed_join static t rest b h.1 in ((h.0, i.0), i.1)

pub each_append : {L : Type 0} (IsSo : L → Type 0) (xs ys : List (Tree L)) → Each IsSo (row (xs ++ ys)) → Each IsSo (row xs) × Each IsSo (row ys)
each_append IsSo [] ys h = (tt, h)
each_append IsSo (x ∷ xs) ys h = let i = each_append IsSo xs ys h.2 in ((h.0, h.1, i.0), i.1)

pub each_map : {L : Type 0} (A B : L → Type 0) → ((l : L) → A l → B l) → (f : Forest L) → Each A f → Each B f
each_map A B g forest.none h = tt
each_map A B g (forest.more l b r) h = (g l h.0, each_map A B g b h.1, each_map A B g r h.2)

typed_rest : (static : Static) (t : Text) {P : Type 0} (h : Head P) (set rest : Set) → IsTyped static t (put_before h set rest) → IsTyped static t rest
typed_rest static t (tree.field alias name arguments directives braces place) set rest h = h.1
typed_rest static t (tree.spread name directives place) set rest h = h
typed_rest static t (tree.inline None directives braces place) set rest h = h.1
typed_rest static t (tree.inline (Some on) directives braces place) set rest h = h.1

pub typed_after : (static : Static) (t : Text) {P : Type 0} (h : Head P) (below rest : Sels P) → IsTyped static t (set_of (forest.more h below rest)) → IsTyped static t (set_of rest)
typed_after static t h below rest typed = typed_rest static t h (set_of below) (set_of rest) typed
