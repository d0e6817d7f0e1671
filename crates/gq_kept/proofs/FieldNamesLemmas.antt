-- Names that are put stay, and where none of some texts is among them, none is the name of a field that was gone over.
use Rattle.std.proofs.Common.{◌≡◌, Bool, true, false, ℕ, ◌≤◌, List, [], ◌∷◌, ◌++◌, map, drop, length, Result, Ok, Err, OnOk, refl, sym, ap, ◌∙◌}
use Rattle.std.specs.Prelude.{◌||◌}
use Rattle.std.specs.List.{list_any}
use Rattle.std.specs.Str.{bytes_eq}
use Rattle.std.specs.Cmp.Lexicographic.{bytes_decides}
use Rattle.std.proofs.Math.Bool.{or_assoc}
use Rattle.std.proofs.lemmas.List.Folds.{list_any-append}
use Rattle.std.proofs.Math.ListN.{drop_of_length-le}
use Rattle.gq_text.specs.declared.place.Span.{Span}
use Rattle.gq_tree.specs.Forest.{labels, labels_in}
use Rattle.gq_tree.specs.Plain.{Sel, Sels}
use Rattle.gq_tree.specs.Views.{below_of, def_view, sel_view, sels_view}
use Rattle.gq_tree.specs.declared.tree.Definition.{Definition}
use Rattle.gq_tree.specs.declared.tree.Field.{Field}
use Rattle.gq_tree.specs.declared.tree.InlineFragment.{InlineFragment}
use Rattle.gq_tree.specs.declared.tree.Selection.{Selection}
use Rattle.gq_tree.specs.declared.tree.Selection.TheVariants as variant
use Rattle.gq_tree.specs.declared.tree.Selection.TheViews.{out-Field}
use Rattle.gq_tree.specs.declared.tree.Spread.{Spread}
use Rattle.gq_tree.proofs.Trees.{view_field, view_inline, view_spread}
use Rattle.gq_types.specs.Entries.{Text}
use Rattle.gq_laws.specs.Placing.OtherFields.{is_one_of, selects_in, has_selected}
use Rattle.gq_kept.specs.Helping.Selected.{meets, Grows, HasNamesIn}

neither : (a b : Bool) → (a || b) ≡ false → (a ≡ false) × (b ≡ false)
neither true b h = absurd (cc)
neither false b h = (refl, h)

both_false : (a b : Bool) → a ≡ false → b ≡ false → (a || b) ≡ false
both_false a b e h = ap (λ c. c || b) e ∙ h

or_true : (b : Bool) → (b || true) ≡ true
or_true true = refl
or_true false = refl

-- a name that is put behind the others
pub put_grows : (names : List Text) (name : Text) → Grows names (names ++ name ∷ [])
put_grows names name [] h = refl
put_grows names name (t ∷ ts) h =
    let parts = neither (list_any (bytes_eq t) (names ++ name ∷ [])) (meets (names ++ name ∷ []) ts) h in
    let first = neither (list_any (bytes_eq t) names) (list_any (bytes_eq t) (name ∷ [])) (sym (list_any-append (bytes_eq t) names (name ∷ [])) ∙ parts.0) in
    both_false (list_any (bytes_eq t) names) (meets names ts) first.0 (put_grows names name ts parts.1)

pub put_has : (names : List Text) (name : Text) → list_any (bytes_eq name) (names ++ name ∷ []) ≡ true
put_has names name = list_any-append (bytes_eq name) names (name ∷ [])
    ∙ ap (λ b. list_any (bytes_eq name) names || (b || false)) ((bytes_decides name name).1 refl)
    ∙ or_true (list_any (bytes_eq name) names)

-- a name among them is none of the texts
pub is_other : (names texts : List Text) (name : Text) → list_any (bytes_eq name) names ≡ true → meets names texts ≡ false → is_one_of texts name ≡ false
is_other names [] name is h = refl
is_other names (t ∷ ts) name is h =
    let parts = neither (list_any (bytes_eq t) names) (meets names ts) h in
    both_false (bytes_eq name t) (is_one_of ts name) (by_test (bytes_eq name t) refl parts.0) (is_other names ts name is parts.1)
  where
    by_test : (b : Bool) → bytes_eq name t ≡ b → list_any (bytes_eq t) names ≡ false → bytes_eq name t ≡ false
    by_test false e apart = e
    by_test true e apart = let clash : true ≡ false = sym is ∙ ap (λ u. list_any (bytes_eq u) names) ((bytes_decides name t).0 e) ∙ apart in absurd (cc)

-- what a clause gives, where there is no error
pub on_ok : {T E P Q : Type 0} (r : Result T E) → (P → Q) → OnOk r P → OnOk r Q
on_ok (Ok x) gives p = gives p
on_ok (Err e) gives p = p

-- so what two give together
pub on_both : {T E P Q R : Type 0} (r : Result T E) → (P → Q → R) → OnOk r P → OnOk r Q → OnOk r R
on_both (Ok x) gives p q = gives p q
on_both (Err e) gives p q = p

-- a field, whose name was put before those below it
pub field_has : (s : Selection) (f : Field) (set : Sels Span) (before after : List Text) → s ≡ variant.Field f → below_of (out-Field f).set ≡ set →
    list_any (bytes_eq (out-Field f).name.text) before ≡ true → Grows before after → HasNamesIn (labels set) after → HasNamesIn (labels_in (sel_view s)) after
field_has s f set before after is below has grows has_below texts h =
    ap (λ (t : Selection). list_any (selects_in texts) (labels_in (sel_view t))) is
    ∙ ap (λ (t : Sel Span). list_any (selects_in texts) (labels_in t)) (view_field f)
    ∙ both_false (is_one_of texts (out-Field f).name.text) (list_any (selects_in texts) (labels (below_of (out-Field f).set)))
    (is_other before texts (out-Field f).name.text has (grows texts h))
    (ap (λ (t : Sels Span). list_any (selects_in texts) (labels t)) below ∙ has_below texts h)

-- a spread
pub spread_has : (s : Selection) (one : Spread) (names : List Text) → s ≡ variant.Spread one → HasNamesIn (labels_in (sel_view s)) names
spread_has s one names is texts h =
    ap (λ (t : Selection). list_any (selects_in texts) (labels_in (sel_view t))) is
    ∙ ap (λ (t : Sel Span). list_any (selects_in texts) (labels_in t)) (view_spread one)

-- an inline fragment
pub inline_has : (s : Selection) (one : InlineFragment) (set : Sels Span) (names : List Text) → s ≡ variant.Inline one → sels_view one.set.items.items ≡ set →
    HasNamesIn (labels set) names → HasNamesIn (labels_in (sel_view s)) names
inline_has s one set names is below has_below texts h =
    ap (λ (t : Selection). list_any (selects_in texts) (labels_in (sel_view t))) is
    ∙ ap (λ (t : Sel Span). list_any (selects_in texts) (labels_in t)) (view_inline one)
    ∙ ap (λ (t : Sels Span). list_any (selects_in texts) (labels t)) below
    ∙ has_below texts h

-- one is selected in the selection
abbrev pub selects_below : List Text → Selection → Bool
selects_below texts s = list_any (selects_in texts) (labels_in (sel_view s))

-- one is selected in the definition
abbrev pub selects_within : List Text → Definition → Bool
selects_within texts d = has_selected texts (def_view d)

-- where none of the texts is among the names, and none is found in the rest, none is found in all
abbrev pub Reaches : {X : Type 0} → (List Text → X → Bool) → List X → List X → List Text → Type 0
Reaches test rest all names = (texts : List Text) → meets names texts ≡ false → list_any (test texts) rest ≡ false → list_any (test texts) all ≡ false

pub selects_in_row : (texts : List Text) (ss : List Selection) → list_any (selects_in texts) (labels (sels_view ss)) ≡ list_any (selects_below texts) ss
selects_in_row texts [] = refl
selects_in_row texts (s ∷ ss) =
    ap (λ b. selects_in texts (sel_view s).label || b) (list_any-append (selects_in texts) (labels (sel_view s).below) (labels (sels_view ss)))
    ∙ sym (or_assoc (selects_in texts (sel_view s).label) (list_any (selects_in texts) (labels (sel_view s).below)) (list_any (selects_in texts) (labels (sels_view ss))))
    ∙ ap (λ b. selects_below texts s || b) (selects_in_row texts ss)

pub selects_in_definitions : (texts : List Text) (ds : List Definition) → list_any (has_selected texts) (map def_view ds) ≡ list_any (selects_within texts) ds
selects_in_definitions texts [] = refl
selects_in_definitions texts (d ∷ ds) = ap (λ b. selects_within texts d || b) (selects_in_definitions texts ds)

-- none is left
pub reached : {X : Type 0} (test : List Text → X → Bool) (all : List X) (k : ℕ) (names : List Text) → length all ≤ k → Reaches test (drop k all) all names →
    (texts : List Text) → meets names texts ≡ false → list_any (test texts) all ≡ false
reached test all k names end reaches texts h = reaches texts h (ap (list_any (test texts)) (drop_of_length-le all end))
