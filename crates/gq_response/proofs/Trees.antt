-- The equations of the view of data, one for each variant, and the texts of what is in it.
use Rattle.std.proofs.Common.{◌≡◌, ◌<◌, ℕ, zero, suc, ◌+◌, List, [], ◌∷◌, ◌++◌, map, drop, length, refl, ap, sym, ◌∙◌, Vec, Global, append_assoc, append-nil, codes}
use Rattle.gq_meaning.specs.Values.{Text}
use Rattle.gq_response.specs.Texts.{entry_texts, data_text}
use Rattle.gq_response.specs.Helping.Commas.{comma_before, texts_from, member_text}
use Rattle.gq_tree.specs.Forest.{none}
use Rattle.gq_table.specs.declared.values.Leaf.{Leaf}
use Rattle.gq_table.specs.Views.{leaf_view}
use Rattle.gq_meaning.specs.Shown as shown
use Rattle.gq_response.specs.declared.data.Data.{Data}
use Rattle.gq_response.specs.declared.data.Member.{Member}
use Rattle.gq_response.specs.declared.data.Data.TheOpen.{Data-F}
use Rattle.gq_response.specs.declared.data.Data.TheVariants as variant
use Rattle.gq_response.specs.declared.data.Data.TheVariants.{rolls-Null, rolls-Leaf, rolls-List, rolls-Object}
use Rattle.gq_response.specs.declared.data.Data.TheFolds.{fold-Member, fold-roll-Data, fold_out-Member}
use Rattle.gq_response.specs.Views.{Keyed, numbered, keyed, data_step, member_step, data_view, member_view, members_view}

pub view_null : data_view variant.Null ≡ record { shown = shown.null; below = none }
unfolding data_view
view_null = ap data_view (sym rolls-Null) ∙ fold-roll-Data shown.Data Keyed data_step member_step Data-F.Null

pub view_leaf : (v : Leaf) → data_view (variant.Leaf v) ≡ record { shown = shown.leaf (leaf_view v); below = none }
unfolding data_view
view_leaf v = ap data_view (sym (rolls-Leaf v)) ∙ fold-roll-Data shown.Data Keyed data_step member_step (Data-F.Leaf v)

pub view_list : (ds : Vec Data Global) → data_view (variant.List ds) ≡ record { shown = shown.list; below = numbered 0 (map data_view ds.items) }
unfolding data_view
view_list ds = ap data_view (sym (rolls-List ds)) ∙ fold-roll-Data shown.Data Keyed data_step member_step (Data-F.List ds)

abbrev folded_member : Member → Keyed
folded_member = fold-Member shown.Data Keyed data_step member_step

view_members : (ms : List Member) → map folded_member ms ≡ members_view ms
unfolding data_view
view_members [] = refl
view_members (m ∷ ms) = ap (λ v. v ∷ map folded_member ms) (fold_out-Member shown.Data Keyed data_step member_step m) ∙ ap (λ vs. member_view m ∷ vs) (view_members ms)

pub view_object : (ms : Vec Member Global) → data_view (variant.Object ms) ≡ record { shown = shown.object; below = keyed (members_view ms.items) }
unfolding data_view
view_object ms = ap data_view (sym (rolls-Object ms)) ∙ fold-roll-Data shown.Data Keyed data_step member_step (Data-F.Object ms)
    ∙ ap (λ (vs : List Keyed). let one : shown.Data = record { shown = shown.object; below = keyed vs } in one) (view_members ms.items)

pub ruleset answers = (view_null, view_leaf, view_list, view_object)

pub item_texts : (i : ℕ) (ds : List shown.Data) → entry_texts (numbered i ds) ≡ map data_text ds
item_texts i [] = refl
item_texts i (d ∷ ds) = ap (λ (ts : List Text). data_text d ∷ ts) (item_texts (suc i) ds)

pub member_texts : (ms : List Keyed) → entry_texts (keyed ms) ≡ map member_text ms
member_texts [] = refl
member_texts (m ∷ ms) = ap (λ (ts : List Text). member_text m ∷ ts) (member_texts ms)

-- one text more
pub text_more : (i : ℕ) (t : Text) (ts : List Text) → texts_from i (t ∷ ts) ≡ comma_before i ++ (t ++ texts_from (suc i) ts)
text_more zero t ts = refl
text_more (suc i) t ts = refl

pub none_left : (i : ℕ) → texts_from i [] ≡ []
none_left zero = refl
none_left (suc i) = refl

pub ruleset texts = (answers, item_texts, member_texts, append_assoc, append-nil)

-- three texts written one after another
pub three_texts : (old one two three a b c : Text) → one ≡ old ++ a → two ≡ one ++ b → three ≡ two ++ c → three ≡ old ++ (a ++ (b ++ c))
three_texts old one two three a b c e f g =
    g ∙ ap (λ (t : Text). t ++ c) (f ∙ ap (λ (t : Text). t ++ b) e) ∙ append_assoc (old ++ a) b c ∙ append_assoc old a (b ++ c)
