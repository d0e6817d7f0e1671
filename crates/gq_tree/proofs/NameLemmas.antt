-- The names of fragments where places change.
use Rattle.std.proofs.Common.{◌≡◌, List, [], ◌∷◌, ◌++◌, map, refl, ap, sym, ◌∙◌}
use Rattle.std.specs.List.{flat_map}
use Rattle.std.proofs.lemmas.List.{map-append}
use Rattle.gq_tree.specs.Forest.{labels, relabel}
use Rattle.gq_tree.specs.Plain.{Head, Sels, Def, field, spread, inline, operation, fragment, type_system, place_name, place_head, place_def}
use Rattle.gq_tree.specs.Names.{spread_name, spread_names, names_in, fragment_names}
use Rattle.gq_tree.proofs.ForestLemmas.{relabel_labels}

-- what is gathered from changed items, where each gives its own changed
gathered : {X Y A B : Type 0} (h : X → Y) (k : A → B) (f : X → List A) (g : Y → List B) → ((x : X) → g (h x) ≡ map k (f x)) → (xs : List X) → flat_map g (map h xs) ≡ map k (flat_map f xs)
gathered h k f g each [] = refl
gathered h k f g each (x ∷ xs) = ap (λ r. r ++ flat_map g (map h xs)) (each x) ∙ ap (λ r. map k (f x) ++ r) (gathered h k f g each xs) ∙ sym (map-append k (f x) (flat_map f xs))

spread_name_placed : {P Q : Type 0} (f : P → Q) (h : Head P) → spread_name (place_head f h) ≡ map (place_name f) (spread_name h)
spread_name_placed f (field alias name arguments directives braces place) = refl
spread_name_placed f (spread name directives place) = refl
spread_name_placed f (inline on directives braces place) = refl

pub spread_names_placed : {P Q : Type 0} (f : P → Q) (ss : Sels P) → spread_names (relabel (place_head f) ss) ≡ map (place_name f) (spread_names ss)
spread_names_placed f ss = ap (flat_map spread_name) (relabel_labels (place_head f) ss) ∙ gathered (place_head f) (place_name f) spread_name spread_name (spread_name_placed f) (labels ss)

names_in_placed : {P Q : Type 0} (f : P → Q) (d : Def P) → names_in (place_def f d) ≡ map (place_name f) (names_in d)
names_in_placed f (operation kind name variables directives set braces place) = spread_names_placed f set
names_in_placed f (fragment name on directives set braces place) = ap (λ r. place_name f name ∷ r) (spread_names_placed f set)
names_in_placed f (type_system definition) = refl

pub names_placed : {P Q : Type 0} (f : P → Q) (ds : List (Def P)) → fragment_names (map (place_def f) ds) ≡ map (place_name f) (fragment_names ds)
names_placed f ds = gathered (place_def f) (place_name f) names_in names_in (names_in_placed f) ds
