-- A selection set forgets places.
use Rattle.std.proofs.Common.{◌≡◌, List, [], ◌∷◌, map, Option, Some, None, refl, sym, ap, ◌∙◌}
use Rattle.std.specs.Option.{option_map}
use Rattle.gq_tree.specs.Forest as forest
use Rattle.gq_tree.specs.Forest.{Forest, relabel}
use Rattle.gq_tree.specs.Plain as tree
use Rattle.gq_tree.specs.Plain.{NameOf, Says, Part, Val, DirectiveOf, Sels, no_place, place_name, place_says, place_part, place_value, place_directive, place_head, erase_all, erase_values}
use Rattle.gq_meaning.specs.Selected.{Set, field, spread, inline, key_of, bare, put_before, set_of}

map_again : {A B : Type 0} (g : B → B) (f : A → B) → ((a : A) → g (f a) ≡ f a) → (xs : List A) → map g (map f xs) ≡ map f xs
map_again g f h [] = refl
map_again g f h (x ∷ xs) = ap (λ a. a ∷ map g (map f xs)) (h x) ∙ ap (λ r. f x ∷ r) (map_again g f h xs)

option_again : {A B : Type 0} (g : B → B) (f : A → B) → ((a : A) → g (f a) ≡ f a) → (m : Option A) → option_map g (option_map f m) ≡ option_map f m
option_again g f h None = refl
option_again g f h (Some a) = ap Some (h a)

relabel_again : {A B : Type 0} (g : B → B) (f : A → B) → ((a : A) → g (f a) ≡ f a) → (s : Forest A) → relabel g (relabel f s) ≡ relabel f s
relabel_again g f h forest.none = refl
relabel_again g f h (forest.more l b r) =
    ap (λ a. forest.more a (relabel g (relabel f b)) (relabel g (relabel f r))) (h l)
    ∙ ap (λ x. forest.more (f l) x (relabel g (relabel f r))) (relabel_again g f h b)
    ∙ ap (λ x. forest.more (f l) (relabel f b) x) (relabel_again g f h r)

module _ {P : Type 0} where
  name_again : (n : NameOf P) → place_name no_place (place_name no_place n) ≡ place_name no_place n
  name_again n = refl

  says_again : (s : Says P) → place_says no_place (place_says no_place s) ≡ place_says no_place s
  says_again (tree.variable name place) = refl
  says_again (tree.int text place) = refl
  says_again (tree.float text place) = refl
  says_again (tree.string text place) = refl
  says_again (tree.boolean value place) = refl
  says_again (tree.null place) = refl
  says_again (tree.enum name) = refl
  says_again (tree.list place) = refl
  says_again (tree.object place) = refl

  part_again : (p : Part P) → place_part no_place (place_part no_place p) ≡ place_part no_place p
  part_again p =
      ap (λ k. record { key = k; says = place_says no_place (place_says no_place p.says) }) (option_again (place_name no_place) (place_name no_place) name_again p.key)
      ∙ ap (λ s. record { key = option_map (place_name no_place) p.key; says = s }) (says_again p.says)

  value_again : (v : Val P) → place_value no_place (place_value no_place v) ≡ place_value no_place v
  value_again v =
      ap (λ l. record { label = l; below = relabel (place_part no_place) (relabel (place_part no_place) v.below) }) (part_again v.label)
      ∙ ap (λ b. record { label = place_part no_place v.label; below = b }) (relabel_again (place_part no_place) (place_part no_place) part_again v.below)

  values_again : (vs : List (Val P)) → erase_values (erase_values vs) ≡ erase_values vs
  values_again = map_again (place_value no_place) (place_value no_place) value_again

  directive_again : (d : DirectiveOf P) → place_directive no_place (place_directive no_place d) ≡ place_directive no_place d
  directive_again d = ap (λ vs. record { name = place_name no_place d.name; arguments = vs; place = tt }) (values_again d.arguments)

  bare_again : (ds : List (DirectiveOf P)) → bare (map (place_directive no_place) ds) ≡ bare ds
  bare_again = map_again (place_directive no_place) (place_directive no_place) directive_again

  key_again : (alias : Option (NameOf P)) (name : NameOf P) → key_of (option_map (place_name no_place) alias) (place_name no_place name) ≡ key_of alias name
  key_again None name = refl
  key_again (Some a) name = refl

  condition_again : (on : Option (NameOf P)) → option_map (λ n. n.text) (option_map (place_name no_place) on) ≡ option_map (λ n. n.text) on
  condition_again None = refl
  condition_again (Some n) = refl

  head_again : (h : tree.Head P) (set rest : Set) → put_before (place_head no_place h) set rest ≡ put_before h set rest
  head_again (tree.field alias name arguments directives braces place) set rest =
      ap (λ w. field w (key_of (option_map (place_name no_place) alias) (place_name no_place name)) name.text (erase_values (erase_values arguments)) set rest) (bare_again directives)
      ∙ ap (λ k. field (bare directives) k name.text (erase_values (erase_values arguments)) set rest) (key_again alias name)
      ∙ ap (λ a. field (bare directives) (key_of alias name) name.text a set rest) (values_again arguments)
  head_again (tree.spread name directives place) set rest = ap (λ w. spread w name.text rest) (bare_again directives)
  head_again (tree.inline on directives braces place) set rest =
      ap (λ w. inline w (option_map (λ n. n.text) (option_map (place_name no_place) on)) set rest) (bare_again directives)
      ∙ ap (λ o. inline (bare directives) o set rest) (condition_again on)

  pub set_forgets : (s : Sels P) → set_of (erase_all s) ≡ set_of s
  set_forgets forest.none = refl
  set_forgets (forest.more head below rest) =
      ap (λ b. put_before (place_head no_place head) b (set_of (erase_all rest))) (set_forgets below)
      ∙ ap (λ r. put_before (place_head no_place head) (set_of below) r) (set_forgets rest)
      ∙ head_again head (set_of below) (set_of rest)

-- documents that are equal but for places are equal to execution
pub sets_agree : {P Q : Type 0} (s : Sels P) (t : Sels Q) → erase_all s ≡ erase_all t → set_of s ≡ set_of t
sets_agree s t h = sym (set_forgets s) ∙ ap set_of h ∙ set_forgets t
