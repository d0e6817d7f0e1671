-- What directives leave out does not depend on places.
use Rattle.std.proofs.Common.{◌≡◌, Bool, true, false, cond, List, [], ◌∷◌, map, Option, Some, None, refl, ap, ◌∙◌}
use Rattle.std.specs.Prelude.{find, codes, not, if◌then◌else◌, ◌||◌}
use Rattle.std.specs.List.{list_any}
use Rattle.std.specs.Option.{option_map, option_map_or}
use Rattle.std.specs.Str.{bytes_eq}
use Rattle.gq_tree.specs.Plain as tree
use Rattle.gq_tree.specs.Plain.{NameOf, Part, Val, DirectiveOf, Says, place_name, place_says, place_part, place_value, place_directive, no_place}
use Rattle.gq_meaning.specs.Values.{Text, Values}
use Rattle.gq_meaning.specs.Selected.{bare}
use Rattle.gq_meaning.specs.Directives.{is_under, holds_true, argument_of, if_is_true, leaves_out, takes_with}

module _ {P Q : Type 0} (f : P → Q) where
  same_literal : (vars : Values) (s : Says P) → holds_true vars (place_says f s) ≡ holds_true vars s
  same_literal vars (tree.variable name place) = refl
  same_literal vars (tree.int text place) = refl
  same_literal vars (tree.float text place) = refl
  same_literal vars (tree.string text place) = refl
  same_literal vars (tree.boolean value place) = refl
  same_literal vars (tree.null place) = refl
  same_literal vars (tree.enum name) = refl
  same_literal vars (tree.list place) = refl
  same_literal vars (tree.object place) = refl

  same_key : (text : Text) (k : Option (NameOf P)) → is_under text (option_map (place_name f) k) ≡ is_under text k
  same_key text None = refl
  same_key text (Some name) = refl

  -- find unfolds over a list by its first element
  pub same_argument : (text : Text) (xs : List (Val P)) → argument_of text (map (place_value f) xs) ≡ option_map (place_value f) (argument_of text xs)
  same_argument text [] = refl
  same_argument text (a ∷ xs) =
      ap (λ b. cond b (Some (place_value f a)) (find (λ x. is_under text x.label.key) (map (place_value f) xs))) (same_key text a.label.key)
      ∙ ap (λ o. cond (is_under text a.label.key) (Some (place_value f a)) o) (same_argument text xs)
      ∙ by_test (is_under text a.label.key) (find (λ x. is_under text x.label.key) xs)
    where
      by_test : (b : Bool) (o : Option (Val P)) → cond b (Some (place_value f a)) (option_map (place_value f) o) ≡ option_map (place_value f) (cond b (Some a) o)
      by_test true o = refl
      by_test false o = refl

  same_if : (vars : Values) (d : DirectiveOf P) → if_is_true vars (place_directive f d) ≡ if_is_true vars d
  same_if vars d = ap (λ o. option_map_or (λ a. holds_true vars a.label.says) o false) (same_argument (codes "if") d.arguments) ∙ by_option (argument_of (codes "if") d.arguments)
    where
      by_option : (o : Option (Val P)) → option_map_or (λ a. holds_true vars a.label.says) (option_map (place_value f) o) false ≡ option_map_or (λ a. holds_true vars a.label.says) o false
      by_option None = refl
      by_option (Some a) = same_literal vars a.label.says

  pub same_directive : (vars : Values) (d : DirectiveOf P) → leaves_out vars (place_directive f d) ≡ leaves_out vars d
  same_directive vars d = ap (λ b. if bytes_eq d.name.text (codes "skip") then b else (if bytes_eq d.name.text (codes "include") then not b else false)) (same_if vars d)

pub same_directives : {P : Type 0} (vars : Values) (ds : List (DirectiveOf P)) → list_any (leaves_out vars) (bare ds) ≡ list_any (leaves_out vars) ds
same_directives vars [] = refl
same_directives vars (d ∷ ds) = ap (λ b. b || list_any (leaves_out vars) (bare ds)) (same_directive no_place vars d) ∙ ap (λ b. leaves_out vars d || b) (same_directives vars ds)

-- where the code's directives stand for plain ones
pub takes_each : {P D : Type 0} (view : D → DirectiveOf P) (vars : Values) (ds : List D) → takes_with vars (bare (map view ds)) ≡ not (list_any (λ d. leaves_out vars (view d)) ds)
takes_each {P} {D} view vars ds = ap not (same_directives vars (map view ds) ∙ any-map ds)
  where
    any-map : (xs : List D) → list_any (leaves_out vars) (map view xs) ≡ list_any (λ d. leaves_out vars (view d)) xs
    any-map [] = refl
    any-map (x ∷ xs) = ap (λ b. leaves_out vars (view x) || b) (any-map xs)
