-- What has fresh names, part by part.
use Rattle.std.proofs.Common.{List, [], ◌∷◌, ◌++◌, refl, subst}
use Rattle.std.specs.List.{flat_map}
use Rattle.std.proofs.lemmas.Grind.{flat_map-append}
use Rattle.std.proofs.lemmas.List.Elements.{Contains-append_left, Contains-append_right}
use Rattle.gq_tree.specs.Forest.{none, more, row, labels}
use Rattle.gq_tree.specs.Plain.{NameOf, Val, Vals}
use Rattle.gq_index.specs.VariableNames.{says_variable, part_variable, value_variables, argument_variables}
use Rattle.gq_renamed.specs.Renamings.{Renaming}
use Rattle.gq_meaning.specs.Values.{Text}
use Rattle.gq_laws.specs.Renaming.Helping.Alike.{AreFresh}

abbrev Bare : Type 0
Bare = Unit {0}

module _ (r : Renaming) (new : Text) where
  pub fresh_front : (xs ys : List (NameOf Bare)) → AreFresh r new (xs ++ ys) → AreFresh r new xs
  fresh_front xs ys h = λ n c. h n (Contains-append_left xs ys n c)

  pub fresh_back : (xs ys : List (NameOf Bare)) → AreFresh r new (xs ++ ys) → AreFresh r new ys
  fresh_back xs ys h = λ n c. h n (Contains-append_right xs ys n c)

  -- of values in a row
  abbrev pub FreshIn : Vals Bare → Type 0
  FreshIn none = Unit {0}
  FreshIn (more part below rest) = AreFresh r new (says_variable part.says) × FreshIn below × FreshIn rest

  from_labels : (vs : Vals Bare) → AreFresh r new (flat_map part_variable (labels vs)) → FreshIn vs
  from_labels none h = tt
  from_labels (more part below rest) h =
      let inner = fresh_back (part_variable part) (flat_map part_variable (labels below ++ labels rest)) h in
      let both = subst (λ (l : List (NameOf Bare)). AreFresh r new l) (flat_map-append part_variable (labels below) (labels rest)) inner in (
        fresh_front (part_variable part) (flat_map part_variable (labels below ++ labels rest)) h,
        from_labels below (fresh_front (flat_map part_variable (labels below)) (flat_map part_variable (labels rest)) both),
        from_labels rest (fresh_back (flat_map part_variable (labels below)) (flat_map part_variable (labels rest)) both),
      )

  pub from_arguments : (vs : List (Val Bare)) → AreFresh r new (argument_variables vs) → FreshIn (row vs)
  from_arguments [] h = tt
  from_arguments (v ∷ vs) h =
      let own = fresh_front (value_variables v) (argument_variables vs) h in (
        fresh_front (part_variable v.label) (flat_map part_variable (labels v.below)) own,
        from_labels v.below (fresh_back (part_variable v.label) (flat_map part_variable (labels v.below)) own),
        from_arguments vs (fresh_back (value_variables v) (argument_variables vs) h),
      )

  pub first_fresh : (n : NameOf Bare) → AreFresh r new (n ∷ []) → Rattle.gq_laws.specs.Renaming.Helping.Alike.IsFresh r new n.text
  first_fresh n h = h n (Rattle.gq_types.proofs.Gathered.first n n [] refl)
