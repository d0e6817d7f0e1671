-- Selections in which names were changed are alike to execution.
use Rattle.std.proofs.Common.{◌≡◌, false, List, [], ◌∷◌, ◌++◌, Option, Some, None, refl, sym, ap, subst, ◌∙◌, map, Contains}
use Rattle.std.specs.List.{flat_map}
use Rattle.std.specs.Option.{option_map}
use Rattle.std.specs.Str.{bytes_eq}
use Rattle.std.specs.Cmp.Lexicographic.{bytes_decides}
use Rattle.std.proofs.lemmas.Bool.{false_from_ne_true}
use Rattle.std.proofs.lemmas.Grind.{flat_map-append}
use Rattle.std.proofs.lemmas.List.Elements.{Contains-append_left, Contains-append_right}
use Rattle.gq_text.specs.declared.place.Span.{Span}
use Rattle.gq_tree.specs.Forest as forest
use Rattle.gq_tree.specs.Forest.{Forest, labels, relabel}
use Rattle.gq_tree.specs.Plain as tree
use Rattle.gq_tree.specs.Plain.{NameOf, Says, Part, Val, DirectiveOf, Head, Sels, no_place, place_name, place_says, place_part, place_value, place_directive, erase_all, erase_values}
use Rattle.gq_tree.specs.Names.{spread_name, spread_names}
use Rattle.gq_types.proofs.Gathered.{first, later}
use Rattle.gq_renamed.specs.Renamings.{Renaming, renamed_text}
use Rattle.gq_renamed.specs.Renamed.{rename_value, rename_directive, rename_selections}
use Rattle.gq_meaning.specs.Values.{Text}
use Rattle.gq_meaning.specs.Selected.{Directives, Arguments, Set, bare, set_of}
use Rattle.gq_meaning.specs.Renamed.{IsUnspread}
use Rattle.gq_meaning.specs.Helping.Alike.{SetsAlike, ends, fields, spreads, inlines}
use Rattle.gq_meaning.proofs.Places.{set_forgets}

-- Where there are no places, none is forgotten.
abbrev Nowhere : Type 0
Nowhere = Unit {0}

each_itself : {A : Type 0} (f : A → A) → ((x : A) → f x ≡ x) → (xs : List A) → map f xs ≡ xs
each_itself f h [] = refl
each_itself {A} f h (x ∷ xs) = ap (λ (y : A). y ∷ map f xs) (h x) ∙ ap (λ (ys : List A). x ∷ ys) (each_itself f h xs)

forest_itself : {A : Type 0} (f : A → A) → ((x : A) → f x ≡ x) → (s : Forest A) → relabel f s ≡ s
forest_itself f h forest.none = refl
forest_itself {A} f h (forest.more l b r) =
    ap (λ (x : A). forest.more x (relabel f b) (relabel f r)) (h l)
    ∙ ap (λ (x : Forest A). forest.more l x (relabel f r)) (forest_itself f h b)
    ∙ ap (λ (x : Forest A). forest.more l b x) (forest_itself f h r)

key_itself : (k : Option (NameOf Nowhere)) → option_map (place_name no_place) k ≡ k
key_itself None = refl
key_itself (Some n) = refl

says_itself : (s : Says Nowhere) → place_says no_place s ≡ s
says_itself (tree.variable name place) = refl
says_itself (tree.int text place) = refl
says_itself (tree.float text place) = refl
says_itself (tree.string text place) = refl
says_itself (tree.boolean value place) = refl
says_itself (tree.null place) = refl
says_itself (tree.enum name) = refl
says_itself (tree.list place) = refl
says_itself (tree.object place) = refl

part_itself : (p : Part Nowhere) → place_part no_place p ≡ p
part_itself p =
    ap (λ (k : Option (NameOf Nowhere)). let q : Part Nowhere = record { key = k; says = place_says no_place p.says } in q) (key_itself p.key)
    ∙ ap (λ (s : Says Nowhere). let q : Part Nowhere = record { key = p.key; says = s } in q) (says_itself p.says)

value_itself : (v : Val Nowhere) → place_value no_place v ≡ v
value_itself v =
    ap (λ (l : Part Nowhere). let w : Val Nowhere = record { label = l; below = relabel (place_part no_place) v.below } in w) (part_itself v.label)
    ∙ ap (λ (b : Forest (Part Nowhere)). let w : Val Nowhere = record { label = v.label; below = b } in w) (forest_itself (place_part no_place) part_itself v.below)

pub values_itself : (vs : Arguments) → erase_values vs ≡ vs
values_itself vs = each_itself (place_value no_place) value_itself vs

directive_itself : (d : DirectiveOf Nowhere) → place_directive no_place d ≡ d
directive_itself d = ap (λ (vs : Arguments). let e : DirectiveOf Nowhere = record { name = d.name; arguments = vs; place = d.place } in e) (values_itself d.arguments)

pub bare_itself : (ds : Directives) → bare ds ≡ ds
bare_itself ds = each_itself (place_directive no_place) directive_itself ds

module _ (r : Renaming) (new : Text) where
  abbrev pub IsRenamedFragment : Text → Text → Type 0
  IsRenamedFragment f f_after = (f_after ≡ renamed_text r.fragments new f) × (bytes_eq f new ≡ false)

  abbrev pub AreRenamedDirectives : Directives → Directives → Type 0
  AreRenamedDirectives w w_after = w_after ≡ map (rename_directive r new) w

  abbrev pub AreRenamedArguments : Arguments → Arguments → Type 0
  AreRenamedArguments a a_after = a_after ≡ map (rename_value r new) a

  abbrev pub SetsRenamed : Set → Set → Type 0
  SetsRenamed = SetsAlike IsRenamedFragment AreRenamedDirectives AreRenamedArguments

  directives_renamed : (ds : Directives) → AreRenamedDirectives (bare ds) (bare (map (rename_directive r new) ds))
  directives_renamed ds = bare_itself (map (rename_directive r new) ds) ∙ ap (λ (ws : Directives). map (rename_directive r new) ws) (sym (bare_itself ds))

  arguments_renamed : (vs : Arguments) → AreRenamedArguments (erase_values vs) (erase_values (map (rename_value r new) vs))
  arguments_renamed vs = values_itself (map (rename_value r new) vs) ∙ ap (λ (ws : Arguments). map (rename_value r new) ws) (sym (values_itself vs))

  renamed_alike : (t : Sels Nowhere) → IsUnspread new (set_of t) → SetsRenamed (set_of t) (set_of (rename_selections r new t))
  renamed_alike forest.none h = ends
  renamed_alike (forest.more (tree.field alias name arguments directives braces place) below rest) h =
      fields (directives_renamed directives) (arguments_renamed arguments) (renamed_alike below h.0) (renamed_alike rest h.1)
  renamed_alike (forest.more (tree.spread name directives place) below rest) h = spreads (directives_renamed directives) (refl, h.0) (renamed_alike rest h.1)
  renamed_alike (forest.more (tree.inline on directives braces place) below rest) h = inlines (directives_renamed directives) (renamed_alike below h.0) (renamed_alike rest h.1)

  -- so are those that are renamed, places forgotten
  pub sets_renamed : (s s_after : Sels Span) → erase_all s_after ≡ rename_selections r new (erase_all s) → IsUnspread new (set_of s) → SetsRenamed (set_of s) (set_of s_after)
  sets_renamed s s_after e h =
      let whole = renamed_alike (erase_all s) (subst (IsUnspread new) (sym (set_forgets s)) h) in
      let own = subst (λ (x : Set). SetsRenamed x (set_of (rename_selections r new (erase_all s)))) (set_forgets s) whole in
      subst (λ (x : Set). SetsRenamed (set_of s) x) (sym (ap (λ (t : Sels Nowhere). set_of t) e) ∙ set_forgets s_after) own

-- no spread has the new name
abbrev pub Unspread : Text → Sels Span → Type 0
Unspread new s = (name : NameOf Span) → Contains (spread_names s) name → name.text ≡ new → ⊥

pub differs : (a b : Text) → (a ≡ b → ⊥) → bytes_eq a b ≡ false
differs a b h = false_from_ne_true _ (λ e. h ((bytes_decides a b).0 e))

below_stands : (below rest : Sels Span) (name : NameOf Span) → Contains (spread_names below) name → Contains (flat_map spread_name (labels below ++ labels rest)) name
below_stands below rest name c = subst (λ (l : List (NameOf Span)). Contains l name) (sym (flat_map-append spread_name (labels below) (labels rest))) (Contains-append_left (spread_names below) (spread_names rest) name c)

rest_stands : (below rest : Sels Span) (name : NameOf Span) → Contains (spread_names rest) name → Contains (flat_map spread_name (labels below ++ labels rest)) name
rest_stands below rest name c = subst (λ (l : List (NameOf Span)). Contains l name) (sym (flat_map-append spread_name (labels below) (labels rest))) (Contains-append_right (spread_names below) (spread_names rest) name c)

pub is_unspread : (new : Text) (s : Sels Span) → Unspread new s → IsUnspread new (set_of s)
is_unspread new forest.none h = tt
is_unspread new (forest.more (tree.field alias name arguments directives braces place) below rest) h =
    (is_unspread new below (λ n c. h n (below_stands below rest n c)), is_unspread new rest (λ n c. h n (rest_stands below rest n c)))
is_unspread new (forest.more (tree.spread name directives place) below rest) h = (
  differs name.text new (h name (first name name (flat_map spread_name (labels below ++ labels rest)) refl)),
  is_unspread new rest (λ n c. h n (later name n (flat_map spread_name (labels below ++ labels rest)) (rest_stands below rest n c))),
)
is_unspread new (forest.more (tree.inline on directives braces place) below rest) h =
    (is_unspread new below (λ n c. h n (below_stands below rest n c)), is_unspread new rest (λ n c. h n (rest_stands below rest n c)))
