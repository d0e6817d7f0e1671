-- A selection set as execution sees it (section 6.3): places are forgotten, and a field has its response key.
use Rattle.std.specs.Prelude.{List, Option, map}
use Rattle.std.specs.Option.{option_map, option_map_or}
use Rattle.gq_tree.specs.Forest as forest
use Rattle.gq_tree.specs.Plain as tree
use Rattle.gq_tree.specs.Plain.{NameOf, Val, DirectiveOf, no_place, place_directive, erase_values}
use Rattle.gq_meaning.specs.Values.{Text}

abbrev pub Directives : Type 0
Directives = List (DirectiveOf (Unit {0}))

abbrev pub Arguments : Type 0
Arguments = List (Val (Unit {0}))

-- A selection set is its first selection and the rest of them.
pub data Set : Type 0 where
  none : Set
  field : Directives → (key name : Text) → Arguments → (set rest : Set) → Set
  spread : Directives → (fragment : Text) → (rest : Set) → Set
  inline : Directives → (on : Option Text) → (set rest : Set) → Set

-- the response key: the alias or, without one, the name (section 2.7)
abbrev pub key_of : {P : Type 0} → Option (NameOf P) → NameOf P → Text
key_of alias name = option_map_or (λ a. a.text) alias name.text

abbrev pub bare : {P : Type 0} → List (DirectiveOf P) → Directives
bare ds = map (place_directive no_place) ds

-- what a selection puts before the rest, where its braces hold a set
abbrev pub put_before : {P : Type 0} → tree.Head P → (set rest : Set) → Set
put_before (tree.field alias name arguments directives braces place) set rest = field (bare directives) (key_of alias name) name.text (erase_values arguments) set rest
put_before (tree.spread name directives place) set rest = spread (bare directives) name.text rest
put_before (tree.inline on directives braces place) set rest = inline (bare directives) (option_map (λ n. n.text) on) set rest

-- the selections of a tree
abbrev pub set_of : {P : Type 0} → tree.Sels P → Set
set_of forest.none = none
set_of (forest.more head below rest) = put_before head (set_of below) (set_of rest)

-- one set after another
abbrev pub join : Set → Set → Set
join none t = t
join (field w k n a set rest) t = field w k n a set (join rest t)
join (spread w f rest) t = spread w f (join rest t)
join (inline w on set rest) t = inline w on set (join rest t)
