-- The response, path by path (section 6.4).
use Rattle.std.specs.Prelude.{◌≡◌, ℕ, zero, suc, Bool, true, false, not, List, [], ◌∷◌, ◌++◌, map, filter, Option, Some, None, is_some, if◌then◌else◌, ◌&&◌, ◌||◌}
use Rattle.std.specs.List.{list_any}
use Rattle.std.specs.Option.{option_map, option_map_or}
use Rattle.std.specs.Str.{bytes_eq}
use Rattle.gq_text.specs.declared.place.Span.{Span}
use Rattle.gq_tree.specs.Forest.{none, more}
use Rattle.gq_tree.specs.Plain.{TypeOf, named, list_of, non_null}
use Rattle.gq_tree.specs.Wrapping as tree
use Rattle.gq_tree.specs.Wrapping.{item_of}
use Rattle.gq_meaning.specs.Values.{Text, Leaf}
use Rattle.gq_meaning.specs.Results as result
use Rattle.gq_meaning.specs.Shown as shown
use Rattle.gq_meaning.specs.Shown.{Shown, Entries, Data}
use Rattle.gq_meaning.specs.Results.{Result, Answer, Answers, Step, key, index, Path, Call}
use Rattle.gq_meaning.specs.Selected.{Directives, Arguments, Set}
use Rattle.gq_meaning.specs.Expand.{Asked, Definition, Setting, expand, sets_of}

abbrev pub FieldType : Type 0
FieldType = TypeOf Span

-- What a response depends on beside the document: the values of variables (in takes, look and call), the type system, and the
-- table of results. look gives nothing where the arguments are at fault or there is no row; call gives the call that
-- is made, if one is.
pub record Given : Type 0 where
  pub takes : Directives → Bool
  pub applies : (condition object : Text) → Bool
  pub is_composite : Text → Bool
  pub type_of : (object field : Text) → Option FieldType
  pub leaf_at : (type_name : Text) → Leaf → Option Leaf
  pub look : (object : Text) → (number : ℕ) → (field : Text) → Arguments → Option Answer
  pub call : (object : Text) → (number : ℕ) → (field : Text) → Arguments → Option Call

abbrev pub setting : Given → Text → Setting
setting g object = record { takes = g.takes; applies = λ on. g.applies on object }

-- What stands at a path: the type of the field in the object's own type, or the item's; the result; the fields that ask for it;
-- and the call that gave it.
pub record Place : Type 0 where
  pub type_ref : Option FieldType
  pub result : Option Answer
  pub fields : List Asked
  pub call : Option Call

-- Whether a result fits a type by its outermost form (section 6.4.3). An error fits none.
abbrev pub is_nothing : Result → Bool
is_nothing result.nothing = true
is_nothing _ = false

abbrev pub is_list : Result → Bool
is_list result.list = true
is_list _ = false

abbrev pub fits_composite : Given → Text → Result → Bool
fits_composite g type_name (result.object t i) = g.applies type_name t
fits_composite g type_name _ = false

abbrev pub fits_leaf : Given → Text → Result → Bool
fits_leaf g type_name (result.leaf v) = is_some (g.leaf_at type_name v)
fits_leaf g type_name _ = false

abbrev pub fits : Given → FieldType → Result → Bool
fits g (named name) r = is_nothing r || (if g.is_composite name.text then fits_composite g name.text r else fits_leaf g name.text r)
fits g (list_of item) r = is_nothing r || is_list r
fits g (non_null inner) r = not (is_nothing r) && fits g inner r

abbrev pub is_unfit : Given → Option FieldType → Option Answer → Bool
is_unfit g None r = true
is_unfit g (Some t) None = true
is_unfit g (Some t) (Some r) = not (fits g t r.label)

abbrev pub fails : Given → Place → Bool
fails g p = is_unfit g p.type_ref p.result

-- whether a type is known and without null, and the type of the items of a list
abbrev pub is_non_null : Option FieldType → Bool
is_non_null None = false
is_non_null (Some t) = tree.is_non_null t

abbrev pub item_type : Option FieldType → Option FieldType
item_type None = None
item_type (Some t) = item_of t

abbrev pub item_at : Answers → ℕ → Option Answer
item_at none i = None
item_at (more r below rest) zero = Some (record { label = r; below = below })
item_at (more r below rest) (suc i) = item_at rest i

-- the fields of one key
abbrev pub of_key : Text → List Asked → List Asked
of_key k fields = filter (λ x. bytes_eq k x.key) fields

-- the keys in order of first occurrence, those in seen left out; KeyOrder says it of all keys at once
abbrev pub keys_after : List Text → List Asked → List Text
keys_after seen [] = []
keys_after seen (x ∷ xs) = if list_any (bytes_eq x.key) seen then keys_after seen xs else x.key ∷ keys_after (seen ++ x.key ∷ []) xs

-- The place of a group of fields in an object: the first of them gives the name and the arguments.
abbrev pub place_of : Given → (type_name : Text) → (number : ℕ) → List Asked → Option Place
place_of g t i [] = None
place_of g t i (x ∷ xs) = Some (record {
  type_ref = g.type_of t x.name;
  result = g.look t i x.name x.arguments;
  fields = x ∷ xs;
  call = g.call t i x.name x.arguments;
})

-- the place of an item of a list: the same fields ask for it
abbrev pub place_in : Option FieldType → List Asked → Option Answer → Option Place
place_in t fields item = option_map (λ r. record { type_ref = item_type t; result = Some r; fields = fields; call = None }) item

-- the place at a step below a result
abbrev pub below_result : Given → List Definition → Option FieldType → List Asked → Result → Answers → Step → Option Place
below_result g ds t fields (result.object object number) items (key k) = place_of g object number (of_key k (expand (setting g object) ds (sets_of fields)))
below_result g ds t fields result.list items (index i) = place_in t fields (item_at items i)
below_result g ds t fields _ items s = None

abbrev pub below : Given → List Definition → Option FieldType → List Asked → Option Answer → Step → Option Place
below g ds t fields None s = None
below g ds t fields (Some r) s = below_result g ds t fields r.label r.below s

-- the place one step further; below one that fails there is none
abbrev pub child : Given → List Definition → Place → Step → Option Place
child g ds p s = if fails g p then None else below g ds p.type_ref p.fields p.result s

-- the steps below a result, in order: the keys of an object in order of first occurrence, the places of a list
abbrev pub indexes : ℕ → Answers → List Step
indexes i none = []
indexes i (more r inner rest) = index i ∷ indexes (suc i) rest

abbrev pub steps_below : Given → List Definition → List Asked → Result → Answers → List Step
steps_below g ds fields (result.object object number) items = map key (keys_after [] (expand (setting g object) ds (sets_of fields)))
steps_below g ds fields result.list items = indexes 0 items
steps_below g ds fields _ items = []

abbrev pub steps_of : Given → List Definition → List Asked → Option Answer → List Step
steps_of g ds fields None = []
steps_of g ds fields (Some r) = steps_below g ds fields r.label r.below

abbrev pub steps : Given → List Definition → Place → List Step
steps g ds p = if fails g p then [] else steps_of g ds p.fields p.result

-- whether the result is null
abbrev pub has_nothing : Option Answer → Bool
has_nothing None = false
has_nothing (Some r) = is_nothing r.label

-- What is null: what fails, a null result, and what has a child of a non-null type that is null (section 6.4.4).
pub data IsNull (g : Given) (ds : List Definition) : Place → Type 0 where
  failed : {p : Place} → fails g p ≡ true → IsNull g ds p
  nothing : {p : Place} → has_nothing p.result ≡ true → IsNull g ds p
  by_child : {p q : Place} (s : Step) → child g ds p s ≡ Some q → is_non_null q.type_ref ≡ true → IsNull g ds q → IsNull g ds p

-- what a leaf is written as at its type
abbrev pub written : Given → FieldType → Result → Option Leaf
written g (named name) (result.leaf v) = g.leaf_at name.text v
written g (non_null inner) r = written g inner r
written g _ r = None

abbrev pub leaf_in : Given → Option FieldType → Option Answer → Option Leaf
leaf_in g (Some t) (Some r) = written g t r.label
leaf_in g _ r = None

abbrev pub is_object : Result → Bool
is_object (result.object t i) = true
is_object _ = false

abbrev pub has_object : Option Answer → Bool
has_object None = false
has_object (Some r) = is_object r.label

abbrev pub has_list : Option Answer → Bool
has_list None = false
has_list (Some r) = is_list r.label

-- The data of a response shows a place, where Below says what the entries below show it.
abbrev pub ShowsAs : Given → List Definition → Shown → (Below : Type 0) → Entries → Place → Type 0
ShowsAs g ds shown.null Below entries p = IsNull g ds p × (entries ≡ none)
ShowsAs g ds (shown.leaf v) Below entries p = (IsNull g ds p → ⊥) × (leaf_in g p.type_ref p.result ≡ Some v) × (entries ≡ none)
ShowsAs g ds shown.list Below entries p = (IsNull g ds p → ⊥) × (has_list p.result ≡ true) × Below
ShowsAs g ds shown.object Below entries p = (IsNull g ds p → ⊥) × (has_object p.result ≡ true) × Below

-- Entries show the places at these steps below a place, in order.
abbrev pub ShowAll : Given → List Definition → Entries → Place → List Step → Type 0
ShowAll g ds none p ss = ss ≡ []
ShowAll g ds (more e inner rest) p ss =
    (others : List Step) × (ss ≡ e.step ∷ others)
    × ((q : Place) × (child g ds p e.step ≡ Some q) × ShowsAs g ds e.shown (ShowAll g ds inner q (steps g ds q)) inner q)
    × ShowAll g ds rest p others

abbrev pub Shows : Given → List Definition → Data → Place → Type 0
Shows g ds d p = ShowsAs g ds d.shown (ShowAll g ds d.below p (steps g ds p)) d.below p

-- All that is said of the places below a place, through these steps: depth first, in order. path leads to the place.
pub data AreTold (g : Given) (ds : List Definition) {A : Type 0} (what : Path → Place → List A) : Path → Place → List Step → List A → Type 0 where
  no_more : {path : Path} {p : Place} → AreTold g ds what path p [] []
  one_more : {path : Path} {p q : Place} {s : Step} {ss : List Step} {inner others : List A} → child g ds p s ≡ Some q →
      AreTold g ds what (path ++ s ∷ []) q (steps g ds q) inner → AreTold g ds what path p ss others →
      AreTold g ds what path p (s ∷ ss) (what (path ++ s ∷ []) q ++ inner ++ others)

-- the path of a place that fails, and the call that is made at a place
abbrev pub error_at : Given → Path → Place → List Path
error_at g path p = if fails g p then path ∷ [] else []

abbrev pub call_at : Path → Place → List Call
call_at path p = option_map_or (λ c. c ∷ []) p.call []

-- the place of the whole response: an object of the root type, number 0, of which the operation's set is asked
abbrev pub root_type : Text → FieldType
root_type type_name = named (record { text = type_name; place = record { start = 0; end = 0 } })

abbrev pub root_fields : Set → List Asked
root_fields set = record { key = []; name = []; arguments = []; set = set } ∷ []

abbrev pub root : (type_name : Text) → Set → Place
root type_name set = record {
  type_ref = Some (root_type type_name);
  result = Some (record { label = result.object type_name 0; below = none });
  fields = root_fields set;
  call = None;
}

-- What a response to an operation is: its data, and the paths of its errors.
pub record Responds (g : Given) (ds : List Definition) (type_name : Text) (set : Set) (d : Data) (errors : List Path) : Type 0 where
  pub shows : Shows g ds d (root type_name set)
  pub errors_are : AreTold g ds (error_at g) [] (root type_name set) (steps g ds (root type_name set)) errors

-- the calls that are made for it
abbrev pub Calls : Given → List Definition → (type_name : Text) → Set → List Call → Type 0
Calls g ds type_name set calls = AreTold g ds call_at [] (root type_name set) (steps g ds (root type_name set)) calls
