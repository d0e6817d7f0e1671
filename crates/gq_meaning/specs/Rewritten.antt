-- A document in which selections were moved into fragments or out of them, and what is kept of its execution (section 6.3).
use Rattle.gq_tree.specs.NamedTypes.{base_name}
use Rattle.std.specs.Prelude.{◌≡◌, ℕ, true, false, List, [], ◌∷◌, length, Option, Some, None}
use Rattle.gq_tree.specs.Plain.{named, list_of, non_null}
use Rattle.gq_meaning.specs.Thin.{IsIn}
use Rattle.gq_meaning.specs.Acyclic.{SpreadsBelow, IsRanked}
use Rattle.gq_meaning.specs.Results.{Answers, Path, Call, object}
use Rattle.gq_meaning.specs.Shown.{Data}
use Rattle.gq_meaning.specs.Values.{Text}
use Rattle.gq_meaning.specs.Selected.{Directives, Arguments, Set, none, field, spread, inline, join}
use Rattle.gq_meaning.specs.Expand.{Asked, Definition, find_definition, expand, sets_of}
use Rattle.gq_meaning.specs.Response.{FieldType, Given, setting, Place, fails, child, of_key, root, Responds, Calls}

-- the composite type of a field in a static type, where it has one
abbrev pub Static : Type 0
Static = Text → Text → Option Text

module _ (static : Static) (ds ds' : List Definition) where
  -- At a place of this static type the second set stands for the first.
  pub data Rewritten : (type_name : Text) → Set → Set → Type 0 where
    same_end : {t : Text} → Rewritten t none none
    same_leaf : {t : Text} {w : Directives} {k n : Text} {a : Arguments} {rest rest' : Set} → Rewritten t rest rest' → Rewritten t (field w k n a none rest) (field w k n a none rest')
    same_field : {t : Text} (c : Text) {w : Directives} {k n : Text} {a : Arguments} {set set' rest rest' : Set} → static t n ≡ Some c → Rewritten c set set' → Rewritten t rest rest' → Rewritten t (field w k n a set rest) (field w k n a set' rest')
    -- a spread of a fragment that stands in both, on the same type
    same_spread : {t : Text} {w : Directives} {f : Text} (d d' : Definition) {rest rest' : Set} → find_definition ds f ≡ Some d → find_definition ds' f ≡ Some d' → d.on ≡ d'.on → Rewritten t rest rest' → Rewritten t (spread w f rest) (spread w f rest')
    same_inline : {t : Text} {w : Directives} {on : Text} {set set' rest rest' : Set} → Rewritten on set set' → Rewritten t rest rest' → Rewritten t (inline w (Some on) set rest) (inline w (Some on) set' rest')
    same_bare : {t : Text} {w : Directives} {set set' rest rest' : Set} → Rewritten t set set' → Rewritten t rest rest' → Rewritten t (inline w None set rest) (inline w None set' rest')
    -- a run is put into a new fragment on the static type
    extracted : {t : Text} (f : Text) (d : Definition) {run rest rest' : Set} → find_definition ds' f ≡ Some d → d.on ≡ t → Rewritten t run d.set → Rewritten t rest rest' → Rewritten t (join run rest) (spread [] f rest')
    -- a spread becomes an inline fragment with its directives
    inlined : {t : Text} {w : Directives} {f : Text} (d : Definition) {set' rest rest' : Set} → find_definition ds f ≡ Some d → Rewritten d.on d.set set' → Rewritten t rest rest' → Rewritten t (spread w f rest) (inline w (Some d.on) set' rest')
    -- an inline fragment that says nothing goes
    removed : {t : Text} {set set' rest rest' : Set} → Rewritten t set set' → Rewritten t rest rest' → Rewritten t (inline [] (Some t) set rest) (join set' rest')
    removed_bare : {t : Text} {set set' rest rest' : Set} → Rewritten t set set' → Rewritten t rest rest' → Rewritten t (inline [] None set rest) (join set' rest')

  -- Fragments that stand in both are rewritten too.
  pub record AreKept : Type 0 where
    pub each : (f : Text) (d d' : Definition) → find_definition ds f ≡ Some d → find_definition ds' f ≡ Some d' → d.on ≡ d'.on → Rewritten d.on d.set d'.set

-- the name at the end of a type, inside lists and types without null
abbrev pub base_in : Option FieldType → Option Text
base_in None = None
base_in (Some t) = Some (base_name t)

-- A field of an object has a subtype of what it has in each type for which the object's type is possible.
pub record HasSubtypes (static : Static) (g : Given) : Type 0 where
  pub each : (p t n c o : Text) (type_ref : FieldType) → g.applies p t ≡ true → static p n ≡ Some c → g.type_of t n ≡ Some type_ref → g.applies (base_name type_ref) o ≡ true → g.applies c o ≡ true

-- the place at a path below a place
abbrev pub place_at : Given → List Definition → Option Place → Path → Option Place
place_at g ds None path = None
place_at g ds (Some p) [] = Some p
place_at g ds (Some p) (s ∷ path) = place_at g ds (child g ds p s) path

-- At each path with an object that fits the type there, the fields of one key have one name. What does not fit is not looked into.
pub record NamesAgree (g : Given) (ds : List Definition) (p : Place) : Type 0 where
  pub each : (path : Path) (q : Place) → place_at g ds (Some p) path ≡ Some q → fails g q ≡ false → (o : Text) (n : ℕ) (items : Answers) → q.result ≡ Some (record { label = object o n; below = items }) →
      (k : Text) (x y : Asked) → IsIn x (of_key k (expand (setting g o) ds (sets_of q.fields))) → IsIn y (of_key k (expand (setting g o) ds (sets_of q.fields))) → x.name ≡ y.name

-- Where it stands for another, a document has the same data, the same errors and the same calls.
abbrev pub RewritesKeep : Type 0
RewritesKeep = (static : Static) (g : Given) (ds ds' : List Definition) → g.takes [] ≡ true → AreKept static ds ds' → (rank rank' : Text → ℕ) → IsRanked rank ds → IsRanked rank' ds' → HasSubtypes static g →
    (t : Text) (set set' : Set) → Rewritten static ds ds' t set set' → SpreadsBelow rank (length ds) set → SpreadsBelow rank' (length ds') set' → NamesAgree g ds (root t set) →
    ((d : Data) (es : List Path) → Responds g ds t set d es → Responds g ds' t set' d es) × ((cs : List Call) → Calls g ds t set cs → Calls g ds' t set' cs)
