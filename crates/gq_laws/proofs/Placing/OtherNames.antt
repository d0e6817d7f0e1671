-- Definitions whose fragments are called otherwise, at the same places: what they say, and which fragments they reach.
use Rattle.std.proofs.Common.{◌≡◌, ⊎_elim, List, [], ◌∷◌, map, flat_map, refl, sym, ap, ◌∙◌, subst, Contains}
use Rattle.gq_text.specs.declared.place.Span.{Span}
use Rattle.gq_tree.specs.Forest.{labels, relabel}
use Rattle.gq_tree.specs.Names.{spread_name, spread_names}
use Rattle.gq_tree.specs.Plain.{NameOf, Head, field, spread, inline, Sels}
use Rattle.gq_tree.proofs.ForestLemmas.{relabel_labels}
use Rattle.gq_types.specs.Entries.{Text}
use Rattle.gq_types.proofs.Gathered.{nothing_in, first, later, cases_cons}
use Rattle.gq_document.specs.Definitions.{OperationOf, FragmentOf}
use Rattle.gq_document.specs.Executable.{ExecutableOf}
use Rattle.gq_document.specs.Reaches.{IsSpreadIn, Reaches, at_once, through}

abbrev pub other_name : (Text → Text) → NameOf Span → NameOf Span
other_name shown name = record { text = shown name.text; place = name.place }

abbrev pub other_head : (Text → Text) → Head Span → Head Span
other_head shown (field alias name arguments directives braces place) = field alias name arguments directives braces place
other_head shown (spread name directives place) = spread (other_name shown name) directives place
other_head shown (inline on directives braces place) = inline on directives braces place

abbrev pub other_set : (Text → Text) → Sels Span → Sels Span
other_set shown set = relabel (other_head shown) set

abbrev pub other_operation : (Text → Text) → OperationOf → OperationOf
other_operation shown o = record {
  file = o.file;
  kind = o.kind;
  name = o.name;
  variables = o.variables;
  directives = o.directives;
  set = other_set shown o.set;
  braces = o.braces;
  place = o.place;
}

abbrev pub other_fragment : (Text → Text) → FragmentOf → FragmentOf
other_fragment shown f = record {
  file = f.file;
  name = other_name shown f.name;
  on = f.on;
  directives = f.directives;
  set = other_set shown f.set;
  braces = f.braces;
  place = f.place;
}

abbrev pub other_names : (Text → Text) → ExecutableOf → ExecutableOf
other_names shown x = record { entries = x.entries; operations = map (other_operation shown) x.operations; fragments = map (other_fragment shown) x.fragments }

-- no two texts are shown as one
abbrev pub KeepsApart : (Text → Text) → Type 0
KeepsApart shown = (a b : Text) → shown a ≡ shown b → a ≡ b

-- elements of mapped lists
pub from_map : {A B : Type 0} (f : A → B) (xs : List A) (y : B) → Contains (map f xs) y → (x : A) × Contains xs x × (y ≡ f x)
from_map f [] y c = nothing_in y c
from_map f (x ∷ xs) y c = ⊎_elim
    (λ e. (x, first x x xs refl, sym e))
    (λ d. let r = from_map f xs y d in (r.0, later x r.0 xs r.1, r.2))
    (cases_cons (f x) y (map f xs) c)

pub to_map : {A B : Type 0} (f : A → B) (xs : List A) (x : A) → Contains xs x → Contains (map f xs) (f x)
to_map f [] x c = nothing_in x c
to_map f (z ∷ xs) x c = ⊎_elim (λ e. first (f z) (f x) (map f xs) (ap f e)) (λ d. later (f z) (f x) (map f xs) (to_map f xs x d)) (cases_cons z x xs c)

module _ (shown : Text → Text) where
  in_heads : (hs : List (Head Span)) → flat_map spread_name (map (other_head shown) hs) ≡ map (other_name shown) (flat_map spread_name hs)
  in_heads [] = refl
  in_heads (field alias name arguments directives braces place ∷ hs) = in_heads hs
  in_heads (spread name directives place ∷ hs) = ap (λ z. other_name shown name ∷ z) (in_heads hs)
  in_heads (inline on directives braces place ∷ hs) = in_heads hs

  -- the names of spreads
  names_of_spreads : (ss : Sels Span) → spread_names (other_set shown ss) ≡ map (other_name shown) (spread_names ss)
  names_of_spreads ss = ap (λ z. flat_map spread_name z) (relabel_labels (other_head shown) ss) ∙ in_heads (labels ss)

  pub spread_from : (ss : Sels Span) (name : NameOf Span) → Contains (spread_names (other_set shown ss)) name → (m : NameOf Span) × Contains (spread_names ss) m × (name ≡ other_name shown m)
  spread_from ss name c = from_map (other_name shown) (spread_names ss) name (subst (λ z. Contains z name) (names_of_spreads ss) c)

  pub spread_to : (ss : Sels Span) (name : NameOf Span) → Contains (spread_names ss) name → Contains (spread_names (other_set shown ss)) (other_name shown name)
  spread_to ss name c = subst (λ z. Contains z (other_name shown name)) (sym (names_of_spreads ss)) (to_map (other_name shown) (spread_names ss) name c)

  -- a spread of a fragment
  pub is_spread_to : (ss : Sels Span) (f : FragmentOf) → IsSpreadIn ss f → IsSpreadIn (other_set shown ss) (other_fragment shown f)
  is_spread_to ss f s = record { name = other_name shown s.name; stands = spread_to ss s.name s.stands; names = ap shown s.names }

  pub reaches_to : (fs : List FragmentOf) (ss : Sels Span) (f : FragmentOf) → Reaches fs ss f → Reaches (map (other_fragment shown) fs) (other_set shown ss) (other_fragment shown f)
  reaches_to fs ss f (at_once c s) = at_once (to_map (other_fragment shown) fs f c) (is_spread_to ss f s)
  reaches_to fs ss f (through {g = g} way c s) = through (reaches_to fs ss g way) (to_map (other_fragment shown) fs f c) (is_spread_to g.set f s)

  module _ (apart : KeepsApart shown) where
    pub is_spread_from : (ss : Sels Span) (f : FragmentOf) → IsSpreadIn (other_set shown ss) (other_fragment shown f) → IsSpreadIn ss f
    is_spread_from ss f s =
        let m = spread_from ss s.name s.stands in
        record { name = m.0; stands = m.1; names = apart m.0.text f.name.text (ap (λ z. z.text) (sym m.2) ∙ s.names) }

    -- what is reached is a fragment that is reached, called otherwise
    pub reaches_from : (fs : List FragmentOf) (ss : Sels Span) (f : FragmentOf) → Reaches (map (other_fragment shown) fs) (other_set shown ss) f →
        (g : FragmentOf) × Reaches fs ss g × (f ≡ other_fragment shown g)
    reaches_from fs ss f (at_once c s) =
        let k = from_map (other_fragment shown) fs f c in
        (k.0, at_once k.1 (is_spread_from ss k.0 (subst (IsSpreadIn (other_set shown ss)) k.2 s)), k.2)
    reaches_from fs ss f (through {g = g} way c s) =
        let m = reaches_from fs ss g way in
        let k = from_map (other_fragment shown) fs f c in
        let spread : IsSpreadIn (other_set shown m.0.set) (other_fragment shown k.0) =
        subst (λ z. IsSpreadIn z.set (other_fragment shown k.0)) m.2 (subst (IsSpreadIn g.set) k.2 s) in
        (k.0, through m.1 k.1 (is_spread_from m.0.set k.0 spread), k.2)
