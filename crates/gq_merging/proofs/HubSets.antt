-- Spreads that stand alone in a set: the fields in it, and the fragments that it leads to.
use Rattle.std.proofs.Common.{◌≡◌, ℕ, List, [], Some, All, Contains, refl, sym, ◌∙◌, ap, subst, inl, inr, arith}
use Rattle.std.specs.List.{slice_get}
use Rattle.std.proofs.lemmas.List.Elements.{All-append, All-nil, All-cons, All-contains, Contains-append_left, Contains-append_right, Contains-append_cases}
use Rattle.gq_names.proofs.RepeatLemmas.{contains_none, contains_first, contains_later, contains_cases}
use Rattle.gq_text.specs.declared.place.Span.{Span}
use Rattle.gq_tree.specs.Forest.{none, more}
use Rattle.gq_tree.specs.Plain.{NameOf, DirectiveOf, Sels, field, spread, inline}
use Rattle.gq_spreads.specs.Spreads.{places_from}
use Rattle.gq_types.specs.Entries.{Text}
use Rattle.gq_document.specs.Definitions.{FragmentOf}
use Rattle.gq_document.specs.Executable.{ExecutableOf}
use Rattle.gq_document.specs.FieldSets.{SetOf, FieldAt, fragment_set, InSet, here, within, through, after}
use Rattle.gq_merging.specs.Helping.SetTables.{own_spreads, names_of}
use Rattle.gq_merging.specs.Helping.HubTables.{SpreadOf, IsAlone, IsAloneOf, spreads_in}
use Rattle.gq_merging.proofs.MemberLemmas.{nothing, contains_get, get_map, to_places, spread_in}

-- each of the spreads stands alone in its selections
pub all_alone : (ss : Sels Span) → All (λ s. IsAlone s.text s.alone) (spreads_in ss)
all_alone none = All-nil (λ s. IsAlone s.text s.alone)
all_alone (more (field alias name arguments directives braces place) below rest) = all_alone rest
all_alone (more (spread name directives place) below rest) =
    All-cons (λ s. IsAlone s.text s.alone) (record { text = name.text; alone = more (spread name directives place) below none }) (spreads_in rest)
    (record { name = name; directives = directives; place = place; below = below; is = refl; named = refl }) (all_alone rest)
all_alone (more (inline on directives braces place) below rest) = All-append (λ s. IsAlone s.text s.alone) (spreads_in below) (spreads_in rest) (all_alone below) (all_alone rest)

-- the fragments of a spread's name are spread in the selections
pub own_of_spread : (names : List Text) (ss : Sels Span) (s : SpreadOf) (k : ℕ) → Contains (spreads_in ss) s → Contains (places_from 0 s.text names) k → Contains (own_spreads names ss) k
own_of_spread names none s k c p = absurd (contains_none s c)
own_of_spread names (more (field alias name arguments directives braces place) below rest) s k c p = own_of_spread names rest s k c p
own_of_spread names (more (spread name directives place) below rest) s k c p =
    elim (contains_cases (record { text = name.text; alone = more (spread name directives place) below none }) (spreads_in rest) s c) [
      | inl e ↦ Contains-append_left (places_from 0 name.text names) (own_spreads names rest) k (subst (λ (t : SpreadOf). Contains (places_from 0 t.text names) k) (sym e) p)
      | inr d ↦ Contains-append_right (places_from 0 name.text names) (own_spreads names rest) k (own_of_spread names rest s k d p)
    ]
own_of_spread names (more (inline on directives braces place) below rest) s k c p =
    elim (Contains-append_cases (spreads_in below) (spreads_in rest) s c) [
      | inl a ↦ Contains-append_left (own_spreads names below) (own_spreads names rest) k (own_of_spread names below s k a p)
      | inr b ↦ Contains-append_right (own_spreads names below) (own_spreads names rest) k (own_of_spread names rest s k b p)
    ]

-- a fragment that is spread is one of a spread's name
pub record SpreadWith (names : List Text) (ss : Sels Span) (k : ℕ) : Type 0 where
  pub one : SpreadOf
  pub stands : Contains (spreads_in ss) one
  pub place : Contains (places_from 0 one.text names) k

pub spread_of_own : (names : List Text) (ss : Sels Span) (k : ℕ) → Contains (own_spreads names ss) k → SpreadWith names ss k
spread_of_own names none k c = absurd (contains_none k c)
spread_of_own names (more (field alias name arguments directives braces place) below rest) k c =
    let q = spread_of_own names rest k c in record { one = q.one; stands = q.stands; place = q.place }
spread_of_own names (more (spread name directives place) below rest) k c =
    elim (Contains-append_cases (places_from 0 name.text names) (own_spreads names rest) k c) [
      | inl a ↦ record {
        one = record { text = name.text; alone = more (spread name directives place) below none };
        stands = contains_first (record { text = name.text; alone = more (spread name directives place) below none }) (spreads_in rest)
            (record { text = name.text; alone = more (spread name directives place) below none }) refl;
        place = a;
      }
      | inr b ↦ let q = spread_of_own names rest k b in record {
        one = q.one;
        stands = contains_later (record { text = name.text; alone = more (spread name directives place) below none }) (spreads_in rest) q.one q.stands;
        place = q.place;
      }
    ]
spread_of_own names (more (inline on directives braces place) below rest) k c =
    elim (Contains-append_cases (own_spreads names below) (own_spreads names rest) k c) [
      | inl a ↦ let q = spread_of_own names below k a in record { one = q.one; stands = Contains-append_left (spreads_in below) (spreads_in rest) q.one q.stands; place = q.place }
      | inr b ↦ let q = spread_of_own names rest k b in record { one = q.one; stands = Contains-append_right (spreads_in below) (spreads_in rest) q.one q.stands; place = q.place }
    ]

-- a set in which a spread stands alone leads to the fragments of its name
pub own_alone : (names : List Text) (text : Text) (ss : Sels Span) (k : ℕ) → IsAlone text ss → Contains (places_from 0 text names) k → Contains (own_spreads names ss) k
own_alone names text ss k a c =
    subst (λ ts. Contains (own_spreads names ts) k) (sym a.is)
    (Contains-append_left (places_from 0 a.name.text names) [] k (subst (λ t. Contains (places_from 0 t names) k) (sym a.named) c))

-- what stands in such a set stands in one of these fragments
record InFragment (x : ExecutableOf) (text : Text) (f : FieldAt) : Type 0 where
  number : ℕ
  fragment : FragmentOf
  at : slice_get x.fragments number ≡ Some fragment
  named : fragment.name.text ≡ text
  stands : InSet x (fragment_set fragment) f

abbrev first_text : Sels Span → Text
first_text none = []
first_text (more (field alias name arguments directives braces place) below rest) = []
first_text (more (spread name directives place) below rest) = name.text
first_text (more (inline on directives braces place) below rest) = []

abbrev all_but_first : Sels Span → Sels Span
all_but_first none = none
all_but_first (more head below rest) = rest

in_alone : (x : ExecutableOf) (s : SetOf) (f : FieldAt) (name : NameOf Span) (directives : List (DirectiveOf Span)) (place : Span) (under : Sels Span) →
    s.selections ≡ more (spread name directives place) under none → InSet x s f → InFragment x name.text f
in_alone x s f name directives place under e here = absurd (cc)
in_alone x s f name directives place under e (within i) = absurd (cc)
in_alone x s f name directives place under e (through {fragment = g} c same i) =
    let q = contains_get x.fragments g c in
    record { number = q.0; fragment = g; at = q.1; named = sym same ∙ ap first_text e; stands = i }
in_alone x s f name directives place under e (after {file = file} {parent = parent} {rest = rest} i) = absurd (nothing x file parent rest (ap all_but_first e) f i)

-- where the fragments of its name are spread in a set, what stands in it stands there too
pub alone_within : (x : ExecutableOf) (text : Text) (t s : SetOf) → IsAlone text t.selections →
    ((k : ℕ) → Contains (places_from 0 text (names_of x)) k → Contains (own_spreads (names_of x) s.selections) k) → (f : FieldAt) → InSet x t f → InSet x s f
alone_within x text t s a spreads f i =
    let q = in_alone x t f a.name a.directives a.place a.below a.is i in
    let named : slice_get (names_of x) q.number ≡ Some text = get_map (λ (h : FragmentOf). h.name.text) x.fragments q.number q.fragment q.at ∙ ap Some (q.named ∙ a.named) in
    let there : Contains (places_from 0 text (names_of x)) q.number = subst (Contains (places_from 0 text (names_of x))) (omega arith) (to_places 0 text (names_of x) q.number named) in
    spread_in x s.file s.parent s.selections q.number q.fragment f (spreads q.number there) q.at q.stands

pub one_within : (x : ExecutableOf) (s t : SetOf) → IsAloneOf (spreads_in s.selections) t → (f : FieldAt) → InSet x t f → InSet x s f
one_within x s t a =
    let alone : IsAlone a.one.text t.selections =
    subst (IsAlone a.one.text) (sym a.is) (All-contains (λ (s : SpreadOf). IsAlone s.text s.alone) (spreads_in s.selections) a.one (all_alone s.selections) a.stands) in
    alone_within x a.one.text t s alone (λ k c. own_of_spread (names_of x) s.selections a.one k a.stands c)
