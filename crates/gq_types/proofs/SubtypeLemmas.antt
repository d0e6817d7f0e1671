-- The tests of possible types and of subtypes decide the relations.
use Rattle.std.proofs.Common.{◌≡◌, Bool, true, Option, Some, None, List, ◌⊎◌, inl, inr, refl, sym, subst}
use Rattle.std.specs.Prelude.{◌||◌, ◌&&◌, is_none}
use Rattle.std.specs.Bool.{Decides}
use Rattle.std.specs.Str.{bytes_eq}
use Rattle.std.specs.Cmp.Lexicographic.{bytes_decides}
use Rattle.std.proofs.lemmas.Bool.Decides.{Decides-and, Decides-or, Decides-like}
use Rattle.gq_tree.specs.Plain.{TypeOf, named, list_of, non_null}
use Rattle.gq_types.specs.declared.entry.TypeKind.{TypeKind}
use Rattle.gq_types.specs.declared.entry.TypeKind.TheVariants as kind
use Rattle.gq_types.specs.Entries.{Text, EntryOf}
use Rattle.gq_types.specs.Joined.{kind_named}
use Rattle.gq_types.specs.LookUps.{has_kind}
use Rattle.gq_types.specs.Names.{declares}
use Rattle.gq_types.specs.Possible.{IsPossible, itself, member, declaring, IsSubtypeName, equal, possible, interface, Covers, by_name, by_items, both_non_null, without_null}
use Rattle.gq_types.specs.Subtypes.{MayBeSubtypeName, unknown_sub, unknown_super, subtype}
use Rattle.gq_types.specs.SubtypesTests.{is_possible_of, is_possible, is_subtype_name, may_be_subtype_name, covers}
use Rattle.gq_types.proofs.KindLemmas.{has_kind_decides}

-- possible types
to_possible_of : (es : List EntryOf) (text object : Text) (o : Option TypeKind) → kind_named es text ≡ o → kind_named es object ≡ Some kind.Object → is_possible_of es text object o ≡ true → IsPossible es text object
to_possible_of es text object (Some kind.Object) e k h = subst (λ t. IsPossible es t object) (sym ((bytes_decides text object).0 h)) (itself k)
to_possible_of es text object (Some kind.Union) e k h = member e h k
to_possible_of es text object (Some kind.Interface) e k h = declaring e h k
to_possible_of es text object (Some kind.Scalar) e k h = absurd (cc)
to_possible_of es text object (Some kind.Enum) e k h = absurd (cc)
to_possible_of es text object (Some kind.InputObject) e k h = absurd (cc)
to_possible_of es text object None e k h = absurd (cc)

from_possible : (es : List EntryOf) {text object : Text} → IsPossible es text object → (kind_named es object ≡ Some kind.Object) × (is_possible_of es text object (kind_named es text) ≡ true)
from_possible es (itself {object = object} k) = (k, subst (λ o. is_possible_of es object object o ≡ true) (sym k) ((bytes_decides object object).1 refl))
from_possible es (member {union = union} {object = object} e h k) = (k, subst (λ o. is_possible_of es union object o ≡ true) (sym e) h)
from_possible es (declaring {interface = text} {object = object} e h k) = (k, subst (λ o. is_possible_of es text object o ≡ true) (sym e) h)

pub possible_decides : (es : List EntryOf) (text object : Text) → Decides (is_possible es text object) (IsPossible es text object)
possible_decides es text object =
    let both = Decides-and (has_kind es kind.Object object) (is_possible_of es text object (kind_named es text)) (has_kind_decides es kind.Object object) (λ h. h, λ h. h) in
    (λ h. to_possible_of es text object (kind_named es text) refl (both.0 h).0 (both.0 h).1, λ p. both.1 (from_possible es p))

-- names of types
abbrev Declares : List EntryOf → Text → Text → Type 0
Declares es sub super = (kind_named es sub ≡ Some kind.Interface) × ((kind_named es super ≡ Some kind.Interface) × (declares es sub super ≡ true))

abbrev NameCases : List EntryOf → Text → Text → Type 0
NameCases es sub super = (sub ≡ super) ⊎ (IsPossible es super sub ⊎ Declares es sub super)

to_subtype_name : (es : List EntryOf) (sub super : Text) → NameCases es sub super → IsSubtypeName es sub super
to_subtype_name es sub super (inl e) = subst (λ t. IsSubtypeName es sub t) e equal
to_subtype_name es sub super (inr (inl p)) = possible p
to_subtype_name es sub super (inr (inr d)) = interface d.0 d.1.0 d.1.1

from_subtype_name : (es : List EntryOf) {sub super : Text} → IsSubtypeName es sub super → NameCases es sub super
from_subtype_name es equal = inl refl
from_subtype_name es (possible p) = inr (inl p)
from_subtype_name es (interface k l d) = inr (inr (k, (l, d)))

pub subtype_name_decides : (es : List EntryOf) (sub super : Text) → Decides (is_subtype_name es sub super) (IsSubtypeName es sub super)
subtype_name_decides es sub super =
    Decides-like (is_subtype_name es sub super) (to_subtype_name es sub super) (from_subtype_name es)
    (Decides-or (bytes_eq sub super) (is_possible es super sub || (has_kind es kind.Interface sub && (has_kind es kind.Interface super && declares es sub super)))
    (bytes_decides sub super)
    (Decides-or (is_possible es super sub) (has_kind es kind.Interface sub && (has_kind es kind.Interface super && declares es sub super))
    (possible_decides es super sub)
    (Decides-and (has_kind es kind.Interface sub) (has_kind es kind.Interface super && declares es sub super)
    (has_kind_decides es kind.Interface sub)
    (Decides-and (has_kind es kind.Interface super) (declares es sub super) (has_kind_decides es kind.Interface super) (λ h. h, λ h. h)))))

none_decides : {A : Type 0} (o : Option A) → Decides (is_none o) (o ≡ None)
none_decides None = (λ h. refl, λ h. refl)
none_decides (Some x) = (λ h. absurd (cc), λ h. absurd (cc))

abbrev MayCases : List EntryOf → Text → Text → Type 0
MayCases es sub super = (kind_named es sub ≡ None) ⊎ ((kind_named es super ≡ None) ⊎ IsSubtypeName es sub super)

to_may : (es : List EntryOf) (sub super : Text) → MayCases es sub super → MayBeSubtypeName es sub super
to_may es sub super (inl e) = unknown_sub e
to_may es sub super (inr (inl e)) = unknown_super e
to_may es sub super (inr (inr s)) = subtype s

from_may : (es : List EntryOf) {sub super : Text} → MayBeSubtypeName es sub super → MayCases es sub super
from_may es (unknown_sub e) = inl e
from_may es (unknown_super e) = inr (inl e)
from_may es (subtype s) = inr (inr s)

pub may_be_subtype_name_decides : (es : List EntryOf) (sub super : Text) → Decides (may_be_subtype_name es sub super) (MayBeSubtypeName es sub super)
may_be_subtype_name_decides es sub super =
    Decides-like (may_be_subtype_name es sub super) (to_may es sub super) (from_may es)
    (Decides-or (is_none (kind_named es sub)) (is_none (kind_named es super) || is_subtype_name es sub super)
    (none_decides (kind_named es sub))
    (Decides-or (is_none (kind_named es super)) (is_subtype_name es sub super) (none_decides (kind_named es super)) (subtype_name_decides es sub super)))

-- types
module _ {P Q : Type 0} (test : Text → Text → Bool) (relate : Text → Text → Type 0) (decides : (a b : Text) → Decides (test a b) (relate a b)) where
  to_covers : (sub : TypeOf P) (super : TypeOf Q) → covers test sub super ≡ true → Covers relate sub super
  to_covers (named sub) (named super) h = by_name ((decides sub.text super.text).0 h)
  to_covers (named sub) (list_of super) h = absurd (cc)
  to_covers (named sub) (non_null super) h = absurd (cc)
  to_covers (list_of sub) (named super) h = absurd (cc)
  to_covers (list_of sub) (list_of super) h = by_items (to_covers sub super h)
  to_covers (list_of sub) (non_null super) h = absurd (cc)
  to_covers (non_null sub) (named super) h = without_null (to_covers sub (named super) h)
  to_covers (non_null sub) (list_of super) h = without_null (to_covers sub (list_of super) h)
  to_covers (non_null sub) (non_null super) h = both_non_null (to_covers sub super h)

  -- what covers a type without null covers the one with null
  weaker : (sub : TypeOf P) (super : TypeOf Q) → covers test sub (non_null super) ≡ true → covers test sub super ≡ true
  weaker (named sub) super h = absurd (cc)
  weaker (list_of sub) super h = absurd (cc)
  weaker (non_null sub) (named super) h = h
  weaker (non_null sub) (list_of super) h = h
  weaker (non_null sub) (non_null super) h = weaker sub super h

  with_null : (sub : TypeOf P) (super : TypeOf Q) → covers test sub super ≡ true → covers test (non_null sub) super ≡ true
  with_null sub (named super) h = h
  with_null sub (list_of super) h = h
  with_null sub (non_null super) h = weaker sub super h

  from_covers : {sub : TypeOf P} {super : TypeOf Q} → Covers relate sub super → covers test sub super ≡ true
  from_covers (by_name {sub = sub} {super = super} r) = (decides sub.text super.text).1 r
  from_covers (by_items c) = from_covers c
  from_covers (both_non_null c) = from_covers c
  from_covers (without_null {sub = sub} {super = super} c) = with_null sub super (from_covers c)

  pub covers_decides : (sub : TypeOf P) (super : TypeOf Q) → Decides (covers test sub super) (Covers relate sub super)
  covers_decides sub super = (to_covers sub super, from_covers)
