-- Kinds of types and tests of them.
use Rattle.std.proofs.Common.{◌≡◌, ℕ, Bool, true, false, if◌then◌else◌, nat_eq, Option, Some, None, refl, sym, ap, ◌∙◌, eqb-true, is_none}
use Rattle.std.specs.Option.{option_map_or}
use Rattle.gq_types.specs.declared.entry.TypeKind.{TypeKind}
use Rattle.gq_types.specs.declared.entry.TypeKind.TheVariants as kind
use Rattle.gq_types.specs.Kinds.{kind_number, same_kind}

-- the kind of a number
abbrev kind_at : ℕ → TypeKind
kind_at n =
    if nat_eq n 0 then kind.Scalar else if nat_eq n 1 then kind.Object else if nat_eq n 2 then kind.Interface
    else if nat_eq n 3 then kind.Union else if nat_eq n 4 then kind.Enum else kind.InputObject

kind_back : (k : TypeKind) → kind_at (kind_number k) ≡ k
kind_back kind.Scalar = refl
kind_back kind.Object = refl
kind_back kind.Interface = refl
kind_back kind.Union = refl
kind_back kind.Enum = refl
kind_back kind.InputObject = refl

pub same_kind_is : (a b : TypeKind) → same_kind a b ≡ true → a ≡ b
same_kind_is a b h = sym (kind_back a) ∙ ap kind_at (eqb-true (kind_number a) (kind_number b) h) ∙ kind_back b

pub same_kind_self : (k : TypeKind) → same_kind k k ≡ true
same_kind_self kind.Scalar = refl
same_kind_self kind.Object = refl
same_kind_self kind.Interface = refl
same_kind_self kind.Union = refl
same_kind_self kind.Enum = refl
same_kind_self kind.InputObject = refl

-- what is found is of that kind
pub of_kind : (o : Option TypeKind) (k : TypeKind) → option_map_or (same_kind k) o false ≡ true → o ≡ Some k
of_kind None k h = absurd (cc)
of_kind (Some j) k h = ap Some (sym (same_kind_is k j h))

pub kind_found : (o : Option TypeKind) (k : TypeKind) → o ≡ Some k → option_map_or (same_kind k) o false ≡ true
kind_found o k e = ap (λ p. option_map_or (same_kind k) p false) e ∙ same_kind_self k

-- what is found does not pass a test
pub fails : {A : Type 0} (test : A → Bool) (o : Option A) → option_map_or test o true ≡ false → (a : A) × (o ≡ Some a) × (test a ≡ false)
fails test None h = absurd (cc)
fails test (Some a) h = (a, refl, h)

pub none_found : {A : Type 0} (o : Option A) → is_none o ≡ true → o ≡ None
none_found None h = refl
none_found (Some a) h = absurd (cc)
