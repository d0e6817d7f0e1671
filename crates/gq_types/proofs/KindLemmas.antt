-- The test of kinds decides whether kinds are the same.
use Rattle.std.proofs.Common.{◌≡◌, ℕ, false, if◌then◌else◌, nat_eq, Option, Some, None, List, refl, ap, sym, ◌∙◌}
use Rattle.std.specs.Bool.{Decides}
use Rattle.std.specs.Option.{option_map_or}
use Rattle.std.proofs.lemmas.Bool.Decides.{Decides-eqb}
use Rattle.gq_types.specs.declared.entry.TypeKind.{TypeKind}
use Rattle.gq_types.specs.declared.entry.TypeKind.TheVariants as kind
use Rattle.gq_types.specs.Entries.{Text, EntryOf}
use Rattle.gq_types.specs.Joined.{kind_named}
use Rattle.gq_types.specs.Kinds.{kind_number, same_kind}
use Rattle.gq_types.specs.LookUps.{has_kind}

-- a kind from its number
abbrev numbered_kind : ℕ → TypeKind
numbered_kind n =
    if nat_eq n 0 then kind.Scalar else
    if nat_eq n 1 then kind.Object else
    if nat_eq n 2 then kind.Interface else
    if nat_eq n 3 then kind.Union else
    if nat_eq n 4 then kind.Enum else
    kind.InputObject

numbered_kind_is : (k : TypeKind) → numbered_kind (kind_number k) ≡ k
numbered_kind_is kind.Scalar = refl
numbered_kind_is kind.Object = refl
numbered_kind_is kind.Interface = refl
numbered_kind_is kind.Union = refl
numbered_kind_is kind.Enum = refl
numbered_kind_is kind.InputObject = refl

pub kinds_decide : (k l : TypeKind) → Decides (same_kind k l) (k ≡ l)
kinds_decide k l =
    let x = Decides-eqb (kind_number k) (kind_number l) in
    (λ h. sym (numbered_kind_is k) ∙ ap numbered_kind (x.0 h) ∙ numbered_kind_is l, λ h. x.1 (ap kind_number h))

optional_kinds_decide : (k : TypeKind) (o : Option TypeKind) → Decides (option_map_or (same_kind k) o false) (o ≡ Some k)
optional_kinds_decide k None = (λ h. absurd (cc), λ h. absurd (cc))
optional_kinds_decide k (Some l) = (λ h. ap Some (sym ((kinds_decide k l).0 h)), λ h. let e : k ≡ l = cc in (kinds_decide k l).1 e)

pub has_kind_decides : (es : List EntryOf) (k : TypeKind) (text : Text) → Decides (has_kind es k text) (kind_named es text ≡ Some k)
has_kind_decides es k text = optional_kinds_decide k (kind_named es text)
