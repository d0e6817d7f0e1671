-- What the rules tell by files: faults of fields rest on their file, and the rest is parted by the codes.
use Rattle.std.proofs.Common.{◌≡◌, ◌↔◌, ⊎_elim, inl, inr, ℕ, Bool, true, false, List, [], ◌∷◌, ◌++◌, Option, Contains, filter, refl, sym, ap, ◌∙◌, subst}
use Rattle.std.proofs.lemmas.List.{append-nil}
use Rattle.std.specs.Bool.{beq}
use Rattle.gq_text.specs.declared.place.Span.{Span}
use Rattle.gq_tree.specs.declared.type_system.DirectiveLocation.{DirectiveLocation}
use Rattle.gq_tree.specs.Plain.{NameOf, Val, DirectiveOf, InputOf}
use Rattle.gq_tree.specs.Readings.{ParsedOf, in_document}
use Rattle.gq_fault.specs.declared.fault.Fault.{Fault}
use Rattle.gq_fault.specs.Adds.{AddsExactly}
use Rattle.gq_names.proofs.RepeatLemmas.{contains_none}
use Rattle.gq_types.specs.Entries.{Text, EntryOf}
use Rattle.gq_types.proofs.Gathered.{from_filter, to_filter}
use Rattle.gq_values.specs.Literals.{Expected}
use Rattle.gq_values.specs.LiteralFaults.{IsFaultOf, wrong_value, unknown_field, field_not_unique, field_missing}
use Rattle.gq_values.specs.ArgumentFaults.{IsArgumentFault, unknown_argument, argument_not_unique, argument_missing, fault_in_value}
use Rattle.gq_values.specs.DirectiveFaults.{IsDirectiveFault, unknown_directive, directive_in_wrong_place, directive_repeated, fault_in_arguments}
use Rattle.gq_fields.specs.FieldFaults.{IsFieldFault}
use Rattle.gq_fields.specs.FieldFaults as fields
use Rattle.gq_document.specs.Definitions.{OperationOf, FragmentOf, operation_in, fragment_in, operations_of, fragments_of}
use Rattle.gq_document.specs.Executable.{ExecutableOf}
use Rattle.gq_schema.specs.SchemaOf.{HasNoFault}
use Rattle.gq_type_system.specs.SchemaFaults.{IsSchemaFault}
use Rattle.gq_rules.specs.Faults.{IsToldFirst}
use Rattle.gq_rules.specs.Project.{type_system_of}
use Rattle.gq_rules.specs.Helping.Places.{unread_at, mixed_at, each_from}
use Rattle.gq_rules.proofs.DemandLemmas.{told_first_are}
use Rattle.gq_rules.specs.RuleFaults.{IsRuleFault, of_operations, of_fields, of_fragments, of_spreads, of_variables, of_merging}
use Rattle.gq_rules.specs.RestsOnFile.{rests_on_file}
use Rattle.gq_rules.specs.Files.{alone, IsLocalFault, IsFaultAcross}
use Rattle.gq_rules.specs.Helping.RuleGroups.{IsAcrossGroup}

module _ {es : List EntryOf} {n : ℕ} {f : Fault} where
  part_rests : {reading : Expected} {value : Val Span} → IsFaultOf es n reading value f → rests_on_file f.code ≡ true
  part_rests (wrong_value a b e) = ap (λ (z : Fault). rests_on_file z.code) e
  part_rests (unknown_field a b c d g e) = ap (λ (z : Fault). rests_on_file z.code) e
  part_rests (field_not_unique a b e) = ap (λ (z : Fault). rests_on_file z.code) e
  part_rests (field_missing a b c d g h e) = ap (λ (z : Fault). rests_on_file z.code) e

  argument_rests : {definitions : Option (List (InputOf Span))} {name : NameOf Span} {arguments : List (Val Span)} → IsArgumentFault es n definitions name arguments f → rests_on_file f.code ≡ true
  argument_rests (unknown_argument a b c e) = ap (λ (z : Fault). rests_on_file z.code) e
  argument_rests (argument_not_unique a e) = ap (λ (z : Fault). rests_on_file z.code) e
  argument_rests (argument_missing a b c d e) = ap (λ (z : Fault). rests_on_file z.code) e
  argument_rests (fault_in_value a b h) = part_rests h.fault

  directive_rests : {location : DirectiveLocation} {before : List Text} {directives : List (DirectiveOf Span)} → IsDirectiveFault es n location before directives f → rests_on_file f.code ≡ true
  directive_rests (unknown_directive a b e) = ap (λ (z : Fault). rests_on_file z.code) e
  directive_rests (directive_in_wrong_place a b c e) = ap (λ (z : Fault). rests_on_file z.code) e
  directive_rests (directive_repeated a b c e) = ap (λ (z : Fault). rests_on_file z.code) e
  directive_rests (fault_in_arguments a h) = argument_rests h

field_rests : (x : ExecutableOf) (f : Fault) → IsFieldFault x f → rests_on_file f.code ≡ true
field_rests x f (fields.unknown_field h) = ap (λ (z : Fault). rests_on_file z.code) h.is
field_rests x f (fields.wrong_selections h) = ap (λ (z : Fault). rests_on_file z.code) h.is
field_rests x f (fields.wrong_argument h) = argument_rests h.fault
field_rests x f (fields.wrong_directive h) = directive_rests h.fault
field_rests x f (fields.wrong_default h) = part_rests h.fault.fault

from_beq : (a b : Bool) → beq a b ≡ true → a ≡ b
from_beq true true e = refl
from_beq false false e = refl
from_beq true false e = sym e
from_beq false true e = e

to_beq : (a b : Bool) → a ≡ b → beq a b ≡ true
to_beq true true e = refl
to_beq false false e = refl
to_beq true false e = sym e
to_beq false true e = e

-- those of the faults that some rules tell that rest on a file, or that do not
rest : (Is : Fault → Type 0) (all some : List Fault) (on_file : Bool) → ((f : Fault) → Contains all f ↔ Is f) →
    some ≡ filter (λ (z : Fault). beq (rests_on_file z.code) on_file) all → (f : Fault) → Contains some f ↔ ((rests_on_file f.code ≡ on_file) × Is f)
rest Is all some on_file exact is f = (
  λ c. let t = from_filter (λ (z : Fault). beq (rests_on_file z.code) on_file) all f (subst (λ fs. Contains fs f) is c) in (from_beq (rests_on_file f.code) on_file t.1, (exact f).0 t.0),
  λ h. subst (λ fs. Contains fs f) (sym is) (to_filter (λ (z : Fault). beq (rests_on_file z.code) on_file) all f ((exact f).1 h.1) (to_beq (rests_on_file f.code) on_file h.0)),
)

-- the definitions of one document
one_document : {A : Type 0} (xs ys : List A) → xs ≡ ys ++ [] → xs ≡ ys
one_document xs ys e = e ∙ append-nil ys

alone_is : (es : List EntryOf) (r : ParsedOf) (os : List OperationOf) (gs : List FragmentOf) → os ≡ operations_of (r ∷ []) → gs ≡ fragments_of (r ∷ []) →
    record { entries = es; operations = os; fragments = gs } ≡ alone es 0 r
alone_is es r os gs o g =
    ap (λ (xs : List OperationOf). record { entries = es; operations = xs; fragments = gs }) (one_document os (in_document operation_in 0 r) o)
    ∙ ap (λ (xs : List FragmentOf). record { entries = es; operations = in_document operation_in 0 r; fragments = xs }) (one_document gs (in_document fragment_in 0 r) g)

pub of_one : (es : List EntryOf) (r : ParsedOf) (os : List OperationOf) (gs : List FragmentOf) (all some : List Fault) → os ≡ operations_of (r ∷ []) → gs ≡ fragments_of (r ∷ []) →
    AddsExactly (IsRuleFault (record { entries = es; operations = os; fragments = gs })) [] all → some ≡ filter (λ (z : Fault). beq (rests_on_file z.code) true) all →
    (f : Fault) → Contains some f ↔ IsLocalFault (alone es 0 r) f
of_one es r os gs all some o g adds is f =
    subst (λ (x : ExecutableOf). Contains some f ↔ IsLocalFault x f) (alone_is es r os gs o g)
    (rest (IsRuleFault (record { entries = es; operations = os; fragments = gs })) all some true
    (λ z. (λ c. (adds.exactly z).0 (subst (λ fs. Contains fs z) adds.is c), λ h. subst (λ fs. Contains fs z) (sym adds.is) ((adds.exactly z).1 h))) is f)

module _ (x : ExecutableOf) where
  group_rule : (f : Fault) → IsAcrossGroup x f → IsRuleFault x f
  group_rule f h = ⊎_elim (⊎_elim (⊎_elim of_operations of_fragments) of_merging) (⊎_elim of_spreads of_variables) h

  rule_group : (f : Fault) → rests_on_file f.code ≡ false → IsRuleFault x f → IsAcrossGroup x f
  rule_group f e (of_operations h) = inl (inl (inl h))
  rule_group f e (of_fragments h) = inl (inl (inr h))
  rule_group f e (of_merging h) = inl (inr h)
  rule_group f e (of_spreads h) = inr (inl h)
  rule_group f e (of_variables h) = inr (inr h)
  rule_group f e (of_fields h) = let yes = field_rests x f h in absurd (cc)

  pub of_all : (all some : List Fault) → AddsExactly (IsAcrossGroup x) [] all → some ≡ filter (λ (z : Fault). beq (rests_on_file z.code) false) all →
      (f : Fault) → Contains some f ↔ IsFaultAcross x f
  of_all all some adds is f =
      let r = rest (IsAcrossGroup x) all some false
      (λ z. (λ c. (adds.exactly z).0 (subst (λ fs. Contains fs z) adds.is c), λ h. subst (λ fs. Contains fs z) (sym adds.is) ((adds.exactly z).1 h))) is f in
      (λ c. let p = r.0 c in (p.0, group_rule f p.1), λ h. r.1 (h.0, rule_group f h.0 h.1))

-- what is told first, where the texts' faults and those of the type system are found
module _ (readings : List ParsedOf) (es : List EntryOf) (is : es ≡ type_system_of readings) where
  pub first_with : (schema texts all : List Fault) → ((f : Fault) → Contains schema f ↔ IsSchemaFault es f) →
      texts ≡ each_from unread_at 0 readings ++ each_from mixed_at 0 readings → all ≡ texts ++ schema → (f : Fault) → Contains all f ↔ IsToldFirst readings f
  first_with schema texts all exact one two f =
      let of_project = λ (z : Fault). subst (λ (us : List EntryOf). Contains schema z ↔ IsSchemaFault us z) is (exact z) in
      subst (λ (fs : List Fault). Contains fs f ↔ IsToldFirst readings f) (sym (two ∙ ap (λ (fs : List Fault). fs ++ schema) one)) (told_first_are readings schema of_project f)

  pub first_without : (texts : List Fault) → HasNoFault es → texts ≡ each_from unread_at 0 readings ++ each_from mixed_at 0 readings → (f : Fault) → Contains texts f ↔ IsToldFirst readings f
  first_without texts none one f = first_with [] texts texts (λ z. ((λ c. absurd (contains_none z c)), (λ h. absurd (none z h)))) one (sym (append-nil texts)) f
