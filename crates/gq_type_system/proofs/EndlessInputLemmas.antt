-- What is told of input objects is what the relation says.
use Rattle.std.proofs.Common.{◌≡◌, ℕ, Bool, true, false, ◌||◌, if◌then◌else◌, List, [], ◌++◌, not, refl, ap, sym, ◌∙◌, subst, Contains, ◌⊎◌, ⊎_elim, inl, inr, Option, Some, None, nat_eq, eqb-true, eq-eqb}
use Rattle.std.specs.Prelude.{slice_index_or}
use Rattle.gq_text.specs.declared.place.Span.{Span}
use Rattle.gq_fault.specs.declared.code.Code.TheVariants.{EndlessInput}
use Rattle.gq_fault.specs.declared.fault.Fault.{Fault}
use Rattle.gq_tree.specs.Plain.{NameOf, scalar_type, object_type, interface_type, union_type, enum_type, input_type, TypeSystemOf, schema, type_definition, directive_definition}
use Rattle.gq_types.specs.Entries.{Text, EntryOf, Numbered, numbered}
use Rattle.gq_types.specs.BuiltIn.{defines_built_in}
use Rattle.gq_types.specs.Joined.{type_number}
use Rattle.gq_fault.specs.FaultPlaces.{fault_at}
use Rattle.gq_type_system.specs.EndlessInputs.{IsEndless, by_non_null, by_default, input_object_in, IsEndlessInput}
use Rattle.gq_fault.specs.Adds.{AddsExactly}
use Rattle.gq_type_system.specs.Helping.EndlessInputsPlaces.{MarksNonNull, MarksByDefault, fault_if, is_number, endless_named, endless_input, endless_inputs}
use Rattle.gq_type_system.proofs.Gathered.{in_only}
use Rattle.gq_types.proofs.Gathered.{nothing_in as in_none, first as in_first, from_flat, to_flat, from_filter, to_filter}

-- no input object is built in
not_built_in : (d : TypeSystemOf Span) (name : NameOf Span) → input_object_in d ≡ Some name → not (defines_built_in d) ≡ true
not_built_in (schema extends description directives roots place) name is = absurd (cc)
not_built_in (type_definition true description n directives body place) name is = absurd (cc)
not_built_in (type_definition false description n directives scalar_type place) name is = absurd (cc)
not_built_in (type_definition false description n directives (object_type interfaces fields) place) name is = absurd (cc)
not_built_in (type_definition false description n directives (interface_type interfaces fields) place) name is = absurd (cc)
not_built_in (type_definition false description n directives (union_type members) place) name is = absurd (cc)
not_built_in (type_definition false description n directives (enum_type values) place) name is = absurd (cc)
not_built_in (type_definition false description n directives (input_type fields) place) name is = refl
not_built_in (directive_definition description n arguments repeatable locations place) name is = absurd (cc)

from_number : (number : ℕ) (o : Option ℕ) → is_number number o ≡ true → o ≡ Some number
from_number number None is = absurd (cc)
from_number number (Some other) is = ap Some (sym (eqb-true number other is))

or_cases : (a b : Bool) → (a || b) ≡ true → (a ≡ true) ⊎ (b ≡ true)
or_cases true b is = inl refl
or_cases false b is = inr is

module _ (es : List EntryOf) (marks others : List Bool) (non_null : MarksNonNull es marks) (default : MarksByDefault es others) where
  endless_of : (text : Text) (number : ℕ) → type_number es text ≡ Some number → (slice_index_or marks number false || slice_index_or others number false) ≡ true → IsEndless es text
  endless_of text number is marked = ⊎_elim
      (λ m. by_non_null ((non_null text number is).0 m))
      (λ m. let field = (default text number is).0 m in by_default field.1 field.2)
      (or_cases (slice_index_or marks number false) (slice_index_or others number false) marked)

  marked_of : (text : Text) (number : ℕ) → type_number es text ≡ Some number → IsEndless es text → (slice_index_or marks number false || slice_index_or others number false) ≡ true
  marked_of text number is (by_non_null way) = ap (λ b. b || slice_index_or others number false) ((non_null text number is).1 way)
  marked_of text number is (by_default {field = field} named way) =
      or_right (slice_index_or marks number false) (slice_index_or others number false) ((default text number is).1 (field, named, way))
    where
      or_right : (a b : Bool) → b ≡ true → (a || b) ≡ true
      or_right true b is = refl
      or_right false b is = is

  from_item : (n : Numbered) (name : NameOf Span) (fault : Fault) → Contains (numbered es) n → input_object_in n.entry.definition ≡ Some name
      → (slice_index_or marks n.number false || slice_index_or others n.number false) ≡ true
      → (b : Bool) → is_number n.number (type_number es name.text) ≡ b → Contains (fault_if b n.entry.file name) fault → IsEndlessInput es fault
  from_item n name fault stands defines marked false is found = absurd (in_none fault found)
  from_item n name fault stands defines marked true is found =
      let meant = from_number n.number (type_number es name.text) is in
      record {
        entry = n;
        is_judged = to_filter (λ n. not (defines_built_in n.entry.definition)) (numbered es) n stands (not_built_in n.entry.definition name defines);
        name = name;
        defines = defines;
        is_meant = meant;
        is_endless = endless_of name.text n.number meant marked;
        is = sym (in_only (fault_at n.entry.file EndlessInput name) fault found);
      }

  from_named : (n : Numbered) (fault : Fault) → Contains (numbered es) n → (slice_index_or marks n.number false || slice_index_or others n.number false) ≡ true
      → (o : Option (NameOf Span)) → input_object_in n.entry.definition ≡ o → Contains (endless_named es n.entry.file n.number o) fault → IsEndlessInput es fault
  from_named n fault stands marked None is found = absurd (in_none fault found)
  from_named n fault stands marked (Some name) is found = from_item n name fault stands is marked (is_number n.number (type_number es name.text)) refl found

  from_mark : (n : Numbered) (fault : Fault) → Contains (numbered es) n → (b : Bool) → (slice_index_or marks n.number false || slice_index_or others n.number false) ≡ b
      → Contains (if b then endless_named es n.entry.file n.number (input_object_in n.entry.definition) else []) fault → IsEndlessInput es fault
  from_mark n fault stands false is found = absurd (in_none fault found)
  from_mark n fault stands true is found = from_named n fault stands is (input_object_in n.entry.definition) refl found

  from_places : (fault : Fault) → Contains (endless_inputs es marks others) fault → IsEndlessInput es fault
  from_places fault found =
      let entry = from_flat (endless_input es marks others) (numbered es) fault found in
      from_mark entry.0 fault entry.1 (slice_index_or marks entry.0.number false || slice_index_or others entry.0.number false) refl entry.2

  to_places : (fault : Fault) → IsEndlessInput es fault → Contains (endless_inputs es marks others) fault
  to_places fault w =
      let marked = marked_of w.name.text w.entry.number w.is_meant w.is_endless in
      let told : Contains (fault_if true w.entry.entry.file w.name) fault = in_first (fault_at w.entry.entry.file EndlessInput w.name) fault [] (sym w.is) in
      let meant : is_number w.entry.number (type_number es w.name.text) ≡ true = ap (is_number w.entry.number) w.is_meant ∙ same w.entry.number in
      let named : Contains (endless_named es w.entry.entry.file w.entry.number (Some w.name)) fault = subst (λ b. Contains (fault_if b w.entry.entry.file w.name) fault) (sym meant) told in
      let defined : Contains (endless_named es w.entry.entry.file w.entry.number (input_object_in w.entry.entry.definition)) fault =
      subst (λ o. Contains (endless_named es w.entry.entry.file w.entry.number o) fault) (sym w.defines) named in
      to_flat (endless_input es marks others) (numbered es) w.entry fault (from_filter (λ n. not (defines_built_in n.entry.definition)) (numbered es) w.entry w.is_judged).0
      (subst (λ b. Contains (if b then endless_named es w.entry.entry.file w.entry.number (input_object_in w.entry.entry.definition) else []) fault) (sym marked) defined)
    where
      same : (n : ℕ) → nat_eq n n ≡ true
      same n = eq-eqb n n refl

  -- exactly the endless input objects are told
  pub puts_endless : (old : List Fault) → AddsExactly (IsEndlessInput es) old (old ++ endless_inputs es marks others)
  puts_endless old = record { added = endless_inputs es marks others; is = refl; exactly = λ fault. (from_places fault, to_places fault) }
