-- Where nothing is told of an entry, no rule is broken at its number.
use Rattle.std.proofs.Common.{◌≡◌, ℕ, List, [], Some, Contains, not, subst, sym, ap, ◌∙◌}
use Rattle.std.specs.Prelude.{slice_get}
use Rattle.gq_fault.specs.declared.fault.Fault.{Fault}
use Rattle.gq_types.specs.BuiltIn.{defines_built_in}
use Rattle.gq_types.specs.Entries.{EntryOf, Numbered, numbered}
use Rattle.gq_types.specs.Joined.{judged}
use Rattle.gq_type_system.specs.DirectivesAndDefaults.{IsBadDirectiveOrDefault, in_site, in_entry, in_default}
use Rattle.gq_type_system.specs.FaultsAt.{directive_found_at, IsFaultlessAt}
use Rattle.gq_type_system.specs.Helping.DirectivesAndDefaultsPlaces.{group_faults_of}
use Rattle.gq_type_system.specs.Helping.EmptyOrRepeatedPlaces.{repeated_parts_of}
use Rattle.gq_type_system.specs.Helping.Untold.{IsUntold, IsUntoldAlone}
use Rattle.gq_type_system.specs.Implementations.{IsBadImplementation}
use Rattle.gq_type_system.specs.SchemaFaults.{defined_twice, bad_extension, reserved_name, unknown_type, wrong_kind, repeated_root, no_object, shared_root, empty_type, repeated_part, repeated_argument, bad_implementation, endless_input, no_query_root, bad_directive_or_default}
use Rattle.gq_type_system.proofs.BadExtensionLemmas.{told_bad_extension}
use Rattle.gq_type_system.proofs.DefinedTwiceLemmas.{told_defined_twice}
use Rattle.gq_type_system.proofs.DirectivesAndDefaultsLemmas.{told_site, told_default, told_own}
use Rattle.gq_type_system.proofs.EmptyOrRepeatedLemmas.{told_empty_type, told_repeated_part, told_repeated_argument}
use Rattle.gq_type_system.proofs.EntryRows.{stands}
use Rattle.gq_type_system.proofs.ImplementationLemmas.{told_bad_implementation}
use Rattle.gq_type_system.proofs.ReservedNameLemmas.{told_reserved_name}
use Rattle.gq_type_system.proofs.UnknownTypeLemmas.{told_unknown_type}
use Rattle.gq_type_system.proofs.WrongKindLemmas.{told_wrong_kind}
use Rattle.gq_types.proofs.Gathered.{nothing_in, from_filter, not_true}

none_told : (faults : List Fault) (fault : Fault) → faults ≡ [] → Contains faults fault → ⊥
none_told faults fault none told = nothing_in fault (subst (λ fs. Contains fs fault) none told)

same_number : (m n : ℕ) → Some m ≡ Some n → m ≡ n
same_number m n is = cc

module _ (es : List EntryOf) (number : ℕ) (e : EntryOf) (there : slice_get es number ≡ Some e) (untold : IsUntold es (record { number = number; entry = e })) where
  -- the entry of that number is that one
  is_untold : (n : Numbered) → Contains (numbered es) n → n.number ≡ number → IsUntold es n
  is_untold n is_numbered is =
      let stood = stands es n is_numbered in
      let same : n.entry ≡ e = by_get n.entry (ap (slice_get es) (sym is) ∙ stood) in
      subst (λ i. IsUntold es (record { number = i; entry = n.entry })) (sym is) (subst (λ d. IsUntold es (record { number = number; entry = d })) (sym same) untold)
    where
      by_get : (d : EntryOf) → slice_get es number ≡ Some d → d ≡ e
      by_get d got = cc

  is_untold_alone : (n : Numbered) → Contains (judged es) n → n.number ≡ number → IsUntoldAlone es n
  is_untold_alone n j is =
      let kept = from_filter (λ (m : Numbered). not (defines_built_in m.entry.definition)) (numbered es) n j in
      (is_untold n kept.0 is).alone (not_true (defines_built_in n.entry.definition) kept.1)

  no_directive_or_default : (item : Fault) (broken : IsBadDirectiveOrDefault es item) → directive_found_at broken ≡ number → ⊥
  no_directive_or_default item (in_site {n} {site} {fault} j stands wrong told) is = none_told _ fault (is_untold_alone n j is).inner (told_site es fault n site stands wrong)
  no_directive_or_default item (in_entry before n after {site} {fault} j are has wrong told) is =
      none_told _ fault untold.together.outer (subst (λ i. Contains (group_faults_of es i) fault) is (told_own es fault before n after site j are has wrong))
  no_directive_or_default item (in_default {n} {input} {default} {fault} j stands has wrong told) is = none_told _ fault (is_untold_alone n j is).inner (told_default es fault n input default stands has wrong)

  no_implementation : (fault : Fault) (w : IsBadImplementation es fault) → w.at.number ≡ number → ⊥
  no_implementation fault w is =
      let kept = from_filter (λ (m : Numbered). not (defines_built_in m.entry.definition)) (numbered es) w.at w.is_judged in
      none_told _ fault (is_untold w.at kept.0 is).together.implementations (told_bad_implementation es fault w)

  pub faultless_at : IsFaultlessAt es number
  faultless_at fault (defined_twice w) is = none_told _ fault (is_untold_alone w.entry w.is_judged (same_number w.entry.number number is)).defined_twice (told_defined_twice es fault w)
  faultless_at fault (bad_extension w) is = none_told _ fault (is_untold_alone w.entry w.is_judged (same_number w.entry.number number is)).extensions (told_bad_extension es fault w)
  faultless_at fault (reserved_name w) is = none_told _ fault (is_untold_alone w.entry w.is_judged (same_number w.entry.number number is)).reserved (told_reserved_name es fault w)
  faultless_at fault (unknown_type w) is = none_told _ fault (is_untold_alone w.entry w.is_judged (same_number w.entry.number number is)).unknown (told_unknown_type es fault w)
  faultless_at fault (wrong_kind w) is = none_told _ fault (is_untold_alone w.entry w.is_judged (same_number w.entry.number number is)).wrong (told_wrong_kind es fault w)
  faultless_at fault (repeated_root w) is = absurd (cc)
  faultless_at fault (no_object w) is = absurd (cc)
  faultless_at fault (shared_root w) is = absurd (cc)
  faultless_at fault (empty_type w) is = none_told _ fault (is_untold_alone w.entry w.is_judged (same_number w.entry.number number is)).empty (told_empty_type es fault w)
  faultless_at fault (repeated_part w) is =
      none_told _ fault untold.together.repeated (subst (λ i. Contains (repeated_parts_of es i) fault) (same_number w.number number is) (told_repeated_part es fault w))
  faultless_at fault (repeated_argument w) is = none_told _ fault (is_untold_alone w.entry w.is_judged (same_number w.entry.number number is)).arguments (told_repeated_argument es fault w)
  faultless_at fault (bad_implementation w) is = no_implementation fault w (same_number w.at.number number is)
  faultless_at fault (endless_input w) is = absurd (cc)
  faultless_at fault (no_query_root w) is = absurd (cc)
  faultless_at fault (bad_directive_or_default w) is = no_directive_or_default fault w (same_number (directive_found_at w) number is)
