-- What is told of names is what the rules demand.
use Rattle.std.proofs.Common.{◌≡◌, ◌↔◌, ⊎_elim, inl, inr, Bool, true, false, List, [], ◌++◌, Contains, filter, flat_map, refl, sym, ap, ◌∙◌, subst}
use Rattle.std.specs.Bool.{beq}
use Rattle.std.specs.Cmp.Lexicographic.{bytes_decides, nat_list_eq_equiv}
use Rattle.std.specs.List.{list_any}
use Rattle.std.specs.Str.{bytes_eq}
use Rattle.std.proofs.lemmas.List.Elements.{Contains-append_left, Contains-append_right, Contains-append_cases}
use Rattle.std.proofs.lemmas.Map.Views.{Contains-from_any, list_any-from_Contains}
use Rattle.gq_names.specs.Repeats.{repeated}
use Rattle.gq_names.proofs.RepeatLemmas.{repeated_is}
use Rattle.gq_fault.specs.declared.code.Code.TheVariants.{FragmentNameNotUnique, FragmentNotUsed}
use Rattle.gq_fault.specs.declared.fault.Fault.{Fault}
use Rattle.gq_fault.specs.Adds.{AddsExactly}
use Rattle.gq_fault.specs.FaultPlaces.{fault_at}
use Rattle.gq_types.specs.Entries.{Text}
use Rattle.gq_types.proofs.Gathered.{from_flat, to_flat, from_map_as, to_map_as, from_not, to_not}
use Rattle.gq_document.specs.Definitions.{FragmentOf}
use Rattle.gq_document.specs.Executable.{ExecutableOf}
use Rattle.gq_fragments.specs.FragmentNameUniqueness.{IsRepeatedFragmentName}
use Rattle.gq_fragments.specs.OperationFaults.{IsOperationFault}
use Rattle.gq_fragments.specs.OperationFaults as operation
use Rattle.gq_fragments.specs.Helping.FragmentPlaces.{repeated_names}
use Rattle.gq_spreads.specs.FragmentsMustBeUsed.{IsUnusedFragment}
use Rattle.gq_by_file.specs.Closed.Laws.{IsDemandedByNames, FaultsByNamesAreByRules, repeated_operation_name, not_alone, repeated_fragment_name, not_used}
use Rattle.gq_by_file.specs.Closed.RestsOnNames.{rests_on_names, IsFaultByNames}
use Rattle.gq_by_file.specs.Helping.ByNames.{AreSpreadsOf, IsNamedOperationFault, IsSpreadText, of_operation, of_fragment, unused_if}
use Rattle.gq_by_file.proofs.PartLemmas.{rest}

-- of operations
module _ (x : ExecutableOf) (f : Fault) where
  named_operation : rests_on_names f.code ≡ true → IsOperationFault x f → IsNamedOperationFault x f
  named_operation e (operation.subscription h) = let no = ap (λ (z : Fault). rests_on_names z.code) h.is in absurd (cc)
  named_operation e (operation.no_root_type h) = let no = ap (λ (z : Fault). rests_on_names z.code) h.is in absurd (cc)
  named_operation e (operation.repeated_operation_name h) = inl h
  named_operation e (operation.not_alone h) = inr h

  operation_named : IsNamedOperationFault x f → (rests_on_names f.code ≡ true) × IsOperationFault x f
  operation_named h = ⊎_elim
      (λ a. (ap (λ (z : Fault). rests_on_names z.code) a.is, operation.repeated_operation_name a))
      (λ b. (ap (λ (z : Fault). rests_on_names z.code) b.is, operation.not_alone b))
      h

pub of_operations : (x : ExecutableOf) (all some : List Fault) → AddsExactly (IsOperationFault x) [] all → some ≡ filter (λ (z : Fault). beq (rests_on_names z.code) true) all →
    (f : Fault) → Contains some f ↔ IsNamedOperationFault x f
of_operations x all some adds is f =
    let r = rest (IsOperationFault x) all some true
    (λ z. (λ c. (adds.exactly z).0 (subst (λ fs. Contains fs z) adds.is c), λ h. subst (λ fs. Contains fs z) (sym adds.is) ((adds.exactly z).1 h))) is f in
    (λ c. let p = r.0 c in named_operation x f p.0 p.1, λ h. r.1 (operation_named x f h))

module _ (x : ExecutableOf) (f : Fault) where
  -- names of fragments
  repeated_is_demanded : Contains (repeated_names [] x.fragments) f → IsRepeatedFragmentName x f
  repeated_is_demanded found =
      let one = from_map_as (λ (g : FragmentOf). fault_at g.file FragmentNameNotUnique g.name) (repeated (λ (g : FragmentOf). g.name.text) x.fragments) f found in
      record { later = one.0; is_repeated = (repeated_is (λ (g : FragmentOf). g.name.text) x.fragments one.0).0 one.1; is = one.2 }

  to_repeated : IsRepeatedFragmentName x f → Contains (repeated_names [] x.fragments) f
  to_repeated w =
      to_map_as (λ (g : FragmentOf). fault_at g.file FragmentNameNotUnique g.name) (repeated (λ (g : FragmentOf). g.name.text) x.fragments) w.later f
      ((repeated_is (λ (g : FragmentOf). g.name.text) x.fragments w.later).1 w.is_repeated) w.is

  -- fragments that are not spread
  module _ (texts : List Text) (are : AreSpreadsOf x texts) where
    spread_found : (text : Text) → IsSpreadText x text → list_any (bytes_eq text) texts ≡ true
    spread_found text h = list_any-from_Contains nat_list_eq_equiv text texts ((are text).1 h)

    found_spread : (text : Text) → list_any (bytes_eq text) texts ≡ true → IsSpreadText x text
    found_spread text e = (are text).0 (Contains-from_any (λ s t same. (bytes_decides s t).0 same) text texts e)

    unused_is_demanded : Contains (flat_map (unused_if texts) x.fragments) f → IsUnusedFragment x f
    unused_is_demanded found =
        let one = from_flat (unused_if texts) x.fragments f found in
        let told = from_not (list_any (bytes_eq one.0.name.text) texts) (fault_at one.0.file FragmentNotUsed one.0.name) f one.2 in
        record {
          fragment = one.0;
          stands = one.1;
          in_no_operation = λ o c h. let yes = spread_found one.0.name.text (of_operation c h.stands h.names) in let no = told.0 in absurd (cc);
          in_no_fragment = λ g c h. let yes = spread_found one.0.name.text (of_fragment c h.stands h.names) in let no = told.0 in absurd (cc);
          is = told.1;
        }

    spread_of_unused : (w : IsUnusedFragment x f) (text : Text) → IsSpreadText x text → text ≡ w.fragment.name.text → ⊥
    spread_of_unused w text (of_operation {o} {name} c stands is) same = w.in_no_operation o c (record { name = name; stands = stands; names = cc })
    spread_of_unused w text (of_fragment {g} {name} c stands is) same = w.in_no_fragment g c (record { name = name; stands = stands; names = cc })

    not_spread : (w : IsUnusedFragment x f) (b : Bool) → list_any (bytes_eq w.fragment.name.text) texts ≡ b → b ≡ false
    not_spread w true e = absurd (spread_of_unused w w.fragment.name.text (found_spread w.fragment.name.text e) refl)
    not_spread w false e = refl

    to_unused : IsUnusedFragment x f → Contains (flat_map (unused_if texts) x.fragments) f
    to_unused w =
        let b = list_any (bytes_eq w.fragment.name.text) texts in
        to_flat (unused_if texts) x.fragments w.fragment f w.stands (to_not b (fault_at w.fragment.file FragmentNotUsed w.fragment.name) f (not_spread w b refl) w.is)

    -- all four rules
    module _ (named : List Fault) (exact : Contains named f ↔ IsNamedOperationFault x f) where
      demanded : Contains ((named ++ repeated_names [] x.fragments) ++ flat_map (unused_if texts) x.fragments) f → IsDemandedByNames x f
      demanded found = ⊎_elim
          (λ c. ⊎_elim
          (λ a. ⊎_elim (λ h. repeated_operation_name h) (λ h. not_alone h) (exact.0 a))
          (λ b. repeated_fragment_name (repeated_is_demanded b))
          (Contains-append_cases named (repeated_names [] x.fragments) f c))
          (λ d. not_used (unused_is_demanded d))
          (Contains-append_cases (named ++ repeated_names [] x.fragments) (flat_map (unused_if texts) x.fragments) f found)

      in_first : Contains (named ++ repeated_names [] x.fragments) f → Contains ((named ++ repeated_names [] x.fragments) ++ flat_map (unused_if texts) x.fragments) f
      in_first c = Contains-append_left (named ++ repeated_names [] x.fragments) (flat_map (unused_if texts) x.fragments) f c

      to_demanded : IsDemandedByNames x f → Contains ((named ++ repeated_names [] x.fragments) ++ flat_map (unused_if texts) x.fragments) f
      to_demanded (repeated_operation_name h) = in_first (Contains-append_left named (repeated_names [] x.fragments) f (exact.1 (inl h)))
      to_demanded (not_alone h) = in_first (Contains-append_left named (repeated_names [] x.fragments) f (exact.1 (inr h)))
      to_demanded (repeated_fragment_name h) = in_first (Contains-append_right named (repeated_names [] x.fragments) f (to_repeated h))
      to_demanded (not_used h) = Contains-append_right (named ++ repeated_names [] x.fragments) (flat_map (unused_if texts) x.fragments) f (to_unused h)

      by_names : (all : List Fault) → all ≡ (named ++ repeated_names [] x.fragments) ++ flat_map (unused_if texts) x.fragments → (IsFaultByNames x f ↔ IsDemandedByNames x f) →
          Contains all f ↔ IsFaultByNames x f
      by_names all is law = (
        λ c. law.1 (demanded (subst (λ fs. Contains fs f) is c)),
        λ h. subst (λ fs. Contains fs f) (sym is) (to_demanded (law.0 h)),
      )

pub names_told : (x : ExecutableOf) (texts : List Text) (named after all : List Fault) (spread : List Text) → ((f : Fault) → Contains named f ↔ IsNamedOperationFault x f) →
    after ≡ named ++ repeated_names [] x.fragments → spread ≡ texts → all ≡ after ++ flat_map (unused_if spread) x.fragments → FaultsByNamesAreByRules → AreSpreadsOf x texts →
    (f : Fault) → Contains all f ↔ IsFaultByNames x f
names_told x texts named after all spread exact are_after are_texts are_all law are f =
    by_names x f texts are named (exact f) all
    (are_all
    ∙ ap (λ (fs : List Fault). fs ++ flat_map (unused_if spread) x.fragments) are_after
    ∙ ap (λ (ts : List Text). (named ++ repeated_names [] x.fragments) ++ flat_map (unused_if ts) x.fragments) are_texts)
    (law x f)
