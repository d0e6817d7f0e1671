-- The faults of spreads, where fragments are called otherwise: they are the same.
use Rattle.std.proofs.Common.{◌≡◌, ℕ, sym, ap, ◌∙◌, subst, Contains}
use Rattle.gq_text.specs.declared.place.Span.{Span}
use Rattle.gq_fault.specs.declared.fault.Fault.{Fault}
use Rattle.gq_fault.specs.FaultPlaces.{fault_at}
use Rattle.gq_fault.specs.declared.code.Code.TheVariants.{FragmentNotUsed, UnknownFragment, FragmentCycle}
use Rattle.gq_tree.specs.Names.{spread_names}
use Rattle.gq_tree.specs.Plain.{NameOf}
use Rattle.gq_types.specs.Entries.{Text}
use Rattle.gq_document.specs.Executable.{ExecutableOf}
use Rattle.gq_document.specs.Reaches.{IsSpreadIn, Reaches}
use Rattle.gq_spreads.specs.FragmentsMustBeUsed.{IsUnusedFragment}
use Rattle.gq_spreads.specs.FragmentSpreadTargetDefined.{IsSpreadName, of_operation, of_fragment, IsUnknownFragment}
use Rattle.gq_spreads.specs.FragmentSpreadsMustNotFormCycles.{IsFragmentCycle}
use Rattle.gq_spreads.specs.SpreadFaults.{IsSpreadFault, fragment_not_used, unknown_fragment, fragment_cycle}
use Rattle.gq_spreads.proofs.ReachLemmas.{reached_stands}
use Rattle.gq_laws.proofs.Placing.OtherNames.{other_name, other_set, other_operation, other_fragment, other_names, KeepsApart, from_map, to_map, spread_from, is_spread_to, reaches_from}

module _ (shown : Text → Text) (x : ExecutableOf) where
  abbrev y : ExecutableOf
  y = other_names shown x

  unused : (f : Fault) → IsUnusedFragment y f → IsUnusedFragment x f
  unused f h =
      let k = from_map (other_fragment shown) x.fragments h.fragment h.stands in record {
        fragment = k.0;
        stands = k.1;
        in_no_operation = λ o c s.
            h.in_no_operation (other_operation shown o) (to_map (other_operation shown) x.operations o c) (subst (IsSpreadIn (other_set shown o.set)) (sym k.2) (is_spread_to shown o.set k.0 s));
        in_no_fragment = λ g c s.
            h.in_no_fragment (other_fragment shown g) (to_map (other_fragment shown) x.fragments g c) (subst (IsSpreadIn (other_set shown g.set)) (sym k.2) (is_spread_to shown g.set k.0 s));
        is = h.is ∙ ap (λ z. fault_at z.file FragmentNotUsed z.name) k.2;
      }

  spread_name_from : {file : ℕ} {name : NameOf Span} → IsSpreadName y file name → (m : NameOf Span) × IsSpreadName x file m × (name ≡ other_name shown m)
  spread_name_from {name = name} (of_operation {o = o} c s e) =
      let k = from_map (other_operation shown) x.operations o c in
      let m = spread_from shown k.0.set name (subst (λ z. Contains (spread_names z.set) name) k.2 s) in
      (m.0, of_operation k.1 m.1 (e ∙ ap (λ z. z.file) k.2), m.2)
  spread_name_from {name = name} (of_fragment {f = f} c s e) =
      let k = from_map (other_fragment shown) x.fragments f c in
      let m = spread_from shown k.0.set name (subst (λ z. Contains (spread_names z.set) name) k.2 s) in
      (m.0, of_fragment k.1 m.1 (e ∙ ap (λ z. z.file) k.2), m.2)

  unknown : (f : Fault) → IsUnknownFragment y f → IsUnknownFragment x f
  unknown f h =
      let m = spread_name_from h.is_spread in record {
        file = h.file;
        name = m.0;
        is_spread = m.1;
        is_unknown = λ g c e. h.is_unknown (other_fragment shown g) (to_map (other_fragment shown) x.fragments g c) (ap (λ z. z.text) m.2 ∙ ap shown e);
        is = h.is ∙ ap (fault_at h.file UnknownFragment) m.2;
      }

  cycle : KeepsApart shown → (f : Fault) → IsFragmentCycle y f → IsFragmentCycle x f
  cycle apart f h =
      let t = from_map (other_fragment shown) x.fragments h.target h.target_stands in
      let r = reaches_from shown apart x.fragments t.0.set h.fragment (subst (λ z. Reaches y.fragments z.set h.fragment) t.2 h.leads_back) in
      let m = spread_from shown r.0.set h.name (subst (λ z. Contains (spread_names z.set) h.name) r.2 h.is_spread) in record {
        fragment = r.0;
        stands = reached_stands x.fragments t.0.set r.0 r.1;
        name = m.0;
        is_spread = m.1;
        target = t.0;
        target_stands = t.1;
        is_named = apart m.0.text t.0.name.text (ap (λ z. z.text) (sym m.2) ∙ h.is_named ∙ ap (λ z. z.name.text) t.2);
        leads_back = r.1;
        is = h.is ∙ ap (λ z. fault_at z.file FragmentCycle h.name) r.2 ∙ ap (fault_at r.0.file FragmentCycle) m.2;
      }

pub spreads_from : (shown : Text → Text) → KeepsApart shown → (x : ExecutableOf) (f : Fault) → IsSpreadFault (other_names shown x) f → IsSpreadFault x f
spreads_from shown apart x f (fragment_not_used h) = fragment_not_used (unused shown x f h)
spreads_from shown apart x f (unknown_fragment h) = unknown_fragment (unknown shown x f h)
spreads_from shown apart x f (fragment_cycle h) = fragment_cycle (cycle shown x apart f h)
