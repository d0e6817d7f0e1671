-- The faults of spreads rest on the names in spreads and on those of fragments alone.
use Rattle.std.proofs.Common.{◌≡◌, ℕ, List, map, refl, sym, ap, ◌∙◌, Contains}
use Rattle.gq_text.specs.declared.place.Span.{Span}
use Rattle.gq_fault.specs.declared.fault.Fault.{Fault}
use Rattle.gq_fault.specs.FaultPlaces.{fault_at}
use Rattle.gq_fault.specs.declared.code.Code.TheVariants.{FragmentNotUsed, UnknownFragment, FragmentCycle}
use Rattle.gq_tree.specs.Plain.{NameOf, Sels}
use Rattle.gq_tree.specs.Names.{spread_names}
use Rattle.gq_types.specs.Entries.{Text}
use Rattle.gq_document.specs.Definitions.{OperationOf, FragmentOf}
use Rattle.gq_document.specs.Reaches.{IsSpreadIn, Reaches, at_once, through}
use Rattle.gq_document.specs.Executable.{ExecutableOf}
use Rattle.gq_spreads.specs.FragmentsMustBeUsed.{IsUnusedFragment}
use Rattle.gq_spreads.specs.FragmentSpreadTargetDefined.{IsSpreadName, IsUnknownFragment}
use Rattle.gq_spreads.specs.FragmentSpreadTargetDefined as targets
use Rattle.gq_spreads.specs.FragmentSpreadsMustNotFormCycles.{IsFragmentCycle}
use Rattle.gq_spreads.specs.SpreadFaults.{IsSpreadFault, fragment_not_used, unknown_fragment, fragment_cycle}
use Rattle.gq_spreads.proofs.ReachLemmas.{reached_stands}
use Rattle.gq_laws.specs.Placing.Places.{HasLike}
use Rattle.gq_types.proofs.Placing.Alike.{contains}

-- the texts of the names in spreads; with the name of a fragment; each with its document
abbrev pub spread_texts : Sels Span → List Text
spread_texts ss = map (λ n. n.text) (spread_names ss)

abbrev pub spreads_operation : OperationOf → ℕ × List Text
spreads_operation o = (o.file, spread_texts o.set)

abbrev pub spreads_fragment : FragmentOf → ℕ × Text × List Text
spreads_fragment f = (f.file, f.name.text, spread_texts f.set)

pub both : {A B : Type 0} {a a2 : A} {b b2 : B} → a ≡ a2 → b ≡ b2 → ◌≡◌ {A = A × B} (a, b) (a2, b2)
both {a2 = a2} {b = b} e f = ap (λ z. (z, b)) e ∙ ap (λ z. (a2, z)) f

-- the name of a spread in the one, in the other
name_too : (ss ts : Sels Span) → spread_texts ss ≡ spread_texts ts → (name : NameOf Span) → Contains (spread_names ss) name → (m : NameOf Span) × Contains (spread_names ts) m × (name.text ≡ m.text)
name_too ss ts e name c = contains (λ n. n.text) (spread_names ss) (spread_names ts) e name c

-- a spread of the one, in the other
spread_too : (ss ts : Sels Span) → spread_texts ss ≡ spread_texts ts → (f g : FragmentOf) → f.name.text ≡ g.name.text → IsSpreadIn ss f → IsSpreadIn ts g
spread_too ss ts e f g same s =
    let m = name_too ss ts e s.name s.stands in
    record { name = m.0; stands = m.1; names = sym m.2 ∙ s.names ∙ same }

pub reaches_by : (fs gs : List FragmentOf) → map spreads_fragment fs ≡ map spreads_fragment gs → {ss : Sels Span} {f : FragmentOf} → Reaches fs ss f →
    (ts : Sels Span) → spread_texts ss ≡ spread_texts ts → (g : FragmentOf) → Contains gs g → spreads_fragment f ≡ spreads_fragment g → Reaches gs ts g
reaches_by fs gs ef {ss} {f} (at_once c s) ts e g d same = at_once d (spread_too ss ts e f g (ap (λ z. z.1) same) s)
reaches_by fs gs ef {ss} {f} (through {g = m} r c s) ts e g d same =
    let k = contains spreads_fragment fs gs ef m (reached_stands fs ss m r) in
    through (reaches_by fs gs ef r ts e k.0 k.1 k.2) d (spread_too m.set k.0.set (ap (λ z. z.2) k.2) f g (ap (λ z. z.1) same) s)

module _ (x y : ExecutableOf) (eo : map spreads_operation x.operations ≡ map spreads_operation y.operations) (ef : map spreads_fragment x.fragments ≡ map spreads_fragment y.fragments) where
  unused_too : (f : Fault) → IsUnusedFragment x f → HasLike (IsUnusedFragment y) f
  unused_too f h =
      let g = contains spreads_fragment x.fragments y.fragments ef h.fragment h.stands in
      let same : g.0.name.text ≡ h.fragment.name.text = sym (ap (λ z. z.1) g.2) in (
        fault_at g.0.file FragmentNotUsed g.0.name,
        record {
          fragment = g.0;
          stands = g.1;
          in_no_operation = λ p c s.
              let o = contains spreads_operation y.operations x.operations (sym eo) p c in
              h.in_no_operation o.0 o.1 (spread_too p.set o.0.set (ap (λ z. z.1) o.2) g.0 h.fragment same s);
          in_no_fragment = λ m c s.
              let k = contains spreads_fragment y.fragments x.fragments (sym ef) m c in
              h.in_no_fragment k.0 k.1 (spread_too m.set k.0.set (ap (λ z. z.2) k.2) g.0 h.fragment same s);
          is = refl;
        },
        sym (ap (λ z. z.0) g.2) ∙ ap (λ z. z.file) (sym h.is),
        ap (λ z. z.code) (sym h.is),
      )

  spread_name_too : {n : ℕ} {name : NameOf Span} → IsSpreadName x n name → (m : NameOf Span) × IsSpreadName y n m × (name.text ≡ m.text)
  spread_name_too {n} {name} (targets.of_operation {o = o} c s e) =
      let p = contains spreads_operation x.operations y.operations eo o c in
      let m = name_too o.set p.0.set (ap (λ z. z.1) p.2) name s in
      (m.0, targets.of_operation p.1 m.1 (e ∙ ap (λ z. z.0) p.2), m.2)
  spread_name_too {n} {name} (targets.of_fragment {f = f} c s e) =
      let g = contains spreads_fragment x.fragments y.fragments ef f c in
      let m = name_too f.set g.0.set (ap (λ z. z.2) g.2) name s in
      (m.0, targets.of_fragment g.1 m.1 (e ∙ ap (λ z. z.0) g.2), m.2)

  unknown_too : (f : Fault) → IsUnknownFragment x f → HasLike (IsUnknownFragment y) f
  unknown_too f h =
      let m = spread_name_too h.is_spread in (
        fault_at h.file UnknownFragment m.0,
        record {
          file = h.file;
          name = m.0;
          is_spread = m.1;
          is_unknown = λ g c e.
              let k = contains spreads_fragment y.fragments x.fragments (sym ef) g c in
              h.is_unknown k.0 k.1 (m.2 ∙ e ∙ ap (λ z. z.1) k.2);
          is = refl;
        },
        ap (λ z. z.file) (sym h.is),
        ap (λ z. z.code) (sym h.is),
      )

  cycle_too : (f : Fault) → IsFragmentCycle x f → HasLike (IsFragmentCycle y) f
  cycle_too f h =
      let g = contains spreads_fragment x.fragments y.fragments ef h.fragment h.stands in
      let m = name_too h.fragment.set g.0.set (ap (λ z. z.2) g.2) h.name h.is_spread in
      let t = contains spreads_fragment x.fragments y.fragments ef h.target h.target_stands in (
        fault_at g.0.file FragmentCycle m.0,
        record {
          fragment = g.0;
          stands = g.1;
          name = m.0;
          is_spread = m.1;
          target = t.0;
          target_stands = t.1;
          is_named = sym m.2 ∙ h.is_named ∙ ap (λ z. z.1) t.2;
          leads_back = reaches_by x.fragments y.fragments ef h.leads_back t.0.set (ap (λ z. z.2) t.2) g.0 g.1 g.2;
          is = refl;
        },
        sym (ap (λ z. z.0) g.2) ∙ ap (λ z. z.file) (sym h.is),
        ap (λ z. z.code) (sym h.is),
      )

  pub same_spreads : (f : Fault) → IsSpreadFault x f → HasLike (IsSpreadFault y) f
  same_spreads f (fragment_not_used h) = let g = unused_too f h in (g.0, fragment_not_used g.1, g.2, g.3)
  same_spreads f (unknown_fragment h) = let g = unknown_too f h in (g.0, unknown_fragment g.1, g.2, g.3)
  same_spreads f (fragment_cycle h) = let g = cycle_too f h in (g.0, fragment_cycle g.1, g.2, g.3)
