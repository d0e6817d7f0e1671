-- What is told of spreads that lead back to their fragments is what the relation says.
use Rattle.std.proofs.Common.{◌≡◌, ℕ, ◌<◌, Bool, true, false, List, [], ◌∷◌, ◌++◌, length, get_or, refl, sym, ◌∙◌, ap, subst, arith, Contains, Option, Some, None, Vec, Global}
use Rattle.std.specs.Prelude.{if◌then◌else◌, nat_eq}
use Rattle.std.proofs.lemmas.Bool.{eqb-true, eq-eqb}
use Rattle.gq_text.specs.declared.place.Span.{Span}
use Rattle.gq_tree.specs.Names.{spread_names}
use Rattle.gq_tree.specs.Plain.{NameOf}
use Rattle.gq_fault.specs.declared.code.Code.TheVariants.{FragmentCycle}
use Rattle.gq_fault.specs.declared.fault.Fault.{Fault}
use Rattle.gq_fault.specs.Adds.{AddsExactly}
use Rattle.gq_graph.specs.Reach.{Reach, start, step, LeadToEachOther, row}
use Rattle.gq_graph.proofs.Ways.{contains_one, one_contains, way_of}
use Rattle.gq_graph.proofs.Collecting.{way_then}
use Rattle.gq_types.specs.Entries.{Text}
use Rattle.gq_types.proofs.Gathered.{nothing_in, first, only, from_flat, to_flat, tested}
use Rattle.gq_document.specs.Definitions.{FragmentOf}
use Rattle.gq_document.specs.Executable.{ExecutableOf}
use Rattle.gq_document.specs.Reaches.{Reaches}
use Rattle.gq_fault.specs.FaultPlaces.{fault_at}
use Rattle.gq_spreads.specs.FragmentSpreadsMustNotFormCycles.{IsFragmentCycle}
use Rattle.gq_spreads.specs.Helping.FragmentSpreadsMustNotFormCyclesPlaces.{AreComponents, is_of, fragment_cycle, cycles_by, cycles_in, fragment_cycles}
use Rattle.gq_spreads.specs.Helping.NameRows.{first_number, AreNameRows}
use Rattle.gq_spreads.specs.Helping.Rows.{texts}
use Rattle.gq_spreads.proofs.NameRowLemmas.{has_number, number_below}
use Rattle.gq_spreads.proofs.NameWays.{LeadsTo, to_way, from_way}

-- where a step leads from n to j, j leads back to n by a step or more if it leads to n at all
leads_back : (next : ℕ → List ℕ) (n j : ℕ) → Contains (next n) j → Reach (j ∷ []) next n → Reach (next j) next n
leads_back next n j first (start found) = start (subst (λ m. Contains (next m) n) (contains_one j n found) (subst (λ m. Contains (next n) m) (sym (contains_one j n found)) first))
leads_back next n j first (step {m = m} way found) = way_then next j m n way (start found)

module _ (x : ExecutableOf) (rows : List (Vec ℕ Global)) (are : AreNameRows x.fragments rows) (components : List ℕ) (exact : AreComponents rows components) where
  abbrev next : ℕ → List ℕ
  next = row rows

  abbrev ts : List Text
  ts = texts x.fragments

  below : (text : Text) (n : ℕ) → first_number ts text ≡ Some n → n < length rows
  below text n is = omega (arith, number_below x.fragments text n is, are.count)

  -- a spread's step from the name of its fragment to its own
  spread_step : (n j : ℕ) (f : FragmentOf) (name : NameOf Span) → Contains x.fragments f → first_number ts f.name.text ≡ Some n → Contains (spread_names f.set) name → first_number ts name.text ≡ Some j → Contains (next n) j
  spread_step n j f name stands from there to = (are.steps n j).1 (record { fragment = f; stands = stands; from = from; name = name; spread = there; to = to })

  back_of_component : (n j : ℕ) (f : FragmentOf) (name : NameOf Span) → Contains x.fragments f → first_number ts f.name.text ≡ Some n → Contains (spread_names f.set) name → first_number ts name.text ≡ Some j
      → get_or components j 0 ≡ get_or components n 0 → LeadsTo x.fragments name.text f
  back_of_component n j f name stands from there to same =
      let ways : LeadToEachOther next j n = (exact j n (below name.text j to) (below f.name.text n from)).0 same in
      from_way x.fragments rows are name.text j to n (leads_back next n j (spread_step n j f name stands from there to) ways.0) f stands from

  component_of_back : (n j : ℕ) (f t : FragmentOf) (name : NameOf Span) → Contains x.fragments f → Contains x.fragments t → first_number ts f.name.text ≡ Some n → Contains (spread_names f.set) name → first_number ts name.text ≡ Some j
      → name.text ≡ t.name.text → Reaches x.fragments t.set f → get_or components j 0 ≡ get_or components n 0
  component_of_back n j f t name stands target_stands from there to named back =
      let way : Reach (next j) next n = to_way x.fragments rows are name.text j to t target_stands named f back n from in
      (exact j n (below name.text j to) (below f.name.text n from)).1 (way_of next j n way, step (start (one_contains n)) (spread_step n j f name stands from there to))

  from_cycles : (fault : Fault) → Contains (fragment_cycles ts components x.fragments) fault → IsFragmentCycle x fault
  from_cycles fault found =
      let r = from_flat (cycles_in ts components) x.fragments fault found in
      by_number r.0 r.1 (first_number ts r.0.name.text) refl r.2
    where
      by_test : (f : FragmentOf) → Contains x.fragments f → (n : ℕ) → first_number ts f.name.text ≡ Some n → (name : NameOf Span) → Contains (spread_names f.set) name → (b : Bool)
          → is_of components (get_or components n 0) (first_number ts name.text) ≡ b → Contains (if b then fault_at f.file FragmentCycle name ∷ [] else []) fault → IsFragmentCycle x fault
      by_test f stands n from name there false is told = nothing_in fault told
      by_test f stands n from name there true is told =
          let a = tested (λ m. nat_eq (get_or components m 0) (get_or components n 0)) (first_number ts name.text) is in
          let back = back_of_component n a.0 f name stands from there a.1 (eqb-true (get_or components a.0 0) (get_or components n 0) a.2) in
          record {
            fragment = f;
            stands = stands;
            name = name;
            is_spread = there;
            target = back.from;
            target_stands = back.stands;
            is_named = back.named;
            leads_back = back.reached;
            is = only (fault_at f.file FragmentCycle name) fault told;
          }

      by_number : (f : FragmentOf) → Contains x.fragments f → (o : Option ℕ) → first_number ts f.name.text ≡ o → Contains (cycles_by ts components f o) fault → IsFragmentCycle x fault
      by_number f stands None from told = nothing_in fault told
      by_number f stands (Some n) from told =
          let q = from_flat (fragment_cycle ts components (get_or components n 0) f.file) (spread_names f.set) fault told in
          by_test f stands n from q.0 q.1 (is_of components (get_or components n 0) (first_number ts q.0.text)) refl q.2

  to_cycles : (fault : Fault) → IsFragmentCycle x fault → Contains (fragment_cycles ts components x.fragments) fault
  to_cycles fault w =
      let n = has_number x.fragments w.fragment w.stands in
      let t = has_number x.fragments w.target w.target_stands in
      let to : first_number ts w.name.text ≡ Some t.0 = subst (λ u. first_number ts u ≡ Some t.0) (sym w.is_named) t.1 in
      let same : get_or components t.0 0 ≡ get_or components n.0 0 =
      component_of_back n.0 t.0 w.fragment w.target w.name w.stands w.target_stands n.1 w.is_spread to w.is_named w.leads_back in
      let test : is_of components (get_or components n.0 0) (first_number ts w.name.text) ≡ true =
      subst (λ o. is_of components (get_or components n.0 0) o ≡ true) (sym to) (eq-eqb (get_or components t.0 0) (get_or components n.0 0) same) in
      to_flat (cycles_in ts components) x.fragments w.fragment fault w.stands
      (subst (λ o. Contains (cycles_by ts components w.fragment o) fault) (sym n.1)
      (to_flat (fragment_cycle ts components (get_or components n.0 0) w.fragment.file) (spread_names w.fragment.set) w.name fault w.is_spread
      (subst (λ b. Contains (if b then fault_at w.fragment.file FragmentCycle w.name ∷ [] else []) fault) (sym test)
      (first (fault_at w.fragment.file FragmentCycle w.name) fault [] (sym w.is)))))

  pub puts_cycles : (us : List Text) (old new : List Fault) → us ≡ texts x.fragments → new ≡ old ++ fragment_cycles us components x.fragments → AddsExactly (IsFragmentCycle x) old new
  puts_cycles us old new names is = record {
    added = fragment_cycles ts components x.fragments;
    is = is ∙ ap (λ vs. old ++ fragment_cycles vs components x.fragments) names;
    exactly = λ fault. (from_cycles fault, to_cycles fault);
  }
