-- What is told of spreads whose names no fragment has is what the relation says.
use Rattle.std.proofs.Common.{◌≡◌, ℕ, Bool, true, false, List, [], ◌∷◌, ◌++◌, refl, sym, ◌∙◌, ap, subst, Contains, ⊎_elim}
use Rattle.std.specs.Prelude.{if◌then◌else◌, bytes_eq}
use Rattle.std.specs.Cmp.Lexicographic.{bytes_decides, nat_list_eq_equiv}
use Rattle.std.specs.List.{list_any}
use Rattle.std.proofs.lemmas.Bool.{false≢true}
use Rattle.std.proofs.lemmas.List.{append_assoc}
use Rattle.std.proofs.lemmas.List.Elements.{Contains-append_left, Contains-append_right, Contains-append_cases}
use Rattle.gq_text.specs.declared.place.Span.{Span}
use Rattle.gq_tree.specs.Names.{spread_names}
use Rattle.gq_tree.specs.Plain.{NameOf, Sels}
use Rattle.gq_fault.specs.declared.code.Code.TheVariants.{UnknownFragment}
use Rattle.gq_fault.specs.declared.fault.Fault.{Fault}
use Rattle.gq_fault.specs.Adds.{AddsExactly}
use Rattle.gq_types.specs.Entries.{Text}
use Rattle.gq_types.proofs.Gathered.{nothing_in, first, only, from_flat, to_flat, from_map, to_map, from_any, to_any}
use Rattle.gq_document.specs.Definitions.{OperationOf, FragmentOf}
use Rattle.gq_document.specs.Executable.{ExecutableOf}
use Rattle.gq_fault.specs.FaultPlaces.{fault_at}
use Rattle.gq_spreads.specs.FragmentSpreadTargetDefined.{IsSpreadName, of_operation, of_fragment, IsUnknownFragment}
use Rattle.gq_spreads.specs.Helping.FragmentSpreadTargetDefinedPlaces.{unknown_fragment, unknown_in, unknown_in_operations, unknown_in_fragments, unknown_fragments}
use Rattle.gq_spreads.specs.Helping.Rows.{texts}

-- a name that is found is that of a fragment
known : (fs : List FragmentOf) (text : Text) (f : FragmentOf) → Contains fs f → text ≡ f.name.text → list_any (bytes_eq text) (texts fs) ≡ true
known fs text f there same =
    to_any (bytes_eq text) (texts fs) f.name.text (to_map (λ (g : FragmentOf). g.name.text) fs f there) (subst (λ u. bytes_eq text u ≡ true) same (nat_list_eq_equiv.refl text))

fragment_of : (fs : List FragmentOf) (text : Text) → list_any (bytes_eq text) (texts fs) ≡ true → (f : FragmentOf) × Contains fs f × (text ≡ f.name.text)
fragment_of fs text found =
    let a = from_any (bytes_eq text) (texts fs) found in
    let m = from_map (λ (g : FragmentOf). g.name.text) fs a.0 a.1 in
    (m.0, m.1, (bytes_decides text a.0).0 a.2 ∙ sym m.2)

module _ (x : ExecutableOf) where
  from_set : (file : ℕ) (set : Sels Span) (fault : Fault) → ((name : NameOf Span) → Contains (spread_names set) name → IsSpreadName x file name) → Contains (unknown_in (texts x.fragments) file set) fault → IsUnknownFragment x fault
  from_set file set fault names found =
      let r = from_flat (unknown_fragment (texts x.fragments) file) (spread_names set) fault found in
      by_test r.0 (names r.0 r.1) (list_any (bytes_eq r.0.text) (texts x.fragments)) refl r.2
    where
      by_test : (name : NameOf Span) → IsSpreadName x file name → (b : Bool) → list_any (bytes_eq name.text) (texts x.fragments) ≡ b → Contains (if b then [] else fault_at file UnknownFragment name ∷ []) fault → IsUnknownFragment x fault
      by_test name is_spread true is there = nothing_in fault there
      by_test name is_spread false is there = record {
        file = file;
        name = name;
        is_spread = is_spread;
        is_unknown = λ f c same. false≢true (sym is ∙ known x.fragments name.text f c same);
        is = only (fault_at file UnknownFragment name) fault there;
      }

  to_set : (file : ℕ) (set : Sels Span) (fault : Fault) (name : NameOf Span) → Contains (spread_names set) name → ((f : FragmentOf) → Contains x.fragments f → name.text ≡ f.name.text → ⊥)
      → fault ≡ fault_at file UnknownFragment name → Contains (unknown_in (texts x.fragments) file set) fault
  to_set file set fault name there unknown is =
      to_flat (unknown_fragment (texts x.fragments) file) (spread_names set) name fault there (by_test (list_any (bytes_eq name.text) (texts x.fragments)) refl)
    where
      by_test : (b : Bool) → list_any (bytes_eq name.text) (texts x.fragments) ≡ b → Contains (if b then [] else fault_at file UnknownFragment name ∷ []) fault
      by_test true found = let f = fragment_of x.fragments name.text found in absurd (unknown f.0 f.1 f.2)
      by_test false found = first (fault_at file UnknownFragment name) fault [] (sym is)

  from_unknown : (fault : Fault) → Contains (unknown_fragments x) fault → IsUnknownFragment x fault
  from_unknown fault found = ⊎_elim
      (λ a.
      let r = from_flat (λ (o : OperationOf). unknown_in (texts x.fragments) o.file o.set) x.operations fault a in
      from_set r.0.file r.0.set fault (λ name there. of_operation r.1 there refl) r.2)
      (λ b.
      let r = from_flat (λ (f : FragmentOf). unknown_in (texts x.fragments) f.file f.set) x.fragments fault b in
      from_set r.0.file r.0.set fault (λ name there. of_fragment r.1 there refl) r.2)
      (Contains-append_cases (unknown_in_operations (texts x.fragments) x.operations) (unknown_in_fragments (texts x.fragments) x.fragments) fault found)

  to_spread : (fault : Fault) (file : ℕ) (name : NameOf Span) → ((f : FragmentOf) → Contains x.fragments f → name.text ≡ f.name.text → ⊥) → fault ≡ fault_at file UnknownFragment name
      → IsSpreadName x file name → Contains (unknown_fragments x) fault
  to_spread fault file name unknown is (of_operation {o = o} stands there same) =
      Contains-append_left (unknown_in_operations (texts x.fragments) x.operations) (unknown_in_fragments (texts x.fragments) x.fragments) fault
      (to_flat (λ (p : OperationOf). unknown_in (texts x.fragments) p.file p.set) x.operations o fault stands
      (to_set o.file o.set fault name there unknown (is ∙ ap (λ n. fault_at n UnknownFragment name) same)))
  to_spread fault file name unknown is (of_fragment {f = f} stands there same) =
      Contains-append_right (unknown_in_operations (texts x.fragments) x.operations) (unknown_in_fragments (texts x.fragments) x.fragments) fault
      (to_flat (λ (g : FragmentOf). unknown_in (texts x.fragments) g.file g.set) x.fragments f fault stands
      (to_set f.file f.set fault name there unknown (is ∙ ap (λ n. fault_at n UnknownFragment name) same)))

  pub puts_unknown : (ts : List Text) (old middle new : List Fault) → ts ≡ texts x.fragments → middle ≡ old ++ unknown_in_operations ts x.operations → new ≡ middle ++ unknown_in_fragments ts x.fragments
      → AddsExactly (IsUnknownFragment x) old new
  puts_unknown ts old middle new are first second = record {
    added = unknown_fragments x;
    is = second ∙ ap (λ faults. faults ++ unknown_in_fragments ts x.fragments) first ∙ append_assoc old (unknown_in_operations ts x.operations) (unknown_in_fragments ts x.fragments)
        ∙ ap (λ us. old ++ (unknown_in_operations us x.operations ++ unknown_in_fragments us x.fragments)) are;
    exactly = λ fault. (from_unknown fault, λ w. to_spread fault w.file w.name w.is_unknown w.is w.is_spread);
  }
