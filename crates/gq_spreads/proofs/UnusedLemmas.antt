-- What is told of fragments that are not used is what the relation says.
use Rattle.std.proofs.Common.{◌≡◌, Bool, true, false, if◌then◌else◌, List, [], ◌∷◌, ◌++◌, refl, sym, ◌∙◌, subst, Contains, ⊎_elim}
use Rattle.std.specs.List.{flat_map, list_any}
use Rattle.std.specs.Str.{bytes_eq}
use Rattle.std.specs.Cmp.Lexicographic.{bytes_decides}
use Rattle.std.proofs.lemmas.Bool.{false≢true}
use Rattle.std.proofs.lemmas.List.Elements.{Contains-append_left, Contains-append_right, Contains-append_cases}
use Rattle.gq_text.specs.declared.place.Span.{Span}
use Rattle.gq_tree.specs.Names.{spread_names}
use Rattle.gq_tree.specs.Plain.{NameOf, Sels}
use Rattle.gq_fault.specs.declared.code.Code.TheVariants.{FragmentNotUsed}
use Rattle.gq_fault.specs.declared.fault.Fault.{Fault}
use Rattle.gq_fault.specs.Adds.{AddsExactly}
use Rattle.gq_types.proofs.Gathered.{nothing_in, first, only, from_flat, to_flat, from_map_as, to_map_as, from_any, to_any}
use Rattle.gq_document.specs.Definitions.{OperationOf, FragmentOf}
use Rattle.gq_document.specs.Executable.{ExecutableOf}
use Rattle.gq_document.specs.Reaches.{IsSpreadIn}
use Rattle.gq_fault.specs.FaultPlaces.{fault_at}
use Rattle.gq_spreads.specs.FragmentsMustBeUsed.{IsUnusedFragment}
use Rattle.gq_spreads.specs.Helping.FragmentsMustBeUsedPlaces.{spread_texts, texts_of_operation, texts_of_fragment, all_spread_texts, unused_if, unused_fragments}

module _ (x : ExecutableOf) (f : FragmentOf) where
  -- the name of a fragment that is spread is among the names that are
  spread_text : (set : Sels Span) → IsSpreadIn set f → Contains (spread_texts set) f.name.text
  spread_text set s = to_map_as (λ (n : NameOf Span). n.text) (spread_names set) s.name f.name.text s.stands (sym s.names)

  text_spread : (set : Sels Span) → Contains (spread_texts set) f.name.text → IsSpreadIn set f
  text_spread set found =
      let r = from_map_as (λ (n : NameOf Span). n.text) (spread_names set) f.name.text found in
      record { name = r.0; stands = r.1; names = sym r.2 }

  named : Contains (all_spread_texts x) f.name.text → list_any (bytes_eq f.name.text) (all_spread_texts x) ≡ true
  named found = to_any (bytes_eq f.name.text) (all_spread_texts x) f.name.text found ((bytes_decides f.name.text f.name.text).1 refl)

  in_operation : (o : OperationOf) → Contains x.operations o → IsSpreadIn o.set f → list_any (bytes_eq f.name.text) (all_spread_texts x) ≡ true
  in_operation o there spread = named (Contains-append_left (flat_map texts_of_operation x.operations) (flat_map texts_of_fragment x.fragments) f.name.text
      (to_flat texts_of_operation x.operations o f.name.text there (spread_text o.set spread)))

  in_fragment : (g : FragmentOf) → Contains x.fragments g → IsSpreadIn g.set f → list_any (bytes_eq f.name.text) (all_spread_texts x) ≡ true
  in_fragment g there spread = named (Contains-append_right (flat_map texts_of_operation x.operations) (flat_map texts_of_fragment x.fragments) f.name.text
      (to_flat texts_of_fragment x.fragments g f.name.text there (spread_text g.set spread)))

  -- and nothing else
  not_spread : ((o : OperationOf) → Contains x.operations o → IsSpreadIn o.set f → ⊥) → ((g : FragmentOf) → Contains x.fragments g → IsSpreadIn g.set f → ⊥)
      → list_any (bytes_eq f.name.text) (all_spread_texts x) ≡ true → ⊥
  not_spread not_operation not_fragment h =
      let a = from_any (bytes_eq f.name.text) (all_spread_texts x) h in
      let found : Contains (all_spread_texts x) f.name.text = subst (λ t. Contains (all_spread_texts x) t) (sym ((bytes_decides f.name.text a.0).0 a.2)) a.1 in
      ⊎_elim
      (λ of_operations. let r = from_flat texts_of_operation x.operations f.name.text of_operations in not_operation r.0 r.1 (text_spread r.0.set r.2))
      (λ of_fragments. let r = from_flat texts_of_fragment x.fragments f.name.text of_fragments in not_fragment r.0 r.1 (text_spread r.0.set r.2))
      (Contains-append_cases (flat_map texts_of_operation x.operations) (flat_map texts_of_fragment x.fragments) f.name.text found)

module _ (x : ExecutableOf) (fault : Fault) where
  from_unused : Contains (unused_fragments (all_spread_texts x) x.fragments) fault → IsUnusedFragment x fault
  from_unused found =
      let r = from_flat (unused_if (all_spread_texts x)) x.fragments fault found in
      by_test r.0 r.1 (list_any (bytes_eq r.0.name.text) (all_spread_texts x)) refl r.2
    where
      by_test : (f : FragmentOf) → Contains x.fragments f → (b : Bool) → list_any (bytes_eq f.name.text) (all_spread_texts x) ≡ b
          → Contains (if b then [] else fault_at f.file FragmentNotUsed f.name ∷ []) fault → IsUnusedFragment x fault
      by_test f stands true is there = nothing_in fault there
      by_test f stands false is there = record {
        fragment = f;
        stands = stands;
        in_no_operation = λ o c spread. false≢true (sym is ∙ in_operation x f o c spread);
        in_no_fragment = λ g c spread. false≢true (sym is ∙ in_fragment x f g c spread);
        is = only (fault_at f.file FragmentNotUsed f.name) fault there;
      }

  to_unused : IsUnusedFragment x fault → Contains (unused_fragments (all_spread_texts x) x.fragments) fault
  to_unused w =
      to_flat (unused_if (all_spread_texts x)) x.fragments w.fragment fault w.stands
      (by_test (list_any (bytes_eq w.fragment.name.text) (all_spread_texts x)) (not_spread x w.fragment w.in_no_operation w.in_no_fragment))
    where
      by_test : (b : Bool) → (b ≡ true → ⊥) → Contains (if b then [] else fault_at w.fragment.file FragmentNotUsed w.fragment.name ∷ []) fault
      by_test true not_there = absurd (not_there refl)
      by_test false not_there = first (fault_at w.fragment.file FragmentNotUsed w.fragment.name) fault [] (sym w.is)

pub puts_unused : (x : ExecutableOf) (old new : List Fault) → new ≡ old ++ unused_fragments (all_spread_texts x) x.fragments → AddsExactly (IsUnusedFragment x) old new
puts_unused x old new is = record {
  added = unused_fragments (all_spread_texts x) x.fragments;
  is = is;
  exactly = λ fault. (from_unused x fault, to_unused x fault);
}
