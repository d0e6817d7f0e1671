-- The faults that are put are those of the rule.
use Rattle.std.proofs.Common.{◌≡◌, ◌⊎◌, ⊎_elim, ℕ, ◌*◌, Bool, List, length, sym, subst, inl, inr}
use Rattle.std.proofs.lemmas.List.{length-map}
use Rattle.gq_fault.specs.declared.fault.Fault.{Fault}
use Rattle.gq_fault.specs.Adds.{AddsExactly}
use Rattle.gq_fault.proofs.PutLemmas.{puts_both, puts_as}
use Rattle.gq_document.specs.Executable.{ExecutableOf}
use Rattle.gq_merging.specs.FieldsMerge.{IsFaultFor, IsMergingFault, of_shapes, of_names}
use Rattle.gq_merging.specs.Helping.Groups.{AreMerged}
use Rattle.gq_merging.specs.Helping.SetTables.{AreRows, spreads_at}
use Rattle.gq_merging.specs.Helping.StartTables.{Passes}
use Rattle.gq_merging.specs.Helping.PairTables.{LookOf, IsGiven, IsMetReached, IsFaultOf}
use Rattle.gq_merging.specs.Helping.Views.{row_view, rows_view}
use Rattle.gq_merging.specs.declared.rows.Row.{Row}
use Rattle.gq_merging.specs.declared.purpose.Purpose.{Purpose}
use Rattle.gq_merging.specs.declared.purpose.Purpose.TheVariants.{Shapes, Names}
use Rattle.gq_merging.proofs.PairLemmas.{from_reached, to_reached}

abbrev looked_at : ExecutableOf → List Row → ℕ → Purpose → LookOf
looked_at x rows size purpose = record { entries = x.entries; purpose = purpose; rows = rows_view rows; count = length rows; size = size }

-- the faults that are put for one purpose
abbrev pub IsPut : ExecutableOf → List Row → ℕ → Purpose → List Bool → Fault → Type 0
IsPut x rows size purpose passed = IsGiven (IsMetReached (looked_at x rows size purpose) passed) (IsFaultOf (looked_at x rows size purpose))

for_either : (x : ExecutableOf) (fault : Fault) → IsMergingFault x fault → IsFaultFor x Shapes fault ⊎ IsFaultFor x Names fault
for_either x fault (of_shapes h) = inl h
for_either x fault (of_names h) = inr h

module _ (x : ExecutableOf) (rows : List Row) (are : AreRows x (rows_view rows)) (marks : List Bool) (merged : AreMerged x (rows_view rows) marks)
    (passed : List Bool) (passes : Passes (spreads_at (rows_view rows)) marks passed) (size : ℕ) (square : size ≡ length rows * length rows) where
  is_for : (purpose : Purpose) (seen : List Bool) (old new : List Fault) → seen ≡ passed → AddsExactly (IsPut x rows size purpose seen) old new → AddsExactly (IsFaultFor x purpose) old new
  is_for purpose seen old new e p =
      puts_as (IsPut x rows size purpose passed) (IsFaultFor x purpose) old new
      (λ fault. (
        from_reached x purpose (rows_view rows) are marks merged passed passes (length rows) size (sym (length-map rows row_view)) square fault,
        to_reached x purpose (rows_view rows) are marks merged passed passes (length rows) size (sym (length-map rows row_view)) square fault,
      ))
      (subst (λ ms. AddsExactly (IsPut x rows size purpose ms) old new) e p)

  pub puts_all : (first second : List Bool) (old middle new : List Fault) → first ≡ passed → second ≡ passed →
      AddsExactly (IsPut x rows size Shapes first) old middle → AddsExactly (IsPut x rows size Names second) middle new → AddsExactly (IsMergingFault x) old new
  puts_all first second old middle new e f p q =
      puts_as (λ fault. IsFaultFor x Shapes fault ⊎ IsFaultFor x Names fault) (IsMergingFault x) old new
      (λ fault. ((λ s. ⊎_elim of_shapes of_names s), for_either x fault))
      (puts_both (IsFaultFor x Shapes) (IsFaultFor x Names) old middle new (is_for Shapes first old middle e p) (is_for Names second middle new f q))
