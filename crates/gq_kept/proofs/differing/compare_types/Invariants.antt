-- All are alike without fields of the names, and of others behind them, where those are that are left; and all differ at the numbers, and at others behind them.
use Rattle.std.proofs.Common.{◌≡◌, ◌++◌, true, ℕ, List, drop, map}
use Rattle.gq_types.specs.Entries.{Text, entries_view}
use Rattle.gq_laws.specs.Placing.ObjectTypes.{DifferInObjects}
use Rattle.gq_laws.specs.Placing.OtherFields.{erase_without}
use Rattle.gq_kept.specs.Helping.Texts.{texts_at}
use Rattle.gq_kept.proofs.differing.compare_types.Given as goal

abbrev pub invariant-loop-i : goal.invariant-loop-i
invariant-loop-i l = record {
  names : (more : List Text) →
      let without = erase_without (texts_at l.found.names.items ++ more) in
      map without (entries_view (drop l.i l.types)) ≡ map without (entries_view (drop l.i l.others)) → map without (entries_view l.types) ≡ map without (entries_view l.others);
  objects : l.found.are_objects ≡ true → (more : List ℕ) → DifferInObjects l.i (entries_view (drop l.i l.types)) (entries_view (drop l.i l.others)) more →
      DifferInObjects 0 (entries_view l.types) (entries_view l.others) (l.found.numbers.items ++ more);
}
