-- The covers stay over another type system that no rule tells from it, and where names cannot be had nothing is known.
use Rattle.std.proofs.Common.{refl, subst, sym}
use Rattle.std.specs.List.{insert}
use Rattle.gq_tree.specs.Readings.{parsed_view}
use Rattle.gq_by_file.specs.declared.across.Across.{Across}
use Rattle.gq_by_file.specs.Across.{AreAcross}
use Rattle.gq_by_file.proofs.AcrossLemmas.{across_cleared, across_over}
use Rattle.gq_by_file.proofs.across.Across.make_room.Goals.{then-changes_types, else-changes_types}
use Rattle.gq_by_file.proofs.across.Across.make_room.Goals as goal

pub returns-then-is_empty : goal.returns-then-is_empty
returns-then-is_empty c es us rs one are = c.forget.ensures us (insert rs c.args.at (parsed_view c.args.reading.now))

pub returns-in-Ok : goal.returns-in-Ok
returns-in-Ok c es us rs one are =
    let before : AreAcross us rs c.if-changes_types.self =
    elim c.if-changes_types.branch [
      | then-changes_types w ↦ subst (λ (a : Across). AreAcross us rs a) (sym w.self-is)
          (across_cleared es us rs c.args.self.now _ refl refl refl w.clear.ensures.items are)
      | else-changes_types w ↦ subst (λ (a : Across). AreAcross us rs a) (sym w.self-is)
          (across_over es us (one w.if-changes_types.false) rs c.args.self.now are)
    ] in
    c.put_names.ensures us rs (parsed_view c.args.reading.now) c.in-Ok.ensures before

pub returns-in-Err : goal.returns-in-Err
returns-in-Err c es us rs one are = c.forget-in-Err.ensures us (insert rs c.args.at (parsed_view c.args.reading.now))
