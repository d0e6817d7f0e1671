-- One file more.
use Rattle.std.proofs.Common.{List, ℕ, get_or, subst, sym, take}
use Rattle.std.proofs.lemmas.List.{take_more}
use Rattle.gq_tree.specs.Readings.{unshared_view}
use Rattle.gq_types.specs.Look.{types_view}
use Rattle.gq_fault.specs.Adds.{AddsExactly}
use Rattle.gq_by_file.specs.Helping.Told.{IsOwnOf}
use Rattle.gq_by_file.proofs.OwnLemmas.{more_added, nothing_added}
use Rattle.gq_by_file.proofs.halves.add_own_of_all.Goals as goal

pub loop-file-init : goal.loop-file-init
loop-file-init c = nothing_added (types_view c.args.types.now) (unshared_view c.args.readings.now) c.args.all.now.items

pub loop-file-preserved : goal.loop-file-preserved
loop-file-preserved c =
    let es = types_view c.args.types.now in
    let rs = unshared_view c.args.readings.now in
    let i = c.loop-file.file-index in
    let files : List ℕ = c.args.files.now in
    subst (λ (ns : List ℕ). AddsExactly (IsOwnOf es rs ns) c.args.all.now.items c.add_own.new.all.items) (sym (take_more files i 0 c.loop-file-test.true))
    (more_added es rs (take i files) (get_or files i 0) c.args.all.now.items c.loop-file.all.items c.add_own.new.all.items c.loop-file.invariant c.in_ok-add_own.ensures)
