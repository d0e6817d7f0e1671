use Rattle.std.proofs.Common.{◌∙◌, ap, ◌++◌}
use Rattle.std.proofs.lemmas.Result.{on_ok_weaker}
use Rattle.gq_document.specs.Executable.{executable_view}
use Rattle.gq_spreads.specs.Helping.FragmentsMustBeUsedPlaces.{unused_fragments}
use Rattle.gq_spreads.proofs.UnusedLemmas.{puts_unused}
use Rattle.gq_spreads.proofs.fragments_must_be_used.add_unused_fragments.Goals as goal

pub returns : goal.returns
returns c =
    let x = executable_view c.args.executable.now in
    on_ok_weaker c.add_unspread.result
    (λ is. puts_unused x c.args.faults.now.items c.add_unspread.new.faults.items
    (is ∙ ap (λ spread. c.args.faults.now.items ++ unused_fragments spread x.fragments) c.in_ok-spread.ensures))
    c.add_unspread.ensures
