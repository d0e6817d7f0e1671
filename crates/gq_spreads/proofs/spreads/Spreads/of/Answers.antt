use Rattle.std.proofs.Common.{◌∙◌, ◌++◌, ap, map, List, ℕ}
use Rattle.std.specs.List.{enumerate_from}
use Rattle.gq_document.specs.Executable.{executable_view}
use Rattle.gq_spreads.specs.Helping.Links.{group_at}
use Rattle.gq_spreads.proofs.RoomLemmas.{are_short}
use Rattle.gq_spreads.proofs.SpreadLemmas.{are_spreads}
use Rattle.gq_spreads.proofs.spreads.Spreads.of.Goals as goal

pub returns-clause-are : goal.returns-clause-are
returns-clause-are c =
    let ts = c.in_ok-names.names.names.items in
    are_spreads (executable_view c.args.executable.now) (record { of_operations = c.in_ok-of_operations.of_operations; of_fragments = c.put_groups.new.rows })
    ts c.in_ok-names.ensures
    (c.in_ok-of_operations.ensures, c.in_ok-put_groups.ensures ∙ ap (λ (rows : List (List ℕ)). rows ++ map (group_at ts) (enumerate_from 0 ts)) c.in_ok-of_fragments.ensures)

pub returns-clause-short : goal.returns-clause-short
returns-clause-short c =
    let ts = c.in_ok-names.names.names.items in
    are_short (executable_view c.args.executable.now) (record { of_operations = c.in_ok-of_operations.of_operations; of_fragments = c.put_groups.new.rows })
    ts c.in_ok-names.ensures
    (c.in_ok-of_operations.ensures, c.in_ok-put_groups.ensures ∙ ap (λ (rows : List (List ℕ)). rows ++ map (group_at ts) (enumerate_from 0 ts)) c.in_ok-of_fragments.ensures)
