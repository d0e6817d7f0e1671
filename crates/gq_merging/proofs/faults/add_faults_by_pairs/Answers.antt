use Rattle.std.proofs.Common.{rules, ◌<◌, ◌≤◌, [], length, get_or, ap, subst, arith}
use Rattle.gq_merging.specs.Helping.PairTables.{IsStart, Gains}
use Rattle.gq_merging.specs.Helping.Views.{look_view}
use Rattle.gq_merging.proofs.FoundLemmas.{met_found}
use Rattle.gq_merging.proofs.MemberSteps.{spreads_inside}
use Rattle.gq_merging.proofs.SearchLemmas.{search_starts, search_next, search_ends, number_within, few}
use Rattle.gq_merging.proofs.faults.add_faults_by_pairs.Goals as goal

pub loop-done-init : goal.loop-done-init
loop-done-init c =
    search_starts (look_view c.args.look) c.args.passed.now c.in_ok-found.found.keys c.args.faults.now.items
    (subst (λ n. Gains (IsStart c.args.passed.now n c.args.look.size (length c.args.passed.now)) [] c.in_ok-found.found.keys) c.requires.passed c.in_ok-found.ensures)

pub look_at_pair-requires : goal.look_at_pair-requires
look_at_pair-requires c =
    let l : c.loop-done.done < length c.loop-done.found.keys = search rules in
    record {
      number = subst (λ n. get_or c.as_slice.result.now c.loop-done.done 0 < n) c.requires.size
          (number_within (look_view c.args.look) c.args.passed.now c.in_ok-found.found.keys c.args.faults.now.items c.loop-done.faults.items c.loop-done.found.keys c.loop-done.done
          (get_or c.as_slice.result.now c.loop-done.done 0) c.loop-done.invariant l (ap (λ ns. get_or ns c.loop-done.done 0) c.as_slice.ensures.keys));
    }

pub loop-done-smaller : goal.loop-done-smaller
loop-done-smaller c =
    let l : c.loop-done.done < length c.loop-done.found.keys = search rules in
    let most : length c.loop-done.found.keys ≤ c.args.look.size =
    few (look_view c.args.look) c.args.passed.now c.in_ok-found.found.keys c.args.faults.now.items c.loop-done.faults.items c.loop-done.found.keys c.loop-done.done c.loop-done.invariant c.as_slice.ensures.unique in
    omega (arith, l, most)

pub loop-done-preserved : goal.loop-done-preserved
loop-done-preserved c =
    let l : c.loop-done.done < length c.loop-done.found.keys = search rules in
    search_next (look_view c.args.look) c.args.passed.now c.in_ok-found.found.keys c.args.faults.now.items c.loop-done.faults.items c.look_at_pair.new.faults.items
    c.loop-done.found.keys c.look_at_pair.new.found.keys c.loop-done.done (get_or c.as_slice.result.now c.loop-done.done 0) c.loop-done.invariant l
    (ap (λ ns. get_or ns c.loop-done.done 0) c.as_slice.ensures.keys) c.in_ok-look_at_pair.ensures.puts c.in_ok-look_at_pair.ensures.gains

pub returns : goal.returns
returns c =
    let past : length c.loop-done.found.keys ≤ c.loop-done.done = search rules in
    search_ends (look_view c.args.look) c.args.passed.now c.in_ok-found.found.keys c.args.faults.now.items c.loop-done.faults.items c.loop-done.found.keys c.loop-done.done
    (subst (λ n. Gains (IsStart c.args.passed.now n c.args.look.size (length c.args.passed.now)) [] c.in_ok-found.found.keys) c.requires.passed c.in_ok-found.ensures)
    (met_found (look_view c.args.look) c.args.passed.now c.requires.size (spreads_inside c.args.look.rows.now c.args.look.spreads.now c.requires.spreads c.requires.range))
    c.loop-done.invariant past
