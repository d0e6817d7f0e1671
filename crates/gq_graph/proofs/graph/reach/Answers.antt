use Rattle.std.proofs.Common.{rules, ◌<◌, ◌≤◌, length, sym, subst, arith}
use Rattle.std.specs.Prelude.{All, Contains}
use Rattle.gq_graph.specs.Reach.{Reach, NoneTwice}
use Rattle.gq_graph.proofs.Searching.{search_ends, few}
use Rattle.gq_graph.proofs.Gathering.{sought_starts, sought_next, within_count, number_here}
use Rattle.gq_graph.proofs.graph.reach.Goals as goal

pub loop-done-init : goal.loop-done-init
loop-done-init g c = record {
  once = c.in_ok-put_all.ensures.once;
  sought = sought_starts c.args.starts.now (g.G.Graph.leads c.args.graph.now) (g.G.Graph.count c.args.graph.now)
      c.new-found.result.keys c.put_all.new.found.keys c.new-found.ensures.empty c.requires.starts
      c.in_ok-put_all.ensures.once c.in_ok-put_all.ensures.grown;
}

pub next-requires : goal.next-requires
next-requires g c =
    let lt : c.loop-done.done < length c.loop-done.found.keys = search rules in
    number_here c.args.starts.now (g.G.Graph.leads c.args.graph.now) (g.G.Graph.count c.args.graph.now) c.loop-done.found.keys
    c.as_slice.result.now c.loop-done.done c.loop-done.invariant.sought c.as_slice.ensures.keys lt

pub put_all-requires-in-loop-done : goal.put_all-requires-in-loop-done
put_all-requires-in-loop-done g c = record { once = c.loop-done.invariant.once }

pub loop-done-smaller : goal.loop-done-smaller
loop-done-smaller g c =
    let s = c.loop-done.invariant.sought in
    let a : length c.loop-done.found.keys ≤ g.G.Graph.count c.args.graph.now =
    few s.marks c.loop-done.found.keys (g.G.Graph.count c.args.graph.now) s.search.marked s.search.same in
    let b : c.loop-done.done < length c.loop-done.found.keys = search rules in
    omega (arith, a, b)

pub loop-done-preserved : goal.loop-done-preserved
loop-done-preserved g c =
    let lt : c.loop-done.done < length c.loop-done.found.keys = search rules in
    record {
      once = c.in_ok-put_all-2.ensures.once;
      sought = sought_next c.args.starts.now (g.G.Graph.leads c.args.graph.now) (g.G.Graph.count c.args.graph.now)
          c.loop-done.found.keys c.put_all-in-loop-done.new.found.keys c.as_slice.result.now c.in_ok-row.row.items c.deref.result.now c.loop-done.done
          c.loop-done.invariant.sought lt c.as_slice.ensures.keys c.in_ok-row.ensures.value c.in_ok-row.ensures.range c.deref.ensures.value
          c.in_ok-put_all-2.ensures.once c.in_ok-put_all-2.ensures.grown;
    }

pub returns-clause-sound : goal.returns-clause-sound
returns-clause-sound g c =
    subst (λ l. All (λ n. Reach c.args.starts.now (g.G.Graph.leads c.args.graph.now) n) l) (sym c.in_ok-list.ensures) c.loop-done.invariant.sought.search.sound

pub returns-clause-complete : goal.returns-clause-complete
returns-clause-complete g c =
    let s = c.loop-done.invariant.sought in
    λ n h. subst (λ l. Contains l n) (sym c.in_ok-list.ensures)
    (search_ends c.args.starts.now (g.G.Graph.leads c.args.graph.now) (g.G.Graph.count c.args.graph.now) 0
    s.marks c.loop-done.found.keys c.loop-done.done s.search
    (λ lt. let l : length c.loop-done.found.keys ≤ c.loop-done.done = search rules in omega (arith, lt, l)) n h)

pub returns-clause-once : goal.returns-clause-once
returns-clause-once g c = subst NoneTwice (sym c.in_ok-list.ensures) c.loop-done.invariant.once

pub returns-clause-within : goal.returns-clause-within
returns-clause-within g c =
    subst (λ l. All (λ n. n < g.G.Graph.count c.args.graph.now) l) (sym c.in_ok-list.ensures)
    (within_count c.args.starts.now (g.G.Graph.leads c.args.graph.now) (g.G.Graph.count c.args.graph.now) c.loop-done.found.keys c.loop-done.done c.loop-done.invariant.sought)
