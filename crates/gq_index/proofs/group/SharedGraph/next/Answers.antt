use Rattle.std.proofs.Common.{rules, ◌<◌, ◌+◌, ◌-◌, length}
use Rattle.std.proofs.lemmas.Result.{IfOk-weaker}
use Rattle.gq_index.specs.Helping.GroupGraphs.{leads_of_member, leads_of_reached, leads_of_leading}
use Rattle.gq_index.specs.Helping.Shared.{shared}
use Rattle.gq_index.proofs.GroupLemmas.{member_below, reached_below, leading_below, all_of}
use Rattle.gq_index.proofs.SharedLemmas.{in_count}
use Rattle.gq_index.proofs.group.SharedGraph.next.Goals as goal

pub returns-then-number-count-clause-range : goal.returns-then-number-count-clause-range
returns-then-number-count-clause-range c =
    let tables = c.args.self.now.tables.now in
    let text = c.args.self.now.name.now in
    let count = length tables.spread_in.items in
    let inside : c.args.number < count = search rules in
    IfOk-weaker c.next_of_member.result _ _
    (λ v is. all_of (λ n. n < count + count + count) (leads_of_member (shared tables text) c.args.number) v.items is
    (member_below (shared tables text) (in_count tables text tables.spread_in_range tables.spreading_in_range tables.same_count) c.args.number inside))
    c.next_of_member.ensures

pub returns-then-number-count-2-clause-range : goal.returns-then-number-count-2-clause-range
returns-then-number-count-2-clause-range c =
    let tables = c.args.self.now.tables.now in
    let text = c.args.self.now.name.now in
    let count = length tables.spread_in.items in
    let number = c.args.number - c.count-count.result in
    let inside : number < count = search rules in
    IfOk-weaker c.next_of_reached.result _ _
    (λ v is. all_of (λ n. n < count + count + count) (leads_of_reached (shared tables text) number) v.items is
    (reached_below (shared tables text) (in_count tables text tables.spread_in_range tables.spreading_in_range tables.same_count) number inside))
    c.next_of_reached.ensures

pub returns-clause-range : goal.returns-clause-range
returns-clause-range c =
    let tables = c.args.self.now.tables.now in
    let text = c.args.self.now.name.now in
    let count = length tables.spread_in.items in
    let number = c.args.number - (c.count-count.result + c.count-count.result) in
    let inside : number < count = search rules in
    IfOk-weaker c.next_of_leading.result _ _
    (λ v is. all_of (λ n. n < count + count + count) (leads_of_leading (shared tables text) number) v.items is
    (leading_below (shared tables text) (in_count tables text tables.spread_in_range tables.spreading_in_range tables.same_count) number inside))
    c.next_of_leading.ensures
