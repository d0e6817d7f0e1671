use Rattle.gq_merging.specs.Helping.GroupViews.{groups_view}
use Rattle.gq_merging.specs.Helping.Views.{members_view, look_view}
use Rattle.gq_merging.proofs.GrowLemmas.{searched_clique}
use Rattle.gq_merging.proofs.cliques.look_at_clique.Goals as goal

pub returns : goal.returns
returns c = λ t.
    searched_clique (look_view c.args.look) (members_view c.args.members.now) c.requires.clique c.args.faults.now.items c.add_faults_among.new.faults.items
    (groups_view c.args.groups.now.items) (groups_view c.put_group.new.groups.items) c.in_ok-add_faults_among.ensures c.in_ok-put_group.ensures
