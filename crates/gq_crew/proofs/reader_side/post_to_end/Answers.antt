use Rattle.std.proofs.Common.{ap, refl, subst, List, ◌∙◌}
use Rattle.gq_events.specs.declared.event.Event.{Event}
use Rattle.gq_events.specs.declared.event.Event.TheVariants as event
use Rattle.gq_events.specs.declared.event.InputEnd.{InputEnd}
use Rattle.gq_reader.specs.Reader.{seen_in}
use Rattle.gq_reader.specs.Coming.{boxed, Steps}
use Rattle.gq_workers.specs.Ends.{posted}
use Rattle.gq_crew.specs.declared.reader_side.Posting.TheVariants.{Stopped, Ended, TooMany}
use Rattle.gq_crew.specs.Helping.Posting.{PostsAll, PostsOne, end_by}
use Rattle.gq_crew.proofs.Driven.{pair_is}
use Rattle.gq_crew.proofs.Posting.{stopped_in, ended_in, too_many_in}
use Rattle.gq_crew.proofs.reader_side.post_to_end.Goals as goal

pub returns-in-Stopped-clause-posts : goal.returns-in-Stopped-clause-posts
returns-in-Stopped-clause-posts g c =
    let view = seen_in g.S.Source.left g.S.Source.ended g.S.Source.failed in
    let steps = Steps g.S.Source.left g.S.Source.ended g.S.Source.failed g.F.Files.reads g.F.Files.failed g.F.Files.has in
    let p = subst (λ (l : List Event). PostsAll steps c.args.reader.now l Stopped c.post_all.new.reader (posted c.post_all.new.end)) c.requires.fresh c.in-Stopped.ensures.posts in
    stopped_in g.F.Files.reads g.F.Files.failed g.F.Files.has steps (λ b. boxed (view b) b.files.now b.loads.now) (λ b. (b.input.ghost_name, b.files.ghost_name)) (λ a r b s. (pair_is s.same_input s.same_files, s.comes))
    c.args.reader.now.files.now c.args.reader.now.loads.now.keys.items (view c.args.reader.now).source c.requires.sound c.args.reader.now c.post_all.new.reader refl c.requires.unread refl c.requires.untold c.requires.whole
    (record { failed = g.F.Files.failed c.post_all.new.reader.files.now; too_deep = g.F.Files.too_deep c.post_all.new.reader.files.now }) refl (posted c.post_all.new.end) p

pub returns-in-Ended-clause-posts : goal.returns-in-Ended-clause-posts
returns-in-Ended-clause-posts g c =
    let view = seen_in g.S.Source.left g.S.Source.ended g.S.Source.failed in
    let steps = Steps g.S.Source.left g.S.Source.ended g.S.Source.failed g.F.Files.reads g.F.Files.failed g.F.Files.has in
    let p = subst (λ (l : List Event). PostsAll steps c.args.reader.now l Ended c.post_all.new.reader (posted c.post_all.new.end)) c.requires.fresh c.in-Ended.ensures.posts in
    rw c.told-told.ensures (ended_in g.F.Files.reads g.F.Files.failed g.F.Files.has steps (λ b. boxed (view b) b.files.now b.loads.now) (λ b. (b.input.ghost_name, b.files.ghost_name)) (λ a r b s. (pair_is s.same_input s.same_files, s.comes))
    c.args.reader.now.files.now c.args.reader.now.loads.now.keys.items (view c.args.reader.now).source c.requires.sound c.args.reader.now c.post_all.new.reader refl c.requires.unread refl c.requires.untold c.requires.whole
    (record { failed = g.F.Files.failed c.post_all.new.reader.files.now; too_deep = g.F.Files.too_deep c.post_all.new.reader.files.now }) refl (posted c.post_all.new.end) (posted c.post.new.end) c.post.result p
    (subst (λ (e : InputEnd). PostsOne (event.End e) c.post.result (posted c.post_all.new.end) (posted c.post.new.end)) (c.end_by.ensures ∙ ap end_by c.told-told.ensures) c.post.ensures.posted))

pub returns-in-TooMany-clause-posts : goal.returns-in-TooMany-clause-posts
returns-in-TooMany-clause-posts g c =
    let view = seen_in g.S.Source.left g.S.Source.ended g.S.Source.failed in
    let steps = Steps g.S.Source.left g.S.Source.ended g.S.Source.failed g.F.Files.reads g.F.Files.failed g.F.Files.has in
    let p = subst (λ (l : List Event). PostsAll steps c.args.reader.now l TooMany c.post_all.new.reader (posted c.post_all.new.end)) c.requires.fresh c.in-TooMany.ensures.posts in
    too_many_in g.F.Files.reads g.F.Files.failed g.F.Files.has steps (λ b. boxed (view b) b.files.now b.loads.now) (λ b. (b.input.ghost_name, b.files.ghost_name)) (λ a r b s. (pair_is s.same_input s.same_files, s.comes))
    c.args.reader.now.files.now c.args.reader.now.loads.now.keys.items (view c.args.reader.now).source c.requires.sound c.args.reader.now c.post_all.new.reader refl c.requires.unread refl c.requires.untold c.requires.whole
    (record { failed = g.F.Files.failed c.post_all.new.reader.files.now; too_deep = g.F.Files.too_deep c.post_all.new.reader.files.now }) refl (posted c.post_all.new.end) (posted c.post-in-TooMany.new.end) c.post-in-TooMany.result p
    c.post-in-TooMany.ensures.posted
