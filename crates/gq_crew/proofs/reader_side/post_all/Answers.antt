use Rattle.std.proofs.Common.{◌∙◌}
use Rattle.gq_reader.specs.Coming.{Steps}
use Rattle.gq_workers.specs.Ends.{posted}
use Rattle.gq_crew.proofs.Posting.{stops_after, goes_on}
use Rattle.gq_crew.proofs.reader_side.post_all.Goals as goal

pub returns-then-not-post-clause-posts : goal.returns-then-not-post-clause-posts
returns-then-not-post-clause-posts g c =
    stops_after (Steps g.S.Source.left g.S.Source.ended g.S.Source.failed g.F.Files.reads g.F.Files.failed g.F.Files.has) c.args.reader.now (posted c.args.end.now) c.loop-posted._posted c.loop-posted.reader
    (posted c.loop-posted.end) c.in-Some.event c.next_event.new.reader c.post.result (posted c.post.new.end) c.loop-posted.invariant.came c.in-Some.ensures.steps c.post.ensures.posted

pub loop-posted-preserved : goal.loop-posted-preserved
loop-posted-preserved g c = record {
  ready = c.in-Some.ensures.ready;
  same_input = c.in-Some.ensures.steps.same_input ∙ c.loop-posted.invariant.same_input;
  same_files = c.in-Some.ensures.steps.same_files ∙ c.loop-posted.invariant.same_files;
  on = c.post.ensures.on ∙ c.loop-posted.invariant.on;
  came = goes_on (Steps g.S.Source.left g.S.Source.ended g.S.Source.failed g.F.Files.reads g.F.Files.failed g.F.Files.has) c.args.reader.now (posted c.args.end.now) c.loop-posted._posted c.loop-posted.reader
      (posted c.loop-posted.end) c.in-Some.event c.next_event.new.reader (posted c.post.new.end) c.loop-posted.invariant.came c.in-Some.ensures.steps c.if-not-post.ensures.posted;
}
