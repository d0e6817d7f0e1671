use Rattle.std.proofs.Common.{◌≡◌, List, ◌++◌, length}
use Rattle.std.specs.Iterator.{Yields}
use Rattle.gq_events.specs.declared.event.Event.{Event}
use Rattle.gq_reader.specs.Reader.{seen_in, Ready}
use Rattle.gq_reader.specs.Coming.{Steps}
use Rattle.gq_workers.specs.Ends.{posted, reader_on}
use Rattle.gq_crew.proofs.reader_side.post_all.Given as goal

-- the events so far came, and were posted
abbrev pub invariant-loop-posted : goal.invariant-loop-posted
invariant-loop-posted g l = record {
  ready : Ready (seen_in g.S.Source.left g.S.Source.ended g.S.Source.failed l.reader);
  same_input : l.reader.input.ghost_name ≡ l.fn.reader.input.ghost_name;
  same_files : l.reader.files.ghost_name ≡ l.fn.reader.files.ghost_name;
  on : reader_on l.end ≡ reader_on l.fn.end;
  came : (events : List Event) × Yields (Steps g.S.Source.left g.S.Source.ended g.S.Source.failed g.F.Files.reads g.F.Files.failed g.F.Files.has) l.fn.reader events l.reader
      × (posted l.end ≡ posted l.fn.end ++ events) × (length events ≡ l._posted);
}
