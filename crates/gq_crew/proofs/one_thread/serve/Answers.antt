use Rattle.std.proofs.Common.{◌≡◌, inl, inr, true, false, [], Some, Err, ap, refl, ◌∙◌}
use Rattle.gq_desk.specs.declared.driving.DriveFault.TheVariants as drive
use Rattle.gq_crew.specs.Helping.Ends.{fault_at, ended_as}
use Rattle.gq_reader.specs.Reader.{seen_in}
use Rattle.gq_reader.specs.Coming.{boxed, Steps}
use Rattle.gq_desk.proofs.Standing.{stands_new}
use Rattle.gq_crew.proofs.Driven.{drives, fails, pair_is}
use Rattle.gq_crew.proofs.one_thread.serve.Goals as goal

pub returns-in-Ok : goal.returns-in-Ok
returns-in-Ok g c =
    let view = seen_in g.S.Source.left g.S.Source.ended g.S.Source.failed in
    let status = c.in-Ok.status in
    let files = g.F.Files.failed in
    let e =
    drives g.F.Files.reads files g.F.Files.has (Steps g.S.Source.left g.S.Source.ended g.S.Source.failed g.F.Files.reads files g.F.Files.has) (λ b. boxed (view b) b.files.now b.loads.now)
    (λ b. (b.input.ghost_name, b.files.ghost_name)) (λ a r b s. (pair_is s.same_input s.same_files, s.comes)) _ (λ x y z. ⊥) (λ x y z bad. bad) c.args.reader.now.files.now c.args.reader.now.loads.now.keys.items (view c.args.reader.now).source
    c.requires.sound c.know_claims.ensures c.args.reader.now c.drive.new.events refl c.requires.unread refl c.requires.untold c.requires.whole
    (record { failed = files c.drive.new.events.files.now; too_deep = g.F.Files.too_deep c.drive.new.events.files.now }) refl c.drive.new.desk _ _ (g.K.Sink.held c.args.output.now)
    (record { held = g.K.Sink.held c.drive.new.writer; failed = g.K.Sink.failed c.drive.new.writer }) status (c.in-Ok.ensures.ok 0 [] (stands_new 0 _ c.requires.new)) in
    let is : c.stopped.result ≡ ended_as status _ = c.stopped.ensures ∙ ap (ended_as status) c.told.ensures in
    record {
      same_input = ap (λ x. x.0) e.same;
      same_files = ap (λ x. x.1) e.same;
      runs = rw is e.runs;
      source = λ bad. ap (λ x. x.fault) is ∙ ap (λ t. (ended_as status t).fault) (e.tells bad);
      files = λ bad. ap (λ x. x.fault) is ∙ ap (λ t. (ended_as status t).fault) (e.tells_files bad);
      sink = λ bad. let none = c.in-Ok.ensures.flag bad in absurd (cc);
    }

pub returns-in-Err : goal.returns-in-Err
returns-in-Err g c =
    let view = seen_in g.S.Source.left g.S.Source.ended g.S.Source.failed in
    let files = g.F.Files.failed in
    let stands = stands_new 0 _ c.requires.new in
    let e =
    fails g.F.Files.reads files g.F.Files.has (Steps g.S.Source.left g.S.Source.ended g.S.Source.failed g.F.Files.reads files g.F.Files.has) (λ b. boxed (view b) b.files.now b.loads.now)
    (λ b. (b.input.ghost_name, b.files.ghost_name)) (λ a r b s. (pair_is s.same_input s.same_files, s.comes)) _ (λ x y z. ⊥) (λ x y z bad. bad) c.args.reader.now.files.now c.args.reader.now.loads.now.keys.items (view c.args.reader.now).source
    c.requires.sound c.know_claims.ensures c.args.reader.now c.drive.new.events refl c.requires.unread refl c.requires.untold c.requires.whole
    (record { failed = files c.drive.new.events.files.now; too_deep = g.F.Files.too_deep c.drive.new.events.files.now }) refl c.drive.new.desk _ _ (g.K.Sink.held c.args.output.now)
    (record { held = g.K.Sink.held c.drive.new.writer; failed = g.K.Sink.failed c.drive.new.writer }) c.in-Err.fault (c.in-Err.ensures.err 0 [] stands)
    (λ is. elim (c.in-Err.ensures.device (ap Err is)) [ inl failed ↦ inl failed | inr many ↦ inr (many 0 [] stands) ])
    (λ is. let bad : false ≡ true = c.in-Err.ensures.closed (ap Err is) in cc)
    (λ is. let bad = c.in-Err.ensures.only_failed (ap Err is) in let good = c.requires.new in cc) in
    let is : c.failed.result ≡ ended_as 3 (Some (fault_at c.in-Err.fault)) = c.failed.ensures ∙ ap (λ f. ended_as 3 (Some f)) c.fault_at.ensures in
    record {
      same_input = ap (λ x. x.0) e.same;
      same_files = ap (λ x. x.1) e.same;
      runs = rw is e.runs;
      source = λ bad. ap (λ x. x.fault) is ∙ e.tells bad;
      files = λ bad. ap (λ x. x.fault) is ∙ e.tells_files bad;
      sink = λ bad.
          let told = c.in-Err.ensures.flag bad in
          let device : c.in-Err.fault ≡ drive.Device = cc in
          ap (λ x. x.fault) is ∙ ap (λ f. Some (fault_at f)) device;
    }
