-- One file more.
use Rattle.gq_by_file.proofs.CoverLemmas.{item_in, leads_one}
use Rattle.gq_by_file.proofs.covers.cover_clean.Goals as goal

pub returns-in_err-cover_if_clean-clause-kept : goal.returns-in_err-cover_if_clean-clause-kept
returns-in_err-cover_if_clean-clause-kept c x all links faulty leads are =
    c.in_err-cover_if_clean.ensures.kept x all links faulty (leads_one c.args.rows.now c.args.rest.now all _ (item_in c.args.rest.now c.loop-file.file-index c.loop-file-test.true) leads)
    (c.loop-file.invariant.0 x all links faulty leads are)

pub returns-in_err-cover_if_clean-clause-old : goal.returns-in_err-cover_if_clean-clause-old
returns-in_err-cover_if_clean-clause-old c n h = c.in_err-cover_if_clean.ensures.old n (c.loop-file.invariant.1 n h)

pub loop-file-preserved : goal.loop-file-preserved
loop-file-preserved c = (
  λ x all links faulty leads are.
      c.in_ok-cover_if_clean.ensures.kept x all links faulty (leads_one c.args.rows.now c.args.rest.now all _ (item_in c.args.rest.now c.loop-file.file-index c.loop-file-test.true) leads)
      (c.loop-file.invariant.0 x all links faulty leads are),
  λ n h. c.in_ok-cover_if_clean.ensures.old n (c.loop-file.invariant.1 n h),
)
