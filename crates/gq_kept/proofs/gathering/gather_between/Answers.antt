use Rattle.std.proofs.Common.{length, take, drop, ◌-◌}
use Rattle.std.proofs.lemmas.Result.{IfOk-weaker}
use Rattle.gq_kept.specs.Helping.Texts.{texts_at}
use Rattle.gq_kept.proofs.FieldLemmas.{between, rejoined}
use Rattle.gq_kept.proofs.gathering.gather_between.Goals as goal

pub returns : goal.returns
returns c =
    let front = c.common_front-front.result in
    let back = c.common_back-back.result in
    let these = c.args.fields.now in
    let those = c.args.others.now in
    let rest = take (length these - front) (drop front these) in
    let others = take (length those - front) (drop front those) in
    IfOk-weaker c.gather-2.result _ _ (λ done g t. between these (take front these) rest those (take front those) others (length rest - back) (length others - back)
    (texts_at c.args.names.now.items) (texts_at c.gather.new.names.items) (texts_at c.gather-2.new.names.items) (rejoined front these) (rejoined front those)
    c.common_front-front.ensures.alike c.common_back-back.ensures.alike (c.in_ok-gather.ensures c.if-not-branch.false) (g t)) c.gather-2.ensures
