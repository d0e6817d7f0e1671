use Rattle.std.proofs.Common.{◌∙◌, ap}
use Rattle.gq_rpc.specs.Frames.{frame}
use Rattle.gq_rpc.proofs.writes.encode.Goals as goal

pub returns : goal.returns
returns c = c.in_ok-framed.ensures ∙ ap frame (c.deref.ensures.value ∙ c.in_ok-body.ensures)
