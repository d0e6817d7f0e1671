use Rattle.std.proofs.lemmas.Str.{IsCharBoundary-start}
use Rattle.gq_text.proofs.Further.{pos_start}
use Rattle.gq_text.proofs.scan.find_position.Goals as goal

pub position_after-requires-clause-known : goal.position_after-requires-clause-known
position_after-requires-clause-known g c = pos_start c.args.encoding (g.B.Bytes.contents c.args.bytes.now)

pub position_after-requires-clause-from : goal.position_after-requires-clause-from
position_after-requires-clause-from g c = IsCharBoundary-start (g.B.Bytes.contents c.args.bytes.now) c.requires.utf8
