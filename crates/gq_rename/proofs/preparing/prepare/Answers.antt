use Rattle.std.proofs.Common.{List, subst}
use Rattle.gq_project.specs.declared.document.Doc.{Doc}
use Rattle.gq_rename.specs.Prepare.{IsPrepared}
use Rattle.gq_rename.proofs.preparing.prepare.Goals as goal

pub returns : goal.returns
returns c =
    subst (λ (documents : List Doc). IsPrepared documents c.args.key.now c.args.offset c.in_ok-found.found) c.known.ensures.project
    (c.in_ok-found.ensures (c.known.ensures.known c.in_ok-learned.ensures))
