-- A document that has a place is found.
use Rattle.std.proofs.Common.{List, subst, ap, ◌∙◌}
use Rattle.gq_project.specs.declared.document.Doc.{Doc}
use Rattle.gq_project.specs.Helping.Places.{IsPlaceOf}
use Rattle.gq_kept.specs.KeptOf.{KeptOf}
use Rattle.gq_kept.proofs.Brought.{place_found}
use Rattle.gq_kept.proofs.kept.Kept.drop_file.Goals as goal

pub returns-in-Ok-clause-absent : goal.returns-in-Ok-clause-absent
returns-in-Ok-clause-absent c none =
    let same = c.documents.ensures.all ∙ c.project.ensures ∙ ap (λ (k : KeptOf). k.documents) c.self.view_is in
    absurd (place_found c.args.self.now.documents c.args.key.now c.in-Ok.at (subst (λ (ds : List Doc). IsPlaceOf (λ d. d.key) c.args.key.now ds c.in-Ok.at) same c.in-Ok.ensures.found) none)
