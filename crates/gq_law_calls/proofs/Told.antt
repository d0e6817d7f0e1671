-- Where one thing is told of the places below a place, any other can be told of them too.
use Rattle.std.proofs.Common.{List, [], ◌∷◌, ◌++◌}
use Rattle.gq_meaning.specs.Results.{Step, Path}
use Rattle.gq_meaning.specs.Expand.{Definition}
use Rattle.gq_meaning.specs.Response.{Given, Place, AreTold, no_more, one_more}

module _ (g : Given) (ds : List Definition) {A B : Type 0} (what : Path → Place → List A) (other : Path → Place → List B) where
  pub told_too : {path : Path} {p : Place} {ss : List Step} {out : List A} → AreTold g ds what path p ss out → (told : List B) × AreTold g ds other path p ss told
  told_too no_more = ([], no_more)
  told_too {path = path} (one_more {q = q} {s = s} e h k) =
      let inner = told_too h in
      let others = told_too k in
      (other (path ++ s ∷ []) q ++ inner.0 ++ others.0, one_more e inner.1 others.1)
