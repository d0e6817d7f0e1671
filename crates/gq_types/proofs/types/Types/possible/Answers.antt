use Rattle.std.proofs.Common.{◌≢◌, ◌↔◌, subst, sym, Contains}
use Rattle.std.specs.List.{AllPairs}
use Rattle.std.proofs.lemmas.Result.{IfOk-weaker}
use Rattle.gq_types.specs.Entries.{Text}
use Rattle.gq_types.specs.Look.{types_view}
use Rattle.gq_types.specs.Possible.{IsPossible}
use Rattle.gq_types.proofs.PossibleLemmas.{possible_texts_are, possible_texts_once}
use Rattle.gq_types.proofs.types.Types.possible.Goals as goal

pub returns-clause-all : goal.returns-clause-all
returns-clause-all c =
    let es = types_view c.args.self.now in
    IfOk-weaker c.possible_texts.result _ _ (λ objects h. subst (λ ts. (object : Text) → Contains ts object ↔ IsPossible es c.args.type_name.now object) (sym h) (possible_texts_are es c.args.type_name.now)) c.possible_texts.ensures

pub returns-clause-once : goal.returns-clause-once
returns-clause-once c =
    let es = types_view c.args.self.now in
    IfOk-weaker c.possible_texts.result _ _ (λ objects h. subst (λ ts. AllPairs (λ a b. a ≢ b) ts) (sym h) (possible_texts_once es c.args.type_name.now)) c.possible_texts.ensures
