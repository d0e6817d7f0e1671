use Rattle.std.proofs.Common.{◌≡◌, ◌++◌, ◌+◌, ◌∙◌, List, [], ◌∷◌, arith, map, take, take-suc, add-one, subst, sym, ap}
use Rattle.std.proofs.lemmas.List.{take_all, map-append}
use Rattle.gq_tree.specs.declared.tree.Definition.{Definition}
use Rattle.gq_tree.specs.Views.{def_view}
use Rattle.gq_kept.specs.Helping.Unindexed.{AddNothing}
use Rattle.gq_kept.proofs.IndexLemmas.{nothing_of_none, none_more}
use Rattle.gq_kept.proofs.indexed.one_is_executable.Goals as goal

pub loop-definition-init : goal.loop-definition-init
loop-definition-init c = nothing_of_none

pub loop-definition-preserved : goal.loop-definition-preserved
loop-definition-preserved c =
    let ds = c.args.definitions.now in
    let i = c.loop-definition.definition-index in
    let longer : take (i + 1) ds ≡ take i ds ++ c.definition-item.result ∷ [] =
    ap (λ k. take k ds) (add-one i) ∙ take-suc ds i _ c.loop-definition-test.true ∙ ap (λ d. take i ds ++ d ∷ []) (sym c.definition-item.is) in
    let viewed : map def_view (take (i + 1) ds) ≡ map def_view (take i ds) ++ def_view c.definition-item.result ∷ [] = ap (map def_view) longer ∙ map-append def_view (take i ds) (c.definition-item.result ∷ []) in
    subst AddNothing (sym viewed) (none_more (map def_view (take i ds)) (def_view c.definition-item.result ∷ []) c.loop-definition.invariant (c.is_executable.ensures c.if-is_executable.false))

pub returns : goal.returns
returns c = λ e. subst (λ (ds : List Definition). AddNothing (map def_view ds)) (take_all c.loop-definition.definition-index c.args.definitions.now (omega (arith, c.loop-definition-test.false))) c.loop-definition.invariant
