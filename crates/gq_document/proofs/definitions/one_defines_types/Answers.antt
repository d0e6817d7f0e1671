use Rattle.std.proofs.Common.{◌≡◌, ◌++◌, ◌+◌, ◌∙◌, [], ◌∷◌, arith, flat_map, map, take, take-suc, add-one, subst, sym, ap}
use Rattle.std.proofs.lemmas.List.{take_all}
use Rattle.gq_tree.specs.Views.{def_view}
use Rattle.gq_document.specs.Definitions.{entry_in}
use Rattle.gq_document.proofs.PartLemmas.{none_more}
use Rattle.gq_document.proofs.definitions.one_defines_types.Goals as goal

pub loop-definition-preserved : goal.loop-definition-preserved
loop-definition-preserved c = λ file.
    let ds = c.args.definitions.now in
    let i = c.loop-definition.definition-index in
    let longer : take (i + 1) ds ≡ take i ds ++ c.definition-item.result ∷ [] =
    ap (λ k. take k ds) (add-one i) ∙ take-suc ds i _ c.loop-definition-test.true ∙ ap (λ d. take i ds ++ d ∷ []) (sym c.definition-item.is) in
    subst (λ xs. flat_map (entry_in file) (map def_view xs) ≡ []) (sym longer)
    (none_more file (take i ds) c.definition-item.result (c.loop-definition.invariant file) (c.is_of_types.ensures c.if-is_of_types.false file))

pub returns : goal.returns
returns c = λ e file. subst (λ xs. flat_map (entry_in file) (map def_view xs) ≡ []) (take_all c.loop-definition.definition-index c.args.definitions.now (omega (arith, c.loop-definition-test.false))) (c.loop-definition.invariant file)
