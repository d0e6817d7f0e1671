use Rattle.std.proofs.Common.{◌≡◌, ◌+◌, ◌++◌, [], ◌∷◌, take, ap, sym, ◌∙◌}
use Rattle.std.proofs.lemmas.List.{take_more}
use Rattle.std.proofs.lemmas.List.Elements.{All-push, All-same}
use Rattle.gq_fault.specs.declared.found.Found.{Found}
use Rattle.gq_check.specs.Helping.Runs.{first_key}
use Rattle.gq_check.proofs.LineLemmas.{same_text, first_key-is}
use Rattle.gq_check.proofs.lines.run_len.Goals as goal

pub loop-item-preserved : goal.loop-item-preserved
loop-item-preserved c =
    let found = c.args.found.now in
    let item = c.item-item.result in
    let index = c.loop-item.item-index in
    let key : item.key ≡ first_key found = sym c.as_str.ensures ∙ same_text _ _ c.if-ne.ensures ∙ c.as_str-key.ensures ∙ first_key-is found c.index-found-0.result c.requires in
    let more : take (index + 1) found ≡ take index found ++ item ∷ [] = take_more found index item c.loop-item-test.true ∙ ap (λ (f : Found). take index found ++ f ∷ []) (sym c.item-item.is) in
    record {
      same = All-same (λ (f : Found). f.key ≡ first_key found) _ _ more (All-push (λ (f : Found). f.key ≡ first_key found) _ _ c.loop-item.invariant.same key);
      counted = ap (λ n. n + 1) c.loop-item.invariant.counted;
    }
