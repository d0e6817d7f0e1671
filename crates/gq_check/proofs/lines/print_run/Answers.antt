use Rattle.std.proofs.Common.{◌≡◌, ℕ, List, ◌+◌, ◌++◌, [], ◌∷◌, take, ap, sym, ◌∙◌}
use Rattle.std.proofs.lemmas.List.{take_more, flat_map_more}
use Rattle.gq_fault.specs.declared.found.Found.{Found}
use Rattle.gq_check.specs.Formats.{printed, printed_all}
use Rattle.gq_check.proofs.LineLemmas.{fits-text_at, printed-is}
use Rattle.gq_check.proofs.lines.print_run.Goals as goal

pub of-requires : goal.of-requires
of-requires c = rw c.text_of-text.ensures (fits-text_at c.args.project.now c.args.key.now c.requires.texts)

pub in_units-in_units-requires-clause-fits : goal.in_units-in_units-requires-clause-fits
in_units-in_units-requires-clause-fits c = rw c.text_of-text.ensures (fits-text_at c.args.project.now c.args.key.now c.requires.texts)

pub in_bytes-in_bytes-requires-clause-fits : goal.in_bytes-in_bytes-requires-clause-fits
in_bytes-in_bytes-requires-clause-fits c = rw c.text_of-text.ensures (fits-text_at c.args.project.now c.args.key.now c.requires.texts)

pub loop-item-preserved : goal.loop-item-preserved
loop-item-preserved c =
    let found = c.args.found.now in
    let item = c.item-item.result in
    let index = c.loop-item.item-index in
    let shown = printed c.args.format c.args.project.now in
    let of_key : item.key ≡ c.args.key.now = ap (λ (f : Found). f.key) c.item-item.is ∙ c.requires.same index item c.loop-item-test.true in
    let one = printed-is c.args.format c.args.project.now item c.args.key.now c.text_of-text.result.now c.in_units-in_units.result c.in_bytes-in_bytes.result of_key c.text_of-text.ensures c.in_units-in_units.ensures c.in_bytes-in_bytes.ensures in
    let more : take (index + 1) found ≡ take index found ++ item ∷ [] = take_more found index item c.loop-item-test.true ∙ ap (λ (f : Found). take index found ++ f ∷ []) (sym c.item-item.is) in
    c.in_ok-print_found.ensures ∙ ap (λ (xs : List ℕ). c.loop-item.lines.items ++ xs) one ∙ ap (λ (xs : List ℕ). xs ++ shown item) c.loop-item.invariant
    ∙ flat_map_more shown c.args.lines.now.items (take index found) item ∙ ap (λ (fs : List Found). c.args.lines.now.items ++ printed_all c.args.format c.args.project.now fs) (sym more)
