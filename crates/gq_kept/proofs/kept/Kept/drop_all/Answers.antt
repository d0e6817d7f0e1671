-- One more is dropped.
use Rattle.std.proofs.Common.{◌≡◌, ℕ, List, [], ◌∷◌, ◌++◌, ◌+◌, take, sym, ap, ◌∙◌}
use Rattle.std.proofs.lemmas.List.{take_more}
use Rattle.gq_project.specs.declared.document.Doc.{Doc}
use Rattle.gq_kept.proofs.Brought.{dropped_more}
use Rattle.gq_kept.proofs.kept.Kept.drop_all.Goals as goal

pub loop-key-preserved : goal.loop-key-preserved
loop-key-preserved c =
    let before : List Doc = c.args.self.now.documents in
    let keys : List (List ℕ) = c.args.keys.now in
    let i = c.loop-key.key-index in
    let key : List ℕ = c.key-item.result in
    let longer : take (i + 1) keys ≡ take i keys ++ key ∷ [] = take_more keys i key c.loop-key-test.true ∙ ap (λ (k : List ℕ). take i keys ++ k ∷ []) (sym c.key-item.is) in
    rw (longer, c.in_ok-drop_file.ensures.ok, c.as_str.ensures) (dropped_more before c.loop-key.self.documents (take i keys) key c.loop-key.invariant)
