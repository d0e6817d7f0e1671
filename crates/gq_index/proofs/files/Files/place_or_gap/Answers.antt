-- The closure compares a document's key with the key that is sought.
use Rattle.std.proofs.Common.{rules, List, subst, ◌∙◌}
use Rattle.std.specs.List.Sorted.{IsBinarySearchResult}
use Rattle.std.proofs.lemmas.Fn.{always_returns_same}
use Rattle.gq_index.specs.declared.files.File.{File}
use Rattle.gq_project.proofs.Keys.{key_cmp}
use Rattle.gq_index.proofs.files.Files.place_or_gap.Goals as goal

pub returns-clause-place : goal.returns-clause-place
returns-clause-place c =
    let is = c.binary_search_by.ensures.position (λ file. key_cmp file.key c.args.key.now) (always_returns_same _ _ _ (λ a r g called. search rules)) in
    subst (λ (files : List File). IsBinarySearchResult (λ file. key_cmp file.key c.args.key.now) files c.binary_search_by.result) (c.deref.ensures.value ∙ c.self.view_is) is
