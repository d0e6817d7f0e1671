use Rattle.std.proofs.Common.{◌≡◌, ap, sym, ◌∙◌}
use Rattle.std.specs.Option.{option_map}
use Rattle.gq_document.specs.Definitions.{fragment_view}
use Rattle.gq_coerce.proofs.Finding.{found_at, found_nowhere}
use Rattle.gq_collect.specs.Fragments.{definition_of}
use Rattle.gq_collect.proofs.FragmentLemmas.{fragment_found}
use Rattle.gq_collect.proofs.fragments.Fragments.named.Goals as goal

pub returns-in-Some : goal.returns-in-Some
returns-in-Some c =
    let self = c.args.self.now in
    sym (fragment_found c.args.name.now self.all.now ∙ ap (option_map (λ f. definition_of (fragment_view f)))
    (found_at (λ f. f.definition.now.name.text) c.args.name.now self.all.now self.names self.are_named c.in-Some.place _ (sym c.place.ensures ∙ c.in-Some.is) c.index-self-place.is))

pub returns-in-None : goal.returns-in-None
returns-in-None c =
    let self = c.args.self.now in
    sym (fragment_found c.args.name.now self.all.now ∙ ap (option_map (λ f. definition_of (fragment_view f)))
    (found_nowhere (λ f. f.definition.now.name.text) c.args.name.now self.all.now self.names self.are_named (sym c.place.ensures ∙ c.in-None.is)))
