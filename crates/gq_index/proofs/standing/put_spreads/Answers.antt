-- One name more is put in.
use Rattle.std.proofs.Common.{◌≡◌, ◌∷◌, ◌+◌, List, drop, subst, sym, ◌∙◌, ap}
use Rattle.std.specs.Str.{bytes_eq}
use Rattle.std.specs.List.{position}
use Rattle.std.proofs.Common.{Some}
use Rattle.std.proofs.lemmas.List.{drop_more}
use Rattle.gq_tree.specs.declared.tree.Name.{Name}
use Rattle.gq_types.specs.Entries.{Text}
use Rattle.gq_index.specs.Helping.StandingParts.{both, if_so, spread_at, spreads_stand}
use Rattle.gq_index.specs.Standing.{StandsOf, stands}
use Rattle.gq_index.specs.Views.{names_view}
use Rattle.gq_index.proofs.SpreadPlaceLemmas.{places_next}
use Rattle.gq_index.proofs.StandLemmas.{one_step}
use Rattle.gq_index.proofs.standing.put_spreads.Goals as goal

pub loop-name-preserved : goal.loop-name-preserved
loop-name-preserved c =
    let names : List Name = c.args.names.now in
    let i = c.loop-name.name-index in
    let name : Name = c.name-item.result in
    let left : drop i names ≡ name ∷ drop (i + 1) names = drop_more names i name c.loop-name-test.true ∙ ap (λ (n : Name). n ∷ drop (i + 1) names) (sym c.name-item.is) in
    let one : Text → Text → StandsOf = λ text t. if_so (bytes_eq text t) (spread_at (record { file = c.args.file; span = name.span })) in (
      λ text.
          let now = stands c.loop-name.all text in
          one_step now (stands c.spread.new.self text) (one text name.text) (spreads_stand c.args.file text (names_view (drop (i + 1) names))) _
          (c.in_ok-at.ensures.stand text ∙ ap (λ t. both now (one text t)) c.as_str.ensures)
          (sym (ap (λ (ns : List Name). both now (spreads_stand c.args.file text (names_view ns))) left) ∙ c.loop-name.invariant.0 text),
      λ ns are.
          places_next c.loop-name.all.names c.spread.new.self.names ns names i name c.loop-name.places.items _ c.in_ok-at.at c.loop-name-test.true c.name-item.is c.in_ok-at.ensures.kept
          (subst (λ t. position (bytes_eq t) c.spread.new.self.names ≡ Some c.in_ok-at.at) c.as_str.ensures c.in_ok-at.ensures.at)
          c.in_ok-push.ensures.items (c.loop-name.invariant.1 ns are),
    )
