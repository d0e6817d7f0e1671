use Rattle.std.proofs.Common.{rules, ◌≡◌, ◌<◌, length, Some}
use Rattle.std.specs.List.{position}
use Rattle.std.specs.Str.{bytes_eq}
use Rattle.gq_names.specs.UnderNames.{items_under}
use Rattle.gq_types.proofs.DeclarerLemmas.{put_first, put_again}
use Rattle.gq_types.proofs.declarers.put_each.Goals as goal
use Rattle.gq_types.proofs.declarers.put_each.Goals.{then-eq+in_ok-put, else-eq}

pub loop-place-preserved : goal.loop-place-preserved
loop-place-preserved c =
    let names = c.args.names.now in
    let place = c.loop-place.place in
    let name = c.get-name.result.now in
    let inside : place < length names = search rules in
    elim c.if-eq.branch [
      | then-eq+in_ok-put w ↦
          let first : position (bytes_eq name) names ≡ Some place = search rules in
          λ text. rw w.all-is (put_first names place c.args.number name inside c.get-name.ensures text first
          (items_under c.args.all.now text) (items_under c.loop-place.all text) (items_under w.put.new.self text) (c.loop-place.invariant text) (w.in_ok-put.ensures.ok text))
      | else-eq w ↦
          let again : position (bytes_eq name) names ≡ Some place → ⊥ = search rules in
          λ text. rw w.all-is (put_again names place c.args.number name inside c.get-name.ensures text again
          (items_under c.args.all.now text) (items_under c.loop-place.all text) (c.loop-place.invariant text))
    ]
