-- What stands before a place, one, and what stands from another place on.
use Rattle.std.proofs.Common.{◌≡◌, List, [], ◌∷◌, ◌++◌, append_assoc, ap, drop, take, ◌∙◌}
use Rattle.std.proofs.lemmas.List.{map-append}
use Rattle.gq_tree.specs.declared.parsed.Parsed.{Parsed}
use Rattle.gq_tree.specs.Readings.{ParsedOf, SharedParsed, parsed_view, readings_view, shared_view}
use Rattle.gq_kept.proofs.TypesLemmas.{read_before, read_behind}
use Rattle.gq_kept.proofs.typed.readings_around.Goals as goal

pub returns : goal.returns
returns c =
    let readings = c.args.readings.now in
    let front = take c.args.end (readings_view readings) in
    let one : List ParsedOf = shared_view c.args.reading.now ∷ [] in
    let back = drop c.args.start (readings_view readings) in
    let before : readings_view c.add_shared.new.all.items ≡ front =
    c.in_ok-add_shared.ensures ∙ ap (λ (all : List SharedParsed). readings_view all ++ readings_view (take c.args.end readings)) c.in_ok-all.ensures.items ∙ read_before readings c.args.end in
    let with_one : readings_view c.push.new.self.items ≡ front ++ one =
    ap readings_view c.in_ok-push.ensures.items
    ∙ map-append shared_view c.add_shared.new.all.items (c.in_ok-try_clone.field-0 ∷ [])
    ∙ ap (λ (rs : List ParsedOf). rs ++ shared_view c.in_ok-try_clone.field-0 ∷ []) before
    ∙ ap (λ (parsed : Parsed). front ++ parsed_view parsed ∷ []) c.in_ok-try_clone.ensures in
    c.in_ok-add_shared-2.ensures
    ∙ ap (λ (rs : List ParsedOf). readings_view c.push.new.self.items ++ rs) (read_behind readings c.args.start)
    ∙ ap (λ (rs : List ParsedOf). rs ++ back) with_one
    ∙ append_assoc front one back
