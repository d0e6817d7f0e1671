use Rattle.std.proofs.Common.{◌≡◌, ℕ, List, Option, ◌∙◌, ap, sym, option_and_then}
use Rattle.gq_tree.specs.Readings.{readings_view}
use Rattle.gq_index.specs.declared.definitions.Executable.{Executable}
use Rattle.gq_index.specs.Views.{definitions_view}
use Rattle.gq_mentions.specs.declared.mention.Mention.{Mention}
use Rattle.gq_mentions.specs.Meant.{meant}
use Rattle.gq_mentions.specs.Views.{mentions_view}
use Rattle.gq_query.specs.Asked.{mentions_of}
use Rattle.gq_query.specs.Helping.Own.{all_definitions, first_number, mentions_from}
use Rattle.gq_query.proofs.OwnDefinitions.{named_in_document}
use Rattle.gq_query.proofs.asking.asked.Goals as goal

pub returns-in_ok-all-in-Some : goal.returns-in_ok-all-in-Some
returns-in_ok-all-in-Some c = λ is.
    let readings = readings_view c.args.known.readings.now in
    let ds = all_definitions c.args.known.readings.now in
    let file = c.in-Some.file in
    let named : mentions_view c.in_ok-all-in-Some.all.items ≡ mentions_of file 0 ds =
    c.in_ok-all-in-Some.ensures
    ∙ ap (λ (n : ℕ). mentions_from n (definitions_view c.deref.result.now)) (c.first_number.ensures.number readings is)
    ∙ ap (λ (l : List Executable). mentions_from (first_number file readings) (definitions_view l)) c.deref.ensures.value
    ∙ ap (mentions_from (first_number file readings)) c.in_ok-own-in-Some.ensures
    ∙ sym (named_in_document file readings) in
    c.meant.ensures
    ∙ ap (λ (l : List Mention). meant c.args.offset (mentions_view l)) c.deref-in-Some.ensures.value
    ∙ ap (meant c.args.offset) named
    ∙ ap (λ (o : Option ℕ). option_and_then (λ f. meant c.args.offset (mentions_of f 0 ds)) o) c.in-Some.ensures
