use Rattle.std.proofs.Common.{◌∙◌, ℕ, List, find, ap, sym}
use Rattle.std.specs.Str.{bytes_eq}
use Rattle.std.specs.Option.{option_map}
use Rattle.gq_tree.specs.Readings.{readings_view}
use Rattle.gq_document.specs.Definitions.{fragments_of}
use Rattle.gq_select.specs.Meant.{is_spread}
use Rattle.gq_select.specs.Views.{standing_view}
use Rattle.gq_reshape.specs.Helping.About.{sets_of_asked}
use Rattle.gq_reshape.specs.Helping.Fragments.{fragment_found}
use Rattle.gq_reshape.proofs.InlineAnswers.{none_meant, no_fragment, in_way}
use Rattle.gq_reshape.proofs.Standing.{meant_is}
use Rattle.gq_reshape.proofs.inlining.inline_range.Goals as goal

pub as_spread-spread-requires : goal.as_spread-spread-requires
as_spread-spread-requires c =
    let a = c.args.asked in
    meant_is is_spread a.range (sets_of_asked a) (standing_view c.in-Some.standing) (c.in_ok-standing.ensures ∙ ap (option_map standing_view) c.in-Some.is)

pub returns-in_default-clause-answer : goal.returns-in_default-clause-answer
returns-in_default-clause-answer c known index =
    let a = c.args.asked in
    none_meant a c.requires (c.in_ok-standing.ensures ∙ ap (option_map standing_view) c.in_default.is)

pub returns-in_default-fragment_called-clause-answer : goal.returns-in_default-fragment_called-clause-answer
returns-in_default-fragment_called-clause-answer c known index =
    let a = c.args.asked in
    let s = c.as_spread-spread.result.now in
    no_fragment a c.requires s (standing_view c.in-Some.standing)
    (c.in_ok-standing.ensures ∙ ap (option_map standing_view) c.in-Some.is) c.as_spread-spread.ensures
    (ap (λ (text : List ℕ). find (λ f. bytes_eq f.name.text text) (fragments_of (readings_view a.known.readings.now))) (sym c.as_str.ensures) ∙ sym c.in_default-fragment_called.ensures)

pub inline_spread-requires-clause-of : goal.inline_spread-requires-clause-of
inline_spread-requires-clause-of c =
    let a = c.args.asked in
    record {
      selected = standing_view c.in-Some.standing;
      is_meant = c.in_ok-standing.ensures ∙ ap (option_map standing_view) c.in-Some.is;
      is_spread = c.as_spread-spread.ensures;
      is_definition = ap (λ (text : List ℕ). find (λ f. bytes_eq f.name.text text) (fragments_of (readings_view a.known.readings.now))) (sym c.as_str.ensures) ∙ sym c.in-Some-fragment_called.ensures;
    }

pub inline_spread-requires-clause-free : goal.inline_spread-requires-clause-free
inline_spread-requires-clause-free c = sym c.is_directive_in_way.ensures ∙ c.if-is_directive_in_way.false

pub returns-then-is_directive_in_way-clause-answer : goal.returns-then-is_directive_in_way-clause-answer
returns-then-is_directive_in_way-clause-answer c known index =
    let a = c.args.asked in
    in_way a c.requires c.as_spread-spread.result.now (fragment_found c.in-Some-fragment_called.found) (record {
      selected = standing_view c.in-Some.standing;
      is_meant = c.in_ok-standing.ensures ∙ ap (option_map standing_view) c.in-Some.is;
      is_spread = c.as_spread-spread.ensures;
      is_definition = ap (λ (text : List ℕ). find (λ f. bytes_eq f.name.text text) (fragments_of (readings_view a.known.readings.now))) (sym c.as_str.ensures) ∙ sym c.in-Some-fragment_called.ensures;
    }) known (sym c.is_directive_in_way.ensures ∙ c.if-is_directive_in_way.true)
