use Rattle.std.proofs.Common.{◌∙◌, ap, sym}
use Rattle.std.specs.Option.{option_map}
use Rattle.gq_select.specs.Meant.{is_inline}
use Rattle.gq_select.specs.Views.{standing_view}
use Rattle.gq_reshape.specs.Helping.About.{sets_of_asked}
use Rattle.gq_reshape.proofs.RemoveAnswers.{none_meant, says_something}
use Rattle.gq_reshape.proofs.Standing.{meant_is}
use Rattle.gq_reshape.proofs.removing.remove_range.Goals as goal

pub as_inline-inline-requires : goal.as_inline-inline-requires
as_inline-inline-requires c =
    let a = c.args.asked in
    meant_is is_inline a.range (sets_of_asked a) (standing_view c.in-Some.standing) (c.in_ok-standing.ensures ∙ ap (option_map standing_view) c.in-Some.is)

pub returns-in_default-clause-answer : goal.returns-in_default-clause-answer
returns-in_default-clause-answer c known index =
    let a = c.args.asked in
    none_meant a c.requires (c.in_ok-standing.ensures ∙ ap (option_map standing_view) c.in_default.is)

pub open_fragment-requires-clause-of : goal.open_fragment-requires-clause-of
open_fragment-requires-clause-of c =
    let a = c.args.asked in
    record {
      selected = standing_view c.in-Some.standing;
      is_meant = c.in_ok-standing.ensures ∙ ap (option_map standing_view) c.in-Some.is;
      is_inline = c.as_inline-inline.ensures;
      says = sym c.says_nothing.ensures ∙ c.if-not-says_nothing.false;
    }

pub returns-then-not-says_nothing-clause-answer : goal.returns-then-not-says_nothing-clause-answer
returns-then-not-says_nothing-clause-answer c known index =
    let a = c.args.asked in
    says_something a c.requires c.as_inline-inline.result.now (standing_view c.in-Some.standing)
    (c.in_ok-standing.ensures ∙ ap (option_map standing_view) c.in-Some.is) c.as_inline-inline.ensures
    (sym c.says_nothing.ensures ∙ c.if-not-says_nothing.true)
