use Rattle.std.proofs.Common.{◌≡◌, ◌+◌, ◌<◌, Option, None, length, drop, get_or, sym, ap, ◌∙◌, arith}
use Rattle.std.specs.Option.{option_or}
use Rattle.std.proofs.lemmas.List.{at_drop_more}
use Rattle.gq_text.specs.declared.place.Span.{Span}
use Rattle.gq_tree.specs.Plain.{VariableOf}
use Rattle.gq_query.specs.Groups.{variable_at}
use Rattle.gq_query.specs.Helping.Gathered.{first_of}
use Rattle.gq_query.proofs.FirstDefined.{defines_none, defines_one}
use Rattle.gq_query.proofs.variables.defining_number.Goals as goal

pub returns-then-not-is_empty : goal.returns-then-not-is_empty
returns-then-not-is_empty c = λ ds is.
    let name = c.args.name.now in
    let numbers = c.args.numbers.now in
    let i = c.loop-number.number-index in
    let number = get_or numbers i 0 in
    let rest = first_of (variable_at ds name) (drop (i + 1) numbers) in
    let within : i < length numbers = omega (arith, c.loop-number-test.true) in
    sym (defines_one ds name number rest c.variable_definitions.result.now (c.variable_definitions.ensures ds is) (sym c.is_empty.ensures ∙ c.if-not-is_empty.true))
    ∙ sym (at_drop_more (first_of (variable_at ds name)) numbers i 0 within)
    ∙ c.loop-number.invariant ds is

pub loop-number-preserved : goal.loop-number-preserved
loop-number-preserved c = λ ds is.
    let name = c.args.name.now in
    let numbers = c.args.numbers.now in
    let i = c.loop-number.number-index in
    let number = get_or numbers i 0 in
    let rest = first_of (variable_at ds name) (drop (i + 1) numbers) in
    let within : i < length numbers = omega (arith, c.loop-number-test.true) in
    let nothing : variable_at ds name number ≡ None =
    defines_none ds name number c.variable_definitions.result.now (c.variable_definitions.ensures ds is) (sym c.is_empty.ensures ∙ c.if-not-is_empty.false) in
    ap (λ (o : Option (VariableOf Span)). option_or o rest) (sym nothing)
    ∙ sym (at_drop_more (first_of (variable_at ds name)) numbers i 0 within)
    ∙ c.loop-number.invariant ds is
