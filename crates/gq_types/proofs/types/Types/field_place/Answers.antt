use Rattle.std.proofs.Common.{◌≡◌, ◌≤◌, ap, arith, length, subst, sym, ◌∙◌}
use Rattle.std.specs.Option.{option_and_then}
use Rattle.gq_types.specs.Entries.{entries_view}
use Rattle.gq_types.specs.Joined.{fields_in_body}
use Rattle.gq_types.specs.Look.{types_view, joined_numbers}
use Rattle.gq_types.specs.LookUps.{field_in}
use Rattle.gq_types.specs.Helping.FieldTables.{IsKeptFor}
use Rattle.gq_types.specs.Helping.Tables.{stands_at}
use Rattle.gq_types.proofs.FieldLemmas.{in_table, in_entry, kept_at}
use Rattle.gq_types.proofs.PastLast.{no_field}
use Rattle.gq_types.proofs.types.Types.field_place.Goals as goal

pub returns-in_err-table : goal.returns-in_err-table
returns-in_err-table c =
    let es = entries_view c.self.inside.definitions in
    let past : length es ≤ c.args.number = omega (arith, rw c.deref.ensures.value at c.in_err-table.ensures.lookup.3, c.self.invariant.fields_are.count) in
    ap (option_and_then (stands_at fields_in_body (types_view c.args.self.now))) c.from_residual.ensures
    ∙ sym (ap (λ ds. field_in (entries_view ds) c.args.number c.args.name.now) (sym c.self.view_is) ∙ no_field es c.args.number c.args.name.now past)

pub returns-in-Some : goal.returns-in-Some
returns-in-Some c =
    let es = entries_view c.self.inside.definitions in
    let got = c.in_ok-table.ensures.lookup in
    let kept = kept_at es c.self.inside.fields.items c.args.number c.in_ok-table.field-0.now c.self.invariant.fields_are (rw c.deref.ensures.value at got.3.0) (rw c.deref.ensures.value at got.1) in
    let table = subst (IsKeptFor es c.args.number (joined_numbers es c.args.number)) c.in-Some.is kept in
    let found = in_table es c.args.number c.args.name.now c.in-Some.table.value table.names table.places in
    subst (λ ds. option_and_then (stands_at fields_in_body (entries_view ds)) c.get-in-Some.result ≡ field_in (entries_view ds) c.args.number c.args.name.now) c.self.view_is
    (ap (option_and_then (stands_at fields_in_body es)) (rw c.deref-in-Some.ensures at c.get-in-Some.ensures) ∙ found)

pub returns-in-None : goal.returns-in-None
returns-in-None c =
    let es = entries_view c.self.inside.definitions in
    let got = c.in_ok-table.ensures.lookup in
    let kept = kept_at es c.self.inside.fields.items c.args.number c.in_ok-table.field-0.now c.self.invariant.fields_are (rw c.deref.ensures.value at got.3.0) (rw c.deref.ensures.value at got.1) in
    let alone = subst (IsKeptFor es c.args.number (joined_numbers es c.args.number)) c.in-None.is kept in
    let seen = c.entries.ensures ∙ ap entries_view (sym c.self.view_is) in
    subst (λ ds. option_and_then (stands_at fields_in_body (entries_view ds)) c.place_in.result ≡ field_in (entries_view ds) c.args.number c.args.name.now) c.self.view_is
    (ap (option_and_then (stands_at fields_in_body es)) (rw seen at c.place_in.ensures) ∙ in_entry es c.args.number c.args.name.now alone)
