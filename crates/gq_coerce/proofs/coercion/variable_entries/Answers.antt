use Rattle.std.proofs.Common.{◌≡◌, ◌+◌, ◌-◌, cond, Some, None, ap, sym, ◌∙◌, subst, arith, refl}
use Rattle.gq_coerce.specs.Coerced.{entries_of}
use Rattle.gq_coerce.specs.Helping.Views.{coerced_view, setting_view}
use Rattle.gq_coerce.specs.Helping.Order.{in_order}
use Rattle.gq_coerce.proofs.Loops.{AreFrom, entries_begin, entries_more, entries_fault, entries_end}
use Rattle.gq_coerce.proofs.RawReadings.{variable_of, variables_read, variable_reads}
use Rattle.gq_coerce.proofs.coercion.variable_entries.Goals as goal

pub variables-init : goal.variables-init
variables-init c = (entries_begin (variable_of (setting_view c.args.setting) c.args.raw.now) c.args.definitions.now _ _ (ap in_order c.new-entries.ensures.items) refl, omega arith)

pub variables-preserved : goal.variables-preserved
variables-preserved c =
    let s = setting_view c.args.setting in
    let f = variable_of s c.args.raw.now in
    let xs = c.args.definitions.now in
    let d = c.index-definitions-left.result in
    let old = in_order c.variables.entries.items in
    let new = in_order c.put_coerced.new.entries.items in
    let back : c.variables.left ≡ c.variables.left - 1 + 1 = omega arith in
    let reads = variable_reads s c.args.raw.now d c.as_str-name.result.now c.entry_named-value.result (coerced_view c.in_ok-coerced.coerced) c.as_str-name.ensures c.entry_named-value.ensures c.in_ok-coerced.ensures in (
      entries_more f xs (c.variables.left - 1) d c.as_str-name.result.now old (coerced_view c.in_ok-coerced.coerced) (omega (arith, c.variables.invariant.1, c.variables-test.true)) c.index-definitions-left.is (ap Some (sym c.as_str-name.ensures)) reads
          (subst (λ n. AreFrom f xs old n) back c.variables.invariant.0) new (ap (λ b. cond b (Some new) None) (sym c.if-not-branch.false) ∙ c.in_ok-put_coerced.ensures),
      omega (arith, c.variables.invariant.1),
    )

pub returns-then-not-branch : goal.returns-then-not-branch
returns-then-not-branch c =
    let s = setting_view c.args.setting in
    let f = variable_of s c.args.raw.now in
    let xs = c.args.definitions.now in
    let d = c.index-definitions-left.result in
    let old = in_order c.variables.entries.items in
    let new = in_order c.put_coerced.new.entries.items in
    let back : c.variables.left ≡ c.variables.left - 1 + 1 = omega arith in
    let reads = variable_reads s c.args.raw.now d c.as_str-name.result.now c.entry_named-value.result (coerced_view c.in_ok-coerced.coerced) c.as_str-name.ensures c.entry_named-value.ensures c.in_ok-coerced.ensures in
    sym (entries_fault f xs (c.variables.left - 1) d c.as_str-name.result.now old (coerced_view c.in_ok-coerced.coerced) (omega (arith, c.variables.invariant.1, c.variables-test.true)) c.index-definitions-left.is (ap Some (sym c.as_str-name.ensures)) reads
    (subst (λ n. AreFrom f xs old n) back c.variables.invariant.0) (ap (λ b. cond b (Some new) None) (sym c.if-not-branch.true) ∙ c.in_ok-put_coerced.ensures))
    ∙ ap entries_of (variables_read s c.args.raw.now xs)

pub returns : goal.returns
returns c =
    let s = setting_view c.args.setting in
    let f = variable_of s c.args.raw.now in
    let xs = c.args.definitions.now in
    let last : c.variables.left ≡ 0 = omega (arith, c.variables-test.false) in
    ap Some c.in_ok-in_order.ensures ∙ entries_end f xs (in_order c.variables.entries.items) (subst (λ n. AreFrom f xs (in_order c.variables.entries.items) n) last c.variables.invariant.0) ∙ ap entries_of (variables_read s c.args.raw.now xs)
