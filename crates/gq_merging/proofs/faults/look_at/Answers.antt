use Rattle.std.proofs.Common.{rules, ◌≡◌, false, true, ◌∙◌, sym}
use Rattle.std.specs.Str.{bytes_eq}
use Rattle.std.specs.Cmp.Lexicographic.{bytes_decides}
use Rattle.gq_document.specs.FieldSets.{key}
use Rattle.gq_merging.specs.Helping.Views.{field_at, member_view, look_view}
use Rattle.gq_merging.proofs.LookLemmas.{look_one, look_apart}
use Rattle.gq_merging.proofs.faults.look_at.Goals as goal

pub returns-in_ok-put_below : goal.returns-in_ok-put_below
returns-in_ok-put_below c =
    let same : c.key.result.now ≡ c.key-2.result.now = search rules in
    look_one (look_view c.args.look) (member_view c.args.left.now) (member_view c.args.right.now) c.args.faults.now.items c.add_fault_of.new.faults.items c.args.found.now.keys c.put_below.new.found.keys
    (sym c.key.ensures ∙ same ∙ c.key-2.ensures) c.in_ok-add_fault_of.ensures c.in_ok-put_below.ensures

pub returns-else-eq : goal.returns-else-eq
returns-else-eq c =
    look_apart (look_view c.args.look) (member_view c.args.left.now) (member_view c.args.right.now) c.args.faults.now.items c.args.found.now.keys
    (λ (e : key (field_at c.args.left.now.it) ≡ key (field_at c.args.right.now.it)).
    let same : bytes_eq c.key.result.now c.key-2.result.now ≡ true = (bytes_decides c.key.result.now c.key-2.result.now).1 (c.key.ensures ∙ e ∙ sym c.key-2.ensures) in
    let differ : bytes_eq c.key.result.now c.key-2.result.now ≡ false = search rules in
    absurd (cc))
