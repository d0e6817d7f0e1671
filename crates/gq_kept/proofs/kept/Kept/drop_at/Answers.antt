-- The document and its reading are taken out.
use Rattle.std.proofs.Common.{ap}
use Rattle.gq_kept.specs.KeptOf.{KeptOf, JudgedOf}
use Rattle.gq_kept.proofs.KeptLemmas.{given_in_range, kept_removed}
use Rattle.gq_kept.proofs.kept.Kept.drop_at.Goals as goal

pub defines_types_at-changes_types-requires : goal.defines_types_at-changes_types-requires
defines_types_at-changes_types-requires c =
    let same = ap (λ (k : KeptOf). k.documents) c.self.view_is in
    rw c.deref.ensures.value (given_in_range _ _ _ _ _ c.self.invariant c.args.self.now.documents c.deref.result.now same c.deref.ensures.value c.args.at c.args.key.now c.requires)

pub typed_less-requires : goal.typed_less-requires
typed_less-requires c =
    let same = ap (λ (k : KeptOf). k.documents) c.self.view_is in
    rw c.deref-2.ensures.value (given_in_range _ _ _ _ _ c.self.invariant c.args.self.now.documents c.deref-2.result.now same c.deref-2.ensures.value c.args.at c.args.key.now c.requires)

pub take_out-requires : goal.take_out-requires
take_out-requires c =
    let same = ap (λ (k : KeptOf). k.documents) c.self.view_is in
    given_in_range _ _ _ _ _ c.self.invariant c.args.self.now.documents c.deref-2.result.now same c.deref-2.ensures.value c.args.at c.args.key.now c.requires

pub invariant_of-self : goal.invariant_of-self
invariant_of-self c =
    let same = ap (λ (k : KeptOf). k.documents) c.self.view_is in
    rw (ap (λ (j : JudgedOf). j.documents) c.take.ensures, c.take_out.ensures, c.settle.ensures, c.forget.ensures)
    (kept_removed _ _ _ _ _ c.self.invariant c.args.self.now.documents c.deref-2.result.now same c.deref-2.ensures.value
    c.numbers_of_entries_are_unseen.ensures c.args.at c.args.key.now c.in_ok-made.made c.close_room.new.self c.defines_types_at-changes_types.result
    c.requires c.in_ok-made.ensures (rw (c.deref-2.ensures.value, ← c.deref.ensures.value) c.defines_types_at-changes_types.ensures) c.close_room.ensures)
