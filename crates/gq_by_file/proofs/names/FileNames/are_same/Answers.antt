-- The lists are compared one after the other.
use Rattle.std.proofs.Common.{sym, ◌∙◌}
use Rattle.gq_by_file.proofs.NameLemmas.{all_compared, operations_decide, texts_decide}
use Rattle.gq_by_file.proofs.names.FileNames.are_same.Goals.{then-eq, else-eq}
use Rattle.gq_by_file.proofs.names.FileNames.are_same.Goals as goal

pub returns-then-eq-2 : goal.returns-then-eq-2
returns-then-eq-2 c = elim c.if-eq.branch [
  | then-eq w ↦ all_compared c.args.self.now c.args.other.now c.eq.result w.eq-then-eq.result c.eq-then-eq-2.result c.eq.ensures w.eq-then-eq.ensures c.eq-then-eq-2.ensures w.if-eq.true (sym w.value-is ∙ c.if-eq-2.true)
  | else-eq w ↦ absurd (let e = w.value-is in let u = c.if-eq-2.true in cc)
]

pub returns-else-eq-2 : goal.returns-else-eq-2
returns-else-eq-2 c = elim c.if-eq.branch [
  | then-eq w ↦ (λ e. absurd (let u = c.if-eq-2.false in cc), λ h. absurd (let e = w.eq-then-eq.ensures ∙ (texts_decide c.args.self.now.spreads.items c.args.other.now.spreads.items).1 h.spreads in let v = w.value-is in let u = c.if-eq-2.false in cc))
  | else-eq w ↦ (λ e. absurd (let u = c.if-eq-2.false in cc), λ h. absurd (let e = c.eq.ensures ∙ (operations_decide c.args.self.now.operations.items c.args.other.now.operations.items).1 h.operations in let u = w.if-eq.false in cc))
]
