-- The derived order of faults is the one that is meant, and equal faults are the same.
use Rattle.std.proofs.Common.{◌≡◌, Bool, true, false, ◌&&◌, nat_eq, List, refl, subst, eqb-true}
use Rattle.std.specs.List.Sorted.{IsStrictlySortedBy}
use Rattle.gq_fault.specs.contracts.fault.FaultOrd.TheImpl as item_order
use Rattle.gq_fault.specs.contracts.fault.FaultPartialEq.TheImpl as item_equality
use Rattle.gq_fault.specs.contracts.code.CodePartialEq.TheImpl as code_equality
use Rattle.gq_fault.specs.declared.fault.Fault.{Fault}
use Rattle.gq_fault.specs.Order.{fault_cmp}
use Rattle.gq_fault.proofs.CodeLemmas.{same_code}

cmp_is : (x y : Fault) → item_order.ghosts.cmp x y ≡ fault_cmp x y
cmp_is x y = refl

pub by_item_cmp : (xs : List Fault) → IsStrictlySortedBy (λ x y. item_order.ghosts.cmp x y) xs → IsStrictlySortedBy fault_cmp xs
by_item_cmp xs h = subst (λ r. IsStrictlySortedBy r xs) (λ i x y. cmp_is x y i) h

both : (a b : Bool) → (a && b) ≡ true → (a ≡ true) × (b ≡ true)
both true b h = (refl, h)
both false b h = absurd (cc)

pub same_item : (x y : Fault) → item_equality.ghosts.eq x y ≡ true → x ≡ y
same_item x y h =
    let a = both (nat_eq x.file y.file) (nat_eq x.start y.start && (code_equality.ghosts.eq x.code y.code && nat_eq x.end y.end)) h in
    let b = both (nat_eq x.start y.start) (code_equality.ghosts.eq x.code y.code && nat_eq x.end y.end) a.1 in
    let c = both (code_equality.ghosts.eq x.code y.code) (nat_eq x.end y.end) b.1 in
    let file = eqb-true x.file y.file a.0 in
    let start = eqb-true x.start y.start b.0 in
    let code = same_code x.code y.code c.0 in
    let end = eqb-true x.end y.end c.1 in
    λ i. record { file = file i; start = start i; code = code i; end = end i }
