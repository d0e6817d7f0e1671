-- Kinds of operations and tests of them.
use Rattle.std.proofs.Common.{◌≡◌, true, refl, subst}
use Rattle.gq_tree.specs.declared.tree.OperationKind.{OperationKind}
use Rattle.gq_tree.specs.declared.tree.OperationKind.TheVariants.{Query, Mutation, Subscription}
use Rattle.gq_tree.specs.Same.{same_kinds}

pub same_operation : (a b : OperationKind) → same_kinds a b ≡ true → a ≡ b
same_operation Query Query h = refl
same_operation Query Mutation h = absurd (cc)
same_operation Query Subscription h = absurd (cc)
same_operation Mutation Query h = absurd (cc)
same_operation Mutation Mutation h = refl
same_operation Mutation Subscription h = absurd (cc)
same_operation Subscription Query h = absurd (cc)
same_operation Subscription Mutation h = absurd (cc)
same_operation Subscription Subscription h = refl

pub operation_self : (a : OperationKind) → same_kinds a a ≡ true
operation_self Query = refl
operation_self Mutation = refl
operation_self Subscription = refl

pub operation_same : (a b : OperationKind) → a ≡ b → same_kinds a b ≡ true
operation_same a b e = subst (λ k. same_kinds a k ≡ true) e (operation_self a)
