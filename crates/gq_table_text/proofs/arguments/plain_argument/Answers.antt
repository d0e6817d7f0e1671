use Rattle.std.proofs.Common.{subst, sym}
use Rattle.std.specs.Option.{IfSome}
use Rattle.json.specs.Reads.{token_of}
use Rattle.gq_table.specs.Views.{leaf_view}
use Rattle.gq_table.proofs.Trees.{view_leaf}
use Rattle.gq_table_text.specs.Helping.ReadAs.{IsPlain, IsPlainArgument}
use Rattle.gq_table_text.proofs.TokenLemmas.{plain_argument_of}
use Rattle.gq_table_text.proofs.arguments.plain_argument.Goals as goal

pub returns-in-Some : goal.returns-in-Some
returns-in-Some c =
    let t = token_of c.args.token in
    let read = subst (λ o. IfSome o (λ v. IsPlain t (leaf_view v))) c.in-Some.is c.in_ok-leaf.ensures in
    subst (IsPlainArgument t) (sym (view_leaf c.in-Some.leaf)) (plain_argument_of t (leaf_view c.in-Some.leaf) read)
