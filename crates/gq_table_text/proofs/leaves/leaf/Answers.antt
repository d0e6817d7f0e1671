use Rattle.std.proofs.Common.{subst, sym, IfOk}
use Rattle.std.specs.Option.{IfSome}
use Rattle.json.specs.Reads.{token_of}
use Rattle.gq_meaning.specs.Values.{boolean, text}
use Rattle.gq_table.specs.Views.{leaf_view}
use Rattle.gq_table_text.specs.Helping.ReadAs.{IsPlain}
use Rattle.gq_table_text.proofs.TokenLemmas.{boolean_plain, number_found, text_plain}
use Rattle.gq_table_text.proofs.leaves.leaf.Goals as goal

pub returns-in-Bool : goal.returns-in-Bool
returns-in-Bool c = subst (λ t. IsPlain (token_of t) (boolean c.in-Bool.b)) (sym c.in-Bool.is) (boolean_plain c.in-Bool.b)

pub returns-in_ok-from_str-in-String : goal.returns-in_ok-from_str-in-String
returns-in_ok-from_str-in-String c = rw c.in_ok-from_str-in-String.ensures.text (subst (λ t. IsPlain (token_of t) (text c.in-String.text.now)) (sym c.in-String.is) (text_plain c.in-String.text.now))

pub returns-in-Number : goal.returns-in-Number
returns-in-Number c =
    subst (λ t. IfOk c.integer.result (λ o. IfSome o (λ v. IsPlain (token_of t) (leaf_view v)))) (sym c.in-Number.is)
    (number_found c.integer.result c.in-Number.text.now c.integer.ensures.leaf c.integer.ensures.argument)
