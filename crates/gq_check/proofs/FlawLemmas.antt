-- What is said of tables and of variables.
use Rattle.std.proofs.Common.{◌≡◌, ℕ, List, Option, None, sym, subst}
use Rattle.serde_json.specs.Data.{Data}
use Rattle.serde_json.proofs.Views.{members_len-members_view}
use Rattle.gq_check.specs.Flaws.{IsTableWhy, IsVariablesWhy}

pub ruleset counts = (members_len-members_view)

-- of bytes that are no JSON any text
pub no_table_why : (o : Option Data) (why : List ℕ) → o ≡ None → IsTableWhy o why
no_table_why o why e = subst (λ x. IsTableWhy x why) (sym e) tt

pub no_variables_why : (o : Option Data) (why : List ℕ) → o ≡ None → IsVariablesWhy o why
no_variables_why o why e = subst (λ x. IsVariablesWhy x why) (sym e) tt
