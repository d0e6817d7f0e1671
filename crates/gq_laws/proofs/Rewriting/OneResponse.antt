-- A project has one response to each request: its texts have one tree each, and an operation over them has one response.
use Rattle.std.proofs.Common.{◌≡◌, List, ◌++◌, Option, Some, None, refl, sym, ◌∙◌, ap, subst}
use Rattle.gq_project.specs.declared.document.Doc.{Doc}
use Rattle.gq_tree.specs.Readings.{ParsedOf}
use Rattle.gq_parse.specs.Parsed.{AreParsed}
use Rattle.gq_types.specs.Entries.{EntryOf}
use Rattle.gq_types.specs.BuiltIn.{built_in}
use Rattle.gq_document.specs.Definitions.{OperationOf, FragmentOf, entry_in, operation_in, fragment_in, operations_of, fragments_of}
use Rattle.gq_document.specs.Executable.{ExecutableOf}
use Rattle.gq_parse.proofs.OneReading.{OneTree, same_in_documents}
use Rattle.gq_rules.specs.Project.{type_system_of, executable_of}
use Rattle.gq_table.specs.Rows.{RowOf}
use Rattle.gq_meaning.specs.Values.{Text, Values}
use Rattle.gq_meaning.specs.Results.{Path}
use Rattle.gq_meaning.specs.Shown.{Data}
use Rattle.gq_meaning.specs.Selected.{set_of}
use Rattle.gq_meaning.specs.Response.{Responds}
use Rattle.gq_meaning.specs.Laws.{OneResponse}
use Rattle.gq_coerce.specs.Variables.{coerced_variables}
use Rattle.gq_response.specs.Responses.{ResponseOf, answered}
use Rattle.gq_collect.specs.Given.{given_in}
use Rattle.gq_executor.specs.Operations.{operation_of, fragments_in, root_name, IsResponse, no_operation, bad_variables, executed}
use Rattle.gq_laws.specs.Rewriting.Executed.{RequestsHaveOneResponse}

pub some_same : {A : Type 0} (a b : A) → Some a ≡ Some b → a ≡ b
some_same a b e = cc

pub none_some : {A : Type 0} (a : A) (o : Option A) → o ≡ None → o ≡ Some a → ⊥
none_some a None p q = cc
none_some a (Some b) p q = cc

-- the definitions of documents are the same by all readings
pub same_executable : OneTree → (documents : List Doc) (xs ys : List ParsedOf) → AreParsed documents xs → AreParsed documents ys → executable_of xs ≡ executable_of ys
same_executable one_tree documents xs ys p q =
    let make : List EntryOf → List OperationOf → List FragmentOf → ExecutableOf = λ es os fs. record { entries = es; operations = os; fragments = fs } in
    ap (λ es. make (built_in ++ es) (operations_of xs) (fragments_of xs)) (same_in_documents one_tree entry_in documents xs ys p q)
    ∙ ap (λ os. make (type_system_of ys) os (fragments_of xs)) (same_in_documents one_tree operation_in documents xs ys p q)
    ∙ ap (λ fs. make (type_system_of ys) (operations_of ys) fs) (same_in_documents one_tree fragment_in documents xs ys p q)

module _ (one : OneResponse) (x : ExecutableOf) (rows : List RowOf) (name : Option Text) (raw : Values) where
  abbrev coerced_at : OperationOf → Option Values
  coerced_at o = coerced_variables x.entries o.variables raw

  abbrev responds : OperationOf → Values → Data → List Path → Type 0
  responds o v d es = Responds (given_in x.entries rows v) (fragments_in x) (root_name x o) (set_of o.set) d es

  one_operation : (o p : OperationOf) → operation_of x.operations name ≡ Some o → operation_of x.operations name ≡ Some p → o ≡ p
  one_operation o p e f = some_same o p (sym e ∙ f)

  one_in : (o p : OperationOf) (v w : Values) (d e : Data) (es fs : List Path) → o ≡ p → coerced_at o ≡ Some v → coerced_at p ≡ Some w → responds o v d es → responds p w e fs → answered d es ≡ answered e fs
  one_in o p v w d e es fs q a b h k =
      let same : v ≡ w = some_same v w (sym a ∙ ap coerced_at q ∙ b) in
      let moved : responds p w d es = subst (λ z. responds z w d es) q (subst (λ z. responds o z d es) same h) in
      let both = one (given_in x.entries rows w) (fragments_in x) (root_name x p) (set_of p.set) d e es fs moved k in
      ap (λ z. answered z es) both.0 ∙ ap (λ z. answered e z) both.1

  one_response : (r s : ResponseOf) → IsResponse x rows name raw r → IsResponse x rows name raw s → r ≡ s
  one_response r s (no_operation e) (no_operation f) = refl
  one_response r s (no_operation e) (bad_variables g b) = refl
  one_response r s (no_operation e) (executed {o = o} f b h) = absurd (none_some o (operation_of x.operations name) e f)
  one_response r s (bad_variables e a) (no_operation f) = refl
  one_response r s (bad_variables e a) (bad_variables f b) = refl
  one_response r s (bad_variables {o = o} e a) (executed {o = p} {variables = w} f b h) = absurd (none_some w (coerced_at p) (ap coerced_at (one_operation p o f e) ∙ a) b)
  one_response r s (executed {o = o} e a h) (no_operation f) = absurd (none_some o (operation_of x.operations name) f e)
  one_response r s (executed {o = o} {variables = v} e a h) (bad_variables {o = p} f b) = absurd (none_some v (coerced_at o) (ap coerced_at (one_operation o p e f) ∙ b) a)
  one_response r s (executed {o = o} {variables = v} {d = d} {errors = es} e a h) (executed {o = p} {variables = w} {d = c} {errors = fs} f b k) =
      one_in o p v w d c es fs (one_operation o p e f) a b h k

pub requests_have_one : OneTree → OneResponse → RequestsHaveOneResponse
requests_have_one one_tree one documents rows name raw r s p q =
    one_response one (executable_of q.readings) rows name raw r s
    (subst (λ x. IsResponse x rows name raw r) (same_executable one_tree documents p.readings q.readings p.are_readings q.are_readings) p.is_response) q.is_response
