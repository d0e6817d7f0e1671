-- The response from the root object.
use Rattle.std.proofs.Common.{◌≡◌, ℕ, Bool, true, false, List, [], ◌∷◌, ◌++◌, length, Option, Some, None, refl, sym, ap, ◌∙◌, subst}
use Rattle.std.specs.Prelude.{if◌then◌else◌, not, unwrap_or}
use Rattle.gq_tree.specs.declared.tree.OperationKind.{OperationKind}
use Rattle.gq_types.specs.Entries.{EntryOf}
use Rattle.gq_types.specs.Roots.{root_of}
use Rattle.gq_collect.specs.Given.{given_in}
use Rattle.gq_tree.specs.Forest.{none}
use Rattle.gq_document.specs.Definitions.{OperationOf}
use Rattle.gq_document.specs.Executable.{ExecutableOf}
use Rattle.gq_table.specs.Rows.{RowOf}
use Rattle.gq_coerce.specs.Variables.{coerced_variables}
use Rattle.gq_response.specs.Responses.{ResponseOf, request_error, answered}
use Rattle.gq_executor.specs.Operations.{operation_of, IsResponse, executed, IsAnsweredBy, IsAnswered}
use Rattle.gq_meaning.specs.Values.{Text, Values}
use Rattle.gq_meaning.specs.Results as result
use Rattle.gq_meaning.specs.Results.{Path}
use Rattle.gq_meaning.specs.Shown.{Data}
use Rattle.gq_meaning.specs.Selected.{Set, join}
use Rattle.gq_meaning.specs.Selected as selected
use Rattle.gq_meaning.specs.Expand.{Definition}
use Rattle.gq_meaning.specs.Acyclic.{Rankable}
use Rattle.gq_meaning.specs.Response.{Given, steps_of, root, root_type, root_fields, fails, steps, failed, AreTold, no_more, error_at, Responds}
use Rattle.gq_meaning.proofs.Low.{low_sets}
use Rattle.gq_collect.specs.declared.world.World.{World}
use Rattle.gq_collect.specs.World.{given_by, definitions_in}
use Rattle.gq_executor.specs.Answers.{IsAnswer}
use Rattle.gq_executor.proofs.Loops.{null_data}

pub rank_one : (ds : List Definition) (set : Set) → Rankable ds set → Rankable ds (join set selected.none)
rank_one ds set r = (r.0, r.1, low_sets r.0 (length ds) (root_fields set) (r.2, tt))

abbrev pub is_object_type : Given → Text → Bool
is_object_type g t = if g.is_composite t then g.applies t t else false

pub no_root : (g : Given) (ds : List Definition) (t : Text) (set : Set) → is_object_type g t ≡ false → Responds g ds t set null_data []
no_root g ds t set e =
    let f : fails g (root t set) ≡ true = ap not e in record {
      shows = (failed f, refl);
      errors_are = subst (λ b. AreTold g ds (error_at g) [] (root t set) (if b then [] else steps_of g ds (root_fields set) (root t set).result) []) (sym f) no_more;
    }

pub from_answer : (world : World) (t : Text) (set : Set) (d : Data) (before after : List Path) → is_object_type (given_by world) t ≡ true → before ≡ [] → IsAnswer world (Some (root_type t)) (Some (record { label = result.object t 0; below = none })) (root_fields set) [] before after d →
    Responds (given_by world) (definitions_in world) t set d after
from_answer world t set d before after e q a =
    let g = given_by world in
    let ds = definitions_in world in
    let here = a.answered None in
    let f : fails g (root t set) ≡ false = ap not e in
    let are : after ≡ here.inner = a.grows ∙ ap (λ z. z ++ a.errors) q ∙ here.are ∙ ap (λ b. (if b then [] ∷ [] else []) ++ here.inner) f in
    record { shows = here.shows; errors_are = subst (λ z. AreTold g ds (error_at g) [] (root t set) (steps g ds (root t set)) z) (sym are) here.told }

pub to_response : (x : ExecutableOf) (rows : List RowOf) (name : Option Text) (raw : Values) (o : OperationOf) (variables : Values) (r : ResponseOf) → operation_of x.operations name ≡ Some o → coerced_variables x.entries o.variables raw ≡ Some variables → IsAnswered x rows o variables r →
    IsResponse x rows name raw r
to_response x rows name raw o variables request_error e f h = absurd h
to_response x rows name raw o variables (answered d errors) e f h = executed e f h

-- the same type system and the same fragments
pub answered_same : (es es' : List EntryOf) (rows : List RowOf) (vs : Values) (ds ds' : List Definition) (kind : OperationKind) (set : Set) (r : ResponseOf) → es ≡ es' → ds ≡ ds' →
    IsAnsweredBy (given_in es rows vs) ds (unwrap_or (root_of es kind) []) set r → IsAnsweredBy (given_in es' rows vs) ds' (unwrap_or (root_of es' kind) []) set r
answered_same es es' rows vs ds ds' kind set r types fragments h =
    subst (λ z. IsAnsweredBy (given_in z rows vs) ds' (unwrap_or (root_of z kind) []) set r) types (subst (λ z. IsAnsweredBy (given_in es rows vs) z (unwrap_or (root_of es kind) []) set r) fragments h)
