use Rattle.std.proofs.Common.{◌∙◌, ◌≡◌, ◌↔◌, ◌<◌, ℕ, All, Bool, Contains, List, ap, false, filter, subst}
use Rattle.std.specs.Prelude.{slice_index_or}
use Rattle.std.specs.declared.vec.Vec.{Vec}
use Rattle.std.specs.declared.alloc.Global.{Global}
use Rattle.std.proofs.lemmas.List.Elements.{All-contains}
use Rattle.gq_graph.specs.Reach.{Reach, row}
use Rattle.gq_fault.specs.declared.fault.Fault.{Fault}
use Rattle.gq_document.specs.Definitions.{OperationOf, FragmentOf, operations_view, fragments_view}
use Rattle.gq_document.specs.Executable.{ExecutableOf, executable_view}
use Rattle.gq_by_file.specs.Closed.Closed.{StandsInFile}
use Rattle.gq_by_file.specs.Closed.RestsOnNames.{IsFaultBySpreads}
use Rattle.gq_by_file.specs.Helping.Covers.{HoldsAll}
use Rattle.gq_by_file.proofs.PartLemmas.{found_in_marked}
use Rattle.gq_by_file.proofs.part.found_within.Goals as goal

pub returns : goal.returns
returns c = λ (x : ExecutableOf) (rows : List (Vec ℕ Global)) (starts : List ℕ) (holds : HoldsAll x (executable_view c.args.part.now) rows starts) (below : (n : ℕ) → StandsInFile x n → n < c.args.count)
    (led : All (λ n. Reach starts (row rows) n) c.args.files.now) (fault : Fault).
    let part = executable_view c.args.part.now in
    subst (λ (y : ExecutableOf). Contains c.in_ok-faults.faults.items fault ↔ IsFaultBySpreads y fault)
    (holds.same c.args.files.now (λ n k. All-contains (λ m. Reach starts (row rows) m) c.args.files.now n led k))
    (found_in_marked part c.args.files.now c.args.count c.in_ok-marks.marks.items (λ n s. below n (holds.inside n s)) c.in_ok-marks.ensures.marked _ _
    (ap operations_view c.deref-3.ensures.value ∙ c.in_ok-operations.ensures ∙ ap (λ (ms : List Bool). filter (λ (o : OperationOf). slice_index_or ms o.file false) part.operations) c.deref.ensures.value)
    (ap fragments_view c.deref-4.ensures.value ∙ c.in_ok-fragments.ensures ∙ ap (λ (ms : List Bool). filter (λ (f : FragmentOf). slice_index_or ms f.file false) part.fragments) c.deref-2.ensures.value)
    c.in_ok-faults.faults.items c.in_ok-faults.ensures fault)
