use Rattle.std.proofs.Common.{◌≡◌, ◌<◌, ◌++◌, Some, length, List, ℕ, Vec, Global, ap, sym, subst, ◌∙◌}
use Rattle.std.specs.Prelude.{All}
use Rattle.std.proofs.lemmas.Result.{on_ok_weaker}
use Rattle.gq_graph.specs.Reach.{row}
use Rattle.gq_graph.proofs.Searching.{row_at as read_row}
use Rattle.gq_document.specs.Definitions.{operation_view}
use Rattle.gq_document.specs.Executable.{executable_view}
use Rattle.gq_variables.specs.Helping.Behind.{AreBehindStarts, AreBehind, FollowsItsLike}
use Rattle.gq_variables.specs.Helping.UsesPlaces.{operation_uses, unless}
use Rattle.gq_variables.specs.Helping.VariablePlaces.{operation_faults}
use Rattle.gq_variables.specs.Helping.Views.{uses_view, rows_view}
use Rattle.gq_variables.proofs.FaultLemmas.{one_more, operation_at}
use Rattle.gq_variables.proofs.faults.add_faults_at.Goals as goal

pub uses_behind-requires-clause-starts : goal.uses_behind-requires-clause-starts
uses_behind-requires-clause-starts c =
    let s = c.args.parts.now.shared in
    let rows : List (Vec ℕ Global) = c.args.parts.now.own.items in
    let inside : c.args.number < length rows = subst (λ n. c.args.number < n) (sym c.requires.spreads.own_operations) c.requires.operation in
    let starts : c.deref-2.result.now ≡ row rows c.args.number =
    c.deref-2.ensures.value ∙ ap (λ (v : Vec ℕ Global). v.items) c.index-starts.ensures ∙ sym (read_row rows c.args.number c.index-starts.result.now inside) in
    subst (λ (all : List (Vec ℕ Global)). All (λ k. k < length all) c.deref-2.result.now) (sym c.deref.ensures.value)
    (subst (λ (ns : List ℕ). All (λ k. k < length s.of_fragments.items) ns) (sym starts) (c.requires.spreads.own_starts c.args.number))

pub returns : goal.returns
returns c =
    let x = executable_view c.args.executable.now in
    let s = c.args.parts.now.shared in
    let rows : List (Vec ℕ Global) = c.args.parts.now.own.items in
    let number = c.args.number in
    let inside : number < length rows = subst (λ n. number < n) (sym c.requires.spreads.own_operations) c.requires.operation in
    let starts : c.deref-2.result.now ≡ row rows number =
    c.deref-2.ensures.value ∙ ap (λ (v : Vec ℕ Global). v.items) c.index-starts.ensures ∙ sym (read_row rows number c.index-starts.result.now inside) in
    let own = uses_view c.in_ok-own.own.items in
    let own_are =
    subst (λ (all : List (Vec ℕ Global)). AreBehindStarts (rows_view c.args.rows.now) all (row rows number) own) c.deref.ensures.value
    (subst (λ (ns : List ℕ). AreBehindStarts (rows_view c.args.rows.now) c.deref.result.now ns own) starts c.in_ok-own.ensures) in
    let behind = uses_view c.args.behind.now.uses.items in
    let o = operation_view c.index-operations-number.result in
    let at = operation_at c.args.executable.now.operations.now number c.index-operations-number.result c.requires.operation ∙ ap (λ e. Some (operation_view e)) (sym c.index-operations-number.is) in
    on_ok_weaker c.add_faults_of_operation.result
    (λ put fault. one_more x s rows c.requires.spreads number o at own behind
    (subst (λ us. AreBehindStarts us s.of_fragments.items (row rows number) own) c.requires.rows own_are)
    (subst (λ us. AreBehind us s number behind) c.requires.rows c.requires.behind) fault c.in_ok-known.known
    (λ known. subst (λ texts. FollowsItsLike x.operations s texts number) c.args.behind.now.are_named (c.in_ok-known.ensures known))
    c.args.faults.now.items c.add_faults_of_operation.new.faults.items (c.requires.faults fault)
    (put ∙ ap (λ us. c.args.faults.now.items ++ operation_faults x.entries o ((operation_uses x.entries o ++ uses_view us) ++ behind) ((operation_uses x.entries o ++ uses_view us) ++ unless c.in_ok-known.known behind)) c.deref-3.ensures.value))
    c.add_faults_of_operation.ensures
