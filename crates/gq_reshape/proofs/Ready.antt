-- In a valid project each document in which something may change is a tree of operations and fragments.
use Rattle.std.proofs.Common.{◌≡◌, ℕ, zero, suc, List, [], ◌∷◌, Some, slice_get, subst}
use Rattle.std.specs.List.{AllByRecursion}
use Rattle.gq_text.specs.declared.place.Span.{Span}
use Rattle.gq_tree.specs.Plain.{Def, operation, fragment, type_system}
use Rattle.gq_tree.specs.Readings.{ParsedOf, definitions_read}
use Rattle.gq_types.specs.Entries.{EntryOf}
use Rattle.gq_document.specs.Sets.{SetOf, sets_of}
use Rattle.gq_meaning.specs.Thin.{IsIn}
use Rattle.gq_rewritten.specs.Executables.{IsExecutable}
use Rattle.gq_rename.specs.Asks.{trees_of}
use Rattle.gq_select.specs.Meant.{StandingOf, document_sets, standing_in, meant}
use Rattle.gq_select.specs.Runs.{RunOf, find_run}
use Rattle.gq_tree.specs.Plain.{Head}
use Rattle.gq_reshape.specs.Asks.{tree_at}
use Rattle.gq_reshape.specs.Helping.Making.{SomeExecutable}
use Rattle.gq_reshape.proofs.RunStands.{run_found}
use Rattle.gq_reshape.proofs.Standing.{in_flat, meant_stands}

pub at_each : {X : Type 0} (P : X → Type 0) (xs : List X) → AllByRecursion P xs → (i : ℕ) (x : X) → slice_get xs i ≡ Some x → P x
at_each P [] all i x e = absurd (cc)
at_each P (y ∷ xs) all zero x e = let same : y ≡ x = cc in subst P same all.0
at_each P (y ∷ xs) all (suc i) x e = at_each P xs all.1 i x e

-- ---- where a set stands, an operation or a fragment does

has_set : (es : List EntryOf) (set : SetOf) (d : Def Span) → IsIn set (sets_of es d) → IsExecutable d
has_set es set (operation kind name variables directives sels braces place) m = tt
has_set es set (fragment name on directives sels braces place) m = tt
has_set es set (type_system definition) m = absurd m

pub set_executable : (es : List EntryOf) (tree : List (Def Span)) (set : SetOf) → IsIn set (document_sets es tree) → SomeExecutable tree
set_executable es tree set m = let d = in_flat (sets_of es) tree set m in record { definition = d.0; stands = d.1; is = has_set es set d.0 d.2 }

pub run_executable : (es : List EntryOf) (tree : List (Def Span)) (place : Span) (r : RunOf) → find_run place.start place.end (document_sets es tree) ≡ Some r → SomeExecutable tree
run_executable es tree place r e = let i = run_found place.start place.end (document_sets es tree) r e in set_executable es tree i.set i.stands

pub meant_executable : (es : List EntryOf) (tree : List (Def Span)) (kind : Head Span → Rattle.std.proofs.Common.Bool) (range : Span) (s : StandingOf) → meant kind range (document_sets es tree) ≡ Some s → SomeExecutable tree
meant_executable es tree kind range s e =
    let i = in_flat (λ (s : SetOf). standing_in s.parent s.selections) (document_sets es tree) s (meant_stands kind range (document_sets es tree) s e) in
    set_executable es tree i.0 i.1

-- the tree at a number
pub tree_is : (rs : List ParsedOf) (file : ℕ) (tree : List (Def Span)) → slice_get (trees_of rs) file ≡ Some tree → tree_at rs file ≡ tree
tree_is [] file tree e = absurd (cc)
tree_is (x ∷ rs) zero tree e = let same : definitions_read x ≡ tree = cc in same
tree_is (x ∷ rs) (suc file) tree e = tree_is rs file tree e
