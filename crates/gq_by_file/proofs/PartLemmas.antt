-- What is told of some of the files by themselves.
use Rattle.std.proofs.Common.{◌≡◌, ◌↔◌, ◌<◌, ℕ, Bool, true, false, List, [], ◌∷◌, Contains, filter, if◌then◌else◌, refl, sym, ap, ◌∙◌, subst}
use Rattle.std.specs.Prelude.{slice_index_or}
use Rattle.std.specs.Bool.{beq}
use Rattle.gq_fault.specs.declared.fault.Fault.{Fault}
use Rattle.gq_types.proofs.Gathered.{first, later, from_filter, to_filter}
use Rattle.gq_document.specs.Definitions.{OperationOf, FragmentOf}
use Rattle.gq_document.specs.Executable.{ExecutableOf}
use Rattle.gq_rules.specs.Files.{IsFaultAcross}
use Rattle.gq_by_file.specs.Closed.Closed.{is_among, within, StandsInFile, of_operation, of_fragment}
use Rattle.gq_by_file.specs.Closed.RestsOnNames.{rests_on_names, IsFaultBySpreads}

from_beq : (a b : Bool) → beq a b ≡ true → a ≡ b
from_beq true true e = refl
from_beq false false e = refl
from_beq true false e = sym e
from_beq false true e = e

to_beq : (a b : Bool) → a ≡ b → beq a b ≡ true
to_beq true true e = refl
to_beq false false e = refl
to_beq true false e = sym e
to_beq false true e = e

-- those of the faults that some rules tell that rest on names, or that do not
pub rest : (Is : Fault → Type 0) (all some : List Fault) (on_names : Bool) → ((f : Fault) → Contains all f ↔ Is f) →
    some ≡ filter (λ (z : Fault). beq (rests_on_names z.code) on_names) all → (f : Fault) → Contains some f ↔ ((rests_on_names f.code ≡ on_names) × Is f)
rest Is all some on_names exact is f = (
  λ c. let t = from_filter (λ (z : Fault). beq (rests_on_names z.code) on_names) all f (subst (λ fs. Contains fs f) is c) in (from_beq (rests_on_names f.code) on_names t.1, (exact f).0 t.0),
  λ h. subst (λ fs. Contains fs f) (sym is) (to_filter (λ (z : Fault). beq (rests_on_names z.code) on_names) all f ((exact f).1 h.1) (to_beq (rests_on_names f.code) on_names h.0)),
)

-- of those that do not rest on one file
pub by_spreads : (x : ExecutableOf) (all some : List Fault) → ((f : Fault) → Contains all f ↔ IsFaultAcross x f) →
    some ≡ filter (λ (z : Fault). beq (rests_on_names z.code) false) all → (f : Fault) → Contains some f ↔ IsFaultBySpreads x f
by_spreads x all some exact is f =
    let r = rest (IsFaultAcross x) all some false exact is f in
    (λ c. let p = r.0 c in (p.1.0, p.0, p.1.1), λ h. r.1 (h.1, (h.0, h.2)))

-- tests that agree on each member keep the same ones
filter_same : {X : Type 0} (p q : X → Bool) (xs : List X) → ((x : X) → Contains xs x → p x ≡ q x) → filter p xs ≡ filter q xs
filter_same p q [] same = refl
filter_same p q (x ∷ xs) same =
    ap (λ (b : Bool). if b then x ∷ filter p xs else filter p xs) (same x (first x x xs refl))
    ∙ ap (λ ys. if q x then x ∷ ys else ys) (filter_same p q xs (λ y c. same y (later x y xs c)))

-- what stands in marked files, where those of the list are marked
pub marked_within : (x : ExecutableOf) (files : List ℕ) (count : ℕ) (marks : List Bool) → ((n : ℕ) → StandsInFile x n → n < count) →
    ((n : ℕ) → n < count → slice_index_or marks n false ≡ is_among files n) → (os : List OperationOf) (fs : List FragmentOf) →
    os ≡ filter (λ (o : OperationOf). slice_index_or marks o.file false) x.operations → fs ≡ filter (λ (f : FragmentOf). slice_index_or marks f.file false) x.fragments →
    record { entries = x.entries; operations = os; fragments = fs } ≡ within files x
marked_within x files count marks below marked os fs are_operations are_fragments =
    let os_are : os ≡ (within files x).operations =
    are_operations
    ∙ filter_same (λ (o : OperationOf). slice_index_or marks o.file false) (λ (o : OperationOf). is_among files o.file) x.operations (λ o c. marked o.file (below o.file (of_operation c refl))) in
    let fs_are : fs ≡ (within files x).fragments =
    are_fragments
    ∙ filter_same (λ (f : FragmentOf). slice_index_or marks f.file false) (λ (f : FragmentOf). is_among files f.file) x.fragments (λ f c. marked f.file (below f.file (of_fragment c refl))) in
    ap (λ (ys : List OperationOf). record { entries = x.entries; operations = ys; fragments = fs }) os_are
    ∙ ap (λ (ys : List FragmentOf). record { entries = x.entries; operations = (within files x).operations; fragments = ys }) fs_are

pub found_in_marked : (x : ExecutableOf) (files : List ℕ) (count : ℕ) (marks : List Bool) → ((n : ℕ) → StandsInFile x n → n < count) →
    ((n : ℕ) → n < count → slice_index_or marks n false ≡ is_among files n) → (os : List OperationOf) (fs : List FragmentOf) →
    os ≡ filter (λ (o : OperationOf). slice_index_or marks o.file false) x.operations → fs ≡ filter (λ (f : FragmentOf). slice_index_or marks f.file false) x.fragments →
    (faults : List Fault) → ((f : Fault) → Contains faults f ↔ IsFaultBySpreads (record { entries = x.entries; operations = os; fragments = fs }) f) →
    (f : Fault) → Contains faults f ↔ IsFaultBySpreads (within files x) f
found_in_marked x files count marks below marked os fs are_operations are_fragments faults exact f =
    subst (λ (y : ExecutableOf). Contains faults f ↔ IsFaultBySpreads y f) (marked_within x files count marks below marked os fs are_operations are_fragments) (exact f)
