-- Parts of operations and fragments that have all of what starts lead to.
use Rattle.std.proofs.Common.{◌≡◌, ℕ, ◌<◌, Bool, true, false, List, [], ◌∷◌, All, Contains, filter, if◌then◌else◌, refl, sym, ap, ◌∙◌, subst}
use Rattle.std.specs.Prelude.{slice_index_or}
use Rattle.std.specs.declared.vec.Vec.{Vec}
use Rattle.std.specs.declared.alloc.Global.{Global}
use Rattle.std.proofs.lemmas.List.Elements.{All-contains}
use Rattle.gq_graph.specs.Reach.{Reach, row}
use Rattle.gq_types.proofs.Gathered.{first, later, from_filter}
use Rattle.gq_document.specs.Definitions.{OperationOf, FragmentOf}
use Rattle.gq_document.specs.Executable.{ExecutableOf}
use Rattle.gq_by_file.specs.Closed.Closed.{is_among, within, StandsInFile, of_operation, of_fragment}
use Rattle.gq_by_file.specs.Helping.Covers.{HoldsAll}
use Rattle.gq_by_file.proofs.Closed.Within.{from_among, to_among}
use Rattle.gq_by_file.proofs.LinkLemmas.{reach_more}

-- all of them are such a part
pub holds_itself : (x : ExecutableOf) (rows : List (Vec ℕ Global)) (starts : List ℕ) → HoldsAll x x rows starts
holds_itself x rows starts = record { same = λ files led. refl; inside = λ n s. s }

-- fewer starts lead to less
pub holds_fewer : (x part : ExecutableOf) (rows : List (Vec ℕ Global)) (few many : List ℕ) → ((n : ℕ) → Contains few n → Contains many n) → HoldsAll x part rows many → HoldsAll x part rows few
holds_fewer x part rows few many more holds = record {
  same = λ files led. holds.same files (λ n c. reach_more rows few many more n (led n c));
  inside = holds.inside;
}

-- what passes one test and so another is not lost by this one
implied : {X : Type 0} (p q : X → Bool) (xs : List X) → ((x : X) → Contains xs x → p x ≡ true → q x ≡ true) → filter p (filter q xs) ≡ filter p xs
implied p q [] so = refl
implied {X} p q (x ∷ xs) so = step (implied p q xs (λ y c. so y (later x y xs c))) (p x) (q x) refl refl
  where
    step : filter p (filter q xs) ≡ filter p xs → (a b : Bool) → p x ≡ a → q x ≡ b → filter p (if b then x ∷ filter q xs else filter q xs) ≡ (if a then x ∷ filter p xs else filter p xs)
    step rest true true e d = ap (λ (c : Bool). if c then x ∷ filter p (filter q xs) else filter p (filter q xs)) e ∙ ap (λ (ys : List X). x ∷ ys) rest
    step rest true false e d = let t : q x ≡ true = so x (first x x xs refl) e in absurd (cc)
    step rest false true e d = ap (λ (c : Bool). if c then x ∷ filter p (filter q xs) else filter p (filter q xs)) e ∙ rest
    step rest false false e d = rest

-- Of such a part the files are marked to which starts lead, and what stands in them is such a part for these starts.
module _ (x part : ExecutableOf) (rows : List (Vec ℕ Global)) (starts found : List ℕ) (count : ℕ) (marks : List Bool) (holds : HoldsAll x part rows starts)
    (complete : (n : ℕ) → Reach starts (row rows) n → Contains found n) (below : All (λ n. n < count) found)
    (marked : (n : ℕ) → n < count → slice_index_or marks n false ≡ is_among found n) (os : List OperationOf) (fs : List FragmentOf)
    (are_operations : os ≡ filter (λ (o : OperationOf). slice_index_or marks o.file false) part.operations)
    (are_fragments : fs ≡ filter (λ (f : FragmentOf). slice_index_or marks f.file false) part.fragments) where
  abbrev narrow : ExecutableOf
  narrow = record { entries = part.entries; operations = os; fragments = fs }

  mark_there : (n : ℕ) → Reach starts (row rows) n → slice_index_or marks n false ≡ true
  mark_there n led = let c = complete n led in marked n (All-contains (λ k. k < count) found n below c) ∙ to_among found n c

  module _ (files : List ℕ) (led : (n : ℕ) → Contains files n → Reach starts (row rows) n) where
    their_operations : (within files narrow).operations ≡ (within files part).operations
    their_operations =
        ap (λ (ys : List OperationOf). filter (λ (o : OperationOf). is_among files o.file) ys) are_operations
        ∙ implied (λ (o : OperationOf). is_among files o.file) (λ (o : OperationOf). slice_index_or marks o.file false) part.operations (λ o c e. mark_there o.file (led o.file (from_among files o.file e)))

    their_fragments : (within files narrow).fragments ≡ (within files part).fragments
    their_fragments =
        ap (λ (ys : List FragmentOf). filter (λ (f : FragmentOf). is_among files f.file) ys) are_fragments
        ∙ implied (λ (f : FragmentOf). is_among files f.file) (λ (f : FragmentOf). slice_index_or marks f.file false) part.fragments (λ f c e. mark_there f.file (led f.file (from_among files f.file e)))

    same_within : within files narrow ≡ within files part
    same_within =
        ap (λ (ys : List OperationOf). record { entries = part.entries; operations = ys; fragments = (within files narrow).fragments }) their_operations
        ∙ ap (λ (ys : List FragmentOf). record { entries = part.entries; operations = (within files part).operations; fragments = ys }) their_fragments

  inside_part : (n : ℕ) → StandsInFile narrow n → StandsInFile part n
  inside_part n (of_operation {o = o} c e) =
      of_operation (from_filter (λ (z : OperationOf). slice_index_or marks z.file false) part.operations o (subst (λ (ys : List OperationOf). Contains ys o) are_operations c)).0 e
  inside_part n (of_fragment {f = f} c e) =
      of_fragment (from_filter (λ (z : FragmentOf). slice_index_or marks z.file false) part.fragments f (subst (λ (ys : List FragmentOf). Contains ys f) are_fragments c)).0 e

  pub narrowed : HoldsAll x (record { entries = part.entries; operations = os; fragments = fs }) rows starts
  narrowed = record {
    same = λ files led. same_within files led ∙ holds.same files led;
    inside = λ n s. holds.inside n (inside_part n s);
  }
