-- What stands in some of the files, and what spreads reach there.
use Rattle.std.proofs.Common.{◌≡◌, ⊎_elim, ℕ, true, List, [], ◌∷◌, Contains, sym, arith}
use Rattle.std.proofs.lemmas.Bool.Decides.{nat_tests}
use Rattle.std.specs.Prelude.{nat_eq}
use Rattle.gq_text.specs.declared.place.Span.{Span}
use Rattle.gq_tree.specs.Plain.{Sels}
use Rattle.gq_types.proofs.Gathered.{nothing_in, first, later, cases_cons, or_cases, or_left, or_right, from_filter, to_filter}
use Rattle.gq_document.specs.Definitions.{OperationOf, FragmentOf}
use Rattle.gq_document.specs.Executable.{ExecutableOf}
use Rattle.gq_document.specs.Reaches.{IsSpreadIn, Reaches, at_once, through}
use Rattle.gq_by_file.specs.Closed.Closed.{is_among, within, IsClosed}

same_number : (a b : ℕ) → nat_eq a b ≡ true → a ≡ b
same_number a b e = grind (arith, e, nat_tests)

is_same : (a b : ℕ) → a ≡ b → nat_eq a b ≡ true
is_same a b e = grind (arith, e, nat_tests)

pub from_among : (files : List ℕ) (n : ℕ) → is_among files n ≡ true → Contains files n
from_among [] n e = absurd (cc)
from_among (k ∷ files) n e = ⊎_elim (λ h. first k n files (sym (same_number n k h))) (λ h. later k n files (from_among files n h)) (or_cases (nat_eq n k) (is_among files n) e)

pub to_among : (files : List ℕ) (n : ℕ) → Contains files n → is_among files n ≡ true
to_among [] n c = nothing_in n c
to_among (k ∷ files) n c = ⊎_elim (λ e. or_left (nat_eq n k) (is_among files n) (is_same n k (sym e))) (λ d. or_right (nat_eq n k) (is_among files n) (to_among files n d)) (cases_cons k n files c)

module _ (files : List ℕ) (x : ExecutableOf) where
  pub operation_from : (o : OperationOf) → Contains (within files x).operations o → Contains x.operations o × Contains files o.file
  operation_from o c = let t = from_filter (λ (z : OperationOf). is_among files z.file) x.operations o c in (t.0, from_among files o.file t.1)

  pub operation_to : (o : OperationOf) → Contains x.operations o → Contains files o.file → Contains (within files x).operations o
  operation_to o c h = to_filter (λ (z : OperationOf). is_among files z.file) x.operations o c (to_among files o.file h)

  pub fragment_from : (f : FragmentOf) → Contains (within files x).fragments f → Contains x.fragments f × Contains files f.file
  fragment_from f c = let t = from_filter (λ (z : FragmentOf). is_among files z.file) x.fragments f c in (t.0, from_among files f.file t.1)

  pub fragment_to : (f : FragmentOf) → Contains x.fragments f → Contains files f.file → Contains (within files x).fragments f
  fragment_to f c h = to_filter (λ (z : FragmentOf). is_among files z.file) x.fragments f c (to_among files f.file h)

  -- each fragment that is spread in the selection set stands in the files
  abbrev pub IsInside : Sels Span → Type 0
  IsInside set = (f : FragmentOf) → Contains x.fragments f → IsSpreadIn set f → Contains files f.file

  -- what is reached there is reached
  pub reached_from : {set : Sels Span} {f : FragmentOf} → Reaches (within files x).fragments set f → Reaches x.fragments set f
  reached_from (at_once {f} c h) = at_once ((fragment_from f c).0) h
  reached_from (through {f} r c h) = through (reached_from r) ((fragment_from f c).0) h

  module _ (closed : IsClosed files x) where
    pub operation_inside : (o : OperationOf) → Contains (within files x).operations o → IsInside o.set
    operation_inside o c = let t = operation_from o c in closed.of_operations o t.0 t.1

    pub fragment_inside : (g : FragmentOf) → Contains (within files x).fragments g → IsInside g.set
    fragment_inside g c = let t = fragment_from g c in closed.of_fragments g t.0 t.1

    -- what is reached from inside stands inside, and is reached there
    pub reached_to : {set : Sels Span} {f : FragmentOf} → IsInside set → Reaches x.fragments set f → Reaches (within files x).fragments set f × Contains (within files x).fragments f
    reached_to inside (at_once {f} c h) = let d = fragment_to f c (inside f c h) in (at_once d h, d)
    reached_to inside (through {f} {g} r c h) =
        let t = reached_to inside r in
        let d = fragment_to f c (fragment_inside g t.1 f c h) in
        (through t.0 d h, d)
