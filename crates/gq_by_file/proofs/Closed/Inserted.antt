-- Where a file is put in, other files get other numbers: what is told of them does not change, and a closed set stays closed if no fragment of the new file is
-- spread in it.
use Rattle.std.proofs.Common.{◌≡◌, ◌⊎◌, ⊎_elim, inl, inr, ℕ, zero, suc, ◌<◌, ◌≤◌, Bool, true, false, List, [], ◌∷◌, Some, slice_get, Contains, length, map, refl, sym, ap, ◌∙◌, subst, arith}
use Rattle.std.specs.Prelude.{if◌then◌else◌, nat_le}
use Rattle.std.specs.List.{insert}
use Rattle.std.proofs.lemmas.Bool.Decides.{nat_tests}
use Rattle.gq_text.specs.declared.place.Span.{Span}
use Rattle.gq_tree.specs.Names.{spread_names}
use Rattle.gq_tree.specs.Plain.{NameOf, Def, Sels}
use Rattle.gq_tree.specs.Readings.{ParsedOf, in_document, in_documents}
use Rattle.gq_types.specs.Entries.{EntryOf}
use Rattle.gq_types.proofs.Gathered.{from_map, to_map}
use Rattle.gq_document.specs.Definitions.{OperationOf, FragmentOf, operation_in, fragment_in, operations_of, fragments_of}
use Rattle.gq_document.specs.Executable.{ExecutableOf}
use Rattle.gq_document.specs.Reaches.{IsSpreadIn}
use Rattle.gq_rules.specs.Files.{together}
use Rattle.gq_by_file.proofs.OneFile.Numbers.{operation_to, fragment_to, from_documents, to_documents, operation_moves, fragment_moves}
use Rattle.gq_by_file.specs.Closed.Closed.{within, IsClosed}
use Rattle.gq_by_file.specs.Closed.Laws.{spreads_read, number_after_insert, AreNotSpread, ClosedSetsMove, ClosedSetsMoveBack, NumbersOfSetsAreUnseen}
use Rattle.gq_by_file.proofs.Closed.Replaced.{operation_reads, fragment_reads}
use Rattle.gq_by_file.proofs.Closed.Within as sets
use Rattle.gq_by_file.proofs.Closed.Renumbered.{AreRenumbered}
use Rattle.gq_by_file.proofs.Closed.RenumberedRules.{spreading_renumbered}

-- the numbers
module _ (at : ℕ) where
  pub below : (n : ℕ) → n < at → number_after_insert at n ≡ n
  below n h = let e : nat_le at n ≡ false = grind (arith, h, nat_tests) in ap (λ (b : Bool). if b then suc n else n) e

  pub above : (n : ℕ) → at ≤ n → number_after_insert at n ≡ suc n
  above n h = let e : nat_le at n ≡ true = grind (arith, h, nat_tests) in ap (λ (b : Bool). if b then suc n else n) e

  by_place : (n : ℕ) → ((n < at) × (number_after_insert at n ≡ n)) ⊎ ((at ≤ n) × (number_after_insert at n ≡ suc n))
  by_place n = by (nat_le at n) refl
    where
      by : (b : Bool) → nat_le at n ≡ b → ((n < at) × (number_after_insert at n ≡ n)) ⊎ ((at ≤ n) × (number_after_insert at n ≡ suc n))
      by true e = let h : at ≤ n = grind (arith, e, nat_tests) in inr (h, above n h)
      by false e = let h : n < at = grind (arith, e, nat_tests) in inl (h, below n h)

  -- they ascend as they did
  ascend : (a b m n : ℕ) → number_after_insert at a ≡ m → number_after_insert at b ≡ n → a < b → m < n
  ascend a b m n d e h = ⊎_elim
      (λ i. ⊎_elim (λ j. omega (arith, d, e, h, i.1, j.1)) (λ j. omega (arith, d, e, h, i.1, j.1)) (by_place b))
      (λ i. ⊎_elim (λ j. omega (arith, d, e, h, i.0, i.1, j.0, j.1)) (λ j. omega (arith, d, e, h, i.1, j.1)) (by_place b))
      (by_place a)

  ascend_back : (a b m n : ℕ) → number_after_insert at m ≡ a → number_after_insert at n ≡ b → a < b → m < n
  ascend_back a b m n d e h = ⊎_elim
      (λ i. ⊎_elim (λ j. omega (arith, d, e, h, i.1, j.1)) (λ j. omega (arith, d, e, h, i.0, i.1, j.0, j.1)) (by_place n))
      (λ i. ⊎_elim (λ j. omega (arith, d, e, h, i.0, i.1, j.0, j.1)) (λ j. omega (arith, d, e, h, i.1, j.1)) (by_place n))
      (by_place m)

  one_back : (m n : ℕ) → number_after_insert at m ≡ number_after_insert at n → m ≡ n
  one_back m n e = ⊎_elim
      (λ i. ⊎_elim (λ j. omega (arith, e, i.1, j.1)) (λ j. omega (arith, e, i.0, i.1, j.0, j.1)) (by_place n))
      (λ i. ⊎_elim (λ j. omega (arith, e, i.0, i.1, j.0, j.1)) (λ j. omega (arith, e, i.1, j.1)) (by_place n))
      (by_place m)

  none_there : (n : ℕ) → number_after_insert at n ≡ at → ⊥
  none_there n e = ⊎_elim (λ i. omega (arith, e, i.0, i.1)) (λ i. omega (arith, e, i.0, i.1)) (by_place n)

-- where one is put into a list, each of before has its new number
get_before : {A : Type 0} (rs : List A) (at : ℕ) (r : A) (k : ℕ) (q : A) → k < at → slice_get rs k ≡ Some q → slice_get (insert rs at r) k ≡ Some q
get_before [] at r k q h e = absurd (cc)
get_before (x ∷ rs) zero r k q h e = absurd (omega (arith, h))
get_before (x ∷ rs) (suc at) r zero q h e = e
get_before (x ∷ rs) (suc at) r (suc k) q h e = get_before rs at r k q (omega (arith, h)) e

get_behind : {A : Type 0} (rs : List A) (at : ℕ) (r : A) (k : ℕ) (q : A) → at ≤ k → slice_get rs k ≡ Some q → slice_get (insert rs at r) (suc k) ≡ Some q
get_behind [] at r k q h e = absurd (cc)
get_behind (x ∷ rs) zero r k q h e = e
get_behind (x ∷ rs) (suc at) r zero q h e = absurd (omega (arith, h))
get_behind (x ∷ rs) (suc at) r (suc k) q h e = get_behind rs at r k q (omega (arith, h)) e

get_after : {A : Type 0} (rs : List A) (at : ℕ) (r : A) (k : ℕ) (q : A) → slice_get rs k ≡ Some q → slice_get (insert rs at r) (number_after_insert at k) ≡ Some q
get_after rs at r k q e = ⊎_elim
    (λ i. subst (λ n. slice_get (insert rs at r) n ≡ Some q) (sym i.1) (get_before rs at r k q i.0 e))
    (λ i. subst (λ n. slice_get (insert rs at r) n ≡ Some q) (sym i.1) (get_behind rs at r k q i.0 e))
    (by_place at k)

-- and each stands there so, or is the new one
data StandsThere {A : Type 0} (rs : List A) (at : ℕ) (r : A) (k : ℕ) (q : A) : Type 0 where
  old : (j : ℕ) → number_after_insert at j ≡ k → slice_get rs j ≡ Some q → StandsThere rs at r k q
  new : k ≡ at → r ≡ q → StandsThere rs at r k q

further : {A : Type 0} (x : A) (rs : List A) (at : ℕ) (r : A) (k : ℕ) (q : A) → StandsThere rs at r k q → StandsThere (x ∷ rs) (suc at) r (suc k) q
further x rs at r k q (old j n e) = old (suc j)
    (⊎_elim (λ i. below (suc at) (suc j) (omega (arith, i.0)) ∙ ap suc (sym i.1 ∙ n)) (λ i. above (suc at) (suc j) (omega (arith, i.0)) ∙ ap suc (sym i.1 ∙ n)) (by_place at j))
    e
further x rs at r k q (new n e) = new (ap suc n) e

get_insert : {A : Type 0} (rs : List A) (at : ℕ) (r : A) (k : ℕ) (q : A) → at ≤ length rs → slice_get (insert rs at r) k ≡ Some q → StandsThere rs at r k q
get_insert [] zero r zero q h e = new refl cc
get_insert [] zero r (suc k) q h e = absurd (cc)
get_insert [] (suc at) r k q h e = absurd (omega (arith, h))
get_insert (x ∷ rs) zero r zero q h e = new refl cc
get_insert (x ∷ rs) zero r (suc k) q h e = old k (above 0 k (omega arith)) e
get_insert (x ∷ rs) (suc at) r zero q h e = old 0 (below (suc at) 0 (omega arith)) e
get_insert (x ∷ rs) (suc at) r (suc k) q h e = further x rs at r k q (get_insert rs at r k q (omega (arith, h)) e)

-- what stands in documents, each thing with the number of its document
module _ {A : Type 0} (what : ℕ → Def Span → List A) (number : A → ℕ) (to : ℕ → A → A)
    (moves : (n : ℕ) (r : ParsedOf) (a : A) → Contains (in_document what n r) a → (number a ≡ n) × ((m : ℕ) → Contains (in_document what m r) (to m a)))
    (rs : List ParsedOf) (at : ℕ) (r : ParsedOf) where
  stands_then : (a : A) → Contains (in_documents what rs) a → Contains (in_documents what (insert rs at r)) (to (number_after_insert at (number a)) a)
  stands_then a c =
      let d = from_documents what rs a c in
      let m = moves d.file d.reading a d.stands in
      let n : ℕ = number_after_insert at d.file in
      subst (λ k. Contains (in_documents what (insert rs at r)) (to (number_after_insert at k) a)) (sym m.0)
      (to_documents what (insert rs at r) n d.reading (to n a) (get_after rs at r d.file d.reading d.there) (m.1 n))

  -- the document that it stood in, or the new one
  data Stood (a : A) : Type 0 where
    before : (k : ℕ) (q : ParsedOf) → number_after_insert at k ≡ number a → slice_get rs k ≡ Some q → Contains (in_document what k q) (to k a) → Stood a
    itself : number a ≡ at → ((m : ℕ) → Contains (in_document what m r) (to m a)) → Stood a

  stood : at ≤ length rs → (a : A) → Contains (in_documents what (insert rs at r)) a → Stood a
  stood inside a c =
      let d = from_documents what (insert rs at r) a c in
      by d.file d.reading (moves d.file d.reading a d.stands) (get_insert rs at r d.file d.reading inside d.there)
    where
      by : (n : ℕ) (q : ParsedOf) → (number a ≡ n) × ((m : ℕ) → Contains (in_document what m q) (to m a)) → StandsThere rs at r n q → Stood a
      by n q m (old k e g) = before k q (e ∙ sym m.0) g (m.1 k)
      by n q m (new k e) = itself (m.0 ∙ k) (subst (λ (p : ParsedOf). (k : ℕ) → Contains (in_document what k p) (to k a)) (sym e) m.1)

module _ (es : List EntryOf) (rs : List ParsedOf) (at : ℕ) (r : ParsedOf) (files : List ℕ) (inside : at ≤ length rs) where
  abbrev was : ExecutableOf
  was = together es rs

  abbrev is : ExecutableOf
  is = together es (insert rs at r)

  abbrev files_then : List ℕ
  files_then = map (number_after_insert at) files

  -- a file of the set
  in_set : (k n : ℕ) → number_after_insert at k ≡ n → Contains files_then n → Contains files k
  in_set k n e c =
      let t = from_map (number_after_insert at) files n c in
      subst (λ m. Contains files m) (one_back at t.0 k (t.2 ∙ sym e)) t.1

  to_set : (k n : ℕ) → number_after_insert at k ≡ n → Contains files k → Contains files_then n
  to_set k n e c = subst (λ m. Contains files_then m) e (to_map (number_after_insert at) files k c)

  not_new : Contains files_then at → ⊥
  not_new c = let t = from_map (number_after_insert at) files at c in none_there at t.0 t.2

  operation_then : (o : OperationOf) → Contains (operations_of rs) o → Contains (operations_of (insert rs at r)) (operation_to (number_after_insert at o.file) o)
  operation_then o c = stands_then operation_in (λ (z : OperationOf). z.file) operation_to operation_moves rs at r o c

  fragment_then : (g : FragmentOf) → Contains (fragments_of rs) g → Contains (fragments_of (insert rs at r)) (fragment_to (number_after_insert at g.file) g)
  fragment_then g c = stands_then fragment_in (λ (z : FragmentOf). z.file) fragment_to fragment_moves rs at r g c

  abbrev OperationStood : OperationOf → Type 0
  OperationStood o = Stood operation_in (λ (z : OperationOf). z.file) operation_to operation_moves rs at r o

  abbrev FragmentStood : FragmentOf → Type 0
  FragmentStood g = Stood fragment_in (λ (z : FragmentOf). z.file) fragment_to fragment_moves rs at r g

  operation_stood : (o : OperationOf) → Contains (operations_of (insert rs at r)) o → OperationStood o
  operation_stood o c = stood operation_in (λ (z : OperationOf). z.file) operation_to operation_moves rs at r inside o c

  fragment_stood : (g : FragmentOf) → Contains (fragments_of (insert rs at r)) g → FragmentStood g
  fragment_stood g c = stood fragment_in (λ (z : FragmentOf). z.file) fragment_to fragment_moves rs at r inside g c

  -- the operations and fragments of the set, before and then
  operation_goes : (o : OperationOf) → Contains (within files was).operations o → (n : ℕ) × (number_after_insert at o.file ≡ n) × Contains (within files_then is).operations (operation_to n o)
  operation_goes o c =
      let n : ℕ = number_after_insert at o.file in
      let t = sets.operation_from files was o c in
      (n, refl, sets.operation_to files_then is (operation_to n o) (operation_then o t.0) (to_set o.file n refl t.1))

  fragment_goes : (g : FragmentOf) → Contains (within files was).fragments g → (n : ℕ) × (number_after_insert at g.file ≡ n) × Contains (within files_then is).fragments (fragment_to n g)
  fragment_goes g c =
      let n : ℕ = number_after_insert at g.file in
      let t = sets.fragment_from files was g c in
      (n, refl, sets.fragment_to files_then is (fragment_to n g) (fragment_then g t.0) (to_set g.file n refl t.1))

  operation_comes : (o : OperationOf) → Contains (within files_then is).operations o → (n : ℕ) × (number_after_insert at n ≡ o.file) × Contains (within files was).operations (operation_to n o)
  operation_comes o c =
      let t = sets.operation_from files_then is o c in
      by t.1 (operation_stood o t.0)
    where
      by : Contains files_then o.file → OperationStood o → (n : ℕ) × (number_after_insert at n ≡ o.file) × Contains (within files was).operations (operation_to n o)
      by i (before k q e g s) = (k, e, sets.operation_to files was (operation_to k o) (to_documents operation_in rs k q (operation_to k o) g s) (in_set k o.file e i))
      by i (itself e m) = absurd (not_new (subst (λ n. Contains files_then n) e i))

  fragment_comes : (g : FragmentOf) → Contains (within files_then is).fragments g → (n : ℕ) × (number_after_insert at n ≡ g.file) × Contains (within files was).fragments (fragment_to n g)
  fragment_comes g c =
      let t = sets.fragment_from files_then is g c in
      by t.1 (fragment_stood g t.0)
    where
      by : Contains files_then g.file → FragmentStood g → (n : ℕ) × (number_after_insert at n ≡ g.file) × Contains (within files was).fragments (fragment_to n g)
      by i (before k q e d s) = (k, e, sets.fragment_to files was (fragment_to k g) (to_documents fragment_in rs k q (fragment_to k g) d s) (in_set k g.file e i))
      by i (itself e m) = absurd (not_new (subst (λ n. Contains files_then n) e i))

  set_goes : AreRenumbered (λ a m. number_after_insert at a ≡ m) (within files was).operations (within files_then is).operations (within files was).fragments (within files_then is).fragments
  set_goes = record {
    operation = operation_goes;
    fragment = fragment_goes;
    fragment_back = fragment_comes;
    ascends = ascend at;
    is_one = λ a m n d e. sym d ∙ e;
  }

  set_comes : AreRenumbered (λ a m. number_after_insert at m ≡ a) (within files_then is).operations (within files was).operations (within files_then is).fragments (within files was).fragments
  set_comes = record {
    operation = operation_comes;
    fragment = fragment_comes;
    fragment_back = fragment_goes;
    ascends = ascend_back at;
    is_one = λ a m n d e. one_back at m n (d ∙ sym e);
  }

  -- a fragment that is spread in the set stands in it: it is none of the new file
  leads_inside : AreNotSpread rs files r → (k : ℕ) (q : ParsedOf) → Contains files k → slice_get rs k ≡ Some q →
      (set : Sels Span) → ((name : NameOf Span) → Contains (spread_names set) name → Contains (spreads_read q) name) →
      ((g : FragmentOf) → Contains (fragments_of rs) g → IsSpreadIn set g → Contains files g.file) →
      (g : FragmentOf) → Contains (fragments_of (insert rs at r)) g → IsSpreadIn set g → Contains files_then g.file
  leads_inside apart k q i there set reads leads g c s = by (fragment_stood g c)
    where
      by : FragmentStood g → Contains files_then g.file
      by (before j p e d t) = to_set j g.file e (leads (fragment_to j g) (to_documents fragment_in rs j p (fragment_to j g) d t) (record { name = s.name; stands = s.stands; names = s.names }))
      by (itself e m) = absurd (apart k q i there s.name (reads s.name s.stands) (fragment_to 0 g) (m 0) s.names)

  moves : AreNotSpread rs files r → IsClosed files was → IsClosed files_then is
  moves apart closed = record {
    of_operations = λ o c i. by_operation o i (operation_stood o c);
    of_fragments = λ g c i. by_fragment g i (fragment_stood g c);
  }
    where
      by_operation : (o : OperationOf) → Contains files_then o.file → OperationStood o → (f : FragmentOf) → Contains (fragments_of (insert rs at r)) f → IsSpreadIn o.set f → Contains files_then f.file
      by_operation o i (before k q e d t) =
          let inside_set : Contains files k = in_set k o.file e i in
          leads_inside apart k q inside_set d o.set (λ name s. operation_reads k q (operation_to k o) name t s)
          (λ g c s. closed.of_operations (operation_to k o) (to_documents operation_in rs k q (operation_to k o) d t) inside_set g c s)
      by_operation o i (itself e m) = absurd (not_new (subst (λ n. Contains files_then n) e i))

      by_fragment : (g : FragmentOf) → Contains files_then g.file → FragmentStood g → (f : FragmentOf) → Contains (fragments_of (insert rs at r)) f → IsSpreadIn g.set f → Contains files_then f.file
      by_fragment g i (before k q e d t) =
          let inside_set : Contains files k = in_set k g.file e i in
          leads_inside apart k q inside_set d g.set (λ name s. fragment_reads k q (fragment_to k g) name t s)
          (λ f c s. closed.of_fragments (fragment_to k g) (to_documents fragment_in rs k q (fragment_to k g) d t) inside_set f c s)
      by_fragment g i (itself e m) = absurd (not_new (subst (λ n. Contains files_then n) e i))

  moves_back : IsClosed files_then is → IsClosed files was
  moves_back closed = record {
    of_operations = λ o c i f d s.
        let n : ℕ = number_after_insert at f.file in
        let k : ℕ = number_after_insert at o.file in
        let spread : IsSpreadIn o.set (fragment_to n f) = record { name = s.name; stands = s.stands; names = s.names } in
        in_set f.file n refl (closed.of_operations (operation_to k o) (operation_then o c) (to_set o.file k refl i) (fragment_to n f) (fragment_then f d) spread);
    of_fragments = λ g c i f d s.
        let n : ℕ = number_after_insert at f.file in
        let k : ℕ = number_after_insert at g.file in
        let spread : IsSpreadIn g.set (fragment_to n f) = record { name = s.name; stands = s.stands; names = s.names } in
        in_set f.file n refl (closed.of_fragments (fragment_to k g) (fragment_then g c) (to_set g.file k refl i) (fragment_to n f) (fragment_then f d) spread);
  }

pub sets_move : ClosedSetsMove
sets_move es rs at r files inside apart closed = moves es rs at r files inside apart closed

pub sets_move_back : ClosedSetsMoveBack
sets_move_back es rs at r files inside closed = moves_back es rs at r files inside closed

pub numbers_unseen : NumbersOfSetsAreUnseen
numbers_unseen es rs at r files inside = (
  (λ none f h. let t = spreading_renumbered es _ _ _ _ _ (set_comes es rs at r files inside) f h in none t.0 t.2),
  (λ none f h. let t = spreading_renumbered es _ _ _ _ _ (set_goes es rs at r files inside) f h in none t.0 t.2),
)
