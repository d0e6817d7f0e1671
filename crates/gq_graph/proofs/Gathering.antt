-- A set that keeps the order in which its numbers came.
use Rattle.std.proofs.Common.{ℕ, suc, ◌+◌, ◌<◌, ◌≡◌, List, [], ◌∷◌, ◌++◌, Bool, true, false, length, sym, ◌∙◌, ap, subst, refl, arith, inl, inr, get_or, set, nat_eq, replicate, append-nil}
use Rattle.std.specs.Prelude.{Contains, All}
use Rattle.std.specs.List.{list_any}
use Rattle.std.proofs.lemmas.Bool.{eqb-true, false≢true}
use Rattle.std.proofs.lemmas.List.{append_assoc, length-append, length-set, length-replicate, get_or_append_left, get_or_push, get_or_default}
use Rattle.std.proofs.lemmas.List.Elements.{All-append, All-get_or, All-contains, All-weaker, All-nil}
use Rattle.std.specs.Cmp.{nat_eq_equiv}
use Rattle.std.proofs.lemmas.Map.Views.{list_any-from_Contains}
use Rattle.indexmap.proofs.CallerLemmas.{Contains-list_any}
use Rattle.indexmap.specs.IndexSet.{insert_key}
use Rattle.gq_graph.specs.Reach.{NoneTwice}
use Rattle.gq_graph.specs.Helping.Found.{Marked, Grown, Added}
use Rattle.gq_graph.proofs.Marking.{visit_marked, marked_none}
use Rattle.gq_graph.proofs.Searching.{Search, search_starts, search_next}

any_here : (k : ℕ) (ks : List ℕ) → Contains ks k → list_any (nat_eq k) ks ≡ true
any_here k ks h = list_any-from_Contains nat_eq_equiv k ks h

is_here : (k : ℕ) (ks : List ℕ) → list_any (nat_eq k) ks ≡ true → Contains ks k
is_here k ks h = Contains-list_any nat_eq eqb-true ks k h

added_by : (b : Bool) (k : ℕ) (ks new : List ℕ) → list_any (nat_eq k) ks ≡ b → new ≡ insert_key nat_eq ks k → Added k ks new
added_by true k ks new h e = inr (is_here k ks h, rw (h) at e)
added_by false k ks new h e = inl ((λ c. false≢true (sym h ∙ any_here k ks c)), rw (h) at e)

-- what inserting comes to
pub inserted : (k : ℕ) (ks new : List ℕ) → new ≡ insert_key nat_eq ks k → Added k ks new
inserted k ks new e = added_by (list_any (nat_eq k) ks) k ks new refl e

-- marks at numbers below a count
pub record Marks (count : ℕ) (found : List ℕ) : Type 0 where
  pub marks : List Bool
  pub marked : Marked marks found
  pub same : length marks ≡ count

once_front : (a b : List ℕ) → NoneTwice (a ++ b) → NoneTwice a
once_front a b h i j lt inside =
    let e : length (a ++ b) ≡ length a + length b = length-append a b in
    λ q. h i j lt (omega (arith, e, inside)) (get_or_append_left a b 0 i (omega (arith, lt, inside)) ∙ q ∙ sym (get_or_append_left a b 0 j inside))

unmarked : (b : Bool) (marks : List Bool) (a : List ℕ) (n : ℕ) → Marked marks a → (Contains a n → ⊥) → get_or marks n false ≡ b → b ≡ false
unmarked true marks a n m h e = absurd (h (m.listed n e))
unmarked false marks a n m h e = refl

new_last : (a : List ℕ) (n : ℕ) → NoneTwice (a ++ n ∷ []) → Contains a n → ⊥
new_last a n h (i, inside, e) =
    let count : length (a ++ n ∷ []) ≡ length a + 1 = length-append a (n ∷ []) in
    h i (length a) inside (omega (arith, count))
    (get_or_append_left a (n ∷ []) 0 i inside ∙ get_or_default a i 0 n inside ∙ e ∙ sym (get_or_push a n 0 (length a) refl))

marks_more : (count : ℕ) (a b : List ℕ) → Marks count a → NoneTwice (a ++ b) → All (λ n. n < count) b → Marks count (a ++ b)
marks_more count a [] m once within = subst (Marks count) (sym (append-nil a)) m
marks_more count a (n ∷ b) m once within =
    let q : a ++ n ∷ b ≡ (a ++ n ∷ []) ++ b = sym (append_assoc a (n ∷ []) b) in
    let h : NoneTwice (a ++ n ∷ []) = once_front (a ++ n ∷ []) b (subst NoneTwice q once) in
    let lt : n < count = within 0 0 (omega arith) in
    let inside : n < length m.marks = subst (λ k. n < k) (sym m.same) lt in
    let off : get_or m.marks n false ≡ false = unmarked (get_or m.marks n false) m.marks a n m.marked (new_last a n h) refl in
    let next : Marks count (a ++ n ∷ []) = record {
      marks = set m.marks n true;
      marked = visit_marked m.marks a n m.marked inside off;
      same = length-set m.marks n true ∙ m.same;
    } in
    subst (Marks count) (sym q)
    (marks_more count (a ++ n ∷ []) b next (subst NoneTwice q once) (λ i d l. within (suc i) d (omega (arith, l))))

-- distinct numbers below a count can be marked
pub marks_for : (count : ℕ) (found : List ℕ) → NoneTwice found → All (λ n. n < count) found → Marks count found
marks_for count found once within =
    marks_more count [] found (record { marks = replicate count false; marked = marked_none count; same = length-replicate count false }) once within

-- The state of the search, where the marks are not kept.
pub record Sought (starts : List ℕ) (next : ℕ → List ℕ) (count : ℕ) (found : List ℕ) (done : ℕ) : Type 0 where
  pub marks : List Bool
  pub search : Search starts next count 0 marks found done

all_grown : (count : ℕ) (numbers old new : List ℕ) → All (λ n. n < count) old → All (λ n. n < count) numbers → Grown numbers old new → All (λ n. n < count) new
all_grown count numbers old new before more g =
    subst (All (λ n. n < count)) (sym g.is)
    (All-append (λ n. n < count) old g.added before
    (All-weaker (λ n. Contains numbers n) (λ n. n < count) (λ n h. All-contains (λ k. k < count) numbers n more h) g.added g.taken))

-- the numbers found so far are below the count
pub within_count : (starts : List ℕ) (next : ℕ → List ℕ) (count : ℕ) (found : List ℕ) (done : ℕ) → Sought starts next count found done → All (λ n. n < count) found
within_count starts next count found done s = subst (λ k. All (λ n. n < k) found) s.search.same s.search.marked.within

pub sought_starts : (starts : List ℕ) (next : ℕ → List ℕ) (count : ℕ) (old new : List ℕ) → old ≡ [] →
    All (λ n. n < count) starts → NoneTwice new → Grown starts old new → Sought starts next count new 0
sought_starts starts next count old new e range once g =
    let h : Grown starts [] new = subst (λ l. Grown starts l new) e g in
    let m : Marks count new = marks_for count new once (all_grown count starts [] new (All-nil (λ n. n < count)) range h) in
    record { marks = m.marks; search = search_starts starts next count m.marks new m.marked m.same h }

-- the number whose turn it is
pub number_here : (starts : List ℕ) (next : ℕ → List ℕ) (count : ℕ) (found read : List ℕ) (done : ℕ) → Sought starts next count found done →
    read ≡ found → done < length found → get_or read done 0 < count
number_here starts next count found read done s e lt =
    subst (λ l. get_or l done 0 < count) (sym e) (All-get_or (λ n. n < count) found done 0 lt (within_count starts next count found done s))

-- one turn: read is what was found as the code reads it, and row what the number leads to
pub sought_next : (starts : List ℕ) (next : ℕ → List ℕ) (count : ℕ) (old new read row numbers : List ℕ) (i : ℕ) →
    Sought starts next count old i → i < length old → read ≡ old → row ≡ next (get_or read i 0) → All (λ n. n < count) row → numbers ≡ row →
    NoneTwice new → Grown numbers old new → Sought starts next count new (i + 1)
sought_next starts next count old new read row numbers i s lt e is range same once g =
    let m : ℕ = get_or old i 0 in
    let r : row ≡ next m = is ∙ ap (λ l. next (get_or l i 0)) e in
    let h : Grown (next m) old new = subst (λ l. Grown l old new) (same ∙ r) g in
    let k : Marks count new = marks_for count new once (all_grown count (next m) old new (within_count starts next count old i s) (subst (All (λ n. n < count)) r range) h) in
    let at : get_or old i m ≡ m = get_or_default old i m 0 lt in
    record { marks = k.marks; search = search_next starts next count 0 s.marks k.marks old new i m s.search lt at k.marked (k.same ∙ sym s.search.same) h }
