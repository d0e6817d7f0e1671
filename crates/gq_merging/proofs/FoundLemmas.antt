-- Two fields meet in a pair of sets that is found exactly if they meet in one that is reached, with all fragments expanded.
use Rattle.std.proofs.Common.{◌≡◌, ◌↔◌, ⊎_elim, ℕ, ◌+◌, ◌*◌, ◌/◌, ◌%◌, ◌<◌, Bool, List, [], ◌∷◌, Contains, refl, sym, subst}
use Rattle.gq_names.proofs.RepeatLemmas.{contains_none, contains_first, contains_cases}
use Rattle.gq_graph.specs.Reach.{Reach, start as at_once, step as by_step}
use Rattle.gq_merging.specs.Helping.SetTables.{members_at, spreads_at}
use Rattle.gq_merging.specs.Helping.PairTables.{MetOf, LookOf, IsNumber, IsMetAt, IsMetIn, IsGiven, IsAfter, below, by_left, by_right, IsFound, begins, leads, IsReached, start, step, IsMetReached}
use Rattle.gq_merging.proofs.PairNumbers.{pair_below, left_below, right_below, left_of, right_of, both_of}

pub reached_within : (w : LookOf) (passed : List Bool) (n : ℕ) → IsReached w passed n → n < w.size
reached_within w passed n (start s) = s.number.within
reached_within w passed n (step r g) = g.gives.number.within

after_within : (w : LookOf) (m n : ℕ) → IsAfter w m n → n < w.size
after_within w m n (below g) = g.gives.number.within
after_within w m n (by_left g) = g.gives.within
after_within w m n (by_right g) = g.gives.within

pub found_within : (w : LookOf) (passed : List Bool) (n : ℕ) → IsFound w passed n → n < w.size
found_within w passed n (begins s) = s.number.within
found_within w passed n (leads f a) = after_within w _ n a

module _ (w : LookOf) (passed : List Bool) (square : w.size ≡ w.count * w.count) (inside : (n k : ℕ) → Contains (spreads_at w.rows n) k → k < w.count) where
  abbrev next : ℕ → List ℕ
  next = spreads_at w.rows

  number : (i j : ℕ) → i < w.count → j < w.count → IsNumber w.count w.size i j (i * w.count + j)
  number i j l r = record { is = refl; within = subst (λ k. i * w.count + j < k) (sym square) (pair_below w.count i j l r) }

  the_start : (i r : ℕ) → Contains (i ∷ []) r → i ≡ r
  the_start i r c = ⊎_elim (λ e. e) (λ f. absurd (contains_none r f)) (contains_cases i [] r c)

  leads_within : (i r : ℕ) → i < w.count → Reach (i ∷ []) next r → r < w.count
  leads_within i r l (at_once c) = subst (λ k. k < w.count) (the_start i r c) l
  leads_within i r l (by_step {m = m} h c) = inside m r c

  -- the pairs of what the one of two leads to with the other
  lefts : (i j r : ℕ) → j < w.count → IsFound w passed (i * w.count + j) → Reach (i ∷ []) next r → IsFound w passed (r * w.count + j)
  lefts i j r k f (at_once c) = subst (λ n. IsFound w passed (n * w.count + j)) (the_start i r c) f
  lefts i j r k f (by_step {m = m} h c) =
      leads (lefts i j m k f h)
      (by_left (record {
        one = r;
        these = subst (λ n. Contains (next n) r) (sym (left_of w.count m j (m * w.count + j) k refl)) c;
        gives = subst (λ n. IsNumber w.count w.size r n (r * w.count + j)) (sym (right_of w.count m j (m * w.count + j) k refl)) (number r j (inside m r c) k);
      }))

  rights : (i j s : ℕ) → i < w.count → j < w.count → IsFound w passed (i * w.count + j) → Reach (j ∷ []) next s → IsFound w passed (i * w.count + s)
  rights i j s l k f (at_once c) = subst (λ n. IsFound w passed (i * w.count + n)) (the_start j s c) f
  rights i j s l k f (by_step {m = m} h c) =
      let there = leads_within j m k h in
      leads (rights i j m l k f h)
      (by_right (record {
        one = s;
        these = subst (λ n. Contains (next n) s) (sym (right_of w.count i m (i * w.count + m) there refl)) c;
        gives = subst (λ n. IsNumber w.count w.size n s (i * w.count + s)) (sym (left_of w.count i m (i * w.count + m) there refl)) (number i s l (inside m s c));
      }))

  first_within : (n : ℕ) → n < w.size → n / w.count < w.count
  first_within n l = left_below w.count n (subst (λ k. n < k) square l)

  second_within : (n : ℕ) → n < w.size → n % w.count < w.count
  second_within n l = right_below w.count n (subst (λ k. n < k) square l)

  all_of : (n r s : ℕ) → n < w.size → IsFound w passed n → Reach (n / w.count ∷ []) next r → Reach (n % w.count ∷ []) next s → IsFound w passed (r * w.count + s)
  all_of n r s l f left right =
      let i = first_within n l in
      let j = second_within n l in
      rights r (n % w.count) s (leads_within (n / w.count) r i left) j
      (lefts (n / w.count) (n % w.count) r j (subst (IsFound w passed) (both_of w.count n (subst (λ k. n < k) square l)) f) left) right

  met_in : (n : ℕ) (p : MetOf) → n < w.size → (h : IsMetAt w n p) → IsMetIn w (h.left.reached * w.count + h.right.reached) p
  met_in n p l h =
      let r = h.left.reached in
      let s = h.right.reached in
      let there = leads_within (n % w.count) s (second_within n l) h.right.reach in
      record {
        stands_left = subst (λ k. Contains (members_at w.rows k) p.left) (sym (left_of w.count r s (r * w.count + s) there refl)) h.left.stands;
        stands_right = subst (λ k. Contains (members_at w.rows k) p.right) (sym (right_of w.count r s (r * w.count + s) there refl)) h.right.stands;
        one_key = h.one_key;
      }

  complete : (n : ℕ) → IsReached w passed n → IsFound w passed n
  complete n (start s) = begins s
  complete n (step {m = m} r g) =
      let l = reached_within w passed m r in
      leads
      (all_of m g.these.left.reached g.these.right.reached l (complete m r) g.these.left.reach g.these.right.reach)
      (below (record { one = g.one; these = met_in m g.one l g.these; gives = g.gives }))

  -- a pair that is reached, from whose sets spreads lead to those of a pair
  record IsFrom (n : ℕ) : Type 0 where
    from : ℕ
    reached : IsReached w passed from
    left : Reach (from / w.count ∷ []) next (n / w.count)
    right : Reach (from % w.count ∷ []) next (n % w.count)

  here : (n : ℕ) → IsReached w passed n → IsFrom n
  here n r = record { from = n; reached = r; left = at_once (contains_first (n / w.count) [] (n / w.count) refl); right = at_once (contains_first (n % w.count) [] (n % w.count) refl) }

  met_at : (n : ℕ) (p : MetOf) (q : IsFrom n) → IsMetIn w n p → IsMetAt w q.from p
  met_at n p q h = record {
    left = record { reached = n / w.count; reach = q.left; stands = h.stands_left };
    right = record { reached = n % w.count; reach = q.right; stands = h.stands_right };
    one_key = h.one_key;
  }

  from_after : (m n : ℕ) → m < w.size → IsFrom m → IsAfter w m n → IsFrom n
  from_after m n l q (below g) = here n (step q.reached (record { one = g.one; these = met_at m g.one q g.these; gives = g.gives }))
  from_after m n l q (by_left g) =
      let j = second_within m l in
      record {
        from = q.from;
        reached = q.reached;
        left = subst (Reach (q.from / w.count ∷ []) next) (sym (left_of w.count g.one (m % w.count) n j g.gives.is)) (by_step q.left g.these);
        right = subst (Reach (q.from % w.count ∷ []) next) (sym (right_of w.count g.one (m % w.count) n j g.gives.is)) q.right;
      }
  from_after m n l q (by_right g) =
      let k = inside (m % w.count) g.one g.these in
      record {
        from = q.from;
        reached = q.reached;
        left = subst (Reach (q.from / w.count ∷ []) next) (sym (left_of w.count (m / w.count) g.one n k g.gives.is)) q.left;
        right = subst (Reach (q.from % w.count ∷ []) next) (sym (right_of w.count (m / w.count) g.one n k g.gives.is)) (by_step q.right g.these);
      }

  sound : (n : ℕ) → IsFound w passed n → IsFrom n
  sound n (begins s) = here n (start s)
  sound n (leads {m = m} f a) = from_after m n (found_within w passed m f) (sound m f) a

  pub met_found : (p : MetOf) → IsGiven (IsFound w passed) (IsMetIn w) p ↔ IsMetReached w passed p
  met_found p = (
    (λ g. let q = sound g.one g.these in record { number = q.from; reached = q.reached; met = met_at g.one p q g.gives }),
    (λ h.
        let l = reached_within w passed h.number h.reached in
        record {
          one = h.met.left.reached * w.count + h.met.right.reached;
          these = all_of h.number h.met.left.reached h.met.right.reached l (complete h.number h.reached) h.met.left.reach h.met.right.reach;
          gives = met_in h.number p l h.met;
        }),
  )
