-- The search over groups: in the groups that are done and what they lead to stand all fields that meet, and no others.
use Rattle.std.proofs.Common.{◌≡◌, ◌↔◌, ◌⊎◌, ⊎_elim, inl, inr, ℕ, zero, suc, ◌+◌, ◌*◌, ◌<◌, ◌≤◌, Bool, true, false, List, [], ◌∷◌, ◌++◌, Some, Contains, length, take, map, refl, sym, ◌∙◌, ap, subst, arith}
use Rattle.std.specs.Prelude.{slice_index_or}
use Rattle.std.specs.List.{slice_get}
use Rattle.std.proofs.lemmas.List.{length-append, length-map, take-append-le, take_all}
use Rattle.std.proofs.lemmas.List.Elements.{All-contains, Contains-append_left, Contains-append_right, Contains-push, Contains-push_cases}
use Rattle.std.proofs.lemmas.Option.{same_Some, none-some, slice_get_within}
use Rattle.gq_names.proofs.RepeatLemmas.{contains_none, contains_first, contains_later, contains_cases}
use Rattle.gq_fault.specs.declared.fault.Fault.{Fault}
use Rattle.gq_document.specs.Executable.{ExecutableOf}
use Rattle.gq_document.specs.FieldSets.{key}
use Rattle.gq_merging.specs.Helping.SetTables.{MemberOf, RowOf, AreRows, IsRow, HasNumber, IsMember}
use Rattle.gq_merging.specs.Helping.GroupTables.{IsOfGroup, IsUnder}
use Rattle.gq_merging.specs.Helping.PairTables.{MetOf, LookOf, IsGiven, IsMetAt, IsReached, start, step, IsMetReached, IsFaultOf}
use Rattle.gq_merging.specs.Helping.SearchTables.{AreInGroup, AreInOne, AreUnder, Searched, IsFirst, HasFields, AreFirst, HaveSets, Search, WasThere}
use Rattle.gq_merging.proofs.LookLemmas.{before_next}
use Rattle.gq_merging.proofs.MemberLemmas.{get_contains, get_below, members_there, row_of_member}
use Rattle.gq_merging.proofs.PairNumbers.{pair_below, left_of, right_of}
use Rattle.gq_merging.proofs.GrowLemmas.{of_one, in_either, still_in_one, searched_as, searched_both, searched_nowhere}

-- the sets of rows that stand have rows
pub sets_there : (x : ExecutableOf) (rows : List RowOf) → AreRows x rows → HaveSets rows
sets_there x rows a n m c =
    let r = row_of_member rows n m c in
    let w : IsRow x (map (λ r. r.set) rows) r.0 = All-contains (IsRow x (map (λ r. r.set) rows)) rows r.0 a.each (get_contains rows n r.0 r.1) in
    let h : HasNumber x.entries (map (λ r. r.set) rows) m = All-contains (HasNumber x.entries (map (λ r. r.set) rows)) r.0.members m w.numbers (subst (λ ms. Contains ms m) (members_there rows n r.0 r.1) c) in
    subst (λ k. m.below < k) (length-map rows (λ r. r.set)) (slice_get_within (map (λ r. r.set) rows) m.below h.set h.is_set)

contains_take : {A : Type 0} (xs : List A) (n i : ℕ) (y : A) → i < n → slice_get xs i ≡ Some y → Contains (take n xs) y
contains_take [] n i y l e = absurd (none-some y e)
contains_take (x ∷ xs) zero i y l e = absurd (omega (arith, l))
contains_take (x ∷ xs) (suc n) zero y l e = contains_first x (take n xs) y (same_Some x y e)
contains_take (x ∷ xs) (suc n) (suc i) y l e = contains_later x (take n xs) y (contains_take xs n i y (omega (arith, l)) e)

-- one more at the front
front_more : {A : Type 0} (xs : List A) (i : ℕ) (y : A) → slice_get xs i ≡ Some y → take (i + 1) xs ≡ take i xs ++ y ∷ []
front_more [] i y e = absurd (none-some y e)
front_more (x ∷ xs) zero y e = ap (λ z. z ∷ []) (same_Some x y e)
front_more (x ∷ xs) (suc i) y e = let same : suc i + 1 ≡ suc (i + 1) = omega arith in ap (λ n. take n (x ∷ xs)) same ∙ ap (λ zs. x ∷ zs) (front_more xs i y e)

module _ (w : LookOf) (passed : List Bool) (sets : HaveSets w.rows) (counted : w.count ≡ length w.rows) (square : w.size ≡ w.count * w.count) where
  -- a field of a set has a set in its braces
  of_group_there : (group : List ℕ) (m : MemberOf) → IsOfGroup w.rows group m → m.below < w.count
  of_group_there group m h = subst (λ k. m.below < k) (sym counted) (sets h.reached m h.stands)

  met_at : (i j : ℕ) (q : MetOf) → j < w.count → IsMember w.rows i q.left → IsMember w.rows j q.right → key q.left.field_at ≡ key q.right.field_at → IsMetAt w (i * w.count + j) q
  met_at i j q l left right one_key = record {
    left = subst (λ n. IsMember w.rows n q.left) (sym (left_of w.count i j (i * w.count + j) l refl)) left;
    right = subst (λ n. IsMember w.rows n q.right) (sym (right_of w.count i j (i * w.count + j) l refl)) right;
    one_key = one_key;
  }

  -- what is under two fields that meet meets
  under_reached : (p q : MetOf) → IsMetReached w passed p → p.left.below < w.count → p.right.below < w.count → AreUnder w p q → IsMetReached w passed q
  under_reached p q h l r u = record {
    number = p.left.below * w.count + p.right.below;
    reached = step h.reached (record {
      one = p;
      these = h.met;
      gives = record { leads = u.leads; number = record { is = refl; within = subst (λ k. p.left.below * w.count + p.right.below < k) (sym square) (pair_below w.count p.left.below p.right.below l r) } };
    });
    met = met_at p.left.below p.right.below q r u.left u.right u.one_key;
  }

  module _ (first : List (List ℕ)) (are_first : AreFirst w.rows passed (length passed) first) (as_many : length passed ≡ w.count) where
    first_reached : (q : MetOf) → AreInOne w.rows first q → IsMetReached w passed q
    first_reached q h =
        let f = are_first.only h.group h.is_group in
        let l : f.number < w.count = subst (λ k. f.number < k) as_many f.before in
        record {
          number = f.number * w.count + f.number;
          reached = start (record {
            row = f.number;
            before = f.before;
            stays = f.stays;
            number = record { is = refl; within = subst (λ k. f.number * w.count + f.number < k) (sym square) (pair_below w.count f.number f.number l l) };
          });
          met = met_at f.number f.number q l (f.over q.left ((of_one w.rows f.same q.left).0 (subst (λ g. IsOfGroup w.rows g q.left) f.is h.inside.left)))
              (f.over q.right ((of_one w.rows f.same q.right).0 (subst (λ g. IsOfGroup w.rows g q.right) f.is h.inside.right))) h.inside.one_key;
        }

    pub search_starts : Search w passed first [] first 0
    search_starts = record {
      most = omega arith;
      sound = first_reached;
      searched = searched_nowhere w (AreInOne w.rows []) [] first (λ p h. contains_none h.group h.is_group);
    }

  -- a group that was there already
  pub search_known : (first : List (List ℕ)) (faults : List Fault) (groups : List (List ℕ)) (done : ℕ) → done < length groups → WasThere groups done →
      Search w passed first faults groups done → Search w passed first faults groups (done + 1)
  search_known first faults groups done l was s =
      let g = get_below groups done l in
      let front : take (done + 1) groups ≡ take done groups ++ g.0 ∷ [] = front_more groups done g.0 g.1 in
      let before : Contains (take done groups) g.0 = contains_take groups done was.earlier g.0 was.before (was.same ∙ g.1) in
      record {
        most = omega (arith, l);
        sound = s.sound;
        searched = subst (λ gs. Searched w (AreInOne w.rows gs) [] faults first groups) (sym front)
            (searched_as w (AreInOne w.rows (take done groups)) (AreInOne w.rows (take done groups ++ g.0 ∷ [])) [] faults first groups
            (λ p. (
              still_in_one w.rows (take done groups) (take done groups ++ g.0 ∷ []) (g.0 ∷ []) refl p,
              (λ h. ⊎_elim (λ a. a)
                  (λ b. record { group = g.0; is_group = before; inside = subst (λ k. AreInGroup w.rows k p) (the_one g.0 b.group b.is_group) b.inside })
                  (in_either w.rows (take done groups) (g.0 ∷ []) p h)),
            )) s.searched);
      }
    where
      the_one : (g h : List ℕ) → Contains (g ∷ []) h → h ≡ g
      the_one g h c = ⊎_elim (λ e. sym e) (λ f. absurd (contains_none h f)) (contains_cases g [] h c)

  -- the same faults, in another order or repeated
  pub search_same : (first : List (List ℕ)) (faults faults' : List Fault) (groups : List (List ℕ)) (done : ℕ) → ((fault : Fault) → Contains faults' fault ↔ Contains faults fault) →
      Search w passed first faults groups done → Search w passed first faults' groups done
  search_same first faults faults' groups done same s =
      record {
        most = s.most;
        sound = s.sound;
        searched = record {
          tells = λ fault. let t = s.searched.tells fault in ((λ c. t.0 ((same fault).0 c)), (λ e. (same fault).1 (t.1 e)));
          grows = s.searched.grows;
        };
      }

  -- a group that is looked at
  pub search_next : (first : List (List ℕ)) (faults faults' : List Fault) (old new : List (List ℕ)) (done : ℕ) (group : List ℕ) → done < length old → slice_get old done ≡ Some group →
      Searched w (AreInGroup w.rows group) faults faults' old new → Search w passed first faults old done → Search w passed first faults' new (done + 1)
  search_next first faults faults' old new done group l at h s =
      let g = h.grows in
      let count : length new ≡ length old + length g.added = ap length g.is ∙ length-append old g.added in
      let front : take (done + 1) new ≡ take done old ++ group ∷ [] = ap (take (done + 1)) g.is ∙ take-append-le (done + 1) old g.added (omega (arith, l)) ∙ front_more old done group at in
      let here : Contains old group = get_contains old done group at in
      record {
        most = omega (arith, count, l);
        sound = λ q i. ⊎_elim (s.sound q) (sound_more here) (in_either w.rows old g.added q (subst (λ gs. AreInOne w.rows gs q) g.is i));
        searched = subst (λ gs. Searched w (AreInOne w.rows gs) [] faults' first new) (sym front)
            (searched_as w (λ p. AreInOne w.rows (take done old) p ⊎ AreInGroup w.rows group p) (AreInOne w.rows (take done old ++ group ∷ [])) [] faults' first new
            (λ p. (
              (λ e. ⊎_elim
                  (still_in_one w.rows (take done old) (take done old ++ group ∷ []) (group ∷ []) refl p)
                  (λ i. record { group = group; is_group = Contains-append_right (take done old) (group ∷ []) group (contains_first group [] group refl); inside = i }) e),
              (λ i. ⊎_elim inl (λ b. inr (subst (λ k. AreInGroup w.rows k p) (the_one group b.group b.is_group) b.inside)) (in_either w.rows (take done old) (group ∷ []) p i)),
            ))
            (searched_both w (AreInOne w.rows (take done old)) (AreInGroup w.rows group) [] faults faults' first old new s.searched h));
      }
    where
      the_one : (g h : List ℕ) → Contains (g ∷ []) h → h ≡ g
      the_one g h c = ⊎_elim (λ e. sym e) (λ f. absurd (contains_none h f)) (contains_cases g [] h c)

      sound_more : Contains old group → {q : MetOf} → AreInOne w.rows h.grows.added q → IsMetReached w passed q
      sound_more here {q} i =
          let t = h.grows.taken q i in
          under_reached t.one q (s.sound t.one (record { group = group; is_group = here; inside = t.these }))
          (of_group_there group t.one.left t.these.left) (of_group_there group t.one.right t.these.right) t.gives

  module _ (first : List (List ℕ)) (are_first : AreFirst w.rows passed (length passed) first) (as_many : length passed ≡ w.count)
      (faults : List Fault) (groups : List (List ℕ)) (sound : (q : MetOf) → AreInOne w.rows groups q → IsMetReached w passed q)
      (searched : Searched w (AreInOne w.rows groups) [] faults first groups) where
    at_pair : (i j n : ℕ) (q : MetOf) → j < w.count → n ≡ i * w.count + j → IsMetAt w n q → IsMember w.rows i q.left × IsMember w.rows j q.right
    at_pair i j n q l e h = (
      subst (λ k. IsMember w.rows k q.left) (left_of w.count i j n l e) h.left,
      subst (λ k. IsMember w.rows k q.right) (right_of w.count i j n l e) h.right,
    )

    -- what meets stands together in a group
    complete : (n : ℕ) → IsReached w passed n → (q : MetOf) → IsMetAt w n q → AreInOne w.rows groups q
    complete n (start s) q h =
        let l : s.row < w.count = subst (λ k. s.row < k) as_many s.before in
        let both = at_pair s.row s.row n q l s.number.is h in
        still_in_one w.rows first groups searched.grows.added searched.grows.is q
        (let f = are_first.each s.row s.before s.stays in
        record {
          group = f.group;
          is_group = f.is_group;
          inside = record { left = f.under.each q.left both.0; right = f.under.each q.right both.1; one_key = h.one_key };
        })
    complete n (step {m = m} r g) q h =
        let i = complete m r g.one g.these in
        let l : g.one.right.below < w.count = of_group_there i.group g.one.right i.inside.right in
        let both = at_pair g.one.left.below g.one.right.below n q l g.gives.number.is h in
        searched.grows.holds q (record { one = g.one; these = i; gives = record { leads = g.gives.leads; left = both.0; right = both.1; one_key = h.one_key } })

    all_found : (fault : Fault) → Contains faults fault ↔ IsGiven (IsMetReached w passed) (IsFaultOf w) fault
    all_found fault =
        let t = searched.tells fault in (
          (λ c. ⊎_elim (λ d. absurd (contains_none fault d)) (λ g. record { one = g.one; these = sound g.one g.these; gives = g.gives }) (t.0 c)),
          (λ g. t.1 (inr (record { one = g.one; these = complete g.these.number g.these.reached g.one g.these.met; gives = g.gives }))),
        )

  pub search_ends : (first : List (List ℕ)) → AreFirst w.rows passed (length passed) first → length passed ≡ w.count → (faults : List Fault) (groups : List (List ℕ)) (done : ℕ) →
      Search w passed first faults groups done → length groups ≤ done → (fault : Fault) → Contains faults fault ↔ IsGiven (IsMetReached w passed) (IsFaultOf w) fault
  search_ends first are_first as_many faults groups done s past =
      all_found first are_first as_many faults groups s.sound (subst (λ gs. Searched w (AreInOne w.rows gs) [] faults first groups) (take_all done groups past) s.searched)

-- the groups of the sets that are not passed over, one set more
module _ (rows : List RowOf) (passed : List Bool) where
  pub first_none : (groups : List (List ℕ)) → groups ≡ [] → AreFirst rows passed 0 groups
  first_none groups e = record {
    only = λ g c. absurd (contains_none g (subst (λ gs. Contains gs g) e c));
    each = λ n l stays. absurd (omega (arith, l));
  }

  later_first : (k : ℕ) (g : List ℕ) → IsFirst rows passed k g → IsFirst rows passed (k + 1) g
  later_first k g f = record { number = f.number; before = (let l = f.before in omega (arith, l)); stays = f.stays; same = f.same; is = f.is; over = f.over }

  more_fields : (old new : List (List ℕ)) → ((g : List ℕ) → Contains old g → Contains new g) → (n : ℕ) → HasFields rows old n → HasFields rows new n
  more_fields old new keeps n h = record { group = h.group; is_group = keeps h.group h.is_group; under = h.under }

  pub first_stays : (k same : ℕ) (old new : List (List ℕ)) → slice_index_or passed k false ≡ false → new ≡ old ++ (same ∷ []) ∷ [] → IsUnder rows k (same ∷ []) →
      ((m : MemberOf) → IsMember rows same m → IsMember rows k m) → AreFirst rows passed k old → AreFirst rows passed (k + 1) new
  first_stays k same old new stays e under over f = record {
    only = λ g c. ⊎_elim (λ d. later_first k g (f.only g d))
        (λ q. record { number = k; before = omega arith; stays = stays; same = same; is = sym q; over = over })
        (Contains-push_cases old (same ∷ []) g (subst (λ gs. Contains gs g) e c));
    each = λ n l s. ⊎_elim
        (λ b. more_fields old new (λ g c. subst (λ gs. Contains gs g) (sym e) (Contains-append_left old ((same ∷ []) ∷ []) g c)) n (f.each n b s))
        (λ q. subst (HasFields rows new) (sym q) (record { group = same ∷ []; is_group = subst (λ gs. Contains gs (same ∷ [])) (sym e) (Contains-push old (same ∷ [])); under = under }))
        (before_next n k l);
  }

  pub first_passed : (k : ℕ) (old : List (List ℕ)) → slice_index_or passed k false ≡ true → AreFirst rows passed k old → AreFirst rows passed (k + 1) old
  first_passed k old gone f = record {
    only = λ g c. later_first k g (f.only g c);
    each = λ n l s. ⊎_elim (λ b. f.each n b s) (λ q. let there : slice_index_or passed k false ≡ false = subst (λ m. slice_index_or passed m false ≡ false) q s in absurd (cc)) (before_next n k l);
  }
