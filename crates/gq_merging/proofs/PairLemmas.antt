-- Two fields that differ meet exactly where the pair of their sets is reached.
use Rattle.std.proofs.Common.{◌≡◌, ◌⊎◌, inl, inr, ℕ, ◌+◌, ◌*◌, ◌/◌, ◌%◌, ◌<◌, Bool, true, false, List, Some, length, map, refl, sym, ◌∙◌, ap, subst}
use Rattle.std.specs.Prelude.{slice_index_or}
use Rattle.std.specs.List.{slice_get}
use Rattle.std.proofs.lemmas.Option.{slice_get_within}
use Rattle.std.proofs.lemmas.List.{length-map}
use Rattle.std.proofs.lemmas.List.Elements.{All-contains}
use Rattle.gq_fault.specs.declared.fault.Fault.{Fault}
use Rattle.gq_document.specs.Executable.{ExecutableOf}
use Rattle.gq_document.specs.FieldSets.{SetOf, FieldAt, key, InSet, Stands, field_set}
use Rattle.gq_merging.specs.FieldsMerge.{HaveOneKey, leads_on, Differ, IsNoLater, fault_of, Meet, together, deeper, IsFaultFor}
use Rattle.gq_merging.specs.Helping.Groups.{MeetFrom, AreMerged, together as together_there, deeper as deeper_there}
use Rattle.gq_merging.specs.Helping.SetTables.{MemberOf, RowOf, AreRows, AreAlike, HasNumber, IsMember, StandsWithin, spreads_at}
use Rattle.gq_merging.specs.Helping.StartTables.{LeadsTo, Passes}
use Rattle.gq_merging.specs.Helping.PairTables.{MetOf, LookOf, IsMetAt, IsGiven, IsReached, start, step, IsMetReached, IsFaultOf}
use Rattle.gq_merging.specs.declared.purpose.Purpose.{Purpose}
use Rattle.gq_merging.proofs.MemberLemmas.{alike_in, alike_back, get_contains, get_below, set_numbered, field_member, member_field, reached_field}
use Rattle.gq_merging.proofs.PairNumbers.{pair_below, left_below, right_below, left_of, right_of}
use Rattle.gq_merging.proofs.FoundLemmas.{reached_within as within}

-- fields that meet meet from a set that stands
pub record MeetSomewhere (x : ExecutableOf) (purpose : Purpose) (a b : FieldAt) : Type 0 where
  pub set : SetOf
  pub stands : Stands x set
  pub meet : MeetFrom x purpose set a b

meet_somewhere : (x : ExecutableOf) (purpose : Purpose) (a b : FieldAt) → Meet x purpose a b → MeetSomewhere x purpose a b
meet_somewhere x purpose a b (together {s = s} st k) = record { set = s; stands = st; meet = together_there k }
meet_somewhere x purpose a b (deeper {a = c} {b = d} h w k) =
    let q = meet_somewhere x purpose c d h in record { set = q.set; stands = q.stands; meet = deeper_there q.meet w k }

-- fields that meet from a set meet from each that has its fields
meet_wider : (x : ExecutableOf) (purpose : Purpose) (s t : SetOf) → ((f : FieldAt) → InSet x s f → InSet x t f) → (a b : FieldAt) → MeetFrom x purpose s a b → MeetFrom x purpose t a b
meet_wider x purpose s t wider a b (together_there k) = together_there (record { first = wider a k.first; second = wider b k.second; one_key = k.one_key })
meet_wider x purpose s t wider a b (deeper_there {a = c} {b = d} h w k) = deeper_there (meet_wider x purpose s t wider c d h) w k

module _ (x : ExecutableOf) (purpose : Purpose) (rows : List RowOf) (are : AreRows x rows) (marks : List Bool) (merged : AreMerged x rows marks)
    (passed : List Bool) (passes : Passes (spreads_at rows) marks passed) (count size : ℕ) (counted : count ≡ length rows) (square : size ≡ count * count) where
  abbrev sets : List SetOf
  sets = map (λ r. r.set) rows

  abbrev look : LookOf
  look = record { entries = x.entries; purpose = purpose; rows = rows; count = count; size = size }

  set_there : (i : ℕ) → i < count → (s : SetOf) × (slice_get sets i ≡ Some s)
  set_there i l = get_below sets i (subst (λ n. i < n) (counted ∙ sym (length-map rows (λ r. r.set))) l)

  number_there : (i : ℕ) (s : SetOf) → slice_get sets i ≡ Some s → i < count
  number_there i s e = subst (λ n. i < n) (length-map rows (λ r. r.set) ∙ sym counted) (slice_get_within sets i s e)

  -- a member of a row stands in its set
  member_there : (i : ℕ) (m : MemberOf) → i < count → IsMember rows i m → HasNumber x.entries sets m
  member_there i m l h = let s = set_there i l in (member_field x rows are i s.0 s.1 m h).1

  -- the members at a number that is a pair's
  met_left : (i j n : ℕ) (p : MetOf) → j < count → n ≡ i * count + j → IsMetAt look n p → IsMember rows i p.left
  met_left i j n p l e h = subst (λ k. IsMember rows k p.left) (left_of count i j n l e) h.left

  met_right : (i j n : ℕ) (p : MetOf) → j < count → n ≡ i * count + j → IsMetAt look n p → IsMember rows j p.right
  met_right i j n p l e h = subst (λ k. IsMember rows k p.right) (right_of count i j n l e) h.right

  -- two members at numbers whose sets are known
  one_key : (i j n : ℕ) (s u : SetOf) (p : MetOf) → slice_get sets i ≡ Some s → slice_get sets j ≡ Some u → n ≡ i * count + j → IsMetAt look n p → HaveOneKey x s u p.left.field_at p.right.field_at
  one_key i j n s u p ei ej e h =
      let l = number_there j u ej in
      record {
        first = (member_field x rows are i s ei p.left (met_left i j n p l e h)).0;
        second = (member_field x rows are j u ej p.right (met_right i j n p l e h)).0;
        one_key = h.one_key;
      }

  left_number : (n : ℕ) (p : MetOf) → n < size → IsMetAt look n p → HasNumber x.entries sets p.left
  left_number n p l h = member_there (n / count) p.left (left_below count n (subst (λ k. n < k) square l)) h.left

  right_number : (n : ℕ) (p : MetOf) → n < size → IsMetAt look n p → HasNumber x.entries sets p.right
  right_number n p l h = member_there (n % count) p.right (right_below count n (subst (λ k. n < k) square l)) h.right

  one_key_alike : (s t u v : SetOf) (a b : FieldAt) → AreAlike s t → AreAlike u v → HaveOneKey x s u a b → HaveOneKey x t v a b
  one_key_alike s t u v a b left right k = record { first = alike_in x s t left a k.first; second = alike_in x u v right b k.second; one_key = k.one_key }

  reached_meet : (n : ℕ) → IsReached look passed n → (p : MetOf) → IsMetAt look n p → Meet x purpose p.left.field_at p.right.field_at
  reached_meet n (start s) p h =
      let t = get_below sets s.row (subst (λ k. s.row < k) (passes.count ∙ merged.count ∙ sym (length-map rows (λ r. r.set))) s.before) in
      let w = All-contains (StandsWithin x) sets t.0 are.stand (get_contains sets s.row t.0 t.1) in
      let k = one_key s.row s.row n t.0 t.0 p t.1 t.1 s.number.is h in
      together w.stands (record { first = w.within p.left.field_at k.first; second = w.within p.right.field_at k.second; one_key = k.one_key })
  reached_meet n (step {m = k} r g) p h =
      let l = within look passed k r in
      let a = left_number k g.one l g.these in
      let b = right_number k g.one l g.these in
      deeper (reached_meet k r g.one g.these) g.gives.leads
      (one_key_alike a.set (field_set x.entries g.one.left.field_at) b.set (field_set x.entries g.one.right.field_at) p.left.field_at p.right.field_at a.alike b.alike
      (one_key g.one.left.below g.one.right.below n a.set b.set p a.is_set b.is_set g.gives.number.is h))

  pub record ReachedMet (a b : FieldAt) : Type 0 where
    pub pair : MetOf
    pub met : IsMetReached look passed pair
    pub is_left : pair.left.field_at ≡ a
    pub is_right : pair.right.field_at ≡ b

  meet_at : (i j : ℕ) (s u : SetOf) (a b : FieldAt) → slice_get sets i ≡ Some s → slice_get sets j ≡ Some u → HaveOneKey x s u a b → IsReached look passed (i * count + j) → ReachedMet a b
  meet_at i j s u a b ei ej k r =
      let l = number_there j u ej in
      let p = field_member x rows are i s ei a k.first in
      let q = field_member x rows are j u ej b k.second in
      record {
        pair = record { left = p.0; right = q.0 };
        met = record {
          number = i * count + j;
          reached = r;
          met = record {
            left = subst (λ n. IsMember rows n p.0) (sym (left_of count i j (i * count + j) l refl)) p.1;
            right = subst (λ n. IsMember rows n q.0) (sym (right_of count i j (i * count + j) l refl)) q.1;
            one_key = ap key p.2 ∙ k.one_key ∙ sym (ap key q.2);
          };
        };
        is_left = p.2;
        is_right = q.2;
      }

  pair_within : (i j : ℕ) (s u : SetOf) → slice_get sets i ≡ Some s → slice_get sets j ≡ Some u → i * count + j < size
  pair_within i j s u ei ej = subst (λ n. i * count + j < n) (sym square) (pair_below count i j (number_there i s ei) (number_there j u ej))

  meet_reached : (n : ℕ) (s : SetOf) → slice_get sets n ≡ Some s → slice_index_or passed n false ≡ false → (a b : FieldAt) → MeetFrom x purpose s a b → ReachedMet a b
  meet_reached n s e stays a b (together_there k) =
      let l : n < length passed = subst (λ m. n < m) (counted ∙ sym merged.count ∙ sym passes.count) (number_there n s e) in
      meet_at n n s s a b e e k (start (record { row = n; before = l; stays = stays; number = record { is = refl; within = pair_within n n s s e e } }))
  meet_reached n s e stays a b (deeper_there {a = c} {b = d} h w k) =
      let r = meet_reached n s e stays c d h in
      let l = within look passed r.met.number r.met.reached in
      let i = r.pair.left.below in
      let j = r.pair.right.below in
      let ei = left_number r.met.number r.pair l r.met.met in
      let ej = right_number r.met.number r.pair l r.met.met in
      let s : SetOf = field_set x.entries c in
      let u : SetOf = field_set x.entries d in
      let left : AreAlike s ei.set = alike_back ei.set s (subst (λ (f : FieldAt). AreAlike ei.set (field_set x.entries f)) r.is_left ei.alike) in
      let right : AreAlike u ej.set = alike_back ej.set u (subst (λ (f : FieldAt). AreAlike ej.set (field_set x.entries f)) r.is_right ej.alike) in
      let leads : leads_on x.entries purpose r.pair.left.field_at r.pair.right.field_at ≡ true =
      ap (λ f. leads_on x.entries purpose f r.pair.right.field_at) r.is_left ∙ ap (leads_on x.entries purpose c) r.is_right ∙ w in
      meet_at i j ei.set ej.set a b ei.is_set ej.is_set (one_key_alike s ei.set u ej.set a b left right k)
      (step r.met.reached
      (record {
        one = r.pair;
        these = r.met.met;
        gives = record { leads = leads; number = record { is = refl; within = pair_within i j ei.set ej.set ei.is_set ej.is_set } };
      }))

  -- the faults of the pairs that are reached are those of the rule
  pub from_reached : (fault : Fault) → IsGiven (IsMetReached look passed) (IsFaultOf look) fault → IsFaultFor x purpose fault
  from_reached fault g = record {
    first = g.one.left.field_at;
    later = g.one.right.field_at;
    meet = reached_meet g.these.number g.these.reached g.one g.these.met;
    differ = g.gives.differ;
    is_no_later = g.gives.is_no_later;
    is = g.gives.is;
  }

  met_fault : (fault : Fault) (h : IsFaultFor x purpose fault) → ReachedMet h.first h.later → IsGiven (IsMetReached look passed) (IsFaultOf look) fault
  met_fault fault h r = record {
    one = r.pair;
    these = r.met;
    gives = record {
      differ = subst (λ f. Differ x.entries purpose r.pair.left.field_at f) (sym r.is_right) (subst (λ f. Differ x.entries purpose f h.later) (sym r.is_left) h.differ);
      is_no_later = subst (λ f. IsNoLater r.pair.left.field_at f) (sym r.is_right) (subst (λ f. IsNoLater f h.later) (sym r.is_left) h.is_no_later);
      is = h.is ∙ sym (ap fault_of r.is_right);
    };
  }

  pub to_reached : (fault : Fault) → IsFaultFor x purpose fault → IsGiven (IsMetReached look passed) (IsFaultOf look) fault
  to_reached fault h =
      let t = meet_somewhere x purpose h.first h.later h.meet in
      let n = set_numbered x rows are t.set t.stands in
      let meet = meet_wider x purpose t.set n.1 (alike_in x t.set n.1 (alike_back n.1 t.set n.3)) h.first h.later t.meet in
      by_mark n.1 meet n.0 n.2 (slice_index_or passed n.0 false) refl
    where
      by_reason : (s : SetOf) → MeetFrom x purpose s h.first h.later → (n : ℕ) → slice_get sets n ≡ Some s → (slice_index_or marks n false ≡ true) ⊎ LeadsTo (spreads_at rows) passed n →
          IsGiven (IsMetReached look passed) (IsFaultOf look) fault
      by_reason s meet n at (inl e) = absurd ((merged.merged n s at e).none purpose h.first h.later meet h.differ)
      by_reason s meet n at (inr l) =
          let t = set_there l.from (subst (λ k. l.from < k) (passes.count ∙ merged.count ∙ sym counted) l.within) in
          met_fault fault h
          (meet_reached l.from t.0 t.1 l.stays h.first h.later
          (meet_wider x purpose s t.0 (reached_field x rows are l.from n t.0 s t.1 l.reach at) h.first h.later meet))

      by_mark : (s : SetOf) → MeetFrom x purpose s h.first h.later → (n : ℕ) → slice_get sets n ≡ Some s → (b : Bool) → slice_index_or passed n false ≡ b →
          IsGiven (IsMetReached look passed) (IsFaultOf look) fault
      by_mark s meet n at true e = by_reason s meet n at (passes.why n e)
      by_mark s meet n at false e = met_fault fault h (meet_reached n s at e h.first h.later meet)
