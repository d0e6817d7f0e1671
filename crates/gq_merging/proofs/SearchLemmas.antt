-- The search of pairs: what was found and is done leads to what was found.
use Rattle.std.proofs.Common.{◌≡◌, ◌↔◌, ◌⊎◌, ⊎_elim, ℕ, ◌+◌, ◌<◌, ◌≤◌, Bool, nat_eq, List, [], ◌∷◌, ◌++◌, length, take, get_or, Contains, sym, ◌∙◌, ap, subst, arith}
use Rattle.std.specs.List.{IsDistinct}
use Rattle.std.proofs.lemmas.Bool.Decides.{Decides-eqb}
use Rattle.std.proofs.lemmas.List.{take_all, take_more, take-append-le, length-append}
use Rattle.std.proofs.lemmas.List.Elements.{Contains-append_cases, Contains-get_or}
use Rattle.std.proofs.lemmas.Map.Steps.{length-le_from_distinct_below}
use Rattle.indexmap.proofs.CallerLemmas.{Contains-list_any}
use Rattle.gq_names.proofs.RepeatLemmas.{contains_none}
use Rattle.gq_fault.specs.declared.fault.Fault.{Fault}
use Rattle.gq_fault.specs.Adds.{AddsExactly}
use Rattle.gq_fault.proofs.PutLemmas.{puts_as, puts_both}
use Rattle.gq_merging.specs.Helping.PairTables.{LookOf, MetOf, IsMetIn, IsStart, IsGiven, IsAfter, IsFound, begins, leads, IsMetReached, IsFaultOf, Gains}
use Rattle.gq_merging.proofs.LookLemmas.{gains_as, gains_both, gains_keeps, gains_nothing, given_either, one_more, puts_given, puts_nothing}
use Rattle.gq_merging.proofs.FoundLemmas.{found_within}

-- two fields of one key in a pair of sets that is found
abbrev pub IsMetFound : LookOf → List Bool → MetOf → Type 0
IsMetFound w passed p = IsGiven (IsFound w passed) (IsMetIn w) p

-- These many of the found pairs are done: what meets in them was looked at.
pub record Search (w : LookOf) (passed : List Bool) (starts : List ℕ) (faults faults' : List Fault) (found : List ℕ) (done : ℕ) : Type 0 where
  pub most : done ≤ length found
  pub sound : (n : ℕ) → Contains found n → IsFound w passed n
  pub puts : AddsExactly (IsGiven (IsGiven (Contains (take done found)) (IsMetIn w)) (IsFaultOf w)) faults faults'
  pub gains : Gains (IsGiven (Contains (take done found)) (IsAfter w)) starts found

module _ (w : LookOf) (passed : List Bool) where
  pub search_starts : (starts : List ℕ) (faults : List Fault) → Gains (IsStart passed w.count w.size (length passed)) [] starts → Search w passed starts faults faults starts 0
  search_starts starts faults g = record {
    most = omega arith;
    sound = λ n c. begins (g.taken n (subst (λ ns. Contains ns n) g.is c));
    puts = puts_nothing (IsGiven (IsGiven (Contains []) (IsMetIn w)) (IsFaultOf w)) faults (λ i h. contains_none h.these.one h.these.these);
    gains = gains_nothing (IsGiven (Contains []) (IsAfter w)) starts (λ n h. contains_none h.one h.these);
  }

  -- no more pairs than there are
  pub few : (starts : List ℕ) (faults faults' : List Fault) (found : List ℕ) (done : ℕ) → Search w passed starts faults faults' found done → IsDistinct nat_eq found → length found ≤ w.size
  few starts faults faults' found done s once =
      length-le_from_distinct_below found w.size once (λ q t. found_within w passed q (s.sound q (Contains-list_any nat_eq (λ x y. (Decides-eqb x y).0) found q t)))

  found_there : (old : List ℕ) (done number : ℕ) → done < length old → number ≡ get_or old done 0 → Contains old number
  found_there old done number l at = subst (Contains old) (sym at) (Contains-get_or old done 0 l)

  pub number_within : (starts : List ℕ) (faults faults' : List Fault) (found : List ℕ) (done number : ℕ) → Search w passed starts faults faults' found done →
      done < length found → number ≡ get_or found done 0 → number < w.size
  number_within starts faults faults' found done number s l at = found_within w passed number (s.sound number (found_there found done number l at))

  pub search_next : (starts : List ℕ) (faults middle faults' : List Fault) (old new : List ℕ) (done number : ℕ) → Search w passed starts faults middle old done →
      done < length old → number ≡ get_or old done 0 → AddsExactly (IsGiven (IsMetIn w number) (IsFaultOf w)) middle faults' → Gains (IsAfter w number) old new →
      Search w passed starts faults faults' new (done + 1)
  search_next starts faults middle faults' old new done number s l at h g =
      let there : Contains old number = found_there old done number l at in
      let count : length new ≡ length old + length g.added = ap length g.is ∙ length-append old g.added in
      let before = take done old in
      let front : take (done + 1) new ≡ take done old ++ number ∷ [] =
      ap (take (done + 1)) g.is ∙ take-append-le (done + 1) old g.added (omega (arith, l)) ∙ take_more old done 0 l ∙ ap (λ n. take done old ++ n ∷ []) (sym at) in
      record {
        most = omega (arith, count, l);
        sound = λ n c. ⊎_elim (s.sound n) (λ a. leads (s.sound number there) (g.taken n a)) (Contains-append_cases old g.added n (subst (λ ns. Contains ns n) g.is c));
        puts = subst (λ ns. AddsExactly (IsGiven (IsGiven (Contains ns) (IsMetIn w)) (IsFaultOf w)) faults faults') (sym front)
            (puts_given w (λ p. IsGiven (Contains before) (IsMetIn w) p ⊎ IsMetIn w number p) (IsGiven (Contains (before ++ number ∷ [])) (IsMetIn w)) faults faults'
            (one_more (IsMetIn w) before number)
            (puts_as (λ i. IsGiven (IsGiven (Contains before) (IsMetIn w)) (IsFaultOf w) i ⊎ IsGiven (IsMetIn w number) (IsFaultOf w) i)
            (IsGiven (λ p. IsGiven (Contains before) (IsMetIn w) p ⊎ IsMetIn w number p) (IsFaultOf w)) faults faults'
            (given_either (IsFaultOf w) (IsGiven (Contains before) (IsMetIn w)) (IsMetIn w number))
            (puts_both (IsGiven (IsGiven (Contains before) (IsMetIn w)) (IsFaultOf w)) (IsGiven (IsMetIn w number) (IsFaultOf w)) faults middle faults' s.puts h)));
        gains = subst (λ ns. Gains (IsGiven (Contains ns) (IsAfter w)) starts new) (sym front)
            (gains_as (λ n. IsGiven (Contains before) (IsAfter w) n ⊎ IsAfter w number n) (IsGiven (Contains (before ++ number ∷ [])) (IsAfter w)) starts new
            (one_more (IsAfter w) before number)
            (gains_both (IsGiven (Contains before) (IsAfter w)) (IsAfter w number) starts old new s.gains g));
      }

  module _ (starts : List ℕ) (faults faults' : List Fault) (found : List ℕ) (began : Gains (IsStart passed w.count w.size (length passed)) [] starts)
      (sound : (n : ℕ) → Contains found n → IsFound w passed n) (gains : Gains (IsGiven (Contains found) (IsAfter w)) starts found) where
    complete : (n : ℕ) → IsFound w passed n → Contains found n
    complete n (begins s) = gains_keeps (IsGiven (Contains found) (IsAfter w)) starts found gains n (began.holds n s)
    complete n (leads {m = m} f a) = gains.holds n (record { one = m; these = complete m f; gives = a })

    all_put : AddsExactly (IsGiven (IsGiven (Contains found) (IsMetIn w)) (IsFaultOf w)) faults faults' → AddsExactly (IsGiven (IsMetFound w passed) (IsFaultOf w)) faults faults'
    all_put p = puts_given w (IsGiven (Contains found) (IsMetIn w)) (IsMetFound w passed) faults faults'
        (λ q. (
          (λ a. record { one = a.one; these = sound a.one a.these; gives = a.gives }),
          (λ r. record { one = r.one; these = complete r.one r.these; gives = r.gives }),
        )) p

  pub search_ends : (starts : List ℕ) (faults faults' : List Fault) (found : List ℕ) (done : ℕ) → Gains (IsStart passed w.count w.size (length passed)) [] starts →
      ((p : MetOf) → IsMetFound w passed p ↔ IsMetReached w passed p) →
      Search w passed starts faults faults' found done → length found ≤ done → AddsExactly (IsGiven (IsMetReached w passed) (IsFaultOf w)) faults faults'
  search_ends starts faults faults' found done began same s past =
      let all : take done found ≡ found = take_all done found past in
      puts_given w (IsMetFound w passed) (IsMetReached w passed) faults faults' same
      (all_put starts faults faults' found began s.sound
      (subst (λ ns. Gains (IsGiven (Contains ns) (IsAfter w)) starts found) all s.gains)
      (subst (λ ns. AddsExactly (IsGiven (IsGiven (Contains ns) (IsMetIn w)) (IsFaultOf w)) faults faults') all s.puts))
