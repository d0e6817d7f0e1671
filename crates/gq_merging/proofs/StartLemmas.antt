-- Which selection sets the search of pairs passes over.
use Rattle.std.proofs.Common.{◌≡◌, ◌⊎◌, ⊎_elim, ℕ, ◌+◌, ◌<◌, Bool, true, false, List, [], ◌∷◌, ◌++◌, length, take, set, get_or, Contains, All, refl, sym, ◌∙◌, ap, subst, inl, inr}
use Rattle.std.proofs.lemmas.Bool.{cases_eq}
use Rattle.std.proofs.lemmas.List.{take_more, get_or-set_same, get_or-set_other, length-set}
use Rattle.std.proofs.lemmas.List.Elements.{All-contains, Contains-append_left, Contains-append_right, Contains-append_cases}
use Rattle.gq_names.proofs.RepeatLemmas.{contains_none, contains_first, contains_cases}
use Rattle.gq_graph.specs.Reach.{Reach, start, step}
use Rattle.gq_merging.specs.Helping.StartTables.{LeadsTo, Passes, SetsMarks}

-- one mark more
pub sets_more : (numbers : List ℕ) (i number : ℕ) (mark : Bool) (old middle new : List Bool) → i < length numbers → number ≡ get_or numbers i 0 → number < length middle →
    SetsMarks (take i numbers) mark old middle → new ≡ set middle number mark → SetsMarks (take (i + 1) numbers) mark old new
sets_more numbers i number mark old middle new l at within s e =
    let front = take i numbers in
    let more : take (i + 1) numbers ≡ front ++ number ∷ [] = take_more numbers i 0 l ∙ ap (λ n. front ++ n ∷ []) (sym at) in
    let here : get_or new number false ≡ mark = ap (λ ms. get_or ms number false) e ∙ get_or-set_same middle number mark false within in
    let there : (n : ℕ) → (n ≡ number → ⊥) → get_or new n false ≡ get_or middle n false = λ n q. ap (λ ms. get_or ms n false) e ∙ get_or-set_other middle number n mark false q in
    subst (λ ns. SetsMarks ns mark old new) (sym more)
    (record {
      count = ap length e ∙ length-set middle number mark ∙ s.count;
      put = λ n c. elim (cases_eq n number) [
        | inl q ↦ ap (λ k. get_or new k false) q ∙ here
        | inr q ↦ there n q ∙ ⊎_elim (s.put n) (λ d. absurd (only_one number n q d)) (Contains-append_cases front (number ∷ []) n c)
      ];
      kept = λ n. elim (cases_eq n number) [
        | inl q ↦ inr (Contains-append_right front (number ∷ []) n (contains_first number [] n (sym q)))
        | inr q ↦ ⊎_elim (λ k. inl (there n q ∙ k)) (λ c. inr (Contains-append_left front (number ∷ []) n c)) (s.kept n)
      ];
    })
  where
    only_one : (number n : ℕ) → (n ≡ number → ⊥) → Contains (number ∷ []) n → ⊥
    only_one number n q c = ⊎_elim (λ e. q (sym e)) (λ f. contains_none n f) (contains_cases number [] n c)

-- what is reached is reached from one of the starts
from_one : (starts : List ℕ) (next : ℕ → List ℕ) (n : ℕ) → Reach starts next n → (k : ℕ) × Contains starts k × Reach (k ∷ []) next n
from_one starts next n (start c) = (n, c, start (contains_first n [] n refl))
from_one starts next n (step {m = m} h c) = let q = from_one starts next m h in (q.0, q.1, step q.2 c)

pub passes : (next : ℕ → List ℕ) (marks middle passed : List Bool) (roots found : List ℕ) → All (λ n. n < length marks) roots → All (λ n. Reach roots next n) found →
    SetsMarks found true marks middle → SetsMarks roots false middle passed → Passes next marks passed
passes next marks middle passed roots found within sound first second = record {
  count = second.count ∙ first.count;
  why = λ n e. ⊎_elim
      (λ k. by_first n (sym k ∙ e) (first.kept n))
      (λ c. let f : get_or passed n false ≡ false = second.put n c in absurd (cc))
      (second.kept n);
}
  where
    leads : (n : ℕ) → Contains found n → LeadsTo next passed n
    leads n c =
        let q = from_one roots next n (All-contains (λ n. Reach roots next n) found n sound c) in
        record {
          from = q.0;
          within = subst (λ l. q.0 < l) (sym (second.count ∙ first.count)) (All-contains (λ n. n < length marks) roots q.0 within q.1);
          stays = second.put q.0 q.1;
          reach = q.2;
        }

    by_first : (n : ℕ) → get_or middle n false ≡ true → (get_or middle n false ≡ get_or marks n false) ⊎ Contains found n → (get_or marks n false ≡ true) ⊎ LeadsTo next passed n
    by_first n e (inl k) = inl (sym k ∙ e)
    by_first n e (inr c) = inr (leads n c)
