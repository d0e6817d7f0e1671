-- A run that is found is consecutive selections of a set.
use Rattle.std.proofs.Common.{◌≡◌, inl, inr, ℕ, Bool, true, false, List, [], ◌∷◌, ◌++◌, Option, Some, None, refl, ap, ◌∙◌, arith, nat_eq}
use Rattle.std.specs.Prelude.{if◌then◌else◌}
use Rattle.std.specs.Option.{option_map, option_or}
use Rattle.std.proofs.lemmas.Bool.Decides.{nat_tests}
use Rattle.gq_text.specs.declared.place.Span.{Span}
use Rattle.gq_tree.specs.Forest.{none, more, row}
use Rattle.gq_tree.specs.Plain.{Sel, Sels}
use Rattle.gq_meaning.specs.Thin.{IsIn}
use Rattle.gq_rewritten.specs.Rewrites.{head_place}
use Rattle.gq_laws.specs.Rewriting.Places.{run_start, run_end}
use Rattle.gq_document.specs.Sets.{SetOf}
use Rattle.gq_select.specs.Runs.{run_to, run_in, RunOf, find_run}

-- selections as a list
abbrev items : Sels Span → List (Sel Span)
items none = []
items (more head below rest) = record { label = head; below = below } ∷ items rest

items_row : (sels : Sels Span) → sels ≡ row (items sels)
items_row none = refl
items_row (more head below rest) = ap (λ (r : Sels Span). more head below r) (items_row rest)

abbrev start_of : Sels Span → Option ℕ
start_of none = None
start_of (more head below rest) = Some (head_place head).start

record RunTo (end : ℕ) (sels run : Sels Span) : Type 0 where
  list : List (Sel Span)
  others : List (Sel Span)
  is_run : row list ≡ run
  whole : sels ≡ row (list ++ others)
  first : run_start list ≡ start_of sels
  last : run_end list ≡ Some end

pub same_number : (a b : ℕ) → nat_eq a b ≡ true → a ≡ b
same_number a b e = grind (arith, nat_tests, e)

end_later : (s : Sel Span) (l : List (Sel Span)) (end : ℕ) → run_end l ≡ Some end → run_end (s ∷ l) ≡ Some end
end_later s [] end e = cc
end_later s (t ∷ l) end e = e

run_to_end : (end : ℕ) (sels run : Sels Span) → run_to end sels ≡ Some run → RunTo end sels run
run_to_end end none run e = cc
run_to_end end (more head below rest) run e = by (nat_eq (head_place head).end end) refl e (λ q f. run_to_end end rest q f)
  where
    by : (b : Bool) → nat_eq (head_place head).end end ≡ b → (if b then Some (more head below none) else option_map (λ q. more head below q) (run_to end rest)) ≡ Some run → ((q : Sels Span) → run_to end rest ≡ Some q → RunTo end rest q) → RunTo end (more head below rest) run
    by true t f next = record {
      list = record { label = head; below = below } ∷ [];
      others = items rest;
      is_run = cc;
      whole = ap (λ (r : Sels Span). more head below r) (items_row rest);
      first = refl;
      last = ap (λ (n : ℕ). Some n) (same_number (head_place head).end end t);
    }
    by false t f next = behind (run_to end rest) refl f
      where
        behind : (o : Option (Sels Span)) → run_to end rest ≡ o → option_map (λ q. more head below q) o ≡ Some run → RunTo end (more head below rest) run
        behind None p g = cc
        behind (Some q) p g =
            let i = next q p in
            let is : more head below q ≡ run = cc in
            record {
              list = record { label = head; below = below } ∷ i.list;
              others = i.others;
              is_run = ap (λ (r : Sels Span). more head below r) i.is_run ∙ is;
              whole = ap (λ (r : Sels Span). more head below r) i.whole;
              first = refl;
              last = end_later (record { label = head; below = below }) i.list end i.last;
            }

-- The run, with the selections before it and those after it.
pub record RunThere (start end : ℕ) (sels run : Sels Span) : Type 0 where
  pub before : List (Sel Span)
  pub list : List (Sel Span)
  pub others : List (Sel Span)
  pub is_run : row list ≡ run
  pub whole : sels ≡ row (before ++ list ++ others)
  pub first : run_start list ≡ Some start
  pub last : run_end list ≡ Some end

pub run_there : (start end : ℕ) (sels run : Sels Span) → run_in start end sels ≡ Some run → RunThere start end sels run
run_there start end none run e = cc
run_there start end (more head below rest) run e = by (nat_eq (head_place head).start start) refl e (λ f. run_there start end rest run f)
  where
    by : (b : Bool) → nat_eq (head_place head).start start ≡ b → (if b then run_to end (more head below rest) else run_in start end rest) ≡ Some run → (run_in start end rest ≡ Some run → RunThere start end rest run) → RunThere start end (more head below rest) run
    by true t f next =
        let i = run_to_end end (more head below rest) run f in
        record {
          before = [];
          list = i.list;
          others = i.others;
          is_run = i.is_run;
          whole = i.whole;
          first = i.first ∙ ap (λ (n : ℕ). Some n) (same_number (head_place head).start start t);
          last = i.last;
        }
    by false t f next =
        let i = next f in
        record {
          before = record { label = head; below = below } ∷ i.before;
          list = i.list;
          others = i.others;
          is_run = i.is_run;
          whole = ap (λ (r : Sels Span). more head below r) i.whole;
          first = i.first;
          last = i.last;
        }

-- It is in one of the sets.
pub record RunFound (start end : ℕ) (sets : List SetOf) (r : RunOf) : Type 0 where
  pub set : SetOf
  pub stands : IsIn set sets
  pub is_parent : set.parent ≡ r.parent
  pub is_run : run_in start end set.selections ≡ Some r.run

pub run_found : (start end : ℕ) (sets : List SetOf) (r : RunOf) → find_run start end sets ≡ Some r → RunFound start end sets r
run_found start end [] r e = cc
run_found start end (s ∷ sets) r e = by (run_in start end s.selections) refl e (λ f. run_found start end sets r f)
  where
    by : (o : Option (Sels Span)) → run_in start end s.selections ≡ o → option_or (option_map (λ run. let q : RunOf = record { parent = s.parent; run = run } in q) o) (find_run start end sets) ≡ Some r → (find_run start end sets ≡ Some r → RunFound start end sets r) →
        RunFound start end (s ∷ sets) r
    by None p f next = let i = next f in record { set = i.set; stands = inr i.stands; is_parent = i.is_parent; is_run = i.is_run }
    by (Some run) p f next =
        let own : RunOf = record { parent = s.parent; run = run } in
        let same : own ≡ r = cc in
        record { set = s; stands = inl refl; is_parent = ap (λ z. z.parent) same; is_run = p ∙ ap (λ z. Some z.run) same }
