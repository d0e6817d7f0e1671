-- A run that is found goes from place to place, and what goes so is found.
use Rattle.std.proofs.Common.{◌≡◌, ◌≢◌, inl, inr, ℕ, Bool, true, false, List, [], ◌∷◌, ◌++◌, Option, Some, None, Contains, refl, sym, ap, ◌∙◌, subst, arith, nat_eq}
use Rattle.std.specs.Prelude.{if◌then◌else◌}
use Rattle.std.specs.Option.{option_map, option_or}
use Rattle.std.proofs.lemmas.Bool.Decides.{nat_tests}
use Rattle.gq_text.specs.declared.place.Span.{Span}
use Rattle.gq_tree.specs.Forest.{none, more, row}
use Rattle.gq_tree.specs.Plain.{Head, Sel, Sels}
use Rattle.gq_rewritten.specs.Rewrites.{head_place}
use Rattle.gq_types.proofs.Gathered.{nothing_in, first, later, cases_cons}
use Rattle.gq_types.specs.Entries.{Text}
use Rattle.gq_document.specs.Sets.{SetOf}
use Rattle.gq_select.specs.Runs.{run_to, run_in, RunOf, find_run}
use Rattle.gq_select.specs.Choice.{begin_of, end_of, BeginAt, IsRun, IsFirstRun, RunsAreRuns, FirstRunIsFound, NoRunIsFound}

-- selections as a list
abbrev items : Sels Span → List (Sel Span)
items none = []
items (more head below rest) = record { label = head; below = below } ∷ items rest

items_row : (sels : Sels Span) → sels ≡ row (items sels)
items_row none = refl
items_row (more head below rest) = ap (λ (r : Sels Span). more head below r) (items_row rest)

same_number : (a b : ℕ) → nat_eq a b ≡ true → a ≡ b
same_number a b e = grind (arith, nat_tests, e)

same_test : (a b : ℕ) → a ≡ b → nat_eq a b ≡ true
same_test a b e = grind (arith, nat_tests, e)

other_number : (a b : ℕ) → nat_eq a b ≡ false → a ≢ b
other_number a b e same = let t = same_test a b same in let bad : true ≡ false = sym t ∙ e in cc

other_test : (a b : ℕ) → a ≢ b → nat_eq a b ≡ false
other_test a b n = by (nat_eq a b) refl
  where
    by : (t : Bool) → nat_eq a b ≡ t → t ≡ false
    by true e = absurd (n (same_number a b e))
    by false e = refl

-- what is so of none of the first ones is so of none of the others
none_behind : (P : Sel Span → Type 0) (x : Sel Span) (xs : List (Sel Span)) → (P x → ⊥) → ((s : Sel Span) → Contains xs s → P s → ⊥) → (s : Sel Span) → Contains (x ∷ xs) s → P s → ⊥
none_behind P x xs n h s c p = elim (cases_cons x s xs c) [
  | inl e ↦ n (subst P (sym e) p)
  | inr d ↦ h s d p
]

-- ---- up to the one that ends there

record UpTo (end : ℕ) (sels run : Sels Span) : Type 0 where
  inside : List (Sel Span)
  last : Sel Span
  behind : List (Sel Span)
  whole : sels ≡ row (inside ++ last ∷ behind)
  is : run ≡ row (inside ++ last ∷ [])
  ends : end_of last ≡ end
  ends_first : (s : Sel Span) → Contains inside s → end_of s ≢ end

up_to : (end : ℕ) (sels run : Sels Span) → run_to end sels ≡ Some run → UpTo end sels run
up_to end none run e = cc
up_to end (more head below rest) run e = by (nat_eq (head_place head).end end) refl e (λ q f. up_to end rest q f)
  where
    own : Sel Span
    own = record { label = head; below = below }

    behind : (o : Option (Sels Span)) → run_to end rest ≡ o → (head_place head).end ≢ end → option_map (λ q. more head below q) o ≡ Some run → ((q : Sels Span) → run_to end rest ≡ Some q → UpTo end rest q) → UpTo end (more head below rest) run
    behind None p n g next = cc
    behind (Some q) p n g next =
        let i = next q p in
        let is : more head below q ≡ run = cc in
        record {
          inside = own ∷ i.inside;
          last = i.last;
          behind = i.behind;
          whole = ap (λ (r : Sels Span). more head below r) i.whole;
          is = sym is ∙ ap (λ (r : Sels Span). more head below r) i.is;
          ends = i.ends;
          ends_first = none_behind (λ s. end_of s ≡ end) own i.inside n i.ends_first;
        }

    by : (t : Bool) → nat_eq (head_place head).end end ≡ t → (if t then Some (more head below none) else option_map (λ q. more head below q) (run_to end rest)) ≡ Some run → ((q : Sels Span) → run_to end rest ≡ Some q → UpTo end rest q) → UpTo end (more head below rest) run
    by true t f next = record {
      inside = [];
      last = own;
      behind = items rest;
      whole = ap (λ (r : Sels Span). more head below r) (items_row rest);
      is = cc;
      ends = same_number (head_place head).end end t;
      ends_first = λ s c p. nothing_in s c;
    }
    by false t f next = behind (run_to end rest) refl (other_number (head_place head).end end t) f next

goes_to : (end : ℕ) (inside : List (Sel Span)) (last : Sel Span) (behind : List (Sel Span)) → end_of last ≡ end → ((s : Sel Span) → Contains inside s → end_of s ≢ end) → run_to end (row (inside ++ last ∷ behind)) ≡ Some (row (inside ++ last ∷ []))
goes_to end [] last behind e h =
    ap (λ (t : Bool). if t then Some (more last.label last.below none) else option_map (λ run. more last.label last.below run) (run_to end (row behind))) (same_test (end_of last) end e)
goes_to end (s ∷ inside) last behind e h =
    ap (λ (t : Bool). if t then Some (more s.label s.below none) else option_map (λ run. more s.label s.below run) (run_to end (row (inside ++ last ∷ behind)))) (other_test (end_of s) end (h s (first s s inside refl)))
    ∙ ap (option_map (λ run. more s.label s.below run)) (goes_to end inside last behind e (λ t c. h t (later s t inside c)))

-- ---- from the one that begins there

begins_with : (start : ℕ) (head : Head Span) (below rest : Sels Span) (inside : List (Sel Span)) (last : Sel Span) (behind : List (Sel Span)) → (head_place head).start ≡ start → more head below rest ≡ row (inside ++ last ∷ behind) → BeginAt start (inside ++ last ∷ [])
begins_with start head below rest [] last behind e w = let same : head ≡ last.label = cc in subst (λ (h : Head Span). (head_place h).start ≡ start) same e
begins_with start head below rest (s ∷ inside) last behind e w = let same : head ≡ s.label = cc in subst (λ (h : Head Span). (head_place h).start ≡ start) same e

to_run : (start end : ℕ) (sels run : Sels Span) → run_in start end sels ≡ Some run → IsRun start end sels run
to_run start end none run e = cc
to_run start end (more head below rest) run e = by (nat_eq (head_place head).start start) refl e (λ f. to_run start end rest run f)
  where
    own : Sel Span
    own = record { label = head; below = below }

    by : (t : Bool) → nat_eq (head_place head).start start ≡ t → (if t then run_to end (more head below rest) else run_in start end rest) ≡ Some run → (run_in start end rest ≡ Some run → IsRun start end rest run) → IsRun start end (more head below rest) run
    by true t f next =
        let i = up_to end (more head below rest) run f in
        record {
          before = [];
          inside = i.inside;
          last = i.last;
          behind = i.behind;
          whole = i.whole;
          is = i.is;
          begins = begins_with start head below rest i.inside i.last i.behind (same_number (head_place head).start start t) i.whole;
          ends = i.ends;
          begins_first = λ s c p. nothing_in s c;
          ends_first = i.ends_first;
        }
    by false t f next =
        let i = next f in
        record {
          before = own ∷ i.before;
          inside = i.inside;
          last = i.last;
          behind = i.behind;
          whole = ap (λ (r : Sels Span). more head below r) i.whole;
          is = i.is;
          begins = i.begins;
          ends = i.ends;
          begins_first = none_behind (λ s. begin_of s ≡ start) own i.before (other_number (head_place head).start start t) i.begins_first;
          ends_first = i.ends_first;
        }

starts_there : (start end : ℕ) (inside : List (Sel Span)) (last : Sel Span) (behind : List (Sel Span)) → BeginAt start (inside ++ last ∷ []) → run_in start end (row (inside ++ last ∷ behind)) ≡ run_to end (row (inside ++ last ∷ behind))
starts_there start end [] last behind b = ap (λ (t : Bool). if t then run_to end (row (last ∷ behind)) else run_in start end (row behind)) (same_test (begin_of last) start b)
starts_there start end (s ∷ inside) last behind b = ap (λ (t : Bool). if t then run_to end (row (s ∷ (inside ++ last ∷ behind))) else run_in start end (row (inside ++ last ∷ behind))) (same_test (begin_of s) start b)

goes_past : (start end : ℕ) (before others : List (Sel Span)) → ((s : Sel Span) → Contains before s → begin_of s ≢ start) → run_in start end (row (before ++ others)) ≡ run_in start end (row others)
goes_past start end [] others h = refl
goes_past start end (s ∷ before) others h =
    ap (λ (t : Bool). if t then run_to end (row (s ∷ (before ++ others))) else run_in start end (row (before ++ others))) (other_test (begin_of s) start (h s (first s s before refl)))
    ∙ goes_past start end before others (λ t c. h t (later s t before c))

from_run : (start end : ℕ) (sels run : Sels Span) → IsRun start end sels run → run_in start end sels ≡ Some run
from_run start end sels run r =
    ap (run_in start end) r.whole
    ∙ goes_past start end r.before (r.inside ++ r.last ∷ r.behind) r.begins_first
    ∙ starts_there start end r.inside r.last r.behind r.begins
    ∙ goes_to end r.inside r.last r.behind r.ends r.ends_first
    ∙ ap Some (sym r.is)

pub runs_are_runs : RunsAreRuns
runs_are_runs start end sels run = (to_run start end sels run, from_run start end sels run)

-- ---- the first set that has one

module _ (start end : ℕ) where
  abbrev HasNone : List SetOf → Type 0
  HasNone sets = (s : SetOf) (run : Sels Span) → Contains sets s → IsRun start end s.selections run → ⊥

  no_run : (s : SetOf) → run_in start end s.selections ≡ None → (run : Sels Span) → IsRun start end s.selections run → ⊥
  no_run s e run r = let f = from_run start end s.selections run r in let bad : ◌≡◌ {A = Option (Sels Span)} None (Some run) = sym e ∙ f in cc

  none_more : (s : SetOf) (sets : List SetOf) → run_in start end s.selections ≡ None → HasNone sets → HasNone (s ∷ sets)
  none_more s sets e h t run c r = elim (cases_cons s t sets c) [
    | inl same ↦ no_run s e run (subst (λ (z : SetOf). IsRun start end z.selections run) (sym same) r)
    | inr d ↦ h t run d r
  ]

  abbrev run_by : SetOf → Option (Sels Span) → Option RunOf
  run_by s o = option_map (λ run. record { parent = s.parent; run = run }) o

  to_first : (sets : List SetOf) (r : RunOf) → find_run start end sets ≡ Some r → IsFirstRun start end sets r
  to_first [] r e = cc
  to_first (s ∷ sets) r e = by (run_in start end s.selections) refl e (λ f. to_first sets r f)
    where
      by : (o : Option (Sels Span)) → run_in start end s.selections ≡ o → option_or (run_by s o) (find_run start end sets) ≡ Some r → (find_run start end sets ≡ Some r → IsFirstRun start end sets r) → IsFirstRun start end (s ∷ sets) r
      by None p f next =
          let i = next f in
          record {
            before = s ∷ i.before;
            set = i.set;
            behind = i.behind;
            whole = ap (λ (l : List SetOf). s ∷ l) i.whole;
            parent = i.parent;
            is_run = i.is_run;
            none_before = none_more s i.before p i.none_before;
          }
      by (Some run) p f next =
          let own : RunOf = record { parent = s.parent; run = run } in
          let same : own ≡ r = cc in
          record {
            before = [];
            set = s;
            behind = sets;
            whole = refl;
            parent = ap (λ (z : RunOf). z.parent) (sym same);
            is_run = to_run start end s.selections r.run (p ∙ ap (λ (z : RunOf). Some z.run) same);
            none_before = λ t q c. nothing_in t c;
          }

  past_sets : (before others : List SetOf) → HasNone before → find_run start end (before ++ others) ≡ find_run start end others
  past_sets [] others h = refl
  past_sets (s ∷ before) others h = by (run_in start end s.selections) refl (past_sets before others (λ t run c r. h t run (later s t before c) r))
    where
      by : (o : Option (Sels Span)) → run_in start end s.selections ≡ o → find_run start end (before ++ others) ≡ find_run start end others → option_or (run_by s o) (find_run start end (before ++ others)) ≡ find_run start end others
      by None p next = next
      by (Some run) p next = absurd (h s run (first s s before refl) (to_run start end s.selections run p))

  from_first : (sets : List SetOf) (r : RunOf) → IsFirstRun start end sets r → find_run start end sets ≡ Some r
  from_first sets r i =
      let is : RunOf = record { parent = i.set.parent; run = r.run } in
      let same : is ≡ r = ap (λ (p : Option Text). let q : RunOf = record { parent = p; run = r.run } in q) (sym i.parent) in
      ap (find_run start end) i.whole
      ∙ past_sets i.before (i.set ∷ i.behind) i.none_before
      ∙ ap (λ (o : Option (Sels Span)). option_or (run_by i.set o) (find_run start end i.behind)) (from_run start end i.set.selections r.run i.is_run)
      ∙ ap Some same

  to_none : (sets : List SetOf) → find_run start end sets ≡ None → HasNone sets
  to_none [] e = λ s run c r. nothing_in s c
  to_none (s ∷ sets) e = by (run_in start end s.selections) refl e (λ f. to_none sets f)
    where
      by : (o : Option (Sels Span)) → run_in start end s.selections ≡ o → option_or (run_by s o) (find_run start end sets) ≡ None → (find_run start end sets ≡ None → HasNone sets) → HasNone (s ∷ sets)
      by None p f next = none_more s sets p (next f)
      by (Some run) p f next = cc

  from_none : (sets : List SetOf) → HasNone sets → find_run start end sets ≡ None
  from_none [] h = refl
  from_none (s ∷ sets) h = by (run_in start end s.selections) refl (from_none sets (λ t run c r. h t run (later s t sets c) r))
    where
      by : (o : Option (Sels Span)) → run_in start end s.selections ≡ o → find_run start end sets ≡ None → option_or (run_by s o) (find_run start end sets) ≡ None
      by None p next = next
      by (Some run) p next = absurd (h s run (first s s sets refl) (to_run start end s.selections run p))

pub first_run_is_found : FirstRunIsFound
first_run_is_found start end sets r = (to_first start end sets r, from_first start end sets r)

pub no_run_is_found : NoRunIsFound
no_run_is_found start end sets = (to_none start end sets, from_none start end sets)
