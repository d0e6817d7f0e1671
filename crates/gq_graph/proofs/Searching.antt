-- The search: what was found and is done leads to what was found.
use Rattle.std.proofs.Math.Seq.{take-length}
use Rattle.std.proofs.Common.{ℕ, zero, suc, ◌+◌, ◌-◌, ◌≤◌, ◌<◌, ◌≡◌, List, [], ◌∷◌, ◌++◌, Bool, length, take, drop, sym, ◌∙◌, ap, subst, refl, arith, get_or, take-suc, add-one}
use Rattle.std.specs.Prelude.{Contains, All}
use Rattle.std.specs.declared.vec.Vec.{Vec}
use Rattle.std.specs.declared.alloc.Global.{Global}
use Rattle.std.proofs.lemmas.List.{append_assoc, length-append, length-drop, take-append-le, drop-append-le, get_or-drop, append-nil}
use Rattle.std.proofs.lemmas.List.Elements.{Contains-append_right, Contains-get_or, All-nil, All-push, All-append, All-contains, All-contains_itself, All-get_or, All-weaker}
use Rattle.gq_graph.specs.Reach.{Reach, start, step, row, InRange}
use Rattle.gq_graph.specs.Helping.Found.{count_marked, Marked, Grown}
use Rattle.gq_graph.specs.Components.{Led, Closed}
use Rattle.gq_graph.proofs.Marking.{count_le, grown_keeps}

pub reach_complete : (starts : List ℕ) (next : ℕ → List ℕ) (found : List ℕ) →
    All (λ n. Contains found n) starts → Led next found found →
    (n : ℕ) → Reach starts next n → Contains found n
reach_complete starts next found s l n (start h) = All-contains (λ k. Contains found k) starts n s h
reach_complete starts next found s l n (step {m} r h) =
    All-contains (λ k. Contains found k) (next m) n
    (All-contains (λ j. All (λ k. Contains found k) (next j)) found m l (reach_complete starts next found s l m r)) h

led_grown : (next : ℕ → List ℕ) (done ns old new : List ℕ) →
    Led next done old → Grown ns old new → Led next done new
led_grown next done ns old new l g =
    All-weaker (λ m. All (λ n. Contains old n) (next m)) (λ m. All (λ n. Contains new n) (next m))
    (λ m. All-weaker (λ n. Contains old n) (λ n. Contains new n) (grown_keeps ns old new g) (next m)) done l

-- the first numbers are those of before, and one more
taken_more : (ns old new : List ℕ) (i m : ℕ) → i < length old → get_or old i m ≡ m → Grown ns old new →
    take (i + 1) new ≡ take i old ++ m ∷ []
taken_more ns old new i m lt e g =
    ap (λ k. take (i + 1) k) g.is ∙ take-append-le (i + 1) old g.added (omega (arith, lt))
    ∙ ap (λ k. take k old) (add-one i) ∙ take-suc old i m lt ∙ ap (λ k. take i old ++ k ∷ []) e

-- one more number done
led_next : (next : ℕ → List ℕ) (old new : List ℕ) (i m : ℕ) →
    i < length old → get_or old i m ≡ m →
    Led next (take i old) old → Grown (next m) old new → Led next (take (i + 1) new) new
led_next next old new i m lt e l g =
    let P : ℕ → Type 0 = λ j. All (λ n. Contains new n) (next j) in
    subst (λ k. All P k) (sym (taken_more (next m) old new i m lt e g))
    (All-push P (take i old) m
    (led_grown next (take i old) (next m) old new l g)
    g.holds)

sound_next : (starts : List ℕ) (next : ℕ → List ℕ) (old new : List ℕ) (from i m : ℕ) →
    from ≤ i → i < length old → get_or old i m ≡ m →
    All (λ n. Reach starts next n) (drop from old) → Grown (next m) old new →
    All (λ n. Reach starts next n) (drop from new)
sound_next starts next old new from i m past lt e s g =
    let P : ℕ → Type 0 = λ n. Reach starts next n in
    let there : get_or (drop from old) (i - from) m ≡ m =
    get_or-drop from old (i - from) m ∙ ap (λ k. get_or old k m) (omega (arith, past)) ∙ e in
    let inside : i - from < length (drop from old) = omega (arith, past, lt, length-drop from old) in
    let at : P m = subst P there (All-get_or P (drop from old) (i - from) m inside s) in
    subst (λ l. All P l) (sym (ap (λ k. drop from k) g.is ∙ drop-append-le from old g.added (omega (arith, past, lt))))
    (All-append P (drop from old) g.added s
    (All-weaker (λ n. Contains (next m) n) P (λ n h. step at h) g.added g.taken))

-- The state of the search: these many of the found ones are done. From a place on, all that was found is reached.
pub record Search (starts : List ℕ) (next : ℕ → List ℕ) (count from : ℕ) (marks : List Bool) (found : List ℕ) (done : ℕ) : Type 0 where
  pub marked : Marked marks found
  pub same : length marks ≡ count
  pub most : done ≤ length found
  pub past : from ≤ done
  pub began : All (λ n. Contains found n) starts
  pub sound : All (λ n. Reach starts next n) (drop from found)
  pub led : Led next (take done found) found

pub search_starts : (starts : List ℕ) (next : ℕ → List ℕ) (count : ℕ) (marks : List Bool) (new : List ℕ) →
    Marked marks new → length marks ≡ count → Grown starts [] new → Search starts next count 0 marks new 0
search_starts starts next count marks new m e g = record {
  marked = m;
  same = e;
  most = omega arith;
  past = omega arith;
  began = g.holds;
  sound = subst (λ l. All (λ n. Reach starts next n) l) (sym g.is)
      (All-weaker (λ n. Contains starts n) (λ n. Reach starts next n) (λ n h. start h) g.added g.taken);
  led = All-nil (λ m. All (λ n. Contains new n) (next m));
}

contains_dropped : (i : ℕ) (ns : List ℕ) (n : ℕ) → Contains (drop i ns) n → Contains ns n
contains_dropped zero ns n h = h
contains_dropped (suc i) [] n h = h
contains_dropped (suc i) (m ∷ ns) n h = Contains-append_right (m ∷ []) ns n (contains_dropped i ns n h)

-- the search goes on from a list whose first numbers are done
pub search_continues : (next : ℕ → List ℕ) (count from : ℕ) (marks : List Bool) (found : List ℕ) →
    Marked marks found → length marks ≡ count → from ≤ length found → Led next (take from found) found →
    Search (drop from found) next count from marks found from
search_continues next count from marks found m e most led = record {
  marked = m;
  same = e;
  most = most;
  past = omega arith;
  began = All-weaker (λ n. Contains (drop from found) n) (λ n. Contains found n) (contains_dropped from found) (drop from found)
      (All-contains_itself (drop from found));
  sound = All-weaker (λ n. Contains (drop from found) n) (λ n. Reach (drop from found) next n) (λ n h. start h) (drop from found)
      (All-contains_itself (drop from found));
  led = led;
}

pub search_next : (starts : List ℕ) (next : ℕ → List ℕ) (count from : ℕ) (marks marks' : List Bool) (old new : List ℕ) (i m : ℕ) →
    Search starts next count from marks old i → i < length old → get_or old i m ≡ m →
    Marked marks' new → length marks' ≡ length marks → Grown (next m) old new →
    Search starts next count from marks' new (i + 1)
search_next starts next count from marks marks' old new i m s lt e marked same g =
    let n : length new ≡ length old + length g.added = ap length g.is ∙ length-append old g.added in
    record {
      marked = marked;
      same = same ∙ s.same;
      most = omega (arith, n, lt);
      past = omega (arith, s.past);
      began = All-weaker (λ k. Contains old k) (λ k. Contains new k) (grown_keeps (next m) old new g) starts s.began;
      sound = sound_next starts next old new from i m s.past lt e s.sound g;
      led = led_next next old new i m lt e s.led g;
    }

pub all_led : (starts : List ℕ) (next : ℕ → List ℕ) (count from : ℕ) (marks : List Bool) (found : List ℕ) (done : ℕ) →
    Search starts next count from marks found done → (done < length found → ⊥) → Led next found found
all_led starts next count from marks found done s stop =
    let e : done ≡ length found = omega (arith, s.most, stop) in
    subst (λ l. Led next l found) (ap (λ k. take k found) e ∙ take-length found) s.led

pub search_ends : (starts : List ℕ) (next : ℕ → List ℕ) (count from : ℕ) (marks : List Bool) (found : List ℕ) (done : ℕ) →
    Search starts next count from marks found done → (done < length found → ⊥) →
    (n : ℕ) → Reach starts next n → Contains found n
search_ends starts next count from marks found done s stop =
    reach_complete starts next found s.began (all_led starts next count from marks found done s stop)

-- the list is longer by some numbers
abbrev pub Longer : List ℕ → List ℕ → Type 0
Longer old new = (added : List ℕ) × (new ≡ old ++ added)

pub longer_same : (ns : List ℕ) → Longer ns ns
longer_same ns = ([], sym (append-nil ns))

pub longer_next : (numbers a b c : List ℕ) → Longer a b → Grown numbers b c → Longer a c
longer_next numbers a b c l g = (l.0 ++ g.added, g.is ∙ ap (λ k. k ++ g.added) l.1 ∙ append_assoc a l.0 g.added)

pub search_closes : (next : ℕ → List ℕ) (count from : ℕ) (marks : List Bool) (old found : List ℕ) (done : ℕ) →
    from ≤ length old → Longer old found → Search (drop from old) next count from marks found done → (done < length found → ⊥) →
    Closed next (drop from old) old found
search_closes next count from marks old found done past l s stop =
    let P : ℕ → Type 0 = λ n. Reach (drop from old) next n in
    let parts : drop from found ≡ drop from old ++ l.0 = ap (λ k. drop from k) l.1 ∙ drop-append-le from old l.0 past in
    record {
      added = l.0;
      is = l.1;
      taken = λ k d lt.
          All-contains P (drop from found) (get_or l.0 k d) s.sound
          (subst (λ j. Contains j (get_or l.0 k d)) (sym parts) (Contains-append_right (drop from old) l.0 (get_or l.0 k d) (Contains-get_or l.0 k d lt)));
      led = all_led (drop from old) next count from marks found done s stop;
    }

-- not more numbers than there are
pub few : (marks : List Bool) (found : List ℕ) (count : ℕ) → Marked marks found → length marks ≡ count → length found ≤ count
few marks found count m same =
    let a : count_marked marks ≤ length marks = count_le marks in
    let b : length found ≤ count_marked marks = m.few in
    omega (arith, a, b, same)

-- what was found is a number of the graph
pub in_range : (marks : List Bool) (found : List ℕ) (count i m : ℕ) → Marked marks found → length marks ≡ count →
    i < length found → get_or found i m ≡ m → m < count
in_range marks found count i m s same lt e =
    subst (λ k. m < k) same (subst (λ k. k < length marks) e (All-get_or (λ n. n < length marks) found i m lt s.within))

-- a row of the table
pub row_at : (rows : List (Vec ℕ Global)) (m : ℕ) (d : Vec ℕ Global) → m < length rows → row rows m ≡ (get_or rows m d).items
row_at [] m d lt = absurd (omega (arith, lt))
row_at (v ∷ vs) zero d lt = refl
row_at (v ∷ vs) (suc m) d lt = row_at vs m d (omega (arith, lt))

-- a row of the table, as the code reads it
pub row_read : (rows : List (Vec ℕ Global)) (m : ℕ) (v : Vec ℕ Global) (l : List ℕ) → m < length rows →
    v ≡ get_or rows m v → l ≡ v.items → l ≡ row rows m
row_read rows m v l lt e q = q ∙ ap (λ (w : Vec ℕ Global). w.items) e ∙ sym (row_at rows m v lt)

pub row_in_range : (rows : List (Vec ℕ Global)) (m : ℕ) (v : Vec ℕ Global) (l : List ℕ) → InRange rows → m < length rows →
    v ≡ get_or rows m v → l ≡ v.items → All (λ n. n < length rows) l
row_in_range rows m v l r lt e q =
    subst (λ k. All (λ n. n < length rows) k) (sym (q ∙ ap (λ (w : Vec ℕ Global). w.items) e))
    (All-get_or (λ (w : Vec ℕ Global). All (λ n. n < length rows) w.items) rows m v lt r)
