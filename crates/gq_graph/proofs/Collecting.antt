-- What leads to each other, collected number by number against the order in which they were finished.
use Rattle.std.proofs.Math.Seq.{take-length}
use Rattle.std.proofs.Common.{ℕ, ◌+◌, ◌-◌, ◌<◌, ◌≡◌, List, [], ◌∷◌, ◌++◌, Bool, true, false, length, take, drop, sym, ◌∙◌, ap, subst, arith, inl, inr, ◌⊎◌, get_or}
use Rattle.std.specs.Prelude.{Contains, All, ◌↔◌}
use Rattle.std.specs.declared.vec.Vec.{Vec}
use Rattle.std.specs.declared.alloc.Global.{Global}
use Rattle.std.proofs.lemmas.List.{append_assoc, length-append, length_push, take_at, drop_at, drop_all, take_rest, get_or_append_left, get_or-append-add, get_or_default}
use Rattle.std.proofs.lemmas.List.Elements.{Contains-append_left, Contains-append_right, Contains-append_cases, Contains-push, Contains-push_cases, All-nil, All-push, All-append, All-contains, All-weaker}
use Rattle.gq_graph.specs.Reach.{Reach, start, step, LeadsBack, row, InRange, NoneTwice}
use Rattle.gq_graph.specs.Helping.Found.{Marked, Added}
use Rattle.gq_graph.specs.Helping.Finished.{Finished}
use Rattle.gq_graph.specs.Transposed.{Transposed}
use Rattle.gq_graph.specs.Components.{Led, Closed, Also, SomeMarked, Collected}
use Rattle.gq_graph.proofs.Ways.{contains_nothing, contains_one, one_contains, way_on, way_of, way_from, way_back, way_starts, way_into, FirstStep, first_step, Beyond, beyond, Parts, finished_pop}
use Rattle.gq_graph.proofs.Marking.{marked_at}
use Rattle.gq_graph.proofs.Walking.{row_below_all}

abbrev pub At : List Bool → ℕ → Type 0
At marks n = get_or marks n false ≡ true

-- what was found before the number came is still led to its own
pub led_added : (prev : ℕ → List ℕ) (old new : List ℕ) (n from : ℕ) → Led prev old old → Added n old new → from ≡ length old →
    Led prev (take from new) new
led_added prev old new n from led (inl q) e =
    let front : take from new ≡ old = ap (λ l. take from l) q.1 ∙ take_at old (n ∷ []) from (sym e) in
    subst (λ l. Led prev l new) (sym front)
    (All-weaker (λ m. All (λ k. Contains old k) (prev m)) (λ m. All (λ k. Contains new k) (prev m))
    (λ m. All-weaker (λ k. Contains old k) (λ k. Contains new k)
    (λ k h. subst (λ l. Contains l k) (sym q.1) (Contains-append_left old (n ∷ []) k h)) (prev m))
    old led)
led_added prev old new n from led (inr q) e =
    let front : take from new ≡ old = ap (λ l. take from l) q.1 ∙ ap (λ k. take k old) e ∙ take-length old in
    subst (λ l. Led prev l new) (sym front) (subst (λ l. Led prev old l) (sym q.1) led)

-- what was found with the number
pub record Part (prev : ℕ → List ℕ) (number : ℕ) (old new : List ℕ) : Type 0 where
  pub added : List ℕ
  pub is : new ≡ old ++ added
  pub here : Contains new number
  pub taken : All (λ n. Reach (number ∷ []) prev n) added
  pub led : Led prev new new

pub part : (prev : ℕ → List ℕ) (n from : ℕ) (old one new : List ℕ) → Added n old one → from ≡ length old →
    Closed prev (drop from one) one new → Part prev n old new
part prev n from old one new (inl q) e c =
    let rest : drop from one ≡ n ∷ [] = ap (λ l. drop from l) q.1 ∙ drop_at old (n ∷ []) from (sym e) in
    record {
      added = (n ∷ []) ++ c.added;
      is = c.is ∙ ap (λ l. l ++ c.added) q.1 ∙ append_assoc old (n ∷ []) c.added;
      here = subst (λ l. Contains l n) (sym c.is) (Contains-append_left one c.added n (subst (λ l. Contains l n) (sym q.1) (Contains-push old n)));
      taken = All-append (λ k. Reach (n ∷ []) prev k) (n ∷ []) c.added
          (All-push (λ k. Reach (n ∷ []) prev k) [] n (All-nil (λ k. Reach (n ∷ []) prev k)) (start (one_contains n)))
          (subst (λ l. All (λ k. Reach l prev k) c.added) rest c.taken);
      led = c.led;
    }
part prev n from old one new (inr q) e c =
    let rest : drop from one ≡ [] = ap (λ l. drop from l) q.1 ∙ drop_all from old (omega (arith, e)) in
    record {
      added = c.added;
      is = c.is ∙ ap (λ l. l ++ c.added) q.1;
      here = subst (λ l. Contains l n) (sym c.is) (Contains-append_left one c.added n (subst (λ l. Contains l n) (sym q.1) q.0));
      taken = All-weaker (λ k. Reach (drop from one) prev k) (λ k. Reach (n ∷ []) prev k)
          (way_starts prev (drop from one) (n ∷ []) (λ k h. absurd (contains_nothing k (subst (λ l. Contains l k) rest h)))) c.added c.taken;
      led = c.led;
    }

-- what was added is marked: the list l from a place on
pub collected : (ahead : List ℕ) (prev : ℕ → List ℕ) (number from : ℕ) (old new l : List ℕ) (found_marks marks marks' : List Bool) →
    Part prev number old new → from ≡ length old → l ≡ new → Marked found_marks new → SomeMarked ahead found_marks →
    Also (take (length l - from) (drop from l)) marks marks' → Collected ahead prev number old new marks marks'
collected ahead prev number from old new l found_marks marks marks' p e q m s also =
    let slice : take (length l - from) (drop from l) ≡ p.added =
    take_rest l from ∙ ap (λ k. drop from k) (q ∙ p.is) ∙ drop_at old p.added from (sym e) in
    let a : Also p.added marks marks' = subst (λ k. Also k marks marks') slice also in
    record {
      added = p.added;
      is = p.is;
      here = p.here;
      taken = p.taken;
      led = p.led;
      kept = a.kept;
      put = λ b on found. a.put;
      only = λ n h. elim (a.only n h) [ inl before ↦ inl before | inr now ↦ inr (now, s.0, s.1, m.listed s.0 s.2) ];
    }

pub collected_unmarked : (ahead : List ℕ) (prev : ℕ → List ℕ) (number : ℕ) (old new : List ℕ) (found_marks marks : List Bool) → Part prev number old new →
    Marked found_marks new → (SomeMarked ahead found_marks → ⊥) → Collected ahead prev number old new marks marks
collected_unmarked ahead prev number old new found_marks marks p m s = record {
  added = p.added;
  is = p.is;
  here = p.here;
  taken = p.taken;
  led = p.led;
  kept = λ n h. h;
  put = λ b on found. absurd (s (b, on, marked_at found_marks new b m found));
  only = λ n h. inl h;
}

-- no number twice: what was added was not there
pub once_apart : (old added : List ℕ) → NoneTwice (old ++ added) → (n : ℕ) → Contains old n → Contains added n → ⊥
once_apart old added once n h k =
    let at_old : get_or (old ++ added) h.0 0 ≡ n =
    get_or_append_left old added 0 h.0 h.1 ∙ get_or_default old h.0 0 n h.1 ∙ h.2 in
    let at_new : get_or (old ++ added) (length old + k.0) 0 ≡ n =
    get_or-append-add old added k.0 0 ∙ get_or_default added k.0 0 n k.1 ∙ k.2 in
    once h.0 (length old + k.0) (omega (arith, h.1)) (omega (arith, k.1, length-append old added)) (at_old ∙ sym at_new)

-- One turn: the numbers l are to come, v has its turn, and what leads to a found number was found.
pub record Turn (next : ℕ → List ℕ) (count : ℕ) (l : List ℕ) (v : ℕ) (found found' added : List ℕ) : Type 0 where
  pub closed : (m n : ℕ) → Contains found n → Contains (next m) n → Contains found m
  pub closed' : (m n : ℕ) → Contains found' n → Contains (next m) n → Contains found' m
  pub is : found' ≡ found ++ added
  pub apart : (n : ℕ) → Contains found n → Contains added n → ⊥
  pub here : Contains found' v
  pub leads : (n : ℕ) → Contains added n → Reach (n ∷ []) next v
  pub before : Finished next l
  pub new : Contains l v → ⊥
  pub all : (n : ℕ) → n < count → Contains (l ++ v ∷ []) n ⊎ Contains found n
  pub below : (n : ℕ) → Contains added n → n < count
  pub range : (m n : ℕ) → m < count → Contains (next m) n → n < count

way_range : (next : ℕ → List ℕ) (count : ℕ) → ((m n : ℕ) → m < count → Contains (next m) n → n < count) →
    (m n : ℕ) → m < count → Reach (m ∷ []) next n → n < count
way_range next count range m n lt (start h) = subst (λ k. k < count) (sym (contains_one m n h)) lt
way_range next count range m n lt (step {m = k} r h) = range k n (way_range next count range m k lt r) h

-- what is found in v's turn leads to v, and v leads to it
pub turn_back : (next : ℕ → List ℕ) (count : ℕ) (l : List ℕ) (v : ℕ) (found found' added : List ℕ) →
    Turn next count l v found found' added → (n : ℕ) → Contains added n → Reach (v ∷ []) next n
turn_back next count l v found found' added t n h =
    elim (t.all n (t.below n h)) [
      | inr old ↦ absurd (t.apart n old h)
      | inl to_come ↦ elim (Contains-push_cases l v n to_come) [
        | inr same ↦ start (subst (λ k. Contains (v ∷ []) k) same (one_contains v))
        | inl later ↦
            let b : Beyond next l n = beyond next l t.before n v later t.new (t.leads n h) in
            let b_in : b.by < count = way_range next count t.range n b.by (t.below n h) b.to in
            elim (t.all b.by b_in) [
              | inr old ↦ absurd (t.apart n (way_into next found t.closed n b.by b.to old) h)
              | inl q ↦ elim (Contains-push_cases l v b.by q) [
                | inl inside ↦ absurd (b.outside inside)
                | inr is_v ↦ subst (λ k. Reach (k ∷ []) next n) (sym is_v) b.from
              ]
            ]
      ]
    ]

-- a way and then a step more
pub way_then : (next : ℕ → List ℕ) (m k n : ℕ) → Reach (m ∷ []) next k → Reach (next k) next n → Reach (next m) next n
way_then next m k n (start h) r = subst (λ j. Reach (next j) next n) (contains_one m k h) r
way_then next m k n (step {m = j} s h) r = way_then next m j n s (way_from next j k n h (way_of next k n r))

-- if v leads to what was found, then what was found with it leads back
turn_rings : (next : ℕ → List ℕ) (count : ℕ) (l : List ℕ) (v : ℕ) (found found' added : List ℕ) →
    Turn next count l v found found' added → (n b : ℕ) → Contains added n → Contains (next v) b → Contains found' b → LeadsBack next n
turn_rings next count l v found found' added t n b h on in' =
    elim (Contains-append_cases found added b (subst (λ k. Contains k b) t.is in')) [
      | inl old ↦ absurd (t.apart n (way_into next found t.closed n v (t.leads n h) (t.closed v b old on)) h)
      | inr new ↦
          way_on (next n) next v n (way_then next n v v (t.leads n h) (way_from next v b v on (t.leads b new)))
          (turn_back next count l v found found' added t n h)
    ]

-- and if something of that leads back, then v leads to something of it
turn_finds : (next : ℕ → List ℕ) (count : ℕ) (l : List ℕ) (v : ℕ) (found found' added : List ℕ) →
    Turn next count l v found found' added → (n : ℕ) → Contains added n → LeadsBack next n →
    (b : ℕ) × Contains (next v) b × Contains found' b
turn_finds next count l v found found' added t n h r =
    let ring : Reach (next v) next v =
    way_on (next v) next n v (way_then next v n n (turn_back next count l v found found' added t n h) r) (t.leads n h) in
    let f : FirstStep next (next v) v = first_step next (next v) v ring in
    (f.by, f.on, way_into next found' t.closed' f.by v f.rest t.here)

-- the numbers of this list are to come
pub record Components (rows back : List (Vec ℕ Global)) (order : List ℕ) (found_marks : List Bool) (found : List ℕ) (marks : List Bool) : Type 0 where
  pub order_is : Finished (row rows) order
  pub range : All (λ n. n < length rows) order
  pub all : (n : ℕ) → n < length rows → Contains order n ⊎ Contains found n
  pub marked : Marked found_marks found
  pub found_count : length found_marks ≡ length rows
  pub marks_count : length marks ≡ length rows
  pub led : Led (row back) found found
  pub sound : (n : ℕ) → At marks n → LeadsBack (row rows) n
  pub complete : (n : ℕ) → Contains found n → LeadsBack (row rows) n → At marks n

led_closed : (rows back : List (Vec ℕ Global)) (found : List ℕ) → Transposed rows back → Led (row back) found found →
    (m n : ℕ) → Contains found n → Contains (row rows m) n → Contains found m
led_closed rows back found t led m n h on =
    All-contains (λ k. Contains found k) (row back n) m
    (All-contains (λ j. All (λ k. Contains found k) (row back j)) found n led h) (t.complete m n on)

-- One turn of a table: what was found before and after it.
pub turn : (rows back : List (Vec ℕ Global)) (l : List ℕ) (v : ℕ) (marks' : List Bool) (found found' added : List ℕ) →
    InRange rows → Transposed rows back → Finished (row rows) (l ++ v ∷ []) → ((n : ℕ) → n < length rows → Contains (l ++ v ∷ []) n ⊎ Contains found n) →
    Led (row back) found found → Led (row back) found' found' → found' ≡ found ++ added → Contains found' v → All (λ n. Reach (v ∷ []) (row back) n) added →
    Marked marks' found' → length marks' ≡ length rows → Turn (row rows) (length rows) l v found found' added
turn rows back l v marks' found found' added range t order all led led' is here taken m e =
    let parts : Parts (row rows) l v = finished_pop (row rows) l v order in
    record {
      closed = led_closed rows back found t led;
      closed' = led_closed rows back found' t led';
      is = is;
      apart = once_apart found added (subst (λ j. NoneTwice j) is m.once);
      here = here;
      leads = λ n h. way_back (row rows) (row back) t.sound v n (All-contains (λ j. Reach (v ∷ []) (row back) j) added n taken h);
      before = parts.before;
      new = parts.new;
      all = all;
      below = λ n h. subst (λ j. n < j) e (All-contains (λ j. j < length marks') found' n m.within
          (subst (λ j. Contains j n) (sym is) (Contains-append_right found added n h)));
      range = λ a b lt h. row_below_all rows (length rows) a b range h;
    }

pub components_next : (rows back : List (Vec ℕ Global)) (l : List ℕ) (v : ℕ) (found_marks found_marks' marks marks' : List Bool) (found found' : List ℕ) →
    InRange rows → Transposed rows back → Components rows back (l ++ v ∷ []) found_marks found marks →
    Collected (row rows v) (row back) v found found' marks marks' → Marked found_marks' found' → length found_marks' ≡ length rows →
    length marks' ≡ length marks → Components rows back l found_marks' found' marks'
components_next rows back l v found_marks found_marks' marks marks' found found' range t k c m e same =
    let u : Turn (row rows) (length rows) l v found found' c.added =
    turn rows back l v found_marks' found found' c.added range t k.order_is k.all k.led c.led c.is c.here c.taken m e in
    record {
      order_is = u.before;
      range = λ i d lt. subst (λ j. j < length rows) (get_or_append_left l (v ∷ []) d i lt) (k.range i d (omega (arith, lt, length_push l v)));
      all = λ n lt. elim (k.all n lt) [
        | inr old ↦ inr (subst (λ j. Contains j n) (sym c.is) (Contains-append_left found c.added n old))
        | inl q ↦ elim (Contains-push_cases l v n q) [
          | inl later ↦ inl later
          | inr is_v ↦ inr (subst (λ j. Contains found' j) is_v c.here)
        ]
      ];
      marked = m;
      found_count = e;
      marks_count = same ∙ k.marks_count;
      led = c.led;
      sound = λ n h. elim (c.only n h) [
        | inl before ↦ k.sound n before
        | inr now ↦ turn_rings (row rows) (length rows) l v found found' c.added u n now.1 now.0 now.2 now.3
      ];
      complete = λ n h r. elim (Contains-append_cases found c.added n (subst (λ j. Contains j n) c.is h)) [
        | inl old ↦ c.kept n (k.complete n old r)
        | inr new ↦
            let b : (b : ℕ) × Contains (row rows v) b × Contains found' b = turn_finds (row rows) (length rows) l v found found' c.added u n new r in
            All-contains (λ j. At marks' j) c.added n (c.put b.0 b.1 b.2) new
      ];
    }

pub components_end : (rows back : List (Vec ℕ Global)) (found_marks : List Bool) (found : List ℕ) (marks : List Bool) →
    Components rows back [] found_marks found marks → (n : ℕ) → n < length rows → At marks n ↔ LeadsBack (row rows) n
components_end rows back found_marks found marks k n lt =
    (k.sound n, k.complete n (elim (k.all n lt) [ inl none ↦ absurd (contains_nothing n none) | inr h ↦ h ]))

-- the number whose turn it is
pub turn_range : (rows back : List (Vec ℕ Global)) (l : List ℕ) (v : ℕ) (found_marks : List Bool) (found : List ℕ) (marks : List Bool) →
    Components rows back (l ++ v ∷ []) found_marks found marks → v < length rows
turn_range rows back l v found_marks found marks k = All-contains (λ j. j < length rows) (l ++ v ∷ []) v k.range (Contains-push l v)
