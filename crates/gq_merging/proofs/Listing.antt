-- Rows of selection sets: those before a place have their rows, and the others wait.
use Rattle.std.proofs.Common.{◌≡◌, ◌⊎◌, ⊎_elim, inl, inr, ℕ, ◌+◌, ◌≤◌, ◌<◌, List, [], ◌∷◌, ◌++◌, append_assoc, Option, Some, None, All, Contains, map, drop, length, get_or, refl, sym, ◌∙◌, ap, subst, arith}
use Rattle.std.specs.List.{slice_get}
use Rattle.std.proofs.lemmas.List.{map-append, drop_more, drop-append-le, drop_all, length-append}
use Rattle.std.proofs.lemmas.Bool.{cases_eq}
use Rattle.std.proofs.lemmas.Option.{same_Some, none-some, slice_get-get_or, slice_get_within}
use Rattle.std.proofs.lemmas.List.Elements.{All-append, All-map, All-nil, All-push, All-weaker, All-contains, All-contains_itself, All-get_or}
use Rattle.gq_spreads.specs.Spreads.{places_from}
use Rattle.gq_types.specs.Entries.{Text}
use Rattle.gq_document.specs.Definitions.{FragmentOf}
use Rattle.gq_document.specs.Executable.{ExecutableOf}
use Rattle.gq_document.specs.FieldSets.{SetOf, operation_set, fragment_set, InSet, Stands, of_operation, of_fragment, of_field}
use Rattle.gq_merging.specs.Helping.SetTables.{RowOf, IsRow, AreRows, IsWithin, StandsWithin, IsLedTo, HasNumber, IsOfOne, AreNumbered, own_spreads, first_sets, names_of, spreads_at, weights}
use Rattle.gq_merging.specs.Helping.HubTables.{SpreadOf, IsAloneOf, AreHubs, AreLed, LeadsByHub, noted_at, hub_at, spreads_in, unset}
use Rattle.gq_merging.proofs.Worklist.{weights_append, fields_weigh, get_longer, get_seam, own_in, own_of, append_nothing, longer_number}
use Rattle.gq_merging.proofs.MemberLemmas.{get_below, get_map, map_get, from_places, spread_in, spreads_there}
use Rattle.gq_merging.proofs.HubLemmas.{same_text, hubs_longer}
use Rattle.gq_merging.proofs.HubSets.{own_of_spread, spread_of_own, own_alone, alone_within, one_within}

-- so far a row leads to the number at once, or by the hub of a name, whose row may wait
abbrev pub LedSoFar : List Text → List (Option ℕ) → List RowOf → ℕ → ℕ → Type 0
LedSoFar names hubs rows n k = Contains (spreads_at rows n) k ⊎ LeadsByHub names hubs rows n k

-- the rows of the first sets, where more sets wait
pub record Listing (x : ExecutableOf) (rows : List RowOf) (sets : List SetOf) (hubs : List (Option ℕ)) : Type 0 where
  pub others : List SetOf
  pub begin : sets ≡ first_sets x ++ others
  pub stand : All (StandsWithin x) sets
  pub taken : sets ≡ map (λ r. r.set) rows ++ drop (length rows) sets
  pub each : All (IsRow x sets) rows
  pub are : AreHubs (names_of x) sets hubs
  pub leads : (n k : ℕ) (s : SetOf) → n < length rows → slice_get sets n ≡ Some s → Contains (own_spreads (names_of x) s.selections) k → LedSoFar (names_of x) hubs rows n k

-- a set that stands
itself : (x : ExecutableOf) (s : SetOf) → Stands x s → StandsWithin x s
itself x s h = record { set = s; stands = h; within = λ f i. i }

first_stand : (x : ExecutableOf) → All (StandsWithin x) (first_sets x)
first_stand x =
    All-append (StandsWithin x) (map fragment_set x.fragments) (map (operation_set x.entries) x.operations)
    (All-map (StandsWithin x) fragment_set x.fragments
    (All-weaker (Contains x.fragments) (λ f. StandsWithin x (fragment_set f)) (λ f c. itself x (fragment_set f) (of_fragment c)) x.fragments (All-contains_itself x.fragments)))
    (All-map (StandsWithin x) (operation_set x.entries) x.operations
    (All-weaker (Contains x.operations) (λ o. StandsWithin x (operation_set x.entries o)) (λ o c. itself x (operation_set x.entries o) (of_operation c))
    x.operations (All-contains_itself x.operations)))

none_noted : (hubs : List (Option ℕ)) (ps : List ℕ) (hub : ℕ) → ((i : ℕ) → get_or hubs i None ≡ None) → noted_at hubs ps ≡ Some hub → ⊥
none_noted hubs [] hub free e = absurd (none-some hub e)
none_noted hubs (p ∷ ps) hub free e = absurd (none-some hub (sym (free p) ∙ e))

pub listing_starts : (x : ExecutableOf) (sets : List SetOf) (hubs : List (Option ℕ)) → sets ≡ first_sets x → ((i : ℕ) → get_or hubs i None ≡ None) → Listing x [] sets hubs
listing_starts x sets hubs e free = record {
  others = [];
  begin = e ∙ sym (append_nothing (first_sets x));
  stand = subst (All (StandsWithin x)) (sym e) (first_stand x);
  taken = refl;
  each = All-nil (IsRow x sets);
  are = λ t h noted. absurd (none_noted hubs (places_from 0 t (names_of x)) h free noted);
  leads = λ n k s l at c. absurd (omega (arith, l));
}

longer_within : (x : ExecutableOf) (sets added : List SetOf) (k : ℕ) (s : SetOf) → IsWithin x sets k s → IsWithin x (sets ++ added) k s
longer_within x sets added k s w = record { set = w.set; is_set = get_longer sets added k w.set w.is_set; within = w.within }

longer_row : (x : ExecutableOf) (sets added : List SetOf) (r : RowOf) → IsRow x sets r → IsRow x (sets ++ added) r
longer_row x sets added r h = record {
  fields = h.fields;
  numbers = All-weaker (HasNumber x.entries sets) (HasNumber x.entries (sets ++ added)) (λ m n. longer_number x.entries sets added m n) r.members h.numbers;
  inside = λ k c. longer_within x sets added k r.set (h.inside k c);
}

-- the sets of the fields of a set stand
below_stand : (x : ExecutableOf) (s : SetOf) → StandsWithin x s → (t : SetOf) → IsOfOne x.entries (own_of s) t → StandsWithin x t
below_stand x s h t of_one =
    itself x t (subst (Stands x) (sym of_one.is_set) (of_field h.stands (h.within of_one.one (All-contains (InSet x s) (own_of s) of_one.one (own_in x s.file s.parent s.selections) of_one.stands))))

-- so do the fields of a spread in it, where that is alone
alone_stands : (x : ExecutableOf) (s : SetOf) → StandsWithin x s → (t : SetOf) → IsAloneOf (spreads_in s.selections) t → StandsWithin x t
alone_stands x s h t a = record { set = h.set; stands = h.stands; within = λ f i. h.within f (one_within x s t a f i) }

-- the spreads of rows behind which one more is put
spreads_before : (rows : List RowOf) (r : RowOf) (n : ℕ) → n < length rows → spreads_at rows n ≡ spreads_at (rows ++ r ∷ []) n
spreads_before rows r n l =
    let q = get_below rows n l in
    spreads_there rows n q.0 q.1 ∙ sym (spreads_there (rows ++ r ∷ []) n q.0 (get_longer rows (r ∷ []) n q.0 q.1))

spreads_last : (rows : List RowOf) (r : RowOf) → spreads_at (rows ++ r ∷ []) (length rows) ≡ r.spreads
spreads_last rows r = spreads_there (rows ++ r ∷ []) (length rows) r (get_seam rows r [])

module _ (x : ExecutableOf) (rows : List RowOf) (sets mid new : List SetOf) (hubs hubs' : List (Option ℕ)) (r : RowOf)
    (h : Listing x rows sets hubs) (inside : length rows < length sets) (at : slice_get sets (length rows) ≡ Some r.set)
    (led : AreLed (names_of x) (length rows) (spreads_in r.set.selections) sets mid hubs hubs' r.spreads)
    (members : AreNumbered x.entries (own_of r.set) mid new r.members) where
  abbrev s : SetOf
  s = r.set

  abbrev names : List Text
  names = names_of x

  abbrev added : List SetOf
  added = led.added ++ members.added

  grown : new ≡ sets ++ added
  grown = members.grown ∙ ap (λ ss. ss ++ members.added) led.grown ∙ append_assoc sets led.added members.added

  waiting : drop (length rows) sets ≡ s ∷ drop (length rows + 1) sets
  waiting = drop_more sets (length rows) s inside ∙ ap (λ t. t ∷ drop (length rows + 1) sets) (same_Some (get_or sets (length rows) s) s (sym (slice_get-get_or sets (length rows) s inside) ∙ at))

  count : length (rows ++ r ∷ []) ≡ length rows + 1
  count = length-append rows (r ∷ [])

  waiting_then : drop (length (rows ++ r ∷ [])) new ≡ drop (length rows + 1) sets ++ added
  waiting_then = ap (λ n. drop n new) count ∙ ap (drop (length rows + 1)) grown ∙ drop-append-le (length rows + 1) sets added (omega (arith, inside))

  set_stands : StandsWithin x s
  set_stands =
      subst (StandsWithin x) (same_Some (get_or sets (length rows) s) s (sym (slice_get-get_or sets (length rows) s inside) ∙ at))
      (All-get_or (StandsWithin x) sets (length rows) s inside h.stand)

  longer : (k : ℕ) (t : SetOf) → slice_get sets k ≡ Some t → slice_get new k ≡ Some t
  longer k t e = ap (λ ss. slice_get ss k) grown ∙ get_longer sets added k t e

  -- the set of a fragment that is spread
  fragment_at : (k : ℕ) (g : FragmentOf) → slice_get x.fragments k ≡ Some g → slice_get sets k ≡ Some (fragment_set g)
  fragment_at k g e =
      ap (λ ss. slice_get ss k) h.begin
      ∙ get_longer (first_sets x) h.others k (fragment_set g)
      (get_longer (map fragment_set x.fragments) (map (operation_set x.entries) x.operations) k (fragment_set g) (get_map fragment_set x.fragments k g e))

  at_fragment : (one : SpreadOf) → Contains (spreads_in s.selections) one → (k : ℕ) → Contains (places_from 0 one.text names) k → IsWithin x new k s
  at_fragment one stands k c =
      let p = from_places 0 one.text names k c in
      let q = map_get (λ (f : FragmentOf). f.name.text) x.fragments k one.text (ap (slice_get names) (omega (arith, p.1)) ∙ p.2) in
      record {
        set = fragment_set q.0;
        is_set = longer k (fragment_set q.0) (fragment_at k q.0 q.1);
        within = λ f i. spread_in x s.file s.parent s.selections k q.0 f (own_of_spread names s.selections one k stands c) q.1 i;
      }

  at_hub : (one : SpreadOf) → Contains (spreads_in s.selections) one → (k : ℕ) → hub_at names hubs' one.text ≡ Some k → IsWithin x new k s
  at_hub one stands k e =
      let q = led.are one.text k e in
      record {
        set = q.0;
        is_set = ap (λ ss. slice_get ss k) members.grown ∙ get_longer mid members.added k q.0 q.1;
        within = alone_within x one.text q.0 s q.2 (λ j c. own_of_spread names s.selections one j stands c);
      }

  new_row : IsRow x new r
  new_row = record {
    fields = members.fields;
    numbers = members.numbers;
    inside = λ k c. let o = led.only k c in ⊎_elim (at_fragment o.one o.stands k) (at_hub o.one o.stands k) o.is;
  }

  taken_then : new ≡ map (λ r. r.set) (rows ++ r ∷ []) ++ drop (length (rows ++ r ∷ [])) new
  taken_then =
      let rest = drop (length rows + 1) sets in
      let before = map (λ (r : RowOf). r.set) rows in
      let a : sets ≡ before ++ (s ∷ rest) = h.taken ∙ ap (λ ss. before ++ ss) waiting in
      let b : new ≡ (before ++ (s ∷ rest)) ++ added = grown ∙ ap (λ ss. ss ++ added) a in
      let c : (before ++ (s ∷ rest)) ++ added ≡ before ++ (s ∷ (rest ++ added)) = append_assoc before (s ∷ rest) added in
      let d : before ++ (s ∷ (rest ++ added)) ≡ (before ++ s ∷ []) ++ (rest ++ added) = sym (append_assoc before (s ∷ []) (rest ++ added)) in
      let e : before ++ s ∷ [] ≡ map (λ (r : RowOf). r.set) (rows ++ r ∷ []) = sym (map-append (λ (r : RowOf). r.set) rows (r ∷ [])) in
      b ∙ c ∙ d ∙ ap (λ ss. ss ++ (rest ++ added)) e ∙ ap (λ ss. map (λ (r : RowOf). r.set) (rows ++ r ∷ []) ++ ss) (sym waiting_then)

  leads_before : (n k : ℕ) (t : SetOf) → n < length rows → slice_get new n ≡ Some t → Contains (own_spreads names t.selections) k → LedSoFar names hubs' (rows ++ r ∷ []) n k
  leads_before n k t l e c =
      let q = get_below sets n (omega (arith, l, inside)) in
      let same : t ≡ q.0 = same_Some t q.0 (sym e ∙ longer n q.0 q.1) in
      let there = spreads_before rows r n l in
      ⊎_elim (λ d. inl (subst (λ ns. Contains ns k) there d))
      (λ b. inr (record {
        text = b.text;
        hub = b.hub;
        is = led.kept b.text b.hub b.is;
        other = b.other;
        there = subst (λ ns. Contains ns b.hub) there b.there;
        fragment = b.fragment;
      }))
      (h.leads n k q.0 l q.1 (subst (λ (u : SetOf). Contains (own_spreads names u.selections) k) same c))

  leads_last : (k : ℕ) (t : SetOf) → slice_get new (length rows) ≡ Some t → Contains (own_spreads names t.selections) k → LedSoFar names hubs' (rows ++ r ∷ []) (length rows) k
  leads_last k t e c =
      let same : t ≡ s = same_Some t s (sym e ∙ longer (length rows) s at) in
      let o = spread_of_own names s.selections k (subst (λ (u : SetOf). Contains (own_spreads names u.selections) k) same c) in
      let there = sym (spreads_last rows r) in
      ⊎_elim (λ d. inl (subst (λ ns. Contains ns k) there d))
      (λ b. inr (record {
        text = o.one.text;
        hub = b.hub;
        is = b.is;
        other = b.other;
        there = subst (λ ns. Contains ns b.hub) there b.there;
        fragment = o.place;
      }))
      (led.all o.one k o.stands o.place)

  leads_then : (n k : ℕ) (t : SetOf) → n < length (rows ++ r ∷ []) → slice_get new n ≡ Some t → Contains (own_spreads names t.selections) k → LedSoFar names hubs' (rows ++ r ∷ []) n k
  leads_then n k t l e c = elim (cases_eq n (length rows)) [
    | inl q ↦ subst (λ m. LedSoFar names hubs' (rows ++ r ∷ []) m k) (sym q) (leads_last k t (subst (λ m. slice_get new m ≡ Some t) q e) c)
    | inr q ↦ leads_before n k t (omega (arith, l, count, q)) e c
  ]

  pub listing_goes_on : Listing x (rows ++ r ∷ []) new hubs'
  listing_goes_on = record {
    others = h.others ++ added;
    begin = grown ∙ ap (λ ss. ss ++ added) h.begin ∙ append_assoc (first_sets x) h.others added;
    stand = subst (All (StandsWithin x)) (sym grown)
        (All-append (StandsWithin x) sets added h.stand
        (All-append (StandsWithin x) led.added members.added
        (All-weaker (IsAloneOf (spreads_in s.selections)) (StandsWithin x) (λ t a. alone_stands x s set_stands t a) led.added led.each)
        (All-weaker (IsOfOne x.entries (own_of s)) (StandsWithin x) (λ t o. below_stand x s set_stands t o) members.added members.each)));
    taken = taken_then;
    each = All-push (IsRow x new) rows r
        (subst (λ ss. All (IsRow x ss) rows) (sym grown) (All-weaker (IsRow x sets) (IsRow x (sets ++ added)) (λ q i. longer_row x sets added q i) rows h.each)) new_row;
    are = subst (λ ss. AreHubs names ss hubs') (sym members.grown) (hubs_longer names mid members.added hubs' led.are);
    leads = leads_then;
  }

  pub less_waits : weights (drop (length (rows ++ r ∷ [])) new) + unset hubs' < weights (drop (length rows) sets) + unset hubs
  less_waits =
      let a = ap weights waiting_then in
      let b = weights_append (drop (length rows + 1) sets) added in
      let c = weights_append led.added members.added in
      let d = fields_weigh s.file s.parent s.selections in
      let e = ap weights waiting in
      omega (arith, a, b, c, d, e, led.few, members.few)

-- where no set waits, the rows of hubs are there
module _ (x : ExecutableOf) (rows : List RowOf) (sets : List SetOf) (hubs : List (Option ℕ)) (h : Listing x rows sets hubs) (l : length sets ≤ length rows) where
  leads_at_end : (n k : ℕ) → LedSoFar (names_of x) hubs rows n k → IsLedTo rows n k
  leads_at_end n k (inl c) = inl c
  leads_at_end n k (inr b) =
      let q = h.are b.text b.hub b.is in
      let within = slice_get_within sets b.hub q.0 q.1 in
      let spread_k : Contains (own_spreads (names_of x) q.0.selections) k = own_alone (names_of x) b.text q.0.selections k q.2 b.fragment in
      inr (record {
        hub = b.hub;
        there = b.there;
        leads = ⊎_elim (λ c. c)
            (λ d. absurd (d.other (same_Some d.hub b.hub (sym d.is ∙ ap (hub_at (names_of x) hubs) (same_text (names_of x) k d.text b.text d.fragment b.fragment) ∙ b.is))))
            (h.leads b.hub k q.0 (omega (arith, within, l)) q.1 spread_k);
      })

  pub listing_ends : AreRows x rows
  listing_ends =
      let e : sets ≡ map (λ r. r.set) rows = h.taken ∙ ap (λ ss. map (λ (r : RowOf). r.set) rows ++ ss) (drop_all (length rows) sets l) ∙ append_nothing (map (λ r. r.set) rows) in
      record {
        others = h.others;
        begin = sym e ∙ h.begin;
        stand = subst (All (StandsWithin x)) e h.stand;
        each = subst (λ ss. All (IsRow x ss) rows) e h.each;
        leads = λ n k s at c.
            let there : slice_get sets n ≡ Some s = ap (λ ss. slice_get ss n) e ∙ at in
            let below = slice_get_within sets n s there in
            leads_at_end n k (h.leads n k s (omega (arith, below, l)) there c);
      }
