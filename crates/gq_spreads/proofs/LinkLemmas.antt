-- By links and groups exactly the fragments are reached that are reached by spreads.
use Rattle.std.proofs.Common.{◌≡◌, ◌⊎◌, inl, inr, ℕ, ◌+◌, ◌-◌, ◌<◌, Bool, true, false, List, [], ◌∷◌, ◌++◌, length, get_or, map, refl, sym, ◌∙◌, ap, subst, arith, Contains}
use Rattle.std.proofs.Common.{Option, Some, None, Vec, Global}
use Rattle.std.specs.Prelude.{slice_get, if◌then◌else◌, ◌&&◌, not}
use Rattle.std.specs.List.{enumerate_from}
use Rattle.std.specs.Option.{option_map_or}
use Rattle.std.proofs.lemmas.Bool.{eqb-true, cases_lt}
use Rattle.std.proofs.lemmas.List.{length-map, length-append, get_or_append_left, get_or-append-add}
use Rattle.std.proofs.lemmas.Option.{same_Some, slice_get_within}
use Rattle.gq_text.specs.declared.place.Span.{Span}
use Rattle.gq_tree.specs.Names.{spread_names}
use Rattle.gq_tree.specs.Plain.{NameOf, Sels}
use Rattle.gq_graph.specs.Reach.{Reach, start, step, row, InRange}
use Rattle.gq_types.specs.Entries.{Text}
use Rattle.gq_types.proofs.Gathered.{nothing_in, first, only, from_flat, to_flat}
use Rattle.gq_document.specs.Definitions.{FragmentOf}
use Rattle.gq_document.specs.Reaches.{IsSpreadIn, Reaches, at_once, through}
use Rattle.gq_spreads.specs.Spreads.{places_from, LeadToReached}
use Rattle.gq_spreads.specs.Helping.Links.{is_single, link, links_of, links, fragment_links, group, group_at}
use Rattle.gq_spreads.specs.Helping.NameRows.{first_number, is_first_at}
use Rattle.gq_spreads.specs.Helping.Rows.{texts, row_items}
use Rattle.gq_spreads.proofs.NameRowLemmas.{has_number, named_at, first_is, enumerated_at, length_enumerated, text_at}
use Rattle.gq_spreads.proofs.PlaceLemmas.{from_place, to_place}
use Rattle.gq_spreads.proofs.ReachLemmas.{reached_stands, reached_alike}
use Rattle.gq_spreads.proofs.RowLemmas.{stands, number_of, at_number, row_is, map_at, rows_below}

-- the only number of a list
only_one : (ns : List ℕ) (n k : ℕ) → length ns ≡ 1 → slice_get ns 0 ≡ Some n → Contains ns k → n ≡ k
only_one [] n k one at there = nothing_in k there
only_one (m ∷ []) n k one at there = sym (same_Some m n at) ∙ sym (only m k there)
only_one (m ∷ o ∷ ns) n k one at there = absurd (omega (arith, one))

if_so : (b : Bool) (ns : List ℕ) (k : ℕ) → Contains (if b then ns else []) k → Contains ns k
if_so true ns k there = there
if_so false ns k there = nothing_in k there

module _ (fs : List FragmentOf) where
  abbrev ts : List Text
  ts = texts fs

  -- the fragment stands at that number, or the number is that of a name that it has
  abbrev IsNumberOf : ℕ → FragmentOf → Type 0
  IsNumberOf k f = (slice_get fs k ≡ Some f) ⊎ ((j : ℕ) × (k ≡ length fs + j) × (slice_get fs j ≡ Some f))

  texts_count : length ts ≡ length fs
  texts_count = length-map fs (λ (f : FragmentOf). f.name.text)

  number_stands : (k : ℕ) (f : FragmentOf) → IsNumberOf k f → Contains fs f
  number_stands k f (inl at) = stands fs k f at
  number_stands k f (inr (j, is, at)) = stands fs j f at

  number_inside : (k : ℕ) (f : FragmentOf) → IsNumberOf k f → k < length fs + length fs
  number_inside k f (inl at) = omega (arith, slice_get_within fs k f at)
  number_inside k f (inr (j, is, at)) = omega (arith, is, slice_get_within fs j f at)

  number_below : (k : ℕ) (f : FragmentOf) → IsNumberOf k f → k < length fs → slice_get fs k ≡ Some f
  number_below k f (inl at) below = at
  number_below k f (inr (j, is, at)) below = absurd (omega (arith, is, below))

  -- a link is a number of a fragment of the name
  link_is : (b : Bool) (n : ℕ) (f : FragmentOf) → slice_get fs n ≡ Some f → IsNumberOf (if b then n else length ts + n) f
  link_is true n f at = inl at
  link_is false n f at = inr (n, ap (λ l. l + n) texts_count, at)

  from_link : (text : Text) (k : ℕ) (o : Option ℕ) → first_number ts text ≡ o → Contains (option_map_or (λ n. link ts text n ∷ []) o []) k → (f : FragmentOf) × IsNumberOf k f × (text ≡ f.name.text)
  from_link text k None is found = nothing_in k found
  from_link text k (Some n) is found =
      let f = named_at fs text n is in
      (f.0, subst (λ m. IsNumberOf m f.0) (sym (only (link ts text n) k found)) (link_is (is_single ts text) n f.0 f.1), f.2)

  from_links : (set : Sels Span) (k : ℕ) → Contains (links ts set) k → (f : FragmentOf) × IsNumberOf k f × IsSpreadIn set f
  from_links set k found =
      let r = from_flat (links_of ts) (spread_names set) k found in
      let f = from_link r.0.text k (first_number ts r.0.text) refl r.2 in
      (f.0, f.1, record { name = r.0; stands = r.1; names = f.2 })

  to_links : (set : Sels Span) (name : NameOf Span) → Contains (spread_names set) name → (n : ℕ) → first_number ts name.text ≡ Some n → Contains (links ts set) (link ts name.text n)
  to_links set name there n is =
      to_flat (links_of ts) (spread_names set) name (link ts name.text n) there
      (subst (λ o. Contains (option_map_or (λ m. link ts name.text m ∷ []) o []) (link ts name.text n)) (sym is) (first (link ts name.text n) (link ts name.text n) [] refl))

  -- the fragments of a group
  pub from_group : (place : ℕ) (text : Text) (k : ℕ) → Contains (group ts place text) k → (f : FragmentOf) × (slice_get fs k ≡ Some f) × (text ≡ f.name.text)
  from_group place text k found =
      let p = from_place 0 text fs k (if_so (is_first_at ts place text && not (is_single ts text)) (places_from 0 text ts) k found) in
      let here : p.0 ≡ k = omega (arith, p.2) in
      (p.1, subst (λ n. slice_get fs n ≡ Some p.1) here p.3, p.4)

  to_group : (place : ℕ) (text : Text) → first_number ts text ≡ Some place → is_single ts text ≡ false
      → (k : ℕ) (f : FragmentOf) → slice_get fs k ≡ Some f → text ≡ f.name.text → Contains (group ts place text) k
  to_group place text at several k f stands named =
      let here : 0 + k ≡ k = omega arith in
      subst (λ b. Contains (if b && not (is_single ts text) then places_from 0 text ts else []) k) (sym (first_is (first_number ts text) place at))
      (subst (λ b. Contains (if true && not b then places_from 0 text ts else []) k) (sym several)
      (subst (λ n. Contains (places_from 0 text ts) n) here (to_place 0 text fs k f stands named)))

  -- with the rows
  module _ (rows : List (Vec ℕ Global)) (are : row_items rows ≡ map (fragment_links ts) fs ++ map (group_at ts) (enumerate_from 0 ts)) where
    links_count : length (map (fragment_links ts) fs) ≡ length fs
    links_count = length-map fs (fragment_links ts)

    pub count : length rows ≡ length fs + length fs
    count =
        let all = sym (length-map rows (λ v. v.items)) ∙ ap length are ∙ length-append (map (fragment_links ts) fs) (map (group_at ts) (enumerate_from 0 ts)) in
        let groups = length-map (enumerate_from 0 ts) (group_at ts) ∙ length_enumerated 0 ts ∙ texts_count in
        omega (arith, all, links_count, groups)

    pub fragment_row : (n : ℕ) (f : FragmentOf) → slice_get fs n ≡ Some f → row rows n ≡ links ts f.set
    fragment_row n f at =
        let inside : n < length (map (fragment_links ts) fs) = omega (arith, slice_get_within fs n f at, links_count) in
        row_is rows n ∙ ap (λ ns. get_or ns n []) are ∙ get_or_append_left (map (fragment_links ts) fs) (map (group_at ts) (enumerate_from 0 ts)) [] n inside ∙ map_at (fragment_links ts) fs n f at

    name_row : (j : ℕ) (f : FragmentOf) → slice_get fs j ≡ Some f → row rows (length fs + j) ≡ group ts j f.name.text
    name_row j f at =
        let here : 0 + j ≡ j = omega arith in
        row_is rows (length fs + j) ∙ ap (λ ns. get_or ns (length fs + j) []) are
        ∙ ap (λ l. get_or (map (fragment_links ts) fs ++ map (group_at ts) (enumerate_from 0 ts)) (l + j) []) (sym links_count)
        ∙ get_or-append-add (map (fragment_links ts) fs) (map (group_at ts) (enumerate_from 0 ts)) j []
        ∙ map_at (group_at ts) (enumerate_from 0 ts) j (0 + j, f.name.text) (enumerated_at 0 ts j f.name.text (text_at fs j f at))
        ∙ ap (λ n. group ts n f.name.text) here

    -- what a number of a reached fragment leads to is that of a reached one
    from_step : (set : Sels Span) (m : ℕ) (g : FragmentOf) → IsNumberOf m g → Reaches fs set g → (k : ℕ) → Contains (row rows m) k → (f : FragmentOf) × IsNumberOf k f × Reaches fs set f
    from_step set m g (inl at) reached k found =
        let f = from_links g.set k (subst (λ ns. Contains ns k) (fragment_row m g at) found) in
        (f.0, f.1, through reached (number_stands k f.0 f.1) f.2)
    from_step set m g (inr (j, is, at)) reached k found =
        let f = from_group j g.name.text k (subst (λ ns. Contains ns k) (ap (row rows) is ∙ name_row j g at) found) in
        (f.0, inl f.1, reached_alike fs set g f.0 reached (stands fs k f.0 f.1) f.2)

    from_way : (set : Sels Span) (k : ℕ) → Reach (links ts set) (row rows) k → (f : FragmentOf) × IsNumberOf k f × Reaches fs set f
    from_way set k (start found) =
        let f = from_links set k found in
        (f.0, f.1, at_once (number_stands k f.0 f.1) f.2)
    from_way set k (step {m = m} way found) =
        let g = from_way set m way in
        from_step set m g.0 g.1 g.2 k found

    -- a link leads to all fragments of the name
    on_link : (starts : List ℕ) (text : Text) (n : ℕ) → first_number ts text ≡ Some n → (k : ℕ) (f : FragmentOf) → slice_get fs k ≡ Some f → text ≡ f.name.text
        → (b : Bool) → is_single ts text ≡ b → Reach starts (row rows) (if b then n else length ts + n) → Reach starts (row rows) k
    on_link starts text n is k f at named true single way =
        let here : 0 + k ≡ k = omega arith in
        let there = subst (λ m. Contains (places_from 0 text ts) m) here (to_place 0 text fs k f at named) in
        subst (λ m. Reach starts (row rows) m) (only_one (places_from 0 text ts) n k (eqb-true (length (places_from 0 text ts)) 1 single) is there) way
    on_link starts text n is k f at named false several way =
        let h = named_at fs text n is in
        let row_there : row rows (length ts + n) ≡ group ts n text = ap (λ l. row rows (l + n)) texts_count ∙ name_row n h.0 h.1 ∙ ap (group ts n) (sym h.2) in
        step way (subst (λ ns. Contains ns k) (sym row_there) (to_group n text is several k f at named))

    to_way : (set : Sels Span) (f : FragmentOf) → Reaches fs set f → (k : ℕ) → slice_get fs k ≡ Some f → Reach (links ts set) (row rows) k
    to_way set f (at_once there spread) k at =
        let n = has_number fs f there in
        let is : first_number ts spread.name.text ≡ Some n.0 = subst (λ u. first_number ts u ≡ Some n.0) (sym spread.names) n.1 in
        on_link (links ts set) spread.name.text n.0 is k f at spread.names (is_single ts spread.name.text) refl (start (to_links set spread.name spread.stands n.0 is))
    to_way set f (through {g = g} reached there spread) k at =
        let j = number_of fs g (reached_stands fs set g reached) in
        let n = has_number fs f there in
        let is : first_number ts spread.name.text ≡ Some n.0 = subst (λ u. first_number ts u ≡ Some n.0) (sym spread.names) n.1 in
        on_link (links ts set) spread.name.text n.0 is k f at spread.names (is_single ts spread.name.text) refl
        (step (to_way set g reached j.0 j.1) (subst (λ ns. Contains ns (link ts spread.name.text n.0)) (sym (fragment_row j.0 g j.1)) (to_links g.set spread.name spread.stands n.0 is)))

    pub lead_to_reached : (set : Sels Span) → LeadToReached fs rows (links ts set) set
    lead_to_reached set k below = (
      λ way. (let f = from_way set k way in record { fragment = f.0; at = number_below k f.0 f.1 below; reached = f.2 }),
      λ r. to_way set r.fragment r.reached k r.at,
    )

    -- each number has a row
    pub links_inside : (set : Sels Span) (k : ℕ) → Contains (links ts set) k → k < length rows
    links_inside set k found =
        let f = from_links set k found in
        omega (arith, number_inside k f.0 f.1, count)

    row_inside : (m k : ℕ) → m < length rows → Contains (row rows m) k → k < length rows
    row_inside m k inside found = elim (cases_lt m (length fs)) [
      | inl below ↦ (let g = at_number fs m below in links_inside g.0.set k (subst (λ ns. Contains ns k) (fragment_row m g.0 g.1) found))
      | inr past ↦ (let j_in : m - length fs < length fs = omega (arith, past, inside, count) in
          let is : m ≡ length fs + (m - length fs) = omega (arith, past) in
          let g = at_number fs (m - length fs) j_in in
          let f = from_group (m - length fs) g.0.name.text k (subst (λ ns. Contains ns k) (ap (row rows) is ∙ name_row (m - length fs) g.0 g.1) found) in
          omega (arith, slice_get_within fs k f.0 f.1, count))
    ]

    pub in_range : InRange rows
    in_range = rows_below rows (length rows) row_inside
