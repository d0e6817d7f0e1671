-- The rows of numbers are the fragments that are spread.
use Rattle.std.proofs.Common.{◌≡◌, ◌↔◌, ℕ, zero, suc, ◌+◌, ◌<◌, Bool, true, false, List, [], ◌∷◌, ◌++◌, length, get_or, map, refl, sym, ◌∙◌, ap, subst, arith, Contains, Some, Vec, Global, ⊎_elim}
use Rattle.std.specs.Prelude.{slice_get}
use Rattle.std.specs.Str.{bytes_eq}
use Rattle.std.specs.Cmp.Lexicographic.{bytes_decides, nat_list_eq_equiv}
use Rattle.std.proofs.lemmas.List.{length-map}
use Rattle.std.proofs.lemmas.List.Elements.{Contains-get_or, Contains-append_left, Contains-append_right, Contains-append_cases}
use Rattle.std.proofs.lemmas.Option.{none-some, same_Some, slice_get_within}
use Rattle.gq_text.specs.declared.place.Span.{Span}
use Rattle.gq_names.specs.UnderNames.{one_if}
use Rattle.gq_tree.specs.Plain.{NameOf, Def, operation, fragment, type_system}
use Rattle.gq_graph.specs.Reach.{row, InRange}
use Rattle.gq_graph.proofs.Searching.{row_at}
use Rattle.gq_graph.proofs.Turning.{row_below}
use Rattle.gq_types.specs.Entries.{Text}
use Rattle.gq_types.proofs.Gathered.{nothing_in, first, only, from_flat, to_flat}
use Rattle.gq_document.specs.Definitions.{FragmentOf, fragment_in}
use Rattle.gq_spreads.proofs.RowLemmas.{at_number}
use Rattle.gq_index.specs.Occurrences.{DefinitionOf, fragment_name, spreads_in}
use Rattle.gq_index.specs.Helping.PlacedParts.{PartAt, part_at, parts_at}
use Rattle.gq_index.specs.Helping.SpreadNumbers.{numbers_under, fragment_numbers, spread_numbers, rows_under, spread_rows}
use Rattle.gq_index.specs.VariableGroups.{SpreadsFragment}
use Rattle.gq_index.proofs.PartLemmas.{of_definition, part_there}

-- rows by equal numbers are equal
spread_same : (f g : Text → List ℕ) → ((text : Text) → f text ≡ g text) → (names : List (NameOf Span)) → spread_numbers f names ≡ spread_numbers g names
spread_same f g same [] = refl
spread_same f g same (n ∷ ns) = ap (λ l. l ++ spread_numbers f ns) (same n.text) ∙ ap (λ l. g n.text ++ l) (spread_same f g same ns)

pub rows_same : (f g : Text → List ℕ) → ((text : Text) → f text ≡ g text) → (ps : List PartAt) → rows_under f ps ≡ rows_under g ps
rows_same f g same [] = refl
rows_same f g same (p ∷ ps) = ap (λ l. l ∷ rows_under f ps) (spread_same f g same p.part.spreads) ∙ ap (λ l. spread_numbers g p.part.spreads ∷ l) (rows_same f g same ps)

-- a number under a name
from_one_if : (b : Bool) (k m : ℕ) → Contains (one_if b k) m → (b ≡ true) × (m ≡ k)
from_one_if true k m there = (refl, only k m there)
from_one_if false k m there = nothing_in m there

from_under : (k : ℕ) (text : Text) (names : List (NameOf Span)) (m : ℕ) → Contains (numbers_under k text names) m → (m ≡ k) × (n : NameOf Span) × Contains names n × (text ≡ n.text)
from_under k text names m there =
    let r = from_flat (λ (n : NameOf Span). one_if (bytes_eq text n.text) k) names m there in
    let o = from_one_if (bytes_eq text r.0.text) k m r.2 in
    (o.1, r.0, r.1, (bytes_decides text r.0.text).0 o.0)

to_under : (k : ℕ) (text : Text) (names : List (NameOf Span)) (n : NameOf Span) → Contains names n → text ≡ n.text → Contains (numbers_under k text names) k
to_under k text names n there same =
    let test : bytes_eq text n.text ≡ true = subst (λ t. bytes_eq text t ≡ true) same (nat_list_eq_equiv.refl text) in
    to_flat (λ (n : NameOf Span). one_if (bytes_eq text n.text) k) names n k there (subst (λ b. Contains (one_if b k) k) (sym test) (first k k [] refl))

-- a fragment of that name, the first part having the given number
abbrev pub NumberedFrom : ℕ → List PartAt → Text → ℕ → Type 0
NumberedFrom k ps text m = (j : ℕ) × (p : PartAt) × (n : NameOf Span) × (m ≡ k + j) × (slice_get ps j ≡ Some p) × Contains p.part.own_name n × (text ≡ n.text)

from_number : (k : ℕ) (ps : List PartAt) (text : Text) (m : ℕ) → Contains (fragment_numbers k ps text) m → NumberedFrom k ps text m
from_number k [] text m there = nothing_in m there
from_number k (p ∷ ps) text m there = ⊎_elim
    (λ here. let u = from_under k text p.part.own_name m here in (0, p, u.1, omega (arith, u.0), refl, u.2, u.3))
    (λ later. let r = from_number (k + 1) ps text m later in (suc r.0, r.1, r.2, omega (arith, r.3), r.4, r.5, r.6))
    (Contains-append_cases (numbers_under k text p.part.own_name) (fragment_numbers (k + 1) ps text) m there)

to_number : (k : ℕ) (ps : List PartAt) (text : Text) (j : ℕ) (p : PartAt) (n : NameOf Span) → slice_get ps j ≡ Some p → Contains p.part.own_name n → text ≡ n.text → Contains (fragment_numbers k ps text) (k + j)
to_number k [] text j p n at there same = absurd (none-some p at)
to_number k (q ∷ ps) text zero p n at there same =
    let is : p ≡ q = sym (same_Some q p at) in
    let here : k ≡ k + 0 = omega arith in
    Contains-append_left (numbers_under k text q.part.own_name) (fragment_numbers (k + 1) ps text) (k + 0)
    (subst (λ i. Contains (numbers_under k text q.part.own_name) i) here (to_under k text q.part.own_name n (subst (λ (x : PartAt). Contains x.part.own_name n) is there) same))
to_number k (q ∷ ps) text (suc j) p n at there same =
    let shift : (k + 1) + j ≡ k + suc j = omega arith in
    Contains-append_right (numbers_under k text q.part.own_name) (fragment_numbers (k + 1) ps text) (k + suc j)
    (subst (λ i. Contains (fragment_numbers (k + 1) ps text) i) shift (to_number (k + 1) ps text j p n at there same))

-- the fragment that has a name, and the name that it has
fragment_named : (file : ℕ) (d : Def Span) (n : NameOf Span) → Contains (fragment_name d) n → (f : FragmentOf) × (fragment_in file d ≡ f ∷ []) × (f.name ≡ n)
fragment_named file (operation kind name variables directives set braces place) n there = nothing_in n there
fragment_named file (fragment name on directives set braces place) n there =
    (record { file = file; name = name; on = on; directives = directives; set = set; braces = braces; place = place }, refl, sym (only name n there))
fragment_named file (type_system definition) n there = nothing_in n there

pub one_of : {X : Type 0} (x y : X) → x ∷ [] ≡ y ∷ [] → x ≡ y
one_of x y e = same_Some x y (ap (λ l. slice_get l 0) e)

pub no_one : {X A : Type 0} (y : X) → [] ≡ y ∷ [] → A
no_one y e = absurd (none-some y (ap (λ l. slice_get l 0) e))

name_of_fragment : (file : ℕ) (d : Def Span) (f : FragmentOf) → fragment_in file d ≡ f ∷ [] → Contains (fragment_name d) f.name
name_of_fragment file (operation kind name variables directives set braces place) f is = no_one f is
name_of_fragment file (fragment name on directives set braces place) f is =
    let same = one_of (record { file = file; name = name; on = on; directives = directives; set = set; braces = braces; place = place }) f is in
    first name f.name [] (ap (λ (g : FragmentOf). g.name) same)
name_of_fragment file (type_system definition) f is = no_one f is

-- a row is the list at its number
row_lists : (rows : List (Vec ℕ Global)) (n : ℕ) → row rows n ≡ get_or (map (λ v. v.items) rows) n []
row_lists [] n = refl
row_lists (v ∷ rows) zero = refl
row_lists (v ∷ rows) (suc n) = row_lists rows n

at_row : (numbers : Text → List ℕ) (ps : List PartAt) (n : ℕ) (p : PartAt) → slice_get ps n ≡ Some p → get_or (rows_under numbers ps) n [] ≡ spread_numbers numbers p.part.spreads
at_row numbers [] n p at = absurd (none-some p at)
at_row numbers (q ∷ ps) zero p at = ap (λ (x : PartAt). spread_numbers numbers x.part.spreads) (same_Some q p at)
at_row numbers (q ∷ ps) (suc n) p at = at_row numbers ps n p at

module _ (ps : List PartAt) (rows : List (Vec ℕ Global)) (are : map (λ v. v.items) rows ≡ spread_rows ps) where
  pub rows_count : length rows ≡ length ps
  rows_count = sym (length-map rows (λ v. v.items)) ∙ ap length are ∙ length-map ps (λ p. spread_numbers (fragment_numbers 0 ps) p.part.spreads)

  row_is : (n : ℕ) (p : PartAt) → slice_get ps n ≡ Some p → row rows n ≡ spread_numbers (fragment_numbers 0 ps) p.part.spreads
  row_is n p at = row_lists rows n ∙ ap (λ l. get_or l n []) are ∙ at_row (fragment_numbers 0 ps) ps n p at

  -- a number in a row is that of a part that a name in the spreads defines
  in_row : (n k : ℕ) (p : PartAt) → slice_get ps n ≡ Some p → Contains (row rows n) k → (m : NameOf Span) × Contains p.part.spreads m × NumberedFrom 0 ps m.text k
  in_row n k p at there =
      let r = from_flat (λ (m : NameOf Span). fragment_numbers 0 ps m.text) p.part.spreads k (subst (λ l. Contains l k) (row_is n p at) there) in
      (r.0, r.1, from_number 0 ps r.0.text k r.2)

  pub rows_in_range : InRange rows
  rows_in_range k d lt i e b =
      let v : Vec ℕ Global = get_or rows k d in
      let at : row rows k ≡ v.items = row_at rows k d lt in
      let m : ℕ = get_or v.items i e in
      let here : Contains (row rows k) m = subst (λ l. Contains l m) (sym at) (Contains-get_or v.items i e b) in
      let p = at_number ps k (subst (λ c. k < c) rows_count lt) in
      let r = in_row k m p.0 p.1 here in
      let place : m ≡ r.2.0 = omega (arith, r.2.3) in
      subst (λ c. m < c) (sym rows_count) (slice_get_within ps m r.2.1 (subst (λ j. slice_get ps j ≡ Some r.2.1) (sym place) r.2.4))

module _ (ds : List DefinitionOf) (rows : List (Vec ℕ Global)) (are : map (λ v. v.items) rows ≡ spread_rows (parts_at ds)) where
  from_row : (n k : ℕ) → Contains (row rows n) k → SpreadsFragment ds n k
  from_row n k there =
      let counted : length rows ≡ length ds = rows_count (parts_at ds) rows are ∙ length-map ds part_at in
      let below : n < length ds = subst (λ c. n < c) counted (row_below rows n k there) in
      let d = at_number ds n below in
      let r = in_row (parts_at ds) rows are n k (part_at d.0) (part_there ds n d.0 d.1) there in
      let m = r.2 in
      let e = of_definition ds m.0 m.1 m.4 in
      let f = fragment_named e.0.file e.0.definition m.2 (subst (λ (p : PartAt). Contains p.part.own_name m.2) (sym e.2) m.5) in
      let place : k ≡ m.0 = omega (arith, m.3) in
      record {
        definition = d.0;
        fragment = f.0;
        name = r.0;
        at = d.1;
        is_fragment = record { definition = e.0; at = subst (λ i. slice_get ds i ≡ Some e.0) (sym place) e.1; is = f.1 };
        stands = r.1;
        names = m.6 ∙ ap (λ (x : NameOf Span). x.text) (sym f.2);
      }

  to_row : (n k : ℕ) → SpreadsFragment ds n k → Contains (row rows n) k
  to_row n k s =
      let ps : List PartAt = parts_at ds in
      let named = name_of_fragment s.is_fragment.definition.file s.is_fragment.definition.definition s.fragment s.is_fragment.is in
      let number : Contains (fragment_numbers 0 ps s.name.text) (0 + k) = to_number 0 ps s.name.text k (part_at s.is_fragment.definition) s.fragment.name (part_there ds k s.is_fragment.definition s.is_fragment.at) named s.names in
      let same : 0 + k ≡ k = omega arith in
      subst (λ l. Contains l k) (sym (row_is ps rows are n (part_at s.definition) (part_there ds n s.definition s.at)))
      (to_flat (λ (m : NameOf Span). fragment_numbers 0 ps m.text) (spreads_in s.definition.definition) s.name k s.stands (subst (λ i. Contains (fragment_numbers 0 ps s.name.text) i) same number))

  pub rows_hold : (n k : ℕ) → Contains (row rows n) k ↔ SpreadsFragment ds n k
  rows_hold n k = (from_row n k, to_row n k)
