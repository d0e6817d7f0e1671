-- The places of a name in a list of names.
use Rattle.std.proofs.Common.{append-nil, ◌≡◌, ℕ, zero, suc, ◌+◌, ◌<◌, Bool, true, false, if◌then◌else◌, List, [], ◌∷◌, ◌++◌, length, refl, sym, ◌∙◌, ap, subst, arith, Contains, ⊎_elim, Some}
use Rattle.std.specs.Prelude.{All, slice_get, bytes_eq, ◌||◌, not, nat_eq}
use Rattle.std.specs.List.{list_any}
use Rattle.gq_names.specs.UnderNames.{one_if}
use Rattle.std.specs.Cmp.Lexicographic.{bytes_decides, nat_list_eq_equiv}
use Rattle.std.proofs.lemmas.List.Elements.{All-nil, All-cons, All-weaker}
use Rattle.std.proofs.Math.Dec.{eqb-suc-zero}
use Rattle.std.proofs.lemmas.Option.{none-some, same_Some}
use Rattle.gq_types.specs.Entries.{Text}
use Rattle.gq_types.proofs.Gathered.{nothing_in, first, later, cases_cons}
use Rattle.gq_document.specs.Definitions.{FragmentOf}
use Rattle.gq_spreads.specs.Spreads.{places_from}
use Rattle.gq_spreads.specs.Helping.Rows.{texts}

-- one name more at the end of the list
one_more : (b : Bool) (k n : ℕ) (old new : List ℕ) → new ≡ old ++ n ∷ [] → (if b then k ∷ new else new) ≡ (if b then k ∷ old else old) ++ n ∷ []
one_more true k n old new is = ap (λ ns. k ∷ ns) is
one_more false k n old new is = is

pub push_same : (k : ℕ) (text : Text) (names : List Text) (name : Text) → bytes_eq text name ≡ true → places_from k text (names ++ name ∷ []) ≡ places_from k text names ++ (k + length names) ∷ []
push_same k text [] name same = rw same (ap (λ n. n ∷ []) (omega arith))
push_same k text (other ∷ names) name same =
    one_more (bytes_eq text other) k (k + length (other ∷ names)) (places_from (k + 1) text names) (places_from (k + 1) text (names ++ name ∷ []))
    (push_same (k + 1) text names name same ∙ ap (λ n. places_from (k + 1) text names ++ n ∷ []) (omega arith))

pub push_other : (k : ℕ) (text : Text) (names : List Text) (name : Text) → bytes_eq text name ≡ false → places_from k text (names ++ name ∷ []) ≡ places_from k text names
push_other k text [] name other = rw other refl
push_other k text (one ∷ names) name other = ap (λ ns. if bytes_eq text one then k ∷ ns else ns) (push_other (k + 1) text names name other)

-- and with its place the numbers under it
pub places_more : (text : Text) (names : List Text) (name : Text) → places_from 0 text (names ++ name ∷ []) ≡ places_from 0 text names ++ one_if (bytes_eq text name) (length names)
places_more text names name = by_same (bytes_eq text name) refl
  where
    by_same : (b : Bool) → bytes_eq text name ≡ b → places_from 0 text (names ++ name ∷ []) ≡ places_from 0 text names ++ one_if b (length names)
    by_same true same = push_same 0 text names name same ∙ ap (λ n. places_from 0 text names ++ n ∷ []) (omega arith)
    by_same false other = push_other 0 text names name other ∙ sym (append-nil (places_from 0 text names))

-- a name has a place if it is in the list
pub some_place : (k : ℕ) (text : Text) (names : List Text) → not (nat_eq (length (places_from k text names)) 0) ≡ list_any (bytes_eq text) names
some_place k text [] = refl
some_place k text (name ∷ names) = by_same (some_place (k + 1) text names) (bytes_eq text name) refl
  where
    by_same : not (nat_eq (length (places_from (k + 1) text names)) 0) ≡ list_any (bytes_eq text) names → (b : Bool) → bytes_eq text name ≡ b →
        not (nat_eq (length (if b then k ∷ places_from (k + 1) text names else places_from (k + 1) text names)) 0) ≡ (b || list_any (bytes_eq text) names)
    by_same rest true same = ap not (eqb-suc-zero (length (places_from (k + 1) text names)))
    by_same rest false other = rest

-- a place is that of a name in the list
all_more : (P : ℕ → Type 0) (b : Bool) (k : ℕ) (ns : List ℕ) → P k → All P ns → All P (if b then k ∷ ns else ns)
all_more P true k ns here rest = All-cons P k ns here rest
all_more P false k ns here rest = rest

pub places_below : (k : ℕ) (text : Text) (names : List Text) → All (λ n. n < k + length names) (places_from k text names)
places_below k text [] = All-nil (λ n. n < k + 0)
places_below k text (name ∷ names) =
    all_more (λ n. n < k + length (name ∷ names)) (bytes_eq text name) k (places_from (k + 1) text names) (omega arith)
    (All-weaker (λ n. n < (k + 1) + length names) (λ n. n < k + length (name ∷ names)) (λ n h. omega (arith, h)) (places_from (k + 1) text names) (places_below (k + 1) text names))

-- a fragment that stands at a place of its name, the first place being k
abbrev pub PlacedFrom : ℕ → Text → List FragmentOf → ℕ → Type 0
PlacedFrom k text fs n = (j : ℕ) × (f : FragmentOf) × (n ≡ k + j) × (slice_get fs j ≡ Some f) × (text ≡ f.name.text)

placed_here : (k n : ℕ) (text : Text) (f : FragmentOf) (fs : List FragmentOf) (b : Bool) → bytes_eq text f.name.text ≡ b → (Contains (places_from (k + 1) text (texts fs)) n → PlacedFrom (k + 1) text fs n)
    → Contains (if b then k ∷ places_from (k + 1) text (texts fs) else places_from (k + 1) text (texts fs)) n → PlacedFrom k text (f ∷ fs) n
placed_here k n text f fs true same rest there = ⊎_elim
    (λ is. (0, f, omega (arith, is), refl, (bytes_decides text f.name.text).0 same))
    (λ later. let r = rest later in (suc r.0, r.1, omega (arith, r.2), r.3, r.4))
    (cases_cons k n (places_from (k + 1) text (texts fs)) there)
placed_here k n text f fs false same rest there = let r = rest there in (suc r.0, r.1, omega (arith, r.2), r.3, r.4)

pub from_place : (k : ℕ) (text : Text) (fs : List FragmentOf) (n : ℕ) → Contains (places_from k text (texts fs)) n → PlacedFrom k text fs n
from_place k text [] n found = nothing_in n found
from_place k text (f ∷ fs) n found = placed_here k n text f fs (bytes_eq text f.name.text) refl (from_place (k + 1) text fs n) found

behind : (b : Bool) (k n : ℕ) (ns : List ℕ) → Contains ns n → Contains (if b then k ∷ ns else ns) n
behind true k n ns there = later k n ns there
behind false k n ns there = there

pub to_place : (k : ℕ) (text : Text) (fs : List FragmentOf) (j : ℕ) (f : FragmentOf) → slice_get fs j ≡ Some f → text ≡ f.name.text → Contains (places_from k text (texts fs)) (k + j)
to_place k text [] j f at same = absurd (none-some f at)
to_place k text (g ∷ fs) zero f at same =
    let is : g ≡ f = same_Some g f at in
    let test : bytes_eq text g.name.text ≡ true = subst (λ u. bytes_eq text u ≡ true) (same ∙ ap (λ (h : FragmentOf). h.name.text) (sym is)) (nat_list_eq_equiv.refl text) in
    rw test (first k (k + 0) (places_from (k + 1) text (texts fs)) (omega arith))
to_place k text (g ∷ fs) (suc j) f at same =
    let there : (k + 1) + j ≡ k + suc j = omega arith in
    behind (bytes_eq text g.name.text) k (k + suc j) (places_from (k + 1) text (texts fs))
    (subst (λ n. Contains (places_from (k + 1) text (texts fs)) n) there (to_place (k + 1) text fs j f at same))
