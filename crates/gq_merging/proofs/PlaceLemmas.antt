-- Entries by their names: what a table of them holds.
use Rattle.std.proofs.Common.{◌≡◌, ⊎_elim, ℕ, ◌+◌, ◌<◌, ◌≤◌, Bool, true, false, List, [], ◌∷◌, ◌++◌, Some, length, Contains, refl, sym, ◌∙◌, ap, subst, arith}
use Rattle.std.specs.Str.{bytes_eq}
use Rattle.std.specs.Cmp.Lexicographic.{nat_list_eq_equiv}
use Rattle.std.proofs.lemmas.Bool.Decides.{eqb_tells}
use Rattle.std.proofs.lemmas.List.{get_or_default}
use Rattle.std.proofs.lemmas.List.Elements.{Contains-append_left, Contains-append_right, Contains-append_cases, Contains-push, Contains-push_cases}
use Rattle.std.proofs.lemmas.Option.{same_Some}
use Rattle.gq_names.proofs.RepeatLemmas.{contains_none, contains_first, contains_cases}
use Rattle.gq_names.specs.Repeats.{StandsAt}
use Rattle.gq_names.specs.UnderNames.{one_if}
use Rattle.gq_text.specs.declared.place.Span.{Span}
use Rattle.gq_tree.specs.Plain.{NameOf, Val}
use Rattle.gq_types.specs.Entries.{Text}
use Rattle.gq_merging.specs.Helping.Marks.{AreItsPlaces}
use Rattle.gq_merging.specs.Helping.Places.{IsNamedAt, ArePlaced}

-- one number more below a count
pub number_more : (ns new : List ℕ) (i : ℕ) → new ≡ ns ++ i ∷ [] → ((j : ℕ) → j < i → Contains ns j) → (j : ℕ) → j < i + 1 → Contains new j
number_more ns new i is h j l = subst (λ ms. Contains ms j) (sym is) (⊎_elim
    (λ e. subst (Contains (ns ++ i ∷ [])) (sym e.1) (Contains-push ns i))
    (λ n. Contains-append_left ns (i ∷ []) j (h j (omega (arith, l, n.1)))) (eqb_tells j i))

pub still_below : (ns new : List ℕ) (i count : ℕ) → i < count → new ≡ ns ++ i ∷ [] → ((j : ℕ) → Contains ns j → j < count) → (j : ℕ) → Contains new j → j < count
still_below ns new i count l is h j c = ⊎_elim (h j) (λ e. subst (λ k. k < count) e l) (Contains-push_cases ns i j (subst (λ ms. Contains ms j) is c))

-- all places of few entries
pub all_placed : (bs : List (Val Span)) (all : List ℕ) (count : ℕ) → count ≡ length bs → ((j : ℕ) → Contains all j → j < count) → ((j : ℕ) → j < count → Contains all j) → ArePlaced bs (λ text. all)
all_placed bs all count is within each = record {
  within = λ text j c. subst (λ n. j < n) is (within j c);
  each = λ text j named. each j (subst (λ n. j < n) (sym is) named.stands.0);
}

-- so many of the entries were put into a table
pub record AreFirstPlaced (bs : List (Val Span)) (end : ℕ) (places : Text → List ℕ) : Type 0 where
  pub within : (text : Text) (j : ℕ) → Contains (places text) j → j < length bs
  pub each : (text : Text) (j : ℕ) → j < end → IsNamedAt bs text j → Contains (places text) j

pub none_placed : (bs : List (Val Span)) (places : Text → List ℕ) → ((text : Text) → places text ≡ []) → AreFirstPlaced bs 0 places
none_placed bs places none = record {
  within = λ text j c. absurd (contains_none j (subst (λ ns. Contains ns j) (none text) c));
  each = λ text j l named. absurd (omega (arith, l));
}

one_stands : {A : Type 0} (xs : List A) (i : ℕ) (x y : A) → StandsAt xs i x → StandsAt xs i y → x ≡ y
one_stands xs i x y h k = sym h.1 ∙ get_or_default xs i x y h.0 ∙ k.1

from_one_if : (b : Bool) (k m : ℕ) → Contains (one_if b k) m → k ≡ m
from_one_if true k m c = ⊎_elim (λ e. e) (λ d. absurd (contains_none m d)) (contains_cases k [] m c)
from_one_if false k m c = absurd (contains_none m c)

-- the entry at the place is put into the table
module _ (bs : List (Val Span)) (i : ℕ) (b : Val Span) (stands : StandsAt bs i b) (n : NameOf Span) (key : b.label.key ≡ Some n) where
  same_name : (text : Text) → IsNamedAt bs text i → text ≡ n.text
  same_name text named =
      let is : named.one ≡ b = one_stands bs i named.one b named.stands stands in
      let name : named.name ≡ n = same_Some named.name n (sym named.is ∙ ap (λ (v : Val Span). v.label.key) is ∙ key) in
      sym named.one_text ∙ ap (λ (m : NameOf Span). m.text) name

  put_here : (text : Text) → text ≡ n.text → Contains (one_if (bytes_eq text n.text) i) i
  put_here text e =
      let test : bytes_eq text n.text ≡ true = subst (λ t. bytes_eq text t ≡ true) e (nat_list_eq_equiv.refl text) in
      subst (λ t. Contains (one_if t i) i) (sym test) (contains_first i [] i refl)

  placed_under : (old new : Text → List ℕ) → ((text : Text) → new text ≡ old text ++ one_if (bytes_eq text n.text) i) → AreFirstPlaced bs i old → AreFirstPlaced bs (i + 1) new
  placed_under old new put h = record {
    within = λ text j c. ⊎_elim
        (h.within text j)
        (λ d. subst (λ k. k < length bs) (from_one_if (bytes_eq text n.text) i j d) stands.0)
        (Contains-append_cases (old text) (one_if (bytes_eq text n.text) i) j (subst (λ ns. Contains ns j) (put text) c));
    each = λ text j l named. subst (λ ns. Contains ns j) (sym (put text)) (⊎_elim
        (λ e. Contains-append_right (old text) (one_if (bytes_eq text n.text) i) j
        (subst (Contains (one_if (bytes_eq text n.text) i)) (sym e.1) (put_here text (same_name text (subst (IsNamedAt bs text) e.1 named)))))
        (λ other. Contains-append_left (old text) (one_if (bytes_eq text n.text) i) j (h.each text j (omega (arith, l, other.1)) named))
        (eqb_tells j i));
  }

  pub one_placed : (old new : Text → List ℕ) (written : Text) → written ≡ n.text → ((text : Text) → new text ≡ old text ++ one_if (bytes_eq text written) i) → AreFirstPlaced bs i old → AreFirstPlaced bs (i + 1) new
  one_placed old new written e put h = placed_under old new (λ text. put text ∙ ap (λ t. old text ++ one_if (bytes_eq text t) i) e) h

pub placed_at_end : (bs : List (Val Span)) (end : ℕ) (places : Text → List ℕ) → length bs ≤ end → AreFirstPlaced bs end places → ArePlaced bs places
placed_at_end bs end places all h = record {
  within = h.within;
  each = λ text j named. let l = named.stands.0 in h.each text j (omega (arith, all, l)) named;
}

-- the places that are looked at for an entry's name are those of all that are identical to it
pub its_places : (bs : List (Val Span)) (places : Text → List ℕ) → ArePlaced bs places → (a : Val Span) (n : NameOf Span) → a.label.key ≡ Some n →
    (text : Text) → text ≡ n.text → (found : List ℕ) → found ≡ places text → AreItsPlaces a bs found
its_places bs places are a n key text one_text found is = subst (AreItsPlaces a bs) (sym (is ∙ ap places one_text))
    (record {
      within = are.within n.text;
      each = λ j same. are.each n.text j
          (record {
            one = same.0;
            stands = same.1;
            name = same.2.other;
            is = same.2.other_is;
            one_text = sym same.2.one_name ∙ ap (λ (m : NameOf Span). m.text) (same_Some same.2.name n (sym same.2.is ∙ key));
          });
    })
