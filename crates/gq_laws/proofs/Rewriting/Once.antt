-- In a document no two selections begin at one place.
use Rattle.std.proofs.Common.{◌≡◌, inl, inr, ℕ, ◌+◌, ◌<◌, ◌≤◌, List, [], ◌∷◌, ◌++◌, Some, refl, sym, ap, subst, arith}
use Rattle.std.specs.List.{AllByRecursion}
use Rattle.gq_text.specs.declared.place.Span.{Span}
use Rattle.gq_tree.specs.declared.tree.OperationKind.{OperationKind}
use Rattle.gq_tree.specs.Forest.{none, more, row}
use Rattle.gq_tree.specs.Plain.{Head, Sel, Sels, Def, operation, fragment, type_system}
use Rattle.gq_meaning.specs.Values.{Text}
use Rattle.gq_meaning.specs.Thin.{IsIn}
use Rattle.gq_meaning.specs.Rewritten.{Static}
use Rattle.gq_rewritten.specs.Rewrites.{head_place, executable_place}
use Rattle.gq_laws.specs.Rewriting.KnownBefore.{type_below, EndsSet, ends_here, ends_within, ends_after}
use Rattle.gq_laws.specs.Rewriting.Places.{AreNested, AreInPlace, run_start, run_end}
use Rattle.gq_laws.specs.Rewriting.Documents.{OfSet, IsSetOf, of_operation, of_fragment, EndsSetIn}
use Rattle.gq_laws.proofs.Rewriting.Conditions.{HoldsOrAvoids, holds, avoids}
use Rattle.gq_laws.proofs.Rewriting.Nests.{StandsIn, run_stands}

-- where a selection stands that begins the last ones of a set
one_stands : (static : Static) (from to : ℕ) {t u : Text} {sels tail : Sels Span} (h : Head Span) (b r : Sels Span) → EndsSet static t sels u tail → tail ≡ more h b r → AreNested from to sels → StandsIn (head_place h).start (head_place h).end from to
one_stands static from to h b r ends_here e nested =
    let n = subst (AreNested from to) e nested in record { begins = n.0; is_some = n.1; ends = n.2 }
one_stands static from to h b r (ends_within {head} k ends) e nested =
    let i = one_stands static ((head_place head).start + 1) (head_place head).end h b r ends e nested.3 in
    record { begins = omega (arith, nested.0, i.begins); is_some = i.is_some; ends = omega (arith, nested.2, i.ends) }
one_stands static from to h b r (ends_after {head} ends) e nested =
    let i = one_stands static (head_place head).end to h b r ends e nested.4 in
    record { begins = omega (arith, nested.0, nested.1, i.begins); is_some = i.is_some; ends = i.ends }

pub record IsSame (u u' : Text) (h h' : Head Span) (b b' : Sels Span) : Type 0 where
  pub type_name : u ≡ u'
  pub head : h ≡ h'
  pub below : b ≡ b'

-- what the last selections of a set are, that is not empty
data Ends (static : Static) (t : Text) (head : Head Span) (below rest : Sels Span) (u : Text) (tail : Sels Span) : Type 0 where
  all_of_it : u ≡ t → tail ≡ more head below rest → Ends static t head below rest u tail
  below_it : (c : Text) → type_below static t head ≡ Some c → EndsSet static c below u tail → Ends static t head below rest u tail
  behind_it : EndsSet static t rest u tail → Ends static t head below rest u tail

ends_of : (static : Static) {t u : Text} {head : Head Span} {below rest tail : Sels Span} → EndsSet static t (more head below rest) u tail → Ends static t head below rest u tail
ends_of static ends_here = all_of_it refl refl
ends_of static (ends_within {c} k ends) = below_it c k ends
ends_of static (ends_after ends) = behind_it ends

pub no_end : (static : Static) {t u : Text} {tail : Sels Span} (h : Head Span) (b r : Sels Span) → EndsSet static t none u tail → tail ≡ more h b r → ⊥
no_end static h b r ends_here e = cc

module _ (static : Static) (h h' : Head Span) (b b' r r' : Sels Span) (same : (head_place h).start ≡ (head_place h').start) where
  whole : (from to : ℕ) {t u' : Text} {tail' : Sels Span} → EndsSet static t (more h b r) u' tail' → tail' ≡ more h' b' r' → AreNested from to (more h b r) → IsSame t u' h h' b b'
  whole from to {t} {u'} {tail'} ends e nested = by (ends_of static ends)
    where
      by : Ends static t h b r u' tail' → IsSame t u' h h' b b'
      by (all_of_it p q) = record { type_name = sym p; head = cc; below = cc }
      by (below_it c k inner) = let i = one_stands static ((head_place h).start + 1) (head_place h).end h' b' r' inner e nested.3 in absurd (omega (arith, same, i.begins))
      by (behind_it behind) = let i = one_stands static (head_place h).end to h' b' r' behind e nested.4 in absurd (omega (arith, same, i.begins, nested.1))

  once : (from to : ℕ) {t u u' : Text} {sels tail tail' : Sels Span} → EndsSet static t sels u tail → tail ≡ more h b r → EndsSet static t sels u' tail' → tail' ≡ more h' b' r' → AreNested from to sels → IsSame u u' h h' b b'
  once from to {t} {u' = u'} {tail' = tail'} ends_here e ends' e' nested =
      whole from to (subst (λ z. EndsSet static t z u' tail') e ends') e' (subst (AreNested from to) e nested)
  once from to {t} {u} {u'} {tail} {tail'} (ends_within {c} {head} {below} {rest} k ends) e ends' e' nested = by (ends_of static ends') (λ i. once ((head_place head).start + 1) (head_place head).end ends e i e' nested.3)
    where
      by : Ends static t head below rest u' tail' → (EndsSet static c below u' tail' → IsSame u u' h h' b b') → IsSame u u' h h' b b'
      by (all_of_it p q) next =
          let first : head ≡ h' = cc in
          let i = one_stands static ((head_place head).start + 1) (head_place head).end h b r ends e nested.3 in
          absurd (let starts : (head_place head).start ≡ (head_place h').start = ap (λ z. (head_place z).start) first in omega (arith, same, starts, i.begins))
      by (below_it d l inner) next = let one : d ≡ c = cc in next (subst (λ z. EndsSet static z below u' tail') one inner)
      by (behind_it behind) next =
          let i = one_stands static ((head_place head).start + 1) (head_place head).end h b r ends e nested.3 in
          let j = one_stands static (head_place head).end to h' b' r' behind e' nested.4 in
          absurd (omega (arith, same, i.is_some, i.ends, j.begins))
  once from to {t} {u} {u'} {tail} {tail'} (ends_after {head} {below} {rest} ends) e ends' e' nested = by (ends_of static ends') (λ i. once (head_place head).end to ends e i e' nested.4)
    where
      by : Ends static t head below rest u' tail' → (EndsSet static t rest u' tail' → IsSame u u' h h' b b') → IsSame u u' h h' b b'
      by (all_of_it p q) next =
          let first : head ≡ h' = cc in
          let i = one_stands static (head_place head).end to h b r ends e nested.4 in
          absurd (let starts : (head_place head).start ≡ (head_place h').start = ap (λ z. (head_place z).start) first in omega (arith, same, starts, i.begins, nested.1))
      by (below_it d l inner) next =
          let i = one_stands static (head_place head).end to h b r ends e nested.4 in
          let j = one_stands static ((head_place head).start + 1) (head_place head).end h' b' r' inner e' nested.3 in
          absurd (omega (arith, same, i.begins, j.is_some, j.ends))
      by (behind_it behind) next = next behind

pub weaker : (low from to : ℕ) (sels : Sels Span) → low ≤ from → AreNested from to sels → AreNested low to sels
weaker low from to none l nested = tt
weaker low from to (more h b r) l nested = (omega (arith, l, nested.0), nested.1, nested.2, nested.3, nested.4, nested.5)

-- where the definitions after the first one begin
pub record Parts (roots : OperationKind → Text) (from : ℕ) (d : Def Span) (ds : List (Def Span)) : Type 0 where
  pub next : ℕ
  pub rises : from ≤ next
  pub own : (t : Text) (set : Sels Span) → IsSetOf roots d t set → AreNested from next set
  pub rest : AreInPlace next ds
  pub begins : (p : Span) → executable_place d ≡ Some p → (from ≤ p.start) × (p.start < next)

pub parts : (roots : OperationKind → Text) (from : ℕ) (d : Def Span) (ds : List (Def Span)) → AreInPlace from (d ∷ ds) → Parts roots from d ds
parts roots from (operation kind name variables directives set braces place) ds all = record {
  next = place.end;
  rises = omega (arith, all.0, all.1);
  own = by;
  rest = all.3;
  begins = λ p e. let same : place ≡ p = cc in subst (λ z. (from ≤ z.start) × (z.start < place.end)) same (all.0, all.1);
}
  where
    by : (t : Text) (sels : Sels Span) → IsSetOf roots (operation kind name variables directives set braces place) t sels → AreNested from place.end sels
    by t sels of_operation = weaker from place.start place.end set all.0 all.2
parts roots from (fragment name on directives set braces place) ds all = record {
  next = place.end;
  rises = omega (arith, all.0, all.1);
  own = by;
  rest = all.3;
  begins = λ p e. let same : place ≡ p = cc in subst (λ z. (from ≤ z.start) × (z.start < place.end)) same (all.0, all.1);
}
  where
    by : (t : Text) (sels : Sels Span) → IsSetOf roots (fragment name on directives set braces place) t sels → AreNested from place.end sels
    by t sels of_fragment = weaker from place.start place.end set all.0 all.2
parts roots from (type_system definition) ds all = record {
  next = from;
  rises = omega arith;
  own = λ t set h. elim h [ ];
  rest = all;
  begins = λ p e. cc;
}

one_set : (roots : OperationKind → Text) (d : Def Span) (t t' : Text) (set set' : Sels Span) → IsSetOf roots d t set → IsSetOf roots d t' set' → (t ≡ t') × (set ≡ set')
one_set roots d t t' set set' of_operation of_operation = (refl, refl)
one_set roots d t t' set set' of_fragment of_fragment = (refl, refl)

module _ (static : Static) (roots : OperationKind → Text) where
  behind : (from : ℕ) (tree : List (Def Span)) → AreInPlace from tree → (d : Def Span) → IsIn d tree → {t u : Text} {set : Sels Span} → IsSetOf roots d t set → (h : Head Span) (b r : Sels Span) → EndsSet static t set u (more h b r) → from ≤ (head_place h).start
  behind from [] all d m is_set h b r ends = absurd m
  behind from (x ∷ tree) all d (inl e) {t} {u} {set} is_set h b r ends =
      let p = parts roots from x tree all in
      let i = one_stands static from p.next h b r ends refl (p.own t set (subst (λ z. IsSetOf roots z t set) e is_set)) in i.begins
  behind from (x ∷ tree) all d (inr m) is_set h b r ends =
      let p = parts roots from x tree all in let i = behind p.next tree p.rest d m is_set h b r ends in omega (arith, p.rises, i)

  ahead : (from : ℕ) (x : Def Span) (tree : List (Def Span)) (all : AreInPlace from (x ∷ tree)) {t u : Text} {set : Sels Span} → IsSetOf roots x t set → (h : Head Span) (b r : Sels Span) → EndsSet static t set u (more h b r) →
      (head_place h).start < (parts roots from x tree all).next
  ahead from x tree all {t} {u} {set} is_set h b r ends =
      let p = parts roots from x tree all in let i = one_stands static from p.next h b r ends refl (p.own t set is_set) in omega (arith, i.is_some, i.ends)

  -- Two selections of a document that begin at one place are one.
  pub once_in : (from : ℕ) (tree : List (Def Span)) → AreInPlace from tree → (h h' : Head Span) (b b' r r' : Sels Span) → (head_place h).start ≡ (head_place h').start →
      (d d' : Def Span) → IsIn d tree → IsIn d' tree → {t t' u u' : Text} {set set' : Sels Span} → IsSetOf roots d t set → IsSetOf roots d' t' set' → EndsSet static t set u (more h b r) → EndsSet static t' set' u' (more h' b' r') → IsSame u u' h h' b b'
  once_in from [] all h h' b b' r r' same d d' m m' is_set is_set' ends ends' = absurd m
  once_in from (x ∷ tree) all h h' b b' r r' same d d' (inl e) (inl e') {t} {t'} {u} {u'} {set} {set'} is_set is_set' ends ends' =
      let p = parts roots from x tree all in
      let here = subst (λ z. IsSetOf roots z t set) e is_set in
      let there = subst (λ z. IsSetOf roots z t' set') e' is_set' in
      let one = one_set roots x t' t set' set there here in
      once static h h' b b' r r' same from p.next ends refl (subst (λ z. EndsSet static z set u' (more h' b' r')) one.0 (subst (λ z. EndsSet static t' z u' (more h' b' r')) one.1 ends')) refl (p.own t set here)
  once_in from (x ∷ tree) all h h' b b' r r' same d d' (inl e) (inr m') {t} {t'} {u} {u'} {set} {set'} is_set is_set' ends ends' =
      let low = ahead from x tree all (subst (λ z. IsSetOf roots z t set) e is_set) h b r ends in
      let high = behind (parts roots from x tree all).next tree (parts roots from x tree all).rest d' m' is_set' h' b' r' ends' in
      absurd (omega (arith, same, low, high))
  once_in from (x ∷ tree) all h h' b b' r r' same d d' (inr m) (inl e') {t} {t'} {u} {u'} {set} {set'} is_set is_set' ends ends' =
      let low = ahead from x tree all (subst (λ z. IsSetOf roots z t' set') e' is_set') h' b' r' ends' in
      let high = behind (parts roots from x tree all).next tree (parts roots from x tree all).rest d m is_set h b r ends in
      absurd (omega (arith, same, low, high))
  once_in from (x ∷ tree) all h h' b b' r r' same d d' (inr m) (inr m') is_set is_set' ends ends' =
      let p = parts roots from x tree all in once_in p.next tree p.rest h h' b b' r r' same d d' m m' is_set is_set' ends ends'

  pub same_selection : (from : ℕ) (tree : List (Def Span)) → AreInPlace from tree → {u u' : Text} {h h' : Head Span} {b b' r r' : Sels Span} → EndsSetIn static roots tree u (more h b r) → EndsSetIn static roots tree u' (more h' b' r') →
      (head_place h).start ≡ (head_place h').start → IsSame u u' h h' b b'
  same_selection from tree all {u} {u'} {h} {h'} {b} {b'} {r} {r'} s s' same = once_in from tree all h h' b b' r r' same s.definition s'.definition s.stands s'.stands s.is_set s'.is_set s.ends s'.ends

  -- Where a run stands in one set, the other sets of the document stand beside it.
  module _ (start end : ℕ) (on : Text) (run : List (Sel Span)) (first : run_start run ≡ Some start) (last : run_end run ≡ Some end) where
    abbrev Fits : Def Span → Type 0
    Fits = OfSet roots (HoldsOrAvoids static start end on run)

    fits : (x : Def Span) → ((t : Text) (set : Sels Span) → IsSetOf roots x t set → HoldsOrAvoids static start end on run t set) → Fits x
    fits (operation kind name variables directives set braces place) h = h (roots kind) set of_operation
    fits (fragment name on directives set braces place) h = h on.text set of_fragment
    fits (type_system definition) h = tt

    all_behind : (from : ℕ) (tree : List (Def Span)) → AreInPlace from tree → end ≤ from → AllByRecursion Fits tree
    all_behind from [] all l = tt
    all_behind from (x ∷ tree) all l =
        let p = parts roots from x tree all in
        (fits x (λ t set h. avoids from p.next (p.own t set h) (inr l)), all_behind p.next tree p.rest (omega (arith, l, p.rises)))

    pub record RunFits (from : ℕ) (tree : List (Def Span)) : Type 0 where
      pub begins : from ≤ start
      pub is_some : start < end
      pub fit : AllByRecursion Fits tree

    run_fits : (from : ℕ) (tree : List (Def Span)) → AreInPlace from tree → (d : Def Span) → IsIn d tree → {t : Text} {set : Sels Span} → IsSetOf roots d t set → (others : List (Sel Span)) → EndsSet static t set on (row (run ++ others)) → RunFits from tree
    run_fits from [] all d m is_set others ends = absurd m
    run_fits from (x ∷ tree) all d (inl e) {t} {set} is_set others ends =
        let p = parts roots from x tree all in
        let here = subst (λ z. IsSetOf roots z t set) e is_set in
        let i = run_stands static start end from p.next run others ends refl first last (p.own t set here) in
        record {
          begins = i.begins;
          is_some = i.is_some;
          fit = (
            fits x (λ t' set' h. let one = one_set roots x t t' set set' here h in holds from p.next (p.own t' set' h) others (subst (λ z. EndsSet static z set' on (row (run ++ others))) one.0 (subst (λ z. EndsSet static t z on (row (run ++ others))) one.1 ends))),
            all_behind p.next tree p.rest i.ends,
          );
        }
    run_fits from (x ∷ tree) all d (inr m) is_set others ends =
        let p = parts roots from x tree all in
        let i = run_fits p.next tree p.rest d m is_set others ends in
        record { begins = omega (arith, p.rises, i.begins); is_some = i.is_some; fit = (fits x (λ t set h. avoids from p.next (p.own t set h) (inl i.begins)), i.fit) }

    pub run_in : (from : ℕ) (tree : List (Def Span)) → AreInPlace from tree → (others : List (Sel Span)) → EndsSetIn static roots tree on (row (run ++ others)) → RunFits from tree
    run_in from tree all others s = run_fits from tree all s.definition s.stands s.is_set others s.ends
