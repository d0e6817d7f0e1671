-- In a document whose definitions stand in place no two selections begin at one place.
use Rattle.std.proofs.Common.{◌≡◌, ◌⊎◌, inl, inr, ℕ, ◌+◌, ◌<◌, ◌≤◌, List, [], ◌∷◌, refl, sym, subst, arith}
use Rattle.std.specs.List.{AllByRecursion}
use Rattle.gq_text.specs.declared.place.Span.{Span}
use Rattle.gq_tree.specs.declared.tree.OperationKind.{OperationKind}
use Rattle.gq_tree.specs.Forest.{none, more}
use Rattle.gq_tree.specs.Plain.{Head, Sels, Def, operation, fragment, type_system}
use Rattle.gq_types.specs.Entries.{Text}
use Rattle.gq_meaning.specs.Thin.{IsIn}
use Rattle.gq_meaning.specs.Rewritten.{Static}
use Rattle.gq_rewritten.specs.Rewrites.{head_place}
use Rattle.gq_laws.specs.Rewriting.KnownBefore.{Each, EndsSet, ends_here, ends_within, ends_after}
use Rattle.gq_laws.specs.Rewriting.Places.{AreNested, AreInPlace}
use Rattle.gq_laws.specs.Rewriting.Documents.{OfSet, IsSetOf, of_operation, of_fragment}

-- a selection says this, at any depth
pub data HeadIn (h : Head Span) : Sels Span → Type 0 where
  at_first : {below rest : Sels Span} → HeadIn h (more h below rest)
  below_it : {g : Head Span} {below rest : Sels Span} → HeadIn h below → HeadIn h (more g below rest)
  behind_it : {g : Head Span} {below rest : Sels Span} → HeadIn h rest → HeadIn h (more g below rest)

-- so does the first of the last ones of a set
pub first_in : (static : Static) (h : Head Span) (below rest : Sels Span) {t u : Text} {sels tail : Sels Span} → EndsSet static t sels u tail → tail ≡ more h below rest → HeadIn h sels
first_in static h below rest ends_here e = subst (HeadIn h) (sym e) at_first
first_in static h below rest (ends_within k ends) e = below_it (first_in static h below rest ends e)
first_in static h below rest (ends_after ends) e = behind_it (first_in static h below rest ends e)

-- what begins where it does is the same
abbrev pub IsItThere : Head Span → Head Span → Type 0
IsItThere h g = (head_place g).start ≡ (head_place h).start → g ≡ h

module _ (h : Head Span) where
  abbrev start : ℕ
  start = (head_place h).start

  lies_in : (from to : ℕ) {set : Sels Span} → HeadIn h set → AreNested from to set → (from ≤ start) × (start < to)
  lies_in from to at_first nested = (nested.0, omega (arith, nested.1, nested.2))
  lies_in from to (below_it {g = g} w) nested =
      let i = lies_in ((head_place g).start + 1) (head_place g).end w nested.3 in
      (omega (arith, nested.0, i.0), omega (arith, nested.2, i.1))
  lies_in from to (behind_it {g = g} w) nested =
      let i = lies_in (head_place g).end to w nested.4 in
      (omega (arith, nested.0, nested.1, i.0), i.1)

  -- none begins there in a set that stands before it or behind its begin
  none_there : (from to : ℕ) (set : Sels Span) → AreNested from to set → (to ≤ start) ⊎ (start < from) → Each (IsItThere h) set
  none_there from to none nested apart = tt
  none_there from to (more g below rest) nested (inl l) = (
    λ e. absurd (omega (arith, e, l, nested.1, nested.2)),
    none_there ((head_place g).start + 1) (head_place g).end below nested.3 (inl (omega (arith, l, nested.2))),
    none_there (head_place g).end to rest nested.4 (inl l),
  )
  none_there from to (more g below rest) nested (inr l) = (
    λ e. absurd (omega (arith, e, l, nested.0)),
    none_there ((head_place g).start + 1) (head_place g).end below nested.3 (inr (omega (arith, l, nested.0))),
    none_there (head_place g).end to rest nested.4 (inr (omega (arith, l, nested.0, nested.1))),
  )

  once : (from to : ℕ) (set : Sels Span) → HeadIn h set → AreNested from to set → Each (IsItThere h) set
  once from to none w nested = elim w [ ]
  once from to (more g below rest) at_first nested = (
    λ e. refl,
    none_there ((head_place g).start + 1) (head_place g).end below nested.3 (inr (omega arith)),
    none_there (head_place g).end to rest nested.4 (inr (nested.1)),
  )
  once from to (more g below rest) (below_it w) nested =
      let i = lies_in ((head_place g).start + 1) (head_place g).end w nested.3 in (
        λ e. absurd (omega (arith, e, i.0)),
        once ((head_place g).start + 1) (head_place g).end below w nested.3,
        none_there (head_place g).end to rest nested.4 (inr i.1),
      )
  once from to (more g below rest) (behind_it w) nested =
      let i = lies_in (head_place g).end to w nested.4 in (
        λ e. absurd (omega (arith, e, i.0, nested.1)),
        none_there ((head_place g).start + 1) (head_place g).end below nested.3 (inl i.0),
        once (head_place g).end to rest w nested.4,
      )

  module _ (roots : OperationKind → Text) where
    abbrev OnceIn : Def Span → Type 0
    OnceIn = OfSet roots (λ t set. Each (IsItThere h) set)

    none_behind : (from : ℕ) (tree : List (Def Span)) → AreInPlace from tree → start < from → AllByRecursion OnceIn tree
    none_behind from [] all l = tt
    none_behind from (operation kind name variables directives set braces place ∷ tree) all l =
        (none_there place.start place.end set all.2 (inr (omega (arith, l, all.0))), none_behind place.end tree all.3 (omega (arith, l, all.0, all.1)))
    none_behind from (fragment name on directives set braces place ∷ tree) all l =
        (none_there place.start place.end set all.2 (inr (omega (arith, l, all.0))), none_behind place.end tree all.3 (omega (arith, l, all.0, all.1)))
    none_behind from (type_system definition ∷ tree) all l = (tt, none_behind from tree all l)

    set_lies_in : (d : Def Span) (from : ℕ) (tree : List (Def Span)) → AreInPlace from (d ∷ tree) → {t : Text} {set : Sels Span} → IsSetOf roots d t set → HeadIn h set → from ≤ start
    set_lies_in (operation kind name variables directives set braces place) from tree all of_operation w = let i = lies_in place.start place.end w all.2 in omega (arith, i.0, all.0)
    set_lies_in (fragment name on directives set braces place) from tree all of_fragment w = let i = lies_in place.start place.end w all.2 in omega (arith, i.0, all.0)
    set_lies_in (type_system definition) from tree all is_set w = elim is_set [ ]

    lies_behind : (from : ℕ) (tree : List (Def Span)) → AreInPlace from tree → (d : Def Span) → IsIn d tree → {t : Text} {set : Sels Span} → IsSetOf roots d t set → HeadIn h set → from ≤ start
    lies_behind from [] all d m is_set w = absurd m
    lies_behind from (x ∷ tree) all d (inl e) {t} {set} is_set w = set_lies_in x from tree all (subst (λ z. IsSetOf roots z t set) e is_set) w
    lies_behind from (operation kind name variables directives set braces place ∷ tree) all d (inr m) is_set w =
        let i = lies_behind place.end tree all.3 d m is_set w in omega (arith, i, all.0, all.1)
    lies_behind from (fragment name on directives set braces place ∷ tree) all d (inr m) is_set w =
        let i = lies_behind place.end tree all.3 d m is_set w in omega (arith, i, all.0, all.1)
    lies_behind from (type_system definition ∷ tree) all d (inr m) is_set w = lies_behind from tree all d m is_set w

    once_first : (d : Def Span) (from : ℕ) (tree : List (Def Span)) → AreInPlace from (d ∷ tree) → {t : Text} {set : Sels Span} → IsSetOf roots d t set → HeadIn h set →
        AllByRecursion OnceIn (d ∷ tree)
    once_first (operation kind name variables directives set braces place) from tree all of_operation w =
        let i = lies_in place.start place.end w all.2 in (once place.start place.end set w all.2, none_behind place.end tree all.3 i.1)
    once_first (fragment name on directives set braces place) from tree all of_fragment w =
        let i = lies_in place.start place.end w all.2 in (once place.start place.end set w all.2, none_behind place.end tree all.3 i.1)
    once_first (type_system definition) from tree all is_set w = elim is_set [ ]

    pub once_in : (from : ℕ) (tree : List (Def Span)) → AreInPlace from tree → (d : Def Span) → IsIn d tree → {t : Text} {set : Sels Span} → IsSetOf roots d t set → HeadIn h set →
        AllByRecursion OnceIn tree
    once_in from [] all d m is_set w = tt
    once_in from (x ∷ tree) all d (inl e) {t} {set} is_set w = once_first x from tree all (subst (λ z. IsSetOf roots z t set) e is_set) w
    once_in from (operation kind name variables directives set braces place ∷ tree) all d (inr m) is_set w =
        (none_there place.start place.end set all.2 (inl (lies_behind place.end tree all.3 d m is_set w)), once_in place.end tree all.3 d m is_set w)
    once_in from (fragment name on directives set braces place ∷ tree) all d (inr m) is_set w =
        (none_there place.start place.end set all.2 (inl (lies_behind place.end tree all.3 d m is_set w)), once_in place.end tree all.3 d m is_set w)
    once_in from (type_system definition ∷ tree) all d (inr m) is_set w = (tt, once_in from tree all d m is_set w)
