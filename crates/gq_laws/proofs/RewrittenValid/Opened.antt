-- Selections of which an inline fragment that says nothing lost its braces, all places kept.
use Rattle.std.proofs.Common.{◌≡◌, ◌⊎◌, ⊎_elim, inl, inr, Bool, true, false, List, [], ◌∷◌, ◌++◌, Option, Some, None, flat_map, refl, sym, ap, ◌∙◌, subst}
use Rattle.std.specs.Prelude.{if◌then◌else◌}
use Rattle.std.proofs.lemmas.List.{append_assoc}
use Rattle.gq_text.specs.declared.place.Span.{Span}
use Rattle.gq_tree.specs.Forest.{none, more, labels}
use Rattle.gq_tree.specs.Plain as tree
use Rattle.gq_tree.specs.Plain.{NameOf, Head, Sel, Sels, no_place, place_head, erase_all}
use Rattle.gq_tree.specs.Names.{spread_name, spread_names}
use Rattle.gq_types.specs.Entries.{Text, EntryOf}
use Rattle.gq_document.specs.Selections.{IsSelectionWithin, here, within, after, parent_below}
use Rattle.gq_rewritten.specs.Rewrites.{head_place, same_place, followed_by, without_braces}
use Rattle.gq_laws.specs.Rewriting.KnownBefore.{SaysNothing}

abbrev pub opened : Span → Sels Span → Sels Span
opened place none = none
opened place (more head below rest) = if same_place (head_place head) place then followed_by below (opened place rest) else more head (opened place below) (opened place rest)

-- places forgotten
erase_followed : (a b : Sels Span) → erase_all (followed_by a b) ≡ followed_by (erase_all a) (erase_all b)
erase_followed none b = refl
erase_followed (more h below rest) b = ap (λ z. more (place_head no_place h) (erase_all below) z) (erase_followed rest b)

pub opened_erased : (place : Span) (ss : Sels Span) → erase_all (opened place ss) ≡ without_braces place ss
opened_erased place none = refl
opened_erased place (more h b r) = by (same_place (head_place h) place) (opened_erased place b) (opened_erased place r)
  where
    by : (t : Bool) → erase_all (opened place b) ≡ without_braces place b → erase_all (opened place r) ≡ without_braces place r →
        erase_all (if t then followed_by b (opened place r) else more h (opened place b) (opened place r)) ≡
        (if t then followed_by (erase_all b) (without_braces place r) else more (place_head no_place h) (without_braces place b) (without_braces place r))
    by true eb er = erase_followed b (opened place r) ∙ ap (λ z. followed_by (erase_all b) z) er
    by false eb er = ap (λ z. more (place_head no_place h) z (erase_all (opened place r))) eb ∙ ap (λ z. more (place_head no_place h) (without_braces place b) z) er

-- what a selection among these is
pub data Among (es : List EntryOf) (parent : Option Text) (h : Head Span) (b r : Sels Span) (inner : Option Text) (s : Sel Span) : Type 0 where
  it_is : inner ≡ parent → s ≡ record { label = h; below = b } → Among es parent h b r inner s
  below_it : IsSelectionWithin es (parent_below es parent h) b inner s → Among es parent h b r inner s
  behind_it : IsSelectionWithin es parent r inner s → Among es parent h b r inner s

pub among : (es : List EntryOf) {parent inner : Option Text} {h : Head Span} {b r : Sels Span} {s : Sel Span} → IsSelectionWithin es parent (more h b r) inner s → Among es parent h b r inner s
among es here = it_is refl refl
among es (within w) = below_it w
among es (after w) = behind_it w

pub none_stands : (es : List EntryOf) (parent inner : Option Text) (s : Sel Span) → IsSelectionWithin es parent none inner s → ⊥
none_stands es parent inner s w = elim w [ ]

-- selections one after another
pub in_first : (es : List EntryOf) {parent inner : Option Text} {ss : Sels Span} {s : Sel Span} (ts : Sels Span) → IsSelectionWithin es parent ss inner s →
    IsSelectionWithin es parent (followed_by ss ts) inner s
in_first es ts here = here
in_first es ts (within w) = within w
in_first es ts (after w) = after (in_first es ts w)

pub in_second : (es : List EntryOf) {parent inner : Option Text} {s : Sel Span} (ss ts : Sels Span) → IsSelectionWithin es parent ts inner s → IsSelectionWithin es parent (followed_by ss ts) inner s
in_second es none ts w = w
in_second es (more h b r) ts w = after (in_second es r ts w)

pub in_one : (es : List EntryOf) {parent inner : Option Text} {s : Sel Span} (ss ts : Sels Span) → IsSelectionWithin es parent (followed_by ss ts) inner s →
    IsSelectionWithin es parent ss inner s ⊎ IsSelectionWithin es parent ts inner s
in_one es none ts w = inr w
in_one es {parent} {inner} {s} (more h b r) ts w = by (among es w) (λ v. in_one es r ts v)
  where
    by : Among es parent h b (followed_by r ts) inner s → (IsSelectionWithin es parent (followed_by r ts) inner s → IsSelectionWithin es parent r inner s ⊎ IsSelectionWithin es parent ts inner s) →
        IsSelectionWithin es parent (more h b r) inner s ⊎ IsSelectionWithin es parent ts inner s
    by (it_is p q) next = inl (subst (λ z. IsSelectionWithin es parent (more h b r) z s) (sym p) (subst (λ z. IsSelectionWithin es parent (more h b r) parent z) (sym q) here))
    by (below_it v) next = inl (within v)
    by (behind_it v) next = ⊎_elim (λ u. inl (after u)) (λ u. inr u) (next v)

-- An inline fragment says nothing, where its parent has that type.
abbrev pub SaysNothingIn : Option Text → Head Span → Type 0
SaysNothingIn parent h = (t : Text) × (parent ≡ Some t) × SaysNothing t h

pub same_below : (es : List EntryOf) (parent : Option Text) (h : Head Span) → SaysNothingIn parent h → parent_below es parent h ≡ parent
same_below es parent (tree.field alias name arguments directives braces place) says = absurd says.2
same_below es parent (tree.spread name directives place) says = absurd says.2
same_below es parent (tree.inline None directives braces place) says = refl
same_below es parent (tree.inline (Some on) directives braces place) says = ap Some says.2.1 ∙ sym says.1

no_spread : (t : Text) (h : Head Span) → SaysNothing t h → spread_name h ≡ []
no_spread t (tree.field alias name arguments directives braces place) says = absurd says
no_spread t (tree.spread name directives place) says = absurd says
no_spread t (tree.inline on directives braces place) says = refl

-- At the place stands only such a one, at any depth.
abbrev pub OnlyNothing : List EntryOf → Span → Option Text → Sels Span → Type 0
OnlyNothing es place parent ss = (inner : Option Text) (s : Sel Span) → IsSelectionWithin es parent ss inner s → same_place (head_place s.label) place ≡ true → SaysNothingIn inner s.label

-- a selection with this head, whatever is below it
abbrev pub StandsToo : List EntryOf → Option Text → Sels Span → Option Text → Head Span → Type 0
StandsToo es parent ss inner h = (b : Sels Span) × IsSelectionWithin es parent ss inner (record { label = h; below = b })

module _ (es : List EntryOf) (place : Span) where
  -- What stands now stood before.
  pub stood : (parent : Option Text) (ss : Sels Span) → OnlyNothing es place parent ss → (inner : Option Text) (s : Sel Span) → IsSelectionWithin es parent (opened place ss) inner s →
      StandsToo es parent ss inner s.label
  stood parent none only inner s w = absurd (none_stands es parent inner s w)
  stood parent (more h b r) only inner s w =
      by (same_place (head_place h) place) refl w
      (λ v. stood (parent_below es parent h) b (λ i t u. only i t (within u)) inner s v)
      (λ v. stood parent r (λ i t u. only i t (after u)) inner s v)
    where
      by : (t : Bool) → same_place (head_place h) place ≡ t → IsSelectionWithin es parent (if t then followed_by b (opened place r) else more h (opened place b) (opened place r)) inner s →
          (IsSelectionWithin es (parent_below es parent h) (opened place b) inner s → StandsToo es (parent_below es parent h) b inner s.label) →
          (IsSelectionWithin es parent (opened place r) inner s → StandsToo es parent r inner s.label) → StandsToo es parent (more h b r) inner s.label
      by true e v next_b next_r =
          ⊎_elim (λ u. (s.below, within (subst (λ z. IsSelectionWithin es z b inner s) (sym (same_below es parent h (only parent (record { label = h; below = b }) here e))) u)))
          (λ u. let i = next_r u in (i.0, after i.1)) (in_one es b (opened place r) v)
      by false e v next_b next_r = kinds (among es v)
        where
          kinds : Among es parent h (opened place b) (opened place r) inner s → StandsToo es parent (more h b r) inner s.label
          kinds (it_is p q) = (
            b,
            subst (λ z. IsSelectionWithin es parent (more h b r) z (record { label = s.label; below = b })) (sym p)
                (subst (λ z. IsSelectionWithin es parent (more h b r) parent (record { label = z; below = b })) (ap (λ z. z.label) (sym q)) here),
          )
          kinds (below_it u) = let i = next_b u in (i.0, within i.1)
          kinds (behind_it u) = let i = next_r u in (i.0, after i.1)

  -- What stood before stands now, if it says something.
  abbrev pub StaysOrNothing : Option Text → Sels Span → Option Text → Head Span → Type 0
  StaysOrNothing parent ss inner h = SaysNothingIn inner h ⊎ StandsToo es parent ss inner h

  pub stays : (parent : Option Text) (ss : Sels Span) → OnlyNothing es place parent ss → (inner : Option Text) (s : Sel Span) → IsSelectionWithin es parent ss inner s →
      StaysOrNothing parent (opened place ss) inner s.label
  stays parent none only inner s w = absurd (none_stands es parent inner s w)
  stays parent (more h b r) only inner s w =
      by (same_place (head_place h) place) refl (among es w)
      (λ v. stays (parent_below es parent h) b (λ i t u. only i t (within u)) inner s v)
      (λ v. stays parent r (λ i t u. only i t (after u)) inner s v)
    where
      by : (t : Bool) → same_place (head_place h) place ≡ t → Among es parent h b r inner s →
          (IsSelectionWithin es (parent_below es parent h) b inner s → StaysOrNothing (parent_below es parent h) (opened place b) inner s.label) →
          (IsSelectionWithin es parent r inner s → StaysOrNothing parent (opened place r) inner s.label) →
          StaysOrNothing parent (if t then followed_by b (opened place r) else more h (opened place b) (opened place r)) inner s.label
      by true e (it_is p q) next_b next_r =
          inl (subst (λ z. SaysNothingIn z s.label) (sym p) (subst (λ z. SaysNothingIn parent z) (ap (λ z. z.label) (sym q)) (only parent (record { label = h; below = b }) here e)))
      by true e (below_it v) next_b next_r =
          inr (s.below, in_first es (opened place r) (subst (λ z. IsSelectionWithin es z b inner s) (same_below es parent h (only parent (record { label = h; below = b }) here e)) v))
      by true e (behind_it v) next_b next_r = ⊎_elim (λ i. inl i) (λ i. inr (i.0, in_second es b (opened place r) i.1)) (next_r v)
      by false e (it_is p q) next_b next_r =
          inr (
            opened place b,
            subst (λ z. IsSelectionWithin es parent (more h (opened place b) (opened place r)) z (record { label = s.label; below = opened place b })) (sym p)
                (subst (λ z. IsSelectionWithin es parent (more h (opened place b) (opened place r)) parent (record { label = z; below = opened place b })) (ap (λ z. z.label) (sym q)) here),
          )
      by false e (below_it v) next_b next_r = ⊎_elim (λ i. inl i) (λ i. inr (i.0, within i.1)) (next_b v)
      by false e (behind_it v) next_b next_r = ⊎_elim (λ i. inl i) (λ i. inr (i.0, after i.1)) (next_r v)

-- the names in spreads
names_append : (xs ys : List (Head Span)) → flat_map spread_name (xs ++ ys) ≡ flat_map spread_name xs ++ flat_map spread_name ys
names_append [] ys = refl
names_append (x ∷ xs) ys = ap (λ z. spread_name x ++ z) (names_append xs ys) ∙ sym (append_assoc (spread_name x) (flat_map spread_name xs) (flat_map spread_name ys))

pub names_more : (h : Head Span) (b r : Sels Span) → spread_names (more h b r) ≡ spread_name h ++ (spread_names b ++ spread_names r)
names_more h b r = ap (λ z. spread_name h ++ z) (names_append (labels b) (labels r))

pub names_followed : (a b : Sels Span) → spread_names (followed_by a b) ≡ spread_names a ++ spread_names b
names_followed none b = refl
names_followed (more h c r) b =
    names_more h c (followed_by r b) ∙ ap (λ z. spread_name h ++ (spread_names c ++ z)) (names_followed r b)
    ∙ ap (λ z. spread_name h ++ z) (sym (append_assoc (spread_names c) (spread_names r) (spread_names b)))
    ∙ sym (append_assoc (spread_name h) (spread_names c ++ spread_names r) (spread_names b))
    ∙ ap (λ z. z ++ spread_names b) (sym (names_more h c r))

pub names_opened : (es : List EntryOf) (place : Span) (parent : Option Text) (ss : Sels Span) → OnlyNothing es place parent ss → spread_names (opened place ss) ≡ spread_names ss
names_opened es place parent none only = refl
names_opened es place parent (more h b r) only =
    by (same_place (head_place h) place) refl (names_opened es place (parent_below es parent h) b (λ i t u. only i t (within u))) (names_opened es place parent r (λ i t u. only i t (after u)))
  where
    by : (t : Bool) → same_place (head_place h) place ≡ t → spread_names (opened place b) ≡ spread_names b → spread_names (opened place r) ≡ spread_names r →
        spread_names (if t then followed_by b (opened place r) else more h (opened place b) (opened place r)) ≡ spread_names (more h b r)
    by true e eb er =
        let says = only parent (record { label = h; below = b }) here e in
        names_followed b (opened place r) ∙ ap (λ z. spread_names b ++ z) er ∙ ap (λ z. z ++ (spread_names b ++ spread_names r)) (sym (no_spread says.0 h says.2)) ∙ sym (names_more h b r)
    by false e eb er =
        names_more h (opened place b) (opened place r) ∙ ap (λ z. spread_name h ++ (z ++ spread_names (opened place r))) eb ∙ ap (λ z. spread_name h ++ (spread_names b ++ z)) er
        ∙ sym (names_more h b r)
