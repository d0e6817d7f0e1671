-- A selection set in which a spread becomes an inline fragment, its places kept.
use Rattle.std.proofs.Common.{◌≡◌, ℕ, Bool, true, false, List, ◌++◌, Option, Some, Contains, ◌⊎◌, inl, inr, refl, sym, ap, ◌∙◌, subst}
use Rattle.std.specs.Prelude.{◌&&◌, nat_eq, if◌then◌else◌}
use Rattle.std.proofs.lemmas.List.Elements.{Contains-append_left, Contains-append_right, Contains-append_cases}
use Rattle.gq_text.specs.declared.place.Span.{Span}
use Rattle.gq_tree.specs.Forest.{none, more, labels}
use Rattle.gq_tree.specs.Names.{spread_name, spread_names}
use Rattle.gq_tree.specs.Plain.{NameOf, DirectiveOf, Head, field, spread, inline, Sel, Sels, no_place, place_head, erase_all}
use Rattle.gq_types.specs.Entries.{Text, EntryOf}
use Rattle.gq_types.proofs.Gathered.{nothing_in, first, later, cases_cons, only, from_flat, to_flat}
use Rattle.gq_document.specs.Selections.{parent_below, IsSelectionWithin, here, within, after}
use Rattle.gq_rewritten.specs.Rewrites.{head_place, same_place, inlined_head, with_inlined}
use Rattle.gq_laws.specs.Rewriting.KnownBefore.{Each}
use Rattle.gq_laws.specs.Rewriting.Edits.{SpreadAt}

-- whether a selection of the document of that number stands at the place
abbrev pub is_at : SpreadAt → ℕ → Head Span → Bool
is_at s file h = nat_eq s.file file && same_place (head_place h) s.place

-- the inline fragment that stands for a spread
abbrev pub opened_head : SpreadAt → Head Span → Head Span
opened_head s (field alias name arguments directives braces place) = field alias name arguments directives braces place
opened_head s (spread name directives place) = inline (Some (record { text = s.on; place = place })) directives place place
opened_head s (inline on directives braces place) = inline on directives braces place

abbrev pub inlined_set : SpreadAt → ℕ → Sels Span → Sels Span
inlined_set s file none = none
inlined_set s file (more h below rest) =
    if is_at s file h then more (opened_head s h) s.set (inlined_set s file rest) else more h (inlined_set s file below) (inlined_set s file rest)

set_step : (s : SpreadAt) (file : ℕ) (h : Head Span) (below rest : Sels Span) (b : Bool) → is_at s file h ≡ b →
    inlined_set s file (more h below rest) ≡ (if b then more (opened_head s h) s.set (inlined_set s file rest) else more h (inlined_set s file below) (inlined_set s file rest))
set_step s file h below rest b e = ap (λ z. if z then more (opened_head s h) s.set (inlined_set s file rest) else more h (inlined_set s file below) (inlined_set s file rest)) e

-- places forgotten, it is what the rewrite makes
head_forgets : (s : SpreadAt) (h : Head Span) → place_head no_place (opened_head s h) ≡ inlined_head s.on h
head_forgets s (field alias name arguments directives braces place) = refl
head_forgets s (spread name directives place) = refl
head_forgets s (inline on directives braces place) = refl

module _ (s : SpreadAt) (file : ℕ) where
  abbrev bare_set : Sels Span → Sels (Unit {0})
  bare_set = with_inlined s.place s.on (erase_all s.set)

  bare_step : (h : Head Span) (below rest : Sels Span) (b : Bool) → same_place (head_place h) s.place ≡ b →
      bare_set (more h below rest) ≡ (if b then more (inlined_head s.on h) (erase_all s.set) (bare_set rest) else more (place_head no_place h) (bare_set below) (bare_set rest))
  bare_step h below rest b e = ap (λ z. if z then more (inlined_head s.on h) (erase_all s.set) (bare_set rest) else more (place_head no_place h) (bare_set below) (bare_set rest)) e

  pub set_forgets : nat_eq s.file file ≡ true → (set : Sels Span) → erase_all (inlined_set s file set) ≡ bare_set set
  set_forgets is_here none = refl
  set_forgets is_here (more h below rest) = by (same_place (head_place h) s.place) refl (set_forgets is_here below) (set_forgets is_here rest)
    where
      both : (b : Bool) → same_place (head_place h) s.place ≡ b → is_at s file h ≡ b
      both b e = ap (λ z. z && same_place (head_place h) s.place) is_here ∙ e

      by : (b : Bool) → same_place (head_place h) s.place ≡ b → erase_all (inlined_set s file below) ≡ bare_set below → erase_all (inlined_set s file rest) ≡ bare_set rest →
          erase_all (inlined_set s file (more h below rest)) ≡ bare_set (more h below rest)
      by true e i j =
          ap erase_all (set_step s file h below rest true (both true e))
          ∙ ap (λ z. more z (erase_all s.set) (erase_all (inlined_set s file rest))) (head_forgets s h)
          ∙ ap (λ z. more (inlined_head s.on h) (erase_all s.set) z) j
          ∙ sym (bare_step h below rest true e)
      by false e i j =
          ap erase_all (set_step s file h below rest false (both false e))
          ∙ ap (λ z. more (place_head no_place h) z (erase_all (inlined_set s file rest))) i
          ∙ ap (λ z. more (place_head no_place h) (bare_set below) z) j
          ∙ sym (bare_step h below rest false e)

  pub set_elsewhere : nat_eq s.file file ≡ false → (set : Sels Span) → inlined_set s file set ≡ set
  set_elsewhere there none = refl
  set_elsewhere there (more h below rest) =
      set_step s file h below rest false (ap (λ z. z && same_place (head_place h) s.place) there)
      ∙ ap (λ z. more h z (inlined_set s file rest)) (set_elsewhere there below)
      ∙ ap (λ z. more h below z) (set_elsewhere there rest)

-- the spread, and the inline fragment that stands for it
abbrev pub old_head : SpreadAt → NameOf Span → List (DirectiveOf Span) → Head Span
old_head s name directives = spread name directives s.place

abbrev pub new_head : SpreadAt → List (DirectiveOf Span) → Head Span
new_head s directives = inline (Some (record { text = s.on; place = s.place })) directives s.place s.place

-- At the place stands that spread alone.
abbrev pub IsOnly : SpreadAt → NameOf Span → List (DirectiveOf Span) → ℕ → Sels Span → Type 0
IsOnly s name directives file none = Unit {0}
IsOnly s name directives file (more h below rest) =
    (is_at s file h ≡ true → (h ≡ old_head s name directives) × (below ≡ none)) × IsOnly s name directives file below × IsOnly s name directives file rest

-- what a set becomes
pub data Becomes (s : SpreadAt) (name : NameOf Span) (directives : List (DirectiveOf Span)) (file : ℕ) : Sels Span → Sels Span → Type 0 where
  ends : Becomes s name directives file none none
  opens : {rest rest' : Sels Span} → is_at s file (old_head s name directives) ≡ true → Becomes s name directives file rest rest' →
      Becomes s name directives file (more (old_head s name directives) none rest) (more (new_head s directives) s.set rest')
  stays : {h : Head Span} {below below' rest rest' : Sels Span} → is_at s file h ≡ false → Becomes s name directives file below below' → Becomes s name directives file rest rest' →
      Becomes s name directives file (more h below rest) (more h below' rest')

pub becomes : (s : SpreadAt) (name : NameOf Span) (directives : List (DirectiveOf Span)) (file : ℕ) (set : Sels Span) → IsOnly s name directives file set →
    Becomes s name directives file set (inlined_set s file set)
becomes s name directives file none all = ends
becomes s name directives file (more h below rest) all = by (is_at s file h) refl (becomes s name directives file below all.1) (becomes s name directives file rest all.2)
  where
    by : (b : Bool) → is_at s file h ≡ b → Becomes s name directives file below (inlined_set s file below) → Becomes s name directives file rest (inlined_set s file rest) →
        Becomes s name directives file (more h below rest) (inlined_set s file (more h below rest))
    by true e i j =
        let one = all.0 e in
        subst (λ z. Becomes s name directives file (more h below rest) z) (sym (set_step s file h below rest true e))
        (subst (λ z. Becomes s name directives file (more h z rest) (more (opened_head s h) s.set (inlined_set s file rest))) (sym one.1)
        (subst (λ z. Becomes s name directives file (more z none rest) (more (opened_head s z) s.set (inlined_set s file rest))) (sym one.0) (opens (subst (λ z. is_at s file z ≡ true) one.0 e) j)))
    by false e i j = subst (λ z. Becomes s name directives file (more h below rest) z) (sym (set_step s file h below rest false e)) (stays e i j)

-- Where a selection of the new set comes from: the old set, the spread itself, or the fragment's selections.
pub data Came (s : SpreadAt) (name : NameOf Span) (directives : List (DirectiveOf Span)) (file : ℕ) (es : List EntryOf) (parent : Option Text) (set : Sels Span) (inner : Option Text)
    (t : Sel Span) : Type 0 where
  as_it_was : is_at s file t.label ≡ false → (below : Sels Span) → IsSelectionWithin es parent set inner (record { label = t.label; below = below }) →
      Came s name directives file es parent set inner t
  as_inline : t.label ≡ new_head s directives → IsSelectionWithin es parent set inner (record { label = old_head s name directives; below = none }) →
      Came s name directives file es parent set inner t
  moved : (outer : Option Text) → IsSelectionWithin es parent set outer (record { label = old_head s name directives; below = none }) → IsSelectionWithin es (Some s.on) s.set inner t →
      Came s name directives file es parent set inner t

-- What becomes of a selection of the old set.
pub data Went (s : SpreadAt) (name : NameOf Span) (directives : List (DirectiveOf Span)) (file : ℕ) (es : List EntryOf) (parent : Option Text) (set' : Sels Span) (inner : Option Text)
    (t : Sel Span) : Type 0 where
  as_it_is : is_at s file t.label ≡ false → (below : Sels Span) → IsSelectionWithin es parent set' inner (record { label = t.label; below = below }) →
      Went s name directives file es parent set' inner t
  as_opened : is_at s file t.label ≡ true → t.label ≡ old_head s name directives → IsSelectionWithin es parent set' inner (record { label = new_head s directives; below = s.set }) →
      Went s name directives file es parent set' inner t

none_within : (es : List EntryOf) (parent inner : Option Text) (t : Sel Span) {A : Type 0} → IsSelectionWithin es parent none inner t → A
none_within es parent inner t w = absurd (elim w [ ])

module _ (s : SpreadAt) (name : NameOf Span) (directives : List (DirectiveOf Span)) (file : ℕ) (es : List EntryOf) where
  came_by : {p q : Option Text} {ss ts : Sels Span} (f : (o : Option Text) (t : Sel Span) → IsSelectionWithin es p ss o t → IsSelectionWithin es q ts o t) {inner : Option Text} {t : Sel Span} →
      Came s name directives file es p ss inner t → Came s name directives file es q ts inner t
  came_by f {inner} {t} (as_it_was e below w) = as_it_was e below (f inner (record { label = t.label; below = below }) w)
  came_by f {inner} (as_inline e w) = as_inline e (f inner (record { label = old_head s name directives; below = none }) w)
  came_by f (moved outer w i) = moved outer (f outer (record { label = old_head s name directives; below = none }) w) i

  pub came : {set set' : Sels Span} → Becomes s name directives file set set' → {parent inner : Option Text} {t : Sel Span} → IsSelectionWithin es parent set' inner t →
      Came s name directives file es parent set inner t
  came ends {parent} {inner} {t} w = none_within es parent inner t w
  came (opens a i) here = as_inline refl here
  came (opens a i) {parent} (within w) = moved parent here w
  came (opens a i) (after w) = came_by (λ o t v. after v) (came i w)
  came (stays e i j) (here) = as_it_was e _ here
  came (stays e i j) (within w) = came_by (λ o t v. within v) (came i w)
  came (stays e i j) (after w) = came_by (λ o t v. after v) (came j w)

  went_by : {p q : Option Text} {ss ts : Sels Span} (f : (o : Option Text) (t : Sel Span) → IsSelectionWithin es p ss o t → IsSelectionWithin es q ts o t) {inner : Option Text} {t : Sel Span} →
      Went s name directives file es p ss inner t → Went s name directives file es q ts inner t
  went_by f {inner} {t} (as_it_is e below w) = as_it_is e below (f inner (record { label = t.label; below = below }) w)
  went_by f {inner} (as_opened a e w) = as_opened a e (f inner (record { label = new_head s directives; below = s.set }) w)

  pub went : {set set' : Sels Span} → Becomes s name directives file set set' → {parent inner : Option Text} {t : Sel Span} → IsSelectionWithin es parent set inner t →
      Went s name directives file es parent set' inner t
  went ends {parent} {inner} {t} w = none_within es parent inner t w
  went (opens a i) here = as_opened a refl here
  went (opens a i) {parent} {inner} {t} (within w) = none_within es (parent_below es parent (old_head s name directives)) inner t w
  went (opens a i) (after w) = went_by (λ o t v. after v) (went i w)
  went (stays e i j) here = as_it_is e _ here
  went (stays e i j) (within w) = went_by (λ o t v. within v) (went i w)
  went (stays e i j) (after w) = went_by (λ o t v. after v) (went j w)

-- what stands below a selection
pub below_within : {es : List EntryOf} {parent middle inner : Option Text} {ss : Sels Span} {m t : Sel Span} → IsSelectionWithin es parent ss middle m →
    IsSelectionWithin es (parent_below es middle m.label) m.below inner t →
    IsSelectionWithin es parent ss inner t
below_within here v = within v
below_within (within w) v = within (below_within w v)
below_within (after w) v = after (below_within w v)

-- what is so of each selection
pub each_within : {es : List EntryOf} {parent inner : Option Text} {ss : Sels Span} {t : Sel Span} (IsSo : Head Span → Type 0) → IsSelectionWithin es parent ss inner t → Each IsSo ss → IsSo t.label
each_within IsSo here e = e.0
each_within IsSo (within w) e = each_within IsSo w e.1
each_within IsSo (after w) e = each_within IsSo w e.2

-- A spread of that name stands among selections.
pub record SpreadWithin (es : List EntryOf) (parent : Option Text) (ss : Sels Span) (name : NameOf Span) : Type 0 where
  pub inner : Option Text
  pub below : Sels Span
  pub directives : List (DirectiveOf Span)
  pub place : Span
  pub stands : IsSelectionWithin es parent ss inner (record { label = spread name directives place; below = below })

label_in : {es : List EntryOf} {parent inner : Option Text} {ss : Sels Span} {t : Sel Span} → IsSelectionWithin es parent ss inner t → Contains (labels ss) t.label
label_in (here {head = head} {below = below} {rest = rest}) = first head head (labels below ++ labels rest) refl
label_in {t = t} (within {head = head} {below = below} {rest = rest} w) = later head t.label (labels below ++ labels rest) (Contains-append_left (labels below) (labels rest) t.label (label_in w))
label_in {t = t} (after {head = head} {below = below} {rest = rest} w) = later head t.label (labels below ++ labels rest) (Contains-append_right (labels below) (labels rest) t.label (label_in w))

pub name_in : {es : List EntryOf} {parent inner : Option Text} {ss : Sels Span} {t : Sel Span} → IsSelectionWithin es parent ss inner t → (name : NameOf Span) →
    Contains (spread_name t.label) name → Contains (spread_names ss) name
name_in {ss = ss} {t = t} w name c = to_flat spread_name (labels ss) t.label name (label_in w) c

abbrev LabelWithin : List EntryOf → Option Text → Sels Span → Head Span → Type 0
LabelWithin es parent ss l = (inner : Option Text) × (below : Sels Span) × IsSelectionWithin es parent ss inner (record { label = l; below = below })

label_within : (es : List EntryOf) (parent : Option Text) (ss : Sels Span) (l : Head Span) → Contains (labels ss) l → LabelWithin es parent ss l
label_within es parent none l c = nothing_in l c
label_within es parent (more h below rest) l c = by (cases_cons h l (labels below ++ labels rest) c) (label_within es (parent_below es parent h) below l) (label_within es parent rest l)
  where
    parts : (Contains (labels below) l ⊎ Contains (labels rest) l) → (Contains (labels below) l → LabelWithin es (parent_below es parent h) below l) →
        (Contains (labels rest) l → LabelWithin es parent rest l) → LabelWithin es parent (more h below rest) l
    parts (inl d) i j = let k = i d in (k.0, k.1, within k.2)
    parts (inr d) i j = let k = j d in (k.0, k.1, after k.2)

    by : (h ≡ l) ⊎ Contains (labels below ++ labels rest) l → (Contains (labels below) l → LabelWithin es (parent_below es parent h) below l) →
        (Contains (labels rest) l → LabelWithin es parent rest l) → LabelWithin es parent (more h below rest) l
    by (inl e) i j = (parent, below, subst (λ z. IsSelectionWithin es parent (more h below rest) parent (record { label = z; below = below })) e here)
    by (inr d) i j = parts (Contains-append_cases (labels below) (labels rest) l d) i j

pub within_name : (es : List EntryOf) (parent : Option Text) (ss : Sels Span) (name : NameOf Span) → Contains (spread_names ss) name → SpreadWithin es parent ss name
within_name es parent ss name c = let l = from_flat spread_name (labels ss) name c in by l.0 (label_within es parent ss l.0 l.1) l.2
  where
    by : (l : Head Span) → LabelWithin es parent ss l → Contains (spread_name l) name → SpreadWithin es parent ss name
    by (field alias n arguments ds braces place) w d = nothing_in name d
    by (spread n ds place) w d =
        let same : n ≡ name = sym (only n name d) in
        record { inner = w.0; below = w.1; directives = ds; place = place; stands = subst (λ z. IsSelectionWithin es parent ss w.0 (record { label = spread z ds place; below = w.1 })) same w.2 }
    by (inline on ds braces place) w d = nothing_in name d
