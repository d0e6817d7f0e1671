-- A project in which a run of selections was put into a new fragment, all places kept, has no fault of a rule.
use Rattle.std.proofs.Common.{◌≡◌, ◌≢◌, ◌⊎◌, ⊎_elim, inl, inr, ℕ, List, [], Option, Some, map, Contains, refl, sym, ap, ◌∙◌, subst}
use Rattle.gq_text.specs.declared.place.Span.{Span}
use Rattle.gq_tree.specs.Plain as tree
use Rattle.gq_tree.specs.Plain.{NameOf, DirectiveOf, Head, Sel, Sels, spread}
use Rattle.gq_tree.specs.Names.{spread_name, spread_names}
use Rattle.gq_types.specs.Entries.{Text, EntryOf}
use Rattle.gq_types.specs.Roots.{root_of}
use Rattle.gq_types.proofs.Gathered.{first, nothing_in, from_map, to_map}
use Rattle.gq_document.specs.Definitions.{OperationOf, FragmentOf}
use Rattle.gq_document.specs.Selections.{SelectedOf, IsSelectionWithin, IsOfOperation, IsOfFragment, IsSelected}
use Rattle.gq_document.specs.Selections as selections
use Rattle.gq_document.specs.Executable.{ExecutableOf}
use Rattle.gq_document.specs.Reaches.{IsSpreadIn, Reaches, at_once, through}
use Rattle.gq_fragments.specs.FragmentSpreadIsPossible.{HaveNoObject, IsSpread, of_fragment, of_inline_fragment}
use Rattle.gq_spreads.specs.FragmentSpreadTargetDefined.{IsSpreadName}
use Rattle.gq_spreads.specs.FragmentSpreadTargetDefined as targets
use Rattle.gq_spreads.specs.SpreadFaults.{IsSpreadFault, fragment_not_used, unknown_fragment, fragment_cycle}
use Rattle.gq_spreads.proofs.ReachLemmas.{reached_stands}
use Rattle.gq_variables.specs.Uses.{PlaceOf, UseOf, StandsInSelection, in_arguments, in_directives, IsUsedInOperation}
use Rattle.gq_variables.specs.Uses.{in_selection, in_directive, in_variable, IsUsedInFragment, within_selection, within_directive}
use Rattle.gq_variables.specs.ReachedUses.{ReachesUse}
use Rattle.gq_variables.specs.ReachedUses as uses
use Rattle.gq_laws.specs.Placing.Types.{IsFaultless}
use Rattle.gq_types.proofs.Placing.Alike.{repeated}
use Rattle.gq_laws.proofs.RewrittenValid.Opened.{StandsToo}
use Rattle.gq_laws.proofs.RewrittenValid.Moved.{IsMoved, a_spread, spread_named, IsNewSpread, new_name, moved_was, moved_is, run_was, names_were, names_are, names_of_run, new_stands}
use Rattle.gq_laws.proofs.RewrittenValid.Inserted.{Inserted, inserted_there, inserted_too, inserted_from, none_repeated}
use Rattle.gq_laws.proofs.RewrittenValid.Placed.{changed_operation, changed_fragment}
use Rattle.gq_laws.proofs.RewrittenValid.Kept.{bare_operation, bare_fragment, IsNewFragment, IsOldSelection, with_below, Keeps}
use Rattle.gq_laws.proofs.RewrittenValid.KeptFragments.{IsComposite, KeepsFragments}
use Rattle.gq_laws.proofs.RewrittenValid.KeptVariables.{HasUsesOf}
use Rattle.gq_laws.proofs.RewrittenValid.Removed.{seen_alike}

-- Where it is spread first, a fragment is reached.
pub reaches_from : (fs : List FragmentOf) {set : Sels Span} (t f : FragmentOf) → Contains fs t → IsSpreadIn set t → Reaches fs t.set f → Reaches fs set f
reaches_from fs t f c s (at_once d k) = through (at_once c s) d k
reaches_from fs t f c s (through {g} r d k) = through (reaches_from fs t g c s r) d k

pub reaches_more : (fs : List FragmentOf) {set : Sels Span} (other : Sels Span) → ((n : NameOf Span) → Contains (spread_names set) n → Contains (spread_names other) n) → {f : FragmentOf} →
    Reaches fs set f → Reaches fs other f
reaches_more fs other all (at_once d k) = at_once d (record { name = k.name; stands = all k.name k.stands; names = k.names })
reaches_more fs other all (through r d k) = through (reaches_more fs other all r) d k

-- the first step to a fragment that is reached
pub record FirstStep (fs : List FragmentOf) (set : Sels Span) (f : FragmentOf) : Type 0 where
  pub target : FragmentOf
  pub stands : Contains fs target
  pub spread_there : IsSpreadIn set target
  pub leads : (target ≡ f) ⊎ Reaches fs target.set f

pub first_step : (fs : List FragmentOf) {set : Sels Span} {f : FragmentOf} → Reaches fs set f → FirstStep fs set f
first_step fs (at_once {f} d k) = record { target = f; stands = d; spread_there = k; leads = inl refl }
first_step fs (through {f} {g} r d k) =
    let s = first_step fs r in
    record {
      target = s.target;
      stands = s.stands;
      spread_there = s.spread_there;
      leads = inr (⊎_elim (λ e. at_once d (subst (λ z. IsSpreadIn z.set f) (sym e) k)) (λ w. through w d k) s.leads);
    }

-- A fragment that reaches itself is at fault.
pub no_cycle : (x : ExecutableOf) → IsFaultless IsSpreadFault x → (f : FragmentOf) → Contains x.fragments f → Reaches x.fragments f.set f → ⊥
no_cycle x faultless f c r =
    let s = first_step x.fragments r in
    faultless _ (fragment_cycle (record {
      fragment = f;
      stands = c;
      name = s.spread_there.name;
      is_spread = s.spread_there.stands;
      target = s.target;
      target_stands = s.stands;
      is_named = s.spread_there.names;
      leads_back = ⊎_elim (λ e. subst (λ z. Reaches x.fragments z.set f) (sym e) r) (λ w. w) s.leads;
      is = refl;
    }))

no_use : (es : List EntryOf) (inner : Option Text) (h : Head Span) (spread_of : Text) (at : Span) (name : NameOf Span) (place : PlaceOf) → h ≡ a_spread spread_of at →
    StandsInSelection es inner h name place → ⊥
no_use es inner h spread_of at name place e (in_arguments q s) = absurd (cc)
no_use es inner (tree.field alias text arguments directives braces span) spread_of at name place e (in_directives s) = absurd (cc)
no_use es inner (tree.inline on directives braces span) spread_of at name place e (in_directives s) = absurd (cc)
no_use es inner (tree.spread text directives span) spread_of at name place e (in_directives s) =
    let empty : directives ≡ [] = cc in
    nothing_in s.directive (subst (λ z. Contains z s.directive) empty s.given)

module _ (es : List EntryOf) (os : List OperationOf) (fs gs : List FragmentOf) (file : ℕ) (change : Sels Span → Sels Span) (on : Text) (run : Sels Span) (name : Text) (at : Span) where
  abbrev pub becomes_operation : OperationOf → OperationOf
  becomes_operation = changed_operation file change

  abbrev pub becomes_fragment : FragmentOf → FragmentOf
  becomes_fragment = changed_fragment file change

  -- the new fragment
  abbrev pub new : FragmentOf
  new = record { file = file; name = new_name es on run name at; on = record { text = on; place = at }; directives = []; set = run; braces = at; place = at }

  abbrev pub ps : List OperationOf
  ps = map becomes_operation os

  abbrev pub x : ExecutableOf
  x = record { entries = es; operations = os; fragments = fs }

  abbrev pub y : ExecutableOf
  y = record { entries = es; operations = ps; fragments = gs }

  -- A set of a document holds the run, which is moved, or stays.
  abbrev pub Holds : ℕ → Option Text → Sels Span → Sels Span → Type 0
  Holds n parent set set' = (n ≡ file) × IsMoved es on run name at parent set set'

  abbrev pub HoldsOrStays : ℕ → Option Text → Sels Span → Sels Span → Type 0
  HoldsOrStays n parent set set' = Holds n parent set set' ⊎ (set' ≡ set)

  abbrev pub OperationHolds : OperationOf → Type 0
  OperationHolds o = Holds o.file (root_of es o.kind) o.set (becomes_operation o).set

  abbrev pub FragmentHolds : FragmentOf → Type 0
  FragmentHolds f = Holds f.file (Some f.on.text) f.set (becomes_fragment f).set

  pub data Holder : Type 0 where
    an_operation : (o : OperationOf) → Contains os o → OperationHolds o → Holder
    a_fragment : (f : FragmentOf) → Contains fs f → FragmentHolds f → Holder

  -- what is known of the extract
  pub record IsExtracted : Type 0 where
    pub inserted : Inserted new (map becomes_fragment fs) gs
    pub operation : (o : OperationOf) → Contains os o → HoldsOrStays o.file (root_of es o.kind) o.set (becomes_operation o).set
    pub fragment : (f : FragmentOf) → Contains fs f → HoldsOrStays f.file (Some f.on.text) f.set (becomes_fragment f).set
    pub holder : Holder
    pub fresh : (f : FragmentOf) → Contains fs f → f.name.text ≢ name
    pub not_spread : (n : ℕ) (m : NameOf Span) → IsSpreadName x n m → m.text ≢ name
    pub composite : IsComposite es on
    pub possible : HaveNoObject es on on → ⊥

  module _ (is : IsExtracted) where
    new_there : Contains gs new
    new_there = inserted_there new is.inserted

    fragment_there : (f : FragmentOf) → Contains fs f → Contains gs (becomes_fragment f)
    fragment_there f c = inserted_too new is.inserted (becomes_fragment f) (to_map becomes_fragment fs f c)

    abbrev pub IsOldOne : FragmentOf → Type 0
    IsOldOne g = (f : FragmentOf) × Contains fs f × (becomes_fragment f ≡ g)

    pub new_or_old : (g : FragmentOf) → Contains gs g → (new ≡ g) ⊎ IsOldOne g
    new_or_old g c = ⊎_elim (λ e. inl e) (λ d. inr (from_map becomes_fragment fs g d)) (inserted_from new is.inserted g c)

    pub in_operation : (o : OperationOf) → Contains os o → (n : NameOf Span) → Contains (spread_names o.set) n → n.text ≢ name
    in_operation o c n k e = is.not_spread o.file n (targets.of_operation {o = o} c k refl) e

    pub in_fragment : (f : FragmentOf) → Contains fs f → (n : NameOf Span) → Contains (spread_names f.set) n → n.text ≢ name
    in_fragment f c n k e = is.not_spread f.file n (targets.of_fragment {f = f} c k refl) e

    -- the selections and the names in spreads of one set
    module _ {n : ℕ} {parent : Option Text} {set set' : Sels Span} where
      set_was : HoldsOrStays n parent set set' → (inner : Option Text) (s : Sel Span) → IsSelectionWithin es parent set' inner s →
          StandsToo es parent set inner s.label ⊎ IsNewSpread es on run name at inner s.label
      set_was (inl h) inner s w = moved_was es on run name at h.1 inner s w
      set_was (inr e) inner s w = inl (s.below, subst (λ z. IsSelectionWithin es parent z inner s) e w)

      set_is : HoldsOrStays n parent set set' → (inner : Option Text) (s : Sel Span) → IsSelectionWithin es parent set inner s →
          StandsToo es parent set' inner s.label ⊎ (Holds n parent set set' × IsSelectionWithin es (Some on) run inner s)
      set_is (inl h) inner s w = ⊎_elim (λ i. inl i) (λ i. inr (h, i)) (moved_is es on run name at h.1 inner s w)
      set_is (inr e) inner s w = inl (s.below, subst (λ z. IsSelectionWithin es parent z inner s) (sym e) w)

      spreads_were : HoldsOrStays n parent set set' → (m : NameOf Span) → Contains (spread_names set') m → Contains (spread_names set) m ⊎ ((m.text ≡ name) × Holds n parent set set')
      spreads_were (inl h) m c = ⊎_elim (λ i. inl i) (λ e. inr (ap (λ z. z.text) e, h)) (names_were es on run name at h.1 m c)
      spreads_were (inr e) m c = inl (subst (λ z. Contains (spread_names z) m) e c)

      spreads_are : HoldsOrStays n parent set set' → (m : NameOf Span) → Contains (spread_names set) m → Contains (spread_names set') m ⊎ (Holds n parent set set' × Contains (spread_names run) m)
      spreads_are (inl h) m c = ⊎_elim (λ i. inl i) (λ i. inr (h, i)) (names_are es on run name at h.1 m c)
      spreads_are (inr e) m c = inl (subst (λ z. Contains (spread_names z) m) (sym e) c)

    -- What stands in the run stood in a set before.
    in_holder : (s : SelectedOf) → s.file ≡ file → IsSelectionWithin es (Some on) run s.parent s.selection → IsSelected es os fs s
    in_holder s e w = by is.holder
      where
        by : Holder → IsSelected es os fs s
        by (an_operation o c h) = selections.of_operation {o = o} c (e ∙ sym h.0, run_was es on run name at h.1 s.parent s.selection w)
        by (a_fragment f c h) = selections.of_fragment {f = f} c (e ∙ sym h.0, run_was es on run name at h.1 s.parent s.selection w)

    pub run_name : (m : NameOf Span) → Contains (spread_names run) m → IsSpreadName x file m
    run_name m c = by is.holder
      where
        by : Holder → IsSpreadName x file m
        by (an_operation o d h) = targets.of_operation {o = o} d (names_of_run es on run name at h.1 m c) (sym h.0)
        by (a_fragment f d h) = targets.of_fragment {f = f} d (names_of_run es on run name at h.1 m c) (sym h.0)

    -- the spread is in the set that held the run
    spread_of_new : {n : ℕ} {parent : Option Text} {set set' : Sels Span} → Holds n parent set set' → IsSpreadIn set' new
    spread_of_new h = record { name = new_name es on run name at; stands = new_stands es on run name at h.1; names = refl }

    abbrev IsOldOrNew : SelectedOf → Type 0
    IsOldOrNew s = IsOldSelection es os fs s ⊎ IsNewSpread es on run name at s.parent s.selection.label

    selection_was : (s : SelectedOf) → IsSelected es ps gs s → IsOldOrNew s
    selection_was s (selections.of_operation {o = p} c w) =
        let d = from_map becomes_operation os p c in
        let v = subst (λ z. IsOfOperation es z s) (sym d.2) w in
        ⊎_elim (λ i. inl (i.0, selections.of_operation {o = d.0} d.1 (v.0, i.1))) (λ i. inr i) (set_was (is.operation d.0 d.1) s.parent s.selection v.1)
    selection_was s (selections.of_fragment {f = g} c w) = by (new_or_old g c)
      where
        by : (new ≡ g) ⊎ IsOldOne g → IsOldOrNew s
        by (inl e) = let v = subst (λ z. IsOfFragment es z s) (sym e) w in inl (s.selection.below, in_holder s v.0 v.1)
        by (inr d) =
            let v = subst (λ z. IsOfFragment es z s) (sym d.2) w in
            ⊎_elim (λ i. inl (i.0, selections.of_fragment {f = d.0} d.1 (v.0, i.1))) (λ i. inr i) (set_was (is.fragment d.0 d.1) s.parent s.selection v.1)

    pub keeps : Keeps es os ps fs gs
    keeps = record {
      operations = sym (seen_alike bare_operation becomes_operation os (λ o c. refl));
      fragments = λ g c. ⊎_elim (λ e. inr (subst (IsNewFragment es) e new_is_new)) (λ d. inl (d.0, d.1, ap bare_fragment d.2)) (new_or_old g c);
      selections = λ s c. ⊎_elim (λ i. inl i) (λ i. inr (record { name = new_name es on run name at; place = at; is = i.0 })) (selection_was s c);
    }
      where
        new_is_new : IsNewFragment es new
        new_is_new = record { no_directives = refl; kind = is.composite.kind; is_kind = is.composite.is_kind; composite = is.composite.composite }

    -- a spread of a selection before, and the new one
    old_spread : (n : ℕ) (h : Head Span) (condition : Text) (place : Span) → ((m : NameOf Span) → Contains (spread_name h) m → IsSpreadName x n m) → IsSpread gs h condition place →
        IsSpread fs h condition place
    old_spread n h condition place stands (of_fragment {f = g} {name = m} {directives} {place = span} c same) = by (new_or_old g c)
      where
        by : (new ≡ g) ⊎ IsOldOne g → IsSpread fs (spread m directives span) g.on.text m.place
        by (inl e) = absurd (is.not_spread n m (stands m (first m m [] refl)) (sym (ap (λ z. z.name.text) e ∙ same)))
        by (inr d) = subst (λ z. IsSpread fs (spread m directives span) z m.place) (ap (λ z. z.on.text) d.2) (of_fragment {f = d.0} d.1 (ap (λ z. z.name.text) d.2 ∙ same))
    old_spread n h condition place stands of_inline_fragment = of_inline_fragment

    new_spread : (h : Head Span) (condition : Text) (place : Span) → h ≡ a_spread name at → IsSpread gs h condition place → condition ≡ on
    new_spread h condition place e (of_fragment {f = g} {name = m} {directives} {place = span} c same) = by (new_or_old g c)
      where
        called : m.text ≡ name
        called = let names : m ≡ new_name es on run name at = cc in ap (λ z. z.text) names

        by : (new ≡ g) ⊎ IsOldOne g → g.on.text ≡ on
        by (inl q) = ap (λ z. z.on.text) (sym q)
        by (inr d) = absurd (is.fresh d.0 d.1 (ap (λ z. z.name.text) d.2 ∙ same ∙ called))
    new_spread h condition place e of_inline_fragment = absurd (cc)

    names_selected : (s : SelectedOf) → IsSelected es os fs s → (m : NameOf Span) → Contains (spread_name s.selection.label) m → IsSpreadName x s.file m
    names_selected s (selections.of_operation {o} c w) m k = targets.of_operation {o = o} c (spread_named es (root_of es o.kind) s.parent o.set s.selection m w.1 k) w.0
    names_selected s (selections.of_fragment {f} c w) m k = targets.of_fragment {f = f} c (spread_named es (Some f.on.text) s.parent f.set s.selection m w.1 k) w.0

    pub keeps_fragments : KeepsFragments es os ps fs gs
    keeps_fragments = record {
      repeated = λ g r.
          let texts = seen_alike (λ f. f.name.text) becomes_fragment fs (λ f c. refl) in
          let k = none_repeated (λ f. f.name.text) new is.inserted (λ z c e. let d = from_map becomes_fragment fs z c in is.fresh d.0 d.1 (ap (λ z. z.name.text) d.2 ∙ e)) g r in
          let i = repeated (λ f. f.name.text) (map becomes_fragment fs) fs texts g k in (i.0, i.1);
      spreads = λ s c condition place w.
          ⊎_elim (λ i. inl (i, old_spread s.file s.selection.label condition place (names_selected (with_below s i.0) i.1) w))
          (λ i. inr (λ p e h. is.possible (subst (λ z. HaveNoObject es z on) (same_parent s p e i.1) (subst (λ z. HaveNoObject es p z) (new_spread s.selection.label condition place i.0 w) h))))
          (selection_was s c);
    }
      where
        same_parent : (s : SelectedOf) (p : Text) → s.parent ≡ Some p → s.parent ≡ Some on → p ≡ on
        same_parent s p e f = let both : Some p ≡ Some on = sym e ∙ f in cc

    -- What is reached after was reached before.
    module _ (Direct : Type 0) (set set' : Sels Span) (starts : (m : NameOf Span) → Contains (spread_names set') m → Contains (spread_names set) m ⊎ ((m.text ≡ name) × Direct))
        (others : (m : NameOf Span) → Contains (spread_names set) m → m.text ≢ name) (in_run : Direct → (m : NameOf Span) → Contains (spread_names run) m → Contains (spread_names set) m) where
      pub data WasReached (g : FragmentOf) : Type 0 where
        is_old : (f : FragmentOf) → Contains fs f → becomes_fragment f ≡ g → Reaches fs set f → WasReached g
        is_new : new ≡ g → Direct → WasReached g
        is_behind : new ≡ g → (h : FragmentOf) → Contains fs h → Reaches fs set h → FragmentHolds h → WasReached g

      -- the name of a spread is that of a fragment that is new, or old
      to_new : (g : FragmentOf) → new ≡ g → (k : NameOf Span) → k.text ≡ g.name.text → k.text ≡ name
      to_new g e k same = same ∙ ap (λ z. z.name.text) (sym e)

      to_old : (g : FragmentOf) (d : IsOldOne g) (k : NameOf Span) → k.text ≡ g.name.text → k.text ≡ d.0.name.text
      to_old g d k same = same ∙ ap (λ z. z.name.text) (sym d.2)

      pub was_reached : {g : FragmentOf} → Reaches gs set' g → WasReached g
      was_reached {g} (at_once c k) = by (new_or_old g c) (starts k.name k.stands)
        where
          by : (new ≡ g) ⊎ IsOldOne g → Contains (spread_names set) k.name ⊎ ((k.name.text ≡ name) × Direct) → WasReached g
          by (inl e) (inl i) = absurd (others k.name i (to_new g e k.name k.names))
          by (inl e) (inr i) = is_new e i.1
          by (inr d) (inl i) = is_old d.0 d.1 d.2 (at_once d.1 (record { name = k.name; stands = i; names = to_old g d k.name k.names }))
          by (inr d) (inr i) = absurd (is.fresh d.0 d.1 (sym (to_old g d k.name k.names) ∙ i.0))
      was_reached {g} (through {g = m} way c k) = by (new_or_old g c) (was_reached way)
        where
          by_old : (f : FragmentOf) → Contains fs f → Reaches fs set f → (new ≡ g) ⊎ IsOldOne g → Contains (spread_names f.set) k.name ⊎ ((k.name.text ≡ name) × FragmentHolds f) → WasReached g
          by_old f cf r (inl e) (inl i) = absurd (in_fragment f cf k.name i (to_new g e k.name k.names))
          by_old f cf r (inl e) (inr i) = is_behind e f cf r i.1
          by_old f cf r (inr d) (inl i) = is_old d.0 d.1 d.2 (through r d.1 (record { name = k.name; stands = i; names = to_old g d k.name k.names }))
          by_old f cf r (inr d) (inr i) = absurd (is.fresh d.0 d.1 (sym (to_old g d k.name k.names) ∙ i.0))

          in_new : new ≡ m → Contains (spread_names run) k.name
          in_new e = subst (λ z. Contains (spread_names z.set) k.name) (sym e) k.stands

          by : (new ≡ g) ⊎ IsOldOne g → WasReached m → WasReached g
          by which (is_old f cf e r) = by_old f cf r which (spreads_were (is.fragment f cf) k.name (subst (λ z. Contains (spread_names z.set) k.name) (sym e) k.stands))
          by (inl e) (is_new q i) = absurd (is.not_spread file k.name (run_name k.name (in_new q)) (to_new g e k.name k.names))
          by (inl e) (is_behind q h ch r i) = absurd (is.not_spread file k.name (run_name k.name (in_new q)) (to_new g e k.name k.names))
          by (inr d) (is_new q i) = is_old d.0 d.1 d.2 (at_once d.1 (record { name = k.name; stands = in_run i k.name (in_new q); names = to_old g d k.name k.names }))
          by (inr d) (is_behind q h ch r i) =
              is_old d.0 d.1 d.2 (through r d.1 (record { name = k.name; stands = names_of_run es on run name at i.1 k.name (in_new q); names = to_old g d k.name k.names }))

    -- What was reached before is reached after.
    is_reached : {n : ℕ} {parent : Option Text} {set set' : Sels Span} → HoldsOrStays n parent set set' → {f : FragmentOf} → Reaches fs set f → Reaches gs set' (becomes_fragment f)
    is_reached {set'} state {f} (at_once c k) =
        ⊎_elim (λ i. at_once (fragment_there f c) (record { name = k.name; stands = i; names = k.names }))
        (λ i. through (at_once new_there (spread_of_new i.0)) (fragment_there f c) (record { name = k.name; stands = i.1; names = k.names })) (spreads_are state k.name k.stands)
    is_reached state {f} (through {g = m} way c k) =
        let to_m = is_reached state way in
        ⊎_elim (λ i. through to_m (fragment_there f c) (record { name = k.name; stands = i; names = k.names }))
        (λ i. through (through to_m new_there (spread_of_new i.0)) (fragment_there f c) (record { name = k.name; stands = i.1; names = k.names }))
        (spreads_are (is.fragment m (reached_one way)) k.name k.stands)
      where
        reached_one : {set : Sels Span} {f : FragmentOf} → Reaches fs set f → Contains fs f
        reached_one (at_once c k) = c
        reached_one (through r c k) = c

    -- the faults of spreads
    operation_here : (o : OperationOf) → Contains os o → Contains ps (becomes_operation o)
    operation_here o c = to_map becomes_operation os o c

    all_used : IsFaultless IsSpreadFault x → (g : FragmentOf) → Contains gs g → ((p : OperationOf) → Contains ps p → IsSpreadIn p.set g → ⊥) →
        ((f : FragmentOf) → Contains gs f → IsSpreadIn f.set g → ⊥) → ⊥
    all_used faultless g c in_no_operation in_no_fragment = by (new_or_old g c)
      where
        in_new_set : IsSpreadIn run g → ⊥
        in_new_set k = in_no_fragment new new_there k

        of_new : new ≡ g → Holder → ⊥
        of_new e (an_operation o d h) = in_no_operation (becomes_operation o) (operation_here o d) (subst (IsSpreadIn (becomes_operation o).set) e (spread_of_new h))
        of_new e (a_fragment f d h) = in_no_fragment (becomes_fragment f) (fragment_there f d) (subst (IsSpreadIn (becomes_fragment f).set) e (spread_of_new h))

        by : (new ≡ g) ⊎ IsOldOne g → ⊥
        by (inl e) = of_new e is.holder
        by (inr d) =
            let same : d.0.name.text ≡ g.name.text = ap (λ z. z.name.text) d.2 in
            faultless _ (fragment_not_used (record {
              fragment = d.0;
              stands = d.1;
              in_no_operation = λ o k s. ⊎_elim
                  (λ i. in_no_operation (becomes_operation o) (operation_here o k) (record { name = s.name; stands = i; names = s.names ∙ same }))
                  (λ i. in_new_set (record { name = s.name; stands = i.1; names = s.names ∙ same }))
                  (spreads_are (is.operation o k) s.name s.stands);
              in_no_fragment = λ f k s. ⊎_elim
                  (λ i. in_no_fragment (becomes_fragment f) (fragment_there f k) (record { name = s.name; stands = i; names = s.names ∙ same }))
                  (λ i. in_new_set (record { name = s.name; stands = i.1; names = s.names ∙ same }))
                  (spreads_are (is.fragment f k) s.name s.stands);
              is = refl;
            }))

    name_was : (n : ℕ) (m : NameOf Span) → IsSpreadName y n m → IsSpreadName x n m ⊎ (m.text ≡ name)
    name_was n m (targets.of_operation {o = p} c k e) =
        let d = from_map becomes_operation os p c in
        ⊎_elim (λ i. inl (targets.of_operation {o = d.0} d.1 i (e ∙ ap (λ z. z.file) (sym d.2)))) (λ i. inr i.0)
        (spreads_were (is.operation d.0 d.1) m (subst (λ z. Contains (spread_names z.set) m) (sym d.2) k))
    name_was n m (targets.of_fragment {f = g} c k e) = by (new_or_old g c)
      where
        by : (new ≡ g) ⊎ IsOldOne g → IsSpreadName x n m ⊎ (m.text ≡ name)
        by (inl q) = inl (subst (λ z. IsSpreadName x z m) (sym (e ∙ ap (λ z. z.file) (sym q))) (run_name m (subst (λ z. Contains (spread_names z.set) m) (sym q) k)))
        by (inr d) = ⊎_elim (λ i. inl (targets.of_fragment {f = d.0} d.1 i (e ∙ ap (λ z. z.file) (sym d.2)))) (λ i. inr i.0)
            (spreads_were (is.fragment d.0 d.1) m (subst (λ z. Contains (spread_names z.set) m) (sym d.2) k))

    all_known : IsFaultless IsSpreadFault x → (n : ℕ) (m : NameOf Span) → IsSpreadName y n m → ((g : FragmentOf) → Contains gs g → m.text ≡ g.name.text → ⊥) → ⊥
    all_known faultless n m stands unknown =
        ⊎_elim (λ i. faultless _ (unknown_fragment (record { file = n; name = m; is_spread = i; is_unknown = λ f c e. unknown (becomes_fragment f) (fragment_there f c) e; is = refl })))
        (λ e. unknown new new_there e) (name_was n m stands)

    pub run_others : (m : NameOf Span) → Contains (spread_names run) m → m.text ≢ name
    run_others m c e = is.not_spread file m (run_name m c) e

    none_circles : IsFaultless IsSpreadFault x → (g : FragmentOf) → Contains gs g → Reaches gs g.set g → ⊥
    none_circles faultless g c r = by (new_or_old g c)
      where
        of_new : WasReached ⊥ run run (λ m k. inl k) run_others (λ i. absurd i) new → ⊥
        of_new (is_old f cf e w) = is.fresh f cf (ap (λ z. z.name.text) e)
        of_new (is_new e i) = i
        of_new (is_behind e h ch w i) = no_cycle x faultless h ch (reaches_more fs h.set (names_of_run es on run name at i.1) w)

        of_old : (f : FragmentOf) (cf : Contains fs f) → WasReached (FragmentHolds f) f.set (becomes_fragment f).set (spreads_were (is.fragment f cf)) (in_fragment f cf)
            (λ i. names_of_run es on run name at i.1) (becomes_fragment f) → ⊥
        of_old f cf (is_old h ch e w) = no_cycle x faultless f cf (same_old h ch e w)
          where
            same_old : (h : FragmentOf) → Contains fs h → becomes_fragment h ≡ becomes_fragment f → Reaches fs f.set h → Reaches fs f.set f
            same_old h ch e (at_once d k) = at_once cf (record { name = k.name; stands = k.stands; names = k.names ∙ ap (λ z. z.name.text) e })
            same_old h ch e (through w d k) = through w cf (record { name = k.name; stands = k.stands; names = k.names ∙ ap (λ z. z.name.text) e })
        of_old f cf (is_new e i) = is.fresh f cf (sym (ap (λ z. z.name.text) e))
        of_old f cf (is_behind e h ch w i) = is.fresh f cf (sym (ap (λ z. z.name.text) e))

        by : (new ≡ g) ⊎ IsOldOne g → ⊥
        by (inl e) = of_new (was_reached ⊥ run run (λ m k. inl k) run_others (λ i. absurd i) (subst (λ z. Reaches gs z.set z) (sym e) r))
        by (inr d) = of_old d.0 d.1 (was_reached (FragmentHolds d.0) d.0.set (becomes_fragment d.0).set (spreads_were (is.fragment d.0 d.1)) (in_fragment d.0 d.1)
            (λ i. names_of_run es on run name at i.1) (subst (λ z. Reaches gs z.set z) (sym d.2) r))

    pub spreads_kept : IsFaultless IsSpreadFault x → IsFaultless IsSpreadFault y
    spreads_kept faultless f (fragment_not_used h) = all_used faultless h.fragment h.stands h.in_no_operation h.in_no_fragment
    spreads_kept faultless f (unknown_fragment h) = all_known faultless h.file h.name h.is_spread h.is_unknown
    spreads_kept faultless f (fragment_cycle h) =
        none_circles faultless h.fragment h.stands (reaches_from gs h.target h.fragment h.target_stands (record { name = h.name; stands = h.is_spread; names = h.is_named }) h.leads_back)

    -- the uses of variables
    operation_used : (o : OperationOf) → Contains os o → (u : UseOf) → IsUsedInOperation es (becomes_operation o) u → IsUsedInOperation es o u
    operation_used o c u (in_selection {s} w e k) =
        ⊎_elim (λ i. in_selection {s = with_below s i.0} (w.0, i.1) e k) (λ i. absurd (no_use es s.parent s.selection.label name at u.name u.place i.0 k))
        (set_was (is.operation o c) s.parent s.selection w.1)
    operation_used o c u (in_directive e k) = in_directive e k
    operation_used o c u (in_variable {v} e d k) = in_variable {v = v} e d k

    fragment_used : (f : FragmentOf) → Contains fs f → (u : UseOf) → IsUsedInFragment es (becomes_fragment f) u → IsUsedInFragment es f u
    fragment_used f c u (within_selection {s} w e k) =
        ⊎_elim (λ i. within_selection {s = with_below s i.0} (w.0, i.1) e k) (λ i. absurd (no_use es s.parent s.selection.label name at u.name u.place i.0 k))
        (set_was (is.fragment f c) s.parent s.selection w.1)
    fragment_used f c u (within_directive e k) = within_directive e k

    -- a use in the new fragment, in what held the run
    new_in_operation : (o : OperationOf) → OperationHolds o → (u : UseOf) → IsUsedInFragment es new u → IsUsedInOperation es o u
    new_in_operation o h u (within_selection {s} w e k) = in_selection {s = s} (w.0 ∙ sym h.0, run_was es on run name at h.1 s.parent s.selection w.1) e k
    new_in_operation o h u (within_directive e k) = nothing_in k.directive k.given

    new_in_fragment : (f : FragmentOf) → FragmentHolds f → (u : UseOf) → IsUsedInFragment es new u → IsUsedInFragment es f u
    new_in_fragment f h u (within_selection {s} w e k) = within_selection {s = s} (w.0 ∙ sym h.0, run_was es on run name at h.1 s.parent s.selection w.1) e k
    new_in_fragment f h u (within_directive e k) = nothing_in k.directive k.given

    use_was : (o : OperationOf) → Contains os o → (u : UseOf) → ReachesUse y (becomes_operation o) u → ReachesUse x o u
    use_was o c u (uses.of_itself k) = uses.of_itself (operation_used o c u k)
    use_was o c u (uses.of_fragment {f = g} way k) =
        by (was_reached (OperationHolds o) o.set (becomes_operation o).set (spreads_were (is.operation o c)) (in_operation o c) (λ i. names_of_run es on run name at i.1) way)
      where
        by : WasReached (OperationHolds o) o.set (becomes_operation o).set (spreads_were (is.operation o c)) (in_operation o c) (λ i. names_of_run es on run name at i.1) g → ReachesUse x o u
        by (is_old f cf e w) = uses.of_fragment {f = f} w (fragment_used f cf u (subst (λ z. IsUsedInFragment es z u) (sym e) k))
        by (is_new e i) = uses.of_itself (new_in_operation o i u (subst (λ z. IsUsedInFragment es z u) (sym e) k))
        by (is_behind e h ch w i) = uses.of_fragment {f = h} w (new_in_fragment h i u (subst (λ z. IsUsedInFragment es z u) (sym e) k))

    use_is : (o : OperationOf) → Contains os o → (u : UseOf) → ReachesUse x o u → ReachesUse y (becomes_operation o) u
    use_is o c u (uses.of_itself (in_selection {s} w e k)) =
        ⊎_elim (λ i. uses.of_itself (in_selection {s = with_below s i.0} (w.0, i.1) e k))
        (λ i. uses.of_fragment {f = new} (at_once new_there (spread_of_new i.0)) (within_selection {s = s} (w.0 ∙ i.0.0, i.1) e k)) (set_is (is.operation o c) s.parent s.selection w.1)
    use_is o c u (uses.of_itself (in_directive e k)) = uses.of_itself (in_directive e k)
    use_is o c u (uses.of_itself (in_variable {v} e d k)) = uses.of_itself (in_variable {v = v} e d k)
    use_is o c u (uses.of_fragment {f} way (within_selection {s} w e k)) =
        let to_f = is_reached (is.operation o c) way in
        ⊎_elim (λ i. uses.of_fragment {f = becomes_fragment f} to_f (within_selection {s = with_below s i.0} (w.0, i.1) e k))
        (λ i. uses.of_fragment {f = new} (through to_f new_there (spread_of_new i.0)) (within_selection {s = s} (w.0 ∙ i.0.0, i.1) e k))
        (set_is (is.fragment f (reached_stands fs o.set f way)) s.parent s.selection w.1)
    use_is o c u (uses.of_fragment {f} way (within_directive e k)) = uses.of_fragment {f = becomes_fragment f} (is_reached (is.operation o c) way) (within_directive e k)

    pub has_uses : (p : OperationOf) → Contains ps p → HasUsesOf x y p
    has_uses p c =
        let d = from_map becomes_operation os p c in
        record {
          operation = d.0;
          stands = d.1;
          bare = ap bare_operation (sym d.2);
          were = λ u r. use_was d.0 d.1 u (subst (λ z. ReachesUse y z u) (sym d.2) r);
          are = λ u r. subst (λ z. ReachesUse y z u) d.2 (use_is d.0 d.1 u r);
        }
