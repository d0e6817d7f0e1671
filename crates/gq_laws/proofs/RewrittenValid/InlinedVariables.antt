-- The faults of variables where a spread is inlined: none that was not there.
use Rattle.std.proofs.Common.{◌≡◌, ℕ, List, [], Option, Some, Contains, refl, sym, ap, ◌∙◌, subst}
use Rattle.gq_text.specs.declared.place.Span.{Span}
use Rattle.gq_tree.specs.Forest.{none}
use Rattle.gq_tree.specs.Names.{spread_names}
use Rattle.gq_tree.specs.Plain.{NameOf, DirectiveOf, Head, spread, Sel, Sels}
use Rattle.gq_fault.specs.declared.fault.Fault.{Fault}
use Rattle.gq_fault.specs.FaultPlaces.{fault_at}
use Rattle.gq_fault.specs.declared.code.Code.TheVariants.{VariableNotDefined, VariableNotUsed, VariableNotAllowedHere}
use Rattle.gq_types.specs.Entries.{Text, EntryOf}
use Rattle.gq_types.specs.Roots.{root_of}
use Rattle.gq_types.proofs.Gathered.{first}
use Rattle.gq_document.specs.Definitions.{OperationOf, FragmentOf}
use Rattle.gq_document.specs.Selections.{IsSelectionWithin, IsOfFragment}
use Rattle.gq_document.specs.Executable.{ExecutableOf}
use Rattle.gq_document.specs.Reaches.{IsSpreadIn, Reaches, at_once, through}
use Rattle.gq_variables.specs.Uses.{PlaceOf, UseOf, StandsInDirectives, directives_of, StandsInSelection, in_arguments, in_directives}
use Rattle.gq_variables.specs.Uses.{IsUsedInOperation, in_selection, in_directive, in_variable, IsUsedInFragment, within_selection, within_directive}
use Rattle.gq_variables.specs.ReachedUses.{ReachesUse, of_itself, of_fragment}
use Rattle.gq_variables.specs.VariableFaults.{IsFaultOfOperation, not_unique, not_of_input_type, not_defined, not_used, not_allowed, IsVariableFault}
use Rattle.gq_laws.specs.Rewriting.Edits.{SpreadAt, IsSpreadOther, IsLastSpread}
use Rattle.gq_laws.proofs.RewrittenValid.InlinedSets.{inlined_set, old_head, new_head, Came, as_it_was, as_inline, moved, came}
use Rattle.gq_laws.proofs.RewrittenValid.InlinedSets.{Went, as_it_is, as_opened, went, below_within, each_within, name_in, within_name}
use Rattle.gq_laws.proofs.RewrittenValid.InlinedProject.{inlined_operation, inlined_fragment, inlined_executable}
use Rattle.gq_laws.proofs.RewrittenValid.InlinedFacts.{HasSet, in_operation, in_fragment, CanBeInlined, was_operation, to_fragment, set_becomes}
use Rattle.gq_laws.proofs.RewrittenValid.InlinedSpreads.{stays_if_other, reached_before}

-- the spread and the inline fragment have the same directives
at_spread : (s : SpreadAt) (name : NameOf Span) (directives : List (DirectiveOf Span)) (es : List EntryOf) (parent : Option Text) (h : Head Span) (variable : NameOf Span) (place : PlaceOf) →
    h ≡ new_head s directives →
    StandsInSelection es parent h variable place → StandsInSelection es parent (old_head s name directives) variable place
at_spread s name directives es parent h variable place e (in_arguments is stands) = absurd (cc)
at_spread s name directives es parent h variable place e (in_directives stands) = in_directives (subst (λ z. StandsInDirectives es (directives_of z) variable place) e stands)

at_inline : (s : SpreadAt) (name : NameOf Span) (directives : List (DirectiveOf Span)) (es : List EntryOf) (parent : Option Text) (h : Head Span) (variable : NameOf Span) (place : PlaceOf) →
    h ≡ old_head s name directives →
    StandsInSelection es parent h variable place → StandsInSelection es parent (new_head s directives) variable place
at_inline s name directives es parent h variable place e (in_arguments is stands) = absurd (cc)
at_inline s name directives es parent h variable place e (in_directives stands) = in_directives (subst (λ z. StandsInDirectives es (directives_of z) variable place) e stands)

-- a use in some document
abbrev UsedIn : ExecutableOf → OperationOf → UseOf → Type 0
UsedIn x o u = (file : ℕ) × ReachesUse x o (record { file = file; name = u.name; place = u.place })

module _ (s : SpreadAt) (x : ExecutableOf) (k : CanBeInlined s x) where
  abbrev y : ExecutableOf
  y = inlined_executable s x

  abbrev its : FragmentOf
  its = k.its.fragment

  own_name : (name : NameOf Span) (directives : List (DirectiveOf Span)) (place : Span) {parent inner : Option Text} {ss below : Sels Span} →
      IsSelectionWithin x.entries parent ss inner (record { label = spread name directives place; below = below }) → Contains (spread_names ss) name
  own_name name directives place w = name_in w name (first name name [] refl)

  its_spread : (parent inner : Option Text) (set below : Sels Span) → IsSelectionWithin x.entries parent set inner (record { label = old_head s k.name k.directives; below = below }) →
      IsSpreadIn set its
  its_spread parent inner set below w = record { name = k.name; stands = own_name k.name k.directives s.place w; names = sym k.its.is_named }

  -- a selection of the fragment's set
  in_its : (inner : Option Text) (t : Sel Span) → IsSelectionWithin x.entries (Some s.on) s.set inner t → IsOfFragment x.entries its (record { file = its.file; parent = inner; selection = t })
  in_its inner t w = (refl, subst (λ z. IsSelectionWithin x.entries (Some z) its.set inner t) (sym k.its.is_on) (subst (λ z. IsSelectionWithin x.entries (Some s.on) z inner t) (sym k.its.is_set) w))

  from_its : (inner : Option Text) (t : Sel Span) (f : FragmentOf) → f ≡ its → IsSelectionWithin x.entries (Some f.on.text) f.set inner t → IsSelectionWithin x.entries (Some s.on) s.set inner t
  from_its inner t f e w =
      subst (λ z. IsSelectionWithin x.entries (Some s.on) z inner t) (ap (λ z. z.set) e ∙ k.its.is_set)
      (subst (λ z. IsSelectionWithin x.entries (Some z) f.set inner t) (ap (λ z. z.on.text) e ∙ k.its.is_on) w)

  -- Each use after was one before.
  module _ (o : OperationOf) (stood : Contains x.operations o) where
    abbrev p : OperationOf
    p = inlined_operation s o

    own_before : (u : UseOf) (inner : Option Text) (t : Sel Span) → StandsInSelection x.entries inner t.label u.name u.place →
        Came s k.name k.directives o.file x.entries (root_of x.entries o.kind) o.set inner t → UsedIn x o u
    own_before u inner t stands (as_it_was a below v) =
        (o.file, of_itself (in_selection {s = record { file = o.file; parent = inner; selection = record { label = t.label; below = below } }} (refl, v) refl stands))
    own_before u inner t stands (as_inline l v) = (
      o.file,
      of_itself (in_selection {s = record { file = o.file; parent = inner; selection = record { label = old_head s k.name k.directives; below = none } }} (refl, v) refl
          (at_spread s k.name k.directives x.entries inner t.label u.name u.place l stands)),
    )
    own_before u inner t stands (moved outer v i) = (
      its.file,
      of_fragment (at_once k.its.stands (its_spread (root_of x.entries o.kind) outer o.set none v))
          (within_selection {s = record { file = its.file; parent = inner; selection = t }} (in_its inner t i) refl stands),
    )

    used_before : (u : UseOf) → IsUsedInOperation x.entries p u → UsedIn x o u
    used_before u (in_selection {s = t} is e stands) =
        own_before u t.parent t.selection stands (came s k.name k.directives o.file x.entries (set_becomes s x k o.file (root_of x.entries o.kind) o.set (in_operation stood)) is.1)
    used_before u (in_directive e stands) = (o.file, of_itself (in_directive refl stands))
    used_before u (in_variable {v = v} e c stands) = (o.file, of_itself (in_variable refl c stands))

    reached_use : (u : UseOf) (f : FragmentOf) → Contains x.fragments f → Reaches x.fragments o.set f → (inner : Option Text) (t : Sel Span) →
        StandsInSelection x.entries inner t.label u.name u.place →
        Came s k.name k.directives f.file x.entries (Some f.on.text) f.set inner t → UsedIn x o u
    reached_use u f c r inner t stands (as_it_was a below v) =
        (f.file, of_fragment r (within_selection {s = record { file = f.file; parent = inner; selection = record { label = t.label; below = below } }} (refl, v) refl stands))
    reached_use u f c r inner t stands (as_inline l v) = (
      f.file,
      of_fragment r (within_selection {s = record { file = f.file; parent = inner; selection = record { label = old_head s k.name k.directives; below = none } }} (refl, v) refl
          (at_spread s k.name k.directives x.entries inner t.label u.name u.place l stands)),
    )
    reached_use u f c r inner t stands (moved outer v i) = (
      its.file,
      of_fragment (through r k.its.stands (its_spread (Some f.on.text) outer f.set none v))
          (within_selection {s = record { file = its.file; parent = inner; selection = t }} (in_its inner t i) refl stands),
    )

    fragment_before : (u : UseOf) (f : FragmentOf) → Contains x.fragments f → Reaches x.fragments o.set f → IsUsedInFragment x.entries (inlined_fragment s f) u → UsedIn x o u
    fragment_before u f c r (within_selection {s = t} is e stands) =
        reached_use u f c r t.parent t.selection stands (came s k.name k.directives f.file x.entries (set_becomes s x k f.file (Some f.on.text) f.set (in_fragment c)) is.1)
    fragment_before u f c r (within_directive e stands) = (f.file, of_fragment r (within_directive refl stands))

    use_before : (u : UseOf) → ReachesUse y p u → UsedIn x o u
    use_before u (of_itself used) = used_before u used
    use_before u (of_fragment {f = g} r used) =
        let w = reached_before s x k r o.file (root_of x.entries o.kind) o.set (in_operation stood) refl in
        fragment_before u w.was w.stood w.reached (subst (λ z. IsUsedInFragment x.entries z u) w.is used)

    -- The fragment's selections stand in the operation, or in a fragment that it reaches.
    data Opened : Type 0 where
      in_base : (inner : Option Text) → IsSelectionWithin x.entries (root_of x.entries o.kind) p.set inner (record { label = new_head s k.directives; below = s.set }) → Opened
      in_reached : (m : FragmentOf) → Reaches y.fragments p.set (inlined_fragment s m) → (inner : Option Text) →
          IsSelectionWithin x.entries (Some m.on.text) (inlined_set s m.file m.set) inner (record { label = new_head s k.directives; below = s.set }) → Opened

    -- What becomes of a fragment that was reached.
    data Reached (f : FragmentOf) : Type 0 where
      still : Contains x.fragments f → Reaches y.fragments p.set (inlined_fragment s f) → Reached f
      opened : f ≡ its → Opened → Reached f

    reach_on : (f : FragmentOf) → Contains x.fragments f → (k.old ≡ Some f.name.text → ⊥) → (Contains y.fragments (inlined_fragment s f) → Reaches y.fragments p.set (inlined_fragment s f)) →
        Reached f
    reach_on f c other reach = still c (reach (to_fragment s x k f c (stays_if_other s x k f c other)))

    reached_by : (file : ℕ) (parent : Option Text) (set : Sels Span) → HasSet x file parent set →
        ((f : FragmentOf) → Contains y.fragments (inlined_fragment s f) → IsSpreadIn (inlined_set s file set) (inlined_fragment s f) → Reaches y.fragments p.set (inlined_fragment s f)) →
        ((inner : Option Text) → IsSelectionWithin x.entries parent (inlined_set s file set) inner (record { label = new_head s k.directives; below = s.set }) → Opened) →
        (f : FragmentOf) → Contains x.fragments f → IsSpreadIn set f → Reached f
    reached_by file parent set h reach opens f c sp =
        let w = within_name x.entries parent set sp.name sp.stands in
        let only_there = each_within (IsLastSpread k.old s file) w.stands (k.last file parent set h) in
        by w.directives w.place only_there (went s k.name k.directives file x.entries (set_becomes s x k file parent set h) w.stands)
      where
        by : (directives : List (DirectiveOf Span)) (place : Span) → IsLastSpread k.old s file (spread sp.name directives place) → {inner : Option Text} {below : Sels Span} →
            Went s k.name k.directives file x.entries parent (inlined_set s file set) inner (record { label = spread sp.name directives place; below = below }) → Reached f
        by directives place only_there (as_it_is a below v) =
            reach_on f c (λ q. let there = only_there (q ∙ ap Some (sym sp.names)) in cc) (λ d. reach f d (record { name = sp.name; stands = own_name sp.name directives place v; names = sp.names }))
        by directives place only_there {inner} (as_opened a l v) =
            let same : sp.name ≡ k.name = cc in
            opened (k.one_name f its c k.its.stands (sym sp.names ∙ ap (λ z. z.text) same ∙ sym k.its.is_named)) (opens inner v)

    in_opened : Opened → (f : FragmentOf) → Contains x.fragments f → IsSpreadIn s.set f → Reached f
    in_opened there f c sp =
        let w = within_name x.entries (Some s.on) s.set sp.name sp.stands in
        let other = each_within (IsSpreadOther k.old) w.stands k.other in
        reach_on f c (λ q. other (q ∙ ap Some (sym sp.names))) (λ d. by w.directives w.place d w.stands there)
      where
        by : (directives : List (DirectiveOf Span)) (place : Span) → Contains y.fragments (inlined_fragment s f) → {inner : Option Text} {below : Sels Span} →
            IsSelectionWithin x.entries (Some s.on) s.set inner (record { label = spread sp.name directives place; below = below }) → Opened → Reaches y.fragments p.set (inlined_fragment s f)
        by directives place d i (in_base inner v) = at_once d (record { name = sp.name; stands = own_name sp.name directives place (below_within v i); names = sp.names })
        by directives place d i (in_reached m r inner v) = through r d (record { name = sp.name; stands = own_name sp.name directives place (below_within v i); names = sp.names })

    reached_after : {f : FragmentOf} → Reaches x.fragments o.set f → Reached f
    reached_after {f} (at_once c sp) = reached_by o.file (root_of x.entries o.kind) o.set (in_operation stood) (λ g d i. at_once d i) (λ inner v. in_base inner v) f c sp
    reached_after {f} (through {g = m} r c sp) = by (reached_after r)
      where
        by : Reached m → Reached f
        by (still d q) = reached_by m.file (Some m.on.text) m.set (in_fragment d) (λ g e i. through q e i) (λ inner v. in_reached m q inner v) f c sp
        by (opened e there) = in_opened there f c (subst (λ z. IsSpreadIn z f) (ap (λ z. z.set) e ∙ k.its.is_set) sp)

    -- Each use before is one after.
    own_after : (u : UseOf) (inner : Option Text) (t : Sel Span) → StandsInSelection x.entries inner t.label u.name u.place →
        Went s k.name k.directives o.file x.entries (root_of x.entries o.kind) p.set inner t → UsedIn y p u
    own_after u inner t stands (as_it_is a below v) =
        (o.file, of_itself (in_selection {s = record { file = o.file; parent = inner; selection = record { label = t.label; below = below } }} (refl, v) refl stands))
    own_after u inner t stands (as_opened a l v) = (
      o.file,
      of_itself (in_selection {s = record { file = o.file; parent = inner; selection = record { label = new_head s k.directives; below = s.set } }} (refl, v) refl
          (at_inline s k.name k.directives x.entries inner t.label u.name u.place l stands)),
    )

    used_after : (u : UseOf) → IsUsedInOperation x.entries o u → UsedIn y p u
    used_after u (in_selection {s = t} is e stands) =
        own_after u t.parent t.selection stands (went s k.name k.directives o.file x.entries (set_becomes s x k o.file (root_of x.entries o.kind) o.set (in_operation stood)) is.1)
    used_after u (in_directive e stands) = (o.file, of_itself (in_directive refl stands))
    used_after u (in_variable {v = v} e c stands) = (o.file, of_itself (in_variable refl c stands))

    still_use : (u : UseOf) (f : FragmentOf) → Reaches y.fragments p.set (inlined_fragment s f) → (inner : Option Text) (t : Sel Span) → StandsInSelection x.entries inner t.label u.name u.place →
        Went s k.name k.directives f.file x.entries (Some f.on.text) (inlined_set s f.file f.set) inner t → UsedIn y p u
    still_use u f r inner t stands (as_it_is a below v) =
        (f.file, of_fragment r (within_selection {s = record { file = f.file; parent = inner; selection = record { label = t.label; below = below } }} (refl, v) refl stands))
    still_use u f r inner t stands (as_opened a l v) = (
      f.file,
      of_fragment r (within_selection {s = record { file = f.file; parent = inner; selection = record { label = new_head s k.directives; below = s.set } }} (refl, v) refl
          (at_inline s k.name k.directives x.entries inner t.label u.name u.place l stands)),
    )

    opened_use : (u : UseOf) (inner : Option Text) (t : Sel Span) → StandsInSelection x.entries inner t.label u.name u.place → IsSelectionWithin x.entries (Some s.on) s.set inner t → Opened →
        UsedIn y p u
    opened_use u inner t stands i (in_base middle v) =
        (o.file, of_itself (in_selection {s = record { file = o.file; parent = inner; selection = t }} (refl, below_within v i) refl stands))
    opened_use u inner t stands i (in_reached m r middle v) =
        (m.file, of_fragment r (within_selection {s = record { file = m.file; parent = inner; selection = t }} (refl, below_within v i) refl stands))

    fragment_after : (u : UseOf) (f : FragmentOf) → IsUsedInFragment x.entries f u → Reached f → UsedIn y p u
    fragment_after u f (within_selection {s = t} is e stands) (still c r) =
        still_use u f r t.parent t.selection stands (went s k.name k.directives f.file x.entries (set_becomes s x k f.file (Some f.on.text) f.set (in_fragment c)) is.1)
    fragment_after u f (within_selection {s = t} is e stands) (opened same there) = opened_use u t.parent t.selection stands (from_its t.parent t.selection f same is.1) there
    fragment_after u f (within_directive e stands) (still c r) = (f.file, of_fragment r (within_directive refl stands))
    fragment_after u f (within_directive e stands) (opened same there) =
        absurd (k.its.no_variable u.name u.place (subst (λ z. StandsInDirectives x.entries z.directives u.name u.place) same stands))

    use_after : (u : UseOf) → ReachesUse x o u → UsedIn y p u
    use_after u (of_itself used) = used_after u used
    use_after u (of_fragment {f = f} r used) = fragment_after u f used (reached_after r)

    -- a fault of the operation
    module _ (no_fault : (f : Fault) → IsVariableFault x f → ⊥) where
      no_fault_of : (item : Fault) → IsFaultOfOperation y p item → ⊥
      no_fault_of item (not_unique h) = no_fault item (record { operation = o; stands = stood; fault = not_unique (record { variable = h.variable; repeated = h.repeated; is = h.is }) })
      no_fault_of item (not_of_input_type h) =
          no_fault item (record { operation = o; stands = stood; fault = not_of_input_type (record { variable = h.variable; defined = h.defined; no_input = h.no_input; is = h.is }) })
      no_fault_of item (not_defined h) =
          let u = use_before h.one h.reached in
          no_fault (fault_at u.0 VariableNotDefined h.one.name)
          (record { operation = o; stands = stood; fault = not_defined (record { one = _; reached = u.1; undefined = h.undefined; is = refl }) })
      no_fault_of item (not_used h) =
          no_fault (fault_at o.file VariableNotUsed h.variable.name) (record {
            operation = o;
            stands = stood;
            fault = not_used (record { variable = h.variable; defined = h.defined; unused = λ u r. let v = use_after u r in h.unused _ v.1; is = refl });
          })
      no_fault_of item (not_allowed h) =
          let u = use_before h.one h.reached in
          no_fault (fault_at u.0 VariableNotAllowedHere h.one.name) (record {
            operation = o;
            stands = stood;
            fault = not_allowed (record {
              one = _;
              reached = u.1;
              variable = h.variable;
              defined = h.defined;
              names_it = h.names_it;
              location = h.location;
              read_at = h.read_at;
              variable_known = h.variable_known;
              location_known = h.location_known;
              not_allowed = h.not_allowed;
              is = refl;
            });
          })

  pub no_variable_fault : ((f : Fault) → IsVariableFault x f → ⊥) → (f : Fault) → IsVariableFault y f → ⊥
  no_variable_fault no_fault item h =
      let w = was_operation s x h.operation h.stands in
      no_fault_of w.was w.stood no_fault item (subst (λ z. IsFaultOfOperation y z item) w.is h.fault)
