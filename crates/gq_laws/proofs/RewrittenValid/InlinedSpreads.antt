-- The faults of spreads where a spread is inlined: none that was not there.
use Rattle.std.proofs.Common.{◌≡◌, ◌⊎◌, inl, inr, ℕ, Bool, true, false, List, [], Option, Some, None, Contains, refl, sym, ap, ◌∙◌, subst}
use Rattle.gq_text.specs.declared.place.Span.{Span}
use Rattle.gq_tree.specs.Names.{spread_names}
use Rattle.gq_tree.specs.Plain.{NameOf, DirectiveOf, spread, Sel, Sels}
use Rattle.gq_fault.specs.declared.fault.Fault.{Fault}
use Rattle.gq_fault.specs.FaultPlaces.{fault_at}
use Rattle.gq_fault.specs.declared.code.Code.TheVariants.{FragmentNotUsed, UnknownFragment, FragmentCycle}
use Rattle.gq_types.specs.Entries.{Text}
use Rattle.gq_types.specs.Roots.{root_of}
use Rattle.gq_types.proofs.Gathered.{first}
use Rattle.gq_document.specs.Definitions.{OperationOf, FragmentOf}
use Rattle.gq_document.specs.Selections.{SelectedOf, IsSelectionWithin, of_operation, of_fragment}
use Rattle.gq_document.specs.Executable.{ExecutableOf, Selects}
use Rattle.gq_document.specs.Reaches.{IsSpreadIn, Reaches, at_once, through}
use Rattle.gq_spreads.specs.FragmentsMustBeUsed.{IsUnusedFragment}
use Rattle.gq_spreads.specs.FragmentSpreadTargetDefined.{IsSpreadName, IsUnknownFragment}
use Rattle.gq_spreads.specs.FragmentSpreadTargetDefined as targets
use Rattle.gq_spreads.specs.FragmentSpreadsMustNotFormCycles.{IsFragmentCycle}
use Rattle.gq_spreads.specs.SpreadFaults.{IsSpreadFault, fragment_not_used, unknown_fragment, fragment_cycle}
use Rattle.gq_laws.specs.Rewriting.Edits.{SpreadAt, IsSpreadOther, IsLastSpread}
use Rattle.gq_laws.proofs.RewrittenValid.InlinedSets.{is_at, inlined_set, old_head, Came, as_it_was, as_inline, moved, came}
use Rattle.gq_laws.proofs.RewrittenValid.InlinedSets.{Went, as_it_is, as_opened, went, below_within, each_within, name_in, within_name}
use Rattle.gq_laws.proofs.RewrittenValid.InlinedProject.{inlined_operation, inlined_fragment, fragment_stays, inlined_executable}
use Rattle.gq_laws.proofs.RewrittenValid.InlinedFacts.{HasSet, in_operation, in_fragment, CanBeInlined, was_operation, was_fragment, to_operation, to_fragment, set_becomes}

-- The name of a spread in a new set: it stood in the old one, or in the fragment whose spread stood there. No fragment goes that has it.
pub record CameName (s : SpreadAt) (x : ExecutableOf) (k : CanBeInlined s x) (set : Sels Span) (name : NameOf Span) : Type 0 where
  pub other : k.old ≡ Some name.text → ⊥
  pub from : Contains (spread_names set) name ⊎ (Contains (spread_names set) k.name × Contains (spread_names s.set) name)

-- A fragment that is reached after was reached before.
pub record WasReached (s : SpreadAt) (x : ExecutableOf) (base : Sels Span) (g : FragmentOf) : Type 0 where
  pub was : FragmentOf
  pub stood : Contains x.fragments was
  pub is : g ≡ inlined_fragment s was
  pub reached : Reaches x.fragments base was

module _ (s : SpreadAt) (x : ExecutableOf) (k : CanBeInlined s x) where
  abbrev y : ExecutableOf
  y = inlined_executable s x

  own_name : (name : NameOf Span) (directives : List (DirectiveOf Span)) (place : Span) {parent inner : Option Text} {ss below : Sels Span} →
      IsSelectionWithin x.entries parent ss inner (record { label = spread name directives place; below = below }) → Contains (spread_names ss) name
  own_name name directives place w = name_in w name (first name name [] refl)

  pub came_name : (file : ℕ) (parent : Option Text) (set : Sels Span) → HasSet x file parent set → (name : NameOf Span) → Contains (spread_names (inlined_set s file set)) name →
      CameName s x k set name
  came_name file parent set h name c =
      let w = within_name x.entries parent (inlined_set s file set) name c in
      by w.directives w.place (came s k.name k.directives file x.entries (set_becomes s x k file parent set h) w.stands)
    where
      by : (directives : List (DirectiveOf Span)) (place : Span) {inner : Option Text} {below : Sels Span} →
          Came s k.name k.directives file x.entries parent set inner (record { label = spread name directives place; below = below }) →
          CameName s x k set name
      by directives place (as_it_was a below v) =
          let only_there = each_within (IsLastSpread k.old s file) v (k.last file parent set h) in
          record { other = λ q. let there = only_there q in cc; from = inl (own_name name directives place v) }
      by directives place (as_inline l v) = absurd (cc)
      by directives place (moved outer v i) = record { other = each_within (IsSpreadOther k.old) i k.other; from = inr (own_name k.name k.directives s.place v, own_name name directives place i) }

  -- a fragment that has another name than what goes stays
  pub stays_if_other : (f : FragmentOf) → Contains x.fragments f → (k.old ≡ Some f.name.text → ⊥) → fragment_stays s f ≡ true
  stays_if_other f c other = by (fragment_stays s f) refl
    where
      by : (b : Bool) → fragment_stays s f ≡ b → fragment_stays s f ≡ true
      by true e = e
      by false e = absurd (other (k.goes f c e))

  -- the fragment whose spread is inlined
  abbrev its : FragmentOf
  its = k.its.fragment

  its_spread : (set : Sels Span) → Contains (spread_names set) k.name → IsSpreadIn set its
  its_spread set c = record { name = k.name; stands = c; names = sym k.its.is_named }

  in_its : (name : NameOf Span) → Contains (spread_names s.set) name → Contains (spread_names its.set) name
  in_its name c = subst (λ z. Contains (spread_names z) name) (sym k.its.is_set) c

  -- what goes is that fragment
  pub gone_is_its : (m : FragmentOf) → Contains x.fragments m → fragment_stays s m ≡ false → m ≡ its
  gone_is_its m c e = k.one_name m its c k.its.stands (k.same_name m.name.text (k.goes m c e) ∙ sym k.its.is_named)

  reached_by : (base : Sels Span) (file : ℕ) (parent : Option Text) (set : Sels Span) → HasSet x file parent set →
      ((f : FragmentOf) → Contains x.fragments f → IsSpreadIn set f → Reaches x.fragments base f) →
      (g : FragmentOf) → Contains y.fragments g → IsSpreadIn (inlined_set s file set) g → WasReached s x base g
  reached_by base file parent set h reach g c sp =
      let w = was_fragment s x g c in
      let names : sp.name.text ≡ w.was.name.text = sp.names ∙ ap (λ z. z.name.text) w.is in
      record { was = w.was; stood = w.stood; is = w.is; reached = by w.was w.stood names (came_name file parent set h sp.name sp.stands).from }
    where
      by : (f : FragmentOf) → Contains x.fragments f → sp.name.text ≡ f.name.text →
          Contains (spread_names set) sp.name ⊎ (Contains (spread_names set) k.name × Contains (spread_names s.set) sp.name) → Reaches x.fragments base f
      by f d names (inl i) = reach f d (record { name = sp.name; stands = i; names = names })
      by f d names (inr q) = through (reach its k.its.stands (its_spread set q.0)) d (record { name = sp.name; stands = in_its sp.name q.1; names = names })

  pub reached_before : {set' : Sels Span} {g : FragmentOf} → Reaches y.fragments set' g → (file : ℕ) (parent : Option Text) (set : Sels Span) → HasSet x file parent set →
      set' ≡ inlined_set s file set → WasReached s x set g
  reached_before {g = g} (at_once c sp) file parent set h e = reached_by set file parent set h (λ f d i. at_once d i) g c (subst (λ z. IsSpreadIn z g) e sp)
  reached_before (through {f = g} {g = m} r c sp) file parent set h e =
      let w = reached_before r file parent set h e in
      reached_by set w.was.file (Some w.was.on.text) w.was.set (in_fragment w.stood) (λ f d i. through w.reached d i) g c (subst (λ z. IsSpreadIn z g) (ap (λ z. z.set) w.is) sp)

  module _ (no_fault : (f : Fault) → IsSpreadFault x f → ⊥) where
    -- unknown fragments
    unknown : (file : ℕ) (parent : Option Text) (set : Sels Span) → HasSet x file parent set → (name : NameOf Span) → Contains (spread_names (inlined_set s file set)) name →
        (Contains (spread_names set) name → IsSpreadName x file name) →
        ((f : FragmentOf) → Contains y.fragments f → name.text ≡ f.name.text → ⊥) → ⊥
    unknown file parent set h name c stands nobody = let m = came_name file parent set h name c in by m.other m.from
      where
        nobody_before : (k.old ≡ Some name.text → ⊥) → (f : FragmentOf) → Contains x.fragments f → name.text ≡ f.name.text → ⊥
        nobody_before other f d e = nobody (inlined_fragment s f) (to_fragment s x k f d (stays_if_other f d (λ q. other (q ∙ ap Some (sym e))))) e

        by : (k.old ≡ Some name.text → ⊥) → Contains (spread_names set) name ⊎ (Contains (spread_names set) k.name × Contains (spread_names s.set) name) → ⊥
        by other (inl i) = no_fault (fault_at file UnknownFragment name) (unknown_fragment (record { file = file; name = name; is_spread = stands i; is_unknown = nobody_before other; is = refl }))
        by other (inr q) = no_fault (fault_at its.file UnknownFragment name)
            (unknown_fragment (record { file = its.file; name = name; is_spread = targets.of_fragment k.its.stands (in_its name q.1) refl; is_unknown = nobody_before other; is = refl }))

    unknown_by : {file : ℕ} {name : NameOf Span} → IsSpreadName y file name → ((f : FragmentOf) → Contains y.fragments f → name.text ≡ f.name.text → ⊥) → ⊥
    unknown_by {name = name} (targets.of_operation {o = p} c i e) nobody =
        let w = was_operation s x p c in
        unknown w.was.file (root_of x.entries w.was.kind) w.was.set (in_operation w.stood) name (subst (λ z. Contains (spread_names z) name) (ap (λ z. z.set) w.is) i)
        (λ j. targets.of_operation w.stood j refl) nobody
    unknown_by {name = name} (targets.of_fragment {f = g} c i e) nobody =
        let w = was_fragment s x g c in
        unknown w.was.file (Some w.was.on.text) w.was.set (in_fragment w.stood) name (subst (λ z. Contains (spread_names z) name) (ap (λ z. z.set) w.is) i)
        (λ j. targets.of_fragment w.stood j refl) nobody

    -- cycles
    cycle : (f : Fault) → IsFragmentCycle y f → ⊥
    cycle item h =
        let t = was_fragment s x h.target h.target_stands in
        let r = reached_before h.leads_back t.was.file (Some t.was.on.text) t.was.set (in_fragment t.stood) (ap (λ z. z.set) t.is) in
        let names : h.name.text ≡ t.was.name.text = h.is_named ∙ ap (λ z. z.name.text) t.is in
        by t.was t.stood names r.was r.stood r.reached
        (came_name r.was.file (Some r.was.on.text) r.was.set (in_fragment r.stood) h.name (subst (λ z. Contains (spread_names z) h.name) (ap (λ z. z.set) r.is) h.is_spread)).from
      where
        by : (t : FragmentOf) → Contains x.fragments t → h.name.text ≡ t.name.text → (f : FragmentOf) → Contains x.fragments f → Reaches x.fragments t.set f →
            Contains (spread_names f.set) h.name ⊎ (Contains (spread_names f.set) k.name × Contains (spread_names s.set) h.name) → ⊥
        by t c names f d reached (inl i) = no_fault (fault_at f.file FragmentCycle h.name)
            (fragment_cycle (record { fragment = f; stands = d; name = h.name; is_spread = i; target = t; target_stands = c; is_named = names; leads_back = reached; is = refl }))
        by t c names f d reached (inr q) = no_fault (fault_at its.file FragmentCycle h.name) (fragment_cycle (record {
          fragment = its;
          stands = k.its.stands;
          name = h.name;
          is_spread = in_its h.name q.1;
          target = t;
          target_stands = c;
          is_named = names;
          leads_back = through reached k.its.stands (its_spread f.set q.0);
          is = refl;
        }))

    -- A fragment that stays is spread after.
    module _ (g : FragmentOf) (stays : fragment_stays s g ≡ true) (in_no_operation : (p : OperationOf) → Contains y.operations p → IsSpreadIn p.set g → ⊥)
        (in_no_fragment : (m : FragmentOf) → Contains y.fragments m → IsSpreadIn m.set g → ⊥) where
      abbrev NotIn : ℕ → Sels Span → Type 0
      NotIn file set = IsSpreadIn (inlined_set s file set) g → ⊥

      in_old : (o : OperationOf) → Contains x.operations o → NotIn o.file o.set
      in_old o c sp = in_no_operation (inlined_operation s o) (to_operation s x k o c) sp

      in_kept : (m : FragmentOf) → Contains x.fragments m → fragment_stays s m ≡ true → NotIn m.file m.set
      in_kept m c e sp = in_no_fragment (inlined_fragment s m) (to_fragment s x k m c e) sp

      -- a spread elsewhere stays
      other_spread : (file : ℕ) (parent : Option Text) (set : Sels Span) → HasSet x file parent set → NotIn file set → {outer inner : Option Text} {t : Sel Span} →
          IsSelectionWithin x.entries outer set inner t →
          (name : NameOf Span) (directives : List (DirectiveOf Span)) (place : Span) → t.label ≡ spread name directives place → is_at s file t.label ≡ false → name.text ≡ g.name.text → ⊥
      other_spread file parent set h no_spread {outer} {inner} {t} w name directives place e a names = by (went s k.name k.directives file x.entries (set_becomes s x k file parent set h) w)
        where
          by : Went s k.name k.directives file x.entries outer (inlined_set s file set) inner t → ⊥
          by (as_it_is b below v) =
              no_spread (record {
                name = name;
                stands =
                    own_name name directives place (subst (λ z. IsSelectionWithin x.entries outer (inlined_set s file set) inner (record { label = z; below = below })) e v);
                names = names;
              })
          by (as_opened b l v) = absurd (cc)

      none_else : k.old ≡ None → (t : SelectedOf) → Selects x t → (name : NameOf Span) (directives : List (DirectiveOf Span)) (place : Span) → t.selection.label ≡ spread name directives place →
          is_at s t.file t.selection.label ≡ false → name.text ≡ g.name.text → ⊥
      none_else empty t (of_operation {o = o} c is) name directives place e a names =
          other_spread o.file (root_of x.entries o.kind) o.set (in_operation c) (in_old o c) is.1 name directives place e (subst (λ z. is_at s z t.selection.label ≡ false) is.0 a) names
      none_else empty t (of_fragment {f = m} c is) name directives place e a names =
          other_spread m.file (Some m.on.text) m.set (in_fragment c) (in_kept m c (stays_if_other m c (λ q. absurd (cc)))) is.1 name directives place e
          (subst (λ z. is_at s z t.selection.label ≡ false) is.0 a) names

      -- the spread that is inlined is none of it
      not_its : g.name.text ≡ k.name.text → Contains x.fragments g → ⊥
      not_its same c = by k.old refl
        where
          by : (o : Option Text) → k.old ≡ o → ⊥
          by None e =
              let w = k.elsewhere e in
              none_else e w.selected w.stands w.name w.directives w.place w.is_spread (ap (λ z. is_at s w.selected.file z) w.is_spread ∙ w.is_another) (w.is_named ∙ sym same)
          by (Some text) e =
              let goes : k.old ≡ Some g.name.text = e ∙ ap Some (k.same_name text e ∙ sym same) in
              let leaves = k.gone g c goes in cc

      not_in : Contains x.fragments g → (file : ℕ) (parent : Option Text) (set : Sels Span) → HasSet x file parent set → NotIn file set → IsSpreadIn set g → ⊥
      not_in c file parent set h no_spread sp =
          let w = within_name x.entries parent set sp.name sp.stands in
          by w.directives w.place (went s k.name k.directives file x.entries (set_becomes s x k file parent set h) w.stands)
        where
          by : (directives : List (DirectiveOf Span)) (place : Span) {inner : Option Text} {below : Sels Span} →
              Went s k.name k.directives file x.entries parent (inlined_set s file set) inner (record { label = spread sp.name directives place; below = below }) → ⊥
          by directives place (as_it_is b below v) = no_spread (record { name = sp.name; stands = own_name sp.name directives place v; names = sp.names })
          by directives place (as_opened b l v) = let same : sp.name ≡ k.name = cc in not_its (sym sp.names ∙ ap (λ z. z.text) same) c

      -- what the fragment spreads is spread where it is inlined
      in_host : (file : ℕ) (parent : Option Text) (set : Sels Span) → HasSet x file parent set → NotIn file set → is_at s file (old_head s k.name k.directives) ≡ true →
          {outer inner : Option Text} {below : Sels Span} → IsSelectionWithin x.entries outer set inner (record { label = old_head s k.name k.directives; below = below }) → IsSpreadIn s.set g → ⊥
      in_host file parent set h no_spread a {outer} {inner} {below} w sp = by (went s k.name k.directives file x.entries (set_becomes s x k file parent set h) w)
        where
          by : Went s k.name k.directives file x.entries outer (inlined_set s file set) inner (record { label = old_head s k.name k.directives; below = below }) → ⊥
          by (as_it_is b other v) = absurd (cc)
          by (as_opened b l v) =
              let i = within_name x.entries (Some s.on) s.set sp.name sp.stands in
              no_spread (record { name = sp.name; stands = own_name sp.name i.directives i.place (below_within v i.stands); names = sp.names })

      by_host : {file : ℕ} {parent : Option Text} {set : Sels Span} → HasSet x file parent set → is_at s file (old_head s k.name k.directives) ≡ true →
          {outer inner : Option Text} {below : Sels Span} → IsSelectionWithin x.entries outer set inner (record { label = old_head s k.name k.directives; below = below }) → IsSpreadIn s.set g → ⊥
      by_host (in_operation {o = o} c) a w sp = in_host o.file (root_of x.entries o.kind) o.set (in_operation c) (in_old o c) a w sp
      by_host (in_fragment {f = m} c) a {outer} {inner} {below} w sp = by (fragment_stays s m) refl
        where
          by : (b : Bool) → fragment_stays s m ≡ b → ⊥
          by true e = in_host m.file (Some m.on.text) m.set (in_fragment c) (in_kept m c e) a w sp
          by false e =
              let same = gone_is_its m c e in
              let sets : m.set ≡ s.set = ap (λ z. z.set) same ∙ k.its.is_set in
              let other = each_within (IsSpreadOther k.old)
              (subst (λ z. IsSelectionWithin x.entries outer z inner (record { label = old_head s k.name k.directives; below = below })) sets w) k.other in
              other (k.goes m c e ∙ ap Some (k.same_name m.name.text (k.goes m c e)))

      in_a_fragment : Contains x.fragments g → (m : FragmentOf) → Contains x.fragments m → IsSpreadIn m.set g → ⊥
      in_a_fragment c m d sp = by (fragment_stays s m) refl
        where
          by : (b : Bool) → fragment_stays s m ≡ b → ⊥
          by true e = not_in c m.file (Some m.on.text) m.set (in_fragment d) (in_kept m d e) sp
          by false e =
              let sets : m.set ≡ s.set = ap (λ z. z.set) (gone_is_its m d e) ∙ k.its.is_set in
              by_host k.host.has k.host.at k.host.stands (subst (λ z. IsSpreadIn z g) sets sp)

      pub not_unused : Contains x.fragments g → ⊥
      not_unused c = no_fault (fault_at g.file FragmentNotUsed g.name) (fragment_not_used (record {
        fragment = g;
        stands = c;
        in_no_operation = λ o d sp. not_in c o.file (root_of x.entries o.kind) o.set (in_operation d) (in_old o d) sp;
        in_no_fragment = in_a_fragment c;
        is = refl;
      }))

    unused : (f : Fault) → IsUnusedFragment y f → ⊥
    unused item h =
        let w = was_fragment s x h.fragment h.stands in
        let named : w.was.name.text ≡ h.fragment.name.text = sym (ap (λ z. z.name.text) w.is) in
        not_unused w.was w.stays (λ p c sp. h.in_no_operation p c (record { name = sp.name; stands = sp.stands; names = sp.names ∙ named }))
        (λ m c sp. h.in_no_fragment m c (record { name = sp.name; stands = sp.stands; names = sp.names ∙ named })) w.stood

    pub no_spread_fault : (f : Fault) → IsSpreadFault y f → ⊥
    no_spread_fault f (fragment_not_used h) = unused f h
    no_spread_fault f (unknown_fragment h) = unknown_by h.is_spread h.is_unknown
    no_spread_fault f (fragment_cycle h) = cycle f h
