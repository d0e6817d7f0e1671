-- What is known of definitions in which a spread is inlined, and where their selections come from.
use Rattle.std.proofs.Common.{◌≡◌, ℕ, true, false, List, ◌++◌, Option, Some, None, Contains, refl, sym, subst}
use Rattle.std.specs.Prelude.{filter}
use Rattle.gq_text.specs.declared.place.Span.{Span}
use Rattle.gq_tree.specs.Forest.{none}
use Rattle.gq_tree.specs.Plain.{NameOf, DirectiveOf, Sel, Sels}
use Rattle.gq_types.specs.Entries.{Text, EntryOf}
use Rattle.gq_types.specs.BuiltIn.{built_in}
use Rattle.gq_types.specs.Roots.{root_of}
use Rattle.gq_types.proofs.Gathered.{from_map_as, to_map, from_filter, to_filter}
use Rattle.gq_document.specs.Definitions.{OperationOf, FragmentOf}
use Rattle.gq_document.specs.Selections.{SelectedOf, IsSelectionWithin, IsOfOperation, IsOfFragment, of_operation, of_fragment}
use Rattle.gq_document.specs.Executable.{ExecutableOf, Selects}
use Rattle.gq_laws.specs.Rewriting.KnownBefore.{Each}
use Rattle.gq_laws.specs.Rewriting.Edits.{SpreadAt, IsSpreadOther, IsLastSpread}
use Rattle.gq_laws.specs.RewrittenValid.InlinedSpread.{IsCondition, IsItsFragment, IsSpreadElsewhere}
use Rattle.gq_laws.proofs.RewrittenValid.InlinedSets.{is_at, inlined_set, old_head, new_head, IsOnly, Becomes, becomes, Came, as_it_was, as_inline, moved, came}
use Rattle.gq_laws.proofs.RewrittenValid.InlinedProject.{inlined_operation, inlined_fragment, operation_stays, fragment_stays, inlined_executable}

-- the set of an operation or of a fragment, the number of its document, and the type of its parent
pub data HasSet (x : ExecutableOf) : ℕ → Option Text → Sels Span → Type 0 where
  in_operation : {o : OperationOf} → Contains x.operations o → HasSet x o.file (root_of x.entries o.kind) o.set
  in_fragment : {f : FragmentOf} → Contains x.fragments f → HasSet x f.file (Some f.on.text) f.set

-- The spread stands in one of them.
pub record HasSpread (x : ExecutableOf) (s : SpreadAt) (name : NameOf Span) (directives : List (DirectiveOf Span)) : Type 0 where
  pub file : ℕ
  pub parent : Option Text
  pub set : Sels Span
  pub has : HasSet x file parent set
  pub at : is_at s file (old_head s name directives) ≡ true
  pub outer : Option Text
  pub inner : Option Text
  pub below : Sels Span
  pub stands : IsSelectionWithin x.entries outer set inner (record { label = old_head s name directives; below = below })

-- All that the rules ask.
pub record CanBeInlined (s : SpreadAt) (x : ExecutableOf) : Type 0 where
  pub old : Option Text
  pub name : NameOf Span
  pub directives : List (DirectiveOf Span)
  pub own : List EntryOf
  pub is_entries : x.entries ≡ built_in ++ own
  pub its : IsItsFragment x name.text s
  pub conditions : (d : DirectiveOf Span) → Contains directives d → IsCondition d
  pub host : HasSpread x s name directives
  pub only : (file : ℕ) (parent : Option Text) (set : Sels Span) → HasSet x file parent set → IsOnly s name directives file set
  pub all_stay : (o : OperationOf) → Contains x.operations o → operation_stays s o ≡ true
  pub goes : (f : FragmentOf) → Contains x.fragments f → fragment_stays s f ≡ false → old ≡ Some f.name.text
  pub gone : (f : FragmentOf) → Contains x.fragments f → old ≡ Some f.name.text → fragment_stays s f ≡ false
  pub last : (file : ℕ) (parent : Option Text) (set : Sels Span) → HasSet x file parent set → Each (IsLastSpread old s file) set
  pub other : Each (IsSpreadOther old) s.set
  pub same_name : (text : Text) → old ≡ Some text → text ≡ name.text
  pub elsewhere : old ≡ None → IsSpreadElsewhere x name.text s
  pub one_name : (f g : FragmentOf) → Contains x.fragments f → Contains x.fragments g → f.name.text ≡ g.name.text → f ≡ g

-- what an operation or a fragment of the new ones was
pub record WasOperation (s : SpreadAt) (x : ExecutableOf) (p : OperationOf) : Type 0 where
  pub was : OperationOf
  pub stood : Contains x.operations was
  pub is : p ≡ inlined_operation s was

pub record WasFragment (s : SpreadAt) (x : ExecutableOf) (g : FragmentOf) : Type 0 where
  pub was : FragmentOf
  pub stood : Contains x.fragments was
  pub stays : fragment_stays s was ≡ true
  pub is : g ≡ inlined_fragment s was

pub was_operation : (s : SpreadAt) (x : ExecutableOf) (p : OperationOf) → Contains (inlined_executable s x).operations p → WasOperation s x p
was_operation s x p c =
    let m = from_map_as (inlined_operation s) (filter (operation_stays s) x.operations) p c in
    let k = from_filter (operation_stays s) x.operations m.0 m.1 in
    record { was = m.0; stood = k.0; is = m.2 }

pub was_fragment : (s : SpreadAt) (x : ExecutableOf) (g : FragmentOf) → Contains (inlined_executable s x).fragments g → WasFragment s x g
was_fragment s x g c =
    let m = from_map_as (inlined_fragment s) (filter (fragment_stays s) x.fragments) g c in
    let k = from_filter (fragment_stays s) x.fragments m.0 m.1 in
    record { was = m.0; stood = k.0; stays = k.1; is = m.2 }

-- Where a selection of the new ones comes from.
pub data CameSelected (s : SpreadAt) (x : ExecutableOf) (k : CanBeInlined s x) (t : SelectedOf) : Type 0 where
  was_there : (below : Sels Span) → Selects x (record { file = t.file; parent = t.parent; selection = record { label = t.selection.label; below = below } }) → CameSelected s x k t
  was_spread : t.selection.label ≡ new_head s k.directives → Selects x (record { file = t.file; parent = t.parent; selection = record { label = old_head s k.name k.directives; below = none } }) →
      CameSelected s x k t
  was_in_fragment : Selects x (record { file = k.its.fragment.file; parent = t.parent; selection = t.selection }) → CameSelected s x k t

module _ (s : SpreadAt) (x : ExecutableOf) (k : CanBeInlined s x) where
  abbrev pub y : ExecutableOf
  y = inlined_executable s x

  pub to_operation : (o : OperationOf) → Contains x.operations o → Contains y.operations (inlined_operation s o)
  to_operation o c = to_map (inlined_operation s) (filter (operation_stays s) x.operations) o (to_filter (operation_stays s) x.operations o c (k.all_stay o c))

  pub to_fragment : (f : FragmentOf) → Contains x.fragments f → fragment_stays s f ≡ true → Contains y.fragments (inlined_fragment s f)
  to_fragment f c e = to_map (inlined_fragment s) (filter (fragment_stays s) x.fragments) f (to_filter (fragment_stays s) x.fragments f c e)

  pub set_becomes : (file : ℕ) (parent : Option Text) (set : Sels Span) → HasSet x file parent set → Becomes s k.name k.directives file set (inlined_set s file set)
  set_becomes file parent set h = becomes s k.name k.directives file set (k.only file parent set h)

  -- a selection of the fragment's set, where it stood
  pub in_its_set : (inner : Option Text) (t : Sel Span) → IsSelectionWithin x.entries (Some s.on) s.set inner t → Selects x (record { file = k.its.fragment.file; parent = inner; selection = t })
  in_its_set inner t w =
      of_fragment k.its.stands (
        refl,
        subst (λ z. IsSelectionWithin x.entries (Some z) k.its.fragment.set inner t) (sym k.its.is_on)
            (subst (λ z. IsSelectionWithin x.entries (Some s.on) z inner t) (sym k.its.is_set) w),
      )

  by_came : (file : ℕ) (parent : Option Text) (set : Sels Span) → (t : SelectedOf) → t.file ≡ file →
      ((inner : Option Text) (u : Sel Span) → IsSelectionWithin x.entries parent set inner u → Selects x (record { file = t.file; parent = inner; selection = u })) →
      Came s k.name k.directives file x.entries parent set t.parent t.selection → CameSelected s x k t
  by_came file parent set t e selects (as_it_was a below w) = was_there below (selects t.parent (record { label = t.selection.label; below = below }) w)
  by_came file parent set t e selects (as_inline l w) = was_spread l (selects t.parent (record { label = old_head s k.name k.directives; below = none }) w)
  by_came file parent set t e selects (moved outer w i) = was_in_fragment (in_its_set t.parent t.selection i)

  came_from_operation : (o : OperationOf) → Contains x.operations o → (t : SelectedOf) → IsOfOperation x.entries (inlined_operation s o) t → CameSelected s x k t
  came_from_operation o c t is =
      by_came o.file (root_of x.entries o.kind) o.set t is.0 (λ inner u w. of_operation c (is.0, w))
      (came s k.name k.directives o.file x.entries (set_becomes o.file (root_of x.entries o.kind) o.set (in_operation c)) is.1)

  came_from_fragment : (f : FragmentOf) → Contains x.fragments f → (t : SelectedOf) → IsOfFragment x.entries (inlined_fragment s f) t → CameSelected s x k t
  came_from_fragment f c t is =
      by_came f.file (Some f.on.text) f.set t is.0 (λ inner u w. of_fragment c (is.0, w))
      (came s k.name k.directives f.file x.entries (set_becomes f.file (Some f.on.text) f.set (in_fragment c)) is.1)

  pub came_selected : (t : SelectedOf) → Selects y t → CameSelected s x k t
  came_selected t (of_operation {o = p} c is) =
      let w = was_operation s x p c in
      came_from_operation w.was w.stood t (subst (λ z. IsOfOperation x.entries z t) w.is is)
  came_selected t (of_fragment {f = g} c is) =
      let w = was_fragment s x g c in
      came_from_fragment w.was w.stood t (subst (λ z. IsOfFragment x.entries z t) w.is is)
