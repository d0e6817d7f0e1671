-- The fragments of a project by their names.
use Rattle.std.proofs.Common.{◌≡◌, ◌⊎◌, inl, inr, Bool, true, false, List, [], ◌∷◌, Some, None, map, Contains, refl, sym, ap, ◌∙◌, subst, arith}
use Rattle.std.specs.Prelude.{if◌then◌else◌}
use Rattle.std.specs.Str.{bytes_eq}
use Rattle.gq_types.specs.Entries.{Text, EntryOf}
use Rattle.gq_types.proofs.Gathered.{first, later, cases_cons}
use Rattle.gq_tree.specs.Readings.{ParsedOf}
use Rattle.gq_document.specs.Definitions.{FragmentOf, fragments_of}
use Rattle.gq_document.specs.Selections.{SelectedOf, parent_below}
use Rattle.gq_meaning.specs.Expand.{find_definition}
use Rattle.gq_meaning.proofs.TextLemmas.{same_text, text_same}
use Rattle.gq_laws.specs.Rewriting.Documents.{definitions_of, EndsSetIn, AreTyped}
use Rattle.gq_laws.specs.Rewriting.Edits.{HasDocument}
use Rattle.gq_laws.specs.Rewriting.Statics.{static_of, roots_in, seen_fragment}
use Rattle.gq_laws.proofs.Rewriting.Parents.{parent_is}
use Rattle.gq_laws.proofs.Rewriting.Executables.{trees_read, fragments_seen, Rooted, Selected}
use Rattle.gq_laws.proofs.Rewriting.Selected.{selection_ends, below_in}

none_called : (name : Text) (fs : List FragmentOf) → ((f : FragmentOf) → Contains fs f → f.name.text ≡ name → ⊥) → find_definition (map seen_fragment fs) name ≡ None
none_called name [] free = refl
none_called name (f ∷ fs) free = by (bytes_eq name f.name.text) refl (none_called name fs (λ g c. free g (later f g fs c)))
  where
    by : (b : Bool) → bytes_eq name f.name.text ≡ b → find_definition (map seen_fragment fs) name ≡ None → find_definition (map seen_fragment (f ∷ fs)) name ≡ None
    by true e next = absurd (free f (first f f fs refl) (sym (same_text name f.name.text e)))
    by false e next = ap (λ z. if z then Some (seen_fragment f) else find_definition (map seen_fragment fs) name) e ∙ next

is_called : (f : FragmentOf) (fs : List FragmentOf) → Contains fs f → ((g : FragmentOf) → Contains fs g → g.name.text ≡ f.name.text → g ≡ f) → find_definition (map seen_fragment fs) f.name.text ≡ Some (seen_fragment f)
is_called f [] c unique = none_contains f c
  where
    none_contains : (x : FragmentOf) → Contains [] x → find_definition [] f.name.text ≡ Some (seen_fragment f)
    none_contains x d = absurd (omega (arith, d.1))
is_called f (g ∷ fs) c unique = by (bytes_eq f.name.text g.name.text) refl (cases_cons g f fs c) (λ d. is_called f fs d (λ h k. unique h (later g h fs k)))
  where
    by : (b : Bool) → bytes_eq f.name.text g.name.text ≡ b → (g ≡ f) ⊎ Contains fs f → (Contains fs f → find_definition (map seen_fragment fs) f.name.text ≡ Some (seen_fragment f)) → find_definition (map seen_fragment (g ∷ fs)) f.name.text ≡ Some (seen_fragment f)
    by true e w next =
        ap (λ z. if z then Some (seen_fragment g) else find_definition (map seen_fragment fs) f.name.text) e ∙ ap (λ z. Some (seen_fragment z)) (unique g (first g g fs refl) (sym (same_text f.name.text g.name.text e)))
    by false e (inl q) next = let t : bytes_eq f.name.text g.name.text ≡ true = text_same f.name.text g.name.text (ap (λ z. z.name.text) (sym q)) in cc
    by false e (inr d) next = ap (λ z. if z then Some (seen_fragment g) else find_definition (map seen_fragment fs) f.name.text) e ∙ next d

module _ (readings : List ParsedOf) where
  -- no fragment of a project has the name
  pub name_free : (name : Text) → ((f : FragmentOf) → Contains (fragments_of readings) f → f.name.text ≡ name → ⊥) → find_definition (definitions_of (trees_read readings)) name ≡ None
  name_free name free = subst (λ ds. find_definition ds name ≡ None) (sym (fragments_seen readings)) (none_called name (fragments_of readings) free)

  -- the only one that has it
  pub name_is : (f : FragmentOf) → Contains (fragments_of readings) f → ((g : FragmentOf) → Contains (fragments_of readings) g → g.name.text ≡ f.name.text → g ≡ f) → find_definition (definitions_of (trees_read readings)) f.name.text ≡ Some (seen_fragment f)
  name_is f c unique = subst (λ ds. find_definition ds f.name.text ≡ Some (seen_fragment f)) (sym (fragments_seen readings)) (is_called f (fragments_of readings) c unique)

  -- the set in the braces of a selection
  pub selection_below : (es : List EntryOf) → Rooted readings es → AreTyped (static_of es) (roots_in es) (trees_read readings) → (s : SelectedOf) → Selected readings es s → (document : HasDocument (trees_read readings) s.file) → (u : Text) →
      parent_below es s.parent s.selection.label ≡ Some u → EndsSetIn (static_of es) (roots_in es) document.tree u s.selection.below
  selection_below es rooted typed s selects document u e =
      let b = selection_ends readings es rooted typed s selects document in
      below_in (static_of es) (roots_in es) document.tree b.ends (sym (parent_is es b.parent s.selection.label) ∙ sym (ap (λ z. parent_below es z s.selection.label) b.is_parent) ∙ e)
