-- A new name that no fragment has is spread nowhere.
use Rattle.std.proofs.Common.{◌≡◌, ℕ, List, [], ◌∷◌, Some, refl, sym, subst, ◌∙◌, map, Contains}
use Rattle.std.specs.Prelude.{slice_get}
use Rattle.std.proofs.lemmas.Option.{slice_get_within, get_or_from_slice_get}
use Rattle.gq_text.specs.declared.place.Span.{Span}
use Rattle.gq_tree.specs.Plain.{NameOf, Def, operation, fragment, type_system}
use Rattle.gq_types.proofs.Gathered.{nothing_in, first, later, only, from_flat}
use Rattle.gq_document.specs.Definitions.{OperationOf, FragmentOf, operation_in, fragment_in}
use Rattle.gq_index.specs.Occurrences.{DefinitionOf, spreads_in}
use Rattle.gq_index.specs.VariableGroups.{IsOperationAt, fragments_among}
use Rattle.gq_meaning.specs.Values.{Text}
use Rattle.gq_meaning.specs.Selected.{set_of}
use Rattle.gq_meaning.specs.Renamed.{IsUnspread, IsNew}
use Rattle.gq_collect.specs.Fragments.{definition_of}
use Rattle.gq_laws.specs.Renaming.Helping.Paired.{SpreadsAreDefined}
use Rattle.gq_laws.proofs.Renaming.SetsRenamed.{Unspread, differs, is_unspread}

-- the definition at a number stands among them
pub stands_at : {A : Type 0} (xs : List A) (n : ℕ) (x : A) → slice_get xs n ≡ Some x → Contains xs x
stands_at xs n x e = (n, slice_get_within xs n x e, get_or_from_slice_get xs n x x e)

-- what a spread in a definition names is not the new name
module _ (ds : List DefinitionOf) (new : Text) (defined : SpreadsAreDefined ds) (free : (f : FragmentOf) → Contains (fragments_among ds) f → f.name.text ≡ new → ⊥) where
  spread_differs : (d : DefinitionOf) → Contains ds d → (name : NameOf Span) → Contains (spreads_in d.definition) name → name.text ≡ new → ⊥
  spread_differs d there name stands same = let w = defined d there name stands in free w.fragment w.stands (w.named ∙ same)

  pub operation_unspread : (n : ℕ) (o : OperationOf) → IsOperationAt ds n o → IsUnspread new (set_of o.set)
  operation_unspread n o h = is_unspread new o.set (by h.definition.definition h.is (spread_differs h.definition (stands_at ds n h.definition h.at)))
    where
      by : (d : Def Span) → operation_in h.definition.file d ≡ o ∷ [] → ((name : NameOf Span) → Contains (spreads_in d) name → name.text ≡ new → ⊥) → Unspread new o.set
      by (operation kind name variables directives set braces place) e others = let same : set ≡ o.set = cc in subst (Unspread new) same others
      by (fragment name on directives set braces place) e others = absurd (cc)
      by (type_system one) e others = absurd (cc)

  fragment_unspread : (f : FragmentOf) → Contains (fragments_among ds) f → IsUnspread new (set_of f.set)
  fragment_unspread f stands = let w = from_flat (λ (d : DefinitionOf). fragment_in d.file d.definition) ds f stands in is_unspread new f.set (by w.0 w.0.definition w.2 (spread_differs w.0 w.1))
    where
      by : (c : DefinitionOf) (d : Def Span) → Contains (fragment_in c.file d) f → ((name : NameOf Span) → Contains (spreads_in d) name → name.text ≡ new → ⊥) → Unspread new f.set
      by c (operation kind name variables directives set braces place) there others = nothing_in f there
      by c (fragment name on directives set braces place) there others = subst (λ (x : FragmentOf). Unspread new x.set) (sym (only _ f there)) others
      by c (type_system one) there others = nothing_in f there

  all_new : (fs : List FragmentOf) → ((f : FragmentOf) → Contains fs f → Contains (fragments_among ds) f) → IsNew new (map definition_of fs)
  all_new [] among = tt
  all_new (f ∷ fs) among = (differs f.name.text new (free f (among f (first f f fs refl))), fragment_unspread f (among f (first f f fs refl)), all_new fs (λ g c. among g (later f g fs c)))

  pub fragments_new : IsNew new (map definition_of (fragments_among ds))
  fragments_new = all_new (fragments_among ds) (λ f c. c)
