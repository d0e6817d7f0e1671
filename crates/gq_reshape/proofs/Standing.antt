-- The selections and the sets of a document, found by a range, stand in the project.
use Rattle.std.proofs.Common.{◌≡◌, ◌⊎◌, inl, inr, ℕ, ◌+◌, Bool, true, false, List, [], ◌∷◌, ◌++◌, Option, Some, None, flat_map, slice_get, Contains, refl, sym, ap, ◌∙◌, subst, arith}
use Rattle.std.specs.Prelude.{nat_lt, if◌then◌else◌}
use Rattle.std.specs.List.{enumerate_from}
use Rattle.std.specs.Option.{option_map_or}
use Rattle.gq_text.specs.declared.place.Span.{Span}
use Rattle.gq_tree.specs.Forest.{none, more}
use Rattle.gq_tree.specs.Plain.{Head, Sel, Sels, Def, operation, fragment, type_system}
use Rattle.gq_types.specs.Entries.{Text, EntryOf}
use Rattle.gq_types.specs.Roots.{root_of}
use Rattle.gq_types.proofs.Gathered.{and_parts, first, to_flat}
use Rattle.gq_tree.specs.Readings.{ParsedOf, definitions_read, in_document}
use Rattle.gq_document.specs.Definitions.{OperationOf, FragmentOf, operation_in, fragment_in, operations_of, fragments_of}
use Rattle.gq_document.specs.Selections.{SelectedOf, IsSelectionWithin, here, within, after, parent_below, IsSelected, of_operation, of_fragment}
use Rattle.gq_meaning.specs.Thin.{IsIn}
use Rattle.gq_rewritten.specs.Rewrites.{head_place}
use Rattle.gq_laws.specs.Rewriting.Documents.{EndsSetIn, AreTyped}
use Rattle.gq_laws.specs.Rewriting.Edits.{HasDocument}
use Rattle.gq_laws.specs.Rewriting.Statics.{static_of, roots_in}
use Rattle.gq_laws.proofs.Rewriting.Executables.{trees_read, contains, in_numbers, Rooted, root_is}
use Rattle.gq_laws.proofs.Rewriting.Named.{selection_below}
use Rattle.gq_laws.proofs.Rewriting.Selected.{operation_ends, fragment_ends}
use Rattle.gq_document.specs.Sets.{SetOf, set_in, braces_in, sets_among, sets_of}
use Rattle.gq_select.specs.Meant.{document_sets, StandingOf, standing_in, standing, later, begins_last, holds, is_meant, meant}
use Rattle.gq_reshape.specs.Asks.{tree_at}

in_parts : {A : Type 0} (a b : List A) (x : A) → IsIn x (a ++ b) → IsIn x a ⊎ IsIn x b
in_parts [] b x m = inr m
in_parts (y ∷ a) b x (inl e) = inl (inl e)
in_parts (y ∷ a) b x (inr m) = elim (in_parts a b x m) [
  | inl h ↦ inl (inr h)
  | inr h ↦ inr h
]

pub in_flat : {A B : Type 0} (f : A → List B) (all : List A) (x : B) → IsIn x (flat_map f all) → (a : A) × IsIn a all × IsIn x (f a)
in_flat f [] x m = absurd m
in_flat f (a ∷ all) x m = elim (in_parts (f a) (flat_map f all) x m) [
  | inl h ↦ (a, inl refl, h)
  | inr h ↦ let r = in_flat f all x h in (r.0, inr r.1, r.2)
]

-- what is meant passes its test and stands in one of the sets
later_is : (best : Option StandingOf) (x s : StandingOf) → later best x ≡ Some s → (best ≡ Some s) ⊎ (s ≡ x)
later_is None x s e = let same : s ≡ x = cc in inr same
later_is (Some b) x s e = by (nat_lt (head_place b.selection.label).start (head_place x.selection.label).start) e
  where
    by : (t : Bool) → (if t then Some x else Some b) ≡ Some s → (Some b ≡ Some s) ⊎ (s ≡ x)
    by true f = let same : s ≡ x = cc in inr same
    by false f = inl f

abbrev Passes : (StandingOf → Bool) → StandingOf → List StandingOf → Type 0
Passes test s xs = IsIn s xs × (test s ≡ true)

best_passes : (test : StandingOf → Bool) (xs : List StandingOf) (best : Option StandingOf) (s : StandingOf) → begins_last test best xs ≡ Some s → (best ≡ Some s) ⊎ Passes test s xs
best_passes test [] best s e = inl e
best_passes test (x ∷ xs) best s e = by (test x) refl e (λ o f. best_passes test xs o s f)
  where
    by : (b : Bool) → test x ≡ b → begins_last test (if b then later best x else best) xs ≡ Some s → ((o : Option StandingOf) → begins_last test o xs ≡ Some s → (o ≡ Some s) ⊎ Passes test s xs) → (best ≡ Some s) ⊎ Passes test s (x ∷ xs)
    by true t f next = elim (next (later best x) f) [
      | inl q ↦ elim (later_is best x s q) [
        | inl same ↦ inl same
        | inr same ↦ inr (inl same, ap test same ∙ t)
      ]
      | inr q ↦ inr (inr q.0, q.1)
    ]
    by false t f next = elim (next best f) [
      | inl q ↦ inl q
      | inr q ↦ inr (inr q.0, q.1)
    ]

pub meant_stands : (kind : Head Span → Bool) (range : Span) (sets : List SetOf) (s : StandingOf) → meant kind range sets ≡ Some s → IsIn s (standing sets)
meant_stands kind range sets s e = elim (best_passes (is_meant kind range) (standing sets) None s e) [
  | inl q ↦ let impossible : ◌≡◌ {A = Option StandingOf} None (Some s) = q in cc
  | inr q ↦ q.0
]

pub meant_is : (kind : Head Span → Bool) (range : Span) (sets : List SetOf) (s : StandingOf) → meant kind range sets ≡ Some s → kind s.selection.label ≡ true
meant_is kind range sets s e = elim (best_passes (is_meant kind range) (standing sets) None s e) [
  | inl q ↦ let impossible : ◌≡◌ {A = Option StandingOf} None (Some s) = q in cc
  | inr q ↦ (and_parts (kind s.selection.label) (holds range (head_place s.selection.label)) q.1).0
]

-- what is found among the sets is meant
pub meant_there : (kind : Head Span → Bool) (range : Span) (sets read : List SetOf) (o : Option StandingOf) → read ≡ sets → o ≡ meant kind range read → meant kind range sets ≡ o
meant_there kind range sets read o same e = ap (meant kind range) (sym same) ∙ sym e

module _ (es : List EntryOf) where
  -- selections of a set stand in it
  set_holds : (parent : Option Text) (sels : Sels Span) (x : StandingOf) → IsIn x (standing_in parent sels) → IsSelectionWithin es parent sels x.parent x.selection
  set_holds parent none x m = absurd m
  set_holds parent (more head below rest) x (inl e) =
      let own : StandingOf = record { parent = parent; selection = record { label = head; below = below } } in
      let P : StandingOf → Type 0 = λ z. IsSelectionWithin es parent (more head below rest) z.parent z.selection in
      subst P (sym e) here
  set_holds parent (more head below rest) x (inr m) = after (set_holds parent rest x m)

  stands_deeper : {parent inner deeper : Option Text} {sels : Sels Span} {s t : Sel Span} → IsSelectionWithin es parent sels inner s → IsSelectionWithin es (parent_below es inner s.label) s.below deeper t → IsSelectionWithin es parent sels deeper t
  stands_deeper here k = within k
  stands_deeper (within w) k = within (stands_deeper w k)
  stands_deeper (after w) k = after (stands_deeper w k)

  -- a set in selections is that in the braces of one of them
  pub record SetBelow (parent : Option Text) (sels : Sels Span) (set : SetOf) : Type 0 where
    pub inner : Option Text
    pub selection : Sel Span
    pub stands : IsSelectionWithin es parent sels inner selection
    pub is_parent : set.parent ≡ parent_below es inner selection.label
    pub is : set.selections ≡ selection.below

  own_set : (parent : Option Text) (head : Head Span) (below rest : Sels Span) (set : SetOf) (braces : Option Span) → IsIn set (set_in (parent_below es parent head) braces below) → SetBelow parent (more head below rest) set
  own_set parent head below rest set None m = absurd m
  own_set parent head below rest set (Some braces) (inl e) = record {
    inner = parent;
    selection = record { label = head; below = below };
    stands = here;
    is_parent = ap (λ z. z.parent) e;
    is = ap (λ z. z.selections) e;
  }
  own_set parent head below rest set (Some braces) (inr m) = absurd m

  set_below : (parent : Option Text) (sels : Sels Span) (set : SetOf) → IsIn set (sets_among es parent sels) → SetBelow parent sels set
  set_below parent none set m = absurd m
  set_below parent (more head below rest) set m =
      elim (in_parts (set_in (parent_below es parent head) (braces_in head) below) (sets_among es (parent_below es parent head) below ++ sets_among es parent rest) set m) [
        | inl own ↦ own_set parent head below rest set (braces_in head) own
        | inr others ↦ elim (in_parts (sets_among es (parent_below es parent head) below) (sets_among es parent rest) set others) [
          | inl inside ↦ let i = set_below (parent_below es parent head) below set inside in
              record { inner = i.inner; selection = i.selection; stands = within i.stands; is_parent = i.is_parent; is = i.is }
          | inr behind ↦ let i = set_below parent rest set behind in
              record { inner = i.inner; selection = i.selection; stands = after i.stands; is_parent = i.is_parent; is = i.is }
        ]
      ]

  -- what stands in a set of selections, or in one below them
  within_sets : (parent : Option Text) (sels : Sels Span) (braces : Span) (set : SetOf) (x : StandingOf) → IsIn set (record { parent = parent; braces = braces; selections = sels } ∷ sets_among es parent sels) → IsIn x (standing_in set.parent set.selections) →
      IsSelectionWithin es parent sels x.parent x.selection
  within_sets parent sels braces set x (inl e) m =
      let P : SetOf → Type 0 = λ z. IsIn x (standing_in z.parent z.selections) in
      set_holds parent sels x (subst P e m)
  within_sets parent sels braces set x (inr inside) m =
      let i = set_below parent sels set inside in
      let P : Option Text → Type 0 = λ z. IsSelectionWithin es z set.selections x.parent x.selection in
      let Q : Sels Span → Type 0 = λ z. IsSelectionWithin es (parent_below es i.inner i.selection.label) z x.parent x.selection in
      stands_deeper i.stands (subst Q i.is (subst P i.is_parent (set_holds set.parent set.selections x m)))

  module _ (rs : List ParsedOf) (file : ℕ) (r : ParsedOf) (there : slice_get rs file ≡ Some r) where
    numbered : Contains (enumerate_from 0 rs) (file, r)
    numbered = let e : 0 + file ≡ file = omega arith in subst (λ (n : ℕ). Contains (enumerate_from 0 rs) (n, r)) e (in_numbers 0 rs file r there)

    operation_there : (d : Def Span) → IsIn d (definitions_read r) → (o : OperationOf) → Contains (operation_in file d) o → Contains (operations_of rs) o
    operation_there d m o c = to_flat (λ (x : ℕ × ParsedOf). in_document operation_in x.0 x.1) (enumerate_from 0 rs) (file, r) o numbered (to_flat (operation_in file) (definitions_read r) d o (contains d (definitions_read r) m) c)

    fragment_there : (d : Def Span) → IsIn d (definitions_read r) → (f : FragmentOf) → Contains (fragment_in file d) f → Contains (fragments_of rs) f
    fragment_there d m f c = to_flat (λ (x : ℕ × ParsedOf). in_document fragment_in x.0 x.1) (enumerate_from 0 rs) (file, r) f numbered (to_flat (fragment_in file) (definitions_read r) d f (contains d (definitions_read r) m) c)

    -- what stands in the sets of a document is a selection of the project
    in_definition : (d : Def Span) → IsIn d (definitions_read r) → (set : SetOf) → IsIn set (sets_of es d) → (x : StandingOf) → IsIn x (standing_in set.parent set.selections) →
        IsSelected es (operations_of rs) (fragments_of rs) (record { file = file; parent = x.parent; selection = x.selection })
    in_definition (operation kind name variables directives set braces place) m s c x w =
        let o : OperationOf = record { file = file; kind = kind; name = name; variables = variables; directives = directives; set = set; braces = braces; place = place } in
        of_operation (operation_there (operation kind name variables directives set braces place) m o (first o o [] refl)) (refl, within_sets (root_of es kind) set braces s x c w)
    in_definition (fragment name on directives set braces place) m s c x w =
        let f : FragmentOf = record { file = file; name = name; on = on; directives = directives; set = set; braces = braces; place = place } in
        of_fragment (fragment_there (fragment name on directives set braces place) m f (first f f [] refl)) (refl, within_sets (Some on.text) set braces s x c w)
    in_definition (type_system definition) m s c x w = absurd c

    pub selected_there : (x : StandingOf) → IsIn x (standing (document_sets es (definitions_read r))) → IsSelected es (operations_of rs) (fragments_of rs) (record { file = file; parent = x.parent; selection = x.selection })
    selected_there x m =
        let s = in_flat (λ (s : SetOf). standing_in s.parent s.selections) (document_sets es (definitions_read r)) x m in
        let d = in_flat (sets_of es) (definitions_read r) s.0 s.1 in
        in_definition d.0 d.1 s.0 d.2 x s.2

    -- a set of a document ends a set in it
    module _ (rooted : Rooted rs es) (typed : AreTyped (static_of es) (roots_in es) (trees_read rs)) (document : HasDocument (trees_read rs) file) where
      abbrev Ends : Text → Sels Span → Type 0
      Ends on sels = EndsSetIn (static_of es) (roots_in es) document.tree on sels

      ends_by : (on : Text) (set : SetOf) {parent : Option Text} {sels : Sels Span} → set.parent ≡ Some on → set.parent ≡ parent → set.selections ≡ sels → (parent ≡ Some on → Ends on sels) → Ends on set.selections
      ends_by on set p e q next = subst (Ends on) (sym q) (next (sym e ∙ p))

      set_ends : (d : Def Span) → IsIn d (definitions_read r) → (set : SetOf) → IsIn set (sets_of es d) → (on : Text) → set.parent ≡ Some on → Ends on set.selections
      set_ends (operation kind name variables directives sels braces place) m set (inl e) on p =
          let o : OperationOf = record { file = file; kind = kind; name = name; variables = variables; directives = directives; set = sels; braces = braces; place = place } in
          let c = operation_there (operation kind name variables directives sels braces place) m o (first o o [] refl) in
          ends_by on set p (ap (λ z. z.parent) e) (ap (λ z. z.selections) e) (λ q. subst (λ (z : Text). Ends z sels) (root_is rs es kind on q) (operation_ends rs es o c document))
      set_ends (operation kind name variables directives sels braces place) m set (inr inside) on p =
          let o : OperationOf = record { file = file; kind = kind; name = name; variables = variables; directives = directives; set = sels; braces = braces; place = place } in
          let c = operation_there (operation kind name variables directives sels braces place) m o (first o o [] refl) in
          let i = set_below (root_of es kind) sels set inside in
          let s : SelectedOf = record { file = file; parent = i.inner; selection = i.selection } in
          ends_by on set p i.is_parent i.is (λ q. selection_below rs es rooted typed s (of_operation c (refl, i.stands)) document on q)
      set_ends (fragment name condition directives sels braces place) m set (inl e) on p =
          let f : FragmentOf = record { file = file; name = name; on = condition; directives = directives; set = sels; braces = braces; place = place } in
          let c = fragment_there (fragment name condition directives sels braces place) m f (first f f [] refl) in
          ends_by on set p (ap (λ z. z.parent) e) (ap (λ z. z.selections) e) (λ q. let same : condition.text ≡ on = cc in subst (λ (z : Text). Ends z sels) same (fragment_ends rs es f c document))
      set_ends (fragment name condition directives sels braces place) m set (inr inside) on p =
          let f : FragmentOf = record { file = file; name = name; on = condition; directives = directives; set = sels; braces = braces; place = place } in
          let c = fragment_there (fragment name condition directives sels braces place) m f (first f f [] refl) in
          let i = set_below (Some condition.text) sels set inside in
          let s : SelectedOf = record { file = file; parent = i.inner; selection = i.selection } in
          ends_by on set p i.is_parent i.is (λ q. selection_below rs es rooted typed s (of_fragment c (refl, i.stands)) document on q)
      set_ends (type_system definition) m set c on p = absurd c

      pub set_there : (set : SetOf) → IsIn set (document_sets es (definitions_read r)) → (on : Text) → set.parent ≡ Some on → Ends on set.selections
      set_there set m on p = let d = in_flat (sets_of es) (definitions_read r) set m in set_ends d.0 d.1 set d.2 on p

-- the document that is asked of, where it has a set
pub record DocumentAt (rs : List ParsedOf) (file : ℕ) : Type 0 where
  pub reading : ParsedOf
  pub there : slice_get rs file ≡ Some reading
  pub is : tree_at rs file ≡ definitions_read reading

pub document_at : (es : List EntryOf) (rs : List ParsedOf) (file : ℕ) (set : SetOf) → IsIn set (document_sets es (tree_at rs file)) → DocumentAt rs file
document_at es rs file set m = by (slice_get rs file) refl m
  where
    by : (o : Option ParsedOf) → slice_get rs file ≡ o → IsIn set (document_sets es (option_map_or definitions_read o [])) → DocumentAt rs file
    by None e c = absurd c
    by (Some r) e c = record { reading = r; there = e; is = ap (λ (o : Option ParsedOf). option_map_or definitions_read o []) e }

-- what is meant there is a selection of the project
pub selected_asked : (es : List EntryOf) (rs : List ParsedOf) (file : ℕ) (x : StandingOf) → IsIn x (standing (document_sets es (tree_at rs file))) → IsSelected es (operations_of rs) (fragments_of rs) (record { file = file; parent = x.parent; selection = x.selection })
selected_asked es rs file x m =
    let s = in_flat (λ (s : SetOf). standing_in s.parent s.selections) (document_sets es (tree_at rs file)) x m in
    let d = document_at es rs file s.0 s.1 in
    selected_there es rs file d.reading d.there x (subst (λ (tree : List (Def Span)). IsIn x (standing (document_sets es tree))) d.is m)
