-- In a document no two selections begin at one place, whether or not the types of their parents are known.
use Rattle.std.proofs.Common.{◌≡◌, inl, inr, ℕ, ◌+◌, ◌<◌, ◌≤◌, true, List, [], ◌∷◌, Option, Some, None, slice_get, Contains, refl, sym, ap, ◌∙◌, subst, arith, nat_eq}
use Rattle.std.proofs.lemmas.Bool.Decides.{nat_tests}
use Rattle.std.proofs.lemmas.Option.{same_Some}
use Rattle.std.specs.List.{enumerate_from}
use Rattle.gq_text.specs.declared.place.Span.{Span}
use Rattle.gq_tree.specs.declared.tree.OperationKind.{OperationKind}
use Rattle.gq_tree.specs.Forest.{none, more}
use Rattle.gq_tree.specs.Plain.{NameOf, VariableOf, DirectiveOf, Head, Sel, Sels, Def, operation, fragment, type_system}
use Rattle.gq_tree.specs.Readings.{ParsedOf, definitions_read, in_document}
use Rattle.gq_types.specs.Entries.{Text, EntryOf}
use Rattle.gq_types.specs.Roots.{root_of}
use Rattle.gq_types.proofs.Gathered.{first, to_flat}
use Rattle.gq_document.specs.Definitions.{OperationOf, FragmentOf, operation_in, fragment_in, operations_of, fragments_of}
use Rattle.gq_document.specs.Selections.{IsSelectionWithin, here, within, after, parent_below}
use Rattle.gq_meaning.specs.Thin.{IsIn}
use Rattle.gq_rewritten.specs.Rewrites.{head_place, same_place}
use Rattle.gq_laws.specs.Rewriting.KnownBefore.{EndsSet, ends_here, ends_within, ends_after, SaysNothing}
use Rattle.gq_laws.specs.Rewriting.Places.{AreNested, AreInPlace}
use Rattle.gq_laws.specs.Rewriting.Documents.{IsSetOf, of_operation, of_fragment, EndsSetIn}
use Rattle.gq_laws.specs.Rewriting.Edits.{HasDocument}
use Rattle.gq_laws.specs.Rewriting.Statics.{static_of, roots_in}
use Rattle.gq_laws.proofs.Rewriting.Nests.{StandsIn}
use Rattle.gq_laws.proofs.Rewriting.Once.{Parts, parts}
use Rattle.gq_laws.proofs.Rewriting.Parents.{parent_is}
use Rattle.gq_laws.proofs.Rewriting.Located.{same_start}
use Rattle.gq_laws.proofs.Rewriting.Executables.{trees_read, read_as, in_numbers, contains, root_is, operation_def, fragment_def, operation_stands, fragment_stands}
use Rattle.gq_laws.proofs.RewrittenValid.Opened.{Among, it_is, below_it, behind_it, among, SaysNothingIn, OnlyNothing}

-- where a selection stands
stands_where : (es : List EntryOf) (from to : ℕ) {parent inner : Option Text} {ss : Sels Span} {s : Sel Span} → IsSelectionWithin es parent ss inner s → AreNested from to ss →
    StandsIn (head_place s.label).start (head_place s.label).end from to
stands_where es from to here nested = record { begins = nested.0; is_some = nested.1; ends = nested.2 }
stands_where es from to (within {head} w) nested =
    let i = stands_where es ((head_place head).start + 1) (head_place head).end w nested.3 in
    record { begins = omega (arith, nested.0, i.begins); is_some = i.is_some; ends = omega (arith, nested.2, i.ends) }
stands_where es from to (after {head} w) nested =
    let i = stands_where es (head_place head).end to w nested.4 in
    record { begins = omega (arith, nested.0, nested.1, i.begins); is_some = i.is_some; ends = i.ends }

-- two selections with one head, and with one type of their parents
pub record AreOne (inner inner' : Option Text) (s s' : Sel Span) : Type 0 where
  pub parent : inner ≡ inner'
  pub head : s.label ≡ s'.label

module _ (es : List EntryOf) (inner inner' : Option Text) (s s' : Sel Span) (same : (head_place s.label).start ≡ (head_place s'.label).start) where
  -- the first of some selections is one of the two
  first_one : (from to : ℕ) (parent : Option Text) (h : Head Span) (b r : Sels Span) → inner ≡ parent → s.label ≡ h → IsSelectionWithin es parent (more h b r) inner' s' →
      AreNested from to (more h b r) → AreOne inner inner' s s'
  first_one from to parent h b r p q w nested = by (among es w)
    where
      starts : (head_place h).start ≡ (head_place s'.label).start
      starts = ap (λ z. (head_place z).start) (sym q) ∙ same

      by : Among es parent h b r inner' s' → AreOne inner inner' s s'
      by (it_is p' q') = record { parent = p ∙ sym p'; head = q ∙ ap (λ z. z.label) (sym q') }
      by (below_it v) = let i = stands_where es ((head_place h).start + 1) (head_place h).end v nested.3 in absurd (omega (arith, starts, i.begins))
      by (behind_it v) = let i = stands_where es (head_place h).end to v nested.4 in absurd (omega (arith, starts, i.begins, nested.1))

  one_of : (from to : ℕ) (parent : Option Text) (ss : Sels Span) → IsSelectionWithin es parent ss inner s → IsSelectionWithin es parent ss inner' s' → AreNested from to ss → AreOne inner inner' s s'
  one_of from to parent none w w' nested = elim w [ ]
  one_of from to parent (more h b r) w w' nested =
      by (among es w) (among es w') (λ u v. one_of ((head_place h).start + 1) (head_place h).end (parent_below es parent h) b u v nested.3) (λ u v. one_of (head_place h).end to parent r u v nested.4)
    where
      by : Among es parent h b r inner s → Among es parent h b r inner' s' →
          (IsSelectionWithin es (parent_below es parent h) b inner s → IsSelectionWithin es (parent_below es parent h) b inner' s' → AreOne inner inner' s s') →
          (IsSelectionWithin es parent r inner s → IsSelectionWithin es parent r inner' s' → AreOne inner inner' s s') → AreOne inner inner' s s'
      by (it_is p q) v next_b next_r = first_one from to parent h b r p (ap (λ z. z.label) q) w' nested
      by (below_it u) (below_it v) next_b next_r = next_b u v
      by (behind_it u) (behind_it v) next_b next_r = next_r u v
      by (below_it u) (it_is p q) next_b next_r =
          let i = stands_where es ((head_place h).start + 1) (head_place h).end u nested.3 in
          let starts : (head_place s'.label).start ≡ (head_place h).start = ap (λ z. (head_place z.label).start) q in
          absurd (omega (arith, same, starts, i.begins))
      by (behind_it u) (it_is p q) next_b next_r =
          let i = stands_where es (head_place h).end to u nested.4 in
          let starts : (head_place s'.label).start ≡ (head_place h).start = ap (λ z. (head_place z.label).start) q in
          absurd (omega (arith, same, starts, i.begins, nested.1))
      by (below_it u) (behind_it v) next_b next_r =
          let i = stands_where es ((head_place h).start + 1) (head_place h).end u nested.3 in
          let j = stands_where es (head_place h).end to v nested.4 in
          absurd (omega (arith, same, i.is_some, i.ends, j.begins))
      by (behind_it u) (below_it v) next_b next_r =
          let i = stands_where es (head_place h).end to u nested.4 in
          let j = stands_where es ((head_place h).start + 1) (head_place h).end v nested.3 in
          absurd (omega (arith, same, i.begins, j.is_some, j.ends))

-- the selections of a definition, and the type of their parent
abbrev pub set_in : Def Span → Sels Span
set_in (operation kind name variables directives set braces place) = set
set_in (fragment name on directives set braces place) = set
set_in (type_system definition) = none

abbrev pub parent_in : List EntryOf → Def Span → Option Text
parent_in es (operation kind name variables directives set braces place) = root_of es kind
parent_in es (fragment name on directives set braces place) = Some on.text
parent_in es (type_system definition) = None

abbrev no_roots : OperationKind → Text
no_roots kind = []

nested_in : (from : ℕ) (d : Def Span) (ds : List (Def Span)) (p : Parts no_roots from d ds) → AreNested from p.next (set_in d)
nested_in from (operation kind name variables directives set braces place) ds p = p.own [] set of_operation
nested_in from (fragment name on directives set braces place) ds p = p.own on.text set of_fragment
nested_in from (type_system definition) ds p = tt

module _ (es : List EntryOf) where
  -- a selection of a definition
  abbrev pub StandsOf : Def Span → Option Text → Sel Span → Type 0
  StandsOf d inner s = IsSelectionWithin es (parent_in es d) (set_in d) inner s

  behind : (from : ℕ) (tree : List (Def Span)) → AreInPlace from tree → (d : Def Span) → IsIn d tree → (inner : Option Text) (s : Sel Span) → StandsOf d inner s → from ≤ (head_place s.label).start
  behind from [] all d m inner s w = absurd m
  behind from (x ∷ tree) all d (inl e) inner s w =
      let p = parts no_roots from x tree all in
      let i = stands_where es from p.next (subst (λ z. StandsOf z inner s) e w) (nested_in from x tree p) in i.begins
  behind from (x ∷ tree) all d (inr m) inner s w =
      let p = parts no_roots from x tree all in let i = behind p.next tree p.rest d m inner s w in omega (arith, p.rises, i)

  ahead : (from : ℕ) (x : Def Span) (tree : List (Def Span)) (all : AreInPlace from (x ∷ tree)) (inner : Option Text) (s : Sel Span) → StandsOf x inner s →
      (head_place s.label).start < (parts no_roots from x tree all).next
  ahead from x tree all inner s w =
      let p = parts no_roots from x tree all in let i = stands_where es from p.next w (nested_in from x tree p) in omega (arith, i.is_some, i.ends)

  pub one_in : (from : ℕ) (tree : List (Def Span)) → AreInPlace from tree → (d d' : Def Span) → IsIn d tree → IsIn d' tree → (inner inner' : Option Text) (s s' : Sel Span) → StandsOf d inner s →
      StandsOf d' inner' s' →
      (head_place s.label).start ≡ (head_place s'.label).start → AreOne inner inner' s s'
  one_in from [] all d d' m m' inner inner' s s' w w' same = absurd m
  one_in from (x ∷ tree) all d d' (inl e) (inl e') inner inner' s s' w w' same =
      let p = parts no_roots from x tree all in
      one_of es inner inner' s s' same from p.next (parent_in es x) (set_in x) (subst (λ z. StandsOf z inner s) e w) (subst (λ z. StandsOf z inner' s') e' w') (nested_in from x tree p)
  one_in from (x ∷ tree) all d d' (inl e) (inr m') inner inner' s s' w w' same =
      let low = ahead from x tree all inner s (subst (λ z. StandsOf z inner s) e w) in
      let high = behind (parts no_roots from x tree all).next tree (parts no_roots from x tree all).rest d' m' inner' s' w' in
      absurd (omega (arith, same, low, high))
  one_in from (x ∷ tree) all d d' (inr m) (inl e') inner inner' s s' w w' same =
      let low = ahead from x tree all inner' s' (subst (λ z. StandsOf z inner' s') e' w') in
      let high = behind (parts no_roots from x tree all).next tree (parts no_roots from x tree all).rest d m inner s w in
      absurd (omega (arith, same, low, high))
  one_in from (x ∷ tree) all d d' (inr m) (inr m') inner inner' s s' w w' same =
      let p = parts no_roots from x tree all in one_in p.next tree p.rest d d' m m' inner inner' s s' w w' same

  -- the last selections of a set begin with one that stands there
  pub ends_stand : {t u : Text} {ss last : Sels Span} (h : Head Span) (b r : Sels Span) → EndsSet (static_of es) t ss u last → last ≡ more h b r →
      IsSelectionWithin es (Some t) ss (Some u) (record { label = h; below = b })
  ends_stand {t} h b r ends_here e = subst (λ z. IsSelectionWithin es (Some t) z (Some t) (record { label = h; below = b })) (sym e) here
  ends_stand {t} {u} h b r (ends_within {head} {below} k ends) e =
      within (subst (λ z. IsSelectionWithin es z below (Some u) (record { label = h; below = b })) (sym (parent_is es t head ∙ k)) (ends_stand h b r ends e))
  ends_stand h b r (ends_after ends) e = after (ends_stand h b r ends e)

-- Each operation of the project has a root type.
abbrev pub AreRooted : List EntryOf → List OperationOf → Type 0
AreRooted es os = (o : OperationOf) → Contains os o → (t : Text) × (root_of es o.kind ≡ Some t)

-- an operation and a fragment that stand in a tree
abbrev pub operation_at : ℕ → OperationKind → Option (NameOf Span) → List (VariableOf Span) → List (DirectiveOf Span) → Sels Span → Span → Span → OperationOf
operation_at k kind name variables directives set braces place =
    record { file = 0 + k; kind = kind; name = name; variables = variables; directives = directives; set = set; braces = braces; place = place }

abbrev pub fragment_at : ℕ → NameOf Span → NameOf Span → List (DirectiveOf Span) → Sels Span → Span → Span → FragmentOf
fragment_at k name on directives set braces place = record { file = 0 + k; name = name; on = on; directives = directives; set = set; braces = braces; place = place }

module _ (readings : List ParsedOf) (k : ℕ) (r : ParsedOf) (there : slice_get readings k ≡ Some r) where
  pub operation_there : (kind : OperationKind) (name : Option (NameOf Span)) (variables : List (VariableOf Span)) (directives : List (DirectiveOf Span)) (set : Sels Span) (braces place : Span) →
      IsIn (operation kind name variables directives set braces place) (definitions_read r) → Contains (operations_of readings) (operation_at k kind name variables directives set braces place)
  operation_there kind name variables directives set braces place m =
      let o = operation_at k kind name variables directives set braces place in
      to_flat (λ (x : ℕ × ParsedOf). in_document operation_in x.0 x.1) (enumerate_from 0 readings) (0 + k, r) o (in_numbers 0 readings k r there)
      (to_flat (operation_in (0 + k)) (definitions_read r) (operation kind name variables directives set braces place) o
      (contains (operation kind name variables directives set braces place) (definitions_read r) m) (first o o [] refl))

  pub fragment_there : (name on : NameOf Span) (directives : List (DirectiveOf Span)) (set : Sels Span) (braces place : Span) →
      IsIn (fragment name on directives set braces place) (definitions_read r) → Contains (fragments_of readings) (fragment_at k name on directives set braces place)
  fragment_there name on directives set braces place m =
      let f = fragment_at k name on directives set braces place in
      to_flat (λ (x : ℕ × ParsedOf). in_document fragment_in x.0 x.1) (enumerate_from 0 readings) (0 + k, r) f (in_numbers 0 readings k r there)
      (to_flat (fragment_in (0 + k)) (definitions_read r) (fragment name on directives set braces place) f (contains (fragment name on directives set braces place) (definitions_read r) m)
      (first f f [] refl))

module _ (es : List EntryOf) (readings : List ParsedOf) (rooted : AreRooted es (operations_of readings)) where
  operation_contained : (k : ℕ) (r : ParsedOf) (kind : OperationKind) (name : Option (NameOf Span)) (variables : List (VariableOf Span)) (directives : List (DirectiveOf Span)) (set : Sels Span)
      (braces place : Span) →
      slice_get readings k ≡ Some r → IsIn (operation kind name variables directives set braces place) (definitions_read r) → (t : Text) × (root_of es kind ≡ Some t)
  operation_contained k r kind name variables directives set braces place at m =
      rooted (operation_at k kind name variables directives set braces place) (operation_there readings k r at kind name variables directives set braces place m)

  parent_of_set : (d : Def Span) (t : Text) (set : Sels Span) → IsSetOf (roots_in es) d t set →
      ((kind : OperationKind) (name : Option (NameOf Span)) (variables : List (VariableOf Span)) (directives : List (DirectiveOf Span)) (set : Sels Span) (braces place : Span) →
      d ≡ operation kind name variables directives set braces place → (u : Text) × (root_of es kind ≡ Some u)) → (parent_in es d ≡ Some t) × (set_in d ≡ set)
  parent_of_set d t set (of_operation {kind} {name} {variables} {directives} {set = own} {braces} {place}) known =
      let u = known kind name variables directives own braces place refl in
      (u.1 ∙ ap Some (sym (root_is readings es kind u.0 u.1)), refl)
  parent_of_set d t set of_fragment known = (refl, refl)

  -- The selection that begins some last ones of a set stands in its definition, as the code's definitions see it.
  pub stands_there : (file : ℕ) (document : HasDocument (trees_read readings) file) {u : Text} {h : Head Span} {b r : Sels Span}
      (ends : EndsSetIn (static_of es) (roots_in es) document.tree u (more h b r)) →
      StandsOf es ends.definition (Some u) (record { label = h; below = b })
  stands_there file document {u} {h} {b} {r} ends =
      let a = read_as readings file document.tree document.is_tree in
      let q = parent_of_set ends.definition ends.root ends.set ends.is_set (λ kind name variables directives set braces place e.
      operation_contained file a.reading kind name variables directives set braces place a.there
      (subst (λ z. IsIn z (definitions_read a.reading)) e (subst (IsIn ends.definition) (sym a.is) ends.stands))) in
      subst (λ z. IsSelectionWithin es z (set_in ends.definition) (Some u) (record { label = h; below = b })) (sym q.0)
      (subst (λ z. IsSelectionWithin es (Some ends.root) z (Some u) (record { label = h; below = b })) (sym q.1) (ends_stand es h b r ends.ends refl))

  number_is : (m n : ℕ) → nat_eq m n ≡ true → m ≡ n
  number_is m n e = grind (arith, nat_tests)

  -- What begins where it does, in the definitions of its document, is that one.
  module _ (file : ℕ) (document : HasDocument (trees_read readings) file) (u : Text) (h : Head Span) (b r : Sels Span)
      (ends : EndsSetIn (static_of es) (roots_in es) document.tree u (more h b r)) where
    one_here : (n : ℕ) (d : Def Span) → nat_eq file n ≡ true → (tree : List (Def Span)) → slice_get (trees_read readings) n ≡ Some tree → IsIn d tree → (inner : Option Text) (s : Sel Span) →
        StandsOf es d inner s →
        (head_place h).start ≡ (head_place s.label).start → AreOne (Some u) inner (record { label = h; below = b }) s
    one_here n d e tree at m inner s w same =
        let trees : tree ≡ document.tree = same_Some tree document.tree (sym at ∙ ap (slice_get (trees_read readings)) (sym (number_is file n e)) ∙ document.is_tree) in
        one_in es 0 document.tree document.in_place ends.definition d ends.stands (subst (IsIn d) trees m) (Some u) inner (record { label = h; below = b }) s (stands_there file document ends) w same

    pub one_in_operation : (o : OperationOf) → Contains (operations_of readings) o → nat_eq file o.file ≡ true → (inner : Option Text) (s : Sel Span) →
        IsSelectionWithin es (root_of es o.kind) o.set inner s →
        (head_place h).start ≡ (head_place s.label).start → AreOne (Some u) inner (record { label = h; below = b }) s
    one_in_operation o c e inner s w same = let i = operation_stands readings o c in one_here o.file (operation_def o) e i.tree i.is_tree i.stands inner s w same

    pub one_in_fragment : (f : FragmentOf) → Contains (fragments_of readings) f → nat_eq file f.file ≡ true → (inner : Option Text) (s : Sel Span) →
        IsSelectionWithin es (Some f.on.text) f.set inner s →
        (head_place h).start ≡ (head_place s.label).start → AreOne (Some u) inner (record { label = h; below = b }) s
    one_in_fragment f c e inner s w same = let i = fragment_stands readings f c in one_here f.file (fragment_def f) e i.tree i.is_tree i.stands inner s w same

    -- Where it says nothing, only such a one stands there.
    module _ (place : Span) (at : head_place h ≡ place) (says : SaysNothing u h) where
      only : (inner : Option Text) (s : Sel Span) → same_place (head_place s.label) place ≡ true →
          ((head_place h).start ≡ (head_place s.label).start → AreOne (Some u) inner (record { label = h; below = b }) s) → SaysNothingIn inner s.label
      only inner s e next =
          let one = next (ap (λ z. z.start) at ∙ sym (same_start (head_place s.label) place e)) in
          (u, sym one.parent, subst (SaysNothing u) one.head says)

      pub only_in_operation : (o : OperationOf) → Contains (operations_of readings) o → nat_eq file o.file ≡ true → OnlyNothing es place (root_of es o.kind) o.set
      only_in_operation o c e inner s w same = only inner s same (one_in_operation o c e inner s w)

      pub only_in_fragment : (f : FragmentOf) → Contains (fragments_of readings) f → nat_eq file f.file ≡ true → OnlyNothing es place (Some f.on.text) f.set
      only_in_fragment f c e inner s w same = only inner s same (one_in_fragment f c e inner s w)
