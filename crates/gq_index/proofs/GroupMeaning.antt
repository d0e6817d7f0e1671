-- A group by numbers is the group of the variable.
use Rattle.std.proofs.Common.{◌≡◌, ◌↔◌, ℕ, true, false, List, [], ◌∷◌, refl, sym, ◌∙◌, ap, subst, Contains, Some}
use Rattle.std.specs.Prelude.{slice_get}
use Rattle.std.proofs.lemmas.Bool.{false≢true}
use Rattle.std.proofs.lemmas.Option.{same_Some}
use Rattle.gq_text.specs.declared.place.Span.{Span}
use Rattle.gq_tree.specs.Names.{spread_names}
use Rattle.gq_tree.specs.Plain.{Sels, Def, operation, fragment, type_system}
use Rattle.gq_graph.specs.Reach.{Reach, start, step}
use Rattle.gq_types.specs.Entries.{Text}
use Rattle.gq_types.proofs.Gathered.{nothing_in, only, from_flat, to_flat, first}
use Rattle.gq_document.specs.Definitions.{OperationOf, FragmentOf, operation_in, fragment_in}
use Rattle.gq_document.specs.Reaches.{IsSpreadIn, Reaches, at_once, through}
use Rattle.gq_spreads.proofs.RowLemmas.{stands, number_of}
use Rattle.gq_index.specs.Occurrences.{DefinitionOf, spreads_in, is_operation}
use Rattle.gq_index.specs.VariableGroups.{fragments_among, IsOperationAt, IsFragmentAt, SpreadsFragment, UsesVariable, ReachesUser, VariableGroup, itself as of_itself, with_operation as by_operation, with_fragment as by_fragment}
use Rattle.gq_index.specs.Helping.GroupGraphs.{Sharing, NumberGroup, itself, with_operation, with_fragment}
use Rattle.gq_index.proofs.SpreadLemmas.{one_of, no_one}

-- an operation's definition, and its spreads
operation_is : (file : ℕ) (d : Def Span) (o : OperationOf) → operation_in file d ≡ o ∷ [] → (is_operation d ≡ true) × (spreads_in d ≡ spread_names o.set)
operation_is file (operation kind name variables directives set braces place) o is =
    let same = one_of (record { file = file; kind = kind; name = name; variables = variables; directives = directives; set = set; braces = braces; place = place }) o is in
    (refl, ap (λ (p : OperationOf). spread_names p.set) same)
operation_is file (fragment name on directives set braces place) o is = no_one o is
operation_is file (type_system definition) o is = no_one o is

operation_of : (file : ℕ) (d : Def Span) → is_operation d ≡ true → (o : OperationOf) × (operation_in file d ≡ o ∷ [])
operation_of file (operation kind name variables directives set braces place) is =
    (record { file = file; kind = kind; name = name; variables = variables; directives = directives; set = set; braces = braces; place = place }, refl)
operation_of file (fragment name on directives set braces place) is = absurd (false≢true is)
operation_of file (type_system definition) is = absurd (false≢true is)

pub fragment_is : (file : ℕ) (d : Def Span) (f : FragmentOf) → fragment_in file d ≡ f ∷ [] → (is_operation d ≡ false) × (spreads_in d ≡ spread_names f.set)
fragment_is file (operation kind name variables directives set braces place) f is = no_one f is
fragment_is file (fragment name on directives set braces place) f is =
    let same = one_of (record { file = file; name = name; on = on; directives = directives; set = set; braces = braces; place = place }) f is in
    (refl, ap (λ (g : FragmentOf). spread_names g.set) same)
fragment_is file (type_system definition) f is = no_one f is

-- a fragment among the definitions has a number
fragment_at : (ds : List DefinitionOf) (f : FragmentOf) → Contains (fragments_among ds) f → (k : ℕ) × IsFragmentAt ds k f
fragment_at ds f there =
    let r = from_flat (λ (d : DefinitionOf). fragment_in d.file d.definition) ds f there in
    let n = number_of ds r.0 r.1 in
    (n.0, record { definition = r.0; at = n.1; is = only_one r.0.file r.0.definition f r.2 })
  where
    only_one : (file : ℕ) (d : Def Span) (f : FragmentOf) → Contains (fragment_in file d) f → fragment_in file d ≡ f ∷ []
    only_one file (operation kind name variables directives set braces place) f there = nothing_in f there
    only_one file (fragment name on directives set braces place) f there = ap (λ (g : FragmentOf). g ∷ []) (sym (only (record { file = file; name = name; on = on; directives = directives; set = set; braces = braces; place = place }) f there))
    only_one file (type_system definition) f there = nothing_in f there

among : (ds : List DefinitionOf) (k : ℕ) (f : FragmentOf) → IsFragmentAt ds k f → Contains (fragments_among ds) f
among ds k f at =
    to_flat (λ (d : DefinitionOf). fragment_in d.file d.definition) ds at.definition f (stands ds k at.definition at.at) (subst (λ l. Contains l f) (sym at.is) (first f f [] refl))

reached_among : (fs : List FragmentOf) (set : Sels Span) (f : FragmentOf) → Reaches fs set f → Contains fs f
reached_among fs set f (at_once there spread) = there
reached_among fs set f (through way there spread) = there

-- the fragment at a number is one
one_fragment : (ds : List DefinitionOf) (k : ℕ) (f g : FragmentOf) → IsFragmentAt ds k f → IsFragmentAt ds k g → f ≡ g
one_fragment ds k f g a b =
    let same : a.definition ≡ b.definition = same_Some a.definition b.definition (sym a.at ∙ b.at) in
    one_of f g (sym a.is ∙ ap (λ (d : DefinitionOf). fragment_in d.file d.definition) same ∙ b.is)

module _ (ds : List DefinitionOf) (next : ℕ → List ℕ) (rows : (n k : ℕ) → Contains (next n) k ↔ SpreadsFragment ds n k) where
  -- what a definition with these spreads reaches
  module _ (n : ℕ) (d : DefinitionOf) (at : slice_get ds n ≡ Some d) (set : Sels Span) (spreads : spreads_in d.definition ≡ spread_names set) where
    spread_once : (k : ℕ) → Contains (next n) k → (f : FragmentOf) × IsFragmentAt ds k f × IsSpreadIn set f
    spread_once k there =
        let s = (rows n k).0 there in
        let same : s.definition ≡ d = same_Some s.definition d (sym s.at ∙ at) in
        let names : spreads_in s.definition.definition ≡ spread_names set = ap (λ (x : DefinitionOf). spreads_in x.definition) same ∙ spreads in
        (s.fragment, s.is_fragment, record { name = s.name; stands = subst (λ l. Contains l s.name) names s.stands; names = s.names })

    spread_row : (k : ℕ) (f : FragmentOf) → IsFragmentAt ds k f → IsSpreadIn set f → Contains (next n) k
    spread_row k f is spread =
        (rows n k).1 (record { definition = d; fragment = f; name = spread.name; at = at; is_fragment = is; stands = subst (λ l. Contains l spread.name) (sym spreads) spread.stands; names = spread.names })

  module _ (o : ℕ) (operation : OperationOf) (is_o : IsOperationAt ds o operation) where
    own : spreads_in is_o.definition.definition ≡ spread_names operation.set
    own = (operation_is is_o.definition.file is_o.definition.definition operation is_o.is).1

    of_fragment : (k : ℕ) (f : FragmentOf) (is : IsFragmentAt ds k f) → spreads_in is.definition.definition ≡ spread_names f.set
    of_fragment k f is = (fragment_is is.definition.file is.definition.definition f is.is).1

    to_reached : (k : ℕ) → Reach (next o) next k → (f : FragmentOf) × IsFragmentAt ds k f × Reaches (fragments_among ds) operation.set f
    to_reached k (start there) =
        let s = spread_once o is_o.definition is_o.at operation.set own k there in
        (s.0, s.1, at_once (among ds k s.0 s.1) s.2)
    to_reached k (step {m = m} way there) =
        let before = to_reached m way in
        let s = spread_once m before.1.definition before.1.at before.0.set (of_fragment m before.0 before.1) k there in
        (s.0, s.1, through before.2 (among ds k s.0 s.1) s.2)

    from_reached : (f : FragmentOf) → Reaches (fragments_among ds) operation.set f → (k : ℕ) → IsFragmentAt ds k f → Reach (next o) next k
    from_reached f (at_once there spread) k is = start (spread_row o is_o.definition is_o.at operation.set own k f is spread)
    from_reached f (through {g = g} way there spread) k is =
        let j = fragment_at ds g (reached_among (fragments_among ds) operation.set g way) in
        step (from_reached g way j.0 j.1) (spread_row j.0 j.1.definition j.1.at g.set (of_fragment j.0 g j.1) k f is spread)

-- What is kept of the definitions says which are operations and which use the variable.
pub record Tells (ds : List DefinitionOf) (text : Text) (s : Sharing) : Type 0 where
  pub rows : (n k : ℕ) → Contains (s.spread_in n) k ↔ SpreadsFragment ds n k
  pub operations : (n : ℕ) (d : DefinitionOf) → slice_get ds n ≡ Some d → s.is_operation n ≡ is_operation d.definition
  pub no_operation : (n : ℕ) → s.is_operation n ≡ true → (d : DefinitionOf) × (slice_get ds n ≡ Some d)
  pub uses : (n : ℕ) → (s.uses n ≡ true) ↔ UsesVariable ds text n

module _ (ds : List DefinitionOf) (text : Text) (s : Sharing) (tells : Tells ds text s) where
  is_one : (o : ℕ) → s.is_operation o ≡ true → (p : OperationOf) × IsOperationAt ds o p
  is_one o is =
      let d = tells.no_operation o is in
      let p = operation_of d.0.file d.0.definition (sym (tells.operations o d.0 d.1) ∙ is) in
      (p.0, record { definition = d.0; at = d.1; is = p.1 })

  to_user : (o f : ℕ) → s.is_operation o ≡ true → Reach (s.spread_in o) s.spread_in f → s.uses f ≡ true → ReachesUser ds text o f
  to_user o f is way used =
      let p = is_one o is in
      let r = to_reached ds s.spread_in tells.rows o p.0 p.1 f way in
      record { operation = p.0; fragment = r.0; is_operation = p.1; is_fragment = r.1; reached = r.2; uses = (tells.uses f).0 used }

  of_user : (o f : ℕ) → ReachesUser ds text o f → (s.is_operation o ≡ true) × Reach (s.spread_in o) s.spread_in f × (s.uses f ≡ true)
  of_user o f r =
      let op = r.is_operation in (
        tells.operations o op.definition op.at ∙ (operation_is op.definition.file op.definition.definition r.operation op.is).0,
        from_reached ds s.spread_in tells.rows o r.operation op r.fragment r.reached f r.is_fragment,
        (tells.uses f).1 r.uses,
      )

  to_group : (first_one n : ℕ) → NumberGroup s first_one n → VariableGroup ds text first_one n
  to_group first_one n itself = of_itself
  to_group first_one n (with_operation {o = o} {f = f} g is way used) = by_operation (to_group first_one o g) (to_user o f is way used)
  to_group first_one n (with_fragment {o = o} {f = f} g is way used) = by_fragment (to_group first_one f g) (to_user o f is way used)

  of_group : (first_one n : ℕ) → VariableGroup ds text first_one n → NumberGroup s first_one n
  of_group first_one n of_itself = itself
  of_group first_one n (by_operation {o = o} {f = f} g r) = let u = of_user o f r in with_operation (of_group first_one o g) u.0 u.1 u.2
  of_group first_one n (by_fragment {o = o} {f = f} g r) = let u = of_user o f r in with_fragment (of_group first_one f g) u.0 u.1 u.2

  pub same_group : (first_one n : ℕ) → NumberGroup s first_one n ↔ VariableGroup ds text first_one n
  same_group first_one n = (to_group first_one n, of_group first_one n)
