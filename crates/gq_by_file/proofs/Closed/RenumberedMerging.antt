-- The faults of fields that do not merge, in documents of other numbers: two fields that meet meet there too, each in the document
-- of the number that answers to its own, and the later one of them is the later one there.
use Rattle.std.proofs.Common.{◌≡◌, ⊎_elim, inl, inr, ℕ, true, List, refl, sym, ap, subst}
use Rattle.gq_text.specs.declared.place.Span.{Span}
use Rattle.gq_tree.specs.Plain.{TypeOf}
use Rattle.gq_fault.specs.declared.fault.Fault.{Fault}
use Rattle.gq_types.specs.Entries.{EntryOf}
use Rattle.gq_document.specs.Definitions.{OperationOf, FragmentOf}
use Rattle.gq_document.specs.Executable.{ExecutableOf}
use Rattle.gq_document.specs.FieldSets.{SetOf, FieldAt, InSet, Stands}
use Rattle.gq_document.specs.FieldSets as sets
use Rattle.gq_merging.specs.declared.purpose.Purpose.{Purpose}
use Rattle.gq_merging.specs.declared.purpose.Purpose.TheVariants.{Shapes, Names}
use Rattle.gq_merging.specs.FieldsMerge.{HaveOneKey, leads_on, Meet, together, deeper, HasType, Differ, in_shape, in_call, IsNoLater, fault_of, IsFaultFor, IsMergingFault, of_shapes, of_names}
use Rattle.gq_by_file.proofs.Closed.Renumbered.{made, AreRenumbered, TellsOfRenumbered}

-- the same selection set, and the same field, in the document of another number
abbrev set_to : ℕ → SetOf → SetOf
set_to n s = record s { file = n }

abbrev field_to : ℕ → FieldAt → FieldAt
field_to n a = record a { file = n }

-- Whether the fields below two are compared, and whether two fields differ, does not rest on the numbers.
leads_to : (es : List EntryOf) (purpose : Purpose) (m n : ℕ) (a b : FieldAt) → leads_on es purpose a b ≡ true → leads_on es purpose (field_to m a) (field_to n b) ≡ true
leads_to es Shapes m n a b e = e
leads_to es Names m n a b e = e

type_to : {es : List EntryOf} {a : FieldAt} {type_ref : TypeOf Span} (n : ℕ) → HasType es a type_ref → HasType es (field_to n a) type_ref
type_to n h = record { definition = h.definition; is_known = h.is_known; is = h.is; end_is_known = h.end_is_known }

differ_to : {es : List EntryOf} {purpose : Purpose} {a b : FieldAt} (m n : ℕ) → Differ es purpose a b → Differ es purpose (field_to m a) (field_to n b)
differ_to m n (in_shape left right h i unlike) = in_shape left right (type_to m h) (type_to n i) unlike
differ_to m n (in_call e unlike) = in_call e (λ s. unlike (record { one_name = s.one_name; same_arguments = s.same_arguments }))

module _ (es : List EntryOf) (Is : ℕ → ℕ → Type 0) (os ps : List OperationOf) (gs hs : List FragmentOf) (renumbered : AreRenumbered Is os ps gs hs) where
  abbrev x : ExecutableOf
  x = made es os gs

  abbrev y : ExecutableOf
  y = made es ps hs

  in_set_to : {s : SetOf} {a : FieldAt} (n : ℕ) → Is s.file n → InSet x s a → (m : ℕ) × Is a.file m × InSet y (set_to n s) (field_to m a)
  in_set_to n is sets.here = (n, is, sets.here)
  in_set_to n is (sets.within h) = let t = in_set_to n is h in (t.0, t.1, sets.within t.2)
  in_set_to n is (sets.through {fragment = g} c e h) =
      let f = renumbered.fragment g c in
      let t = in_set_to f.0 f.1 h in
      (t.0, t.1, sets.through f.2 e t.2)
  in_set_to n is (sets.after h) = let t = in_set_to n is h in (t.0, t.1, sets.after t.2)

  stands_to : {s : SetOf} → Stands x s → (n : ℕ) × Is s.file n × Stands y (set_to n s)
  stands_to (sets.of_operation {o = o} c) = let t = renumbered.operation o c in (t.0, t.1, sets.of_operation t.2)
  stands_to (sets.of_fragment {f = f} c) = let t = renumbered.fragment f c in (t.0, t.1, sets.of_fragment t.2)
  stands_to (sets.of_field h i) =
      let t = stands_to h in
      let u = in_set_to t.0 t.1 i in
      (u.0, u.1, sets.of_field t.2 u.2)

  -- two fields in documents of numbers that answer to their own, of which something holds there
  abbrev HoldsOfBoth : FieldAt → FieldAt → (FieldAt → FieldAt → Type 0) → Type 0
  HoldsOfBoth a b P = (m : ℕ) × (n : ℕ) × Is a.file m × Is b.file n × P (field_to m a) (field_to n b)

  one_key_to : {s t : SetOf} {a b : FieldAt} (k l : ℕ) → Is s.file k → Is t.file l → HaveOneKey x s t a b → HoldsOfBoth a b (HaveOneKey y (set_to k s) (set_to l t))
  one_key_to k l i j h =
      let u = in_set_to k i h.first in
      let v = in_set_to l j h.second in
      (u.0, v.0, u.1, v.1, record { first = u.2; second = v.2; one_key = h.one_key })

  meet_to : {purpose : Purpose} {a b : FieldAt} → Meet x purpose a b → HoldsOfBoth a b (Meet y purpose)
  meet_to (together s h) =
      let t = stands_to s in
      let u = one_key_to t.0 t.0 t.1 t.1 h in
      (u.0, u.1, u.2, u.3, together t.2 u.4)
  meet_to {purpose} (deeper {a = a} {b = b} m l h) =
      let t = meet_to m in
      let u = one_key_to t.0 t.1 t.2 t.3 h in
      (u.0, u.1, u.2, u.3, deeper t.4 (leads_to es purpose t.0 t.1 a b l) u.4)

  no_later_to : (a b : FieldAt) (m n : ℕ) → Is a.file m → Is b.file n → IsNoLater a b → IsNoLater (field_to m a) (field_to n b)
  no_later_to a b m n i j = ⊎_elim
      (λ before. inl (renumbered.ascends a.file b.file m n i j before))
      (λ t. inr (renumbered.is_one a.file m n i (subst (λ k. Is k n) (sym t.0) j), t.1))

  fault_to : {purpose : Purpose} {f : Fault} → IsFaultFor x purpose f → (g : Fault) × (g.code ≡ f.code) × IsFaultFor y purpose g
  fault_to h =
      let t = meet_to h.meet in
      let later = field_to t.1 h.later in (
        fault_of later,
        ap (λ (z : Fault). z.code) (sym h.is),
        record {
          first = field_to t.0 h.first;
          later = later;
          meet = t.4;
          differ = differ_to t.0 t.1 h.differ;
          is_no_later = no_later_to h.first h.later t.0 t.1 t.2 t.3 h.is_no_later;
          is = refl;
        },
      )

pub merging_renumbered : TellsOfRenumbered IsMergingFault
merging_renumbered es Is os ps gs hs renumbered f (of_shapes h) = let t = fault_to es Is os ps gs hs renumbered h in (t.0, t.1, of_shapes t.2)
merging_renumbered es Is os ps gs hs renumbered f (of_names h) = let t = fault_to es Is os ps gs hs renumbered h in (t.0, t.1, of_names t.2)
