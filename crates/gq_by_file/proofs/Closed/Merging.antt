-- The faults of fields that do not merge, in a closed set of files and in the project: what is told of the set stands in it and
-- is told of the project, and what is told of the project is told of each closed set with one certain file. That is the file of
-- the operation or fragment in which the first two fields that meet stand.
use Rattle.std.proofs.Common.{◌≡◌, ℕ, List, Contains, refl, sym, subst}
use Rattle.std.proofs.lemmas.List.Elements.{Contains-append_left, Contains-append_right}
use Rattle.gq_text.specs.declared.place.Span.{Span}
use Rattle.gq_tree.specs.Forest.{labels, more}
use Rattle.gq_tree.specs.Plain.{NameOf, DirectiveOf, Head, Sels, spread}
use Rattle.gq_tree.specs.Names.{spread_name, spread_names}
use Rattle.gq_fault.specs.declared.fault.Fault.{Fault}
use Rattle.gq_types.proofs.Gathered.{first, later, from_flat, to_flat}
use Rattle.gq_document.specs.Definitions.{FragmentOf}
use Rattle.gq_document.specs.Executable.{ExecutableOf}
use Rattle.gq_document.specs.Reaches.{IsSpreadIn}
use Rattle.gq_document.specs.FieldSets.{SetOf, FieldAt, InSet, Stands}
use Rattle.gq_document.specs.FieldSets as sets
use Rattle.gq_merging.specs.declared.purpose.Purpose.{Purpose}
use Rattle.gq_merging.specs.FieldsMerge.{HaveOneKey, Meet, together, deeper, IsFaultFor, IsMergingFault, of_shapes, of_names}
use Rattle.gq_by_file.specs.Closed.Closed.{within, IsClosed, StandsInFile, of_operation, of_fragment}
use Rattle.gq_by_file.proofs.Closed.Within.{operation_from, operation_to, fragment_from, fragment_to, IsInside}

-- the spreads in the parts of selections
below_among : (head : Head Span) (below rest : Sels Span) (name : NameOf Span) → Contains (spread_names below) name → Contains (spread_names (more head below rest)) name
below_among head below rest name c =
    let t = from_flat spread_name (labels below) name c in
    to_flat spread_name (labels (more head below rest)) t.0 name (later head t.0 _ (Contains-append_left (labels below) (labels rest) t.0 t.1)) t.2

rest_among : (head : Head Span) (below rest : Sels Span) (name : NameOf Span) → Contains (spread_names rest) name → Contains (spread_names (more head below rest)) name
rest_among head below rest name c =
    let t = from_flat spread_name (labels rest) name c in
    to_flat spread_name (labels (more head below rest)) t.0 name (later head t.0 _ (Contains-append_right (labels below) (labels rest) t.0 t.1)) t.2

spread_below : (head : Head Span) (below rest : Sels Span) (f : FragmentOf) → IsSpreadIn below f → IsSpreadIn (more head below rest) f
spread_below head below rest f h = record { name = h.name; stands = below_among head below rest h.name h.stands; names = h.names }

spread_after : (head : Head Span) (below rest : Sels Span) (f : FragmentOf) → IsSpreadIn rest f → IsSpreadIn (more head below rest) f
spread_after head below rest f h = record { name = h.name; stands = rest_among head below rest h.name h.stands; names = h.names }

spread_first : (name : NameOf Span) (directives : List (DirectiveOf Span)) (place : Span) (below rest : Sels Span) (f : FragmentOf) → name.text ≡ f.name.text →
    IsSpreadIn (more (spread name directives place) below rest) f
spread_first name directives place below rest f e = record { name = name; stands = first name name _ refl; names = e }

module _ (files : List ℕ) (x : ExecutableOf) where
  abbrev there : ExecutableOf
  there = within files x

  -- a selection set stands in the files, and so does each fragment that is spread in it
  abbrev IsKept : SetOf → Type 0
  IsKept s = Contains files s.file × IsInside files x s.selections

  -- the same of what a field has in its braces
  abbrev IsKeptBelow : FieldAt → Type 0
  IsKeptBelow a = Contains files a.file × IsInside files x a.below

  -- from the files to the project
  in_set_from : {s : SetOf} {a : FieldAt} → InSet there s a → InSet x s a
  in_set_from sets.here = sets.here
  in_set_from (sets.within h) = sets.within (in_set_from h)
  in_set_from (sets.through {fragment = g} c e h) = sets.through ((fragment_from files x g c).0) e (in_set_from h)
  in_set_from (sets.after h) = sets.after (in_set_from h)

  in_set_file : {s : SetOf} {a : FieldAt} → Contains files s.file → InSet there s a → Contains files a.file
  in_set_file k sets.here = k
  in_set_file k (sets.within h) = in_set_file k h
  in_set_file k (sets.through {fragment = g} c e h) = in_set_file ((fragment_from files x g c).1) h
  in_set_file k (sets.after h) = in_set_file k h

  stands_from : {s : SetOf} → Stands there s → Contains files s.file × Stands x s
  stands_from (sets.of_operation {o = o} c) = let t = operation_from files x o c in (t.1, sets.of_operation t.0)
  stands_from (sets.of_fragment {f = f} c) = let t = fragment_from files x f c in (t.1, sets.of_fragment t.0)
  stands_from (sets.of_field h i) = let t = stands_from h in (in_set_file t.0 i, sets.of_field t.1 (in_set_from i))

  one_key_from : {s t : SetOf} {a b : FieldAt} → HaveOneKey there s t a b → HaveOneKey x s t a b
  one_key_from h = record { first = in_set_from h.first; second = in_set_from h.second; one_key = h.one_key }

  meet_from : {purpose : Purpose} {a b : FieldAt} → Meet there purpose a b → Contains files b.file × Meet x purpose a b
  meet_from (together s h) = let t = stands_from s in (in_set_file t.0 h.second, together t.1 (one_key_from h))
  meet_from (deeper m l h) = let t = meet_from m in (in_set_file t.0 h.second, deeper t.1 l (one_key_from h))

  fault_from : {purpose : Purpose} {f : Fault} → IsFaultFor there purpose f → Contains files f.file × IsFaultFor x purpose f
  fault_from {purpose} {f} h =
      let t = meet_from h.meet in (
        subst (λ (z : Fault). Contains files z.file) (sym h.is) t.0,
        record { first = h.first; later = h.later; meet = t.1; differ = h.differ; is_no_later = h.is_no_later; is = h.is },
      )

  -- from the project to the files
  module _ (closed : IsClosed files x) where
    in_set_to : {s : SetOf} {a : FieldAt} → IsKept s → InSet x s a → InSet there s a × IsKeptBelow a
    in_set_to k (sets.here {below = below} {rest = rest}) = (sets.here, (k.0, λ f c i. k.1 f c (spread_below _ below rest f i)))
    in_set_to k (sets.within {below = below} {rest = rest} h) =
        let t = in_set_to (k.0, λ f c i. k.1 f c (spread_below _ below rest f i)) h in
        (sets.within t.0, t.1)
    in_set_to k (sets.through {name = name} {directives = directives} {place = place} {below = below} {rest = rest} {fragment = g} c e h) =
        let inside = k.1 g c (spread_first name directives place below rest g e) in
        let t = in_set_to (inside, closed.of_fragments g c inside) h in
        (sets.through (fragment_to files x g c inside) e t.0, t.1)
    in_set_to k (sets.after {head = head} {below = below} {rest = rest} h) =
        let t = in_set_to (k.0, λ f c i. k.1 f c (spread_after head below rest f i)) h in
        (sets.after t.0, t.1)

    one_key_to : {s t : SetOf} {a b : FieldAt} → IsKept s → IsKept t → HaveOneKey x s t a b → HaveOneKey there s t a b × IsKeptBelow a × IsKeptBelow b
    one_key_to k l h =
        let u = in_set_to k h.first in
        let v = in_set_to l h.second in
        (record { first = u.0; second = v.0; one_key = h.one_key }, u.1, v.1)

module _ (x : ExecutableOf) where
  -- what holds of each closed set of files with that of one certain operation or fragment
  abbrev HoldsFromFile : ((files : List ℕ) → Type 0) → Type 0
  HoldsFromFile P = (n : ℕ) × StandsInFile x n × ((files : List ℕ) → IsClosed files x → Contains files n → P files)

  stands_to : {s : SetOf} → Stands x s → HoldsFromFile (λ files. Stands (within files x) s × IsKept files x s)
  stands_to (sets.of_operation {o = o} c) = (o.file, of_operation c refl, λ files closed k. (sets.of_operation (operation_to files x o c k), (k, closed.of_operations o c k)))
  stands_to (sets.of_fragment {f = f} c) = (f.file, of_fragment c refl, λ files closed k. (sets.of_fragment (fragment_to files x f c k), (k, closed.of_fragments f c k)))
  stands_to (sets.of_field h i) =
      let t = stands_to h in (
        t.0,
        t.1,
        λ files closed k.
            let s = t.2 files closed k in
            let u = in_set_to files x closed s.1 i in
            (sets.of_field s.0 u.0, u.1),
      )

  meet_to : {purpose : Purpose} {a b : FieldAt} → Meet x purpose a b → HoldsFromFile (λ files. Meet (within files x) purpose a b × IsKeptBelow files x a × IsKeptBelow files x b)
  meet_to (together s h) =
      let t = stands_to s in (
        t.0,
        t.1,
        λ files closed k.
            let u = t.2 files closed k in
            let v = one_key_to files x closed u.1 u.1 h in
            (together u.0 v.0, v.1, v.2),
      )
  meet_to (deeper m l h) =
      let t = meet_to m in (
        t.0,
        t.1,
        λ files closed k.
            let u = t.2 files closed k in
            let v = one_key_to files x closed u.1 u.2 h in
            (deeper u.0 l v.0, v.1, v.2),
      )

  fault_to : {purpose : Purpose} {f : Fault} → IsFaultFor x purpose f → HoldsFromFile (λ files. IsFaultFor (within files x) purpose f)
  fault_to h =
      let t = meet_to h.meet in (
        t.0,
        t.1,
        λ files closed k. record {
          first = h.first;
          later = h.later;
          meet = (t.2 files closed k).0;
          differ = h.differ;
          is_no_later = h.is_no_later;
          is = h.is;
        },
      )

pub merging_sound : (files : List ℕ) (x : ExecutableOf) → IsClosed files x → (f : Fault) → IsMergingFault (within files x) f → Contains files f.file × IsMergingFault x f
merging_sound files x closed f (of_shapes h) = let t = fault_from files x h in (t.0, of_shapes t.1)
merging_sound files x closed f (of_names h) = let t = fault_from files x h in (t.0, of_names t.1)

pub merging_complete : (x : ExecutableOf) (f : Fault) → IsMergingFault x f →
    (n : ℕ) × StandsInFile x n × ((files : List ℕ) → IsClosed files x → Contains files n → IsMergingFault (within files x) f)
merging_complete x f (of_shapes h) = let t = fault_to x h in (t.0, t.1, λ files closed k. of_shapes (t.2 files closed k))
merging_complete x f (of_names h) = let t = fault_to x h in (t.0, t.1, λ files closed k. of_names (t.2 files closed k))
