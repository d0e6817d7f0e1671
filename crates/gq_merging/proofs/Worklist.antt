-- How many sets wait, what a longer list has, and the fields that stand in a set itself.
use Rattle.std.proofs.Common.{◌≡◌, ℕ, zero, suc, ◌+◌, List, [], ◌∷◌, ◌++◌, Option, Some, All, length, refl, ap, arith}
use Rattle.std.specs.List.{slice_get}
use Rattle.std.proofs.lemmas.List.Elements.{All-append, All-nil, All-cons, All-weaker}
use Rattle.gq_text.specs.declared.place.Span.{Span}
use Rattle.gq_tree.specs.Forest.{none, more}
use Rattle.gq_tree.specs.Plain.{Sels, field, spread, inline}
use Rattle.gq_types.specs.Entries.{Text, EntryOf}
use Rattle.gq_document.specs.Executable.{ExecutableOf}
use Rattle.gq_document.specs.FieldSets.{SetOf, FieldAt, narrowed, InSet, here, within, after}
use Rattle.gq_merging.specs.Helping.SetTables.{MemberOf, HasNumber, own_fields, weight, weights, field_weights}

pub weights_append : (ss ts : List SetOf) → weights (ss ++ ts) ≡ weights ss + weights ts
weights_append [] ts = omega arith
weights_append (s ∷ ss) ts = let e = weights_append ss ts in omega (arith, e)

pub field_weights_append : (fs gs : List FieldAt) → field_weights (fs ++ gs) ≡ field_weights fs + field_weights gs
field_weights_append [] gs = omega arith
field_weights_append (f ∷ fs) gs = let e = field_weights_append fs gs in omega (arith, e)

pub fields_weigh : (file : ℕ) (parent : Option Text) (ss : Sels Span) → field_weights (own_fields file parent ss) ≡ weight ss
fields_weigh file parent none = refl
fields_weigh file parent (more (field alias name arguments directives braces place) below rest) =
    let e = fields_weigh file parent rest in omega (arith, e)
fields_weigh file parent (more (spread name directives place) below rest) = fields_weigh file parent rest
fields_weigh file parent (more (inline on directives braces place) below rest) =
    let a = field_weights_append (own_fields file (narrowed on parent) below) (own_fields file parent rest) in
    let c = fields_weigh file (narrowed on parent) below in
    let d = fields_weigh file parent rest in
    omega (arith, a, c, d)

-- what a list has, a longer one has too
pub get_longer : {A : Type 0} (xs ys : List A) (k : ℕ) (y : A) → slice_get xs k ≡ Some y → slice_get (xs ++ ys) k ≡ Some y
get_longer [] ys k y e = absurd (cc)
get_longer (x ∷ xs) ys zero y e = e
get_longer (x ∷ xs) ys (suc k) y e = get_longer xs ys k y e

pub get_seam : {A : Type 0} (xs : List A) (y : A) (ys : List A) → slice_get (xs ++ y ∷ ys) (length xs) ≡ Some y
get_seam [] y ys = refl
get_seam (x ∷ xs) y ys = get_seam xs y ys

-- an own field stands in the set
pub own_in : (x : ExecutableOf) (file : ℕ) (parent : Option Text) (ss : Sels Span) → All (InSet x (record { file = file; parent = parent; selections = ss })) (own_fields file parent ss)
own_in x file parent none = All-nil (InSet x (record { file = file; parent = parent; selections = none }))
own_in x file parent (more (field alias name arguments directives braces place) below rest) =
    let s : SetOf = record { file = file; parent = parent; selections = more (field alias name arguments directives braces place) below rest } in
    let t : SetOf = record { file = file; parent = parent; selections = rest } in
    All-cons (InSet x s) _ _ here (All-weaker (InSet x t) (InSet x s) (λ f i. after {file = file} {parent = parent} {head = field alias name arguments directives braces place} {below = below} {rest = rest} i) (own_fields file parent rest) (own_in x file parent rest))
own_in x file parent (more (spread name directives place) below rest) =
    let s : SetOf = record { file = file; parent = parent; selections = more (spread name directives place) below rest } in
    let t : SetOf = record { file = file; parent = parent; selections = rest } in
    All-weaker (InSet x t) (InSet x s) (λ f i. after {file = file} {parent = parent} {head = spread name directives place} {below = below} {rest = rest} i) (own_fields file parent rest) (own_in x file parent rest)
own_in x file parent (more (inline on directives braces place) below rest) =
    let s : SetOf = record { file = file; parent = parent; selections = more (inline on directives braces place) below rest } in
    let t : SetOf = record { file = file; parent = parent; selections = rest } in
    let u : SetOf = record { file = file; parent = narrowed on parent; selections = below } in
    All-append (InSet x s) (own_fields file (narrowed on parent) below) (own_fields file parent rest)
    (All-weaker (InSet x u) (InSet x s) (λ f i. within {file = file} {parent = parent} {on = on} {directives = directives} {braces = braces} {place = place} {below = below} {rest = rest} i) (own_fields file (narrowed on parent) below) (own_in x file (narrowed on parent) below))
    (All-weaker (InSet x t) (InSet x s) (λ f i. after {file = file} {parent = parent} {head = inline on directives braces place} {below = below} {rest = rest} i) (own_fields file parent rest) (own_in x file parent rest))

abbrev pub own_of : SetOf → List FieldAt
own_of s = own_fields s.file s.parent s.selections

pub append_nothing : {A : Type 0} (xs : List A) → xs ++ [] ≡ xs
append_nothing [] = refl
append_nothing (x ∷ xs) = ap (λ ys. x ∷ ys) (append_nothing xs)

pub longer_number : (es : List EntryOf) (sets added : List SetOf) (m : MemberOf) → HasNumber es sets m → HasNumber es (sets ++ added) m
longer_number es sets added m n = record { set = n.set; is_set = get_longer sets added m.below n.set n.is_set; alike = n.alike }
