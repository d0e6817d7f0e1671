-- What is found in the tables of a type's parts is what the definitions say.
use Rattle.std.proofs.Common.{◌≡◌, ℕ, ◌+◌, Bool, true, false, cond, List, [], ◌∷◌, ◌++◌, Option, Some, None, map, suc, refl, sym, ◌∙◌, ap, arith, append-nil, append_assoc, nat_eq}
use Rattle.std.specs.Option.{option_map, option_map_or, option_and_then, option_or}
use Rattle.std.specs.List.{find, position, slice_get, filter, flat_map, fold, list_any}
use Rattle.std.specs.Str.{bytes_eq}
use Rattle.std.proofs.lemmas.List.{map-append}
use Rattle.std.proofs.lemmas.List.Folds.{find-append}
use Rattle.std.proofs.lemmas.Option.{slice_get-map}
use Rattle.gq_text.specs.declared.place.Span.{Span}
use Rattle.gq_tree.specs.declared.tree.OperationKind.{OperationKind}
use Rattle.gq_tree.specs.Plain.{BodyOf, RootOf}
use Rattle.gq_tree.specs.Same.{same_kinds}
use Rattle.gq_types.specs.Entries.{Text, EntryOf, Numbered, numbered, numbered_from}
use Rattle.gq_types.specs.Joined.{In, put_in, parts_in, parts_of, body_in, owner, joined, type_number, schema_number, interfaces_in_body, members_in_body, values_in_body, inputs_in_body, interfaces_of, members_of, values_of, inputs_of}
use Rattle.gq_types.specs.Look.{joined_numbers}
use Rattle.gq_types.specs.LookUps.{declares_in}
use Rattle.gq_types.specs.Names.{input_named, has_value, has_member}
use Rattle.gq_types.specs.Roots.{roots_in, entry_for}
use Rattle.gq_types.specs.Helping.Tables.{places_from, Lists, no_parts, add_body, add_entry, parts_at, stands_at, root_at, first_root_at}
use Rattle.gq_types.specs.Helping.UnderName.{under_name}
use Rattle.gq_types.proofs.Searches.{find_through, position_map, any_map}

-- numbered entries that stand at their numbers
abbrev pub Stand : List EntryOf → List Numbered → Type 0
Stand es [] = Unit {0}
Stand es (n ∷ ns) = (slice_get es n.number ≡ Some n.entry) × Stand es ns

stand_from : (all : List EntryOf) (k : ℕ) (es : List EntryOf) → ((i : ℕ) → slice_get all (k + i) ≡ slice_get es i) → Stand all (numbered_from k es)
stand_from all k [] same = tt
stand_from all k (e ∷ es) same =
    let here : k + 0 ≡ k = omega arith in
    let later : (i : ℕ) → slice_get all (k + 1 + i) ≡ slice_get es i = λ i. let next : k + 1 + i ≡ k + suc i = omega arith in ap (λ n. slice_get all n) next ∙ same (suc i) in
    (ap (λ n. slice_get all n) (sym here) ∙ same 0, stand_from all (k + 1) es later)

stand_by : (es : List EntryOf) (b : Bool) (n : Numbered) (ns : List Numbered) → slice_get es n.number ≡ Some n.entry → Stand es ns → Stand es (cond b (n ∷ ns) ns)
stand_by es true n ns here stand = (here, stand)
stand_by es false n ns here stand = stand

stand_kept : (es : List EntryOf) (p : Numbered → Bool) (ns : List Numbered) → Stand es ns → Stand es (filter p ns)
stand_kept es p [] stand = tt
stand_kept es p (n ∷ ns) stand = stand_by es (p n) n (filter p ns) stand.0 (stand_kept es p ns stand.1)

pub numbered_stand : (es : List EntryOf) → Stand es (numbered es)
numbered_stand es = stand_from es 0 es (λ i. let e : 0 + i ≡ i = omega arith in ap (λ n. slice_get es n) e)

pub joined_stand : (es : List EntryOf) (k : ℕ) → Stand es (joined es k)
joined_stand es k = stand_kept es (λ n. nat_eq (owner es n) k) (numbered es) (numbered_stand es)

-- one list of the parts is gathered from the entries
module _ {X : Type 0} (es : List EntryOf) (part : Lists → List X) (adds : Numbered → List X) where
  gathered : ((l : Lists) (n : Numbered) → slice_get es n.number ≡ Some n.entry → part (add_entry es l n.number) ≡ part l ++ adds n)
      → (ns : List Numbered) → Stand es ns → (l : Lists) → part (fold (add_entry es) l (map (λ n. n.number) ns)) ≡ part l ++ flat_map adds ns
  gathered step [] stand l = sym (append-nil (part l))
  gathered step (n ∷ ns) stand l =
      gathered step ns stand.1 (add_entry es l n.number) ∙ ap (λ xs. xs ++ flat_map adds ns) (step l n stand.0) ∙ append_assoc (part l) (adds n) (flat_map adds ns)

-- what one entry adds
added : {X : Type 0} (es : List EntryOf) (part : Lists → List X) (l : Lists) (n : Numbered) → slice_get es n.number ≡ Some n.entry → part (add_entry es l n.number) ≡ part (add_body l n.number (body_in n.entry.definition))
added es part l n there = ap (λ o. part (option_map_or (λ e. add_body l n.number (body_in e.definition)) o l)) there

-- names of parts, put in their documents or not
module _ {A : Type 0} (parts : BodyOf Span → List A) (name : A → Text) where
  put_names : (file : ℕ) (xs : List A) → map (λ x. name x.it) (put_in file xs) ≡ map name xs
  put_names file [] = refl
  put_names file (x ∷ xs) = ap (λ ts. name x ∷ ts) (put_names file xs)

  pub all_names : (ns : List Numbered) → flat_map (λ n. map name (parts (body_in n.entry.definition))) ns ≡ map (λ x. name x.it) (flat_map (λ n. parts_in parts n.entry) ns)
  all_names [] = refl
  all_names (n ∷ ns) =
      ap (λ ts. ts ++ flat_map (λ n. map name (parts (body_in n.entry.definition))) ns) (sym (put_names n.entry.file (parts (body_in n.entry.definition))))
      ∙ ap (λ ts. map (λ x. name x.it) (parts_in parts n.entry) ++ ts) (all_names ns) ∙ sym (map-append (λ x. name x.it) (parts_in parts n.entry) (flat_map (λ n. parts_in parts n.entry) ns))

module _ (es : List EntryOf) (k : ℕ) where
  input_names_are : (parts_at es (joined_numbers es k)).input_names ≡ map (λ f. f.it.name.text) (inputs_of es k)
  input_names_are =
      gathered es (λ l. l.input_names) (λ n. map (λ f. f.name.text) (inputs_in_body (body_in n.entry.definition))) (λ l n there. added es (λ l. l.input_names) l n there) (joined es k) (joined_stand es k) no_parts
      ∙ all_names inputs_in_body (λ f. f.name.text) (joined es k)

  input_places_are : (parts_at es (joined_numbers es k)).input_places ≡ flat_map (λ n. places_from n.number 0 (inputs_in_body (body_in n.entry.definition))) (joined es k)
  input_places_are =
      gathered es (λ l. l.input_places) (λ n. places_from n.number 0 (inputs_in_body (body_in n.entry.definition))) (λ l n there. added es (λ l. l.input_places) l n there) (joined es k) (joined_stand es k) no_parts

  values_are : (parts_at es (joined_numbers es k)).values ≡ map (λ v. v.it.name.text) (values_of es k)
  values_are =
      gathered es (λ l. l.values) (λ n. map (λ v. v.name.text) (values_in_body (body_in n.entry.definition))) (λ l n there. added es (λ l. l.values) l n there) (joined es k) (joined_stand es k) no_parts
      ∙ all_names values_in_body (λ v. v.name.text) (joined es k)

  members_are : (parts_at es (joined_numbers es k)).members ≡ map (λ m. m.it.text) (members_of es k)
  members_are =
      gathered es (λ l. l.members) (λ n. map (λ m. m.text) (members_in_body (body_in n.entry.definition))) (λ l n there. added es (λ l. l.members) l n there) (joined es k) (joined_stand es k) no_parts
      ∙ all_names members_in_body (λ m. m.text) (joined es k)

  interfaces_are : (parts_at es (joined_numbers es k)).interfaces ≡ map (λ i. i.it.text) (interfaces_of es k)
  interfaces_are =
      gathered es (λ l. l.interfaces) (λ n. map (λ i. i.text) (interfaces_in_body (body_in n.entry.definition))) (λ l n there. added es (λ l. l.interfaces) l n there) (joined es k) (joined_stand es k) no_parts
      ∙ all_names interfaces_in_body (λ i. i.text) (joined es k)

-- the part that is found by its name is the one at its place
module _ {A : Type 0} (parts : BodyOf Span → List A) (name : A → Text) (es : List EntryOf) where
  fetched_from : (k : ℕ) (e : EntryOf) → slice_get es k ≡ Some e → (i : ℕ) (rest : List A) → ((j : ℕ) → slice_get (parts (body_in e.definition)) (i + j) ≡ slice_get rest j)
      → map (λ x. Some x.it) (put_in e.file rest) ≡ map (λ p. stands_at parts es p) (places_from k i rest)
  fetched_from k e there i [] same = refl
  fetched_from k e there i (x ∷ rest) same =
      let here : i + 0 ≡ i = omega arith in
      let later : (j : ℕ) → slice_get (parts (body_in e.definition)) (i + 1 + j) ≡ slice_get rest j = λ j. let next : i + 1 + j ≡ i + suc j = omega arith in ap (λ n. slice_get (parts (body_in e.definition)) n) next ∙ same (suc j) in
      let found : stands_at parts es record { entry = k; index = i } ≡ Some x =
      ap (λ o. option_and_then (λ e. slice_get (parts (body_in e.definition)) i) o) there ∙ ap (λ n. slice_get (parts (body_in e.definition)) n) (sym here) ∙ same 0 in
      ap (λ o. o ∷ map (λ x. Some x.it) (put_in e.file rest)) (sym found) ∙ ap (λ os. stands_at parts es record { entry = k; index = i } ∷ os) (fetched_from k e there (i + 1) rest later)

  fetched : (ns : List Numbered) → Stand es ns
      → map (λ x. Some x.it) (flat_map (λ n. parts_in parts n.entry) ns) ≡ map (λ p. stands_at parts es p) (flat_map (λ n. places_from n.number 0 (parts (body_in n.entry.definition))) ns)
  fetched [] stand = refl
  fetched (n ∷ ns) stand =
      let xs = parts (body_in n.entry.definition) in
      let same : (j : ℕ) → slice_get xs (0 + j) ≡ slice_get xs j = λ j. let e : 0 + j ≡ j = omega arith in ap (λ m. slice_get xs m) e in
      map-append (λ x. Some x.it) (parts_in parts n.entry) (flat_map (λ n. parts_in parts n.entry) ns)
      ∙ ap (λ os. os ++ map (λ x. Some x.it) (flat_map (λ n. parts_in parts n.entry) ns)) (fetched_from n.number n.entry stand.0 0 xs same)
      ∙ ap (λ os. map (λ p. stands_at parts es p) (places_from n.number 0 xs) ++ os) (fetched ns stand.1)
      ∙ sym (map-append (λ p. stands_at parts es p) (places_from n.number 0 xs) (flat_map (λ n. places_from n.number 0 (parts (body_in n.entry.definition))) ns))

  kept : {B C : Type 0} (f : B → C) (o : Option B) → option_and_then (λ z. z) (option_map (λ x. Some (f x)) o) ≡ option_map f o
  kept f None = refl
  kept f (Some x) = refl

  joined_up : {B C : Type 0} (f : B → Option C) (o : Option B) → option_and_then (λ z. z) (option_map f o) ≡ option_and_then f o
  joined_up f None = refl
  joined_up f (Some x) = refl

  at_place : (ns : List Numbered) → Stand es ns → (i : ℕ)
      → option_map (λ x. x.it) (slice_get (flat_map (λ n. parts_in parts n.entry) ns) i) ≡ option_and_then (λ p. stands_at parts es p) (slice_get (flat_map (λ n. places_from n.number 0 (parts (body_in n.entry.definition))) ns) i)
  at_place ns stand i =
      let xs = flat_map (λ n. parts_in parts n.entry) ns in
      let ps = flat_map (λ n. places_from n.number 0 (parts (body_in n.entry.definition))) ns in
      sym (kept (λ x. x.it) (slice_get xs i)) ∙ ap (λ o. option_and_then (λ z. z) o) (sym (slice_get-map (λ x. Some x.it) xs i) ∙ ap (λ os. slice_get os i) (fetched ns stand) ∙ slice_get-map (λ p. stands_at parts es p) ps i)
      ∙ joined_up (λ p. stands_at parts es p) (slice_get ps i)

  by_place : (ns : List Numbered) → Stand es ns → (o : Option ℕ)
      → option_map (λ x. x.it) (option_and_then (λ i. slice_get (flat_map (λ n. parts_in parts n.entry) ns) i) o)
      ≡ option_and_then (λ p. stands_at parts es p) (option_and_then (λ i. slice_get (flat_map (λ n. places_from n.number 0 (parts (body_in n.entry.definition))) ns) i) o)
  by_place ns stand None = refl
  by_place ns stand (Some i) = at_place ns stand i

  pub part_found : (k : ℕ) (text : Text)
      → option_map (λ x. x.it) (find (λ x. bytes_eq text (name x.it)) (parts_of parts es k))
      ≡ option_and_then (λ p. stands_at parts es p) (under_name (map (λ x. name x.it) (parts_of parts es k)) (flat_map (λ n. places_from n.number 0 (parts (body_in n.entry.definition))) (joined es k)) text)
  part_found k text =
      let xs = parts_of parts es k in
      ap (λ o. option_map (λ x. x.it) o) (find_through (λ x. bytes_eq text (name x.it)) xs ∙ ap (λ o. option_and_then (λ i. slice_get xs i) o) (sym (position_map (bytes_eq text) (λ x. name x.it) xs)))
      ∙ by_place (joined es k) (joined_stand es k) (position (bytes_eq text) (map (λ x. name x.it) xs))

-- the parts that the tables have for the type of a name
module _ (es : List EntryOf) (text : Text) (l : Lists) where
  abbrev Have : Option ℕ → Type 0
  Have o = ◌≡◌ {A = Option Lists} (Some l) (option_map (λ k. parts_at es (joined_numbers es k)) o)

  input_by : (o : Option ℕ) → Have o
      → option_and_then (λ k. option_map (λ f. f.it) (find (λ f. bytes_eq text f.it.name.text) (inputs_of es k))) o ≡ option_and_then (λ p. stands_at inputs_in_body es p) (under_name l.input_names l.input_places text)
  input_by None have = absurd (cc)
  input_by (Some k) have =
      let is : l ≡ parts_at es (joined_numbers es k) = cc in
      part_found inputs_in_body (λ f. f.name.text) es k text
      ∙ ap (λ o. option_and_then (λ p. stands_at inputs_in_body es p) o)
      (ap (λ ts. under_name ts (flat_map (λ n. places_from n.number 0 (inputs_in_body (body_in n.entry.definition))) (joined es k)) text) (sym (input_names_are es k)) ∙ ap (λ ps. under_name (parts_at es (joined_numbers es k)).input_names ps text) (sym (input_places_are es k))
      ∙ ap (λ l. under_name l.input_names l.input_places text) (sym is))

  value_by : (o : Option ℕ) → Have o → list_any (bytes_eq text) l.values ≡ option_map_or (λ k. list_any (λ v. bytes_eq text v.it.name.text) (values_of es k)) o false
  value_by None have = absurd (cc)
  value_by (Some k) have =
      let is : l ≡ parts_at es (joined_numbers es k) = cc in
      ap (λ l. list_any (bytes_eq text) l.values) is ∙ ap (λ ts. list_any (bytes_eq text) ts) (values_are es k) ∙ any_map (bytes_eq text) (λ v. v.it.name.text) (values_of es k)

  member_by : (o : Option ℕ) → Have o → list_any (bytes_eq text) l.members ≡ option_map_or (λ k. list_any (λ m. bytes_eq text m.it.text) (members_of es k)) o false
  member_by None have = absurd (cc)
  member_by (Some k) have =
      let is : l ≡ parts_at es (joined_numbers es k) = cc in
      ap (λ l. list_any (bytes_eq text) l.members) is ∙ ap (λ ts. list_any (bytes_eq text) ts) (members_are es k) ∙ any_map (bytes_eq text) (λ m. m.it.text) (members_of es k)

  module _ (type_name : Text) (have : Have (type_number es type_name)) where
    pub input_is : input_named es type_name text ≡ option_and_then (λ p. stands_at inputs_in_body es p) (under_name l.input_names l.input_places text)
    input_is = input_by (type_number es type_name) have

    pub value_is : list_any (bytes_eq text) l.values ≡ has_value es type_name text
    value_is = value_by (type_number es type_name) have

    pub member_is : list_any (bytes_eq text) l.members ≡ has_member es type_name text
    member_is = member_by (type_number es type_name) have

-- the parts that the tables have for the entry with a number
module _ (es : List EntryOf) (text : Text) (k : ℕ) (l : Lists) where
  abbrev HaveAt : Option EntryOf → Type 0
  HaveAt o = ◌≡◌ {A = Option Lists} (Some l) (option_map (λ e. parts_at es (joined_numbers es k)) o)

  have_at : (o : Option EntryOf) → HaveAt o → l ≡ parts_at es (joined_numbers es k)
  have_at None h = absurd (cc)
  have_at (Some e) h = cc

  module _ (have : HaveAt (slice_get es k)) where
    pub interface_is : list_any (bytes_eq text) l.interfaces ≡ declares_in es k text
    interface_is =
        ap (λ l. list_any (bytes_eq text) l.interfaces) (have_at (slice_get es k) have) ∙ ap (λ ts. list_any (bytes_eq text) ts) (interfaces_are es k) ∙ any_map (bytes_eq text) (λ i. i.it.text) (interfaces_of es k)

-- the first entry for a kind of operation
module _ (es : List EntryOf) (kind : OperationKind) where
  by_kind : (b : Bool) (r : RootOf Span) (put : In (RootOf Span)) (rest : Option (RootOf Span)) (later : Option (In (RootOf Span))) → put.it ≡ r → option_map (λ r. r.it.name.text) later ≡ option_map (λ r. r.name.text) rest
      → option_map (λ r. r.it.name.text) (cond b (Some put) later) ≡ option_map (λ r. r.name.text) (cond b (Some r) rest)
  by_kind true r put rest later is h = ap (λ r. Some r.name.text) is
  by_kind false r put rest later is h = h

  first_put : (file : ℕ) (rs : List (RootOf Span)) → option_map (λ r. r.it.name.text) (find (λ r. same_kinds kind r.it.kind) (put_in file rs)) ≡ option_map (λ r. r.name.text) (find (λ r. same_kinds kind r.kind) rs)
  first_put file [] = refl
  first_put file (r ∷ rs) = by_kind (same_kinds kind r.kind) r record { file = file; it = r } (find (λ r. same_kinds kind r.kind) rs) (find (λ r. same_kinds kind r.it.kind) (put_in file rs)) refl (first_put file rs)

  either : {A B : Type 0} (f : A → B) (a b : Option A) → option_map f (option_or a b) ≡ option_or (option_map f a) (option_map f b)
  either f None b = refl
  either f (Some x) b = refl

  first_is : (ns : List Numbered) → Stand es ns
      → option_map (λ r. r.it.name.text) (find (λ r. same_kinds kind r.it.kind) (flat_map (λ n. put_in n.entry.file (roots_in n.entry.definition)) ns)) ≡ first_root_at es kind (map (λ n. n.number) ns)
  first_is [] stand = refl
  first_is (n ∷ ns) stand =
      let here = put_in n.entry.file (roots_in n.entry.definition) in
      let rest = flat_map (λ n. put_in n.entry.file (roots_in n.entry.definition)) ns in
      let at : root_at es kind n.number ≡ option_map (λ r. r.name.text) (find (λ r. same_kinds kind r.kind) (roots_in n.entry.definition)) =
      ap (λ o. option_and_then (λ e. option_map (λ r. r.name.text) (find (λ r. same_kinds kind r.kind) (roots_in e.definition))) o) stand.0 in
      ap (λ o. option_map (λ r. r.it.name.text) o) (find-append (λ r. same_kinds kind r.it.kind) here rest)
      ∙ either (λ r. r.it.name.text) (find (λ r. same_kinds kind r.it.kind) here) (find (λ r. same_kinds kind r.it.kind) rest)
      ∙ ap (λ o. option_or o (option_map (λ r. r.it.name.text) (find (λ r. same_kinds kind r.it.kind) rest))) (first_put n.entry.file (roots_in n.entry.definition) ∙ sym at)
      ∙ ap (λ o. option_or (root_at es kind n.number) o) (first_is ns stand.1)

  pub entry_is : entry_for es kind ≡ first_root_at es kind (joined_numbers es (schema_number es))
  entry_is = first_is (joined es (schema_number es)) (joined_stand es (schema_number es))
