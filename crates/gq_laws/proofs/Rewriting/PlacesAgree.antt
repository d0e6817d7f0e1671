-- At each place that execution reaches, the fields of one key meet in the rule of fields that merge (sections 5.3.2 and 6.3.2).
use Rattle.std.proofs.Common.{◌≡◌, inl, inr, ℕ, Bool, true, false, cond, List, [], ◌∷◌, Option, Some, None, refl, sym, ap, ◌∙◌, subst, Contains}
use Rattle.std.specs.Prelude.{if◌then◌else◌}
use Rattle.std.specs.Option.{option_map}
use Rattle.std.specs.Str.{bytes_eq}
use Rattle.gq_names.proofs.RepeatLemmas.{contains_none}
use Rattle.gq_fault.specs.declared.fault.Fault.{Fault}
use Rattle.gq_types.specs.Roots.{root_of}
use Rattle.gq_document.specs.Definitions.{OperationOf}
use Rattle.gq_document.specs.Selections.{selected_field}
use Rattle.gq_tree.specs.NamedTypes.{base_name}
use Rattle.gq_document.specs.Executable.{ExecutableOf}
use Rattle.gq_document.specs.FieldSets.{SetOf, FieldAt, key as response_key, operation_set, field_set, InSet, Stands, of_operation, of_field}
use Rattle.gq_merging.specs.FieldsMerge.{HaveOneKey, can_coincide, Meet, together, deeper, IsMergingFault}
use Rattle.gq_merging.specs.declared.purpose.Purpose.TheVariants.{Names}
use Rattle.gq_meaning.specs.Values.{Text}
use Rattle.gq_meaning.specs.Results as result
use Rattle.gq_meaning.specs.Results.{Result, Answer, Answers, Step, key, index, Path}
use Rattle.gq_meaning.specs.Selected.{Set, set_of}
use Rattle.gq_meaning.specs.Expand.{Asked, Definition, expand, sets_of}
use Rattle.gq_meaning.specs.Thin.{IsIn}
use Rattle.gq_meaning.specs.Response.{FieldType, Given, setting, Place, is_unfit, fails, item_at, of_key, place_of, place_in, item_type, below_result, below, child, root_fields, root}
use Rattle.gq_meaning.specs.Rewritten.{base_in, HasSubtypes, place_at}
use Rattle.gq_meaning.proofs.TextLemmas.{same_text}
use Rattle.gq_executor.specs.Operations.{fragments_in}
use Rattle.gq_laws.specs.Rewriting.Agree.{static_of, NamesAgree}
use Rattle.gq_laws.specs.Rewriting.OneCall.{IsOneCall}
use Rattle.gq_laws.proofs.Rewriting.Expanded.{HasParent, IsFrom, from_set, by_one_of}
use Rattle.gq_laws.proofs.Rewriting.SelectedFields.{AreSelected, IsSelectedField, field_selected, operation_selected}
use Rattle.gq_laws.proofs.Rewriting.OneCall.{one_call}
use Rattle.gq_laws.proofs.Rewriting.Fitting.{object_base, item_base_in}

-- a field of a key
in_key : (k : Text) (xs : List Asked) (a : Asked) → IsIn a (of_key k xs) → IsIn a xs × (k ≡ a.key)
in_key k [] a m = absurd m
in_key k (x ∷ xs) a m = by_test (bytes_eq k x.key) refl m (in_key k xs a)
  where
    by_test : (b : Bool) → bytes_eq k x.key ≡ b → IsIn a (cond b (x ∷ of_key k xs) (of_key k xs)) → (IsIn a (of_key k xs) → IsIn a xs × (k ≡ a.key)) → IsIn a (x ∷ xs) × (k ≡ a.key)
    by_test true e (inl s) rest = (inl s, same_text k x.key e ∙ ap (λ z. z.key) (sym s))
    by_test true e (inr h) rest = let r = rest h in (inr r.0, r.1)
    by_test false e h rest = let r = rest h in (inr r.0, r.1)

-- the type of which this is the name at the end
based : (t : Option FieldType) (b : Text) → base_in t ≡ Some b → (type_ref : FieldType) × (t ≡ Some type_ref) × (base_name type_ref ≡ b)
based None b e = cc
based (Some type_ref) b e = (type_ref, refl, cc)

some_one : {A : Type 0} (a b : A) → Some a ≡ Some b → a ≡ b
some_one a b e = cc

-- What is asked of the rules and of the type system: two types for which one object is possible can coincide; a field of which
-- the parent's type has possible objects is known; all fields merge; and the fields of objects have subtypes.
pub record Promises (x : ExecutableOf) (g : Given) : Type 0 where
  pub coincide : (s t o : Text) → g.applies s o ≡ true → g.applies t o ≡ true → can_coincide x.entries (Some s) (Some t) ≡ true
  pub are_known : (f : FieldAt) (p o : Text) → f.parent ≡ Some p → g.applies p o ≡ true → IsSelectedField x f → (c : Text) × (static_of x.entries p f.name.text ≡ Some c)
  pub merge : (fault : Fault) → IsMergingFault x fault → ⊥
  pub subtypes : HasSubtypes (static_of x.entries) g

module _ (x : ExecutableOf) (g : Given) (promises : Promises x g) where
  abbrev ds : List Definition
  ds = fragments_in x

  -- a selection set that stands in the project
  pub record StandingSet : Type 0 where
    pub set : SetOf
    pub stands : Stands x set

  -- Each field of a place has a set of the project: any two fields of one key in two of them meet, and an object that fits the
  -- place is possible for the parent of each.
  pub record IsSound (q : Place) : Type 0 where
    pub set_for : (w : Asked) → IsIn w q.fields → StandingSet
    pub is_set : (w : Asked) (m : IsIn w q.fields) → w.set ≡ set_of (set_for w m).set.selections
    pub are_selected : (w : Asked) (m : IsIn w q.fields) → AreSelected x (set_for w m).set
    pub meet : (w v : Asked) (m : IsIn w q.fields) (l : IsIn v q.fields) (c d : FieldAt) → HaveOneKey x (set_for w m).set (set_for v l).set c d → Meet x Names c d
    pub parents : (b o : Text) → base_in q.type_ref ≡ Some b → g.applies b o ≡ true → (w : Asked) (m : IsIn w q.fields) → HasParent (setting g o) (set_for w m).set.parent

  module _ (q : Place) (sound : IsSound q) (o : Text) (possible : (w : Asked) (m : IsIn w q.fields) → HasParent (setting g o) (sound.set_for w m).set.parent) where
    abbrev fields : List Asked
    fields = expand (setting g o) ds (sets_of q.fields)

    -- a field of the object stands in the set of one of the place's fields
    pub record StandsIn (a : Asked) : Type 0 where
      pub by : Asked
      pub is_by : IsIn by q.fields
      pub from : IsFrom x (setting g o) (sound.set_for by is_by).set a

    pub stands_in : (a : Asked) → IsIn a fields → StandsIn a
    stands_in a m = let r = by_one_of (setting g o) ds q.fields a m in record {
      by = r.0;
      is_by = r.1;
      from = from_set x (setting g o) (sound.set_for r.0 r.1).set (possible r.0 r.1) a (subst (λ z. IsIn a (expand (setting g o) ds z)) (sound.is_set r.0 r.1) r.2);
    }

    same_keys : (a b : Asked) (i : StandsIn a) (j : StandsIn b) → a.key ≡ b.key → response_key i.from.field_at ≡ response_key j.from.field_at
    same_keys a b i j e = ap (λ z. z.key) (sym i.from.asks) ∙ e ∙ ap (λ z. z.key) j.from.asks

    both_meet : (a b : Asked) (i : StandsIn a) (j : StandsIn b) → a.key ≡ b.key → Meet x Names i.from.field_at j.from.field_at
    both_meet a b i j e = sound.meet i.by j.by i.is_by j.is_by i.from.field_at j.from.field_at (record { first = i.from.stands; second = j.from.stands; one_key = same_keys a b i j e })

    both_coincide : (a b : Asked) (i : StandsIn a) (j : StandsIn b) → can_coincide x.entries i.from.field_at.parent j.from.field_at.parent ≡ true
    both_coincide a b i j =
        ap (λ p. can_coincide x.entries p j.from.field_at.parent) i.from.parent.is ∙ ap (λ p. can_coincide x.entries (Some i.from.parent.type_name) p) j.from.parent.is
        ∙ promises.coincide i.from.parent.type_name j.from.parent.type_name o i.from.parent.applies j.from.parent.applies

    one_call_of : (a b : Asked) (i : StandsIn a) (j : StandsIn b) → a.key ≡ b.key → IsOneCall a b
    one_call_of a b i j e =
        let same = one_call x promises.merge i.from.field_at j.from.field_at (both_meet a b i j e) (both_meet b a j i (sym e)) (both_coincide a b i j) (both_coincide b a j i) in
        record {
          one_name = ap (λ z. z.name) i.from.asks ∙ same.one_name ∙ ap (λ z. z.name) (sym j.from.asks);
          one_row = record {
            left = i.from.field_at.arguments;
            right = j.from.field_at.arguments;
            is_left = ap (λ z. z.arguments) i.from.asks;
            is_right = ap (λ z. z.arguments) j.from.asks;
            same = same.same_arguments;
          };
        }

    pub calls_here : (k : Text) (a b : Asked) → IsIn a (of_key k fields) → IsIn b (of_key k fields) → IsOneCall a b
    calls_here k a b m l =
        let r = in_key k fields a m in
        let t = in_key k fields b l in
        one_call_of a b (stands_in a r.0) (stands_in b t.0) (sym r.1 ∙ t.1)

    -- the fields of one key, and what stands in their braces
    module _ (n : ℕ) (k : Text) (y : Asked) (ys : List Asked) (are : y ∷ ys ≡ of_key k fields) where
      in_group : (w : Asked) → IsIn w (y ∷ ys) → IsIn w (of_key k fields)
      in_group w m = subst (IsIn w) are m

      group_in : (w : Asked) → IsIn w (y ∷ ys) → StandsIn w
      group_in w m = stands_in w (in_key k fields w (in_group w m)).0

      keys_same : (w v : Asked) → IsIn w (y ∷ ys) → IsIn v (y ∷ ys) → w.key ≡ v.key
      keys_same w v m l = sym (in_key k fields w (in_group w m)).1 ∙ (in_key k fields v (in_group v l)).1

      abbrev field_for : (w : Asked) → IsIn w (y ∷ ys) → FieldAt
      field_for w m = (group_in w m).from.field_at

      is_selected : (w : Asked) (m : IsIn w (y ∷ ys)) → IsSelectedField x (field_for w m)
      is_selected w m = let i = group_in w m in field_selected x i.from.stands (sound.are_selected i.by i.is_by)

      parent_below : (type_ref : FieldType) (o' : Text) → g.type_of o y.name ≡ Some type_ref → g.applies (base_name type_ref) o' ≡ true → (w : Asked) (m : IsIn w (y ∷ ys)) → HasParent (setting g o') (field_set x.entries (field_for w m)).parent
      parent_below type_ref o' e p w m =
          let i = group_in w m in
          let f = i.from.field_at in
          let t = i.from.parent.type_name in
          let c = promises.are_known f t o i.from.parent.is i.from.parent.applies (is_selected w m) in
          let named : y.name ≡ f.name.text = (calls_here k y w (in_group y (inl refl)) (in_group w m)).one_name ∙ ap (λ z. z.name) i.from.asks in
          record {
            type_name = c.0;
            is = ap (λ z. option_map (λ d. base_name d.type_ref) (selected_field x.entries z f.name.text)) i.from.parent.is ∙ c.1;
            applies = promises.subtypes.each t o f.name.text c.0 o' type_ref i.from.parent.applies c.1 (ap (g.type_of o) (sym named) ∙ e) p;
          }

      pub group_sound : IsSound (record { type_ref = g.type_of o y.name; result = g.look o n y.name y.arguments; fields = y ∷ ys; call = g.call o n y.name y.arguments })
      group_sound = record {
        set_for = λ w m. let i = group_in w m in record { set = field_set x.entries i.from.field_at; stands = of_field (sound.set_for i.by i.is_by).stands i.from.stands };
        is_set = λ w m. ap (λ z. z.set) (group_in w m).from.asks;
        are_selected = λ w m. (is_selected w m).below;
        meet = λ w v m l c d one. deeper (both_meet w v (group_in w m) (group_in v l) (keys_same w v m l)) (both_coincide w v (group_in w m) (group_in v l)) one;
        parents = λ b o' t p w m. let s = based (g.type_of o y.name) b t in parent_below s.0 o' s.1 (subst (λ z. g.applies z o' ≡ true) (sym s.2) p) w m;
      }

  -- an object that fits is possible for the parents
  pub possible_at : (q : Place) (sound : IsSound q) → fails g q ≡ false → (o : Text) (n : ℕ) (items : Answers) → q.result ≡ Some (record { label = result.object o n; below = items }) → (w : Asked) (m : IsIn w q.fields) → HasParent (setting g o) (sound.set_for w m).set.parent
  possible_at q sound f o n items e = let b = object_base g q.type_ref o n items (ap (λ r. is_unfit g q.type_ref r) (sym e) ∙ f) in sound.parents b.0 o b.1 b.2

  -- what is known of a place is known of one that is equal to it
  moved : (p r : Place) → Some p ≡ Some r → IsSound p → IsSound r
  moved p r e sound = subst IsSound (some_one p r e) sound

  group_child : (q : Place) (sound : IsSound q) (o : Text) → ((w : Asked) (m : IsIn w q.fields) → HasParent (setting g o) (sound.set_for w m).set.parent) → (n : ℕ) (k : Text) (xs : List Asked) → xs ≡ of_key k (expand (setting g o) ds (sets_of q.fields)) →
      (r : Place) → place_of g o n xs ≡ Some r → IsSound r
  group_child q sound o possible n k [] are r e = cc
  group_child q sound o possible n k (y ∷ ys) are r e =
      moved (record { type_ref = g.type_of o y.name; result = g.look o n y.name y.arguments; fields = y ∷ ys; call = g.call o n y.name y.arguments }) r e (group_sound q sound o possible n k y ys are)

  item_sound : (q : Place) → IsSound q → (a : Answer) → IsSound (record { type_ref = item_type q.type_ref; result = Some a; fields = q.fields; call = None })
  item_sound q sound a = record {
    set_for = sound.set_for;
    is_set = sound.is_set;
    are_selected = sound.are_selected;
    meet = sound.meet;
    parents = λ b o t p. sound.parents b o (item_base_in q.type_ref b t) p;
  }

  item_child : (q : Place) → IsSound q → (o : Option Answer) (r : Place) → place_in q.type_ref q.fields o ≡ Some r → IsSound r
  item_child q sound None r e = cc
  item_child q sound (Some a) r e = moved (record { type_ref = item_type q.type_ref; result = Some a; fields = q.fields; call = None }) r e (item_sound q sound a)

  child_of : (q : Place) → IsSound q → fails g q ≡ false → (a : Result) (items : Answers) → q.result ≡ Some (record { label = a; below = items }) → (s : Step) (r : Place) → below_result g ds q.type_ref q.fields a items s ≡ Some r → IsSound r
  child_of q sound f result.nothing items e s r h = cc
  child_of q sound f result.failed items e s r h = cc
  child_of q sound f (result.leaf v) items e s r h = cc
  child_of q sound f (result.object o n) items e (key k) r h = group_child q sound o (possible_at q sound f o n items e) n k _ refl r h
  child_of q sound f (result.object o n) items e (index i) r h = cc
  child_of q sound f result.list items e (key k) r h = cc
  child_of q sound f result.list items e (index i) r h = item_child q sound (item_at items i) r h

  sound_child : (q : Place) → IsSound q → (s : Step) (r : Place) → child g ds q s ≡ Some r → IsSound r
  sound_child q sound s r h = by_test (fails g q) refl h
    where
      by_result : fails g q ≡ false → (a : Option Answer) → q.result ≡ a → below g ds q.type_ref q.fields a s ≡ Some r → IsSound r
      by_result f None e h = cc
      by_result f (Some a) e h = child_of q sound f a.label a.below e s r h

      by_test : (b : Bool) → fails g q ≡ b → (if b then None else below g ds q.type_ref q.fields q.result s) ≡ Some r → IsSound r
      by_test true f h = cc
      by_test false f h = by_result f q.result refl h

  along : (path : Path) (o : Option Place) → ((q : Place) → o ≡ Some q → IsSound q) → (r : Place) → place_at g ds o path ≡ Some r → IsSound r
  along path None h r e = cc
  along [] (Some q) h r e = h r e
  along (s ∷ path) (Some q) h r e = along path (child g ds q s) (λ t f. sound_child q (h q refl) s t f) r e

  -- the fields of a place are one call
  abbrev pub AreCalls : Place → Type 0
  AreCalls q = (w v : Asked) → IsIn w q.fields → IsIn v q.fields → IsOneCall w v

  no_place : (r : Place) → ◌≡◌ {A = Option Place} None (Some r) → ⊥
  no_place r e = cc

  calls_moved : (p r : Place) → Some p ≡ Some r → AreCalls p → AreCalls r
  calls_moved p r e calls = subst AreCalls (some_one p r e) calls

  group_calls : (q : Place) (sound : IsSound q) (o : Text) → ((w : Asked) (m : IsIn w q.fields) → HasParent (setting g o) (sound.set_for w m).set.parent) → (n : ℕ) (k : Text) (xs : List Asked) → xs ≡ of_key k (expand (setting g o) ds (sets_of q.fields)) →
      (r : Place) → place_of g o n xs ≡ Some r → AreCalls r
  group_calls q sound o possible n k [] are r e = absurd (no_place r e)
  group_calls q sound o possible n k (y ∷ ys) are r e =
      calls_moved (record { type_ref = g.type_of o y.name; result = g.look o n y.name y.arguments; fields = y ∷ ys; call = g.call o n y.name y.arguments }) r e
      (λ w v m l. calls_here q sound o possible k w v (in_group q sound o possible n k y ys are w m) (in_group q sound o possible n k y ys are v l))

  item_calls : (q : Place) → AreCalls q → (o : Option Answer) (r : Place) → place_in q.type_ref q.fields o ≡ Some r → AreCalls r
  item_calls q calls None r e = absurd (no_place r e)
  item_calls q calls (Some a) r e = calls_moved (record { type_ref = item_type q.type_ref; result = Some a; fields = q.fields; call = None }) r e calls

  calls_of : (q : Place) → IsSound q → AreCalls q → fails g q ≡ false → (a : Result) (items : Answers) → q.result ≡ Some (record { label = a; below = items }) → (s : Step) (r : Place) → below_result g ds q.type_ref q.fields a items s ≡ Some r → AreCalls r
  calls_of q sound calls f result.nothing items e s r h = absurd (no_place r h)
  calls_of q sound calls f result.failed items e s r h = absurd (no_place r h)
  calls_of q sound calls f (result.leaf v) items e s r h = absurd (no_place r h)
  calls_of q sound calls f (result.object o n) items e (key k) r h = group_calls q sound o (possible_at q sound f o n items e) n k _ refl r h
  calls_of q sound calls f (result.object o n) items e (index i) r h = absurd (no_place r h)
  calls_of q sound calls f result.list items e (key k) r h = absurd (no_place r h)
  calls_of q sound calls f result.list items e (index i) r h = item_calls q calls (item_at items i) r h

  calls_child : (q : Place) → IsSound q → AreCalls q → (s : Step) (r : Place) → child g ds q s ≡ Some r → AreCalls r
  calls_child q sound calls s r h = by_test (fails g q) refl h
    where
      by_result : fails g q ≡ false → (a : Option Answer) → q.result ≡ a → below g ds q.type_ref q.fields a s ≡ Some r → AreCalls r
      by_result f None e h = absurd (no_place r h)
      by_result f (Some a) e h = calls_of q sound calls f a.label a.below e s r h

      by_test : (b : Bool) → fails g q ≡ b → (if b then None else below g ds q.type_ref q.fields q.result s) ≡ Some r → AreCalls r
      by_test true f h = absurd (no_place r h)
      by_test false f h = by_result f q.result refl h

  calls_along : (path : Path) (o : Option Place) → ((q : Place) → o ≡ Some q → IsSound q) → ((q : Place) → o ≡ Some q → AreCalls q) → (r : Place) → place_at g ds o path ≡ Some r → AreCalls r
  calls_along path None h c r e = absurd (no_place r e)
  calls_along [] (Some q) h c r e = c r e
  calls_along (s ∷ path) (Some q) h c r e = calls_along path (child g ds q s) (λ t f. sound_child q (h q refl) s t f) (λ t f. calls_child q (h q refl) (c q refl) s t f) r e

  -- At each place below a sound one the fields of one key have one name.
  names_agree : (p : Place) → IsSound p → NamesAgree g ds p
  names_agree p sound = record {
    each = λ path q there f o n items e k a b m l.
        let s = along path (Some p) (λ r h. moved p r h sound) q there in
        (calls_here q s o (possible_at q s f o n items e) k a b m l).one_name;
  }

  -- the whole operation is asked for by one field, which has no name
  root_call : (set : Set) (w v : Asked) → IsIn w (root_fields set) → IsIn v (root_fields set) → IsOneCall w v
  root_call set w v (inl e) (inl f) = record {
    one_name = ap (λ z. z.name) (e ∙ sym f);
    one_row = record { left = []; right = []; is_left = ap (λ z. z.arguments) e; is_right = ap (λ z. z.arguments) f; same = record { given = λ a c. absurd (contains_none a c); others = λ b c. absurd (contains_none b c) } };
  }
  root_call set w v (inr h) l = absurd h
  root_call set w v (inl e) (inr h) = absurd h

  root_sound : (o : OperationOf) → Contains x.operations o → (t : Text) → root_of x.entries o.kind ≡ Some t → IsSound (root t (set_of o.set))
  root_sound o c t is = record {
    set_for = λ w m. record { set = operation_set x.entries o; stands = of_operation c };
    is_set = λ w m. elim m [
      | inl e ↦ ap (λ z. z.set) e
      | inr h ↦ absurd h
    ];
    are_selected = λ w m. operation_selected x o c;
    meet = λ w v m l d e one. together (of_operation c) one;
    parents = λ b o' e p w m. record { type_name = t; is = is; applies = subst (λ z. g.applies z o' ≡ true) (sym (some_one t b e)) p };
  }

  pub operation_agrees : (o : OperationOf) → Contains x.operations o → (t : Text) → root_of x.entries o.kind ≡ Some t → NamesAgree g ds (root t (set_of o.set))
  operation_agrees o c t is = names_agree (root t (set_of o.set)) (root_sound o c t is)

  pub sound_at : (o : OperationOf) → Contains x.operations o → (t : Text) → root_of x.entries o.kind ≡ Some t → (path : Path) (q : Place) → place_at g ds (Some (root t (set_of o.set))) path ≡ Some q → IsSound q
  sound_at o c t is path q there = along path (Some (root t (set_of o.set))) (λ r h. moved (root t (set_of o.set)) r h (root_sound o c t is)) q there

  pub calls_at : (o : OperationOf) → Contains x.operations o → (t : Text) → root_of x.entries o.kind ≡ Some t → (path : Path) (q : Place) → place_at g ds (Some (root t (set_of o.set))) path ≡ Some q → AreCalls q
  calls_at o c t is path q there =
      calls_along path (Some (root t (set_of o.set))) (λ r h. moved (root t (set_of o.set)) r h (root_sound o c t is)) (λ r h. calls_moved (root t (set_of o.set)) r h (root_call (set_of o.set))) q there
