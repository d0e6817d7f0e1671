-- Documents that are alike have one response.
use Rattle.std.proofs.Common.{◌≡◌, ℕ, zero, suc, Bool, true, false, cond, List, [], ◌∷◌, ◌++◌, length, map, Option, Some, None, refl, ap, ◌∙◌, subst}
use Rattle.std.specs.Prelude.{if◌then◌else◌, is_some, not, ◌&&◌, ◌||◌}
use Rattle.std.specs.List.{list_any, AllZip}
use Rattle.std.specs.Str.{bytes_eq}
use Rattle.gq_tree.specs.Plain.{named, list_of, non_null}
use Rattle.gq_meaning.specs.Values.{Text}
use Rattle.gq_meaning.specs.Results as result
use Rattle.gq_meaning.specs.Results.{Result, Answer, Answers, Step, key, index, Path, Call}
use Rattle.gq_meaning.specs.Shown.{Data}
use Rattle.gq_meaning.specs.Selected.{Directives, Arguments, Set, join}
use Rattle.gq_meaning.specs.Expand.{Asked, Definition, fits_condition, expand_with, entered, expand_within, expand, sets_of}
use Rattle.gq_meaning.specs.Response.{FieldType, Given, setting, Place, fits, fits_composite, fits_leaf, is_nothing, is_unfit, fails, item_at, of_key, keys_after, place_of, place_in, below_result, below, child, steps_below, steps_of, written, leaf_in, AreTold, error_at, call_at, root, Responds, Calls}
use Rattle.gq_meaning.specs.Helping.Alike as alike
use Rattle.gq_meaning.specs.Helping.Alike.{ends, fields, spreads, inlines, neither, both}
use Rattle.gq_meaning.proofs.Simulation.{IsSimulation, shows_same, told_same}

zip_append : {A : Type 0} (R : A → A → Type 0) (xs ys us vs : List A) → AllZip R xs ys → AllZip R us vs → AllZip R (xs ++ us) (ys ++ vs)
zip_append R [] [] us vs h k = k
zip_append R [] (y ∷ ys) us vs h k = absurd h
zip_append R (x ∷ xs) [] us vs h k = absurd h
zip_append R (x ∷ xs) (y ∷ ys) us vs h k = (h.0, zip_append R xs ys us vs h.1 k)

module _ (F : Text → Text → Type 0) (W : Directives → Directives → Type 0) (A : Arguments → Arguments → Type 0) where
  abbrev SetsAlike : Set → Set → Type 0
  SetsAlike = alike.SetsAlike F W A

  abbrev FoundAlike : Option Definition → Option Definition → Type 0
  FoundAlike = alike.FoundAlike F W A

  pub record FieldsAlike (x y : Asked) : Type 0 where
    pub key : x.key ≡ y.key
    pub name : x.name ≡ y.name
    pub arguments : A x.arguments y.arguments
    pub set : SetsAlike x.set y.set

  abbrev Zipped : List Asked → List Asked → Type 0
  Zipped = AllZip FieldsAlike

  join_alike : {s s' t t' : Set} → SetsAlike s s' → SetsAlike t t' → SetsAlike (join s t) (join s' t')
  join_alike ends h = h
  join_alike (fields w a s r) h = fields w a s (join_alike r h)
  join_alike (spreads w f r) h = spreads w f (join_alike r h)
  join_alike (inlines w s r) h = inlines w s (join_alike r h)

  sets_alike : (xs ys : List Asked) → Zipped xs ys → SetsAlike (sets_of xs) (sets_of ys)
  sets_alike [] [] h = ends
  sets_alike [] (y ∷ ys) h = absurd h
  sets_alike (x ∷ xs) [] h = absurd h
  sets_alike (x ∷ xs) (y ∷ ys) h = join_alike h.0.set (sets_alike xs ys h.1)

  if_both : (b b' : Bool) (xs ys : List Asked) → b ≡ b' → Zipped xs ys → Zipped (if b then xs else []) (if b' then ys else [])
  if_both true true xs ys e h = h
  if_both true false xs ys e h = cc
  if_both false true xs ys e h = cc
  if_both false false xs ys e h = tt

  module _ (g : Given) (ds : List Definition) (g' : Given) (ds' : List Definition) (are : alike.AreAlike F W A g ds g' ds') where
    fits_alike : (o : Text) (on : Option Text) → fits_condition (setting g o) on ≡ fits_condition (setting g' o) on
    fits_alike o None = refl
    fits_alike o (Some on) = are.applies on o

    with_alike : (o : Text) (e e' : Text → List Asked) → ((f f' : Text) → F f f' → Zipped (e f) (e' f')) → {set set' : Set} → SetsAlike set set' → Zipped (expand_with (setting g o) e set) (expand_with (setting g' o) e' set')
    with_alike o e e' h ends = tt
    with_alike o e e' h (fields {w} {w'} p a s r) =
        zip_append FieldsAlike _ _ _ _ (if_both (g.takes w) (g'.takes w') _ _ (are.takes w w' p) (record { key = refl; name = refl; arguments = a; set = s }, tt)) (with_alike o e e' h r)
    with_alike o e e' h (spreads {w} {w'} {f} {f'} p q r) = zip_append FieldsAlike _ _ _ _ (if_both (g.takes w) (g'.takes w') _ _ (are.takes w w' p) (h f f' q)) (with_alike o e e' h r)
    with_alike o e e' h (inlines {w} {w'} {on} p s r) =
        zip_append FieldsAlike _ _ _ _ (if_both (g.takes w) (g'.takes w') _ _ (are.takes w w' p) (if_both (fits_condition (setting g o) on) (fits_condition (setting g' o) on) _ _ (fits_alike o on) (with_alike o e e' h s))) (with_alike o e e' h r)

    entered_alike : (o : Text) (x x' : Set → List Asked) → ((s s' : Set) → SetsAlike s s' → Zipped (x s) (x' s')) → {d d' : Option Definition} → FoundAlike d d' → Zipped (entered (setting g o) x d) (entered (setting g' o) x' d')
    entered_alike o x x' h neither = tt
    entered_alike o x x' h (both {d} {d'} e s) = if_both (g.applies d.on o) (g'.applies d'.on o) _ _ (are.applies d.on o ∙ ap (λ z. g'.applies z o) e) (h d.set d'.set s)

    within_alike : (n : ℕ) (o : Text) {set set' : Set} → SetsAlike set set' → Zipped (expand_within n (setting g o) ds set) (expand_within n (setting g' o) ds' set')
    within_alike zero o s = with_alike o _ _ (λ f f' q. tt) s
    within_alike (suc n) o s = with_alike o _ _ (λ f f' q. entered_alike o _ _ (λ u u' r. within_alike n o r) (are.fragments f f' q)) s

    expand_alike : (o : Text) (set set' : Set) → SetsAlike set set' → Zipped (expand (setting g o) ds set) (expand (setting g' o) ds' set')
    expand_alike o set set' s = subst (λ n. Zipped (expand (setting g o) ds set) (expand_within n (setting g' o) ds' set')) are.count (within_alike (length ds) o s)

    keys_alike : (seen : List Text) (xs ys : List Asked) → Zipped xs ys → keys_after seen xs ≡ keys_after seen ys
    keys_alike seen [] [] h = refl
    keys_alike seen [] (y ∷ ys) h = absurd h
    keys_alike seen (x ∷ xs) [] h = absurd h
    keys_alike seen (x ∷ xs) (y ∷ ys) h =
        ap (λ z. if list_any (bytes_eq z) seen then keys_after seen xs else z ∷ keys_after (seen ++ z ∷ []) xs) h.0.key
        ∙ ap (λ z. if list_any (bytes_eq y.key) seen then z else y.key ∷ keys_after (seen ++ y.key ∷ []) xs) (keys_alike seen xs ys h.1)
        ∙ ap (λ z. if list_any (bytes_eq y.key) seen then keys_after seen ys else y.key ∷ z) (keys_alike (seen ++ y.key ∷ []) xs ys h.1)

    key_alike : (k : Text) (xs ys : List Asked) → Zipped xs ys → Zipped (of_key k xs) (of_key k ys)
    key_alike k [] [] h = tt
    key_alike k [] (y ∷ ys) h = absurd h
    key_alike k (x ∷ xs) [] h = absurd h
    key_alike k (x ∷ xs) (y ∷ ys) h =
        subst (λ z. Zipped (cond (bytes_eq k x.key) (x ∷ of_key k xs) (of_key k xs)) (cond (bytes_eq k z) (y ∷ of_key k ys) (of_key k ys))) h.0.key (by_test (bytes_eq k x.key) (key_alike k xs ys h.1))
      where
        by_test : (b : Bool) → Zipped (of_key k xs) (of_key k ys) → Zipped (cond b (x ∷ of_key k xs) (of_key k xs)) (cond b (y ∷ of_key k ys) (of_key k ys))
        by_test true i = (h.0, i)
        by_test false i = i

    -- results fit alike
    composite_alike : (t : Text) (r : Result) → fits_composite g t r ≡ fits_composite g' t r
    composite_alike t result.nothing = refl
    composite_alike t result.failed = refl
    composite_alike t (result.leaf v) = refl
    composite_alike t (result.object o n) = are.applies t o
    composite_alike t result.list = refl

    leaf_alike : (t : Text) (r : Result) → fits_leaf g t r ≡ fits_leaf g' t r
    leaf_alike t result.nothing = refl
    leaf_alike t result.failed = refl
    leaf_alike t (result.leaf v) = ap is_some (are.leaf_at t v)
    leaf_alike t (result.object o n) = refl
    leaf_alike t result.list = refl

    type_alike : (t : FieldType) (r : Result) → fits g t r ≡ fits g' t r
    type_alike (named name) r =
        ap (λ b. is_nothing r || (if b then fits_composite g name.text r else fits_leaf g name.text r)) (are.is_composite name.text)
        ∙ ap (λ z. is_nothing r || (if g'.is_composite name.text then z else fits_leaf g name.text r)) (composite_alike name.text r)
        ∙ ap (λ z. is_nothing r || (if g'.is_composite name.text then fits_composite g' name.text r else z)) (leaf_alike name.text r)
    type_alike (list_of item) r = refl
    type_alike (non_null inner) r = ap (λ z. not (is_nothing r) && z) (type_alike inner r)

    unfit_alike : (t : Option FieldType) (r : Option Answer) → is_unfit g t r ≡ is_unfit g' t r
    unfit_alike None r = refl
    unfit_alike (Some t) None = refl
    unfit_alike (Some t) (Some r) = ap not (type_alike t r.label)

    written_alike : (t : FieldType) (r : Result) → written g t r ≡ written g' t r
    written_alike (named name) result.nothing = refl
    written_alike (named name) result.failed = refl
    written_alike (named name) (result.leaf v) = are.leaf_at name.text v
    written_alike (named name) (result.object o n) = refl
    written_alike (named name) result.list = refl
    written_alike (list_of item) r = refl
    written_alike (non_null inner) r = written_alike inner r

    leaf_in_alike : (t : Option FieldType) (r : Option Answer) → leaf_in g t r ≡ leaf_in g' t r
    leaf_in_alike None r = refl
    leaf_in_alike (Some t) None = refl
    leaf_in_alike (Some t) (Some r) = written_alike t r.label

    -- places that are asked alike
    pub record PlacesAlike (p q : Place) : Type 0 where
      pub type_ref : p.type_ref ≡ q.type_ref
      pub result : p.result ≡ q.result
      pub call : p.call ≡ q.call
      pub fields : Zipped p.fields q.fields

    abbrev Both : Option Place → Option Place → Type 0
    Both x y = ((p : Place) → x ≡ Some p → (q : Place) × (y ≡ Some q) × PlacesAlike p q) × ((q : Place) → y ≡ Some q → (p : Place) × (x ≡ Some p) × PlacesAlike p q)

    both_none : Both None None
    both_none = ((λ p e. cc), (λ q e. cc))

    both_some : (a b : Place) → PlacesAlike a b → Both (Some a) (Some b)
    both_some a b h = ((λ p e. let s : a ≡ p = cc in (b, refl, subst (λ z. PlacesAlike z b) s h)), (λ q e. let s : b ≡ q = cc in (a, refl, subst (λ z. PlacesAlike a z) s h)))

    both_if : (b b' : Bool) (x y : Option Place) → b ≡ b' → Both x y → Both (if b then None else x) (if b' then None else y)
    both_if true true x y e h = both_none
    both_if true false x y e h = cc
    both_if false true x y e h = cc
    both_if false false x y e h = h

    group_both : (o : Text) (n : ℕ) (xs ys : List Asked) → Zipped xs ys → Both (place_of g o n xs) (place_of g' o n ys)
    group_both o n [] [] h = both_none
    group_both o n [] (y ∷ ys) h = absurd h
    group_both o n (x ∷ xs) [] h = absurd h
    group_both o n (x ∷ xs) (y ∷ ys) h = both_some _ _ (record {
      type_ref = are.type_of o x.name ∙ ap (g'.type_of o) h.0.name;
      result = are.look o n x.name x.arguments y.arguments h.0.arguments ∙ ap (λ z. g'.look o n z y.arguments) h.0.name;
      call = are.call o n x.name x.arguments y.arguments h.0.arguments ∙ ap (λ z. g'.call o n z y.arguments) h.0.name;
      fields = h;
    })

    items_both : (t : Option FieldType) (xs ys : List Asked) → Zipped xs ys → (r : Option Answer) → Both (place_in t xs r) (place_in t ys r)
    items_both t xs ys h None = both_none
    items_both t xs ys h (Some r) = both_some _ _ (record { type_ref = refl; result = refl; call = refl; fields = h })

    result_both : (t : Option FieldType) (xs ys : List Asked) → Zipped xs ys → (r : Result) (items : Answers) (s : Step) → Both (below_result g ds t xs r items s) (below_result g' ds' t ys r items s)
    result_both t xs ys h result.nothing items s = both_none
    result_both t xs ys h result.failed items s = both_none
    result_both t xs ys h (result.leaf v) items s = both_none
    result_both t xs ys h (result.object o n) items (key k) = group_both o n _ _ (key_alike k _ _ (expand_alike o (sets_of xs) (sets_of ys) (sets_alike xs ys h)))
    result_both t xs ys h (result.object o n) items (index i) = both_none
    result_both t xs ys h result.list items (key k) = both_none
    result_both t xs ys h result.list items (index i) = items_both t xs ys h (item_at items i)

    below_both : (t : Option FieldType) (xs ys : List Asked) → Zipped xs ys → (r : Option Answer) (s : Step) → Both (below g ds t xs r s) (below g' ds' t ys r s)
    below_both t xs ys h None s = both_none
    below_both t xs ys h (Some r) s = result_both t xs ys h r.label r.below s

    result_steps : (xs ys : List Asked) → Zipped xs ys → (r : Result) (items : Answers) → steps_below g ds xs r items ≡ steps_below g' ds' ys r items
    result_steps xs ys h result.nothing items = refl
    result_steps xs ys h result.failed items = refl
    result_steps xs ys h (result.leaf v) items = refl
    result_steps xs ys h (result.object o n) items = ap (map key) (keys_alike [] _ _ (expand_alike o (sets_of xs) (sets_of ys) (sets_alike xs ys h)))
    result_steps xs ys h result.list items = refl

    some_steps : (xs ys : List Asked) → Zipped xs ys → (r : Option Answer) → steps_of g ds xs r ≡ steps_of g' ds' ys r
    some_steps xs ys h None = refl
    some_steps xs ys h (Some r) = result_steps xs ys h r.label r.below

    fails_alike : (p q : Place) → PlacesAlike p q → fails g p ≡ fails g' q
    fails_alike p q h = unfit_alike p.type_ref p.result ∙ ap (λ z. is_unfit g' z p.result) h.type_ref ∙ ap (λ z. is_unfit g' q.type_ref z) h.result

    child_both : (p q : Place) → PlacesAlike p q → (s : Step) → Both (child g ds p s) (child g' ds' q s)
    child_both p q h s =
        both_if (fails g p) (fails g' q) _ _ (fails_alike p q h)
        (subst (λ z. Both (below g ds p.type_ref p.fields p.result s) (below g' ds' z q.fields q.result s)) h.type_ref (subst (λ z. Both (below g ds p.type_ref p.fields p.result s) (below g' ds' p.type_ref q.fields z s)) h.result (below_both p.type_ref p.fields q.fields h.fields p.result s)))

    pub alike_sim : IsSimulation g ds g' ds' PlacesAlike
    alike_sim = record {
      same_type = λ p q h. h.type_ref;
      same_result = λ p q h. h.result;
      same_call = λ p q h. h.call;
      same_leaf = λ p q h. leaf_in_alike p.type_ref p.result ∙ ap (λ z. leaf_in g' z p.result) h.type_ref ∙ ap (λ z. leaf_in g' q.type_ref z) h.result;
      same_fails = fails_alike;
      same_steps = λ p q h. ap (λ b. if b then [] else steps_of g ds p.fields p.result) (fails_alike p q h) ∙ ap (λ z. if fails g' q then [] else z) (some_steps p.fields q.fields h.fields p.result ∙ ap (steps_of g' ds' q.fields) h.result);
      follows = λ p q h s p' e. (child_both p q h s).0 p' e;
      leads = λ p q h s q' e. (child_both p q h s).1 q' e;
    }

    -- Documents that are alike are answered alike: the same data, the same errors, the same calls.
    pub alike_responses : (none_alike : A [] []) (type_name : Text) (set set' : Set) → SetsAlike set set' →
        ((d : Data) (es : List Path) → Responds g ds type_name set d es → Responds g' ds' type_name set' d es) × ((cs : List Call) → Calls g ds type_name set cs → Calls g' ds' type_name set' cs)
    alike_responses none_alike type_name set set' s =
        let p = root type_name set in
        let q = root type_name set' in
        let r : PlacesAlike p q = record { type_ref = refl; result = refl; call = refl; fields = (record { key = refl; name = refl; arguments = none_alike; set = s }, tt) } in (
          (λ d es h. record {
            shows = shows_same g ds g' ds' PlacesAlike alike_sim d p q r h.shows;
            errors_are = subst (λ z. AreTold g' ds' (error_at g') [] q z es) (alike_sim.same_steps p q r)
                (told_same g ds g' ds' PlacesAlike alike_sim (error_at g) (error_at g') (λ path x y k. ap (λ b. if b then path ∷ [] else []) (fails_alike x y k)) h.errors_are q r);
          }),
          (λ cs h. subst (λ z. AreTold g' ds' call_at [] q z cs) (alike_sim.same_steps p q r)
              (told_same g ds g' ds' PlacesAlike alike_sim call_at call_at (λ path x y k. ap (λ c. call_at path (record { type_ref = None; result = None; fields = []; call = c })) k.call) h q r)),
        )
