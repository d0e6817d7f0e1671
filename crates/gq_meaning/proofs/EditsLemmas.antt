-- A rewritten document has the response of the one before.
use Rattle.std.proofs.Common.{◌≡◌, ◌⊎◌, inl, inr, ℕ, zero, suc, Bool, true, false, cond, List, [], ◌∷◌, ◌++◌, length, map, Option, Some, None, refl, sym, ap, ◌∙◌, subst, arith}
use Rattle.std.specs.Prelude.{if◌then◌else◌, not}
use Rattle.std.specs.List.{list_any, AllZip}
use Rattle.std.specs.Str.{bytes_eq}
use Rattle.gq_tree.specs.Plain.{named, list_of, non_null}
use Rattle.gq_meaning.specs.Values.{Text}
use Rattle.gq_meaning.specs.Results as result
use Rattle.gq_meaning.specs.Results.{Result, Answer, Answers, Step, key, index, Path, Call}
use Rattle.gq_meaning.specs.Selected.{Set, none, join}
use Rattle.gq_meaning.specs.Expand.{Asked, Definition, Setting, expand_within, expand, sets_of}
use Rattle.gq_meaning.specs.Thin.{IsIn}
use Rattle.gq_meaning.specs.Acyclic.{IsRanked}
use Rattle.gq_tree.specs.Wrapping.{item_of}
use Rattle.gq_meaning.specs.Response.{FieldType, Given, setting, Place, fits, is_unfit, fails, item_type, item_at, of_key, keys_after, place_of, place_in, below_result, below, child, steps_below, steps_of, steps, leaf_in, AreTold, error_at, call_at, root}
use Rattle.gq_meaning.specs.Rewritten.{Static, Rewritten, same_end, AreKept, base_in, HasSubtypes, place_at, NamesAgree, RewritesKeep}
use Rattle.gq_tree.specs.NamedTypes.{base_name}
use Rattle.gq_meaning.proofs.Low.{AreLow, low_expand, low_of_key, low_sets}
use Rattle.gq_meaning.proofs.Repeats.{expand_join}
use Rattle.gq_meaning.proofs.Rewriting.{IsAlike, expansions_alike}
use Rattle.gq_meaning.proofs.Simulation.{IsSimulation, shows_same, told_same}

expand_none : (s : Setting) (ds : List Definition) (n : ℕ) → expand_within n s ds none ≡ []
expand_none s ds zero = refl
expand_none s ds (suc n) = refl

expand_two : (s : Setting) (ds : List Definition) (n : ℕ) (a b : Set) → expand_within n s ds (join a b) ≡ expand_within n s ds a ++ expand_within n s ds b
expand_two s ds zero a b = expand_join s _ a b
expand_two s ds (suc n) a b = expand_join s _ a b

zip_append : {A : Type 0} (R : A → A → Type 0) (xs ys us vs : List A) → AllZip R xs ys → AllZip R us vs → AllZip R (xs ++ us) (ys ++ vs)
zip_append R [] [] us vs h k = k
zip_append R [] (y ∷ ys) us vs h k = absurd h
zip_append R (x ∷ xs) [] us vs h k = absurd h
zip_append R (x ∷ xs) (y ∷ ys) us vs h k = (h.0, zip_append R xs ys us vs h.1 k)

-- an object that fits a type is possible for the name at its end
object_fits : (g : Given) (t : FieldType) (o : Text) (n : ℕ) → fits g t (result.object o n) ≡ true → g.applies (base_name t) o ≡ true
object_fits g (named name) o n e = by_kind (g.is_composite name.text) e
  where
    by_kind : (b : Bool) → (if b then g.applies name.text o else false) ≡ true → g.applies name.text o ≡ true
    by_kind true e = e
    by_kind false e = cc
object_fits g (list_of item) o n e = cc
object_fits g (non_null inner) o n e = object_fits g inner o n e

object_base : (g : Given) (t : Option FieldType) (o : Text) (n : ℕ) (items : Answers) → is_unfit g t (Some (record { label = result.object o n; below = items })) ≡ false → (b : Text) × (base_in t ≡ Some b) × (g.applies b o ≡ true)
object_base g None o n items e = cc
object_base g (Some t) o n items e = (base_name t, refl, object_fits g t o n (by_not (fits g t (result.object o n)) e))
  where
    by_not : (b : Bool) → not b ≡ false → b ≡ true
    by_not true e = refl
    by_not false e = cc

-- an item's type ends as the list's
item_base : (t : FieldType) (b : Text) → base_in (item_of t) ≡ Some b → base_name t ≡ b
item_base (named name) b e = cc
item_base (list_of item) b e = cc
item_base (non_null inner) b e = item_base inner b e

item_base_in : (t : Option FieldType) (b : Text) → base_in (item_type t) ≡ Some b → base_in t ≡ Some b
item_base_in None b e = cc
item_base_in (Some t) b e = ap Some (item_base t b e)

module _ (static : Static) (g : Given) (ds ds' : List Definition) (always : g.takes [] ≡ true) (kept : AreKept static ds ds') (rank rank' : Text → ℕ) (ranked : IsRanked rank ds) (ranked' : IsRanked rank' ds') (subtypes : HasSubtypes static g) where
  -- The second field's set stands for the first one's, under a static type for which the object's type is possible.
  pub record Stands (o : Text) (x y : Asked) : Type 0 where
    pub type_name : Text
    pub possible : g.applies type_name o ≡ true
    pub rewritten : Rewritten static ds ds' type_name x.set y.set

  pub record Corresponds (p q : Place) : Type 0 where
    pub type_ref : p.type_ref ≡ q.type_ref
    pub result : p.result ≡ q.result
    pub call : p.call ≡ q.call
    pub sets : (b o : Text) → base_in p.type_ref ≡ Some b → g.applies b o ≡ true → AllZip (Stands o) p.fields q.fields
    pub low : AreLow rank (length ds) p.fields
    pub low' : AreLow rank' (length ds') q.fields
    pub agree : NamesAgree g ds p

  abbrev Alike : Text → Asked → Asked → Type 0
  Alike o = IsAlike static ds ds' (λ on. g.applies on o)

  sets_alike : (o : Text) (xs ys : List Asked) → AllZip (Stands o) xs ys → AreLow rank (length ds) xs → AreLow rank' (length ds') ys → AllZip (Alike o) (expand (setting g o) ds (sets_of xs)) (expand (setting g o) ds' (sets_of ys))
  sets_alike o [] [] h l l' =
      subst (λ z. AllZip (Alike o) z (expand (setting g o) ds' none)) (sym (expand_none (setting g o) ds (length ds))) (subst (λ z. AllZip (Alike o) [] z) (sym (expand_none (setting g o) ds' (length ds'))) tt)
  sets_alike o [] (y ∷ ys) h l l' = absurd h
  sets_alike o (x ∷ xs) [] h l l' = absurd h
  sets_alike o (x ∷ xs) (y ∷ ys) h l l' =
      subst (λ z. AllZip (Alike o) z (expand (setting g o) ds' (sets_of (y ∷ ys)))) (sym (expand_two (setting g o) ds (length ds) x.set (sets_of xs)))
      (subst (λ z. AllZip (Alike o) (expand (setting g o) ds x.set ++ expand (setting g o) ds (sets_of xs)) z) (sym (expand_two (setting g o) ds' (length ds') y.set (sets_of ys)))
      (zip_append (Alike o) _ _ _ _ (expansions_alike static ds ds' kept (setting g o) always rank rank' ranked ranked' h.0.rewritten h.0.possible l.0 l'.0) (sets_alike o xs ys h.1 l.1 l'.1)))

  keys_alike : (o : Text) (seen : List Text) (xs ys : List Asked) → AllZip (Alike o) xs ys → keys_after seen xs ≡ keys_after seen ys
  keys_alike o seen [] [] h = refl
  keys_alike o seen [] (y ∷ ys) h = absurd h
  keys_alike o seen (x ∷ xs) [] h = absurd h
  keys_alike o seen (x ∷ xs) (y ∷ ys) h =
      ap (λ z. if list_any (bytes_eq z) seen then keys_after seen xs else z ∷ keys_after (seen ++ z ∷ []) xs) h.0.key
      ∙ ap (λ z. if list_any (bytes_eq y.key) seen then z else y.key ∷ keys_after (seen ++ y.key ∷ []) xs) (keys_alike o seen xs ys h.1)
      ∙ ap (λ z. if list_any (bytes_eq y.key) seen then keys_after seen ys else y.key ∷ z) (keys_alike o (seen ++ y.key ∷ []) xs ys h.1)

  key_alike : (o k : Text) (xs ys : List Asked) → AllZip (Alike o) xs ys → AllZip (Alike o) (of_key k xs) (of_key k ys)
  key_alike o k [] [] h = tt
  key_alike o k [] (y ∷ ys) h = absurd h
  key_alike o k (x ∷ xs) [] h = absurd h
  key_alike o k (x ∷ xs) (y ∷ ys) h =
      subst (λ z. AllZip (Alike o) (cond (bytes_eq k x.key) (x ∷ of_key k xs) (of_key k xs)) (cond (bytes_eq k z) (y ∷ of_key k ys) (of_key k ys))) h.0.key
      (by_test (bytes_eq k x.key) (key_alike o k xs ys h.1))
    where
      by_test : (b : Bool) → AllZip (Alike o) (of_key k xs) (of_key k ys) → AllZip (Alike o) (cond b (x ∷ of_key k xs) (of_key k xs)) (cond b (y ∷ of_key k ys) (of_key k ys))
      by_test true i = (h.0, i)
      by_test false i = i

  -- the sets of a group, where its fields have one name
  group_stands : (o n : Text) (type_ref : FieldType) (o' : Text) (xs ys : List Asked) → g.type_of o n ≡ Some type_ref → g.applies (base_name type_ref) o' ≡ true → ((x : Asked) → IsIn x xs → x.name ≡ n) → AllZip (Alike o) xs ys → AllZip (Stands o') xs ys
  group_stands o n type_ref o' [] [] e p a h = tt
  group_stands o n type_ref o' [] (y ∷ ys) e p a h = absurd h
  group_stands o n type_ref o' (x ∷ xs) [] e p a h = absurd h
  group_stands o n type_ref o' (x ∷ xs) (y ∷ ys) e p a h = (one h.0.sets, group_stands o n type_ref o' xs ys e p (λ z m. a z (inr m)) h.1)
    where
      one : ((x.set ≡ none) × (y.set ≡ none)) ⊎ ((p1 : Text) × (c : Text) × (g.applies p1 o ≡ true) × (static p1 x.name ≡ Some c) × Rewritten static ds ds' c x.set y.set) → Stands o' x y
      one (inl q) = record { type_name = base_name type_ref; possible = p; rewritten = subst (λ z. Rewritten static ds ds' (base_name type_ref) z y.set) (sym q.0) (subst (λ z. Rewritten static ds ds' (base_name type_ref) none z) (sym q.1) same_end) }
      one (inr q) = record { type_name = q.1; possible = subtypes.each q.0 o n q.1 o' type_ref q.2 (subst (λ z. static q.0 z ≡ Some q.1) (a x (inl refl)) q.3) e p; rewritten = q.4 }

  agree_below : (p : Place) (s : Step) (p' : Place) → NamesAgree g ds p → child g ds p s ≡ Some p' → NamesAgree g ds p'
  agree_below p s p' h e = record { each = λ path q r. h.each (s ∷ path) q (ap (λ z. place_at g ds z path) e ∙ r) }

  fails_same : (p q : Place) → Corresponds p q → fails g p ≡ fails g q
  fails_same p q h = ap (λ z. is_unfit g z p.result) h.type_ref ∙ ap (λ z. is_unfit g q.type_ref z) h.result

  abbrev Both : Option Place → Option Place → Type 0
  Both x y = ((p : Place) → x ≡ Some p → (q : Place) × (y ≡ Some q) × Corresponds p q) × ((q : Place) → y ≡ Some q → (p : Place) × (x ≡ Some p) × Corresponds p q)

  both_none : Both None None
  both_none = ((λ p e. cc), (λ q e. cc))

  both_some : (a b : Place) → Corresponds a b → Both (Some a) (Some b)
  both_some a b h = ((λ p e. let s : a ≡ p = cc in (b, refl, subst (λ z. Corresponds z b) s h)), (λ q e. let s : b ≡ q = cc in (a, refl, subst (λ z. Corresponds a z) s h)))

  -- the places of two groups that correspond
  groups_both : (p q : Place) (o : Text) (n : ℕ) (items : Answers) (k : Text) → Corresponds p q → p.result ≡ Some (record { label = result.object o n; below = items }) → fails g p ≡ false → (xs ys : List Asked) →
      xs ≡ of_key k (expand (setting g o) ds (sets_of p.fields)) → ys ≡ of_key k (expand (setting g o) ds' (sets_of q.fields)) → AllZip (Alike o) xs ys → Both (place_of g o n xs) (place_of g o n ys)
  groups_both p q o n items k h e f [] [] ex ey z = both_none
  groups_both p q o n items k h e f [] (y ∷ ys) ex ey z = absurd z
  groups_both p q o n items k h e f (x ∷ xs) [] ex ey z = absurd z
  groups_both p q o n items k h e f (x ∷ xs) (y ∷ ys) ex ey z =
      let a : Place = record { type_ref = g.type_of o x.name; result = g.look o n x.name x.arguments; fields = x ∷ xs; call = g.call o n x.name x.arguments } in
      let is_child : child g ds p (key k) ≡ Some a =
      ap (λ b. if b then None else below g ds p.type_ref p.fields p.result (key k)) f ∙ ap (λ r. below g ds p.type_ref p.fields r (key k)) e ∙ ap (place_of g o n) (sym ex) in
      let name_is : (w : Asked) → IsIn w (x ∷ xs) → w.name ≡ x.name = λ w m. h.agree.each [] p refl f o n items e k w x (subst (IsIn w) ex m) (subst (IsIn x) ex (inl refl)) in
      let l : AreLow rank (length ds) (x ∷ xs) = subst (AreLow rank (length ds)) (sym ex) (low_of_key rank (length ds) k _ (low_expand rank (length ds) (setting g o) ds ranked (omega arith) (sets_of p.fields) (low_sets rank (length ds) p.fields h.low))) in
      let l' : AreLow rank' (length ds') (y ∷ ys) = subst (AreLow rank' (length ds')) (sym ey) (low_of_key rank' (length ds') k _ (low_expand rank' (length ds') (setting g o) ds' ranked' (omega arith) (sets_of q.fields) (low_sets rank' (length ds') q.fields h.low'))) in
      both_some _ _ (record {
        type_ref = ap (g.type_of o) z.0.name;
        result = ap (λ w. g.look o n w x.arguments) z.0.name ∙ ap (λ w. g.look o n y.name w) z.0.arguments;
        call = ap (λ w. g.call o n w x.arguments) z.0.name ∙ ap (λ w. g.call o n y.name w) z.0.arguments;
        sets = λ b o' t w. type_stands (g.type_of o x.name) refl b o' t w name_is;
        low = l;
        low' = l';
        agree = agree_below p (key k) a h.agree is_child;
      })
    where
      type_stands : (t : Option FieldType) → g.type_of o x.name ≡ t → (b o' : Text) → base_in t ≡ Some b → g.applies b o' ≡ true → ((w : Asked) → IsIn w (x ∷ xs) → w.name ≡ x.name) → AllZip (Stands o') (x ∷ xs) (y ∷ ys)
      type_stands None e b o' t w a = cc
      type_stands (Some type_ref) e b o' t w a = let same : base_name type_ref ≡ b = cc in group_stands o x.name type_ref o' (x ∷ xs) (y ∷ ys) e (subst (λ v. g.applies v o' ≡ true) (sym same) w) a z

  items_both : (p q : Place) (i : ℕ) (items : Answers) → Corresponds p q → p.result ≡ Some (record { label = result.list; below = items }) → fails g p ≡ false → (r : Option Answer) → item_at items i ≡ r → Both (place_in p.type_ref p.fields r) (place_in p.type_ref q.fields r)
  items_both p q i items h e f None u = both_none
  items_both p q i items h e f (Some r) u =
      let a : Place = record { type_ref = item_type p.type_ref; result = Some r; fields = p.fields; call = None } in
      let is_child : child g ds p (index i) ≡ Some a =
      ap (λ b. if b then None else below g ds p.type_ref p.fields p.result (index i)) f ∙ ap (λ r. below g ds p.type_ref p.fields r (index i)) e ∙ ap (place_in p.type_ref p.fields) u in
      both_some _ _ (record {
        type_ref = refl;
        result = refl;
        call = refl;
        sets = λ b o t w. h.sets b o (item_base_in p.type_ref b t) w;
        low = h.low;
        low' = h.low';
        agree = agree_below p (index i) a h.agree is_child;
      })

  here : (p q : Place) (o : Text) (n : ℕ) (items : Answers) → Corresponds p q → p.result ≡ Some (record { label = result.object o n; below = items }) → fails g p ≡ false → AllZip (Alike o) (expand (setting g o) ds (sets_of p.fields)) (expand (setting g o) ds' (sets_of q.fields))
  here p q o n items h e f =
      let b = object_base g p.type_ref o n items (ap (λ r. is_unfit g p.type_ref r) (sym e) ∙ f) in
      sets_alike o p.fields q.fields (h.sets b.0 o b.1 b.2) h.low h.low'

  below_both : (p q : Place) → Corresponds p q → fails g p ≡ false → (r : Result) (items : Answers) → p.result ≡ Some (record { label = r; below = items }) → (s : Step) → Both (below_result g ds p.type_ref p.fields r items s) (below_result g ds' p.type_ref q.fields r items s)
  below_both p q h f result.nothing items e s = both_none
  below_both p q h f result.failed items e s = both_none
  below_both p q h f (result.leaf v) items e s = both_none
  below_both p q h f (result.object o n) items e (key k) = groups_both p q o n items k h e f _ _ refl refl (key_alike o k _ _ (here p q o n items h e f))
  below_both p q h f (result.object o n) items e (index i) = both_none
  below_both p q h f result.list items e (key k) = both_none
  below_both p q h f result.list items e (index i) = items_both p q i items h e f (item_at items i) refl

  some_both : (p q : Place) → Corresponds p q → fails g p ≡ false → (r : Option Answer) → p.result ≡ r → (s : Step) → Both (below g ds p.type_ref p.fields r s) (below g ds' p.type_ref q.fields r s)
  some_both p q h f None e s = both_none
  some_both p q h f (Some r) e s = below_both p q h f r.label r.below e s

  child_both : (p q : Place) → Corresponds p q → (s : Step) → Both (child g ds p s) (child g ds' q s)
  child_both p q h s =
      subst (λ b. Both (child g ds p s) (if b then None else below g ds' q.type_ref q.fields q.result s)) (fails_same p q h)
      (subst (λ t. Both (child g ds p s) (if fails g p then None else below g ds' t q.fields q.result s)) h.type_ref
      (subst (λ r. Both (child g ds p s) (if fails g p then None else below g ds' p.type_ref q.fields r s)) h.result (by_test (fails g p) refl)))
    where
      by_test : (b : Bool) → fails g p ≡ b → Both (if b then None else below g ds p.type_ref p.fields p.result s) (if b then None else below g ds' p.type_ref q.fields p.result s)
      by_test true f = both_none
      by_test false f = some_both p q h f p.result refl s

  steps_same : (p q : Place) → Corresponds p q → steps g ds p ≡ steps g ds' q
  steps_same p q h =
      by_test (fails g p) refl ∙ ap (λ b. if b then [] else steps_of g ds' q.fields p.result) (fails_same p q h) ∙ ap (λ r. if fails g q then [] else steps_of g ds' q.fields r) h.result
    where
      by_result : fails g p ≡ false → (r : Result) (items : Answers) → p.result ≡ Some (record { label = r; below = items }) → steps_below g ds p.fields r items ≡ steps_below g ds' q.fields r items
      by_result f result.nothing items e = refl
      by_result f result.failed items e = refl
      by_result f (result.leaf v) items e = refl
      by_result f (result.object o n) items e = ap (map key) (keys_alike o [] _ _ (here p q o n items h e f))
      by_result f result.list items e = refl

      by_some : fails g p ≡ false → (r : Option Answer) → p.result ≡ r → steps_of g ds p.fields r ≡ steps_of g ds' q.fields r
      by_some f None e = refl
      by_some f (Some r) e = by_result f r.label r.below e

      by_test : (b : Bool) → fails g p ≡ b → (if b then [] else steps_of g ds p.fields p.result) ≡ (if b then [] else steps_of g ds' q.fields p.result)
      by_test true f = refl
      by_test false f = by_some f p.result refl

  pub edits_sim : IsSimulation g ds g ds' Corresponds
  edits_sim = record {
    same_type = λ p q h. h.type_ref;
    same_result = λ p q h. h.result;
    same_call = λ p q h. h.call;
    same_leaf = λ p q h. ap (λ z. leaf_in g z p.result) h.type_ref ∙ ap (λ z. leaf_in g q.type_ref z) h.result;
    same_fails = fails_same;
    same_steps = steps_same;
    follows = λ p q h s p' e. (child_both p q h s).0 p' e;
    leads = λ p q h s q' e. (child_both p q h s).1 q' e;
  }

pub rewrites_keep : RewritesKeep
rewrites_keep static g ds ds' always kept rank rank' ranked ranked' subtypes t set set' rewritten b b' agree =
    let c : Corresponds static g ds ds' always kept rank rank' ranked ranked' subtypes (root t set) (root t set') = record {
      type_ref = refl;
      result = refl;
      call = refl;
      sets = λ base o e f. let same : t ≡ base = cc in (record { type_name = t; possible = subst (λ z. g.applies z o ≡ true) (sym same) f; rewritten = rewritten }, tt);
      low = (b, tt);
      low' = (b', tt);
      agree = agree;
    } in
    let sim = edits_sim static g ds ds' always kept rank rank' ranked ranked' subtypes in (
      (λ d es h. record {
        shows = shows_same g ds g ds' _ sim d (root t set) (root t set') c h.shows;
        errors_are = subst (λ z. AreTold g ds' (error_at g) [] (root t set') z es) (sim.same_steps (root t set) (root t set') c)
            (told_same g ds g ds' _ sim (error_at g) (error_at g) (λ path x y k. ap (λ b. if b then path ∷ [] else []) (sim.same_fails x y k)) h.errors_are (root t set') c);
      }),
      (λ cs h. subst (λ z. AreTold g ds' call_at [] (root t set') z cs) (sim.same_steps (root t set) (root t set') c)
          (told_same g ds g ds' _ sim call_at call_at (λ path x y k. ap (λ z. call_at path (record { type_ref = None; result = None; fields = []; call = z })) (sim.same_call x y k)) h (root t set') c)),
    )
