-- Each operation whose fragments can be ranked has a response: it is built place by place, the fields of an object by the height of their
-- sets, and the items of a list by how deep they nest.
use Rattle.std.proofs.Common.{◌≡◌, ◌⊎◌, inl, inr, ℕ, zero, suc, ◌+◌, ◌<◌, Bool, true, false, List, [], ◌∷◌, ◌++◌, length, map, Option, Some, None, refl, sym, ap, ◌∙◌, subst, arith, append_assoc, append-nil, add-zero, zero-add}
use Rattle.std.specs.Prelude.{if◌then◌else◌, is_some, ◌&&◌, ◌||◌}
use Rattle.std.specs.Option.{option_map_or}
use Rattle.gq_tree.specs.Forest.{none, more}
use Rattle.gq_meaning.specs.Values.{Text, Leaf}
use Rattle.gq_meaning.specs.Results as result
use Rattle.gq_meaning.specs.Results.{Result, Answer, Answers, Step, key, index, Path, Call}
use Rattle.gq_meaning.specs.Shown as shown
use Rattle.gq_meaning.specs.Shown.{Data}
use Rattle.gq_meaning.specs.Selected.{Set}
use Rattle.gq_meaning.specs.Expand.{Asked, Definition, expand, sets_of}
use Rattle.gq_meaning.specs.Thin.{IsIn, Thin, ended, kept}
use Rattle.gq_meaning.specs.Acyclic.{Rankable}
use Rattle.gq_meaning.specs.Response.{FieldType, Given, setting, Place, fails, is_unfit, is_non_null, item_type, item_at, of_key, keys_after, place_of, place_in, child, indexes, steps, has_nothing, has_list, has_object, leaf_in, root, root_fields, Responds}
use Rattle.gq_meaning.specs.Answered.{is_null, Answered, ChildAnswered}
use Rattle.gq_meaning.specs.Depth.{depth}
use Rattle.gq_meaning.proofs.Building.{Made, made_none, made_more, entries_with, answered_null, answered_object, answered_list}
use Rattle.gq_meaning.proofs.Children.{step_in}
use Rattle.gq_meaning.proofs.Ends.{none_below_nothing, none_below_leaf, failed_answered, nothing_answered, leaf_answered, error_is_unfit, leaf_is_written}
use Rattle.gq_meaning.proofs.Height.{height}
use Rattle.gq_meaning.proofs.Low.{low_sets}
use Rattle.gq_meaning.proofs.Ranks.{key_there, key_less, key_rank, fields_rank, fields_less}

-- nothing need be left out
thin_all : {A : Type 0} (seen xs : List A) → Thin seen xs xs
thin_all seen [] = ended
thin_all seen (x ∷ xs) = kept (thin_all (x ∷ seen) xs)

-- a step of an object is one of its keys
key_among : (ks : List Text) (s : Step) → IsIn s (map key ks) → (k : Text) × (s ≡ key k) × IsIn k ks
key_among [] s m = absurd m
key_among (k ∷ ks) s (inl e) = (k, e, inl refl)
key_among (k ∷ ks) s (inr m) = let r = key_among ks s m in (r.0, r.1, inr r.2)

-- a step of a list leads to an item, which nests less deep
index_among : (items : Answers) (j : ℕ) (s : Step) → IsIn s (indexes j items) → (i : ℕ) × (a : Answer) × (s ≡ index (j + i)) × (item_at items i ≡ Some a) × (depth a.below < depth items)
index_among none j s m = absurd m
index_among (more r inner rest) j s (inl e) = (0, record { label = r; below = inner }, e ∙ ap index (sym (add-zero j)), refl, omega arith)
index_among (more r inner rest) j s (inr m) =
    let h = index_among rest (suc j) s m in
    let n : suc j + h.0 ≡ j + suc h.0 = omega arith in
    (suc h.0, h.1, h.2 ∙ ap index n, h.3, let l = h.4 in omega arith)

-- how deep the results in it nest
abbrev depth_in : Option Answer → ℕ
depth_in r = option_map_or (λ a. depth a.below) r 0

module _ (g : Given) (ds : List Definition) where
  -- some data shows the place
  record Has (path : Path) (p : Place) : Type 0 where
    answer : Data
    errors : List Path
    answered : Answered g ds path p answer errors

  -- and so at each of these steps
  record HasChild (path : Path) (p : Place) (s : Step) : Type 0 where
    place : Place
    there : child g ds p s ≡ Some place
    has : Has (path ++ s ∷ []) place

  record HasMade (path : Path) (p : Place) (ss : List Step) : Type 0 where
    blocked : Bool
    answers : List Data
    errors : List Path
    made : Made g ds p path blocked ss answers errors

  made_on : (path : Path) (p : Place) (first ss : List Step) → HasMade path p first → ((s : Step) → IsIn s ss → HasChild path p s) → HasMade path p (first ++ ss)
  made_on path p first [] h each = subst (HasMade path p) (sym (append-nil first)) h
  made_on path p first (s ∷ ss) h each =
      let c = each s (inl refl) in
      let a : ChildAnswered g ds path p s (is_non_null c.place.type_ref && is_null c.has.answer) c.has.answer c.has.errors = record { place = c.place; there = c.there; answered = c.has.answered; flag = refl } in
      let m : HasMade path p (first ++ s ∷ []) = record {
        blocked = h.blocked || (is_non_null c.place.type_ref && is_null c.has.answer);
        answers = h.answers ++ c.has.answer ∷ [];
        errors = h.errors ++ c.has.errors;
        made = made_more g ds p path h.blocked (is_non_null c.place.type_ref && is_null c.has.answer) first h.answers h.errors s c.has.answer c.has.errors h.made a;
      } in
      subst (HasMade path p) (append_assoc first (s ∷ []) ss) (made_on path p (first ++ s ∷ []) ss m (λ t i. each t (inr i)))

  -- what has places below it is shown by what shows these
  from_children : (path : Path) (p : Place) → fails g p ≡ false → has_nothing p.result ≡ false → (has_object p.result ≡ true) ⊎ (has_list p.result ≡ true) → ((s : Step) → IsIn s (steps g ds p) → HasChild path p s) → Has path p
  from_children path p fine some kind each = by_blocked (made_on path p [] (steps g ds p) (record { blocked = false; answers = []; errors = []; made = made_none g ds p path }) each)
    where
      by_kind : (xs : List Data) (es : List Path) → Made g ds p path false (steps g ds p) xs es → (has_object p.result ≡ true) ⊎ (has_list p.result ≡ true) → Has path p
      by_kind xs es m (inl o) = record { answer = record { shown = shown.object; below = entries_with (steps g ds p) xs }; errors = es; answered = answered_object g ds p fine some path xs es (step_in g ds p) o m }
      by_kind xs es m (inr l) = record { answer = record { shown = shown.list; below = entries_with (steps g ds p) xs }; errors = es; answered = answered_list g ds p fine some path xs es (step_in g ds p) l m }

      by_made : (b : Bool) (xs : List Data) (es : List Path) → Made g ds p path b (steps g ds p) xs es → Has path p
      by_made true xs es m = record { answer = record { shown = shown.null; below = none }; errors = es; answered = answered_null g ds p fine some path xs es m }
      by_made false xs es m = by_kind xs es m kind

      by_blocked : HasMade path p (steps g ds p) → Has path p
      by_blocked h = by_made h.blocked h.answers h.errors h.made

  abbrev place_with : Option FieldType → Option Answer → List Asked → Option Call → Place
  place_with t r fields call = record { type_ref = t; result = r; fields = fields; call = call }

  abbrev HasAny : Option FieldType → Option Answer → List Asked → Type 0
  HasAny t r fields = (path : Path) (call : Option Call) → Has path (place_with t r fields call)

  -- a list, by its items
  list_has : (t : Option FieldType) (items : Answers) (fields : List Asked) → is_unfit g t (Some (record { label = result.list; below = items })) ≡ false →
      ((a : Answer) → depth a.below < depth items → HasAny (item_type t) (Some a) fields) → HasAny t (Some (record { label = result.list; below = items })) fields
  list_has t items fields fine each path call = from_children path here fine refl (inr refl) by_step
    where
      here : Place
      here = place_with t (Some (record { label = result.list; below = items })) fields call

      by_step : (s : Step) → IsIn s (steps g ds here) → HasChild path here s
      by_step s m =
          let i = index_among items 0 s (subst (λ b. IsIn s (if b then [] else indexes 0 items)) fine m) in
          let at : s ≡ index i.0 = i.2 ∙ ap index (zero-add i.0) in record {
            place = place_with (item_type t) (Some i.1) fields None;
            there = ap (child g ds here) at ∙ ap (λ b. if b then None else place_in t fields (item_at items i.0)) fine ∙ ap (place_in t fields) i.3;
            has = each i.1 i.4 (path ++ s ∷ []) None;
          }

  -- the place of fields, of which there are some
  place_there : (o : Text) (n : ℕ) (xs : List Asked) → 0 < length xs → (q : Place) × (place_of g o n xs ≡ Some q) × (q.fields ≡ xs)
  place_there o n [] l = absurd (omega arith)
  place_there o n (x ∷ xs) l = (place_with (g.type_of o x.name) (g.look o n x.name x.arguments) (x ∷ xs) (g.call o n x.name x.arguments), refl, refl)

  -- an object, by its keys
  object_has : (h : ℕ) → ((path : Path) (p : Place) → Rankable ds (sets_of p.fields) → height ds (sets_of p.fields) < h → Has path p) →
      (t : Option FieldType) (o : Text) (n : ℕ) (items : Answers) (fields : List Asked) → Rankable ds (sets_of fields) → height ds (sets_of fields) < suc h →
      is_unfit g t (Some (record { label = result.object o n; below = items })) ≡ false → HasAny t (Some (record { label = result.object o n; below = items })) fields
  object_has h lower t o n items fields ranked low fine path call = from_children path here fine refl (inl refl) by_step
    where
      here : Place
      here = place_with t (Some (record { label = result.object o n; below = items })) fields call

      asked : List Asked
      asked = expand (setting g o) ds (sets_of fields)

      by_key : (s : Step) (k : Text) → s ≡ key k → IsIn k (keys_after [] asked) → HasChild path here s
      by_key s k at m =
          let some = key_there k [] asked m in
          let q = place_there o n (of_key k asked) some in
          let all = thin_all [] asked in
          let rank : Rankable ds (sets_of q.0.fields) = subst (λ xs. Rankable ds (sets_of xs)) (sym q.2) (key_rank ds k asked (fields_rank (setting g o) ds fields asked ranked all)) in
          let a = fields_less (setting g o) ds fields asked ranked all in
          let b = key_less ds k asked some in
          let less : height ds (sets_of (of_key k asked)) < h = omega arith in record {
            place = q.0;
            there = ap (child g ds here) at ∙ ap (λ b. if b then None else place_of g o n (of_key k asked)) fine ∙ q.1;
            has = lower (path ++ s ∷ []) q.0 rank (subst (λ xs. height ds (sets_of xs) < h) (sym q.2) less);
          }

      by_step : (s : Step) → IsIn s (steps g ds here) → HasChild path here s
      by_step s m = let k = key_among (keys_after [] asked) s (subst (λ b. IsIn s (if b then [] else map key (keys_after [] asked))) fine m) in by_key s k.0 k.1 k.2

  module _ (h : ℕ) (lower : (path : Path) (p : Place) → Rankable ds (sets_of p.fields) → height ds (sets_of p.fields) < h → Has path p) where
    -- a result that fits, by those in it
    fit_has : (t : Option FieldType) (l : Result) (items : Answers) (fields : List Asked) → Rankable ds (sets_of fields) → height ds (sets_of fields) < suc h →
        ((a : Answer) → depth a.below < depth items → HasAny (item_type t) (Some a) fields) → is_unfit g t (Some (record { label = l; below = items })) ≡ false → HasAny t (Some (record { label = l; below = items })) fields
    fit_has t result.nothing items fields ranked low each fine path call =
        record { answer = record { shown = shown.null; below = none }; errors = []; answered = nothing_answered g ds path _ fine refl (none_below_nothing g ds items) }
    fit_has t result.failed items fields ranked low each fine path call = let bad : true ≡ false = sym (error_is_unfit g t items) ∙ fine in cc
    fit_has t (result.leaf v) items fields ranked low each fine path call = by_written (leaf_in g t (Some (record { label = result.leaf v; below = items }))) refl (leaf_is_written g t v items fine)
      where
        by_written : (w : Option Leaf) → leaf_in g t (Some (record { label = result.leaf v; below = items })) ≡ w → is_some w ≡ true → Has path (place_with t (Some (record { label = result.leaf v; below = items })) fields call)
        by_written None e i = cc
        by_written (Some w) e i = record { answer = record { shown = shown.leaf w; below = none }; errors = []; answered = leaf_answered g ds path _ w fine refl (none_below_leaf g ds v items) e }
    fit_has t (result.object o n) items fields ranked low each fine path call = object_has h lower t o n items fields ranked low fine path call
    fit_has t result.list items fields ranked low each fine path call = list_has t items fields fine each path call

    unfit_has : (t : Option FieldType) (r : Option Answer) (fields : List Asked) → is_unfit g t r ≡ true → HasAny t r fields
    unfit_has t r fields f path call = record { answer = record { shown = shown.null; below = none }; errors = path ∷ []; answered = failed_answered g ds path (place_with t r fields call) f }

    none_unfit : (t : Option FieldType) → is_unfit g t None ≡ true
    none_unfit None = refl
    none_unfit (Some t) = refl

    -- results that nest less deep than m
    nested_has : (m : ℕ) (t : Option FieldType) (r : Option Answer) (fields : List Asked) → Rankable ds (sets_of fields) → height ds (sets_of fields) < suc h → depth_in r < m → HasAny t r fields
    nested_has zero t r fields ranked low l = absurd (omega arith)
    nested_has (suc m) t None fields ranked low l = unfit_has t None fields (none_unfit t)
    nested_has (suc m) t (Some a) fields ranked low l = by_fits (λ b k. nested_has m (item_type t) (Some b) fields ranked low (omega arith)) (is_unfit g t (Some a)) refl
      where
        by_fits : ((b : Answer) → depth b.below < depth a.below → HasAny (item_type t) (Some b) fields) → (u : Bool) → is_unfit g t (Some a) ≡ u → HasAny t (Some a) fields
        by_fits each true e = unfit_has t (Some a) fields e
        by_fits each false e = fit_has t a.label a.below fields ranked low each e

  -- places whose fields have sets lower than h
  place_has : (h : ℕ) (path : Path) (p : Place) → Rankable ds (sets_of p.fields) → height ds (sets_of p.fields) < h → Has path p
  place_has zero path p ranked low = absurd (omega arith)
  place_has (suc h) path p ranked low = nested_has h (place_has h) (suc (depth_in p.result)) p.type_ref p.result p.fields ranked low (omega arith) path p.call

-- An operation over fragments that can be ranked has a response.
pub responds : (g : Given) (ds : List Definition) (type_name : Text) (set : Set) → Rankable ds set → (d : Data) × (errors : List Path) × Responds g ds type_name set d errors
responds g ds type_name set ranked =
    let rank : Rankable ds (sets_of (root_fields set)) = (ranked.0, ranked.1, low_sets ranked.0 (length ds) (root_fields set) (ranked.2, tt)) in
    let h = place_has g ds (suc (height ds (sets_of (root_fields set)))) [] (root type_name set) rank (omega arith) in
    (h.answer, h.answered.inner, record { shows = h.answered.shows; errors_are = h.answered.told })
