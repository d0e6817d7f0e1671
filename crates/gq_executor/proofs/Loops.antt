-- From what was found of single places to the answers that the code gives.
use Rattle.std.proofs.Common.{Vec, Global, ◌≡◌, ℕ, zero, suc, ◌+◌, ◌<◌, ◌≤◌, Bool, true, false, List, [], ◌∷◌, ◌++◌, length, get_or, take, take_all, map, Option, Some, None, refl, sym, ap, ◌∙◌, subst, arith, append_assoc, append-nil, add-one, add-zero, zero-add}
use Rattle.std.proofs.lemmas.List.{take_more, map-append}
use Rattle.std.specs.Prelude.{◌||◌, ◌&&◌, is_some}
use Rattle.std.specs.List.{AllZip}
use Rattle.gq_tree.specs.Forest.{none, more, row}
use Rattle.gq_table.specs.declared.results.Outcome.{Outcome}
use Rattle.gq_table.specs.Views.{answer_view, answers_view}
use Rattle.gq_meaning.specs.Values.{Text, Leaf}
use Rattle.gq_meaning.specs.Results as result
use Rattle.gq_meaning.specs.Results.{Result, Answer, Answers, Step, Path, Call, key, index}
use Rattle.gq_meaning.specs.Shown as shown
use Rattle.gq_meaning.specs.Shown.{Entries, Data}
use Rattle.gq_meaning.specs.Expand.{Asked, expand, sets_of}
use Rattle.gq_meaning.specs.Thin.{Thin}
use Rattle.gq_meaning.specs.Response.{FieldType, setting, is_unfit, item_at, indexes, keys_after, of_key, place_of, steps, leaf_in, item_type, is_non_null}
use Rattle.gq_meaning.specs.Answered.{is_null, Answered, ChildAnswered}
use Rattle.gq_meaning.proofs.Building.{Made, made_none, made_more, entries_with, answered_null, answered_object, answered_list}
use Rattle.gq_meaning.proofs.Children.{step_in}
use Rattle.gq_meaning.proofs.Descending.{object_steps, object_child, list_steps, list_child}
use Rattle.gq_meaning.proofs.Ends.{none_below_nothing, none_below_leaf, failed_answered, nothing_answered, leaf_answered, error_is_unfit, leaf_is_written}
use Rattle.gq_collect.specs.declared.world.World.{World}
use Rattle.gq_response.specs.declared.data.Data.{Data as Given_data}
use Rattle.gq_response.specs.declared.data.Member.{Member}
use Rattle.gq_collect.specs.World.{given_by, definitions_in}
use Rattle.gq_meaning.specs.Depth.{depth}
use Rattle.gq_collect.specs.declared.collect.Taken.{Taken}
use Rattle.gq_collect.specs.Groups.{AreGroups}
use Rattle.gq_response.specs.Views.{Keyed, numbered, keyed, data_view, members_view}
use Rattle.gq_collect.specs.Views.{asked_all}
use Rattle.gq_executor.specs.Answers.{place_with, IsAnswer, IsFieldAnswer, IsItemAnswer}
use Rattle.gq_collect.proofs.GroupLemmas.{same_length}

abbrev pub null_data : Data
null_data = record { shown = shown.null; below = none }

-- What was made so far for the first steps below a place.
pub record IsSoFar (world : World) (t : Option FieldType) (r : Option Answer) (fields : List Asked) (path : Path) (blocked : Bool) (ss : List Step) (xs : List Data) (before after : List Path) : Type 0 where
  pub errors : List Path
  pub grows : after ≡ before ++ errors
  pub made : (call : Option Call) → Made (given_by world) (definitions_in world) (place_with t r fields call) path blocked ss xs errors

module _ (world : World) (t : Option FieldType) (fields : List Asked) (path : Path) where
  -- what does not fit
  pub unfit_answer : (r : Option Answer) (before after : List Path) (d : Data) → d ≡ null_data → is_unfit (given_by world) t r ≡ true → after ≡ before ++ path ∷ [] → IsAnswer world t r fields path before after d
  unfit_answer r before after d e f q = record {
    errors = path ∷ [];
    grows = q;
    answered = λ call. subst (λ z. Answered (given_by world) (definitions_in world) path (place_with t r fields call) z (path ∷ [])) (sym e) (failed_answered (given_by world) (definitions_in world) path (place_with t r fields call) f);
  }

  pub nothing_answer : (a : Answer) (before : List Path) (d : Data) → d ≡ null_data → a ≡ record { label = result.nothing; below = none } → is_unfit (given_by world) t (Some a) ≡ false → IsAnswer world t (Some a) fields path before before d
  nothing_answer a before d e q f =
      subst (λ z. IsAnswer world t (Some z) fields path before before d) (sym q) (record {
        errors = [];
        grows = sym (append-nil before);
        answered = λ call. subst (λ z. Answered (given_by world) (definitions_in world) path (place_with t (Some (record { label = result.nothing; below = none })) fields call) z []) (sym e)
            (nothing_answered (given_by world) (definitions_in world) path _ (ap (λ z. is_unfit (given_by world) t (Some z)) (sym q) ∙ f) refl (none_below_nothing (given_by world) (definitions_in world) none));
      })

  pub failed_never : (a : Answer) → a ≡ record { label = result.failed; below = none } → is_unfit (given_by world) t (Some a) ≡ false → ⊥
  failed_never a q f = let bad : true ≡ false = sym (error_is_unfit (given_by world) t none) ∙ ap (λ z. is_unfit (given_by world) t (Some z)) (sym q) ∙ f in cc

  pub leaf_answer : (a : Answer) (before : List Path) (d : Data) (v w : Leaf) → d ≡ record { shown = shown.leaf w; below = none } → a ≡ record { label = result.leaf v; below = none } → is_unfit (given_by world) t (Some a) ≡ false →
      leaf_in (given_by world) t (Some (record { label = result.leaf v; below = none })) ≡ Some w → IsAnswer world t (Some a) fields path before before d
  leaf_answer a before d v w e q f h =
      subst (λ z. IsAnswer world t (Some z) fields path before before d) (sym q) (record {
        errors = [];
        grows = sym (append-nil before);
        answered = λ call. subst (λ z. Answered (given_by world) (definitions_in world) path (place_with t (Some (record { label = result.leaf v; below = none })) fields call) z []) (sym e)
            (leaf_answered (given_by world) (definitions_in world) path _ w (ap (λ z. is_unfit (given_by world) t (Some z)) (sym q) ∙ f) refl (none_below_leaf (given_by world) (definitions_in world) v none) h);
      })

  pub leaf_never : (a : Answer) (v : Leaf) → a ≡ record { label = result.leaf v; below = none } → is_unfit (given_by world) t (Some a) ≡ false → leaf_in (given_by world) t (Some (record { label = result.leaf v; below = none })) ≡ None → ⊥
  leaf_never a v q f h = by_option (leaf_in (given_by world) t (Some (record { label = result.leaf v; below = none }))) h (leaf_is_written (given_by world) t v none (ap (λ z. is_unfit (given_by world) t (Some z)) (sym q) ∙ f))
    where
      by_option : (o : Option Leaf) → o ≡ None → is_some o ≡ true → ⊥
      by_option None e i = cc
      by_option (Some w) e i = cc

  -- a loop over steps
  pub begins : (r : Option Answer) (before : List Path) (xs : List Data) → xs ≡ [] → IsSoFar world t r fields path false [] xs before before
  begins r before xs e = subst (λ z. IsSoFar world t r fields path false [] z before before) (sym e) (record { errors = []; grows = sym (append-nil before); made = λ call. made_none (given_by world) (definitions_in world) (place_with t r fields call) path })

  goes_on : (r : Option Answer) (b c : Bool) (ss : List Step) (xs : List Data) (before middle after : List Path) (s : Step) (x : Data) (new : List Path) →
      IsSoFar world t r fields path b ss xs before middle → after ≡ middle ++ new → ((call : Option Call) → ChildAnswered (given_by world) (definitions_in world) path (place_with t r fields call) s c x new) →
      IsSoFar world t r fields path (b || c) (ss ++ s ∷ []) (xs ++ x ∷ []) before after
  goes_on r b c ss xs before middle after s x new h e a = record {
    errors = h.errors ++ new;
    grows = e ∙ ap (λ z. z ++ new) h.grows ∙ append_assoc before h.errors new;
    made = λ call. made_more (given_by world) (definitions_in world) (place_with t r fields call) path b c ss xs h.errors s x new (h.made call) (a call);
  }

-- the steps of a list
index_here : (items : Answers) (i j : ℕ) (a : Answer) → item_at items i ≡ Some a → take (i + 1) (indexes j items) ≡ take i (indexes j items) ++ index (j + i) ∷ []
index_here none i j a e = cc
index_here (more l b rest) zero j a e = ap (λ z. index z ∷ []) (sym (add-zero j))
index_here (more l b rest) (suc i) j a e =
    let n : suc j + i ≡ j + suc i = omega arith in
    ap (λ z. take z (index j ∷ indexes (suc j) rest)) (add-one (suc i)) ∙ ap (λ z. index j ∷ take z (indexes (suc j) rest)) (sym (add-one i)) ∙ ap (λ z. index j ∷ z) (index_here rest i (suc j) a e)
    ∙ ap (λ z. index j ∷ (take i (indexes (suc j) rest) ++ index z ∷ [])) n

item_here : (os : List Outcome) (i : ℕ) (o : Outcome) → i < length os → o ≡ get_or os i o → item_at (answers_view os) i ≡ Some (answer_view o)
item_here [] i o l e = absurd (omega arith)
item_here (x ∷ os) zero o l e = ap (λ z. Some (answer_view z)) (sym e)
item_here (x ∷ os) (suc i) o l e = item_here os i o (omega arith) e

indexes_length : (os : List Outcome) (j : ℕ) → length (indexes j (answers_view os)) ≡ length os
indexes_length [] j = refl
indexes_length (o ∷ os) j = ap suc (indexes_length os (suc j))

numbered_is : (R : Step → Data → Type 0) (items : Answers) (j : ℕ) (xs : List Data) → AllZip R (indexes j items) xs → entries_with (indexes j items) xs ≡ numbered j xs
numbered_is R none j [] h = refl
numbered_is R none j (x ∷ xs) h = absurd h
numbered_is R (more l b rest) j [] h = absurd h
numbered_is R (more l b rest) j (x ∷ xs) h = ap (λ z. more (record { step = index j; shown = x.shown }) x.below z) (numbered_is R rest (suc j) xs h.1)

keyed_is : (ms : List Member) → entries_with (map key (map (λ m. m.key) ms)) (map (λ m. data_view m.value) ms) ≡ keyed (members_view ms)
keyed_is [] = refl
keyed_is (m ∷ ms) = ap (λ z. more (record { step = key m.key; shown = (data_view m.value).shown }) (data_view m.value).below z) (keyed_is ms)

module _ (world : World) (t : Option FieldType) (fields : List Asked) (path : Path) where
  abbrev list_answer : List Outcome → Answer
  list_answer os = record { label = result.list; below = answers_view os }

  pub list_more : (os : List Outcome) (i : ℕ) (o : Outcome) (b c : Bool) (vs vs' : List Given_data) (v : Given_data) (before middle after : List Path) → i < length os → o ≡ get_or os i o → is_unfit (given_by world) t (Some (list_answer os)) ≡ false → vs' ≡ vs ++ v ∷ [] →
      IsSoFar world t (Some (list_answer os)) fields path b (take i (indexes 0 (answers_view os))) (map data_view vs) before middle → IsItemAnswer world t (answer_view o) fields (path ++ index i ∷ []) middle after c (data_view v) →
      IsSoFar world t (Some (list_answer os)) fields path (b || c) (take (i + 1) (indexes 0 (answers_view os))) (map data_view vs') before after
  list_more os i o b c vs vs' v before middle after l e f q h a =
      let there = item_here os i o l e in
      let more_steps : take (i + 1) (indexes 0 (answers_view os)) ≡ take i (indexes 0 (answers_view os)) ++ index i ∷ [] = index_here (answers_view os) i 0 (answer_view o) there ∙ ap (λ z. take i (indexes 0 (answers_view os)) ++ index z ∷ []) (zero-add i) in
      let more_data : map data_view vs' ≡ map data_view vs ++ data_view v ∷ [] = ap (map data_view) q ∙ map-append data_view vs (v ∷ []) in
      subst (λ z. IsSoFar world t (Some (list_answer os)) fields path (b || c) z (map data_view vs') before after) (sym more_steps)
      (subst (λ z. IsSoFar world t (Some (list_answer os)) fields path (b || c) (take i (indexes 0 (answers_view os)) ++ index i ∷ []) z before after) (sym more_data)
      (goes_on world t fields path (Some (list_answer os)) b c (take i (indexes 0 (answers_view os))) (map data_view vs) before middle after (index i) (data_view v) a.errors h a.grows
      (λ call. list_child (given_by world) (definitions_in world) t fields (answers_view os) call f path i (answer_view o) c (data_view v) a.errors there a.answered a.flag)))

  all_steps : (os : List Outcome) (i : ℕ) → length os ≤ i → take i (indexes 0 (answers_view os)) ≡ indexes 0 (answers_view os)
  all_steps os i l = take_all i (indexes 0 (answers_view os)) (let n = indexes_length os 0 in omega arith)

  pub list_blocked : (os : List Outcome) (i : ℕ) (b : Bool) (xs : List Data) (before after : List Path) (d : Data) → d ≡ null_data → length os ≤ i → b ≡ true → is_unfit (given_by world) t (Some (list_answer os)) ≡ false →
      IsSoFar world t (Some (list_answer os)) fields path b (take i (indexes 0 (answers_view os))) xs before after → IsAnswer world t (Some (list_answer os)) fields path before after d
  list_blocked os i b xs before after d q l e f h = record {
    errors = h.errors;
    grows = h.grows;
    answered = λ call. subst (λ z. Answered (given_by world) (definitions_in world) path (place_with t (Some (list_answer os)) fields call) z h.errors) (sym q)
        (answered_null (given_by world) (definitions_in world) (place_with t (Some (list_answer os)) fields call) f refl path xs h.errors
        (subst (λ z. Made (given_by world) (definitions_in world) (place_with t (Some (list_answer os)) fields call) path true z xs h.errors) (all_steps os i l ∙ sym (list_steps (given_by world) (definitions_in world) t fields (answers_view os) call f))
        (subst (λ z. Made (given_by world) (definitions_in world) (place_with t (Some (list_answer os)) fields call) path z (take i (indexes 0 (answers_view os))) xs h.errors) e (h.made call))));
  }

  pub list_done : (os : List Outcome) (i : ℕ) (b : Bool) (xs : List Data) (before after : List Path) (d : Data) → d ≡ record { shown = shown.list; below = numbered 0 xs } → length os ≤ i → b ≡ false → is_unfit (given_by world) t (Some (list_answer os)) ≡ false →
      IsSoFar world t (Some (list_answer os)) fields path b (take i (indexes 0 (answers_view os))) xs before after → IsAnswer world t (Some (list_answer os)) fields path before after d
  list_done os i b xs before after d q l e f h = record {
    errors = h.errors;
    grows = h.grows;
    answered = λ call.
        let here = place_with t (Some (list_answer os)) fields call in
        let are = list_steps (given_by world) (definitions_in world) t fields (answers_view os) call f in
        let made = subst (λ z. Made (given_by world) (definitions_in world) here path z (indexes 0 (answers_view os)) xs h.errors) e (subst (λ z. Made (given_by world) (definitions_in world) here path b z xs h.errors) (all_steps os i l) (h.made call)) in
        let shows : record { shown = shown.list; below = entries_with (steps (given_by world) (definitions_in world) here) xs } ≡ d =
        ap (λ z. let one : Data = record { shown = shown.list; below = z } in one) (ap (λ z. entries_with z xs) are ∙ numbered_is _ (answers_view os) 0 xs made.entries) ∙ sym q in
        subst (λ z. Answered (given_by world) (definitions_in world) path here z h.errors) shows
        (answered_list (given_by world) (definitions_in world) here f refl path xs h.errors (step_in (given_by world) (definitions_in world) here) refl
        (subst (λ z. Made (given_by world) (definitions_in world) here path false z xs h.errors) (sym are) made));
  }

  abbrev object_answer : Text → ℕ → Answer
  object_answer o n = record { label = result.object o n; below = none }

  abbrev members_data : List Member → List Data
  members_data ms = map (λ m. data_view m.value) ms

  pub object_more : (o : Text) (n : ℕ) (fs : List Asked) (i : ℕ) (k : Text) (group : List Asked) (b c : Bool) (ms ms' : List Member) (m : Member) (before middle after : List Path) →
      is_unfit (given_by world) t (Some (object_answer o n)) ≡ false → Thin [] (expand (setting (given_by world) o) (definitions_in world) (sets_of fields)) fs → i < length (keys_after [] fs) → k ≡ get_or (keys_after [] fs) i [] → group ≡ of_key k fs → ms' ≡ ms ++ m ∷ [] →
      IsSoFar world t (Some (object_answer o n)) fields path b (map key (take i (keys_after [] fs))) (members_data ms) before middle → IsFieldAnswer world o n group (path ++ key k ∷ []) middle after c (data_view m.value) →
      IsSoFar world t (Some (object_answer o n)) fields path (b || c) (map key (take (i + 1) (keys_after [] fs))) (members_data ms') before after
  object_more o n fs i k group b c ms ms' m before middle after f h l e g q s a =
      let more_steps : map key (take (i + 1) (keys_after [] fs)) ≡ map key (take i (keys_after [] fs)) ++ key k ∷ [] =
      ap (map key) (take_more (keys_after [] fs) i [] l ∙ ap (λ z. take i (keys_after [] fs) ++ z ∷ []) (sym e)) ∙ map-append key (take i (keys_after [] fs)) (k ∷ []) in
      let more_data : members_data ms' ≡ members_data ms ++ data_view m.value ∷ [] = ap members_data q ∙ map-append (λ m. data_view m.value) ms (m ∷ []) in
      subst (λ z. IsSoFar world t (Some (object_answer o n)) fields path (b || c) z (members_data ms') before after) (sym more_steps)
      (subst (λ z. IsSoFar world t (Some (object_answer o n)) fields path (b || c) (map key (take i (keys_after [] fs)) ++ key k ∷ []) z before after) (sym more_data)
      (goes_on world t fields path (Some (object_answer o n)) b c (map key (take i (keys_after [] fs))) (members_data ms) before middle after (key k) (data_view m.value) a.errors s a.grows
      (λ call. object_child (given_by world) (definitions_in world) t fields none call o n fs f h path k c (data_view m.value) a.errors a.place (ap (place_of (given_by world) o n) (sym g) ∙ a.there) a.answered a.flag)))

  pub keys_more : (ks : List Text) (i : ℕ) (k : Text) (ms ms' : List Member) (m : Member) → i < length ks → k ≡ get_or ks i [] → m.key ≡ k → ms' ≡ ms ++ m ∷ [] → map (λ m. m.key) ms ≡ take i ks → map (λ m. m.key) ms' ≡ take (i + 1) ks
  keys_more ks i k ms ms' m l e q p h =
      ap (map (λ m. m.key)) p ∙ map-append (λ m. m.key) ms (m ∷ []) ∙ ap (λ z. z ++ m.key ∷ []) h ∙ ap (λ z. take i ks ++ z ∷ []) (q ∙ e) ∙ sym (take_more ks i [] l)

  pub object_blocked : (o : Text) (n : ℕ) (fs : List Asked) (i : ℕ) (b : Bool) (xs : List Data) (before after : List Path) (d : Data) → d ≡ null_data → length (keys_after [] fs) ≤ i → b ≡ true → is_unfit (given_by world) t (Some (object_answer o n)) ≡ false →
      Thin [] (expand (setting (given_by world) o) (definitions_in world) (sets_of fields)) fs → IsSoFar world t (Some (object_answer o n)) fields path b (map key (take i (keys_after [] fs))) xs before after → IsAnswer world t (Some (object_answer o n)) fields path before after d
  object_blocked o n fs i b xs before after d q l e f h s = record {
    errors = s.errors;
    grows = s.grows;
    answered = λ call. subst (λ z. Answered (given_by world) (definitions_in world) path (place_with t (Some (object_answer o n)) fields call) z s.errors) (sym q)
        (answered_null (given_by world) (definitions_in world) (place_with t (Some (object_answer o n)) fields call) f refl path xs s.errors
        (subst (λ z. Made (given_by world) (definitions_in world) (place_with t (Some (object_answer o n)) fields call) path true z xs s.errors) (ap (map key) (take_all i (keys_after [] fs) l) ∙ sym (object_steps (given_by world) (definitions_in world) t fields none call o n fs f h))
        (subst (λ z. Made (given_by world) (definitions_in world) (place_with t (Some (object_answer o n)) fields call) path z (map key (take i (keys_after [] fs))) xs s.errors) e (s.made call))));
  }

  pub object_done : (o : Text) (n : ℕ) (fs : List Asked) (i : ℕ) (b : Bool) (ms : List Member) (before after : List Path) (d : Data) → d ≡ record { shown = shown.object; below = keyed (members_view ms) } → length (keys_after [] fs) ≤ i → b ≡ false →
      is_unfit (given_by world) t (Some (object_answer o n)) ≡ false → Thin [] (expand (setting (given_by world) o) (definitions_in world) (sets_of fields)) fs → map (λ m. m.key) ms ≡ take i (keys_after [] fs) →
      IsSoFar world t (Some (object_answer o n)) fields path b (map key (take i (keys_after [] fs))) (members_data ms) before after → IsAnswer world t (Some (object_answer o n)) fields path before after d
  object_done o n fs i b ms before after d q l e f h k s = record {
    errors = s.errors;
    grows = s.grows;
    answered = λ call.
        let here = place_with t (Some (object_answer o n)) fields call in
        let are = object_steps (given_by world) (definitions_in world) t fields none call o n fs f h in
        let all : map (λ m. m.key) ms ≡ keys_after [] fs = k ∙ take_all i (keys_after [] fs) l in
        let shows : record { shown = shown.object; below = entries_with (steps (given_by world) (definitions_in world) here) (members_data ms) } ≡ d =
        ap (λ z. let one : Data = record { shown = shown.object; below = z } in one) (ap (λ z. entries_with z (members_data ms)) (are ∙ ap (map key) (sym all)) ∙ keyed_is ms) ∙ sym q in
        subst (λ z. Answered (given_by world) (definitions_in world) path here z s.errors) shows
        (answered_object (given_by world) (definitions_in world) here f refl path (members_data ms) s.errors (step_in (given_by world) (definitions_in world) here) refl
        (subst (λ z. Made (given_by world) (definitions_in world) here path false z (members_data ms) s.errors) (ap (map key) (take_all i (keys_after [] fs) l) ∙ sym are)
        (subst (λ z. Made (given_by world) (definitions_in world) here path z (map key (take i (keys_after [] fs))) (members_data ms) s.errors) e (s.made call))));
  }

-- groups, one by one
pub group_at : {A B C : Type 0} (f : A → C) (h : B → C) (xs : List A) (ys : List B) (i : ℕ) (x : A) (d : B) → map f xs ≡ map h ys → i < length xs → x ≡ get_or xs i x → f x ≡ h (get_or ys i d)
group_at f h [] ys i x d e l q = absurd (omega arith)
group_at f h (a ∷ xs) [] i x d e l q = cc
group_at f h (a ∷ xs) (b ∷ ys) zero x d e l q = let one : f a ≡ h b = cc in ap f q ∙ one
group_at f h (a ∷ xs) (b ∷ ys) (suc i) x d e l q = let rest : map f xs ≡ map h ys = cc in group_at f h xs ys i x d rest (omega arith) q

-- what is known of one group
pub record GroupFacts (fs : List Asked) (i : ℕ) (k : Text) (group : List Asked) : Type 0 where
  pub within : i < length (keys_after [] fs)
  pub key_is : k ≡ get_or (keys_after [] fs) i []
  pub group_is : group ≡ of_key k fs

pub group_facts : (fs fs' : List Asked) (groups gs : List (Vec Taken Global)) (keys : List Text) (i : ℕ) (one : Vec Taken Global) (k : Text) (ts : List Taken) → AreGroups fs' keys groups → fs' ≡ fs → gs ≡ groups → i < length gs → one ≡ get_or gs i one → k ≡ get_or keys i [] → ts ≡ one.items →
    GroupFacts fs i k (asked_all ts)
group_facts fs fs' groups gs keys i one k ts all q p l e h r =
    let n = same_length (λ g. asked_all g.items) (λ k. of_key k fs') groups keys all.groups_are in
    let m = ap length p in
    let keys_are : keys ≡ keys_after [] fs = all.keys_are ∙ ap (keys_after []) q in
    let o = ap length keys_are in
    let l' : i < length groups = omega arith in
    let e' : one ≡ get_or groups i one = e ∙ ap (λ z. get_or z i one) p in
    record {
      within = omega arith;
      key_is = h ∙ ap (λ z. get_or z i []) keys_are;
      group_is = ap asked_all r ∙ group_at (λ g. asked_all g.items) (λ k. of_key k fs') groups keys i one [] all.groups_are l' e' ∙ ap (λ z. of_key z fs') (sym h) ∙ ap (of_key k) q;
    }

pub depth_at : (os : List Outcome) (i : ℕ) (o : Outcome) → i < length os → o ≡ get_or os i o → depth (answer_view o).below < depth (answers_view os)
depth_at [] i o l e = absurd (omega arith)
depth_at (x ∷ os) zero o l e = subst (λ z. depth (answer_view z).below < depth (answers_view (x ∷ os))) (sym e) (omega arith)
depth_at (x ∷ os) (suc i) o l e = let h = depth_at os i o (omega arith) e in omega arith

pub item_answer : (world : World) (t u : Option FieldType) (item : Answer) (fields : List Asked) (path path' : Path) (before after : List Path) (stops : Bool) (d : Data) → u ≡ item_type t → path' ≡ path → stops ≡ (is_non_null u && is_null d) →
    IsAnswer world u (Some item) fields path' before after d → IsItemAnswer world t item fields path before after stops d
item_answer world t u item fields path path' before after stops d e q f a = record {
  errors = a.errors;
  grows = a.grows;
  answered = subst (λ z. Answered (given_by world) (definitions_in world) path (place_with z (Some item) fields None) d a.errors) e (subst (λ z. Answered (given_by world) (definitions_in world) z (place_with u (Some item) fields None) d a.errors) q (a.answered None));
  flag = f ∙ ap (λ z. is_non_null z && is_null d) e;
}
