-- From what was found of the places below one to what is said of it.
use Rattle.std.proofs.Common.{◌≡◌, ◌⊎◌, inl, inr, Bool, true, false, List, [], ◌∷◌, ◌++◌, Some, refl, sym, ap, ◌∙◌, subst, ⊎_elim, append_assoc, append-nil}
use Rattle.std.specs.Prelude.{if◌then◌else◌, ◌||◌, ◌&&◌}
use Rattle.std.specs.List.{AllZip}
use Rattle.gq_tree.specs.Forest.{none, more}
use Rattle.gq_meaning.specs.Results.{Step, Path}
use Rattle.gq_meaning.specs.Shown as shown
use Rattle.gq_meaning.specs.Shown.{Shown, Entry, Entries, Data}
use Rattle.gq_meaning.specs.Expand.{Definition}
use Rattle.gq_meaning.specs.Thin.{IsIn}
use Rattle.gq_meaning.specs.Response.{Given, Place, fails, child, steps, is_non_null, has_list, has_object, has_nothing, IsNull, failed, nothing, by_child, ShowsAs, ShowAll, Shows, AreTold, no_more, one_more, error_at}
use Rattle.gq_meaning.specs.Answered.{is_null_shown, is_null, Answered, ChildAnswered}
use Rattle.gq_meaning.proofs.Simulation.{shows_same, told_same, flipped}
use Rattle.gq_meaning.proofs.SameRepeats.{HasFewer, repeats_sim}

-- the entries of these steps and data
abbrev pub entries_with : List Step → List Data → Entries
entries_with [] xs = none
entries_with (s ∷ ss) [] = none
entries_with (s ∷ ss) (d ∷ xs) = more (record { step = s; shown = d.shown }) d.below (entries_with ss xs)

module _ (g : Given) (ds : List Definition) where
  -- what was found with fewer fields holds with all
  pub answered_more : (path : Path) (p q : Place) (d : Data) (errors : List Path) → HasFewer p q → Answered g ds path q d errors → Answered g ds path p d errors
  answered_more path p q d errors h a =
      let sim = flipped g ds g ds HasFewer (repeats_sim g ds) in
      let same : error_at g path q ≡ error_at g path p = ap (λ b. if b then path ∷ [] else []) (sym ((repeats_sim g ds).same_fails p q h)) in
      record {
        shows = shows_same g ds g ds (λ x y. HasFewer y x) sim d q p h a.shows;
        inner = a.inner;
        told = subst (λ z. AreTold g ds (error_at g) path p z a.inner) (sym ((repeats_sim g ds).same_steps p q h))
            (told_same g ds g ds (λ x y. HasFewer y x) sim (error_at g) (error_at g) (λ at x y r. ap (λ b. if b then at ∷ [] else []) (sim.same_fails x y r)) a.told p h);
        are = a.are ∙ ap (λ z. z ++ a.inner) same;
      }

  -- data that is not null shows no null place
  not_null : (s : Shown) (B : Type 0) (es : Entries) (p : Place) → is_null_shown s ≡ false → ShowsAs g ds s B es p → IsNull g ds p → ⊥
  not_null shown.null B es p e h n = cc
  not_null (shown.leaf v) B es p e h n = h.0 n
  not_null shown.list B es p e h n = h.0 n
  not_null shown.object B es p e h n = h.0 n

  null_shown : (s : Shown) (B : Type 0) (es : Entries) (p : Place) → is_null_shown s ≡ true → ShowsAs g ds s B es p → IsNull g ds p
  null_shown shown.null B es p e h = h.0
  null_shown (shown.leaf v) B es p e h = cc
  null_shown shown.list B es p e h = cc
  null_shown shown.object B es p e h = cc

  -- one more step at the end
  pub told_last : {A : Type 0} (what : Path → Place → List A) {path : Path} {p : Place} {ss : List Step} {out : List A} → AreTold g ds what path p ss out →
      (s : Step) (q : Place) (inner : List A) → child g ds p s ≡ Some q → AreTold g ds what (path ++ s ∷ []) q (steps g ds q) inner → AreTold g ds what path p (ss ++ s ∷ []) (out ++ (what (path ++ s ∷ []) q ++ inner))
  told_last {A} what {path} {p} no_more s q inner e h =
      subst (λ z. AreTold g ds what path p (s ∷ []) z) (append-nil (what (path ++ s ∷ []) q ++ inner)) (one_more e h no_more)
  told_last {A} what {path} {p} (one_more {q = q1} {s = s1} {ss} {inner = inner1} {others} e1 h1 k1) s q inner e h =
      subst (λ z. AreTold g ds what path p (s1 ∷ (ss ++ s ∷ [])) z) (sym (append_assoc (what (path ++ s1 ∷ []) q1 ++ inner1) others (what (path ++ s ∷ []) q ++ inner)))
      (one_more e1 h1 (told_last what k1 s q inner e h))

  module _ (here : Place) where
    -- data made for a step; free: it does not leave the place null
    pub record IsMade (blocked : Bool) (s : Step) (d : Data) : Type 0 where
      pub place : Place
      pub there : child g ds here s ≡ Some place
      pub shows : Shows g ds d place
      pub free : blocked ≡ false → (is_non_null place.type_ref && is_null d) ≡ false

    -- some step leaves the place null
    pub record IsBlocked : Type 0 where
      pub step : Step
      pub place : Place
      pub there : child g ds here step ≡ Some place
      pub non_null : is_non_null place.type_ref ≡ true
      pub null_place : IsNull g ds place

    -- What was made for the first steps.
    pub record Made (path : Path) (blocked : Bool) (ss : List Step) (xs : List Data) (errors : List Path) : Type 0 where
      pub entries : AllZip (IsMade blocked) ss xs
      pub holds : blocked ≡ true → IsBlocked
      pub told : AreTold g ds (error_at g) path here ss errors

    made_weak : (b c : Bool) (ss : List Step) (xs : List Data) → AllZip (IsMade b) ss xs → AllZip (IsMade (b || c)) ss xs
    made_weak b c [] [] h = tt
    made_weak b c [] (x ∷ xs) h = absurd h
    made_weak b c (s ∷ ss) [] h = absurd h
    made_weak b c (s ∷ ss) (x ∷ xs) h = (record { place = h.0.place; there = h.0.there; shows = h.0.shows; free = λ f. h.0.free (or_left b c f) }, made_weak b c ss xs h.1)
      where
        or_left : (x y : Bool) → (x || y) ≡ false → x ≡ false
        or_left true y f = cc
        or_left false y f = refl

    and_parts : (x y : Bool) → (x && y) ≡ true → (x ≡ true) × (y ≡ true)
    and_parts true true f = (refl, refl)
    and_parts true false f = cc
    and_parts false y f = cc

    or_parts : (x y : Bool) → (x || y) ≡ true → (x ≡ true) ⊎ (y ≡ true)
    or_parts true y f = inl refl
    or_parts false y f = inr f

    or_right_false : (x y : Bool) → (x || y) ≡ false → y ≡ false
    or_right_false true y f = cc
    or_right_false false y f = f

    zip_push : (b : Bool) (ss : List Step) (xs : List Data) (s : Step) (x : Data) → AllZip (IsMade b) ss xs → IsMade b s x → AllZip (IsMade b) (ss ++ s ∷ []) (xs ++ x ∷ [])
    zip_push b [] [] s x h m = (m, tt)
    zip_push b [] (y ∷ xs) s x h m = absurd h
    zip_push b (r ∷ ss) [] s x h m = absurd h
    zip_push b (r ∷ ss) (y ∷ xs) s x h m = (h.0, zip_push b ss xs s x h.1 m)

    pub made_none : (path : Path) → Made path false [] [] []
    made_none path = record { entries = tt; holds = λ f. cc; told = no_more }

    pub made_more : (path : Path) (b c : Bool) (ss : List Step) (xs : List Data) (es : List Path) (s : Step) (x : Data) (new : List Path) →
        Made path b ss xs es → ChildAnswered g ds path here s c x new → Made path (b || c) (ss ++ s ∷ []) (xs ++ x ∷ []) (es ++ new)
    made_more path b c ss xs es s x new h a = record {
      entries = zip_push (b || c) ss xs s x (made_weak b c ss xs h.entries) (record { place = a.place; there = a.there; shows = a.answered.shows; free = λ f. sym a.flag ∙ or_right_false b c f });
      holds = λ f. ⊎_elim (λ y. h.holds y)
          (λ y. let z = and_parts (is_non_null a.place.type_ref) (is_null x) (sym a.flag ∙ y) in record { step = s; place = a.place; there = a.there; non_null = z.0; null_place = null_shown x.shown _ x.below a.place z.1 a.answered.shows }) (or_parts b c f);
      told = subst (λ z. AreTold g ds (error_at g) path here (ss ++ s ∷ []) (es ++ z)) (sym a.answered.are) (told_last (error_at g) h.told s a.place a.answered.inner a.there a.answered.told);
    }

    zip_find : (b : Bool) (ss : List Step) (xs : List Data) (s : Step) → IsIn s ss → AllZip (IsMade b) ss xs → (x : Data) × IsMade b s x
    zip_find b [] xs s m h = absurd m
    zip_find b (r ∷ ss) [] s m h = absurd h
    zip_find b (r ∷ ss) (x ∷ xs) s (inl e) h = (x, subst (λ z. IsMade b z x) (sym e) h.0)
    zip_find b (r ∷ ss) (x ∷ xs) s (inr m) h = zip_find b ss xs s m h.1

    -- the place is null where a step leaves it so
    pub blocked_null : IsBlocked → IsNull g ds here
    blocked_null b = by_child b.step b.there b.non_null b.null_place

    -- each place below stands at one of the steps
    abbrev AllChildren : List Step → Type 0
    AllChildren ss = (s : Step) (q : Place) → child g ds here s ≡ Some q → IsIn s ss

    module _ (fine : fails g here ≡ false) (some : has_nothing here.result ≡ false) where
      not_here : (ss : List Step) (xs : List Data) → AllChildren ss → AllZip (IsMade false) ss xs → (p : Place) → p ≡ here → IsNull g ds p → ⊥
      not_here ss xs all h p e (failed f) = let bad : true ≡ false = sym f ∙ ap (fails g) e ∙ fine in cc
      not_here ss xs all h p e (nothing f) = let bad : true ≡ false = sym f ∙ ap (λ z. has_nothing z.result) e ∙ some in cc
      not_here ss xs all h p e (by_child {q} s f n z) =
          let at : child g ds here s ≡ Some q = ap (λ v. child g ds v s) (sym e) ∙ f in
          let m = zip_find false ss xs s (all s q at) h in
          let here_too : Some q ≡ Some m.1.place = sym at ∙ m.1.there in
          let same : q ≡ m.1.place = cc in
          let free : is_null m.0 ≡ false = ap (λ b. b && is_null m.0) (sym (ap (λ v. is_non_null v.type_ref) (sym same) ∙ n)) ∙ m.1.free refl in
          not_null m.0.shown _ m.0.below m.1.place free m.1.shows (subst (λ v. IsNull g ds v) same z)

      show_entries : (ss : List Step) (xs : List Data) → AllZip (IsMade false) ss xs → ShowAll g ds (entries_with ss xs) here ss
      show_entries [] [] h = refl
      show_entries [] (x ∷ xs) h = absurd h
      show_entries (s ∷ ss) [] h = absurd h
      show_entries (s ∷ ss) (x ∷ xs) h = (ss, refl, (h.0.place, h.0.there, h.0.shows), show_entries ss xs h.1)

      no_error : (path : Path) → error_at g path here ≡ []
      no_error path = ap (λ b. if b then path ∷ [] else []) fine

      -- all steps were gone through, and one leaves the place null
      pub answered_null : (path : Path) (xs : List Data) (es : List Path) → Made path true (steps g ds here) xs es → Answered g ds path here (record { shown = shown.null; below = none }) es
      answered_null path xs es h = record { shows = (blocked_null (h.holds refl), refl); inner = es; told = h.told; are = ap (λ z. z ++ es) (sym (no_error path)) }

      -- or none does
      pub answered_object : (path : Path) (xs : List Data) (es : List Path) → AllChildren (steps g ds here) → has_object here.result ≡ true → Made path false (steps g ds here) xs es →
          Answered g ds path here (record { shown = shown.object; below = entries_with (steps g ds here) xs }) es
      answered_object path xs es all o h = record {
        shows = ((λ n. not_here (steps g ds here) xs all h.entries here refl n), o, show_entries (steps g ds here) xs h.entries);
        inner = es;
        told = h.told;
        are = ap (λ z. z ++ es) (sym (no_error path));
      }

      pub answered_list : (path : Path) (xs : List Data) (es : List Path) → AllChildren (steps g ds here) → has_list here.result ≡ true → Made path false (steps g ds here) xs es →
          Answered g ds path here (record { shown = shown.list; below = entries_with (steps g ds here) xs }) es
      answered_list path xs es all o h = record {
        shows = ((λ n. not_here (steps g ds here) xs all h.entries here refl n), o, show_entries (steps g ds here) xs h.entries);
        inner = es;
        told = h.told;
        are = ap (λ z. z ++ es) (sym (no_error path));
      }
