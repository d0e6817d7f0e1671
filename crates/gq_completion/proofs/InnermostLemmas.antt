-- The sets in a set come right behind it, so the last that encloses an offset holds none that does.
use Rattle.std.proofs.Common.{◌≡◌, ℕ, Bool, true, false, List, [], ◌∷◌, ◌++◌, Option, Some, None, refl, sym, ap, ◌∙◌, subst, append_assoc, flat_map, Contains, ◌⊎◌, inl, inr, ⊎_elim}
use Rattle.std.specs.Prelude.{if◌then◌else◌}
use Rattle.std.specs.Option.{option_or}
use Rattle.std.proofs.lemmas.List.{append-nil}
use Rattle.std.proofs.lemmas.List.Elements.{Contains-append_left}
use Rattle.gq_text.specs.declared.place.Span.{Span}
use Rattle.gq_tree.specs.Forest.{none, more}
use Rattle.gq_tree.specs.Plain.{Sels, Def, operation, fragment, type_system}
use Rattle.gq_types.specs.Entries.{Text, EntryOf}
use Rattle.gq_types.specs.Roots.{root_of}
use Rattle.gq_types.proofs.Gathered.{nothing_in, cases_cons}
use Rattle.gq_document.specs.Selections.{parent_below}
use Rattle.gq_completion.specs.Laws.{EnclosesAlone}
use Rattle.gq_document.specs.Sets.{SetOf, set_in, braces_in, sets_among, sets_of}
use Rattle.gq_completion.specs.Sets.{encloses, innermost}
use Rattle.gq_document.specs.Last.{find_last}

-- an item of a list, and those behind it
data At {A : Type 0} : List A → A → List A → Type 0 where
  here : {x : A} {xs : List A} → At (x ∷ xs) x xs
  there : {x y : A} {xs back : List A} → At xs y back → At (x ∷ xs) y back

at_append : {A : Type 0} (fs bs : List A) (y : A) (back : List A) → At (fs ++ bs) y back → ((own : List A) × At fs y own × (back ≡ own ++ bs)) ⊎ At bs y back
at_append [] bs y back h = inr h
at_append (x ∷ xs) bs y back here = inl (xs, here, refl)
at_append (x ∷ xs) bs y back (there h) = ⊎_elim (λ q. inl (q.0, there q.1, q.2)) (λ r. inr r) (at_append xs bs y back h)

-- what is found last
module _ {A : Type 0} (test : A → Bool) where
  by_test : (x : A) (t : Bool) → test x ≡ t → (if t then Some x else None) ≡ None → test x ≡ false
  by_test x true e h = absurd (cc)
  by_test x false e h = e

  nothing_last : (r o : Option A) → option_or r o ≡ None → (r ≡ None) × (o ≡ None)
  nothing_last None o h = (refl, h)
  nothing_last (Some x) o h = absurd (cc)

  none_passes : (xs : List A) (y : A) → find_last test xs ≡ None → Contains xs y → test y ≡ false
  none_passes [] y h c = nothing_in y c
  none_passes (x ∷ xs) y h c =
      let q = nothing_last (find_last test xs) (if test x then Some x else None) h in
      ⊎_elim (λ e. ap test (sym e) ∙ by_test x (test x) refl q.1) (λ d. none_passes xs y q.0 d) (cases_cons x y xs c)

  abbrev Last : List A → A → Type 0
  Last xs y = (back : List A) × At xs y back × (test y ≡ true) × ((z : A) → Contains back z → test z ≡ false)

  now : (x y : A) (xs : List A) (t : Bool) → test x ≡ t → find_last test xs ≡ None → (if t then Some x else None) ≡ Some y → Last (x ∷ xs) y
  now x y xs true e h s =
      let same : x ≡ y = cc in
      subst (λ z. Last (x ∷ xs) z) same (xs, here, e, λ z c. none_passes xs z h c)
  now x y xs false e h s = absurd (cc)

  by_rest : (x y : A) (xs : List A) → (find_last test xs ≡ Some y → Last xs y) → (r : Option A) → find_last test xs ≡ r → option_or r (if test x then Some x else None) ≡ Some y → Last (x ∷ xs) y
  by_rest x y xs later None e s = now x y xs (test x) refl e s
  by_rest x y xs later (Some z) e s = let q = later (e ∙ s) in (q.0, there q.1, q.2, q.3)

  last_at : (xs : List A) (y : A) → find_last test xs ≡ Some y → Last xs y
  last_at [] y h = absurd (cc)
  last_at (x ∷ xs) y h = by_rest x y xs (λ s. last_at xs y s) (find_last test xs) refl h

-- the sets in a set come right behind it
module _ (es : List EntryOf) where
  abbrev Followed : SetOf → List SetOf → Type 0
  Followed set back = (rest : List SetOf) × (back ≡ sets_among es set.parent set.selections ++ rest)

  longer : (set : SetOf) (own others back : List SetOf) → Followed set own → back ≡ own ++ others → Followed set back
  longer set own others back f e = (f.0 ++ others, e ∙ ap (λ xs. xs ++ others) f.1 ∙ append_assoc (sets_among es set.parent set.selections) f.0 others)

  alone : (one set : SetOf) (own : List SetOf) → At (one ∷ []) set own → (one ≡ set) × (own ≡ [])
  alone one set own here = (refl, refl)
  alone one set own (there h) = elim h [ ]

  after_one : (one set : SetOf) (own rest back : List SetOf) → At (one ∷ []) set own → back ≡ own ++ (sets_among es one.parent one.selections ++ rest) → Followed set back
  after_one one set own rest back h e =
      let q = alone one set own h in
      (rest, e ∙ ap (λ xs. xs ++ (sets_among es one.parent one.selections ++ rest)) q.1 ∙ ap (λ (s : SetOf). sets_among es s.parent s.selections ++ rest) q.0)

  after_set : (parent : Option Text) (braces : Option Span) (below : Sels Span) (set : SetOf) (own rest back : List SetOf) →
      At (set_in parent braces below) set own → back ≡ own ++ (sets_among es parent below ++ rest) → Followed set back
  after_set parent None below set own rest back h e = elim h [ ]
  after_set parent (Some braces) below set own rest back h e = after_one (record { parent = parent; braces = braces; selections = below }) set own rest back h e

  among_followed : (parent : Option Text) (ss : Sels Span) (set : SetOf) (back : List SetOf) → At (sets_among es parent ss) set back → Followed set back
  among_followed parent none set back h = elim h [ ]
  among_followed parent (more head below rest) set back h =
      let inner = parent_below es parent head in
      ⊎_elim
      (λ q. after_set inner (braces_in head) below set q.0 (sets_among es parent rest) back q.1 q.2)
      (λ r. ⊎_elim
      (λ q. longer set q.0 (sets_among es parent rest) back (among_followed inner below set q.0 q.1) q.2)
      (λ s. among_followed parent rest set back s)
      (at_append (sets_among es inner below) (sets_among es parent rest) set back r))
      (at_append (set_in inner (braces_in head) below) (sets_among es inner below ++ sets_among es parent rest) set back h)

  top_followed : (one set : SetOf) (back : List SetOf) → At (one ∷ sets_among es one.parent one.selections) set back → Followed set back
  top_followed one set back here = ([], sym (append-nil (sets_among es one.parent one.selections)))
  top_followed one set back (there h) = among_followed one.parent one.selections set back h

  of_followed : (d : Def Span) (set : SetOf) (back : List SetOf) → At (sets_of es d) set back → Followed set back
  of_followed (operation kind name variables directives sels braces place) set back h = top_followed (record { parent = root_of es kind; braces = braces; selections = sels }) set back h
  of_followed (fragment name on directives sels braces place) set back h = top_followed (record { parent = Some on.text; braces = braces; selections = sels }) set back h
  of_followed (type_system definition) set back h = elim h [ ]

  all_followed : (ds : List (Def Span)) (set : SetOf) (back : List SetOf) → At (flat_map (sets_of es) ds) set back → Followed set back
  all_followed [] set back h = elim h [ ]
  all_followed (d ∷ ds) set back h = ⊎_elim
      (λ q. longer set q.0 (flat_map (sets_of es) ds) back (of_followed d set q.0 q.1) q.2)
      (λ r. all_followed ds set back r)
      (at_append (sets_of es d) (flat_map (sets_of es) ds) set back h)

pub encloses_alone : (es : List EntryOf) (i : ℕ) (document : List (Def Span)) (set : SetOf) → innermost es i document ≡ Some set → EnclosesAlone es i set
encloses_alone es i document set h =
    let last = last_at (encloses i) (flat_map (sets_of es) document) set h in
    let followed = all_followed es document set last.0 last.1 in
    record {
      it_does = last.2;
      none_in_it = λ other c. last.3 other (subst (λ xs. Contains xs other) (sym followed.1) (Contains-append_left (sets_among es set.parent set.selections) followed.0 other c));
    }
