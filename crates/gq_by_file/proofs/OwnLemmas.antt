-- What a file tells alone, by its number among the files.
use Rattle.std.proofs.Common.{◌≡◌, ◌↔◌, ⊎_elim, inl, inr, ℕ, zero, suc, ◌<◌, ◌≤◌, List, [], ◌∷◌, ◌++◌, Some, Contains, get_or, length, map, slice_get}
use Rattle.std.proofs.Common.{append-nil, refl, sym, ap, ◌∙◌, subst, arith}
use Rattle.std.proofs.lemmas.List.Elements.{Contains-append_left, Contains-append_right, Contains-append_cases}
use Rattle.std.proofs.lemmas.Option.{slice_get_within}
use Rattle.gq_tree.specs.Readings.{ParsedOf}
use Rattle.gq_types.specs.Entries.{EntryOf}
use Rattle.gq_types.proofs.Gathered.{nothing_in, first, only, from_map, to_map}
use Rattle.gq_fault.specs.declared.fault.Fault.{Fault}
use Rattle.gq_fault.specs.Adds.{AddsExactly}
use Rattle.gq_fault.proofs.PutLemmas.{puts_as, puts_both, puts_list}
use Rattle.gq_rules.specs.Files.{alone, in_file, IsLocalFault, IsOfItsFile}
use Rattle.gq_by_file.specs.OneFile.Laws.{NumbersOfFilesAreUnseen}
use Rattle.gq_by_file.specs.Helping.Told.{IsOwnOf}

module _ (unseen : NumbersOfFilesAreUnseen) (es : List EntryOf) (rs : List ParsedOf) (n : ℕ) (r : ParsedOf) (there : slice_get rs n ≡ Some r)
    (faults : List Fault) (are : (f : Fault) → Contains faults f ↔ IsLocalFault (alone es 0 r) f) where
  -- the own faults of a file, by its number
  pub own_of_file : (f : Fault) → Contains (map (in_file n) faults) f ↔ ((f.file ≡ n) × IsOfItsFile es rs f)
  own_of_file f = (forth, back)
    where
      forth : Contains (map (in_file n) faults) f → (f.file ≡ n) × IsOfItsFile es rs f
      forth c =
          let m = from_map (in_file n) faults f c in
          let g : Fault = m.0 in
          let at : f.file ≡ n = sym (ap (λ (z : Fault). z.file) m.2) in
          let zero_is = (unseen es 0 r g).0 ((are g).0 m.1) in
          let here : IsLocalFault (alone es n r) (in_file n g) = (unseen es n r (in_file n g)).1 (refl, zero_is.1) in
          (at, (r, subst (λ k. slice_get rs k ≡ Some r) (sym at) there, subst (λ k. IsLocalFault (alone es k r) f) (sym at) (subst (IsLocalFault (alone es n r)) m.2 here)))

      back : (f.file ≡ n) × IsOfItsFile es rs f → Contains (map (in_file n) faults) f
      back h =
          let i = h.1 in
          let same : i.0 ≡ r = (let e = sym i.1 ∙ ap (slice_get rs) h.0 ∙ there in cc) in
          let here : IsLocalFault (alone es f.file r) f = subst (λ (z : ParsedOf). IsLocalFault (alone es f.file z) f) same i.2 in
          let first_is = (unseen es f.file r f).0 here in
          let c : Contains (map (in_file n) faults) (in_file n f) = to_map (in_file n) faults (in_file 0 f) ((are (in_file 0 f)).1 first_is.1) in
          subst (λ k. Contains (map (in_file n) faults) (in_file k f)) (sym h.0) c

  -- they are put behind others
  pub own_added : (old new : List Fault) → new ≡ old ++ map (in_file n) faults → AddsExactly (IsOwnOf es rs (n ∷ [])) old new
  own_added old new is = puts_list (IsOwnOf es rs (n ∷ [])) old new (map (in_file n) faults) is (λ f. (
    (λ c. let h = (own_of_file f).0 c in (first n f.file [] (sym h.0), h.1)),
    (λ h. (own_of_file f).1 (only n f.file h.0, h.1)),
  ))

module _ (es : List EntryOf) (rs : List ParsedOf) where
  -- there is no such file
  pub none_added : (n : ℕ) → length rs ≤ n → (old : List Fault) → AddsExactly (IsOwnOf es rs (n ∷ [])) old old
  none_added n behind old = puts_list (IsOwnOf es rs (n ∷ [])) old old [] (sym (append-nil old)) (λ f. (
    (λ c. nothing_in f c),
    (λ h. absurd (let inside = slice_get_within rs f.file h.1.0 h.1.1 in let at : f.file ≡ n = only n f.file h.0 in omega (arith, inside, at, behind))),
  ))

  pub nothing_added : (old : List Fault) → AddsExactly (IsOwnOf es rs []) old old
  nothing_added old = puts_list (IsOwnOf es rs []) old old [] (sym (append-nil old)) (λ f. ((λ c. nothing_in f c), (λ h. nothing_in f.file h.0)))

  -- one file more
  pub more_added : (files : List ℕ) (n : ℕ) (old middle new : List Fault) → AddsExactly (IsOwnOf es rs files) old middle → AddsExactly (IsOwnOf es rs (n ∷ [])) middle new →
      AddsExactly (IsOwnOf es rs (files ++ n ∷ [])) old new
  more_added files n old middle new a b = puts_as _ (IsOwnOf es rs (files ++ n ∷ [])) old new
      (λ f. (
        (λ h. ⊎_elim (λ l. (Contains-append_left files (n ∷ []) f.file l.0, l.1)) (λ r. (Contains-append_right files (n ∷ []) f.file r.0, r.1)) h),
        (λ h. ⊎_elim (λ l. inl (l, h.1)) (λ r. inr (r, h.1)) (Contains-append_cases files (n ∷ []) f.file h.0)),
      ))
      (puts_both (IsOwnOf es rs files) (IsOwnOf es rs (n ∷ [])) old middle new a b)

-- one of the files, as it is read
pub view_there : {A B : Type 0} (view : A → B) (xs : List A) (n : ℕ) (x : A) → n < length xs → x ≡ get_or xs n x → slice_get (map view xs) n ≡ Some (view x)
view_there view [] n x h e = absurd (omega (arith, h))
view_there {A} view (y ∷ xs) zero x h e = ap (λ (z : A). Some (view z)) (sym e)
view_there view (y ∷ xs) (suc n) x h e = view_there view xs n x (omega (arith, h)) e
