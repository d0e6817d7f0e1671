-- What rests on several files: what covers come to, and what stays of them where a file is replaced or put in.
use Rattle.std.proofs.Common.{◌≡◌, ◌↔◌, ◌⊎◌, ⊎_elim, inl, inr, ℕ, ◌<◌, Bool, true, false, List, [], ◌∷◌, ◌++◌, Contains, filter, flat_map, set, slice_index_or, length}
use Rattle.std.proofs.Common.{refl, sym, ap, ◌∙◌, subst, arith}
use Rattle.std.specs.Prelude.{not, ◌==◌}
use Rattle.std.specs.Cmp.{unsigned_Decides}
use Rattle.std.specs.List.{list_any}
use Rattle.std.specs.declared.vec.Vec.{Vec}
use Rattle.std.specs.declared.alloc.Global.{Global}
use Rattle.std.proofs.lemmas.List.Elements.{Contains-append_left, Contains-append_right, Contains-append_cases}
use Rattle.gq_fault.specs.declared.fault.Fault.{Fault}
use Rattle.gq_tree.specs.Readings.{ParsedOf}
use Rattle.gq_types.specs.Entries.{EntryOf}
use Rattle.gq_types.proofs.Gathered.{nothing_in, first, from_filter, from_flat, to_flat, not_true}
use Rattle.gq_document.specs.Definitions.{OperationOf, FragmentOf}
use Rattle.gq_document.specs.Executable.{ExecutableOf}
use Rattle.gq_rules.specs.Files.{together, IsFaultAcross}
use Rattle.gq_by_file.specs.OneFile.Laws.{AreAlikeToRules}
use Rattle.gq_by_file.specs.Closed.Closed.{within}
use Rattle.gq_by_file.specs.Closed.RestsOnNames.{IsFaultByNames, IsFaultBySpreads}
use Rattle.gq_by_file.specs.Closed.Laws.{AreNotSpread, ClosedSetsStay, OtherFilesAreUnseen}
use Rattle.gq_by_file.specs.Closed.Laws.{FaultsAcrossAreByNamesOrSpreads, FaultsAreOfClosedSets, FaultsOfClosedSetsAreFaults}
use Rattle.gq_by_file.specs.declared.across.Across.{Across}
use Rattle.gq_by_file.specs.declared.covers.Cover.{Cover}
use Rattle.gq_by_file.specs.declared.names.FileNames.{FileNames}
use Rattle.gq_by_file.specs.Across.{IsCover, AreClean, AreLinksOf, AreCovers, AreAcross}
use Rattle.gq_by_file.specs.Names.{AreNames}
use Rattle.gq_by_file.specs.Helping.Covers.{IsCovered}
use Rattle.gq_by_file.specs.Links.{AreLinks}
use Rattle.gq_by_file.proofs.CoverLemmas.{none_of}

-- names and covers come to all that rests on several files
module _ (parted : FaultsAcrossAreByNamesOrSpreads) (caused : FaultsAreOfClosedSets) (sound : FaultsOfClosedSetsAreFaults) (x : ExecutableOf) (rows : List (Vec ℕ Global)) (links : AreLinks x rows)
    (covers : List Cover) (are : AreCovers x covers) (all : (n : ℕ) → n < length rows → IsCovered covers n) (named : List Fault) (by_names : (f : Fault) → Contains named f ↔ IsFaultByNames x f) where
  abbrev told : List Fault
  told = flat_map (λ (c : Cover). c.faults.items) covers

  of_covers : (f : Fault) → Contains told f → IsFaultBySpreads x f
  of_covers f c =
      let t = from_flat (λ (c : Cover). c.faults.items) covers f c in
      let cover = are t.0 t.1 in
      (sound x t.0.files.items cover.closed f ((cover.exact f).0 t.2)).1

  in_covers : (f : Fault) → IsFaultBySpreads x f → Contains told f
  in_covers f h =
      let t = caused x f h in
      let c = all t.0 (links.in_range t.0 t.1) in
      let cover = are c.0 c.1 in
      to_flat (λ (c : Cover). c.faults.items) covers c.0 f c.1 ((cover.exact f).1 (t.2 c.0.files.items cover.closed c.2))

  pub all_across : (f : Fault) → Contains (named ++ told) f ↔ IsFaultAcross x f
  all_across f = (
    (λ c. (parted x f).1 (⊎_elim (λ l. inl ((by_names f).0 l)) (λ r. inr (of_covers f r)) (Contains-append_cases named told f c))),
    (λ h. ⊎_elim (λ n. Contains-append_left named told f ((by_names f).1 n)) (λ s. Contains-append_right named told f (in_covers f s)) ((parted x f).0 h)),
  )

-- no rule tells the type systems apart
module _ (es us : List EntryOf) (alike : AreAlikeToRules es us) (rs : List ParsedOf) where
  cover_over : (c : Cover) → IsCover (together es rs) c → IsCover (together us rs) c
  cover_over c is = record {
    closed = record { of_operations = is.closed.of_operations; of_fragments = is.closed.of_fragments };
    exact = λ f.
        let w = within c.files.items (together es rs) in
        let u = alike w.operations w.fragments f in (
          (λ h. let t = (is.exact f).0 h in (t.0, t.1, u.0 t.2)),
          (λ h. (is.exact f).1 (h.0, h.1, u.1 h.2)),
        );
  }

  pub covers_over : (covers : List Cover) → AreCovers (together es rs) covers → AreCovers (together us rs) covers
  covers_over covers are c stands = cover_over c (are c stands)

-- what is not so is no
pub is_no : (b : Bool) → (b ≡ true → ⊥) → b ≡ false
is_no true h = absurd (h refl)
is_no false h = refl

-- a file is replaced
module _ (stays : ClosedSetsStay) (others : OtherFilesAreUnseen) (es : List EntryOf) (rs : List ParsedOf) (at : ℕ) (r : ParsedOf) where
  cover_stays : (c : Cover) → (Contains c.files.items at → ⊥) → AreNotSpread rs c.files.items r → IsCover (together es rs) c → IsCover (together es (set rs at r)) c
  cover_stays c outside none is = record {
    closed = stays es rs at r c.files.items outside none is.closed;
    exact = λ f. subst (λ (z : ExecutableOf). Contains c.faults.items f ↔ IsFaultBySpreads z f) (sym (others es rs at r c.files.items outside)) (is.exact f);
  }

  pub covers_stay : (marks : List Bool) (covers : List Cover) → slice_index_or marks at false ≡ true →
      ((n : ℕ) → slice_index_or marks n false ≡ false → AreNotSpread rs (n ∷ []) r) →
      AreCovers (together es rs) covers → AreCovers (together es (set rs at r)) (filter (λ (c : Cover). not (list_any (λ n. slice_index_or marks n false) c.files.items)) covers)
  covers_stay marks covers here none are c stands =
      let t = from_filter (λ (c : Cover). not (list_any (λ n. slice_index_or marks n false) c.files.items)) covers c stands in
      let clean : list_any (λ n. slice_index_or marks n false) c.files.items ≡ false = not_true (list_any (λ n. slice_index_or marks n false) c.files.items) t.1 in
      cover_stays c (λ h. none_of (λ n. slice_index_or marks n false) c.files.items at clean h here)
      (λ n q inside. none n (is_no (slice_index_or marks n false) (none_of (λ n. slice_index_or marks n false) c.files.items n clean inside)) n q (first n n [] refl))
      (are c t.0)

  -- where no fragment of the new file is spread in a set without it
  pub covers_without : (covers : List Cover) → ((c : Cover) → Contains covers c → (Contains c.files.items at → ⊥) → AreNotSpread rs c.files.items r) →
      AreCovers (together es rs) covers → AreCovers (together es (set rs at r)) (filter (λ (c : Cover). not (list_any (λ n. n == at) c.files.items)) covers)
  covers_without covers none are c stands =
      let t = from_filter (λ (d : Cover). not (list_any (λ n. n == at) d.files.items)) covers c stands in
      let clean : list_any (λ n. n == at) c.files.items ≡ false = not_true (list_any (λ n. n == at) c.files.items) t.1 in
      let outside : Contains c.files.items at → ⊥ = λ h. none_of (λ n. n == at) c.files.items at clean h ((unsigned_Decides at at).1 refl) in
      cover_stays c outside (none c t.0 outside) (are c t.0)

-- what is known of an executable that is the same
pub kept_over : (x y : ExecutableOf) → x ≡ y → (rows given : List (Vec ℕ Global)) → given ≡ rows → (old new : List Cover) → AreLinks y rows →
    (AreLinks x given → AreCovers x old → AreCovers x new) → AreCovers y old → AreCovers y new
kept_over x y is rows given same old new links goes are =
    subst (λ (z : ExecutableOf). AreCovers z new) is
    (goes (subst (λ (z : ExecutableOf). AreLinks z given) (sym is) (subst (λ (vs : List (Vec ℕ Global)). AreLinks y vs) (sym same) links)) (subst (λ (z : ExecutableOf). AreCovers z old) (sym is) are))

abbrev parts : List EntryOf → List OperationOf → List FragmentOf → ExecutableOf
parts es os gs = record { entries = es; operations = os; fragments = gs }

pub same_parts : (es : List EntryOf) (os ps : List OperationOf) (gs hs : List FragmentOf) → os ≡ ps → gs ≡ hs → parts es os gs ≡ parts es ps hs
same_parts es os ps gs hs a b = ap (λ (z : List OperationOf). parts es z gs) a ∙ ap (λ (z : List FragmentOf). parts es ps z) b

-- where no covers are left, the type system may be another one
pub across_cleared : (es us : List EntryOf) (rs : List ParsedOf) (a b : Across) → b.names ≡ a.names → b.is_clean ≡ a.is_clean → b.links.rows.items ≡ a.links.rows.items → b.covers.items ≡ [] → AreAcross es rs a → AreAcross us rs b
across_cleared es us rs a b same clean links none are = record {
  names = subst (λ (v : Vec FileNames Global). (v.items ≡ []) ⊎ AreNames rs v.items) (sym same) are.names;
  clean = λ e. subst (λ (v : Vec FileNames Global). AreClean v.items) (sym same) (are.clean (sym clean ∙ e));
  links = subst (λ (v : Vec FileNames Global). (b.links.rows.items ≡ []) ⊎ AreLinksOf v.items b.links.rows.items) (sym same) (subst (λ (vs : List (Vec ℕ Global)). (vs ≡ []) ⊎ AreLinksOf a.names.items vs) (sym links) are.links);
  covers = subst (λ (cs : List Cover). AreCovers (together us rs) cs) (sym none) (λ c s. nothing_in c s);
}

pub across_over : (es us : List EntryOf) → AreAlikeToRules es us → (rs : List ParsedOf) (a : Across) → AreAcross es rs a → AreAcross us rs a
across_over es us alike rs a are = record { names = are.names; clean = are.clean; links = are.links; covers = covers_over es us alike rs a.covers.items are.covers }

pub none_told : (faults : List Fault) → length faults ≡ 0 → faults ≡ []
none_told [] none = refl
none_told (f ∷ faults) none = absurd (omega (arith, none))

-- where there are names, they are those of the files
pub names_known : (rs : List ParsedOf) (names : List FileNames) → (length names ≡ 0 → ⊥) → (names ≡ []) ⊎ AreNames rs names → AreNames rs names
names_known rs names some either = ⊎_elim (λ e. absurd (some (ap (λ (ns : List FileNames). length ns) e))) (λ n. n) either
