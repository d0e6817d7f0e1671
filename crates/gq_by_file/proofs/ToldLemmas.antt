-- What is told of files by parts of them is all that the rules tell, and with what is told of texts all that is told.
use Rattle.std.proofs.Common.{◌≡◌, ◌↔◌, ◌⊎◌, ⊎_elim, inl, inr, ℕ, ◌+◌, ◌<◌, Bool, true, false, List, [], ◌∷◌, ◌++◌, All, Contains, Some, slice_get, length, replicate, refl, sym, ap, ◌∙◌, subst, arith}
use Rattle.std.specs.declared.vec.Vec.{Vec}
use Rattle.std.specs.declared.alloc.Global.{Global}
use Rattle.std.proofs.lemmas.List.{length-replicate}
use Rattle.std.proofs.lemmas.List.Elements.{Contains-append_left, Contains-append_right, Contains-append_cases}
use Rattle.std.proofs.lemmas.Option.{slice_get_within}
use Rattle.gq_tree.specs.Readings.{ParsedOf}
use Rattle.gq_fault.specs.declared.fault.Fault.{Fault}
use Rattle.gq_fault.specs.Adds.{AddsExactly}
use Rattle.gq_graph.specs.Reach.{Reach, row}
use Rattle.gq_spreads.specs.Helping.Rows.{row_items}
use Rattle.gq_types.proofs.Gathered.{nothing_in, first}
use Rattle.gq_type_system.specs.SchemaFaults.{IsSchemaFault}
use Rattle.gq_document.specs.Executable.{ExecutableOf}
use Rattle.gq_rules.specs.Faults.{IsToldFirst, IsFaultOf, IsMixed, unread, mixed}
use Rattle.gq_rules.specs.Faults as faults
use Rattle.gq_rules.specs.Files.{together, IsLocalFault, IsOfItsFile}
use Rattle.gq_rules.specs.Project.{executable_of}
use Rattle.gq_rules.specs.RestsOnFile.{rests_on_file}
use Rattle.gq_rules.specs.RuleFaults.{IsRuleFault}
use Rattle.gq_rules.specs.Unread.{IsUnread}
use Rattle.gq_rules.specs.WrongOver.{IsWrongOver}
use Rattle.gq_rules.specs.WrongOver as over
use Rattle.gq_by_file.specs.OneFile.Laws.{LocalFaultsAreOfTheirFile}
use Rattle.gq_by_file.specs.Closed.Closed.{within}
use Rattle.gq_by_file.specs.Closed.RestsOnNames.{IsFaultByNames, IsFaultBySpreads}
use Rattle.gq_by_file.specs.Closed.Laws.{FaultsAcrossAreByNamesOrSpreads, FaultsAreOfClosedSets, FaultsOfClosedSetsAreFaults}
use Rattle.gq_by_file.specs.Links.{AreLinks}
use Rattle.gq_by_file.specs.Names.{AreNames}
use Rattle.gq_by_file.specs.declared.names.FileNames.{FileNames}
use Rattle.gq_by_file.specs.Helping.ByNames.{AreSpreadsOf, all_spreads}
use Rattle.gq_by_file.specs.Helping.Covers.{unmarked_from}
use Rattle.gq_by_file.specs.Helping.Links.{links_among}
use Rattle.gq_by_file.specs.Helping.Told.{AreToldOf, IsOver, IsOwnOf, PutsWrongOver}
use Rattle.gq_by_file.proofs.CleanLemmas.{named_exact}
use Rattle.gq_by_file.proofs.CoverLemmas.{no_mark, reached_closed, unmarked_range, unmarked_there}
use Rattle.gq_by_file.proofs.LinkLemmas.{are_links, rows_count, starts_reached}
use Rattle.gq_by_file.proofs.NameLemmas.{names_count}

-- what is told of a set that is closed, and of each of the files that lead to it
module _ (law : FaultsOfClosedSetsAreFaults) (x : ExecutableOf) (rs : List ParsedOf) (rows : List (Vec ℕ Global)) (rest files : List ℕ)
    (sound : All (λ n. Reach rest (row rows) n) files) (complete : (n : ℕ) → Reach rest (row rows) n → Contains files n)
    (given : List ℕ) (is : given ≡ files) (links : AreLinks x rows) (of_set all : List Fault) (exact : (f : Fault) → Contains of_set f ↔ IsFaultBySpreads (within given x) f)
    (own : AddsExactly (IsOwnOf x.entries rs rest) of_set all) where
  set_exact : (f : Fault) → Contains of_set f ↔ IsFaultBySpreads (within files x) f
  set_exact f = subst (λ (ns : List ℕ). Contains of_set f ↔ IsFaultBySpreads (within ns x) f) is (exact f)

  in_all : (f : Fault) → Contains of_set f → Contains all f
  in_all f c = subst (λ (fs : List Fault). Contains fs f) (sym own.is) (Contains-append_left of_set own.added f c)

  pub told_together : AreToldOf x rs rest all
  told_together = record {
    sound = λ f c. ⊎_elim
        (λ l. inl (law x files (reached_closed x rows links rest files sound complete) f ((set_exact f).0 l)).1)
        (λ r. inr ((own.exactly f).0 r).1)
        (Contains-append_cases of_set own.added f (subst (λ (fs : List Fault). Contains fs f) own.is c));
    spreads = λ n c. record {
      files = files;
      closed = reached_closed x rows links rest files sound complete;
      has = starts_reached rows rest files complete n c;
      told = λ f h. in_all f ((set_exact f).1 h);
    };
    own = λ f h. subst (λ (fs : List Fault). Contains fs f) (sym own.is) (Contains-append_right of_set own.added f ((own.exactly f).1 h));
  }

-- two parts
module _ (x : ExecutableOf) (rs : List ParsedOf) (front back rest : List ℕ) (whole : rest ≡ front ++ back) (some others all : List Fault) (both : all ≡ some ++ others)
    (first_are : AreToldOf x rs front some) (others_are : AreToldOf x rs back others) where
  from_some : (f : Fault) → Contains some f → Contains all f
  from_some f c = subst (λ (fs : List Fault). Contains fs f) (sym both) (Contains-append_left some others f c)

  from_others : (f : Fault) → Contains others f → Contains all f
  from_others f c = subst (λ (fs : List Fault). Contains fs f) (sym both) (Contains-append_right some others f c)

  parts : (n : ℕ) → Contains rest n → Contains front n ⊎ Contains back n
  parts n c = Contains-append_cases front back n (subst (λ (ns : List ℕ). Contains ns n) whole c)

  pub told_of_both : AreToldOf x rs rest all
  told_of_both = record {
    sound = λ f c. ⊎_elim (first_are.sound f) (others_are.sound f) (Contains-append_cases some others f (subst (λ (fs : List Fault). Contains fs f) both c));
    spreads = λ n c. ⊎_elim
        (λ l. let s = first_are.spreads n l in record { files = s.files; closed = s.closed; has = s.has; told = λ f h. from_some f (s.told f h) })
        (λ r. let s = others_are.spreads n r in record { files = s.files; closed = s.closed; has = s.has; told = λ f h. from_others f (s.told f h) })
        (parts n c);
    own = λ f h. ⊎_elim (λ l. from_some f (first_are.own f (l, h.1))) (λ r. from_others f (others_are.own f (r, h.1))) (parts f.file h.0);
  }

-- what a project is read as is over its files
pub over_files : (x : ExecutableOf) (rs : List ParsedOf) → x ≡ executable_of rs → IsOver x rs
over_files x rs e = e ∙ ap (λ es. together es rs) (sym (ap (λ (y : ExecutableOf). y.entries) e))

-- each number below is one of all
pub all_below : (count n : ℕ) → n < count → Contains (unmarked_from 0 (replicate count false)) n
all_below count n below =
    let number : 0 + n ≡ n = omega arith in
    let long = length-replicate count false in
    subst (λ z. Contains (unmarked_from 0 (replicate count false)) z) number (unmarked_there 0 (replicate count false) n (omega (arith, below, long)) (no_mark count n))

pub all_range : (count : ℕ) (all : List ℕ) → all ≡ unmarked_from 0 (replicate count false) → All (λ n. n < count) all
all_range count all are = subst (λ (ns : List ℕ). All (λ n. n < count) ns) (sym are) (unmarked_range (replicate count false) count (length-replicate count false))

-- what is told of names and of all files
module _ (parted : FaultsAcrossAreByNamesOrSpreads) (caused : FaultsAreOfClosedSets) (local : LocalFaultsAreOfTheirFile) (x : ExecutableOf) (rs : List ParsedOf) (is : IsOver x rs)
    (names : List FileNames) (are : AreNames rs names) (rows : List (Vec ℕ Global)) (linked : row_items rows ≡ links_among names) where
  pub their_links : AreLinks x rows
  their_links = subst (λ (z : ExecutableOf). AreLinks z rows) (sym is) (are_links x.entries rs names rows are linked)

  pub their_names : (named : List Fault) → (AreSpreadsOf x (all_spreads names) → (f : Fault) → Contains named f ↔ IsFaultByNames x f) → (f : Fault) → Contains named f ↔ IsFaultByNames x f
  their_names named told f = subst (λ (z : ExecutableOf). Contains named f ↔ IsFaultByNames z f) (sym is) (named_exact x.entries rs names are x is named told f)

  inside : (n : ℕ) (r : ParsedOf) → slice_get rs n ≡ Some r → n < length rows
  inside n r at =
      let h = slice_get_within rs n r at in
      let a = names_count are in
      let b = rows_count rows names linked in
      omega (arith, h, a, b)

  to_file : (f : Fault) → IsLocalFault x f → IsOfItsFile x.entries rs f
  to_file f h = (local x.entries rs f).0 (subst (λ (z : ExecutableOf). IsLocalFault z f) is h)

  from_file : (f : Fault) → IsOfItsFile x.entries rs f → IsLocalFault x f
  from_file f h = subst (λ (z : ExecutableOf). IsLocalFault z f) (sym is) ((local x.entries rs f).1 h)

  pub rules_told : (all : List ℕ) → all ≡ unmarked_from 0 (replicate (length rows) false) → (named found told : List Fault) → ((f : Fault) → Contains named f ↔ IsFaultByNames x f) →
      AreToldOf x rs all found → told ≡ named ++ found → (f : Fault) → Contains told f ↔ IsRuleFault x f
  rules_told all every named found told by_names are_told both f = (
    (λ c. ⊎_elim
        (λ l. ((by_names f).0 l).1)
        (λ r. ⊎_elim (λ s. s.2) (λ o. (from_file f o).1) (are_told.sound f r))
        (Contains-append_cases named found f (subst (λ (fs : List Fault). Contains fs f) both c))),
    (λ h. by (rests_on_file f.code) refl h),
  )
    where
      of_all : (n : ℕ) → n < length rows → Contains all n
      of_all n below = subst (λ (ns : List ℕ). Contains ns n) (sym every) (all_below (length rows) n below)

      from_found : Contains found f → Contains told f
      from_found c = subst (λ (fs : List Fault). Contains fs f) (sym both) (Contains-append_right named found f c)

      by_spreads : IsFaultBySpreads x f → Contains told f
      by_spreads h =
          let t = caused x f h in
          let s = are_told.spreads t.0 (of_all t.0 (their_links.in_range t.0 t.1)) in
          from_found (s.told f (t.2 s.files s.closed s.has))

      by : (b : Bool) → rests_on_file f.code ≡ b → IsRuleFault x f → Contains told f
      by true e h = let o = to_file f (e, h) in from_found (are_told.own f (of_all f.file (inside f.file o.0 o.1), o))
      by false e h = ⊎_elim
          (λ n. subst (λ (fs : List Fault). Contains fs f) (sym both) (Contains-append_left named found f ((by_names f).1 n)))
          by_spreads
          ((parted x f).0 (e, h))

-- where nothing is wrong with the type system, all that is wrong over it are the faults of rules
pub rules_alone : (x : ExecutableOf) → ((f : Fault) → IsSchemaFault x.entries f → ⊥) → (found : List Fault) → ((f : Fault) → Contains found f ↔ IsRuleFault x f) →
    (f : Fault) → Contains found f ↔ IsWrongOver x f
rules_alone x none found are f = ((λ c. over.rule none ((are f).0 c)), (λ h. back h))
  where
    back : IsWrongOver x f → Contains found f
    back (over.type_system s) = absurd (none f s)
    back (over.rule _ r) = (are f).1 r

-- where something is, that is all
pub schema_alone : (x : ExecutableOf) (wrong : List Fault) → (wrong ≡ [] → ⊥) → ((f : Fault) → Contains wrong f ↔ IsSchemaFault x.entries f) →
    (f : Fault) → Contains wrong f ↔ IsWrongOver x f
schema_alone x [] some are f = absurd (some refl)
schema_alone x (y ∷ ys) some are f = ((λ c. over.type_system ((are f).0 c)), (λ h. back h))
  where
    back : IsWrongOver x f → Contains (y ∷ ys) f
    back (over.type_system s) = (are f).1 s
    back (over.rule none r) = absurd (none y ((are y).0 (first y y ys refl)))

-- what is put behind what is told of texts is all that is told
pub all_told : (rs : List ParsedOf) (texts all : List Fault) → ((f : Fault) → Contains texts f ↔ (IsUnread rs f ⊎ IsMixed rs f)) → PutsWrongOver (executable_of rs) texts all →
    (f : Fault) → Contains all f ↔ IsFaultOf rs f
all_told rs [] all of_texts put f = (
  (λ c. forth ((put.alone refl f).0 (subst (λ (fs : List Fault). Contains fs f) put.is c))),
  (λ h. subst (λ (fs : List Fault). Contains fs f) (sym put.is) ((put.alone refl f).1 (back h))),
)
  where
    forth : IsWrongOver (executable_of rs) f → IsFaultOf rs f
    forth (over.type_system s) = faults.first (faults.type_system s)
    forth (over.rule none r) = faults.rule (λ g h. not_first none g h) r
      where
        not_first : ((g : Fault) → IsSchemaFault (executable_of rs).entries g → ⊥) → (g : Fault) → IsToldFirst rs g → ⊥
        not_first none g (faults.unread u) = nothing_in g ((of_texts g).1 (inl u))
        not_first none g (faults.mixed m) = nothing_in g ((of_texts g).1 (inr m))
        not_first none g (faults.type_system s) = none g s

    back : IsFaultOf rs f → IsWrongOver (executable_of rs) f
    back (faults.first (faults.unread u)) = nothing_in f ((of_texts f).1 (inl u))
    back (faults.first (faults.mixed m)) = nothing_in f ((of_texts f).1 (inr m))
    back (faults.first (faults.type_system s)) = over.type_system s
    back (faults.rule none r) = over.rule (λ g s. none g (faults.type_system s)) r
all_told rs (y ∷ ys) all of_texts put f = (
  (λ c. ⊎_elim
      (λ l. faults.first (⊎_elim faults.unread faults.mixed ((of_texts f).0 l)))
      (λ r. faults.first (faults.type_system ((put.behind some f).0 r)))
      (Contains-append_cases (y ∷ ys) put.added f (subst (λ (fs : List Fault). Contains fs f) put.is c))),
  (λ h. subst (λ (fs : List Fault). Contains fs f) (sym put.is) (back h)),
)
  where
    some : y ∷ ys ≡ [] → ⊥
    some e = cc

    in_texts : IsUnread rs f ⊎ IsMixed rs f → Contains ((y ∷ ys) ++ put.added) f
    in_texts h = Contains-append_left (y ∷ ys) put.added f ((of_texts f).1 h)

    back : IsFaultOf rs f → Contains ((y ∷ ys) ++ put.added) f
    back (faults.first (faults.unread u)) = in_texts (inl u)
    back (faults.first (faults.mixed m)) = in_texts (inr m)
    back (faults.first (faults.type_system s)) = Contains-append_right (y ∷ ys) put.added f ((put.behind some f).1 s)
    back (faults.rule none r) = absurd (none y (⊎_elim faults.unread faults.mixed ((of_texts y).0 (first y y ys refl))))
