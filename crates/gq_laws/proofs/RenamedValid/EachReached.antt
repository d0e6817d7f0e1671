-- In a valid project each fragment is reached by an operation: each is spread, and no spread leads back to its fragment.
use Rattle.std.proofs.Common.{◌≡◌, ◌⊎◌, ⊎_elim, inl, inr, ℕ, zero, suc, ◌+◌, ◌<◌, ◌≤◌, Bool, true, false, nat_eq, List, [], ◌∷◌, Some, length, refl, sym, ap, ◌∙◌, subst, Contains, arith}
use Rattle.std.specs.Prelude.{slice_get}
use Rattle.std.specs.List.{AllByRecursion, IsDistinct, list_any}
use Rattle.std.proofs.lemmas.Bool.Decides.{Decides-eqb}
use Rattle.std.proofs.lemmas.Map.Keys.{IsDistinct-cons}
use Rattle.std.proofs.lemmas.Map.Steps.{length-le_from_distinct_below}
use Rattle.std.proofs.lemmas.Option.{slice_get_within}
use Rattle.gq_text.specs.declared.place.Span.{Span}
use Rattle.gq_fault.specs.declared.fault.Fault.{Fault}
use Rattle.gq_fault.specs.FaultPlaces.{fault_at}
use Rattle.gq_fault.specs.declared.code.Code.TheVariants.{FragmentNotUsed, FragmentCycle}
use Rattle.gq_tree.specs.Names.{spread_names}
use Rattle.gq_tree.specs.Plain.{NameOf, Sels, Def, operation, fragment, type_system}
use Rattle.gq_tree.specs.Readings.{ParsedOf}
use Rattle.gq_types.specs.Entries.{EntryOf}
use Rattle.gq_types.proofs.Gathered.{nothing_in, first, later, cases_cons, only, or_cases, from_flat}
use Rattle.gq_document.specs.Definitions.{OperationOf, FragmentOf, operation_in, fragments_of}
use Rattle.gq_document.specs.Executable.{ExecutableOf}
use Rattle.gq_document.specs.Reaches.{IsSpreadIn, Reaches, at_once, through}
use Rattle.gq_spreads.specs.SpreadFaults.{IsSpreadFault, fragment_not_used, fragment_cycle}
use Rattle.gq_spreads.proofs.RowLemmas.{number_of}
use Rattle.gq_index.specs.Occurrences.{DefinitionOf, executables}
use Rattle.gq_index.specs.VariableGroups.{IsOperationAt}
use Rattle.gq_rules.specs.Files.{together}
use Rattle.gq_laws.proofs.Renaming.PairedLemmas.{operations_are}
use Rattle.gq_laws.proofs.Renaming.RuleLemmas.{search_text}

-- an operation that reaches a fragment, and its number
pub record IsReachedByOperation (readings : List ParsedOf) (f : FragmentOf) : Type 0 where
  pub number : ℕ
  pub operation : OperationOf
  pub at : IsOperationAt (executables readings) number operation
  pub reached : Reaches (fragments_of readings) operation.set f

-- each fragment is reached by an operation
abbrev pub EachFragmentIsReached : List ParsedOf → Type 0
EachFragmentIsReached readings = (f : FragmentOf) → Contains (fragments_of readings) f → IsReachedByOperation readings f

distinct_none : IsDistinct nat_eq []
unfolding IsDistinct
distinct_none = tt

-- whether a fragment is spread
spread_search : (ss : Sels Span) (f : FragmentOf) → IsSpreadIn ss f ⊎ (IsSpreadIn ss f → ⊥)
spread_search ss f = ⊎_elim
    (λ m. inl (record { name = m.0; stands = m.1; names = m.2 }))
    (λ not_here. inr (λ s. not_here s.name s.stands s.names))
    (search_text (λ (n : NameOf Span). n.text) (spread_names ss) f.name.text)

abbrev IsSpreadAmong : {A : Type 0} → (A → Sels Span) → List A → FragmentOf → Type 0
IsSpreadAmong {A} set xs f = (x : A) × Contains xs x × IsSpreadIn (set x) f

search_among : {A : Type 0} (set : A → Sels Span) (xs : List A) (f : FragmentOf) → IsSpreadAmong set xs f ⊎ ((x : A) → Contains xs x → IsSpreadIn (set x) f → ⊥)
search_among set [] f = inr (λ x c s. nothing_in x c)
search_among {A} set (x ∷ xs) f = ⊎_elim (λ s. inl (x, first x x xs refl, s)) (λ not_here. others not_here (search_among set xs f)) (spread_search (set x) f)
  where
    others : (IsSpreadIn (set x) f → ⊥) → IsSpreadAmong set xs f ⊎ ((z : A) → Contains xs z → IsSpreadIn (set z) f → ⊥) → IsSpreadAmong set (x ∷ xs) f ⊎ ((z : A) → Contains (x ∷ xs) z → IsSpreadIn (set z) f → ⊥)
    others not_here (inl k) = inl (k.0, later x k.0 xs k.1, k.2)
    others not_here (inr none) = inr (λ z c s. ⊎_elim (λ e. not_here (subst (λ w. IsSpreadIn (set w) f) (sym e) s)) (λ d. none z d s) (cases_cons x z xs c))

module _ (x : ExecutableOf) (none : (f : Fault) → IsSpreadFault x f → ⊥) where
  abbrev fs : List FragmentOf
  fs = x.fragments

  abbrev IsSpreadSomewhere : FragmentOf → Type 0
  IsSpreadSomewhere f = IsSpreadAmong (λ (o : OperationOf). o.set) x.operations f ⊎ IsSpreadAmong (λ (g : FragmentOf). g.set) fs f

  spread_somewhere : (f : FragmentOf) → Contains fs f → IsSpreadSomewhere f
  spread_somewhere f c = by (search_among (λ (o : OperationOf). o.set) x.operations f) (search_among (λ (g : FragmentOf). g.set) fs f)
    where
      by : IsSpreadAmong (λ (o : OperationOf). o.set) x.operations f ⊎ ((o : OperationOf) → Contains x.operations o → IsSpreadIn o.set f → ⊥) →
          IsSpreadAmong (λ (g : FragmentOf). g.set) fs f ⊎ ((g : FragmentOf) → Contains fs g → IsSpreadIn g.set f → ⊥) → IsSpreadSomewhere f
      by (inl o) others = inl o
      by (inr not_here) (inl g) = inr g
      by (inr not_here) (inr nowhere) = absurd (none (fault_at f.file FragmentNotUsed f.name) (fragment_not_used (record { fragment = f; stands = c; in_no_operation = not_here; in_no_fragment = nowhere; is = refl })))

  -- what a fragment reaches is reached where it is spread
  prepend : (g h : FragmentOf) → Contains fs g → (ss : Sels Span) → IsSpreadIn ss g → Reaches fs g.set h → Reaches fs ss h
  prepend g h c ss s (at_once d t) = through (at_once c s) d t
  prepend g h c ss s (through {g = m} way d t) = through (prepend g m c ss s way) d t

  -- the first spread of a way
  record FirstSpread (ss : Sels Span) (f : FragmentOf) : Type 0 where
    name : NameOf Span
    spread : Contains (spread_names ss) name
    target : FragmentOf
    stands : Contains fs target
    named : name.text ≡ target.name.text
    leads : (target ≡ f) ⊎ Reaches fs target.set f

  first_spread : (ss : Sels Span) (f : FragmentOf) → Reaches fs ss f → FirstSpread ss f
  first_spread ss f (at_once c s) = record { name = s.name; spread = s.stands; target = f; stands = c; named = s.names; leads = inl refl }
  first_spread ss f (through {g = m} way c s) =
      let k = first_spread ss m way in record {
        name = k.name;
        spread = k.spread;
        target = k.target;
        stands = k.stands;
        named = k.named;
        leads = inr (⊎_elim (λ e. at_once c (subst (λ z. IsSpreadIn z.set f) (sym e) s)) (λ r. through r c s) k.leads);
      }

  no_cycle : (f : FragmentOf) → Contains fs f → Reaches fs f.set f → ⊥
  no_cycle f c way =
      let k = first_spread f.set f way in
      none (fault_at f.file FragmentCycle k.name) (fragment_cycle (record {
        fragment = f;
        stands = c;
        name = k.name;
        is_spread = k.spread;
        target = k.target;
        target_stands = k.stands;
        is_named = k.named;
        leads_back = ⊎_elim (λ e. subst (λ z. Reaches fs z.set f) (sym e) way) (λ r. r) k.leads;
        is = refl;
      }))

  -- numbers of fragments that a fragment reaches
  abbrev IsReachedFrom : FragmentOf → ℕ → Type 0
  IsReachedFrom g j = (h : FragmentOf) × (slice_get fs j ≡ Some h) × Reaches fs g.set h

  abbrev AreReached : FragmentOf → List ℕ → Type 0
  AreReached g seen = AllByRecursion (IsReachedFrom g) seen

  still_reached : (g k : FragmentOf) → Contains fs g → IsSpreadIn k.set g → (seen : List ℕ) → AreReached g seen → AreReached k seen
  still_reached g k c s [] h = tt
  still_reached g k c s (j ∷ seen) h = ((h.0.0, h.0.1, prepend g h.0.0 c k.set s h.0.2), still_reached g k c s seen h.1)

  -- its own is none of these
  is_new : (g : FragmentOf) (k : ℕ) → slice_get fs k ≡ Some g → Contains fs g → (seen : List ℕ) → AreReached g seen → AllByRecursion (λ j. nat_eq k j ≡ false) seen
  is_new g k at c [] h = tt
  is_new g k at c (j ∷ seen) h = (by (nat_eq k j) refl, is_new g k at c seen h.1)
    where
      by : (b : Bool) → nat_eq k j ≡ b → nat_eq k j ≡ false
      by false e = e
      by true e =
          let number : k ≡ j = (Decides-eqb k j).0 e in
          let one : Some h.0.0 ≡ Some g = sym h.0.1 ∙ ap (slice_get fs) (sym number) ∙ at in
          let same : h.0.0 ≡ g = cc in
          absurd (no_cycle g c (subst (Reaches fs g.set) same h.0.2))

  all_below : (g : FragmentOf) (seen : List ℕ) → AreReached g seen → (q : ℕ) → list_any (nat_eq q) seen ≡ true → q < length fs
  all_below g [] h q e = absurd (cc)
  all_below g (j ∷ seen) h q e = ⊎_elim
      (λ a. subst (λ n. n < length fs) (sym ((Decides-eqb q j).0 a)) (slice_get_within fs j h.0.0 h.0.1))
      (λ b. all_below g seen h.1 q b)
      (or_cases (nat_eq q j) (list_any (nat_eq q) seen) e)

  own_below : (g : FragmentOf) (k : ℕ) → slice_get fs k ≡ Some g → (seen : List ℕ) → AreReached g seen → (q : ℕ) → list_any (nat_eq q) (k ∷ seen) ≡ true → q < length fs
  own_below g k at seen h q e = ⊎_elim
      (λ a. subst (λ n. n < length fs) (sym ((Decides-eqb q k).0 a)) (slice_get_within fs k g at))
      (λ b. all_below g seen h q b)
      (or_cases (nat_eq q k) (list_any (nat_eq q) seen) e)

  abbrev HasOperation : FragmentOf → Type 0
  HasOperation g = (o : OperationOf) × Contains x.operations o × Reaches fs o.set g

  -- from where a fragment is spread to where that is spread, until it is in an operation
  step : (g : FragmentOf) (k : ℕ) → slice_get fs k ≡ Some g → Contains fs g → (seen : List ℕ) → IsDistinct nat_eq (k ∷ seen) → AreReached g seen →
      ((w : FragmentOf) (j : ℕ) → slice_get fs j ≡ Some w → Contains fs w → IsDistinct nat_eq (j ∷ (k ∷ seen)) → AreReached w (k ∷ seen) → HasOperation w) → IsSpreadSomewhere g → HasOperation g
  step g k at c seen distinct h again (inl o) = (o.0, o.1, at_once c o.2)
  step g k at c seen distinct h again (inr w) =
      let j = number_of fs w.0 w.1 in
      let reached : AreReached w.0 (k ∷ seen) = ((g, at, at_once c w.2), still_reached g w.0 c w.2 seen h) in
      let once : IsDistinct nat_eq (j.0 ∷ (k ∷ seen)) = IsDistinct-cons nat_eq j.0 (k ∷ seen) (is_new w.0 j.0 j.1 w.1 (k ∷ seen) reached) distinct in
      let r = again w.0 j.0 j.1 w.1 once reached in
      (r.0, r.1, through r.2 c w.2)

  up : (fuel : ℕ) (g : FragmentOf) (k : ℕ) → slice_get fs k ≡ Some g → Contains fs g → (seen : List ℕ) → IsDistinct nat_eq (k ∷ seen) → AreReached g seen →
      fuel + length seen ≡ length fs → HasOperation g
  up zero g k at c seen distinct h count =
      let few : length (k ∷ seen) ≤ length fs = length-le_from_distinct_below (k ∷ seen) (length fs) distinct (own_below g k at seen h) in
      absurd (omega (arith, few, count))
  up (suc fuel) g k at c seen distinct h count =
      let more : fuel + length (k ∷ seen) ≡ length fs = omega (arith, count) in
      step g k at c seen distinct h (λ w j at_w c_w once reached. up fuel w j at_w c_w (k ∷ seen) once reached more) (spread_somewhere g c)

  has_operation : (g : FragmentOf) → Contains fs g → HasOperation g
  has_operation g c =
      let k = number_of fs g c in
      let all : length fs + 0 ≡ length fs = omega arith in
      up (length fs) g k.0 k.1 c [] (IsDistinct-cons nat_eq k.0 [] tt distinct_none) tt all

-- what an operation of a definition is
operation_of : (file : ℕ) (d : Def Span) (o : OperationOf) → Contains (operation_in file d) o → operation_in file d ≡ o ∷ []
operation_of file (operation kind name variables directives set braces place) o c =
    let own : OperationOf = record { file = file; kind = kind; name = name; variables = variables; directives = directives; set = set; braces = braces; place = place } in
    ap (λ z. z ∷ []) (sym (only own o c))
operation_of file (fragment name on directives set braces place) o c = nothing_in o c
operation_of file (type_system definition) o c = nothing_in o c

pub each_reached : (es : List EntryOf) (readings : List ParsedOf) → ((f : Fault) → IsSpreadFault (together es readings) f → ⊥) → EachFragmentIsReached readings
each_reached es readings none f c =
    let w = has_operation (together es readings) none f c in
    let e = from_flat (λ (d : DefinitionOf). operation_in d.file d.definition) (executables readings) w.0 (subst (λ (os : List OperationOf). Contains os w.0) (operations_are readings) w.1) in
    let k = number_of (executables readings) e.0 e.1 in
    record { number = k.0; operation = w.0; at = record { definition = e.0; at = k.1; is = operation_of e.0.file e.0.definition w.0 e.2 }; reached = w.2 }
