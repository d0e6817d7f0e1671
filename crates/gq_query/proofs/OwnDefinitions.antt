-- How the executable definitions of one document stand among all: those of the documents before it come first, then its own, then the others. So the first has the
-- number that a search finds, and what is named in the document is named in its own.
use Rattle.std.proofs.Common.{◌≡◌, ℕ, zero, suc, ◌+◌, ◌-◌, ◌<◌, ◌≤◌, nat_eq, nat_lt, Bool, true, false, cond, List, [], ◌∷◌, ◌++◌, All, length, take, map, flat_map, get_or, slice_get}
use Rattle.std.proofs.Common.{Option, Some, None, refl, sym, ap, ◌∙◌, subst, ⊎_elim, arith, append_assoc, length-append, eq-eqb, lt-ltb}
use Rattle.std.specs.List.{enumerate_from}
use Rattle.std.specs.List.Sorted.{IsPartitionedBy, IsPartitionPoint}
use Rattle.std.proofs.lemmas.Bool.Decides.{nat_tests}
use Rattle.std.specs.Option.{option_map}
use Rattle.std.proofs.lemmas.List.{map-append, length-map, get_or_append_left, get_or-append-add}
use Rattle.std.proofs.lemmas.List.Elements.{All-nil, All-cons, All-append, All-weaker, All-head, All-tail, All-map}
use Rattle.std.proofs.lemmas.Option.{get_or_from_slice_get, slice_get_within, slice_get-map}
use Rattle.gq_text.specs.declared.place.Span.{Span}
use Rattle.gq_types.proofs.Gathered.{mapped}
use Rattle.gq_tree.specs.Plain.{Def, operation, fragment, type_system}
use Rattle.gq_tree.specs.Readings.{ParsedOf, definitions_read, in_document}
use Rattle.gq_index.specs.declared.occurrence.Occurrence.{Occurrence}
use Rattle.gq_index.specs.Occurrences.{DefinitionOf, executable_in, executables, definition_places, place_of}
use Rattle.gq_mentions.specs.Mentions.{MentionOf, mentions_in}
use Rattle.gq_query.specs.Asked.{mentions_of}
use Rattle.gq_query.specs.Helping.Own.{definitions_of, own_definitions, first_number, mentions_from}
use Rattle.gq_query.proofs.Exact.{less_or_not}

-- the definitions of documents that are numbered from n on
abbrev pub executables_from : ℕ → List ParsedOf → List DefinitionOf
executables_from n rs = flat_map (λ r. in_document executable_in r.0 r.1) (enumerate_from n rs)

-- all of them are those before, a document's own and those after
pub record IsSplit (file : ℕ) (all before own : List DefinitionOf) : Type 0 where
  pub after : List DefinitionOf
  pub is : all ≡ before ++ (own ++ after)
  pub below : All (λ d. d.file < file) before
  pub same : All (λ d. d.file ≡ file) own
  pub above : All (λ d. file < d.file) after

of_one : (n : ℕ) (d : Def Span) → All (λ (x : DefinitionOf). x.file ≡ n) (executable_in n d)
of_one n (operation kind name variables directives set braces place) =
    All-cons (λ (x : DefinitionOf). x.file ≡ n) (record { file = n; definition = operation kind name variables directives set braces place }) [] refl (All-nil (λ (x : DefinitionOf). x.file ≡ n))
of_one n (fragment name on directives set braces place) =
    All-cons (λ (x : DefinitionOf). x.file ≡ n) (record { file = n; definition = fragment name on directives set braces place }) [] refl (All-nil (λ (x : DefinitionOf). x.file ≡ n))
of_one n (type_system definition) = All-nil (λ (x : DefinitionOf). x.file ≡ n)

of_document : (n : ℕ) (ds : List (Def Span)) → All (λ (x : DefinitionOf). x.file ≡ n) (flat_map (executable_in n) ds)
of_document n [] = All-nil (λ (x : DefinitionOf). x.file ≡ n)
of_document n (d ∷ ds) = All-append (λ (x : DefinitionOf). x.file ≡ n) (executable_in n d) (flat_map (executable_in n) ds) (of_one n d) (of_document n ds)

of_documents : (n : ℕ) (rs : List ParsedOf) → All (λ (x : DefinitionOf). n ≤ x.file) (executables_from n rs)
of_documents n [] = All-nil (λ (x : DefinitionOf). n ≤ x.file)
of_documents n (r ∷ rs) =
    All-append (λ (x : DefinitionOf). n ≤ x.file) (in_document executable_in n r) (executables_from (n + 1) rs)
    (All-weaker (λ (x : DefinitionOf). x.file ≡ n) (λ (x : DefinitionOf). n ≤ x.file) (λ x e. omega (arith, e)) (in_document executable_in n r) (of_document n (definitions_read r)))
    (All-weaker (λ (x : DefinitionOf). n + 1 ≤ x.file) (λ (x : DefinitionOf). n ≤ x.file) (λ x h. omega (arith, h)) (executables_from (n + 1) rs) (of_documents (n + 1) rs))

none_split : (file : ℕ) → IsSplit file [] [] []
none_split file = record {
  after = [];
  is = refl;
  below = All-nil (λ (d : DefinitionOf). d.file < file);
  same = All-nil (λ (d : DefinitionOf). d.file ≡ file);
  above = All-nil (λ (d : DefinitionOf). file < d.file);
}

split_from : (k n file : ℕ) (rs : List ParsedOf) → file ≡ n + k → IsSplit file (executables_from n rs) (executables_from n (take k rs)) (flat_map (executable_in file) (definitions_of k rs))
split_from zero n file [] e = none_split file
split_from zero n file (r ∷ rs) e =
    let at : n ≡ file = omega (arith, e) in
    record {
      after = executables_from (n + 1) rs;
      is = ap (λ (f : ℕ). flat_map (executable_in f) (definitions_read r) ++ executables_from (n + 1) rs) at;
      below = All-nil (λ (d : DefinitionOf). d.file < file);
      same = of_document file (definitions_read r);
      above = All-weaker (λ (x : DefinitionOf). n + 1 ≤ x.file) (λ (x : DefinitionOf). file < x.file) (λ x h. omega (arith, at, h)) (executables_from (n + 1) rs) (of_documents (n + 1) rs);
    }
split_from (suc k) n file [] e = none_split file
split_from (suc k) n file (r ∷ rs) e =
    let rest = split_from k (n + 1) file rs (omega (arith, e)) in
    record {
      after = rest.after;
      is =
          ap (λ (l : List DefinitionOf). in_document executable_in n r ++ l) rest.is
          ∙ sym (append_assoc (in_document executable_in n r) (executables_from (n + 1) (take k rs)) (flat_map (executable_in file) (definitions_of k rs) ++ rest.after));
      below =
          All-append (λ (d : DefinitionOf). d.file < file) (in_document executable_in n r) (executables_from (n + 1) (take k rs))
          (All-weaker (λ (x : DefinitionOf). x.file ≡ n) (λ (x : DefinitionOf). x.file < file) (λ x h. omega (arith, e, h)) (in_document executable_in n r) (of_document n (definitions_read r)))
          rest.below;
      same = rest.same;
      above = rest.above;
    }

pub split : (file : ℕ) (rs : List ParsedOf) → IsSplit file (executables rs) (executables (take file rs)) (own_definitions file rs)
split file rs = split_from file 0 file rs (omega arith)

-- what is named in a document
module _ (file : ℕ) where
  named_before : (n m : ℕ) (before rest : List DefinitionOf) → m ≡ n + length before → All (λ d. d.file < file) before → mentions_of file n (before ++ rest) ≡ mentions_of file m rest
  named_before n m [] rest e below = let same : n ≡ m = omega (arith, e) in ap (λ (k : ℕ). mentions_of file k rest) same
  named_before n m (d ∷ ds) rest e below =
      let less : d.file < file = All-head (λ (x : DefinitionOf). x.file < file) d ds below in
      let other : nat_eq d.file file ≡ false = grind (arith, nat_tests) in
      ap (λ (b : Bool). cond b (mentions_in n d.definition) [] ++ mentions_of file (n + 1) (ds ++ rest)) other
      ∙ named_before (n + 1) m ds rest (omega (arith, e)) (All-tail (λ (x : DefinitionOf). x.file < file) d ds below)

  named_after : (n : ℕ) (after : List DefinitionOf) → All (λ d. file < d.file) after → mentions_of file n after ≡ []
  named_after n [] above = refl
  named_after n (d ∷ ds) above =
      let more : file < d.file = All-head (λ (x : DefinitionOf). file < x.file) d ds above in
      let other : nat_eq d.file file ≡ false = grind (arith, nat_tests) in
      ap (λ (b : Bool). cond b (mentions_in n d.definition) [] ++ mentions_of file (n + 1) ds) other
      ∙ named_after (n + 1) ds (All-tail (λ (x : DefinitionOf). file < x.file) d ds above)

  named_own : (n : ℕ) (own after : List DefinitionOf) → All (λ d. d.file ≡ file) own → All (λ d. file < d.file) after → mentions_of file n (own ++ after) ≡ mentions_from n own
  named_own n [] after same above = named_after n after above
  named_own n (d ∷ ds) after same above =
      let own : nat_eq d.file file ≡ true = eq-eqb d.file file (All-head (λ (x : DefinitionOf). x.file ≡ file) d ds same) in
      ap (λ (b : Bool). cond b (mentions_in n d.definition) [] ++ mentions_of file (n + 1) (ds ++ after)) own
      ∙ ap (λ (l : List MentionOf). mentions_in n d.definition ++ l) (named_own (n + 1) ds after (All-tail (λ (x : DefinitionOf). x.file ≡ file) d ds same) above)

pub named_in_document : (file : ℕ) (rs : List ParsedOf) → mentions_of file 0 (executables rs) ≡ mentions_from (first_number file rs) (own_definitions file rs)
named_in_document file rs =
    let s = split file rs in
    ap (mentions_of file 0) s.is
    ∙ named_before file 0 (first_number file rs) (executables (take file rs)) (own_definitions file rs ++ s.after) (omega arith) s.below
    ∙ named_own file (first_number file rs) (own_definitions file rs) s.after s.same s.above

-- where a search ends in a list of which the front passes a test and the back does not
not_below : (a b : ℕ) → b ≤ a → nat_lt a b ≡ false
not_below a b h = grind (arith, nat_tests)

module _ {X : Type 0} (p : X → Bool) (front back : List X) (passes : All (λ x. p x ≡ true) front) (fails : All (λ x. p x ≡ false) back) where
  in_back : (j : ℕ) (d : X) → length front ≤ j → j < length (front ++ back) → p (get_or (front ++ back) j d) ≡ false
  in_back j d past within =
      let same : length front + (j - length front) ≡ j = omega (arith, past) in
      let below : j - length front < length back = omega (arith, past, within, length-append front back) in
      ap (λ (k : ℕ). p (get_or (front ++ back) k d)) (sym same)
      ∙ ap p (get_or-append-add front back (j - length front) d)
      ∙ fails (j - length front) d below

  in_front : (i : ℕ) (d : X) → i < length front → p (get_or (front ++ back) i d) ≡ true
  in_front i d below = ap p (get_or_append_left front back d i below) ∙ passes i d below

  pub is_partitioned : IsPartitionedBy p (front ++ back)
  is_partitioned i j d le within at = ⊎_elim
      (λ less. in_front i d (omega (arith, le, less)))
      (λ past. let no = in_back j d past within in absurd (cc))
      (less_or_not j (length front))

  pub point_is : (i : ℕ) (d : X) → i ≤ length (front ++ back) → IsPartitionPoint (λ x. p x ≡ true) (λ x. p x ≡ false) (front ++ back) i → i ≡ length front
  point_is i d within point = ⊎_elim
      (λ less.
      let yes = in_front i d less in
      let no = point.1 i d (omega arith) (omega (arith, less, length-append front back)) in
      absurd (cc))
      (λ past. ⊎_elim
      (λ more.
      let no = in_back (length front) d (omega arith) (omega (arith, more, within)) in
      let yes = point.0 (length front) d (omega arith) more in
      absurd (cc))
      (λ not_more. omega (arith, past, not_more))
      (less_or_not (length front) i))
      (less_or_not i (length front))

-- the search for the first definition of a document
abbrev pub is_before : ℕ → Occurrence → Bool
is_before file o = nat_lt o.file file

abbrev pub place_in : DefinitionOf → Occurrence
place_in d = record { file = d.file; span = place_of d.definition }

pub first_is : (file : ℕ) (rs : List ParsedOf) (places : List Occurrence) (i : ℕ) → places ≡ definition_places (executables rs) → i ≤ length places
    → (IsPartitionedBy (is_before file) places → IsPartitionPoint (λ o. is_before file o ≡ true) (λ o. is_before file o ≡ false) places i) → i ≡ first_number file rs
first_is file rs places i all within finds =
    let s = split file rs in
    let before = executables (take file rs) in
    let behind = own_definitions file rs ++ s.after in
    let front = map place_in before in
    let back = map place_in behind in
    let is : places ≡ front ++ back = all ∙ ap definition_places s.is ∙ map-append place_in before behind in
    let passes : All (λ (o : Occurrence). is_before file o ≡ true) front =
    All-map (λ (o : Occurrence). is_before file o ≡ true) place_in before
    (All-weaker (λ (d : DefinitionOf). d.file < file) (λ (d : DefinitionOf). nat_lt d.file file ≡ true) (λ d h. lt-ltb d.file file h) before s.below) in
    let fails : All (λ (o : Occurrence). is_before file o ≡ false) back =
    All-map (λ (o : Occurrence). is_before file o ≡ false) place_in behind
    (All-append (λ (d : DefinitionOf). nat_lt d.file file ≡ false) (own_definitions file rs) s.after
    (All-weaker (λ (d : DefinitionOf). d.file ≡ file) (λ (d : DefinitionOf). nat_lt d.file file ≡ false) (λ d h. not_below d.file file (omega (arith, h))) (own_definitions file rs) s.same)
    (All-weaker (λ (d : DefinitionOf). file < d.file) (λ (d : DefinitionOf). nat_lt d.file file ≡ false) (λ d h. not_below d.file file (omega (arith, h))) s.after s.above)) in
    let partitioned = subst (λ (l : List Occurrence). IsPartitionedBy (is_before file) l) (sym is) (is_partitioned (is_before file) front back passes fails) in
    let point = subst (λ (l : List Occurrence). IsPartitionPoint (λ o. is_before file o ≡ true) (λ o. is_before file o ≡ false) l i) is (finds partitioned) in
    let some : Occurrence = record { file = 0; span = record { start = 0; end = 0 } } in
    point_is (is_before file) front back passes fails i some (subst (λ (l : List Occurrence). i ≤ length l) is within) point ∙ length-map before place_in

-- what has a number, by the document that it stands in
get_before : {X : Type 0} (xs ys : List X) (k : ℕ) → k < length xs → slice_get (xs ++ ys) k ≡ slice_get xs k
get_before [] ys k h = absurd (omega (arith, h))
get_before (x ∷ xs) ys zero h = refl
get_before (x ∷ xs) ys (suc k) h = get_before xs ys k (omega (arith, h))

get_behind : {X : Type 0} (xs ys : List X) (j k : ℕ) → k ≡ length xs + j → slice_get (xs ++ ys) k ≡ slice_get ys j
get_behind [] ys j k e = let same : k ≡ j = omega (arith, e) in ap (λ (n : ℕ). slice_get ys n) same
get_behind (x ∷ xs) ys j zero e = absurd (omega (arith, e))
get_behind (x ∷ xs) ys j (suc k) e = get_behind xs ys j k (omega (arith, e))

all_at : {X : Type 0} (P : X → Type 0) (xs : List X) (k : ℕ) (x : X) → All P xs → slice_get xs k ≡ Some x → P x
all_at P xs k x all at = subst P (get_or_from_slice_get xs k x x at) (all k x (slice_get_within xs k x at))

own_at : (file : ℕ) (rs : List ParsedOf) (number : ℕ) (d : DefinitionOf) → slice_get (executables rs) number ≡ Some d → d.file ≡ file
    → (first_number file rs ≤ number) × (slice_get (own_definitions file rs) (number - first_number file rs) ≡ slice_get (executables rs) number)
own_at file rs number d at is =
    let s = split file rs in
    let before = executables (take file rs) in
    let own = own_definitions file rs in
    let k = number - length before in
    let j = k - length own in
    let same : slice_get (before ++ (own ++ s.after)) number ≡ slice_get (executables rs) number = ap (λ (l : List DefinitionOf). slice_get l number) (sym s.is) in
    ⊎_elim
    (λ less.
    let low : d.file < file = all_at (λ (x : DefinitionOf). x.file < file) before number d s.below (sym (get_before before (own ++ s.after) number less) ∙ same ∙ at) in
    absurd (omega (arith, low, is)))
    (λ past.
    let behind : slice_get (before ++ (own ++ s.after)) number ≡ slice_get (own ++ s.after) k = get_behind before (own ++ s.after) k number (omega (arith, past)) in
    ⊎_elim
    (λ within. (past, sym (get_before own s.after k within) ∙ sym behind ∙ same))
    (λ out.
    let high : file < d.file = all_at (λ (x : DefinitionOf). file < x.file) s.after j d s.above (sym (get_behind own s.after j k (omega (arith, out))) ∙ sym behind ∙ same ∙ at) in
    absurd (omega (arith, high, is)))
    (less_or_not k (length own)))
    (less_or_not number (length before))

-- what stands at a number, by the places of all
module _ (rs : List ParsedOf) (places : List Occurrence) (number : ℕ) (all : places ≡ definition_places (executables rs)) where
  place_of_number : option_map place_in (slice_get (executables rs) number) ≡ slice_get places number
  place_of_number = sym (slice_get-map place_in (executables rs) number) ∙ ap (λ (l : List Occurrence). slice_get l number) (sym all)

  pub at_place : (place : Occurrence) → slice_get places number ≡ Some place
      → (first_number place.file rs ≤ number) × (slice_get (own_definitions place.file rs) (number - first_number place.file rs) ≡ slice_get (executables rs) number)
  at_place place at =
      let d = mapped place_in (slice_get (executables rs) number) place (place_of_number ∙ at) in
      own_at place.file rs number d.0 d.1 (ap (λ (o : Occurrence). o.file) d.2)

  pub at_no_place : slice_get places number ≡ None → None ≡ slice_get (executables rs) number
  at_no_place at = by (slice_get (executables rs) number) (place_of_number ∙ at)
    where
      by : (o : Option DefinitionOf) → option_map place_in o ≡ None → None ≡ o
      by None e = refl
      by (Some d) e = absurd (cc)
