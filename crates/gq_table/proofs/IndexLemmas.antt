-- A row is found by the bucket of its call, or by its text.
use Rattle.std.proofs.Common.{◌≡◌, ◌≤◌, ◌<◌, ◌==◌, ℕ, ◌+◌, ◌%◌, List, [], ◌∷◌, ◌++◌, Bool, true, false, length, take, drop, get_or, set, replicate, refl, ap, sym, ◌∙◌, subst, Option, None, Some, max, arith}
use Rattle.std.specs.Prelude.{is_some, not, ◌||◌, slice_get, find, if◌then◌else◌}
use Rattle.std.specs.Option.{option_map, option_or, IfSome}
use Rattle.std.specs.Str.{bytes_eq}
use Rattle.std.proofs.lemmas.Bool.{false≢true, eqb-true, eq-eqb}
use Rattle.std.proofs.lemmas.Nat.{mod_below}
use Rattle.std.proofs.lemmas.List.{drop_more, take_more, get_or-set_same, get_or-set_other, length-set, get_or-replicate, length-replicate, length-map, take_all}
use Rattle.std.proofs.lemmas.List.Folds.{find-append}
use Rattle.std.proofs.lemmas.Option.{slice_get_within, get_or_from_slice_get, slice_get-map, slice_get_read}
use Rattle.gq_names.specs.UnderNames.{items_under, one_if}
use Rattle.gq_meaning.specs.Values.{Text}
use Rattle.gq_meaning.specs.Results.{Answer, Call}
use Rattle.gq_meaning.specs.Depth.{depth}
use Rattle.gq_meaning.proofs.TextLemmas.{text_same}
use Rattle.gq_table.specs.Rows.{RowOf, row_of, same_call, deepest, repeats_after}
use Rattle.gq_table.specs.Helping.CallTexts.{call_text}
use Rattle.gq_table.specs.Helping.Index.{IsIndex, IsPutUnder, bucket_of, is_in, behind_first, bucket_count, first_in, row_numbered, first_of, result_if, result_among}
use Rattle.gq_table.specs.Views.{rows_view, row_view}
use Rattle.gq_table.specs.declared.index.Index.{Index}
use Rattle.gq_table.specs.declared.table.Row.{Row}
use Rattle.gq_table.proofs.SameLemmas.{call_alike, digests_alike}

-- one row more
row_more : (r : RowOf) (rs : List RowOf) (call : Call) → row_of (r ∷ rs) call ≡ (if same_call call r.call then Some r.result else row_of rs call)
row_more r rs call = by_test (same_call call r.call)
  where
    by_test : (b : Bool) → option_map (λ (x : RowOf). x.result) (if b then Some r else find (λ (x : RowOf). same_call call x.call) rs) ≡ (if b then Some r.result else row_of rs call)
    by_test true = refl
    by_test false = refl

-- calls that are one are in one bucket
buckets_alike : (count : ℕ) (a b : Call) → same_call a b ≡ true → bucket_of count a ≡ bucket_of count b
buckets_alike count a b e = ap (λ (n : ℕ). n % count) (digests_alike a b e)

-- a row in another bucket
other_bucket : (count : ℕ) (r : RowOf) (call : Call) → is_in count (bucket_of count call) r ≡ false → same_call call r.call ≡ false
other_bucket count r call e = by_test (same_call call r.call) refl
  where
    by_test : (b : Bool) → same_call call r.call ≡ b → b ≡ false
    by_test true h = absurd (false≢true (sym e ∙ eq-eqb (bucket_of count r.call) (bucket_of count call) (sym (buckets_alike count call r.call h))))
    by_test false h = refl

chosen : (b : Bool) (x : Answer) (o : Option Answer) → first_of (if b then Some x else None) o ≡ (if b then Some x else o)
chosen true x o = refl
chosen false x o = refl

first_none : (o : Option Answer) → first_of o None ≡ o
first_none None = refl
first_none (Some x) = refl

first_grouped : (a b c : Option Answer) → first_of (first_of a b) c ≡ first_of a (first_of b c)
first_grouped None b c = refl
first_grouped (Some x) b c = refl

module _ (call : Call) where
  abbrev now : RowOf → Option Answer
  now r = result_if call (Some r)

  -- one row more
  row_pushed : (rows : List RowOf) (r : RowOf) → row_of (rows ++ r ∷ []) call ≡ first_of (row_of rows call) (now r)
  row_pushed [] r = row_more r [] call
  row_pushed (x ∷ rows) r = row_more x (rows ++ r ∷ []) call ∙ by_test (same_call call x.call) (row_pushed rows r) ∙ ap (λ (o : Option Answer). first_of o (now r)) (sym (row_more x rows call))
    where
      by_test : (b : Bool) → row_of (rows ++ r ∷ []) call ≡ first_of (row_of rows call) (now r) → (if b then Some x.result else row_of (rows ++ r ∷ []) call) ≡ first_of (if b then Some x.result else row_of rows call) (now r)
      by_test true later = refl
      by_test false later = later

  among_append : (rows : List RowOf) (ns ms : List ℕ) → result_among rows call (ns ++ ms) ≡ first_of (result_among rows call ns) (result_among rows call ms)
  among_append rows [] ms = refl
  among_append rows (n ∷ ns) ms =
      ap (first_of (result_if call (slice_get rows n))) (among_append rows ns ms) ∙ sym (first_grouped (result_if call (slice_get rows n)) (result_among rows call ns) (result_among rows call ms))

-- a row of a call is the first one in its bucket, or stands behind it
module _ (count : ℕ) (call : Call) where
  abbrev bucket : ℕ
  bucket = bucket_of count call

  abbrev here : RowOf → Bool
  here r = is_in count bucket r

  abbrev behind : List RowOf → List RowOf
  behind rows = behind_first count bucket rows

  pub in_two : (rows : List RowOf) → row_of rows call ≡ first_of (result_if call (find here rows)) (row_of (behind rows) call)
  in_two [] = refl
  in_two (r ∷ rs) = row_more r rs call ∙ by_test (here r) refl (in_two rs)
    where
      by_test : (b : Bool) → here r ≡ b → row_of rs call ≡ first_of (result_if call (find here rs)) (row_of (behind rs) call) → (if same_call call r.call then Some r.result else row_of rs call)
          ≡ first_of (result_if call (if b then Some r else find here rs)) (row_of (if b then rs else behind rs) call)
      by_test true h later = sym (chosen (same_call call r.call) r.result (row_of rs call))
      by_test false h later = ap (λ (b : Bool). if b then Some r.result else row_of rs call) (other_bucket count r call h) ∙ later

  -- where no row is in the bucket
  none_behind : (rows : List RowOf) → find here rows ≡ None → row_of (behind rows) call ≡ None
  none_behind [] e = refl
  none_behind (r ∷ rs) e = by_test (here r) (none_behind rs) e
    where
      by_test : (b : Bool) → (find here rs ≡ None → row_of (behind rs) call ≡ None) → (if b then Some r else find here rs) ≡ None → row_of (if b then rs else behind rs) call ≡ None
      by_test true later e = cc
      by_test false later e = later e

  -- one row more
  behind_pushed : (rows : List RowOf) (r : RowOf) → row_of (behind (rows ++ r ∷ [])) call ≡ first_of (row_of (behind rows) call) (if is_some (find here rows) then now call r else None)
  behind_pushed [] r = by_test (here r)
    where
      by_test : (b : Bool) → row_of (if b then [] else []) call ≡ None
      by_test true = refl
      by_test false = refl
  behind_pushed (x ∷ rows) r = by_test (here x) (row_pushed call rows r) (behind_pushed rows r)
    where
      by_test : (b : Bool) → row_of (rows ++ r ∷ []) call ≡ first_of (row_of rows call) (now call r)
          → row_of (behind (rows ++ r ∷ [])) call ≡ first_of (row_of (behind rows) call) (if is_some (find here rows) then now call r else None) → row_of (if b then rows ++ r ∷ [] else behind (rows ++ r ∷ [])) call
          ≡ first_of (row_of (if b then rows else behind rows) call) (if is_some (if b then Some x else find here rows) then now call r else None)
      by_test true at_once later = at_once
      by_test false at_once later = later

-- no row is in any bucket
pub no_rows : (index : Index) (count : ℕ) → 0 < count → index.firsts.items ≡ replicate count None → ((text : Text) → items_under index.others text ≡ []) → (rows : List RowOf) → IsIndex index rows []
no_rows index count some free empty rows = record {
  buckets = subst (λ n. 0 < n) (sym same_count) some;
  firsts = λ bucket h. ap (λ (os : List (Option ℕ)). row_numbered rows (get_or os bucket None)) free ∙ ap (row_numbered rows) (get_or-replicate count bucket None None (subst (λ n. bucket < n) same_count h));
  others = λ call. ap (result_among rows call) (empty (call_text call));
}
  where
    same_count : bucket_count index ≡ count
    same_count = ap length free ∙ length-replicate count None

-- ---- a call is looked for

module _ (index : Index) (rows these : List RowOf) (holds : IsIndex index rows these) (call : Call) where
  abbrev its : ℕ
  its = bucket_of (bucket_count index) call

  abbrev first_row : Option RowOf
  first_row = row_numbered rows (first_in index its)

  abbrev other : Option Answer
  other = row_of (behind_first (bucket_count index) its these) call

  first_is : first_row ≡ find (is_in (bucket_count index) its) these
  first_is = holds.firsts its (mod_below _ (bucket_count index) holds.buckets)

  found_first : row_of these call ≡ first_of (result_if call first_row) other
  found_first = in_two (bucket_count index) call these ∙ ap (λ (o : Option RowOf). first_of (result_if call o) other) (sym first_is)

  pub none_found : first_row ≡ None → row_of these call ≡ None
  none_found none = found_first ∙ ap (λ (o : Option RowOf). first_of (result_if call o) other) none ∙ none_behind (bucket_count index) call these (sym first_is ∙ none)

  pub found_here : (r : RowOf) (x : Answer) → first_row ≡ Some r → result_if call (Some r) ≡ Some x → row_of these call ≡ Some x
  found_here r x at is = found_first ∙ ap (λ (o : Option RowOf). first_of (result_if call o) other) at ∙ ap (λ (o : Option Answer). first_of o other) is

  pub found_other : (r : RowOf) → first_row ≡ Some r → result_if call (Some r) ≡ None → row_of these call ≡ result_among rows call (items_under index.others (call_text call))
  found_other r at is = found_first ∙ ap (λ (o : Option RowOf). first_of (result_if call o) other) at ∙ ap (λ (o : Option Answer). first_of o other) is ∙ sym (holds.others call)

-- ---- a row is put

module _ (old new : Index) (rows these : List RowOf) (r : RowOf) (number : ℕ) (holds : IsIndex old rows these) where
  abbrev count : ℕ
  count = bucket_count old

  abbrev its_bucket : ℕ
  its_bucket = bucket_of count r.call

  abbrev none : Option Answer
  none = None

  or_none : (o : Option RowOf) → o ≡ option_or o None
  or_none None = refl
  or_none (Some x) = refl

  no_answer : (b : Bool) → (if b then none else none) ≡ none
  no_answer true = refl
  no_answer false = refl

  -- in its bucket, in which no row is
  pub index_in_bucket : find (is_in count its_bucket) these ≡ None → slice_get rows number ≡ Some r → new.firsts.items ≡ set old.firsts.items its_bucket (Some number) → new.others ≡ old.others → IsIndex new rows (these ++ r ∷ [])
  index_in_bucket free at sets kept = record { buckets = subst (λ n. 0 < n) (sym same_count) holds.buckets; firsts = firsts; others = texts }
    where
      same_count : bucket_count new ≡ count
      same_count = ap length sets ∙ length-set old.firsts.items its_bucket (Some number)

      by_bucket : (d : ℕ) (b : Bool) → d < count → (its_bucket == d) ≡ b → row_numbered rows (get_or (set old.firsts.items its_bucket (Some number)) d None) ≡ option_or (find (is_in count d) these) (if b then Some r else None)
      by_bucket d true h e = let is : its_bucket ≡ d = eqb-true its_bucket d e in
          ap (row_numbered rows) (subst (λ n. get_or (set old.firsts.items its_bucket (Some number)) n None ≡ Some number) is (get_or-set_same old.firsts.items its_bucket (Some number) None (mod_below _ count holds.buckets)))
          ∙ at ∙ ap (λ (o : Option RowOf). option_or o (Some r)) (sym (subst (λ n. find (is_in count n) these ≡ None) is free))
      by_bucket d false h e = ap (row_numbered rows) (get_or-set_other old.firsts.items its_bucket d (Some number) None (λ is. false≢true (sym e ∙ eq-eqb its_bucket d (sym is)))) ∙ holds.firsts d h ∙ or_none (find (is_in count d) these)

      firsts : (d : ℕ) → d < bucket_count new → row_numbered rows (first_in new d) ≡ find (is_in (bucket_count new) d) (these ++ r ∷ [])
      firsts d h =
          ap (λ (os : List (Option ℕ)). row_numbered rows (get_or os d None)) sets ∙ by_bucket d (its_bucket == d) (subst (λ n. d < n) same_count h) refl ∙ sym (find-append (is_in count d) these (r ∷ []))
          ∙ ap (λ n. find (is_in n d) (these ++ r ∷ [])) (sym same_count)

      nothing_new : (call : Call) (b : Bool) → same_call call r.call ≡ b → (if is_some (find (is_in count (bucket_of count call)) these) then (if b then Some r.result else None) else None) ≡ None
      nothing_new call true e = ap (λ (o : Option RowOf). if is_some o then Some r.result else None) (subst (λ n. find (is_in count n) these ≡ None) (sym (buckets_alike count call r.call e)) free)
      nothing_new call false e = no_answer (is_some (find (is_in count (bucket_of count call)) these))

      texts : (call : Call) → result_among rows call (items_under new.others (call_text call)) ≡ row_of (behind_first (bucket_count new) (bucket_of (bucket_count new) call) (these ++ r ∷ [])) call
      texts call =
          ap (λ u. result_among rows call (items_under u (call_text call))) kept ∙ holds.others call ∙ sym (first_none (row_of (behind_first count (bucket_of count call) these) call))
          ∙ ap (first_of (row_of (behind_first count (bucket_of count call) these) call)) (sym (nothing_new call (same_call call r.call) refl)) ∙ sym (behind_pushed count call these r)
          ∙ ap (λ n. row_of (behind_first n (bucket_of n call) (these ++ r ∷ [])) call) (sym same_count)

  -- by its text, since another row is in its bucket
  pub index_by_text : (x : RowOf) → find (is_in count its_bucket) these ≡ Some x → slice_get rows number ≡ Some r → new.firsts ≡ old.firsts → IsPutUnder r.call number old.others new.others → IsIndex new rows (these ++ r ∷ [])
  index_by_text x taken at kept put = record { buckets = subst (λ n. 0 < n) (sym same_count) holds.buckets; firsts = firsts; others = texts }
    where
      same_count : bucket_count new ≡ count
      same_count = ap (λ v. length v.items) kept

      by_bucket : (d : ℕ) (b : Bool) → (its_bucket == d) ≡ b → find (is_in count d) these ≡ option_or (find (is_in count d) these) (if b then Some r else None)
      by_bucket d true e = let is : find (is_in count d) these ≡ Some x = subst (λ n. find (is_in count n) these ≡ Some x) (eqb-true its_bucket d e) taken in
          is ∙ ap (λ (o : Option RowOf). option_or o (Some r)) (sym is)
      by_bucket d false e = or_none (find (is_in count d) these)

      firsts : (d : ℕ) → d < bucket_count new → row_numbered rows (first_in new d) ≡ find (is_in (bucket_count new) d) (these ++ r ∷ [])
      firsts d h =
          ap (λ v. row_numbered rows (get_or v.items d None)) kept ∙ holds.firsts d (subst (λ n. d < n) same_count h) ∙ by_bucket d (its_bucket == d) refl ∙ sym (find-append (is_in count d) these (r ∷ []))
          ∙ ap (λ n. find (is_in n d) (these ++ r ∷ [])) (sym same_count)

      one_more : (call : Call) (b : Bool) → result_among rows call (one_if b number) ≡ (if b then result_if call (Some r) else None)
      one_more call true = ap (λ o. first_of (result_if call o) None) at ∙ first_none (result_if call (Some r))
      one_more call false = refl

      same_more : (call : Call) (b : Bool) → same_call call r.call ≡ b →
          (if bytes_eq (call_text call) (call_text r.call) then (if b then Some r.result else None) else None) ≡ (if is_some (find (is_in count (bucket_of count call)) these) then (if b then Some r.result else None) else None)
      same_more call true e =
          ap (λ (b : Bool). if b then Some r.result else None) (text_same _ _ (call_alike call r.call e))
          ∙ sym (ap (λ (o : Option RowOf). if is_some o then Some r.result else None) (subst (λ n. find (is_in count n) these ≡ Some x) (sym (buckets_alike count call r.call e)) taken))
      same_more call false e = no_answer (bytes_eq (call_text call) (call_text r.call)) ∙ sym (no_answer (is_some (find (is_in count (bucket_of count call)) these)))

      texts : (call : Call) → result_among rows call (items_under new.others (call_text call)) ≡ row_of (behind_first (bucket_count new) (bucket_of (bucket_count new) call) (these ++ r ∷ [])) call
      texts call =
          ap (result_among rows call) (put (call_text call)) ∙ among_append call rows (items_under old.others (call_text call)) (one_if (bytes_eq (call_text call) (call_text r.call)) number)
          ∙ ap (λ (o : Option Answer). first_of o (result_among rows call (one_if (bytes_eq (call_text call) (call_text r.call)) number))) (holds.others call)
          ∙ ap (first_of (row_of (behind_first count (bucket_of count call) these) call)) (one_more call (bytes_eq (call_text call) (call_text r.call)) ∙ same_more call (same_call call r.call) refl)
          ∙ sym (behind_pushed count call these r) ∙ ap (λ n. row_of (behind_first n (bucket_of n call) (these ++ r ∷ [])) call) (sym same_count)

-- a row's result nests no deeper than the deepest
within : (rows : List RowOf) (call : Call) (a : Answer) → row_of rows call ≡ Some a → depth a.below ≤ deepest rows
within [] call a e = cc
within (r ∷ rs) call a e = by_test (same_call call r.call) (λ h. within rs call a h) (sym (row_more r rs call) ∙ e)
  where
    by_test : (b : Bool) → (row_of rs call ≡ Some a → depth a.below ≤ deepest rs) → (if b then Some r.result else row_of rs call) ≡ Some a → depth a.below ≤ max (depth r.result.below) (deepest rs)
    by_test true later h = let same : r.result ≡ a = cc in subst (λ (x : Answer). depth x.below ≤ max (depth r.result.below) (deepest rs)) same (omega arith)
    by_test false later h = let low : depth a.below ≤ deepest rs = later h in omega arith

pub within_deepest : {B : Type 0} (view : B → Answer) (rows : List RowOf) (call : Call) (o : Option B) → option_map view o ≡ row_of rows call → IfSome o (λ r. depth (view r).below ≤ deepest rows)
within_deepest view rows call None e = tt
within_deepest view rows call (Some r) e = within rows call (view r) (sym e)

-- ---- the rows one by one

module _ {A : Type 0} (xs : List A) (n : ℕ) (x : A) (at : slice_get xs n ≡ Some x) where
  pub take_next : take (n + 1) xs ≡ take n xs ++ x ∷ []
  take_next = take_more xs n x (slice_get_within xs n x at) ∙ ap (λ (y : A). take n xs ++ y ∷ []) (get_or_from_slice_get xs n x x at)

  drop_next : drop n xs ≡ x ∷ drop (n + 1) xs
  drop_next = drop_more xs n x (slice_get_within xs n x at) ∙ ap (λ (y : A). y ∷ drop (n + 1) xs) (get_or_from_slice_get xs n x x at)

module _ (rows : List RowOf) (n : ℕ) (r : RowOf) (whole : Bool) (at : slice_get rows n ≡ Some r) (is : repeats_after (take n rows) (drop n rows) ≡ whole) where
  one_test : (is_some (row_of (take n rows) r.call) || repeats_after (take (n + 1) rows) (drop (n + 1) rows)) ≡ whole
  one_test =
      ap (λ (rs : List RowOf). is_some (row_of (take n rows) r.call) || repeats_after rs (drop (n + 1) rows)) (take_next rows n r at)
      ∙ sym (ap (repeats_after (take n rows)) (drop_next rows n r at)) ∙ is

  pub fresh_more : is_some (row_of (take n rows) r.call) ≡ false → repeats_after (take (n + 1) rows) (drop (n + 1) rows) ≡ whole
  fresh_more new = sym (ap (λ (b : Bool). b || repeats_after (take (n + 1) rows) (drop (n + 1) rows)) new) ∙ one_test

  pub repeated : is_some (row_of (take n rows) r.call) ≡ true → false ≡ not whole
  repeated old = ap not (sym (ap (λ (b : Bool). b || repeats_after (take (n + 1) rows) (drop (n + 1) rows)) old) ∙ one_test)

-- the row at a place
pub row_at_place : (rows : List Row) (n : ℕ) (row : Row) → n < length rows → row ≡ get_or rows n row → slice_get (rows_view rows) n ≡ Some (row_view row)
row_at_place rows n row inside is = slice_get-map row_view rows n ∙ ap (option_map row_view) (slice_get_read rows (length rows) n row refl inside is)

-- past the last row all are taken
pub all_taken : (rows : List Row) (n : ℕ) → length rows ≤ n → take n (rows_view rows) ≡ rows_view rows
all_taken rows n h = take_all n (rows_view rows) (subst (λ m. m ≤ n) (sym (length-map rows row_view)) h)

pub is_old : (old new : Bool) → new ≡ not old → new ≡ false → old ≡ true
is_old true new is e = refl
is_old false new is e = absurd (false≢true (sym e ∙ is))

pub is_fresh : (old new : Bool) → new ≡ not old → new ≡ true → old ≡ false
is_fresh true new is e = absurd (false≢true (sym is ∙ e))
is_fresh false new is e = refl

-- the first of the numbers that are left
next_number : (rows : List RowOf) (call : Call) (ns : List ℕ) (i n : ℕ) → i < length ns → n ≡ get_or ns i 0 → result_among rows call (drop i ns) ≡ first_of (result_if call (slice_get rows n)) (result_among rows call (drop (i + 1) ns))
next_number rows call ns i n h e =
    ap (result_among rows call) (drop_more ns i 0 h) ∙ ap (λ m. first_of (result_if call (slice_get rows m)) (result_among rows call (drop (i + 1) ns))) (sym e)

pub among_here : (rows : List RowOf) (call : Call) (ns : List ℕ) (i n : ℕ) (x : Answer) (whole : Option Answer) → i < length ns → n ≡ get_or ns i 0 → Some x ≡ result_if call (slice_get rows n) → result_among rows call (drop i ns) ≡ whole → Some x ≡ whole
among_here rows call ns i n x whole h e is w = ap (λ o. first_of o (result_among rows call (drop (i + 1) ns))) is ∙ sym (next_number rows call ns i n h e) ∙ w

pub among_later : (rows : List RowOf) (call : Call) (ns : List ℕ) (i n : ℕ) (whole : Option Answer) → i < length ns → n ≡ get_or ns i 0 → None ≡ result_if call (slice_get rows n) → result_among rows call (drop i ns) ≡ whole → result_among rows call (drop (i + 1) ns) ≡ whole
among_later rows call ns i n whole h e is w = ap (λ o. first_of o (result_among rows call (drop (i + 1) ns))) is ∙ sym (next_number rows call ns i n h e) ∙ w
