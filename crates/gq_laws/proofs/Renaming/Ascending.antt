-- Entries in the order of their names, and what is found among them.
use Rattle.std.proofs.Common.{◌≡◌, Bool, true, false, cond, List, [], ◌∷◌, Option, Some, None, refl, sym, ap, ◌∙◌}
use Rattle.std.specs.Option.{option_map, option_or}
use Rattle.std.specs.Ordering.{nat_cmp, match_ordering, ordering_reverse}
use Rattle.std.specs.declared.cmp.Ordering.{Ordering}
use Rattle.std.specs.declared.cmp.Ordering.TheVariants.{Less, Equal, Greater}
use Rattle.std.specs.Cmp.Lexicographic.{slice_cmp, nat_list_cmp_total, bytes_decides}
use Rattle.std.specs.Str.{bytes_eq}
use Rattle.gq_tree.specs.Forest.{row}
use Rattle.gq_meaning.specs.Values.{Text, Value}
use Rattle.gq_meaning.specs.Directives.{is_keyed, entry_of}
use Rattle.gq_coerce.specs.Coerced.{unnamed, under, is_before, put_entry}
use Rattle.gq_laws.specs.Renaming.GivenValues.{value_under}

less_is : (o : Ordering) → match_ordering o true false false ≡ true → o ≡ Less
less_is Less e = refl
less_is Equal e = absurd (cc)
less_is Greater e = absurd (cc)

is_less : (a b : Text) → is_before a (Some b) ≡ true → slice_cmp nat_cmp a b ≡ Less
is_less a b e = less_is (slice_cmp nat_cmp a b) e

never : (o : Ordering) → o ≡ ordering_reverse o → o ≡ Less → ⊥
never Less e f = absurd (cc)
never Equal e f = absurd (cc)
never Greater e f = absurd (cc)

not_itself : (a : Text) → is_before a (Some a) ≡ true → ⊥
not_itself a e = never (slice_cmp nat_cmp a a) (nat_list_cmp_total.antisymm a a) (is_less a a e)

not_before : (m : Text) (t : Bool) → is_before m (Some m) ≡ t → t ≡ false
not_before m true f = absurd (not_itself m f)
not_before m false f = refl

through : (a b c : Text) → is_before a (Some b) ≡ true → is_before b (Some c) ≡ true → is_before a (Some c) ≡ true
through a b c e f = ap (λ (o : Ordering). match_ordering o true false false) (nat_list_cmp_total.trans a b c (is_less a b e) (is_less b c f))

-- whether a key is before another
abbrev less : Option Text → Option Text → Bool
less None key = false
less (Some name) key = is_before name key

not_both_ways : (n : Text) (k : Option Text) → is_before n k ≡ true → less k (Some n) ≡ false
not_both_ways n None e = refl
not_both_ways n (Some m) e = by (is_before m (Some n)) refl
  where
    by : (b : Bool) → is_before m (Some n) ≡ b → b ≡ false
    by true f = absurd (not_itself n (through n m n e f))
    by false f = refl

below_too : (f k : Option Text) (n : Text) → less f k ≡ false → is_before n k ≡ true → less f (Some n) ≡ false
below_too None k n e h = refl
below_too (Some m) None n e h = absurd (cc)
below_too (Some m) (Some k) n e h = by (is_before m (Some n)) refl
  where
    by : (b : Bool) → is_before m (Some n) ≡ b → b ≡ false
    by true t = absurd (let one : is_before m (Some k) ≡ true = through m n k t h in let two : true ≡ false = sym one ∙ e in cc)
    by false t = refl

-- no key is before that one, and each is before none of those behind it
abbrev pub NoneBefore : Option Text → List Value → Type 0
NoneBefore key [] = Unit {0}
NoneBefore key (e ∷ es) = (less e.label.key key ≡ false) × NoneBefore key es

abbrev pub Ascending : List Value → Type 0
Ascending [] = Unit {0}
Ascending (e ∷ es) = NoneBefore e.label.key es × Ascending es

none_below : (k : Option Text) (n : Text) (es : List Value) → NoneBefore k es → is_before n k ≡ true → NoneBefore (Some n) es
none_below k n [] h b = tt
none_below k n (e ∷ es) h b = (below_too e.label.key k n h.0 b, none_below k n es h.1 b)

put_none_before : (k : Option Text) (n : Text) (v : Value) (es : List Value) → NoneBefore k es → is_before n k ≡ false → NoneBefore k (put_entry n v es)
put_none_before k n v [] h b = (b, tt)
put_none_before k n v (e ∷ es) h b = by (is_before n e.label.key) (put_none_before k n v es h.1 b)
  where
    by : (t : Bool) → NoneBefore k (put_entry n v es) → NoneBefore k (cond t (under n v ∷ e ∷ es) (e ∷ put_entry n v es))
    by true rest = (b, h)
    by false rest = (h.0, rest)

pub put_ascends : (n : Text) (v : Value) (es : List Value) → Ascending es → Ascending (put_entry n v es)
put_ascends n v [] h = (tt, tt)
put_ascends n v (e ∷ es) h = by (is_before n e.label.key) refl (put_ascends n v es h.1)
  where
    by : (t : Bool) → is_before n e.label.key ≡ t → Ascending (put_entry n v es) → Ascending (cond t (under n v ∷ e ∷ es) (e ∷ put_entry n v es))
    by true b rest = ((not_both_ways n e.label.key b, none_below e.label.key n es h.0 b), h)
    by false b rest = (put_none_before e.label.key n v es h.0 b, rest)

-- ---- what is found

same_key : (n : Text) (k : Option Text) → is_keyed n k ≡ true → k ≡ Some n
same_key n None e = absurd (cc)
same_key n (Some m) e = ap Some (sym ((bytes_decides n m).0 e))

absent_below : (n : Text) (k : Option Text) (es : List Value) → is_before n k ≡ true → NoneBefore k es → entry_of n (row es) ≡ None
absent_below n k [] b h = refl
absent_below n k (e ∷ es) b h = by (is_keyed n e.label.key) refl (absent_below n k es b h.1)
  where
    by : (t : Bool) → is_keyed n e.label.key ≡ t → entry_of n (row es) ≡ None → cond t (Some (record { label = e.label; below = e.below })) (entry_of n (row es)) ≡ None
    by true at rest =
        let before : less e.label.key k ≡ true = ap (λ (key : Option Text). less key k) (same_key n e.label.key at) ∙ b in
        absurd (let two : true ≡ false = sym before ∙ h.0 in cc)
    by false at rest = rest

absent_from : (n : Text) (e : Value) (es : List Value) → is_before n e.label.key ≡ true → NoneBefore e.label.key es → entry_of n (row (e ∷ es)) ≡ None
absent_from n e es b h = absent_below n e.label.key (e ∷ es) b (itself e.label.key, h)
  where
    itself : (k : Option Text) → less k k ≡ false
    itself None = refl
    itself (Some m) = not_before m (is_before m (Some m)) refl

pub put_own : (n : Text) (v : Value) (es : List Value) → Ascending es → value_under n (row (put_entry n v es)) ≡ option_or (value_under n (row es)) (Some (unnamed v))
put_own n v [] h = ap (λ (b : Bool). option_map unnamed (cond b (Some (under n v)) None)) ((bytes_decides n n).1 refl)
put_own n v (e ∷ es) h = by (is_before n e.label.key) refl (put_own n v es h.1)
  where
    own : value_under n (row (under n v ∷ e ∷ es)) ≡ Some (unnamed v)
    own = ap (λ (b : Bool). option_map unnamed (cond b (Some (under n v)) (entry_of n (row (e ∷ es))))) ((bytes_decides n n).1 refl)

    at : (t : Bool) → value_under n (row (put_entry n v es)) ≡ option_or (value_under n (row es)) (Some (unnamed v)) →
        option_map unnamed (cond t (Some (record { label = e.label; below = e.below })) (entry_of n (row (put_entry n v es))))
        ≡ option_or (option_map unnamed (cond t (Some (record { label = e.label; below = e.below })) (entry_of n (row es)))) (Some (unnamed v))
    at true rest = refl
    at false rest = rest

    by : (t : Bool) → is_before n e.label.key ≡ t → value_under n (row (put_entry n v es)) ≡ option_or (value_under n (row es)) (Some (unnamed v)) →
        value_under n (row (cond t (under n v ∷ e ∷ es) (e ∷ put_entry n v es))) ≡ option_or (value_under n (row (e ∷ es))) (Some (unnamed v))
    by true b rest = own ∙ sym (ap (λ (o : Option Value). option_or (option_map unnamed o) (Some (unnamed v))) (absent_from n e es b h.0))
    by false b rest = at (is_keyed n e.label.key) rest

pub put_other : (u n : Text) (v : Value) (es : List Value) → bytes_eq u n ≡ false → value_under u (row (put_entry n v es)) ≡ value_under u (row es)
put_other u n v [] other = ap (λ (b : Bool). option_map unnamed (cond b (Some (under n v)) None)) other
put_other u n v (e ∷ es) other = by (is_before n e.label.key) (put_other u n v es other)
  where
    at : (t : Bool) → value_under u (row (put_entry n v es)) ≡ value_under u (row es) →
        option_map unnamed (cond t (Some (record { label = e.label; below = e.below })) (entry_of u (row (put_entry n v es)))) ≡ option_map unnamed (cond t (Some (record { label = e.label; below = e.below })) (entry_of u (row es)))
    at true rest = refl
    at false rest = rest

    by : (t : Bool) → value_under u (row (put_entry n v es)) ≡ value_under u (row es) → value_under u (row (cond t (under n v ∷ e ∷ es) (e ∷ put_entry n v es))) ≡ value_under u (row (e ∷ es))
    by true rest = ap (λ (b : Bool). option_map unnamed (cond b (Some (under n v)) (entry_of u (row (e ∷ es))))) other
    by false rest = at (is_keyed u e.label.key) rest
