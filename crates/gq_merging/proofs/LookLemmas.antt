-- What is put and what is found where pairs of fields are looked at.
use Rattle.std.proofs.Common.{◌≡◌, ◌↔◌, ◌⊎◌, ⊎_elim, ℕ, zero, suc, ◌+◌, ◌/◌, ◌%◌, ◌<◌, ◌≤◌, Bool, true, false, if◌then◌else◌, nat_eq, List, [], ◌∷◌, ◌++◌, length, take, get_or, Contains, refl, sym, ◌∙◌, ap, subst, inl, inr, append_assoc, arith}
use Rattle.std.specs.List.{list_any}
use Rattle.std.proofs.lemmas.Bool.Decides.{Decides-eqb}
use Rattle.std.proofs.lemmas.List.{take_all, take_more, map-append, append-nil}
use Rattle.std.proofs.lemmas.List.Elements.{Contains-append_left, Contains-append_right, Contains-append_cases, Contains-push}
use Rattle.indexmap.specs.IndexSet.{insert_key}
use Rattle.indexmap.proofs.CallerLemmas.{Contains-list_any}
use Rattle.gq_names.proofs.RepeatLemmas.{contains_none, contains_first, contains_cases}
use Rattle.gq_fault.specs.declared.fault.Fault.{Fault}
use Rattle.gq_fault.specs.Adds.{AddsExactly}
use Rattle.gq_fault.proofs.PutLemmas.{puts_both, puts_as}
use Rattle.gq_document.specs.FieldSets.{key}
use Rattle.gq_merging.specs.FieldsMerge.{leads_on}
use Rattle.gq_merging.specs.Helping.SetTables.{MemberOf, spreads_at}
use Rattle.gq_merging.specs.Helping.NameTables.{ByNameOf, fields_with, AreByKey, AreMetByKey}
use Rattle.gq_merging.specs.Helping.PairTables.{MetOf, LookOf, AreMet, IsMetIn, IsNumber, IsStart, IsBelow, IsGiven, IsFaultOf, IsAfter, below, by_left, by_right, Gains, Looked}
use Rattle.gq_merging.specs.Helping.Views.{member_view, members_view}
use Rattle.gq_merging.specs.declared.rows.Member.{Member}

-- nothing is put
pub puts_nothing : (Is : Fault → Type 0) (old : List Fault) → ((fault : Fault) → Is fault → ⊥) → AddsExactly Is old old
puts_nothing Is old h = record { added = []; is = sym (append-nil old); exactly = λ fault. ((λ c. absurd (contains_none fault c)), (λ s. absurd (h fault s))) }

-- nothing is found
pub gains_nothing : (Is : ℕ → Type 0) (old : List ℕ) → ((n : ℕ) → Is n → ⊥) → Gains Is old old
gains_nothing Is old h = record {
  added = [];
  is = sym (append-nil old);
  taken = λ n c. absurd (contains_none n c);
  holds = λ n i. absurd (h n i);
}

-- one number is found
pub gains_number : (Is : ℕ → Type 0) (old new : List ℕ) (number : ℕ) → Is number → ((n : ℕ) → Is n → n ≡ number) → new ≡ insert_key nat_eq old number → Gains Is old new
gains_number Is old new number h alone e = by_test (list_any (nat_eq number) old) refl
  where
    by_test : (b : Bool) → list_any (nat_eq number) old ≡ b → Gains Is old new
    by_test true t =
        let same : new ≡ old = e ∙ ap (λ c. if c then old else old ++ number ∷ []) t in
        record {
          added = [];
          is = same ∙ sym (append-nil old);
          taken = λ n c. absurd (contains_none n c);
          holds = λ n i. subst (Contains new) (sym (alone n i)) (subst (λ ns. Contains ns number) (sym same) (Contains-list_any nat_eq (λ x y. (Decides-eqb x y).0) old number t));
        }
    by_test false t =
        let more : new ≡ old ++ number ∷ [] = e ∙ ap (λ c. if c then old else old ++ number ∷ []) t in
        record {
          added = number ∷ [];
          is = more;
          taken = λ n c. ⊎_elim (λ q. subst Is q h) (λ f. absurd (contains_none n f)) (contains_cases number [] n c);
          holds = λ n i. subst (Contains new) (sym (alone n i)) (subst (λ ns. Contains ns number) (sym more) (Contains-push old number));
        }

pub gains_as : (A B : ℕ → Type 0) (old new : List ℕ) → ((n : ℕ) → A n ↔ B n) → Gains A old new → Gains B old new
gains_as A B old new h g = record {
  added = g.added;
  is = g.is;
  taken = λ n c. (h n).0 (g.taken n c);
  holds = λ n b. g.holds n ((h n).1 b);
}

-- what was found stays
pub gains_keeps : (Is : ℕ → Type 0) (old new : List ℕ) → Gains Is old new → (n : ℕ) → Contains old n → Contains new n
gains_keeps Is old new g n c = subst (λ ns. Contains ns n) (sym g.is) (Contains-append_left old g.added n c)

pub gains_both : (A B : ℕ → Type 0) (old middle new : List ℕ) → Gains A old middle → Gains B middle new → Gains (λ n. A n ⊎ B n) old new
gains_both A B old middle new a b = record {
  added = a.added ++ b.added;
  is = b.is ∙ ap (λ xs. xs ++ b.added) a.is ∙ append_assoc old a.added b.added;
  taken = λ n c. ⊎_elim (λ l. inl (a.taken n l)) (λ r. inr (b.taken n r)) (Contains-append_cases a.added b.added n c);
  holds = λ n s. ⊎_elim (λ l. gains_keeps B middle new b n (a.holds n l)) (λ r. b.holds n r) s;
}

-- the pairs of sets that are not passed over, one more looked at
pub no_start : (passed : List Bool) (count size : ℕ) → Gains (IsStart passed count size 0) [] []
no_start passed count size = gains_nothing (IsStart passed count size 0) [] (λ n s. let b = s.before in omega (arith, b))

pub before_next : (k j : ℕ) → k < j + 1 → (k < j) ⊎ (k ≡ j)
before_next k zero l = inr (omega (arith, l))
before_next zero (suc j) l = inl (omega arith)
before_next (suc k) (suc j) l = elim (before_next k j (omega (arith, l))) [
  | inl b ↦ inl (omega (arith, b))
  | inr e ↦ inr (ap suc e)
]

later_start : (passed : List Bool) (count size k n : ℕ) → IsStart passed count size k n → IsStart passed count size (k + 1) n
later_start passed count size k n s = record { row = s.row; before = let b = s.before in omega (arith, b); stays = s.stays; number = s.number }

pub start_stays : (passed : List Bool) (count size k : ℕ) (old new : List ℕ) → get_or passed k false ≡ false →
    Gains (IsStart passed count size k) [] old → Gains (IsNumber count size k k) old new → Gains (IsStart passed count size (k + 1)) [] new
start_stays passed count size k old new e a b =
    gains_as (λ n. IsStart passed count size k n ⊎ IsNumber count size k k n) (IsStart passed count size (k + 1)) [] new
    (λ n. (
      (λ s. ⊎_elim (later_start passed count size k n) (λ h. record { row = k; before = omega arith; stays = e; number = h }) s),
      (λ s. ⊎_elim (λ l. inl (record { row = s.row; before = l; stays = s.stays; number = s.number })) (λ q. inr (subst (λ r. IsNumber count size r r n) q s.number)) (before_next s.row k s.before)),
    ))
    (gains_both (IsStart passed count size k) (IsNumber count size k k) [] old new a b)

pub start_passed : (passed : List Bool) (count size k : ℕ) (old : List ℕ) → get_or passed k false ≡ true →
    Gains (IsStart passed count size k) [] old → Gains (IsStart passed count size (k + 1)) [] old
start_passed passed count size k old e a =
    gains_as (IsStart passed count size k) (IsStart passed count size (k + 1)) [] old
    (λ n. (
      later_start passed count size k n,
      (λ s. ⊎_elim (λ l. record { row = s.row; before = l; stays = s.stays; number = s.number }) (λ q. let f : get_or passed k false ≡ false = subst (λ r. get_or passed r false ≡ false) q s.stays in absurd (cc)) (before_next s.row k s.before)),
    )) a

-- the pair of sets below two fields that meet
pub below_led : (w : LookOf) (p : MetOf) (old new : List ℕ) → leads_on w.entries w.purpose p.left.field_at p.right.field_at ≡ true →
    Gains (IsNumber w.count w.size p.left.below p.right.below) old new → Gains (IsBelow w p) old new
below_led w p old new e g = gains_as (IsNumber w.count w.size p.left.below p.right.below) (IsBelow w p) old new (λ n. ((λ h. record { leads = e; number = h }), (λ b. b.number))) g

module _ {B : Type 0} (Gives : MetOf → B → Type 0) where
  given_as : (A C : MetOf → Type 0) → ((p : MetOf) → A p ↔ C p) → (b : B) → IsGiven A Gives b ↔ IsGiven C Gives b
  given_as A C h b = (
    (λ g. record { one = g.one; these = (h g.one).0 g.these; gives = g.gives }),
    (λ g. record { one = g.one; these = (h g.one).1 g.these; gives = g.gives }),
  )

  pub given_either : (A C : MetOf → Type 0) (b : B) → (IsGiven A Gives b ⊎ IsGiven C Gives b) ↔ IsGiven (λ p. A p ⊎ C p) Gives b
  given_either A C b = (
    (λ s. ⊎_elim (λ g. record { one = g.one; these = inl g.these; gives = g.gives }) (λ g. record { one = g.one; these = inr g.these; gives = g.gives }) s),
    (λ g. ⊎_elim (λ l. inl (record { one = g.one; these = l; gives = g.gives })) (λ r. inr (record { one = g.one; these = r; gives = g.gives })) g.these),
  )

  given_one : (p : MetOf) (A : MetOf → Type 0) → A p → ((q : MetOf) → A q → q ≡ p) → (b : B) → Gives p b ↔ IsGiven A Gives b
  given_one p A a alone b = (
    (λ g. record { one = p; these = a; gives = g }),
    (λ g. subst (λ q. Gives q b) (alone g.one g.these) g.gives),
  )

pub puts_given : (w : LookOf) (A B : MetOf → Type 0) (faults faults' : List Fault) → ((p : MetOf) → A p ↔ B p) → AddsExactly (IsGiven A (IsFaultOf w)) faults faults' → AddsExactly (IsGiven B (IsFaultOf w)) faults faults'
puts_given w A B faults faults' h p = puts_as (IsGiven A (IsFaultOf w)) (IsGiven B (IsFaultOf w)) faults faults' (given_as (IsFaultOf w) A B h) p

pub looked_as : (w : LookOf) (A B : MetOf → Type 0) (faults faults' : List Fault) (old new : List ℕ) → ((p : MetOf) → A p ↔ B p) → Looked w A faults faults' old new → Looked w B faults faults' old new
looked_as w A B faults faults' old new h l = record {
  puts = puts_given w A B faults faults' h l.puts;
  gains = gains_as (IsGiven A (IsBelow w)) (IsGiven B (IsBelow w)) old new (given_as (IsBelow w) A B h) l.gains;
}

pub looked_both : (w : LookOf) (A B : MetOf → Type 0) (faults middle faults' : List Fault) (old between new : List ℕ) →
    Looked w A faults middle old between → Looked w B middle faults' between new → Looked w (λ p. A p ⊎ B p) faults faults' old new
looked_both w A B faults middle faults' old between new a b = record {
  puts = puts_as (λ i. IsGiven A (IsFaultOf w) i ⊎ IsGiven B (IsFaultOf w) i) (IsGiven (λ p. A p ⊎ B p) (IsFaultOf w)) faults faults' (given_either (IsFaultOf w) A B)
      (puts_both (IsGiven A (IsFaultOf w)) (IsGiven B (IsFaultOf w)) faults middle faults' a.puts b.puts);
  gains = gains_as (λ n. IsGiven A (IsBelow w) n ⊎ IsGiven B (IsBelow w) n) (IsGiven (λ p. A p ⊎ B p) (IsBelow w)) old new (given_either (IsBelow w) A B)
      (gains_both (IsGiven A (IsBelow w)) (IsGiven B (IsBelow w)) old between new a.gains b.gains);
}

pub looked_nowhere : (w : LookOf) (A : MetOf → Type 0) (faults : List Fault) (old : List ℕ) → ((p : MetOf) → A p → ⊥) → Looked w A faults faults old old
looked_nowhere w A faults old h = record {
  puts = puts_nothing (IsGiven A (IsFaultOf w)) faults (λ i g. h g.one g.these);
  gains = gains_nothing (IsGiven A (IsBelow w)) old (λ n g. h g.one g.these);
}

-- two fields
pub look_one : (w : LookOf) (a b : MemberOf) (faults faults' : List Fault) (old new : List ℕ) → key a.field_at ≡ key b.field_at →
    AddsExactly (IsFaultOf w (record { left = a; right = b })) faults faults' → Gains (IsBelow w (record { left = a; right = b })) old new →
    Looked w (AreMet (a ∷ []) (b ∷ [])) faults faults' old new
look_one w a b faults faults' old new e p g =
    let m : MetOf = record { left = a; right = b } in
    let here : AreMet (a ∷ []) (b ∷ []) (record { left = a; right = b }) =
    record { stands_left = contains_first a [] a refl; stands_right = contains_first b [] b refl; one_key = e } in
    record {
      puts = puts_as (IsFaultOf w m) (IsGiven (AreMet (a ∷ []) (b ∷ [])) (IsFaultOf w)) faults faults' (given_one (IsFaultOf w) m (AreMet (a ∷ []) (b ∷ [])) here alone) p;
      gains = gains_as (IsBelow w m) (IsGiven (AreMet (a ∷ []) (b ∷ [])) (IsBelow w)) old new (given_one (IsBelow w) m (AreMet (a ∷ []) (b ∷ [])) here alone) g;
    }
  where
    the_one : (c d : MemberOf) → Contains (c ∷ []) d → d ≡ c
    the_one c d h = ⊎_elim (λ e. sym e) (λ f. absurd (contains_none d f)) (contains_cases c [] d h)

    alone : (q : MetOf) → AreMet (a ∷ []) (b ∷ []) q → q ≡ record { left = a; right = b }
    alone q h = let l = the_one a q.left h.stands_left in let r = the_one b q.right h.stands_right in (λ i. record { left = l i; right = r i })

pub look_apart : (w : LookOf) (a b : MemberOf) (faults : List Fault) (old : List ℕ) → (key a.field_at ≡ key b.field_at → ⊥) → Looked w (AreMet (a ∷ []) (b ∷ [])) faults faults old old
look_apart w a b faults old apart =
    looked_nowhere w (AreMet (a ∷ []) (b ∷ [])) faults old
    (λ p h. apart (ap (λ m. key m.field_at) (sym (the_one a p.left h.stands_left)) ∙ h.one_key ∙ ap (λ m. key m.field_at) (the_one b p.right h.stands_right)))
  where
    the_one : (c d : MemberOf) → Contains (c ∷ []) d → d ≡ c
    the_one c d h = ⊎_elim (λ e. sym e) (λ f. absurd (contains_none d f)) (contains_cases c [] d h)

-- along a list
view_more : (xs : List Member) (i : ℕ) (d : Member) → i < length xs → get_or xs i d ≡ d → members_view (take (i + 1) xs) ≡ members_view (take i xs) ++ member_view d ∷ []
view_more xs i d l e =
    ap members_view (take_more xs i d l) ∙ map-append member_view (take i xs) (get_or xs i d ∷ []) ∙ ap (λ x. members_view (take i xs) ++ member_view x ∷ []) e

pub look_right_more : (w : LookOf) (left : List MemberOf) (xs : List Member) (i : ℕ) (d : Member) (faults middle faults' : List Fault) (old between new : List ℕ) → i < length xs → get_or xs i d ≡ d →
    Looked w (AreMet left (members_view (take i xs))) faults middle old between → Looked w (AreMet left (member_view d ∷ [])) middle faults' between new →
    Looked w (AreMet left (members_view (take (i + 1) xs))) faults faults' old new
look_right_more w left xs i d faults middle faults' old between new l e a b =
    let front = members_view (take i xs) in
    subst (λ ms. Looked w (AreMet left ms) faults faults' old new) (sym (view_more xs i d l e))
    (looked_as w (λ p. AreMet left front p ⊎ AreMet left (member_view d ∷ []) p) (AreMet left (front ++ member_view d ∷ [])) faults faults' old new
    (λ p. (
      (λ s. ⊎_elim
          (λ h. record { stands_left = h.stands_left; stands_right = Contains-append_left front (member_view d ∷ []) p.right h.stands_right; one_key = h.one_key })
          (λ h. record { stands_left = h.stands_left; stands_right = Contains-append_right front (member_view d ∷ []) p.right h.stands_right; one_key = h.one_key }) s),
      (λ h. ⊎_elim
          (λ c. inl (record { stands_left = h.stands_left; stands_right = c; one_key = h.one_key }))
          (λ c. inr (record { stands_left = h.stands_left; stands_right = c; one_key = h.one_key }))
          (Contains-append_cases front (member_view d ∷ []) p.right h.stands_right)),
    ))
    (looked_both w (AreMet left front) (AreMet left (member_view d ∷ [])) faults middle faults' old between new a b))

pub look_left_more : (w : LookOf) (right : List MemberOf) (xs : List Member) (i : ℕ) (d : Member) (faults middle faults' : List Fault) (old between new : List ℕ) → i < length xs → get_or xs i d ≡ d →
    Looked w (AreMet (members_view (take i xs)) right) faults middle old between → Looked w (AreMet (member_view d ∷ []) right) middle faults' between new →
    Looked w (AreMet (members_view (take (i + 1) xs)) right) faults faults' old new
look_left_more w right xs i d faults middle faults' old between new l e a b =
    let front = members_view (take i xs) in
    subst (λ ms. Looked w (AreMet ms right) faults faults' old new) (sym (view_more xs i d l e))
    (looked_as w (λ p. AreMet front right p ⊎ AreMet (member_view d ∷ []) right p) (AreMet (front ++ member_view d ∷ []) right) faults faults' old new
    (λ p. (
      (λ s. ⊎_elim
          (λ h. record { stands_left = Contains-append_left front (member_view d ∷ []) p.left h.stands_left; stands_right = h.stands_right; one_key = h.one_key })
          (λ h. record { stands_left = Contains-append_right front (member_view d ∷ []) p.left h.stands_left; stands_right = h.stands_right; one_key = h.one_key }) s),
      (λ h. ⊎_elim
          (λ c. inl (record { stands_left = c; stands_right = h.stands_right; one_key = h.one_key }))
          (λ c. inr (record { stands_left = c; stands_right = h.stands_right; one_key = h.one_key }))
          (Contains-append_cases front (member_view d ∷ []) p.left h.stands_left)),
    ))
    (looked_both w (AreMet front right) (AreMet (member_view d ∷ []) right) faults middle faults' old between new a b))

-- a field with those of its key
pub look_keyed : (w : LookOf) (a : MemberOf) (t : ByNameOf) (those : List MemberOf) (faults faults' : List Fault) (old new : List ℕ) → those ≡ fields_with t (key a.field_at) →
    Looked w (AreMet (a ∷ []) those) faults faults' old new → Looked w (AreMetByKey (a ∷ []) t) faults faults' old new
look_keyed w a t those faults faults' old new is l =
    looked_as w (AreMet (a ∷ []) those) (AreMetByKey (a ∷ []) t) faults faults' old new
    (λ p. (
      (λ h. record {
        stands_left = h.stands_left;
        stands_right = subst (λ (b : MemberOf). Contains (fields_with t (key b.field_at)) p.right) (the_one p.left h.stands_left) (subst (λ ms. Contains ms p.right) is h.stands_right);
        one_key = h.one_key;
      }),
      (λ h. record {
        stands_left = h.stands_left;
        stands_right = subst (λ ms. Contains ms p.right) (sym is) (subst (λ (b : MemberOf). Contains (fields_with t (key b.field_at)) p.right) (sym (the_one p.left h.stands_left)) h.stands_right);
        one_key = h.one_key;
      }),
    )) l
  where
    the_one : (d : MemberOf) → Contains (a ∷ []) d → a ≡ d
    the_one d h = ⊎_elim (λ e. e) (λ f. absurd (contains_none d f)) (contains_cases a [] d h)

-- a field whose key no other has
pub look_unkeyed : (w : LookOf) (a : MemberOf) (t : ByNameOf) (faults : List Fault) (old : List ℕ) → [] ≡ fields_with t (key a.field_at) → Looked w (AreMetByKey (a ∷ []) t) faults faults old old
look_unkeyed w a t faults old none =
    looked_nowhere w (AreMetByKey (a ∷ []) t) faults old
    (λ p h. contains_none p.right (subst (λ ms. Contains ms p.right) (sym none) (subst (λ (b : MemberOf). Contains (fields_with t (key b.field_at)) p.right) (sym (the_one p.left h.stands_left)) h.stands_right)))
  where
    the_one : (d : MemberOf) → Contains (a ∷ []) d → a ≡ d
    the_one d h = ⊎_elim (λ e. e) (λ f. absurd (contains_none d f)) (contains_cases a [] d h)

pub look_keyed_more : (w : LookOf) (right : ByNameOf) (xs : List Member) (i : ℕ) (d : Member) (faults middle faults' : List Fault) (old between new : List ℕ) → i < length xs → get_or xs i d ≡ d →
    Looked w (AreMetByKey (members_view (take i xs)) right) faults middle old between → Looked w (AreMetByKey (member_view d ∷ []) right) middle faults' between new →
    Looked w (AreMetByKey (members_view (take (i + 1) xs)) right) faults faults' old new
look_keyed_more w right xs i d faults middle faults' old between new l e a b =
    let front = members_view (take i xs) in
    subst (λ ms. Looked w (AreMetByKey ms right) faults faults' old new) (sym (view_more xs i d l e))
    (looked_as w (λ p. AreMetByKey front right p ⊎ AreMetByKey (member_view d ∷ []) right p) (AreMetByKey (front ++ member_view d ∷ []) right) faults faults' old new
    (λ p. (
      (λ s. ⊎_elim
          (λ h. record { stands_left = Contains-append_left front (member_view d ∷ []) p.left h.stands_left; stands_right = h.stands_right; one_key = h.one_key })
          (λ h. record { stands_left = Contains-append_right front (member_view d ∷ []) p.left h.stands_left; stands_right = h.stands_right; one_key = h.one_key }) s),
      (λ h. ⊎_elim
          (λ c. inl (record { stands_left = c; stands_right = h.stands_right; one_key = h.one_key }))
          (λ c. inr (record { stands_left = c; stands_right = h.stands_right; one_key = h.one_key }))
          (Contains-append_cases front (member_view d ∷ []) p.left h.stands_left)),
    ))
    (looked_both w (AreMetByKey front right) (AreMetByKey (member_view d ∷ []) right) faults middle faults' old between new a b))

-- the fields of the two sets of a pair
pub look_all_keyed : (w : LookOf) (left right : List MemberOf) (t : ByNameOf) (faults faults' : List Fault) (old new : List ℕ) → AreByKey t right →
    Looked w (AreMetByKey left t) faults faults' old new → Looked w (AreMet left right) faults faults' old new
look_all_keyed w left right t faults faults' old new by_key l =
    looked_as w (AreMetByKey left t) (AreMet left right) faults faults' old new
    (λ p. (
      (λ h. record { stands_left = h.stands_left; stands_right = ((by_key.each (key p.left.field_at) p.right).0 h.stands_right).0; one_key = h.one_key }),
      (λ h. record { stands_left = h.stands_left; stands_right = (by_key.each (key p.left.field_at) p.right).1 (h.stands_right, sym h.one_key); one_key = h.one_key }),
    )) l

pub looked_alike : (w : LookOf) (left left' right right' : List MemberOf) (faults faults' : List Fault) (old new : List ℕ) → left ≡ left' → right ≡ right' →
    Looked w (AreMet left right) faults faults' old new → Looked w (AreMet left' right') faults faults' old new
looked_alike w left left' right right' faults faults' old new e f l =
    subst (λ ms. Looked w (AreMet left' ms) faults faults' old new) f (subst (λ ms. Looked w (AreMet ms right) faults faults' old new) e l)

-- one of some numbers gives it, or one more
pub one_more : {B : Type 0} (Gives : ℕ → B → Type 0) (xs : List ℕ) (d : ℕ) (b : B) → (IsGiven (Contains xs) Gives b ⊎ Gives d b) ↔ IsGiven (Contains (xs ++ d ∷ [])) Gives b
one_more Gives xs d b = (
  (λ s. ⊎_elim
      (λ g. record { one = g.one; these = Contains-append_left xs (d ∷ []) g.one g.these; gives = g.gives })
      (λ h. record { one = d; these = Contains-append_right xs (d ∷ []) d (contains_first d [] d refl); gives = h }) s),
  (λ g. ⊎_elim
      (λ c. inl (record { one = g.one; these = c; gives = g.gives }))
      (λ c. ⊎_elim (λ q. inr (subst (λ k. Gives k b) (sym q) g.gives)) (λ f. absurd (contains_none g.one f)) (contains_cases d [] g.one c))
      (Contains-append_cases xs (d ∷ []) g.one g.these)),
)

-- what the first of some numbers give is found
pub gains_more : (Gives : ℕ → ℕ → Type 0) (xs : List ℕ) (i : ℕ) (old between new : List ℕ) → i < length xs →
    Gains (IsGiven (Contains (take i xs)) Gives) old between → Gains (Gives (get_or xs i 0)) between new → Gains (IsGiven (Contains (take (i + 1) xs)) Gives) old new
gains_more Gives xs i old between new l a b =
    let d = get_or xs i 0 in
    subst (λ ys. Gains (IsGiven (Contains ys) Gives) old new) (sym (take_more xs i 0 l))
    (gains_as (λ n. IsGiven (Contains (take i xs)) Gives n ⊎ Gives d n) (IsGiven (Contains (take i xs ++ d ∷ [])) Gives) old new (one_more Gives (take i xs) d)
    (gains_both (IsGiven (Contains (take i xs)) Gives) (Gives d) old between new a b))

pub gains_all : (Gives : ℕ → ℕ → Type 0) (xs : List ℕ) (i : ℕ) (old new : List ℕ) → length xs ≤ i → Gains (IsGiven (Contains (take i xs)) Gives) old new → Gains (IsGiven (Contains xs) Gives) old new
gains_all Gives xs i old new past g = subst (λ ys. Gains (IsGiven (Contains ys) Gives) old new) (take_all i xs past) g

-- what is found after a pair
pub gains_after : (w : LookOf) (m : ℕ) (faults faults' : List Fault) (old second third new : List ℕ) →
    Looked w (IsMetIn w m) faults faults' old second →
    Gains (IsGiven (Contains (spreads_at w.rows (m / w.count))) (λ left. IsNumber w.count w.size left (m % w.count))) second third →
    Gains (IsGiven (Contains (spreads_at w.rows (m % w.count))) (λ right. IsNumber w.count w.size (m / w.count) right)) third new →
    Gains (IsAfter w m) old new
gains_after w m faults faults' old second third new a b c =
    let Below = IsGiven (IsMetIn w m) (IsBelow w) in
    let Lefts = IsGiven (Contains (spreads_at w.rows (m / w.count))) (λ left. IsNumber w.count w.size left (m % w.count)) in
    let Rights = IsGiven (Contains (spreads_at w.rows (m % w.count))) (λ right. IsNumber w.count w.size (m / w.count) right) in
    gains_as (λ n. (Below n ⊎ Lefts n) ⊎ Rights n) (IsAfter w m) old new
    (λ n. ((λ s. ⊎_elim (λ t. ⊎_elim below by_left t) by_right s), after_cases n))
    (gains_both (λ n. Below n ⊎ Lefts n) Rights old third new (gains_both Below Lefts old second third a.gains b) c)
  where
    after_cases : (n : ℕ) → IsAfter w m n → (IsGiven (IsMetIn w m) (IsBelow w) n ⊎ IsGiven (Contains (spreads_at w.rows (m / w.count))) (λ left. IsNumber w.count w.size left (m % w.count)) n)
        ⊎ IsGiven (Contains (spreads_at w.rows (m % w.count))) (λ right. IsNumber w.count w.size (m / w.count) right) n
    after_cases n (below g) = inl (inl g)
    after_cases n (by_left g) = inl (inr g)
    after_cases n (by_right g) = inr g
