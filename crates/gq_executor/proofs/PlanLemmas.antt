-- What a plan says of the fields of one key.
use Rattle.std.proofs.Common.{Global, Vec, ◌≡◌, ℕ, zero, suc, ◌+◌, ◌<◌, Bool, List, [], ◌∷◌, ◌++◌, length, get_or, map, take, Option, Some, None, refl, sym, ap, ◌∙◌, subst, arith}
use Rattle.std.specs.Prelude.{IfSome, option_copied}
use Rattle.std.specs.List.{AllZip}
use Rattle.std.specs.Borrow.{Bor}
use Rattle.std.proofs.lemmas.List.{take_more}
use Rattle.gq_meaning.specs.Values.{Text}
use Rattle.gq_meaning.specs.Expand.{Asked}
use Rattle.gq_meaning.specs.Results.{Answer, Path, key}
use Rattle.gq_meaning.specs.Shown.{Data}
use Rattle.gq_meaning.specs.Response.{FieldType, of_key}
use Rattle.gq_collect.specs.declared.world.World.{World}
use Rattle.gq_collect.specs.declared.collect.Taken.{Taken}
use Rattle.gq_collect.specs.Views.{asked_all}
use Rattle.gq_collect.proofs.GroupLemmas.{same_length}
use Rattle.gq_executor.specs.declared.plans.Prepared.{Prepared}
use Rattle.gq_executor.specs.declared.plans.Plan.{Plan}
use Rattle.gq_executor.specs.Helping.Plans.{IsPreparedFor, IsPrepared, IsPlan}
use Rattle.gq_executor.proofs.Loops.{IsSoFar, GroupFacts, group_facts}

module _ {A B : Type 0} (R : A → B → Type 0) where
  zip_at : (xs : List A) (ys : List B) (i : ℕ) (x : A) (y : B) → AllZip R xs ys → i < length xs → x ≡ get_or xs i x → y ≡ get_or ys i y → R x y
  zip_at [] ys i x y h l e q = absurd (omega arith)
  zip_at (a ∷ xs) [] i x y h l e q = absurd h
  zip_at (a ∷ xs) (b ∷ ys) zero x y h l e q = subst (λ z. R z y) (sym e) (subst (λ z. R a z) (sym q) h.0)
  zip_at (a ∷ xs) (b ∷ ys) (suc i) x y h l e q = zip_at xs ys i x y h.1 (omega arith) e q

  zip_length : (xs : List A) (ys : List B) → AllZip R xs ys → length xs ≡ length ys
  zip_length [] [] h = refl
  zip_length [] (b ∷ ys) h = absurd h
  zip_length (a ∷ xs) [] h = absurd h
  zip_length (a ∷ xs) (b ∷ ys) h = ap suc (zip_length xs ys h.1)

  zip_push : (xs : List A) (ys : List B) (x : A) (y : B) → AllZip R xs ys → R x y → AllZip R (xs ++ x ∷ []) (ys ++ y ∷ [])
  zip_push [] [] x y h r = (r, tt)
  zip_push [] (b ∷ ys) x y h r = absurd h
  zip_push (a ∷ xs) [] x y h r = absurd h
  zip_push (a ∷ xs) (b ∷ ys) x y h r = (h.0, zip_push xs ys x y h.1 r)

  -- one more place
  pub zip_more : (xs : List A) (ys ys' : List B) (i : ℕ) (x : A) (y : B) → i < length xs → x ≡ get_or xs i x → ys' ≡ ys ++ y ∷ [] → AllZip R (take i xs) ys → R x y → AllZip R (take (i + 1) xs) ys'
  zip_more xs ys ys' i x y l e q h r =
      subst (λ z. AllZip R (take (i + 1) xs) z) (sym q) (subst (λ z. AllZip R z (ys ++ y ∷ [])) (ap (λ z. take i xs ++ z ∷ []) e ∙ sym (take_more xs i x l)) (zip_push (take i xs) ys x y h r))

-- what is prepared for a group is prepared for its first field
pub first_prepared : (world : World) (object : Text) (ts : List Taken) (first : Taken) (p : Prepared) → 0 < length ts → first ≡ get_or ts 0 first → IsPrepared world object ts p → IsPreparedFor world object first p
first_prepared world object [] first p l e h = absurd (omega arith)
first_prepared world object (t ∷ ts) first p l e h = subst (λ z. IsPreparedFor world object z p) (sym e) h

-- a plan that was found for an object
pub plan_is : (world : World) (group : List Asked) (plan : Option (Bor Plan)) (p : Bor Plan) (object : Text) → IfSome plan (λ q. IsPlan world q.now.object.now group q.now) → plan ≡ Some p → p.now.object.now ≡ object → IsPlan world object group p.now
plan_is world group plan p object h e q =
    let own : IsPlan world p.now.object.now group p.now = subst (λ o. IfSome o (λ q. IsPlan world q.now.object.now group q.now)) e h in
    subst (λ z. IsPlan world z group p.now) q own

-- the plan of a list, as it is lent
pub lent_plan : (world : World) (group : List Asked) (lent : Option (Bor Plan)) (own : Option Plan) → option_copied lent ≡ own → IfSome own (λ p. IsPlan world p.object.now group p) → IfSome lent (λ q. IsPlan world q.now.object.now group q.now)
lent_plan world group None own e h = tt
lent_plan world group (Some q) own e h = subst (λ o. IfSome o (λ p. IsPlan world p.object.now group p)) (sym e) h

-- what was made so far for the first of these keys, which are those
pub along : (world : World) (t : Option FieldType) (r : Option Answer) (fields : List Asked) (path : Path) (b : Bool) (ks ks' : List Text) (i : ℕ) (xs : List Data) (before after : List Path) → ks ≡ ks' →
    IsSoFar world t r fields path b (map key (take i ks)) xs before after → IsSoFar world t r fields path b (map key (take i ks')) xs before after
along world t r fields path b ks ks' i xs before after e h = subst (λ z. IsSoFar world t r fields path b (map key (take i z)) xs before after) e h

module _ (world : World) (object : Text) (group : List Asked) (plan : Plan) (is : IsPlan world object group plan) where
  abbrev groups : List (Vec Taken Global)
  groups = plan.groups.groups.items

  pub group_at : (gs : List (Vec Taken Global)) (i : ℕ) (one : Vec Taken Global) (k : Text) (ts : List Taken) → gs ≡ groups → i < length gs → one ≡ get_or gs i one → k ≡ get_or plan.groups.keys i [] → ts ≡ one.items → GroupFacts is.fields i k (asked_all ts)
  group_at gs i one k ts p l e h r = group_facts is.fields is.fields groups gs plan.groups.keys i one k ts is.groups refl p l e h r

  pub keys_length : length plan.groups.keys ≡ length groups
  keys_length = sym (same_length (λ g. asked_all g.items) (λ k. of_key k is.fields) groups plan.groups.keys is.groups.groups_are)

  pub calls_length : length groups ≡ length plan.calls.items
  calls_length = zip_length _ groups plan.calls.items is.calls

  pub call_at : (gs : List (Vec Taken Global)) (i : ℕ) (one : Vec Taken Global) (ts : List Taken) (call : Prepared) → gs ≡ groups → i < length gs → one ≡ get_or gs i one → ts ≡ one.items → call ≡ get_or plan.calls.items i call → IsPrepared world object ts call
  call_at gs i one ts call p l e r q =
      let l' : i < length groups = subst (λ z. i < length z) p l in
      let e' : one ≡ get_or groups i one = e ∙ ap (λ z. get_or z i one) p in
      subst (λ z. IsPrepared world object z call) (sym r) (zip_at (λ g p. IsPrepared world object g.items p) groups plan.calls.items i one call is.calls l' e' q)
