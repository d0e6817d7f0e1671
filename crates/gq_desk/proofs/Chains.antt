-- Changes and jobs, handed on one after another.
use Rattle.std.proofs.Common.{◌≡◌, suc, ◌+◌, ◌<◌, List, [], ◌∷◌, ◌++◌, length, map, take, drop, get_or, Result, Ok, Err, OnErr, ap, sym, refl, ◌∙◌, subst, add-one}
use Rattle.std.proofs.Math.Seq.{drop-cons}
use Rattle.std.proofs.lemmas.Grind.{flat_map-append}
use Rattle.std.proofs.lemmas.List.{append-nil, append_assoc, map-id, take-append-drop}
use Rattle.gq_events.specs.declared.event.Out.{Out}
use Rattle.gq_events.specs.Laws.{Handing, handing_of, handings}
use Rattle.gq_desk.specs.Driving.{Chain, Refused}

-- those that a loop has gone over, the next one, and the rest
pub parted : {A : Type 0} (all xs : List A) (x : A) → map (λ y. y) xs ≡ take (length xs) all → (length xs < length all) × (x ≡ get_or all (length xs) x) → all ≡ xs ++ x ∷ drop (length xs + 1) all
parted all xs x so_far next =
    let n = length xs in
    let front : take n all ≡ xs = sym so_far ∙ map-id xs in
    let back : drop n all ≡ x ∷ drop (n + 1) all = rw add-one (drop-cons all n x next.0 ∙ ap (λ y. y ∷ drop (suc n) all) (sym next.1)) in
    sym (take-append-drop n all) ∙ (ap (λ l. l ++ drop n all) front ∙ ap (λ l. xs ++ l) back)

module _ {H : Type 0} (takes : H → Handing → H → Type 0) where
  -- one after the other
  pub chain_on : (h : H) (xs : List Handing) (mid : H) (ys : List Handing) (h' : H) → Chain takes h xs mid → Chain takes mid ys h' → Chain takes h (xs ++ ys) h'
  chain_on h [] mid ys h' c d = subst (λ (k : H). Chain takes k ys h') c d
  chain_on h (x ∷ xs) mid ys h' c d = (c.0, c.1, chain_on c.0 xs mid ys h' c.2 d)

  -- one output more
  pub handed_on : (h : H) (xs : List Out) (mid : H) (o : Out) (h' : H) → Chain takes h (handings xs) mid → Chain takes mid (handing_of o) h' → Chain takes h (handings (xs ++ o ∷ [])) h'
  handed_on h xs mid o h' c d =
      subst (λ (l : List Handing). Chain takes h l h') (ap (λ (l : List Handing). handings xs ++ l) (sym (append-nil (handing_of o))) ∙ sym (flat_map-append handing_of xs (o ∷ [])))
      (chain_on h (handings xs) mid (handing_of o) h' c d)

module _ {H : Type 0} (takes refuses : H → Handing → H → Type 0) where
  -- those before were taken, and of what comes then one was refused
  refused_on : (h : H) (xs : List Handing) (mid : H) (ys zs : List Handing) (h' : H) → Chain takes h xs mid → Refused takes refuses mid ys h' → Refused takes refuses h (xs ++ (ys ++ zs)) h'
  refused_on h xs mid ys zs h' c r = record {
    front = xs ++ r.front;
    next = r.next;
    rest = r.rest ++ zs;
    whole = ap (λ (l : List Handing). xs ++ (l ++ zs)) r.whole ∙ (ap (λ (l : List Handing). xs ++ l) (append_assoc r.front (r.next ∷ r.rest) zs) ∙ sym (append_assoc xs r.front (r.next ∷ (r.rest ++ zs))));
    mid = r.mid;
    took = chain_on takes h xs mid r.front r.mid c r.took;
    refused = r.refused;
  }

  -- the first of them was refused
  pub refused_first : {T E : Type 0} (r : Result T E) (h : H) (x : Handing) (h' : H) → OnErr r (refuses h x h') → OnErr r (Refused takes refuses h (x ∷ []) h')
  refused_first (Ok done) h x h' e = tt
  refused_first (Err fault) h x h' e = record { front = []; next = x; rest = []; whole = refl; mid = h; took = refl; refused = e }

  pub refused_at : (h : H) (outs xs : List Out) (o : Out) (rest : List Out) (mid h' : H) → outs ≡ xs ++ o ∷ rest → Chain takes h (handings xs) mid → Refused takes refuses mid (handing_of o) h' → Refused takes refuses h (handings outs) h'
  refused_at h outs xs o rest mid h' e c r =
      subst (λ (l : List Handing). Refused takes refuses h l h') (sym (flat_map-append handing_of xs (o ∷ rest)) ∙ ap handings (sym e))
      (refused_on h (handings xs) mid (handing_of o) (handings rest) h' c r)

pub on_err : {T E P : Type 0} (r : Result T E) → P → OnErr r P
on_err (Ok x) p = tt
on_err (Err e) p = p
