-- Spreads that lead to fragments, and to hubs of names that several fragments have.
use Rattle.std.proofs.Common.{◌≡◌, ◌≢◌, ◌⊎◌, ⊎_elim, inl, inr, ℕ, zero, suc, ◌+◌, ◌<◌, List, [], ◌∷◌, ◌++◌, append_assoc, append-nil, Option, Some, None, Contains, length, get_or, set, refl, sym, ◌∙◌, ap, subst, arith}
use Rattle.std.specs.List.{slice_get}
use Rattle.std.proofs.lemmas.Bool.{cases_eq}
use Rattle.std.proofs.lemmas.Option.{same_Some, none-some}
use Rattle.std.proofs.lemmas.List.{get_or-set_same, get_or-set_other}
use Rattle.std.proofs.lemmas.List.Elements.{All-append, All-nil, All-push, All-weaker, Contains-append_left, Contains-append_right, Contains-append_cases}
use Rattle.gq_names.proofs.RepeatLemmas.{contains_none, contains_first, contains_cases}
use Rattle.gq_spreads.specs.Spreads.{places_from}
use Rattle.gq_types.specs.Entries.{Text}
use Rattle.gq_document.specs.FieldSets.{SetOf}
use Rattle.gq_merging.specs.Helping.SetTables.{weight}
use Rattle.gq_merging.specs.Helping.HubTables.{SpreadOf, IsAlone, noted_at, hub_at, AreHubs, unset, IsAloneOf, AreLed}
use Rattle.gq_merging.proofs.Worklist.{weights_append, get_longer, get_seam}
use Rattle.gq_merging.proofs.MemberLemmas.{from_places}

-- at one number stands one name
pub same_text : (names : List Text) (k : ℕ) (t u : Text) → Contains (places_from 0 t names) k → Contains (places_from 0 u names) k → t ≡ u
same_text names k t u a b =
    let p = from_places 0 t names k a in
    let q = from_places 0 u names k b in
    let e : p.0 ≡ q.0 = omega (arith, p.1, q.1) in
    same_Some t u (sym p.2 ∙ ap (slice_get names) e ∙ q.2)

unset_less : (hubs : List (Option ℕ)) (i hub : ℕ) → i < length hubs → get_or hubs i None ≡ None → unset (set hubs i (Some hub)) + 1 ≡ unset hubs
unset_less [] i hub l e = absurd (omega (arith, l))
unset_less (None ∷ hubs) zero hub l e = omega arith
unset_less (Some g ∷ hubs) zero hub l e = absurd (none-some g (sym e))
unset_less (None ∷ hubs) (suc i) hub l e = let r = unset_less hubs i hub (omega (arith, l)) e in omega (arith, r)
unset_less (Some g ∷ hubs) (suc i) hub l e = unset_less hubs i hub (omega (arith, l)) e

pub only_one : {A : Type 0} (one y : A) → Contains (one ∷ []) y → one ≡ y
only_one one y c = elim (contains_cases one [] y c) [
  | inl e ↦ e
  | inr d ↦ absurd (contains_none y d)
]

-- a hub is noted at the first fragment of its name
module _ (names : List Text) (hubs : List (Option ℕ)) (text : Text) (first : ℕ) (rest : List ℕ) (hub : ℕ)
    (places : places_from 0 text names ≡ first ∷ rest) (within : first < length hubs) (free : get_or hubs first None ≡ None) where
  abbrev then : List (Option ℕ)
  then = set hubs first (Some hub)

  noted_here : hub_at names then text ≡ Some hub
  noted_here = ap (noted_at then) places ∙ get_or-set_same hubs first (Some hub) None within

  kept_of : (ps : List ℕ) (h : ℕ) → noted_at hubs ps ≡ Some h → noted_at then ps ≡ Some h
  kept_of [] h e = e
  kept_of (p ∷ ps) h e = elim (cases_eq p first) [
    | inl q ↦ absurd (none-some h (sym (ap (λ k. get_or hubs k None) q ∙ free) ∙ e))
    | inr q ↦ get_or-set_other hubs first p (Some hub) None q ∙ e
  ]

  noted_kept : (t : Text) (h : ℕ) → hub_at names hubs t ≡ Some h → hub_at names then t ≡ Some h
  noted_kept t h e = kept_of (places_from 0 t names) h e

  from_of : (t : Text) (ps : List ℕ) → places_from 0 t names ≡ ps → (h : ℕ) → noted_at then ps ≡ Some h → (noted_at hubs ps ≡ Some h) ⊎ ((t ≡ text) × (h ≡ hub))
  from_of t [] e h s = inl s
  from_of t (p ∷ ps) e h s = elim (cases_eq p first) [
    | inl q ↦ inr (
      same_text names p t text (subst (λ l. Contains l p) (sym e) (contains_first p ps p refl)) (subst (λ l. Contains l p) (sym places) (contains_first first rest p (sym q))),
      same_Some h hub (sym s ∙ (ap (λ k. get_or then k None) q ∙ get_or-set_same hubs first (Some hub) None within)),
    )
    | inr q ↦ inl (sym (get_or-set_other hubs first p (Some hub) None q) ∙ s)
  ]

  noted_from : (t : Text) (h : ℕ) → hub_at names then t ≡ Some h → (hub_at names hubs t ≡ Some h) ⊎ ((t ≡ text) × (h ≡ hub))
  noted_from t h e = from_of t (places_from 0 t names) refl h e

-- more sets
pub hubs_longer : (names : List Text) (sets added : List SetOf) (hubs : List (Option ℕ)) → AreHubs names sets hubs → AreHubs names (sets ++ added) hubs
hubs_longer names sets added hubs are t h e = let q = are t h e in (q.0, get_longer sets added h q.0 q.1, q.2)

pub led_none : (names : List Text) (number : ℕ) (sets : List SetOf) (hubs : List (Option ℕ)) → AreHubs names sets hubs → AreLed names number [] sets sets hubs hubs []
led_none names number sets hubs are = record {
  added = [];
  grown = sym (append-nil sets);
  each = All-nil (IsAloneOf []);
  few = omega arith;
  kept = λ t h e. e;
  are = are;
  only = λ k c. absurd (contains_none k c);
  all = λ s k st c. absurd (contains_none s st);
}

pub led_both : (names : List Text) (number : ℕ) (ss ts : List SpreadOf) (sets mid then : List SetOf) (hubs hubs1 hubs2 : List (Option ℕ)) (ns ms : List ℕ) →
    AreLed names number ss sets mid hubs hubs1 ns → AreLed names number ts mid then hubs1 hubs2 ms → AreLed names number (ss ++ ts) sets then hubs hubs2 (ns ++ ms)
led_both names number ss ts sets mid then hubs hubs1 hubs2 ns ms a b =
    let w = weights_append a.added b.added in
    record {
      added = a.added ++ b.added;
      grown = b.grown ∙ ap (λ l. l ++ b.added) a.grown ∙ append_assoc sets a.added b.added;
      each = All-append (IsAloneOf (ss ++ ts)) a.added b.added
          (All-weaker (IsAloneOf ss) (IsAloneOf (ss ++ ts)) (λ s i. record { one = i.one; stands = Contains-append_left ss ts i.one i.stands; is = i.is }) a.added a.each)
          (All-weaker (IsAloneOf ts) (IsAloneOf (ss ++ ts)) (λ s i. record { one = i.one; stands = Contains-append_right ss ts i.one i.stands; is = i.is }) b.added b.each);
      few = omega (arith, w, a.few, b.few);
      kept = λ t h e. b.kept t h (a.kept t h e);
      are = b.are;
      only = λ k c. elim (Contains-append_cases ns ms k c) [
        | inl l ↦ let q = a.only k l in record {
          one = q.one;
          stands = Contains-append_left ss ts q.one q.stands;
          is = ⊎_elim inl (λ e. inr (b.kept q.one.text k e)) q.is;
        }
        | inr r ↦ let q = b.only k r in record { one = q.one; stands = Contains-append_right ss ts q.one q.stands; is = q.is }
      ];
      all = λ s k st c. elim (Contains-append_cases ss ts s st) [
        | inl l ↦ ⊎_elim (λ d. inl (Contains-append_left ns ms k d))
            (λ h. inr (record { hub = h.hub; is = b.kept s.text h.hub h.is; other = h.other; there = Contains-append_left ns ms h.hub h.there })) (a.all s k l c)
        | inr r ↦ ⊎_elim (λ d. inl (Contains-append_right ns ms k d))
            (λ h. inr (record { hub = h.hub; is = h.is; other = h.other; there = Contains-append_right ns ms h.hub h.there })) (b.all s k r c)
      ];
    }

-- one spread
module _ (names : List Text) (number : ℕ) (one : SpreadOf) (sets : List SetOf) (hubs : List (Option ℕ)) (are : AreHubs names sets hubs) where
  here : Contains (one ∷ []) one
  here = contains_first one [] one refl

  pub led_directly : AreLed names number (one ∷ []) sets sets hubs hubs (places_from 0 one.text names)
  led_directly = record {
    added = [];
    grown = sym (append-nil sets);
    each = All-nil (IsAloneOf (one ∷ []));
    few = omega arith;
    kept = λ t h e. e;
    are = are;
    only = λ k c. record { one = one; stands = here; is = inl c };
    all = λ s k st c. inl (subst (λ (t : SpreadOf). Contains (places_from 0 t.text names) k) (sym (only_one one s st)) c);
  }

  pub led_old : (hub : ℕ) → hub_at names hubs one.text ≡ Some hub → hub ≢ number → AreLed names number (one ∷ []) sets sets hubs hubs (hub ∷ [])
  led_old hub is other = record {
    added = [];
    grown = sym (append-nil sets);
    each = All-nil (IsAloneOf (one ∷ []));
    few = omega arith;
    kept = λ t h e. e;
    are = are;
    only = λ k c. record { one = one; stands = here; is = inr (is ∙ ap Some (only_one hub k c)) };
    all = λ s k st c. inr (record {
      hub = hub;
      is = ap (λ (t : SpreadOf). hub_at names hubs t.text) (sym (only_one one s st)) ∙ is;
      other = other;
      there = contains_first hub [] hub refl;
    });
  }

  pub led_new : (first : ℕ) (rest : List ℕ) (s : SetOf) → places_from 0 one.text names ≡ first ∷ rest → first < length hubs → get_or hubs first None ≡ None →
      s.selections ≡ one.alone → IsAlone one.text one.alone → number < length sets →
      AreLed names number (one ∷ []) sets (sets ++ s ∷ []) hubs (set hubs first (Some (length sets))) (length sets ∷ [])
  led_new first rest s places within free is alone inside =
      let hub = length sets in
      let then = set hubs first (Some hub) in
      let less = unset_less hubs first hub within free in
      let light : weight s.selections ≡ 0 = ap weight (is ∙ alone.is) in
      let noted : hub_at names then one.text ≡ Some hub = noted_here names hubs one.text first rest hub places within free in
      record {
        added = s ∷ [];
        grown = refl;
        each = All-push (IsAloneOf (one ∷ [])) [] s (All-nil (IsAloneOf (one ∷ []))) (record { one = one; stands = here; is = is });
        few = omega (arith, less, light);
        kept = λ t h e. noted_kept names hubs one.text first rest hub places within free t h e;
        are = λ t h e. elim (noted_from names hubs one.text first rest hub places within free t h e) [
          | inl old ↦ hubs_longer names sets (s ∷ []) hubs are t h old
          | inr q ↦ (
            s,
            ap (slice_get (sets ++ s ∷ [])) q.1 ∙ get_seam sets s [],
            subst (IsAlone t) (sym is) (subst (λ u. IsAlone u one.alone) (sym q.0) alone),
          )
        ];
        only = λ k c. record { one = one; stands = here; is = inr (noted ∙ ap Some (only_one hub k c)) };
        all = λ u k st c. inr (record {
          hub = hub;
          is = ap (λ (t : SpreadOf). hub_at names then t.text) (sym (only_one one u st)) ∙ noted;
          other = λ e. absurd (omega (arith, inside, e));
          there = contains_first hub [] hub refl;
        });
      }
