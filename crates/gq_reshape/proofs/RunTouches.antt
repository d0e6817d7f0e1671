-- The selections of a run stand in its place, and those before and behind it stand beside that.
use Rattle.std.proofs.Common.{◌≡◌, ℕ, ◌<◌, ◌≤◌, List, [], ◌∷◌, ◌++◌, Contains, refl, sym, ◌∙◌, subst, arith, append_assoc, append-nil, inl, inr}
use Rattle.gq_text.specs.declared.place.Span.{Span}
use Rattle.gq_tree.specs.Forest.{row}
use Rattle.gq_tree.specs.Plain.{Sel}
use Rattle.gq_types.proofs.Gathered.{nothing_in, cases_cons}
use Rattle.gq_laws.specs.Rewriting.Places.{AreNested}
use Rattle.gq_laws.proofs.Rewriting.Nests.{end_after, rises}
use Rattle.gq_select.specs.Choice.{begin_of, end_of, BeginAt}
use Rattle.gq_reshape.specs.RunPlaces.{RunsTouchTheirPlace}

-- where one of the first selections stands
record Stands (from until : ℕ) (s : Sel Span) : Type 0 where
  begins : from ≤ begin_of s
  is_some : begin_of s < end_of s
  ends : end_of s ≤ until

each_stands : (from to : ℕ) (ss others : List (Sel Span)) → AreNested from to (row (ss ++ others)) → (s : Sel Span) → Contains ss s → Stands from (end_after from ss) s
each_stands from to [] others nested s c = nothing_in s c
each_stands from to (x ∷ ss) others nested s c = elim (cases_cons x s ss c) [
  | inl e ↦ subst (λ (z : Sel Span). Stands from (end_after (end_of x) ss) z) e (record { begins = nested.0; is_some = nested.1; ends = rises (end_of x) to ss others nested.4 })
  | inr d ↦
      let i = each_stands (end_of x) to ss others nested.4 s d in
      record { begins = omega (arith, nested.0, nested.1, i.begins); is_some = i.is_some; ends = i.ends }
]

others_stand : (from to : ℕ) (ss others : List (Sel Span)) → AreNested from to (row (ss ++ others)) → AreNested (end_after from ss) to (row others)
others_stand from to [] others nested = nested
others_stand from to (x ∷ ss) others nested = others_stand (end_of x) to ss others nested.4

end_last : (from : ℕ) (inside : List (Sel Span)) (last : Sel Span) → end_after from (inside ++ last ∷ []) ≡ end_of last
end_last from [] last = refl
end_last from (x ∷ inside) last = end_last (end_of x) inside last

-- the first one begins at start
starts_in : (from to start : ℕ) (ss others : List (Sel Span)) → AreNested from to (row (ss ++ others)) → BeginAt start ss → (from ≤ start) × ((s : Sel Span) → Contains ss s → start ≤ begin_of s)
starts_in from to start [] others nested b = absurd b
starts_in from to start (x ∷ ss) others nested b = (omega (arith, nested.0, b), each)
  where
    each : (s : Sel Span) → Contains (x ∷ ss) s → start ≤ begin_of s
    each s c = elim (cases_cons x s ss c) [
      | inl e ↦ subst (λ (z : Sel Span). start ≤ begin_of z) e (omega (arith, b))
      | inr d ↦ let i = each_stands (end_of x) to ss others nested.4 s d in omega (arith, b, nested.1, i.begins)
    ]

pub runs_touch_their_place : RunsTouchTheirPlace
runs_touch_their_place from to start end selections run nested r =
    let members : List (Sel Span) = r.inside ++ r.last ∷ [] in
    let all : AreNested from to (row (r.before ++ (r.inside ++ r.last ∷ r.behind))) = subst (AreNested from to) r.whole nested in
    let regrouped : r.inside ++ r.last ∷ r.behind ≡ members ++ r.behind = sym (append_assoc r.inside (r.last ∷ []) r.behind) in
    let whole : AreNested from to (row (r.before ++ (members ++ r.behind))) = subst (λ (l : List (Sel Span)). AreNested from to (row (r.before ++ l))) regrouped all in
    let middle : AreNested (end_after from r.before) to (row (members ++ r.behind)) = others_stand from to r.before (members ++ r.behind) whole in
    let starts = starts_in (end_after from r.before) to start members r.behind middle r.begins in
    let finish : end_after (end_after from r.before) members ≡ end = end_last (end_after from r.before) r.inside r.last ∙ r.ends in
    let rest : AreNested (end_after (end_after from r.before) members) to (row (r.behind ++ [])) =
    subst (λ (l : List (Sel Span)). AreNested (end_after (end_after from r.before) members) to (row l)) (sym (append-nil r.behind)) (others_stand (end_after from r.before) to members r.behind middle) in
    record {
      before = λ s c. let i = each_stands from to r.before (members ++ r.behind) whole s c in omega (arith, i.ends, starts.0);
      begin_in = starts.1;
      end_in = λ s c. let i = each_stands (end_after from r.before) to members r.behind middle s c in omega (arith, i.ends, finish);
      behind = λ s c. let i = each_stands (end_after (end_after from r.before) members) to r.behind [] rest s c in omega (arith, i.begins, finish);
    }
