-- Operations that spread the same, and whose variables are alike, have the same faults behind their spreads.
use Rattle.std.proofs.Common.{◌≡◌, ◌+◌, ◌<◌, ◌≤◌, ℕ, zero, suc, true, List, [], ◌∷◌, Contains, length, drop, get_or, refl, sym, ap, subst, ◌∙◌, ⊎_elim, arith, add-one}
use Rattle.std.specs.Prelude.{filter, ◌&&◌}
use Rattle.std.specs.Str.{bytes_eq}
use Rattle.std.specs.Cmp.Lexicographic.{bytes_decides, nat_list_eq_equiv}
use Rattle.std.specs.Borrow.{Bor}
use Rattle.std.proofs.lemmas.List.{drop_all, length-map, get_or-map}
use Rattle.std.proofs.lemmas.Map.Views.{list_any-from_Contains}
use Rattle.gq_text.specs.declared.place.Span.{Span}
use Rattle.gq_tree.specs.Plain.{VariableOf}
use Rattle.gq_tree.specs.Views.{variable_view}
use Rattle.gq_tree.specs.declared.tree.VariableDefinition.{VariableDefinition}
use Rattle.gq_fault.specs.declared.fault.Fault.{Fault}
use Rattle.gq_types.specs.Entries.{Text}
use Rattle.gq_types.proofs.Gathered.{and_parts, nothing_in, first, later, cases_cons, from_filter, to_filter, to_map_as}
use Rattle.gq_document.specs.Definitions.{OperationOf}
use Rattle.gq_document.specs.Executable.{ExecutableOf}
use Rattle.gq_variables.specs.Uses.{UseOf}
use Rattle.gq_variables.specs.ReachedUses.{ReachesUse}
use Rattle.gq_variables.specs.AllVariableUsesDefined.{IsNotDefined}
use Rattle.gq_variables.specs.AllVariableUsagesAreAllowed.{IsNotAllowed}
use Rattle.gq_variables.specs.Helping.VariablePlaces.{use_texts}
use Rattle.gq_variables.specs.Helping.Again.{covers}
use Rattle.gq_variables.specs.Helping.Alike.{is_named, is_alike, are_alike, AreAsBefore}
use Rattle.gq_variables.specs.Helping.Views.{variables_view}
use Rattle.gq_variables.proofs.AgainLemmas.{known_too, still_allowed}
use Rattle.gq_variables.proofs.CompatibleLemmas.{to_allowed, from_allowed}

-- each of the first has one of the second at its place
to_second : (ws vs : List (VariableOf Span)) (w : VariableOf Span) → are_alike ws vs ≡ true → Contains ws w → (v : VariableOf Span) × Contains vs v × (is_alike w v ≡ true)
to_second [] vs w alike c = nothing_in w c
to_second (a ∷ ws) [] w alike c = absurd (cc)
to_second (a ∷ ws) (b ∷ vs) w alike c =
    let both = and_parts (is_alike a b) (are_alike ws vs) alike in
    ⊎_elim
    (λ is. (b, first b b vs refl, subst (λ v. is_alike v b ≡ true) is both.0))
    (λ rest. let r = to_second ws vs w both.1 rest in (r.0, later b r.0 vs r.1, r.2))
    (cases_cons a w ws c)

to_first : (ws vs : List (VariableOf Span)) (v : VariableOf Span) → are_alike ws vs ≡ true → Contains vs v → (w : VariableOf Span) × Contains ws w × (is_alike w v ≡ true)
to_first ws [] v alike c = nothing_in v c
to_first [] (b ∷ vs) v alike c = absurd (cc)
to_first (a ∷ ws) (b ∷ vs) v alike c =
    let both = and_parts (is_alike a b) (are_alike ws vs) alike in
    ⊎_elim
    (λ is. (a, first a a ws refl, subst (λ w. is_alike a w ≡ true) is both.0))
    (λ rest. let r = to_first ws vs v both.1 rest in (r.0, later a r.0 ws r.1, r.2))
    (cases_cons b v vs c)

pub as_before : (names : List Text) (before now : List (VariableOf Span)) → are_alike (filter (is_named names) before) (filter (is_named names) now) ≡ true → AreAsBefore names before now
as_before names before now alike = record {
  defined = λ w stands named.
      let r = to_second (filter (is_named names) before) (filter (is_named names) now) w alike (to_filter (is_named names) before w stands named) in
      let parts = and_parts (bytes_eq w.name.text r.0.name.text) (covers w r.0) r.2 in
      (r.0, (from_filter (is_named names) now r.0 r.1).0, sym ((bytes_decides w.name.text r.0.name.text).0 parts.0));
  covered = λ v stands named.
      let r = to_first (filter (is_named names) before) (filter (is_named names) now) v alike (to_filter (is_named names) now v stands named) in
      let parts = and_parts (bytes_eq r.0.name.text v.name.text) (covers r.0 v) r.2 in
      (r.0, (from_filter (is_named names) before r.0 r.1).0, (bytes_decides r.0.name.text v.name.text).0 parts.0, parts.1);
}

-- compared place by place
pub alike_from : (ws vs : List (VariableOf Span)) (k : ℕ) (d e : VariableOf Span) → k < length ws → k < length vs →
    is_alike (get_or ws k d) (get_or vs k e) ≡ true → are_alike (drop (suc k) ws) (drop (suc k) vs) ≡ true → are_alike (drop k ws) (drop k vs) ≡ true
alike_from [] vs k d e l m h t = absurd (omega (arith, l))
alike_from (w ∷ ws) [] k d e l m h t = absurd (omega (arith, m))
alike_from (w ∷ ws) (v ∷ vs) zero d e l m h t = ap (λ b. b && are_alike ws vs) h ∙ t
alike_from (w ∷ ws) (v ∷ vs) (suc k) d e l m h t = alike_from ws vs k d e (omega (arith, l)) (omega (arith, m)) h t

pub alike_past : (ws vs : List (VariableOf Span)) (k : ℕ) → length ws ≤ k → length vs ≤ k → are_alike (drop k ws) (drop k vs) ≡ true
alike_past ws vs k l m = ap (λ us. are_alike us (drop k vs)) (drop_all k ws l) ∙ ap (are_alike []) (drop_all k vs m)

pub alike_at : (ws vs : List (Bor VariableDefinition)) (k : ℕ) (w v : Bor VariableDefinition) → k < length ws → k < length vs → w ≡ get_or ws k w → v ≡ get_or vs k v →
    is_alike (variable_view w.now) (variable_view v.now) ≡ true → are_alike (drop (k + 1) (variables_view ws)) (drop (k + 1) (variables_view vs)) ≡ true →
    are_alike (drop k (variables_view ws)) (drop k (variables_view vs)) ≡ true
alike_at ws vs k w v l m at_w at_v h t =
    let view : Bor VariableDefinition → VariableOf Span = λ b. variable_view b.now in
    alike_from (variables_view ws) (variables_view vs) k (view w) (view v) (omega (arith, l, length-map ws view)) (omega (arith, m, length-map vs view))
    (ap (λ one. is_alike one (get_or (variables_view vs) k (view v))) (get_or-map view ws k w (view w) l ∙ ap view (sym at_w)) ∙ ap (is_alike (view w)) (get_or-map view vs k v (view v) m ∙ ap view (sym at_v)) ∙ h)
    (subst (λ n. are_alike (drop n (variables_view ws)) (drop n (variables_view vs)) ≡ true) (add-one k) t)

-- a use behind the spreads of both
module _ (x : ExecutableOf) (p o : OperationOf) (behind : List UseOf) (alike : AreAsBefore (use_texts behind) p.variables o.variables) (fault : Fault) where
  its_name : (u : UseOf) (v : VariableOf Span) → Contains behind u → v.name.text ≡ u.name.text → is_named (use_texts behind) v ≡ true
  its_name u v there same = list_any-from_Contains nat_list_eq_equiv v.name.text (use_texts behind) (to_map_as (λ (w : UseOf). w.name.text) behind u v.name.text there same)

  pub not_defined_too : (w : IsNotDefined x o fault) → Contains behind w.one → ReachesUse x p w.one → IsNotDefined x p fault
  not_defined_too w there reached = record {
    one = w.one;
    reached = reached;
    undefined = λ v stands same. let r = alike.defined v stands (its_name w.one v there same) in w.undefined r.0 r.1 (r.2 ∙ same);
    is = w.is;
  }

  pub not_allowed_too : (w : IsNotAllowed x o fault) → Contains behind w.one → ReachesUse x p w.one → IsNotAllowed x p fault
  not_allowed_too w there reached =
      let r = alike.covered w.variable w.defined (its_name w.one w.variable there w.names_it) in
      record {
        one = w.one;
        reached = reached;
        variable = r.0;
        defined = r.1;
        names_it = r.2 ∙ w.names_it;
        location = w.location;
        read_at = w.read_at;
        variable_known = known_too r.0 w.variable r.3 x.entries w.variable_known;
        location_known = w.location_known;
        not_allowed = λ allowed. w.not_allowed
            (to_allowed w.variable w.one.place.has_default w.location
            (still_allowed r.0 w.variable r.3 w.one.place.has_default w.location (from_allowed r.0 w.one.place.has_default w.location allowed)));
        is = w.is;
      }
