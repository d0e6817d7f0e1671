-- Where each set has its fields in a set of another project, two fields that meet and differ do so there.
use Rattle.std.proofs.Common.{◌≡◌, ◌⊎◌, ⊎_elim, inl, inr, ℕ, suc, refl, sym, ap, ◌∙◌, subst, arith}
use Rattle.std.proofs.lemmas.Bool.{cases_lt}
use Rattle.gq_fault.specs.declared.fault.Fault.{Fault}
use Rattle.gq_document.specs.Executable.{ExecutableOf}
use Rattle.gq_document.specs.FieldSets.{SetOf, FieldAt, field_set}
use Rattle.gq_merging.specs.declared.purpose.Purpose.{Purpose}
use Rattle.gq_merging.specs.FieldsMerge.{HaveOneKey, leads_on, Meet, together, deeper, Differ, IsNoLater, fault_of, IsFaultFor, IsMergingFault, of_shapes, of_names}
use Rattle.gq_laws.specs.Placing.Types.{IsFaultless}
use Rattle.gq_laws.specs.Placing.Merging.{SayTheSame, HasFieldsTo, HasSets, FieldsThatAreKeptMerge}
use Rattle.gq_laws.proofs.Placing.MergingBack.{meet_back, differ_back, one_is_no_later}
use Rattle.gq_laws.proofs.Placing.MergingSame.{leads_alike, differ_alike}

-- of two fields one stands no later
in_some_order : (a b : FieldAt) → IsNoLater a b ⊎ IsNoLater b a
in_some_order a b =
    ⊎_elim (λ l. inl (inl l)) (λ l. ⊎_elim (λ k. inr (inl k)) (λ k. one_is_no_later a b (omega (arith, l, k))) (cases_lt b.file a.file)) (cases_lt a.file b.file)

module _ (x y : ExecutableOf) (one : x.entries ≡ y.entries) (has : HasSets x y) where
  abbrev BelowTo : ℕ → FieldAt → FieldAt → Type 0
  BelowTo depth a c = HasFieldsTo depth x y (field_set x.entries a) (field_set y.entries c)

  record BothAre (P : FieldAt → FieldAt → Type 0) (depth : ℕ) (a b : FieldAt) : Type 0 where
    pub left : FieldAt
    pub right : FieldAt
    pub are : P left right
    pub left_same : SayTheSame a left
    pub right_same : SayTheSame b right
    pub left_below : BelowTo depth a left
    pub right_below : BelowTo depth b right

  keys_there : {s t : SetOf} {a b : FieldAt} (u v : SetOf) (depth : ℕ) → HaveOneKey x s t a b → HasFieldsTo (suc depth) x y s u → HasFieldsTo (suc depth) x y t v → BothAre (HaveOneKey y u v) depth a b
  keys_there {a = a} {b = b} u v depth h left right =
      let c = left a h.first in
      let d = right b h.second in
      record {
        left = c.0;
        right = d.0;
        are = record { first = c.1; second = d.1; one_key = sym c.2.one_key ∙ h.one_key ∙ d.2.one_key };
        left_same = c.2;
        right_same = d.2;
        left_below = c.3;
        right_below = d.3;
      }

  meet_there : {purpose : Purpose} {a b : FieldAt} → Meet x purpose a b → (depth : ℕ) → BothAre (Meet y purpose) depth a b
  meet_there (together {s = s} stands h) depth =
      let t = has s stands (suc depth) in
      let r = keys_there t.0 t.0 depth h t.2 t.2 in
      record {
        left = r.left;
        right = r.right;
        are = together t.1 r.are;
        left_same = r.left_same;
        right_same = r.right_same;
        left_below = r.left_below;
        right_below = r.right_below;
      }
  meet_there {purpose} (deeper {a = a} {b = b} m l h) depth =
      let o = meet_there m (suc depth) in
      let r = keys_there (field_set y.entries o.left) (field_set y.entries o.right) depth h o.left_below o.right_below in
      let leads = sym (leads_alike y.entries purpose a b o.left o.right o.left_same o.right_same) ∙ ap (λ z. leads_on z purpose a b) (sym one) ∙ l in
      record {
        left = r.left;
        right = r.right;
        are = deeper o.are leads r.are;
        left_same = r.left_same;
        right_same = r.right_same;
        left_below = r.left_below;
        right_below = r.right_below;
      }

  fault_there : {purpose : Purpose} {f : Fault} → IsFaultFor x purpose f → (g : Fault) × IsFaultFor y purpose g
  fault_there {purpose} h =
      let o = meet_there h.meet 0 in
      let differ = differ_alike o.left o.right o.left_same o.right_same (subst (λ z. Differ z purpose h.first h.later) one h.differ) in
      ⊎_elim
      (λ l. (fault_of o.right, record { first = o.left; later = o.right; meet = o.are; differ = differ; is_no_later = l; is = refl }))
      (λ l. (fault_of o.left, record { first = o.right; later = o.left; meet = meet_back o.are; differ = differ_back differ; is_no_later = l; is = refl }))
      (in_some_order o.left o.right)

  kept : IsFaultless IsMergingFault y → IsFaultless IsMergingFault x
  kept all f (of_shapes h) = let r = fault_there h in all r.0 (of_shapes r.1)
  kept all f (of_names h) = let r = fault_there h in all r.0 (of_names r.1)

pub kept_fields_merge : FieldsThatAreKeptMerge
kept_fields_merge x y one has all = kept x y one has all
