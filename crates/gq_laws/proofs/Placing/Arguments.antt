-- Arguments and directives that are equal but for their places and for the names of variables.
use Rattle.std.proofs.Common.{◌≡◌, ℕ, List, [], ◌∷◌, inl, inr, Option, Some, None, map, refl, sym, ap, ◌∙◌, subst, Contains}
use Rattle.std.specs.Option.{option_map}
use Rattle.gq_text.specs.declared.place.Span.{Span}
use Rattle.gq_fault.specs.declared.fault.Fault.{Fault}
use Rattle.gq_fault.specs.FaultPlaces.{fault_at}
use Rattle.gq_fault.specs.declared.code.Code.TheVariants.{UnknownArgument, ArgumentNotUnique, ArgumentMissing, UnknownDirective, DirectiveInWrongPlace, DirectiveRepeated}
use Rattle.gq_tree.specs.declared.type_system.DirectiveLocation.{DirectiveLocation}
use Rattle.gq_tree.specs.Forest.{row}
use Rattle.gq_tree.specs.Plain.{NameOf, Val, InputOf, DirectiveOf, place_name, no_place}
use Rattle.gq_tree.proofs.ForestLemmas.{relabel_row}
use Rattle.gq_names.specs.Repeats.{IsRepeatedAfter}
use Rattle.gq_types.specs.Arguments.{directive_arguments}
use Rattle.gq_types.specs.Entries.{Text, EntryOf}
use Rattle.gq_types.specs.Names.{argument_named, directive_named}
use Rattle.gq_values.specs.ArgumentFaults.{argument_names, argument_at, IsArgumentFault, unknown_argument, argument_not_unique, argument_missing, fault_in_value}
use Rattle.gq_values.specs.DirectiveFaults.{IsDirectiveFault, unknown_directive, directive_in_wrong_place, directive_repeated, fault_in_arguments}
use Rattle.gq_laws.specs.Placing.Places.{HasLike}
use Rattle.gq_laws.specs.Placing.Names.{bare_part, bare_value, bare_directive}
use Rattle.gq_types.proofs.Placing.Alike.{contains, repeated}
use Rattle.gq_laws.proofs.Placing.Literals.{erase_expected, names_alike, none_alike, literal_too}

pub option_too : {A B : Type 0} (h : A → B) (k : Option A) (n : A) → Some (h n) ≡ option_map h k → (m : A) × (k ≡ Some m) × (h n ≡ h m)
option_too h (Some m) n e = (m, refl, cc)
option_too h None n e = absurd (cc)

argument_names_alike : (vs ws : List (Val Span)) → map bare_value vs ≡ map bare_value ws → map (λ n. n.text) (argument_names vs) ≡ map (λ n. n.text) (argument_names ws)
argument_names_alike vs ws e = names_alike (row vs) (row ws) (relabel_row bare_part vs ∙ ap row e ∙ sym (relabel_row bare_part ws))

texts_erased : (ds : List (DirectiveOf Span)) → map (λ d. d.name.text) ds ≡ map (λ d. d.name.text) (map bare_directive ds)
texts_erased [] = refl
texts_erased (d ∷ ds) = ap (λ z. d.name.text ∷ z) (texts_erased ds)

pub texts_alike : (ds us : List (DirectiveOf Span)) → map bare_directive ds ≡ map bare_directive us → map (λ d. d.name.text) ds ≡ map (λ d. d.name.text) us
texts_alike ds us e = texts_erased ds ∙ ap (λ z. map (λ d. d.name.text) z) e ∙ sym (texts_erased us)

repeated_after : {A : Type 0} (text : A → List ℕ) (before : List Text) (xs ys : List A) → map text xs ≡ map text ys → (x : A) → IsRepeatedAfter text before xs x → (y : A) × IsRepeatedAfter text before ys y × (text x ≡ text y)
repeated_after text before xs ys e x (inl c) =
    let d = contains text xs ys e x c.0 in
    let at : Contains before (text d.0) = subst (Contains before) d.2 c.1 in
    (d.0, inl (d.1, at), d.2)
repeated_after text before xs ys e x (inr c) = let d = repeated text xs ys e x c in (d.0, inr d.1, d.2)

module _ (es : List EntryOf) (file : ℕ) (f : Fault) where
  pub argument_too : (definitions : Option (List (InputOf Span))) (name name2 : NameOf Span) (vs ws : List (Val Span)) → map bare_value vs ≡ map bare_value ws →
      IsArgumentFault es file definitions name vs f → HasLike (IsArgumentFault es file definitions name2 ws) f
  argument_too definitions name name2 vs ws e (unknown_argument {known} {argument} a b c is) =
      let n = contains (λ n. n.text) (argument_names vs) (argument_names ws) (argument_names_alike vs ws e) argument b in
      (fault_at file UnknownArgument n.0, unknown_argument a n.1 (ap (argument_named known) (sym n.2) ∙ c) refl, ap (λ z. z.file) (sym is), ap (λ z. z.code) (sym is))
  argument_too definitions name name2 vs ws e (argument_not_unique {argument} a is) =
      let n = repeated (λ n. n.text) (argument_names vs) (argument_names ws) (argument_names_alike vs ws e) argument a in
      (fault_at file ArgumentNotUnique n.0, argument_not_unique n.1 refl, ap (λ z. z.file) (sym is), ap (λ z. z.code) (sym is))
  argument_too definitions name name2 vs ws e (argument_missing {text = text} a b c d is) =
      (fault_at file ArgumentMissing name2, argument_missing a b c (none_alike (argument_names vs) (argument_names ws) (argument_names_alike vs ws e) text d) refl, ap (λ z. z.file) (sym is), ap (λ z. z.code) (sym is))
  argument_too definitions name name2 vs ws e (fault_in_value {argument} {key} a b l) =
      let v = contains bare_value vs ws e argument a in
      let k = option_too (place_name no_place) v.0.label.key key (ap (option_map (place_name no_place)) (sym b) ∙ ap (λ z. z.label.key) v.2) in
      let g = literal_too es file f (argument_at definitions key.text) (argument_at definitions k.0.text) argument v.0 (ap (λ n. erase_expected (argument_at definitions n.text)) k.2) v.2 l in
      (g.0, fault_in_value v.1 k.1 g.1, g.2, g.3)

  pub directive_too : (location : DirectiveLocation) (before : List Text) (ds us : List (DirectiveOf Span)) → map bare_directive ds ≡ map bare_directive us →
      IsDirectiveFault es file location before ds f → HasLike (IsDirectiveFault es file location before us) f
  directive_too location before ds us e (unknown_directive {d} a b is) =
      let u = contains bare_directive ds us e d a in
      (fault_at file UnknownDirective u.0.name, unknown_directive u.1 (ap (λ z. directive_named es z.name.text) (sym u.2) ∙ b) refl, ap (λ z. z.file) (sym is), ap (λ z. z.code) (sym is))
  directive_too location before ds us e (directive_in_wrong_place {d} a b c is) =
      let u = contains bare_directive ds us e d a in
      (fault_at file DirectiveInWrongPlace u.0.name, directive_in_wrong_place u.1 (ap (λ z. directive_named es z.name.text) (sym u.2) ∙ b) c refl, ap (λ z. z.file) (sym is), ap (λ z. z.code) (sym is))
  directive_too location before ds us e (directive_repeated {d} a b c is) =
      let u = repeated_after (λ d. d.name.text) before ds us (texts_alike ds us e) d a in
      (fault_at file DirectiveRepeated u.0.name, directive_repeated u.1 (ap (directive_named es) (sym u.2) ∙ b) c refl, ap (λ z. z.file) (sym is), ap (λ z. z.code) (sym is))
  directive_too location before ds us e (fault_in_arguments {d} a h) =
      let u = contains bare_directive ds us e d a in
      let g = argument_too (directive_arguments es d.name.text) d.name u.0.name d.arguments u.0.arguments (ap (λ z. z.arguments) u.2) h in
      (g.0, fault_in_arguments u.1 (subst (λ z. IsArgumentFault es file (directive_arguments es z) u.0.name u.0.arguments g.0) (ap (λ z. z.name.text) u.2) g.1), g.2, g.3)
