-- In a project with which nothing is wrong no fragment leads back to itself, and each spread is of a fragment.
use Rattle.std.proofs.Common.{◌≡◌, inl, inr, ℕ, Bool, true, false, List, [], ◌∷◌, ◌++◌, map, flat_map, refl, sym, ◌∙◌, ap, subst, Contains}
use Rattle.std.specs.Prelude.{◌⊎◌}
use Rattle.std.specs.Str.{bytes_eq}
use Rattle.std.proofs.lemmas.List.Elements.{Contains-append_left, Contains-append_right}
use Rattle.gq_text.specs.declared.place.Span.{Span}
use Rattle.gq_tree.specs.Forest as forest
use Rattle.gq_tree.specs.Forest.{labels}
use Rattle.gq_tree.specs.Plain as tree
use Rattle.gq_tree.specs.Plain.{NameOf, Head, Sels}
use Rattle.gq_tree.specs.Names.{spread_name, spread_names}
use Rattle.gq_names.proofs.RepeatLemmas.{contains_none, contains_later, contains_first, contains_cases}
use Rattle.gq_fault.specs.declared.code.Code.TheVariants.{FragmentCycle, UnknownFragment}
use Rattle.gq_fault.specs.declared.fault.Fault.{Fault}
use Rattle.gq_document.specs.Definitions.{OperationOf, FragmentOf}
use Rattle.gq_document.specs.Executable.{ExecutableOf}
use Rattle.gq_document.specs.Reaches as reaches
use Rattle.gq_document.specs.Reaches.{Reaches, IsSpreadIn}
use Rattle.gq_fault.specs.FaultPlaces.{fault_at}
use Rattle.gq_spreads.specs.FragmentSpreadTargetDefined.{IsSpreadName, of_operation, of_fragment, IsUnknownFragment}
use Rattle.gq_spreads.specs.FragmentSpreadsMustNotFormCycles.{IsFragmentCycle}
use Rattle.gq_meaning.specs.Values.{Text}
use Rattle.gq_meaning.proofs.TextLemmas.{same_text, text_same}
use Rattle.gq_meaning.specs.Selected.{set_of}
use Rattle.gq_meaning.specs.Expand.{Definition}
use Rattle.gq_meaning.specs.Thin.{IsIn}
use Rattle.gq_meaning.specs.Acyclic.{Rankable}
use Rattle.gq_collect.specs.Fragments.{definition_of}
use Rattle.gq_laws.proofs.Rewriting.Ranking.{Graph, at_once, on_way, spreads_of, AreDefined, LeadNowhereBack, can_be_ranked}

-- a name in the spreads of a tree
record IsSpread (ss : Sels Span) (g : Text) : Type 0 where
  head : Head Span
  stands : Contains (labels ss) head
  name : NameOf Span
  is_of : Contains (spread_name head) name
  is : g ≡ name.text

parts_in : (a b : List Text) (g : Text) → IsIn g (a ++ b) → IsIn g a ⊎ IsIn g b
parts_in [] b g m = inr m
parts_in (x ∷ a) b g (inl e) = inl (inl e)
parts_in (x ∷ a) b g (inr m) = elim (parts_in a b g m) [
  | inl h ↦ inl (inr h)
  | inr h ↦ inr h
]

spread_below : (head : Head Span) (below rest : Sels Span) (g : Text) → IsSpread below g → IsSpread (forest.more head below rest) g
spread_below head below rest g s = record {
  head = s.head;
  stands = contains_later head (labels below ++ labels rest) s.head (Contains-append_left (labels below) (labels rest) s.head s.stands);
  name = s.name;
  is_of = s.is_of;
  is = s.is;
}

spread_after : (head : Head Span) (below rest : Sels Span) (g : Text) → IsSpread rest g → IsSpread (forest.more head below rest) g
spread_after head below rest g s = record {
  head = s.head;
  stands = contains_later head (labels below ++ labels rest) s.head (Contains-append_right (labels below) (labels rest) s.head s.stands);
  name = s.name;
  is_of = s.is_of;
  is = s.is;
}

is_spread : (ss : Sels Span) (g : Text) → IsIn g (spreads_of (set_of ss)) → IsSpread ss g
is_spread forest.none g m = absurd m
is_spread (forest.more (tree.field alias name arguments directives braces place) below rest) g m = elim (parts_in (spreads_of (set_of below)) (spreads_of (set_of rest)) g m) [
  | inl h ↦ spread_below _ below rest g (is_spread below g h)
  | inr h ↦ spread_after _ below rest g (is_spread rest g h)
]
is_spread (forest.more (tree.spread name directives place) below rest) g (inl e) = record {
  head = tree.spread name directives place;
  stands = contains_first (tree.spread name directives place) (labels below ++ labels rest) (tree.spread name directives place) refl;
  name = name;
  is_of = contains_first name [] name refl;
  is = e;
}
is_spread (forest.more (tree.spread name directives place) below rest) g (inr m) = spread_after _ below rest g (is_spread rest g m)
is_spread (forest.more (tree.inline on directives braces place) below rest) g m = elim (parts_in (spreads_of (set_of below)) (spreads_of (set_of rest)) g m) [
  | inl h ↦ spread_below _ below rest g (is_spread below g h)
  | inr h ↦ spread_after _ below rest g (is_spread rest g h)
]

to_flat : (hs : List (Head Span)) (h : Head Span) (n : NameOf Span) → Contains hs h → Contains (spread_name h) n → Contains (flat_map spread_name hs) n
to_flat [] h n c d = absurd (contains_none h c)
to_flat (w ∷ hs) h n c d = elim (contains_cases w hs h c) [
  | inl e ↦ Contains-append_left (spread_name w) (flat_map spread_name hs) n (subst (λ v. Contains (spread_name v) n) (sym e) d)
  | inr b ↦ Contains-append_right (spread_name w) (flat_map spread_name hs) n (to_flat hs h n b d)
]

named_in : (ss : Sels Span) (g : Text) → IsIn g (spreads_of (set_of ss)) → (name : NameOf Span) × Contains (spread_names ss) name × (g ≡ name.text)
named_in ss g m = let s = is_spread ss g m in (s.name, to_flat (labels ss) s.head s.name s.stands s.is_of, s.is)

in_definitions : (fs : List FragmentOf) (d : Definition) → IsIn d (map definition_of fs) → (f : FragmentOf) × Contains fs f × (d ≡ definition_of f)
in_definitions [] d m = absurd m
in_definitions (f ∷ fs) d (inl e) = (f, contains_first f fs f refl, e)
in_definitions (f ∷ fs) d (inr m) = let r = in_definitions fs d m in (r.0, contains_later f fs r.0 r.1, r.2)

among_definitions : (fs : List FragmentOf) (f : FragmentOf) → Contains fs f → IsIn (definition_of f) (map definition_of fs)
among_definitions [] f c = absurd (contains_none f c)
among_definitions (g ∷ fs) f c = elim (contains_cases g fs f c) [
  | inl e ↦ inl (ap definition_of (sym e))
  | inr r ↦ inr (among_definitions fs f r)
]

reach_on : {fs : List FragmentOf} {set : Sels Span} {f g : FragmentOf} → Reaches fs set f → Reaches fs f.set g → Reaches fs set g
reach_on h (reaches.at_once c s) = reaches.through h c s
reach_on h (reaches.through k c s) = reaches.through (reach_on h k) c s

reached_stands : {fs : List FragmentOf} {set : Sels Span} {f : FragmentOf} → Reaches fs set f → Contains fs f
reached_stands (reaches.at_once c s) = c
reached_stands (reaches.through h c s) = c

way : (fs : List FragmentOf) {f g : Text} → Graph (map definition_of fs) f g → (to : FragmentOf) → Contains fs to → g ≡ to.name.text →
    (from : FragmentOf) × Contains fs from × (f ≡ from.name.text) × Reaches fs from.set to
way fs {g = g} (at_once d m e s) to c q =
    let r = in_definitions fs d m in
    let n = named_in r.0.set g (subst (λ z. IsIn g (spreads_of z.set)) r.2 s) in
    (r.0, r.1, e ∙ ap (λ z. z.name) r.2, reaches.at_once c (record { name = n.0; stands = n.1; names = sym n.2 ∙ q }))
way fs (on_way a b) to c q =
    let r = way fs b to c q in
    let k = way fs a r.0 r.1 r.2 in
    (k.0, k.1, k.2, reach_on k.3 r.3)

search_name : (fs : List FragmentOf) (t : Text) → ((f : FragmentOf) × Contains fs f × (t ≡ f.name.text)) ⊎ ((f : FragmentOf) → Contains fs f → t ≡ f.name.text → ⊥)
search_name [] t = inr (λ f c e. contains_none f c)
search_name (f ∷ fs) t = by_test (bytes_eq t f.name.text) refl (search_name fs t)
  where
    by_test : (b : Bool) → bytes_eq t f.name.text ≡ b → ((f : FragmentOf) × Contains fs f × (t ≡ f.name.text)) ⊎ ((f : FragmentOf) → Contains fs f → t ≡ f.name.text → ⊥) →
        ((g : FragmentOf) × Contains (f ∷ fs) g × (t ≡ g.name.text)) ⊎ ((g : FragmentOf) → Contains (f ∷ fs) g → t ≡ g.name.text → ⊥)
    by_test true e r = inl (f, contains_first f fs f refl, same_text t f.name.text e)
    by_test false e (inl r) = inl (r.0, contains_later f fs r.0 r.1, r.2)
    by_test false e (inr r) = inr (λ g c q. elim (contains_cases f fs g c) [
      | inl k ↦ let bad : true ≡ false = sym (text_same t f.name.text (q ∙ ap (λ z. z.name.text) (sym k))) ∙ e in cc
      | inr k ↦ r g k q
    ])

module _ (x : ExecutableOf) (no_cycle : (fault : Fault) → IsFragmentCycle x fault → ⊥) (no_unknown : (fault : Fault) → IsUnknownFragment x fault → ⊥) where
  back : (from to : FragmentOf) → Contains x.fragments from → to.name.text ≡ from.name.text → Reaches x.fragments from.set to → ⊥
  back from to c e (reaches.at_once d s) = no_cycle (fault_at from.file FragmentCycle s.name) (record {
    fragment = from;
    stands = c;
    name = s.name;
    is_spread = s.stands;
    target = from;
    target_stands = c;
    is_named = s.names ∙ e;
    leads_back = reaches.at_once c (record { name = s.name; stands = s.stands; names = s.names ∙ e });
    is = refl;
  })
  back from to c e (reaches.through {g = g} h d s) = no_cycle (fault_at g.file FragmentCycle s.name) (record {
    fragment = g;
    stands = reached_stands h;
    name = s.name;
    is_spread = s.stands;
    target = from;
    target_stands = c;
    is_named = s.names ∙ e;
    leads_back = h;
    is = refl;
  })

  nowhere_back : LeadNowhereBack (map definition_of x.fragments)
  nowhere_back d m l =
      let r = in_definitions x.fragments d m in
      let w = way x.fragments l r.0 r.1 (ap (λ z. z.name) r.2) in
      back w.0 r.0 w.1 (sym (ap (λ z. z.name) r.2) ∙ w.2) w.3

  defined : (file : ℕ) (ss : Sels Span) → ((name : NameOf Span) → Contains (spread_names ss) name → IsSpreadName x file name) → AreDefined (map definition_of x.fragments) (set_of ss)
  defined file ss is_name g m = let n = named_in ss g m in elim (search_name x.fragments n.0.text) [
    | inl f ↦ record { definition = definition_of f.0; stands = among_definitions x.fragments f.0 f.1; is = n.2 ∙ f.2 }
    | inr nowhere ↦ absurd (no_unknown (fault_at file UnknownFragment n.0) (record { file = file; name = n.0; is_spread = is_name n.0 n.1; is_unknown = nowhere; is = refl }))
  ]

  defined_below : (d : Definition) → IsIn d (map definition_of x.fragments) → AreDefined (map definition_of x.fragments) d.set
  defined_below d m =
      let r = in_definitions x.fragments d m in
      subst (λ z. AreDefined (map definition_of x.fragments) z.set) (sym r.2) (defined r.0.file r.0.set (λ name c. of_fragment r.1 c refl))

  pub are_ranked : (o : OperationOf) → Contains x.operations o → Rankable (map definition_of x.fragments) (set_of o.set)
  are_ranked o c = can_be_ranked (map definition_of x.fragments) (set_of o.set) nowhere_back defined_below (defined o.file o.set (λ name d. of_operation c d refl))
