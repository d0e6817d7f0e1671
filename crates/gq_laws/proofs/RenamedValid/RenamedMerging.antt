-- Fields that meet and differ, where variables are renamed: with the fragments that one operation reaches they are renamed alike.
use Rattle.std.proofs.Common.{◌≡◌, Some, List, [], ◌∷◌, ◌++◌, map, refl, sym, ap, ◌∙◌, subst, Contains}
use Rattle.std.proofs.lemmas.List.Elements.{Contains-append_left, Contains-append_right}
use Rattle.gq_text.specs.declared.place.Span.{Span}
use Rattle.gq_fault.specs.declared.fault.Fault.{Fault}
use Rattle.gq_tree.specs.Forest.{none, more, labels}
use Rattle.gq_tree.specs.Names.{spread_name, spread_names}
use Rattle.gq_tree.specs.Plain.{NameOf, TypeOf, Head, field, spread, inline, Sels}
use Rattle.gq_types.specs.Entries.{Text, EntryOf}
use Rattle.gq_types.proofs.Gathered.{first, later, from_flat, to_flat}
use Rattle.gq_renamed.specs.Renamings.{Renaming}
use Rattle.gq_renamed.specs.Renamed.{rename_fragment, rename_value, rename_selections}
use Rattle.gq_document.specs.Definitions.{OperationOf, FragmentOf}
use Rattle.gq_document.specs.Executable.{ExecutableOf}
use Rattle.gq_document.specs.FieldSets.{SetOf, FieldAt, operation_set, fragment_set, field_set, narrowed, InSet, Stands}
use Rattle.gq_document.specs.FieldSets as sets
use Rattle.gq_document.specs.Reaches.{Reaches, at_once, through}
use Rattle.gq_merging.specs.declared.purpose.Purpose.{Purpose}
use Rattle.gq_merging.specs.declared.purpose.Purpose.TheVariants.{Shapes, Names}
use Rattle.gq_merging.specs.FieldsMerge.{HaveOneKey, Meet, together, deeper, leads_on, HasType, IsSameCall, Differ, in_shape, in_call}
use Rattle.gq_merging.specs.FieldsMerge.{IsNoLater, fault_of, IsFaultFor, IsMergingFault, of_shapes, of_names}
use Rattle.gq_laws.proofs.Placing.MergingFields.{set_from, in_alike_set}
use Rattle.gq_laws.proofs.RenamedValid.RenamedUses.{rename_operation, rename_uses}
use Rattle.gq_laws.proofs.RenamedValid.SameRenamed.{arguments_to}

abbrev pub rename_field : Renaming → Text → FieldAt → FieldAt
rename_field r new a = record {
  file = a.file;
  parent = a.parent;
  alias = a.alias;
  name = a.name;
  arguments = map (rename_value r new) a.arguments;
  place = a.place;
  below = rename_selections r new a.below;
}

abbrev rename_in : Renaming → Text → SetOf → SetOf
rename_in r new s = record { file = s.file; parent = s.parent; selections = rename_selections r new s.selections }

-- spreads below a selection, and after it, are spreads
below_spread : (h : Head Span) (below rest : Sels Span) (name : NameOf Span) → Contains (spread_names below) name → Contains (spread_names (more h below rest)) name
below_spread h below rest name c =
    let l = from_flat spread_name (labels below) name c in
    to_flat spread_name (h ∷ (labels below ++ labels rest)) l.0 name (later h l.0 (labels below ++ labels rest) (Contains-append_left (labels below) (labels rest) l.0 l.1)) l.2

rest_spread : (h : Head Span) (below rest : Sels Span) (name : NameOf Span) → Contains (spread_names rest) name → Contains (spread_names (more h below rest)) name
rest_spread h below rest name c =
    let l = from_flat spread_name (labels rest) name c in
    to_flat spread_name (h ∷ (labels below ++ labels rest)) l.0 name (later h l.0 (labels below ++ labels rest) (Contains-append_right (labels below) (labels rest) l.0 l.1)) l.2

own_spread : (n : NameOf Span) (h : Head Span) (below rest : Sels Span) → Contains (spread_name h) n → Contains (spread_names (more h below rest)) n
own_spread n h below rest c = to_flat spread_name (h ∷ (labels below ++ labels rest)) h n (first h h (labels below ++ labels rest) refl) c

-- such fields have the same types, and make the same calls at least
has_type : {es : List EntryOf} (r : Renaming) (new : Text) (a : FieldAt) {t : TypeOf Span} → HasType es (rename_field r new a) t → HasType es a t
has_type r new a h = record { definition = h.definition; is_known = h.is_known; is = h.is; end_is_known = h.end_is_known }

same_call : (r : Renaming) (new : Text) (a b : FieldAt) → IsSameCall a b → IsSameCall (rename_field r new a) (rename_field r new b)
same_call r new a b h = record { one_name = h.one_name; same_arguments = arguments_to r new a.arguments b.arguments h.same_arguments }

differ_before : {es : List EntryOf} (purpose : Purpose) (r : Renaming) (new : Text) (a b c d : FieldAt) → c ≡ rename_field r new a → d ≡ rename_field r new b →
    Differ es purpose c d → Differ es purpose a b
differ_before {es} purpose r new a b c d e f h = by purpose (subst (Differ es purpose (rename_field r new a)) f (subst (λ z. Differ es purpose z d) e h))
  where
    by : (purpose : Purpose) → Differ es purpose (rename_field r new a) (rename_field r new b) → Differ es purpose a b
    by Shapes (in_shape left right p q apart) = in_shape left right (has_type r new a p) (has_type r new b q) apart
    by Names (in_call can apart) = in_call can (λ s. apart (same_call r new a b s))

leads_before : (es : List EntryOf) (purpose : Purpose) (r : Renaming) (new : Text) (a b : FieldAt) → leads_on es purpose (rename_field r new a) (rename_field r new b) ≡ leads_on es purpose a b
leads_before es Shapes r new a b = refl
leads_before es Names r new a b = refl

-- of one operation, and the fragments that it reaches, each of which is renamed by one rule
module _ (es : List EntryOf) (os ps : List OperationOf) (fs gs : List FragmentOf) (new : Text) where
  abbrev x : ExecutableOf
  x = record { entries = es; operations = os; fragments = fs }

  abbrev y : ExecutableOf
  y = record { entries = es; operations = ps; fragments = gs }

  -- a fragment that is spread under a name is one of before, renamed by the rule if the operation reaches it
  abbrev pub WasSpread : OperationOf → Renaming → Type 0
  WasSpread o r =
      (name : NameOf Span) (g : FragmentOf) → Contains gs g → name.text ≡ g.name.text → ((f : FragmentOf) → Contains fs f → name.text ≡ f.name.text → Reaches fs o.set f) →
      (f : FragmentOf) × Contains fs f × (name.text ≡ f.name.text) × (g ≡ rename_uses r new f)

  -- all that is spread there is reached
  abbrev pub IsInside : OperationOf → Sels Span → Type 0
  IsInside o ss = (name : NameOf Span) → Contains (spread_names ss) name → (f : FragmentOf) → Contains fs f → name.text ≡ f.name.text → Reaches fs o.set f

  inside_fragment : (o : OperationOf) (f : FragmentOf) → Reaches fs o.set f → IsInside o f.set
  inside_fragment o f way name c g d e = through way d (record { name = name; stands = c; names = e })

  inside_operation : (o : OperationOf) → IsInside o o.set
  inside_operation o name c g d e = at_once d (record { name = name; stands = c; names = e })

  module _ (o : OperationOf) (r : Renaming) (stays : (name : NameOf Span) → (rename_fragment r new name).text ≡ name.text) (was : WasSpread o r) where
    abbrev WasField : SetOf → FieldAt → Type 0
    WasField s a = (b : FieldAt) × InSet x s b × (a ≡ rename_field r new b) × IsInside o b.below

    in_set : {s : SetOf} {a : FieldAt} → InSet y s a → (ss : Sels Span) → s.selections ≡ rename_selections r new ss → IsInside o ss → WasField (set_from s.file s.parent ss) a
    in_set (sets.here {file} {parent} {alias} {name} {arguments} {directives} {braces} {place} {below} {rest}) (more (field al n vs ds b p) c t) e inside =
        (record { file = file; parent = parent; alias = al; name = n; arguments = vs; place = p; below = c }, sets.here, cc, λ m d. inside m (below_spread (field al n vs ds b p) c t m d))
    in_set sets.here _ e inside = absurd (cc)
    in_set (sets.within {file} {parent} {on} {directives} {braces} {place} {below} {rest} h) (more (inline on2 ds b p) c t) e inside =
        let ons : on ≡ on2 = cc in
        let k = in_set h c (cc) (λ m d. inside m (below_spread (inline on2 ds b p) c t m d)) in
        (k.0, sets.within (subst (λ z. InSet x (set_from file (narrowed z parent) c) k.0) ons k.1), k.2, k.3)
    in_set (sets.within h) _ e inside = absurd (cc)
    in_set (sets.through {file} {parent} {name} {directives} {place} {below} {rest} {fragment} contained names h) (more (spread n ds p) c t) e inside =
        let called : name ≡ rename_fragment r new n = cc in
        let text : n.text ≡ fragment.name.text = sym (stays n) ∙ ap (λ z. z.text) (sym called) ∙ names in
        let reached = inside n (own_spread n (spread n ds p) c t (first n n [] refl)) in
        let k = was n fragment contained text reached in
        let i = in_set h k.0.set (ap (λ z. z.set) k.3) (inside_fragment o k.0 (reached k.0 k.1 k.2)) in
        (i.0, sets.through k.1 k.2 (in_alike_set x (fragment_set fragment) (fragment_set k.0) i.0 (ap (λ z. z.file) k.3) (ap (λ z. Some z.on.text) k.3) i.1), i.2, i.3)
    in_set (sets.through contained names h) _ e inside = absurd (cc)
    in_set (sets.after {file} {parent} {head} {below} {rest} h) (more m c t) e inside =
        let k = in_set h t (cc) (λ n d. inside n (rest_spread m c t n d)) in
        (k.0, sets.after k.1, k.2, k.3)
    in_set (sets.after h) none e inside = absurd (cc)

    in_renamed : (s : SetOf) (t : SetOf) (a : FieldAt) → s ≡ rename_in r new t → IsInside o t.selections → InSet y s a → WasField t a
    in_renamed s t a e inside h = in_set (subst (λ z. InSet y z a) e h) t.selections refl inside

  -- A set, and two fields, of some operation; the rule is that of the operation.
  record WasSet (IsRule : OperationOf → Renaming → Type 0) (s : SetOf) : Type 0 where
    pub operation : OperationOf
    pub rule : Renaming
    pub is_rule : IsRule operation rule
    pub set : SetOf
    pub stands : Stands x set
    pub is : s ≡ rename_in rule new set
    pub inside : IsInside operation set.selections

  record WereFields (IsRule : OperationOf → Renaming → Type 0) (P : FieldAt → FieldAt → Type 0) (a b : FieldAt) : Type 0 where
    pub operation : OperationOf
    pub rule : Renaming
    pub is_rule : IsRule operation rule
    pub left : FieldAt
    pub right : FieldAt
    pub are : P left right
    pub left_is : a ≡ rename_field rule new left
    pub right_is : b ≡ rename_field rule new right
    pub left_inside : IsInside operation left.below
    pub right_inside : IsInside operation right.below

  module _ (IsRule : OperationOf → Renaming → Type 0) (stays : (o : OperationOf) (r : Renaming) → IsRule o r → (name : NameOf Span) → (rename_fragment r new name).text ≡ name.text)
      (was : (o : OperationOf) (r : Renaming) → IsRule o r → WasSpread o r)
      (was_operation : (p : OperationOf) → Contains ps p → (o : OperationOf) × (r : Renaming) × IsRule o r × Contains os o × (p ≡ rename_operation r new o))
      (was_fragment : (g : FragmentOf) → Contains gs g → (o : OperationOf) × (r : Renaming) × IsRule o r × ((f : FragmentOf) × Contains fs f × Reaches fs o.set f × (g ≡ rename_uses r new f))) where
    was_set : {s : SetOf} → Stands y s → WasSet IsRule s
    was_set (sets.of_operation {o = p} c) =
        let w = was_operation p c in
        record { operation = w.0; rule = w.1; is_rule = w.2; set = operation_set es w.0; stands = sets.of_operation w.3; is = ap (operation_set es) w.4; inside = inside_operation w.0 }
    was_set (sets.of_fragment {f = g} c) =
        let w = was_fragment g c in
        let f = w.3 in
        record { operation = w.0; rule = w.1; is_rule = w.2; set = fragment_set f.0; stands = sets.of_fragment f.1; is = ap fragment_set f.3; inside = inside_fragment w.0 f.0 f.2 }
    was_set (sets.of_field {set = s} {f = a} h i) =
        let t = was_set h in
        let b = in_renamed t.operation t.rule (stays t.operation t.rule t.is_rule) (was t.operation t.rule t.is_rule) s t.set a t.is t.inside i in
        record { operation = t.operation; rule = t.rule; is_rule = t.is_rule; set = field_set es b.0; stands = sets.of_field t.stands b.1; is = ap (field_set es) b.2; inside = b.3 }

    keys : (o : OperationOf) (r : Renaming) → IsRule o r → (s t u v : SetOf) (a b : FieldAt) → HaveOneKey y s t a b → s ≡ rename_in r new u → t ≡ rename_in r new v →
        IsInside o u.selections → IsInside o v.selections → WereFields IsRule (HaveOneKey x u v) a b
    keys o r is_rule s t u v a b h e f in_u in_v =
        let c = in_renamed o r (stays o r is_rule) (was o r is_rule) s u a e in_u h.first in
        let d = in_renamed o r (stays o r is_rule) (was o r is_rule) t v b f in_v h.second in
        record {
          operation = o;
          rule = r;
          is_rule = is_rule;
          left = c.0;
          right = d.0;
          are = record { first = c.1; second = d.1; one_key = ap sets.key (sym c.2) ∙ h.one_key ∙ ap sets.key d.2 };
          left_is = c.2;
          right_is = d.2;
          left_inside = c.3;
          right_inside = d.3;
        }

    with_fields : {P Q : FieldAt → FieldAt → Type 0} {a b : FieldAt} → (w : WereFields IsRule P a b) → Q w.left w.right → WereFields IsRule Q a b
    with_fields w q = record {
      operation = w.operation;
      rule = w.rule;
      is_rule = w.is_rule;
      left = w.left;
      right = w.right;
      are = q;
      left_is = w.left_is;
      right_is = w.right_is;
      left_inside = w.left_inside;
      right_inside = w.right_inside;
    }

    meet : {purpose : Purpose} {a b : FieldAt} → Meet y purpose a b → WereFields IsRule (Meet x purpose) a b
    meet {purpose} (together {s = s} {a = a} {b = b} h k) =
        let t = was_set h in
        let w = keys t.operation t.rule t.is_rule s s t.set t.set a b k t.is t.is t.inside t.inside in
        with_fields {Q = Meet x purpose} w (together t.stands w.are)
    meet {purpose} (deeper {a = a} {b = b} {c = c} {d = d} m l h) =
        let u = meet m in
        let below : FieldAt → SetOf = field_set es in
        let w = keys u.operation u.rule u.is_rule (below a) (below b) (below u.left) (below u.right) c d h (ap below u.left_is) (ap below u.right_is) u.left_inside u.right_inside in
        let leads : leads_on es purpose a b ≡ leads_on es purpose u.left u.right =
        ap (λ z. leads_on es purpose z b) u.left_is ∙ ap (leads_on es purpose (rename_field u.rule new u.left)) u.right_is ∙ leads_before es purpose u.rule new u.left u.right in
        with_fields {Q = Meet x purpose} w (deeper u.are (sym leads ∙ l) w.are)

    fault : {purpose : Purpose} {f : Fault} → IsFaultFor y purpose f → IsFaultFor x purpose f
    fault {purpose} h =
        let w = meet h.meet in record {
          first = w.left;
          later = w.right;
          meet = w.are;
          differ = differ_before purpose w.rule new w.left w.right h.first h.later w.left_is w.right_is h.differ;
          is_no_later = subst (IsNoLater (rename_field w.rule new w.left)) w.right_is (subst (λ z. IsNoLater z h.later) w.left_is h.is_no_later);
          is = h.is ∙ ap fault_of w.right_is;
        }

    pub merging_was : (f : Fault) → IsMergingFault y f → IsMergingFault x f
    merging_was f (of_shapes h) = of_shapes (fault h)
    merging_was f (of_names h) = of_names (fault h)
