-- What merged before selections were moved merges after.
use Rattle.std.proofs.Common.{◌≡◌, ◌⊎◌, inl, inr, ℕ, zero, suc, List, [], ◌∷◌, Some, None, Contains, map, refl, sym, ap, ◌∙◌, subst}
use Rattle.std.specs.Option.{option_map}
use Rattle.gq_names.proofs.RepeatLemmas.{contains_first, contains_later}
use Rattle.gq_text.specs.declared.place.Span.{Span}
use Rattle.gq_tree.specs.Forest.{more}
use Rattle.gq_tree.specs.NamedTypes.{base_name}
use Rattle.gq_tree.specs.Plain.{Head, field, spread, inline, Sels, erase_values}
use Rattle.gq_meaning.specs.Thin.{IsIn}
use Rattle.gq_meaning.specs.Selected.{Set, set_of, put_before}
use Rattle.gq_meaning.specs.Selected as selected
use Rattle.gq_meaning.specs.Expand.{Definition, find_definition}
use Rattle.gq_meaning.specs.Rewritten.{Rewritten}
use Rattle.gq_meaning.proofs.ExpandLemmas as expanding
use Rattle.gq_types.specs.Entries.{Text, EntryOf}
use Rattle.gq_document.specs.Definitions.{OperationOf, FragmentOf}
use Rattle.gq_document.specs.Selections.{selected_field}
use Rattle.gq_document.specs.Executable.{ExecutableOf}
use Rattle.gq_document.specs.FieldSets.{SetOf, FieldAt, key, operation_set, fragment_set, field_set, InSet, Stands}
use Rattle.gq_document.specs.FieldSets as sets
use Rattle.gq_laws.specs.Placing.Merging.{SayTheSame, HasFieldsTo, HasSets}
use Rattle.gq_laws.proofs.Placing.MergingKept.{kept_fields_merge}
use Rattle.gq_laws.specs.Rewriting.Statics.{static_of, seen_fragment}
use Rattle.gq_laws.specs.Merging.Rewritten.{HasOrigin, IsRewritten, RewrittenFieldsMerge}
use Rattle.gq_laws.proofs.Merging.Seen.{Seen, Has, it_is, past_field, in_typed, in_bare, past_inline, in_spread, past_spread, was}

abbrev set_at : ℕ → Text → Sels Span → SetOf
set_at file type_name ss = record { file = file; parent = Some type_name; selections = ss }

-- a field as execution sees it
abbrev seen : Text → FieldAt → Seen
seen t a = record { parent = t; key = key a; name = a.name.text; arguments = erase_values a.arguments; below = set_of a.below }

record IsSeen (a : FieldAt) (b : Seen) : Type 0 where
  pub parent : a.parent ≡ Some b.parent
  pub key : key a ≡ b.key
  pub name : a.name.text ≡ b.name
  pub arguments : erase_values a.arguments ≡ b.arguments
  pub below : set_of a.below ≡ b.below

-- a definition that is found is a fragment's
pub fragment_in : (fs : List FragmentOf) (d : Definition) → IsIn d (map seen_fragment fs) → (g : FragmentOf) × Contains fs g × (d ≡ seen_fragment g)
fragment_in [] d h = absurd h
fragment_in (g ∷ fs) d (inl e) = (g, contains_first g fs g refl, e)
fragment_in (g ∷ fs) d (inr h) = let r = fragment_in fs d h in (r.0, contains_later g fs r.0 r.1, r.2)

past : {ds : List Definition} {n : ℕ} {t : Text} {b : Seen} (head : Head Span) (below rest : Sels Span) → Has ds n t (set_of rest) b → Has ds n t (put_before head (set_of below) (set_of rest)) b
past (field alias name arguments directives braces place) below rest h = past_field h
past (spread name directives place) below rest h = past_spread h
past (inline on directives braces place) below rest h = past_inline h

not_none : (head : Head Span) (set rest : Set) → put_before head set rest ≡ selected.none → ⊥
not_none (field alias name arguments directives braces place) set rest e = cc
not_none (spread name directives place) set rest e = cc
not_none (inline on directives braces place) set rest e = cc

no_field : {x : ExecutableOf} {s : SetOf} {a : FieldAt} → InSet x s a → set_of s.selections ≡ selected.none → ⊥
no_field (sets.here {alias} {name} {arguments} {directives} {braces} {place} {below} {rest}) e = not_none (field alias name arguments directives braces place) (set_of below) (set_of rest) e
no_field (sets.within {on} {directives} {braces} {place} {below} {rest} h) e = not_none (inline on directives braces place) (set_of below) (set_of rest) e
no_field (sets.through {name} {directives} {place} {below} {rest} c m h) e = not_none (spread name directives place) (set_of below) (set_of rest) e
no_field (sets.after {head} {below} {rest} h) e = not_none head (set_of below) (set_of rest) e

module _ (es : List EntryOf) (os ps : List OperationOf) (fs gs : List FragmentOf) where
  abbrev before : ExecutableOf
  before = record { entries = es; operations = os; fragments = fs }

  abbrev after : ExecutableOf
  after = record { entries = es; operations = ps; fragments = gs }

  abbrev old : List Definition
  old = map seen_fragment fs

  abbrev new : List Definition
  new = map seen_fragment gs

  module _ (is : IsRewritten before after) where
    -- a field after, as it is seen
    from_set : {s : SetOf} {a : FieldAt} → InSet after s a → (u : Text) → s.parent ≡ Some u → (n : ℕ) × (t : Text) × (a.parent ≡ Some t) × Has new n u (set_of s.selections) (seen t a)
    from_set sets.here u e = (0, u, e, it_is)
    from_set (sets.within {on = None} h) u e = let r = from_set h u e in (r.0, r.1, r.2, in_bare r.3)
    from_set (sets.within {on = Some c} h) u e = let r = from_set h c.text refl in (r.0, r.1, r.2, in_typed r.3)
    from_set (sets.through {fragment} c m h) u e =
        let r = from_set h fragment.on.text refl in
        (suc r.0, r.1, r.2, in_spread (seen_fragment fragment) (ap (find_definition new) m ∙ is.found fragment c) r.3)
    from_set (sets.after {head} {below} {rest} h) u e = let r = from_set h u e in (r.0, r.1, r.2, past head below rest r.3)

    -- a field that is seen before
    abbrev StandsThere : ℕ → Text → Sels Span → Seen → Type 0
    StandsThere file u ts b = (a : FieldAt) × InSet before (set_at file u ts) a × IsSeen a b

    to_set : {n : ℕ} {u : Text} {s : Set} {b : Seen} → Has old n u s b → (file : ℕ) (ts : Sels Span) → set_of ts ≡ s → StandsThere file u ts b
    to_set (it_is {t} {k} {m} {a} {set}) file (more (field alias name arguments directives braces place) c r) e = (
      record { file = file; parent = Some t; alias = alias; name = name; arguments = arguments; place = place; below = c },
      sets.here,
      record { parent = refl; key = cc; name = cc; arguments = cc; below = cc },
    )
    to_set it_is file _ e = absurd (cc)
    to_set (past_field {rest} h) file (more (field alias name arguments directives braces place) c r) e =
        let rests : set_of r ≡ rest = cc in
        let q = to_set h file r rests in
        (q.0, sets.after q.1, q.2)
    to_set (past_field h) file _ e = absurd (cc)
    to_set (in_typed {on} {set} h) file (more (inline (Some name) directives braces place) c r) e =
        let sets_are : set_of c ≡ set = cc in
        let ons : on ≡ name.text = cc in
        let q = to_set h file c sets_are in
        (q.0, sets.within (subst (λ z. InSet before (set_at file z c) q.0) ons q.1), q.2)
    to_set (in_typed h) file _ e = absurd (cc)
    to_set (in_bare {set} h) file (more (inline None directives braces place) c r) e =
        let sets_are : set_of c ≡ set = cc in
        let q = to_set h file c sets_are in
        (q.0, sets.within q.1, q.2)
    to_set (in_bare h) file _ e = absurd (cc)
    to_set (past_inline {rest} h) file (more (inline on directives braces place) c r) e =
        let rests : set_of r ≡ rest = cc in
        let q = to_set h file r rests in
        (q.0, sets.after q.1, q.2)
    to_set (past_inline h) file _ e = absurd (cc)
    to_set (in_spread {f} d is_found h) file (more (spread name directives place) c r) e =
        let names : name.text ≡ f = cc in
        let found = expanding.found old f d is_found in
        let g = fragment_in fs d found.1 in
        let q = to_set h g.0.file g.0.set (ap (λ z. z.set) (sym g.2)) in (
          q.0,
          sets.through g.1 (names ∙ sym found.0 ∙ ap (λ z. z.name) g.2) (subst (λ z. InSet before (set_at g.0.file z g.0.set) q.0) (ap (λ z. z.on) g.2) q.1),
          q.2,
        )
    to_set (in_spread d is_found h) file _ e = absurd (cc)
    to_set (past_spread {rest} h) file (more (spread name directives place) c r) e =
        let rests : set_of r ≡ rest = cc in
        let q = to_set h file r rests in
        (q.0, sets.after q.1, q.2)
    to_set (past_spread h) file _ e = absurd (cc)

    -- the sets after have their fields in those before
    empty : (depth : ℕ) (s t : SetOf) → set_of s.selections ≡ selected.none → HasFieldsTo depth after before s t
    empty zero s t e = tt
    empty (suc depth) s t e = λ a h. absurd (no_field h e)

    parent_below : (a : FieldAt) (t : Text) (n : Text) (c : Text) → a.parent ≡ Some t → a.name.text ≡ n → static_of es t n ≡ Some c → (field_set es a).parent ≡ Some c
    parent_below a t n c e f is_static =
        ap (λ z. option_map (λ d. base_name d.type_ref) (selected_field es z a.name.text)) e ∙ ap (λ z. option_map (λ d. base_name d.type_ref) (selected_field es (Some t) z)) f ∙ is_static

    abbrev IsWithin : ℕ → Text → Sels Span → SetOf → Type 0
    IsWithin file u ts t = (a : FieldAt) → InSet before (set_at file u ts) a → InSet before t a

    abbrev AtDepth : ℕ → Type 0
    AtDepth depth = (s t : SetOf) (u : Text) (ts : Sels Span) → s.parent ≡ Some u → Rewritten (static_of es) old new u (set_of ts) (set_of s.selections) → IsWithin t.file u ts t → HasFieldsTo depth after before s t

    by_below : (depth : ℕ) → AtDepth depth → (a b : FieldAt) (t : Text) (o : Seen) → a.parent ≡ Some t → t ≡ o.parent → a.name.text ≡ o.name → IsSeen b o →
        (set_of a.below ≡ selected.none) ⊎ ((c : Text) × (static_of es o.parent o.name ≡ Some c) × Rewritten (static_of es) old new c o.below (set_of a.below)) → HasFieldsTo depth after before (field_set es a) (field_set es b)
    by_below depth next a b t o e f g sees (inl none_there) = empty depth (field_set es a) (field_set es b) none_there
    by_below depth next a b t o e f g sees (inr k) =
        next (field_set es a) (field_set es b) k.0 b.below (parent_below a o.parent o.name k.0 (e ∙ ap (λ z. Some z) f) g k.1) (subst (λ z. Rewritten (static_of es) old new k.0 z (set_of a.below)) (sym sees.below) k.2)
        (λ c i. subst (λ z. InSet before (record { file = b.file; parent = z; selections = b.below }) c) (sym (parent_below b o.parent o.name k.0 sees.parent sees.name k.1)) i)

    has_fields : (depth : ℕ) → AtDepth depth
    has_fields zero s t u ts e r into = tt
    has_fields (suc depth) s t u ts e r into = λ a h.
        let p = from_set h u e in
        let w = was (static_of es) old new is.kept p.0 u (set_of ts) (set_of s.selections) (seen p.1 a) r p.3 in
        let q = to_set w.has t.file ts refl in
        let same : SayTheSame a q.0 = record {
          parent = p.2 ∙ ap (λ z. Some z) (sym w.parent) ∙ sym q.2.parent;
          one_key = sym w.key ∙ sym q.2.key;
          text = sym w.name ∙ sym q.2.name;
          same_arguments = sym w.arguments ∙ sym q.2.arguments;
        } in
        (q.0, into q.0 q.1, same, by_below depth (has_fields depth) a q.0 p.1 w.old p.2 (sym w.parent) (sym w.name) q.2 w.below)

    from_origin : (depth : ℕ) (s : SetOf) (u : Text) → s.parent ≡ Some u → HasOrigin before after u s.selections → (t : SetOf) × Stands before t × HasFieldsTo depth after before s t
    from_origin depth s u e o = (o.set, o.stands, has_fields depth s o.set u o.old e o.stand_for o.each)

    has_sets : {s : SetOf} → Stands after s → (depth : ℕ) → (t : SetOf) × Stands before t × HasFieldsTo depth after before s t
    has_sets (sets.of_operation {o} c) depth = let k = is.operations o c in from_origin depth (operation_set es o) k.0 k.1 k.2
    has_sets (sets.of_fragment {f} c) depth = from_origin depth (fragment_set f) f.on.text refl (is.fragments f c)
    has_sets (sets.of_field {f} h i) depth =
        let t = has_sets h (suc depth) in
        let b = t.2 f i in
        (field_set es b.0, sets.of_field t.1 b.1, b.3)

    all_sets : HasSets after before
    all_sets s h depth = has_sets h depth

over_one : (es : List EntryOf) (os : List OperationOf) (fs : List FragmentOf) (after : ExecutableOf) → after.entries ≡ es → IsRewritten (record { entries = es; operations = os; fragments = fs }) after →
    HasSets after (record { entries = es; operations = os; fragments = fs })
over_one es os fs after e is =
    subst (λ us. IsRewritten (record { entries = us; operations = os; fragments = fs }) after → HasSets after (record { entries = us; operations = os; fragments = fs })) e
    (all_sets after.entries os after.operations fs after.fragments) is

pub rewritten_fields_merge : RewrittenFieldsMerge
rewritten_fields_merge before after is all = kept_fields_merge after before is.entries (over_one before.entries before.operations before.fragments after is.entries is) all
