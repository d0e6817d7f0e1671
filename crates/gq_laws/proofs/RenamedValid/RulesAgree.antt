-- Two rules that change the variables of a fragment alike make one fragment of it.
use Rattle.std.proofs.Common.{◌≡◌, ℕ, List, [], ◌∷◌, ◌++◌, map, refl, ap, ◌∙◌, subst, Contains}
use Rattle.std.proofs.lemmas.List.Elements.{Contains-append_left, Contains-append_right}
use Rattle.gq_text.specs.declared.place.Span.{Span}
use Rattle.gq_tree.specs.Forest.{labels, relabel}
use Rattle.gq_tree.specs.Plain.{NameOf, Says, Part, Val, Vals, DirectiveOf, Head, Sels, Def}
use Rattle.gq_tree.specs.Plain.{variable, int, float, string, boolean, null, enum, list, object, field, spread, inline, operation, fragment, type_system}
use Rattle.gq_types.specs.Entries.{Text}
use Rattle.gq_types.proofs.Gathered.{first, later, to_flat}
use Rattle.gq_renamed.specs.Renamings.{Renaming, renamed_text}
use Rattle.gq_renamed.specs.Renamed.{rename_fragment, rename_says, rename_part, rename_value, rename_directive, rename_head, rename_selections}
use Rattle.gq_document.specs.Definitions.{FragmentOf, fragment_in}
use Rattle.gq_index.specs.VariableNames.{says_variable, part_variable, value_variables, argument_variables, directive_variables, head_variables, selection_variables, used_variables}
use Rattle.gq_laws.proofs.Placing.OtherNamesRead.{lists_agree, forests_agree}
use Rattle.gq_laws.proofs.RenamedValid.RenamedUses.{rename_uses}

module _ (r q : Renaming) (new : Text) where
  -- the two rules change these names alike
  abbrev Alike : List (NameOf Span) → Type 0
  Alike names = (name : NameOf Span) → Contains names name → renamed_text r.variables new name.text ≡ renamed_text q.variables new name.text

  says_agree : (s : Says Span) → Alike (says_variable s) → rename_says r new s ≡ rename_says q new s
  says_agree (variable name place) h =
      let one : NameOf Span → Says Span = λ n. variable n place in
      ap (λ z. one (record { text = z; place = name.place })) (h name (first name name [] refl))
  says_agree (int text place) h = refl
  says_agree (float text place) h = refl
  says_agree (string text place) h = refl
  says_agree (boolean value place) h = refl
  says_agree (null place) h = refl
  says_agree (enum name) h = refl
  says_agree (list place) h = refl
  says_agree (object place) h = refl

  part_agrees : (p : Part Span) → Alike (part_variable p) → rename_part r new p ≡ rename_part q new p
  part_agrees p h =
      let of : Says Span → Part Span = λ z. record { key = p.key; says = z } in
      ap of (says_agree p.says h)

  value_agrees : (v : Val Span) → Alike (value_variables v) → rename_value r new v ≡ rename_value q new v
  value_agrees v h =
      let of : Part Span → Vals Span → Val Span = λ l b. record { label = l; below = b } in
      let each : (p : Part Span) → Contains (v.label ∷ labels v.below) p → Alike (part_variable p) = λ p c name d. h name (to_flat part_variable (v.label ∷ labels v.below) p name c d) in
      ap (λ z. of z (relabel (rename_part r new) v.below)) (part_agrees v.label (each v.label (first v.label v.label (labels v.below) refl)))
      ∙ ap (of (rename_part q new v.label))
      (forests_agree (rename_part r new) (rename_part q new) v.below (λ p c. part_agrees p (each p (later v.label p (labels v.below) c))))

  arguments_agree : (vs : List (Val Span)) → Alike (argument_variables vs) → map (rename_value r new) vs ≡ map (rename_value q new) vs
  arguments_agree vs h = lists_agree (rename_value r new) (rename_value q new) vs (λ v c. value_agrees v (λ name d. h name (to_flat value_variables vs v name c d)))

  directives_agree : (ds : List (DirectiveOf Span)) → Alike (directive_variables ds) → map (rename_directive r new) ds ≡ map (rename_directive q new) ds
  directives_agree ds h = lists_agree (rename_directive r new) (rename_directive q new) ds (λ d c.
      let of : List (Val Span) → DirectiveOf Span = λ z. record { name = d.name; arguments = z; place = d.place } in
      ap of (arguments_agree d.arguments (λ name e. h name (to_flat (λ (u : DirectiveOf Span). argument_variables u.arguments) ds d name c e))))

  module _ (same : (text : Text) → renamed_text r.fragments new text ≡ renamed_text q.fragments new text) where
    name_agrees : (n : NameOf Span) → rename_fragment r new n ≡ rename_fragment q new n
    name_agrees n =
        let of : Text → NameOf Span = λ z. record { text = z; place = n.place } in
        ap of (same n.text)

    head_agrees : (h : Head Span) → Alike (head_variables h) → rename_head r new h ≡ rename_head q new h
    head_agrees (field a n vs ds b p) h =
        ap (λ z. field a n z (map (rename_directive r new) ds) b p) (arguments_agree vs (λ name c. h name (Contains-append_left (argument_variables vs) (directive_variables ds) name c)))
        ∙ ap (λ z. field a n (map (rename_value q new) vs) z b p) (directives_agree ds (λ name c. h name (Contains-append_right (argument_variables vs) (directive_variables ds) name c)))
    head_agrees (spread n ds p) h = ap (λ z. spread z (map (rename_directive r new) ds) p) (name_agrees n) ∙ ap (λ z. spread (rename_fragment q new n) z p) (directives_agree ds h)
    head_agrees (inline o ds b p) h = ap (λ z. inline o z b p) (directives_agree ds h)

    set_agrees : (ss : Sels Span) → Alike (selection_variables ss) → rename_selections r new ss ≡ rename_selections q new ss
    set_agrees ss h = forests_agree (rename_head r new) (rename_head q new) ss (λ l c. head_agrees l (λ name d. h name (to_flat head_variables (labels ss) l name c d)))

    fragment_agrees : (f : FragmentOf) → Alike (directive_variables f.directives ++ selection_variables f.set) → rename_uses r new f ≡ rename_uses q new f
    fragment_agrees f h =
        let of : NameOf Span → List (DirectiveOf Span) → Sels Span → FragmentOf = λ name ds set. record {
          file = f.file;
          name = name;
          on = f.on;
          directives = ds;
          set = set;
          braces = f.braces;
          place = f.place;
        } in
        ap (λ z. of z (map (rename_directive r new) f.directives) (rename_selections r new f.set)) (name_agrees f.name)
        ∙ ap (λ z. of (rename_fragment q new f.name) z (rename_selections r new f.set))
        (directives_agree f.directives (λ name c. h name (Contains-append_left (directive_variables f.directives) (selection_variables f.set) name c)))
        ∙ ap (of (rename_fragment q new f.name) (map (rename_directive q new) f.directives))
        (set_agrees f.set (λ name c. h name (Contains-append_right (directive_variables f.directives) (selection_variables f.set) name c)))

    -- what a definition is, where the two change its uses alike
    pub definition_agrees : (file : ℕ) (d : Def Span) (f : FragmentOf) → fragment_in file d ≡ f ∷ [] → Alike (used_variables d) → rename_uses r new f ≡ rename_uses q new f
    definition_agrees file (fragment name on ds set b p) f e h =
        let own : FragmentOf = record { file = file; name = name; on = on; directives = ds; set = set; braces = b; place = p } in
        let one : own ≡ f = cc in
        subst (λ z. rename_uses r new z ≡ rename_uses q new z) one (fragment_agrees own h)
    definition_agrees file (operation kind name vs ds set b p) f e h = absurd (cc)
    definition_agrees file (type_system definition) f e h = absurd (cc)
