-- What can be renamed in a text has names that are tokens, at which the text can be cut.
use Rattle.std.proofs.Common.{◌≡◌, ℕ, Bool, true, false, List, [], ◌∷◌, ◌++◌, Option, Some, None, length, refl, sym, ap, subst, ◌∙◌, append-nil, arith, flat_map, if◌then◌else◌, IsUtf8}
use Rattle.std.specs.Prelude.{codes, filter}
use Rattle.std.specs.List.{AllByRecursion}
use Rattle.std.proofs.lemmas.List.Elements.{recursion_from_All}
use Rattle.gq_text.specs.declared.place.Span.{Span}
use Rattle.gq_lex.specs.Places.{StandIn, IsCutOf}
use Rattle.gq_lex.specs.Tokens.{Lexeme}
use Rattle.gq_lex.proofs.Standing.{tokens_stand, tokens_cut_no_character}
use Rattle.gq_tree.specs.Forest.{labels, labels_in}
use Rattle.gq_tree.specs.Plain.{NameOf, Says, Part, Val, DirectiveOf, VariableOf, Head, Sels, Def, variable, int, float, string, boolean, null, enum, list, object, field, spread, inline, operation, fragment, type_system}
use Rattle.gq_parse.specs.Derives.{Derives}
use Rattle.gq_index.specs.VariableNames.{says_variable, directive_variables}
use Rattle.gq_renamed.specs.Changed.{changed_name, changed_in_says, changed_in_arguments, changed_in_directives, changed_in_head, changed_in_selections, changed_in_def, changed_in_document}
use Rattle.gq_renamed.specs.Renamed.{next_number}
use Rattle.gq_renamed.specs.Renamings.{Renaming, MayName}
use Rattle.gq_renamed.proofs.DocumentAgain.{document_again}
use Rattle.gq_renamed.proofs.Regrammar.{marked_names, name_in}
use Rattle.gq_renamed.proofs.Retelling.{Marked, tokens_of}
use Rattle.gq_cut.proofs.Constant.{IsConstant, document_constant}
use Rattle.gq_mentions.specs.Mentions.{MentionOf, says_mentions, part_mentions, value_mentions, argument_mentions, directive_mentions, condition_mentions, head_mentions, selection_mentions, defined_mentions, mentions_in, mentions}
use Rattle.gq_mentions.specs.Renameables.{can_be_renamed, renameables}
use Rattle.gq_rename.specs.Standing.{CanBeCut}
use Rattle.gq_rename.proofs.Below.{all_append}

all_front : {A : Type 0} (P : A → Type 0) (xs ys : List A) → AllByRecursion P (xs ++ ys) → AllByRecursion P xs
all_front P [] ys h = tt
all_front P (x ∷ xs) ys h = (h.0, all_front P xs ys h.1)

all_behind : {A : Type 0} (P : A → Type 0) (xs ys : List A) → AllByRecursion P (xs ++ ys) → AllByRecursion P ys
all_behind P [] ys h = h
all_behind P (x ∷ xs) ys h = all_behind P xs ys h.1

-- what holds of what each gives, from what holds of what each gives otherwise
all_from : {A B C : Type 0} (P : B → Type 0) (R : C → Type 0) (f : A → List B) (g : A → List C) → ((x : A) → AllByRecursion R (g x) → AllByRecursion P (f x)) → (xs : List A) → AllByRecursion R (flat_map g xs) → AllByRecursion P (flat_map f xs)
all_from P R f g each [] h = tt
all_from P R f g each (x ∷ xs) h = all_append P (f x) (flat_map f xs) (each x (all_front R (g x) (flat_map g xs) h)) (all_from P R f g each xs (all_behind R (g x) (flat_map g xs) h))

all_passing : {A : Type 0} (P : A → Type 0) (p : A → Bool) (xs : List A) → AllByRecursion (λ x. p x ≡ true → P x) xs → AllByRecursion P (filter p xs)
all_passing P p [] h = tt
all_passing {A} P p (x ∷ xs) h = by (p x) refl (all_passing P p xs h.1)
  where
    by : (b : Bool) → p x ≡ b → AllByRecursion P (filter p xs) → AllByRecursion P (if b then x ∷ filter p xs else filter p xs)
    by true e rest = (h.0 e, rest)
    by false e rest = rest

-- a rename of all that can be renamed
abbrev everything : Renaming
everything = record { fragments = λ text. true; variables = λ text. true }

-- what holds of the names that it changes holds of the names of what can be renamed
module _ (Q : NameOf Span → Type 0) where
  abbrev Named : MentionOf → Type 0
  Named m = can_be_renamed m ≡ true → Q m.name

  -- by either list of the variables in directives
  module _ (n : ℕ) (names : Says Span → List (NameOf Span)) (says_named : (s : Says Span) → AllByRecursion Q (names s) → AllByRecursion Named (says_mentions n s)) where
    abbrev names_in_value : Val Span → List (NameOf Span)
    names_in_value v = flat_map (λ (p : Part Span). names p.says) (labels_in v)

    abbrev names_in_arguments : List (Val Span) → List (NameOf Span)
    names_in_arguments vs = flat_map names_in_value vs

    arguments_named : (vs : List (Val Span)) → AllByRecursion Q (names_in_arguments vs) → AllByRecursion Named (argument_mentions n vs)
    arguments_named vs h =
        all_from Named Q (value_mentions n) names_in_value
        (λ v g. all_from Named Q (part_mentions n) (λ (p : Part Span). names p.says) (λ p k. says_named p.says k) (labels_in v) g)
        vs h

    directives_named : (ds : List (DirectiveOf Span)) → AllByRecursion Q (flat_map (λ (d : DirectiveOf Span). names_in_arguments d.arguments) ds) → AllByRecursion Named (directive_mentions n ds)
    directives_named ds h =
        all_from Named Q (λ (d : DirectiveOf Span). argument_mentions n d.arguments) (λ (d : DirectiveOf Span). names_in_arguments d.arguments) (λ d g. arguments_named d.arguments g) ds h

  changed_says : (n : ℕ) (s : Says Span) → AllByRecursion Q (changed_in_says everything s) → AllByRecursion Named (says_mentions n s)
  changed_says n (variable name place) h = ((λ e. h.0), tt)
  changed_says n (int text place) h = tt
  changed_says n (float text place) h = tt
  changed_says n (string text place) h = tt
  changed_says n (boolean value place) h = tt
  changed_says n (null place) h = tt
  changed_says n (enum name) h = tt
  changed_says n (list place) h = tt
  changed_says n (object place) h = tt

  variable_says : (n : ℕ) (s : Says Span) → AllByRecursion Q (says_variable s) → AllByRecursion Named (says_mentions n s)
  variable_says n (variable name place) h = ((λ e. h.0), tt)
  variable_says n (int text place) h = tt
  variable_says n (float text place) h = tt
  variable_says n (string text place) h = tt
  variable_says n (boolean value place) h = tt
  variable_says n (null place) h = tt
  variable_says n (enum name) h = tt
  variable_says n (list place) h = tt
  variable_says n (object place) h = tt

  changed_directives : (n : ℕ) (ds : List (DirectiveOf Span)) → AllByRecursion Q (changed_in_directives everything ds) → AllByRecursion Named (directive_mentions n ds)
  changed_directives n ds h = directives_named n (changed_in_says everything) (changed_says n) ds h

  condition_named : (n : ℕ) (on : Option (NameOf Span)) → AllByRecursion Named (condition_mentions n on)
  condition_named n None = tt
  condition_named n (Some condition) = ((λ e. absurd (cc)), tt)

  head_named : (n : ℕ) (h : Head Span) → AllByRecursion Q (changed_in_head everything h) → AllByRecursion Named (head_mentions n h)
  head_named n (field alias name arguments directives braces place) h = (
    (λ e. absurd (cc)),
    all_append Named (argument_mentions n arguments) (directive_mentions n directives)
        (arguments_named n (changed_in_says everything) (changed_says n) arguments (all_front Q (changed_in_arguments everything arguments) (changed_in_directives everything directives) h))
        (changed_directives n directives (all_behind Q (changed_in_arguments everything arguments) (changed_in_directives everything directives) h)),
  )
  head_named n (spread name directives place) h = ((λ e. h.0), changed_directives n directives h.1)
  head_named n (inline on directives braces place) h = all_append Named (condition_mentions n on) (directive_mentions n directives) (condition_named n on) (changed_directives n directives h)

  selections_named : (n : ℕ) (ss : Sels Span) → AllByRecursion Q (changed_in_selections everything ss) → AllByRecursion Named (selection_mentions n ss)
  selections_named n ss h = all_from Named Q (head_mentions n) (changed_in_head everything) (head_named n) (labels ss) h

  both_named : (n : ℕ) (ds : List (DirectiveOf Span)) (ss : Sels Span) → AllByRecursion Q (changed_in_directives everything ds ++ changed_in_selections everything ss) → AllByRecursion Named (directive_mentions n ds ++ selection_mentions n ss)
  both_named n ds ss h =
      all_append Named (directive_mentions n ds) (selection_mentions n ss)
      (changed_directives n ds (all_front Q (changed_in_directives everything ds) (changed_in_selections everything ss) h))
      (selections_named n ss (all_behind Q (changed_in_directives everything ds) (changed_in_selections everything ss) h))

  -- the directives of a variable's definition hold no variable
  defined_named : (n : ℕ) (vs : List (VariableOf Span)) → AllByRecursion Q (flat_map (λ (v : VariableOf Span). changed_name everything.variables v.name) vs) → AllByRecursion Q (flat_map (λ (v : VariableOf Span). directive_variables v.directives) vs) → AllByRecursion Named (flat_map (defined_mentions n) vs)
  defined_named n [] h none = tt
  defined_named n (v ∷ vs) h none =
      let rest : List (NameOf Span) = flat_map (λ (w : VariableOf Span). directive_variables w.directives) vs in (
        (λ e. h.0),
        all_append Named (directive_mentions n v.directives) (flat_map (defined_mentions n) vs)
            (directives_named n says_variable (variable_says n) v.directives (all_front Q (directive_variables v.directives) rest none))
            (defined_named n vs h.1 (all_behind Q (directive_variables v.directives) rest none)),
      )

  def_named : (n : ℕ) (d : Def Span) → IsConstant d → AllByRecursion Q (changed_in_def everything d) → AllByRecursion Named (mentions_in n d)
  def_named n (operation kind name variables directives set braces place) constant h =
      let defined : List (NameOf Span) = flat_map (λ (v : VariableOf Span). changed_name everything.variables v.name) variables in
      let used : List (NameOf Span) = changed_in_directives everything directives ++ changed_in_selections everything set in
      all_append Named (flat_map (defined_mentions n) variables) (directive_mentions n directives ++ selection_mentions n set)
      (defined_named n variables (all_front Q defined used h) (subst (AllByRecursion Q) (sym constant) tt))
      (both_named n directives set (all_behind Q defined used h))
  def_named n (fragment name on directives set braces place) constant h = ((λ e. h.0), ((λ e. absurd (cc)), both_named n directives set h.1))
  def_named n (type_system one) constant h = tt

  tree_named : (n : ℕ) (tree : List (Def Span)) → AllByRecursion IsConstant tree → AllByRecursion Q (changed_in_document (λ k. everything) n tree) → AllByRecursion Named (mentions n tree)
  tree_named n [] constant h = tt
  tree_named n (d ∷ ds) constant h =
      let rest : List (NameOf Span) = changed_in_document (λ k. everything) (next_number d n) ds in
      all_append Named (mentions_in n d) (mentions (next_number d n) ds)
      (def_named n d constant.0 (all_front Q (changed_in_def everything d) rest h))
      (tree_named (next_number d n) ds constant.1 (all_behind Q (changed_in_def everything d) rest h))

-- the tokens of a text, and the marked ones among them
tokens_cut : (text : List ℕ) (at : ℕ) (tokens : List Lexeme) → StandIn text at tokens → AllByRecursion (IsCutOf text) tokens → AllByRecursion (λ t. CanBeCut text t.span) tokens
tokens_cut text at [] stand cut = tt
tokens_cut text at (t ∷ tokens) stand cut =
    let more = stand.1 in
    (record { order = omega (arith, more); start = cut.0.0; end = cut.0.1 }, tokens_cut text t.span.end tokens stand.3 cut.1)

names_cut : (text : List ℕ) (ms : List Marked) → AllByRecursion (λ t. CanBeCut text t.span) (tokens_of ms) → AllByRecursion (λ name. CanBeCut text name.place) (marked_names ms)
names_cut text [] stand = tt
names_cut text (m ∷ ms) stand = by m.marked (names_cut text ms stand.1)
  where
    by : (b : Bool) → AllByRecursion (λ name. CanBeCut text name.place) (marked_names ms) → AllByRecursion (λ name. CanBeCut text name.place) (if b then name_in m.token ∷ marked_names ms else marked_names ms)
    by true rest = (stand.0, rest)
    by false rest = rest

-- a name that is no word of the grammar may replace every name
any_name : (n : ℕ) → MayName everything (codes "a")
any_name n text marked same = let size : 1 ≡ 2 = ap length same in omega (arith, size)

-- in a text with a tree
pub renameables_stand : (text : List ℕ) (n : ℕ) (tree : List (Def Span)) → IsUtf8 text → Derives text tree → AllByRecursion (λ m. CanBeCut text m.name.place) (renameables n tree)
renameables_stand text n tree utf8 derives =
    let w = document_again {new = codes "a"} (λ k. everything) n any_name derives.derived in
    let split : derives.tokens ≡ tokens_of w.front = w.split ∙ append-nil (tokens_of w.front) in
    let tokens : AllByRecursion (λ t. CanBeCut text t.span) derives.tokens =
    tokens_cut text 0 derives.tokens (tokens_stand text derives.tokens derives.reads) (recursion_from_All (IsCutOf text) derives.tokens (tokens_cut_no_character text derives.tokens utf8 derives.reads)) in
    let names : AllByRecursion (λ name. CanBeCut text name.place) (changed_in_document (λ k. everything) n tree) =
    subst (AllByRecursion (λ (name : NameOf Span). CanBeCut text name.place)) w.named (names_cut text w.front (subst (AllByRecursion (λ (t : Lexeme). CanBeCut text t.span)) split tokens)) in
    all_passing (λ (m : MentionOf). CanBeCut text m.name.place) can_be_renamed (mentions n tree)
    (tree_named (λ (name : NameOf Span). CanBeCut text name.place) n tree (document_constant derives.derived) names)
