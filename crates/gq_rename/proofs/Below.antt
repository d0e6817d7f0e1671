-- The number of the definition that a target stands in is that of an executable definition.
use Rattle.std.proofs.Common.{◌≡◌, ℕ, ◌+◌, ◌<◌, ◌≤◌, Bool, true, false, List, [], ◌∷◌, ◌++◌, length, Option, Some, None, refl, sym, ap, subst, ◌∙◌, flat_map, arith, if◌then◌else◌}
use Rattle.std.specs.Prelude.{find, filter, option_and_then}
use Rattle.std.specs.List.{AllByRecursion}
use Rattle.std.specs.Option.{option_or, option_map}
use Rattle.gq_text.specs.declared.place.Span.{Span}
use Rattle.gq_tree.specs.Forest.{labels, labels_in}
use Rattle.gq_tree.specs.Plain.{NameOf, Says, Part, Val, DirectiveOf, VariableOf, Head, Sels, Def, variable, int, float, string, boolean, null, enum, list, object, field, spread, inline, operation, fragment, type_system}
use Rattle.gq_project.specs.declared.document.Doc.{Doc}
use Rattle.gq_project.specs.Documents.{has_key}
use Rattle.gq_tree.specs.Readings.{ParsedOf, definitions_read}
use Rattle.gq_index.specs.Occurrences.{DefinitionOf, executable_in, executables}
use Rattle.gq_renamed.specs.Renamed.{next_number}
use Rattle.gq_renamed.specs.Projects.{number_behind}
use Rattle.gq_cut.proofs.FragmentCut.{executables_from}
use Rattle.gq_mentions.specs.declared.target.Target.{Target}
use Rattle.gq_mentions.specs.declared.target.TargetKind.{TargetKind}
use Rattle.gq_mentions.specs.Mentions.{MentionOf, says_mentions, part_mentions, value_mentions, argument_mentions, directive_mentions, condition_mentions, head_mentions, selection_mentions, defined_mentions, mentions_in, mentions}
use Rattle.gq_mentions.specs.Meant.{holds, ends_at, meant}
use Rattle.gq_mentions.specs.Renameables.{target_kind, can_be_renamed, renameables}
use Rattle.gq_mentions.specs.Targets.{token_of, as_target, target}
use Rattle.gq_rename.specs.Asks.{trees_of, renameables_of, target_of}

pub all_append : {A : Type 0} (P : A → Type 0) (xs ys : List A) → AllByRecursion P xs → AllByRecursion P ys → AllByRecursion P (xs ++ ys)
all_append P [] ys h g = g
all_append P (x ∷ xs) ys h g = (h.0, all_append P xs ys h.1 g)

all_flat : {A B : Type 0} (P : B → Type 0) (f : A → List B) → ((x : A) → AllByRecursion P (f x)) → (xs : List A) → AllByRecursion P (flat_map f xs)
all_flat P f h [] = tt
all_flat P f h (x ∷ xs) = all_append P (f x) (flat_map f xs) (h x) (all_flat P f h xs)

all_weaker : {A : Type 0} (P Q : A → Type 0) → ((x : A) → P x → Q x) → (xs : List A) → AllByRecursion P xs → AllByRecursion Q xs
all_weaker P Q f [] h = tt
all_weaker P Q f (x ∷ xs) h = (f x h.0, all_weaker P Q f xs h.1)

-- what is named in a definition has its number
module _ (n : ℕ) where
  abbrev Here : MentionOf → Type 0
  Here m = m.definition ≡ n

  part_here : (p : Part Span) → AllByRecursion Here (part_mentions n p)
  part_here p = by p.says
    where
      by : (s : Says Span) → AllByRecursion Here (says_mentions n s)
      by (variable name place) = (refl, tt)
      by (int text place) = tt
      by (float text place) = tt
      by (string text place) = tt
      by (boolean value place) = tt
      by (null place) = tt
      by (enum name) = tt
      by (list place) = tt
      by (object place) = tt

  value_here : (v : Val Span) → AllByRecursion Here (value_mentions n v)
  value_here v = all_flat Here (part_mentions n) part_here (labels_in v)

  arguments_here : (vs : List (Val Span)) → AllByRecursion Here (argument_mentions n vs)
  arguments_here vs = all_flat Here (value_mentions n) value_here vs

  directives_here : (ds : List (DirectiveOf Span)) → AllByRecursion Here (directive_mentions n ds)
  directives_here ds = all_flat Here (λ (d : DirectiveOf Span). argument_mentions n d.arguments) (λ d. arguments_here d.arguments) ds

  condition_here : (on : Option (NameOf Span)) → AllByRecursion Here (condition_mentions n on)
  condition_here None = tt
  condition_here (Some condition) = (refl, tt)

  head_here : (h : Head Span) → AllByRecursion Here (head_mentions n h)
  head_here (field alias name arguments directives braces place) =
      (refl, all_append Here (argument_mentions n arguments) (directive_mentions n directives) (arguments_here arguments) (directives_here directives))
  head_here (spread name directives place) = (refl, directives_here directives)
  head_here (inline on directives braces place) = all_append Here (condition_mentions n on) (directive_mentions n directives) (condition_here on) (directives_here directives)

  selections_here : (ss : Sels Span) → AllByRecursion Here (selection_mentions n ss)
  selections_here ss = all_flat Here (head_mentions n) head_here (labels ss)

  both_here : (ds : List (DirectiveOf Span)) (ss : Sels Span) → AllByRecursion Here (directive_mentions n ds ++ selection_mentions n ss)
  both_here ds ss = all_append Here (directive_mentions n ds) (selection_mentions n ss) (directives_here ds) (selections_here ss)

  defined_here : (v : VariableOf Span) → AllByRecursion Here (defined_mentions n v)
  defined_here v = (refl, directives_here v.directives)

-- numbers rise
behind_rises : (tree : List (Def Span)) (n : ℕ) → n ≤ number_behind tree n
behind_rises [] n = omega arith
behind_rises (operation kind name variables directives set braces place ∷ ds) n = let h = behind_rises ds (n + 1) in omega (arith, h)
behind_rises (fragment name on directives set braces place ∷ ds) n = let h = behind_rises ds (n + 1) in omega (arith, h)
behind_rises (type_system one ∷ ds) n = behind_rises ds n

abbrev Below : ℕ → MentionOf → Type 0
Below most m = m.definition < most

-- those of a definition are below the number of the next
def_below : (n most : ℕ) (d : Def Span) → next_number d n ≤ most → AllByRecursion (Below most) (mentions_in n d)
def_below n most (operation kind name variables directives set braces place) less =
    all_weaker (λ (m : MentionOf). m.definition ≡ n) (Below most) (λ m e. omega (arith, e, less)) (mentions_in n (operation kind name variables directives set braces place))
    (all_append (λ (m : MentionOf). m.definition ≡ n) (flat_map (defined_mentions n) variables) (directive_mentions n directives ++ selection_mentions n set)
    (all_flat (λ (m : MentionOf). m.definition ≡ n) (defined_mentions n) (defined_here n) variables) (both_here n directives set))
def_below n most (fragment name on directives set braces place) less =
    all_weaker (λ (m : MentionOf). m.definition ≡ n) (Below most) (λ m e. omega (arith, e, less)) (mentions_in n (fragment name on directives set braces place)) (refl, (refl, both_here n directives set))
def_below n most (type_system one) less = tt

tree_below : (n most : ℕ) (tree : List (Def Span)) → number_behind tree n ≤ most → AllByRecursion (Below most) (mentions n tree)
tree_below n most [] less = tt
tree_below n most (d ∷ ds) less =
    let h = behind_rises ds (next_number d n) in
    all_append (Below most) (mentions_in n d) (mentions (next_number d n) ds) (def_below n most d (omega (arith, h, less))) (tree_below (next_number d n) most ds less)

all_kept : {A : Type 0} (P : A → Type 0) (p : A → Bool) (xs : List A) → AllByRecursion P xs → AllByRecursion P (filter p xs)
all_kept P p [] h = tt
all_kept {A} P p (x ∷ xs) h = by (p x) (all_kept P p xs h.1)
  where
    by : (b : Bool) → AllByRecursion P (filter p xs) → AllByRecursion P (if b then x ∷ filter p xs else filter p xs)
    by true rest = (h.0, rest)
    by false rest = rest

document_below : (n most : ℕ) (tree : List (Def Span)) → number_behind tree n ≤ most → AllByRecursion (Below most) (renameables n tree)
document_below n most tree less = all_kept (Below most) can_be_renamed (mentions n tree) (tree_below n most tree less)

-- how many there are, with those before
pub count_in : (j k : ℕ) (tree : List (Def Span)) (rest : List DefinitionOf) → length (flat_map (executable_in j) tree ++ rest) + k ≡ length rest + number_behind tree k
count_in j k [] rest = refl
count_in j k (operation kind name variables directives set braces place ∷ ds) rest = let h = count_in j (k + 1) ds rest in omega (arith, h)
count_in j k (fragment name on directives set braces place ∷ ds) rest = let h = count_in j (k + 1) ds rest in omega (arith, h)
count_in j k (type_system one ∷ ds) rest = count_in j k ds rest

project_below : (key : List ℕ) (j k : ℕ) (documents : List Doc) (rs : List ParsedOf) → AllByRecursion (Below (length (executables_from j rs) + k)) (renameables_of key k documents (trees_of rs))
project_below key j k [] rs = tt
project_below key j k (document ∷ documents) [] = tt
project_below key j k (document ∷ documents) (r ∷ rs) = by (has_key key document) (project_below key (j + 1) (number_behind (definitions_read r) k) documents rs)
  where
    by : (b : Bool) → AllByRecursion (Below (length (executables_from (j + 1) rs) + number_behind (definitions_read r) k)) (renameables_of key (number_behind (definitions_read r) k) documents (trees_of rs)) → AllByRecursion (Below (length (executables_from j (r ∷ rs)) + k)) (if b then renameables k (definitions_read r) else renameables_of key (number_behind (definitions_read r) k) documents (trees_of rs))
    by true others =
        let e = count_in j k (definitions_read r) (executables_from (j + 1) rs) in
        document_below k (length (executables_from j (r ∷ rs)) + k) (definitions_read r) (omega (arith, e))
    by false others =
        let e = count_in j k (definitions_read r) (executables_from (j + 1) rs) in
        subst (λ (most : ℕ). AllByRecursion (Below most) (renameables_of key (number_behind (definitions_read r) k) documents (trees_of rs))) (sym e) others

found_in : {X : Type 0} (P : X → Type 0) (p : X → Bool) (xs : List X) (x : X) → AllByRecursion P xs → find p xs ≡ Some x → P x
found_in P p [] x h e = absurd (cc)
found_in {X} P p (y ∷ ys) x h e = by (p y) e (found_in P p ys x h.1)
  where
    by : (b : Bool) → (if b then Some y else find p ys) ≡ Some x → (find p ys ≡ Some x → P x) → P x
    by true g later = let same : y ≡ x = cc in subst P same h.0
    by false g later = later g

pub meant_in : (P : MentionOf → Type 0) (offset : ℕ) (ms : List MentionOf) (m : MentionOf) → AllByRecursion P ms → meant offset ms ≡ Some m → P m
meant_in P offset ms m h e = by (find (holds offset) ms) refl e
  where
    by : (o : Option MentionOf) → find (holds offset) ms ≡ o → option_or o (find (ends_at offset) ms) ≡ Some m → P m
    by (Some u) f g = found_in P (holds offset) ms m h (f ∙ g)
    by None f g = found_in P (ends_at offset) ms m h g

-- a target stands in the definition of its name
in_definition : (m : MentionOf) (t : Target) → as_target m ≡ Some t → m.definition ≡ t.definition
in_definition m t e = by (target_kind m.kind) e
  where
    by : (o : Option TargetKind) → option_map (λ (kind : TargetKind). let made : Target = record { kind = kind; span = m.place; name = token_of m.name; definition = m.definition } in made) o ≡ Some t → m.definition ≡ t.definition
    by None h = absurd (cc)
    by (Some kind) h =
        let made : Target = record { kind = kind; span = m.place; name = token_of m.name; definition = m.definition } in
        let same : made ≡ t = cc in
        ap (λ (x : Target). x.definition) same

target_in : (most offset : ℕ) (ms : List MentionOf) (t : Target) → AllByRecursion (Below most) ms → target offset ms ≡ Some t → t.definition < most
target_in most offset ms t h e = by (meant offset ms) refl e
  where
    by : (o : Option MentionOf) → meant offset ms ≡ o → option_and_then as_target o ≡ Some t → t.definition < most
    by None f g = absurd (cc)
    by (Some m) f g = subst (λ (n : ℕ). n < most) (in_definition m t g) (meant_in (Below most) offset ms m h f)

-- the definition of a target is one of the project
pub target_below : (documents : List Doc) (rs : List ParsedOf) (key : List ℕ) (offset : ℕ) (t : Target) → target_of documents rs key offset ≡ Some t → t.definition < length (executables rs)
target_below documents rs key offset t e =
    let h = target_in (length (executables_from 0 rs) + 0) offset (renameables_of key 0 documents (trees_of rs)) t (project_below key 0 0 documents rs) e in
    omega (arith, h)
