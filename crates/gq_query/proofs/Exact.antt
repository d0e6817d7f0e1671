-- Lists that have exactly some places, in order.
use Rattle.std.proofs.Common.{◌≡◌, ◌↔◌, ℕ, ◌<◌, ◌≤◌, length, Bool, true, false, List, [], ◌∷◌, ◌++◌, Option, Some, None, Contains, refl, sym, subst, ◌∙◌, ◌⊎◌, ⊎_elim, inl, inr, arith, IsTrue}
use Rattle.std.specs.Prelude.{nat_lt, flat_map}
use Rattle.std.specs.Option.{option_map}
use Rattle.std.proofs.lemmas.Bool.Decides.{nat_tests}
use Rattle.std.specs.List.Sorted.{IsStrictlySortedBy, IsStrictlyIncreasing}
use Rattle.std.proofs.lemmas.List.Elements.{Contains-append_left, Contains-append_right, Contains-append_cases}
use Rattle.gq_types.proofs.Gathered.{nothing_in, from_flat, to_flat}
use Rattle.gq_text.specs.declared.place.Span.{Span}
use Rattle.gq_tree.specs.Plain.{NameOf, Def}
use Rattle.gq_types.specs.Entries.{Text}
use Rattle.gq_project.specs.declared.document.Doc.{Doc}
use Rattle.gq_index.specs.declared.occurrence.Occurrence.{Occurrence}
use Rattle.gq_index.specs.Occurrences.{DefinitionOf, fragment_definitions, fragment_spreads}
use Rattle.gq_index.specs.VariableNames.{used_variables, defined_variables}
use Rattle.gq_index.specs.VariableGroups.{VariableGroup}
use Rattle.gq_mentions.specs.declared.mention.MentionKind.{MentionKind}
use Rattle.gq_mentions.specs.declared.mention.MentionKind.TheVariants as kind
use Rattle.gq_mentions.specs.Mentions.{MentionOf}
use Rattle.gq_query.specs.Asked.{asked, AtMention}
use Rattle.gq_query.specs.Helping.Gathered.{if_wanted, places_at, places_among, wanted_among, first_of}
use Rattle.gq_query.specs.Groups.{StandsInGroup, variable_at}
use Rattle.gq_query.specs.Hovers.{IsVariableTold}
use Rattle.gq_query.specs.Words.{variable_words}
use Rattle.gq_query.specs.Order.{occurrence_cmp, AreExactly}
use Rattle.gq_query.specs.References.{IsUse, IsDeclaration}
use Rattle.gq_query.specs.Helping.Wants.{IsWanted}
use Rattle.gq_query.proofs.Grouped.{in_group, in_past, first_in_group, first_past}

pub sorted_none : IsStrictlySortedBy occurrence_cmp []
unfolding IsStrictlySortedBy
sorted_none = tt

pub sorted_one : (o : Occurrence) → IsStrictlySortedBy occurrence_cmp (o ∷ [])
unfolding IsStrictlySortedBy
sorted_one o = (tt, tt)

pub exactly_none : (Is : Occurrence → Type 0) → ((o : Occurrence) → Is o → ⊥) → AreExactly Is []
exactly_none Is none = record { sorted = sorted_none; exact = λ o. ((λ c. nothing_in o c), (λ is. absurd (none o is))) }

pub exactly_same : (Is Was : Occurrence → Type 0) (found : List Occurrence) → ((o : Occurrence) → Was o ↔ Is o) → AreExactly Was found → AreExactly Is found
exactly_same Is Was found same e = record { sorted = e.sorted; exact = λ o. ((λ c. (same o).0 ((e.exact o).0 c)), (λ is. (e.exact o).1 ((same o).1 is))) }

-- of what an offset means
same_mention : (m n : MentionOf) → ◌≡◌ {A = Option MentionOf} (Some m) (Some n) → m ≡ n
same_mention m n e = cc

pub at_mention : (documents : List Doc) (ds : List DefinitionOf) (key : List ℕ) (offset : ℕ) (m : MentionOf) (Is : MentionOf → Occurrence → Type 0) (found : List Occurrence) → Some m ≡ asked documents ds key offset → AreExactly (Is m) found → AreExactly (λ o. AtMention documents ds key offset (λ n. Is n o)) found
at_mention documents ds key offset m Is found here e =
    exactly_same (λ o. AtMention documents ds key offset (λ n. Is n o)) (Is m) found
    (λ o. (
      (λ is. record { mention = m; here = sym here; holds = is }),
      (λ w. subst (λ n. Is n o) (same_mention w.mention m (sym w.here ∙ sym here)) w.holds),
    ))
    e

pub at_none : (documents : List Doc) (ds : List DefinitionOf) (key : List ℕ) (offset : ℕ) (Is : MentionOf → Occurrence → Type 0) → None ≡ asked documents ds key offset → AreExactly (λ o. AtMention documents ds key offset (λ n. Is n o)) []
at_none documents ds key offset Is none =
    exactly_none (λ o. AtMention documents ds key offset (λ n. Is n o)) (λ o w. let e : ◌≡◌ {A = Option MentionOf} None (Some w.mention) = none ∙ w.here in absurd (cc))

-- what is wanted
contains_if : (b : Bool) (xs : List Occurrence) (o : Occurrence) → Contains (if_wanted b xs) o ↔ (IsTrue b × Contains xs o)
contains_if true xs o = ((λ c. (refl, c)), (λ p. p.1))
contains_if false xs o = ((λ c. nothing_in o c), (λ p. absurd (let e : false ≡ true = p.0 in cc)))

pub contains_wanted : (a b : Bool) (xs ys all : List Occurrence) (P Q : Occurrence → Type 0) → all ≡ if_wanted a xs ++ if_wanted b ys → ((o : Occurrence) → Contains xs o ↔ P o) → ((o : Occurrence) → Contains ys o ↔ Q o) → (o : Occurrence) → Contains all o ↔ ((IsTrue a × P o) ⊎ (IsTrue b × Q o))
contains_wanted a b xs ys all P Q e p q o =
    let here : Contains all o ↔ ((IsTrue a × P o) ⊎ (IsTrue b × Q o)) = subst (λ l. Contains l o ↔ ((IsTrue a × P o) ⊎ (IsTrue b × Q o))) (sym e) (
      (λ c.
          ⊎_elim
          (λ l. let w = (contains_if a xs o).0 l in inl (w.0, (p o).0 w.1))
          (λ r. let w = (contains_if b ys o).0 r in inr (w.0, (q o).0 w.1))
          (Contains-append_cases (if_wanted a xs) (if_wanted b ys) o c)),
      (λ w.
          ⊎_elim
          (λ l. Contains-append_left (if_wanted a xs) (if_wanted b ys) o ((contains_if a xs o).1 (l.0, (p o).1 l.1)))
          (λ r. Contains-append_right (if_wanted a xs) (if_wanted b ys) o ((contains_if b ys o).1 (r.0, (q o).1 r.1)))
          w),
    ) in
    here

pub same_members : (xs : List Occurrence) (o : Occurrence) → Contains xs o ↔ Contains xs o
same_members xs o = ((λ c. c), (λ c. c))

-- what is in order and stands for places that are exactly those
pub exactly_of : (Is : Occurrence → Type 0) (places found : List Occurrence) → IsStrictlySortedBy occurrence_cmp found → ((o : Occurrence) → Contains found o ↔ Contains places o) → ((o : Occurrence) → Contains places o ↔ Is o) → AreExactly Is found
exactly_of Is places found sorted same are = record { sorted = sorted; exact = λ o. ((λ c. (are o).0 ((same o).0 c)), (λ is. (same o).1 ((are o).1 is))) }

-- the wanted places of a fragment
abbrev IsWantedOf : List DefinitionOf → Bool → Bool → Text → ℕ → MentionKind → Occurrence → Type 0
IsWantedOf ds a b text n k o = (IsTrue a × IsUse ds k text n o) ⊎ (IsTrue b × IsDeclaration ds k text n o)

pub fragment_wanted : (ds : List DefinitionOf) (a b : Bool) (m : MentionOf) (all : List Occurrence) → m.kind ≡ kind.Fragment → all ≡ if_wanted a (fragment_spreads ds m.name.text) ++ if_wanted b (fragment_definitions ds m.name.text) → (o : Occurrence) → Contains all o ↔ IsWanted ds a b m o
fragment_wanted ds a b m all is e o =
    subst (λ (k : MentionKind). Contains all o ↔ IsWantedOf ds a b m.name.text m.definition k o) (sym is)
    (contains_wanted a b (fragment_spreads ds m.name.text) (fragment_definitions ds m.name.text) all (λ o. Contains (fragment_spreads ds m.name.text) o) (λ o. Contains (fragment_definitions ds m.name.text) o) e (same_members (fragment_spreads ds m.name.text)) (same_members (fragment_definitions ds m.name.text)) o)

pub less_or_not : (a b : ℕ) → (a < b) ⊎ (b ≤ a)
less_or_not a b = by (nat_lt a b) refl
  where
    by : (t : Bool) → nat_lt a b ≡ t → (a < b) ⊎ (b ≤ a)
    by true e = inl (grind (arith, nat_tests))
    by false e = inr (grind (arith, nat_tests))

-- those of a variable, whose group has these numbers
members_or_past : (names : Def Span → List (NameOf Span)) (ds : List DefinitionOf) (text : Text) (n : ℕ) (numbers : List ℕ) → (n < length ds → (k : ℕ) → Contains numbers k ↔ VariableGroup ds text n k) → (length ds ≤ n → numbers ≡ []) → (o : Occurrence) → Contains (places_among names ds text numbers) o ↔ StandsInGroup names ds text n o
members_or_past names ds text n numbers members past o = ⊎_elim
    (λ less. in_group names ds text n numbers (members less) o)
    (λ more. in_past names ds text n numbers more (past more) o)
    (less_or_not n (length ds))

-- what is wanted of some lists together is what is wanted of each
abbrev both_if : Bool → Bool → (f g : ℕ → List Occurrence) → ℕ → List Occurrence
both_if a b f g k = if_wanted a (f k) ++ if_wanted b (g k)

both_wanted : (a b : Bool) (f g : ℕ → List Occurrence) (k : ℕ) (o : Occurrence) → Contains (both_if a b f g k) o ↔ ((IsTrue a × Contains (f k) o) ⊎ (IsTrue b × Contains (g k) o))
both_wanted a b f g k o = contains_wanted a b (f k) (g k) (both_if a b f g k) (λ x. Contains (f k) x) (λ x. Contains (g k) x) refl (same_members (f k)) (same_members (g k)) o

gathered_wanted : (a b : Bool) (f g : ℕ → List Occurrence) (numbers : List ℕ) (o : Occurrence) →
    Contains (flat_map (both_if a b f g) numbers) o ↔ ((IsTrue a × Contains (flat_map f numbers) o) ⊎ (IsTrue b × Contains (flat_map g numbers) o))
gathered_wanted a b f g numbers o = (
  (λ c.
      let w = from_flat (both_if a b f g) numbers o c in
      ⊎_elim (λ l. inl (l.0, to_flat f numbers w.0 o w.1 l.1)) (λ r. inr (r.0, to_flat g numbers w.0 o w.1 r.1)) ((both_wanted a b f g w.0 o).0 w.2)),
  (λ s.
      ⊎_elim
      (λ l. let w = from_flat f numbers o l.1 in to_flat (both_if a b f g) numbers w.0 o w.1 ((both_wanted a b f g w.0 o).1 (inl (l.0, w.2))))
      (λ r. let w = from_flat g numbers o r.1 in to_flat (both_if a b f g) numbers w.0 o w.1 ((both_wanted a b f g w.0 o).1 (inr (r.0, w.2))))
      s),
)

pub variable_wanted : (ds : List DefinitionOf) (a b : Bool) (m : MentionOf) (numbers : List ℕ) (all : List Occurrence) → m.kind ≡ kind.Variable → (m.definition < length ds → (k : ℕ) → Contains numbers k ↔ VariableGroup ds m.name.text m.definition k) → (length ds ≤ m.definition → numbers ≡ []) →
    all ≡ wanted_among ds m.name.text a b numbers → (o : Occurrence) → Contains all o ↔ IsWanted ds a b m o
variable_wanted ds a b m numbers all is members past e o =
    let both = gathered_wanted a b (places_at used_variables ds m.name.text) (places_at defined_variables ds m.name.text) numbers o in
    let uses = members_or_past used_variables ds m.name.text m.definition numbers members past o in
    let declarations = members_or_past defined_variables ds m.name.text m.definition numbers members past o in
    subst (λ (k : MentionKind). Contains all o ↔ IsWantedOf ds a b m.name.text m.definition k o) (sym is)
    (subst (λ (l : List Occurrence). Contains l o ↔ IsWantedOf ds a b m.name.text m.definition kind.Variable o) (sym e) (
      (λ c. ⊎_elim (λ l. inl (l.0, uses.0 l.1)) (λ r. inr (r.0, declarations.0 r.1)) (both.0 c)),
      (λ w. both.1 (⊎_elim (λ l. inl (l.0, uses.1 l.1)) (λ r. inr (r.0, declarations.1 r.1)) w)),
    ))

-- what is told of a variable whose group has these numbers
pub variable_is_told : (ds : List DefinitionOf) (text : Text) (n : ℕ) (numbers : List ℕ) (told : Option Text) → IsStrictlyIncreasing numbers → (n < length ds → (k : ℕ) → Contains numbers k ↔ VariableGroup ds text n k) → (length ds ≤ n → numbers ≡ []) →
    told ≡ option_map (λ v. variable_words text v.type_ref) (first_of (variable_at ds text) numbers) → IsVariableTold ds text n told
variable_is_told ds text n numbers told increasing members past e = record {
  first = first_of (variable_at ds text) numbers;
  is_first = ⊎_elim (λ less. first_in_group ds text n numbers increasing (members less)) (λ more. first_past ds text n numbers more (past more)) (less_or_not n (length ds));
  are_words = e;
}
