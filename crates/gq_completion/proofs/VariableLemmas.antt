-- The names behind the `$` of a text are those that stand right behind one.
use Rattle.std.proofs.Common.{◌≡◌, ◌≢◌, ◌↔◌, ℕ, Bool, true, false, List, [], ◌∷◌, ◌++◌, Option, Some, None, refl, sym, ap, subst, eqb-true, Contains, ◌⊎◌, inl, inr}
use Rattle.std.specs.Prelude.{◌&&◌, not, nat_eq, if◌then◌else◌}
use Rattle.std.specs.Option.{option_map, option_map_or}
use Rattle.std.proofs.lemmas.Bool.{eq-eqb}
use Rattle.std.proofs.lemmas.List.Elements.{Contains-append_left, Contains-append_right, Contains-append_cases}
use Rattle.gq_lex.specs.declared.token.Kind.{Kind}
use Rattle.gq_lex.specs.declared.token.Kind.TheVariants.{Name, Dollar}
use Rattle.gq_lex.specs.Tokens.{Lexeme}
use Rattle.gq_names.proofs.RepeatLemmas.{contains_none, contains_first, contains_cases}
use Rattle.gq_completion.specs.Tokens.{is_name, token_before, IsOtherVariable}
use Rattle.gq_completion.specs.Helping.Variables.{is_dollar, is_other_dollar, names_behind}

record Pair (place : Option ℕ) (ts : List Lexeme) (label : List ℕ) : Type 0 where
  pub front : List Lexeme
  pub dollar : Lexeme
  pub name : Lexeme
  pub back : List Lexeme
  pub cut : ts ≡ front ++ dollar ∷ name ∷ back
  pub dollar_is : is_other_dollar place dollar ≡ true
  pub name_is : is_name name.kind ≡ true
  pub is : label ≡ name.text

record Front (behind : Bool) (ts : List Lexeme) (label : List ℕ) : Type 0 where
  pub name : Lexeme
  pub back : List Lexeme
  pub cut : ts ≡ name ∷ back
  pub behind_is : behind ≡ true
  pub name_is : is_name name.kind ≡ true
  pub is : label ≡ name.text

and_parts : (a b : Bool) → (a && b) ≡ true → (a ≡ true) × (b ≡ true)
and_parts true b h = (refl, h)
and_parts false b h = absurd (cc)

and_both : (a b : Bool) → a ≡ true → b ≡ true → (a && b) ≡ true
and_both true b h k = k
and_both false b h k = absurd (cc)

from_front : (b : Bool) (t : Lexeme) (ts : List Lexeme) (label : List ℕ) (test : Bool) → (b && is_name t.kind) ≡ test → Contains (if test then t.text ∷ [] else []) label → Front b (t ∷ ts) label
from_front b t ts label true e c =
    let parts = and_parts b (is_name t.kind) e in
    record { name = t; back = ts; cut = refl; behind_is = parts.0; name_is = parts.1; is = elim (contains_cases t.text [] label c) [ inl same ↦ sym same | inr none ↦ absurd (contains_none label none) ] }
from_front b t ts label false e c = absurd (contains_none label c)

from_names : (place : Option ℕ) (b : Bool) (ts : List Lexeme) (label : List ℕ) → Contains (names_behind place b ts) label → Front b ts label ⊎ Pair place ts label
from_names place b [] label c = absurd (contains_none label c)
from_names place b (t ∷ ts) label c = elim (Contains-append_cases (if b && is_name t.kind then t.text ∷ [] else []) (names_behind place (is_other_dollar place t) ts) label c) [
  | inl front ↦ inl (from_front b t ts label (b && is_name t.kind) refl front)
  | inr rest ↦ elim (from_names place (is_other_dollar place t) ts label rest) [
    | inl f ↦ inr (record { front = []; dollar = t; name = f.name; back = f.back; cut = ap (λ xs. t ∷ xs) f.cut; dollar_is = f.behind_is; name_is = f.name_is; is = f.is })
    | inr p ↦ inr (record { front = t ∷ p.front; dollar = p.dollar; name = p.name; back = p.back; cut = ap (λ xs. t ∷ xs) p.cut; dollar_is = p.dollar_is; name_is = p.name_is; is = p.is })
  ]
]

to_names : (place : Option ℕ) (b : Bool) (front : List Lexeme) (dollar name : Lexeme) (back : List Lexeme) (label : List ℕ) →
    is_other_dollar place dollar ≡ true → is_name name.kind ≡ true → label ≡ name.text → Contains (names_behind place b (front ++ dollar ∷ name ∷ back)) label
to_names place b [] dollar name back label d n e =
    Contains-append_right (if b && is_name dollar.kind then dollar.text ∷ [] else []) _ label
    (Contains-append_left _ _ label
    (subst (λ test. Contains (if test then name.text ∷ [] else []) label) (sym (and_both (is_other_dollar place dollar) (is_name name.kind) d n)) (contains_first name.text [] label (sym e))))
to_names place b (t ∷ front) dollar name back label d n e =
    Contains-append_right (if b && is_name t.kind then t.text ∷ [] else []) _ label (to_names place (is_other_dollar place t) front dollar name back label d n e)

dollar_from : (k : Kind) → is_dollar k ≡ true → k ≡ Dollar
dollar_from Dollar h = refl
dollar_from _ h = absurd (cc)

name_from : (k : Kind) → is_name k ≡ true → k ≡ Name
name_from Name h = refl
name_from _ h = absurd (cc)

other_to : (place : Option ℕ) (s : ℕ) → place ≢ Some s → not (option_map_or (nat_eq s) place false) ≡ true
other_to None s h = refl
other_to (Some p) s h = differs (nat_eq s p) refl
  where
    differs : (b : Bool) → nat_eq s p ≡ b → not b ≡ true
    differs true e = absurd (h (ap (λ (x : ℕ). let o : Option ℕ = Some x in o) (sym (eqb-true s p e))))
    differs false e = refl

other_from : (place : Option ℕ) (s : ℕ) → not (option_map_or (nat_eq s) place false) ≡ true → place ≢ Some s
other_from place s h e =
    let same : not (nat_eq s s) ≡ true = subst (λ (o : Option ℕ). not (option_map_or (nat_eq s) o false) ≡ true) e h in
    let false_is : not true ≡ true = subst (λ b. not b ≡ true) (eq-eqb s s refl) same in
    absurd (cc)

pub names_are : (tokens : List Lexeme) (i : ℕ) (place : Option ℕ) (label : List ℕ) → place ≡ option_map (λ t. t.span.start) (token_before tokens i) → Contains (names_behind place false tokens) label ↔ IsOtherVariable tokens i label
names_are tokens i place label e = (
  λ c. elim (from_names place false tokens label c) [
    | inl f ↦ let no : false ≡ true = f.behind_is in absurd (cc)
    | inr p ↦
        let parts = and_parts (is_dollar p.dollar.kind) (not (option_map_or (nat_eq p.dollar.span.start) place false)) p.dollar_is in
        record {
          front = p.front;
          dollar = p.dollar;
          name = p.name;
          back = p.back;
          cut = p.cut;
          is_dollar = dollar_from p.dollar.kind parts.0;
          is_name = name_from p.name.kind p.name_is;
          other = subst (λ o. o ≢ Some p.dollar.span.start) e (other_from place p.dollar.span.start parts.1);
          is = p.is;
        }
  ],
  λ v. subst (λ ts. Contains (names_behind place false ts) label) (sym v.cut)
      (to_names place false v.front v.dollar v.name v.back label
      (and_both (is_dollar v.dollar.kind) (not (option_map_or (nat_eq v.dollar.span.start) place false)) (ap is_dollar v.is_dollar) (other_to place v.dollar.span.start (subst (λ o. o ≢ Some v.dollar.span.start) (sym e) v.other)))
      (ap is_name v.is_name) v.is),
)
