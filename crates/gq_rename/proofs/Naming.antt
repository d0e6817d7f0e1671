-- The first refusal of a new name, by what was tested.
use Rattle.std.proofs.Common.{◌≡◌, ℕ, Bool, true, false, List, [], ◌∷◌, length, Option, refl, sym, subst, ◌∙◌, arith}
use Rattle.std.specs.Prelude.{not, nat_eq}
use Rattle.std.specs.Str.{bytes_eq}
use Rattle.std.proofs.lemmas.Bool.Decides.{nat_tests}
use Rattle.std.proofs.lemmas.Slice.Eq.{bytes_eq-Decides}
use Rattle.gq_index.specs.Occurrences.{DefinitionOf}
use Rattle.gq_mentions.specs.declared.target.TargetKind.{TargetKind}
use Rattle.gq_rename.specs.declared.refusal.Refusal.{Refusal}
use Rattle.gq_rename.specs.Asks.{MayBeCalled, IsTaken}
use Rattle.gq_rename.specs.Helping.NameRefusals.{IsNameRefusal, first_refusal}

pub first_is : (ds : List DefinitionOf) (of : TargetKind) (old : List ℕ) (definition : ℕ) (new : List ℕ) (may same taken : Bool) →
    (may ≡ true → MayBeCalled of new) → (MayBeCalled of new → may ≡ true) → (same ≡ true → old ≡ new) → (same ≡ false → old ≡ new → ⊥) →
    (taken ≡ true → IsTaken ds of old definition new) → (taken ≡ false → IsTaken ds of old definition new → ⊥) →
    IsNameRefusal ds of old definition new (first_refusal may same taken)
first_is ds of old definition new false same taken m n s d t f = λ named. let e = n named in cc
first_is ds of old definition new true true taken m n s d t f = (m refl, s refl)
first_is ds of old definition new true false true m n s d t f = (m refl, d refl, t refl)
first_is ds of old definition new true false false m n s d t f = (m refl, d refl, f refl)

pub by_test : (ds : List DefinitionOf) (of : TargetKind) (old : List ℕ) (definition : ℕ) (new : List ℕ) (may same taken : Bool) (told : Option Refusal) → told ≡ first_refusal may same taken →
    (may ≡ true → MayBeCalled of new) → (MayBeCalled of new → may ≡ true) → (same ≡ true → old ≡ new) → (same ≡ false → old ≡ new → ⊥) →
    (taken ≡ true → IsTaken ds of old definition new) → (taken ≡ false → IsTaken ds of old definition new → ⊥) →
    IsNameRefusal ds of old definition new told
by_test ds of old definition new may same taken told is m n s d t f =
    let N : Option Refusal → Type 0 = λ o. IsNameRefusal ds of old definition new o in
    subst N (sym is) (first_is ds of old definition new may same taken m n s d t f)

-- the same where it was tested whether nothing is taken
pub first_of : (ds : List DefinitionOf) (of : TargetKind) (old : List ℕ) (definition : ℕ) (new : List ℕ) (may same free : Bool) (told : Option Refusal) → told ≡ first_refusal may same (not free) →
    (may ≡ true → MayBeCalled of new) → (MayBeCalled of new → may ≡ true) → (same ≡ true → old ≡ new) → (same ≡ false → old ≡ new → ⊥) →
    (free ≡ false → IsTaken ds of old definition new) → (free ≡ true → IsTaken ds of old definition new → ⊥) →
    IsNameRefusal ds of old definition new told
first_of ds of old definition new may same true told is m n s d t f = by_test ds of old definition new may same false told is m n s d (λ e. absurd (cc)) (λ e. f refl)
first_of ds of old definition new may same false told is m n s d t f = by_test ds of old definition new may same true told is m n s d (λ e. t refl) (λ e. absurd (cc))

pub same_texts : (a b : List ℕ) (t : Bool) → t ≡ bytes_eq a b → t ≡ true → a ≡ b
same_texts a b t is e = (bytes_eq-Decides a b).0 (sym is ∙ e)

pub other_texts : (a b : List ℕ) (t : Bool) → t ≡ bytes_eq a b → t ≡ false → a ≡ b → ⊥
other_texts a b t is e same = let x : true ≡ false = sym ((bytes_eq-Decides a b).1 same) ∙ sym is ∙ e in cc

pub is_empty_list : {X : Type 0} (xs : List X) (t : Bool) → t ≡ nat_eq (length xs) 0 → t ≡ true → xs ≡ []
is_empty_list [] t is e = refl
is_empty_list (x ∷ xs) t is e = let f : nat_eq (length (x ∷ xs)) 0 ≡ false = grind (arith, nat_tests) in (let g : true ≡ false = sym e ∙ is ∙ f in cc)

pub is_some_list : {X : Type 0} (xs : List X) (t : Bool) → t ≡ nat_eq (length xs) 0 → t ≡ false → xs ≡ [] → ⊥
is_some_list [] t is e none = (let g : true ≡ false = sym is ∙ e in cc)
is_some_list (x ∷ xs) t is e none = cc
