-- What a word names, computed, is what has that word.
use Rattle.std.proofs.Common.{◌≡◌, ℕ, Bool, true, false, if◌then◌else◌, List, refl, ap, sym, ◌∙◌, Option, Some, None}
use Rattle.std.specs.Str.{bytes_eq}
use Rattle.std.proofs.lemmas.Slice.Eq.{bytes_eq-Decides}
use Rattle.gq_tree.specs.declared.type_system.DirectiveLocation.{DirectiveLocation}
use Rattle.gq_tree.specs.declared.type_system.DirectiveLocation.TheVariants as location
use Rattle.gq_parse.specs.declared.type_definitions.TypeKind.{TypeKind}
use Rattle.gq_parse.specs.declared.type_definitions.TypeKind.TheVariants as of
use Rattle.gq_parse.specs.TypeSystem.{location_word}
use Rattle.gq_parse.specs.Helping.Locations.{executable_location, type_system_location, or_else, location_named}
use Rattle.gq_parse.specs.Helping.Parts.{kind_word, kind_named}

-- x's word, or one of the others
or_other : {K : Type 0} (word_of : K → List ℕ) (word : List ℕ) (x k : K) (others : Option K) → (others ≡ Some k → word ≡ word_of k) → (if bytes_eq word (word_of x) then Some x else others) ≡ Some k → word ≡ word_of k
or_other {K} word_of word x k others next e = by (bytes_eq word (word_of x)) refl
  where
    by : (b : Bool) → bytes_eq word (word_of x) ≡ b → word ≡ word_of k
    by true t =
        let s : Some x ≡ Some k = sym (ap (λ (c : Bool). if c then Some x else others) t) ∙ e in
        let i : x ≡ k = cc in
        (bytes_eq-Decides word (word_of x)).0 t ∙ ap word_of i
    by false f = next (sym (ap (λ (c : Bool). if c then Some x else others) f) ∙ e)

no_other : {K : Type 0} (word_of : K → List ℕ) (word : List ℕ) (k : K) → None ≡ Some k → word ≡ word_of k
no_other word_of word k e = absurd (cc)

pub word_of_kind : (word : List ℕ) (k : TypeKind) → kind_named word ≡ Some k → word ≡ kind_word k
word_of_kind word k e =
    or_other kind_word word of.Scalar k _ (or_other kind_word word of.Object k _ (or_other kind_word word of.Interface k _ (or_other kind_word word of.Union k _ (or_other kind_word word of.Enum k _ (or_other kind_word word of.InputObject k _ (no_other kind_word word k)))))) e

pub kind_is : (k : TypeKind) → kind_named (kind_word k) ≡ Some k
kind_is of.Scalar = refl
kind_is of.Object = refl
kind_is of.Interface = refl
kind_is of.Union = refl
kind_is of.Enum = refl
kind_is of.InputObject = refl

word_of_executable : (word : List ℕ) (l : DirectiveLocation) → executable_location word ≡ Some l → word ≡ location_word l
word_of_executable word l e =
    or_other location_word word location.Query l _ (or_other location_word word location.Mutation l _ (or_other location_word word location.Subscription l _ (or_other location_word word location.Field l _ (or_other location_word word location.FragmentDefinition l _ (or_other location_word word location.FragmentSpread l _ (or_other location_word word location.InlineFragment l _ (or_other location_word word location.VariableDefinition l _ (no_other location_word word l)))))))) e

word_of_type_system : (word : List ℕ) (l : DirectiveLocation) → type_system_location word ≡ Some l → word ≡ location_word l
word_of_type_system word l e =
    or_other location_word word location.Schema l _ (or_other location_word word location.Scalar l _ (or_other location_word word location.Object l _ (or_other location_word word location.FieldDefinition l _ (or_other location_word word location.ArgumentDefinition l _ (or_other location_word word location.Interface l _ (or_other location_word word location.Union l _ (or_other location_word word location.Enum l _ (or_other location_word word location.EnumValue l _ (or_other location_word word location.InputObject l _ (or_other location_word word location.InputFieldDefinition l _ (no_other location_word word l))))))))))) e

pub word_of_location : (word : List ℕ) (l : DirectiveLocation) → location_named word ≡ Some l → word ≡ location_word l
word_of_location word l e = by (executable_location word) refl
  where
    by : (o : Option DirectiveLocation) → executable_location word ≡ o → word ≡ location_word l
    by (Some m) h = word_of_executable word l (h ∙ (sym (ap (λ (p : Option DirectiveLocation). or_else p (type_system_location word)) h) ∙ e))
    by None h = word_of_type_system word l (sym (ap (λ (p : Option DirectiveLocation). or_else p (type_system_location word)) h) ∙ e)
