-- The word that a text is, and the text that a word is.
use Rattle.std.proofs.Common.{◌≡◌, ◌≢◌, ℕ, List, [], ◌∷◌, Bool, true, false, refl, ap, sym, subst, ◌∙◌, ◌⊎◌, inl, inr, ⊎_elim, cond}
use Rattle.std.specs.Prelude.{bytes_eq, ◌||◌}
use Rattle.std.proofs.lemmas.Slice.Eq.{bytes_eq-Decides}
use Rattle.gq_tree.specs.declared.type_system.DirectiveLocation.{DirectiveLocation}
use Rattle.gq_tree.specs.declared.type_system.DirectiveLocation.TheVariants as location
use Rattle.gq_parse.specs.Grammar.{IsValueWord}
use Rattle.gq_parse.specs.TypeSystem.{location_word}
use Rattle.gq_parse.specs.Helping.Words.{spelling, keywords, locations, is_location, other_word, word_among, word_of}
use Rattle.gq_parse.specs.declared.expected.Word.{Word}
use Rattle.gq_parse.specs.declared.expected.Word.TheVariants as word

-- a keyword
abbrev pub IsPlain : Word → Type 0
IsPlain word.Location = ⊥
IsPlain word.Other = ⊥
IsPlain _ = Unit {0}

spells_or : (ws : List Word) (text : List ℕ) (w : Word) → word_among ws text ≡ w → (text ≡ spelling w) ⊎ (other_word text ≡ w)
spells_or [] text w e = inr e
spells_or (v ∷ ws) text w e = by_test (bytes_eq text (spelling v)) refl e (spells_or ws text w)
  where
    by_test : (b : Bool) → bytes_eq text (spelling v) ≡ b → cond b v (word_among ws text) ≡ w → (word_among ws text ≡ w → (text ≡ spelling w) ⊎ (other_word text ≡ w)) → (text ≡ spelling w) ⊎ (other_word text ≡ w)
    by_test true f g h = inl ((bytes_eq-Decides text (spelling v)).0 f ∙ ap spelling g)
    by_test false f g h = h g

other_is : (text : List ℕ) → (other_word text ≡ word.Location) ⊎ (other_word text ≡ word.Other)
unfolding other_word
other_is text = by_test (is_location locations text)
  where
    by_test : (b : Bool) → (cond b word.Location word.Other ≡ word.Location) ⊎ (cond b word.Location word.Other ≡ word.Other)
    by_test true = inl refl
    by_test false = inr refl

plain_is : (text : List ℕ) (w : Word) → IsPlain w → (other_word text ≡ w) → ⊥
plain_is text w p e = ⊎_elim (λ h. subst IsPlain (sym e ∙ h) p) (λ h. subst IsPlain (sym e ∙ h) p) (other_is text)

-- the text of a keyword
pub spells : (text : List ℕ) (w : Word) → IsPlain w → word_of text ≡ w → text ≡ spelling w
unfolding word_of
spells text w p e = ⊎_elim (λ h. h) (λ h. absurd (plain_is text w p h)) (spells_or keywords text w e)

-- the keyword of a text
pub keyword_is : (text : List ℕ) (w : Word) → IsPlain w → text ≡ spelling w → word_of text ≡ w
unfolding word_of
keyword_is text w p e = ap word_of e ∙ same w p
  where
    same : (v : Word) → IsPlain v → word_of (spelling v) ≡ v
    same word.Location p = absurd p
    same word.Other p = absurd p
    same _ p = refl

location_among : (ls : List DirectiveLocation) (text : List ℕ) → is_location ls text ≡ true → (l : DirectiveLocation) × (text ≡ location_word l)
location_among [] text e = absurd (cc)
location_among (l ∷ ls) text e = by_test (bytes_eq text (location_word l)) refl e (location_among ls text)
  where
    by_test : (b : Bool) → bytes_eq text (location_word l) ≡ b → b || is_location ls text ≡ true → (is_location ls text ≡ true → (l : DirectiveLocation) × (text ≡ location_word l)) → (l : DirectiveLocation) × (text ≡ location_word l)
    by_test true f g h = (l, (bytes_eq-Decides text (location_word l)).0 f)
    by_test false f g h = h g

-- the text of a location
pub located : (text : List ℕ) → word_of text ≡ word.Location → (l : DirectiveLocation) × (text ≡ location_word l)
unfolding word_of other_word
located text e = ⊎_elim (λ h. absurd (no_text h)) (λ h. location_among locations text (by_test (is_location locations text) h)) (spells_or keywords text word.Location e)
  where
    by_test : (b : Bool) → cond b word.Location word.Other ≡ word.Location → b ≡ true
    by_test true e = refl
    by_test false e = absurd (cc)

    no_text : text ≡ [] → ⊥
    no_text h = let f : word.Other ≡ word.Location = sym (ap word_of h) ∙ e in cc

-- the word of a location
pub location_is : (text : List ℕ) (l : DirectiveLocation) → text ≡ location_word l → word_of text ≡ word.Location
unfolding word_of other_word
location_is text l e = ap word_of e ∙ same l
  where
    same : (l : DirectiveLocation) → word_of (location_word l) ≡ word.Location
    same location.Query = refl
    same _ = refl

-- the words that are values of their own
pub value_word : (text : List ℕ) (w : Word) → word_of text ≡ w → (w ≢ word.True) → (w ≢ word.False) → (w ≢ word.Null) → IsValueWord text → ⊥
value_word text w e a b c (inl h) = a (sym e ∙ keyword_is text word.True tt h)
value_word text w e a b c (inr (inl h)) = b (sym e ∙ keyword_is text word.False tt h)
value_word text w e a b c (inr (inr h)) = c (sym e ∙ keyword_is text word.Null tt h)

pub other_by : (text : List ℕ) (b : Bool) → b ≡ is_location locations text → cond b word.Location word.Other ≡ other_word text
unfolding other_word
other_by text b e = ap (λ (x : Bool). cond x word.Location word.Other) e

-- where no keyword fits
pub no_keyword : (text : List ℕ) → (text ≢ spelling word.Query) → (text ≢ spelling word.Mutation) → (text ≢ spelling word.Subscription) → (text ≢ spelling word.Fragment) → (text ≢ spelling word.On) → (text ≢ spelling word.True) → (text ≢ spelling word.False) → (text ≢ spelling word.Null) → (text ≢ spelling word.Extend) → (text ≢ spelling word.Schema) → (text ≢ spelling word.Scalar) → (text ≢ spelling word.Object) → (text ≢ spelling word.Interface) → (text ≢ spelling word.Union) → (text ≢ spelling word.Enum) → (text ≢ spelling word.Input) → (text ≢ spelling word.Directive) → (text ≢ spelling word.Implements) → (text ≢ spelling word.Repeatable) → (w : Word) → IsPlain w → text ≢ spelling w
no_keyword text q m s f o t u n e c a y i v b p d x r word.Location l = absurd l
no_keyword text q m s f o t u n e c a y i v b p d x r word.Other l = absurd l
no_keyword text q m s f o t u n e c a y i v b p d x r word.Query l = q
no_keyword text q m s f o t u n e c a y i v b p d x r word.Mutation l = m
no_keyword text q m s f o t u n e c a y i v b p d x r word.Subscription l = s
no_keyword text q m s f o t u n e c a y i v b p d x r word.Fragment l = f
no_keyword text q m s f o t u n e c a y i v b p d x r word.On l = o
no_keyword text q m s f o t u n e c a y i v b p d x r word.True l = t
no_keyword text q m s f o t u n e c a y i v b p d x r word.False l = u
no_keyword text q m s f o t u n e c a y i v b p d x r word.Null l = n
no_keyword text q m s f o t u n e c a y i v b p d x r word.Extend l = e
no_keyword text q m s f o t u n e c a y i v b p d x r word.Schema l = c
no_keyword text q m s f o t u n e c a y i v b p d x r word.Scalar l = a
no_keyword text q m s f o t u n e c a y i v b p d x r word.Object l = y
no_keyword text q m s f o t u n e c a y i v b p d x r word.Interface l = i
no_keyword text q m s f o t u n e c a y i v b p d x r word.Union l = v
no_keyword text q m s f o t u n e c a y i v b p d x r word.Enum l = b
no_keyword text q m s f o t u n e c a y i v b p d x r word.Input l = p
no_keyword text q m s f o t u n e c a y i v b p d x r word.Directive l = d
no_keyword text q m s f o t u n e c a y i v b p d x r word.Implements l = x
no_keyword text q m s f o t u n e c a y i v b p d x r word.Repeatable l = r

pub else_other : (text : List ℕ) → ((w : Word) → IsPlain w → text ≢ spelling w) → other_word text ≡ word_of text
unfolding word_of
else_other text n = ⊎_elim (λ h. by_word (word_of text) refl h) (λ h. h) (spells_or keywords text (word_of text) refl)
  where
    empty : text ≡ [] → other_word text ≡ word_of text
    empty h = ap other_word h ∙ sym (ap word_of h)

    by_word : (w : Word) → word_of text ≡ w → text ≡ spelling w → other_word text ≡ word_of text
    by_word word.Location e h = empty h
    by_word word.Other e h = empty h
    by_word w e h = absurd (n w tt h)
