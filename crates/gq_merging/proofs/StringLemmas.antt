-- A string has one value at most, and no text is both a string and a block string.
use Rattle.std.proofs.Common.{◌≡◌, ◌↔◌, ℕ, Bool, true, false, IsTrue, List, [], ◌∷◌, ◌++◌, Option, Some, None, is_some, IfNone, sym, ◌∙◌, ap, subst}
use Rattle.gq_types.specs.Entries.{Text}
use Rattle.gq_lex.specs.declared.token.Kind.TheVariants.{String, BlockString}
use Rattle.gq_lex.specs.Tokens.{IsToken}
use Rattle.gq_lex.specs.Strings.{is_quote, AreCharacters, none, more}
use Rattle.gq_lex.specs.Values.{IsStringValue, IsBlockStringValue}
use Rattle.gq_lex.proofs.Characters.{character_first}
use Rattle.gq_lex.proofs.Valued.{string_token, block_token, one_string, one_block}
use Rattle.gq_merging.specs.SameArguments.{StandsFor, as_string, as_block_string, AreSameStrings, one_spelling, one_value}

-- no characters of a string begin with a quotation mark
no_quote : {body value : List ℕ} → AreCharacters body value → (rest : List ℕ) → body ≡ 34 ∷ rest → ⊥
no_quote none rest e = absurd (cc)
no_quote (more part after one others is c cs v) rest e =
    let f = character_first c in
    let front : f.first ∷ (f.others ++ after) ≡ 34 ∷ rest = sym (is ∙ ap (λ l. l ++ after) f.is) ∙ e in
    let first : f.first ≡ 34 = cc in
    true_false (ap is_quote (sym first)) f.no_quote
  where
    true_false : {b : Bool} → true ≡ b → b ≡ false → ⊥
    true_false t f = cc

not_both : (text a b : Text) → IsStringValue text a → IsBlockStringValue text b → ⊥
not_both text a b h k = by h.body h.characters (sym h.is ∙ k.is)
  where
    by : (body : List ℕ) → AreCharacters body a → 34 ∷ (body ++ 34 ∷ []) ≡ 34 ∷ 34 ∷ 34 ∷ k.body → ⊥
    by [] c e = absurd (cc)
    by (n ∷ ns) c e = let first : n ≡ 34 = cc in no_quote c ns (ap (λ m. m ∷ ns) first)

pub one_standing : (text a b : Text) → StandsFor text a → StandsFor text b → a ≡ b
one_standing text a b (as_string h) (as_string k) = one_string text a b h k
one_standing text a b (as_string h) (as_block_string k) = absurd (not_both text a b h k)
one_standing text a b (as_block_string h) (as_string k) = absurd (not_both text b a k h)
one_standing text a b (as_block_string h) (as_block_string k) = one_block text a b h k

-- where no value was found there is none
stands_for_none : (text value : Text) → ((after : Text) → IsToken String text after → ⊥) → ((after : Text) → IsToken BlockString text after → ⊥) → StandsFor text value → ⊥
stands_for_none text value no_string no_block (as_string h) = no_string [] (string_token h)
stands_for_none text value no_string no_block (as_block_string h) = no_block [] (block_token (record { body = h.body; is = h.is; characters = h.characters }))

pub strings_valued : (a b v w : Text) (same : Bool) → StandsFor a v → StandsFor b w → (IsTrue same ↔ (v ≡ w)) → IsTrue same ↔ AreSameStrings a b
strings_valued a b v w same h k are = ((λ t. one_value v h (subst (StandsFor b) (sym (are.0 t)) k)), (λ s. are.1 (by s)))
  where
    by : AreSameStrings a b → v ≡ w
    by (one_spelling e) = one_standing b v w (subst (λ s. StandsFor s v) e h) k
    by (one_value u i j) = one_standing a v u h i ∙ one_standing b u w j k

strings_apart : (a b : Text) → (a ≡ b → ⊥) → ((v : Text) → StandsFor a v → StandsFor b v → ⊥) → IsTrue false ↔ AreSameStrings a b
strings_apart a b spelled valued = ((λ t. absurd (cc)), (λ s. absurd (by s)))
  where
    by : AreSameStrings a b → ⊥
    by (one_spelling e) = spelled e
    by (one_value v h k) = valued v h k

pub nothing_stands : {A B : Type 0} (text : Text) (plain : Option A) (block : Option B) → is_some plain ≡ false → IfNone plain ((after : Text) → IsToken String text after → ⊥) →
    IfNone block ((after : Text) → IsToken BlockString text after → ⊥) → IfNone block ((value : Text) → StandsFor text value → ⊥)
nothing_stands text (Some v) block e h k = absurd (cc)
nothing_stands text None (Some w) e h k = tt
nothing_stands text None None e h k = λ value s. stands_for_none text value h k s

pub apart_left : (a b : Text) (o : Option Text) → (a ≡ b → ⊥) → o ≡ None → IfNone o ((v : Text) → StandsFor a v → ⊥) → IsTrue false ↔ AreSameStrings a b
apart_left a b o spelled e h = strings_apart a b spelled (λ v i k. subst (λ p. IfNone p ((v : Text) → StandsFor a v → ⊥)) e h v i)

pub apart_right : (a b : Text) (o : Option Text) → (a ≡ b → ⊥) → o ≡ None → IfNone o ((v : Text) → StandsFor b v → ⊥) → IsTrue false ↔ AreSameStrings a b
apart_right a b o spelled e h = strings_apart a b spelled (λ v i k. subst (λ p. IfNone p ((v : Text) → StandsFor b v → ⊥)) e h v k)
