-- A text is spelled as a Name exactly where it is the token of one.
use Rattle.std.proofs.Common.{◌≡◌, ℕ, List, [], ◌∷◌, Bool, true, false, refl, sym, ap, ◌∙◌}
use Rattle.std.specs.Prelude.{◌&&◌, not, codes, IsTrue, ◌↔◌}
use Rattle.std.specs.List.{list_all}
use Rattle.std.specs.Str.{bytes_eq}
use Rattle.std.proofs.lemmas.Slice.Eq.{bytes_eq-Decides}
use Rattle.gq_lex.specs.declared.token.Kind.TheVariants as kind
use Rattle.gq_lex.specs.Bytes.{Passes, is_name_start, is_name_continue}
use Rattle.gq_lex.specs.Tokens.{IsToken, name}
use Rattle.gq_renamed.specs.Names.{IsNameText, IsFragmentNameText}
use Rattle.gq_renamed.specs.Helping.Spelling.{is_name_spelled}
use Rattle.gq_renamed.proofs.Retelling.{spelled}

all_pass : (p : ℕ → Bool) (bs : List ℕ) → list_all p bs ≡ true → Passes p bs
all_pass p [] h = tt
all_pass p (b ∷ bs) h = let both = and_true (p b) (list_all p bs) h in (both.0, all_pass p bs both.1)
  where
    and_true : (a c : Bool) → (a && c) ≡ true → (a ≡ true) × (c ≡ true)
    and_true true c h = (refl, h)
    and_true false c h = absurd (cc)

pass_all : (p : ℕ → Bool) (bs : List ℕ) → Passes p bs → list_all p bs ≡ true
pass_all p [] h = refl
pass_all p (b ∷ bs) h = ap (λ a. a && list_all p bs) h.0 ∙ pass_all p bs h.1

is_name : (bs : List ℕ) → is_name_spelled bs ≡ true → IsToken kind.Name bs []
is_name [] h = absurd (cc)
is_name (b ∷ bs) h = by_test (is_name_start b) (list_all is_name_continue bs) refl refl h
  where
    by_test : (s a : Bool) → is_name_start b ≡ s → list_all is_name_continue bs ≡ a → (s && a) ≡ true → IsToken kind.Name (b ∷ bs) []
    by_test true true s a h = name s (all_pass is_name_continue bs a) tt
    by_test true false s a h = absurd (cc)
    by_test false a s e h = absurd (cc)

name_is : (bs : List ℕ) → IsToken kind.Name bs [] → is_name_spelled bs ≡ true
name_is bs h =
    let w = spelled h refl in
    ap is_name_spelled w.is ∙ ap (λ a. a && list_all is_name_continue w.others) w.starts ∙ pass_all is_name_continue w.others w.continues

-- the tests, and what they tell
pub spelled_as_name : (bs : List ℕ) → IsTrue (is_name_spelled bs) ↔ IsNameText bs
spelled_as_name bs = (is_name bs, name_is bs)

pub spelled_is_name : (bs : List ℕ) → IsTrue (is_name_spelled bs && not (bytes_eq bs (codes "on"))) ↔ IsFragmentNameText bs
spelled_is_name bs = (there (is_name_spelled bs) (bytes_eq bs (codes "on")) refl refl, λ h. back (is_name_spelled bs) (bytes_eq bs (codes "on")) refl refl h)
  where
    there : (s o : Bool) → is_name_spelled bs ≡ s → bytes_eq bs (codes "on") ≡ o → IsTrue (s && not o) → IsFragmentNameText bs
    there true true s o h = absurd (cc)
    there true false s o h = record { is_name = is_name bs s; not_on = λ e. let t = (bytes_eq-Decides bs (codes "on")).1 e in let f : true ≡ false = sym t ∙ o in cc }
    there false o s e h = absurd (cc)

    back : (s o : Bool) → is_name_spelled bs ≡ s → bytes_eq bs (codes "on") ≡ o → IsFragmentNameText bs → IsTrue (s && not o)
    back true false s o h = refl
    back true true s o h = absurd (h.not_on ((bytes_eq-Decides bs (codes "on")).0 o))
    back false o s e h = absurd (let t = name_is bs h.is_name in let f : true ≡ false = sym t ∙ s in cc)
