-- Equal texts.
use Rattle.std.proofs.Common.{◌≡◌, true, subst}
use Rattle.std.specs.Str.{bytes_eq}
use Rattle.std.specs.Cmp.Lexicographic.{bytes_decides, nat_list_eq_equiv}
use Rattle.gq_meaning.specs.Values.{Text}

pub same_text : (a b : Text) → bytes_eq a b ≡ true → a ≡ b
same_text a b e = (bytes_decides a b).0 e

pub text_itself : (a : Text) → bytes_eq a a ≡ true
text_itself a = nat_list_eq_equiv.refl a

pub text_same : (a b : Text) → a ≡ b → bytes_eq a b ≡ true
text_same a b e = subst (λ z. bytes_eq a z ≡ true) e (text_itself a)
