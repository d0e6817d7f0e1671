-- A text that needs no escape stands between its quotes as it is.
use Rattle.std.proofs.Common.{◌≡◌, Bool, true, List, [], ◌∷◌, ◌++◌, length, ap, sym, ◌∙◌, subst, codes}
use Rattle.std.specs.Bool.{OnTrue}
use Rattle.json.specs.Print.{escape, quoted}
use Rattle.json.specs.Written.{PlainBetween}
use Rattle.json.proofs.Printed.Plain.{escape_on_plain}
use Rattle.gq_meaning.specs.Values.{Text}

pub plain_quoted : (b : Bool) (bytes content : Text) → bytes ≡ content → OnTrue b (PlainBetween bytes 0 (length bytes)) → b ≡ true → codes "\"" ++ (content ++ codes "\"") ≡ quoted content
plain_quoted b bytes content q h e =
    let same : escape bytes ≡ bytes = subst (λ z. OnTrue z (escape bytes ≡ bytes)) e (escape_on_plain b bytes h) in
    ap (λ (z : Text). 34 ∷ (z ++ 34 ∷ [])) (sym q ∙ sym same ∙ ap escape q)
