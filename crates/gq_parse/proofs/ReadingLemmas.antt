-- One more document, and its reading.
use Rattle.std.proofs.Common.{◌≡◌, ◌+◌, ℕ, List, [], ◌∷◌, ◌++◌, take, subst, sym}
use Rattle.gq_project.specs.declared.document.Doc.{Doc}
use Rattle.gq_tree.specs.Readings.{ParsedOf}
use Rattle.gq_parse.specs.Parsed.{IsParsed, AreParsed, none, more}

pub put_behind : (documents : List Doc) (readings : List ParsedOf) (document : Doc) (one : ParsedOf) →
    AreParsed documents readings → IsParsed document.text one → AreParsed (documents ++ document ∷ []) (readings ++ one ∷ [])
put_behind [] [] document one none is = more is none
put_behind [] (r ∷ rs) document one before is = elim before [ ]
put_behind (d ∷ ds) [] document one before is = elim before [ ]
put_behind (d ∷ ds) (r ∷ rs) document one (more here rest) is = more here (put_behind ds rs document one rest is)

pub one_more : (documents : List Doc) (readings : List ParsedOf) (i : ℕ) (document : Doc) (one : ParsedOf) →
    take (i + 1) documents ≡ take i documents ++ document ∷ [] →
    AreParsed (take i documents) readings → IsParsed document.text one → AreParsed (take (i + 1) documents) (readings ++ one ∷ [])
one_more documents readings i document one longer before is =
    subst (λ ds. AreParsed ds (readings ++ one ∷ [])) (sym longer) (put_behind (take i documents) readings document one before is)

-- the readings of two parts, one behind the other
pub both_read : (documents front back : List Doc) (a b : List ParsedOf) → documents ≡ front ++ back →
    AreParsed front a → AreParsed back b → AreParsed documents (a ++ b)
both_read documents front back a b is f g = subst (λ ds. AreParsed ds (a ++ b)) (sym is) (behind front a f)
  where
    behind : (ds : List Doc) (rs : List ParsedOf) → AreParsed ds rs → AreParsed (ds ++ back) (rs ++ b)
    behind [] [] none = g
    behind [] (r ∷ rs) before = elim before [ ]
    behind (d ∷ ds) [] before = elim before [ ]
    behind (d ∷ ds) (r ∷ rs) (more here rest) = more here (behind ds rs rest)
