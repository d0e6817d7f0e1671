use Rattle.std.proofs.Common.{◌≡◌, ℕ, List, Ok, Err, IfOk, IfErr, subst, sym, ap, ◌∙◌, drop, arith, length, ◌<◌, length-drop}
use Rattle.gq_lex.specs.Helping.Reading.{piece_at, Found, IsFaulty}
use Rattle.gq_lex.specs.Scanning.{ScanResult}
use Rattle.gq_lex.proofs.Pieces.{Answers, answers}
use Rattle.gq_lex.proofs.lexer.front.Goals as goal

if_ok : (bs : List ℕ) (r : ScanResult) → Answers bs r → IfOk r (Found bs)
if_ok bs (Ok x) a = a
if_ok bs (Err e) a = tt

if_err : (bs : List ℕ) (r : ScanResult) → Answers bs r → IfErr r (IsFaulty bs)
if_err bs (Ok x) a = tt
if_err bs (Err e) a = a

-- what was computed of the bytes holds of the text behind the place
answered : (text bytes rest : List ℕ) (at : ℕ) (r : ScanResult) → at < length text → bytes ≡ text → rest ≡ drop at bytes → r ≡ piece_at rest → Answers (drop at text) r
answered text bytes rest at r within same behind is =
    subst (Answers (drop at text)) (sym (is ∙ ap piece_at (behind ∙ ap (drop at) same))) (answers (drop at text) (omega (arith, length-drop at text)))

pub returns-clause-found : goal.returns-clause-found
returns-clause-found c =
    if_ok _ _ (answered c.args.text.now _ _ c.args.at _ c.requires c.as_bytes.ensures.value c.split_at.ensures.back c.piece.ensures)

pub returns-clause-faulty : goal.returns-clause-faulty
returns-clause-faulty c =
    if_err _ _ (answered c.args.text.now _ _ c.args.at _ c.requires c.as_bytes.ensures.value c.split_at.ensures.back c.piece.ensures)
