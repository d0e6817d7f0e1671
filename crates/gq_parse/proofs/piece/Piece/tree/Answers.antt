use Rattle.std.proofs.Common.{ℕ, List, sym, ap, subst}
use Rattle.gq_tree.specs.declared.parsed.Parsed.{Parsed}
use Rattle.gq_tree.specs.Readings.{parsed_view, shared_view}
use Rattle.gq_parse.specs.Parsed.{IsParsed}
use Rattle.gq_parse.specs.Piece.{PieceOf}
use Rattle.gq_parse.proofs.piece.Piece.tree.Goals as goal

pub returns : goal.returns
returns c =
    subst (λ (text : List ℕ). ∥ IsParsed text (shared_view c.in_ok-try_clone.field-0) ∥₁) (ap (λ (p : PieceOf). p.text) c.self.view_is)
    (subst (λ (one : Parsed). ∥ IsParsed c.self.inside.text (parsed_view one) ∥₁) (sym c.in_ok-try_clone.ensures) c.self.invariant)
