-- Moves by the kind or the word of a token, where no case fits.
use Rattle.std.proofs.Common.{◌≡◌, ◌≢◌, Bool, refl}
use Rattle.gq_lex.specs.declared.token.Kind.{Kind}
use Rattle.gq_lex.specs.declared.token.Kind.TheVariants as kind
use Rattle.gq_parse.specs.declared.expected.Word.{Word}
use Rattle.gq_parse.specs.declared.expected.Word.TheVariants as word
use Rattle.gq_parse.specs.declared.expected.Row.TheVariants.{Fields}
use Rattle.gq_parse.specs.declared.expected.Symbol.TheVariants.{MoreValues, MoreSelections, OptionalRow}
use Rattle.gq_parse.specs.declared.expected.Move.TheVariants.{Stops}
use Rattle.gq_parse.specs.Helping.Expected.{behind, value_move, values_move, selection_move, selections_move, row_move, parts_move, type_parts_move, described_move, definition_word_move}

pub values_else : (constant : Bool) (k : Kind) → k ≢ kind.BracketClose → behind (value_move constant k) (MoreValues constant) ≡ values_move constant k
values_else constant kind.BracketClose n = absurd (n refl)
values_else constant _ n = refl

pub selections_else : (k : Kind) → k ≢ kind.BraceClose → behind (selection_move k) MoreSelections ≡ selections_move k
selections_else kind.BraceClose n = absurd (n refl)
selections_else _ n = refl

pub type_parts_else : (k : Kind) (w : Word) → k ≢ kind.Name → parts_move k (OptionalRow Fields) (row_move Fields k Stops) ≡ type_parts_move k w
type_parts_else kind.Name w n = absurd (n refl)
type_parts_else _ w n = refl

pub definition_else : (w : Word) → w ≢ word.Query → w ≢ word.Mutation → w ≢ word.Subscription → w ≢ word.Fragment → w ≢ word.Extend → described_move w ≡ definition_word_move w
definition_else word.Query q m s f e = absurd (q refl)
definition_else word.Mutation q m s f e = absurd (m refl)
definition_else word.Subscription q m s f e = absurd (s refl)
definition_else word.Fragment q m s f e = absurd (f refl)
definition_else word.Extend q m s f e = absurd (e refl)
definition_else _ q m s f e = refl
