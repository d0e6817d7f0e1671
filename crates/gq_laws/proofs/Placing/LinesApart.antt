-- Texts whose lines are exchanged.
use Rattle.std.proofs.Common.{◌≡◌, ℕ, ◌+◌, List, [], ◌∷◌, ◌++◌, length, map, Bool, true, false, refl, sym, ap, subst, ◌∙◌, arith, length-append}
use Rattle.std.proofs.lemmas.List.{append_assoc, map-append}
use Rattle.std.proofs.lemmas.Bool.Decides.{nat_tests}
use Rattle.gq_lex.specs.declared.token.Kind.{Kind}
use Rattle.gq_lex.specs.Bytes.{Stops, is_line_terminator, is_comment_byte, is_name_continue}
use Rattle.gq_lex.specs.Numbers.{is_number_continue}
use Rattle.gq_lex.specs.Strings.{is_quote}
use Rattle.gq_lex.specs.Tokens.{IsIgnored, unicode_bom, white_space, line_terminator, comment, comma, Lexeme, lexeme_at, ReadsTo, Reads, here, ignored, token}
use Rattle.gq_lex.specs.Tokens.{IsToken, sign, spread, name, int, float, empty_string, string, block_string}
use Rattle.gq_lex.proofs.Readings.{left_over, one_reading}
use Rattle.gq_laws.specs.Placing.Tokens.{spelling_of, BeginsLine, LinesReadApart, ReadAlike}

-- no name, number, quotation mark or comment goes on over the end of a line
line_ends_comment : (b : ℕ) → is_line_terminator b ≡ true → is_comment_byte b ≡ false
line_ends_comment b h = grind (arith, nat_tests)

line_ends_name : (b : ℕ) → is_line_terminator b ≡ true → is_name_continue b ≡ false
line_ends_name b h = grind (arith, nat_tests)

line_ends_number : (b : ℕ) → is_line_terminator b ≡ true → is_number_continue b ≡ false
line_ends_number b h = grind (arith, nat_tests)

line_is_no_quote : (b : ℕ) → is_line_terminator b ≡ true → is_quote b ≡ false
line_is_no_quote b h = grind (arith, nat_tests)

stops_before : (p : ℕ → Bool) → ((b : ℕ) → is_line_terminator b ≡ true → p b ≡ false) → (after more : List ℕ) → BeginsLine more → Stops p after → Stops p (after ++ more)
stops_before p no_line [] [] line stops = tt
stops_before p no_line [] (b ∷ more) line stops = no_line b line
stops_before p no_line (b ∷ after) more line stops = stops

-- what is read of a text is read also where lines follow the text
ignored_before : {part after : List ℕ} (more : List ℕ) → BeginsLine more → IsIgnored part after → IsIgnored part (after ++ more)
ignored_before more line unicode_bom = unicode_bom
ignored_before more line (white_space h) = white_space h
ignored_before more line (line_terminator h) = line_terminator h
ignored_before {after = after} more line (comment h stops) = comment h (stops_before is_comment_byte line_ends_comment after more line stops)
ignored_before more line comma = comma

token_before : {kind : Kind} {part after : List ℕ} (more : List ℕ) → BeginsLine more → IsToken kind part after → IsToken kind part (after ++ more)
token_before more line (sign h) = sign h
token_before more line spread = spread
token_before {after = after} more line (name h k stops) = name h k (stops_before is_name_continue line_ends_name after more line stops)
token_before {after = after} more line (int h stops) = int h (stops_before is_number_continue line_ends_number after more line stops)
token_before {after = after} more line (float h stops) = float h (stops_before is_number_continue line_ends_number after more line stops)
token_before {after = after} more line (empty_string stops) = empty_string (stops_before is_quote line_is_no_quote after more line stops)
token_before more line (string body value is some characters) = string body value is some characters
token_before more line (block_string h) = block_string h

pub reads_before : {at : ℕ} {text rest : List ℕ} {tokens : List Lexeme} (more : List ℕ) → BeginsLine more → ReadsTo at text tokens rest → ReadsTo at (text ++ more) tokens (rest ++ more)
reads_before more line here = here
reads_before more line (ignored part after is h others) =
    ignored part (after ++ more) (ap (λ l. l ++ more) is ∙ append_assoc part after more) (ignored_before more line h) (reads_before more line others)
reads_before more line (token kind part after is h others) =
    token kind part (after ++ more) (ap (λ l. l ++ more) is ∙ append_assoc part after more) (token_before more line h) (reads_before more line others)

-- a reading up to a rest, and a reading of the rest from its place on, make a whole one
pub reads_joined : {at : ℕ} {text rest : List ℕ} {tokens others : List Lexeme} (place : ℕ) →
    place + length rest ≡ at + length text → ReadsTo at text tokens rest → ReadsTo place rest others [] → ReadsTo at text (tokens ++ others) []
reads_joined {at} {text} {others = others} place placed here whole =
    let same : place ≡ at = omega arith in
    let P : ℕ → Type 0 = λ n. ReadsTo n text others [] in
    subst P same whole
reads_joined place placed (ignored part after is h more) whole =
    ignored part after is h (reads_joined place (omega (arith, ap length is, length-append part after)) more whole)
reads_joined place placed (token kind part after is h more) whole =
    token kind part after is h (reads_joined place (omega (arith, ap length is, length-append part after)) more whole)

-- a text reads as the same tokens from any place on
pub reads_elsewhere : {at : ℕ} {text rest : List ℕ} {tokens : List Lexeme} (place : ℕ) → ReadsTo at text tokens rest →
    (others : List Lexeme) × ReadsTo place text others rest × (map spelling_of tokens ≡ map spelling_of others)
reads_elsewhere place here = ([], here, refl)
reads_elsewhere place (ignored part after is h more) =
    let moved = reads_elsewhere (place + length part) more in
    (moved.0, ignored part after is h moved.1, moved.2)
reads_elsewhere {at} place (token kind part after is h more) =
    let moved = reads_elsewhere (place + length part) more in
    (lexeme_at place kind part ∷ moved.0, token kind part after is h moved.1, ap (λ l. spelling_of (lexeme_at at kind part) ∷ l) moved.2)

-- the same spellings on both sides of a joint
alike_joined : (a b c d : List Lexeme) → map spelling_of a ≡ map spelling_of c → map spelling_of b ≡ map spelling_of d → map spelling_of (a ++ b) ≡ map spelling_of (c ++ d)
alike_joined a b c d first second =
    map-append spelling_of a b ∙ ap (λ l. l ++ map spelling_of b) first ∙ ap (λ l. map spelling_of c ++ l) second ∙ sym (map-append spelling_of c d)

-- the first lines are exchanged for lines with the same tokens
first_lines : (old new back : List ℕ) (tokens : List Lexeme) → BeginsLine back → ReadAlike old new → Reads (old ++ back) tokens → ReadAlike (old ++ back) (new ++ back)
first_lines old new back tokens line alike whole =
    let at_back = left_over tokens (length old) (omega (arith, length-append old back)) (reads_before back line alike.reads) whole in
    let behind = reads_elsewhere (length new) at_back.2 in
    record {
      tokens = tokens;
      reads = whole;
      others = alike.others ++ behind.0;
      reads_others = reads_joined (length new) (omega (arith, length-append new back)) (reads_before back line alike.reads_others) behind.1;
      same = ap (map spelling_of) at_back.1 ∙ alike_joined alike.tokens at_back.0 alike.others behind.0 alike.same behind.2;
    }

-- what stands before them stays
behind_front : (front rest other : List ℕ) (before tokens : List Lexeme) → BeginsLine rest → BeginsLine other → Reads front before →
    ((behind : List Lexeme) → Reads rest behind → ReadAlike rest other) → Reads (front ++ rest) tokens → ReadAlike (front ++ rest) (front ++ other)
behind_front front rest other before tokens line other_line front_reads alike whole =
    let at_rest = left_over tokens (length front) (omega (arith, length-append front rest)) (reads_before rest line front_reads) whole in
    let alone = reads_elsewhere 0 at_rest.2 in
    let exchanged = alike alone.0 alone.1 in
    let placed = reads_elsewhere (length front) exchanged.reads_others in
    let one : alone.0 ≡ exchanged.tokens = one_reading rest alone.0 exchanged.tokens alone.1 exchanged.reads in
    let spelled : map spelling_of at_rest.0 ≡ map spelling_of placed.0 = alone.2 ∙ ap (map spelling_of) one ∙ exchanged.same ∙ placed.2 in
    record {
      tokens = tokens;
      reads = whole;
      others = before ++ placed.0;
      reads_others = reads_joined (length front) (omega (arith, length-append front other)) (reads_before other other_line front_reads) placed.1;
      same = ap (map spelling_of) at_rest.1 ∙ alike_joined before at_rest.0 before placed.0 refl spelled;
    }

-- lines that are exchanged for lines with the same tokens leave the tokens of the text
pub lines_read_apart : LinesReadApart
lines_read_apart [] old new back before tokens old_line new_line back_line front_reads alike whole = first_lines old new back tokens back_line alike whole
lines_read_apart (b ∷ front) old new back before tokens old_line new_line back_line front_reads alike whole =
    behind_front (b ∷ front) (old ++ back) (new ++ back) before tokens old_line new_line front_reads (λ behind reads. first_lines old new back behind back_line alike reads) whole
