-- A text has at most one fault: two readings of its front go together as far as the shorter one goes.
use Rattle.std.proofs.Common.{◌≡◌, ℕ, ◌+◌, List, [], ◌∷◌, ◌++◌, length, refl, sym, ap, subst, ◌∙◌, arith, length-append}
use Rattle.std.proofs.lemmas.List.{nil_from_length}
use Rattle.gq_lex.specs.declared.token.BadKind.{BadKind}
use Rattle.gq_lex.specs.declared.token.LexFault.{LexFault}
use Rattle.gq_lex.specs.declared.token.LexFault.TheVariants.{Bad, Limit, NoMemory}
use Rattle.gq_lex.specs.Faults.{IsFault}
use Rattle.gq_lex.specs.Helping.Reading.{piece_at}
use Rattle.gq_lex.specs.Tokens.{IsBadAt, IsLimitAt, Lexeme, lexeme_at, ReadsTo, here, ignored, token, IsStuck, BeginsToken, fault_kind}
use Rattle.gq_lex.proofs.Pieces.{ignored_is, token_is}
use Rattle.gq_lex.proofs.Readings.{pair_inj, same_part, same_after}

-- one of two readings goes on as the other does
data Compared (first second : List Lexeme) (rest other : List ℕ) : Type 0 where
  ahead : (place : ℕ) (more : List Lexeme) → second ≡ first ++ more → ReadsTo place rest more other → Compared first second rest other
  behind : (place : ℕ) (more : List Lexeme) → first ≡ second ++ more → ReadsTo place other more rest → Compared first second rest other

-- both go on from the same token
both_on : {first second : List Lexeme} {rest other : List ℕ} (a b : Lexeme) → a ≡ b → Compared first second rest other → Compared (a ∷ first) (b ∷ second) rest other
both_on {first} a b same (ahead place more is reads) = ahead place more (ap (λ l. b ∷ l) is ∙ ap (λ t. t ∷ (first ++ more)) (sym same)) reads
both_on {second = second} a b same (behind place more is reads) = behind place more (ap (λ l. a ∷ l) is ∙ ap (λ t. t ∷ (second ++ more)) same) reads

compare : {at : ℕ} {text copy rest other : List ℕ} {first second : List Lexeme} → text ≡ copy → ReadsTo at text first rest → ReadsTo at copy second other → Compared first second rest other
compare {at} {other = other} {second = second} same here reads =
    let P : List ℕ → Type 0 = λ l. ReadsTo at l second other in
    ahead at second refl (subst P (sym same) reads)
compare {at} {rest = rest} {first = first} same (ignored part after is h more) here =
    let P : List ℕ → Type 0 = λ l. ReadsTo at l first rest in
    behind at first refl (subst P same (ignored part after is h more))
compare {at} {rest = rest} {first = first} same (token kind part after is h more) here =
    let P : List ℕ → Type 0 = λ l. ReadsTo at l first rest in
    behind at first refl (subst P same (token kind part after is h more))
compare {at} {other = other} {second = second} same (ignored part after is h more) (ignored part2 after2 is2 h2 more2) =
    let e = pair_inj (sym (ignored_is h) ∙ ap piece_at (sym is ∙ same ∙ is2) ∙ ignored_is h2) in
    let P : ℕ → Type 0 = λ n. ReadsTo (at + n) after2 second other in
    compare (same_after _ part after part2 after2 is (same ∙ is2) e.1) more (subst P (sym e.1) more2)
compare same (ignored part after is h more) (token kind part2 after2 is2 h2 more2) =
    absurd (let e = pair_inj (sym (ignored_is h) ∙ ap piece_at (sym is ∙ same ∙ is2) ∙ token_is h2) in cc)
compare same (token kind part after is h more) (ignored part2 after2 is2 h2 more2) =
    absurd (let e = pair_inj (sym (token_is h) ∙ ap piece_at (sym is ∙ same ∙ is2) ∙ ignored_is h2) in cc)
compare {at} {other = other} same (token {tokens = tokens} kind part after is h more) (token {tokens = tokens2} kind2 part2 after2 is2 h2 more2) =
    let e = pair_inj (sym (token_is h) ∙ ap piece_at (sym is ∙ same ∙ is2) ∙ token_is h2) in
    let k : kind ≡ kind2 = cc in
    let p = same_part _ part after part2 after2 is (same ∙ is2) e.1 in
    let P : ℕ → Type 0 = λ n. ReadsTo (at + n) after2 tokens2 other in
    both_on (lexeme_at at kind part) (lexeme_at at kind2 part2) (ap (λ x. lexeme_at at x part) k ∙ ap (lexeme_at at kind2) p)
    (compare (same_after _ part after part2 after2 is (same ∙ is2) e.1) more (subst P (sym e.1) more2))

-- nothing is read at a stuck rest
stuck_stays : {place : ℕ} {text rest : List ℕ} {more : List Lexeme} → IsStuck text → ReadsTo place text more rest → text ≡ rest
stuck_stays stuck here = refl
stuck_stays stuck (ignored part after is h more) = absurd (stuck.no_ignored (part, after, is, h))
stuck_stays stuck (token kind part after is h more) = absurd (stuck.no_token (kind, part, after, is, h))

-- where a token begins, only a token is read
token_stays : {place : ℕ} {text rest : List ℕ} {more : List Lexeme} → BeginsToken text → more ≡ [] → ReadsTo place text more rest → text ≡ rest
token_stays begins none here = refl
token_stays begins none (ignored part after is h more) =
    absurd (let e = pair_inj (sym (token_is begins.4) ∙ ap piece_at (sym begins.3 ∙ is) ∙ ignored_is h) in cc)
token_stays begins none (token kind part after is h more) = absurd (cc)

-- what is left where two readings of a text have their faults
bad_rests : (text : List ℕ) (p q : ℕ) (j k : BadKind) (a : IsBadAt text p j) (b : IsBadAt text q k) → a.rest ≡ b.rest
bad_rests text p q j k a b = by_order (compare refl a.before b.before)
  where
    by_order : Compared a.tokens b.tokens a.rest b.rest → a.rest ≡ b.rest
    by_order (ahead place more is reads) = stuck_stays a.stuck reads
    by_order (behind place more is reads) = sym (stuck_stays b.stuck reads)

limit_rests : (text : List ℕ) (p q : ℕ) (a : IsLimitAt text p) (b : IsLimitAt text q) → a.rest ≡ b.rest
limit_rests text p q a b = by_order (compare refl a.before b.before)
  where
    by_order : Compared a.tokens b.tokens a.rest b.rest → a.rest ≡ b.rest
    by_order (ahead place more is reads) = token_stays a.next (nil_from_length more (omega (arith, a.many, b.many, ap length is, length-append a.tokens more))) reads
    by_order (behind place more is reads) = sym (token_stays b.next (nil_from_length more (omega (arith, a.many, b.many, ap length is, length-append b.tokens more))) reads)

bad_or_limit : (text : List ℕ) (p q : ℕ) (k : BadKind) → IsBadAt text p k → IsLimitAt text q → ⊥
bad_or_limit text p q k a b = by_order (compare refl a.before b.before)
  where
    apart : a.rest ≡ b.rest → ⊥
    apart same = a.stuck.no_token (subst BeginsToken (sym same) b.next)

    by_order : Compared a.tokens b.tokens a.rest b.rest → ⊥
    by_order (ahead place more is reads) = apart (stuck_stays a.stuck reads)
    by_order (behind place more is reads) = apart (sym (token_stays b.next (nil_from_length more (omega (arith, a.few, b.many, ap length is, length-append b.tokens more))) reads))

same_bad : (text : List ℕ) (p q : ℕ) (j k : BadKind) → IsBadAt text p j → IsBadAt text q k → Bad p j ≡ Bad q k
same_bad text p q j k a b =
    let rests = bad_rests text p q j k a b in
    let places : p ≡ q = omega (arith, a.at, b.at, ap length rests) in
    let kinds : j ≡ k = a.kind_is ∙ ap fault_kind rests ∙ sym b.kind_is in
    ap (λ n. Bad n j) places ∙ ap (Bad q) kinds

same_limit : (text : List ℕ) (p q : ℕ) → IsLimitAt text p → IsLimitAt text q → Limit p ≡ Limit q
same_limit text p q a b =
    let places : p ≡ q = omega (arith, a.at, b.at, ap length (limit_rests text p q a b)) in
    ap Limit places

-- a text has at most one fault
pub one_fault : (text : List ℕ) (a b : LexFault) → IsFault text a → IsFault text b → a ≡ b
one_fault text (Bad p j) (Bad q k) a b = same_bad text p q j k a b
one_fault text (Bad p j) (Limit q) a b = absurd (bad_or_limit text p q j a b)
one_fault text (Bad p j) NoMemory a b = absurd b
one_fault text (Limit p) (Bad q k) a b = absurd (bad_or_limit text q p k b a)
one_fault text (Limit p) (Limit q) a b = same_limit text p q a b
one_fault text (Limit p) NoMemory a b = absurd b
one_fault text NoMemory b h k = absurd h
