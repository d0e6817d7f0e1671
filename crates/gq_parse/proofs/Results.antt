-- What a last call answers, said of another phrase.
use Rattle.std.proofs.Common.{◌≢◌, ℕ, List, Option, Some, None, Result, IfOk, IfErr, IfNone}
use Rattle.std.proofs.lemmas.Result.{IfOk-weaker, IfErr-weaker}
use Rattle.gq_lex.specs.declared.token.Token.{Token}
use Rattle.gq_parse.specs.declared.phrases.Miss.{Miss}
use Rattle.gq_parse.specs.declared.phrases.Miss.TheVariants.{NoMemory}
use Rattle.gq_parse.specs.Grammar.{Tokens}
use Rattle.gq_parse.specs.Helping.From.{from}

pub found_weaker : {T A : Type 0} (r : Result (T × ℕ) Miss) (view : T → A) (X Y : A → Tokens → Tokens → Type 0) (here there : Tokens) (tokens : List Token) → ((x : A) (rest : Tokens) → X x here rest → Y x there rest) →
    IfOk r (λ x. X (view x.0) here (from tokens x.1)) → IfOk r (λ x. Y (view x.0) there (from tokens x.1))
found_weaker {T} r view X Y here there tokens turn h =
    let P : T × ℕ → Type 0 = λ x. X (view x.0) here (from tokens x.1) in
    let Q : T × ℕ → Type 0 = λ x. Y (view x.0) there (from tokens x.1) in
    IfOk-weaker r P Q (λ x. turn (view x.0) (from tokens x.1)) h

pub none_weaker : {T : Type 0} (r : Result T Miss) (P Q : Type 0) → (P → Q) → IfErr r (λ miss. miss ≢ NoMemory → P) → IfErr r (λ miss. miss ≢ NoMemory → Q)
none_weaker r P Q turn h =
    let M : Miss → Type 0 = λ miss. miss ≢ NoMemory → P in
    let N : Miss → Type 0 = λ miss. miss ≢ NoMemory → Q in
    IfErr-weaker r M N (λ miss none e. turn (none e)) h

-- what holds whatever an option is
pub none_of : {X P : Type 0} (o : Option X) → P → IfNone o P
none_of None h = h
none_of (Some x) h = tt
