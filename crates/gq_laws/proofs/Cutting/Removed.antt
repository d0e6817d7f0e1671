-- The law of texts without the braces of an inline fragment.
use Rattle.std.proofs.Common.{◌≡◌, ℕ, ◌+◌, ◌≤◌, List, [], ◌∷◌, ◌++◌, length, Bool, cond, ap, subst, ◌∙◌, arith, append_assoc, length-append}
use Rattle.gq_text.specs.declared.place.Span.{Span}
use Rattle.gq_lex.specs.Tokens.{Lexeme, Reads}
use Rattle.gq_tree.specs.Plain.{Def}
use Rattle.gq_parse.specs.Derives.{Derives}
use Rattle.gq_parse.specs.Grammar.{Tokens}
use Rattle.gq_parse.specs.Limits.{opens, closes, opened, closed, IsNestedWithin}
use Rattle.gq_laws.proofs.Rewriting.InPlace.{trees_are_in_place}
use Rattle.gq_laws.specs.Cutting.Removed.{RemovedTextsRead, ReadsWithoutBraces}
use Rattle.gq_laws.proofs.Cutting.Likeness.{alike_length, alike_nested, opened_append, closed_append}
use Rattle.gq_laws.proofs.Cutting.Opened.{Opened, opened_document}
use Rattle.gq_laws.proofs.Cutting.Opening.{reads_again, nested_without}

opens_one : (t : Lexeme) (b : Bool) → opens t.kind ≡ b → opened (t ∷ []) ≡ cond b 1 0
opens_one t b e = let one : opened (t ∷ []) ≡ cond (opens t.kind) 1 0 = omega arith in one ∙ ap (λ (c : Bool). cond {A = ℕ} c 1 0) e

closes_one : (t : Lexeme) (b : Bool) → closes t.kind ≡ b → closed (t ∷ []) ≡ cond b 1 0
closes_one t b e = let one : closed (t ∷ []) ≡ cond (closes t.kind) 1 0 = omega arith in one ∙ ap (λ (c : Bool). cond {A = ℕ} c 1 0) e

module _ (text : List ℕ) (document : List (Def Span)) (place braces : Span) (d : Derives text document) (o : Opened document d.tokens place braces) where
  cut_open : d.tokens ≡ o.front ++ (o.first.0 ∷ (o.first.1 ++ (o.brace ∷ (o.inner ++ (o.closing ∷ o.behind)))))
  cut_open =
      o.cut
      ∙ ap (λ (l : Tokens). o.front ++ ((l ++ o.brace ∷ []) ++ (o.inner ++ (o.closing ∷ o.behind)))) o.first.2
      ∙ ap (λ (l : Tokens). o.front ++ (o.first.0 ∷ l)) (append_assoc o.first.1 (o.brace ∷ []) (o.inner ++ (o.closing ∷ o.behind)))

  read : Reads text (o.front ++ (o.first.0 ∷ (o.first.1 ++ (o.brace ∷ (o.inner ++ (o.closing ∷ o.behind))))))
  read = subst (Reads text) cut_open d.reads

  nested : IsNestedWithin 100 (o.front ++ (o.inner ++ o.behind))
  nested =
      let brace_opens = opens_one o.brace _ (ap opens o.opens.0) in
      let brace_stays = closes_one o.brace _ (ap closes o.opens.0) in
      let one : opened (o.signs ++ o.brace ∷ []) ≡ 1 = omega (arith, opened_append o.signs (o.brace ∷ []), o.flat.0, brace_opens) in
      let none : closed (o.signs ++ o.brace ∷ []) ≡ 0 = omega (arith, closed_append o.signs (o.brace ∷ []), o.flat.1, brace_stays) in
      nested_without 100 o.front (o.signs ++ o.brace ∷ []) o.inner o.behind o.closing one none (closes_one o.closing _ (ap closes o.closes.0)) (opens_one o.closing _ (ap opens o.closes.0))
      (subst (IsNestedWithin 100) o.cut d.nested)

  fewer : length (o.front ++ (o.inner ++ o.behind)) ≤ length d.tokens
  fewer =
      omega (
        arith,
        ap length cut_open,
        length-append o.front (o.inner ++ o.behind),
        length-append o.inner o.behind,
        length-append o.front (o.first.0 ∷ (o.first.1 ++ (o.brace ∷ (o.inner ++ (o.closing ∷ o.behind))))),
        length-append o.first.1 (o.brace ∷ (o.inner ++ (o.closing ∷ o.behind))),
        length-append o.inner (o.closing ∷ o.behind),
      )

  pub opened_reads : ReadsWithoutBraces text document place braces
  opened_reads =
      let like = reads_again text place braces o.front o.first.1 o.inner o.behind o.first.0 o.brace o.closing read o.first.4 o.opens.0 o.opens.1 o.closes.0 o.closes.1 o.closes.2 0 in
      let tree = o.again like.others like.alike in
      record {
        tree = tree.0;
        derives = record {
          tokens = like.others;
          reads = like.reads;
          few = omega (arith, alike_length (o.front ++ (o.inner ++ o.behind)) like.others like.alike, fewer, d.few);
          nested = alike_nested 100 (o.front ++ (o.inner ++ o.behind)) like.others like.alike nested;
          derived = tree.1;
        };
        rewritten = tree.2;
      }

-- the braces of each inline fragment without directives can go
pub removed_texts_read : RemovedTextsRead
removed_texts_read text document on braces place d standing = opened_reads text document place braces d (opened_document d.derived (trees_are_in_place text document d) standing)
