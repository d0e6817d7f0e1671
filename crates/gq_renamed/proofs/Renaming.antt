-- The text in which names are replaced has the tree with those names changed.
use Rattle.std.proofs.Common.{◌≡◌, ℕ, suc, ◌+◌, ◌≤◌, ◌^◌, List, [], ◌∷◌, ◌++◌, length, take, Bool, true, false, refl, sym, ap, subst, ◌∙◌, append-nil, map, arith}
use Rattle.std.specs.Prelude.{if◌then◌else◌, count_by}
use Rattle.std.proofs.lemmas.List.{take-map}
use Rattle.std.proofs.lemmas.List.Sums.{sum_by-cons}
use Rattle.gq_text.specs.declared.place.Span.{Span}
use Rattle.gq_text.specs.declared.replacement.Replacement.{Replacement}
use Rattle.gq_text.specs.Replaced.{replaced}
use Rattle.gq_lex.specs.declared.token.Kind.{Kind}
use Rattle.gq_lex.specs.Tokens.{Lexeme, Reads}
use Rattle.gq_lex.proofs.Standing.{tokens_cut_no_character}
use Rattle.gq_tree.specs.Plain.{NameOf}
use Rattle.gq_parse.specs.Grammar.{Tokens}
use Rattle.gq_parse.specs.Documents.{IsDocument}
use Rattle.gq_parse.specs.Limits.{opens, closes, opened, closed, IsNestedWithin}
use Rattle.gq_parse.specs.Derives.{Derives}
use Rattle.gq_edit.specs.Replacements.{AreDisjoint, FitText}
use Rattle.gq_renamed.specs.Changed.{replacements_of}
use Rattle.gq_renamed.specs.Rewritten.{rename_replacements, RenamedTextsRead}
use Rattle.gq_renamed.proofs.Retelling.{edits_in_order, edits_fit, Marked, tokens_of, Retold, edits, on_mark, Rereads, replaced_reads}
use Rattle.gq_renamed.proofs.Regrammar.{marked_names, name_in}
use Rattle.gq_renamed.proofs.DocumentAgain.{document_again}

kinds_kept : (new : List ℕ) (ms : List Marked) (us : Tokens) → Retold new ms us → map (λ (t : Lexeme). t.kind) us ≡ map (λ (t : Lexeme). t.kind) (tokens_of ms)
kinds_kept new [] [] h = refl
kinds_kept new [] (u ∷ us) h = absurd h
kinds_kept new (m ∷ ms) [] h = absurd h
kinds_kept new (m ∷ ms) (u ∷ us) h = ap (λ (k : Kind). k ∷ map (λ (t : Lexeme). t.kind) us) h.0 ∙ ap (λ (l : List Kind). m.token.kind ∷ l) (kinds_kept new ms us h.2)

length_kept : (new : List ℕ) (ms : List Marked) (us : Tokens) → Retold new ms us → length us ≡ length (tokens_of ms)
length_kept new [] [] h = refl
length_kept new [] (u ∷ us) h = absurd h
length_kept new (m ∷ ms) [] h = absurd h
length_kept new (m ∷ ms) (u ∷ us) h = ap suc (length_kept new ms us h.2)

count_kinds : (p : Kind → Bool) (ts : Tokens) → count_by (λ (t : Lexeme). p t.kind) ts ≡ count_by p (map (λ (t : Lexeme). t.kind) ts)
count_kinds p [] = refl
count_kinds p (t ∷ ts) =
    sum_by-cons (λ (t : Lexeme). if p t.kind then 1 else 0) t ts
    ∙ ap (λ n. (if p t.kind then 1 else 0) + n) (count_kinds p ts)
    ∙ sym (sum_by-cons (λ (k : Kind). if p k then 1 else 0) t.kind (map (λ (t : Lexeme). t.kind) ts))

count_kept : (p : Kind → Bool) (new : List ℕ) (ms : List Marked) (us : Tokens) (n : ℕ) → Retold new ms us → count_by (λ (t : Lexeme). p t.kind) (take n us) ≡ count_by (λ (t : Lexeme). p t.kind) (take n (tokens_of ms))
count_kept p new ms us n h =
    count_kinds p (take n us)
    ∙ ap (count_by p) (sym (take-map (λ (t : Lexeme). t.kind) n us) ∙ ap (take n) (kinds_kept new ms us h) ∙ take-map (λ (t : Lexeme). t.kind) n (tokens_of ms))
    ∙ sym (count_kinds p (take n (tokens_of ms)))

nested_kept : (most : ℕ) (new : List ℕ) (ms : List Marked) (us : Tokens) → Retold new ms us → IsNestedWithin most (tokens_of ms) → IsNestedWithin most us
nested_kept most new ms us h nested n =
    let before = nested n in
    let a : opened (take n us) ≡ opened (take n (tokens_of ms)) = count_kept opens new ms us n h in
    let b : closed (take n us) ≡ closed (take n (tokens_of ms)) = count_kept closes new ms us n h in
    omega arith

-- the replacements of the marked tokens, from their names
edits_are : (new : List ℕ) (ms : List Marked) → edits new ms ≡ replacements_of new (marked_names ms)
edits_are new [] = refl
edits_are new (m ∷ ms) = by_mark m.marked m.token (edits new ms) (marked_names ms) (edits_are new ms)
  where
    by_mark : (b : Bool) (t : Lexeme) (rs : List Replacement) (ns : List (NameOf Span)) → rs ≡ replacements_of new ns → on_mark b (record { span = t.span; text = new }) rs ≡ replacements_of new (if b then name_in t ∷ ns else ns)
    by_mark true t rs ns e = ap (λ (l : List Replacement). let r : Replacement = record { span = t.span; text = new } in r ∷ l) e
    by_mark false t rs ns e = e

-- the law
pub renamed_texts_read : RenamedTextsRead
renamed_texts_read rule k new text document derives text_is may =
    let w = document_again {new = new} rule k may derives.derived in
    let list : derives.tokens ≡ tokens_of w.front = w.split ∙ append-nil (tokens_of w.front) in
    let reads : Reads text (tokens_of w.front) = subst (Reads text) list derives.reads in
    let rs_is : edits new w.front ≡ rename_replacements rule k new document = edits_are new w.front ∙ ap (replacements_of new) w.named in
    let r : Rereads new w.front 0 (replaced (edits new w.front) text) = replaced_reads new w.front text text_is w.marks reads in
    let t = w.again r.tokens [] r.retold tt refl in
    let whole : r.tokens ++ [] ≡ r.tokens = append-nil r.tokens in
    let few : length r.tokens ≤ 2 ^ 20 = omega (arith, length_kept new w.front r.tokens r.retold, ap length list, derives.few) in
    let there : Derives (replaced (edits new w.front) text) t.0 = record {
      tokens = r.tokens;
      reads = r.reads;
      few = few;
      nested = nested_kept 100 new w.front r.tokens r.retold (subst (IsNestedWithin 100) list derives.nested);
      derived = subst (IsDocument t.0) whole t.1;
    } in
    let D : List Replacement → Type 0 = λ rs. Derives (replaced rs text) t.0 in
    record {
      disjoint = subst AreDisjoint rs_is (edits_in_order new w.front reads refl);
      fit = λ utf8. subst (FitText text) rs_is (edits_fit new text w.front (tokens_cut_no_character text (tokens_of w.front) utf8 reads));
      tree = t.0;
      derives = subst D rs_is there;
      renamed = t.2;
    }
