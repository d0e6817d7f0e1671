-- The selections between two braces, put in the place of all from the first token before the braces on, read as they did.
use Rattle.std.proofs.Common.{◌≡◌, ℕ, ◌+◌, ◌-◌, List, [], ◌∷◌, ◌++◌, length, drop, refl, sym, ap, subst, ◌∙◌, arith, append_assoc, length-append}
use Rattle.std.specs.List.{slice_range}
use Rattle.gq_text.specs.declared.place.Span.{Span}
use Rattle.gq_text.specs.Replaced.{replaced}
use Rattle.gq_lex.specs.declared.token.Kind.TheVariants as kind
use Rattle.gq_lex.specs.Tokens.{Lexeme, Reads}
use Rattle.gq_parse.specs.Grammar.{Tokens}
use Rattle.gq_parse.specs.Limits.{opened, closed, IsNestedWithin}
use Rattle.gq_laws.specs.Cutting.Removed as removed
use Rattle.gq_laws.proofs.Cutting.Likeness.{behind_none, none_behind, behind_less, nested_first, nested_second, nested_both}
use Rattle.gq_laws.proofs.Cutting.Reading.{UpTo, up_to, ReadsLike, moved, and_then, like_up_to_space, like_space}
use Rattle.gq_laws.proofs.Cutting.TextRuns.{slice_of, drop_of}
use Rattle.gq_laws.proofs.Cutting.Words.{is_brace, brace_long}

module _ (text : List ℕ) (place braces : Span) (front more inner behind : Tokens) (first brace closing : Lexeme)
    (reads : Reads text (front ++ (first ∷ (more ++ (brace ∷ (inner ++ (closing ∷ behind)))))))
    (begins : first.span.start ≡ place.start)
    (opens_here : brace.kind ≡ kind.BraceOpen) (opens_at : brace.span.start ≡ braces.start)
    (closes_here : closing.kind ≡ kind.BraceClose) (closes_at : closing.span.end ≡ braces.end) (ends : braces.end ≡ place.end) where
  abbrev a : UpTo 0 text front first (more ++ (brace ∷ (inner ++ (closing ∷ behind)))) []
  a = up_to front first (more ++ (brace ∷ (inner ++ (closing ∷ behind)))) reads refl

  abbrev b : UpTo first.span.end a.behind more brace (inner ++ (closing ∷ behind)) []
  b = up_to more brace (inner ++ (closing ∷ behind)) a.second refl

  abbrev c : UpTo brace.span.end b.behind inner closing behind []
  c = up_to inner closing behind b.second refl

  -- the text up to the selections
  abbrev before_inner : List ℕ
  before_inner = a.front ++ (first.text ++ (b.front ++ brace.text))

  abbrev new_text : List ℕ
  new_text = a.front ++ (32 ∷ (c.front ++ (32 ∷ c.behind)))

  reads_anew : ReadsLike new_text (front ++ (inner ++ behind)) []
  reads_anew = and_then (like_up_to_space a (c.front ++ (32 ∷ c.behind))) (like_space (and_then (like_up_to_space c c.behind) (like_space (moved c.second))))

  brace_one : length brace.text ≡ 1
  brace_one = brace_long b.own (ap is_brace opens_here)

  closing_one : length closing.text ≡ 1
  closing_one = brace_long c.own (ap is_brace closes_here)

  text_inner : text ≡ before_inner ++ (c.front ++ (closing.text ++ c.behind))
  text_inner =
      a.cut
      ∙ ap (λ (l : List ℕ). a.front ++ (first.text ++ l)) b.cut
      ∙ ap (λ (l : List ℕ). a.front ++ (first.text ++ (b.front ++ (brace.text ++ l)))) c.cut
      ∙ simp append_assoc

  inner_starts : length before_inner ≡ braces.start + 1
  inner_starts =
      omega (
        arith,
        length-append a.front (first.text ++ (b.front ++ brace.text)),
        length-append first.text (b.front ++ brace.text),
        length-append b.front brace.text,
        a.starts,
        a.ends,
        b.starts,
        opens_at,
        brace_one,
      )

  brace_ends : brace.span.end ≡ braces.start + 1
  brace_ends = omega (arith, b.ends, opens_at, brace_one)

  front_is : slice_range text 0 place.start ≡ a.front
  front_is = slice_of text [] a.front (first.text ++ a.behind) 0 place.start a.cut refl (omega (arith, a.starts, begins))

  inner_is : slice_range text (braces.start + 1) (braces.end - 1) ≡ c.front
  inner_is =
      slice_of text before_inner c.front (closing.text ++ c.behind) (braces.start + 1) (braces.end - 1) text_inner inner_starts
      (omega (arith, brace_ends, c.starts, c.ends, closes_at, closing_one))

  behind_is : drop place.end text ≡ c.behind
  behind_is =
      drop_of text (before_inner ++ (c.front ++ closing.text)) c.behind place.end (text_inner ∙ simp append_assoc)
      (omega (arith, length-append before_inner (c.front ++ closing.text), length-append c.front closing.text, inner_starts, brace_ends, c.starts, c.ends, closes_at, ends))

  text_is : new_text ≡ replaced (removed.opened text place braces ∷ []) text
  text_is =
      ap (λ (l : List ℕ). l ++ (32 ∷ (c.front ++ (32 ∷ c.behind)))) (sym front_is)
      ∙ ap (λ (l : List ℕ). slice_range text 0 place.start ++ (32 ∷ (l ++ (32 ∷ c.behind)))) (sym inner_is)
      ∙ ap (λ (l : List ℕ). slice_range text 0 place.start ++ (32 ∷ (slice_range text (braces.start + 1) (braces.end - 1) ++ (32 ∷ l)))) (sym behind_is)
      ∙ simp append_assoc

  -- the text without the braces reads as the tokens without what stood before the braces and without these
  pub reads_again : ReadsLike (replaced (removed.opened text place braces ∷ []) text) (front ++ (inner ++ behind)) []
  reads_again = subst (λ (l : List ℕ). ReadsLike l (front ++ (inner ++ behind)) []) text_is reads_anew

-- tokens without an opening brace, what comes before it, and its closing brace nest no deeper
pub nested_without : (most : ℕ) (front signs inner behind : Tokens) (closing : Lexeme) → opened signs ≡ 1 → closed signs ≡ 0 → closed (closing ∷ []) ≡ 1 → opened (closing ∷ []) ≡ 0 →
    IsNestedWithin most (front ++ (signs ++ (inner ++ (closing ∷ behind)))) → IsNestedWithin most (front ++ (inner ++ behind))
nested_without most front signs inner behind closing so sc ce co nested =
    let all = behind_none most (front ++ (signs ++ (inner ++ (closing ∷ behind)))) nested in
    let others = nested_second most 0 0 front (signs ++ (inner ++ (closing ∷ behind))) all in
    let within = nested_second most (0 + opened front) (0 + closed front) signs (inner ++ (closing ∷ behind)) others in
    let last = nested_second most (0 + opened front + opened signs) (0 + closed front + closed signs) inner (closing ∷ behind) within in
    let past = nested_second most (0 + opened front + opened signs + opened inner) (0 + closed front + closed signs + closed inner) (closing ∷ []) behind last in
    none_behind most (front ++ (inner ++ behind))
    (nested_both most 0 0 front (inner ++ behind) (nested_first most 0 0 front (signs ++ (inner ++ (closing ∷ behind))) all)
    (nested_both most (0 + opened front) (0 + closed front) inner behind
    (behind_less most (0 + opened front + opened signs) (0 + closed front + closed signs) (0 + opened front) (0 + closed front) inner (omega (arith, so, sc))
    (nested_first most (0 + opened front + opened signs) (0 + closed front + closed signs) inner (closing ∷ behind) within))
    (behind_less most (0 + opened front + opened signs + opened inner + opened (closing ∷ [])) (0 + closed front + closed signs + closed inner + closed (closing ∷ []))
    (0 + opened front + opened inner) (0 + closed front + closed inner) behind (omega (arith, so, sc, ce, co)) past)))
